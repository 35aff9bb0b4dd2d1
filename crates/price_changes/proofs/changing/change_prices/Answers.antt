-- The count that is tested is the one after the change.
use Rattle.std.proofs.Common.{◌<◌, ◌≤◌, map, is_ok, Ok, Err, sym, ap, ◌∙◌, arith}
use Rattle.std.proofs.lemmas.Bool.{cond-true, cond-false, lt-ltb, le-ltb}
use Rattle.price_history.specs.Keys.{span}
use Rattle.price_history.specs.Views.{tallied}
use Rattle.price_history.proofs.Tallies.{tallied_le}
use Rattle.pricing.specs.Changes.{plain}
use Rattle.price_changes.specs.Changed.{changed, changed_view}
use Rattle.price_changes.specs.declared.refusal.ChangeRefusal.TheVariants.{Full}
use Rattle.price_changes.proofs.Apart.{keys_apart}
use Rattle.price_changes.proofs.Counted.{changed_count, cleared_count}
use Rattle.price_changes.proofs.Stepped.{stepped}
use Rattle.price_changes.proofs.changing.change_prices.Goals as goal

pub overflow_sub-count : goal.overflow_sub-count
overflow_sub-count g c =
    let f = (g.K.PriceHistory.view c.args.history.now).shown in
    let list = c.args.changes.now.list in
    omega (arith, cleared_count f (map plain list) (keys_apart list c.args.changes.now.ordered), c.count.ensures, c.count_struck-struck.ensures)

pub overflow_add-count : goal.overflow_add-count
overflow_add-count g c =
    let f = (g.K.PriceHistory.view c.args.history.now).shown in
    let list = c.args.changes.now.list in
    let cs = map plain list in
    omega (arith, changed_count f cs (keys_apart list c.args.changes.now.ordered), tallied_le (changed f cs) span, c.count.ensures, c.count_struck-struck.ensures, c.count_entered-entered.ensures)

pub returns-then-greatest-count : goal.returns-then-greatest-count
returns-then-greatest-count g c =
    let view = g.K.PriceHistory.view c.args.history.now in
    let list = c.args.changes.now.list in
    let cs = map plain list in
    let apart = keys_apart list c.args.changes.now.ordered in
    let over : view.limit < tallied (changed view.shown cs) span = omega (arith, changed_count view.shown cs apart, cleared_count view.shown cs apart, c.greatest.ensures, c.count.ensures, c.count_struck-struck.ensures, c.count_entered-entered.ensures) in
    let full = lt-ltb _ _ over in
    record {
      answer = sym (cond-true _ (Err Full) (Ok tt) full);
      after = sym (cond-false _ (changed_view view cs) view (ap is_ok (cond-true _ (Err Full) (Ok tt) full)));
    }

pub returns : goal.returns
returns g c =
    let view = g.K.PriceHistory.view c.args.history.now in
    let list = c.args.changes.now.list in
    let cs = map plain list in
    let apart = keys_apart list c.args.changes.now.ordered in
    let counted = changed_count view.shown cs apart in
    let fits : tallied (changed view.shown cs) span ≤ view.limit = omega (arith, counted, c.greatest.ensures, c.count.ensures, c.count_struck-struck.ensures, c.count_entered-entered.ensures) in
    let room = le-ltb _ _ fits in
    record {
      answer = sym (cond-false _ (Err Full) (Ok tt) room);
      after = stepped view _ _ cs apart (omega (arith, counted)) c.strike_all.ensures c.enter_all.ensures
          ∙ sym (cond-true _ (changed_view view cs) view (ap is_ok (cond-false _ (Err Full) (Ok tt) room)));
    }
