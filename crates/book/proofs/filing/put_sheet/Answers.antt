-- The history is changed before the row is put.
use Rattle.std.proofs.Common.{◌≡◌, map, get_or, set, None, Ok, Err, Option, sym, ap, ◌∙◌, rules}
use Rattle.std.specs.Option.{option_map}
use borrow.Author.Rules.{get_or_read}
use Rattle.std.proofs.lemmas.Result.{err_from_is_err_and}
use Rattle.std.proofs.lemmas.Bool.{cond-true, cond-false}
use Rattle.sheet.specs.Figures.{Figures, figures_of}
use Rattle.shelf.specs.Packed.{packed_sheet}
use Rattle.shelf.specs.Rows.{sheet_on}
use Rattle.pricing.specs.Changes.{plain, changes_at}
use Rattle.book.specs.Found.{changes_of}
use Rattle.book.specs.Memory.{found}
use Rattle.book.specs.declared.refusal.BookRefusal.TheVariants.{HistoryFull}
use Rattle.book.proofs.Room.{full, granted}
use Rattle.book.proofs.filing.put_sheet.Goals as goal

pub returns-in_err-change_prices-clause-answer : goal.returns-in_err-change_prices-clause-answer
returns-in_err-change_prices-clause-answer g c =
    let v = g.K.PriceHistory.view c.args.history.now in
    let rows = c.args.shelf.now in
    let spot = c.args.spot in
    let new : Option Figures = option_map (λ s. figures_of s.now) c.args.new in
    let old : option_map (λ s. figures_of s.now) c.sheet_on.result ≡ sheet_on (get_or rows spot.number None) = search (rules, get_or_read) in
    let at = changes_at spot.place.zone spot.place.day spot.place.period in
    let same : map plain c.price_changes-changes.result.list ≡ changes_of rows (found spot) new = c.price_changes-changes.ensures ∙ ap (λ o. at o new) old in
    let no_room = full v (g.K.PriceHistory.view c.change_prices.new.history) _ _ same _ c.in_err-change_prices.ensures.answer in
    let p = err_from_is_err_and c.from_residual.result c.from_residual.ensures.1 in
    p.1 ∙ ap (λ e. Err e) p.2 ∙ sym (cond-true _ (Err HistoryFull) (Ok (tt {0})) no_room)

pub returns : goal.returns
returns g c =
    let v = g.K.PriceHistory.view c.args.history.now in
    let rows = c.args.shelf.now in
    let spot = c.args.spot in
    let new : Option Figures = option_map (λ s. figures_of s.now) c.args.new in
    let old : option_map (λ s. figures_of s.now) c.sheet_on.result ≡ sheet_on (get_or rows spot.number None) = search (rules, get_or_read) in
    let at = changes_at spot.place.zone spot.place.day spot.place.period in
    let same : map plain c.price_changes-changes.result.list ≡ changes_of rows (found spot) new = c.price_changes-changes.ensures ∙ ap (λ o. at o new) old in
    let row : c.map.result ≡ option_map packed_sheet new = search rules in
    let r = granted v (g.K.PriceHistory.view c.change_prices.new.history) _ _ same c.in_ok-change_prices.ensures.answer c.change_prices.ensures.after in
    record {
      answer = sym (cond-false _ (Err HistoryFull) (Ok (tt {0})) r.room);
      history = r.changed;
      rows = ap (set rows spot.number) row;
    }
