-- The place, then its decade, then whether a sheet is in force.
use Rattle.std.proofs.Common.{◌≡◌, cond, length, get_or, is_some, is_ok, None, Ok, Err, sym, ap, ◌∙◌, rules}
use borrow.Author.Rules.{get_or_read}
use Rattle.std.proofs.lemmas.Bool.{cond-false}
use Rattle.register.specs.Rolls.{Roll}
use Rattle.shelf.specs.Rows.{sheet_on}
use Rattle.price_changes.specs.Changed.{changed_view, overfull}
use Rattle.book.specs.Found.{spot_checks, changes_of}
use Rattle.book.specs.Memory.{Memory, standing, memory, found, number_in, with_sheet}
use Rattle.book.specs.declared.refusal.BookRefusal.TheVariants.{HistoryFull}
use Rattle.book.proofs.Put.{in_force_at, put_memory}
use Rattle.book.proofs.Struck.{room_to_strike}
use Rattle.book.proofs.Verdicts.{passed_is}
use Rattle.book.proofs.Withdrawn.{granted}
use Rattle.book.proofs.book.Book.withdraw.Goals as goal

pub returns : goal.returns
returns g c =
    let m : Roll → Memory = λ roll. memory c.args.self.now (g.K.PriceHistory.view c.args.history.now) roll c.args.shelf.now in
    let p = c.args.place in
    let b = standing c.args.self.now in
    let rows = c.args.shelf.now in
    let n = number_in b p in
    let spot = c.in_ok-spot.spot in
    let front = spot_checks b (length rows) p in
    let passed = sym c.in_ok-spot.ensures.answer in
    let is : found spot ≡ (p, n) = sym (passed_is front (p, n) (found spot) passed) in
    let in_force = in_force_at b rows p front (found spot) (is_some c.sheet_on.result) passed (search (rules, get_or_read)) in
    let still_open = sym c.if-is_closed.ensures in
    let v = g.K.PriceHistory.view c.args.history.now in
    let place = spot.place in
    let room = room_to_strike v place.zone place.day place.period (sheet_on (get_or rows spot.number None)) (g.K.PriceHistory.within c.args.history.now) in
    let done : c.put_sheet.result ≡ Ok (tt {0}) = c.put_sheet.ensures.answer ∙ cond-false (overfull (changed_view v (changes_of rows (found spot) None))) (Err HistoryFull) (Ok (tt {0})) room in
    let yes = λ (roll : Roll). granted (m roll) p (p, n) (found spot) passed still_open (in_force ∙ c.if-is_none.ensures) in
    record {
      answer = λ roll. done ∙ sym (yes roll);
      after = λ roll. put_memory (m roll) p None (found spot) (is_ok c.put_sheet.result) _ _ is c.put_sheet.ensures.history c.put_sheet.ensures.rows
          ∙ ap (λ r. cond (is_ok r) (with_sheet (m roll) p None) (m roll)) (done ∙ sym (yes roll));
    }
