-- The place, then whether a sheet is in force, then room for the prices.
use Rattle.std.proofs.Common.{◌≡◌, cond, [], ◌∷◌, length, is_ok, Some, Err, sym, ap, ◌∙◌, rules}
use borrow.Author.Rules.{get_or_read}
use Rattle.std.proofs.lemmas.Result.{err_from_is_err_and}
use Rattle.sheet_text.specs.Reported.{plain}
use Rattle.register.specs.Rolls.{roll}
use Rattle.book.specs.Checks.{verdict}
use Rattle.book.specs.Filing.{report_checks, force_check}
use Rattle.book.specs.Memory.{memory, place_of, found, number_in, with_sheet}
use Rattle.book.proofs.Put.{in_force_at, put_memory, refused_after, front_refused, force_refused, put_ends}
use Rattle.book.proofs.Verdicts.{passed_is}
use Rattle.book.proofs.book.Book.put_report.Goals as goal

pub returns-in_err-spot : goal.returns-in_err-spot
returns-in_err-spot g c =
    let m = memory c.args.self.now (g.K.PriceHistory.view c.args.history.now) (roll c.args.register.now) c.args.shelf.now in
    let r = plain c.args.report.now in
    let e = err_from_is_err_and c.from_residual.result c.from_residual.ensures.1 in
    let refused = front_refused c.args.how m r _ _ (sym c.in_err-spot.ensures.answer) in
    record { answer = e.1 ∙ ap (λ x. Err x) e.2 ∙ sym refused; after = refused_after c.args.how m r _ refused }

pub returns-in_err-check : goal.returns-in_err-check
returns-in_err-check g c =
    let m = memory c.args.self.now (g.K.PriceHistory.view c.args.history.now) (roll c.args.register.now) c.args.shelf.now in
    let r = plain c.args.report.now in
    let p = place_of r in
    let n = number_in m.book p in
    let spot = c.in_ok-spot.spot in
    let front = report_checks m.book m.register (length m.rows) p r.figures in
    let passed = sym c.in_ok-spot.ensures.answer in
    let in_force = in_force_at m.book m.rows p front (found spot) c.is_some-in_force.result passed (search (rules, get_or_read)) in
    let forced = ap (λ t. verdict (force_check c.args.how t ∷ []) (tt {0})) in_force in
    let e = err_from_is_err_and c.from_residual-in_err-check.result c.from_residual-in_err-check.ensures.1 in
    let refused = force_refused c.args.how m r (p, n) (found spot) passed _ (forced ∙ sym c.in_err-check.ensures) in
    record { answer = e.1 ∙ ap (λ x. Err x) e.2 ∙ sym refused; after = refused_after c.args.how m r _ refused }

pub returns : goal.returns
returns g c =
    let m = memory c.args.self.now (g.K.PriceHistory.view c.args.history.now) (roll c.args.register.now) c.args.shelf.now in
    let r = plain c.args.report.now in
    let p = place_of r in
    let n = number_in m.book p in
    let spot = c.in_ok-spot.spot in
    let front = report_checks m.book m.register (length m.rows) p r.figures in
    let passed = sym c.in_ok-spot.ensures.answer in
    let is : found spot ≡ (p, n) = sym (passed_is front (p, n) (found spot) passed) in
    let in_force = in_force_at m.book m.rows p front (found spot) c.is_some-in_force.result passed (search (rules, get_or_read)) in
    let forced = ap (λ t. verdict (force_check c.args.how t ∷ []) (tt {0})) in_force in
    let answer = put_ends c.args.how m r (p, n) (found spot) passed c.put_sheet.result (found spot) (forced ∙ sym c.in_ok-check.ensures) is c.put_sheet.ensures.answer in
    record {
      answer = answer;
      after = put_memory m p (Some r.figures) (found spot) (is_ok c.put_sheet.result) _ _ is c.put_sheet.ensures.history c.put_sheet.ensures.rows
          ∙ ap (λ v. cond (is_ok v) (with_sheet m p (Some r.figures)) m) answer;
    }
