-- Filing enters what forms on the sheet.
use Rattle.std.proofs.Common.{◌≡◌, false, is_some, is_ok, Some, None, Ok, Option, ap, ◌∙◌}
use Rattle.std.proofs.lemmas.Bool.{cond-true, or_from, or_right}
use Rattle.sheet.specs.Figures.{Figures}
use Rattle.sheet_laws.specs.Laws.{WithinLimits}
use Rattle.sheet_laws.proofs.Limited.{within_limits}
use Rattle.sheet_text.specs.Reading.{Reported}
use Rattle.price_keeping.proofs.Cells.{none_from}
use Rattle.pricing.specs.Changes.{formed_by}
use Rattle.price_changes.specs.Changed.{touched}
use Rattle.book.specs.Filing.{put_checks, put_verdict, put_report}
use Rattle.book.specs.Memory.{Memory, place_of, sheet_at, with_sheet}
use Rattle.book.specs.declared.putting.Putting.{Putting}
use Rattle.book.specs.declared.putting.Putting.TheVariants.{Filing}
use Rattle.book_laws.specs.Kept.{IsPlace, rank_of_place}
use Rattle.book_laws.specs.Laws.{FilingEntersWhatForms}
use Rattle.book_laws.proofs.Each.{all, for_each, shown_at}
use Rattle.book_laws.proofs.Overlaid.{changed_off}
use Rattle.book_laws.proofs.Passed.{all_passed}

pub is_place : (r : Reported) → WithinLimits r → IsPlace (place_of r)
is_place r w = record {
  zone_from = w.zone.0;
  zone_to = w.zone.1;
  day_from = w.day.0;
  day_to = w.day.1;
  period_from = w.period.0;
  period_to = w.period.1;
}

pub put_granted : (how : Putting) (m : Memory) (r : Reported) → put_verdict how m r ≡ Ok (tt {0}) → put_report how m r ≡ with_sheet m (place_of r) (Some r.figures)
put_granted how m r ok = cond-true (is_ok (put_verdict how m r)) _ m (ap is_ok ok)

pub no_sheet : (m : Memory) (r : Reported) → put_verdict Filing m r ≡ Ok (tt {0}) → sheet_at m.book m.rows (place_of r) ≡ None
no_sheet m r ok =
    let passed = all_passed (put_checks Filing m (place_of r) r.figures) (tt {0}) (tt {0}) ok in
    none_from (sheet_at m.book m.rows (place_of r)) passed.1.1.1.1.0

pub filed : FilingEntersWhatForms
filed m text r read ok =
    let p = place_of r in
    let old = sheet_at m.book m.rows p in
    let new : Option Figures = Some r.figures in
    let is = is_place r (within_limits text r read) in
    let after = put_granted Filing m r ok in
    record {
      shown = λ s d price w formed.
          ap (λ (x : Memory). x.history.shown (rank_of_place p s d)) after
          ∙ shown_at p old new m.history.shown s d is w (or_right (is_some (formed_by old s d)) (is_some (formed_by new s d)) (ap is_some formed))
          ∙ formed;
      kept = λ rank off.
          ap (λ (x : Memory). x.history.shown rank) after
          ∙ changed_off m.history.shown (all p old new) rank (for_each p old new (λ c. rank ≡ c.rank → touched c ≡ false) (λ s d w e.
          or_from (is_some (formed_by old s d)) (is_some (formed_by new s d)) (ap (λ o. is_some (formed_by o s d)) (no_sheet m r ok)) (ap is_some (off s d w e))));
    }
