-- What holds of the calls that change a book.
use Rattle.std.specs.Prelude.{◌≡◌, ℕ, ◌≤◌, List, Some, None, Ok, ◌≢◌}
use Rattle.measures.specs.declared.price.Price.{Price}
use Rattle.price_history.specs.Keys.{rank_of}
use Rattle.price_history.specs.declared.key.PriceKey.{PriceKey}
use Rattle.offers.specs.declared.span.Span.{Span}
use Rattle.sheet.specs.declared.lines.Direction.{Direction}
use Rattle.sheet_text.specs.Reading.{Reported, reading}
use Rattle.pricing.specs.Changes.{formed_by}
use Rattle.pricing.specs.Keys.{Within}
use Rattle.book.specs.Filing.{put_verdict, put_report, withdraw_answer, withdraw_after}
use Rattle.book.specs.Memory.{Memory, place_of, sheet_at}
use Rattle.book.specs.declared.putting.Putting.TheVariants.{Filing, Replacing}
use Rattle.book.specs.declared.stated.StatedPlace.{StatedPlace}
use Rattle.book_laws.specs.Kept.{IsPlace, rank_of_place, KeptAt}

-- a key under which the sheet of one place enters a price belongs to no other place and to no day before the month
pub record KeysBelongToOnePlace : Type 0 where
  pub no_other_place : (p q : StatedPlace) (span span' : Span) (d d' : Direction) → IsPlace p → IsPlace q → Within span → Within span' → rank_of_place p span d ≡ rank_of_place q span' d' → p ≡ q
  pub no_past_day : (p : StatedPlace) (span : Span) (d : Direction) (key : PriceKey) → IsPlace p → Within span → key.day ≤ 90 → rank_of key ≢ rank_of_place p span d

-- the history shows each price that forms on the sheet, and at every other rank what it showed before
pub record Entered (m : Memory) (r : Reported) : Type 0 where
  pub shown : (span : Span) (d : Direction) (price : Price) → Within span → formed_by (Some r.figures) span d ≡ Some price
      → (put_report Filing m r).history.shown (rank_of_place (place_of r) span d) ≡ Some price
  pub kept : (rank : ℕ) → ((span : Span) (d : Direction) → Within span → rank ≡ rank_of_place (place_of r) span d → formed_by (Some r.figures) span d ≡ None)
      → (put_report Filing m r).history.shown rank ≡ m.history.shown rank

abbrev pub FilingEntersWhatForms : Type 0
FilingEntersWhatForms = (m : Memory) (text : List ℕ) (r : Reported) → reading text ≡ Ok r → put_verdict Filing m r ≡ Ok (tt {0}) → Entered m r

-- the sheet that was filed can be withdrawn, and all is as it was before it was filed
abbrev pub WithdrawingGivesBack : Type 0
WithdrawingGivesBack = (m : Memory) (text : List ℕ) (r : Reported) → reading text ≡ Ok r → KeptAt m (place_of r) → put_verdict Filing m r ≡ Ok (tt {0})
    → (withdraw_answer (put_report Filing m r) (place_of r) ≡ Ok (tt {0})) × (withdraw_after (put_report Filing m r) (place_of r) ≡ m)

abbrev pub ReplacingByItselfAltersNothing : Type 0
ReplacingByItselfAltersNothing = (m : Memory) (text : List ℕ) (r : Reported) → reading text ≡ Ok r → KeptAt m (place_of r) → sheet_at m.book m.rows (place_of r) ≡ Some r.figures
    → put_verdict Replacing m r ≡ Ok (tt {0}) → put_report Replacing m r ≡ m
