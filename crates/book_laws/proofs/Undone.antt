-- Withdrawing undoes filing, and replacing a sheet by itself does nothing.
use Rattle.std.proofs.Common.{◌≡◌, ℕ, ◌<◌, Bool, true, false, not, ◌||◌, length, get_or, set, is_some, is_ok, Some, None, Ok, Option, sym, refl, ap, ◌∙◌, arith, length-set, get_or-set_same, set-set}
use lib.Seq.{set-get_or}
use Rattle.std.specs.Option.{option_map}
use Rattle.std.proofs.lemmas.Bool.{cond-true, cond-false, ltb-false, not-false}
use Rattle.price_history.specs.Views.{View}
use Rattle.price_keeping.proofs.Changing.{view_path}
use Rattle.offers.specs.declared.span.Span.{Span}
use Rattle.offers.specs.declared.span.Span.TheVariants.{Quarter, Period}
use Rattle.sheet.specs.Figures.{Figures}
use Rattle.sheet.specs.declared.lines.Direction.{Direction}
use Rattle.sheet.specs.declared.lines.Direction.TheVariants.{Up, Down}
use Rattle.sheet_laws.proofs.Limited.{within_limits}
use Rattle.sheet_text.specs.Reading.{Reported}
use Rattle.shelf.specs.Packed.{packed_sheet}
use Rattle.shelf.specs.Places.{places_of}
use Rattle.shelf.specs.Rows.{sheet_on}
use Rattle.shelf.proofs.Numbered.{number_below}
use Rattle.pricing.specs.Changes.{formed_by}
use Rattle.pricing.specs.Keys.{Within}
use Rattle.price_changes.specs.Changed.{touched, changed, changed_view}
use Rattle.book.specs.Filing.{put_checks, put_verdict, withdraw_answer, withdraw_after}
use Rattle.book.specs.Memory.{Rows, Memory, place_of, number_in, in_book, is_closed, is_short, sheet_at, with_sheet}
use Rattle.book.specs.declared.putting.Putting.{Putting}
use Rattle.book.specs.declared.putting.Putting.TheVariants.{Filing, Replacing}
use Rattle.book.specs.declared.stated.StatedPlace.{StatedPlace}
use Rattle.book_laws.specs.Kept.{rank_of_place}
use Rattle.book_laws.specs.Laws.{WithdrawingGivesBack, ReplacingByItselfAltersNothing}
use Rattle.book_laws.proofs.Each.{at, all, for_each}
use Rattle.book_laws.proofs.Filed.{put_granted, no_sheet}
use Rattle.book_laws.proofs.Overlaid.{Shown, changed_same, Undoes, undone}
use Rattle.book_laws.proofs.Packed.{sheet_packed}
use Rattle.book_laws.proofs.Passed.{all_passed}

-- a call that was granted has a place on the shelf
pub record Found (m : Memory) (p : StatedPlace) : Type 0 where
  pub long : is_short m.book (length m.rows) ≡ false
  pub inside : in_book m.book p ≡ true
  pub still_open : is_closed m.book p.day ≡ false

pub found_from : (how : Putting) (m : Memory) (r : Reported) → put_verdict how m r ≡ Ok (tt {0}) → Found m (place_of r)
found_from how m r ok =
    let passed = all_passed (put_checks how m (place_of r) r.figures) (tt {0}) (tt {0}) ok in
    record { long = passed.0; inside = not-false (in_book m.book (place_of r)) passed.1.0; still_open = passed.1.1.1.0 }

pub on_shelf : (m : Memory) (p : StatedPlace) → Found m p → number_in m.book p < length m.rows
on_shelf m p h =
    let b = m.book in
    omega (arith, number_below b.days b.zones p.zone p.day p.period h.inside, ltb-false (length m.rows) (places_of b.days b.zones) h.long)

same_memory : (m : Memory) (v : View) (rows : Rows) → v ≡ m.history → rows ≡ m.rows → record { book = m.book; history = v; register = m.register; rows = rows } ≡ m
same_memory m v rows p q = λ i. record { book = m.book; history = p i; register = m.register; rows = q i }

pub replaced : ReplacingByItselfAltersNothing
replaced m text r read kept sheet ok =
    let p = place_of r in
    let n = number_in m.book p in
    let old = sheet_at m.book m.rows p in
    let new : Option Figures = Some r.figures in
    let cs = all p old new in
    let shows = for_each p old new (λ c. m.history.shown c.rank ≡ c.new) (λ s d w. kept.shown s d w ∙ ap (λ o. formed_by o s d) sheet) in
    let row : get_or m.rows n None ≡ Some (packed_sheet r.figures) = kept.row ∙ ap (option_map packed_sheet) sheet in
    put_granted Replacing m r ok
    ∙ same_memory m (changed_view m.history cs) (set m.rows n (Some (packed_sheet r.figures)))
    (view_path (changed_view m.history cs) m.history (λ q. changed_same m.history.shown cs shows q) refl)
    (ap (set m.rows n) (sym row) ∙ set-get_or m.rows n None)

or_none : (b : Bool) → (false || b) ≡ (b || false)
or_none true = refl
or_none false = refl

-- what filing enters, withdrawing strikes
undoes : (p : StatedPlace) (f : Figures) (g : Shown) → ((s : Span) (d : Direction) → Within s → g (rank_of_place p s d) ≡ None) → Undoes g (all p None (Some f)) (all p (Some f) None)
undoes p f g none =
    let here : (s : Span) (d : Direction) → touched (at p None (Some f) s d) ≡ touched (at p (Some f) None s d) = λ s d. or_none (is_some (formed_by (Some f) s d)) in (
      refl,
      here (Quarter 1) Up,
      refl,
      none (Quarter 1) Up (omega arith, omega arith),
      (
        refl,
        here (Quarter 2) Up,
        refl,
        none (Quarter 2) Up (omega arith, omega arith),
        (
          refl,
          here (Quarter 3) Up,
          refl,
          none (Quarter 3) Up (omega arith, omega arith),
          (
            refl,
            here (Quarter 4) Up,
            refl,
            none (Quarter 4) Up (omega arith, omega arith),
            (
              refl,
              here (Quarter 1) Down,
              refl,
              none (Quarter 1) Down (omega arith, omega arith),
              (
                refl,
                here (Quarter 2) Down,
                refl,
                none (Quarter 2) Down (omega arith, omega arith),
                (
                  refl,
                  here (Quarter 3) Down,
                  refl,
                  none (Quarter 3) Down (omega arith, omega arith),
                  (
                    refl,
                    here (Quarter 4) Down,
                    refl,
                    none (Quarter 4) Down (omega arith, omega arith),
                    (
                      refl,
                      here Period Up,
                      refl,
                      none Period Up tt,
                      (refl, here Period Down, refl, none Period Down tt, tt),
                    ),
                  ),
                ),
              ),
            ),
          ),
        ),
      ),
    )

pub withdrawn : WithdrawingGivesBack
withdrawn m text r read kept ok =
    let p = place_of r in
    let b = m.book in
    let f = r.figures in
    let n = number_in b p in
    let x = Some (packed_sheet f) in
    let found = found_from Filing m r ok in
    let none = no_sheet m r ok in
    let m' = with_sheet m p (Some f) in
    let after = put_granted Filing m r ok in
    let same_length = length-set m.rows n x in
    let sheet : sheet_at b m'.rows p ≡ Some f = ap sheet_on (get_or-set_same m.rows n x None (on_shelf m p found)) ∙ sheet_packed r (within_limits text r read) in
    let granted : withdraw_answer m' p ≡ Ok (tt {0}) =
    cond-false (is_short b (length m'.rows)) _ _ (ap (is_short b) same_length ∙ found.long)
    ∙ cond-false (not (in_book b p)) _ _ (ap not found.inside)
    ∙ cond-false (is_closed b p.day) _ _ found.still_open
    ∙ cond-false (not (is_some (sheet_at b m'.rows p))) _ _ (ap (λ o. not (is_some o)) sheet) in
    let g = m.history.shown in
    let free : (s : Span) (d : Direction) → Within s → g (rank_of_place p s d) ≡ None = λ s d w. kept.shown s d w ∙ ap (λ o. formed_by o s d) none in
    let history : (q : ℕ) → changed m'.history.shown (all p (sheet_at b m'.rows p) None) q ≡ g q = λ q.
    ap (λ o. changed m'.history.shown (all p o None) q) sheet
    ∙ ap (λ o. changed (changed g (all p o (Some f))) (all p (Some f) None) q) none
    ∙ undone g (all p None (Some f)) (all p (Some f) None) (undoes p f g free) q in
    let row : get_or m.rows n None ≡ None = kept.row ∙ ap (option_map packed_sheet) none in (
      ap (λ (y : Memory). withdraw_answer y p) after ∙ granted,
      ap (λ (y : Memory). withdraw_after y p) after
          ∙ cond-true (is_ok (withdraw_answer m' p)) (with_sheet m' p None) m' (ap is_ok granted)
          ∙ same_memory m (with_sheet m' p None).history (set m'.rows n None)
          (view_path (with_sheet m' p None).history m.history history refl)
          (set-set m.rows n x None ∙ ap (set m.rows n) (sym row) ∙ set-get_or m.rows n None),
    )
