-- What a report that is filed or that replaces another comes to.
use Rattle.std.proofs.Common.{◌≡◌, ℕ, Bool, true, false, cond, List, [], ◌∷◌, length, get_or, set, is_some, is_ok, Some, None, Ok, Err, Option, Result, sym, refl, ap, ◌∙◌}
use Rattle.std.specs.Option.{option_map}
use Rattle.std.proofs.lemmas.Bool.{cond-false}
use Rattle.price_history.specs.Views.{View}
use Rattle.register.specs.Rolls.{Roll}
use Rattle.sheet.specs.Figures.{Figures}
use Rattle.sheet.specs.declared.report.Sheet.{Sheet}
use Rattle.sheet_text.specs.Reading.{Reported}
use Rattle.shelf.specs.Packed.{packed_sheet}
use Rattle.shelf.specs.Rows.{sheet_on}
use Rattle.price_changes.specs.Changed.{changed_view, overfull}
use Rattle.book.specs.Checks.{Check, verdict}
use Rattle.book.specs.Filing.{report_checks, force_check, full_check, put_verdict, put_report}
use Rattle.book.specs.Found.{changes_of}
use Rattle.book.specs.Memory.{Standing, Memory, place_of, number_in, sheet_at, with_sheet}
use Rattle.book.specs.declared.putting.Putting.{Putting}
use Rattle.book.specs.declared.refusal.BookRefusal.{BookRefusal}
use Rattle.book.specs.declared.refusal.BookRefusal.TheVariants.{HistoryFull}
use Rattle.book.specs.declared.stated.StatedPlace.{StatedPlace}
use Rattle.book.proofs.Verdicts.{refused_front, passed_front, passed_is}

abbrev pub mem : Standing → View → Roll → List (Option Sheet) → Memory
mem b view roll rows = record { book = b; history = view; register = roll; rows = rows }

-- the sheet at a place with a number, where that is its number
pub sheet_found : (b : Standing) (rows : List (Option Sheet)) (p : StatedPlace) (q : StatedPlace × ℕ) → q ≡ (p, number_in b p) → sheet_on (get_or rows q.1 None) ≡ sheet_at b rows p
sheet_found b rows p q e = ap (λ (x : StatedPlace × ℕ). sheet_on (get_or rows x.1 None)) e

-- whether a sheet is in force at a place that passed, from what stands at its number
pub in_force_at : (b : Standing) (rows : List (Option Sheet)) (p : StatedPlace) (cs : List Check) (q : StatedPlace × ℕ) (t : Bool) → verdict cs (p, number_in b p) ≡ Ok q → t ≡ is_some (sheet_on (get_or rows q.1 None)) → is_some (sheet_at b rows p) ≡ t
in_force_at b rows p cs q t passed e = sym (e ∙ ap is_some (sheet_found b rows p q (sym (passed_is cs (p, number_in b p) q passed))))

-- both are changed, or neither
both_or_neither : (b : Standing) (roll : Roll) (h h' : View) (w w' : List (Option Sheet)) (t : Bool) → mem b (cond t h' h) roll (cond t w' w) ≡ cond t (mem b h' roll w') (mem b h roll w)
both_or_neither b roll h h' w w' true = refl
both_or_neither b roll h h' w w' false = refl

-- a change of the sheet at the place that was found
pub put_memory : (m : Memory) (p : StatedPlace) (new : Option Figures) (q : StatedPlace × ℕ) (t : Bool) (u : View) (w : List (Option Sheet)) → q ≡ (p, number_in m.book p)
    → u ≡ cond t (changed_view m.history (changes_of m.rows q new)) m.history
    → w ≡ cond t (set m.rows q.1 (option_map packed_sheet new)) m.rows
    → mem m.book u m.register w ≡ cond t (with_sheet m p new) m
put_memory m p new q t u w e view rows =
    let at : StatedPlace × ℕ → Memory = λ x. mem m.book (changed_view m.history (changes_of m.rows x new)) m.register (set m.rows x.1 (option_map packed_sheet new)) in
    ap (λ h. mem m.book h m.register w) view
    ∙ ap (λ l. mem m.book (cond t (changed_view m.history (changes_of m.rows q new)) m.history) m.register l) rows
    ∙ both_or_neither m.book m.register m.history _ m.rows _ t
    ∙ ap (λ x. cond t (at x) m) e

module _ (how : Putting) (m : Memory) (r : Reported) where
  abbrev place : StatedPlace
  place = place_of r

  abbrev front : List Check
  front = report_checks m.book m.register (length m.rows) place r.figures

  abbrev force : Check
  force = force_check how (is_some (sheet_at m.book m.rows place))

  abbrev rest : List Check
  rest = force ∷ full_check m place (Some r.figures) ∷ []

  pub refused_after : (e : BookRefusal) → put_verdict how m r ≡ Err e → m ≡ put_report how m r
  refused_after e h = sym (cond-false (is_ok (put_verdict how m r)) (with_sheet m place (Some r.figures)) m (ap is_ok h))

  pub front_refused : (x : StatedPlace × ℕ) (e : BookRefusal) → verdict front x ≡ Err e → put_verdict how m r ≡ Err e
  front_refused x e h = refused_front front rest x (tt {0}) e h

  module _ (x z : StatedPlace × ℕ) (passed : verdict front x ≡ Ok z) where
    pub force_refused : (e : BookRefusal) → verdict (force ∷ []) (tt {0}) ≡ Err e → put_verdict how m r ≡ Err e
    force_refused e h = passed_front front rest x (tt {0}) z passed ∙ refused_front (force ∷ []) (full_check m place (Some r.figures) ∷ []) (tt {0}) (tt {0}) e h

    pub put_ends : (res : Result Unit BookRefusal) (q : StatedPlace × ℕ) → verdict (force ∷ []) (tt {0}) ≡ Ok (tt {0}) → q ≡ (place, number_in m.book place)
        → res ≡ verdict ((overfull (changed_view m.history (changes_of m.rows q (Some r.figures))), HistoryFull) ∷ []) (tt {0}) → res ≡ put_verdict how m r
    put_ends res q h e answer =
        answer
        ∙ ap (λ (y : StatedPlace × ℕ). verdict ((overfull (changed_view m.history (changes_of m.rows y (Some r.figures))), HistoryFull) ∷ []) (tt {0})) e
        ∙ sym (passed_front (force ∷ []) (full_check m place (Some r.figures) ∷ []) (tt {0}) (tt {0}) (tt {0}) h)
        ∙ sym (passed_front front rest x (tt {0}) z passed)
