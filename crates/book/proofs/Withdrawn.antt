-- What withdrawing a sheet comes to.
use Rattle.std.proofs.Common.{◌≡◌, ℕ, Bool, true, false, not, List, [], ◌∷◌, length, is_some, Ok, ap, ◌∙◌}
use Rattle.std.proofs.lemmas.Bool.{cond-false}
use Rattle.book.specs.Checks.{Check, verdict}
use Rattle.book.specs.Filing.{withdraw_answer}
use Rattle.book.specs.Found.{spot_checks}
use Rattle.book.specs.Memory.{Memory, is_closed, sheet_at}
use Rattle.book.specs.declared.refusal.BookRefusal.TheVariants.{DecadeClosed, NoSheet}
use Rattle.book.specs.declared.stated.StatedPlace.{StatedPlace}
use Rattle.book.proofs.Verdicts.{passed_front}

module _ (m : Memory) (p : StatedPlace) where
  abbrev front : List Check
  front = spot_checks m.book (length m.rows) p

  abbrev in_force : Bool
  in_force = is_some (sheet_at m.book m.rows p)

  abbrev rest : List Check
  rest = (is_closed m.book p.day, DecadeClosed) ∷ (not in_force, NoSheet) ∷ []

  pub granted : (x z : StatedPlace × ℕ) → verdict front x ≡ Ok z → is_closed m.book p.day ≡ false → in_force ≡ true → withdraw_answer m p ≡ Ok (tt {0})
  granted x z passed h k = passed_front front rest x (tt {0}) z passed ∙ cond-false _ _ _ h ∙ cond-false (not in_force) _ _ (ap not k)
