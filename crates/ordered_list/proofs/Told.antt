-- An answer whose refusal is told in other words is granted where it was.
use Rattle.std.proofs.Common.{◌≡◌, is_ok, Ok, Err, Result, refl}

module _ {T E F : Type 0} (f : E → F) where
  abbrev pub told : Result T E → Result T F
  told (Ok x) = Ok x
  told (Err e) = Err (f e)

  pub told_ok : (r : Result T E) → is_ok (told r) ≡ is_ok r
  told_ok (Ok _) = refl
  told_ok (Err _) = refl
