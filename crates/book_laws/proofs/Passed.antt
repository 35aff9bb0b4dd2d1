-- Where a call is granted, every check passed.
use Rattle.std.proofs.Common.{◌≡◌, Bool, true, false, cond, List, [], ◌∷◌, Ok, Err, Result, sym, refl}
use Rattle.std.specs.List.{AllByRecursion}
use Rattle.book.specs.Checks.{Check, verdict}
use Rattle.book.specs.declared.refusal.BookRefusal.{BookRefusal}
use Rattle.book.proofs.Verdicts.{ok_err}

one_passed : {A : Type 0} (c : Bool) (e : BookRefusal) (rest : Result A BookRefusal) (z : A) → cond c (Err e) rest ≡ Ok z → (c ≡ false) × (rest ≡ Ok z)
one_passed true e rest z h = ok_err z e (sym h)
one_passed false e rest z h = (refl, h)

pub all_passed : {A : Type 0} (cs : List Check) (x z : A) → verdict cs x ≡ Ok z → AllByRecursion (λ c. c.0 ≡ false) cs
all_passed [] x z h = tt
all_passed (c ∷ cs) x z h =
    let first = one_passed c.0 c.1 (verdict cs x) z h in
    (first.0, all_passed cs x z first.1)
