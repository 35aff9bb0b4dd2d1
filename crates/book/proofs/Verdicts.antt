-- What checks in their order come to.
use Rattle.std.proofs.Common.{◌≡◌, ℕ, Bool, true, false, cond, List, [], ◌∷◌, ◌++◌, Ok, Err, Result, sym, refl, ap, arith}
use Rattle.book.specs.Checks.{Check, verdict}
use Rattle.book.specs.declared.refusal.BookRefusal.{BookRefusal}

pub ok_err : {A E B : Type 0} (x : A) (e : E) → ◌≡◌ {A = Result A E} (Ok x) (Err e) → B
ok_err x e h = let z : ◌≡◌ {A = ℕ} 0 1 = cc in absurd (omega arith)

module _ {A B : Type 0} where
  refused_at : (c : Bool) (was : BookRefusal) (rest : Result A BookRefusal) (more : Result B BookRefusal) (e : BookRefusal) → (rest ≡ Err e → more ≡ Err e) → cond c (Err was) rest ≡ Err e → cond c (Err was) more ≡ Err e
  refused_at true was rest more e next h = ap (λ w. Err w) (let same : was ≡ e = cc in same)
  refused_at false was rest more e next h = next h

  -- what refuses at the front refuses
  pub refused_front : (cs ds : List Check) (x : A) (y : B) (e : BookRefusal) → verdict cs x ≡ Err e → verdict (cs ++ ds) y ≡ Err e
  refused_front [] ds x y e h = ok_err x e h
  refused_front (c ∷ cs) ds x y e h = refused_at c.0 c.1 (verdict cs x) (verdict (cs ++ ds) y) e (refused_front cs ds x y e) h

  passed_at : (c : Bool) (was : BookRefusal) (rest : Result A BookRefusal) (more last : Result B BookRefusal) (z : A) → (rest ≡ Ok z → more ≡ last) → cond c (Err was) rest ≡ Ok z → cond c (Err was) more ≡ last
  passed_at true was rest more last z next h = ok_err z was (sym h)
  passed_at false was rest more last z next h = next h

  -- where the front passes, the others decide
  pub passed_front : (cs ds : List Check) (x : A) (y : B) (z : A) → verdict cs x ≡ Ok z → verdict (cs ++ ds) y ≡ verdict ds y
  passed_front [] ds x y z h = refl
  passed_front (c ∷ cs) ds x y z h = passed_at c.0 c.1 (verdict cs x) (verdict (cs ++ ds) y) (verdict ds y) z (passed_front cs ds x y z) h

ok_at : {A : Type 0} (c : Bool) (was : BookRefusal) (rest : Result A BookRefusal) (x z : A) → (rest ≡ Ok z → x ≡ z) → cond c (Err was) rest ≡ Ok z → x ≡ z
ok_at true was rest x z next h = ok_err z was (sym h)
ok_at false was rest x z next h = next h

-- where all pass, the answer is given
pub passed_is : {A : Type 0} (cs : List Check) (x z : A) → verdict cs x ≡ Ok z → x ≡ z
passed_is [] x z h = cc
passed_is (c ∷ cs) x z h = ok_at c.0 c.1 (verdict cs x) x z (passed_is cs x z) h
