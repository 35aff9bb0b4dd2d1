-- What `map` gives of an array.
use denote.Param.Members.{Mut}
use Rattle.std.proofs.Common.{◌≡◌, ℕ, zero, suc, ◌+◌, List, ◌∷◌, map, length, drop, sym, ap, ◌∙◌, subst, arith}
use Rattle.std.specs.Array.{MapsFrom, IsMapOf}
use Rattle.std.specs.Fn.{Called}
use Rattle.std.proofs.lemmas.List.{drop_more, drop_all}

-- where each call leaves the closure as it was, v reads of each result what h says of its element
module _ {F A B C : Type 0} (g : Mut F (A × Unit {0}) B) {f : F} (v : B → C) (h : A → C) (acts : (x : A) (y : B) (q : F) → Called g f (x, tt) y q → (q ≡ f) × (v y ≡ h x)) (xs : List A) (ys : List B) where
  from_place : (n i : ℕ) → MapsFrom g f xs ys i n → length xs ≡ i + n → length ys ≡ i + n → map v (drop i ys) ≡ map h (drop i xs)
  from_place zero i m lx ly = ap (map v) (drop_all i ys (omega arith)) ∙ sym (ap (map h) (drop_all i xs (omega arith)))
  from_place (suc n) i m lx ly =
      let here = acts m.1 m.2 m.0 m.5 in
      let rest = from_place n (i + 1) (subst (λ (q : F). MapsFrom g q xs ys (i + 1) n) here.0 m.6) (omega arith) (omega arith) in
      ap (map v) (drop_more ys i m.2 (omega arith))
      ∙ (λ j. v (m.4.0 j) ∷ rest j)
      ∙ (λ j. here.1 j ∷ map h (drop (i + 1) xs))
      ∙ sym (λ j. h (m.3.0 j) ∷ map h (drop (i + 1) xs))
      ∙ sym (ap (map h) (drop_more xs i m.1 (omega arith)))

  pub mapped : (n : ℕ) → length xs ≡ n → IsMapOf g f xs ys n → map v ys ≡ map h xs
  mapped n long m = from_place n 0 m.each (omega arith) (omega (arith, m.long))
