-- How the number of prices shown changes with what is shown.
use Rattle.std.proofs.Common.{◌≡◌, ℕ, zero, suc, ◌+◌, ◌<◌, ◌≤◌, cond, eqb, is_some, Some, None, Option, sym, refl, ap, ◌∙◌, ⊎_elim, arith}
use Rattle.std.specs.Map.{update}
use Rattle.std.proofs.lemmas.Map.{update_here, update_apart}
use Rattle.std.proofs.lemmas.Bool.{cases_eq}
use Rattle.price_history.specs.Views.{tallied}

module _ {V : Type 0} where
  abbrev pub one : Option V → ℕ
  one o = cond (is_some o) 1 0

  pub one_le : (o : Option V) → one o ≤ 1
  one_le (Some x) = omega arith
  one_le None = omega arith

  pub tallied_same : (f g : ℕ → Option V) (n : ℕ) → ((q : ℕ) → q < n → f q ≡ g q) → tallied f n ≡ tallied g n
  unfolding tallied
  tallied_same f g zero h = refl
  tallied_same f g (suc n) h =
      let here : one (f n) ≡ one (g n) = ap one (h n (omega arith)) in
      omega (arith, here, tallied_same f g n (λ q lt. h q (omega arith)))

  pub tallied_le : (f : ℕ → Option V) (n : ℕ) → tallied f n ≤ n
  unfolding tallied
  tallied_le f zero = omega arith
  tallied_le f (suc n) = omega (arith, tallied_le f n, one_le (f n))

  -- one rank's price for another, or none
  pub tallied_update : (f : ℕ → Option V) (k : ℕ) (w : Option V) (n : ℕ) → k < n → tallied (update eqb f k w) n + one (f k) ≡ tallied f n + one w
  unfolding tallied
  tallied_update f k w zero lt = absurd (omega arith)
  tallied_update f k w (suc n) lt =
      ⊎_elim
      (λ e.
      let here : one (update eqb f k w n) ≡ one w = ap (λ z. one (update eqb f k w z)) (sym e) ∙ ap one (update_here f k w) in
      let at : one (f k) ≡ one (f n) = ap (λ z. one (f z)) e in
      let rest = tallied_same (update eqb f k w) f n (λ q l. update_apart f k w q (λ e2. omega arith)) in
      omega (arith, here, at, rest))
      (λ ne.
      let here : one (update eqb f k w n) ≡ one (f n) = ap one (update_apart f k w n (λ e. ne (sym e))) in
      let rest = tallied_update f k w n (omega arith) in
      omega (arith, here, rest))
      (cases_eq k n)
