-- Taking more than there is takes all.
use Rattle.std.proofs.Common.{◌≡◌, ℕ, ◌<◌, ◌≤◌, min, List, length, take, sym, ap, ◌∙◌, ⊎_elim, arith, take_all}
use Rattle.std.proofs.lemmas.Bool.{cases_lt}

pub take_clipped : {X : Type 0} (xs : List X) (n m : ℕ) → length xs ≡ m → take (min n m) xs ≡ take n xs
take_clipped xs n m e =
    ⊎_elim
    (λ (lt : n < m). let same : min n m ≡ n = omega arith in ap (λ k. take k xs) same)
    (λ (le : m ≤ n). let same : min n m ≡ m = omega arith in ap (λ k. take k xs) same ∙ take_all m xs (omega arith) ∙ sym (take_all n xs (omega arith)))
    (cases_lt n m)
