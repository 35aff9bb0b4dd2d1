-- Sums over the quarters, one quarter more.
use Rattle.std.proofs.Common.{◌≡◌, ℕ, zero, suc, ◌+◌, ◌-◌, ◌≤◌, ℤ, ◌+ℤ◌, ap, ◌∙◌, arith}
use Rattle.pricing.specs.Prices.{up_to}

-- the volumes of the quarters 1 to n
abbrev pub volumes : ℕ → (ℕ → ℕ) → ℕ
volumes zero f = 0
volumes (suc n) f = volumes n f + f (suc n)

pub up_to_more : (q : ℕ) (f : ℕ → ℤ) → 1 ≤ q → up_to (q + 1 - 1) f ≡ up_to (q - 1) f +ℤ f q
up_to_more zero f h = absurd (omega arith)
up_to_more (suc n) f h =
    let more : suc n + 1 - 1 ≡ suc n = omega arith in
    let less : n ≡ suc n - 1 = omega arith in
    ap (λ k. up_to k f) more ∙ ap (λ k. up_to k f +ℤ f (suc n)) less

pub volumes_more : (q : ℕ) (f : ℕ → ℕ) → 1 ≤ q → volumes (q + 1 - 1) f ≡ volumes (q - 1) f + f q
volumes_more zero f h = absurd (omega arith)
volumes_more (suc n) f h =
    let more : suc n + 1 - 1 ≡ suc n = omega arith in
    let less : n ≡ suc n - 1 = omega arith in
    ap (λ k. volumes k f) more ∙ ap (λ k. volumes k f + f (suc n)) less
