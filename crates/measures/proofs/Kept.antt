-- A number within its limit is the measure that has it, and any other is none.
use Rattle.std.proofs.Common.{◌≡◌, ℕ, ◌<◌, ◌≤◌, ℤ, nat_abs, Some, None, sym, refl, ap, ◌∙◌, arith}
use native.Mathlib.Bridge.{le_prop}
use native.Mathlib.Decide.{dec_le}
use Rattle.measures.specs.declared.price.Price.{Price}
use Rattle.measures.specs.Limits.{where_kept, price_of}

module _ {A : Type 0} (m n : ℕ) (make : m ≤ n → A) where
  decided : (d : Dec (m ≤ n)) (kept : m ≤ n) → where_kept d make ≡ Some (make kept)
  decided (yes h) kept = ap (λ k. Some (make k)) (le_prop h kept)
  decided (no h) kept = absurd (h kept)

  refused : (d : Dec (m ≤ n)) → n < m → where_kept d make ≡ None
  refused (yes h) past = absurd (omega arith)
  refused (no h) past = refl

  pub within : (kept : m ≤ n) → Some (make kept) ≡ where_kept (dec_le m n) make
  within kept = sym (decided (dec_le m n) kept)

  pub beyond : n < m → None ≡ where_kept (dec_le m n) make
  beyond past = sym (refused (dec_le m n) past)

pub price_is : (p : Price) (z : ℤ) → p.kop ≡ z → Some p ≡ price_of z
price_is p z e = within (nat_abs p.kop) 10000000 (λ kept. record { kop = p.kop; limited = kept }) p.limited ∙ ap price_of e
