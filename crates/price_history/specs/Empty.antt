-- That a history which shows nothing stays within any number of entries.
use Rattle.std.specs.Prelude.{◌≡◌, ℕ, zero, suc, ◌≤◌, None, refl}
use Rattle.std.proofs.Common.{arith}
use Rattle.measures.specs.declared.price.Price.{Price}
use Rattle.price_history.specs.Keys.{span}
use Rattle.price_history.specs.Views.{tallied, empty_view}

pub tallied_none : (V : Type 0) (n : ℕ) → tallied {V = V} (λ _. None) n ≡ 0
unfolding tallied
tallied_none V zero = refl
tallied_none V (suc n) = omega (arith, tallied_none V n)

pub empty_within : tallied empty_view.shown span ≤ empty_view.limit
empty_within = omega (arith, tallied_none Price span)
