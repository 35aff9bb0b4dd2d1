-- What a history shows.
use Rattle.std.specs.Prelude.{ℕ, zero, suc, ◌+◌, cond, is_some, None, Option}
use Rattle.measures.specs.declared.price.Price.{Price}

-- the price at each rank, and the greatest number of entries
pub record View : Type 0 where
  pub shown : ℕ → Option Price
  pub limit : ℕ

-- how many of the ranks below n show something
unfoldable pub tallied : {V : Type 0} → (ℕ → Option V) → ℕ → ℕ
tallied f zero = 0
tallied f (suc n) = tallied f n + cond (is_some (f n)) 1 0

-- a view that shows nothing, and never will
abbrev pub empty_view : View
empty_view = record { shown = λ _. None; limit = 0 }
