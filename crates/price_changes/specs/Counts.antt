-- How many prices a change strikes and enters.
use Rattle.std.specs.Prelude.{ℕ, ◌+◌, Bool, cond, ◌&&◌, List, [], ◌∷◌, is_some, Option}
use Rattle.measures.specs.declared.price.Price.{Price}
use Rattle.pricing.specs.Changes.{Change}
use Rattle.price_changes.specs.Changed.{touched}

abbrev pub counted : (Change → Bool) → List Change → ℕ
counted test [] = 0
counted test (c ∷ cs) = cond (test c) 1 0 + counted test cs

-- a price is shown at a rank that is touched
abbrev pub struck : (ℕ → Option Price) → Change → Bool
struck shown c = touched c && is_some (shown c.rank)

abbrev pub struck_count : (ℕ → Option Price) → List Change → ℕ
struck_count shown cs = counted (struck shown) cs

abbrev pub entered_count : List Change → ℕ
entered_count cs = counted (λ c. is_some c.new) cs
