-- What holds of every change.
use Rattle.std.specs.Prelude.{◌≡◌, ℕ, ◌+◌, ◌<◌, List, map, Option}
use Rattle.std.specs.List.Sorted.{IsStrictlyIncreasing}
use Rattle.std.specs.List.{AllByRecursion}
use Rattle.measures.specs.declared.price.Price.{Price}
use Rattle.price_history.specs.Keys.{span}
use Rattle.price_history.specs.Views.{tallied}
use Rattle.pricing.specs.Changes.{Change}
use Rattle.price_changes.specs.Changed.{changed}
use Rattle.price_changes.specs.Counts.{struck_count, entered_count}

-- the count after a change is the count before it, less the prices struck, plus those entered
abbrev pub ChangesAreCounted : Type 0
ChangesAreCounted = (shown : ℕ → Option Price) (cs : List Change) → IsStrictlyIncreasing (map (λ c. c.rank) cs) → AllByRecursion (λ c. c.rank < span) cs
    → tallied (changed shown cs) span + struck_count shown cs ≡ tallied shown span + entered_count cs
