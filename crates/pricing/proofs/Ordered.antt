-- The prices of a period stand in the order of their ranks.
use Rattle.std.proofs.Common.{ℕ, zero, suc, ◌<◌, List, [], ◌∷◌, map, Option, add-one, arith}
use Rattle.std.specs.List.Sorted.{IsStrictlyIncreasing}
use Rattle.sheet.specs.Figures.{Figures}
use Rattle.sheet.specs.declared.place.Place.{Place}
use Rattle.pricing.specs.Changes.{changes_at}

-- each number is below the next
abbrev Neighbours : List ℕ → Type 0
Neighbours [] = Unit {0}
Neighbours (x ∷ []) = Unit {0}
Neighbours (x ∷ y ∷ xs) = (x < y) × Neighbours (y ∷ xs)

climbs_from : (xs : List ℕ) → Neighbours xs → IsStrictlyIncreasing xs
climbs_from [] h k within = absurd (omega arith)
climbs_from (x ∷ []) h k within = absurd (omega arith)
climbs_from (x ∷ y ∷ xs) h zero within = h.0
climbs_from (x ∷ y ∷ xs) h (suc k) within =
    let here = climbs_from (y ∷ xs) h.1 k (omega arith) in
    rw add-one (rw add-one at here)

pub ranks_climb : (p : Place) (old new : Option Figures) → IsStrictlyIncreasing (map (λ c. c.rank) (changes_at p.zone p.day p.period old new))
ranks_climb p old new =
    let zone = p.zone_to in
    let day = p.day_to in
    let from = p.period_from in
    let to = p.period_to in
    climbs_from (map (λ c. c.rank) (changes_at p.zone p.day p.period old new))
    (omega arith, (omega arith, (omega arith, (omega arith, (omega arith, (omega arith, (omega arith, (omega arith, (omega arith, tt)))))))))
