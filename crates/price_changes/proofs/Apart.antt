-- Changes in the order of their ranks are at ranks that differ.
use Rattle.std.proofs.Common.{◌≡◌, ℕ, suc, ◌<◌, ◌≤◌, List, [], ◌∷◌, map, sym, subst, add-one, arith}
use Rattle.std.specs.List.Sorted.{IsStrictlyIncreasing}
use Rattle.std.specs.List.{AllByRecursion}
use Rattle.price_history.specs.Keys.{span, rank_of}
use Rattle.price_history.proofs.Apart.{rank_below}
use Rattle.pricing.specs.Changes.{Change, plain}
use Rattle.pricing.specs.declared.change.PriceChange.{PriceChange}

-- no change of the list is at the rank
abbrev pub Off : ℕ → List Change → Type 0
Off r [] = Unit {0}
Off r (c ∷ cs) = (r ≡ c.rank → ⊥) × Off r cs

-- the ranks differ, and there are such ranks
abbrev pub Apart : List Change → Type 0
Apart [] = Unit {0}
Apart (c ∷ cs) = (c.rank < span) × Off c.rank cs × Apart cs

abbrev ranks : List Change → List ℕ
ranks cs = map (λ c. c.rank) cs

climbs_tail : (x : ℕ) (xs : List ℕ) → IsStrictlyIncreasing (x ∷ xs) → IsStrictlyIncreasing xs
climbs_tail x xs h k within =
    let here = h (suc k) (omega (arith, add-one (suc k))) in
    rw add-one (rw add-one at here)

climbs_off : (x y : ℕ) (cs : List Change) → IsStrictlyIncreasing (y ∷ ranks cs) → x ≤ y → Off x cs
climbs_off x y [] h le = tt
climbs_off x y (c ∷ cs) h le =
    let lt : y < c.rank = h 0 (omega arith) in
    ((λ e. omega arith), climbs_off x c.rank cs (climbs_tail y (c.rank ∷ ranks cs) h) (omega arith))

pub apart_from : (cs : List Change) → IsStrictlyIncreasing (ranks cs) → AllByRecursion (λ c. c.rank < span) cs → Apart cs
apart_from [] h below = tt
apart_from (c ∷ cs) h below = (below.0, climbs_off c.rank c.rank cs h (omega arith), apart_from cs (climbs_tail c.rank (ranks cs) h) below.1)

below_span : (cs : List PriceChange) → AllByRecursion (λ c. c.rank < span) (map plain cs)
below_span [] = tt
below_span (c ∷ cs) = (rank_below c.key, below_span cs)

same_ranks : (cs : List PriceChange) → ranks (map plain cs) ≡ map (λ c. rank_of c.key) cs
same_ranks [] = λ i. []
same_ranks (c ∷ cs) = λ i. rank_of c.key ∷ same_ranks cs i

pub keys_apart : (cs : List PriceChange) → IsStrictlyIncreasing (map (λ c. rank_of c.key) cs) → Apart (map plain cs)
keys_apart cs h = apart_from (map plain cs) (subst IsStrictlyIncreasing (sym (same_ranks cs)) h) (below_span cs)
