-- Changes that pass a test are as many as are counted.
use Rattle.std.proofs.Common.{◌≡◌, Bool, cond, List, map, filter, length, refl, sym, ◌∙◌}
use Rattle.std.proofs.lemmas.List.Recursion.{is_sum_by}
use Rattle.std.proofs.lemmas.List.Sums.{length-filter}
use Rattle.pricing.specs.Changes.{Change, plain}
use Rattle.pricing.specs.declared.change.PriceChange.{PriceChange}
use Rattle.price_changes.specs.Counts.{counted}

pub length_of_picked : (test : Change → Bool) (cs : List PriceChange) → length (filter (λ c. test (plain c)) cs) ≡ counted test (map plain cs)
length_of_picked test cs =
    length-filter (λ c. test (plain c)) cs
    ∙ sym (is_sum_by (λ xs. counted test (map plain xs)) (λ c. cond (test (plain c)) 1 0) refl (λ _ _. refl) cs)
