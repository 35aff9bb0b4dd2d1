-- The later entries close the gap.
use Rattle.std.proofs.Common.{arith, rules}
use Rattle.std.proofs.lemmas.List.{places, same_lists}
use Rattle.ordered_list.proofs.places.remove_at.Goals as goal

pub returns : goal.returns
returns g c = same_lists _ _ (search (rules, places)) (λ k d h. grind (arith, places))
