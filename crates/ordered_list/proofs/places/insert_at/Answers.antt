-- The entries are shifted by one place, and the new one stands in the gap.
use Rattle.std.proofs.Common.{arith, rules}
use Rattle.std.proofs.lemmas.List.{places, same_lists, get_or-set_same}
use Rattle.std.proofs.lemmas.Bool.{cases_eq}
use Rattle.ordered_list.proofs.places.insert_at.Goals as goal

pub returns : goal.returns
returns g c = same_lists _ _ (search (rules, places)) (λ k d h. grind (arith, places, get_or-set_same, cases_eq k c.args.at))
