-- The search is by the ranks of the entries.
use Rattle.std.proofs.Common.{rules}
use Rattle.std.proofs.lemmas.List.Sorted.{answers_always}
use Rattle.ordered_list.specs.Listings.{entries}
use Rattle.ordered_list.proofs.Searching.{searched}
use Rattle.ordered_list.proofs.list.OrderedList.find.Goals as goal

pub returns : goal.returns
returns g c =
    let list = c.args.self.now in
    let facts = rw c.entries.ensures at c.binary_search_by_key.ensures in
    searched (entries list) c.args.rank _ list.ordered facts.bound (facts.position (λ e. e.rank) (answers_always _ _ _ (λ f a r g called. search rules)))
