-- The entries are those before, with the new one among them.
use Rattle.std.proofs.Common.{arith, length-take}
use Rattle.ordered_list.specs.Listings.{entries}
use Rattle.ordered_list.proofs.Shifting.{let_in_rises}
use Rattle.ordered_list.proofs.list.OrderedList.insert.Goals as goal

pub invariant_of-self : goal.invariant_of-self
invariant_of-self g c =
    let list = c.args.self.now in
    record {
      within = omega (arith, c.insert_at.auto.places, c.requires.free, length-take list.count list.memory.now);
      ordered = let_in_rises (entries list) _ _ c.args.at c.args.entry.value c.insert_at.ensures c.requires.belongs list.ordered;
    }
