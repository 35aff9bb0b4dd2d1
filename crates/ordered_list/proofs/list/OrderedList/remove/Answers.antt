-- The entries are those before, without the one that is taken out.
use Rattle.std.proofs.Common.{◌-◌, get_or, refl, arith}
use Rattle.ordered_list.specs.Entries.{ranks}
use Rattle.ordered_list.specs.Listings.{entries}
use Rattle.ordered_list.proofs.Searching.{length_ranks}
use Rattle.ordered_list.proofs.Shifting.{fewer_rise, taken_out_rises}
use Rattle.ordered_list.proofs.list.OrderedList.remove.Goals as goal

pub invariant_of-self : goal.invariant_of-self
invariant_of-self g c =
    let list = c.args.self.now in
    record { within = omega (arith, list.within); ordered = fewer_rise list.memory.now (list.count - 1) list.count (omega arith) list.ordered }

pub invariant_of-self-2 : goal.invariant_of-self-2
invariant_of-self-2 g c =
    let list = c.args.self.now in
    let es = entries list in
    record {
      within = omega (arith, c.remove_at.auto.places, list.within);
      ordered = taken_out_rises es _ (get_or (ranks es) c.args.at 0) c.args.at c.remove_at.ensures list.ordered (record { inside = omega (arith, length_ranks es, c.requires); is = refl });
    }
