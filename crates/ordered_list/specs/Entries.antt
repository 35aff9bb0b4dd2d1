-- Entries, and what they show.
use Rattle.std.specs.Prelude.{ℕ, List, map, Option, nat_eq}
use Rattle.std.specs.Map.{lookup}
use Rattle.ordered_list.specs.declared.entry.Entry.{Entry}

module _ {V : Type 0} where
  abbrev pub ranks : List (Entry V) → List ℕ
  ranks es = map (λ e. e.rank) es

  -- the value of the entry with a rank
  abbrev pub value_at : List (Entry V) → ℕ → Option V
  value_at es rank = lookup (nat_eq rank) (map (λ e. (e.rank, e.value)) es)
