-- The places of a table.
use Rattle.std.specs.Prelude.{ℕ, cond, List, None, Ok, Err, Option, Result, nat_lt, slice_index_or}
use Rattle.measures.specs.declared.price.Price.{Price}
use Rattle.price_history.specs.Keys.{span}
use Rattle.price_keeping.specs.declared.refusal.MemoryRefusal.{MemoryRefusal}
use Rattle.price_keeping.specs.declared.refusal.MemoryRefusal.TheVariants.{Short}

-- a place for each key, or none in memory that has too few
abbrev pub places_over : ℕ → ℕ
places_over n = cond (nat_lt n span) 0 span

abbrev pub memory_answer : ℕ → Result Unit MemoryRefusal
memory_answer n = cond (nat_lt n span) (Err Short) (Ok tt)

-- what the first places of the memory show
abbrev pub kept_in : ℕ → List (Option Price) → ℕ → Option Price
kept_in places memory rank = cond (nat_lt rank places) (slice_index_or memory rank None) None
