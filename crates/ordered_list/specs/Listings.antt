-- What a list shows, and how entering and striking change it.
use Rattle.std.specs.Prelude.{ℕ, ◌+◌, ◌-◌, cond, List, length, take, is_ok, Some, None, Ok, Err, Option, Result, ◌==◌, nat_eq}
use Rattle.std.specs.Map.{update}
use Rattle.ordered_list.specs.declared.entry.Entry.{Entry}
use Rattle.ordered_list.specs.declared.entry.EntryRefusal.{EntryRefusal}
use Rattle.ordered_list.specs.declared.entry.EntryRefusal.TheVariants.{Present, Full}
use Rattle.ordered_list.specs.declared.entry.StrikeRefusal.{StrikeRefusal}
use Rattle.ordered_list.specs.declared.entry.StrikeRefusal.TheVariants.{Absent}
use Rattle.ordered_list.specs.declared.list.OrderedList.{OrderedList}
use Rattle.ordered_list.specs.Entries.{value_at}

-- the value at each rank or none, how many values there are, and how many there can be
pub record Listing (V : Type 0) : Type 0 where
  pub shown : ℕ → Option V
  pub count : ℕ
  pub places : ℕ

module _ {V : Type 0} where
  abbrev pub entries : OrderedList V → List (Entry V)
  entries list = take list.count list.memory.now

  abbrev pub listing : OrderedList V → Listing V
  listing list = record { shown = value_at (entries list); count = length (entries list); places = length list.memory.now }

  abbrev pub empty_listing : ℕ → Listing V
  empty_listing places = record { shown = λ _. None; count = 0; places = places }

  -- a key that is there is refused first, then one for which no place is free
  abbrev pub entry_to : Option V → ℕ → ℕ → Result Unit EntryRefusal
  entry_to (Some _) count places = Err Present
  entry_to None count places = cond (count == places) (Err Full) (Ok tt)

  abbrev pub entry_answer : Listing V → ℕ → Result Unit EntryRefusal
  entry_answer l rank = entry_to (l.shown rank) l.count l.places

  -- a value at its rank, and all else as it was; all as it was where it is refused
  abbrev pub entered : Listing V → ℕ → V → Listing V
  entered l rank value = cond (is_ok (entry_answer l rank)) (record { shown = update nat_eq l.shown rank (Some value); count = l.count + 1; places = l.places }) l

  abbrev pub strike_of : Option V → Result V StrikeRefusal
  strike_of (Some value) = Ok value
  strike_of None = Err Absent

  abbrev pub strike_answer : Listing V → ℕ → Result V StrikeRefusal
  strike_answer l rank = strike_of (l.shown rank)

  -- no value at the rank, and all else as it was; all as it was where it is refused
  abbrev pub struck : Listing V → ℕ → Listing V
  struck l rank = cond (is_ok (strike_answer l rank)) (record { shown = update nat_eq l.shown rank None; count = l.count - 1; places = l.places }) l
