-- The refusals of a history.
use Rattle.std.specs.Prelude.{ℕ}
use Rattle.ordered_list.specs.declared.entry.EntryRefusal.{EntryRefusal}
use Rattle.ordered_list.specs.declared.entry.EntryRefusal.TheVariants as list
use Rattle.ordered_list.specs.declared.entry.StrikeRefusal.{StrikeRefusal}
use Rattle.ordered_list.specs.declared.entry.StrikeRefusal.TheVariants as struck
use Rattle.price_keeping.specs.declared.refusal.KeepRefusal.{KeepRefusal}
use Rattle.price_keeping.specs.declared.refusal.KeepRefusal.TheVariants.{Present, Full, Absent}
use Rattle.price_keeping.specs.declared.refusal.MemoryRefusal.{MemoryRefusal}
use Rattle.price_keeping.specs.declared.refusal.MemoryRefusal.TheVariants.{Short}

abbrev pub keep_number : KeepRefusal → ℕ
keep_number Present = 9
keep_number Absent = 10
keep_number Full = 11

abbrev pub memory_number : MemoryRefusal → ℕ
memory_number Short = 15

-- why an ordered list refuses, as why a history does
abbrev pub entry_told : EntryRefusal → KeepRefusal
entry_told list.Present = Present
entry_told list.Full = Full

abbrev pub strike_told : StrikeRefusal → KeepRefusal
strike_told struck.Absent = Absent
