-- The refusals of the register.
use Rattle.std.specs.Prelude.{ℕ}
use Rattle.ordered_list.specs.declared.entry.EntryRefusal.{EntryRefusal}
use Rattle.ordered_list.specs.declared.entry.EntryRefusal.TheVariants as list
use Rattle.register.specs.declared.refusal.RegisterRefusal.{RegisterRefusal}
use Rattle.register.specs.declared.refusal.RegisterRefusal.TheVariants.{Limits, Present, Full}

abbrev pub refusal_number : RegisterRefusal → ℕ
refusal_number Limits = 14
refusal_number Present = 9
refusal_number Full = 11

-- why an ordered list refuses, as why the register does
abbrev pub entry_told : EntryRefusal → RegisterRefusal
entry_told list.Present = Present
entry_told list.Full = Full
