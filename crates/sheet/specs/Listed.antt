-- What a list of a fixed number of places holds.
use Rattle.std.specs.Prelude.{ℕ, List, take}
use Rattle.sheet.specs.declared.entries.Entries.{Entries}

module _ {T : Type 0} {N : ℕ} where
  abbrev pub listed : Entries T N → List T
  listed e = take e.len e.items
