-- The refusal of a change.
use Rattle.std.specs.Prelude.{ℕ}
use Rattle.price_changes.specs.declared.refusal.ChangeRefusal.{ChangeRefusal}
use Rattle.price_changes.specs.declared.refusal.ChangeRefusal.TheVariants.{Full}

abbrev pub change_number : ChangeRefusal → ℕ
change_number Full = 11
