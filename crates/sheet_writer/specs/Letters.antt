-- The letters that stand for a direction, a position and a constraint.
use Rattle.std.specs.Prelude.{ℕ, Bool, true, false, List, codes}
use Rattle.sheet.specs.declared.lines.Direction.{Direction}
use Rattle.sheet.specs.declared.lines.Direction.TheVariants.{Up, Down}
use Rattle.sheet.specs.declared.lines.Position.{Position}
use Rattle.sheet.specs.declared.lines.Position.TheVariants.{Surplus, Shortage}

abbrev pub direction_letter : Direction → List ℕ
direction_letter Up = codes "U"
direction_letter Down = codes "D"

abbrev pub position_letter : Position → List ℕ
position_letter Surplus = codes "+"
position_letter Shortage = codes "-"

abbrev pub constraint_letter : Bool → List ℕ
constraint_letter true = codes "C"
constraint_letter false = codes "-"
