-- Whether two lines are on one side.
use Rattle.std.specs.Prelude.{Bool, true, false}
use Rattle.sheet.specs.declared.lines.Direction.{Direction}
use Rattle.sheet.specs.declared.lines.Direction.TheVariants.{Up, Down}
use Rattle.sheet.specs.declared.lines.Position.{Position}
use Rattle.sheet.specs.declared.lines.Position.TheVariants.{Surplus, Shortage}

abbrev pub one_way : Direction → Direction → Bool
one_way Up Up = true
one_way Up Down = false
one_way Down Up = false
one_way Down Down = true

abbrev pub one_side : Position → Position → Bool
one_side Surplus Surplus = true
one_side Surplus Shortage = false
one_side Shortage Surplus = false
one_side Shortage Shortage = true
