-- What each field says.
use Rattle.std.specs.Prelude.{ℕ, Bool, true, false, cond, List, length, Some, None, codes, Option, ◌==◌, slice_index}
use Prim.Native.String.{String}
use Rattle.measures.specs.declared.price.Price.{Price}
use Rattle.measures.specs.declared.volume.PeriodVolume.{PeriodVolume}
use Rattle.measures.specs.declared.volume.Volume.{Volume}
use Rattle.measures.specs.Limits.{volume_of, period_volume_of, price_of}
use Rattle.sheet.specs.declared.lines.Direction.{Direction}
use Rattle.sheet.specs.declared.lines.Direction.TheVariants.{Up, Down}
use Rattle.sheet.specs.declared.lines.Position.{Position}
use Rattle.sheet.specs.declared.lines.Position.TheVariants.{Surplus, Shortage}
use Rattle.text.specs.Numbers.{number, within, signed, sized}

-- the byte of a letter
abbrev pub byte : String → ℕ
byte letter = slice_index (codes letter) 0

-- one of two letters, alone
abbrev pub either : {A : Type 0} → String → A → String → A → List ℕ → Option A
either a x b y field = cond (length field == 1) (cond (slice_index field 0 == byte a) (Some x) (cond (slice_index field 0 == byte b) (Some y) None)) None

abbrev pub direction_field : List ℕ → Option Direction
direction_field field = either "U" Up "D" Down field

abbrev pub position_field : List ℕ → Option Position
position_field field = either "+" Surplus "-" Shortage field

abbrev pub constraint_field : List ℕ → Option Bool
constraint_field field = either "C" true "-" false field

-- what is made of a value, where there is one
abbrev pub from : {A B : Type 0} → Option A → (A → Option B) → Option B
from None make = None
from (Some x) make = make x

abbrev pub volume_field : ℕ → List ℕ → Option Volume
volume_field least field = from (within least 1000000 (number field)) volume_of

abbrev pub period_volume_field : List ℕ → Option PeriodVolume
period_volume_field field = from (within 0 10000000 (number field)) period_volume_of

abbrev pub price_field : List ℕ → Option Price
price_field field = from (sized 10000000 (signed field)) price_of

-- a shortage is not 0
abbrev pub imbalance_field : Position → List ℕ → Option Volume
imbalance_field Surplus field = volume_field 0 field
imbalance_field Shortage field = volume_field 1 field
