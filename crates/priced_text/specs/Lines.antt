-- The lines of a priced period.
use Rattle.std.specs.Prelude.{ℕ, List, ◌++◌, ℤ, codes, decimal}
use Rattle.std.specs.Fmt.{signed_decimal}
use Rattle.offers.specs.declared.span.State.{State}
use Rattle.offers.specs.declared.span.State.TheVariants.{Deficit, Surplus, Balanced}

abbrev pub state_line : State → List ℕ
state_line Deficit = codes "DEFICIT\n"
state_line Surplus = codes "SURPLUS\n"
state_line Balanced = codes "BALANCED\n"

abbrev pub price_line : List ℕ → ℤ → List ℕ
price_line name price = name ++ (signed_decimal price ++ codes " kop/MWh\n")

abbrev pub money_line : List ℕ → ℤ → List ℕ
money_line name money = name ++ (signed_decimal money ++ codes " mkop\n")

abbrev pub count_line : List ℕ → ℕ → List ℕ
count_line name n = name ++ (decimal n ++ codes "\n")

-- under the number of a unit or of a party
abbrev pub charge_line : ℕ → ℤ → List ℕ
charge_line number charge = decimal number ++ (codes " " ++ (signed_decimal charge ++ codes " mkop\n"))
