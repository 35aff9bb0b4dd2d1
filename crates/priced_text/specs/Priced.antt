-- The text of a priced period.
use Rattle.std.specs.Prelude.{ℕ, List, ◌++◌, length, ℤ, codes}
use Rattle.std.specs.List.{flat_map}
use Rattle.sheet.specs.Figures.{Figures}
use Rattle.sheet.specs.declared.lines.UnitLine.{UnitLine}
use Rattle.sheet.specs.declared.lines.GroupLine.{GroupLine}
use Rattle.offers.specs.declared.span.State.{State}
use Rattle.offers.specs.declared.span.Span.TheVariants.{Period}
use Rattle.pricing.specs.Cases.{Case}
use Rattle.pricing.specs.Prices.{Settled, settled, state_in}
use Rattle.charges.specs.Charges.{unit_charge, group_charge}
use Rattle.charges.specs.Totals.{zone_totals}
use Rattle.charges.specs.Accounts.{units_account, groups_account}
use Rattle.priced_text.specs.Lines.{state_line, price_line, money_line, count_line, charge_line}

abbrev pub prices_text : Settled → List ℕ
prices_text p = price_line (codes "IMSP ") p.imsp ++ (price_line (codes "UP ") p.up ++ price_line (codes "DOWN ") p.down)

-- how many lines are charged, each charge, and the account that balances them
abbrev pub charges_text : {L : Type 0} → List ℕ → (L → ℕ) → (L → ℤ) → List L → List ℕ → ℤ → List ℕ
charges_text name number charge ls account sum =
    count_line name (length ls) ++ (flat_map (λ l. charge_line (number l) (charge l)) ls ++ money_line account sum)

abbrev pub units_text : Settled → Figures → List ℕ
units_text p s = charges_text (codes "UNITS ") (λ (l : UnitLine). l.unit) (unit_charge p) s.units (codes "A-A ") (units_account p (zone_totals s))

abbrev pub groups_text : Settled → Figures → List ℕ
groups_text p s = charges_text (codes "GROUPS ") (λ (l : GroupLine). l.party) (group_charge p) s.groups (codes "A-B ") (groups_account p (zone_totals s))

abbrev pub page_text : State → Settled → Figures → List ℕ
page_text st p s = state_line st ++ (prices_text p ++ (units_text p s ++ (groups_text p s ++ codes "END\n")))

-- what is printed of a case
unfoldable pub text_of_priced : Case → List ℕ
text_of_priced c = page_text (state_in Period c) (settled c) c.sheet
