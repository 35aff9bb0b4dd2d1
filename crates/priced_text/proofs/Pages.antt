-- The text of a priced sheet within its limits is at most 935 bytes long.
use Rattle.std.proofs.Common.{ℕ, suc, ◌*◌, ◌≤◌, Bool, true, false, cond, List, [], ◌∷◌, ◌++◌, length, ℤ, pos, negsuc, ◌-ℤ◌, ◌*ℤ◌, neg_ℤ, nat_abs, codes, ap, sum_by, arith, length-append}
use borrow.Author.Differences.{ints}
use Rattle.std.specs.List.{AllByRecursion}
use Rattle.std.proofs.lemmas.List.Sums.{sum_by-cons}
use Rattle.measures.proofs.Products.{product_within, times_neg}
use Rattle.sheet.specs.Sides.{one_way, one_side}
use Rattle.sheet.specs.Figures.{Figures}
use Rattle.sheet.specs.declared.lines.UnitLine.{UnitLine}
use Rattle.sheet.specs.declared.lines.GroupLine.{GroupLine}
use Rattle.sheet.specs.declared.lines.Direction.{Direction}
use Rattle.sheet.specs.declared.lines.Direction.TheVariants.{Up, Down}
use Rattle.sheet.specs.declared.lines.Position.{Position}
use Rattle.sheet.specs.declared.lines.Position.TheVariants.{Surplus, Shortage}
use Rattle.offers.specs.declared.span.State.{State}
use Rattle.pricing.specs.Prices.{Settled}
use Rattle.charges.specs.Charges.{unit_charge, group_charge}
use Rattle.charges.specs.Totals.{energy_in, imbalance_in, zone_totals}
use Rattle.charges.specs.Accounts.{units_account, groups_account}
use Rattle.priced_text.specs.Laws.{Listed}
use Rattle.priced_text.specs.Lines.{state_line}
use Rattle.priced_text.specs.Priced.{prices_text, units_text, groups_text, page_text}
use Rattle.priced_text.proofs.Longest.{state_length, prices_length, ChargesWithin, charges_length}

-- prices within their limit
pub record Limited (p : Settled) : Type 0 where
  pub imsp : nat_abs p.imsp ≤ 10000000
  pub up : nat_abs p.up ≤ 10000000
  pub down : nat_abs p.down ≤ 10000000

neg_size : (z : ℤ) (n : ℕ) → nat_abs z ≤ n → nat_abs (neg_ℤ z) ≤ n
neg_size z n h = omega (arith, ints)

unit_size : (u d : ℤ) (e : ℕ) (side : Direction) → nat_abs u ≤ 10000000 → nat_abs d ≤ 10000000 → e ≤ 1000000 → nat_abs (elim side [ Up ↦ u *ℤ pos e | Down ↦ neg_ℤ (d *ℤ pos e) ]) ≤ 10000000000000
unit_size u d e Up hu hd he = product_within 10000000 1000000 u e hu he
unit_size u d e Down hu hd he = neg_size (d *ℤ pos e) 10000000000000 (product_within 10000000 1000000 d e hd he)

signed_size : (p : ℤ) (e : ℕ) (side : Position) → nat_abs p ≤ 10000000 → e ≤ 1000000 → nat_abs (p *ℤ elim side [ Surplus ↦ pos e | Shortage ↦ neg_ℤ (pos e) ]) ≤ 10000000000000
signed_size p e Surplus h he = product_within 10000000 1000000 p e h he
signed_size p e Shortage h he =
    let small = neg_size (p *ℤ pos e) 10000000000000 (product_within 10000000 1000000 p e h he) in
    omega (arith, small, ap nat_abs (times_neg p (pos e)))

module _ (p : Settled) (l : Limited p) where
  units_within : (ls : List UnitLine) → AllByRecursion (λ x. x.unit ≤ 999) ls → ChargesWithin 999 (λ x. x.unit) (unit_charge p) ls
  units_within [] h = tt
  units_within (x ∷ xs) h = ((h.0, unit_size p.up p.down x.energy.kwh x.direction l.up l.down x.energy.limited), units_within xs h.1)

  groups_within : (ls : List GroupLine) → AllByRecursion (λ x. x.party ≤ 64) ls → ChargesWithin 64 (λ x. x.party) (group_charge p) ls
  groups_within [] h = tt
  groups_within (x ∷ xs) h = ((h.0, signed_size p.imsp x.imbalance.kwh x.position l.imsp x.imbalance.limited), groups_within xs h.1)

part_within : (b : Bool) (n most : ℕ) → n ≤ most → cond b n 0 ≤ most
part_within true n most h = h
part_within false n most h = omega arith

energy_within : (d : Direction) (ls : List UnitLine) → sum_by (energy_in d) ls ≤ 1000000 * length ls
energy_within d [] = omega arith
energy_within d (x ∷ xs) = omega (arith, sum_by-cons (energy_in d) x xs, energy_within d xs, part_within (one_way x.direction d) x.energy.kwh 1000000 x.energy.limited)

imbalance_within : (s : Position) (ls : List GroupLine) → sum_by (imbalance_in s) ls ≤ 1000000 * length ls
imbalance_within s [] = omega arith
imbalance_within s (x ∷ xs) = omega (arith, sum_by-cons (imbalance_in s) x xs, imbalance_within s xs, part_within (one_side x.position s) x.imbalance.kwh 1000000 x.imbalance.limited)

-- the size of a price times a difference of volumes
difference_size : (p : ℤ) (m n : ℕ) → nat_abs p ≤ 10000000 → m ≤ 16000000 → n ≤ 16000000 → nat_abs (neg_ℤ (p *ℤ (pos m -ℤ pos n))) ≤ 320000000000000
difference_size p m n h hm hn =
    let size : nat_abs (pos m -ℤ pos n) ≤ 16000000 = omega (arith, ints) in
    let both = signed_product p (pos m -ℤ pos n) h size in
    neg_size (p *ℤ (pos m -ℤ pos n)) 320000000000000 (omega arith)
  where
    signed_product : (p z : ℤ) → nat_abs p ≤ 10000000 → nat_abs z ≤ 16000000 → nat_abs (p *ℤ z) ≤ 160000000000000
    signed_product p (pos v) h k = product_within 10000000 16000000 p v h k
    signed_product p (negsuc v) h k = omega (arith, product_within 10000000 16000000 p (suc v) h k, neg_size (p *ℤ pos (suc v)) 160000000000000 (product_within 10000000 16000000 p (suc v) h k), ap nat_abs (times_neg p (pos (suc v))))

module _ (p : Settled) (s : Figures) (l : Limited p) (h : Listed s) where
  units_account_size : nat_abs (units_account p (zone_totals s)) ≤ 320000000000000
  units_account_size =
      let up = product_within 10000000 16000000 p.up (sum_by (energy_in Up) s.units) l.up (let few = h.few_units in omega (arith, energy_within Up s.units)) in
      let down = product_within 10000000 16000000 p.down (sum_by (energy_in Down) s.units) l.down (let few = h.few_units in omega (arith, energy_within Down s.units)) in
      omega (arith, ints, up, down)

  groups_account_size : nat_abs (groups_account p (zone_totals s)) ≤ 320000000000000
  groups_account_size =
      let few = h.few_groups in
      difference_size p.imsp (sum_by (imbalance_in Surplus) s.groups) (sum_by (imbalance_in Shortage) s.groups) l.imsp
      (omega (arith, imbalance_within Surplus s.groups)) (omega (arith, imbalance_within Shortage s.groups))

  units_length : length (units_text p s) ≤ 435
  units_length = charges_length 3 999 (omega arith) (omega arith) (omega arith) (λ (x : UnitLine). x.unit) (unit_charge p) (codes "UNITS ") (codes "A-A ") s.units _ (units_within p l s.units h.units) h.few_units units_account_size

  groups_length : length (groups_text p s) ≤ 420
  groups_length = charges_length 2 64 (omega arith) (omega arith) (omega arith) (λ (x : GroupLine). x.party) (group_charge p) (codes "GROUPS ") (codes "A-B ") s.groups _ (groups_within p l s.groups h.groups) h.few_groups groups_account_size

  pub page_length : (st : State) → length (page_text st p s) ≤ 935
  page_length st =
      let end = codes "END\n" in
      omega (
        arith,
        length-append (state_line st) (prices_text p ++ (units_text p s ++ (groups_text p s ++ end))),
        length-append (prices_text p) (units_text p s ++ (groups_text p s ++ end)),
        length-append (units_text p s) (groups_text p s ++ end),
        length-append (groups_text p s) end,
        state_length st,
        prices_length p l.imsp l.up l.down,
        units_length,
        groups_length,
      )
