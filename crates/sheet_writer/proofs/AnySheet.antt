-- The text of any sheet fits the page, whatever its numbers are.
use Rattle.std.proofs.Common.{ℕ, ◌≤◌, List, [], ◌∷◌, length, arith, length-take}
use Rattle.std.specs.List.{AllByRecursion}
use Rattle.sheet.specs.Figures.{figures_of}
use Rattle.sheet.specs.Listed.{listed}
use Rattle.sheet.specs.declared.entries.Entries.{Entries}
use Rattle.sheet.specs.declared.place.Place.{Place}
use Rattle.sheet.specs.declared.report.Sheet.{Sheet}
use Rattle.sheet_writer.specs.Rendered.{text_of_sheet}
use Rattle.sheet_writer.proofs.Longest.{OfferDigits, UnitDigits, GroupDigits, any_number, rendered_length}

all_any : {X : Type 0} (P : X → Type 0) → ((x : X) → P x) → (xs : List X) → AllByRecursion P xs
all_any P h [] = tt
all_any P h (x ∷ xs) = (h x, all_any P h xs)

few : {T : Type 0} (N : ℕ) (e : Entries T N) → length (listed e) ≤ N
few N e = omega (arith, length-take e.len e.items, e.full)

pub any_length : (p : Place) (s : Sheet) → length (text_of_sheet p s) ≤ 6556
any_length p s = rendered_length p.zone p.day p.period p.zone_to p.day_to p.period_to (figures_of s) 64 64 64 64 (record {
  offers = all_any (OfferDigits 64 64) (λ o. (any_number o.quarter, any_number o.unit)) (listed s.offers);
  units = all_any (UnitDigits 64) (λ u. any_number u.unit) (listed s.units);
  groups = all_any (GroupDigits 64) (λ g. any_number g.party) (listed s.groups);
  few_offers = few 24 s.offers;
  few_units = few 16 s.units;
  few_groups = few 16 s.groups;
})
