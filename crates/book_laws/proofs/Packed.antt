-- A sheet that was read and put on the shelf is in force.
use Rattle.std.proofs.Common.{◌≡◌, ℕ, ◌≤◌, Bool, true, leb, List, [], ◌∷◌, ◌++◌, length, replicate, Some, refl, ap, ◌∙◌}
use lib.Seq.{take-append_seam}
use Rattle.std.specs.List.{list_all, AllByRecursion}
use Rattle.std.proofs.lemmas.List.{take-take}
use Rattle.std.proofs.lemmas.Bool.{cond-true, and_from, le-leb}
use Rattle.measures.specs.Calendar.{between}
use Rattle.sheet.specs.Figures.{Figures, figures_of}
use Rattle.sheet.specs.Listed.{listed}
use Rattle.sheet.specs.declared.lines.Offer.{Offer}
use Rattle.sheet.specs.declared.lines.UnitLine.{UnitLine}
use Rattle.sheet.specs.declared.lines.GroupLine.{GroupLine}
use Rattle.sheet_laws.specs.Laws.{Between, OfferWithin, UnitWithin, GroupWithin, WithinLimits}
use Rattle.sheet_text.specs.Reading.{Reported}
use Rattle.shelf.specs.Packed.{packed, packed_sheet}
use Rattle.sheet.specs.Fillers.{no_offer, no_unit, no_group}
use Rattle.shelf.specs.Rows.{offer_within, unit_within, group_within, sheet_within, sheet_on}

listed_packed : {T : Type 0} (N : ℕ) (filler : T) (xs : List T) → length xs ≤ N → listed (packed {N = N} filler xs) ≡ xs
listed_packed N filler xs few = take-take (length xs) N (xs ++ replicate N filler) few ∙ take-append_seam xs (replicate N filler)

pub figures_packed : (f : Figures) → length f.offers ≤ 24 → length f.units ≤ 16 → length f.groups ≤ 16 → figures_of (packed_sheet f) ≡ f
figures_packed f offers units groups = λ i. record {
  day_ahead = f.day_ahead;
  forced = f.forced;
  offers = listed_packed 24 no_offer f.offers offers i;
  units = listed_packed 16 no_unit f.units units i;
  groups = listed_packed 16 no_group f.groups groups i;
}

between_from : (a b n : ℕ) → Between a b n → between a b n ≡ true
between_from a b n h = and_from (leb a n) (leb n b) (le-leb a n h.0) (le-leb n b h.1)

all_from : {X : Type 0} (P : X → Type 0) (p : X → Bool) → ((x : X) → P x → p x ≡ true) → (xs : List X) → AllByRecursion P xs → list_all p xs ≡ true
all_from P p each [] all = refl
all_from P p each (x ∷ xs) all = and_from (p x) (list_all p xs) (each x all.0) (all_from P p each xs all.1)

offer_from : (o : Offer) → OfferWithin o → offer_within o ≡ true
offer_from o h = and_from (between 1 4 o.quarter) _ (between_from 1 4 o.quarter h.quarter) (and_from (between 1 999 o.unit) _ (between_from 1 999 o.unit h.unit) (le-leb 1 o.volume.kwh h.volume.0))

unit_from : (u : UnitLine) → UnitWithin u → unit_within u ≡ true
unit_from u h = between_from 1 999 u.unit h.unit

group_from : (g : GroupLine) → GroupWithin g → group_within g ≡ true
group_from g h = between_from 1 64 g.party h.party

pub sheet_packed : (r : Reported) → WithinLimits r → sheet_on (Some (packed_sheet r.figures)) ≡ Some r.figures
sheet_packed r w =
    let f = r.figures in
    let s = packed_sheet f in
    let offers : list_all offer_within (listed s.offers) ≡ true = ap (list_all offer_within) (listed_packed 24 no_offer f.offers w.few_offers) ∙ all_from OfferWithin offer_within offer_from f.offers w.offers in
    let units : list_all unit_within (listed s.units) ≡ true = ap (list_all unit_within) (listed_packed 16 no_unit f.units w.few_units) ∙ all_from UnitWithin unit_within unit_from f.units w.units in
    let groups : list_all group_within (listed s.groups) ≡ true = ap (list_all group_within) (listed_packed 16 no_group f.groups w.few_groups) ∙ all_from GroupWithin group_within group_from f.groups w.groups in
    let within : sheet_within s ≡ true =
    and_from (leb (length f.offers) 24) _ (le-leb _ _ w.few_offers)
    (and_from (leb (length f.units) 16) _ (le-leb _ _ w.few_units)
    (and_from (leb (length f.groups) 16) _ (le-leb _ _ w.few_groups)
    (and_from (list_all offer_within (listed s.offers)) _ offers
    (and_from (list_all unit_within (listed s.units)) _ units groups)))) in
    cond-true (sheet_within s) _ _ within ∙ ap (λ x. Some x) (figures_packed f w.few_offers w.few_units w.few_groups)
