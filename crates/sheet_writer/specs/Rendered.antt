-- The text of a sheet.
use Rattle.std.specs.Prelude.{ℕ, List, [], ◌∷◌, ◌++◌, length, codes, decimal}
use Rattle.std.specs.List.{flat_map}
use Rattle.std.specs.Fmt.{signed_decimal}
use Rattle.measures.specs.declared.price.Price.{Price}
use Rattle.measures.specs.declared.volume.PeriodVolume.{PeriodVolume}
use Rattle.sheet.specs.Figures.{Figures, figures_of}
use Rattle.sheet.specs.declared.lines.Offer.{Offer}
use Rattle.sheet.specs.declared.lines.UnitLine.{UnitLine}
use Rattle.sheet.specs.declared.lines.GroupLine.{GroupLine}
use Rattle.sheet.specs.declared.place.Place.{Place}
use Rattle.sheet.specs.declared.report.Sheet.{Sheet}
use Rattle.sheet_writer.specs.Letters.{direction_letter, position_letter, constraint_letter}

-- fields, with one space between each two
abbrev pub spaced : List (List ℕ) → List ℕ
spaced [] = []
spaced (f ∷ []) = f
spaced (f ∷ g ∷ fs) = f ++ (codes " " ++ spaced (g ∷ fs))

abbrev pub line : List (List ℕ) → List ℕ
line fields = spaced fields ++ codes "\n"

-- PERIOD zone day period
abbrev pub period_fields : ℕ → ℕ → ℕ → List (List ℕ)
period_fields zone day period = codes "PERIOD" ∷ decimal zone ∷ decimal day ∷ decimal period ∷ []

-- DAM price kop/MWh
abbrev pub day_ahead_fields : Price → List (List ℕ)
day_ahead_fields p = codes "DAM" ∷ signed_decimal p.kop ∷ codes "kop/MWh" ∷ []

-- FORCED volume kWh H
abbrev pub forced_fields : PeriodVolume → List (List ℕ)
forced_fields v = codes "FORCED" ∷ decimal v.kwh ∷ codes "kWh" ∷ codes "H" ∷ []

-- quarter U|D unit volume kWh price kop/MWh C|-
abbrev pub offer_fields : Offer → List (List ℕ)
offer_fields o =
    decimal o.quarter
    ∷ direction_letter o.direction
    ∷ decimal o.unit
    ∷ decimal o.volume.kwh
    ∷ codes "kWh"
    ∷ signed_decimal o.price.kop
    ∷ codes "kop/MWh"
    ∷ constraint_letter o.constrained
    ∷ []

-- unit U|D energy kWh
abbrev pub unit_fields : UnitLine → List (List ℕ)
unit_fields u = decimal u.unit ∷ direction_letter u.direction ∷ decimal u.energy.kwh ∷ codes "kWh" ∷ []

-- party +|- imbalance kWh
abbrev pub group_fields : GroupLine → List (List ℕ)
group_fields g = decimal g.party ∷ position_letter g.position ∷ decimal g.imbalance.kwh ∷ codes "kWh" ∷ []

-- a section's keyword and the number of its entries
abbrev pub count_fields : List ℕ → ℕ → List (List ℕ)
count_fields keyword n = keyword ∷ decimal n ∷ []

abbrev pub end_fields : List (List ℕ)
end_fields = codes "END" ∷ []

-- the line with the number of the entries, and a line for each
abbrev pub list_text : {A : Type 0} → List ℕ → (A → List (List ℕ)) → List A → List ℕ
list_text keyword fields xs = line (count_fields keyword (length xs)) ++ flat_map (λ x. line (fields x)) xs

abbrev pub head_text : ℕ → ℕ → ℕ → Figures → List ℕ
head_text zone day period s =
    line (period_fields zone day period)
    ++ (line (day_ahead_fields s.day_ahead)
    ++ line (forced_fields s.forced))

-- what is written of a sheet, by the zone, the day and the period that it is for
unfoldable pub rendered : ℕ → ℕ → ℕ → Figures → List ℕ
rendered zone day period s =
    head_text zone day period s
    ++ (list_text (codes "OFFERS") offer_fields s.offers
    ++ (list_text (codes "UNITS") unit_fields s.units
    ++ (list_text (codes "GROUPS") group_fields s.groups
    ++ line end_fields)))

abbrev pub text_of_sheet : Place → Sheet → List ℕ
text_of_sheet p s = rendered p.zone p.day p.period (figures_of s)
