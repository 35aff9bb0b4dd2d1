-- What stands on a place of the shelf.
use Rattle.std.specs.Prelude.{Bool, cond, ◌&&◌, Some, None, Option, nat_le}
use Rattle.std.specs.List.{list_all}
use Rattle.measures.specs.Calendar.{between}
use Rattle.sheet.specs.Figures.{Figures, figures_of}
use Rattle.sheet.specs.Listed.{listed}
use Rattle.sheet.specs.declared.lines.Offer.{Offer}
use Rattle.sheet.specs.declared.lines.UnitLine.{UnitLine}
use Rattle.sheet.specs.declared.lines.GroupLine.{GroupLine}
use Rattle.sheet.specs.declared.report.Sheet.{Sheet}

-- quarters are 1 to 4, units 1 to 999, parties 1 to 64, and no offer is for nothing;
-- the limits of volumes and prices are kept by their types
abbrev pub offer_within : Offer → Bool
offer_within o = between 1 4 o.quarter && (between 1 999 o.unit && nat_le 1 o.volume.kwh)

abbrev pub unit_within : UnitLine → Bool
unit_within u = between 1 999 u.unit

abbrev pub group_within : GroupLine → Bool
group_within g = between 1 64 g.party

-- no count and no figure is beyond its limit
abbrev pub sheet_within : Sheet → Bool
sheet_within s =
    nat_le s.offers.len 24
    && (nat_le s.units.len 16
    && (nat_le s.groups.len 16
    && (list_all offer_within (listed s.offers)
    && (list_all unit_within (listed s.units)
    && list_all group_within (listed s.groups)))))

-- a row with a figure or a count beyond its limit is one without a sheet
abbrev pub sheet_on : Option Sheet → Option Figures
sheet_on None = None
sheet_on (Some s) = cond (sheet_within s) (Some (figures_of s)) None
