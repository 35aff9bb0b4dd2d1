-- The figures of a sheet, its entries as lists.
use denote.Ref.{Bor}
use Rattle.std.specs.Prelude.{List, Option}
use Rattle.std.specs.Option.{option_map}
use Rattle.measures.specs.declared.price.Price.{Price}
use Rattle.measures.specs.declared.volume.PeriodVolume.{PeriodVolume}
use Rattle.sheet.specs.declared.lines.Offer.{Offer}
use Rattle.sheet.specs.declared.lines.UnitLine.{UnitLine}
use Rattle.sheet.specs.declared.lines.GroupLine.{GroupLine}
use Rattle.sheet.specs.declared.report.Sheet.{Sheet}
use Rattle.sheet.specs.Listed.{listed}

pub record Figures : Type 0 where
  pub day_ahead : Price
  pub forced : PeriodVolume
  pub offers : List Offer
  pub units : List UnitLine
  pub groups : List GroupLine

abbrev pub figures_of : Sheet → Figures
figures_of s = record {
  day_ahead = s.day_ahead;
  forced = s.forced;
  offers = listed s.offers;
  units = listed s.units;
  groups = listed s.groups;
}

-- those of a sheet that is lent, or none
abbrev pub figures_lent : Option (Bor Sheet) → Option Figures
figures_lent s = option_map (λ x. figures_of x.now) s
