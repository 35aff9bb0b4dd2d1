-- What a period is priced from: a sheet, its place, and what a history shows.
use Rattle.std.specs.Prelude.{ℕ}
use Rattle.price_history.specs.Views.{View}
use Rattle.sheet.specs.Figures.{Figures, figures_of}
use Rattle.sheet.specs.declared.place.Place.{Place}
use Rattle.sheet.specs.declared.report.Sheet.{Sheet}
use Rattle.pricing.specs.declared.case.Case.{Case as Lent}

pub record Case : Type 0 where
  pub view : View
  pub zone : ℕ
  pub day : ℕ
  pub period : ℕ
  pub sheet : Figures

abbrev pub case : View → Place → Sheet → Case
case view place sheet = record { view = view; zone = place.zone; day = place.day; period = place.period; sheet = figures_of sheet }

-- the case of a sheet, its place and a history, where view tells what a history shows
abbrev pub case_of : {H : Type 0} → (H → View) → Lent H → Case
case_of view c = case (view c.history.now) c.place c.sheet.now
