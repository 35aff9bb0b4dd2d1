-- What a reader comes to from where it stands, for the contracts of its parts.
use Rattle.std.specs.Prelude.{◌≡◌, ℕ, ◌+◌, ◌≤◌, List, [], Ok, Err, Result, MatchResult}
use Rattle.sheet.specs.declared.lines.GroupLine.{GroupLine}
use Rattle.sheet.specs.declared.lines.Offer.{Offer}
use Rattle.sheet.specs.declared.lines.UnitLine.{UnitLine}
use Rattle.sheet_text.specs.Faults.{fault_in}
use Rattle.sheet_text.specs.Lines.{three, four, eight, period_line, day_ahead_line, forced_line, offer_line, unit_line, group_line}
use Rattle.sheet_text.specs.Reading.{Left, Reported, then, a_line, entries, a_list, the_end, inside}
use Rattle.sheet_text.specs.Reported.{plain}
use Rattle.sheet_text.specs.Standing.{left}
use Rattle.sheet_text.specs.Steps.{step, next_stage, most_entries, with_place, with_day_ahead, with_forced}
use Rattle.sheet_text.specs.declared.draft.Stage.{Stage}
use Rattle.sheet_text.specs.declared.draft.Stage.TheVariants as stage
use Rattle.sheet_text.specs.declared.faults.LineFault.{LineFault}
use Rattle.sheet_text.specs.declared.faults.Section.{Section}
use Rattle.sheet_text.specs.declared.faults.Section.TheVariants.{Head, Offers, Units, Groups, End}
use Rattle.sheet_text.specs.declared.faults.SheetFault.{SheetFault}
use Rattle.sheet_text.specs.declared.raised.FaultIn.{FaultIn}
use Rattle.sheet_text.specs.declared.reader.Reader.{Reader}

abbrev pub with_offers : Reported → List Offer → Reported
with_offers r xs = record {
  zone = r.zone;
  day = r.day;
  period = r.period;
  figures = record { day_ahead = r.figures.day_ahead; forced = r.figures.forced; offers = xs; units = r.figures.units; groups = r.figures.groups };
}

abbrev pub with_units : Reported → List UnitLine → Reported
with_units r xs = record {
  zone = r.zone;
  day = r.day;
  period = r.period;
  figures = record { day_ahead = r.figures.day_ahead; forced = r.figures.forced; offers = r.figures.offers; units = xs; groups = r.figures.groups };
}

abbrev pub with_groups : Reported → List GroupLine → Reported
with_groups r xs = record {
  zone = r.zone;
  day = r.day;
  period = r.period;
  figures = record { day_ahead = r.figures.day_ahead; forced = r.figures.forced; offers = r.figures.offers; units = r.figures.units; groups = xs };
}

abbrev pub from_end : Reported → Left → Result Reported SheetFault
from_end r c = inside End (the_end c) (λ _ c. Ok r)

abbrev pub from_groups : Reported → Left → Result Reported SheetFault
from_groups r c = inside Groups (a_list (λ before. four (group_line before)) (λ g. g.party) "GROUPS" 16 c) (λ xs c. from_end (with_groups r xs) c)

abbrev pub from_units : Reported → Left → Result Reported SheetFault
from_units r c = inside Units (a_list (λ before. four (unit_line before)) (λ u. u.unit) "UNITS" 16 c) (λ xs c. from_groups (with_units r xs) c)

abbrev pub from_offers : Reported → Left → Result Reported SheetFault
from_offers r c = inside Offers (a_list (λ _. eight offer_line) (λ _. 0) "OFFERS" 24 c) (λ xs c. from_units (with_offers r xs) c)

abbrev pub from_forced : Reported → Left → Result Reported SheetFault
from_forced r c = inside Head (a_line (four forced_line) c) (λ v c. from_offers (with_forced r v) c)

abbrev pub from_day_ahead : Reported → Left → Result Reported SheetFault
from_day_ahead r c = inside Head (a_line (three day_ahead_line) c) (λ p c. from_forced (with_day_ahead r p) c)

abbrev pub from_period : Reported → Left → Result Reported SheetFault
from_period r c = inside Head (a_line (four period_line) c) (λ p c. from_day_ahead (with_place r p) c)

abbrev pub from_stage : Stage → Reported → Left → Result Reported SheetFault
from_stage stage.Period r c = from_period r c
from_stage stage.DayAhead r c = from_day_ahead r c
from_stage stage.Forced r c = from_forced r c
from_stage stage.Offers r c = from_offers r c
from_stage stage.Units r c = from_units r c
from_stage stage.Groups r c = from_groups r c
from_stage stage.End r c = from_end r c
from_stage stage.Done r c = Ok r

abbrev pub outcome : Reader → Result Reported SheetFault
outcome r = from_stage r.draft.stage (plain r.draft.report) (left r.cursor)

-- a reader awaits what the stage says, at that line at the latest
abbrev pub At : Reader → Stage → ℕ → Type 0
At r s l = (r.draft.stage ≡ s) × (r.cursor.line ≤ l)

-- the awaited line takes one reader to the other, and n entries follow it
abbrev pub Takes : Reader → Reader → ℕ → Type 0
Takes a b n =
    (a_line (step a.draft.stage (plain a.draft.report)) (left a.cursor) ≡ Ok ((plain b.draft.report, n), left b.cursor))
    × (b.draft.stage ≡ next_stage a.draft.stage)
    × (n ≤ most_entries a.draft.stage)
    × (b.cursor.line ≡ a.cursor.line + 1)

abbrev pub Refuses : Reader → LineFault → Type 0
Refuses a e = a_line (step a.draft.stage (plain a.draft.report)) (left a.cursor) ≡ Err e

-- one reader comes to the same as the other, and has gone on
abbrev pub Reaches : Reader → Reader → Stage → ℕ → Type 0
Reaches a b s l = (outcome b ≡ outcome a) × (b.draft.stage ≡ s) × (b.cursor.line ≤ l)

-- a part of a sheet is read on to a stage, or there is a fault in it
abbrev pub ReadsOn : {P : Type 0} → Section → Reader → Reader → Stage → ℕ → Result (Unit {0}) (FaultIn P) → Type 0
ReadsOn part a b s l r = MatchResult r (λ _. Reaches a b s l) (λ e. outcome a ≡ Err (fault_in part e.fault))

module _ {A : Type 0} (says : ℕ → ℕ → List (List ℕ) → Result A LineFault) (order : A → ℕ) where
  -- the report with what the awaited line says, and the entries that follow the line
  abbrev pub list_step : Stage → Reported → Left → Result ((Reported × List A) × Left) LineFault
  list_step st r s = then (a_line (step st r) s) (λ n. then (entries says order n.0.1 0 [] n.1) (λ xs. Ok ((n.0.0, xs.0), xs.1)))

  -- the awaited line and its entries take one reader to the other
  abbrev pub TakesList : Reader → Reader → List A → Type 0
  TakesList a b xs =
      (list_step a.draft.stage (plain a.draft.report) (left a.cursor) ≡ Ok ((plain b.draft.report, xs), left b.cursor))
      × (b.draft.stage ≡ next_stage a.draft.stage)
      × (b.cursor.line ≤ a.cursor.line + 1 + most_entries a.draft.stage)

  abbrev pub RefusesList : Reader → LineFault → Type 0
  RefusesList a e = list_step a.draft.stage (plain a.draft.report) (left a.cursor) ≡ Err e
