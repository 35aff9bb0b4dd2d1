-- What the awaited line does to a draft, for the contracts of the reader's parts.
use Rattle.std.specs.Prelude.{ℕ, List, Ok, Err, codes, Result}
use Rattle.measures.specs.declared.price.Price.{Price}
use Rattle.measures.specs.declared.volume.PeriodVolume.{PeriodVolume}
use Rattle.sheet_text.specs.Faults.{fault_at}
use Rattle.sheet_text.specs.Lines.{one, two, three, four, period_line, day_ahead_line, forced_line, count_line, end_line}
use Rattle.sheet_text.specs.Reading.{Reported, then}
use Rattle.sheet_text.specs.declared.draft.Stage.{Stage}
use Rattle.sheet_text.specs.declared.draft.Stage.TheVariants.{Period, DayAhead, Forced, Offers, Units, Groups, End, Done}
use Rattle.sheet_text.specs.declared.faults.FaultKind.TheVariants.{Layout}
use Rattle.sheet_text.specs.declared.faults.LineFault.{LineFault}

abbrev pub with_place : Reported → ℕ × ℕ × ℕ → Reported
with_place r p = record { zone = p.0; day = p.1; period = p.2; figures = r.figures }

abbrev pub with_day_ahead : Reported → Price → Reported
with_day_ahead r p = record {
  zone = r.zone;
  day = r.day;
  period = r.period;
  figures = record { day_ahead = p; forced = r.figures.forced; offers = r.figures.offers; units = r.figures.units; groups = r.figures.groups };
}

abbrev pub with_forced : Reported → PeriodVolume → Reported
with_forced r v = record {
  zone = r.zone;
  day = r.day;
  period = r.period;
  figures = record { day_ahead = r.figures.day_ahead; forced = v; offers = r.figures.offers; units = r.figures.units; groups = r.figures.groups };
}

-- the report with what the line says, and the number of entries that follow the line
abbrev pub step : Stage → Reported → ℕ → List (List ℕ) → Result (Reported × ℕ) LineFault
step Period r l fields = then (four period_line l fields) (λ p. Ok (with_place r p, 0))
step DayAhead r l fields = then (three day_ahead_line l fields) (λ p. Ok (with_day_ahead r p, 0))
step Forced r l fields = then (four forced_line l fields) (λ v. Ok (with_forced r v, 0))
step Offers r l fields = then (two (count_line (codes "OFFERS") 24) l fields) (λ n. Ok (r, n))
step Units r l fields = then (two (count_line (codes "UNITS") 16) l fields) (λ n. Ok (r, n))
step Groups r l fields = then (two (count_line (codes "GROUPS") 16) l fields) (λ n. Ok (r, n))
step End r l fields = then (one end_line l fields) (λ _. Ok (r, 0))
step Done r l fields = Err (fault_at Layout l 0)

abbrev pub next_stage : Stage → Stage
next_stage Period = DayAhead
next_stage DayAhead = Forced
next_stage Forced = Offers
next_stage Offers = Units
next_stage Units = Groups
next_stage Groups = End
next_stage End = Done
next_stage Done = Done

abbrev pub most_entries : Stage → ℕ
most_entries Period = 0
most_entries DayAhead = 0
most_entries Forced = 0
most_entries Offers = 24
most_entries Units = 16
most_entries Groups = 16
most_entries End = 0
most_entries Done = 0
