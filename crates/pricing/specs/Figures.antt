-- The figures of priced periods, as plain numbers.
use Rattle.std.specs.Prelude.{ℕ, List, [], ◌∷◌, map, ℤ}
use Rattle.sheet.specs.declared.lines.Direction.TheVariants.{Up, Down}
use Rattle.offers.specs.declared.span.Span.TheVariants.{Quarter, Period}
use Rattle.offers.specs.declared.span.State.{State}
use Rattle.pricing.specs.declared.prices.SettlementPrices.{SettlementPrices}
use Rattle.pricing.specs.declared.prices.QuarterPrices.{QuarterPrices}
use Rattle.pricing.specs.declared.prices.PeriodPrices.{PeriodPrices}
use Rattle.pricing.specs.Cases.{Case}
use Rattle.pricing.specs.Prices.{Settled, state_in, marginal_price, limit_price, mean_price, settled}

abbrev pub settled_of : SettlementPrices → Settled
settled_of p = record { imsp = p.imsp.kop; up = p.up.kop; down = p.down.kop }

pub record QuarterFigures : Type 0 where
  pub state : State
  pub up : ℤ
  pub down : ℤ

pub record PeriodFigures : Type 0 where
  pub state : State
  pub quarters : List QuarterFigures
  pub limit_up : ℤ
  pub limit_down : ℤ
  pub mean_up : ℤ
  pub mean_down : ℤ
  pub settlement : Settled

abbrev pub quarter_of : QuarterPrices → QuarterFigures
quarter_of q = record { state = q.state; up = q.up.kop; down = q.down.kop }

abbrev pub period_of : PeriodPrices → PeriodFigures
period_of p = record {
  state = p.state;
  quarters = map quarter_of p.quarters;
  limit_up = p.limit_up.kop;
  limit_down = p.limit_down.kop;
  mean_up = p.mean_up.kop;
  mean_down = p.mean_down.kop;
  settlement = settled_of p.settlement;
}

abbrev pub quarter_figures : Case → ℕ → QuarterFigures
quarter_figures c q = record { state = state_in (Quarter q) c; up = marginal_price Up c q; down = marginal_price Down c q }

abbrev pub period_figures : Case → PeriodFigures
period_figures c = record {
  state = state_in Period c;
  quarters = map (quarter_figures c) (1 ∷ 2 ∷ 3 ∷ 4 ∷ []);
  limit_up = limit_price Up c;
  limit_down = limit_price Down c;
  mean_up = mean_price Up c;
  mean_down = mean_price Down c;
  settlement = settled c;
}
