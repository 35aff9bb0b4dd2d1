use Rattle.measures.proofs.Kept.{within}
use Rattle.measures.proofs.volume.PeriodVolume.new.Goals as goal

pub returns-then-kwh-le-MOST_IN_PERIOD : goal.returns-then-kwh-le-MOST_IN_PERIOD
returns-then-kwh-le-MOST_IN_PERIOD c = within c.args.kwh 10000000 (λ kept. record { kwh = c.args.kwh; limited = kept }) _
