use Rattle.measures.proofs.Kept.{within}
use Rattle.measures.proofs.volume.Volume.new.Goals as goal

pub returns-then-kwh-le-MOST_IN_QUARTER : goal.returns-then-kwh-le-MOST_IN_QUARTER
returns-then-kwh-le-MOST_IN_QUARTER c = within c.args.kwh 1000000 (λ kept. record { kwh = c.args.kwh; limited = kept }) _
