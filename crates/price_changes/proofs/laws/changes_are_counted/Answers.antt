use Rattle.price_changes.proofs.Counted.{changes_are_counted}
use Rattle.price_changes.proofs.laws.changes_are_counted.Goals as goal

pub returns : goal.returns
returns c = changes_are_counted
