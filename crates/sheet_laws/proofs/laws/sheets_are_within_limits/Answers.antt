-- What is read is within its limits.
use Rattle.sheet_laws.proofs.Limited.{within_limits}
use Rattle.sheet_laws.proofs.laws.sheets_are_within_limits.Goals as goal

pub returns : goal.returns
returns c = within_limits
