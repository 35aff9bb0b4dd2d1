-- No count passes the number of sheets, and no text is longer than the longest.
use Rattle.std.proofs.Common.{◌*◌, ◌≤◌}
use Rattle.sheet_generator_check.proofs.trial.try_all.Given as goal

abbrev pub invariant-loop-tried : goal.invariant-loop-tried
invariant-loop-tried l = (l.tally.sheets ≤ l._tried) × (l.tally.same ≤ l._tried) × (l.tally.bytes ≤ 1612 * l._tried)
