-- A line with another number of fields than any line of a sheet counts as one with none.
use Rattle.std.proofs.Common.{◌≡◌, ℕ, List, refl, rules}
use Rattle.sheet_text.specs.Reading.{Reported}
use Rattle.sheet_text.specs.Steps.{step}
use Rattle.sheet_text.specs.declared.draft.Stage.{Stage}
use Rattle.sheet_text.specs.declared.draft.Stage.TheVariants.{Period, DayAhead, Forced, Offers, Units, Groups, End, Done}
use Rattle.sheet_text.specs.Listing.{usual}

-- what the awaited line does is said by its fields
pub step_counts : (stage : Stage) (r : Reported) (l : ℕ) (ws : List (List ℕ)) → step stage r l (usual ws) ≡ step stage r l ws
step_counts Period r l ws = search rules
step_counts DayAhead r l ws = search rules
step_counts Forced r l ws = search rules
step_counts Offers r l ws = search rules
step_counts Units r l ws = search rules
step_counts Groups r l ws = search rules
step_counts End r l ws = search rules
step_counts Done r l ws = refl
