-- What a search for a rank says.
use Rattle.std.specs.Prelude.{◌≡◌, ℕ, ◌<◌, ◌≤◌, List, length, Result, MatchResult, slice_index, slice_index_or}
use Rattle.ordered_list.specs.declared.entry.Entry.{Entry}
use Rattle.ordered_list.specs.Entries.{ranks}

-- the rank stands at a place
pub record Here (ks : List ℕ) (rank at : ℕ) : Type 0 where
  pub inside : at < length ks
  pub is : slice_index_or ks at 0 ≡ rank

-- the rank is absent, and would stand before a place
pub record Before (ks : List ℕ) (rank at : ℕ) : Type 0 where
  pub inside : at ≤ length ks
  pub below : (k : ℕ) → k < at → slice_index ks k < rank
  pub above : (k : ℕ) → at ≤ k → k < length ks → rank < slice_index ks k

abbrev pub Found : {V : Type 0} → List (Entry V) → ℕ → Result ℕ ℕ → Type 0
Found es rank r = MatchResult r (Here (ranks es) rank) (Before (ranks es) rank)
