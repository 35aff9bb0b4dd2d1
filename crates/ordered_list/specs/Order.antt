-- Ranks in order.
use Rattle.std.specs.Prelude.{ℕ, ◌<◌, List, length, slice_index}

-- each rank is below those after it
abbrev pub Rising : List ℕ → Type 0
Rising ks = (i j : ℕ) → i < j → j < length ks → slice_index ks i < slice_index ks j
