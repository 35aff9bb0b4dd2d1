-- The first parts of a line, for the contract that takes them one by one.
use Rattle.std.specs.Prelude.{◌≡◌, ℕ, zero, suc, ◌<◌, List, [], ◌∷◌, Some, None, Option, slice_index_or}
use Rattle.std.specs.Borrow.{Bor}

-- the k-th part, where there is one
abbrev pub part_at : ℕ → List (List ℕ) → Option (List ℕ)
part_at k [] = None
part_at zero (w ∷ ws) = Some w
part_at (suc k) (w ∷ ws) = part_at k ws

abbrev pub bytes_of : Option (Bor (List ℕ)) → Option (List ℕ)
bytes_of None = None
bytes_of (Some x) = Some x.now

abbrev pub ArePartsOf : List (List ℕ) → List (Option (Bor (List ℕ))) → Type 0
ArePartsOf ws found = (k : ℕ) → k < 9 → bytes_of (slice_index_or found k None) ≡ part_at k ws
