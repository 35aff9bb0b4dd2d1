-- The limits of the numbers of units and parties.
use Rattle.std.specs.Prelude.{ℕ, Bool, ◌&&◌, nat_le}

abbrev pub is_within : ℕ → ℕ → Bool
is_within most n = nat_le 1 n && nat_le n most

abbrev pub is_unit : ℕ → Bool
is_unit n = is_within 999 n

abbrev pub is_party : ℕ → Bool
is_party n = is_within 64 n
