-- The numbers that bytes write in decimal.
use Rattle.std.specs.Prelude.{ℕ, zero, suc, ◌+◌, ◌-◌, ◌*◌, cond, ◌&&◌, List, [], ◌∷◌, ℤ, pos, negsuc, Some, None, Option, ◌==◌, nat_le, unsigned_abs}
use Rattle.std.specs.Char.{is_ascii_digit}

-- the number that digits write behind those of n
abbrev pub digits_behind : ℕ → List ℕ → Option ℕ
digits_behind n [] = Some n
digits_behind n (c ∷ cs) = cond (is_ascii_digit c) (digits_behind (n * 10 + (c - 48)) cs) None

-- a field of digits, in which no zero stands in front of another
abbrev pub number : List ℕ → Option ℕ
number [] = None
number (c ∷ []) = digits_behind 0 (c ∷ [])
number (c ∷ d ∷ cs) = cond (c == 48) None (digits_behind 0 (c ∷ d ∷ cs))

-- a number from a to b
abbrev pub within : ℕ → ℕ → Option ℕ → Option ℕ
within a b None = None
within a b (Some n) = cond (nat_le a n && nat_le n b) (Some n) None

-- there is no -0
abbrev pub negative : Option ℕ → Option ℤ
negative None = None
negative (Some zero) = None
negative (Some (suc n)) = Some (negsuc n)

abbrev pub positive : Option ℕ → Option ℤ
positive None = None
positive (Some n) = Some (pos n)

-- a number, or '-' and a number that is not 0
abbrev pub signed : List ℕ → Option ℤ
signed [] = None
signed (c ∷ cs) = cond (c == 45) (negative (number cs)) (positive (number (c ∷ cs)))

-- a number of at most `size` in size
abbrev pub sized : ℕ → Option ℤ → Option ℤ
sized size None = None
sized size (Some z) = cond (nat_le (unsigned_abs z) size) (Some z) None
