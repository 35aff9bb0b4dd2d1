-- A text cut at a byte.
use Rattle.std.specs.Prelude.{ℕ, cond, List, [], ◌∷◌, Some, None, Option, ◌==◌}

-- c in front of the first part
abbrev pub ahead : ℕ → Option (List ℕ × List ℕ) → Option (List ℕ × List ℕ)
ahead c None = None
ahead c (Some p) = Some (c ∷ p.0, p.1)

-- what stands before the first byte `at`, and what stands after it
abbrev pub cut : ℕ → List ℕ → Option (List ℕ × List ℕ)
cut at [] = None
cut at (c ∷ cs) = cond (c == at) (Some ([], cs)) (ahead c (cut at cs))

-- c in front of the first of the parts
abbrev pub onto : ℕ → List (List ℕ) → List (List ℕ)
onto c [] = (c ∷ []) ∷ []
onto c (p ∷ ps) = (c ∷ p) ∷ ps

-- the parts between the bytes `at`: one more than there are such bytes
abbrev pub parts : ℕ → List ℕ → List (List ℕ)
parts at [] = [] ∷ []
parts at (c ∷ cs) = cond (c == at) ([] ∷ parts at cs) (onto c (parts at cs))
