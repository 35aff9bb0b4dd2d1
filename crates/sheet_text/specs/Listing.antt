-- The fields of a line as a list, for the contracts that take them by their number.
use Rattle.std.specs.Prelude.{ℕ, Bool, cond, ◌||◌, List, [], ◌∷◌, length, ◌==◌}
use Rattle.sheet_text.specs.declared.fields.Fields.{Fields}
use Rattle.sheet_text.specs.declared.fields.Fields.TheVariants.{One, Two, Three, Four, Eight, Other}

abbrev pub listing : Fields → List (List ℕ)
listing (One a) = a.now ∷ []
listing (Two a b) = a.now ∷ b.now ∷ []
listing (Three a b c) = a.now ∷ b.now ∷ c.now ∷ []
listing (Four a b c d) = a.now ∷ b.now ∷ c.now ∷ d.now ∷ []
listing (Eight a b c d e f g h) = a.now ∷ b.now ∷ c.now ∷ d.now ∷ e.now ∷ f.now ∷ g.now ∷ h.now ∷ []
listing Other = []

abbrev pub known : ℕ → Bool
known n = n == 1 || n == 2 || n == 3 || n == 4 || n == 8

-- the fields, or none where no line of a sheet has so many
abbrev pub usual : List (List ℕ) → List (List ℕ)
usual ws = cond (known (length ws)) ws []
