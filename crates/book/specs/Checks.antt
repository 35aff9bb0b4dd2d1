-- Checks in their order: the first that fails refuses.
use Rattle.std.specs.Prelude.{Bool, cond, List, [], ◌∷◌, Ok, Err, Result}
use Rattle.book.specs.declared.refusal.BookRefusal.{BookRefusal}

-- whether it fails, and the refusal then
abbrev pub Check : Type 0
Check = Bool × BookRefusal

abbrev pub verdict : {A : Type 0} → List Check → A → Result A BookRefusal
verdict [] answer = Ok answer
verdict (c ∷ cs) answer = cond c.0 (Err c.1) (verdict cs answer)
