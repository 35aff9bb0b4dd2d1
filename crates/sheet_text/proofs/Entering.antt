-- A list is read entry by entry.
use Rattle.std.proofs.Common.{◌≡◌, ℕ, suc, ◌+◌, ◌-◌, ◌<◌, List, [], ◌∷◌, ◌++◌, Ok, Err, Result, sym, refl, ap, ◌∙◌, arith}
use Rattle.std.proofs.lemmas.Grind.{common_steps}
use Rattle.text.specs.Cuts.{parts}
use Rattle.sheet_text.specs.Listing.{usual}
use Rattle.sheet_text.specs.Reading.{Left, then, next_line, a_line, entries}
use Rattle.sheet_text.specs.Standing.{parted, next_fields}
use Rattle.sheet_text.specs.declared.faults.LineFault.{LineFault}

-- a value with what is left
abbrev pub beside : {A : Type 0} → Left → A → Result (A × Left) LineFault
beside t x = Ok (x, t)

pub ok_same : {A E : Type 0} {x y : A} → ◌≡◌ {A = Result A E} (Ok x) (Ok y) → x ≡ y
ok_same e = cc

-- the line behind the next one has the next number
pub next_number : (s t : Left) (ws : List (List ℕ)) → next_fields s ≡ Ok (ws, t) → t.line ≡ s.line + 1
next_number s t ws e = grind (arith, common_steps)

module _ {A : Type 0} (f : ℕ → List (List ℕ) → Result A LineFault) (counts : (l : ℕ) (ws : List (List ℕ)) → f l (usual ws) ≡ f l ws) (s : Left) where
  line_step : (r : Result (List ℕ × Left) LineFault)
      → then r (λ b. then (f s.line (parts 32 b.0)) (beside b.1))
      ≡ then (then r parted) (λ p. then (f s.line p.0) (beside p.1))
  line_step (Ok b) = ap (λ (r : Result A LineFault). then r (beside b.1)) (sym (counts s.line (parts 32 b.0)))
  line_step (Err e) = refl

  -- a line is understood by its fields
  pub line_by_fields : a_line f s ≡ then (next_fields s) (λ p. then (f s.line p.0) (beside p.1))
  line_by_fields = line_step (next_line s)

  pub line_missing : (e : LineFault) → next_fields s ≡ Err e → a_line f s ≡ Err e
  line_missing e h = line_by_fields ∙ ap (λ (r : Result (List (List ℕ) × Left) LineFault). then r (λ p. then (f s.line p.0) (beside p.1))) h

  module _ (ws : List (List ℕ)) (t : Left) (h : next_fields s ≡ Ok (ws, t)) (l : ℕ) (is : l ≡ s.line) where
    line_there : a_line f s ≡ then (f l ws) (beside t)
    line_there =
        line_by_fields
        ∙ ap (λ (r : Result (List (List ℕ) × Left) LineFault). then r (λ p. then (f s.line p.0) (beside p.1))) h
        ∙ ap (λ n. then (f n ws) (beside t)) (sym is)

    pub line_wrong : (e : LineFault) → f l ws ≡ Err e → a_line f s ≡ Err e
    line_wrong e g = line_there ∙ ap (λ (r : Result A LineFault). then r (beside t)) g

    pub line_said : (x : A) → f l ws ≡ Ok x → a_line f s ≡ Ok (x, t)
    line_said x g = line_there ∙ ap (λ (r : Result A LineFault). then r (beside t)) g

module _ {A : Type 0} (says : ℕ → ℕ → List (List ℕ) → Result A LineFault) (order : A → ℕ) (counts : (before l : ℕ) (ws : List (List ℕ)) → says before l (usual ws) ≡ says before l ws)
    (n i before : ℕ) (xs : List A) (s : Left) (more : i < n) where
  abbrev onward : Result (A × Left) LineFault → Result (List A × Left) LineFault
  onward r = then r (λ x. entries says order (n - (i + 1)) (order x.0) (xs ++ x.0 ∷ []) x.1)

  entries_step : entries says order (n - i) before xs s ≡ onward (a_line (says before) s)
  entries_step = let one : n - i ≡ suc (n - (i + 1)) = omega arith in rw one

  -- a list ends at a line that is missing
  pub entries_missing : (e : LineFault) → next_fields s ≡ Err e → entries says order (n - i) before xs s ≡ Err e
  entries_missing e h = entries_step ∙ ap onward (line_missing (says before) (counts before) s e h)

  module _ (ws : List (List ℕ)) (t : Left) (h : next_fields s ≡ Ok (ws, t)) (l : ℕ) (is : l ≡ s.line) where
    -- or at one that is wrong
    pub entries_wrong : (e : LineFault) → says before l ws ≡ Err e → entries says order (n - i) before xs s ≡ Err e
    entries_wrong e g = entries_step ∙ ap onward (line_wrong (says before) (counts before) s ws t h l is e g)

    pub entries_more : (x : A) → says before l ws ≡ Ok x → entries says order (n - i) before xs s ≡ entries says order (n - (i + 1)) (order x) (xs ++ x ∷ []) t
    entries_more x g = entries_step ∙ ap onward (line_said (says before) (counts before) s ws t h l is x g)
