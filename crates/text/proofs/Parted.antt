-- A cut takes the first part of a text.
use Rattle.std.proofs.Common.{◌≡◌, ℕ, zero, suc, ◌+◌, ◌-◌, ◌<◌, Bool, true, false, cond, eqb, List, [], ◌∷◌, ◌++◌, length, get_or, take, drop, Some, None, Option, refl, ap, ◌∙◌, add-one, arith, eq-eqb, ne_eqb, eqb-true}
use Rattle.std.proofs.lemmas.List.{take_rest}
use Rattle.text.specs.Cuts.{ahead, cut, onto, parts}

pub cut_none : (at : ℕ) (xs : List ℕ) → ((k : ℕ) → k < length xs → get_or xs k 0 ≡ at → ⊥) → cut at xs ≡ None
cut_none at [] h = refl
cut_none at (x ∷ xs) h =
    let ne : eqb x at ≡ false = ne_eqb x at (h 0 (omega arith)) in
    let rest = cut_none at xs (λ k l. h (suc k) (omega arith)) in
    rw (ne, rest)

cut_some : (at : ℕ) (xs : List ℕ) (i : ℕ) → i < length xs → ((k : ℕ) → k < i → get_or xs k 0 ≡ at → ⊥) → get_or xs i 0 ≡ at → cut at xs ≡ Some (take i xs, drop (suc i) xs)
cut_some at [] i l h e = absurd (omega arith)
cut_some at (x ∷ xs) zero l h e = let t : eqb x at ≡ true = eq-eqb x at e in rw t
cut_some at (x ∷ xs) (suc i) l h e =
    let ne : eqb x at ≡ false = ne_eqb x at (h 0 (omega arith)) in
    let rest = cut_some at xs i (omega arith) (λ k lt. h (suc k) (omega arith)) e in
    rw (ne, rest)

-- the first byte `at` stands at i
pub cut_found : (at : ℕ) (xs : List ℕ) (i : ℕ) → i < length xs → ((k : ℕ) → k < i → get_or xs k 0 ≡ at → ⊥) → get_or xs i 0 ≡ at → cut at xs ≡ Some (take i xs, take (length xs - (i + 1)) (drop (i + 1) xs))
cut_found at xs i l h e = rw (take_rest, add-one) (cut_some at xs i l h e)

-- what a cut says of the text
pub record Cut (at : ℕ) (xs : List ℕ) (p : List ℕ × List ℕ) : Type 0 where
  pub whole : xs ≡ p.0 ++ (at ∷ p.1)
  pub first : parts at xs ≡ p.0 ∷ parts at p.1

cut_step : (at x : ℕ) (xs : List ℕ) (p : List ℕ × List ℕ) → ((q : List ℕ × List ℕ) → cut at xs ≡ Some q → Cut at xs q)
    → (t : Bool) → eqb x at ≡ t → (o : Option (List ℕ × List ℕ)) → cut at xs ≡ o → cond t (Some ([], xs)) (ahead x o) ≡ Some p → Cut at (x ∷ xs) p
cut_step at x xs p ih true h o ho e =
    let same : ([], xs) ≡ p = cc in
    let is = eqb-true x at h in
    record {
      whole = ap (λ y. y ∷ xs) is ∙ ap (λ (q : List ℕ × List ℕ). q.0 ++ (at ∷ q.1)) same;
      first = rw h (ap (λ (q : List ℕ × List ℕ). q.0 ∷ parts at q.1) same);
    }
cut_step at x xs p ih false h None ho e = let z : ◌≡◌ {A = ℕ} 0 1 = cc in absurd (omega arith)
cut_step at x xs p ih false h (Some q) ho e =
    let same : (x ∷ q.0, q.1) ≡ p = cc in
    let k = ih q ho in
    record {
      whole = ap (λ ys. x ∷ ys) k.whole ∙ ap (λ (q : List ℕ × List ℕ). q.0 ++ (at ∷ q.1)) same;
      first = rw h (ap (onto x) k.first ∙ ap (λ (q : List ℕ × List ℕ). q.0 ∷ parts at q.1) same);
    }

pub cut_is : (at : ℕ) (xs : List ℕ) (p : List ℕ × List ℕ) → cut at xs ≡ Some p → Cut at xs p
cut_is at [] p e = let z : ◌≡◌ {A = ℕ} 0 1 = cc in absurd (omega arith)
cut_is at (x ∷ xs) p e = cut_step at x xs p (cut_is at xs) (eqb x at) refl (cut at xs) refl e

uncut_step : (at x : ℕ) (xs : List ℕ) → (cut at xs ≡ None → parts at xs ≡ xs ∷ [])
    → (t : Bool) → eqb x at ≡ t → (o : Option (List ℕ × List ℕ)) → cut at xs ≡ o → cond t (Some ([], xs)) (ahead x o) ≡ None → parts at (x ∷ xs) ≡ (x ∷ xs) ∷ []
uncut_step at x xs ih true h o ho e = let z : ◌≡◌ {A = ℕ} 0 1 = cc in absurd (omega arith)
uncut_step at x xs ih false h None ho e = rw (h, ih ho)
uncut_step at x xs ih false h (Some q) ho e = let z : ◌≡◌ {A = ℕ} 0 1 = cc in absurd (omega arith)

-- a text that is not cut is its only part
pub only_part : (at : ℕ) (xs : List ℕ) → cut at xs ≡ None → parts at xs ≡ xs ∷ []
only_part at [] e = refl
only_part at (x ∷ xs) e = uncut_step at x xs (only_part at xs) (eqb x at) refl (cut at xs) refl e

-- a text that is cut has what is cut off for its first part
pub first_part : (at : ℕ) (xs : List ℕ) (p : List ℕ × List ℕ) → cut at xs ≡ Some p → parts at xs ≡ p.0 ∷ parts at p.1
first_part at xs p e = (cut_is at xs p e).first

onto_some : (c : ℕ) (ps : List (List ℕ)) → 0 < length (onto c ps)
onto_some c [] = omega arith
onto_some c (p ∷ ps) = omega arith

some_step : (t : Bool) (c : ℕ) (ps : List (List ℕ)) → 0 < length (cond t ([] ∷ ps) (onto c ps))
some_step true c ps = omega arith
some_step false c ps = onto_some c ps

-- every text has a part
pub parts_some : (at : ℕ) (xs : List ℕ) → 0 < length (parts at xs)
parts_some at [] = omega arith
parts_some at (x ∷ xs) = some_step (eqb x at) x (parts at xs)
