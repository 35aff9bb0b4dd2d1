-- The fields of a line, put together with spaces, are the line; and a line is parted into its fields.
use Rattle.std.proofs.Common.{◌≡◌, ℕ, ◌<◌, ◌≤◌, Bool, true, false, cond, ◌&&◌, eqb, ltb, List, [], ◌∷◌, ◌++◌, length, Some, None, codes, sym, refl, ap, ◌∙◌, append_assoc, arith}
use Rattle.std.specs.List.{AllByRecursion}
use Rattle.std.proofs.lemmas.Bool.{and_parts, and_from, eq-eqb, eqb-true, lt-ltb, ltb-true, ne_eqb}
use Rattle.text.specs.Cuts.{cut, onto, parts}
use Rattle.text.proofs.Parted.{first_part, only_part, parts_some}
use Rattle.sheet_writer.specs.Rendered.{spaced, line}

spaced_onto : (c : ℕ) (fs : List (List ℕ)) → spaced (onto c fs) ≡ c ∷ spaced fs
spaced_onto c [] = refl
spaced_onto c (f ∷ []) = refl
spaced_onto c (f ∷ g ∷ fs) = refl

spaced_empty : (fs : List (List ℕ)) → 0 < length fs → spaced ([] ∷ fs) ≡ 32 ∷ spaced fs
spaced_empty [] h = absurd (omega arith)
spaced_empty (f ∷ fs) h = refl

joins_step : (c : ℕ) (cs : List ℕ) (fs : List (List ℕ)) → 0 < length fs → spaced fs ≡ cs → (b : Bool) → eqb c 32 ≡ b → spaced (cond b ([] ∷ fs) (onto c fs)) ≡ c ∷ cs
joins_step c cs fs some e true h = spaced_empty fs some ∙ ap (λ ys. 32 ∷ ys) e ∙ ap (λ x. x ∷ cs) (sym (eqb-true c 32 h))
joins_step c cs fs some e false h = spaced_onto c fs ∙ ap (λ ys. c ∷ ys) e

pub parts_join : (xs : List ℕ) → spaced (parts 32 xs) ≡ xs
parts_join [] = refl
parts_join (c ∷ cs) = joins_step c cs (parts 32 cs) (parts_some 32 cs) (parts_join cs) (eqb c 32) refl

-- each byte is above m
abbrev pub above : ℕ → List ℕ → Bool
above m [] = true
above m (c ∷ cs) = ltb m c && above m cs

-- a byte that stands nowhere in the text
module _ (at m : ℕ) (low : at ≤ m) where
  other : (c : ℕ) → ltb m c ≡ true → eqb c at ≡ false
  other c h = let lt = ltb-true m c h in ne_eqb c at (omega arith)

  cut_behind : (xs rest : List ℕ) → above m xs ≡ true → cut at (xs ++ (at ∷ rest)) ≡ Some (xs, rest)
  cut_behind [] rest h = let t = eq-eqb at at refl in rw t
  cut_behind (c ∷ cs) rest h =
      let i = and_parts (ltb m c) (above m cs) h in
      let ne = other c i.0 in
      let ih = cut_behind cs rest i.1 in
      rw (ne, ih)

  cut_nowhere : (xs : List ℕ) → above m xs ≡ true → cut at xs ≡ None
  cut_nowhere [] h = refl
  cut_nowhere (c ∷ cs) h =
      let i = and_parts (ltb m c) (above m cs) h in
      let ne = other c i.0 in
      let ih = cut_nowhere cs i.1 in
      rw (ne, ih)

-- no byte of the fields is a space or a line end
abbrev pub Clean : List (List ℕ) → Type 0
Clean fs = AllByRecursion (λ f. above 32 f ≡ true) fs

pub parts_spaced : (fs : List (List ℕ)) → 0 < length fs → Clean fs → parts 32 (spaced fs) ≡ fs
parts_spaced [] some h = absurd (omega arith)
parts_spaced (f ∷ []) some h = only_part 32 f (cut_nowhere 32 32 (omega arith) f h.0)
parts_spaced (f ∷ g ∷ fs) some h =
    first_part 32 (f ++ (32 ∷ spaced (g ∷ fs))) (f, spaced (g ∷ fs)) (cut_behind 32 32 (omega arith) f (spaced (g ∷ fs)) h.0)
    ∙ ap (λ (gs : List (List ℕ)). f ∷ gs) (parts_spaced (g ∷ fs) (omega arith) h.1)

above_less : (m n : ℕ) (xs : List ℕ) → m ≤ n → above n xs ≡ true → above m xs ≡ true
above_less m n [] le h = refl
above_less m n (c ∷ cs) le h =
    let i = and_parts (ltb n c) (above n cs) h in
    let lt = ltb-true n c i.0 in
    and_from _ _ (lt-ltb m c (omega arith)) (above_less m n cs le i.1)

above_append : (m : ℕ) (xs ys : List ℕ) → above m xs ≡ true → above m ys ≡ true → above m (xs ++ ys) ≡ true
above_append m [] ys h k = k
above_append m (c ∷ cs) ys h k = let i = and_parts (ltb m c) (above m cs) h in and_from _ _ i.0 (above_append m cs ys i.1 k)

spaced_above : (fs : List (List ℕ)) → Clean fs → above 10 (spaced fs) ≡ true
spaced_above [] h = refl
spaced_above (f ∷ []) h = above_less 10 32 f (omega arith) h.0
spaced_above (f ∷ g ∷ fs) h = above_append 10 f (32 ∷ spaced (g ∷ fs)) (above_less 10 32 f (omega arith) h.0) (spaced_above (g ∷ fs) h.1)

pub cut_line : (fs : List (List ℕ)) (rest : List ℕ) → Clean fs → cut 10 (line fs ++ rest) ≡ Some (spaced fs, rest)
cut_line fs rest h = ap (cut 10) (append_assoc (spaced fs) (codes "\n") rest) ∙ cut_behind 10 10 (omega arith) (spaced fs) rest (spaced_above fs h)
