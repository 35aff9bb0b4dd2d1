-- The first parts of a line, taken one by one.
use Rattle.std.proofs.Common.{◌≡◌, ℕ, zero, suc, ◌+◌, ◌<◌, ◌≤◌, Bool, true, false, List, [], ◌∷◌, length, drop, Some, None, is_some, Option, refl, ap, sym, ◌∙◌, subst, arith, slice_index_or, Bor, cond, eqb}
use Rattle.std.proofs.lemmas.Bool.Decides.{nat_tests}
use native.Mathlib.Numerals.{unary_clauses}
use denote.Param.Members.{Mut}
use Rattle.std.specs.Array.{IsFromFnResultFrom}
use Rattle.std.specs.Fn.{Called, CalledAt}
use Rattle.std.specs.Iterator.Runs.{EachRunFrom, IsSplitRun}
use Rattle.std.specs.Slice.Iter.{split_rest, split_done, split_callee, split_steps}
use Rattle.std.specs.declared.slice.Split.{Split}
use Rattle.std.proofs.lemmas.Iterator.Splits.{YieldsList-from_slice_split}
use Rattle.std.specs.Iterator.{AlwaysYields}
use Rattle.std.specs.List.{slice_split, onto_first}
use Rattle.text.specs.Cuts.{parts, onto}
use Rattle.sheet_text.specs.Listing.{usual}
use Rattle.sheet_text.specs.Parting.{part_at, bytes_of, ArePartsOf}

part_dropped : (k : ℕ) (ws : List (List ℕ)) → part_at k (drop 1 ws) ≡ part_at (suc k) ws
part_dropped k [] = refl
part_dropped k (w ∷ ws) = refl

onto_same : (c : ℕ) (ps : List (List ℕ)) → onto c ps ≡ onto_first c ps
onto_same c [] = refl
onto_same c (p ∷ ps) = refl

-- what `split` gives
parts_split : (at : ℕ) (xs : List ℕ) → slice_split (λ c. eqb c at) xs ≡ parts at xs
parts_split at [] = refl
parts_split at (x ∷ xs) = ap (λ ps. cond (eqb x at) ([] ∷ ps) (onto_first x ps)) (parts_split at xs) ∙ ap (λ p. cond (eqb x at) ([] ∷ parts at xs) p) (sym (onto_same x (parts at xs)))

-- what is left to take of a line that is split
pub split_yields : {F : Type 0} {g : Mut F (Bor ℕ × Unit {0}) Bool} {s : Split ℕ F} {xs : List ℕ} {f : F} → EachRunFrom (split_steps g) s (λ p. IsSplitRun p xs g f) → split_rest s ≡ xs → split_done s ≡ false → split_callee s ≡ f
    → ((x : ℕ) (b : Bool) (q : F) → CalledAt g f x b q → (q ≡ f) × (b ≡ eqb x 32)) → AlwaysYields (split_steps g) (λ (x : Bor (List ℕ)). x.now) s (parts 32 xs)
split_yields {g = g} {s = s} {xs = xs} runs rest done closure tests = subst (AlwaysYields (split_steps g) (λ (x : Bor (List ℕ)). x.now) s) (parts_split 32 xs) ((YieldsList-from_slice_split g (λ b. eqb b 32) xs rest done closure tests).runs)

module _ {S F : Type 0} (steps : S → Option (Bor (List ℕ)) → S → Type 0) (stays : (s t : S) → steps s None t → t ≡ s)
    (g : Mut F (ℕ × Unit {0}) (Option (Bor (List ℕ)))) (state : F → S) (step : (f q : F) (i : ℕ) (y : Option (Bor (List ℕ))) → Called g f (i, tt) y q → steps (state f) y (state q)) where
  abbrev yields : S → List (List ℕ) → Type 0
  yields s ws = AlwaysYields steps (λ (x : Bor (List ℕ)). x.now) s ws

  one_taken : (s t : S) (r : Option (Bor (List ℕ))) (ws : List (List ℕ)) → yields s ws → steps s r t → (bytes_of r ≡ part_at 0 ws) × yields t (drop 1 ws)
  one_taken s t None [] h k = (refl, subst (λ u. yields u []) (sym (stays s t k)) h)
  one_taken s t None (w ∷ ws) h k = absurd (h.0 t k)
  one_taken s t (Some x) [] h k = absurd (h x t k)
  one_taken s t (Some x) (w ∷ ws) h k = let m = h.1 x t k in (ap (λ (w : List ℕ). Some w) m.0, m.1)

  all_taken : (n i : ℕ) (f : F) (ys : List (Option (Bor (List ℕ)))) (ws : List (List ℕ)) → yields (state f) ws → IsFromFnResultFrom g f ys i n
      → (k : ℕ) → k < n → bytes_of (slice_index_or ys (i + k) None) ≡ part_at k ws
  all_taken zero i f ys ws h r k l = absurd (omega arith)
  all_taken (suc n) i f ys ws h r zero l =
      let m = one_taken (state f) (state r.0) r.1 ws h (step f r.0 i r.1 r.3) in
      simp unary_clauses (ap bytes_of (r.2.1 None) ∙ m.0)
  all_taken (suc n) i f ys ws h r (suc k) l =
      let m = one_taken (state f) (state r.0) r.1 ws h (step f r.0 i r.1 r.3) in
      let next = all_taken n (i + 1) r.0 ys (drop 1 ws) m.1 r.4 k (omega arith) in
      let same : (i + 1) + k ≡ i + suc k = omega arith in
      ap (λ j. bytes_of (slice_index_or ys j None)) (sym same) ∙ next ∙ part_dropped k ws

-- nine calls in turn take nine parts
pub parts_taken : {F H : Type 0} {g : Mut F (Bor ℕ × Unit {0}) Bool} {s : Split ℕ F} {made : Mut H (ℕ × Unit {0}) (Option (Bor (List ℕ)))} {h : H} (ws : List (List ℕ)) (ys : List (Option (Bor (List ℕ))))
    → AlwaysYields (split_steps g) (λ (x : Bor (List ℕ)). x.now) s ws → IsFromFnResultFrom made h ys 0 9 → (state : H → Split ℕ F) → state h ≡ s
    → ((f q : H) (i : ℕ) (y : Option (Bor (List ℕ))) → Called made f (i, tt) y q → split_steps g (state f) y (state q))
    → ArePartsOf ws ys
parts_taken {g = g} {made = made} {h = h} ws ys runs items state is step k l =
    let same : 0 + k ≡ k = omega arith in
    let at = all_taken (split_steps g) (λ s t k. k.1) made state step 9 0 h ys ws (subst (λ s. AlwaysYields (split_steps g) (λ (x : Bor (List ℕ)). x.now) s ws) (sym is) runs) items k l in
    ap (λ j. bytes_of (slice_index_or ys j None)) (sym same) ∙ at

past : (k : ℕ) (ws : List (List ℕ)) → part_at k ws ≡ None → length ws ≤ k
past k [] e = omega arith
past zero (w ∷ ws) e = absurd (cc)
past (suc k) (w ∷ ws) e = let l = past k ws e in omega arith

before : (k : ℕ) (ws : List (List ℕ)) → is_some (part_at k ws) ≡ true → k < length ws
before k [] e = absurd (cc)
before zero (w ∷ ws) e = omega arith
before (suc k) (w ∷ ws) e = let l = before k ws e in omega arith

some_bytes : (o : Option (Bor (List ℕ))) → is_some o ≡ true → is_some (bytes_of o) ≡ true
some_bytes None e = e
some_bytes (Some x) e = e

module _ (ws : List (List ℕ)) (found : List (Option (Bor (List ℕ)))) (are : ArePartsOf ws found) (k : ℕ) (low : k < 9) where
  pub there : (x : Bor (List ℕ)) → slice_index_or found k None ≡ Some x → part_at k ws ≡ Some x.now
  there x e = sym (are k low) ∙ ap bytes_of e

  pub ended : slice_index_or found k None ≡ None → part_at k ws ≡ None
  ended e = sym (are k low) ∙ ap bytes_of e

  pub more_than : is_some (slice_index_or found k None) ≡ true → k < length ws
  more_than e = before k ws (ap is_some (sym (are k low)) ∙ some_bytes (slice_index_or found k None) e)

  pub at_most : slice_index_or found k None ≡ None → length ws ≤ k
  at_most e = past k ws (ended e)

-- the parts from the i-th on are these
abbrev pub From : ℕ → List (List ℕ) → List (List ℕ) → Type 0
From i ws [] = part_at i ws ≡ None
From i ws (v ∷ vs) = (part_at i ws ≡ Some v) × From (suc i) ws vs

drop_none : (i : ℕ) (ws : List (List ℕ)) → part_at i ws ≡ None → drop i ws ≡ []
drop_none zero [] e = refl
drop_none (suc i) [] e = refl
drop_none zero (w ∷ ws) e = absurd (cc)
drop_none (suc i) (w ∷ ws) e = drop_none i ws e

drop_some : (i : ℕ) (ws : List (List ℕ)) (v : List ℕ) → part_at i ws ≡ Some v → drop i ws ≡ v ∷ drop (suc i) ws
drop_some i [] v e = absurd (cc)
drop_some zero (w ∷ ws) v e = let same : w ≡ v = cc in ap (λ w. w ∷ ws) same
drop_some (suc i) (w ∷ ws) v e = drop_some i ws v e

from_is : (i : ℕ) (ws vs : List (List ℕ)) → From i ws vs → drop i ws ≡ vs
from_is i ws [] h = drop_none i ws h
from_is i ws (v ∷ vs) h = drop_some i ws v h.0 ∙ ap (λ vs. v ∷ vs) (from_is (suc i) ws vs h.1)

-- the parts up to the last are all
pub all_parts : (ws vs : List (List ℕ)) → From 0 ws vs → usual ws ≡ usual vs
all_parts ws vs h = ap usual (from_is 0 ws vs h)

-- so many parts as no line of a sheet has
pub other_parts : (ws : List (List ℕ)) → (4 < length ws) → (length ws ≡ 8 → ⊥) → usual ws ≡ []
other_parts ws more h = grind (arith, nat_tests)
