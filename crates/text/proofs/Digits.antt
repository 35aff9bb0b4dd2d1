-- Digits only make a number larger, and a sign changes no size.
use Rattle.std.proofs.Common.{◌≡◌, ℕ, zero, suc, ◌+◌, ◌-◌, ◌*◌, ◌<◌, ◌≤◌, Bool, true, false, cond, eqb, leb, List, [], ◌∷◌, length, get_or, drop, negsuc, Some, None, Option, refl, ◌∙◌, arith, eq-eqb, le-leb}
use borrow.Author.Tests.{lt-leb}
use Rattle.std.proofs.lemmas.List.{at_drop_more}
use Rattle.std.proofs.lemmas.Bool.{and_right}
use Rattle.std.specs.Char.{is_ascii_digit}
use Rattle.text.specs.Numbers.{digits_behind, number, within, negative, signed, sized}

module _ (a b : ℕ) where
  pub within_some : (n : ℕ) → a ≤ n → n ≤ b → within a b (Some n) ≡ Some n
  within_some n l m = let p = le-leb a n l in let q = le-leb n b m in rw (p, q)

  within_high : (n : ℕ) → b < n → within a b (Some n) ≡ None
  within_high n l = let p = and_right (leb a n) (leb n b) (lt-leb n b l) in rw p

  larger_step : (n c : ℕ) (cs : List ℕ) (t : Bool) → within a b (digits_behind (n * 10 + (c - 48)) cs) ≡ None → within a b (cond t (digits_behind (n * 10 + (c - 48)) cs) None) ≡ None
  larger_step n c cs true ih = ih
  larger_step n c cs false ih = refl

  -- a number beyond b stays beyond it, whatever is written behind it
  pub larger : (n : ℕ) (cs : List ℕ) → b < n → within a b (digits_behind n cs) ≡ None
  larger n [] l = within_high n l
  larger n (c ∷ cs) l = larger_step n c cs (is_ascii_digit c) (larger (n * 10 + (c - 48)) cs (omega arith))

module _ (n : ℕ) (cs : List ℕ) (i : ℕ) (in_List : i < length cs) where
  pub one_more : is_ascii_digit (get_or cs i 0) ≡ true → digits_behind n (drop i cs) ≡ digits_behind (n * 10 + (get_or cs i 0 - 48)) (drop (i + 1) cs)
  one_more h = at_drop_more (digits_behind n) cs i 0 in_List ∙ rw h

sized_negative : (size : ℕ) (o : Option ℕ) → sized size (negative o) ≡ negative (within 1 size o)
sized_negative size None = refl
sized_negative size (Some zero) = refl
sized_negative size (Some (suc n)) =
    let low = le-leb 1 (suc n) (omega arith) in
    rw low (elim (leb (suc n) size) as (λ b. cond b (Some (negsuc n)) None ≡ negative (cond b (Some (suc n)) None)) [ true ↦ refl | false ↦ refl ])

-- what is read behind a '-'
pub minus : (size : ℕ) (xs : List ℕ) → get_or xs 0 0 ≡ 45 → sized size (signed xs) ≡ negative (within 1 size (number (drop 1 xs)))
minus size [] e = absurd (omega arith)
minus size (x ∷ xs) e = let t : eqb x 45 ≡ true = eq-eqb x 45 e in rw t (sized_negative size (number xs))
