-- A number is read from its digits, and its digits are what it was read from.
use Rattle.std.proofs.Common.{◌≡◌, ℕ, zero, suc, ◌+◌, ◌-◌, ◌*◌, ◌^◌, ◌<◌, ◌≤◌, Bool, true, false, cond, ◌&&◌, eqb, leb, List, [], ◌∷◌, length, get_or, ℤ, pos, negsuc, nat_abs, Some, None, decimal, Option, sym, refl, ap, ◌∙◌, arith, rules}
use Rattle.std.specs.Char.{is_ascii_digit}
use Rattle.std.specs.Fmt as written
use Rattle.std.specs.Str.{all_ascii_digits}
use Rattle.std.proofs.lemmas.Fmt.{decimal_digit, decimal_nonempty, decimal-digits_value, digits_decimal, first_decimal, digits_value-decimal}
use Rattle.std.proofs.lemmas.Str.Parse.{IsNumeralModel, numerals_by_fold}
use Rattle.std.proofs.lemmas.Bool.{and_from, and_parts, eqb-false, eqb-true, le-leb, leb-true, lt-ltb, ne_eqb}
use Rattle.text.specs.Numbers.{digits_behind, number, within, negative, positive, signed, sized}
use Rattle.text.proofs.Digits.{within_some}
use Rattle.sheet_writer.proofs.Spacing.{above}

abbrev read_on : ℕ → List ℕ → ℕ
read_on n [] = n
read_on n (c ∷ cs) = read_on (n * 10 + (c - 48)) cs

own : IsNumeralModel (λ ds. all_ascii_digits ds ≡ true) (read_on 0)
own = numerals_by_fold _ (search rules) read_on (search rules)

-- digits behind those of k
record Behind (k : ℕ) (cs : List ℕ) (n : ℕ) : Type 0 where
  digits : all_ascii_digits cs ≡ true
  is : read_on k cs ≡ n

behind_step : (k c n : ℕ) (cs : List ℕ) → (digits_behind (k * 10 + (c - 48)) cs ≡ Some n → Behind (k * 10 + (c - 48)) cs n)
    → (a : Bool) → is_ascii_digit c ≡ a → cond a (digits_behind (k * 10 + (c - 48)) cs) None ≡ Some n → Behind k (c ∷ cs) n
behind_step k c n cs ih true h e = let d = ih e in record { digits = and_from _ _ h d.digits; is = d.is }
behind_step k c n cs ih false h e = let z : ◌≡◌ {A = ℕ} 0 1 = cc in absurd (omega arith)

behind : (k : ℕ) (cs : List ℕ) (n : ℕ) → digits_behind k cs ≡ Some n → Behind k cs n
behind k [] n e = let s : k ≡ n = cc in record { digits = refl; is = s }
behind k (c ∷ cs) n e = behind_step k c n cs (behind (k * 10 + (c - 48)) cs n) (is_ascii_digit c) refl e

spells : (ds : List ℕ) (n : ℕ) → 0 < length ds → (get_or ds 0 0 ≡ 48 → length ds ≡ 1) → Behind 0 ds n → n < 2 ^ 64 → decimal n ≡ ds
spells ds n some front d small = ap decimal (sym d.is) ∙ decimal-digits_value own ds d.digits some front (let is = d.is in omega arith)

number_step : (c d n : ℕ) (cs : List ℕ) → n < 2 ^ 64 → (b : Bool) → eqb c 48 ≡ b → cond b None (digits_behind 0 (c ∷ d ∷ cs)) ≡ Some n → decimal n ≡ c ∷ d ∷ cs
number_step c d n cs small true h e = let z : ◌≡◌ {A = ℕ} 0 1 = cc in absurd (omega arith)
number_step c d n cs small false h e = spells (c ∷ d ∷ cs) n (omega arith) (λ q. absurd (eqb-false c 48 h q)) (behind 0 (c ∷ d ∷ cs) n e) small

number_back : (w : List ℕ) (n : ℕ) → n < 2 ^ 64 → number w ≡ Some n → decimal n ≡ w
number_back [] n small e = let z : ◌≡◌ {A = ℕ} 0 1 = cc in absurd (omega arith)
number_back (c ∷ []) n small e = spells (c ∷ []) n (omega arith) (λ _. refl) (behind 0 (c ∷ []) n e) small
number_back (c ∷ d ∷ cs) n small e = number_step c d n cs small (eqb c 48) refl e

within_step : (a b m n : ℕ) (t : Bool) → (leb a m && leb m b) ≡ t → cond t (Some m) None ≡ Some n → (m ≡ n) × (n ≤ b)
within_step a b m n true h e = let high = leb-true m b (and_parts (leb a m) (leb m b) h).1 in let s : m ≡ n = cc in (s, omega arith)
within_step a b m n false h e = let z : ◌≡◌ {A = ℕ} 0 1 = cc in absurd (omega arith)

within_found : (a b : ℕ) (w : List ℕ) (n : ℕ) (o : Option ℕ) → number w ≡ o → b < 2 ^ 64 → within a b o ≡ Some n → decimal n ≡ w
within_found a b w n None h fits e = let z : ◌≡◌ {A = ℕ} 0 1 = cc in absurd (omega arith)
within_found a b w n (Some m) h fits e = let i = within_step a b m n (leb a m && leb m b) refl e in let high = i.1 in number_back w n (omega arith) (h ∙ ap (λ k. Some k) i.0)

-- a number within bounds has the digits that it was read from
pub within_back : (a b : ℕ) (w : List ℕ) (n : ℕ) → b < 2 ^ 64 → within a b (number w) ≡ Some n → decimal n ≡ w
within_back a b w n fits e = within_found a b w n (number w) refl fits e

digits_on : (n : ℕ) (ds : List ℕ) → all_ascii_digits ds ≡ true → digits_behind n ds ≡ Some (read_on n ds)
digits_on n [] h = refl
digits_on n (c ∷ cs) h = let i = and_parts (is_ascii_digit c) (all_ascii_digits cs) h in let d = i.0 in let rest = digits_on (n * 10 + (c - 48)) cs i.1 in rw d rest

number_digits : (ds : List ℕ) → 0 < length ds → (get_or ds 0 0 ≡ 48 → length ds ≡ 1) → all_ascii_digits ds ≡ true → number ds ≡ Some (read_on 0 ds)
number_digits [] some front h = absurd (omega arith)
number_digits (c ∷ []) some front h = digits_on 0 (c ∷ []) h
number_digits (c ∷ d ∷ cs) some front h = let ne = ne_eqb c 48 (λ q. let l = front q in omega arith) in rw ne (digits_on 0 (c ∷ d ∷ cs) h)

zero_alone : (n : ℕ) → n < 2 ^ 64 → get_or (decimal n) 0 0 ≡ 48 → length (decimal n) ≡ 1
zero_alone zero small q = ap length (decimal_digit 0 (omega arith))
zero_alone (suc n) small q = absurd (omega (arith, first_decimal (suc n) (omega arith) small))

number_of : (n : ℕ) → n < 2 ^ 64 → number (decimal n) ≡ Some n
number_of n small =
    number_digits (decimal n) (decimal_nonempty n small) (zero_alone n small) (digits_decimal own n small)
    ∙ ap (λ k. Some k) (digits_value-decimal own n small)

-- a number within bounds is read from its digits
pub within_of : (a b n : ℕ) → b < 2 ^ 64 → a ≤ n → n ≤ b → within a b (number (decimal n)) ≡ Some n
within_of a b n fits low high = ap (within a b) (number_of n (omega arith)) ∙ within_some a b n low high

digits_above : (ds : List ℕ) → all_ascii_digits ds ≡ true → above 32 ds ≡ true
digits_above [] h = refl
digits_above (c ∷ cs) h =
    let i = and_parts (is_ascii_digit c) (all_ascii_digits cs) h in
    let low = leb-true 48 c (and_parts (leb 48 c) (leb c 57) i.0).0 in
    and_from _ _ (lt-ltb 32 c (omega arith)) (digits_above cs i.1)

pub decimal_clean : (n : ℕ) → n < 2 ^ 64 → above 32 (decimal n) ≡ true
decimal_clean n small = digits_above (decimal n) (digits_decimal own n small)

negative_back : (cs : List ℕ) (z : ℤ) (o : Option ℕ) → nat_abs z < 2 ^ 64 → number cs ≡ o → negative o ≡ Some z → written.signed_decimal z ≡ 45 ∷ cs
negative_back cs z None small h e = let z : ◌≡◌ {A = ℕ} 0 1 = cc in absurd (omega arith)
negative_back cs z (Some zero) small h e = let z : ◌≡◌ {A = ℕ} 0 1 = cc in absurd (omega arith)
negative_back cs z (Some (suc n)) small h e = let s : z ≡ negsuc n = cc in ap written.signed_decimal s ∙ ap (λ ds. 45 ∷ ds) (number_back cs (suc n) (omega (arith, ap nat_abs s)) h)

positive_back : (cs : List ℕ) (z : ℤ) (o : Option ℕ) → nat_abs z < 2 ^ 64 → number cs ≡ o → positive o ≡ Some z → written.signed_decimal z ≡ cs
positive_back cs z None small h e = let z : ◌≡◌ {A = ℕ} 0 1 = cc in absurd (omega arith)
positive_back cs z (Some n) small h e = let s : z ≡ pos n = cc in ap written.signed_decimal s ∙ number_back cs n (omega (arith, ap nat_abs s)) h

signed_step : (c : ℕ) (cs : List ℕ) (z : ℤ) → nat_abs z < 2 ^ 64 → (b : Bool) → eqb c 45 ≡ b → cond b (negative (number cs)) (positive (number (c ∷ cs))) ≡ Some z → written.signed_decimal z ≡ c ∷ cs
signed_step c cs z small true h e = negative_back cs z (number cs) small refl e ∙ ap (λ x. x ∷ cs) (sym (eqb-true c 45 h))
signed_step c cs z small false h e = positive_back (c ∷ cs) z (number (c ∷ cs)) small refl e

signed_back : (w : List ℕ) (z : ℤ) → nat_abs z < 2 ^ 64 → signed w ≡ Some z → written.signed_decimal z ≡ w
signed_back [] z small e = let z : ◌≡◌ {A = ℕ} 0 1 = cc in absurd (omega arith)
signed_back (c ∷ cs) z small e = signed_step c cs z small (eqb c 45) refl e

sized_step : (size : ℕ) (y z : ℤ) (t : Bool) → leb (nat_abs y) size ≡ t → cond t (Some y) None ≡ Some z → (y ≡ z) × (nat_abs z ≤ size)
sized_step size y z true h e = let s : y ≡ z = cc in (s, let most = leb-true (nat_abs y) size h in omega (arith, ap nat_abs s))
sized_step size y z false h e = let z : ◌≡◌ {A = ℕ} 0 1 = cc in absurd (omega arith)

sized_found : (size : ℕ) (w : List ℕ) (z : ℤ) (o : Option ℤ) → signed w ≡ o → size < 2 ^ 64 → sized size o ≡ Some z → written.signed_decimal z ≡ w
sized_found size w z None h fits e = let z : ◌≡◌ {A = ℕ} 0 1 = cc in absurd (omega arith)
sized_found size w z (Some y) h fits e = let i = sized_step size y z (leb (nat_abs y) size) refl e in let most = i.1 in signed_back w z (omega arith) (h ∙ ap (λ v. Some v) i.0)

pub sized_back : (size : ℕ) (w : List ℕ) (z : ℤ) → size < 2 ^ 64 → sized size (signed w) ≡ Some z → written.signed_decimal z ≡ w
sized_back size w z fits e = sized_found size w z (signed w) refl fits e

-- a field of digits has no sign
unsigned : (ds : List ℕ) (n : ℕ) → 0 < length ds → all_ascii_digits ds ≡ true → number ds ≡ Some n → signed ds ≡ Some (pos n)
unsigned [] n some h e = absurd (omega arith)
unsigned (c ∷ cs) n some h e =
    let i = and_parts (is_ascii_digit c) (all_ascii_digits cs) h in
    let low = leb-true 48 c (and_parts (leb 48 c) (leb c 57) i.0).0 in
    let ne = ne_eqb c 45 (omega arith) in
    rw ne (ap positive e)

signed_of : (z : ℤ) → nat_abs z < 2 ^ 64 → signed (written.signed_decimal z) ≡ Some z
signed_of (pos n) small = unsigned (decimal n) n (decimal_nonempty n small) (digits_decimal own n small) (number_of n small)
signed_of (negsuc n) small = ap negative (number_of (suc n) small)

pub sized_of : (size : ℕ) (z : ℤ) → size < 2 ^ 64 → nat_abs z ≤ size → sized size (signed (written.signed_decimal z)) ≡ Some z
sized_of size z fits most = let t = le-leb (nat_abs z) size most in ap (sized size) (signed_of z (omega arith)) ∙ rw t

pub signed_clean : (z : ℤ) → nat_abs z < 2 ^ 64 → above 32 (written.signed_decimal z) ≡ true
signed_clean (pos n) small = decimal_clean n small
signed_clean (negsuc n) small = decimal_clean (suc n) small
