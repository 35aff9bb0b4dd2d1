-- How long the text of a priced period can be.
use Rattle.std.proofs.Common.{ℕ, ◌+◌, ◌*◌, ◌^◌, ◌<◌, ◌≤◌, List, [], ◌∷◌, ◌++◌, length, ℤ, nat_abs, codes, decimal, le_refl, mul-le-mul, arith, length-append}
use Rattle.std.specs.List.{flat_map, AllByRecursion}
use Rattle.std.specs.Fmt.{signed_decimal}
use Rattle.std.proofs.lemmas.Fmt.{length-decimal-le}
use Rattle.text_buffer.proofs.Longest.{joined_length, signed_length}
use Rattle.offers.specs.declared.span.State.{State}
use Rattle.offers.specs.declared.span.State.TheVariants.{Deficit, Surplus, Balanced}
use Rattle.priced_text.specs.Lines.{state_line, price_line, money_line, count_line, charge_line}
use Rattle.pricing.specs.Prices.{Settled}
use Rattle.priced_text.specs.Priced.{prices_text, charges_text}

pub state_length : (st : State) → length (state_line st) ≤ 9
state_length Deficit = omega arith
state_length Surplus = omega arith
state_length Balanced = omega arith

price_length : (name : List ℕ) (p : ℤ) → nat_abs p ≤ 10000000 → length (price_line name p) ≤ length name + 18
price_length name p small =
    omega (arith, length-append name (signed_decimal p ++ codes " kop/MWh\n"), length-append (signed_decimal p) (codes " kop/MWh\n"), signed_length 8 10000000 p small (omega arith) (omega arith))

money_length : (name : List ℕ) (z : ℤ) → nat_abs z ≤ 320000000000000 → length (money_line name z) ≤ length name + 22
money_length name z small =
    omega (arith, length-append name (signed_decimal z ++ codes " mkop\n"), length-append (signed_decimal z) (codes " mkop\n"), signed_length 15 320000000000000 z small (omega arith) (omega arith))

count_length : (name : List ℕ) (n : ℕ) → n ≤ 16 → length (count_line name n) ≤ length name + 3
count_length name n few =
    omega (arith, length-append name (decimal n ++ codes "\n"), length-append (decimal n) (codes "\n"), length-decimal-le 2 n (omega arith) (omega arith) (omega arith))

charge_length : (k n : ℕ) (z : ℤ) → 0 < k → n < 10 ^ k → n < 2 ^ 64 → nat_abs z ≤ 10000000000000 → length (charge_line n z) ≤ k + 22
charge_length k n z some digits fits small =
    omega (
      arith,
      length-append (decimal n) (codes " " ++ (signed_decimal z ++ codes " mkop\n")),
      length-append (signed_decimal z) (codes " mkop\n"),
      length-decimal-le k n some digits fits,
      signed_length 14 10000000000000 z small (omega arith) (omega arith),
    )

-- what is charged of each line is within these
abbrev pub ChargesWithin : {L : Type 0} → ℕ → (L → ℕ) → (L → ℤ) → List L → Type 0
ChargesWithin top number charge ls = AllByRecursion (λ l. (number l ≤ top) × (nat_abs (charge l) ≤ 10000000000000)) ls

module _ {L : Type 0} (k top : ℕ) (some : 0 < k) (digits : top < 10 ^ k) (fits : top < 2 ^ 64) (number : L → ℕ) (charge : L → ℤ) where
  each_length : (ls : List L) → ChargesWithin top number charge ls → AllByRecursion (λ l. length (charge_line (number l) (charge l)) ≤ k + 22) ls
  each_length [] h = tt
  each_length (l ∷ ls) h = (let under = h.0.0 in charge_length k (number l) (charge l) some (omega arith) (omega arith) h.0.1, each_length ls h.1)

  pub charges_length : (name account : List ℕ) (ls : List L) (sum : ℤ) → ChargesWithin top number charge ls → length ls ≤ 16 → nat_abs sum ≤ 320000000000000 →
      length (charges_text name number charge ls account sum) ≤ length name + length account + 25 + (k + 22) * 16
  charges_length name account ls sum within few small =
      let each = flat_map (λ l. charge_line (number l) (charge l)) ls in
      let many = joined_length (λ l. charge_line (number l) (charge l)) (k + 22) ls (each_length ls within) in
      let most : (k + 22) * length ls ≤ (k + 22) * 16 = mul-le-mul (le_refl (k + 22)) few in
      omega (arith, length-append (count_line name (length ls)) (each ++ money_line account sum), length-append each (money_line account sum), count_length name (length ls) few, money_length account sum small)

pub prices_length : (p : Settled) → nat_abs p.imsp ≤ 10000000 → nat_abs p.up ≤ 10000000 → nat_abs p.down ≤ 10000000 → length (prices_text p) ≤ 67
prices_length p imsp up down =
    let x = price_line (codes "IMSP ") p.imsp in
    let y = price_line (codes "UP ") p.up in
    let z = price_line (codes "DOWN ") p.down in
    omega (arith, length-append x (y ++ z), length-append y z, price_length (codes "IMSP ") p.imsp imsp, price_length (codes "UP ") p.up up, price_length (codes "DOWN ") p.down down)
