-- Going back day by day gathers the latest prices.
use Rattle.std.proofs.Common.{◌≡◌, ℕ, suc, ◌+◌, ◌-◌, ◌*◌, ◌<◌, ◌≤◌, List, [], ◌∷◌, length, take, ℤ, pos, ◌+ℤ◌, nat_abs, Some, None, Option, sym, ap, ◌∙◌, arith}
use lib.Seq.{take-nil}
use borrow.Author.Differences.{ints}
use Rattle.measures.specs.declared.price.Price.{Price}
use Rattle.price_history.specs.Means.{behind, shown_back, days_before, sum}

-- the prices that are still to be gathered, on the days from the first up to a day
abbrev pub to_gather : (ℕ → Option Price) → ℕ → ℕ → ℕ → List ℤ
to_gather daily first day count = take (30 - count) (shown_back daily (day - first) day)

-- what was gathered makes up, with the rest, all that is to be gathered
pub record Gathers (daily : ℕ → Option Price) (first day : ℕ) (all : List ℤ) (total : ℤ) (count : ℕ) : Type 0 where
  pub few : count ≤ 30
  pub limited : nat_abs total ≤ 10000000 * count
  pub totalled : total +ℤ sum (to_gather daily first day count) ≡ sum all
  pub counted : count + length (to_gather daily first day count) ≡ length all

module _ (daily : ℕ → Option Price) (first day : ℕ) where
  back_by_one : (o : Option Price) → first < day → o ≡ daily (day - 1) → shown_back daily (day - first) day ≡ behind o (shown_back daily (day - 1 - first) (day - 1))
  back_by_one o lt e =
      let n : day - first ≡ suc (day - 1 - first) = omega arith in
      ap (λ k. shown_back daily k day) n ∙ ap (λ w. behind w (shown_back daily (day - 1 - first) (day - 1))) (sym e)

  one_found : (price : Price) (count : ℕ) → first < day → Some price ≡ daily (day - 1) → count < 30 → to_gather daily first day count ≡ price.kop ∷ to_gather daily first (day - 1) (count + 1)
  one_found price count lt e few =
      let n : 30 - count ≡ suc (30 - (count + 1)) = omega arith in
      ap (take (30 - count)) (back_by_one (Some price) lt e) ∙ ap (λ k. take k (price.kop ∷ shown_back daily (day - 1 - first) (day - 1))) n

module _ (daily : ℕ → Option Price) (first day : ℕ) (all : List ℤ) (total : ℤ) (count : ℕ) where
  pub gather_some : (price : Price) (next : ℤ) → first < day → Some price ≡ daily (day - 1) → count < 30 → next ≡ total +ℤ price.kop → Gathers daily first day all total count → Gathers daily first (day - 1) all next (count + 1)
  gather_some price next lt e few is g =
      let rest = one_found daily first day price count lt e few in
      let sums : sum (to_gather daily first day count) ≡ price.kop +ℤ sum (to_gather daily first (day - 1) (count + 1)) = ap sum rest in
      let counts : length (to_gather daily first day count) ≡ suc (length (to_gather daily first (day - 1) (count + 1))) = ap length rest in
      let small = price.limited in
      record {
        few = omega arith;
        limited = omega (arith, ints);
        totalled = omega (arith, ints);
        counted = omega arith;
      }

  pub gather_none : first < day → None ≡ daily (day - 1) → Gathers daily first day all total count → Gathers daily first (day - 1) all total count
  gather_none lt e g =
      let rest : to_gather daily first day count ≡ to_gather daily first (day - 1) count = ap (take (30 - count)) (back_by_one daily first day None lt e) in
      record {
        few = g.few;
        limited = g.limited;
        totalled = ap (λ ps. total +ℤ sum ps) (sym rest) ∙ g.totalled;
        counted = ap (λ ps. count + length ps) (sym rest) ∙ g.counted;
      }

  none_left : Gathers daily first day all total count → to_gather daily first day count ≡ [] → (total ≡ sum all) × (count ≡ length all) × (nat_abs total ≤ 10000000 * count)
  none_left g e =
      let sums : sum (to_gather daily first day count) ≡ pos 0 = ap sum e in
      let counts : length (to_gather daily first day count) ≡ 0 = ap length e in
      let t = g.totalled in
      (omega (arith, ints), omega (arith, g.counted), g.limited)

  pub gathered_full : count ≡ 30 → Gathers daily first day all total count → (total ≡ sum all) × (count ≡ length all) × (nat_abs total ≤ 10000000 * count)
  gathered_full e g = none_left g (ap (λ n. take (30 - n) (shown_back daily (day - first) day)) e)

  pub gathered_back : day ≤ first → Gathers daily first day all total count → (total ≡ sum all) × (count ≡ length all) × (nat_abs total ≤ 10000000 * count)
  gathered_back le g =
      let n : day - first ≡ 0 = omega arith in
      none_left g (ap (λ k. take (30 - count) (shown_back daily k day)) n ∙ take-nil (30 - count))

pub gather_start : (daily : ℕ → Option Price) (first day : ℕ) → day - first ≡ days_before day → Gathers daily first day (take 30 (shown_back daily (days_before day) day)) (pos 0) 0
gather_start daily first day e =
    let same : to_gather daily first day 0 ≡ take 30 (shown_back daily (days_before day) day) = ap (λ k. take 30 (shown_back daily k day)) e in
    let sums = ap sum same in
    let counts = ap length same in
    record {
      few = omega arith;
      limited = omega arith;
      totalled = omega (arith, ints);
      counted = omega arith;
    }
