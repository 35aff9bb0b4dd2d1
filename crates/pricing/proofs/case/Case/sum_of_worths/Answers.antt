use Rattle.std.proofs.Common.{◌≡◌, ℕ, ◌+◌, ◌-◌, ◌*◌, ◌≤◌, ℤ, ◌+ℤ◌, nat_abs, sym, ap, ◌∙◌, arith, w64, to_z, of_z}
use Rattle.std.proofs.lemmas.Int.{ints}
use Rattle.sheet.specs.Listed.{listed}
use Rattle.offers.specs.Volumes.{in_quarter}
use Rattle.pricing.specs.Cases.{case_of}
use Rattle.pricing.specs.Prices.{worth, up_to}
use Rattle.pricing.proofs.Sums.{volumes, up_to_more, volumes_more}
use Rattle.pricing.proofs.case.Case.sum_of_worths.Goals as goal

-- a sum as it is computed at 64 bits
stored : (bits : ℕ) (s r : ℤ) → to_z w64 bits ≡ s → nat_abs s ≤ 10000000000000000 → nat_abs r ≤ 10000000000000000 → to_z w64 (of_z w64 (to_z w64 bits +ℤ to_z w64 (of_z w64 r))) ≡ s +ℤ r
stored bits s r e h k = omega (arith, ints)

size : (s r x : ℤ) (m n v : ℕ) → x ≡ s +ℤ r → nat_abs s ≤ 10000000 * m → nat_abs r ≤ 10000000 * n → v ≡ m + n → nat_abs x ≤ 10000000 * v
size s r x m n v e h k f = omega (arith, ints)

pub loop-number-preserved : goal.loop-number-preserved
loop-number-preserved g c =
    let q = c.loop-number.number in
    let d = c.args.direction in
    let f = worth d (case_of g.H.PriceHistory.view c.args.self.now) in
    let u = λ (k : ℕ). in_quarter k d (listed c.args.self.now.sheet.now.offers) in
    let b = c.worth-sum.ensures.small in
    let from : 1 ≤ q = c.loop-number.auto.number in
    let last = c.loop-number-test.true in
    let same = ap nat_abs c.loop-number.sum-is in
    let most : nat_abs c.loop-number.sum ≤ 960000000000000 * q = omega (arith, same, c.loop-number.invariant.2) in
    let near : nat_abs c.loop-number.sum ≤ 10000000 * volumes (q - 1) u = omega (arith, same, c.loop-number.invariant.1) in
    let e = stored _ c.loop-number.sum c.worth-sum.result.mkop c.loop-number.sum-is (omega arith) (omega arith) in (
      e ∙ (λ i. (sym c.loop-number.sum-is ∙ c.loop-number.invariant.0) i +ℤ c.worth-sum.ensures.value i) ∙ sym (up_to_more q f from),
      size c.loop-number.sum c.worth-sum.result.mkop _ _ _ _ e near c.worth-sum.ensures.bound (volumes_more q u from),
      omega (arith, ints),
    )

pub returns : goal.returns
returns g c =
    let d = c.args.direction in
    let f = worth d (case_of g.H.PriceHistory.view c.args.self.now) in
    let u = λ (k : ℕ). in_quarter k d (listed c.args.self.now.sheet.now.offers) in
    let end : c.loop-number.number - 1 ≡ 4 = let t = c.loop-number-test.false in let k = c.loop-number.auto.number-end in omega arith in
    let all = ap (λ n. volumes n u) end in
    let le = c.loop-number.invariant.1 in
    record {
      value = c.loop-number.invariant.0 ∙ ap (λ n. up_to n f) end;
      bound = omega arith;
    }
