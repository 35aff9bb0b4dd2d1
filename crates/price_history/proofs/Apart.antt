-- No two keys share a rank.
use Rattle.std.proofs.Common.{◌≡◌, ℕ, ◌+◌, ◌-◌, ◌*◌, ◌<◌, ◌≤◌, sym, refl, ap, ◌∙◌, arith}
use mathlib.Core.HLevel.{is_prop→PathP}
use native.Mathlib.Bridge.{le_prop}
use lib.Arith.{digits_lt}
use Rattle.measures.proofs.Digits.{same_digits}
use Rattle.price_history.specs.declared.key.PriceKey.{PriceKey}
use Rattle.price_history.specs.declared.series.Series.{Series}
use Rattle.price_history.specs.declared.series.Series.TheVariants.{MarginalUp, MarginalDown, LimitUp, LimitDown}
use Rattle.price_history.specs.Slots.{slots_of, first_of}
use Rattle.price_history.specs.Keys.{span, rank_of}

-- keys with equal parts are equal, since each limit is kept in one way
key_path : (x y : PriceKey) → x.series ≡ y.series → x.zone ≡ y.zone → x.day ≡ y.day → x.slot ≡ y.slot → x ≡ y
key_path x y p q r s = λ i. record {
  series = p i;
  zone = q i;
  day = r i;
  slot = s i;
  zone_from = is_prop→PathP (λ j. 1 ≤ q j) (λ j. le_prop) x.zone_from y.zone_from i;
  zone_to = is_prop→PathP (λ j. q j ≤ 2) (λ j. le_prop) x.zone_to y.zone_to i;
  day_from = is_prop→PathP (λ j. 1 ≤ r j) (λ j. le_prop) x.day_from y.day_from i;
  day_to = is_prop→PathP (λ j. r j ≤ 121) (λ j. le_prop) x.day_to y.day_to i;
  slot_from = is_prop→PathP (λ j. 1 ≤ s j) (λ j. le_prop) x.slot_from y.slot_from i;
  slot_to = is_prop→PathP (λ j. s j ≤ slots_of (p j)) (λ j. le_prop) x.slot_to y.slot_to i;
}

-- the days of both zones, counted through
abbrev days : PriceKey → ℕ
days x = (x.zone - 1) * 121 + (x.day - 1)

-- the place within the series
abbrev place : PriceKey → ℕ
place x = days x * slots_of x.series + (x.slot - 1)

place_below : (x : PriceKey) → place x < 242 * slots_of x.series
place_below x = digits_lt (omega (arith, x.zone_to, x.day_from, x.day_to)) (omega (arith, x.slot_from, x.slot_to))

below : (a : Series) (m : ℕ) → m < 242 * slots_of a → first_of a + m < span
below MarginalUp m h = omega arith
below MarginalDown m h = omega arith
below LimitUp m h = omega arith
below LimitDown m h = omega arith

same_series : (a b : Series) (m n : ℕ) → m < 242 * slots_of a → n < 242 * slots_of b → first_of a + m ≡ first_of b + n → a ≡ b
same_series MarginalUp MarginalUp m n h k e = refl
same_series MarginalUp MarginalDown m n h k e = absurd (omega arith)
same_series MarginalUp LimitUp m n h k e = absurd (omega arith)
same_series MarginalUp LimitDown m n h k e = absurd (omega arith)
same_series MarginalDown MarginalUp m n h k e = absurd (omega arith)
same_series MarginalDown MarginalDown m n h k e = refl
same_series MarginalDown LimitUp m n h k e = absurd (omega arith)
same_series MarginalDown LimitDown m n h k e = absurd (omega arith)
same_series LimitUp MarginalUp m n h k e = absurd (omega arith)
same_series LimitUp MarginalDown m n h k e = absurd (omega arith)
same_series LimitUp LimitUp m n h k e = refl
same_series LimitUp LimitDown m n h k e = absurd (omega arith)
same_series LimitDown MarginalUp m n h k e = absurd (omega arith)
same_series LimitDown MarginalDown m n h k e = absurd (omega arith)
same_series LimitDown LimitUp m n h k e = absurd (omega arith)
same_series LimitDown LimitDown m n h k e = refl

rank_is : (x : PriceKey) → rank_of x ≡ first_of x.series + place x
rank_is x = omega arith

pub rank_below : (x : PriceKey) → rank_of x < span
rank_below x = omega (arith, rank_is x, below x.series (place x) (place_below x))

pub rank_apart : (x y : PriceKey) → rank_of x ≡ rank_of y → x ≡ y
rank_apart x y e =
    let series = same_series x.series y.series (place x) (place y) (place_below x) (place_below y) (sym (rank_is x) ∙ e ∙ rank_is y) in
    let width : slots_of x.series ≡ slots_of y.series = ap slots_of series in
    let first : first_of x.series ≡ first_of y.series = ap first_of series in
    let moved : place y ≡ days y * slots_of x.series + (y.slot - 1) = ap (λ w. days y * w + (y.slot - 1)) (sym width) in
    let places : place x ≡ place y = omega (arith, rank_is x, rank_is y) in
    let inner = same_digits (slots_of x.series) (days x) (x.slot - 1) (days y) (y.slot - 1) (omega (arith, x.slot_from, x.slot_to)) (omega (arith, y.slot_from, y.slot_to)) (places ∙ moved) in
    let outer = same_digits 121 (x.zone - 1) (x.day - 1) (y.zone - 1) (y.day - 1) (omega (arith, x.day_from, x.day_to)) (omega (arith, y.day_from, y.day_to)) inner.0 in
    key_path x y series
    (omega (arith, outer.0, x.zone_from, y.zone_from))
    (omega (arith, outer.1, x.day_from, y.day_from))
    (omega (arith, inner.1, x.slot_from, y.slot_from))
