-- Each place has a number of its own.
use Rattle.std.proofs.Common.{◌≡◌, ℕ, ◌+◌, ◌-◌, ◌*◌, ◌<◌, ◌≤◌, true, leb, arith}
use lib.Arith.{digits_lt}
use Rattle.std.proofs.lemmas.Bool.{and_parts, leb-true}
use Rattle.measures.specs.Calendar.{between}
use Rattle.measures.proofs.Digits.{same_digits}
use Rattle.shelf.specs.Laws.{PlacesAreApart}
use Rattle.shelf.specs.Places.{is_place, number_of}

pub record Bounds (a b n : ℕ) : Type 0 where
  pub from : a ≤ n
  pub to : n ≤ b

pub between_true : (a b n : ℕ) → between a b n ≡ true → Bounds a b n
between_true a b n e =
    let both = and_parts (leb a n) (leb n b) e in
    record { from = leb-true a n both.0; to = leb-true n b both.1 }

-- the parts of a place are within their bounds
pub record Placed (days zones zone day period : ℕ) : Type 0 where
  pub of_zone : Bounds 1 zones zone
  pub of_day : Bounds 1 days day
  pub of_period : Bounds 1 24 period

pub placed : (days zones zone day period : ℕ) → is_place days zones zone day period ≡ true → Placed days zones zone day period
placed days zones zone day period e =
    let first = and_parts (between 1 zones zone) _ e in
    let second = and_parts (between 1 days day) (between 1 24 period) first.1 in
    record { of_zone = between_true 1 zones zone first.0; of_day = between_true 1 days day second.0; of_period = between_true 1 24 period second.1 }

pub placed_below : (days zones zone day period : ℕ) → Placed days zones zone day period → number_of zones zone day period < days * zones * 24
placed_below days zones zone day period p =
    let z = p.of_zone in
    let d = p.of_day in
    let t = p.of_period in
    let inner : (day - 1) * zones + (zone - 1) < days * zones = digits_lt (omega (arith, d.from, d.to)) (omega (arith, z.from, z.to)) in
    digits_lt inner (omega (arith, t.from, t.to))

pub number_below : (days zones zone day period : ℕ) → is_place days zones zone day period ≡ true → number_of zones zone day period < days * zones * 24
number_below days zones zone day period e = placed_below days zones zone day period (placed days zones zone day period e)

number_apart : (days zones zone day period zone' day' period' : ℕ) → Placed days zones zone day period → Placed days zones zone' day' period'
    → number_of zones zone day period ≡ number_of zones zone' day' period' → (zone ≡ zone') × (day ≡ day') × (period ≡ period')
number_apart days zones zone day period zone' day' period' p q e =
    let z = p.of_zone in
    let d = p.of_day in
    let t = p.of_period in
    let z' = q.of_zone in
    let d' = q.of_day in
    let t' = q.of_period in
    let outer = same_digits 24 ((day - 1) * zones + (zone - 1)) (period - 1) ((day' - 1) * zones + (zone' - 1)) (period' - 1) (omega (arith, t.from, t.to)) (omega (arith, t'.from, t'.to)) e in
    let inner = same_digits zones (day - 1) (zone - 1) (day' - 1) (zone' - 1) (omega (arith, z.from, z.to)) (omega (arith, z'.from, z'.to)) outer.0 in
    (omega (arith, inner.1, z.from, z'.from), omega (arith, inner.0, d.from, d'.from), omega (arith, outer.1, t.from, t'.from))

pub places_are_apart : PlacesAreApart 24
places_are_apart = record {
  below = number_below;
  apart = λ days zones zone day period zone' day' period' e f. number_apart days zones zone day period zone' day' period' (placed days zones zone day period e) (placed days zones zone' day' period' f);
}
