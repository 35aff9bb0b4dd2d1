-- The rank of a price of a place is that of a key, from which the place can be told.
use Rattle.std.proofs.Common.{◌≡◌, ℕ, ◌≤◌, ap, arith}
use Rattle.price_history.specs.Keys.{rank_of}
use Rattle.price_history.specs.Slots.{slots_of}
use Rattle.price_history.specs.declared.key.PriceKey.{PriceKey}
use Rattle.price_history.proofs.Apart.{rank_apart}
use Rattle.offers.specs.declared.span.Span.{Span}
use Rattle.offers.specs.declared.span.Span.TheVariants.{Quarter, Period}
use Rattle.sheet.specs.declared.lines.Direction.{Direction}
use Rattle.sheet.specs.declared.lines.Direction.TheVariants.{Up, Down}
use Rattle.pricing.specs.Keys.{Within, series_of, slot_of, history_day}
use Rattle.book.specs.declared.stated.StatedPlace.{StatedPlace}
use Rattle.book_laws.specs.Kept.{IsPlace, rank_of_place}
use Rattle.book_laws.specs.Laws.{KeysBelongToOnePlace}

-- the slot of a price is within those of its series
pub slot_from : (span : Span) (t : ℕ) → Within span → 1 ≤ t → 1 ≤ slot_of span t
slot_from (Quarter q) t w h = omega (arith, w.0)
slot_from Period t w h = h

pub slot_to : (span : Span) (d : Direction) (t : ℕ) → Within span → 1 ≤ t → t ≤ 24 → slot_of span t ≤ slots_of (series_of span d)
slot_to (Quarter q) Up t w h k = omega (arith, w.1)
slot_to (Quarter q) Down t w h k = omega (arith, w.1)
slot_to Period Up t w h k = k
slot_to Period Down t w h k = k

abbrev pub key_at : (p : StatedPlace) (span : Span) (d : Direction) → IsPlace p → Within span → PriceKey
key_at p span d is w = record {
  series = series_of span d;
  zone = p.zone;
  day = history_day p.day;
  slot = slot_of span p.period;
  zone_from = is.zone_from;
  zone_to = is.zone_to;
  day_from = omega arith;
  day_to = omega (arith, is.day_to);
  slot_from = slot_from span p.period w is.period_from;
  slot_to = slot_to span d p.period w is.period_from is.period_to;
}

-- the period of a slot
same_period : (span span' : Span) (d d' : Direction) (t t' : ℕ) → Within span → Within span' → 1 ≤ t → 1 ≤ t' → series_of span d ≡ series_of span' d' → slot_of span t ≡ slot_of span' t' → t ≡ t'
same_period (Quarter q) (Quarter q') d d' t t' w w' h h' series slot = omega (arith, w.0, w.1, w'.0, w'.1)
same_period Period Period d d' t t' w w' h h' series slot = slot
same_period (Quarter q) Period Up Up t t' w w' h h' series slot = absurd (let z : ◌≡◌ {A = ℕ} 0 1 = cc in omega arith)
same_period (Quarter q) Period Up Down t t' w w' h h' series slot = absurd (let z : ◌≡◌ {A = ℕ} 0 1 = cc in omega arith)
same_period (Quarter q) Period Down Up t t' w w' h h' series slot = absurd (let z : ◌≡◌ {A = ℕ} 0 1 = cc in omega arith)
same_period (Quarter q) Period Down Down t t' w w' h h' series slot = absurd (let z : ◌≡◌ {A = ℕ} 0 1 = cc in omega arith)
same_period Period (Quarter q) Up Up t t' w w' h h' series slot = absurd (let z : ◌≡◌ {A = ℕ} 0 1 = cc in omega arith)
same_period Period (Quarter q) Up Down t t' w w' h h' series slot = absurd (let z : ◌≡◌ {A = ℕ} 0 1 = cc in omega arith)
same_period Period (Quarter q) Down Up t t' w w' h h' series slot = absurd (let z : ◌≡◌ {A = ℕ} 0 1 = cc in omega arith)
same_period Period (Quarter q) Down Down t t' w w' h h' series slot = absurd (let z : ◌≡◌ {A = ℕ} 0 1 = cc in omega arith)

pub one_place : (p q : StatedPlace) (span span' : Span) (d d' : Direction) → IsPlace p → IsPlace q → Within span → Within span' → rank_of_place p span d ≡ rank_of_place q span' d' → p ≡ q
one_place p q span span' d d' is is' w w' e =
    let keys = rank_apart (key_at p span d is w) (key_at q span' d' is' w') e in
    let zone : p.zone ≡ q.zone = ap (λ (k : PriceKey). k.zone) keys in
    let days : history_day p.day ≡ history_day q.day = ap (λ (k : PriceKey). k.day) keys in
    let day : p.day ≡ q.day = omega arith in
    let period = same_period span span' d d' p.period q.period w w' is.period_from is'.period_from (ap (λ (k : PriceKey). k.series) keys) (ap (λ (k : PriceKey). k.slot) keys) in
    λ i. record { zone = zone i; day = day i; period = period i }

pub no_past_day : (p : StatedPlace) (span : Span) (d : Direction) (key : PriceKey) → IsPlace p → Within span → key.day ≤ 90 → rank_of key ≡ rank_of_place p span d → ⊥
no_past_day p span d key is w past e =
    let days : key.day ≡ history_day p.day = ap (λ (k : PriceKey). k.day) (rank_apart key (key_at p span d is w) e) in
    omega (arith, is.day_from)

pub keys_belong : KeysBelongToOnePlace
keys_belong = record { no_other_place = one_place; no_past_day = no_past_day }
