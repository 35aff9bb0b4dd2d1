-- Each key is the key of its parts, and parts beyond the limits are those of no key.
use Rattle.std.proofs.Common.{◌≡◌, ℕ, ◌≤◌, Some, None, Option, sym, refl, ap, ◌∙◌}
use native.Mathlib.Bridge.{le_prop}
use native.Mathlib.Decide.{dec_le}
use Rattle.price_history.specs.declared.key.PriceKey.{PriceKey}
use Rattle.price_history.specs.declared.series.Series.{Series}
use Rattle.price_history.specs.Slots.{slots_of}
use Rattle.price_history.specs.Keys.{where_both, between, key_of}

module _ {A : Type 0} (a b n : ℕ) (make : a ≤ n → n ≤ b → Option A) where
  decided : (d : Dec (a ≤ n)) (e : Dec (n ≤ b)) (from : a ≤ n) (to : n ≤ b) → where_both d e make ≡ make from to
  decided (yes p) (yes q) from to = ap (λ h. make h q) (le_prop p from) ∙ ap (make from) (le_prop q to)
  decided (yes p) (no q) from to = absurd (q to)
  decided (no p) (yes q) from to = absurd (p from)
  decided (no p) (no q) from to = absurd (p from)

  within : (from : a ≤ n) (to : n ≤ b) → make from to ≡ between a b n make
  within from to = sym (decided (dec_le a n) (dec_le n b) from to)

  -- nothing is made of a number beyond the limits
  decided_none : (d : Dec (a ≤ n)) (e : Dec (n ≤ b)) → ((from : a ≤ n) (to : n ≤ b) → None ≡ make from to) → None ≡ where_both d e make
  decided_none (yes p) (yes q) none = none p q
  decided_none (yes p) (no q) none = refl
  decided_none (no p) (yes q) none = refl
  decided_none (no p) (no q) none = refl

  beyond : ((from : a ≤ n) (to : n ≤ b) → None ≡ make from to) → None ≡ between a b n make
  beyond none = decided_none (dec_le a n) (dec_le n b) none

-- parts of which one is beyond its limits are those of no key
pub key_none : (series : Series) (zone day slot : ℕ) → (1 ≤ zone → zone ≤ 2 → 1 ≤ day → day ≤ 121 → 1 ≤ slot → slot ≤ slots_of series → ⊥) → None ≡ key_of series zone day slot
key_none series zone day slot out =
    beyond 1 2 zone _ (λ zone_from zone_to.
    beyond 1 121 day _ (λ day_from day_to.
    beyond 1 (slots_of series) slot _ (λ slot_from slot_to. absurd (out zone_from zone_to day_from day_to slot_from slot_to))))

pub key_is : (k : PriceKey) → Some k ≡ key_of k.series k.zone k.day k.slot
key_is k =
    within 1 (slots_of k.series) k.slot _ k.slot_from k.slot_to
    ∙ within 1 121 k.day _ k.day_from k.day_to
    ∙ within 1 2 k.zone _ k.zone_from k.zone_to
