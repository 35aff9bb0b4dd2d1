-- Keys, and the order that they stand in.
use Rattle.std.specs.Prelude.{ℕ, ◌+◌, ◌-◌, ◌*◌, ◌≤◌, Some, None, Option}
use Rattle.std.proofs.Math.Decide.{dec_le}
use Rattle.price_history.specs.declared.key.PriceKey.{PriceKey}
use Rattle.price_history.specs.declared.series.Series.{Series}
use Rattle.price_history.specs.Slots.{slots_of, first_of}

-- what is made where both hold, and nothing where one does not
abbrev pub where_both : {A P Q : Type 0} → Dec P → Dec Q → (P → Q → Option A) → Option A
where_both (yes p) (yes q) make = make p q
where_both (yes p) (no _) make = None
where_both (no _) (yes q) make = None
where_both (no _) (no _) make = None

-- what is made of a number n from a to b, and nothing of any other
abbrev pub between : {A : Type 0} (a b n : ℕ) → (a ≤ n → n ≤ b → Option A) → Option A
between a b n make = where_both (dec_le a n) (dec_le n b) make

-- the key of these parts, where each is within its limits
abbrev pub key_of : Series → ℕ → ℕ → ℕ → Option PriceKey
key_of series zone day slot =
    between 1 2 zone (λ zone_from zone_to.
    between 1 121 day (λ day_from day_to.
    between 1 (slots_of series) slot (λ slot_from slot_to.
    Some (record {
      series = series;
      zone = zone;
      day = day;
      slot = slot;
      zone_from = zone_from;
      zone_to = zone_to;
      day_from = day_from;
      day_to = day_to;
      slot_from = slot_from;
      slot_to = slot_to;
    }))))

-- how many keys there are
abbrev pub span : ℕ
span = 58080

-- the place of a key in the order by series, zone, day and slot, from 0
abbrev pub rank_on : Series → ℕ → ℕ → ℕ → ℕ
rank_on series zone day slot = first_of series + ((zone - 1) * 121 + (day - 1)) * slots_of series + (slot - 1)

abbrev pub rank_of : PriceKey → ℕ
rank_of key = rank_on key.series key.zone key.day key.slot
