-- Numbers that are measures where they are within the limits.
use Rattle.std.specs.Prelude.{ℕ, ◌*◌, ◌≤◌, ℤ, pos, Some, None, Option, unsigned_abs}
use Rattle.std.proofs.Common.{lit≤}
use Rattle.std.proofs.Math.Decide.{dec_le}
use Rattle.measures.specs.declared.volume.Volume.{Volume}
use Rattle.measures.specs.declared.volume.PeriodVolume.{PeriodVolume}
use Rattle.measures.specs.declared.price.Price.{Price}

-- what is made where the limit is kept, and nothing where it is not
abbrev pub where_kept : {A P : Type 0} → Dec P → (P → A) → Option A
where_kept (yes kept) make = Some (make kept)
where_kept (no _) make = None

abbrev pub volume_of : ℕ → Option Volume
volume_of n = where_kept (dec_le n 1000000) (λ kept. record { kwh = n; limited = kept })

abbrev pub period_volume_of : ℕ → Option PeriodVolume
period_volume_of n = where_kept (dec_le n 10000000) (λ kept. record { kwh = n; limited = kept })

abbrev pub price_of : ℤ → Option Price
price_of z = where_kept (dec_le (unsigned_abs z) 10000000) (λ kept. record { kop = z; limited = kept })

-- no more in size than n kWh, or n prices, come to
abbrev pub WithinPrices : ℤ → ℕ → Type 0
WithinPrices z n = unsigned_abs z ≤ 10000000 * n

abbrev pub no_volume : Volume
no_volume = record { kwh = 0; limited = lit≤ tt }

abbrev pub no_period_volume : PeriodVolume
no_period_volume = record { kwh = 0; limited = lit≤ tt }

abbrev pub zero_price : Price
zero_price = record { kop = pos 0; limited = lit≤ tt }
