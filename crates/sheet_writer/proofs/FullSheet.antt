-- The text of a sheet within its limits has at most 1612 bytes, and that of a full sheet has so many.
use Rattle.std.proofs.Common.{◌≡◌, ℕ, zero, suc, ◌+◌, ◌^◌, ◌<◌, ◌≤◌, true, List, [], ◌∷◌, length, replicate, negsuc, decimal, refl, arith}
use Rattle.std.specs.Fmt.{digits}
use Rattle.std.specs.List.{AllByRecursion}
use Rattle.std.proofs.lemmas.Fmt.{length-decimal-le}
use Rattle.std.proofs.ByRecursion.{All-weaker}
use Rattle.measures.specs.declared.price.Price.{Price}
use Rattle.measures.specs.declared.volume.Volume.{Volume}
use Rattle.sheet.specs.declared.lines.Direction.TheVariants.{Up}
use Rattle.sheet.specs.declared.lines.GroupLine.{GroupLine}
use Rattle.sheet.specs.declared.lines.Offer.{Offer}
use Rattle.sheet.specs.declared.lines.Position.TheVariants.{Surplus}
use Rattle.sheet.specs.declared.lines.UnitLine.{UnitLine}
use Rattle.sheet_laws.specs.Laws.{Between, OfferWithin, UnitWithin, GroupWithin, Rises, WithinLimits}
use Rattle.sheet_text.specs.Reading.{Reported}
use Rattle.sheet_writer.specs.Laws.{text_of, Longest}
use Rattle.sheet_writer.specs.Rendered.{rendered}
use Rattle.sheet_writer.proofs.Longest.{OfferDigits, UnitDigits, GroupDigits, rendered_length}

digits_within : (k a b n : ℕ) → 0 < k → b < 10 ^ k → b < 2 ^ 64 → Between a b n → length (decimal n) ≤ k
digits_within k a b n some most fits h = let high = h.1 in length-decimal-le k n some (omega arith) (omega arith)

bound : (r : Reported) → WithinLimits r → length (text_of r) ≤ 1612
bound r h = rendered_length r.zone r.day r.period h.zone.1 h.day.1 h.period.1 r.figures 1 3 3 2 (record {
  offers = All-weaker OfferWithin (OfferDigits 1 3) (λ o w. (digits_within 1 1 4 o.quarter (omega arith) (omega arith) (omega arith) w.quarter, digits_within 3 1 999 o.unit (omega arith) (omega arith) (omega arith) w.unit)) r.figures.offers h.offers;
  units = All-weaker UnitWithin (UnitDigits 3) (λ u w. digits_within 3 1 999 u.unit (omega arith) (omega arith) (omega arith) w.unit) r.figures.units h.units;
  groups = All-weaker GroupWithin (GroupDigits 2) (λ g w. digits_within 2 1 64 g.party (omega arith) (omega arith) (omega arith) w.party) r.figures.groups h.groups;
  few_offers = h.few_offers;
  few_units = h.few_units;
  few_groups = h.few_groups;
})

-- entries numbered from n on
abbrev numbered : {A : Type 0} → (ℕ → A) → ℕ → ℕ → List A
numbered make zero n = []
numbered make (suc k) n = make n ∷ numbered make k (suc n)

module _ {A : Type 0} (make : ℕ → A) where
  all_numbered : (P : A → Type 0) (most : ℕ) → ((n : ℕ) → 1 ≤ n → n ≤ most → P (make n)) → (k n : ℕ) → 1 ≤ n → n + k ≤ most + 1 → AllByRecursion P (numbered make k n)
  all_numbered P most each zero n low high = tt
  all_numbered P most each (suc k) n low high = (each n low (omega arith), all_numbered P most each k (suc n) (omega arith) (omega arith))

  numbered_rise : (order : A → ℕ) → ((n : ℕ) → order (make n) ≡ n) → (k n before : ℕ) → before < n → Rises order before (numbered make k n)
  numbered_rise order is zero n before low = tt
  numbered_rise order is (suc k) n before low = (omega (arith, is n), numbered_rise order is k (suc n) (order (make n)) (omega (arith, is n)))

all_replicate : {A : Type 0} (P : A → Type 0) (x : A) → P x → (k : ℕ) → AllByRecursion P (replicate k x)
all_replicate P x h zero = tt
all_replicate P x h (suc k) = (h, all_replicate P x h k)

-- the figures with the most bytes
abbrev longest_volume : Volume
longest_volume = record { kwh = 1000000; limited = omega arith }

abbrev longest_price : Price
longest_price = record { kop = negsuc 9999999; limited = omega arith }

abbrev longest_offer : Offer
longest_offer = record { quarter = 1; direction = Up; unit = 999; volume = longest_volume; price = longest_price; constrained = true }

abbrev longest_unit : ℕ → UnitLine
longest_unit n = record { unit = n; direction = Up; energy = longest_volume }

abbrev longest_group : ℕ → GroupLine
longest_group n = record { party = n; position = Surplus; imbalance = longest_volume }

abbrev full : Reported
full = record {
  zone = 1;
  day = 31;
  period = 24;
  figures = record {
    day_ahead = longest_price;
    forced = record { kwh = 10000000; limited = omega arith };
    offers = replicate 24 longest_offer;
    units = numbered longest_unit 16 100;
    groups = numbered longest_group 16 10;
  };
}

full_within : WithinLimits full
full_within = record {
  zone = (omega arith, omega arith);
  day = (omega arith, omega arith);
  period = (omega arith, omega arith);
  day_ahead = omega arith;
  forced = omega arith;
  few_offers = omega arith;
  few_units = omega arith;
  few_groups = omega arith;
  offers = all_replicate OfferWithin longest_offer (record { quarter = (omega arith, omega arith); unit = (omega arith, omega arith); volume = (omega arith, omega arith); price = omega arith }) 24;
  units = all_numbered longest_unit UnitWithin 999 (λ n low high. record { unit = (low, high); energy = omega arith }) 16 100 (omega arith) (omega arith);
  groups = all_numbered longest_group GroupWithin 64 (λ n low high. record { party = (low, high); imbalance = omega arith; none = λ _. refl }) 16 10 (omega arith) (omega arith);
  units_rise = numbered_rise longest_unit (λ u. u.unit) (λ n. refl) 16 100 0 (omega arith);
  parties_rise = numbered_rise longest_group (λ g. g.party) (λ n. refl) 16 10 0 (omega arith);
}

full_length : length (text_of full) ≡ 1612
unfolding rendered digits
full_length = refl

pub longest : Longest 1612
longest = record { bound = bound; reached = (full, full_within, full_length) }
