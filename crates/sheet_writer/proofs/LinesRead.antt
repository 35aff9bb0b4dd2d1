-- The fields of a line within its limits say what they were written of.
use Rattle.std.proofs.Common.{◌≡◌, ℕ, ◌^◌, ◌<◌, ◌≤◌, Bool, true, cond, ltb, List, Some, Ok, Err, decimal, Option, Result, refl, ap, ◌∙◌, arith}
use Rattle.std.specs.Fmt as written
use Rattle.std.proofs.lemmas.Slice.Eq.{bytes_eq-Decides}
use Rattle.std.proofs.lemmas.Bool.{lt-ltb}
use Rattle.measures.specs.declared.price.Price.{Price}
use Rattle.measures.specs.declared.volume.PeriodVolume.{PeriodVolume}
use Rattle.measures.specs.declared.volume.Volume.{Volume}
use Rattle.sheet.specs.declared.lines.GroupLine.{GroupLine}
use Rattle.sheet.specs.declared.lines.Offer.{Offer}
use Rattle.sheet.specs.declared.lines.UnitLine.{UnitLine}
use Rattle.text.specs.Numbers.{number, within}
use Rattle.sheet_laws.specs.Laws.{Between, OfferWithin, UnitWithin, GroupWithin}
use Rattle.sheet_text.specs.Lines.{need, one, two, three, four, eight, period_line, day_ahead_line, forced_line, count_line, offer_line, unit_line, group_line, end_line}
use Rattle.sheet_text.specs.Values.{direction_field, position_field, constraint_field, volume_field, period_volume_field, price_field, imbalance_field}
use Rattle.sheet_text.specs.declared.faults.LineFault.{LineFault}
use Rattle.sheet_writer.specs.Rendered.{day_ahead_fields, forced_fields, offer_fields, unit_fields, group_fields, count_fields, end_fields}
use Rattle.sheet_writer.specs.Letters.{direction_letter, position_letter, constraint_letter}
use Rattle.sheet_writer.proofs.LinesBack.{place_fields}
use Rattle.sheet_writer.proofs.Numbered.{within_of, decimal_clean, signed_clean}
use Rattle.sheet_writer.proofs.Spacing.{above, Clean}
use Rattle.sheet_writer.proofs.Values.{direction_of, position_of, constraint_of, direction_clean, position_clean, constraint_clean, volume_read, period_volume_read, price_read, imbalance_read}

needed : {A B : Type 0} (o : Option A) (x : A) (fault : LineFault) (follows : A → Result B LineFault) {r : Result B LineFault} → o ≡ Some x → follows x ≡ r → need o fault follows ≡ r
needed o x fault follows e h = ap (λ o. need o fault follows) e ∙ h

number_read : {B : Type 0} (a b n : ℕ) (fault : LineFault) (follows : ℕ → Result B LineFault) {r : Result B LineFault} → b < 2 ^ 64 → Between a b n → follows n ≡ r → need (within a b (number (decimal n))) fault follows ≡ r
number_read a b n fault follows fits h g = needed (within a b (number (decimal n))) n fault follows (within_of a b n fits h.0 h.1) g

rising : {B : Type 0} (a b : ℕ) (fault : LineFault) (r : Result B LineFault) → a < b → cond (ltb a b) r (Err fault) ≡ r
rising a b fault r h = ap (λ (t : Bool). cond t r (Err fault)) (lt-ltb a b h)

-- its fields say x, and have no space or line end in them
pub record Says {A : Type 0} (says : List (List ℕ) → Result A LineFault) (fields : List (List ℕ)) (x : A) : Type 0 where
  pub said : says fields ≡ Ok x
  pub clean : Clean fields

volume_clean : (v : Volume) → above 32 (decimal v.kwh) ≡ true
volume_clean v = decimal_clean v.kwh (let most = v.limited in omega arith)

price_clean : (p : Price) → above 32 (written.signed_decimal p.kop) ≡ true
price_clean p = signed_clean p.kop (let most = p.limited in omega arith)

number_clean : (a b n : ℕ) → b < 2 ^ 64 → Between a b n → above 32 (decimal n) ≡ true
number_clean a b n fits h = decimal_clean n (let high = h.1 in omega arith)

pub period_said : (l : ℕ) (p : ℕ × ℕ × ℕ) → Between 1 2 p.0 → Between 1 31 p.1 → Between 1 24 p.2 → Says (four period_line l) (place_fields p) p
period_said l p z d t = record {
  said = number_read 1 2 p.0 _ _ (omega arith) z (number_read 1 31 p.1 _ _ (omega arith) d (number_read 1 24 p.2 _ _ (omega arith) t refl));
  clean = (refl, (number_clean 1 2 p.0 (omega arith) z, (number_clean 1 31 p.1 (omega arith) d, (number_clean 1 24 p.2 (omega arith) t, tt))));
}

pub day_ahead_said : (l : ℕ) (p : Price) → Says (three day_ahead_line l) (day_ahead_fields p) p
day_ahead_said l p = record {
  said = needed (price_field (written.signed_decimal p.kop)) p _ _ (price_read p) refl;
  clean = (refl, (price_clean p, (refl, tt)));
}

pub forced_said : (l : ℕ) (v : PeriodVolume) → Says (four forced_line l) (forced_fields v) v
forced_said l v = record {
  said = needed (period_volume_field (decimal v.kwh)) v _ _ (period_volume_read v) refl;
  clean = (refl, (decimal_clean v.kwh (let most = v.limited in omega arith), (refl, (refl, tt))));
}

pub count_said : (keyword : List ℕ) (most l n : ℕ) → above 32 keyword ≡ true → most < 2 ^ 64 → n ≤ most → Says (two (count_line keyword most) l) (count_fields keyword n) n
count_said keyword most l n clean fits few =
    let same = (bytes_eq-Decides keyword keyword).1 refl in
    record {
      said = rw same (number_read 0 most n _ _ fits (omega arith, few) refl);
      clean = (clean, (decimal_clean n (omega arith), tt));
    }

pub offer_said : (l : ℕ) (o : Offer) → OfferWithin o → Says (eight offer_line l) (offer_fields o) o
offer_said l o h = record {
  said =
      number_read 1 4 o.quarter _ _ (omega arith) h.quarter
      (needed (direction_field (direction_letter o.direction)) o.direction _ _ (direction_of o.direction)
      (number_read 1 999 o.unit _ _ (omega arith) h.unit
      (needed (volume_field 1 (decimal o.volume.kwh)) o.volume _ _ (volume_read 1 o.volume h.volume.0)
      (needed (price_field (written.signed_decimal o.price.kop)) o.price _ _ (price_read o.price)
      (needed (constraint_field (constraint_letter o.constrained)) o.constrained _ _ (constraint_of o.constrained) refl)))));
  clean =
      (number_clean 1 4 o.quarter (omega arith) h.quarter, (direction_clean o.direction, (number_clean 1 999 o.unit (omega arith) h.unit, (volume_clean o.volume, (refl, (price_clean o.price, (refl, (constraint_clean o.constrained, tt))))))));
}

pub unit_said : (before l : ℕ) (u : UnitLine) → UnitWithin u → before < u.unit → Says (four (unit_line before) l) (unit_fields u) u
unit_said before l u h rises = record {
  said =
      number_read 1 999 u.unit _ _ (omega arith) h.unit
      (needed (direction_field (direction_letter u.direction)) u.direction _ _ (direction_of u.direction)
      (needed (volume_field 0 (decimal u.energy.kwh)) u.energy _ _ (volume_read 0 u.energy (omega arith))
      (rising before u.unit _ _ rises)));
  clean = (number_clean 1 999 u.unit (omega arith) h.unit, (direction_clean u.direction, (volume_clean u.energy, (refl, tt))));
}

pub group_said : (before l : ℕ) (g : GroupLine) → GroupWithin g → before < g.party → Says (four (group_line before) l) (group_fields g) g
group_said before l g h rises = record {
  said =
      number_read 1 64 g.party _ _ (omega arith) h.party
      (needed (position_field (position_letter g.position)) g.position _ _ (position_of g.position)
      (needed (imbalance_field g.position (decimal g.imbalance.kwh)) g.imbalance _ _ (imbalance_read g.position g.imbalance h.none)
      (rising before g.party _ _ rises)));
  clean = (number_clean 1 64 g.party (omega arith) h.party, (position_clean g.position, (volume_clean g.imbalance, (refl, tt))));
}

pub end_said : (l : ℕ) → Says (one end_line l) end_fields tt
end_said l = record { said = refl; clean = (refl, tt) }
