-- A field's value is written as the field, and read from what is written.
use Rattle.std.proofs.Common.{◌≡◌, ℕ, zero, suc, ◌≤◌, Bool, true, false, cond, eqb, List, [], ◌∷◌, length, get_or, nat_abs, Some, None, decimal, Option, sym, refl, ap, ◌∙◌, arith}
use Prim.Native.String.{String}
use native.Mathlib.Decide.{dec_le}
use Rattle.std.specs.Fmt as written
use Rattle.std.proofs.lemmas.Bool.{eqb-true}
use Rattle.measures.specs.Limits.{where_kept, volume_of, period_volume_of, price_of}
use Rattle.measures.specs.declared.price.Price.{Price}
use Rattle.measures.specs.declared.volume.PeriodVolume.{PeriodVolume}
use Rattle.measures.specs.declared.volume.Volume.{Volume}
use Rattle.measures.proofs.Kept as kept
use Rattle.sheet.specs.declared.lines.Direction.{Direction}
use Rattle.sheet.specs.declared.lines.Direction.TheVariants.{Up, Down}
use Rattle.sheet.specs.declared.lines.Position.{Position}
use Rattle.sheet.specs.declared.lines.Position.TheVariants.{Surplus, Shortage}
use Rattle.text.specs.Numbers.{number, within, signed, sized}
use Rattle.sheet_text.specs.Values.{byte, either, direction_field, position_field, constraint_field, from, volume_field, period_volume_field, price_field, imbalance_field}
use Rattle.sheet_writer.specs.Letters.{direction_letter, position_letter, constraint_letter}
use Rattle.sheet_writer.proofs.Numbered.{within_back, within_of, sized_back, sized_of}
use Rattle.sheet_writer.proofs.Spacing.{above}

single : (w : List ℕ) (x : ℕ) → length w ≡ 1 → get_or w 0 0 ≡ x → x ∷ [] ≡ w
single [] x l e = absurd (omega arith)
single (y ∷ []) x l e = ap (λ v. v ∷ []) (sym e)
single (y ∷ z ∷ w) x l e = absurd (omega arith)

module _ {A : Type 0} (letter : A → List ℕ) (a : String) (x : A) (b : String) (y : A) (of-x : letter x ≡ byte a ∷ []) (of-y : letter y ≡ byte b ∷ []) (w : List ℕ) (v : A) where
  either_step : (s t u : Bool) → eqb (length w) 1 ≡ s → eqb (get_or w 0 0) (byte a) ≡ t → eqb (get_or w 0 0) (byte b) ≡ u → cond s (cond t (Some x) (cond u (Some y) None)) None ≡ Some v → letter v ≡ w
  either_step true true u hs ht hu e = let same : v ≡ x = cc in ap letter same ∙ of-x ∙ single w (byte a) (eqb-true _ _ hs) (eqb-true _ _ ht)
  either_step true false true hs ht hu e = let same : v ≡ y = cc in ap letter same ∙ of-y ∙ single w (byte b) (eqb-true _ _ hs) (eqb-true _ _ hu)
  either_step true false false hs ht hu e = let z : ◌≡◌ {A = ℕ} 0 1 = cc in absurd (omega arith)
  either_step false t u hs ht hu e = let z : ◌≡◌ {A = ℕ} 0 1 = cc in absurd (omega arith)

  either_back : either a x b y w ≡ Some v → letter v ≡ w
  either_back e = either_step (eqb (length w) 1) (eqb (get_or w 0 0) (byte a)) (eqb (get_or w 0 0) (byte b)) refl refl refl e

pub direction_back : (w : List ℕ) (d : Direction) → direction_field w ≡ Some d → direction_letter d ≡ w
direction_back w d e = either_back direction_letter "U" Up "D" Down refl refl w d e

pub position_back : (w : List ℕ) (p : Position) → position_field w ≡ Some p → position_letter p ≡ w
position_back w p e = either_back position_letter "+" Surplus "-" Shortage refl refl w p e

pub constraint_back : (w : List ℕ) (c : Bool) → constraint_field w ≡ Some c → constraint_letter c ≡ w
constraint_back w c e = either_back constraint_letter "C" true "-" false refl refl w c e

pub direction_of : (d : Direction) → direction_field (direction_letter d) ≡ Some d
direction_of Up = refl
direction_of Down = refl

pub position_of : (p : Position) → position_field (position_letter p) ≡ Some p
position_of Surplus = refl
position_of Shortage = refl

pub constraint_of : (c : Bool) → constraint_field (constraint_letter c) ≡ Some c
constraint_of true = refl
constraint_of false = refl

pub direction_clean : (d : Direction) → above 32 (direction_letter d) ≡ true
direction_clean Up = refl
direction_clean Down = refl

pub position_clean : (p : Position) → above 32 (position_letter p) ≡ true
position_clean Surplus = refl
position_clean Shortage = refl

pub constraint_clean : (c : Bool) → above 32 (constraint_letter c) ≡ true
constraint_clean true = refl
constraint_clean false = refl

-- a measure is made of its number
module _ {A M : Type 0} (part : M → A) (size : A → ℕ) (limit : ℕ) (make : (n : A) → size n ≤ limit → M) (has : (n : A) (h : size n ≤ limit) → part (make n h) ≡ n) where
  made_step : (n : A) (d : Dec (size n ≤ limit)) (v : M) → where_kept d (make n) ≡ Some v → part v ≡ n
  made_step n (yes h) v e = let same : make n h ≡ v = cc in sym (ap part same) ∙ has n h
  made_step n (no h) v e = let z : ◌≡◌ {A = ℕ} 0 1 = cc in absurd (omega arith)

  made_from : (o : Option A) (v : M) → from o (λ n. where_kept (dec_le (size n) limit) (make n)) ≡ Some v → o ≡ Some (part v)
  made_from None v e = let z : ◌≡◌ {A = ℕ} 0 1 = cc in absurd (omega arith)
  made_from (Some n) v e = ap (λ k. Some k) (sym (made_step n (dec_le (size n) limit) v e))

pub volume_back : (least : ℕ) (w : List ℕ) (v : Volume) → volume_field least w ≡ Some v → decimal v.kwh ≡ w
volume_back least w v e = within_back least 1000000 w v.kwh (omega arith) (made_from (λ (v : Volume). v.kwh) (λ n. n) 1000000 (λ n h. record { kwh = n; limited = h }) (λ n h. refl) (within least 1000000 (number w)) v e)

pub period_volume_back : (w : List ℕ) (v : PeriodVolume) → period_volume_field w ≡ Some v → decimal v.kwh ≡ w
period_volume_back w v e = within_back 0 10000000 w v.kwh (omega arith) (made_from (λ (v : PeriodVolume). v.kwh) (λ n. n) 10000000 (λ n h. record { kwh = n; limited = h }) (λ n h. refl) (within 0 10000000 (number w)) v e)

pub price_back : (w : List ℕ) (p : Price) → price_field w ≡ Some p → written.signed_decimal p.kop ≡ w
price_back w p e = sized_back 10000000 w p.kop (omega arith) (made_from (λ (p : Price). p.kop) nat_abs 10000000 (λ z h. record { kop = z; limited = h }) (λ z h. refl) (sized 10000000 (signed w)) p e)

pub imbalance_back : (p : Position) (w : List ℕ) (v : Volume) → imbalance_field p w ≡ Some v → decimal v.kwh ≡ w
imbalance_back Surplus w v e = volume_back 0 w v e
imbalance_back Shortage w v e = volume_back 1 w v e

pub volume_read : (least : ℕ) (v : Volume) → least ≤ v.kwh → volume_field least (decimal v.kwh) ≡ Some v
volume_read least v low =
    ap (λ o. from o volume_of) (within_of least 1000000 v.kwh (omega arith) low v.limited)
    ∙ sym (kept.within v.kwh 1000000 (λ h. record { kwh = v.kwh; limited = h }) v.limited)

pub period_volume_read : (v : PeriodVolume) → period_volume_field (decimal v.kwh) ≡ Some v
period_volume_read v =
    ap (λ o. from o period_volume_of) (within_of 0 10000000 v.kwh (omega arith) (omega arith) v.limited)
    ∙ sym (kept.within v.kwh 10000000 (λ h. record { kwh = v.kwh; limited = h }) v.limited)

pub price_read : (p : Price) → price_field (written.signed_decimal p.kop) ≡ Some p
price_read p = ap (λ o. from o price_of) (sized_of 10000000 p.kop (omega arith) p.limited) ∙ sym (kept.price_is p p.kop refl)

some_shortage : (n : ℕ) → (n ≡ 0 → Shortage ≡ Surplus) → 1 ≤ n
some_shortage zero none = let same = none refl in let z : ◌≡◌ {A = ℕ} 0 1 = cc in absurd (omega arith)
some_shortage (suc n) none = omega arith

-- a shortage is not 0
pub imbalance_read : (p : Position) (v : Volume) → (v.kwh ≡ 0 → p ≡ Surplus) → imbalance_field p (decimal v.kwh) ≡ Some v
imbalance_read Surplus v none = volume_read 0 v (omega arith)
imbalance_read Shortage v none = volume_read 1 v (some_shortage v.kwh none)
