-- What each line says is within its limits, and a fault in it is one of that line.
use Rattle.std.proofs.Common.{◌≡◌, ℕ, ◌<◌, ◌≤◌, Bool, true, false, cond, ◌&&◌, eqb, ltb, leb, List, [], length, get_or, Some, None, Err, Option, Result, sym, refl, ap, arith, ltb-true, leb-true, MatchResult}
use native.Mathlib.Decide.{dec_le}
use Rattle.std.proofs.lemmas.Bool.{and_parts}
use Rattle.std.specs.Str.{bytes_eq}
use Rattle.measures.specs.Limits.{where_kept, volume_of}
use Rattle.measures.specs.declared.volume.Volume.{Volume}
use Rattle.sheet.specs.declared.lines.Position.{Position}
use Rattle.sheet.specs.declared.lines.Position.TheVariants.{Surplus, Shortage}
use Rattle.text.specs.Numbers.{number, within}
use Rattle.sheet_laws.specs.Laws.{Between, OfferWithin, UnitWithin, GroupWithin}
use Rattle.sheet_text.specs.Lines.{need, fixed, counted, one, two, three, four, eight, period_line, day_ahead_line, forced_line, count_line, offer_line, unit_line, group_line, end_line}
use Rattle.sheet_text.specs.Values.{from, direction_field, position_field, constraint_field, volume_field, period_volume_field, price_field, imbalance_field}
use Rattle.sheet_text.specs.declared.faults.LineFault.{LineFault}

-- a line says something that is P, or has a fault that is its own
abbrev pub Says : {A : Type 0} → ℕ → (A → Type 0) → Result A LineFault → Type 0
Says l P r = MatchResult r P (λ e. e.line ≡ l)

-- a zone, a day and a period
abbrev pub PlaceWithin : ℕ × ℕ × ℕ → Type 0
PlaceWithin p = Between 1 2 p.0 × Between 1 31 p.1 × Between 1 24 p.2

module _ {B : Type 0} (l : ℕ) (P : B → Type 0) where
  says_need : {A : Type 0} (o : Option A) (f : LineFault) (k : A → Result B LineFault) → f.line ≡ l → ((x : A) → o ≡ Some x → Says l P (k x)) → Says l P (need o f k)
  says_need None f k h g = h
  says_need (Some x) f k h g = g x refl

  says_cond : (b : Bool) (f : LineFault) (r : Result B LineFault) → f.line ≡ l → (b ≡ true → Says l P r) → Says l P (cond b r (Err f))
  says_cond true f r h g = g refl
  says_cond false f r h g = h

  says_fixed : (w v : List ℕ) (f : LineFault) (r : Result B LineFault) → f.line ≡ l → Says l P r → Says l P (fixed w v f r)
  says_fixed w v f r h g = says_cond (bytes_eq w v) f r h (λ _. g)

between_step : (a b m n : ℕ) (t : Bool) → (leb a m && leb m b) ≡ t → cond t (Some m) None ≡ Some n → Between a b n
between_step a b m n true h e =
    let i = and_parts (leb a m) (leb m b) h in
    let low = leb-true a m i.0 in
    let high = leb-true m b i.1 in
    let same : m ≡ n = cc in
    (omega arith, omega arith)
between_step a b m n false h e = absurd (cc)

between : (a b : ℕ) (o : Option ℕ) (n : ℕ) → within a b o ≡ Some n → Between a b n
between a b None n e = absurd (cc)
between a b (Some m) n e = between_step a b m n (leb a m && leb m b) refl e

made_step : (n : ℕ) (d : Dec (n ≤ 1000000)) (v : Volume) → where_kept d (λ kept. record { kwh = n; limited = kept }) ≡ Some v → v.kwh ≡ n
made_step n (yes h) v e = let same : record { kwh = n; limited = h } ≡ v = cc in sym (ap (λ (v : Volume). v.kwh) same)
made_step n (no h) v e = absurd (cc)

volume_step : (least : ℕ) (o : Option ℕ) (v : Volume) → ((n : ℕ) → o ≡ Some n → least ≤ n) → from o volume_of ≡ Some v → least ≤ v.kwh
volume_step least None v h e = absurd (cc)
volume_step least (Some n) v h e = let is = made_step n (dec_le n 1000000) v e in let low = h n refl in omega arith

-- a volume is at least the least
volume_from : (least : ℕ) (w : List ℕ) (v : Volume) → volume_field least w ≡ Some v → least ≤ v.kwh
volume_from least w v e = volume_step least (within least 1000000 (number w)) v (λ n h. (between least 1000000 (number w) n h).0) e

module _ (l : ℕ) where
  period_says : (a b c d : List ℕ) → Says l PlaceWithin (period_line l a b c d)
  period_says a b c d =
      says_fixed l _ a _ _ _ refl
      (says_need l _ (within 1 2 (number b)) _ _ refl (λ z hz.
      says_need l _ (within 1 31 (number c)) _ _ refl (λ y hy.
      says_need l _ (within 1 24 (number d)) _ _ refl (λ p hp.
      (between 1 2 (number b) z hz, between 1 31 (number c) y hy, between 1 24 (number d) p hp)))))

  day_ahead_says : (a b c : List ℕ) → Says l (λ _. Unit {0}) (day_ahead_line l a b c)
  day_ahead_says a b c =
      says_fixed l _ a _ _ _ refl
      (says_need l _ (price_field b) _ _ refl (λ p _.
      says_fixed l _ c _ _ _ refl tt))

  forced_says : (a b c d : List ℕ) → Says l (λ _. Unit {0}) (forced_line l a b c d)
  forced_says a b c d =
      says_fixed l _ a _ _ _ refl
      (says_need l _ (period_volume_field b) _ _ refl (λ v _.
      says_fixed l _ c _ _ _ refl
      (says_fixed l _ d _ _ _ refl tt)))

  count_says : (w : List ℕ) (most : ℕ) (a b : List ℕ) → Says l (λ n. n ≤ most) (count_line w most l a b)
  count_says w most a b =
      says_fixed l _ a _ _ _ refl
      (says_need l _ (within 0 most (number b)) _ _ refl (λ n h.
      (between 0 most (number b) n h).1))

  end_says : (a : List ℕ) → Says l (λ _. Unit {0}) (end_line l a)
  end_says a = says_fixed l _ a _ _ _ refl tt

  offer_says : (a b c d e f g h : List ℕ) → Says l (λ o. OfferWithin o × Unit {0}) (offer_line l a b c d e f g h)
  offer_says a b c d e f g h =
      says_need l _ (within 1 4 (number a)) _ _ refl (λ q hq.
      says_need l _ (direction_field b) _ _ refl (λ way _.
      says_need l _ (within 1 999 (number c)) _ _ refl (λ u hu.
      says_need l _ (volume_field 1 d) _ _ refl (λ v hv.
      says_fixed l _ e _ _ _ refl
      (says_need l _ (price_field f) _ _ refl (λ p _.
      says_fixed l _ g _ _ _ refl
      (says_need l _ (constraint_field h) _ _ refl (λ x _. (
        record {
          quarter = between 1 4 (number a) q hq;
          unit = between 1 999 (number c) u hu;
          volume = (volume_from 1 d v hv, v.limited);
          price = p.limited;
        },
        tt,
      )))))))))

  unit_says : (before : ℕ) (a b c d : List ℕ) → Says l (λ u. UnitWithin u × (before < u.unit)) (unit_line before l a b c d)
  unit_says before a b c d =
      says_need l _ (within 1 999 (number a)) _ _ refl (λ u hu.
      says_need l _ (direction_field b) _ _ refl (λ way _.
      says_need l _ (volume_field 0 c) _ _ refl (λ v _.
      says_fixed l _ d _ _ _ refl
      (says_cond l _ (ltb before u) _ _ refl (λ rises.
      (record { unit = between 1 999 (number a) u hu; energy = v.limited }, ltb-true before u rises))))))

  imbalance_none : (p : Position) (w : List ℕ) (v : Volume) → imbalance_field p w ≡ Some v → v.kwh ≡ 0 → p ≡ Surplus
  imbalance_none Surplus w v h z = refl
  imbalance_none Shortage w v h z = let low = volume_from 1 w v h in absurd (omega arith)

  group_says : (before : ℕ) (a b c d : List ℕ) → Says l (λ g. GroupWithin g × (before < g.party)) (group_line before l a b c d)
  group_says before a b c d =
      says_need l _ (within 1 64 (number a)) _ _ refl (λ g hg.
      says_need l _ (position_field b) _ _ refl (λ p _.
      says_need l _ (imbalance_field p c) _ _ refl (λ v hv.
      says_fixed l _ d _ _ _ refl
      (says_cond l _ (ltb before g) _ _ refl (λ rises.
      (record { party = between 1 64 (number a) g hg; imbalance = v.limited; none = imbalance_none p c v hv }, ltb-true before g rises))))))

module _ {A : Type 0} (l : ℕ) (P : A → Type 0) (ws : List (List ℕ)) where
  says_counted : (n : ℕ) (f : (ℕ → List ℕ) → Result A LineFault) → Says l P (f (λ i. get_or ws i [])) → Says l P (counted n l ws f)
  says_counted n f h = says_cond l P (eqb (length ws) n) _ _ refl (λ _. h)

  says_three : (f : ℕ → List ℕ → List ℕ → List ℕ → Result A LineFault) → ((a b c : List ℕ) → Says l P (f l a b c)) → Says l P (three f l ws)
  says_three f h = says_counted 3 (λ w. f l (w 0) (w 1) (w 2)) (h (get_or ws 0 []) (get_or ws 1 []) (get_or ws 2 []))

  says_four : (f : ℕ → List ℕ → List ℕ → List ℕ → List ℕ → Result A LineFault) → ((a b c d : List ℕ) → Says l P (f l a b c d)) → Says l P (four f l ws)
  says_four f h = says_counted 4 (λ w. f l (w 0) (w 1) (w 2) (w 3)) (h (get_or ws 0 []) (get_or ws 1 []) (get_or ws 2 []) (get_or ws 3 []))

-- the same of a line with its number of fields
module _ (l : ℕ) (ws : List (List ℕ)) where
  pub period_fact : Says l PlaceWithin (four period_line l ws)
  period_fact = says_four l _ ws period_line (period_says l)

  pub day_ahead_fact : Says l (λ _. Unit {0}) (three day_ahead_line l ws)
  day_ahead_fact = says_three l _ ws day_ahead_line (day_ahead_says l)

  pub forced_fact : Says l (λ _. Unit {0}) (four forced_line l ws)
  forced_fact = says_four l _ ws forced_line (forced_says l)

  pub count_fact : (w : List ℕ) (most : ℕ) → Says l (λ n. n ≤ most) (two (count_line w most) l ws)
  count_fact w most = says_counted l _ ws 2 (λ f. count_line w most l (f 0) (f 1)) (count_says l w most (get_or ws 0 []) (get_or ws 1 []))

  pub offer_fact : Says l (λ o. OfferWithin o × Unit {0}) (eight offer_line l ws)
  offer_fact =
      says_counted l _ ws 8 (λ f. offer_line l (f 0) (f 1) (f 2) (f 3) (f 4) (f 5) (f 6) (f 7))
      (offer_says l (get_or ws 0 []) (get_or ws 1 []) (get_or ws 2 []) (get_or ws 3 []) (get_or ws 4 []) (get_or ws 5 []) (get_or ws 6 []) (get_or ws 7 []))

  pub unit_fact : (before : ℕ) → Says l (λ u. UnitWithin u × (before < u.unit)) (four (unit_line before) l ws)
  unit_fact before = says_four l _ ws (unit_line before) (unit_says l before)

  pub group_fact : (before : ℕ) → Says l (λ g. GroupWithin g × (before < g.party)) (four (group_line before) l ws)
  group_fact before = says_four l _ ws (group_line before) (group_says l before)

  pub end_fact : Says l (λ _. Unit {0}) (one end_line l ws)
  end_fact = says_counted l _ ws 1 (λ f. end_line l (f 0)) (end_says l (get_or ws 0 []))
