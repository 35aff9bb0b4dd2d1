-- What a line says is written as its fields.
use Rattle.std.proofs.Common.{◌≡◌, ℕ, suc, ◌^◌, ◌<◌, eqb, ltb, List, [], ◌∷◌, length, get_or, Ok, Err, codes, Result, sym, refl, ap, ◌∙◌, arith}
use Rattle.std.proofs.lemmas.Bool.{eqb-true}
use Rattle.text.specs.Numbers.{number, within}
use Rattle.sheet_text.specs.Lines.{counted, one, two, three, four, eight, period_line, day_ahead_line, forced_line, count_line, offer_line, unit_line, group_line, end_line}
use Rattle.sheet_text.specs.Values.{direction_field, position_field, constraint_field, volume_field, period_volume_field, price_field, imbalance_field}
use Rattle.sheet_text.specs.declared.faults.LineFault.{LineFault}
use Rattle.sheet_writer.specs.Rendered.{period_fields, day_ahead_fields, forced_fields, offer_fields, unit_fields, group_fields, count_fields, end_fields}
use Rattle.sheet_laws.proofs.Limited.{Gives}
use Rattle.sheet_writer.proofs.Gives.{gives_need, gives_cond, gives_fixed}
use Rattle.sheet_writer.proofs.Numbered.{within_back}
use Rattle.sheet_writer.proofs.Values.{direction_back, position_back, constraint_back, volume_back, period_volume_back, price_back, imbalance_back}

-- the fields from the i-th on
abbrev ReadAs : List (List ℕ) → ℕ → List (List ℕ) → Type 0
ReadAs ws i [] = Unit {0}
ReadAs ws i (f ∷ fs) = (f ≡ get_or ws i []) × ReadAs ws (suc i) fs

read_on : (w : List ℕ) (ws : List (List ℕ)) (i : ℕ) (fs : List (List ℕ)) → ReadAs (w ∷ ws) (suc i) fs → ReadAs ws i fs
read_on w ws i [] h = tt
read_on w ws i (f ∷ fs) h = (h.0, read_on w ws (suc i) fs h.1)

all_read : (ws fs : List (List ℕ)) → length ws ≡ length fs → ReadAs ws 0 fs → ws ≡ fs
all_read [] [] e h = refl
all_read [] (f ∷ fs) e h = absurd (omega arith)
all_read (w ∷ ws) [] e h = absurd (omega arith)
all_read (w ∷ ws) (f ∷ fs) e h = ap (λ x. x ∷ ws) (sym h.0) ∙ ap (λ (x : List (List ℕ)). f ∷ x) (all_read ws fs (omega arith) (read_on w ws 0 fs h.1))

-- a line says something that is written as its fields
abbrev pub WrittenBack : {A : Type 0} → (A → List (List ℕ)) → (ℕ → List (List ℕ) → Result A LineFault) → Type 0
WrittenBack fields says = (l : ℕ) (ws : List (List ℕ)) → Gives (λ x. ws ≡ fields x) (says l ws)

module _ {A : Type 0} (fields : A → List (List ℕ)) (l : ℕ) (ws : List (List ℕ)) (n : ℕ) where
  whole : (r : Result A LineFault) → ((x : A) → length (fields x) ≡ n) → length ws ≡ n → Gives (λ x. ReadAs ws 0 (fields x)) r → Gives (λ x. ws ≡ fields x) r
  whole (Ok x) many e h = all_read ws (fields x) (e ∙ sym (many x)) h
  whole (Err f) many e h = tt

  counted_back : (says : (ℕ → List ℕ) → Result A LineFault) → ((x : A) → length (fields x) ≡ n) → Gives (λ x. ReadAs ws 0 (fields x)) (says (λ i. get_or ws i [])) → Gives (λ x. ws ≡ fields x) (counted n l ws says)
  counted_back says many h = gives_cond _ (eqb (length ws) n) _ _ (λ t. whole (says (λ i. get_or ws i [])) many (eqb-true _ _ t) h)

-- the fields of a place, and of the end
abbrev pub place_fields : ℕ × ℕ × ℕ → List (List ℕ)
place_fields p = period_fields p.0 p.1 p.2

abbrev pub only_end : Unit {0} → List (List ℕ)
only_end _ = end_fields

pub period_back : WrittenBack place_fields (four period_line)
period_back l ws =
    let f = λ (i : ℕ). get_or ws i [] in
    counted_back place_fields l ws 4 (λ f. period_line l (f 0) (f 1) (f 2) (f 3)) (λ _. refl)
    (gives_fixed _ (f 0) (codes "PERIOD") _ _ (λ keyword.
    gives_need _ (within 1 2 (number (f 1))) _ _ (λ z hz.
    gives_need _ (within 1 31 (number (f 2))) _ _ (λ d hd.
    gives_need _ (within 1 24 (number (f 3))) _ _ (λ p hp.
    (sym keyword, (within_back 1 2 (f 1) z (omega arith) hz, (within_back 1 31 (f 2) d (omega arith) hd, (within_back 1 24 (f 3) p (omega arith) hp, tt)))))))))

pub day_ahead_back : WrittenBack day_ahead_fields (three day_ahead_line)
day_ahead_back l ws =
    let f = λ (i : ℕ). get_or ws i [] in
    counted_back day_ahead_fields l ws 3 (λ f. day_ahead_line l (f 0) (f 1) (f 2)) (λ _. refl)
    (gives_fixed _ (f 0) (codes "DAM") _ _ (λ keyword.
    gives_need _ (price_field (f 1)) _ _ (λ p hp.
    gives_fixed _ (f 2) (codes "kop/MWh") _ _ (λ unit.
    (sym keyword, (price_back (f 1) p hp, (sym unit, tt)))))))

pub forced_back : WrittenBack forced_fields (four forced_line)
forced_back l ws =
    let f = λ (i : ℕ). get_or ws i [] in
    counted_back forced_fields l ws 4 (λ f. forced_line l (f 0) (f 1) (f 2) (f 3)) (λ _. refl)
    (gives_fixed _ (f 0) (codes "FORCED") _ _ (λ keyword.
    gives_need _ (period_volume_field (f 1)) _ _ (λ v hv.
    gives_fixed _ (f 2) (codes "kWh") _ _ (λ unit.
    gives_fixed _ (f 3) (codes "H") _ _ (λ span.
    (sym keyword, (period_volume_back (f 1) v hv, (sym unit, (sym span, tt)))))))))

pub count_back : (keyword : List ℕ) (most : ℕ) → most < 2 ^ 64 → WrittenBack (count_fields keyword) (two (count_line keyword most))
count_back keyword most fits l ws =
    let f = λ (i : ℕ). get_or ws i [] in
    counted_back (count_fields keyword) l ws 2 (λ f. count_line keyword most l (f 0) (f 1)) (λ _. refl)
    (gives_fixed _ (f 0) keyword _ _ (λ same.
    gives_need _ (within 0 most (number (f 1))) _ _ (λ n hn.
    (sym same, (within_back 0 most (f 1) n fits hn, tt)))))

pub offer_back : WrittenBack offer_fields (eight offer_line)
offer_back l ws =
    let f = λ (i : ℕ). get_or ws i [] in
    counted_back offer_fields l ws 8 (λ f. offer_line l (f 0) (f 1) (f 2) (f 3) (f 4) (f 5) (f 6) (f 7)) (λ _. refl)
    (gives_need _ (within 1 4 (number (f 0))) _ _ (λ q hq.
    gives_need _ (direction_field (f 1)) _ _ (λ d hd.
    gives_need _ (within 1 999 (number (f 2))) _ _ (λ u hu.
    gives_need _ (volume_field 1 (f 3)) _ _ (λ v hv.
    gives_fixed _ (f 4) (codes "kWh") _ _ (λ kwh.
    gives_need _ (price_field (f 5)) _ _ (λ p hp.
    gives_fixed _ (f 6) (codes "kop/MWh") _ _ (λ kop.
    gives_need _ (constraint_field (f 7)) _ _ (λ c hc. (
      within_back 1 4 (f 0) q (omega arith) hq,
      (direction_back (f 1) d hd, (within_back 1 999 (f 2) u (omega arith) hu, (volume_back 1 (f 3) v hv, (sym kwh, (price_back (f 5) p hp, (sym kop, (constraint_back (f 7) c hc, tt))))))),
    ))))))))))

pub unit_back : (before : ℕ) → WrittenBack unit_fields (four (unit_line before))
unit_back before l ws =
    let f = λ (i : ℕ). get_or ws i [] in
    counted_back unit_fields l ws 4 (λ f. unit_line before l (f 0) (f 1) (f 2) (f 3)) (λ _. refl)
    (gives_need _ (within 1 999 (number (f 0))) _ _ (λ u hu.
    gives_need _ (direction_field (f 1)) _ _ (λ d hd.
    gives_need _ (volume_field 0 (f 2)) _ _ (λ e he.
    gives_fixed _ (f 3) (codes "kWh") _ _ (λ kwh.
    gives_cond _ (ltb before u) _ _ (λ _.
    (within_back 1 999 (f 0) u (omega arith) hu, (direction_back (f 1) d hd, (volume_back 0 (f 2) e he, (sym kwh, tt))))))))))

pub group_back : (before : ℕ) → WrittenBack group_fields (four (group_line before))
group_back before l ws =
    let f = λ (i : ℕ). get_or ws i [] in
    counted_back group_fields l ws 4 (λ f. group_line before l (f 0) (f 1) (f 2) (f 3)) (λ _. refl)
    (gives_need _ (within 1 64 (number (f 0))) _ _ (λ g hg.
    gives_need _ (position_field (f 1)) _ _ (λ p hp.
    gives_need _ (imbalance_field p (f 2)) _ _ (λ i hi.
    gives_fixed _ (f 3) (codes "kWh") _ _ (λ kwh.
    gives_cond _ (ltb before g) _ _ (λ _.
    (within_back 1 64 (f 0) g (omega arith) hg, (position_back (f 1) p hp, (imbalance_back p (f 2) i hi, (sym kwh, tt))))))))))

pub end_back : WrittenBack only_end (one end_line)
end_back l ws =
    let f = λ (i : ℕ). get_or ws i [] in
    counted_back only_end l ws 1 (λ f. end_line l (f 0)) (λ _. refl)
    (gives_fixed _ (f 0) (codes "END") _ _ (λ keyword. (sym keyword, tt)))
