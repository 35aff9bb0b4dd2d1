-- The text of a sheet within its limits is read as that sheet.
use Rattle.std.proofs.Common.{◌≡◌, ℕ, ◌+◌, ◌^◌, ◌<◌, ◌≤◌, true, List, [], ◌∷◌, ◌++◌, length, Ok, codes, Result, sym, refl, ap, ◌∙◌, append_assoc, append-nil, arith}
use Prim.Native.String.{String}
use Rattle.std.specs.List.{flat_map, AllByRecursion}
use Rattle.text.specs.Cuts.{parts}
use Rattle.sheet_laws.specs.Laws.{OfferWithin, UnitWithin, GroupWithin, Rises, WithinLimits}
use Rattle.sheet_text.specs.Lines.{one, two, three, four, eight, period_line, day_ahead_line, forced_line, count_line, offer_line, unit_line, group_line, end_line}
use Rattle.sheet_text.specs.Reading.{Left, Reported, then, line_of, a_line, entries, a_list, finished, the_end, inside, reading}
use Rattle.sheet_text.specs.declared.faults.LineFault.{LineFault}
use Rattle.sheet_text.specs.declared.faults.Section.{Section}
use Rattle.sheet_text.specs.declared.faults.Section.TheVariants as section
use Rattle.sheet_text.specs.declared.faults.SheetFault.{SheetFault}
use Rattle.sheet_writer.specs.Laws.{WrittenIsReadBack}
use Rattle.sheet_writer.specs.Rendered.{line, day_ahead_fields, forced_fields, offer_fields, unit_fields, group_fields, count_fields, end_fields, list_text, rendered}
use Rattle.sheet_writer.proofs.LinesBack.{place_fields}
use Rattle.sheet_writer.proofs.LinesRead.{Says, period_said, day_ahead_said, forced_said, count_said, offer_said, unit_said, group_said, end_said}
use Rattle.sheet_writer.proofs.Spacing.{above, parts_spaced, cut_line}

abbrev at : ℕ → List ℕ → Left
at l text = record { line = l; text = text }

line_read : {A : Type 0} (says : ℕ → List (List ℕ) → Result A LineFault) (l : ℕ) (fields : List (List ℕ)) (rest : List ℕ) (x : A) → 0 < length fields → Says (says l) fields x → a_line says (at l (line fields ++ rest)) ≡ Ok (x, at (l + 1) rest)
line_read says l fields rest x some h =
    ap (λ o. then (line_of l o) (λ b. then (says l (parts 32 b.0)) (λ x. Ok (x, b.1)))) (cut_line fields rest h.clean)
    ∙ ap (λ (ws : List (List ℕ)). then (says l ws) (λ x. Ok (x, at (l + 1) rest))) (parts_spaced fields some h.clean)
    ∙ ap (λ r. then r (λ x. Ok (x, at (l + 1) rest))) h.said

-- x is read, and the rest is left
abbrev Reads : {A : Type 0} → A → List ℕ → Result (A × Left) LineFault → Type 0
Reads x rest r = (l : ℕ) × (r ≡ Ok (x, at l rest))

-- each entry may follow the one before it
abbrev Chain : {A : Type 0} → (ℕ → A → Type 0) → (A → ℕ) → ℕ → List A → Type 0
Chain follows order before [] = Unit {0}
Chain follows order before (x ∷ xs) = follows before x × Chain follows order (order x) xs

module _ {A : Type 0} (fields : A → List (List ℕ)) (says : ℕ → ℕ → List (List ℕ) → Result A LineFault) (order : A → ℕ) (follows : ℕ → A → Type 0)
    (some : (x : A) → 0 < length (fields x)) (said : (before l : ℕ) (x : A) → follows before x → Says (says before l) (fields x) x) where
  abbrev lines : List A → List ℕ
  lines xs = flat_map (λ x. line (fields x)) xs

  entries_read : (xs : List A) (before l : ℕ) (so_far : List A) (rest : List ℕ) → Chain follows order before xs → Reads (so_far ++ xs) rest (entries says order (length xs) before so_far (at l (lines xs ++ rest)))
  entries_read [] before l so_far rest h = (l, ap (λ (ys : List A). Ok (ys, at l rest)) (sym (append-nil so_far)))
  entries_read (x ∷ xs) before l so_far rest h =
      let more : Result (A × Left) LineFault → Result (List A × Left) LineFault = λ r. then r (λ y. entries says order (length xs) (order y.0) (so_far ++ y.0 ∷ []) y.1) in
      let ih = entries_read xs (order x) (l + 1) (so_far ++ x ∷ []) rest h.1 in (
        ih.0,
        ap (λ (t : List ℕ). more (a_line (says before) (at l t))) (append_assoc (line (fields x)) (lines xs) rest)
            ∙ ap more (line_read (says before) l (fields x) (lines xs ++ rest) x (some x) (said before l x h.0))
            ∙ ih.1
            ∙ ap (λ (ys : List A). Ok (ys, at ih.0 rest)) (append_assoc so_far (x ∷ []) xs),
      )

  list_read : (keyword : String) (most l : ℕ) (xs : List A) (rest : List ℕ) → above 32 (codes keyword) ≡ true → most < 2 ^ 64 → length xs ≤ most → Chain follows order 0 xs → Reads xs rest (a_list says order keyword most (at l (list_text (codes keyword) fields xs ++ rest)))
  list_read keyword most l xs rest clean fits few h =
      let counting = two (count_line (codes keyword) most) in
      let count = line (count_fields (codes keyword) (length xs)) in
      let more : Result (ℕ × Left) LineFault → Result (List A × Left) LineFault = λ r. then r (λ n. entries says order n.0 0 [] n.1) in
      let all = entries_read xs 0 (l + 1) [] rest h in (
        all.0,
        ap (λ (t : List ℕ). more (a_line counting (at l t))) (append_assoc count (lines xs) rest)
            ∙ ap more (line_read counting l (count_fields (codes keyword) (length xs)) (lines xs ++ rest) (length xs) (omega arith) (count_said (codes keyword) most l (length xs) clean fits few))
            ∙ all.1,
      )

all_chain : {A : Type 0} (P : A → Type 0) (order : A → ℕ) (before : ℕ) (xs : List A) → AllByRecursion P xs → Chain (λ _ x. P x) order before xs
all_chain P order before [] h = tt
all_chain P order before (x ∷ xs) h = (h.0, all_chain P order (order x) xs h.1)

rising_chain : {A : Type 0} (P : A → Type 0) (order : A → ℕ) (before : ℕ) (xs : List A) → AllByRecursion P xs → Rises order before xs → Chain (λ b x. P x × (b < order x)) order before xs
rising_chain P order before [] h r = tt
rising_chain P order before (x ∷ xs) h r = ((h.0, r.0), rising_chain P order (order x) xs h.1 r.1)

inside_read : {A B : Type 0} (sec : Section) (r : Result (A × Left) LineFault) (x : A) (s : Left) (follows : A → Left → Result B SheetFault) {result : Result B SheetFault} → r ≡ Ok (x, s) → follows x s ≡ result → inside sec r follows ≡ result
inside_read sec r x s follows e h = ap (λ r. inside sec r follows) e ∙ h

end_read : (l : ℕ) → the_end (at l (line end_fields)) ≡ Ok (tt, at (l + 1) [])
end_read l = ap (λ r. then r (λ x. then (finished x.1) (λ _. Ok x))) (line_read (one end_line) l end_fields [] tt (omega arith) (end_said l))

apart : (a b c rest : List ℕ) → (a ++ (b ++ c)) ++ rest ≡ a ++ (b ++ (c ++ rest))
apart a b c rest = append_assoc a (b ++ c) rest ∙ ap (λ (t : List ℕ). a ++ t) (append_assoc b c rest)

-- the three lists of a sheet
module _ (r : Reported) (h : WithinLimits r) (l : ℕ) (rest : List ℕ) where
  offers_read : Reads r.figures.offers rest (a_list (λ _. eight offer_line) (λ _. 0) "OFFERS" 24 (at l (list_text (codes "OFFERS") offer_fields r.figures.offers ++ rest)))
  offers_read =
      list_read offer_fields (λ _. eight offer_line) (λ _. 0) (λ _. OfferWithin) (λ _. omega arith) (λ _. offer_said) "OFFERS" 24 l r.figures.offers rest refl (omega arith) h.few_offers
      (all_chain OfferWithin (λ _. 0) 0 r.figures.offers h.offers)

  units_read : Reads r.figures.units rest (a_list (λ before. four (unit_line before)) (λ u. u.unit) "UNITS" 16 (at l (list_text (codes "UNITS") unit_fields r.figures.units ++ rest)))
  units_read =
      list_read unit_fields (λ before. four (unit_line before)) (λ u. u.unit) (λ before u. UnitWithin u × (before < u.unit)) (λ _. omega arith) (λ before l u k. unit_said before l u k.0 k.1) "UNITS" 16 l r.figures.units rest refl (omega arith) h.few_units
      (rising_chain UnitWithin (λ u. u.unit) 0 r.figures.units h.units h.units_rise)

  groups_read : Reads r.figures.groups rest (a_list (λ before. four (group_line before)) (λ g. g.party) "GROUPS" 16 (at l (list_text (codes "GROUPS") group_fields r.figures.groups ++ rest)))
  groups_read =
      list_read group_fields (λ before. four (group_line before)) (λ g. g.party) (λ before g. GroupWithin g × (before < g.party)) (λ _. omega arith) (λ before l g k. group_said before l g k.0 k.1) "GROUPS" 16 l r.figures.groups rest refl (omega arith) h.few_groups
      (rising_chain GroupWithin (λ g. g.party) 0 r.figures.groups h.groups h.parties_rise)

pub written_is_read_back : WrittenIsReadBack
unfolding rendered
written_is_read_back r h =
    let place : ℕ × ℕ × ℕ = (r.zone, r.day, r.period) in
    let s = r.figures in
    let a = line (place_fields place) in
    let b = line (day_ahead_fields s.day_ahead) in
    let c = line (forced_fields s.forced) in
    let end = line end_fields in
    let groups-on = list_text (codes "GROUPS") group_fields s.groups ++ end in
    let units-on = list_text (codes "UNITS") unit_fields s.units ++ groups-on in
    let offers-on = list_text (codes "OFFERS") offer_fields s.offers ++ units-on in
    let offers = offers_read r h 4 units-on in
    let units = units_read r h offers.0 groups-on in
    let groups = groups_read r h units.0 end in
    ap reading (apart a b c offers-on)
    ∙ inside_read section.Head _ place (at 2 (b ++ (c ++ offers-on))) _ (line_read (four period_line) 1 (place_fields place) (b ++ (c ++ offers-on)) place (omega arith) (period_said 1 place h.zone h.day h.period))
    (inside_read section.Head _ s.day_ahead (at 3 (c ++ offers-on)) _ (line_read (three day_ahead_line) 2 (day_ahead_fields s.day_ahead) (c ++ offers-on) s.day_ahead (omega arith) (day_ahead_said 2 s.day_ahead))
    (inside_read section.Head _ s.forced (at 4 offers-on) _ (line_read (four forced_line) 3 (forced_fields s.forced) offers-on s.forced (omega arith) (forced_said 3 s.forced))
    (inside_read section.Offers _ s.offers (at offers.0 units-on) _ offers.1
    (inside_read section.Units _ s.units (at units.0 groups-on) _ units.1
    (inside_read section.Groups _ s.groups (at groups.0 end) _ groups.1
    (inside_read section.End _ tt (at (groups.0 + 1) []) (λ _ _. Ok r) (end_read groups.0) refl))))))
