-- A fault stands whatever follows its line.
use Rattle.std.proofs.Common.{◌≡◌, ℕ, zero, suc, ◌+◌, ◌<◌, ◌≤◌, Bool, true, false, cond, eqb, List, [], ◌∷◌, ◌++◌, length, pos, IfErr, Some, None, Ok, Err, codes, Option, Result, sym, refl, ap, ◌∙◌, subst, arith, ne_eqb, MatchResult}
use Prim.Native.String.{String}
use Rattle.text.specs.Cuts.{cut, parts}
use Rattle.sheet_text.specs.Faults.{fault_at, fault_in}
use Rattle.sheet_laws.specs.Laws.{OfferWithin, UnitWithin, GroupWithin, first_lines, FaultsStand}
use Rattle.sheet_text.specs.Lines.{one, two, three, four, eight, period_line, day_ahead_line, forced_line, count_line, offer_line, unit_line, group_line, end_line}
use Rattle.sheet_text.specs.Onward.{from_period, from_day_ahead, from_forced, from_offers, from_units, from_groups, from_end, with_offers, with_units, with_groups}
use Rattle.sheet_text.specs.Reading.{Left, Reported, then, line_of, a_line, entries, a_list, finished, inside, reading}
use Rattle.sheet_text.specs.Steps.{with_place, with_day_ahead, with_forced}
use Rattle.sheet_text.specs.Values.{from}
use Rattle.sheet_text.specs.declared.faults.FaultKind.TheVariants.{Layout}
use Rattle.sheet_text.specs.declared.faults.LineFault.{LineFault}
use Rattle.sheet_text.specs.declared.faults.Section.{Section}
use Rattle.sheet_text.specs.declared.faults.Section.TheVariants as section
use Rattle.sheet_text.specs.declared.faults.SheetFault.{SheetFault}
use Rattle.sheet_text.proofs.Entering.{beside}
use Rattle.sheet_laws.proofs.LineFacts.{Says, PlaceWithin, period_fact, day_ahead_fact, forced_fact, count_fact, offer_fact, unit_fact, group_fact, end_fact}

-- what is left of two texts has the same lines up to the n-th
record Same (n : ℕ) (s u : Left) : Type 0 where
  number : s.line ≡ u.line
  many : ℕ
  last : s.line + many ≡ suc n
  lines : List (List ℕ)
  here : first_lines many s.text ≡ Some lines
  there : first_lines many u.text ≡ Some lines

-- a part that ends by the n-th line is read alike, and so is a fault by the n-th line
abbrev Alike : {A : Type 0} → ℕ → Result (A × Left) LineFault → Result (A × Left) LineFault → Type 0
Alike n (Ok x) r = x.1.line ≤ suc n → (t : Left) × (r ≡ Ok (x.0, t)) × Same n x.1 t
Alike n (Err e) r = e.line ≤ n → r ≡ Err e

-- reading goes on from the line l
abbrev After : {A : Type 0} → ℕ → Result (A × Left) LineFault → Type 0
After l r = MatchResult r (λ x. l ≤ x.1.line) (λ e. l ≤ e.line)

module _ {A B : Type 0} (Q : A → Left → Result (B × Left) LineFault) (goes : (x : A) (s : Left) → After s.line (Q x s)) where
  abbrev follow : A × Left → Result (B × Left) LineFault
  follow y = Q y.0 y.1

  after_step : (l m : ℕ) → l ≤ m → (q : Result (B × Left) LineFault) → After m q → After l q
  after_step l m h (Ok z) a = omega arith
  after_step l m h (Err e) a = omega arith

  after_then : (l : ℕ) (r : Result (A × Left) LineFault) → After l r → After l (then r follow)
  after_then l (Ok y) h = after_step l y.1.line h (Q y.0 y.1) (goes y.0 y.1)
  after_then l (Err e) h = h

  module _ (n : ℕ) (local : (x : A) (s u : Left) → Same n s u → Alike n (Q x s) (Q x u)) where
    alike_step : (y : A × Left) (r : Result (A × Left) LineFault) → Alike n (Ok y) r → (q : Result (B × Left) LineFault) → After y.1.line q
        → ((t : Left) → Same n y.1 t → Alike n q (Q y.0 t)) → Alike n q (then r follow)
    alike_step y r h (Ok z) a g = λ le.
        let i = h (omega arith) in
        let j = g i.0 i.2 le in
        (j.0, ap (λ r. then r follow) i.1 ∙ j.1, j.2)
    alike_step y r h (Err e) a g = λ le.
        let i = h (omega arith) in
        ap (λ r. then r follow) i.1 ∙ g i.0 i.2 le

    alike_then : (r r' : Result (A × Left) LineFault) → Alike n r r' → Alike n (then r follow) (then r' follow)
    alike_then (Ok y) r' h = alike_step y r' h (Q y.0 y.1) (goes y.0 y.1) (local y.0 y.1)
    alike_then (Err e) r' h = λ le. ap (λ r. then r follow) (h le)

-- the first of some lines
rest_cut : (m : ℕ) (lines : List (List ℕ)) (p : List ℕ × List ℕ) (o : Option (List (List ℕ))) → first_lines m p.1 ≡ o → from o (λ ls. Some (p.0 ∷ ls)) ≡ Some lines
    → (q : List ℕ × List ℕ) × (ls : List (List ℕ)) × (Some p ≡ Some q) × (first_lines m q.1 ≡ Some ls) × (q.0 ∷ ls ≡ lines)
rest_cut m lines p None h e = absurd (cc)
rest_cut m lines p (Some ls) h e = let same : p.0 ∷ ls ≡ lines = cc in (p, ls, refl, h, same)

first_cut : (m : ℕ) (lines : List (List ℕ)) (o : Option (List ℕ × List ℕ)) → from o (λ p. from (first_lines m p.1) (λ ls. Some (p.0 ∷ ls))) ≡ Some lines
    → (p : List ℕ × List ℕ) × (ls : List (List ℕ)) × (o ≡ Some p) × (first_lines m p.1 ≡ Some ls) × (p.0 ∷ ls ≡ lines)
first_cut m lines None e = absurd (cc)
first_cut m lines (Some p) e = rest_cut m lines p (first_lines m p.1) refl e

-- a line whose faults are its own
module _ {A : Type 0} (P : A → Type 0) (f : ℕ → List (List ℕ) → Result A LineFault) (fact : (l : ℕ) (ws : List (List ℕ)) → Says l P (f l ws)) where
  -- such a line is passed, or has the fault
  abbrev Passes : ℕ → Result (A × Left) LineFault → Type 0
  Passes l r = MatchResult r (λ x. l < x.1.line) (λ e. l ≤ e.line)

  passes_beside : (l : ℕ) (t : Left) (r : Result A LineFault) → Says l P r → l < t.line → Passes l (then r (beside t))
  passes_beside l t (Ok x) h g = g
  passes_beside l t (Err e) h g = omega arith

  passes_cut : (l : ℕ) (o : Option (List ℕ × List ℕ)) → Passes l (then (line_of l o) (λ b. then (f l (parts 32 b.0)) (beside b.1)))
  passes_cut l None = omega arith
  passes_cut l (Some p) = passes_beside l (record { line = l + 1; text = p.1 }) (f l (parts 32 p.0)) (fact l (parts 32 p.0)) (omega arith)

  line_passes : (s : Left) → Passes s.line (a_line f s)
  line_passes s = passes_cut s.line (cut 10 s.text)

  passes_after : (l : ℕ) (r : Result (A × Left) LineFault) → Passes l r → After l r
  passes_after l (Ok x) h = omega arith
  passes_after l (Err e) h = h

  line_after : (s : Left) → After s.line (a_line f s)
  line_after s = passes_after s.line (a_line f s) (line_passes s)

  module _ (n : ℕ) where
    alike_past : (l : ℕ) → l ≡ suc n → (r r' : Result (A × Left) LineFault) → Passes l r → Alike n r r'
    alike_past l h (Ok x) r' g = λ le. absurd (omega arith)
    alike_past l h (Err e) r' g = λ le. absurd (omega arith)

    alike_said : (t t' : Left) → Same n t t' → (r r' : Result A LineFault) → r ≡ r' → Alike n (then r (beside t)) (then r' (beside t'))
    alike_said t t' same (Ok x) r' e = λ le. (t', ap (λ r. then r (beside t')) (sym e), same)
    alike_said t t' same (Err x) r' e = λ le. ap (λ r. then r (beside t')) (sym e)

    line_known : (s : Left) (p : List ℕ × List ℕ) → cut 10 s.text ≡ Some p → a_line f s ≡ then (f s.line (parts 32 p.0)) (beside (record { line = s.line + 1; text = p.1 }))
    line_known s p e = ap (λ o. then (line_of s.line o) (λ b. then (f s.line (parts 32 b.0)) (beside b.1))) e

    alike_many : (s u : Left) → s.line ≡ u.line → (m : ℕ) → s.line + m ≡ suc n → (lines : List (List ℕ)) → first_lines m s.text ≡ Some lines → first_lines m u.text ≡ Some lines → Alike n (a_line f s) (a_line f u)
    alike_many s u num zero last lines here there = alike_past s.line (omega arith) (a_line f s) (a_line f u) (line_passes s)
    alike_many s u num (suc m) last lines here there =
        let i = first_cut m lines (cut 10 s.text) here in
        let j = first_cut m lines (cut 10 u.text) there in
        let both : i.0.0 ∷ i.1 ≡ j.0.0 ∷ j.1 = i.4 ∙ sym j.4 in
        let same : i.0.0 ≡ j.0.0 = cc in
        let rest : i.1 ≡ j.1 = cc in
        let t : Left = record { line = s.line + 1; text = i.0.1 } in
        let t' : Left = record { line = u.line + 1; text = j.0.1 } in
        let on : Same n t t' = record { number = ap (λ l. l + 1) num; many = m; last = omega arith; lines = i.1; here = i.3; there = j.3 ∙ ap (λ ls. Some ls) (sym rest) } in
        let says : f s.line (parts 32 i.0.0) ≡ f u.line (parts 32 j.0.0) = ap (λ l. f l (parts 32 i.0.0)) num ∙ ap (λ w. f u.line (parts 32 w)) same in
        subst (λ x. Alike n x (a_line f u)) (sym (line_known s i.0 i.2))
        (subst (λ x. Alike n (then (f s.line (parts 32 i.0.0)) (beside t)) x) (sym (line_known u j.0 j.2))
        (alike_said t t' on (f s.line (parts 32 i.0.0)) (f u.line (parts 32 j.0.0)) says))

    line_alike : (s u : Left) → Same n s u → Alike n (a_line f s) (a_line f u)
    line_alike s u h = alike_many s u h.number h.many h.last h.lines h.here h.there

-- lists
module _ {A : Type 0} (says : ℕ → ℕ → List (List ℕ) → Result A LineFault) (order : A → ℕ) (P : ℕ → A → Type 0) (each : (before l : ℕ) (ws : List (List ℕ)) → Says l (P before) (says before l ws)) where
  entries_after : (m before : ℕ) (xs : List A) (s : Left) → After s.line (entries says order m before xs s)
  entries_after zero before xs s = omega arith
  entries_after (suc m) before xs s =
      after_then (λ x t. entries says order m (order x) (xs ++ x ∷ []) t) (λ x t. entries_after m (order x) (xs ++ x ∷ []) t)
      s.line (a_line (says before) s) (line_after (P before) (says before) (each before) s)

  entries_alike : (n m before : ℕ) (xs : List A) (s u : Left) → Same n s u → Alike n (entries says order m before xs s) (entries says order m before xs u)
  entries_alike n zero before xs s u h = λ le. (u, refl, h)
  entries_alike n (suc m) before xs s u h =
      alike_then (λ x t. entries says order m (order x) (xs ++ x ∷ []) t) (λ x t. entries_after m (order x) (xs ++ x ∷ []) t) n
      (λ x t t' g. entries_alike n m (order x) (xs ++ x ∷ []) t t' g)
      (a_line (says before) s) (a_line (says before) u) (line_alike (P before) (says before) (each before) n s u h)

  module _ (keyword : String) (most : ℕ) where
    list_after : (s : Left) → After s.line (a_list says order keyword most s)
    list_after s =
        after_then (λ m t. entries says order m 0 [] t) (λ m t. entries_after m 0 [] t)
        s.line (a_line (two (count_line (codes keyword) most)) s) (line_after (λ m. m ≤ most) (two (count_line (codes keyword) most)) (λ l ws. count_fact l ws (codes keyword) most) s)

    list_alike : (n : ℕ) (s u : Left) → Same n s u → Alike n (a_list says order keyword most s) (a_list says order keyword most u)
    list_alike n s u h =
        alike_then (λ m t. entries says order m 0 [] t) (λ m t. entries_after m 0 [] t) n (λ m t t' g. entries_alike n m 0 [] t t' g)
        (a_line (two (count_line (codes keyword) most)) s) (a_line (two (count_line (codes keyword) most)) u)
        (line_alike (λ m. m ≤ most) (two (count_line (codes keyword) most)) (λ l ws. count_fact l ws (codes keyword) most) n s u h)

-- the whole of what is left, by its fault
abbrev Faulty : ℕ → Result Reported SheetFault → Result Reported SheetFault → Type 0
Faulty n r r' = IfErr r (λ e. e.fault.line ≤ n → r' ≡ Err e)

abbrev Later : ℕ → Result Reported SheetFault → Type 0
Later l r = IfErr r (λ e. l ≤ e.fault.line)

module _ {A : Type 0} (sec : Section) (k : A → Left → Result Reported SheetFault) (later : (x : A) (s : Left) → Later s.line (k x s)) where
  later_step : (l m : ℕ) → l ≤ m → (q : Result Reported SheetFault) → Later m q → Later l q
  later_step l m h (Ok z) a = tt
  later_step l m h (Err e) a = omega arith

  inside_later : (l : ℕ) (r : Result (A × Left) LineFault) → After l r → Later l (inside sec r k)
  inside_later l (Ok y) h = later_step l y.1.line h (k y.0 y.1) (later y.0 y.1)
  inside_later l (Err e) h = h

  module _ (n : ℕ) (faulty : (x : A) (s u : Left) → Same n s u → Faulty n (k x s) (k x u)) where
    faulty_step : (y : A × Left) (r : Result (A × Left) LineFault) → Alike n (Ok y) r → (q : Result Reported SheetFault) → Later y.1.line q
        → ((t : Left) → Same n y.1 t → Faulty n q (k y.0 t)) → Faulty n q (inside sec r k)
    faulty_step y r h (Ok z) a g = tt
    faulty_step y r h (Err e) a g = λ le.
        let i = h (omega arith) in
        ap (λ r. inside sec r k) i.1 ∙ g i.0 i.2 le

    inside_faulty : (r r' : Result (A × Left) LineFault) → Alike n r r' → Faulty n (inside sec r k) (inside sec r' k)
    inside_faulty (Ok y) r' h = faulty_step y r' h (k y.0 y.1) (later y.0 y.1) (faulty y.0 y.1)
    inside_faulty (Err e) r' h = λ le. ap (λ r. inside sec r k) (h le)

-- nothing follows the end
module _ (r : Reported) where
  abbrev behind : Bool → ℕ → Result Reported SheetFault
  behind b l = cond b (Ok r) (Err (fault_in section.End (fault_at Layout l 0)))

  abbrev done : Left → Result Reported SheetFault
  done s = behind (eqb (length s.text) 0) s.line

  done_step : (x : Unit {0} × Left) (b : Bool) → inside section.End (then (cond b (Ok tt) (Err (fault_at Layout x.1.line 0))) (λ (_ : Unit {0}). beside x.1 x.0)) (λ _ c. Ok r) ≡ behind b x.1.line
  done_step x true = refl
  done_step x false = refl

  end_step : (e : Result (Unit {0} × Left) LineFault) → inside section.End (then e (λ x. then (finished x.1) (λ _. Ok x))) (λ _ c. Ok r) ≡ inside section.End e (λ _ c. done c)
  end_step (Ok x) = done_step x (eqb (length x.1.text) 0)
  end_step (Err e) = refl

  end_is : (s : Left) → from_end r s ≡ inside section.End (a_line (one end_line) s) (λ _ c. done c)
  end_is s = end_step (a_line (one end_line) s)

  later_behind : (b : Bool) (l : ℕ) → Later l (behind b l)
  later_behind true l = tt
  later_behind false l = omega arith

  not_empty : (m : ℕ) (lines : List (List ℕ)) (text : List ℕ) → first_lines (suc m) text ≡ Some lines → eqb (length text) 0 ≡ false
  not_empty m lines [] e = absurd (cc)
  not_empty m lines (c ∷ cs) e = ne_eqb (suc (length cs)) 0 (omega arith)

  still_behind : (n : ℕ) (s u : Left) → s.line ≡ u.line → (m : ℕ) → s.line + m ≡ suc n → (lines : List (List ℕ)) → first_lines m u.text ≡ Some lines → s.line ≤ n → done u ≡ Err (fault_in section.End (fault_at Layout s.line 0))
  still_behind n s u num zero last lines there le = absurd (omega arith)
  still_behind n s u num (suc m) last lines there le =
      ap (λ b. behind b u.line) (not_empty m lines u.text there) ∙ ap (λ l. Err (fault_in section.End (fault_at Layout l 0))) (sym num)

  faulty_behind : (n : ℕ) (s u : Left) → Same n s u → (b : Bool) → Faulty n (behind b s.line) (done u)
  faulty_behind n s u h true = tt
  faulty_behind n s u h false = λ le. still_behind n s u h.number h.many h.last h.lines h.there le

  end_later : (s : Left) → Later s.line (from_end r s)
  end_later s =
      subst (Later s.line) (sym (end_is s))
      (inside_later section.End (λ _ c. done c) (λ _ c. later_behind (eqb (length c.text) 0) c.line) s.line (a_line (one end_line) s) (line_after (λ _. Unit {0}) (one end_line) end_fact s))

  end_faulty : (n : ℕ) (s u : Left) → Same n s u → Faulty n (from_end r s) (from_end r u)
  end_faulty n s u h =
      subst (λ x. Faulty n x (from_end r u)) (sym (end_is s))
      (subst (λ x. Faulty n (inside section.End (a_line (one end_line) s) (λ _ c. done c)) x) (sym (end_is u))
      (inside_faulty section.End (λ _ c. done c) (λ _ c. later_behind (eqb (length c.text) 0) c.line) n (λ _ s u h. faulty_behind n s u h (eqb (length s.text) 0))
      (a_line (one end_line) s) (a_line (one end_line) u) (line_alike (λ _. Unit {0}) (one end_line) end_fact n s u h)))

-- what is left is read to the same fault, as far as the lines are the same
record Sound (F : Left → Result Reported SheetFault) : Type 0 where
  later : (s : Left) → Later s.line (F s)
  faulty : (n : ℕ) (s u : Left) → Same n s u → Faulty n (F s) (F u)

module _ {A : Type 0} (sec : Section) (k : A → Left → Result Reported SheetFault) (next : (x : A) → Sound (k x)) where
  sound_line : (P : A → Type 0) (f : ℕ → List (List ℕ) → Result A LineFault) → ((l : ℕ) (ws : List (List ℕ)) → Says l P (f l ws)) → Sound (λ s. inside sec (a_line f s) k)
  sound_line P f fact = record {
    later = λ s. inside_later sec k (λ x. (next x).later) s.line (a_line f s) (line_after P f fact s);
    faulty = λ n s u h. inside_faulty sec k (λ x. (next x).later) n (λ x. (next x).faulty n) (a_line f s) (a_line f u) (line_alike P f fact n s u h);
  }

module _ {A : Type 0} (sec : Section) (k : List A → Left → Result Reported SheetFault) (next : (xs : List A) → Sound (k xs)) where
  sound_list : (says : ℕ → ℕ → List (List ℕ) → Result A LineFault) (order : A → ℕ) (P : ℕ → A → Type 0) → ((before l : ℕ) (ws : List (List ℕ)) → Says l (P before) (says before l ws))
      → (keyword : String) (most : ℕ) → Sound (λ s. inside sec (a_list says order keyword most s) k)
  sound_list says order P each keyword most = record {
    later = λ s. inside_later sec k (λ xs. (next xs).later) s.line (a_list says order keyword most s) (list_after says order P each keyword most s);
    faulty = λ n s u h.
        inside_faulty sec k (λ xs. (next xs).later) n (λ xs. (next xs).faulty n) (a_list says order keyword most s) (a_list says order keyword most u)
        (list_alike says order P each keyword most n s u h);
  }

end_sound : (r : Reported) → Sound (from_end r)
end_sound r = record { later = end_later r; faulty = end_faulty r }

groups_sound : (r : Reported) → Sound (from_groups r)
groups_sound r =
    sound_list section.Groups (λ xs c. from_end (with_groups r xs) c) (λ xs. end_sound (with_groups r xs))
    (λ before. four (group_line before)) (λ g. g.party) (λ before g. GroupWithin g × (before < g.party)) (λ before l ws. group_fact l ws before) "GROUPS" 16

units_sound : (r : Reported) → Sound (from_units r)
units_sound r =
    sound_list section.Units (λ xs c. from_groups (with_units r xs) c) (λ xs. groups_sound (with_units r xs))
    (λ before. four (unit_line before)) (λ u. u.unit) (λ before u. UnitWithin u × (before < u.unit)) (λ before l ws. unit_fact l ws before) "UNITS" 16

offers_sound : (r : Reported) → Sound (from_offers r)
offers_sound r =
    sound_list section.Offers (λ xs c. from_units (with_offers r xs) c) (λ xs. units_sound (with_offers r xs))
    (λ _. eight offer_line) (λ _. 0) (λ _ o. OfferWithin o × Unit {0}) (λ _. offer_fact) "OFFERS" 24

forced_sound : (r : Reported) → Sound (from_forced r)
forced_sound r = sound_line section.Head (λ v c. from_offers (with_forced r v) c) (λ v. offers_sound (with_forced r v)) (λ _. Unit {0}) (four forced_line) forced_fact

day_ahead_sound : (r : Reported) → Sound (from_day_ahead r)
day_ahead_sound r = sound_line section.Head (λ p c. from_forced (with_day_ahead r p) c) (λ p. forced_sound (with_day_ahead r p)) (λ _. Unit {0}) (three day_ahead_line) day_ahead_fact

period_sound : (r : Reported) → Sound (from_period r)
period_sound r = sound_line section.Head (λ p c. from_day_ahead (with_place r p) c) (λ p. day_ahead_sound (with_place r p)) PlaceWithin (four period_line) period_fact

-- each part of it is replaced
blank : Reported
blank = record {
  zone = 0;
  day = 0;
  period = 0;
  figures = record { day_ahead = record { kop = pos 0; limited = omega arith }; forced = record { kwh = 0; limited = omega arith }; offers = []; units = []; groups = [] };
}

pub faults_stand : FaultsStand
faults_stand text other fault lines e here there =
    let same : Same fault.fault.line (record { line = 1; text = text }) (record { line = 1; text = other })
    = record { number = refl; many = fault.fault.line; last = omega arith; lines = lines; here = here; there = there } in
    subst (λ r. Faulty fault.fault.line r (reading other)) e ((period_sound blank).faulty fault.fault.line (record { line = 1; text = text }) (record { line = 1; text = other }) same) (omega arith)
