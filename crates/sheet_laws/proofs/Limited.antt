-- What is read is within its limits.
use Rattle.std.proofs.Common.{◌≡◌, ℕ, zero, suc, ◌+◌, ◌<◌, ◌≤◌, List, [], ◌∷◌, ◌++◌, length, IfOk, Ok, Err, codes, Result, sym, refl, ◌∙◌, subst, arith}
use Prim.Native.String.{String}
use Rattle.std.proofs.ByRecursion.{All-push}
use Rattle.std.proofs.lemmas.List.{length_push}
use Rattle.std.proofs.lemmas.Result.{IfOk-weaker}
use Rattle.std.specs.List.{AllByRecursion}
use Rattle.measures.specs.declared.price.Price.{Price}
use Rattle.measures.specs.declared.volume.PeriodVolume.{PeriodVolume}
use Rattle.sheet.specs.declared.lines.GroupLine.{GroupLine}
use Rattle.sheet.specs.declared.lines.Offer.{Offer}
use Rattle.sheet.specs.declared.lines.UnitLine.{UnitLine}
use Rattle.text.specs.Cuts.{parts}
use Rattle.sheet_laws.specs.Laws.{OfferWithin, UnitWithin, GroupWithin, Rises, WithinLimits, SheetsAreWithinLimits}
use Rattle.sheet_text.specs.Lines.{two, three, four, eight, period_line, day_ahead_line, forced_line, count_line, offer_line, unit_line, group_line}
use Rattle.sheet_text.specs.Onward.{from_period, from_day_ahead, from_forced, from_offers, from_units, from_groups, from_end, with_offers, with_units, with_groups}
use Rattle.sheet_text.specs.Reading.{Left, Reported, then, next_line, a_line, entries, a_list, the_end, inside}
use Rattle.sheet_text.specs.Steps.{with_place, with_day_ahead, with_forced}
use Rattle.sheet_text.specs.declared.faults.LineFault.{LineFault}
use Rattle.sheet_text.specs.declared.faults.Section.{Section}
use Rattle.sheet_text.specs.declared.faults.Section.TheVariants as section
use Rattle.sheet_text.specs.declared.faults.SheetFault.{SheetFault}
use Rattle.sheet_text.proofs.Entering.{beside}
use Rattle.sheet_laws.proofs.LineFacts.{Says, PlaceWithin, period_fact, day_ahead_fact, forced_fact, count_fact, offer_fact, unit_fact, group_fact}

-- where something is read, it is P
abbrev pub Gives : {A E : Type 0} → (A → Type 0) → Result A E → Type 0
Gives P r = IfOk r P

pub gives_then : {A B E : Type 0} (P : A → Type 0) (Q : B → Type 0) (r : Result A E) (k : A → Result B E) → Gives P r → ((x : A) → P x → Gives Q (k x)) → Gives Q (then r k)
gives_then P Q (Ok x) k h g = g x h
gives_then P Q (Err e) k h g = tt

pub gives_inside : {A B : Type 0} (P : A → Type 0) (Q : B → Type 0) (sec : Section) (r : Result (A × Left) LineFault) (k : A → Left → Result B SheetFault)
    → Gives (λ x. P x.0) r → ((x : A) (s : Left) → P x → Gives Q (k x s)) → Gives Q (inside sec r k)
gives_inside P Q sec (Ok x) k h g = g x.0 x.1 h
gives_inside P Q sec (Err e) k h g = tt

any : {A E : Type 0} (r : Result A E) → Gives (λ _. Unit {0}) r
any (Ok x) = tt
any (Err e) = tt

module _ {A : Type 0} (P : A → Type 0) where
  gives_beside : (l : ℕ) (t : Left) (r : Result A LineFault) → Says l P r → Gives (λ x. P x.0) (then r (beside t))
  gives_beside l t (Ok x) h = h
  gives_beside l t (Err e) h = tt

  line_step : (f : ℕ → List (List ℕ) → Result A LineFault) (l : ℕ) (r : Result (List ℕ × Left) LineFault) → ((ws : List (List ℕ)) → Says l P (f l ws))
      → Gives (λ x. P x.0) (then r (λ b. then (f l (parts 32 b.0)) (beside b.1)))
  line_step f l (Ok b) h = gives_beside l b.1 (f l (parts 32 b.0)) (h (parts 32 b.0))
  line_step f l (Err e) h = tt

  gives_line : (f : ℕ → List (List ℕ) → Result A LineFault) (s : Left) → ((l : ℕ) (ws : List (List ℕ)) → Says l P (f l ws)) → Gives (λ x. P x.0) (a_line f s)
  gives_line f s h = line_step f s.line (next_line s) (h s.line)

-- each entry follows the one before it, up to the number b
abbrev Chain : {A : Type 0} → (ℕ → A → Type 0) → (A → ℕ) → ℕ → List A → ℕ → Type 0
Chain R order a [] b = a ≡ b
Chain R order a (x ∷ xs) b = R a x × Chain R order (order x) xs b

-- at most so many entries, each of them P and behind the one before it
abbrev Few : {A : Type 0} → (A → Type 0) → (ℕ → A → Type 0) → (A → ℕ) → ℕ → List A → Type 0
Few P R order most xs = AllByRecursion P xs × (length xs ≤ most) × ((b : ℕ) × Chain R order 0 xs b)

module _ {A : Type 0} (R : ℕ → A → Type 0) (order : A → ℕ) where
  chain_push : (a b : ℕ) (xs : List A) (x : A) → Chain R order a xs b → R b x → Chain R order a (xs ++ x ∷ []) (order x)
  chain_push a b [] x h r = (subst (λ n. R n x) (sym h) r, refl)
  chain_push a b (y ∷ ys) x h r = (h.0, chain_push (order y) b ys x h.1 r)

chain_rises : {A : Type 0} (order : A → ℕ) (a b : ℕ) (xs : List A) → Chain (λ n x. n < order x) order a xs b → Rises order a xs
chain_rises order a b [] h = tt
chain_rises order a b (x ∷ xs) h = (h.0, chain_rises order (order x) b xs h.1)

module _ {A : Type 0} (says : ℕ → ℕ → List (List ℕ) → Result A LineFault) (order : A → ℕ) (P : A → Type 0) (R : ℕ → A → Type 0)
    (each : (before l : ℕ) (ws : List (List ℕ)) → Says l (λ x. P x × R before x) (says before l ws)) where
  abbrev Good : ℕ → List A → Type 0
  Good n xs = AllByRecursion P xs × (length xs ≡ n) × ((b : ℕ) × Chain R order 0 xs b)

  gives_entries : (n before : ℕ) (xs : List A) (s : Left) → AllByRecursion P xs → Chain R order 0 xs before → Gives (λ r. Good (length xs + n) r.0) (entries says order n before xs s)
  gives_entries zero before xs s h c = (h, omega arith, (before, c))
  gives_entries (suc n) before xs s h c =
      gives_then (λ x. P x.0 × R before x.0) _ (a_line (says before) s) _ (gives_line _ (says before) s (each before)) (λ x p.
      IfOk-weaker (entries says order n (order x.0) (xs ++ x.0 ∷ []) x.1) (λ r. Good (length (xs ++ x.0 ∷ []) + n) r.0) _
      (λ r g. (g.0, g.1 ∙ (let longer = length_push xs x.0 in omega arith), g.2))
      (gives_entries n (order x.0) (xs ++ x.0 ∷ []) x.1 (All-push P xs x.0 h p.0) (chain_push R order 0 before xs x.0 c p.1)))

  -- a list with at most so many entries
  gives_list : (keyword : String) (most : ℕ) (s : Left) → Gives (λ r. Few P R order most r.0) (a_list says order keyword most s)
  gives_list keyword most s =
      gives_then (λ n. n.0 ≤ most) _ (a_line (two (count_line (codes keyword) most)) s) _
      (gives_line (λ n. n ≤ most) (two (count_line (codes keyword) most)) s (λ l ws. count_fact l ws (codes keyword) most))
      (λ n few.
      IfOk-weaker (entries says order n.0 0 [] n.1) (λ r. Good (0 + n.0) r.0) _
      (λ r g. (g.0, (let long = g.1 in omega arith), g.2))
      (gives_entries n.0 0 [] n.1 tt refl))

abbrev OffersWithin : List Offer → Type 0
OffersWithin = Few OfferWithin (λ _ _. Unit {0}) (λ _. 0) 24

abbrev UnitsWithin : List UnitLine → Type 0
UnitsWithin = Few UnitWithin (λ n x. n < x.unit) (λ u. u.unit) 16

abbrev GroupsWithin : List GroupLine → Type 0
GroupsWithin = Few GroupWithin (λ n x. n < x.party) (λ g. g.party) 16

-- what is still to be within its limits, from each stage on
abbrev ForGroups : Reported → Type 0
ForGroups r = (gs : List GroupLine) → GroupsWithin gs → WithinLimits (with_groups r gs)

abbrev ForUnits : Reported → Type 0
ForUnits r = (us : List UnitLine) → UnitsWithin us → ForGroups (with_units r us)

abbrev ForOffers : Reported → Type 0
ForOffers r = (os : List Offer) → OffersWithin os → ForUnits (with_offers r os)

abbrev ForForced : Reported → Type 0
ForForced r = (v : PeriodVolume) → ForOffers (with_forced r v)

abbrev ForDayAhead : Reported → Type 0
ForDayAhead r = (p : Price) → ForForced (with_day_ahead r p)

abbrev ForPeriod : Reported → Type 0
ForPeriod r = (p : ℕ × ℕ × ℕ) → PlaceWithin p → ForDayAhead (with_place r p)

end_gives : (r : Reported) (s : Left) → WithinLimits r → Gives WithinLimits (from_end r s)
end_gives r s h = gives_inside (λ _. Unit {0}) WithinLimits section.End (the_end s) (λ _ c. Ok r) (any (the_end s)) (λ _ _ _. h)

groups_gives : (r : Reported) (s : Left) → ForGroups r → Gives WithinLimits (from_groups r s)
groups_gives r s h =
    gives_inside GroupsWithin WithinLimits section.Groups _ (λ xs c. from_end (with_groups r xs) c)
    (gives_list (λ before. four (group_line before)) (λ g. g.party) GroupWithin (λ n x. n < x.party) (λ before l ws. group_fact l ws before) "GROUPS" 16 s)
    (λ xs c few. end_gives (with_groups r xs) c (h xs few))

units_gives : (r : Reported) (s : Left) → ForUnits r → Gives WithinLimits (from_units r s)
units_gives r s h =
    gives_inside UnitsWithin WithinLimits section.Units _ (λ xs c. from_groups (with_units r xs) c)
    (gives_list (λ before. four (unit_line before)) (λ u. u.unit) UnitWithin (λ n x. n < x.unit) (λ before l ws. unit_fact l ws before) "UNITS" 16 s)
    (λ xs c few. groups_gives (with_units r xs) c (h xs few))

offers_gives : (r : Reported) (s : Left) → ForOffers r → Gives WithinLimits (from_offers r s)
offers_gives r s h =
    gives_inside OffersWithin WithinLimits section.Offers _ (λ xs c. from_units (with_offers r xs) c)
    (gives_list (λ _. eight offer_line) (λ _. 0) OfferWithin (λ _ _. Unit {0}) (λ _. offer_fact) "OFFERS" 24 s)
    (λ xs c few. units_gives (with_offers r xs) c (h xs few))

forced_gives : (r : Reported) (s : Left) → ForForced r → Gives WithinLimits (from_forced r s)
forced_gives r s h =
    gives_inside (λ _. Unit {0}) WithinLimits section.Head _ (λ v c. from_offers (with_forced r v) c) (gives_line _ (four forced_line) s forced_fact)
    (λ v c _. offers_gives (with_forced r v) c (h v))

day_ahead_gives : (r : Reported) (s : Left) → ForDayAhead r → Gives WithinLimits (from_day_ahead r s)
day_ahead_gives r s h =
    gives_inside (λ _. Unit {0}) WithinLimits section.Head _ (λ p c. from_forced (with_day_ahead r p) c) (gives_line _ (three day_ahead_line) s day_ahead_fact)
    (λ p c _. forced_gives (with_day_ahead r p) c (h p))

period_gives : (r : Reported) (s : Left) → ForPeriod r → Gives WithinLimits (from_period r s)
period_gives r s h =
    gives_inside PlaceWithin WithinLimits section.Head _ (λ p c. from_day_ahead (with_place r p) c) (gives_line _ (four period_line) s period_fact)
    (λ p c w. day_ahead_gives (with_place r p) c (h p w))

whole : (r : Reported) → ForPeriod r
whole r place hp price forced offers ho units hu groups hg = record {
  zone = hp.0;
  day = hp.1;
  period = hp.2;
  day_ahead = price.limited;
  forced = forced.limited;
  few_offers = ho.1;
  few_units = hu.1;
  few_groups = hg.1;
  offers = ho.0;
  units = hu.0;
  groups = hg.0;
  units_rise = chain_rises (λ u. u.unit) 0 hu.2.0 units hu.2.1;
  parties_rise = chain_rises (λ g. g.party) 0 hg.2.0 groups hg.2.1;
}

pub within_limits : SheetsAreWithinLimits
within_limits text r e = subst (Gives WithinLimits) e (period_gives r (record { line = 1; text = text }) (whole r))
