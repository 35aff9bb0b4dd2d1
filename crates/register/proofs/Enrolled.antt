-- What is entered into the ordered list is what the register shows.
use Rattle.std.proofs.Common.{◌≡◌, ℕ, ◌+◌, Bool, true, false, cond, ◌&&◌, eqb, leb, is_some, is_ok, Some, None, Ok, Err, Option, sym, refl, ap, ◌∙◌, ⊎_elim}
use mathlib.Core.Path.{fun_ext}
use Rattle.std.specs.Map.{update}
use Rattle.std.specs.Option.{option_map}
use Rattle.std.proofs.lemmas.Map.{update_here, update_apart}
use Rattle.std.proofs.lemmas.Bool.{cases_eq, cond-true, le-leb, and_from, true≢false}
use Rattle.ordered_list.specs.declared.entry.EntryRefusal.TheVariants as list-refusal
use Rattle.ordered_list.specs.Listings as list
use Rattle.ordered_list.proofs.Told.{told, told_ok}
use Rattle.register.specs.declared.refusal.RegisterRefusal.TheVariants.{Limits, Full}
use Rattle.register.specs.Limits.{is_unit, is_party}
use Rattle.register.specs.Refusals.{entry_told}
use Rattle.register.specs.Rolls.{Party, Roll, roll_of, entry_to, register_answer, registered}

abbrev number : Option Party → Option ℕ
number o = option_map (λ p. p.number) o

roll_path : (r s : Roll) → ((unit : ℕ) → r.party unit ≡ s.party unit) → r.count ≡ s.count → r.places ≡ s.places → r ≡ s
roll_path r s party count places = λ i. record { party = fun_ext party i; count = count i; places = places i }

-- a number that was taken is within its limits
pub taken : (limits : Bool) (m n : ℕ) → Some m ≡ cond limits (Some n) None → (limits ≡ true) × (m ≡ n)
taken true m n e = (refl, cc)
taken false m n e = absurd (true≢false (ap is_some e))

told_cond : (b : Bool) → told {T = Unit {0}} entry_told (cond b (Err list-refusal.Full) (Ok tt)) ≡ cond b (Err Full) (Ok tt)
told_cond true = refl
told_cond false = refl

told_entry : (o : Option Party) (count places : ℕ) → told entry_told (list.entry_to o count places) ≡ entry_to (number o) count places
told_entry (Some _) count places = refl
told_entry None count places = told_cond (eqb count places)

roll_cond : (b : Bool) (l m : list.Listing Party) → roll_of (cond b l m) ≡ cond b (roll_of l) (roll_of m)
roll_cond true l m = refl
roll_cond false l m = refl

module _ (l : list.Listing Party) (unit : ℕ) (party : Party) (known : is_unit unit ≡ true) where
  within : (is_unit unit && is_party party.number) ≡ true
  within = and_from (is_unit unit) (is_party party.number) known (and_from (leb 1 party.number) (leb party.number 64) (le-leb 1 party.number party.from) (le-leb party.number 64 party.to))

  shown_here : number (l.shown unit) ≡ (roll_of l).party unit
  shown_here = sym (cond-true (is_unit unit) (number (l.shown unit)) None known)

  pub answer_same : told entry_told (list.entry_answer l unit) ≡ register_answer (roll_of l) unit party.number
  answer_same =
      told_entry (l.shown unit) l.count l.places
      ∙ ap (λ o. entry_to o l.count l.places) shown_here
      ∙ sym (cond-true (is_unit unit && is_party party.number) _ (Err Limits) within)

  -- one more unit
  more : Roll
  more = record { party = update eqb (roll_of l).party unit (Some party.number); count = l.count + 1; places = l.places }

  roll_more : roll_of (record { shown = update eqb l.shown unit (Some party); count = l.count + 1; places = l.places }) ≡ more
  unfolding more
  roll_more =
      roll_path _ more
      (λ q.
      ⊎_elim
      (λ e.
      ap (roll_of (record { shown = update eqb l.shown unit (Some party); count = l.count + 1; places = l.places })).party e
      ∙ cond-true (is_unit unit) (number (update eqb l.shown unit (Some party) unit)) None known
      ∙ ap number (update_here l.shown unit (Some party))
      ∙ sym (update_here (roll_of l).party unit (Some party.number))
      ∙ ap (update eqb (roll_of l).party unit (Some party.number)) (sym e))
      (λ ne.
      ap (λ o. cond (is_unit q) (number o) None) (update_apart l.shown unit (Some party) q ne)
      ∙ sym (update_apart (roll_of l).party unit (Some party.number) q ne))
      (cases_eq q unit))
      refl refl

  pub registered_same : roll_of (list.entered l unit party) ≡ registered (roll_of l) unit party.number
  unfolding more
  registered_same =
      roll_cond (is_ok (list.entry_answer l unit)) _ l
      ∙ ap (λ r. cond (is_ok (list.entry_answer l unit)) r (roll_of l)) roll_more
      ∙ ap (λ b. cond b more (roll_of l)) (sym (told_ok entry_told (list.entry_answer l unit)) ∙ ap is_ok answer_same)
