-- A unit within the limits is entered into the ordered list.
use Rattle.std.proofs.Common.{◌≡◌, true, sym, ap, ◌∙◌}
use Rattle.std.specs.Option.{option_map}
use Rattle.ordered_list.specs.Listings.{listing, entered}
use Rattle.register.specs.Limits.{is_unit, is_party}
use Rattle.register.specs.Rolls.{roll, roll_of, registered}
use Rattle.register.proofs.Enrolled.{taken, registered_same}
use Rattle.register.proofs.register.Register.register.Goals as goal
use Rattle.register.proofs.register.Register.register.Goals.{After-enter}

unit_taken : (c : After-enter) → (is_unit c.args.unit ≡ true) × (c.in_ok-unit.unit.number ≡ c.args.unit)
unit_taken c = taken (is_unit c.args.unit) _ _ (ap (option_map (λ u. u.number)) (sym c.in_ok-unit.ensures.ok_part) ∙ c.new.ensures)

party_taken : (c : After-enter) → (is_party c.args.party ≡ true) × (c.in_ok-party.party.number ≡ c.args.party)
party_taken c = taken (is_party c.args.party) _ _ (ap (option_map (λ p. p.number)) (sym c.in_ok-party.ensures.ok_part) ∙ c.new-2.ensures)

pub returns-clause-after : goal.returns-clause-after
returns-clause-after c =
    let then = (goal.at.returns-clause-after c).After-enter in
    let register = c.args.self.now in
    let l = listing register.units in
    ap roll_of c.enter.ensures.after
    ∙ ap (λ unit. roll_of (entered l unit c.in_ok-party.party)) (unit_taken then).1
    ∙ registered_same l c.args.unit c.in_ok-party.party (unit_taken then).0
    ∙ ap (registered (roll register) c.args.unit) (party_taken then).1
