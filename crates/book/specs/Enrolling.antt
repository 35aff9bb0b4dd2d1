-- Registering a unit.
use Rattle.std.specs.Prelude.{ℕ, ◌+◌, cond, not, ◌&&◌, List, [], ◌∷◌, is_some, is_ok, Some, Result, ◌==◌, nat_eq}
use Rattle.std.specs.Map.{update}
use Rattle.register.specs.Limits.{is_unit, is_party}
use Rattle.register.specs.Rolls.{Roll}
use Rattle.book.specs.Checks.{Check, verdict}
use Rattle.book.specs.Memory.{Memory}
use Rattle.book.specs.declared.refusal.BookRefusal.{BookRefusal}
use Rattle.book.specs.declared.refusal.BookRefusal.TheVariants.{UnitRegistered, RegisterFull, BeyondLimits}

abbrev pub enrol_checks : Roll → ℕ → ℕ → List Check
enrol_checks roll unit party =
    (not (is_unit unit && is_party party), BeyondLimits)
    ∷ (is_some (roll.party unit), UnitRegistered)
    ∷ ((roll.count == roll.places), RegisterFull)
    ∷ []

abbrev pub enrolled : Roll → ℕ → ℕ → Roll
enrolled roll unit party = record { party = update nat_eq roll.party unit (Some party); count = roll.count + 1; places = roll.places }

abbrev pub enrol_answer : Memory → ℕ → ℕ → Result Unit BookRefusal
enrol_answer m unit party = verdict (enrol_checks m.register unit party) (tt {0})

abbrev pub enrol_after : Memory → ℕ → ℕ → Memory
enrol_after m unit party = cond (is_ok (enrol_answer m unit party)) (record { book = m.book; history = m.history; register = enrolled m.register unit party; rows = m.rows }) m
