-- What each line says. The fields are taken from the left, and the first that is wrong is the fault.
use Rattle.std.specs.Prelude.{ℕ, cond, List, [], length, Some, None, Ok, Err, codes, Option, Result, ◌==◌, nat_lt, slice_index_or}
use Rattle.std.specs.Str.{bytes_eq}
use Rattle.measures.specs.declared.price.Price.{Price}
use Rattle.measures.specs.declared.volume.PeriodVolume.{PeriodVolume}
use Rattle.sheet.specs.declared.lines.Offer.{Offer}
use Rattle.sheet.specs.declared.lines.UnitLine.{UnitLine}
use Rattle.sheet.specs.declared.lines.GroupLine.{GroupLine}
use Rattle.text.specs.Numbers.{number, within}
use Rattle.sheet_text.specs.Faults.{fault_at}
use Rattle.sheet_text.specs.Values.{direction_field, position_field, constraint_field, volume_field, period_volume_field, price_field, imbalance_field}
use Rattle.sheet_text.specs.declared.faults.FaultKind.TheVariants as kind
use Rattle.sheet_text.specs.declared.faults.LineFault.{LineFault}

-- what follows from a field's value, or the fault where it has none
abbrev pub need : {A B : Type 0} → Option A → LineFault → (A → Result B LineFault) → Result B LineFault
need None fault follows = Err fault
need (Some x) fault follows = follows x

-- what follows where a field is the word
abbrev pub fixed : {B : Type 0} → List ℕ → List ℕ → LineFault → Result B LineFault → Result B LineFault
fixed field w fault follows = cond (bytes_eq field w) follows (Err fault)

-- PERIOD zone day period
abbrev pub period_line : ℕ → List ℕ → List ℕ → List ℕ → List ℕ → Result (ℕ × ℕ × ℕ) LineFault
period_line l keyword zone day period =
    fixed keyword (codes "PERIOD") (fault_at kind.Keyword l 1)
    (need (within 1 2 (number zone)) (fault_at kind.Number l 2) (λ z.
    need (within 1 31 (number day)) (fault_at kind.Number l 3) (λ d.
    need (within 1 24 (number period)) (fault_at kind.Number l 4) (λ p.
    Ok (z, d, p)))))

-- DAM price kop/MWh
abbrev pub day_ahead_line : ℕ → List ℕ → List ℕ → List ℕ → Result Price LineFault
day_ahead_line l keyword price kop =
    fixed keyword (codes "DAM") (fault_at kind.Keyword l 1)
    (need (price_field price) (fault_at kind.Number l 2) (λ p.
    fixed kop (codes "kop/MWh") (fault_at kind.Unit l 3)
    (Ok p)))

-- FORCED volume kWh H
abbrev pub forced_line : ℕ → List ℕ → List ℕ → List ℕ → List ℕ → Result PeriodVolume LineFault
forced_line l keyword volume kwh span =
    fixed keyword (codes "FORCED") (fault_at kind.Keyword l 1)
    (need (period_volume_field volume) (fault_at kind.Number l 2) (λ v.
    fixed kwh (codes "kWh") (fault_at kind.Unit l 3)
    (fixed span (codes "H") (fault_at kind.Unit l 4)
    (Ok v))))

-- the keyword w and the number of a section's entries
abbrev pub count_line : List ℕ → ℕ → ℕ → List ℕ → List ℕ → Result ℕ LineFault
count_line w most l keyword count =
    fixed keyword w (fault_at kind.Keyword l 1)
    (need (within 0 most (number count)) (fault_at kind.Number l 2) (λ n.
    Ok n))

-- quarter U|D unit volume kWh price kop/MWh C|-
abbrev pub offer_line : ℕ → List ℕ → List ℕ → List ℕ → List ℕ → List ℕ → List ℕ → List ℕ → List ℕ → Result Offer LineFault
offer_line l quarter direction unit volume kwh price kop constraint =
    need (within 1 4 (number quarter)) (fault_at kind.Number l 1) (λ q.
    need (direction_field direction) (fault_at kind.Layout l 2) (λ d.
    need (within 1 999 (number unit)) (fault_at kind.Number l 3) (λ u.
    need (volume_field 1 volume) (fault_at kind.Number l 4) (λ v.
    fixed kwh (codes "kWh") (fault_at kind.Unit l 5)
    (need (price_field price) (fault_at kind.Number l 6) (λ p.
    fixed kop (codes "kop/MWh") (fault_at kind.Unit l 7)
    (need (constraint_field constraint) (fault_at kind.Layout l 8) (λ c.
    Ok (record { quarter = q; direction = d; unit = u; volume = v; price = p; constrained = c })))))))))

-- unit U|D energy kWh, where the unit is above the one before
abbrev pub unit_line : ℕ → ℕ → List ℕ → List ℕ → List ℕ → List ℕ → Result UnitLine LineFault
unit_line before l unit direction energy kwh =
    need (within 1 999 (number unit)) (fault_at kind.Number l 1) (λ u.
    need (direction_field direction) (fault_at kind.Layout l 2) (λ d.
    need (volume_field 0 energy) (fault_at kind.Number l 3) (λ e.
    fixed kwh (codes "kWh") (fault_at kind.Unit l 4)
    (cond (nat_lt before u)
    (Ok (record { unit = u; direction = d; energy = e }))
    (Err (fault_at kind.Order l 1))))))

-- party +|- imbalance kWh, where the party is above the one before
abbrev pub group_line : ℕ → ℕ → List ℕ → List ℕ → List ℕ → List ℕ → Result GroupLine LineFault
group_line before l party position imbalance kwh =
    need (within 1 64 (number party)) (fault_at kind.Number l 1) (λ g.
    need (position_field position) (fault_at kind.Layout l 2) (λ p.
    need (imbalance_field p imbalance) (fault_at kind.Number l 3) (λ i.
    fixed kwh (codes "kWh") (fault_at kind.Unit l 4)
    (cond (nat_lt before g)
    (Ok (record { party = g; position = p; imbalance = i }))
    (Err (fault_at kind.Order l 1))))))

-- END
abbrev pub end_line : ℕ → List ℕ → Result (Unit {0}) LineFault
end_line l keyword = fixed keyword (codes "END") (fault_at kind.Keyword l 1) (Ok tt)

module _ {A : Type 0} where
  -- what a line says where it has n fields
  abbrev pub counted : ℕ → ℕ → List (List ℕ) → ((ℕ → List ℕ) → Result A LineFault) → Result A LineFault
  counted n l fields says = cond (length fields == n) (says (λ i. slice_index_or fields i [])) (Err (fault_at kind.Layout l 0))

  abbrev pub one : (ℕ → List ℕ → Result A LineFault) → ℕ → List (List ℕ) → Result A LineFault
  one says l fields = counted 1 l fields (λ f. says l (f 0))

  abbrev pub two : (ℕ → List ℕ → List ℕ → Result A LineFault) → ℕ → List (List ℕ) → Result A LineFault
  two says l fields = counted 2 l fields (λ f. says l (f 0) (f 1))

  abbrev pub three : (ℕ → List ℕ → List ℕ → List ℕ → Result A LineFault) → ℕ → List (List ℕ) → Result A LineFault
  three says l fields = counted 3 l fields (λ f. says l (f 0) (f 1) (f 2))

  abbrev pub four : (ℕ → List ℕ → List ℕ → List ℕ → List ℕ → Result A LineFault) → ℕ → List (List ℕ) → Result A LineFault
  four says l fields = counted 4 l fields (λ f. says l (f 0) (f 1) (f 2) (f 3))

  abbrev pub eight : (ℕ → List ℕ → List ℕ → List ℕ → List ℕ → List ℕ → List ℕ → List ℕ → List ℕ → Result A LineFault) → ℕ → List (List ℕ) → Result A LineFault
  eight says l fields = counted 8 l fields (λ f. says l (f 0) (f 1) (f 2) (f 3) (f 4) (f 5) (f 6) (f 7))
