-- A reader that passes a line of the head comes to the same as before.
use Rattle.std.proofs.Common.{◌≡◌, ℕ, Bool, true, false, List, Ok, Err, Result, sym, refl, ap, ◌∙◌}
use Rattle.text.specs.Cuts.{parts}
use Rattle.sheet_text.specs.Faults.{fault_in}
use Rattle.sheet_text.specs.Lines.{three, four, period_line, day_ahead_line, forced_line}
use Rattle.sheet_text.specs.Onward.{from_day_ahead, from_forced, from_offers, from_stage, outcome, Takes, Refuses}
use Rattle.sheet_text.specs.Reading.{Left, Reported, then, next_line, a_line, inside}
use Rattle.sheet_text.specs.Reported.{plain}
use Rattle.sheet_text.specs.Standing.{left}
use Rattle.sheet_text.specs.Steps.{step, next_stage, with_place, with_day_ahead, with_forced}
use Rattle.sheet_text.specs.declared.draft.Stage.{Stage}
use Rattle.sheet_text.specs.declared.draft.Stage.TheVariants.{Period, DayAhead, Forced, Offers, Units, Groups, End, Done}
use Rattle.sheet_text.specs.declared.faults.LineFault.{LineFault}
use Rattle.sheet_text.specs.declared.faults.Section.TheVariants as section
use Rattle.sheet_text.specs.declared.faults.SheetFault.{SheetFault}
use Rattle.sheet_text.specs.declared.reader.Reader.{Reader}
use Rattle.sheet_text.proofs.Entering.{beside}

module _ {A : Type 0} (f : ℕ → List (List ℕ) → Result A LineFault) (put : A → Reported) (onward : Reported → Left → Result Reported SheetFault) where
  abbrev putting : Result A LineFault → Result (Reported × ℕ) LineFault
  putting x = then x (λ x. Ok (put x, 0))

  put_step : (t : Left) (x : Result A LineFault) → inside section.Head (then x (beside t)) (λ x c. onward (put x) c) ≡ inside section.Head (then (putting x) (beside t)) (λ x c. onward x.0 c)
  put_step t (Ok x) = refl
  put_step t (Err e) = refl

  -- what follows a line follows from the report that it is put into
  put_line : (l : ℕ) (b : Result (List ℕ × Left) LineFault)
      → inside section.Head (then b (λ b. then (f l (parts 32 b.0)) (beside b.1))) (λ x c. onward (put x) c)
      ≡ inside section.Head (then b (λ b. then (putting (f l (parts 32 b.0))) (beside b.1))) (λ x c. onward x.0 c)
  put_line l (Ok b) = put_step b.1 (f l (parts 32 b.0))
  put_line l (Err e) = refl

-- the stages of the head
abbrev pub in_head : Stage → Bool
in_head Period = true
in_head DayAhead = true
in_head Forced = true
in_head Offers = false
in_head Units = false
in_head Groups = false
in_head End = false
in_head Done = false

head_from : (st : Stage) → in_head st ≡ true → (r : Reported) (s : Left) → from_stage st r s ≡ inside section.Head (a_line (step st r) s) (λ x c. from_stage (next_stage st) x.0 c)
head_from Period h r s = put_line (four period_line) (with_place r) from_day_ahead s.line (next_line s)
head_from DayAhead h r s = put_line (three day_ahead_line) (with_day_ahead r) from_forced s.line (next_line s)
head_from Forced h r s = put_line (four forced_line) (with_forced r) from_offers s.line (next_line s)
head_from Offers h r s = let z : false ≡ true = h in cc
head_from Units h r s = let z : false ≡ true = h in cc
head_from Groups h r s = let z : false ≡ true = h in cc
head_from End h r s = let z : false ≡ true = h in cc
head_from Done h r s = let z : false ≡ true = h in cc

module _ (a : Reader) (h : in_head a.draft.stage ≡ true) where
  abbrev onwards : Result ((Reported × ℕ) × Left) LineFault → Result Reported SheetFault
  onwards r = inside section.Head r (λ x c. from_stage (next_stage a.draft.stage) x.0 c)

  from_here : outcome a ≡ onwards (a_line (step a.draft.stage (plain a.draft.report)) (left a.cursor))
  from_here = head_from a.draft.stage h (plain a.draft.report) (left a.cursor)

  pub passes : (b : Reader) (n : ℕ) → Takes a b n → outcome b ≡ outcome a
  passes b n t = ap (λ (st : Stage). from_stage st (plain b.draft.report) (left b.cursor)) t.1 ∙ sym (from_here ∙ ap onwards t.0)

  pub stops : (e : LineFault) → Refuses a e → outcome a ≡ Err (fault_in section.Head e)
  stops e w = from_here ∙ ap onwards w
