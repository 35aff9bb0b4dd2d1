-- What a text says, from its first line to its last.
use Rattle.std.specs.Prelude.{ℕ, zero, suc, ◌+◌, cond, List, [], ◌∷◌, ◌++◌, length, Some, None, Ok, Err, codes, Option, Result, ◌==◌}
use Prim.Native.String.{String}
use Rattle.text.specs.Cuts.{cut, parts}
use Rattle.sheet.specs.Figures.{Figures}
use Rattle.sheet_text.specs.Faults.{fault_at, fault_in}
use Rattle.sheet_text.specs.Lines.{one, two, three, four, eight, period_line, day_ahead_line, forced_line, count_line, offer_line, unit_line, group_line, end_line}
use Rattle.sheet_text.specs.declared.faults.FaultKind.TheVariants.{Layout}
use Rattle.sheet_text.specs.declared.faults.LineFault.{LineFault}
use Rattle.sheet_text.specs.declared.faults.Section.{Section}
use Rattle.sheet_text.specs.declared.faults.Section.TheVariants.{Head, Offers, Units, Groups, End}
use Rattle.sheet_text.specs.declared.faults.SheetFault.{SheetFault}

-- what is left of a text: the number of the next line, and the text from there on
pub record Left : Type 0 where
  pub line : ℕ
  pub text : List ℕ

-- what follows from a value, unless there is a fault
abbrev pub then : {A B E : Type 0} → Result A E → (A → Result B E) → Result B E
then (Ok x) follows = follows x
then (Err fault) follows = Err fault

-- a line that is cut off at its line end, or the fault where none is left
abbrev pub line_of : ℕ → Option (List ℕ × List ℕ) → Result (List ℕ × Left) LineFault
line_of l None = Err (fault_at Layout l 0)
line_of l (Some p) = Ok (p.0, record { line = l + 1; text = p.1 })

-- the bytes of the next line, which ends with byte 10
abbrev pub next_line : Left → Result (List ℕ × Left) LineFault
next_line left = line_of left.line (cut 10 left.text)

-- the next line by what its fields say: one space, byte 32, parts two fields
abbrev pub a_line : {A : Type 0} → (ℕ → List (List ℕ) → Result A LineFault) → Left → Result (A × Left) LineFault
a_line says left = then (next_line left) (λ b. then (says left.line (parts 32 b.0)) (λ x. Ok (x, b.1)))

module _ {A : Type 0} (says : ℕ → ℕ → List (List ℕ) → Result A LineFault) (order : A → ℕ) where
  -- n more entries behind those so far, the last of which has the number `before`
  abbrev pub entries : ℕ → ℕ → List A → Left → Result (List A × Left) LineFault
  entries zero before so_far left = Ok (so_far, left)
  entries (suc n) before so_far left = then (a_line (says before) left) (λ x. entries n (order x.0) (so_far ++ x.0 ∷ []) x.1)

  -- a keyword with a number of entries, and the entries
  abbrev pub a_list : String → ℕ → Left → Result (List A × Left) LineFault
  a_list keyword most left = then (a_line (two (count_line (codes keyword) most)) left) (λ n. entries n.0 0 [] n.1)

-- nothing is left
abbrev pub finished : Left → Result (Unit {0}) LineFault
finished left = cond (length left.text == 0) (Ok tt) (Err (fault_at Layout left.line 0))

-- the last line, behind which nothing follows
abbrev pub the_end : Left → Result (Unit {0} × Left) LineFault
the_end left = then (a_line (one end_line) left) (λ x. then (finished x.1) (λ _. Ok x))

-- what follows a part of a section, unless there is a fault in it
abbrev pub inside : {A B : Type 0} → Section → Result (A × Left) LineFault → (A → Left → Result B SheetFault) → Result B SheetFault
inside s (Ok x) follows = follows x.0 x.1
inside s (Err fault) follows = Err (fault_in s fault)

-- what was read
pub record Reported : Type 0 where
  pub zone : ℕ
  pub day : ℕ
  pub period : ℕ
  pub figures : Figures

-- the head, three lists and the end; offers need not rise, so that each counts as 0
abbrev pub reading : List ℕ → Result Reported SheetFault
reading text =
    inside Head (a_line (four period_line) (record { line = 1; text = text })) (λ place left.
    inside Head (a_line (three day_ahead_line) left) (λ day_ahead left.
    inside Head (a_line (four forced_line) left) (λ forced left.
    inside Offers (a_list (λ _. eight offer_line) (λ _. 0) "OFFERS" 24 left) (λ offers left.
    inside Units (a_list (λ before. four (unit_line before)) (λ u. u.unit) "UNITS" 16 left) (λ units left.
    inside Groups (a_list (λ before. four (group_line before)) (λ g. g.party) "GROUPS" 16 left) (λ groups left.
    inside End (the_end left) (λ _ left.
    Ok (record { zone = place.0; day = place.1; period = place.2; figures = record { day_ahead = day_ahead; forced = forced; offers = offers; units = units; groups = groups } }))))))))
