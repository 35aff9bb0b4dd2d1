-- Where a cursor stands, for its contracts.
use Rattle.std.specs.Prelude.{ℕ, List, Ok, Result}
use Rattle.text.specs.Cuts.{parts}
use Rattle.sheet_text.specs.Listing.{usual}
use Rattle.sheet_text.specs.Reading.{Left, then, next_line}
use Rattle.sheet_text.specs.declared.cursor.Cursor.{Cursor}
use Rattle.sheet_text.specs.declared.faults.LineFault.{LineFault}

abbrev pub left : Cursor → Left
left c = record { line = c.line; text = c.rest.now }

-- the fields of a line, with what is left
abbrev pub parted : List ℕ × Left → Result (List (List ℕ) × Left) LineFault
parted b = Ok (usual (parts 32 b.0), b.1)

abbrev pub next_fields : Left → Result (List (List ℕ) × Left) LineFault
next_fields left = then (next_line left) parted
