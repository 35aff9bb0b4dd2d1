-- The entries that are still to come, behind those found, are what the section has.
use Rattle.std.proofs.Common.{◌≡◌, ◌+◌, ◌-◌, [], length}
use Rattle.sheet.specs.Listed.{listed}
use Rattle.sheet_text.specs.Reading.{entries}
use Rattle.sheet_text.specs.Standing.{left}
use Rattle.sheet_text.proofs.cursor.Cursor.next_entries.Given as goal

abbrev pub invariant-loop-index : goal.invariant-loop-index
invariant-loop-index g l = record {
  line : l.self.line ≡ l.first + l.index;
  many : length (listed l.found) ≡ l.index;
  rest : entries g.T.Entry.says g.T.Entry.order (l.count - l.index) l.before (listed l.found) (left l.self) ≡ entries g.T.Entry.says g.T.Entry.order l.count 0 [] (left l.initial.self);
}
