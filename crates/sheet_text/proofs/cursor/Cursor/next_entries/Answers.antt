-- A line that is missing or wrong ends the list, and any other adds its entry.
use Rattle.std.proofs.Common.{sym, arith, rules}
use Rattle.std.proofs.lemmas.Grind.{common_steps}
use Rattle.sheet.specs.Listed.{listed}
use Rattle.sheet_text.specs.Listing.{listing}
use Rattle.sheet_text.specs.Standing.{left}
use Rattle.sheet_text.proofs.Entering.{entries_missing, entries_wrong, entries_more, next_number}
use Rattle.sheet_text.proofs.cursor.Cursor.next_entries.Goals as goal

pub returns-in_err-fields : goal.returns-in_err-fields
returns-in_err-fields g c =
    let here = c.loop-index in
    let stop = entries_missing g.T.Entry.says g.T.Entry.order g.met.T.Entry.counts c.args.count here.index here.before (listed here.found) (left here.self) (omega arith) _ c.in_err-fields.ensures in
    search rules

pub returns-in_err-entry : goal.returns-in_err-entry
returns-in_err-entry g c =
    let here = c.loop-index in
    let fields = listing c.in_ok-fields.fields in
    let stop = entries_wrong g.T.Entry.says g.T.Entry.order g.met.T.Entry.counts c.args.count here.index here.before (listed here.found) (left here.self) (omega arith) fields (left c.next_fields.new.self) c.in_ok-fields.ensures _ (sym here.invariant.line) _ (sym c.in_err-entry.ensures) in
    search rules

pub loop-index-preserved : goal.loop-index-preserved
loop-index-preserved g c =
    let here = c.loop-index in
    let fields = listing c.in_ok-fields.fields in
    let there = left c.next_fields.new.self in
    let next = next_number (left here.self) there fields c.in_ok-fields.ensures in
    let more = entries_more g.T.Entry.says g.T.Entry.order g.met.T.Entry.counts c.args.count here.index here.before (listed here.found) (left here.self) (omega arith) fields there c.in_ok-fields.ensures _ (sym here.invariant.line) c.in_ok-entry.entry (sym c.in_ok-entry.ensures) in
    grind (arith, common_steps)
