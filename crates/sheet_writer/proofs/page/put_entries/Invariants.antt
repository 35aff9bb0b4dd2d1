use Rattle.std.proofs.Common.{◌≡◌, ◌++◌, take}
use Rattle.std.specs.List.{flat_map}
use Rattle.text_buffer.specs.Texts.{written}
use Rattle.sheet_writer.specs.Rendered.{line}
use Rattle.sheet_writer.proofs.page.put_entries.Given as goal

abbrev pub invariant-loop-entry : goal.invariant-loop-entry
invariant-loop-entry g l = written l.page ≡ written l.initial.page ++ flat_map (λ x. line (g.L.EntryText.fields x)) (take l.entry-index l.entries)
