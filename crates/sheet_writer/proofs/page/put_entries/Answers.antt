use Rattle.std.proofs.Common.{◌≡◌, false, is_ok, refl, rules}
use Rattle.text_buffer.specs.Texts.{written}
use Rattle.text_buffer.proofs.Lengths.{written_within}
use Rattle.text_buffer.proofs.Chained.{each_refused, each_put}
use Rattle.sheet_writer.specs.Rendered.{line}
use Rattle.sheet_writer.proofs.page.put_entries.Goals as goal

pub returns-in_err-put_on : goal.returns-in_err-put_on
returns-in_err-put_on g c =
    let text = λ (x : g.row.L.Denot). line (g.L.EntryText.fields x) in
    let x = c.entry-item.result in
    let refused : is_ok c.from_residual.result ≡ false = search rules in
    each_refused text c.args.entries.now (written c.args.page.now) c.loop-entry.entry-index (written c.loop-entry.page) 6556 x x (written c.put_on.new.page) c.from_residual.result
    c.loop-entry.invariant c.loop-entry-test.true c.entry-item.is refused c.in_err-put_on.ensures.fits

pub returns : goal.returns
returns g c =
    let text = λ (x : g.row.L.Denot). line (g.L.EntryText.fields x) in
    each_put text c.args.entries.now (written c.args.page.now) c.loop-entry.entry-index (written c.loop-entry.page) 6556 _ c.loop-entry.invariant c.loop-entry-test.false
    (written_within c.loop-entry.page) refl
