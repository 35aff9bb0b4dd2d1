use Rattle.std.proofs.Common.{◌≡◌, ◌+◌, false, leb, length, is_ok, refl, ap, ◌∙◌, rules}
use Rattle.pricing.specs.Figures.{settled_of}
use Rattle.text_buffer.specs.Texts.{written}
use Rattle.text_buffer.proofs.Lengths.{written_within}
use Rattle.text_buffer.proofs.Chained.{each_refused, each_put}
use Rattle.priced_text.specs.Lines.{charge_line}
use Rattle.priced_text.proofs.lines.put_charges.Goals as goal

pub returns-in_err-put_charge : goal.returns-in_err-put_charge
returns-in_err-put_charge g c =
    let text = λ (x : g.row.L.Denot). charge_line (g.L.Charged.number x) (g.L.Charged.charge (settled_of c.args.prices) x) in
    let x = c.line-item.result in
    let same : charge_line c.number_of.result c.charge_at.result.mkop ≡ text x = λ i. charge_line (c.number_of.ensures i) (c.charge_at.ensures i) in
    let refused : is_ok c.from_residual.result ≡ false = search rules in
    each_refused text c.args.lines.now (written c.args.page.now) c.loop-line.line-index (written c.loop-line.page) 935 x x (written c.put_charge.new.page) c.from_residual.result
    c.loop-line.invariant c.loop-line-test.true c.line-item.is refused
    (c.in_err-put_charge.ensures.fits ∙ ap (λ t. leb (length (written c.loop-line.page) + length t) 935) same)

pub returns : goal.returns
returns g c =
    let text = λ (x : g.row.L.Denot). charge_line (g.L.Charged.number x) (g.L.Charged.charge (settled_of c.args.prices) x) in
    each_put text c.args.lines.now (written c.args.page.now) c.loop-line.line-index (written c.loop-line.page) 935 _ c.loop-line.invariant c.loop-line-test.false
    (written_within c.loop-line.page) refl
