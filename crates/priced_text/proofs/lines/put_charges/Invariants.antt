use Rattle.std.proofs.Common.{◌≡◌, ◌++◌, take}
use Rattle.std.specs.List.{flat_map}
use Rattle.pricing.specs.Figures.{settled_of}
use Rattle.text_buffer.specs.Texts.{written}
use Rattle.priced_text.specs.Lines.{charge_line}
use Rattle.priced_text.proofs.lines.put_charges.Given as goal

abbrev pub invariant-loop-line : goal.invariant-loop-line
invariant-loop-line g l = written l.page ≡ written l.initial.page ++ flat_map (λ x. charge_line (g.L.Charged.number x) (g.L.Charged.charge (settled_of l.prices) x)) (take l.line-index l.lines)
