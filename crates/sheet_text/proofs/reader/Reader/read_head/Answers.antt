-- Each line of the head is passed, or is where reading stops.
use Rattle.std.proofs.Common.{sym, ap, ◌∙◌, rules, arith}
use Rattle.sheet_text.specs.Steps.{next_stage}
use Rattle.sheet_text.proofs.Passing.{in_head, passes, stops}
use Rattle.sheet_text.proofs.reader.Reader.read_head.Goals as goal

pub returns-in_err-take_line : goal.returns-in_err-take_line
returns-in_err-take_line c =
    let stop = stops c.args.self.now (ap in_head c.requires.0) _ c.in_err-take_line.ensures in
    search rules

pub returns-in_err-take_line-2 : goal.returns-in_err-take_line-2
returns-in_err-take_line-2 c =
    let first = c.in_ok-take_line.ensures in
    let second = first.1 ∙ ap next_stage c.requires.0 in
    let pass = passes c.args.self.now (ap in_head c.requires.0) c.take_line.new.self _ first in
    let stop = sym pass ∙ stops c.take_line.new.self (ap in_head second) _ c.in_err-take_line-2.ensures in
    search rules

pub returns-in_err-take_line-3 : goal.returns-in_err-take_line-3
returns-in_err-take_line-3 c =
    let first = c.in_ok-take_line.ensures in
    let second = first.1 ∙ ap next_stage c.requires.0 in
    let pass = passes c.args.self.now (ap in_head c.requires.0) c.take_line.new.self _ first in
    let next = c.in_ok-take_line-2.ensures in
    let third = next.1 ∙ ap next_stage second in
    let on = passes c.take_line.new.self (ap in_head second) c.take_line-2.new.self _ next in
    let stop = sym (on ∙ pass) ∙ stops c.take_line-2.new.self (ap in_head third) _ c.in_err-take_line-3.ensures in
    search rules

pub returns : goal.returns
returns c =
    let first = c.in_ok-take_line.ensures in
    let second = first.1 ∙ ap next_stage c.requires.0 in
    let pass = passes c.args.self.now (ap in_head c.requires.0) c.take_line.new.self _ first in
    let next = c.in_ok-take_line-2.ensures in
    let third = next.1 ∙ ap next_stage second in
    let on = passes c.take_line.new.self (ap in_head second) c.take_line-2.new.self _ next in
    let last = c.in_ok-take_line-3.ensures in
    let done = passes c.take_line-2.new.self (ap in_head third) c.take_line-3.new.self _ last in
    (done ∙ on ∙ pass, last.1 ∙ ap next_stage third, omega arith)
