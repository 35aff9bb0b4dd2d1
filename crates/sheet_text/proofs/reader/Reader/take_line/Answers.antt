-- The awaited line is understood by its fields.
use Rattle.std.proofs.Common.{refl}
use Rattle.std.proofs.lemmas.Result.{MatchResult-weaker}
use Rattle.sheet_text.specs.Listing.{listing}
use Rattle.sheet_text.specs.Reported.{plain}
use Rattle.sheet_text.specs.Standing.{left}
use Rattle.sheet_text.specs.Steps.{step}
use Rattle.sheet_text.proofs.Counted.{step_counts}
use Rattle.sheet_text.proofs.Entering.{line_wrong, line_said, next_number}
use Rattle.sheet_text.proofs.reader.Reader.take_line.Goals as goal

pub returns : goal.returns
returns c =
    let stage = c.args.self.now.draft.stage in
    let report = plain c.args.self.now.draft.report in
    let here = left c.args.self.now.cursor in
    let fields = listing c.in_ok-fields.fields in
    let there = left c.next_fields.new.self in
    let cut = c.in_ok-fields.ensures in
    MatchResult-weaker c.take_line.result c.take_line.ensures
    (λ n h. (line_said (step stage report) (step_counts stage report) here fields there cut here.line refl _ h.0, h.1, h.2, next_number here there fields cut))
    (λ e h. line_wrong (step stage report) (step_counts stage report) here fields there cut here.line refl e h)
