-- Each turn enters as the history answers.
use Rattle.std.proofs.Common.{◌+◌, List, map, drop, sym, ap, ◌∙◌}
use Rattle.std.proofs.lemmas.List.{at_drop_more}
use Rattle.price_history.specs.Keys.{rank_of}
use Rattle.price_history.specs.Views.{View}
use Rattle.pricing.specs.Changes.{plain}
use Rattle.pricing.specs.declared.change.PriceChange.{PriceChange}
use Rattle.price_changes.specs.Steps.{enter_at, enters}
use Rattle.price_changes.proofs.steps.enter_all.Goals as goal
use Rattle.price_changes.proofs.steps.enter_all.Goals.{in-Some, in_default}

abbrev from : View → List PriceChange → View
from v cs = enters v (map plain cs)

pub loop-change-preserved : goal.loop-change-preserved
loop-change-preserved g c =
    let view = g.K.PriceHistory.view in
    let v = view c.loop-change.history in
    let item = c.change-item.result in
    let rest = map plain (drop (c.loop-change.change-index + 1) c.args.changes.now) in
    let more = at_drop_more (from v) c.args.changes.now c.loop-change.change-index item c.loop-change-test.true in
    let same = ap (λ (x : PriceChange). enters (enter_at v (rank_of x.key) x.new) rest) c.change-item.is in
    elim c.match-change.branch [
      | in-Some w ↦
          ap (λ h. enters (view h) rest) w.history-is
          ∙ ap (λ u. enters u rest) (w.enter.ensures.after ∙ sym (ap (enter_at v (rank_of item.key)) w.in-Some.is))
          ∙ same ∙ sym more ∙ c.loop-change.invariant
      | in_default w ↦
          ap (λ h. enters (view h) rest) w.history-is
          ∙ ap (λ u. enters u rest) (sym (ap (enter_at v (rank_of item.key)) w.in_default.is))
          ∙ same ∙ sym more ∙ c.loop-change.invariant
    ]
