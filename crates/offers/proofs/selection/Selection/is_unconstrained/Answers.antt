use Rattle.std.proofs.Common.{◌∙◌, rules, tests}
use Rattle.std.proofs.lemmas.Iterator.{YieldsList-from_slice}
use Rattle.std.proofs.lemmas.Iterator.Search.{any_from_yields_List}
use Rattle.offers.specs.Volumes.{picks}
use Rattle.offers.specs.Forming.{free}
use Rattle.offers.proofs.Chains.{any_free}
use Rattle.offers.proofs.selection.Selection.is_unconstrained.Goals as goal

pub returns : goal.returns
returns c =
    let pick = picks c.args.self.span c.args.self.direction in
    any_from_yields_List (free pick) _ _ c.any.result c.any.ensures.ran (YieldsList-from_slice c.args.offers.now cc) (λ x b q k. search (rules, tests)) ∙ any_free pick c.args.offers.now
