-- The cut is at the first such byte.
use Rattle.std.proofs.Common.{◌≡◌, rules, tests}
use Rattle.std.proofs.lemmas.Iterator.{YieldsList-from_slice, IsFirst-from_position}
use Rattle.text.proofs.Parted.{cut_none, cut_found}
use Rattle.text.proofs.cutting.cut_at.Goals as goal

pub returns-in_err-i : goal.returns-in_err-i
returns-in_err-i c =
    let at = c.args.at in
    let none = IsFirst-from_position _ _ _ (λ x. x ≡ at) (λ x. x ≡ at → ⊥) c.in_err-i.ensures.ran (YieldsList-from_slice c.args.text.now cc) (λ x q k. search (rules, tests)) (λ x q k. search (rules, tests)) in
    rw c.from_residual.ensures (cut_none at c.args.text.now (λ k. none k 0 (search rules)))

pub returns : goal.returns
returns c =
    let at = c.args.at in
    let first = IsFirst-from_position _ _ _ (λ x. x ≡ at) (λ x. x ≡ at → ⊥) c.in_ok-i.ensures.ran (YieldsList-from_slice c.args.text.now cc) (λ x q k. search (rules, tests)) (λ x q k. search (rules, tests)) in
    cut_found at _ c.in_ok-i.i first.0 (λ k. first.2 k 0 (search rules)) (first.1 0)
