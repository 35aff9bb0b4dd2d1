-- A mean is that of what is shown.
use Rattle.std.proofs.Common.{sym, ap, ◌∙◌}
use Rattle.price_history.specs.Means.{mean_before}
use Rattle.price_keeping.proofs.Priced.{same_priced}
use Rattle.price_keeping.proofs.laws.equal_views_have_equal_means.Goals as goal

pub returns : goal.returns
returns g c same =
    let key = c.args.key in
    same_priced _ _
    (c.mean_before.ensures
    ∙ ap (λ view. mean_before view key.series key.zone key.day key.slot) same
    ∙ sym c.mean_before-2.ensures)
