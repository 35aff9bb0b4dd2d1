use Rattle.std.proofs.Common.{◌++◌, refl, ap, ◌∙◌}
use Rattle.shelf.specs.Packed.{packed}
use Rattle.shelf.proofs.Filling.{is_packed}
use Rattle.shelf.proofs.packing.pack.Goals as goal

pub returns : goal.returns
returns g c =
    let used = c.as_slice-used in
    is_packed _ used.result.now c.args.filler used.ensures.few refl (ap (λ l. l ++ c.split_at_mut-front.result.1.now) c.copy_from_slice.ensures.after ∙ ap (λ l. used.result.now ++ l) c.split_at_mut-front.ensures.back)
    ∙ ap (packed c.args.filler) used.ensures.value
