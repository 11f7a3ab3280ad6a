use Rattle.std.proofs.Common.{◌++◌, drop, replicate, take, ap, ◌∙◌}
use Rattle.std.specs.Prelude.{set}
use Rattle.scav_names.proofs.WideningPage.{space_put}
use Rattle.scav_names.proofs.widen.with_space.Goals as goal

pub returns : goal.returns
returns c =
    let value = c.args.value.now in
    let put = c.copy_from_slice.new.self in
    (λ i. set (put ++ drop (c.from-used.ensures i) (replicate 256 0)) (c.from-used.ensures i) 256)
    ∙ space_put value put c.args.used (c.copy_from_slice.ensures.after ∙ ap (λ n. take n value) c.from-used.ensures) c.told-value c.requires.used
