use Rattle.std.proofs.Common.{◌≡◌, ◌∙◌, sym}
use Rattle.laws_zone.specs.world_model.specs.ZoneWords.{tag_size}
use Rattle.zones.proofs.Checking.{blocks_place, blocks_step, ok_is_none}
use Rattle.zones.proofs.check.check_blocks.Goals as goal

pub loop-tag-preserved : goal.loop-tag-preserved
loop-tag-preserved c =
    let tag = c.in-Some.tag.now in
    let words = c.in-Some.words.now in
    let rest = c.in-Some.ensures.cases.0 in
    let size : c.from-size.result ≡ tag_size c.in-Some.tag.now = c.from-size.ensures ∙ c.block_size.ensures in
    let fits = c.in_ok-check_block.ensures.fits in
    record {
      place = blocks_place c.loop-tag.at c.from-size.result c.loop-tag.rest.now tag words rest size fits.0 fits.1 ∙ c.loop-tag.invariant.place;
      same = c.loop-tag.invariant.same ∙ blocks_step c.loop-tag.at c.from-size.result c.loop-tag.after_gap c.is_gap-after_gap.result c.loop-tag.rest.now tag words rest size c.is_gap-after_gap.ensures (ok_is_none _ c.in_ok-check_block.field-0 (sym c.in_ok-check_block.ensures.checked));
    }
