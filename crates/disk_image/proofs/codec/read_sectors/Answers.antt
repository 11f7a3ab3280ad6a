use Rattle.std.proofs.Common.{◌≡◌, ◌+◌, ◌*◌, ◌≤◌, length, [], ◌∷◌, drop, ◌∙◌, rules, arith, vec_len}
use Rattle.std.proofs.lemmas.List.{take-append-le, drop-append-le, drop_all, take_all}
use Rattle.std.proofs.lemmas.List.Elements.{All-nil}
use Rattle.disk_image.specs.Images.{IsWhole}
use Rattle.disk_image.proofs.Packs.{pack_bytes-read, whole-snoc}
use Rattle.disk_image.proofs.codec.read_sectors.Goals as goal

pub loop-at-init : goal.loop-at-init
loop-at-init c =
    let none : drop (vec_len c.args.sectors.now) c.args.sectors.now.items ≡ [] = drop_all _ c.args.sectors.now.items (omega arith) in
    record {
      count = search rules;
      capacity = search rules;
      kept = take_all _ c.args.sectors.now.items (omega arith);
      whole = rw none (All-nil IsWhole);
      so_far = rw none;
    }

pub loop-at-preserved : goal.loop-at-preserved
loop-at-preserved c =
    let there : vec_len c.args.sectors.now ≤ length c.loop-at.sectors.items = omega arith in
    let rest = drop (vec_len c.args.sectors.now) c.loop-at.sectors.items in
    let more = drop-append-le (vec_len c.args.sectors.now) c.loop-at.sectors.items (c.read_sector.result ∷ []) there in
    record {
      count = search rules;
      capacity = search rules;
      kept = rw c.push_reserved.ensures.items (take-append-le (vec_len c.args.sectors.now) c.loop-at.sectors.items (c.read_sector.result ∷ []) there ∙ c.loop-at.invariant.kept);
      whole = rw (c.push_reserved.ensures.items, more) (whole-snoc rest c.read_sector.result c.loop-at.invariant.whole c.read_sector.ensures.whole);
      so_far = rw (c.push_reserved.ensures.items, more) (pack_bytes-read rest c.read_sector.result c.args.bytes.now (c.loop-at.at * 532) ((c.loop-at.at + 1) * 532) _ (omega arith) c.loop-at.invariant.so_far c.read_sector.ensures.bytes);
    }
