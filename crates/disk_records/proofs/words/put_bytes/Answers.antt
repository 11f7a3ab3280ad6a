use Rattle.std.proofs.Common.{◌*◌, ◌/◌, length, arith, sym}
use Rattle.std.proofs.lemmas.List.{take-append-drop}
use Rattle.disk_records.proofs.InPlace.{put_pairs}
use Rattle.disk_records.proofs.words.put_bytes.Goals as goal

pub returns : goal.returns
returns c =
    let long = c.told-value in
    let pairs = c.split_at.result.0.now in
    let rest = c.split_at.result.1.now in
    put_pairs c.args.offset (length c.args.bytes.now / 2) _ pairs rest c.args.bytes.now c.bytes_into_words.new.words c.args.value.now c.put_each-2.new.value
    (omega (arith, c.if-offset-ne0.false)) (omega (arith, c.requires, long)) (omega arith) (rw (c.split_at.ensures.front, c.split_at.ensures.back) (sym (take-append-drop (2 * (length c.args.bytes.now / 2)) c.args.bytes.now))) c.bytes_into_words.ensures.bytes c.split_at.ensures.front_len c.put_each-2.ensures
