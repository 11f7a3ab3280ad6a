use Rattle.std.proofs.Common.{arith, ◌∙◌, sym, ap}
use Rattle.std.proofs.lemmas.List.{append-nil}
use Rattle.disk_records.specs.Bytes.{bytes_of, put_at}
use Rattle.disk_records.proofs.Bytes.{length-bytes_of}
use Rattle.disk_records.proofs.InPlace.{next_word, put_all}
use Rattle.disk_records.proofs.words.put_in_words.Goals as goal

pub loop-i-init : goal.loop-i-init
loop-i-init c = c.put_bytes.ensures ∙ ap (λ l. put_at c.args.offset l (bytes_of c.args.value.now)) (sym (append-nil c.args.bytes.now))

pub loop-i-preserved : goal.loop-i-preserved
loop-i-preserved c =
    let long = c.told-value in
    next_word c.args.offset c.loop-i.i c.args.bytes.now c.args.past.now c.loop-i.value c.put_bytes-in-loop-i.new.value (bytes_of c.args.value.now) c.loop-i-test.true
    (omega (arith, c.requires, length-bytes_of c.args.value.now)) c.loop-i.invariant c.put_bytes-in-loop-i.ensures

pub returns : goal.returns
returns c = put_all c.args.offset c.loop-i.i c.args.bytes.now c.args.past.now c.loop-i.value c.args.value.now c.loop-i-test.false c.loop-i.invariant
