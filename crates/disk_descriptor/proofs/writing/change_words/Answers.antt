use Rattle.std.proofs.Common.{[], subst, ◌∙◌, ◌∷◌, ◌≡◌}
use Rattle.disk_records.proofs.Growing.{alone_twice}
use Rattle.disk_records.specs.Commands.{value_writes}
use Rattle.disk_records.specs.Packs.{sector_at}
use Rattle.disk_records.specs.Tapes.{pack}
use Rattle.pack_model.specs.reading.Bytes.{put_at}
use Rattle.disk_descriptor.proofs.Guards.{own_after_look, own_first}
use Rattle.disk_descriptor.specs.Writing.{WritesOwn}
use Rattle.disk_descriptor.proofs.writing.change_words.Goals as goal

pub returns-in-Ok-clause-guarded : goal.returns-in-Ok-clause-guarded
returns-in-Ok-clause-guarded g c = λ told.
    let a = g.D.Tape.tape c.args.disk.now in
    let b = g.D.Tape.tape c.read_page.new.disk in
    let d = g.D.Tape.tape c.write_page.new.disk in
    let at = c.args.at in
    let was = (sector_at (pack a) at).value in
    let holds : c.read_page.new.buf ≡ sector_at (pack a) at = (c.in-Ok.ensures.read told).holds in
    let value : c.put.new.value ≡ put_at c.args.word c.args.words.now was = c.put.ensures ∙ (λ i. put_at c.args.word c.args.words.now (holds i).value) in
    own_after_look (at ∷ []) (value_writes at (put_at c.args.word c.args.words.now was)) 2 told c.read_page.ensures.looks c.write_page.ensures.alone.grown
    (subst (λ v. WritesOwn (at ∷ []) (value_writes at v) 2 b d c.write_page.result) value (own_first at c.put.new.value 2 (c.write_page.ensures.writes told) (c.write_page.ensures.guarded told)))

pub returns-in-Ok-clause-alone : goal.returns-in-Ok-clause-alone
returns-in-Ok-clause-alone g c = alone_twice c.read_page.ensures.looks.alone c.write_page.ensures.alone
