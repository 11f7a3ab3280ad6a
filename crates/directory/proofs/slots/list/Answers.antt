use Rattle.std.proofs.Common.{◌≡◌, ◌∙◌, [], rules}
use Rattle.disk_records.specs.Tapes.{pack}
use Rattle.pack_model.specs.hints.Links.{dir_words}
use Rattle.pack_model.specs.reading.Slots.{slots}
use Rattle.directory.proofs.Items.{items_at}
use Rattle.directory.proofs.Rows.{all_slots}
use Rattle.directory.proofs.slots.list.Goals as goal

pub returns-clause-found : goal.returns-clause-found
returns-clause-found g c = λ told found.
    let p = pack (g.D.Tape.tape c.args.disk.now) in
    let d = c.args.dir.now.fid in
    let none : c.new.result.items ≡ [] = search rules in
    let all = all_slots p d _ c.visit_slots.new.visitor none (c.in_ok-visit_slots.ensures.visited told found) in
    record { items = all.items ∙ items_at (dir_words p d) 0 (slots (dir_words p d)); addresses = all.addresses }
