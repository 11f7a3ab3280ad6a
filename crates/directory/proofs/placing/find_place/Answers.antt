use Rattle.std.proofs.Common.{◌∙◌, [], ap, refl, sym}
use Rattle.disk_records.specs.Tapes.{pack}
use Rattle.directory.specs.FreeRows.{row_of}
use Rattle.directory.proofs.PlaceFound.{all_met, full_there, none_is, place_there, some_is, taken_there}
use Rattle.directory.proofs.placing.find_place.Goals as goal

pub returns-then-is_some-clause-taken : goal.returns-then-is_some-clause-taken
returns-then-is_some-clause-taken g c told found taken =
    let p = pack (g.D.Tape.tape c.args.disk.now) in
    let d = c.args.dir.now.fid in
    let met = all_met p d c.args.name.now _ c.visit_slots.new.visitor refl refl refl refl (c.new.ensures ∙ ap (λ n. row_of n []) c.entry_words.ensures.words) refl (c.in_ok-visit_slots.ensures.visited told found) in
    let there = some_is c.visit_slots.new.visitor.same.best (sym c.is_some.ensures ∙ c.if-is_some.true) in
    taken_there p d c.args.name.now c.visit_slots.new.visitor met there.0 there.1

pub returns-in-Some-clause-found : goal.returns-in-Some-clause-found
returns-in-Some-clause-found g c told found =
    let p = pack (g.D.Tape.tape c.args.disk.now) in
    let d = c.args.dir.now.fid in
    let met = all_met p d c.args.name.now _ c.visit_slots.new.visitor refl refl refl refl (c.new.ensures ∙ ap (λ n. row_of n []) c.entry_words.ensures.words) refl (c.in_ok-visit_slots.ensures.visited told found) in
    place_there p d c.args.name.now c.visit_slots.new.visitor met c.in-Some.room (none_is c.visit_slots.new.visitor.same.best (sym c.is_some.ensures ∙ c.if-is_some.false)) c.in-Some.is

pub returns-in-None-clause-full : goal.returns-in-None-clause-full
returns-in-None-clause-full g c told found =
    let p = pack (g.D.Tape.tape c.args.disk.now) in
    let d = c.args.dir.now.fid in
    let met = all_met p d c.args.name.now _ c.visit_slots.new.visitor refl refl refl refl (c.new.ensures ∙ ap (λ n. row_of n []) c.entry_words.ensures.words) refl (c.in_ok-visit_slots.ensures.visited told found) in
    full_there p d c.args.name.now c.visit_slots.new.visitor met (none_is c.visit_slots.new.visitor.same.best (sym c.is_some.ensures ∙ c.if-is_some.false)) c.in-None.is
