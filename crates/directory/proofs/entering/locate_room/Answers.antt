use Rattle.std.proofs.Common.{◌+◌, ◌∙◌, ◌≡◌, Err, Some, ap, min, true, ℕ, arith, subst, sym}
use Rattle.disk_records.proofs.Looking.{looks_pack, looks_twice}
use Rattle.disk_records.specs.Packs.{Pack}
use Rattle.disk_records.specs.Tapes.{pack}
use Rattle.pack_model.specs.states.Whole.{Whole}
use Rattle.page_seeking.specs.Seeking.{IsLengthBelow, Quick, page_number}
use Rattle.directory.specs.Entering.{has_later}
use Rattle.directory.specs.Errors.{IfBySlots}
use Rattle.directory.proofs.Answering.{by_slots_none}
use Rattle.directory.proofs.EntryCall.{if_wanted, no_length_before, no_length_between}
use Rattle.directory.proofs.LeavingEntry.{quick_kept}
use Rattle.directory.proofs.entering.locate_room.Goals as goal

pub returns-in-Ok-locate_if-clause-carries_next : goal.returns-in-Ok-locate_if-clause-carries_next
returns-in-Ok-locate_if-clause-carries_next g c told more =
    let next = (c.in-Ok.ensures.stands told (c.has_later-later.ensures ∙ more)).carries in
    next ∙ ap (λ n. Some (page_number c.args.dir.now.fid n)) (c.saturating_add.ensures ∙ ap (λ n. min (n + 1) 65535) c.page_of_word-number.ensures)

pub returns-in-Ok-locate_if-clause-looks : goal.returns-in-Ok-locate_if-clause-looks
returns-in-Ok-locate_if-clause-looks g c =
    let first = c.saturating_add.type_inv in
    let last = c.page_of_word-number.type_inv in
    looks_twice _ c.locate_if.ensures.looks c.locate_if-in-Ok.ensures.looks (omega arith)

pub returns-in-Ok-locate_if-clause-quick : goal.returns-in-Ok-locate_if-clause-quick
returns-in-Ok-locate_if-clause-quick g c told quick =
    let p = pack (g.D.Tape.tape c.args.disk.now) in
    let d = c.args.dir.now.fid in
    let kept = quick_kept p d c.args.hints.now.cache c.locate_if.new.hints.cache quick (c.locate_if.ensures.handy told) in
    let first = c.in-Ok.ensures.quick told quick in
    let next = c.in-Ok-locate_if.ensures.quick told (subst (λ (q : Pack). Quick q d c.locate_if.new.hints.cache) (sym (looks_pack c.locate_if.ensures.looks told)) kept) in
    let sum = c.saturating_add.ensures in
    let number = c.page_of_word-number.ensures in
    let few = if_wanted c.has_later-later.result (c.saturating_add.result + 1) (c.page_of_word-number.result + 2) (omega (arith, sum)) in
    omega (arith, first, next, few, number)

pub returns-in-Err-locate_if-clause-looks : goal.returns-in-Err-locate_if-clause-looks
returns-in-Err-locate_if-clause-looks g c =
    let first = c.saturating_add.type_inv in
    let last = c.page_of_word-number.type_inv in
    looks_twice _ c.locate_if.ensures.looks c.locate_if-in-Ok.ensures.looks (omega arith)

pub returns-in-Err-locate_if-clause-full : goal.returns-in-Err-locate_if-clause-full
returns-in-Err-locate_if-clause-full g c told whole fits some =
    let p = pack (g.D.Tape.tape c.args.disk.now) in
    let d = c.args.dir.now.fid in
    let number = c.page_of_word-number.result in
    let same = looks_pack c.locate_if.ensures.looks told in
    by_slots_none {T = ℕ} ((n : ℕ) × IsLengthBelow p d number n) (Err c.in-Err-locate_if.error) (λ h. no_length_before p d number c.args.room.now.place _ h.0 c.page_of_word-number.ensures (omega (arith, some)) fits h.1)
    (subst (λ (q : Pack). IfBySlots {T = ℕ} (Err c.in-Err-locate_if.error) ((n : ℕ) × IsLengthBelow q d number n)) same (c.in-Err-locate_if.ensures.full told (subst Whole (sym same) whole)))

pub returns-in-Err-clause-full : goal.returns-in-Err-clause-full
returns-in-Err-clause-full g c told whole fits some =
    let p = pack (g.D.Tape.tape c.args.disk.now) in
    let d = c.args.dir.now.fid in
    let number = c.saturating_add.result in
    let sum = c.saturating_add.ensures in
    let is = c.page_of_word-number.ensures in
    let later : has_later c.args.room.now c.args.words.now ≡ true = sym c.has_later-later.ensures ∙ c.in-Err.ensures.asked in
    by_slots_none {T = ℕ} ((n : ℕ) × IsLengthBelow p d number n) (Err c.in-Err.error) (λ h. no_length_between p d number c.args.room.now.place _ h.0 (omega (arith, sum, is)) later fits h.1)
    (c.in-Err.ensures.full told whole)
