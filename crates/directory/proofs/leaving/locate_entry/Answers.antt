use Rattle.std.proofs.Common.{[], ℕ, Err, arith, sym, subst}
use Rattle.disk_records.proofs.Looking.{looks_pack, looks_twice}
use Rattle.disk_records.specs.Packs.{Pack}
use Rattle.disk_records.specs.Tapes.{pack}
use Rattle.alto_words.specs.declared.wanted.Wanted.TheVariants.{Exact}
use Rattle.file_pages.specs.label_check.specs.declared.errors.PageInfo.{PageInfo}
use Rattle.pack_model.specs.states.Whole.{Whole}
use Rattle.page_seeking.specs.Refs.{FileIsFrom, IsOwnHint, MisledBy}
use Rattle.page_seeking.specs.Seeking.{IsLengthBelow, Quick, Stands, page_number}
use Rattle.page_seeking.proofs.Erring.{if_misled_map}
use Rattle.page_seeking.proofs.Seeking.{misled_before}
use Rattle.directory.specs.declared.entry.EntryFound.{EntryFound}
use Rattle.directory.specs.Inside.{found_at}
use Rattle.directory.proofs.Answering.{unlocated_absent, unlocated_cause, unlocated_memory, unlocated_misled}
use Rattle.directory.proofs.LeavingEntry.{no_length_below, quick_both, quick_kept}
use Rattle.directory.proofs.Quickly.{handy_twice}
use Rattle.directory.proofs.leaving.locate_entry.Goals as goal

pub returns-in-Ok-locate-clause-stands : goal.returns-in-Ok-locate-clause-stands
returns-in-Ok-locate-clause-stands g c told =
    let stands = subst (λ (q : Pack). Stands q (page_number c.args.dir.now.fid c.page_of_word.result) c.in-Ok-locate.at c.locate.new.buf) (looks_pack c.named_entry.ensures.looks told) (c.in-Ok-locate.ensures.stands told) in
    subst (λ (n : ℕ). Stands (pack (g.D.Tape.tape c.args.disk.now)) (page_number c.args.dir.now.fid n) c.in-Ok-locate.at c.locate.new.buf) c.page_of_word.ensures stands

pub returns-in-Ok-locate-clause-looks : goal.returns-in-Ok-locate-clause-looks
returns-in-Ok-locate-clause-looks g c = looks_twice _ c.named_entry.ensures.looks c.locate.ensures.looks (omega arith)

pub returns-in-Err-locate-clause-looks : goal.returns-in-Err-locate-clause-looks
returns-in-Err-locate-clause-looks g c = looks_twice _ c.named_entry.ensures.looks c.locate.ensures.looks (omega arith)

pub returns-in-Ok-locate-clause-handy : goal.returns-in-Ok-locate-clause-handy
returns-in-Ok-locate-clause-handy g c told = handy_twice (pack (g.D.Tape.tape c.args.disk.now)) (pack (g.D.Tape.tape c.named_entry.new.disk)) c.args.hints.now.cache c.named_entry.new.hints.cache c.locate.new.hints.cache (looks_pack c.named_entry.ensures.looks told) (c.named_entry.ensures.handy told) (c.locate.ensures.handy told)

pub returns-in-Err-locate-clause-handy : goal.returns-in-Err-locate-clause-handy
returns-in-Err-locate-clause-handy g c told = handy_twice (pack (g.D.Tape.tape c.args.disk.now)) (pack (g.D.Tape.tape c.named_entry.new.disk)) c.args.hints.now.cache c.named_entry.new.hints.cache c.locate.new.hints.cache (looks_pack c.named_entry.ensures.looks told) (c.named_entry.ensures.handy told) (c.locate.ensures.handy told)

pub returns-in-Ok-locate-clause-quick : goal.returns-in-Ok-locate-clause-quick
returns-in-Ok-locate-clause-quick g c told found quick =
    let p = pack (g.D.Tape.tape c.args.disk.now) in
    let d = c.args.dir.now.fid in
    let same = looks_pack c.named_entry.ensures.looks told in
    let kept = quick_kept p d c.args.hints.now.cache c.named_entry.new.hints.cache quick (c.named_entry.ensures.handy told) in
    quick_both p d (Exact c.args.name.now) (found_at c.in-Ok.entry) c.page_of_word.result c.args.hints.now.cache c.named_entry.new.hints.cache c.locate.new.hints.cache (g.D.Tape.tape c.args.disk.now) (g.D.Tape.tape c.named_entry.new.disk) (g.D.Tape.tape c.locate.new.disk)
    (c.in-Ok.ensures.named told found) c.page_of_word.ensures c.locate.ensures.refused (c.in-Ok.ensures.quick told quick) (c.in-Ok-locate.ensures.quick told (subst (λ (q : Pack). Quick q d c.named_entry.new.hints.cache) (sym same) kept))

pub returns-in-Err-locate-clause-misled : goal.returns-in-Err-locate-clause-misled
returns-in-Err-locate-clause-misled g c told found =
    let same = looks_pack c.named_entry.ensures.looks told in
    let from : FileIsFrom (pack (g.D.Tape.tape c.named_entry.new.disk)) c.args.dir.now = subst (λ (q : Pack). FileIsFrom q c.args.dir.now) (sym same) found.from in
    unlocated_misled (ℕ × PageInfo) (ℕ × EntryFound) (MisledBy (pack (g.D.Tape.tape c.args.disk.now)) [] c.args.dir.now.fid) c.in-Err-locate.error c.unlocated.result c.unlocated.ensures
    (if_misled_map {T = ℕ × PageInfo} (Err c.in-Err-locate.error) (c.in-Err-locate.ensures.misled told from) (λ place at wanted found x. misled_before c.named_entry.ensures.looks told x))

pub returns-in-Err-locate-clause-hint : goal.returns-in-Err-locate-clause-hint
returns-in-Err-locate-clause-hint g c = unlocated_misled (ℕ × PageInfo) (ℕ × EntryFound) (IsOwnHint c.args.dir.now) c.in-Err-locate.error c.unlocated.result c.unlocated.ensures c.in-Err-locate.ensures.hint

pub returns-in-Err-locate-clause-cause : goal.returns-in-Err-locate-clause-cause
returns-in-Err-locate-clause-cause g c = unlocated_cause (g.D.Tape.tape c.args.disk.now) (g.D.Tape.tape c.named_entry.new.disk) (g.D.Tape.tape c.locate.new.disk) c.in-Err-locate.error c.unlocated.result c.unlocated.ensures c.in-Ok.ensures.cause c.in-Err-locate.ensures.cause

pub returns-in-Err-locate-clause-want : goal.returns-in-Err-locate-clause-want
returns-in-Err-locate-clause-want g c told memory = c.in-Err-locate.ensures.want told (unlocated_memory (ℕ × PageInfo) (ℕ × EntryFound) c.in-Err-locate.error c.unlocated.result c.unlocated.ensures memory)

pub returns-in-Err-locate-clause-absent : goal.returns-in-Err-locate-clause-absent
returns-in-Err-locate-clause-absent g c told whole found none =
    let p = pack (g.D.Tape.tape c.args.disk.now) in
    let d = c.args.dir.now.fid in
    let same = looks_pack c.named_entry.ensures.looks told in
    let beyond = c.in-Err-locate.ensures.beyond told (subst Whole (sym same) whole) in
    let below : (n : ℕ) → IsLengthBelow (pack (g.D.Tape.tape c.named_entry.new.disk)) d c.page_of_word.result n → ⊥ =
    λ n h. no_length_below p d (Exact c.args.name.now) (found_at c.in-Ok.entry) n (c.in-Ok.ensures.named told found) (subst (λ (k : ℕ). IsLengthBelow p d k n) c.page_of_word.ensures (subst (λ (q : Pack). IsLengthBelow q d c.page_of_word.result n) same h)) in
    absurd (unlocated_absent (ℕ × PageInfo) (ℕ × EntryFound) (IsLengthBelow (pack (g.D.Tape.tape c.named_entry.new.disk)) d c.page_of_word.result) c.in-Err-locate.error c.unlocated.result c.unlocated.ensures beyond below none)
