use Rattle.std.specs.Prelude.{IfErr}
use Rattle.std.proofs.Common.{None, ap, arith, length, subst, sym, true, ◌≡◌, ◌∙◌}
use Rattle.directory.specs.Asked.{DirIsFound}
use Rattle.alto_words.specs.Fid.{disk_descriptor}
use Rattle.disk_descriptor.specs.Opening.{HasCleanPage, IsOpened, MayBeOpened}
use Rattle.disk_descriptor.specs.declared.descriptor.Descriptor.{Descriptor}
use Rattle.disk_records.specs.Packs.{carried}
use Rattle.disk_records.specs.Tapes.{pack}
use Rattle.disk_records.proofs.Looking.{looks_pack, looks_twice, looks_within}
use Rattle.disk_records.proofs.Growing.{alone_twice}
use Rattle.session_model.specs.Opening.{descriptor_entry, is_descriptor, is_root, unready}
use Rattle.exec_session.specs.Found.{root_ref}
use Rattle.exec_session.specs.Opens.{DescriptorRefused, Refuses}
use Rattle.exec_session.proofs.PackOpening.{cause_in_entering, if_ok_more, if_ok_of, ok_of_open_error, open_cause, open_cause_after, opened_ready, passed_on, refused_by_entry, refused_by_root, refused_in_entering}
use Rattle.exec_session.proofs.RootFinding.{root_there}
use Rattle.exec_session.proofs.begin.opening.enter_found.Goals as goal

pub returns-in_err-check_root-clause-refused : goal.returns-in_err-check_root-clause-refused
returns-in_err-check_root-clause-refused g c = λ told once.
    let p = pack (g.D.Tape.tape c.args.disk.now) in
    let e = c.in_err-check_root.field-0.0 in
    passed_on (Refuses p) c.from_residual.result c.from_residual.ensures.1 (refused_by_root p e (c.in_err-check_root.ensures.refused told))

pub returns-in_err-check_root-clause-opened : goal.returns-in_err-check_root-clause-opened
returns-in_err-check_root-clause-opened g c = λ told once. ok_of_open_error _ _ c.from_residual.result c.from_residual.ensures.1

pub returns-in_err-check_root-clause-cause : goal.returns-in_err-check_root-clause-cause
returns-in_err-check_root-clause-cause g c = open_cause (g.D.Tape.tape c.args.disk.now) (g.D.Tape.tape c.check_root.new.disk) c.in_err-check_root.field-0.0 c.from_residual.result c.from_residual.ensures.1 c.in_err-check_root.ensures.cause

pub returns-in_err-check_root-clause-looks : goal.returns-in_err-check_root-clause-looks
returns-in_err-check_root-clause-looks g c = looks_within 8596750336 c.in_err-check_root.ensures.looks (omega arith)

pub returns-in_err-check_root-clause-shape : goal.returns-in_err-check_root-clause-shape
returns-in_err-check_root-clause-shape g c = ok_of_open_error _ _ c.from_residual.result c.from_residual.ensures.1

pub returns-in_err-entry-clause-refused : goal.returns-in_err-entry-clause-refused
returns-in_err-entry-clause-refused g c = λ told once.
    let p = pack (g.D.Tape.tape c.args.disk.now) in
    let e = c.in_err-entry.field-0.0 in
    let same = looks_pack c.in_ok-check_root.ensures.looks told in
    let root = c.in_ok-check_root.ensures.root told in
    let refused = c.in_err-entry.ensures.refused told (subst (λ r. DirIsFound r root_ref) (sym same) (root_there p once root)) (subst (λ r. is_root (carried r 1) ≡ true) (sym same) root) in
    passed_on (Refuses p) c.from_residual-in_err-entry.result c.from_residual-in_err-entry.ensures.1 (refused_by_entry p root e (subst (λ r. DescriptorRefused r e) same refused))

pub returns-in_err-entry-clause-opened : goal.returns-in_err-entry-clause-opened
returns-in_err-entry-clause-opened g c = λ told once. ok_of_open_error _ _ c.from_residual-in_err-entry.result c.from_residual-in_err-entry.ensures.1

pub returns-in_err-entry-clause-cause : goal.returns-in_err-entry-clause-cause
returns-in_err-entry-clause-cause g c = open_cause_after (g.D.Tape.tape c.args.disk.now) (g.D.Tape.tape c.check_root.new.disk) (g.D.Tape.tape c.find_descriptor.new.disk) c.in_err-entry.field-0.0 c.from_residual-in_err-entry.result c.from_residual-in_err-entry.ensures.1 c.in_ok-check_root.ensures.cause c.in_err-entry.ensures.cause

pub returns-in_err-entry-clause-looks : goal.returns-in_err-entry-clause-looks
returns-in_err-entry-clause-looks g c = looks_twice 8596750336 c.in_ok-check_root.ensures.looks c.in_err-entry.ensures.looks (omega arith)

pub returns-in_err-entry-clause-shape : goal.returns-in_err-entry-clause-shape
returns-in_err-entry-clause-shape g c = ok_of_open_error _ _ c.from_residual-in_err-entry.result c.from_residual-in_err-entry.ensures.1

pub returns-in_err-entry-clause-sized : goal.returns-in_err-entry-clause-sized
returns-in_err-entry-clause-sized g c = ap length c.in_err-entry.ensures.table

pub returns-in_err-check_root-clause-clean : goal.returns-in_err-check_root-clause-clean
returns-in_err-check_root-clause-clean g c = ok_of_open_error _ _ c.from_residual.result c.from_residual.ensures.1

pub returns-in_err-check_root-clause-clean_page : goal.returns-in_err-check_root-clause-clean_page
returns-in_err-check_root-clause-clean_page g c = λ told. ok_of_open_error _ _ c.from_residual.result c.from_residual.ensures.1

pub returns-in_err-entry-clause-clean : goal.returns-in_err-entry-clause-clean
returns-in_err-entry-clause-clean g c = ok_of_open_error _ _ c.from_residual-in_err-entry.result c.from_residual-in_err-entry.ensures.1

pub returns-in_err-entry-clause-clean_page : goal.returns-in_err-entry-clause-clean_page
returns-in_err-entry-clause-clean_page g c = λ told. ok_of_open_error _ _ c.from_residual-in_err-entry.result c.from_residual-in_err-entry.ensures.1

-- ---- it is entered, or not
pub returns-clause-clean : goal.returns-clause-clean
returns-clause-clean g c = c.enter_pack.ensures.clean

pub returns-clause-clean_page : goal.returns-clause-clean_page
returns-clause-clean_page g c = λ told.
    let same = looks_pack c.in_ok-entry.ensures.looks told ∙ looks_pack c.in_ok-check_root.ensures.looks told in
    if_ok_of (λ (d : Descriptor). HasCleanPage (pack (g.D.Tape.tape c.args.disk.now)) disk_descriptor) c.enter_pack.result (c.enter_pack.ensures.clean_page told)
    (λ d page. subst (λ p. HasCleanPage p disk_descriptor) same (subst (HasCleanPage (pack (g.D.Tape.tape c.find_descriptor.new.disk))) c.in_ok-entry.ensures.fid page))

pub returns-clause-opened : goal.returns-clause-opened
returns-clause-opened g c = λ told once.
    let p = pack (g.D.Tape.tape c.args.disk.now) in
    let q = pack (g.D.Tape.tape c.find_descriptor.new.disk) in
    let f = c.in_ok-entry.entry in
    let before = looks_pack c.in_ok-check_root.ensures.looks told in
    let same = looks_pack c.in_ok-entry.ensures.looks told ∙ before in
    let root = c.in_ok-check_root.ensures.root told in
    let there = subst (λ r. DirIsFound r root_ref) (sym before) (root_there p once root) in
    let entry = subst (λ r. is_descriptor (descriptor_entry r) ≡ true) before (c.in_ok-entry.ensures.is told there) in
    let may = subst (λ r. MayBeOpened r f) (sym same) (subst (λ r. MayBeOpened r f) before (c.in_ok-entry.ensures.found told there)) in
    let root_now = subst (λ r. is_root (carried r 1) ≡ true) (sym same) root in
    let entry_now = subst (λ r. is_descriptor (descriptor_entry r) ≡ true) (sym same) entry in
    if_ok_more (λ (d : Descriptor). IsOpened q d c.enter_pack.new.hints.table) (λ (d : Descriptor). (unready p ≡ None) × IsOpened p d c.enter_pack.new.hints.table) c.enter_pack.result
    (λ d opened. subst (λ r. (unready r ≡ None) × IsOpened r d c.enter_pack.new.hints.table) same (opened_ready q root_now entry_now opened, opened))
    (c.enter_pack.ensures.opened told may)

pub returns-clause-refused : goal.returns-clause-refused
returns-clause-refused g c = λ told once.
    let p = pack (g.D.Tape.tape c.args.disk.now) in
    let a = g.D.Tape.tape c.find_descriptor.new.disk in
    let b = g.D.Tape.tape c.enter_pack.new.disk in
    let q = pack a in
    let f = c.in_ok-entry.entry in
    let h = c.enter_pack.ensures in
    let before = looks_pack c.in_ok-check_root.ensures.looks told in
    let same = looks_pack c.in_ok-entry.ensures.looks told ∙ before in
    let root = c.in_ok-check_root.ensures.root told in
    let there = subst (λ r. DirIsFound r root_ref) (sym before) (root_there p once root) in
    let entry = subst (λ r. is_descriptor (descriptor_entry r) ≡ true) before (c.in_ok-entry.ensures.is told there) in
    let may = subst (λ r. MayBeOpened r f) (sym same) (subst (λ r. MayBeOpened r f) before (c.in_ok-entry.ensures.found told there)) in
    subst (λ r. IfErr c.enter_pack.result (Refuses r)) same
    (refused_in_entering q (subst (λ r. is_root (carried r 1) ≡ true) (sym same) root) (subst (λ r. is_descriptor (descriptor_entry r) ≡ true) (sym same) entry) Descriptor a b f.fid c.enter_pack.result may.is_descriptor h.cause
    (h.wrong_length told may) (h.bad_word told may) (h.not_clean told may) (h.misled told may) (h.on_disk told may))

pub returns-clause-sized : goal.returns-clause-sized
returns-clause-sized g c = c.enter_pack.ensures.sized ∙ ap length c.in_ok-entry.ensures.table

pub returns-clause-cause : goal.returns-clause-cause
returns-clause-cause g c = cause_in_entering (g.D.Tape.tape c.args.disk.now) (g.D.Tape.tape c.find_descriptor.new.disk) (g.D.Tape.tape c.enter_pack.new.disk) c.enter_pack.result (c.in_ok-entry.ensures.cause ∙ c.in_ok-check_root.ensures.cause) c.enter_pack.ensures.cause

pub returns-clause-looks : goal.returns-clause-looks
returns-clause-looks g c = looks_twice 8596750336 (looks_twice 4298309581 c.in_ok-check_root.ensures.looks c.in_ok-entry.ensures.looks (omega arith)) c.enter_pack.ensures.looks (omega arith)

pub returns-clause-shape : goal.returns-clause-shape
returns-clause-shape g c =
    if_ok_more (λ (d : Descriptor). d.shape ≡ (g.D.Tape.tape c.find_descriptor.new.disk).form) (λ (d : Descriptor). d.shape ≡ (g.D.Tape.tape c.args.disk.now).form) c.enter_pack.result
    (λ d is. is ∙ (alone_twice c.in_ok-check_root.ensures.looks.alone c.in_ok-entry.ensures.looks.alone).grown.form) c.enter_pack.ensures.shape
