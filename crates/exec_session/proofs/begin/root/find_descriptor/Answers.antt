use Rattle.std.proofs.Common.{List, ℕ, Err, [], ap, refl, sym, ◌≡◌, ◌∙◌, subst}
use Rattle.alto_words.specs.Fid.{sys_dir}
use Rattle.disk_records.specs.Packs.{Pack}
use Rattle.disk_records.specs.Tapes.{Taped, pack}
use Rattle.disk_descriptor.specs.declared.errors.OpenError.{OpenError}
use Rattle.page_seeking.specs.Causes.{cause_of_length}
use Rattle.page_seeking.specs.Refs.{FileIsRooted, IfMisled, MisledBy}
use Rattle.page_seeking.specs.declared.refs.FileError.{FileError}
use Rattle.page_seeking.specs.declared.refs.FileError.TheVariants as file
use Rattle.page_seeking.specs.declared.refs.FileRef.{FileRef}
use Rattle.pack_model.specs.hints.Misled.{IsOnDisk}
use Rattle.exec_session.specs.Found.{root_ref}
use Rattle.exec_session.specs.Opens.{DescriptorRefused, root_error}
use Rattle.exec_session.proofs.Finding.{contains_first}
use Rattle.exec_session.proofs.RootFinding.{descriptor_absent, descriptor_may_open, descriptor_met, fid_by_words, root_carried}
use Rattle.disk_records.specs.Causes.{IsCause, never, other}
use Rattle.directory.specs.Errors as dirs
use Rattle.directory.specs.Errors.{cause_of}
use Rattle.directory.specs.declared.errors.DirError.{DirError}
use Rattle.exec_session.proofs.begin.root.find_descriptor.Goals as goal

-- an error of the look-up, where its hint misled on the disk, and Beyond never comes
refused_by : (p : Pack) (a b : Taped) (fault : FileError) (e : OpenError) → e ≡ root_error fault → IsCause a b (cause_of_length fault) → IfMisled {T = Unit {0}} (Err fault) (MisledBy p [] sys_dir) → IfMisled {T = Unit {0}} (Err fault) (λ place at wanted found. IsOnDisk place) → DescriptorRefused p e
refused_by p a b (file.Misled place at wanted found) e is cause by on_disk = rw is (record { misled = by.answers; on_disk = on_disk; file = rw by.own (contains_first sys_dir []) })
refused_by p a b (file.Beyond length) e is cause by on_disk = absurd cause
refused_by p a b file.DiskFault e is cause by on_disk = rw is tt
refused_by p a b file.Memory e is cause by on_disk = rw is tt

pub returns-in-Err-File-clause-refused : goal.returns-in-Err-File-clause-refused
returns-in-Err-File-clause-refused g c = λ told there root.
    let p = pack (g.D.Tape.tape c.args.disk.now) in
    let rooted : FileIsRooted p root_ref = record { from = (refl, refl); root = λ is. root_carried p root } in
    let misled = subst (λ (e : DirError). dirs.IfMisled {T = FileRef × List ℕ} (Err e) (MisledBy p [] sys_dir)) c.in-Err-File.field-0-is (c.in-Err-File.ensures.misled told there) in
    let on_disk = subst (λ (e : DirError). dirs.IfMisled {T = FileRef × List ℕ} (Err e) (λ place at wanted found. IsOnDisk place)) c.in-Err-File.field-0-is (c.in-Err-File.ensures.on_disk told rooted) in
    let cause = subst (λ (e : DirError). IsCause (g.D.Tape.tape c.args.disk.now) (g.D.Tape.tape c.lookup.new.disk) (cause_of other never never e)) c.in-Err-File.field-0-is c.in-Err-File.ensures.cause in
    refused_by p (g.D.Tape.tape c.args.disk.now) (g.D.Tape.tape c.lookup.new.disk) c.in-Err-File.fault c.root_error.result c.root_error.ensures cause misled on_disk

pub returns-then-eq-clause-found : goal.returns-then-eq-clause-found
returns-then-eq-clause-found g c = λ told there.
    descriptor_may_open (pack (g.D.Tape.tape c.args.disk.now)) c.descriptor_name.result c.descriptor_name.ensures (c.in-Ok.file, c.in-Ok.field-0-1) there (c.in-Ok.ensures.found told there)
    (sym (fid_by_words c.in-Ok.file.fid) ∙ sym c.eq.ensures ∙ c.if-eq.true)

pub returns-then-eq-clause-is : goal.returns-then-eq-clause-is
returns-then-eq-clause-is g c = λ told there.
    descriptor_met (pack (g.D.Tape.tape c.args.disk.now)) c.descriptor_name.result c.descriptor_name.ensures (c.in-Ok.file, c.in-Ok.field-0-1) (c.in-Ok.ensures.found told there)
    ∙ sym (fid_by_words c.in-Ok.file.fid) ∙ sym c.eq.ensures ∙ c.if-eq.true

pub returns-else-eq-clause-refused : goal.returns-else-eq-clause-refused
returns-else-eq-clause-refused g c = λ told there root.
    descriptor_met (pack (g.D.Tape.tape c.args.disk.now)) c.descriptor_name.result c.descriptor_name.ensures (c.in-Ok.file, c.in-Ok.field-0-1) (c.in-Ok.ensures.found told there)
    ∙ sym (fid_by_words c.in-Ok.file.fid) ∙ sym c.eq.ensures ∙ c.if-eq.false

pub returns-in-Err-NoSuchName-clause-refused : goal.returns-in-Err-NoSuchName-clause-refused
returns-in-Err-NoSuchName-clause-refused g c = λ told there root.
    descriptor_absent (pack (g.D.Tape.tape c.args.disk.now)) c.descriptor_name.result c.descriptor_name.ensures (c.in-Err-NoSuchName.ensures.absent told there (ap Err c.in-Err-NoSuchName.field-0-is))

pub returns-then-eq-clause-refused : goal.returns-then-eq-clause-refused
returns-then-eq-clause-refused g c = λ told there root. tt

pub returns-then-eq-clause-cause : goal.returns-then-eq-clause-cause
returns-then-eq-clause-cause g c = c.in-Ok.ensures.cause

pub returns-then-eq-clause-looks : goal.returns-then-eq-clause-looks
returns-then-eq-clause-looks g c = c.in-Ok.ensures.looks

pub returns-then-eq-clause-table : goal.returns-then-eq-clause-table
returns-then-eq-clause-table g c = c.in-Ok.ensures.table

pub returns-else-eq-clause-found : goal.returns-else-eq-clause-found
returns-else-eq-clause-found g c = λ told there. tt

pub returns-else-eq-clause-is : goal.returns-else-eq-clause-is
returns-else-eq-clause-is g c = λ told there. tt

pub returns-else-eq-clause-cause : goal.returns-else-eq-clause-cause
returns-else-eq-clause-cause g c = c.in-Ok.ensures.cause

pub returns-else-eq-clause-looks : goal.returns-else-eq-clause-looks
returns-else-eq-clause-looks g c = c.in-Ok.ensures.looks

pub returns-else-eq-clause-table : goal.returns-else-eq-clause-table
returns-else-eq-clause-table g c = c.in-Ok.ensures.table

pub returns-in-Err-NoSuchName-clause-found : goal.returns-in-Err-NoSuchName-clause-found
returns-in-Err-NoSuchName-clause-found g c = λ told there. tt

pub returns-in-Err-NoSuchName-clause-is : goal.returns-in-Err-NoSuchName-clause-is
returns-in-Err-NoSuchName-clause-is g c = λ told there. tt

pub returns-in-Err-NoSuchName-clause-cause : goal.returns-in-Err-NoSuchName-clause-cause
returns-in-Err-NoSuchName-clause-cause g c = subst (λ (e : DirError). IsCause (g.D.Tape.tape c.args.disk.now) (g.D.Tape.tape c.lookup.new.disk) (cause_of other never never e)) c.in-Err-NoSuchName.field-0-is c.in-Err-NoSuchName.ensures.cause

pub returns-in-Err-NoSuchName-clause-looks : goal.returns-in-Err-NoSuchName-clause-looks
returns-in-Err-NoSuchName-clause-looks g c = c.in-Err-NoSuchName.ensures.looks

pub returns-in-Err-NoSuchName-clause-table : goal.returns-in-Err-NoSuchName-clause-table
returns-in-Err-NoSuchName-clause-table g c = c.in-Err-NoSuchName.ensures.table

pub returns-in-Err-NameTaken-clause-found : goal.returns-in-Err-NameTaken-clause-found
returns-in-Err-NameTaken-clause-found g c = λ told there. tt

pub returns-in-Err-NameTaken-clause-is : goal.returns-in-Err-NameTaken-clause-is
returns-in-Err-NameTaken-clause-is g c = λ told there. tt

pub returns-in-Err-NameTaken-clause-cause : goal.returns-in-Err-NameTaken-clause-cause
returns-in-Err-NameTaken-clause-cause g c = absurd (subst (λ (e : DirError). IsCause (g.D.Tape.tape c.args.disk.now) (g.D.Tape.tape c.lookup.new.disk) (cause_of other never never e)) c.in-Err-NameTaken.field-0-is c.in-Err-NameTaken.ensures.cause)

pub returns-in-Err-NameTaken-clause-looks : goal.returns-in-Err-NameTaken-clause-looks
returns-in-Err-NameTaken-clause-looks g c = c.in-Err-NameTaken.ensures.looks

pub returns-in-Err-NameTaken-clause-table : goal.returns-in-Err-NameTaken-clause-table
returns-in-Err-NameTaken-clause-table g c = c.in-Err-NameTaken.ensures.table

pub returns-in-Err-NoSlot-clause-found : goal.returns-in-Err-NoSlot-clause-found
returns-in-Err-NoSlot-clause-found g c = λ told there. tt

pub returns-in-Err-NoSlot-clause-is : goal.returns-in-Err-NoSlot-clause-is
returns-in-Err-NoSlot-clause-is g c = λ told there. tt

pub returns-in-Err-NoSlot-clause-cause : goal.returns-in-Err-NoSlot-clause-cause
returns-in-Err-NoSlot-clause-cause g c = absurd (subst (λ (e : DirError). IsCause (g.D.Tape.tape c.args.disk.now) (g.D.Tape.tape c.lookup.new.disk) (cause_of other never never e)) c.in-Err-NoSlot.field-0-is c.in-Err-NoSlot.ensures.cause)

pub returns-in-Err-NoSlot-clause-looks : goal.returns-in-Err-NoSlot-clause-looks
returns-in-Err-NoSlot-clause-looks g c = c.in-Err-NoSlot.ensures.looks

pub returns-in-Err-NoSlot-clause-table : goal.returns-in-Err-NoSlot-clause-table
returns-in-Err-NoSlot-clause-table g c = c.in-Err-NoSlot.ensures.table

pub returns-in-Err-File-clause-found : goal.returns-in-Err-File-clause-found
returns-in-Err-File-clause-found g c = λ told there. tt

pub returns-in-Err-File-clause-is : goal.returns-in-Err-File-clause-is
returns-in-Err-File-clause-is g c = λ told there. tt

pub returns-in-Err-File-clause-looks : goal.returns-in-Err-File-clause-looks
returns-in-Err-File-clause-looks g c = c.in-Err-File.ensures.looks

pub returns-in-Err-File-clause-table : goal.returns-in-Err-File-clause-table
returns-in-Err-File-clause-table g c = c.in-Err-File.ensures.table
