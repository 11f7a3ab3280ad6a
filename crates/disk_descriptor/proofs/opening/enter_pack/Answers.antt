use Rattle.std.proofs.Common.{◌≡◌, ◌∙◌, Err, [], ap, arith, subst, sym}
use Rattle.alto_words.specs.declared.fid.Fid.{Fid}
use Rattle.alto_words.specs.Fid.{disk_descriptor, sys_dir}
use Rattle.disk_records.specs.Packs.{Pack}
use Rattle.disk_records.specs.Tapes.{pack}
use Rattle.disk_records.specs.declared.records.Place.TheVariants.{Root}
use Rattle.pack_model.specs.hints.Misled.{IsOnDisk}
use Rattle.pack_model.specs.hints.Sources.{IsFrom}
use Rattle.page_seeking.proofs.Once.{once_of_whole}
use Rattle.page_seeking.specs.Refs.{FileIsRooted, FileStands, MisledBy}
use Rattle.page_seeking.specs.declared.refs.FileRef.{FileRef}
use Rattle.disk_descriptor.specs.Opening.{HasBadWord, HasWrongLength, IsUnclean, MayBeOpened}
use Rattle.disk_descriptor.specs.Reading.{IsRead}
use Rattle.disk_descriptor.specs.declared.descriptor.Descriptor.{Descriptor}
use Rattle.disk_descriptor.specs.declared.errors.OpenError.TheVariants.{Memory}
use Rattle.disk_descriptor.proofs.Entered.{entered}
use Rattle.disk_descriptor.proofs.OpenErrors.{open_bad, open_caused, open_length, open_mark, open_misled, open_ok, open_want}
use Rattle.disk_descriptor.proofs.opening.enter_pack.Goals as goal

-- ---- DiskDescriptor was read
pub returns-in-Ok-clause-opened : goal.returns-in-Ok-clause-opened
returns-in-Ok-clause-opened g c = λ told may.
    let p = pack (g.D.Tape.tape c.args.disk.now) in
    c.keep_read.ensures.opened p (subst (λ (f : Fid). IsRead p f c.read_file.new.words c.read_file.new.pages c.in-Ok.size) may.is_descriptor (c.in-Ok.ensures.read told may.once)) (sym c.shape-shape.ensures)

pub returns-in-Ok-clause-clean_page : goal.returns-in-Ok-clause-clean_page
returns-in-Ok-clause-clean_page g c = λ told. c.keep_read.ensures.clean_page (pack (g.D.Tape.tape c.args.disk.now)) c.args.entry.now.fid (c.in-Ok.ensures.first_page told) (sym c.shape-shape.ensures)

pub returns-in-Ok-clause-wrong_length : goal.returns-in-Ok-clause-wrong_length
returns-in-Ok-clause-wrong_length g c = λ told may.
    let p = pack (g.D.Tape.tape c.args.disk.now) in
    c.keep_read.ensures.wrong_length p (subst (λ (f : Fid). IsRead p f c.read_file.new.words c.read_file.new.pages c.in-Ok.size) may.is_descriptor (c.in-Ok.ensures.read told may.once)) (sym c.shape-shape.ensures)

pub returns-in-Ok-clause-bad_word : goal.returns-in-Ok-clause-bad_word
returns-in-Ok-clause-bad_word g c = λ told may.
    let p = pack (g.D.Tape.tape c.args.disk.now) in
    c.keep_read.ensures.bad_word p (subst (λ (f : Fid). IsRead p f c.read_file.new.words c.read_file.new.pages c.in-Ok.size) may.is_descriptor (c.in-Ok.ensures.read told may.once)) (sym c.shape-shape.ensures)

pub returns-in-Ok-clause-not_clean : goal.returns-in-Ok-clause-not_clean
returns-in-Ok-clause-not_clean g c = λ told may.
    let p = pack (g.D.Tape.tape c.args.disk.now) in
    c.keep_read.ensures.not_clean p (subst (λ (f : Fid). IsRead p f c.read_file.new.words c.read_file.new.pages c.in-Ok.size) may.is_descriptor (c.in-Ok.ensures.read told may.once)) (sym c.shape-shape.ensures)

pub returns-in-Ok-clause-misled : goal.returns-in-Ok-clause-misled
returns-in-Ok-clause-misled g c = λ told may. open_misled c.keep_read.result (MisledBy (pack (g.D.Tape.tape c.args.disk.now)) [] c.args.entry.now.fid) c.keep_read.ensures.misled

pub returns-in-Ok-clause-on_disk : goal.returns-in-Ok-clause-on_disk
returns-in-Ok-clause-on_disk g c = λ told may. open_misled c.keep_read.result (λ place at wanted found. IsOnDisk place) c.keep_read.ensures.misled

pub returns-in-Ok-clause-cause : goal.returns-in-Ok-clause-cause
returns-in-Ok-clause-cause g c = c.keep_read.ensures.cause (g.D.Tape.tape c.args.disk.now) (g.D.Tape.tape c.read_file.new.disk) c.in-Ok.ensures.cause

-- ---- it wasn't
pub returns-in-Err-clause-wrong_length : goal.returns-in-Err-clause-wrong_length
returns-in-Err-clause-wrong_length g c = λ told may. open_length Descriptor (HasWrongLength (pack (g.D.Tape.tape c.args.disk.now))) c.in-Err.error c.open_error.result c.open_error.ensures (c.in-Err.ensures.beyond told may.once)

pub returns-in-Err-clause-bad_word : goal.returns-in-Err-clause-bad_word
returns-in-Err-clause-bad_word g c = λ told may. open_bad Descriptor (HasBadWord (pack (g.D.Tape.tape c.args.disk.now))) c.in-Err.error c.open_error.result c.open_error.ensures

pub returns-in-Err-clause-not_clean : goal.returns-in-Err-clause-not_clean
returns-in-Err-clause-not_clean g c = λ told may. open_mark Descriptor (IsUnclean (pack (g.D.Tape.tape c.args.disk.now))) c.in-Err.error c.open_error.result c.open_error.ensures

pub returns-in-Err-clause-misled : goal.returns-in-Err-clause-misled
returns-in-Err-clause-misled g c = λ told may. open_ok Descriptor (MisledBy (pack (g.D.Tape.tape c.args.disk.now)) [] c.args.entry.now.fid) c.in-Err.error c.open_error.result c.open_error.ensures (c.in-Err.ensures.misled told may.from)

-- its address isn't taken from the root: DiskDescriptor isn't SysDir, whose number is another one
rooted : (p : Pack) (entry : FileRef) → MayBeOpened p entry → FileIsRooted p entry
rooted p entry may = record {
  from = may.from;
  root = λ is.
      let at_root : IsFrom p entry.fid entry.leader_at Root = subst (IsFrom p entry.fid entry.leader_at) is may.from in
      let low : disk_descriptor.low ≡ sys_dir.low = ap (λ (x : Fid). x.low) (sym may.is_descriptor ∙ at_root.1) in
      absurd (omega (arith, low));
}

pub returns-in-Err-clause-on_disk : goal.returns-in-Err-clause-on_disk
returns-in-Err-clause-on_disk g c = λ told may.
    open_ok Descriptor (λ place at wanted found. IsOnDisk place) c.in-Err.error c.open_error.result c.open_error.ensures (c.in-Err.ensures.on_disk told (rooted (pack (g.D.Tape.tape c.args.disk.now)) c.args.entry.now may))

pub returns-in-Err-clause-cause : goal.returns-in-Err-clause-cause
returns-in-Err-clause-cause g c = open_caused (g.D.Tape.tape c.args.disk.now) (g.D.Tape.tape c.read_file.new.disk) c.in-Err.error c.open_error.result c.open_error.ensures c.in-Err.ensures.cause

pub returns-in-Err-clause-want : goal.returns-in-Err-clause-want
returns-in-Err-clause-want g c = λ told memory.
    let is : c.open_error.result ≡ Memory = cc memory in
    c.in-Err.ensures.want told (ap Err (open_want c.in-Err.error c.open_error.result c.open_error.ensures is))

-- ---- on a whole and tidy pack with true links
opens_here : (p : Pack) (entry : FileRef) → FileStands p entry → entry.fid ≡ disk_descriptor → MayBeOpened p entry
opens_here p entry stands is = record { once = once_of_whole p stands.whole; from = stands.from; is_descriptor = is }

pub returns-in-Ok-clause-true_links : goal.returns-in-Ok-clause-true_links
returns-in-Ok-clause-true_links g c = λ told stands is links.
    let p = pack (g.D.Tape.tape c.args.disk.now) in
    let may = opens_here p c.args.entry.now stands is in
    entered {T = Descriptor} p c.args.entry.now.fid c.args.entry.now (g.D.Tape.tape c.args.disk.now) (g.D.Tape.tape c.read_file.new.disk) (g.met.D.Disk.formed c.args.disk.now told) stands links c.keep_read.result
    (returns-in-Ok-clause-wrong_length g c told may) (returns-in-Ok-clause-bad_word g c told may) (returns-in-Ok-clause-misled g c told may) (returns-in-Ok-clause-cause g c)

pub returns-in-Err-clause-true_links : goal.returns-in-Err-clause-true_links
returns-in-Err-clause-true_links g c = λ told stands is links.
    let p = pack (g.D.Tape.tape c.args.disk.now) in
    let may = opens_here p c.args.entry.now stands is in
    entered {T = Descriptor} p c.args.entry.now.fid c.args.entry.now (g.D.Tape.tape c.args.disk.now) (g.D.Tape.tape c.read_file.new.disk) (g.met.D.Disk.formed c.args.disk.now told) stands links (Err c.open_error.result)
    (returns-in-Err-clause-wrong_length g c told may) (returns-in-Err-clause-bad_word g c told may) (returns-in-Err-clause-misled g c told may) (returns-in-Err-clause-cause g c)
