use Rattle.std.proofs.Common.{◌≡◌, ◌≢◌, ◌*◌, ◌%◌, ◌<◌, None, Some, ap, inl, refl, ◌∙◌, sym, subst, arith}
use Rattle.disk_records.specs.Addresses.{pages_of}
use Rattle.disk_records.specs.Commands.{relabel_writes}
use Rattle.disk_records.specs.Labels.{tag}
use Rattle.disk_records.specs.Packs.{after, carried, sector_at}
use Rattle.disk_records.specs.Tapes.{pack}
use Rattle.disk_records.proofs.Framing.{usable_looks, usable_twice}
use Rattle.disk_records.proofs.Growing.{alone_here, alone_twice}
use Rattle.disk_records.proofs.Looking.{looks_pack}
use Rattle.disk_records.specs.Packs.{Pack}
use Rattle.label_check.proofs.Framing.{usable_relabel}
use Rattle.laws_mend.specs.Parts.{Cleared}
use Rattle.scav_pages.specs.declared.directory.Directory.{Directory}
use Rattle.scav_pages.specs.Parts.{DirectoryEnds, RelabelsHand}
use Rattle.scav_pages.specs.Walks.{file_in_hand}
use Rattle.scav_pages.proofs.Causing.{cause_of_guarded}
use Rattle.scav_pages.proofs.Cutting.{carried_here, cut_ends, cut_mends, dead_alone, file_alone, made_names, no_word, number_low, placed_here, relabels_hand, whole_alone, word_of}
use Rattle.scav_pages.proofs.Doing.{does_ok, does_stop_two, going_done, going_here, going_looks, pack_done}
use Rattle.scav_pages.proofs.Keeping.{Mends, mends_nothing}
use Rattle.scav_pages.proofs.Stopping.{no_ok}
use Rattle.scav_pages.proofs.directories.cut_directory.Goals as goal
use Rattle.scav_pages.proofs.directories.cut_directory.Goals.{then-not-lives-via-then-not-lives, then-not-lives-via-else-not-lives+then-not-is_directory, then-not-lives-via-else-not-lives+else-not-is_directory+then-end-length, then-dir-lt1-via-then-dir-lt1, then-dir-lt1-via-else-dir-lt1+then-dir-pages}

-- before the first row there is no file to cut
none_alone : (p : Pack) (dir : Directory) → Cleared p → file_in_hand dir.walk ≡ None → DirectoryEnds dir p p tt
none_alone p dir cleared none = record {
  cleared = cleared;
  ends = λ d e living isdir. absurd (let no : None ≡ Some d = sym none ∙ e in cc);
  others = λ f n. refl;
  lives_are = λ f. refl;
  places_are = λ f n. refl;
  frees = record { free = omega arith; available_is = refl };
}

pub returns-in_default-clause-does : goal.returns-in_default-clause-does
returns-in_default-clause-does g c = λ told cleared may.
    let a = g.D.Tape.tape c.args.disk.now in
    does_ok tt (going_here a) (none_alone (pack a) c.args.dir.now cleared (sym c.fid.ensures ∙ c.in_default.is))

pub returns-in_default-clause-wrote : goal.returns-in_default-clause-wrote
returns-in_default-clause-wrote g c = λ told. inl refl

pub returns-then-not-lives-clause-wrote : goal.returns-then-not-lives-clause-wrote
returns-then-not-lives-clause-wrote g c = λ told. inl refl

pub overflow_mul-end : goal.overflow_mul-end
overflow_mul-end g c = let few = c.args.dir.now.few in let low = c.args.dir.now.walk.low in let is = c.place-end.ensures.place in omega (arith, few, low, is)

pub returns-then-not-lives-clause-does : goal.returns-then-not-lives-clause-does
returns-then-not-lives-clause-does g c = λ told cleared may.
    let a = g.D.Tape.tape c.args.disk.now in
    let dir = c.args.dir.now in
    let hand : file_in_hand dir.walk ≡ Some c.in-Some.fid = cc in
    does_ok tt (going_here a) (elim c.then-not-lives.branch [
      | then-not-lives-via-then-not-lives w ↦ dead_alone (pack a) dir c.in-Some.fid cleared hand may (sym c.lives.ensures ∙ w.if-not-lives.true)
      | then-not-lives-via-else-not-lives+then-not-is_directory w ↦ file_alone (pack a) dir c.in-Some.fid cleared hand may (sym w.is_directory.ensures ∙ w.if-not-is_directory.true)
      | then-not-lives-via-else-not-lives+else-not-is_directory+then-end-length w ↦ whole_alone (pack a) dir c.in-Some.fid cleared hand may (let same = w.if-end-length.true in let is = w.length.ensures in let at = c.place-end.ensures.place in omega (arith, same, is, at))
    ])

pub returns-in_default-try_from-clause-does : goal.returns-in_default-try_from-clause-does
returns-in_default-try_from-clause-does g c = λ told cleared may.
    let a = g.D.Tape.tape c.args.disk.now in
    let dir = c.args.dir.now in
    let hand : file_in_hand dir.walk ≡ Some c.in-Some.fid = cc in
    let low = number_low (pack a) dir c.in-Some.fid cleared hand may (sym c.lives.ensures ∙ c.if-not-lives.false) (sym c.is_directory.ensures ∙ c.if-not-is_directory.false) (let other = c.if-end-length.false in let is = c.length.ensures in let at = c.place-end.ensures.place in (λ same. other (omega (arith, same, is, at)))) in
    absurd (no_word c.try_from.result c.try_from.ensures c.in_default-try_from.is (let is = c.page.ensures in omega (arith, is, low)))

pub returns-then-dir-lt1-clause-does : goal.returns-then-dir-lt1-clause-does
returns-then-dir-lt1-clause-does g c = λ told cleared may.
    let a = g.D.Tape.tape c.args.disk.now in
    let dir = c.args.dir.now in
    let hand : file_in_hand dir.walk ≡ Some c.in-Some.fid = cc in
    let placed = placed_here (pack a) dir c.in-Some.fid cleared hand may (sym c.lives.ensures ∙ c.if-not-lives.false) (sym c.is_directory.ensures ∙ c.if-not-is_directory.false) (let other = c.if-end-length.false in let is = c.length.ensures in let at = c.place-end.ensures.place in (λ same. other (omega (arith, same, is, at)))) in
    absurd (elim c.then-dir-lt1.branch [
      | then-dir-lt1-via-then-dir-lt1 w ↦ (let low = w.if-dir-lt1.true in omega (arith, low, placed.0))
      | then-dir-lt1-via-else-dir-lt1+then-dir-pages w ↦ (let high = w.if-dir-pages.true in let is = w.pages.ensures ∙ ap pages_of w.shape.ensures in omega (arith, high, is, placed.1))
    ])

pub returns-in_err-info-clause-does : goal.returns-in_err-info-clause-does
returns-in_err-info-clause-does g c = λ told cleared may.
    let a = g.D.Tape.tape c.args.disk.now in
    let dir = c.args.dir.now in
    let hand : file_in_hand dir.walk ≡ Some c.in-Some.fid = cc in
    let number = word_of c.try_from.result c.try_from.ensures c.in-Ok.is ∙ c.page.ensures in
    does_stop_two c.in_err-info.field-0.0 c.from_residual.result (going_here a) c.in_err-info.ensures.looks.alone.grown
    (carried_here (pack a) dir c.in-Some.fid cleared hand may (sym c.lives.ensures ∙ c.if-not-lives.false) (sym c.is_directory.ensures ∙ c.if-not-is_directory.false) (let other = c.if-end-length.false in let is = c.length.ensures in let at = c.place-end.ensures.place in (λ same. other (omega (arith, same, is, at)))) c.in-Ok.number number)
    (mends_nothing (pack a)) (omega arith) (c.in_err-info.ensures.guarded told) c.from_residual.ensures.1

pub returns-in_err-info-clause-wrote : goal.returns-in_err-info-clause-wrote
returns-in_err-info-clause-wrote g c = λ told. no_ok _ _ c.from_residual.result c.from_residual.ensures.1

pub returns-in_err-info-clause-cause : goal.returns-in_err-info-clause-cause
returns-in_err-info-clause-cause g c = cause_of_guarded c.in_err-info.field-0.0 c.from_residual.result (alone_here _) refl c.in_err-info.ensures.looks.alone c.in_err-info.ensures.cause c.from_residual.ensures.1

pub relabel-requires-clause-place : goal.relabel-requires-clause-place
relabel-requires-clause-place g c = let high = c.if-dir-pages.false in let is = c.pages.ensures ∙ ap pages_of (c.shape.ensures ∙ sym c.in_ok-info.ensures.looks.alone.grown.form) in omega (arith, high, is)

pub relabel-requires-clause-same : goal.relabel-requires-clause-same
relabel-requires-clause-same g c =
    made_names c.read_page.new.buf.label (record { fid = c.in-Some.fid; number = c.in-Ok.number }) (2 * c.place-end.result % c.from.result) 65535 c.in_ok-info.info.previous c.in_ok-info.ensures.page.names c.label_of-label.ensures (let is = c.from.ensures in let low : 2 * c.place-end.result % c.from.result < c.from.result = omega (arith, is) in omega (arith, is, low))

pub returns-in_err-relabel-clause-wrote : goal.returns-in_err-relabel-clause-wrote
returns-in_err-relabel-clause-wrote g c = λ told. no_ok _ _ c.from_residual-in_err-relabel.result c.from_residual-in_err-relabel.ensures.1

pub returns-in_err-relabel-clause-cause : goal.returns-in_err-relabel-clause-cause
returns-in_err-relabel-clause-cause g c = cause_of_guarded c.in_err-relabel.field-0.0 c.from_residual-in_err-relabel.result c.in_ok-info.ensures.looks.alone c.in_ok-info.ensures.cause c.in_err-relabel.ensures.alone c.in_err-relabel.ensures.cause c.from_residual-in_err-relabel.ensures.1

pub returns-in_err-relabel-clause-alone : goal.returns-in_err-relabel-clause-alone
returns-in_err-relabel-clause-alone g c = alone_twice c.in_ok-info.ensures.looks.alone c.in_err-relabel.ensures.alone

pub returns-in_err-relabel-clause-frame : goal.returns-in_err-relabel-clause-frame
returns-in_err-relabel-clause-frame g c = usable_twice c.in_ok-info.ensures.looks.alone c.in_err-relabel.ensures.alone (usable_looks c.in_ok-info.ensures.looks) (usable_relabel c.in_err-relabel.ensures.guarded)

pub returns-clause-alone : goal.returns-clause-alone
returns-clause-alone g c = alone_twice c.in_ok-info.ensures.looks.alone c.in_ok-relabel.ensures.alone

pub returns-clause-frame : goal.returns-clause-frame
returns-clause-frame g c = usable_twice c.in_ok-info.ensures.looks.alone c.in_ok-relabel.ensures.alone (usable_looks c.in_ok-info.ensures.looks) (usable_relabel c.in_ok-relabel.ensures.guarded)

pub returns-clause-wrote : goal.returns-clause-wrote
returns-clause-wrote g c = λ told.
    let a = g.D.Tape.tape c.args.disk.now in
    let b = g.D.Tape.tape c.read_page.new.disk in
    let dir = c.args.dir.now in
    let hand : file_in_hand dir.walk ≡ Some c.in-Some.fid = cc in
    let names = made_names c.read_page.new.buf.label (record { fid = c.in-Some.fid; number = c.in-Ok.number }) (2 * c.place-end.result % c.from.result) 65535 c.in_ok-info.info.previous c.in_ok-info.ensures.page.names c.label_of-label.ensures (let is = c.from.ensures in let low : 2 * c.place-end.result % c.from.result < c.from.result = omega (arith, is) in omega (arith, is, low)) in
    let same = looks_pack c.in_ok-info.ensures.looks told in
    let done = (c.in_ok-relabel.ensures.guarded told).ok in
    subst (λ p. RelabelsHand dir.walk p (pack (g.D.Tape.tape c.relabel.new.disk))) same
    (relabels_hand dir.walk (pack b) (pack (g.D.Tape.tape c.relabel.new.disk)) dir.at (record { fid = c.in-Some.fid; number = c.in-Ok.number }) c.label_of-label.result hand done.held names (pack_done c.in_ok-relabel.ensures.alone.grown done))

pub returns-in_err-relabel-clause-does : goal.returns-in_err-relabel-clause-does
returns-in_err-relabel-clause-does g c = λ told cleared may.
    let a = g.D.Tape.tape c.args.disk.now in
    let b = g.D.Tape.tape c.read_page.new.disk in
    let dir = c.args.dir.now in
    let label = c.label_of-label.result in
    let hand : file_in_hand dir.walk ≡ Some c.in-Some.fid = cc in
    let names = made_names c.read_page.new.buf.label (record { fid = c.in-Some.fid; number = c.in-Ok.number }) (2 * c.place-end.result % c.from.result) 65535 c.in_ok-info.info.previous c.in_ok-info.ensures.page.names c.label_of-label.ensures (let is = c.from.ensures in let low : 2 * c.place-end.result % c.from.result < c.from.result = omega (arith, is) in omega (arith, is, low)) in
    let count : (tag label).bytes ≡ 2 * dir.slots.place % 512 = ap (λ l. (tag l).bytes) c.label_of-label.ensures ∙ (λ i. 2 * c.place-end.ensures.place i % c.from.ensures i) in
    let number = word_of c.try_from.result c.try_from.ensures c.in-Ok.is ∙ c.page.ensures in
    let differs : 2 * dir.slots.place ≢ dir.walk.length = (let other = c.if-end-length.false in let is = c.length.ensures in let at = c.place-end.ensures.place in (λ same. other (omega (arith, same, is, at)))) in
    let same = looks_pack c.in_ok-info.ensures.looks told in
    let living = sym c.lives.ensures ∙ c.if-not-lives.false in
    let isdir = sym c.is_directory.ensures ∙ c.if-not-is_directory.false in
    does_stop_two c.in_err-relabel.field-0.0 c.from_residual-in_err-relabel.result (going_looks (going_here a) c.in_ok-info.ensures.looks told) c.in_err-relabel.ensures.alone.grown
    (subst (λ p. carried p dir.at ≡ Some (record { fid = c.in-Some.fid; number = c.in-Ok.number })) (sym same) (carried_here (pack a) dir c.in-Some.fid cleared hand may living isdir differs c.in-Ok.number number))
    (subst (λ p. Mends p (relabel_writes dir.at label (sector_at p dir.at).value)) (sym same) (cut_mends (pack a) dir c.in-Some.fid cleared hand may living isdir differs label c.in-Ok.number number names count))
    (omega arith) (c.in_err-relabel.ensures.guarded told) c.from_residual-in_err-relabel.ensures.1

pub returns-clause-does : goal.returns-clause-does
returns-clause-does g c = λ told cleared may.
    let a = g.D.Tape.tape c.args.disk.now in
    let b = g.D.Tape.tape c.read_page.new.disk in
    let dir = c.args.dir.now in
    let label = c.label_of-label.result in
    let hand : file_in_hand dir.walk ≡ Some c.in-Some.fid = cc in
    let names = made_names c.read_page.new.buf.label (record { fid = c.in-Some.fid; number = c.in-Ok.number }) (2 * c.place-end.result % c.from.result) 65535 c.in_ok-info.info.previous c.in_ok-info.ensures.page.names c.label_of-label.ensures (let is = c.from.ensures in let low : 2 * c.place-end.result % c.from.result < c.from.result = omega (arith, is) in omega (arith, is, low)) in
    let count : (tag label).bytes ≡ 2 * dir.slots.place % 512 = ap (λ l. (tag l).bytes) c.label_of-label.ensures ∙ (λ i. 2 * c.place-end.ensures.place i % c.from.ensures i) in
    let number = word_of c.try_from.result c.try_from.ensures c.in-Ok.is ∙ c.page.ensures in
    let differs : 2 * dir.slots.place ≢ dir.walk.length = (let other = c.if-end-length.false in let is = c.length.ensures in let at = c.place-end.ensures.place in (λ same. other (omega (arith, same, is, at)))) in
    let same = looks_pack c.in_ok-info.ensures.looks told in
    let living = sym c.lives.ensures ∙ c.if-not-lives.false in
    let isdir = sym c.is_directory.ensures ∙ c.if-not-is_directory.false in
    let grown = c.in_ok-relabel.ensures.alone.grown in
    let done = (c.in_ok-relabel.ensures.guarded told).ok in
    does_ok tt
    (going_done (going_looks (going_here a) c.in_ok-info.ensures.looks told) grown
    (subst (λ p. Mends p (relabel_writes dir.at label (sector_at p dir.at).value)) (sym same) (cut_mends (pack a) dir c.in-Some.fid cleared hand may living isdir differs label c.in-Ok.number number names count)) done)
    (cut_ends (pack a) dir c.in-Some.fid cleared hand may living isdir differs label c.in-Ok.number number names count (pack (g.D.Tape.tape c.relabel.new.disk))
    (pack_done grown done ∙ ap (λ p. after p (relabel_writes dir.at label (sector_at p dir.at).value)) same))

pub returns-in_err-info-clause-frame : goal.returns-in_err-info-clause-frame
returns-in_err-info-clause-frame g c = usable_looks c.in_err-info.ensures.looks
