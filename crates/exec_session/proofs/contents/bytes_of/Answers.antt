use Rattle.std.proofs.Common.{◌≡◌, ◌+◌, ◌*◌, arith, refl, subst, sym, [], ℕ, ◌≤◌, ◌∙◌}
use Rattle.disk_records.proofs.Looking.{looks_pack}
use Rattle.disk_records.specs.Tapes.{pack}
use Rattle.pack_model.specs.reading.Files.{file_bytes}
use Rattle.pack_model.specs.reading.Sights.{sights}
use Rattle.pack_model.specs.states.Whole.{Whole}
use Rattle.exec_session.specs.Contents.{IsNextPart}
use Rattle.exec_session.proofs.Looking.{looks_about_twice, quick_stays, looks_about_within}
use Rattle.exec_session.proofs.Parts.{few_end, few_more, ok_of_error, parts_end, parts_more, too_many_parts}
use Rattle.exec_session.proofs.Causing.{cause_after}
use Rattle.exec_session.proofs.Stopping.{hint_of_stop, refused_of_stop}
use Rattle.page_seeking.specs.Refs.{FileIsFrom, MisledBy}
use Rattle.page_seeking.specs.Seeking.{file_length}
use Rattle.exec_session.proofs.contents.bytes_of.Goals as goal

pub returns-in_err-count-clause-looks : goal.returns-in_err-count-clause-looks
returns-in_err-count-clause-looks g c = looks_about_twice (8192 * 65588) (omega arith) c.loop-k.invariant.looks c.append_part.ensures.looks

pub returns-in_err-count-clause-read : goal.returns-in_err-count-clause-read
returns-in_err-count-clause-read g c = λ told sound. ok_of_error _ _ c.from_residual.result c.from_residual.ensures.1

pub returns-in_err-count-clause-most : goal.returns-in_err-count-clause-most
returns-in_err-count-clause-most g c = ok_of_error _ _ c.from_residual.result c.from_residual.ensures.1

pub returns-then-count-lt-PART-clause-read : goal.returns-then-count-lt-PART-clause-read
returns-then-count-lt-PART-clause-read g c = λ told sound.
    let old = g.D.Tape.tape c.args.disk.now in
    let f = c.args.file.now.fid in
    let same = looks_pack c.loop-k.invariant.looks.looks told in
    let next = c.in_ok-count.ensures.read told (subst Whole (sym same) sound.whole) in
    let mine = subst (λ p. IsNextPart (file_bytes (sights p) f) (c.loop-k.k * 4096) c.loop-k.bytes.items c.append_part.new.bytes.items c.in_ok-count.count) same next in
    parts_end (file_bytes (sights (pack old)) f) c.loop-k.k c.in_ok-count.count c.loop-k.bytes.items c.append_part.new.bytes.items (c.loop-k.invariant.read told sound.whole) mine c.if-count-lt-PART.true

pub returns-then-count-lt-PART-clause-looks : goal.returns-then-count-lt-PART-clause-looks
returns-then-count-lt-PART-clause-looks g c = looks_about_twice (8192 * 65588) (omega arith) c.loop-k.invariant.looks c.append_part.ensures.looks

pub returns-then-count-lt-PART-clause-quick : goal.returns-then-count-lt-PART-clause-quick
returns-then-count-lt-PART-clause-quick g c = λ told quick.
    let old = g.D.Tape.tape c.args.disk.now in
    let f = c.args.file.now.fid in
    let about = c.loop-k.invariant.looks in
    let same = looks_pack about.looks told in
    let next = c.in_ok-count.ensures.read told (subst Whole (sym same) quick.whole) in
    let mine = subst (λ p. IsNextPart (file_bytes (sights p) f) (c.loop-k.k * 4096) c.loop-k.bytes.items c.append_part.new.bytes.items c.in_ok-count.count) same next in
    few_end g.D.Tape.told f c.loop-k.k c.in_ok-count.count old (g.D.Tape.tape c.loop-k.disk) (g.D.Tape.tape c.append_part.new.disk)
    c.args.session.now.hints.cache c.loop-k.session.hints.cache c.append_part.new.session.hints.cache (c.loop-k.invariant.few told quick) same
    (λ none. c.in_ok-count.ensures.quick told (quick_stays f about told quick))
    (file_bytes (sights (pack old)) f) c.loop-k.bytes.items c.append_part.new.bytes.items refl mine c.if-count-lt-PART.true c.append_part.ensures.looks.looked.refused
    (c.in_ok-count.ensures.soon told)

pub loop-k-preserved : goal.loop-k-preserved
loop-k-preserved g c =
    let old = g.D.Tape.tape c.args.disk.now in
    let f = c.args.file.now.fid in
    let about = c.loop-k.invariant.looks in
    let many = c.in_ok-count.ensures.many in
    let sized = c.loop-k.invariant.sized in
    let whole : c.in_ok-count.count ≡ 4096 = omega (arith, many.0) in
    record {
      sized = omega (arith, many.1, sized, whole);
      looks = looks_about_twice ((c.loop-k.k + 1) * 65588) (omega arith) about c.append_part.ensures.looks;
      unfailed = c.in_ok-count.ensures.cause ∙ c.loop-k.invariant.unfailed;
      read = λ told w.
          let same = looks_pack about.looks told in
          let next = c.in_ok-count.ensures.read told (subst Whole (sym same) w) in
          let mine = subst (λ p. IsNextPart (file_bytes (sights p) f) (c.loop-k.k * 4096) c.loop-k.bytes.items c.append_part.new.bytes.items c.in_ok-count.count) same next in
          parts_more (file_bytes (sights (pack old)) f) c.loop-k.k c.in_ok-count.count c.loop-k.bytes.items c.append_part.new.bytes.items (c.loop-k.invariant.read told w) mine whole;
      few = λ told quick.
          let same = looks_pack about.looks told in
          let there = quick_stays f about told quick in
          few_more g.D.Tape.told f c.loop-k.k c.in_ok-count.count old (g.D.Tape.tape c.loop-k.disk) (g.D.Tape.tape c.append_part.new.disk)
          c.args.session.now.hints.cache c.loop-k.session.hints.cache c.append_part.new.session.hints.cache (c.loop-k.invariant.few told quick) same
          (λ none. c.in_ok-count.ensures.quick told there)
          about.looked.refused c.append_part.ensures.looks.looked.refused (c.in_ok-count.ensures.filled told) (c.in_ok-count.ensures.next told there.whole there.links) whole;
    }

pub returns-clause-read : goal.returns-clause-read
returns-clause-read g c = λ told sound.
    let p = pack (g.D.Tape.tape c.args.disk.now) in
    let f = c.args.file.now.fid in
    absurd (too_many_parts p f c.loop-k.k (file_bytes (sights p) f) c.loop-k.bytes.items sound.whole refl c.loop-k-test.false (c.loop-k.invariant.read told sound.whole))

pub returns-in_err-count-clause-quick : goal.returns-in_err-count-clause-quick
returns-in_err-count-clause-quick g c = λ told quick. ok_of_error _ _ c.from_residual.result c.from_residual.ensures.1

pub returns-in_err-count-clause-cause : goal.returns-in_err-count-clause-cause
returns-in_err-count-clause-cause g c = cause_after (g.D.Tape.tape c.args.disk.now) (g.D.Tape.tape c.loop-k.disk) (g.D.Tape.tape c.append_part.new.disk) c.in_err-count.field-0.0 c.from_residual.result c.from_residual.ensures.1 c.loop-k.invariant.unfailed c.in_err-count.ensures.cause

pub returns-in_err-count-clause-unrefused : goal.returns-in_err-count-clause-unrefused
returns-in_err-count-clause-unrefused g c = λ told sound.
    let same = looks_pack c.loop-k.invariant.looks.looks told in
    refused_of_stop ℕ (λ r. ⊥) (λ r. ⊥) c.in_err-count.field-0.0 c.from_residual.result c.from_residual.ensures.1 (λ r none. none)
    (c.in_err-count.ensures.unrefused told (subst Whole (sym same) sound.whole) (subst (λ p. c.loop-k.k * 4096 ≤ file_length p c.args.file.now.fid) (sym same) (c.loop-k.invariant.read told sound.whole).there))

pub returns-in_err-count-clause-misled : goal.returns-in_err-count-clause-misled
returns-in_err-count-clause-misled g c = λ told sound from.
    let same = looks_pack c.loop-k.invariant.looks.looks told in
    hint_of_stop ℕ (MisledBy (pack (g.D.Tape.tape c.loop-k.disk)) [] c.args.file.now.fid) (MisledBy (pack (g.D.Tape.tape c.args.disk.now)) [] c.args.file.now.fid) c.in_err-count.field-0.0 c.from_residual.result c.from_residual.ensures.1
    (λ place at wanted found h. subst (λ p. MisledBy p [] c.args.file.now.fid place at wanted found) same h)
    (c.in_err-count.ensures.misled told (subst (λ p. FileIsFrom p c.args.file.now) (sym same) from))

pub returns-then-count-lt-PART-clause-most : goal.returns-then-count-lt-PART-clause-most
returns-then-count-lt-PART-clause-most g c =
    let many = c.in_ok-count.ensures.many in
    let sized = c.loop-k.invariant.sized in
    let more = c.loop-k-test.true in
    omega (arith, many.0, many.1, sized, more)

pub returns-then-count-lt-PART-clause-unrefused : goal.returns-then-count-lt-PART-clause-unrefused
returns-then-count-lt-PART-clause-unrefused g c = λ told sound. tt

pub returns-then-count-lt-PART-clause-misled : goal.returns-then-count-lt-PART-clause-misled
returns-then-count-lt-PART-clause-misled g c = λ told sound from. tt

pub returns-then-count-lt-PART-clause-cause : goal.returns-then-count-lt-PART-clause-cause
returns-then-count-lt-PART-clause-cause g c = c.in_ok-count.ensures.cause ∙ c.loop-k.invariant.unfailed

pub returns-clause-most : goal.returns-clause-most
returns-clause-most g c = let sized = c.loop-k.invariant.sized in omega (arith, sized)

pub returns-clause-unrefused : goal.returns-clause-unrefused
returns-clause-unrefused g c = λ told sound. tt

pub returns-clause-misled : goal.returns-clause-misled
returns-clause-misled g c = λ told sound from. tt

pub returns-clause-cause : goal.returns-clause-cause
returns-clause-cause g c = c.loop-k.invariant.unfailed

pub returns-clause-looks : goal.returns-clause-looks
returns-clause-looks g c = looks_about_within (8192 * 65588) (omega arith) c.loop-k.invariant.looks

pub returns-clause-quick : goal.returns-clause-quick
returns-clause-quick g c = λ told quick.
    let p = pack (g.D.Tape.tape c.args.disk.now) in
    let f = c.args.file.now.fid in
    absurd (too_many_parts p f c.loop-k.k (file_bytes (sights p) f) c.loop-k.bytes.items quick.whole refl c.loop-k-test.false (c.loop-k.invariant.read told quick.whole))
