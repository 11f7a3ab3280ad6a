use Rattle.std.proofs.Common.{◌≡◌, ◌≤◌, ◌+◌, ◌-◌, ◌++◌, ◌∙◌, arith, drop, length, rules, sym, take, [], ℕ, refl}
use Rattle.std.specs.Prelude.{vec_len}
use borrow.Rule.Slice.PartMut.{post_of}
use Rattle.pack_model.specs.reading.Files.{file_bytes}
use Rattle.pack_model.specs.reading.Sights.{sights}
use Rattle.alto_words.specs.declared.fid.Fid.{Fid}
use Rattle.disk_records.specs.Packs.{Pack}
use Rattle.page_seeking.specs.Seeking.{file_length}
use Rattle.exec_session.proofs.Parts.{grown_by_part, next_part, ok_of_error, part_in_place, part_many, part_sized}
use Rattle.exec_session.proofs.Causing.{cause_by_file, cause_passed}
use Rattle.exec_session.proofs.Looking.{hints_looked, looks_about_none}
use Rattle.exec_session.specs.Stops.{stop_of_file}
use Rattle.exec_session.specs.declared.stop.Stop.TheVariants.{Memory}
use Rattle.exec_session.proofs.Stopping.{hint_of_file, hint_of_stop, refused_of_stop, unrefused_within}
use Rattle.page_seeking.specs.Refs.{MisledBy}
use Rattle.disk_records.specs.Tapes.{pack}
use Rattle.page_seeking.specs.Parts.{IsPast}
use Rattle.exec_session.proofs.contents.append_part.Goals as goal

past_none : {p : Pack} {f : Fid} {offset n : ℕ} → offset ≤ file_length p f → IsPast p f offset n → ⊥
past_none within past =
    let is = past.is in
    let less = past.past in
    omega (arith, within, is, less)

-- ---- no memory is left for its bytes
pub returns-in_err-resize-clause-read : goal.returns-in_err-resize-clause-read
returns-in_err-resize-clause-read g c = λ told whole. ok_of_error _ _ c.from_residual.result c.from_residual.ensures.1

pub returns-in_err-resize-clause-many : goal.returns-in_err-resize-clause-many
returns-in_err-resize-clause-many g c = ok_of_error _ _ c.from_residual.result c.from_residual.ensures.1

pub returns-in_err-resize-clause-unrefused : goal.returns-in_err-resize-clause-unrefused
returns-in_err-resize-clause-unrefused g c = λ told whole within. refused_of_stop (Unit {0}) (λ r. ⊥) (λ r. ⊥) Memory c.from_residual.result c.from_residual.ensures.1 (λ r none. none) tt

pub returns-in_err-resize-clause-misled : goal.returns-in_err-resize-clause-misled
returns-in_err-resize-clause-misled g c = λ told from. hint_of_stop (Unit {0}) (MisledBy (pack (g.D.Tape.tape c.args.disk.now)) [] c.args.file.now.fid) (MisledBy (pack (g.D.Tape.tape c.args.disk.now)) [] c.args.file.now.fid) Memory c.from_residual.result c.from_residual.ensures.1 (λ place at wanted found h. h) tt

pub returns-in_err-resize-clause-cause : goal.returns-in_err-resize-clause-cause
returns-in_err-resize-clause-cause g c = cause_passed (g.D.Tape.tape c.args.disk.now) (g.D.Tape.tape c.args.disk.now) Memory c.from_residual.result c.from_residual.ensures.1 refl

pub returns-in_err-resize-clause-looks : goal.returns-in_err-resize-clause-looks
returns-in_err-resize-clause-looks g c = looks_about_none 65588 (g.D.Tape.tape c.args.disk.now) c.args.session.now

pub returns-in_err-resize-clause-quick : goal.returns-in_err-resize-clause-quick
returns-in_err-resize-clause-quick g c = λ told quick. ok_of_error _ _ c.from_residual.result c.from_residual.ensures.1

pub returns-in_err-resize-clause-soon : goal.returns-in_err-resize-clause-soon
returns-in_err-resize-clause-soon g c = λ told noted. ok_of_error _ _ c.from_residual.result c.from_residual.ensures.1

pub returns-in_err-resize-clause-filled : goal.returns-in_err-resize-clause-filled
returns-in_err-resize-clause-filled g c = λ told noted. ok_of_error _ _ c.from_residual.result c.from_residual.ensures.1

pub returns-in_err-resize-clause-next : goal.returns-in_err-resize-clause-next
returns-in_err-resize-clause-next g c = λ told whole links. ok_of_error _ _ c.from_residual.result c.from_residual.ensures.1

-- ---- the part isn't read
pub returns-in_err-count-clause-read : goal.returns-in_err-count-clause-read
returns-in_err-count-clause-read g c = λ told whole. ok_of_error _ _ c.from_residual-in_err-count.result c.from_residual-in_err-count.ensures.1

pub returns-in_err-count-clause-many : goal.returns-in_err-count-clause-many
returns-in_err-count-clause-many g c = ok_of_error _ _ c.from_residual-in_err-count.result c.from_residual-in_err-count.ensures.1

pub returns-in_err-count-clause-unrefused : goal.returns-in_err-count-clause-unrefused
returns-in_err-count-clause-unrefused g c = λ told whole within. unrefused_within ℕ (IsPast (pack (g.D.Tape.tape c.args.disk.now)) c.args.file.now.fid c.args.offset) c.in_err-count.field-0.0 c.from_residual-in_err-count.result c.from_residual-in_err-count.ensures.1 (λ n past. past_none within past) (c.in_err-count.ensures.beyond told whole)

pub returns-in_err-count-clause-misled : goal.returns-in_err-count-clause-misled
returns-in_err-count-clause-misled g c = λ told from. hint_of_file ℕ (MisledBy (pack (g.D.Tape.tape c.args.disk.now)) [] c.args.file.now.fid) (MisledBy (pack (g.D.Tape.tape c.args.disk.now)) [] c.args.file.now.fid) c.in_err-count.field-0.0 c.from_residual-in_err-count.result c.from_residual-in_err-count.ensures.1 (λ place at wanted found h. h) (c.in_err-count.ensures.misled told from)

pub returns-in_err-count-clause-cause : goal.returns-in_err-count-clause-cause
returns-in_err-count-clause-cause g c = cause_passed (g.D.Tape.tape c.args.disk.now) (g.D.Tape.tape c.read_part.new.disk) (stop_of_file c.in_err-count.field-0.0) c.from_residual-in_err-count.result c.from_residual-in_err-count.ensures.1 (cause_by_file (g.D.Tape.tape c.args.disk.now) (g.D.Tape.tape c.read_part.new.disk) c.in_err-count.field-0.0 c.in_err-count.ensures.cause)

pub returns-in_err-count-clause-looks : goal.returns-in_err-count-clause-looks
returns-in_err-count-clause-looks g c = hints_looked c.args.session.now c.read_part.new.hints c.in_err-count.ensures.looks c.in_err-count.ensures.table c.in_err-count.ensures.refused c.in_err-count.ensures.handy

pub returns-in_err-count-clause-quick : goal.returns-in_err-count-clause-quick
returns-in_err-count-clause-quick g c = λ told quick. ok_of_error _ _ c.from_residual-in_err-count.result c.from_residual-in_err-count.ensures.1

pub returns-in_err-count-clause-soon : goal.returns-in_err-count-clause-soon
returns-in_err-count-clause-soon g c = λ told noted. ok_of_error _ _ c.from_residual-in_err-count.result c.from_residual-in_err-count.ensures.1

pub returns-in_err-count-clause-filled : goal.returns-in_err-count-clause-filled
returns-in_err-count-clause-filled g c = λ told noted. ok_of_error _ _ c.from_residual-in_err-count.result c.from_residual-in_err-count.ensures.1

pub returns-in_err-count-clause-next : goal.returns-in_err-count-clause-next
returns-in_err-count-clause-next g c = λ told whole links. ok_of_error _ _ c.from_residual-in_err-count.result c.from_residual-in_err-count.ensures.1

-- ---- it is read
pub returns-clause-read : goal.returns-clause-read
returns-clause-read g c = λ told whole.
    let read = c.args.bytes.now.items in
    let at = c.len-from.result in
    let lent = c.deref_mut.result.now in
    let now = c.read_part.new.out in
    let rest = post_of at (length lent - at) lent in
    let from : at ≡ length read = search rules in
    let grown = grown_by_part at (vec_len c.args.bytes.now) read c.resize.new.self.items lent from c.len-from.ensures c.deref_mut.ensures.value c.in_ok-resize.ensures.items in
    let size = part_sized read lent at grown from in
    let kept : length now ≡ 4096 = c.read_part.auto.out ∙ size in
    let fits = c.in_ok-count.ensures.fits in
    let long : c.resize.new.self.len ≡ at + 4096 = search rules in
    next_part (file_bytes (sights (pack (g.D.Tape.tape c.args.disk.now))) c.args.file.now.fid) c.args.offset c.in_ok-count.count (take (length lent - at) (drop at lent)) now read c.truncate.new.self.items size (c.in_ok-count.ensures.read told whole)
    (c.truncate.ensures.items ∙ part_in_place read lent now rest (drop (length (take at lent ++ (now ++ rest))) c.resize.new.self.items) c.in_ok-count.count at c.resize.new.self.len grown from (omega (arith, fits, size, kept)) (omega (arith, fits, size, long)))

pub returns-clause-many : goal.returns-clause-many
returns-clause-many g c =
    let read = c.args.bytes.now.items in
    let at = c.len-from.result in
    let lent = c.deref_mut.result.now in
    let now = c.read_part.new.out in
    let rest = post_of at (length lent - at) lent in
    let from : at ≡ length read = search rules in
    let grown = grown_by_part at (vec_len c.args.bytes.now) read c.resize.new.self.items lent from c.len-from.ensures c.deref_mut.ensures.value c.in_ok-resize.ensures.items in
    let size = part_sized read lent at grown from in
    let kept : length now ≡ 4096 = c.read_part.auto.out ∙ size in
    let fits = c.in_ok-count.ensures.fits in
    let long : c.resize.new.self.len ≡ at + 4096 = search rules in
    part_many c.in_ok-count.count (take (length lent - at) (drop at lent)) now read c.truncate.new.self.items size kept fits
    (c.truncate.ensures.items ∙ part_in_place read lent now rest (drop (length (take at lent ++ (now ++ rest))) c.resize.new.self.items) c.in_ok-count.count at c.resize.new.self.len grown from (omega (arith, fits, size, kept)) (omega (arith, fits, size, long)))

pub returns-clause-unrefused : goal.returns-clause-unrefused
returns-clause-unrefused g c = λ told whole within. tt

pub returns-clause-misled : goal.returns-clause-misled
returns-clause-misled g c = λ told from. tt

pub returns-clause-cause : goal.returns-clause-cause
returns-clause-cause g c = c.in_ok-count.ensures.cause

pub returns-clause-looks : goal.returns-clause-looks
returns-clause-looks g c = hints_looked c.args.session.now c.read_part.new.hints c.in_ok-count.ensures.looks c.in_ok-count.ensures.table c.in_ok-count.ensures.refused c.in_ok-count.ensures.handy

pub returns-clause-quick : goal.returns-clause-quick
returns-clause-quick g c = λ told quick.
    let few = c.in_ok-count.ensures.quick told quick in
    omega (arith, few)

pub returns-clause-soon : goal.returns-clause-soon
returns-clause-soon g c = λ told noted.
    let few = c.in_ok-count.ensures.soon noted.at told noted.listed (noted.carries told) in
    omega (arith, few)

pub returns-clause-filled : goal.returns-clause-filled
returns-clause-filled g c = λ told noted whole.
    let read = c.args.bytes.now.items in
    let at = c.len-from.result in
    let lent = c.deref_mut.result.now in
    let from : at ≡ length read = search rules in
    let grown = grown_by_part at (vec_len c.args.bytes.now) read c.resize.new.self.items lent from c.len-from.ensures c.deref_mut.ensures.value c.in_ok-resize.ensures.items in
    let few = c.in_ok-count.ensures.filled noted.at told noted.listed (noted.carries told) (omega (arith, whole)) (whole ∙ sym (part_sized read lent at grown from)) in
    omega (arith, few)

pub returns-clause-next : goal.returns-clause-next
returns-clause-next g c = c.in_ok-count.ensures.next
