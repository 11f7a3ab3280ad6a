use Rattle.std.proofs.Common.{◌≡◌, ◌<◌, ◌≤◌, ℕ, [], true, false, nat_lt, refl, arith}
use Rattle.std.proofs.lemmas.Bool.Decides.{nat_tests}
use Rattle.directory.specs.declared.versions.VersionFound.{VersionFound}
use Rattle.disk_records.specs.Tapes.{pack}
use Rattle.exec_words.specs.declared.reply.Refusal.TheVariants as refusal
use Rattle.pack_model.specs.reading.Model.{dir_items, read_as}
use Rattle.pack_model.specs.reading.Versions.{is_base_taken}
use Rattle.page_seeking.specs.Refs.{MisledBy}
use Rattle.exec_session.proofs.NewNaming.{base_taken, found_of_stands}
use Rattle.exec_session.proofs.Stopping.{hint_of_file, refused_as, unrefused_by_file}
use Rattle.exec_session.proofs.Causing.{cause_by_length, cause_passed, not_wanted_by_file, refused_unwanted}
use Rattle.exec_session.specs.Stops.{stop_of_file}
use Rattle.exec_session.proofs.Parts.{ok_of_error}
use Rattle.exec_session.proofs.Looking.{hints_looked, looks_about_within}
use Rattle.exec_session.proofs.new_names.refuse_held_base.Goals as goal

some_is : (n : ℕ) → 0 < n → nat_lt 0 n ≡ true
some_is n h = grind (arith, nat_tests)

none_is : (n : ℕ) → n ≤ 0 → nat_lt 0 n ≡ false
none_is n h = grind (arith, nat_tests)

pub returns-in_err-found-clause-misled : goal.returns-in_err-found-clause-misled
returns-in_err-found-clause-misled g c = λ told stands.
    let p = pack (g.D.Tape.tape c.args.disk.now) in
    let d = c.args.dir.now.fid in
    hint_of_file VersionFound (MisledBy p [] d) (MisledBy p [] d) c.in_err-found.field-0.0 c.from_residual.result c.from_residual.ensures.1
    (λ place at wanted found h. h)
    (c.in_err-found.ensures.misled told (found_of_stands p c.args.dir.now stands))

pub returns-then-found-gt0-clause-taken : goal.returns-then-found-gt0-clause-taken
returns-then-found-gt0-clause-taken g c = λ told stands.
    let p = pack (g.D.Tape.tape c.args.disk.now) in
    let dir = c.args.dir.now in
    let base = c.args.base.now in
    let found = c.in_ok-found.found in
    refused_as (λ r. (r ≡ refusal.NameTaken) × (is_base_taken base (dir_items (read_as p) dir.fid) ≡ true)) c.refused.result refusal.NameTaken c.refused.ensures
    (refl, base_taken p dir base found true stands (c.in_ok-found.ensures.found told (found_of_stands p dir stands)) (some_is found.version c.if-found-gt0.true))

pub returns-clause-free : goal.returns-clause-free
returns-clause-free g c = λ told stands.
    let p = pack (g.D.Tape.tape c.args.disk.now) in
    let dir = c.args.dir.now in
    let found = c.in_ok-found.found in
    base_taken p dir c.args.base.now found false stands (c.in_ok-found.ensures.found told (found_of_stands p dir stands)) (none_is found.version c.if-found-gt0.false)

pub returns-in_err-found-clause-free : goal.returns-in_err-found-clause-free
returns-in_err-found-clause-free g c = λ told stands. ok_of_error _ _ c.from_residual.result c.from_residual.ensures.1

pub returns-in_err-found-clause-taken : goal.returns-in_err-found-clause-taken
returns-in_err-found-clause-taken g c = λ told stands. unrefused_by_file _ (g.D.Tape.tape c.args.disk.now) (g.D.Tape.tape c.greatest.new.disk) c.in_err-found.field-0.0 c.from_residual.result c.from_residual.ensures.1 c.in_err-found.ensures.cause

pub returns-in_err-found-clause-cause : goal.returns-in_err-found-clause-cause
returns-in_err-found-clause-cause g c = cause_passed (g.D.Tape.tape c.args.disk.now) (g.D.Tape.tape c.greatest.new.disk) (stop_of_file c.in_err-found.field-0.0) c.from_residual.result c.from_residual.ensures.1 (cause_by_length (g.D.Tape.tape c.args.disk.now) (g.D.Tape.tape c.greatest.new.disk) c.in_err-found.field-0.0 c.in_err-found.ensures.cause)

pub returns-in_err-found-clause-want : goal.returns-in_err-found-clause-want
returns-in_err-found-clause-want g c = λ told. not_wanted_by_file VersionFound c.in_err-found.field-0.0 c.from_residual.result c.from_residual.ensures.1 (c.in_err-found.ensures.want told)

pub returns-in_err-found-clause-looks : goal.returns-in_err-found-clause-looks
returns-in_err-found-clause-looks g c = looks_about_within 4298375168 (omega arith) (hints_looked c.args.session.now c.greatest.new.hints c.in_err-found.ensures.looks c.in_err-found.ensures.table c.in_err-found.ensures.refused c.in_err-found.ensures.handy)

pub returns-then-found-gt0-clause-free : goal.returns-then-found-gt0-clause-free
returns-then-found-gt0-clause-free g c = λ told stands. rw c.refused.ensures tt

pub returns-then-found-gt0-clause-misled : goal.returns-then-found-gt0-clause-misled
returns-then-found-gt0-clause-misled g c = λ told stands. rw c.refused.ensures tt

pub returns-then-found-gt0-clause-cause : goal.returns-then-found-gt0-clause-cause
returns-then-found-gt0-clause-cause g c = rw c.refused.ensures c.in_ok-found.ensures.cause

pub returns-then-found-gt0-clause-want : goal.returns-then-found-gt0-clause-want
returns-then-found-gt0-clause-want g c = λ told. refused_unwanted c.refused.result refusal.NameTaken c.refused.ensures

pub returns-then-found-gt0-clause-looks : goal.returns-then-found-gt0-clause-looks
returns-then-found-gt0-clause-looks g c = looks_about_within 4298375168 (omega arith) (hints_looked c.args.session.now c.greatest.new.hints c.in_ok-found.ensures.looks c.in_ok-found.ensures.table c.in_ok-found.ensures.refused c.in_ok-found.ensures.handy)

pub returns-clause-taken : goal.returns-clause-taken
returns-clause-taken g c = λ told stands. tt

pub returns-clause-misled : goal.returns-clause-misled
returns-clause-misled g c = λ told stands. tt

pub returns-clause-cause : goal.returns-clause-cause
returns-clause-cause g c = c.in_ok-found.ensures.cause

pub returns-clause-want : goal.returns-clause-want
returns-clause-want g c = λ told is. cc

pub returns-clause-looks : goal.returns-clause-looks
returns-clause-looks g c = looks_about_within 4298375168 (omega arith) (hints_looked c.args.session.now c.greatest.new.hints c.in_ok-found.ensures.looks c.in_ok-found.ensures.table c.in_ok-found.ensures.refused c.in_ok-found.ensures.handy)
