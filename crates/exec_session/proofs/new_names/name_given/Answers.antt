use Rattle.std.proofs.Common.{◌≡◌, ℕ, List, [], false, IfOk, sym, ap, subst, ◌∙◌, arith}
use Rattle.alto_words.specs.Wanted.{base_wanted}
use Rattle.alto_words.specs.declared.wanted.Wanted.{Wanted}
use Rattle.alto_words.specs.declared.wanted.Wanted.TheVariants.{Exact}
use Rattle.directory.specs.Asked.{DirIsFound, DirStands}
use Rattle.directory.specs.Found.{IsAbsent, IsGreatest}
use Rattle.directory.specs.declared.versions.VersionFound.{VersionFound}
use Rattle.disk_records.proofs.Looking.{looks_pack}
use Rattle.disk_records.specs.Packs.{Pack}
use Rattle.disk_records.specs.Tapes.{pack}
use Rattle.exec_words.specs.declared.reply.Refusal.{Refusal}
use Rattle.exec_words.specs.declared.reply.Refusal.TheVariants as refusal
use Rattle.pack_model.specs.reading.Model.{dir_items, read_as}
use Rattle.pack_model.specs.reading.Versions.{is_name_taken}
use Rattle.page_seeking.specs.Refs.{MisledBy}
use Rattle.page_seeking.specs.declared.refs.FileRef.{FileRef}
use Rattle.exec_session.specs.Meant.{IfRefused}
use Rattle.exec_session.specs.NewNames.{IsGiven, IsTaken}
use Rattle.exec_session.proofs.Looking.{hints_looked, looks_about_twice, looks_about_within}
use Rattle.exec_session.proofs.NewNaming.{after_cause, after_hint, after_unwanted, found_of_stands, given_exact, given_newest, taken_by_hold, taken_exact, taken_newest}
use Rattle.exec_session.proofs.Stopping.{hint_of_file, hint_of_stop, refused_as, refused_of_stop, unrefused_by_file}
use Rattle.exec_session.proofs.Causing.{cause_after, cause_by_length, cause_passed, not_wanted, not_wanted_by_file, refused_unwanted}
use Rattle.exec_session.specs.Stops.{stop_of_file}
use Rattle.exec_session.proofs.Parts.{ok_of_error}
use Rattle.exec_session.proofs.new_names.name_given.Goals as goal

pub returns-in_err-found-clause-misled : goal.returns-in_err-found-clause-misled
returns-in_err-found-clause-misled g c = λ told stands.
    let p = pack (g.D.Tape.tape c.args.disk.now) in
    let d = c.args.dir.now.fid in
    hint_of_file VersionFound (MisledBy p [] d) (MisledBy p [] d) c.in_err-found.field-0.0 c.from_residual.result c.from_residual.ensures.1
    (λ place at wanted found h. h)
    (c.in_err-found.ensures.misled told (found_of_stands p c.args.dir.now stands))

-- ---- by the greatest version of the base
great_of : (p : Pack) (dir : FileRef) (w : Wanted) (base : List ℕ) (found : VersionFound) → DirStands p dir → base ≡ base_wanted w → (DirIsFound p dir → IsGreatest p dir.fid base found) → IsGreatest p dir.fid (base_wanted w) found
great_of p dir w base found stands is great = subst (λ b. IsGreatest p dir.fid b found) is (great (found_of_stands p dir stands))

pub returns-then-found-clause-taken : goal.returns-then-found-clause-taken
returns-then-found-clause-taken g c = λ told stands.
    let p = pack (g.D.Tape.tape c.args.disk.now) in
    let w = c.args.wanted.now in
    let great = great_of p c.args.dir.now w c.base.result c.in_ok-found.found stands c.base.ensures (c.in_ok-found.ensures.found told) in
    refused_as (IsTaken p c.args.dir.now.fid w) c.refused.result refusal.NameTaken c.refused.ensures (taken_by_hold p c.args.dir.now w c.in_ok-found.found stands great c.if-found.true)

-- ---- a name with a stated version, which is looked for on the same pack
module _ (p q : Pack) (dir : FileRef) (w : Wanted) (name : List ℕ) (stands : DirStands p dir) (same : q ≡ p) (is : w ≡ Exact name) where
  there : DirIsFound q dir
  there = subst (λ r. DirIsFound r dir) (sym same) (found_of_stands p dir stands)

  absent_before : IsAbsent q dir.fid w → IsAbsent p dir.fid (Exact name)
  absent_before h = subst (λ x. IsAbsent p dir.fid x) is (subst (λ r. IsAbsent r dir.fid w) same h)

  absent_now : IsAbsent p dir.fid (Exact name) → IsAbsent q dir.fid w
  absent_now h = subst (λ r. IsAbsent r dir.fid w) (sym same) (subst (λ x. IsAbsent p dir.fid x) (sym is) h)

  taken : (r : Refusal) → (r ≡ refusal.NameTaken) × (IsAbsent q dir.fid w → ⊥) → IsTaken p dir.fid w r
  taken r h = (h.0, ap (λ x. is_name_taken x (dir_items (read_as p) dir.fid)) is ∙ taken_exact p dir name stands (λ a. h.1 (absent_now a)))

  given : (found : VersionFound) → IsGreatest p dir.fid (base_wanted w) found → found.held ≡ false → IsAbsent q dir.fid w → IsGiven p dir.fid w name
  given found great held absent =
      subst (λ x. IsGiven p dir.fid x name) (sym is)
      (given_exact p dir name found stands (subst (λ x. IsGreatest p dir.fid (base_wanted x) found) is great) held (absent_before absent))

pub returns-in_err-refuse_entry-in-Exact-clause-taken : goal.returns-in_err-refuse_entry-in-Exact-clause-taken
returns-in_err-refuse_entry-in-Exact-clause-taken g c = λ told stands.
    let p = pack (g.D.Tape.tape c.args.disk.now) in
    let q = pack (g.D.Tape.tape c.greatest.new.disk) in
    let dir = c.args.dir.now in
    let w = c.args.wanted.now in
    let same = looks_pack c.in_ok-found.ensures.looks told in
    refused_of_stop (Unit {0}) (λ r. (r ≡ refusal.NameTaken) × (IsAbsent q dir.fid w → ⊥)) (IsTaken p dir.fid w) c.in_err-refuse_entry-in-Exact.field-0.0 c.from_residual-in_err-refuse_entry-in-Exact.result c.from_residual-in_err-refuse_entry-in-Exact.ensures.1
    (taken p q dir w c.in-Exact.name stands same c.in-Exact.is)
    (c.in_err-refuse_entry-in-Exact.ensures.taken told (there p q dir w c.in-Exact.name stands same c.in-Exact.is))

pub returns-in_err-refuse_entry-in-Exact-clause-misled : goal.returns-in_err-refuse_entry-in-Exact-clause-misled
returns-in_err-refuse_entry-in-Exact-clause-misled g c = λ told stands.
    let p = pack (g.D.Tape.tape c.args.disk.now) in
    let q = pack (g.D.Tape.tape c.greatest.new.disk) in
    let d = c.args.dir.now.fid in
    let same = looks_pack c.in_ok-found.ensures.looks told in
    hint_of_stop (Unit {0}) (MisledBy q [] d) (MisledBy p [] d) c.in_err-refuse_entry-in-Exact.field-0.0 c.from_residual-in_err-refuse_entry-in-Exact.result c.from_residual-in_err-refuse_entry-in-Exact.ensures.1
    (λ place at wanted found h. subst (λ r. MisledBy r [] d place at wanted found) same h)
    (c.in_err-refuse_entry-in-Exact.ensures.misled told (there p q c.args.dir.now c.args.wanted.now c.in-Exact.name stands same c.in-Exact.is))

pub returns-in_err-refuse_entry-in-Exact-clause-looks : goal.returns-in_err-refuse_entry-in-Exact-clause-looks
returns-in_err-refuse_entry-in-Exact-clause-looks g c =
    looks_about_twice 8596750336 (omega arith) (hints_looked c.args.session.now c.greatest.new.hints c.in_ok-found.ensures.looks c.in_ok-found.ensures.table c.in_ok-found.ensures.refused c.in_ok-found.ensures.handy) c.in_err-refuse_entry-in-Exact.ensures.looks

pub returns-in_ok-refuse_entry-in-Exact-clause-given : goal.returns-in_ok-refuse_entry-in-Exact-clause-given
returns-in_ok-refuse_entry-in-Exact-clause-given g c = λ told stands.
    let p = pack (g.D.Tape.tape c.args.disk.now) in
    let q = pack (g.D.Tape.tape c.greatest.new.disk) in
    let dir = c.args.dir.now in
    let w = c.args.wanted.now in
    let same = looks_pack c.in_ok-found.ensures.looks told in
    let great = great_of p dir w c.base.result c.in_ok-found.found stands c.base.ensures (c.in_ok-found.ensures.found told) in
    given p q dir w c.in-Exact.name stands same c.in-Exact.is c.in_ok-found.found great c.if-found.false
    (c.in_ok-refuse_entry-in-Exact.ensures.absent told (there p q dir w c.in-Exact.name stands same c.in-Exact.is))

pub returns-in_ok-refuse_entry-in-Exact-clause-looks : goal.returns-in_ok-refuse_entry-in-Exact-clause-looks
returns-in_ok-refuse_entry-in-Exact-clause-looks g c =
    looks_about_twice 8596750336 (omega arith) (hints_looked c.args.session.now c.greatest.new.hints c.in_ok-found.ensures.looks c.in_ok-found.ensures.table c.in_ok-found.ensures.refused c.in_ok-found.ensures.handy) c.in_ok-refuse_entry-in-Exact.ensures.looks

-- ---- the version after the greatest
pub returns-in-Newest-clause-given : goal.returns-in-Newest-clause-given
returns-in-Newest-clause-given g c = λ told stands.
    let p = pack (g.D.Tape.tape c.args.disk.now) in
    let dir = c.args.dir.now in
    let found = c.in_ok-found.found in
    let great = great_of p dir c.args.wanted.now c.base.result found stands c.base.ensures (c.in_ok-found.ensures.found told) in
    subst (λ x. IfOk c.next_version.result (IsGiven p dir.fid x)) (sym c.in-Newest.is)
    (given_newest p dir c.in-Newest.base found c.next_version.result stands (subst (λ x. IsGreatest p dir.fid (base_wanted x) found) c.in-Newest.is great) c.next_version.ensures c.if-found.false)

pub returns-in-Newest-clause-taken : goal.returns-in-Newest-clause-taken
returns-in-Newest-clause-taken g c = λ told stands.
    let p = pack (g.D.Tape.tape c.args.disk.now) in
    let dir = c.args.dir.now in
    let found = c.in_ok-found.found in
    let great = great_of p dir c.args.wanted.now c.base.result found stands c.base.ensures (c.in_ok-found.ensures.found told) in
    subst (λ x. IfRefused c.next_version.result (IsTaken p dir.fid x)) (sym c.in-Newest.is)
    (taken_newest p dir c.in-Newest.base found c.next_version.result stands (subst (λ x. IsGreatest p dir.fid (base_wanted x) found) c.in-Newest.is great) c.next_version.ensures)

pub returns-in_err-found-clause-given : goal.returns-in_err-found-clause-given
returns-in_err-found-clause-given g c = λ told stands. ok_of_error _ _ c.from_residual.result c.from_residual.ensures.1

pub returns-in_err-found-clause-taken : goal.returns-in_err-found-clause-taken
returns-in_err-found-clause-taken g c = λ told stands. unrefused_by_file (IsTaken (pack (g.D.Tape.tape c.args.disk.now)) c.args.dir.now.fid c.args.wanted.now) (g.D.Tape.tape c.args.disk.now) (g.D.Tape.tape c.greatest.new.disk) c.in_err-found.field-0.0 c.from_residual.result c.from_residual.ensures.1 c.in_err-found.ensures.cause

pub returns-in_err-found-clause-cause : goal.returns-in_err-found-clause-cause
returns-in_err-found-clause-cause g c = cause_passed (g.D.Tape.tape c.args.disk.now) (g.D.Tape.tape c.greatest.new.disk) (stop_of_file c.in_err-found.field-0.0) c.from_residual.result c.from_residual.ensures.1 (cause_by_length (g.D.Tape.tape c.args.disk.now) (g.D.Tape.tape c.greatest.new.disk) c.in_err-found.field-0.0 c.in_err-found.ensures.cause)

pub returns-in_err-found-clause-want : goal.returns-in_err-found-clause-want
returns-in_err-found-clause-want g c = λ told. not_wanted_by_file VersionFound c.in_err-found.field-0.0 c.from_residual.result c.from_residual.ensures.1 (c.in_err-found.ensures.want told)

pub returns-in_err-refuse_entry-in-Exact-clause-given : goal.returns-in_err-refuse_entry-in-Exact-clause-given
returns-in_err-refuse_entry-in-Exact-clause-given g c = λ told stands. ok_of_error _ _ c.from_residual-in_err-refuse_entry-in-Exact.result c.from_residual-in_err-refuse_entry-in-Exact.ensures.1

pub returns-in_err-refuse_entry-in-Exact-clause-cause : goal.returns-in_err-refuse_entry-in-Exact-clause-cause
returns-in_err-refuse_entry-in-Exact-clause-cause g c = cause_after (g.D.Tape.tape c.args.disk.now) (g.D.Tape.tape c.greatest.new.disk) (g.D.Tape.tape c.refuse_entry.new.disk) c.in_err-refuse_entry-in-Exact.field-0.0 c.from_residual-in_err-refuse_entry-in-Exact.result c.from_residual-in_err-refuse_entry-in-Exact.ensures.1 c.in_ok-found.ensures.cause c.in_err-refuse_entry-in-Exact.ensures.cause

pub returns-in_err-refuse_entry-in-Exact-clause-want : goal.returns-in_err-refuse_entry-in-Exact-clause-want
returns-in_err-refuse_entry-in-Exact-clause-want g c = λ told. not_wanted (Unit {0}) c.in_err-refuse_entry-in-Exact.field-0.0 c.from_residual-in_err-refuse_entry-in-Exact.result c.from_residual-in_err-refuse_entry-in-Exact.ensures.1 (c.in_err-refuse_entry-in-Exact.ensures.want told)

pub returns-in_err-found-clause-looks : goal.returns-in_err-found-clause-looks
returns-in_err-found-clause-looks g c = looks_about_within 8596750336 (omega arith) (hints_looked c.args.session.now c.greatest.new.hints c.in_err-found.ensures.looks c.in_err-found.ensures.table c.in_err-found.ensures.refused c.in_err-found.ensures.handy)

pub returns-then-found-clause-given : goal.returns-then-found-clause-given
returns-then-found-clause-given g c = λ told stands. rw c.refused.ensures tt

pub returns-then-found-clause-misled : goal.returns-then-found-clause-misled
returns-then-found-clause-misled g c = λ told stands. rw c.refused.ensures tt

pub returns-then-found-clause-cause : goal.returns-then-found-clause-cause
returns-then-found-clause-cause g c = rw c.refused.ensures c.in_ok-found.ensures.cause

pub returns-then-found-clause-want : goal.returns-then-found-clause-want
returns-then-found-clause-want g c = λ told. refused_unwanted c.refused.result refusal.NameTaken c.refused.ensures

pub returns-then-found-clause-looks : goal.returns-then-found-clause-looks
returns-then-found-clause-looks g c = looks_about_within 8596750336 (omega arith) (hints_looked c.args.session.now c.greatest.new.hints c.in_ok-found.ensures.looks c.in_ok-found.ensures.table c.in_ok-found.ensures.refused c.in_ok-found.ensures.handy)

pub returns-in_ok-refuse_entry-in-Exact-clause-taken : goal.returns-in_ok-refuse_entry-in-Exact-clause-taken
returns-in_ok-refuse_entry-in-Exact-clause-taken g c = λ told stands. tt

pub returns-in_ok-refuse_entry-in-Exact-clause-misled : goal.returns-in_ok-refuse_entry-in-Exact-clause-misled
returns-in_ok-refuse_entry-in-Exact-clause-misled g c = λ told stands. tt

pub returns-in_ok-refuse_entry-in-Exact-clause-cause : goal.returns-in_ok-refuse_entry-in-Exact-clause-cause
returns-in_ok-refuse_entry-in-Exact-clause-cause g c = c.in_ok-refuse_entry-in-Exact.ensures.cause ∙ c.in_ok-found.ensures.cause

pub returns-in_ok-refuse_entry-in-Exact-clause-want : goal.returns-in_ok-refuse_entry-in-Exact-clause-want
returns-in_ok-refuse_entry-in-Exact-clause-want g c = λ told is. cc

pub returns-in-Newest-clause-looks : goal.returns-in-Newest-clause-looks
returns-in-Newest-clause-looks g c = looks_about_within 8596750336 (omega arith) (hints_looked c.args.session.now c.greatest.new.hints c.in_ok-found.ensures.looks c.in_ok-found.ensures.table c.in_ok-found.ensures.refused c.in_ok-found.ensures.handy)

pub returns-in-Newest-clause-misled : goal.returns-in-Newest-clause-misled
returns-in-Newest-clause-misled g c = λ told stands. rw c.next_version.ensures (after_hint c.in-Newest.base c.in_ok-found.found.version (MisledBy (pack (g.D.Tape.tape c.args.disk.now)) [] c.args.dir.now.fid))

pub returns-in-Newest-clause-cause : goal.returns-in-Newest-clause-cause
returns-in-Newest-clause-cause g c = rw c.next_version.ensures (after_cause c.in-Newest.base c.in_ok-found.found.version (g.D.Tape.tape c.args.disk.now) (g.D.Tape.tape c.greatest.new.disk) c.in_ok-found.ensures.cause)

pub returns-in-Newest-clause-want : goal.returns-in-Newest-clause-want
returns-in-Newest-clause-want g c = λ told is. after_unwanted c.in-Newest.base c.in_ok-found.found.version (sym c.next_version.ensures ∙ is)
