use Rattle.std.proofs.Common.{Err, List, OnOk, Bool, false, inl, inr, refl, subst, ◌≡◌, arith}
use Rattle.disk_records.proofs.Growing.{alone_twice}
use Rattle.laws_hint.specs.MapChanges.{marked}
use Rattle.page_seeking.proofs.Erring.{if_misled_map, on_ok}
use Rattle.page_seeking.specs.Seeking.{page_number}
use Rattle.file_pages.proofs.CommitFirst.{commit_broke, releases_after}
use Rattle.file_pages.proofs.CutFiles.{carries_at}
use Rattle.file_pages.proofs.DroppedFiles.{follows_leader}
use Rattle.disk_records.specs.Packs.{Pack}
use Rattle.disk_records.specs.Tapes.{pack}
use Rattle.file_pages.proofs.Gone.{none_gone_twice, release_forgets}
use Rattle.file_pages.specs.Releasing.{ListsNoneGone}
use Rattle.file_pages.proofs.Erring.{was_found}
use Rattle.disk_records.proofs.Framing.{page_by_sector, writes_then}
use Rattle.disk_records.specs.Frames.{IsPageOf}
use Rattle.file_pages.proofs.Freed.{frees_one, frees_then, keeps_bits}
use Rattle.file_pages.proofs.dropping.drop_pages.Goals as goal

pub returns-in-Ok-clause-drops : goal.returns-in-Ok-clause-drops
returns-in-Ok-clause-drops g c p pages told same read left =
    let done = c.in-Ok.ensures.commits told (carries_at same read) in
    let one = c.release_leader.ensures.alone.grown in
    releases_after c.release_rest.result one c.release_rest.ensures.alone.grown done refl (c.release_rest.ensures.releases p pages told (follows_leader same read one done) left)

pub returns-in-Err-clause-drops : goal.returns-in-Err-clause-drops
returns-in-Err-clause-drops g c p pages told same read left = commit_broke pages c.in-Err.error (c.in-Err.ensures.commits told (carries_at same read)) refl

pub returns-in-Ok-clause-table : goal.returns-in-Ok-clause-table
returns-in-Ok-clause-table g c p pages told same read left =
    subst (λ (l : List Bool). OnOk c.release_rest.result (c.release_rest.new.hints.table ≡ marked false pages l)) c.set.ensures
    (c.release_rest.ensures.releases p pages told (follows_leader same read c.release_leader.ensures.alone.grown (c.in-Ok.ensures.commits told (carries_at same read))) left).table

pub returns-in-Ok-clause-only : goal.returns-in-Ok-clause-only
returns-in-Ok-clause-only g c p told same read = c.release_rest.ensures.only p told (follows_leader same read c.release_leader.ensures.alone.grown (c.in-Ok.ensures.commits told (carries_at same read)))

pub returns-in-Ok-clause-misled : goal.returns-in-Ok-clause-misled
returns-in-Ok-clause-misled g c p told same read = c.release_rest.ensures.misled p told (follows_leader same read c.release_leader.ensures.alone.grown (c.in-Ok.ensures.commits told (carries_at same read)))

pub returns-in-Err-clause-misled : goal.returns-in-Err-clause-misled
returns-in-Err-clause-misled g c p told same read = if_misled_map {T = Unit {0}} (Err c.in-Err.error) (c.in-Err.ensures.misled told (carries_at same read)) (λ place at wanted found no. absurd no)

pub returns-in-Ok-clause-alone : goal.returns-in-Ok-clause-alone
returns-in-Ok-clause-alone g c = alone_twice c.release_leader.ensures.alone c.release_rest.ensures.alone

pub returns-in-Ok-clause-handy : goal.returns-in-Ok-clause-handy
returns-in-Ok-clause-handy g c = λ ss f handy. c.release_rest.ensures.handy ss f (c.forget_page.ensures.handy ss f handy)

pub returns-in-Ok-clause-forgotten : goal.returns-in-Ok-clause-forgotten
returns-in-Ok-clause-forgotten g c p told same read whole few = c.release_rest.ensures.forgotten p told (follows_leader same read c.release_leader.ensures.alone.grown (c.in-Ok.ensures.commits told (carries_at same read))) whole few

pub returns-in-Ok-clause-leader : goal.returns-in-Ok-clause-leader
returns-in-Ok-clause-leader g c = on_ok c.release_rest.result (c.release_rest.ensures.no_more (page_number c.args.fid 0) c.forget_page.ensures.forgotten)

pub returns-in-Ok-clause-gone : goal.returns-in-Ok-clause-gone
returns-in-Ok-clause-gone g c p told same read =
    let d = g.D.Tape.tape c.release_rest.new.disk in
    let done = c.in-Ok.ensures.commits told (carries_at same read) in
    let first = release_forgets c.args.at (page_number c.args.fid 0) c.forget_page.new.cache c.release_leader.ensures.alone.grown (carries_at same read) done.some c.forget_page.ensures.forgotten in
    subst (λ (q : Pack). ListsNoneGone q (pack d) c.release_rest.new.hints.cache) same (none_gone_twice (pack (g.D.Tape.tape c.args.disk.now)) (pack (g.D.Tape.tape c.release_leader.new.disk)) (pack d) c.forget_page.new.cache c.release_rest.new.hints.cache first c.release_rest.ensures.no_more (c.release_rest.ensures.gone told))

pub returns-in-Err-clause-gone : goal.returns-in-Err-clause-gone
returns-in-Err-clause-gone g c p told same read =
    let d = g.D.Tape.tape c.release_leader.new.disk in
    let done = c.in-Err.ensures.commits told (carries_at same read) in
    subst (λ (q : Pack). ListsNoneGone q (pack d) c.forget_page.new.cache) same (release_forgets c.args.at (page_number c.args.fid 0) c.forget_page.new.cache c.release_leader.ensures.alone.grown (carries_at same read) done.some c.forget_page.ensures.forgotten)

pub returns-in-Ok-clause-given : goal.returns-in-Ok-clause-given
returns-in-Ok-clause-given g c = if_misled_map c.release_rest.result c.release_rest.ensures.link (λ place at wanted found x. inl x)

pub returns-in-Err-clause-given : goal.returns-in-Err-clause-given
returns-in-Err-clause-given g c = if_misled_map {T = Unit {0}} (Err c.in-Err.error) c.in-Err.ensures.held (λ place at wanted found x. inr (was_found c.args.fid c.args.at (page_number c.args.fid 0) refl place at wanted found x))

pub returns-in-Ok-clause-frame : goal.returns-in-Ok-clause-frame
returns-in-Ok-clause-frame g c told = writes_then (IsPageOf c.args.fid) (page_by_sector c.args.fid) c.release_leader.ensures.alone.grown c.release_rest.ensures.alone.grown (c.release_leader.ensures.frame told) (c.release_rest.ensures.frame told)

pub returns-in-Ok-clause-bits : goal.returns-in-Ok-clause-bits
returns-in-Ok-clause-bits g c told =
    frees_then c.args.fid c.args.hints.now.table c.set.new.self c.release_rest.new.hints.table c.release_rest.ensures.alone.grown (c.release_rest.ensures.frame told)
    (frees_one (pack (g.D.Tape.tape c.release_leader.new.disk)) c.args.at c.args.hints.now.table c.set.new.self (c.in-Ok.ensures.is_free told) c.set.ensures) (c.release_rest.ensures.bits told)

pub returns-in-Err-clause-bits : goal.returns-in-Err-clause-bits
returns-in-Err-clause-bits g c told = keeps_bits (pack (g.D.Tape.tape c.release_leader.new.disk)) refl

pub returns-in-Ok-clause-runs : goal.returns-in-Ok-clause-runs
returns-in-Ok-clause-runs g c p told same read whole =
    let one = c.release_leader.ensures.runs told in
    let rest = c.release_rest.ensures.runs p told (follows_leader same read c.release_leader.ensures.alone.grown (c.in-Ok.ensures.commits told (carries_at same read))) whole in
    omega (arith, one, rest)

pub returns-in-Err-clause-runs : goal.returns-in-Err-clause-runs
returns-in-Err-clause-runs g c p told same read whole = let one = c.release_leader.ensures.runs told in omega (arith, one)
