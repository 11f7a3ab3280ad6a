use Rattle.std.proofs.Common.{Err, ap, arith, inl, inr, refl, ◌∙◌, subst}
use Rattle.disk_records.proofs.Growing.{alone_twice}
use Rattle.disk_records.specs.Labels.{page_of}
use Rattle.laws_operation.proofs.values.Laws.{label_with_another_count}
use Rattle.pack_model.specs.hints.Links.{no_link}
use Rattle.page_seeking.proofs.Erring.{if_misled_map}
use Rattle.file_pages.proofs.CommitFirst.{commit_broke, releases_after}
use Rattle.file_pages.proofs.CutFiles.{carries_at, commits_at, follows_shortened, known_read}
use Rattle.disk_records.specs.Packs.{Pack}
use Rattle.disk_records.specs.Tapes.{pack}
use Rattle.file_pages.proofs.Gone.{none_gone_twice, relabel_loses_none}
use Rattle.file_pages.specs.Releasing.{ListsNoneGone}
use Rattle.file_pages.proofs.Erring.{was_found}
use Rattle.file_pages.proofs.Remaining.{up_to_end}
use Rattle.disk_records.proofs.Framing.{page_by_sector, writes_then}
use Rattle.disk_records.specs.Frames.{IsPageOf}
use Rattle.file_pages.proofs.Freed.{keeps_bits}
use Rattle.file_pages.proofs.cutting.end_in_page.Goals as goal

pub shorten-requires-clause-same : goal.shorten-requires-clause-same
shorten-requires-clause-same g c = ap page_of c.last_label-label.ensures ∙ (label_with_another_count c.args.buf.now.label c.args.page c.args.bytes no_link c.requires.named c.requires.few).0

pub returns-in-Ok-clause-cuts : goal.returns-in-Ok-clause-cuts
returns-in-Ok-clause-cuts g c p later told same read left =
    let named = ap page_of c.last_label-label.ensures ∙ (label_with_another_count c.args.buf.now.label c.args.page c.args.bytes no_link c.requires.named c.requires.few).0 in
    let done = c.in-Ok.ensures.commits told (carries_at same read) in
    let one = c.shorten.ensures.alone.grown in
    releases_after c.release_rest.result one c.release_rest.ensures.alone.grown (commits_at c.args.bytes _ same read c.last_label-label.ensures done) refl (c.release_rest.ensures.releases p later told (follows_shortened same read one named done) left)

pub returns-in-Err-clause-cuts : goal.returns-in-Err-clause-cuts
returns-in-Err-clause-cuts g c p later told same read left = commit_broke later c.in-Err.error (commits_at c.args.bytes _ same read c.last_label-label.ensures (c.in-Err.ensures.commits told (carries_at same read))) refl

pub returns-in-Ok-clause-table : goal.returns-in-Ok-clause-table
returns-in-Ok-clause-table g c p later told same read left =
    let named = ap page_of c.last_label-label.ensures ∙ (label_with_another_count c.args.buf.now.label c.args.page c.args.bytes no_link c.requires.named c.requires.few).0 in
    (c.release_rest.ensures.releases p later told (follows_shortened same read c.shorten.ensures.alone.grown named (c.in-Ok.ensures.commits told (carries_at same read))) left).table

pub returns-in-Ok-clause-only : goal.returns-in-Ok-clause-only
returns-in-Ok-clause-only g c p told same read =
    let named = ap page_of c.last_label-label.ensures ∙ (label_with_another_count c.args.buf.now.label c.args.page c.args.bytes no_link c.requires.named c.requires.few).0 in
    c.release_rest.ensures.only p told (follows_shortened same read c.shorten.ensures.alone.grown named (c.in-Ok.ensures.commits told (carries_at same read)))

pub returns-in-Ok-clause-misled : goal.returns-in-Ok-clause-misled
returns-in-Ok-clause-misled g c p told same read =
    let named = ap page_of c.last_label-label.ensures ∙ (label_with_another_count c.args.buf.now.label c.args.page c.args.bytes no_link c.requires.named c.requires.few).0 in
    c.release_rest.ensures.misled p told (follows_shortened same read c.shorten.ensures.alone.grown named (c.in-Ok.ensures.commits told (carries_at same read)))

pub returns-in-Err-clause-misled : goal.returns-in-Err-clause-misled
returns-in-Err-clause-misled g c p told same read = if_misled_map {T = Unit {0}} (Err c.in-Err.error) (c.in-Err.ensures.misled told (carries_at same read)) (λ place at wanted found no. absurd no)

pub returns-in-Ok-clause-alone : goal.returns-in-Ok-clause-alone
returns-in-Ok-clause-alone g c = alone_twice c.shorten.ensures.alone c.release_rest.ensures.alone

pub returns-in-Ok-clause-forgotten : goal.returns-in-Ok-clause-forgotten
returns-in-Ok-clause-forgotten g c p told same read whole few =
    let named = ap page_of c.last_label-label.ensures ∙ (label_with_another_count c.args.buf.now.label c.args.page c.args.bytes no_link c.requires.named c.requires.few).0 in
    c.release_rest.ensures.forgotten p told (follows_shortened same read c.shorten.ensures.alone.grown named (c.in-Ok.ensures.commits told (carries_at same read))) whole few

pub returns-in-Ok-clause-gone : goal.returns-in-Ok-clause-gone
returns-in-Ok-clause-gone g c p told same read =
    let named = ap page_of c.last_label-label.ensures ∙ (label_with_another_count c.args.buf.now.label c.args.page c.args.bytes no_link c.requires.named c.requires.few).0 in
    let d = g.D.Tape.tape c.release_rest.new.disk in
    let done = c.in-Ok.ensures.commits told (carries_at same read) in
    let first = relabel_loses_none c.args.at c.args.page c.last_label-label.result c.args.hints.now.cache c.shorten.ensures.alone.grown (carries_at same read) named done.some in
    subst (λ (q : Pack). ListsNoneGone q (pack d) c.release_rest.new.hints.cache) same (none_gone_twice (pack (g.D.Tape.tape c.args.disk.now)) (pack (g.D.Tape.tape c.shorten.new.disk)) (pack d) c.args.hints.now.cache c.release_rest.new.hints.cache first c.release_rest.ensures.no_more (c.release_rest.ensures.gone told))

pub returns-in-Err-clause-gone : goal.returns-in-Err-clause-gone
returns-in-Err-clause-gone g c p told same read =
    let named = ap page_of c.last_label-label.ensures ∙ (label_with_another_count c.args.buf.now.label c.args.page c.args.bytes no_link c.requires.named c.requires.few).0 in
    let d = g.D.Tape.tape c.shorten.new.disk in
    let done = c.in-Err.ensures.commits told (carries_at same read) in
    subst (λ (q : Pack). ListsNoneGone q (pack d) c.args.hints.now.cache) same (relabel_loses_none c.args.at c.args.page c.last_label-label.result c.args.hints.now.cache c.shorten.ensures.alone.grown (carries_at same read) named done.some)

pub returns-in-Ok-clause-given : goal.returns-in-Ok-clause-given
returns-in-Ok-clause-given g c = if_misled_map c.release_rest.result c.release_rest.ensures.link (λ place at wanted found x. inl x)

pub returns-in-Err-clause-given : goal.returns-in-Err-clause-given
returns-in-Err-clause-given g c = if_misled_map {T = Unit {0}} (Err c.in-Err.error) c.in-Err.ensures.held (λ place at wanted found x. inr (was_found c.args.page.fid c.args.at c.args.page refl place at wanted found x))

pub returns-in-Ok-clause-frame : goal.returns-in-Ok-clause-frame
returns-in-Ok-clause-frame g c told = writes_then (IsPageOf c.args.page.fid) (page_by_sector c.args.page.fid) c.shorten.ensures.alone.grown c.release_rest.ensures.alone.grown (c.shorten.ensures.frame told) (c.release_rest.ensures.frame told)

pub returns-in-Err-clause-bits : goal.returns-in-Err-clause-bits
returns-in-Err-clause-bits g c told = keeps_bits (pack (g.D.Tape.tape c.shorten.new.disk)) refl

pub returns-in-Ok-clause-runs : goal.returns-in-Ok-clause-runs
returns-in-Ok-clause-runs g c p told same read whole =
    let named = ap page_of c.last_label-label.ensures ∙ (label_with_another_count c.args.buf.now.label c.args.page c.args.bytes no_link c.requires.named c.requires.few).0 in
    let one = c.shorten.ensures.runs told in
    let rest = c.release_rest.ensures.runs p told (follows_shortened same read c.shorten.ensures.alone.grown named (c.in-Ok.ensures.commits told (carries_at same read))) whole in
    omega (arith, one, rest)

pub returns-in-Err-clause-runs : goal.returns-in-Err-clause-runs
returns-in-Err-clause-runs g c p told same read whole =
    let one = c.shorten.ensures.runs told in
    let within = up_to_end p c.args.page.fid c.args.page.number c.args.at c.args.info (known_read read) whole in
    omega (arith, one, within)
