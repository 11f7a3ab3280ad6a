use Rattle.std.proofs.Common.{Err, Some, ap, arith, length, refl, subst, sym, ℕ, ◌++◌, ◌+◌, ◌∙◌, ◌≡◌}
use Rattle.disk_records.proofs.Growing.{added-twice, alone_twice, pack-after}
use Rattle.disk_records.proofs.Looking.{looks_pack}
use Rattle.disk_records.specs.Commands.{release_writes}
use Rattle.disk_records.specs.Events.{IsFirstOf}
use Rattle.disk_records.specs.Packs.{Pack, after, carried}
use Rattle.disk_records.specs.Tapes.{added, pack}
use Rattle.disk_records.specs.declared.records.Place.TheVariants.{Next}
use Rattle.label_check.specs.Guarded.{Carries}
use Rattle.label_check.specs.declared.errors.PageInfo.{PageInfo}
use Rattle.page_seeking.proofs.Erring.{if_misled_map}
use Rattle.page_seeking.specs.Seeking.{page_after}
use Rattle.file_pages.proofs.Erring.{memory_of, wrong_at}
use Rattle.file_pages.proofs.Going.{memory_as, never_here}
use Rattle.file_pages.proofs.Following.{follows_next}
use Rattle.file_pages.proofs.Gone.{release_forgets}
use Rattle.file_pages.specs.Releasing.{ListsNoneGone, MisledSince}
use Rattle.page_seeking.specs.Refs.{IsOwnLink}
use Rattle.disk_records.proofs.Framing.{writes_after_look, writes_silent}
use Rattle.disk_records.specs.Frames.{IsPageOf}
use Rattle.label_check.proofs.Framing.{guarded_writes, release_here}
use Rattle.file_pages.proofs.Freed.{frees_one, keeps_bits, released_free}
use Rattle.file_pages.proofs.releasing.release_after.Goals as goal

pub returns-in-Ok-release-clause-released : goal.returns-in-Ok-release-clause-released
returns-in-Ok-release-clause-released g c p told follows =
    let a = g.D.Tape.tape c.args.disk.now in
    let b = g.D.Tape.tape c.read_after.new.disk in
    let d = g.D.Tape.tape c.release.new.disk in
    let looks = c.read_after.ensures.looks in
    let two = c.release.ensures.alone.grown in
    let to = c.in-Ok.to in
    let wrote : added b d ≡ release_writes to = (c.in-Ok-release.ensures.guarded told).ok.wrote in
    let left : pack d ≡ after (pack a) (release_writes to) = pack-after two ∙ ap (after (pack b)) wrote ∙ ap (λ (q : Pack). after q (release_writes to)) (looks_pack looks told) in
    record {
      wrote = added-twice looks.alone.grown two ∙ ap (λ l. l ++ added b d) (looks.silent told) ∙ wrote;
      table = c.set.ensures;
      follows = follows_next p (pack a) (pack d) a.form c.args.page c.args.at to c.args.info c.in-Ok.next c.read_after.new.buf follows c.in-Ok.ensures.seen refl (c.in-Ok.ensures.stands told) left;
    }

pub returns-in-Err-release-clause-breaks : goal.returns-in-Err-release-clause-breaks
returns-in-Err-release-clause-breaks g c p last told follows alone =
    let a = g.D.Tape.tape c.args.disk.now in
    let b = g.D.Tape.tape c.read_after.new.disk in
    let d = g.D.Tape.tape c.release.new.disk in
    let looks = c.read_after.ensures.looks in
    let two = c.release.ensures.alone.grown in
    let to = c.in-Ok.to in
    let same : added a d ≡ added b d = added-twice looks.alone.grown two ∙ ap (λ l. l ++ added b d) (looks.silent told) in
    let here : to ≡ last = alone to (follows.only to (page_after c.args.page) (c.in-Ok.ensures.stands told).carries) in
    subst (IsFirstOf (release_writes last)) (sym same) (subst (λ i. IsFirstOf (release_writes i) (added b d)) here (c.in-Err-release.ensures.guarded told).some)

pub returns-in-Err-clause-breaks : goal.returns-in-Err-clause-breaks
returns-in-Err-clause-breaks g c p last told follows alone = subst (IsFirstOf (release_writes last)) (sym (c.read_after.ensures.looks.silent told)) tt

pub returns-in-Err-release-clause-misled : goal.returns-in-Err-release-clause-misled
returns-in-Err-release-clause-misled g c p told follows full =
    let a = pack (g.D.Tape.tape c.args.disk.now) in
    let b = g.D.Tape.tape c.read_after.new.disk in
    let d = g.D.Tape.tape c.release.new.disk in
    let after = page_after c.args.page in
    let to = c.in-Ok.to in
    let held : carried (pack b) to ≡ Some after = ap (λ (q : Pack). carried q to) (looks_pack c.read_after.ensures.looks told) ∙ (c.in-Ok.ensures.stands told).carries in
    if_misled_map {T = ℕ × PageInfo} (Err c.error_at.result) (never_here (ℕ × PageInfo) (Carries to after) to b d c.in-Err-release.error (Next c.args.at) c.args.info.next after c.error_at.result c.error_at.ensures (c.in-Err-release.ensures.guarded told).wrong held) (λ place at wanted found no. absurd no)

pub returns-in-Err-clause-misled : goal.returns-in-Err-clause-misled
returns-in-Err-clause-misled g c p told follows full =
    if_misled_map {T = ℕ × PageInfo} (Err c.in-Err.error) (c.in-Err.ensures.misled p told follows full) (λ place at wanted found x. subst (λ (q : Pack). MisledSince p q c.args.page.fid place at wanted found) (sym (looks_pack c.read_after.ensures.looks told)) x)

pub returns-in-Err-release-clause-want : goal.returns-in-Err-release-clause-want
returns-in-Err-release-clause-want g c told memory =
    let looks = c.read_after.ensures.looks in
    let kept = looks.alone.grown.spare in
    let none = ap length (looks.silent told) in
    let less = ((c.in-Err-release.ensures.guarded told).want (memory_of c.in-Err-release.error _ _ _ _ c.error_at.ensures (memory_as (ℕ × PageInfo) (Unit {0}) c.error_at.result memory))).less in
    omega (arith, kept, none, less)

pub returns-in-Err-release-clause-alone : goal.returns-in-Err-release-clause-alone
returns-in-Err-release-clause-alone g c = alone_twice c.read_after.ensures.looks.alone c.release.ensures.alone

pub returns-in-Ok-release-clause-alone : goal.returns-in-Ok-release-clause-alone
returns-in-Ok-release-clause-alone g c = alone_twice c.read_after.ensures.looks.alone c.release.ensures.alone

pub returns-in-Ok-release-clause-gone : goal.returns-in-Ok-release-clause-gone
returns-in-Ok-release-clause-gone g c told =
    let d = g.D.Tape.tape c.release.new.disk in
    let same = looks_pack c.read_after.ensures.looks told in
    let after = page_after c.args.page in
    let held = ap (λ (q : Pack). carried q c.in-Ok.to) same ∙ (c.in-Ok.ensures.stands told).carries in
    subst (λ (q : Pack). ListsNoneGone q (pack d) c.forget_page.new.cache) same (release_forgets c.in-Ok.to after c.forget_page.new.cache c.release.ensures.alone.grown held (c.in-Ok-release.ensures.guarded told).some c.forget_page.ensures.forgotten)

pub returns-in-Err-release-clause-gone : goal.returns-in-Err-release-clause-gone
returns-in-Err-release-clause-gone g c told =
    let d = g.D.Tape.tape c.release.new.disk in
    let same = looks_pack c.read_after.ensures.looks told in
    let after = page_after c.args.page in
    let held = ap (λ (q : Pack). carried q c.in-Ok.to) same ∙ (c.in-Ok.ensures.stands told).carries in
    subst (λ (q : Pack). ListsNoneGone q (pack d) c.forget_page.new.cache) same (release_forgets c.in-Ok.to after c.forget_page.new.cache c.release.ensures.alone.grown held (c.in-Err-release.ensures.guarded told).some c.forget_page.ensures.forgotten)

pub returns-in-Err-clause-gone : goal.returns-in-Err-clause-gone
returns-in-Err-clause-gone g c told = λ page i at listed there. ap (λ (q : Pack). carried q i) (looks_pack c.read_after.ensures.looks told) ∙ there

pub returns-in-Err-release-clause-link : goal.returns-in-Err-release-clause-link
returns-in-Err-release-clause-link g c =
    let page = c.args.page in
    wrong_at (ℕ × PageInfo) (λ place at wanted found. IsOwnLink page.fid place wanted) c.in-Err-release.error (Next c.args.at) c.args.info.next (page_after page) c.error_at.result c.error_at.ensures (λ found. record { followed = c.args.at; link = refl; own = refl; later = omega arith })

pub returns-in-Err-clause-frame : goal.returns-in-Err-clause-frame
returns-in-Err-clause-frame g c told = writes_silent (IsPageOf c.args.page.fid (pack (g.D.Tape.tape c.args.disk.now))) (added (g.D.Tape.tape c.args.disk.now) (g.D.Tape.tape c.read_after.new.disk)) (c.read_after.ensures.looks.silent told)

pub returns-in-Ok-release-clause-frame : goal.returns-in-Ok-release-clause-frame
returns-in-Ok-release-clause-frame g c told =
    let Here = IsPageOf c.args.page.fid (pack (g.D.Tape.tape c.read_after.new.disk)) in
    let looks = c.read_after.ensures.looks in
    writes_after_look (IsPageOf c.args.page.fid) looks.alone.grown c.release.ensures.alone.grown (looks.silent told)
    (guarded_writes Here (c.release.ensures.guarded told) (λ carries. release_here Here c.in-Ok.to (record { number = c.args.page.number + 1; carries = carries })))

pub returns-in-Err-release-clause-frame : goal.returns-in-Err-release-clause-frame
returns-in-Err-release-clause-frame g c told =
    let Here = IsPageOf c.args.page.fid (pack (g.D.Tape.tape c.read_after.new.disk)) in
    let looks = c.read_after.ensures.looks in
    writes_after_look (IsPageOf c.args.page.fid) looks.alone.grown c.release.ensures.alone.grown (looks.silent told)
    (guarded_writes Here (c.release.ensures.guarded told) (λ carries. release_here Here c.in-Ok.to (record { number = c.args.page.number + 1; carries = carries })))

pub returns-in-Ok-release-clause-bits : goal.returns-in-Ok-release-clause-bits
returns-in-Ok-release-clause-bits g c told =
    let done = (c.in-Ok-release.ensures.guarded told).ok in
    frees_one (pack (g.D.Tape.tape c.release.new.disk)) c.in-Ok.to c.args.hints.now.table c.set.new.self (released_free c.in-Ok.to (page_after c.args.page) c.release.ensures.alone.grown done.held done.wrote) c.set.ensures

pub returns-in-Err-clause-bits : goal.returns-in-Err-clause-bits
returns-in-Err-clause-bits g c told = keeps_bits (pack (g.D.Tape.tape c.read_after.new.disk)) refl

pub returns-in-Err-release-clause-bits : goal.returns-in-Err-release-clause-bits
returns-in-Err-release-clause-bits g c told = keeps_bits (pack (g.D.Tape.tape c.release.new.disk)) refl

pub returns-in-Ok-release-clause-runs : goal.returns-in-Ok-release-clause-runs
returns-in-Ok-release-clause-runs g c told = let one = c.read_after.ensures.looks.runs told in let two = (c.release.ensures.guarded told).runs in omega (arith, one, two)

pub returns-in-Err-release-clause-runs : goal.returns-in-Err-release-clause-runs
returns-in-Err-release-clause-runs g c told = let one = c.read_after.ensures.looks.runs told in let two = (c.release.ensures.guarded told).runs in omega (arith, one, two)

pub returns-in-Err-clause-runs : goal.returns-in-Err-clause-runs
returns-in-Err-clause-runs g c told = let one = c.read_after.ensures.looks.runs told in omega (arith, one)
