use Rattle.std.proofs.Common.{None, Option, Some, ap, arith, refl, subst, sym, ℕ, ◌<◌, ◌∙◌, ◌≡◌}
use Rattle.disk_records.specs.Packs.{carried, label_found}
use Rattle.disk_records.specs.Tapes.{pack}
use Rattle.disk_records.specs.declared.records.Page.{Page}
use Rattle.disk_records.specs.declared.shape.Shape.{Shape}
use Rattle.label_check.specs.Guarded.{Carries, FoundWrong}
use Rattle.label_check.specs.declared.errors.PageInfo.{PageInfo}
use Rattle.page_seeking.proofs.Misleading.{taken_link}
use Rattle.page_seeking.specs.Seeking.{Links, page_after}
use Rattle.file_pages.proofs.Erring.{memory_of, wrong_at}
use Rattle.file_pages.proofs.Following.{link_misled_since}
use Rattle.file_pages.proofs.Going.{at_wrong, memory_as, refusal_as}
use Rattle.file_pages.specs.Releasing.{MisledSince}
use Rattle.disk_records.specs.declared.records.Place.TheVariants.{Next}
use Rattle.page_seeking.specs.Refs.{IsOwnLink}
use Rattle.file_pages.proofs.releasing.read_after.Goals as goal

clash : {x : Page} → ◌≡◌ {A = Option Page} None (Some x) → ⊥
clash e = cc

pub returns-in-Err-clause-misled : goal.returns-in-Err-clause-misled
returns-in-Err-clause-misled g c p told follows full =
    let a = g.D.Tape.tape c.args.disk.now in
    let q = pack a in
    let page = c.args.page in
    let to = c.unwrap_or-to.result in
    let link = c.args.info.next in
    let taken = subst (λ (s : Shape). ((i : ℕ) → Links s link i → to ≡ i) × (0 < to → Links s link to)) c.shape-shape.ensures (taken_link c.shape-shape.result link to c.virtual_of.result c.virtual_of.ensures.some c.virtual_of.ensures.back c.unwrap_or-to.ensures) in
    at_wrong (ℕ × PageInfo) PageInfo (MisledSince p q page.fid) (FoundWrong (Carries to (page_after page)) to a (g.D.Tape.tape c.read_page.new.disk)) c.in-Err.error c.error_at.ensures (c.in-Err.ensures.guarded told).wrong
    (λ found wrong. link_misled_since p q page c.args.at c.args.info to found follows full taken.0 taken.1 wrong.failed wrong.label)

pub returns-then-to-eq0-clause-misled : goal.returns-then-to-eq0-clause-misled
returns-then-to-eq0-clause-misled g c p told follows full =
    let q = pack (g.D.Tape.tape c.args.disk.now) in
    let to = c.unwrap_or-to.result in
    let link = c.args.info.next in
    let taken = subst (λ (s : Shape). ((i : ℕ) → Links s link i → to ≡ i) × (0 < to → Links s link to)) c.shape-shape.ensures (taken_link c.shape-shape.result link to c.virtual_of.result c.virtual_of.ensures.some c.virtual_of.ensures.back c.unwrap_or-to.ensures) in
    let zeroth : to ≡ 0 = c.if-to-eq0.true in
    link_misled_since p q c.args.page c.args.at c.args.info to None follows full taken.0 taken.1 (λ e. clash (sym (ap (carried q) zeroth) ∙ e)) (sym (ap (label_found q) zeroth))

pub returns-in-Err-clause-want : goal.returns-in-Err-clause-want
returns-in-Err-clause-want g c told memory =
    let refused = memory_of c.in-Err.error _ _ _ _ c.error_at.ensures (memory_as (ℕ × PageInfo) (Unit {0}) c.error_at.result memory) in
    let less = ((c.in-Err.ensures.guarded told).want (refusal_as (Unit {0}) PageInfo c.in-Err.error refused)).less in
    absurd (omega (arith, less))

pub returns-in-Err-clause-link : goal.returns-in-Err-clause-link
returns-in-Err-clause-link g c =
    let page = c.args.page in
    wrong_at (ℕ × PageInfo) (λ place at wanted found. IsOwnLink page.fid place wanted) c.in-Err.error (Next c.args.at) c.args.info.next (page_after page) c.error_at.result c.error_at.ensures (λ found. record { followed = c.args.at; link = refl; own = refl; later = omega arith })

pub returns-then-to-eq0-clause-link : goal.returns-then-to-eq0-clause-link
returns-then-to-eq0-clause-link g c = record { followed = c.args.at; link = refl; own = refl; later = omega arith }
