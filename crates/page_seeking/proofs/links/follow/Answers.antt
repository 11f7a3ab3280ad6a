use Rattle.std.proofs.Common.{sym, [], arith, subst, refl}
use Rattle.disk_records.specs.declared.records.Place.TheVariants.{Next}
use Rattle.disk_records.specs.declared.shape.Shape.{Shape}
use Rattle.disk_records.specs.Tapes.{pack}
use Rattle.label_check.specs.declared.errors.PageInfo.{PageInfo}
use Rattle.label_check.specs.Guarded.{Carries, FoundWrong}
use Rattle.pack_model.specs.hints.Misled.{IsOnDisk}
use Rattle.page_seeking.specs.declared.seek.Found.{Found}
use Rattle.page_seeking.specs.Inside.{Known}
use Rattle.page_seeking.specs.Refs.{MisledBy, IsOwnLink}
use Rattle.page_seeking.specs.Seeking.{page_after}
use Rattle.page_seeking.proofs.Erring.{at_place, at_wrong}
use Rattle.page_seeking.proofs.Misleading.{link_misled, taken_link}
use Rattle.page_seeking.proofs.Seeking.{sought_missed, sought_noted}
use Rattle.page_seeking.proofs.OwnHints.{wrong_at}
use Rattle.page_seeking.proofs.links.follow.Goals as goal

pub returns-in-Ok-clause-sought : goal.returns-in-Ok-clause-sought
returns-in-Ok-clause-sought g c = sought_noted c.shape-shape.result c.shape-shape.ensures c.look_at.ensures.looks c.note_seen.ensures.refused c.note_seen.ensures.noted c.in-Ok.ensures.seen c.in-Ok.ensures.stands

pub returns-in-Err-clause-sought : goal.returns-in-Err-clause-sought
returns-in-Err-clause-sought g c = sought_missed c.args.cache.now c.look_at.ensures.looks

pub returns-in-Err-clause-misled : goal.returns-in-Err-clause-misled
returns-in-Err-clause-misled g c told known full =
    let old = g.D.Tape.tape c.args.disk.now in
    let page = c.args.page in
    let to = c.unwrap_or-at.result in
    let taken = taken_link c.shape-shape.result c.args.here.info.next to c.virtual_of.result c.virtual_of.ensures.some c.virtual_of.ensures.back c.unwrap_or-at.ensures in
    at_wrong Found PageInfo (MisledBy (pack old) [] page.fid) (FoundWrong (Carries to (page_after page)) to old (g.D.Tape.tape c.look_at.new.disk)) c.in-Err.error c.error_at.ensures (c.in-Err.ensures.wrong told)
    (λ found wrong. link_misled (pack old) c.shape-shape.result page c.args.here to found told c.shape-shape.ensures (subst (λ (s : Shape). Known g.D.Tape.told (pack old) s page c.args.here) (sym c.shape-shape.ensures) known) full taken.0 taken.1 wrong.failed wrong.label)

pub returns-in-Ok-clause-keeps : goal.returns-in-Ok-clause-keeps
returns-in-Ok-clause-keeps g c = c.note_seen.ensures.keeps c.args.page (omega arith)

pub returns-in-Err-clause-on_disk : goal.returns-in-Err-clause-on_disk
returns-in-Err-clause-on_disk g c = at_place Found IsOnDisk (Next c.args.here.at) c.args.here.info.next (page_after c.args.page) c.error_at.result c.in-Err.error c.error_at.ensures tt

pub returns-in-Err-clause-link : goal.returns-in-Err-clause-link
returns-in-Err-clause-link g c =
    let page = c.args.page in
    wrong_at Found (λ place at wanted found. IsOwnLink page.fid place wanted) c.in-Err.error (Next c.args.here.at) c.args.here.info.next (page_after page) c.error_at.result c.error_at.ensures (λ found. record { followed = c.args.here.at; link = refl; own = refl; later = omega arith })
