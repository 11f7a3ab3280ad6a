use Rattle.std.proofs.Common.{Err, subst, []}
use Rattle.disk_records.specs.Tapes.{pack}
use Rattle.page_seeking.specs.declared.seek.Found.{Found}
use Rattle.page_seeking.specs.Inside.{Finds}
use Rattle.page_seeking.proofs.Easing.{eases_of, finds_of, keeps_handy}
use Rattle.page_seeking.proofs.Ending.{end_is_length}
use Rattle.page_seeking.proofs.Erring.{if_beyond_map}
use Rattle.page_seeking.proofs.TrueLinks.{never_led}
use Rattle.page_seeking.proofs.pages.locate.Goals as goal

pub returns-in-Err-clause-beyond : goal.returns-in-Err-clause-beyond
returns-in-Err-clause-beyond g c told whole = if_beyond_map {T = Found} (Err c.in-Err.error) (c.in-Err.ensures.ends told) (λ n x. end_is_length (pack (g.D.Tape.tape c.args.disk.now)) c.args.file.now.fid c.args.number n whole x)

pub returns-in-Ok-clause-quick : goal.returns-in-Ok-clause-quick
returns-in-Ok-clause-quick g c told quick = c.in-Ok.ensures.quick c.in-Ok.found.at told (eases_of quick (c.in-Ok.ensures.found.stands told).carries)

pub returns-in-Ok-clause-row : goal.returns-in-Ok-clause-row
returns-in-Ok-clause-row g c told quick row = c.in-Ok.ensures.row c.in-Ok.found.at told (eases_of quick (c.in-Ok.ensures.found.stands told).carries) row

pub returns-in-Ok-clause-leader : goal.returns-in-Ok-clause-leader
returns-in-Ok-clause-leader g c told zeroth quick =
    let finds = finds_of quick (c.in-Ok.ensures.found.stands told).carries in
    c.in-Ok.ensures.leader c.in-Ok.found.at told zeroth (subst (λ n. Finds (pack (g.D.Tape.tape c.args.disk.now)) c.args.file.now.fid n c.in-Ok.found.at c.args.hints.now.cache) zeroth finds)

pub returns-in-Ok-clause-handy : goal.returns-in-Ok-clause-handy
returns-in-Ok-clause-handy g c told = keeps_handy c.seek_page.ensures.sought told

pub returns-in-Err-clause-handy : goal.returns-in-Err-clause-handy
returns-in-Err-clause-handy g c told = keeps_handy c.seek_page.ensures.sought told

pub returns-in-Err-clause-true_links : goal.returns-in-Err-clause-true_links
returns-in-Err-clause-true_links g c told stands links =
    never_led {T = Unit {0}} (pack (g.D.Tape.tape c.args.disk.now)) [] c.args.file.now.fid c.args.file.now (Err c.in-Err.error) (g.met.D.Disk.formed c.args.disk.now told) stands links (c.in-Err.ensures.misled told stands.from)
