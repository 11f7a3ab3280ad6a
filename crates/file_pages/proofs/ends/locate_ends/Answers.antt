use Rattle.std.proofs.Common.{Err, [], ap, arith, inr, refl, subst, sym, ℕ, Some, ◌∙◌, ◌≡◌}
use Rattle.disk_records.proofs.Looking.{looks_pack, looks_twice}
use Rattle.disk_records.specs.Packs.{Pack, carried}
use Rattle.disk_records.specs.Tapes.{pack}
use Rattle.disk_records.specs.Words.{word}
use Rattle.label_check.specs.declared.errors.PageInfo.{PageInfo}
use Rattle.pack_model.specs.hints.Handy.{leader_word}
use Rattle.pack_model.specs.reading.Sights.{sights}
use Rattle.page_seeking.proofs.Erring.{if_misled_map}
use Rattle.page_seeking.proofs.Lasting.{names_end, near_of_last}
use Rattle.page_seeking.proofs.Listing.{is_listed, listed_since}
use Rattle.page_seeking.proofs.Parting.{few_bytes}
use Rattle.page_seeking.specs.Refs.{FileIsFrom, IfMisled, MisledBy}
use Rattle.page_seeking.specs.Seeking.{page_number}
use Rattle.page_seeking.specs.declared.ends.LastPage.{LastPage}
use Rattle.file_pages.proofs.Erring.{never_past}
use Rattle.file_pages.proofs.FileEnds.{last_is_short, last_of, page_before}
use Rattle.file_pages.proofs.NotedHandy.{noted_handy, noted_listed}
use Rattle.file_pages.proofs.Valued.{keeps_handy_twice}
use Rattle.file_pages.proofs.ends.locate_ends.Goals as goal

-- ---- the page that the leader names is there
pub returns-in-Ok-end_from-clause-end : goal.returns-in-Ok-end_from-clause-end
returns-in-Ok-end_from-clause-end g c told whole =
    let end = c.in-Ok-end_from.ensures in
    last_of whole told (page_before (looks_twice 54 c.locate.ensures.looks c.data_page_at.ensures.looks (omega arith)) end.page) end.ends

pub returns-in-Ok-end_from-clause-looks : goal.returns-in-Ok-end_from-clause-looks
returns-in-Ok-end_from-clause-looks g c = looks_twice 65640 (looks_twice 54 c.locate.ensures.looks c.data_page_at.ensures.looks (omega arith)) c.end_from.ensures.looks (omega arith)

-- where it is the last, nothing else is looked at
pub returns-in-Ok-end_from-clause-quick : goal.returns-in-Ok-end_from-clause-quick
returns-in-Ok-end_from-clause-quick g c told quick last =
    let near = near_of_last last in
    let names = names_end quick.whole (c.in-Ok.ensures.stands told) near in
    let leader : near.leader_at ≡ last.leader_at = cc (near.leader, last.leader) in
    let number = rw c.in-Ok-Some.field-0-is at c.in-Ok-Some.ensures.number in
    let is = names.number ∙ ap (λ at. leader_word (pack (g.D.Tape.tape c.args.disk.now)) at 254) leader ∙ last.number in
    let named = page_before c.locate.ensures.looks (rw c.in-Ok-Some.field-0-is at c.in-Ok-Some.ensures.page) in
    let first = c.in-Ok.ensures.quick told quick in
    let second = c.data_page_at.ensures.looks.runs told in
    let third = c.in-Ok-end_from.ensures.quick told (last_is_short quick.whole told named (number ∙ is)) in
    omega (arith, first, second, third)

-- one command for each page after it, and one for the page that is listed
pub returns-in-Ok-end_from-clause-climbs : goal.returns-in-Ok-end_from-clause-climbs
returns-in-Ok-end_from-clause-climbs g c more told quick near =
    let end = c.in-Ok-end_from.ensures in
    let is = last_of quick.whole told (page_before (looks_twice 54 c.locate.ensures.looks c.data_page_at.ensures.looks (omega arith)) end.page) end.ends in
    let names = names_end quick.whole (c.in-Ok.ensures.stands told) near in
    let number = rw c.in-Ok-Some.field-0-is at c.in-Ok-Some.ensures.number in
    let same = names.number in
    let last = is.number in
    let most = near.near in
    let first = c.in-Ok.ensures.leader told refl quick in
    let second = c.data_page_at.ensures.looks.runs told in
    let third = end.climbs told in
    omega (arith, first, second, third, number, same, last, most)

pub returns-in-Ok-end_from-clause-handy : goal.returns-in-Ok-end_from-clause-handy
returns-in-Ok-end_from-clause-handy g c told =
    let p = pack (g.D.Tape.tape c.args.disk.now) in
    let page = page_before (looks_twice 54 c.locate.ensures.looks c.data_page_at.ensures.looks (omega arith)) c.in-Ok-end_from.ensures.page in
    noted_handy p c.args.hints.now.cache (page.known told).carries (λ whole links f handy. c.end_from.ensures.handy (sights p) f (c.locate.ensures.handy told whole links f handy)) (rw c.page_of_file.ensures at c.note_one.ensures)

pub returns-in-Ok-end_from-clause-listed : goal.returns-in-Ok-end_from-clause-listed
returns-in-Ok-end_from-clause-listed g c =
    let page = page_before (looks_twice 54 c.locate.ensures.looks c.data_page_at.ensures.looks (omega arith)) c.in-Ok-end_from.ensures.page in
    record {
      ends = c.in-Ok-end_from.ensures.ends;
      most = page.most;
      listed = noted_listed (pack (g.D.Tape.tape c.args.disk.now)) c.args.hints.now.cache (omega (arith, c.locate.ensures.refused, c.end_from.ensures.refused)) (λ told. (page.known told).carries) (rw c.page_of_file.ensures at c.note_one.ensures);
    }

pub returns-in-Err-end_from-clause-looks : goal.returns-in-Err-end_from-clause-looks
returns-in-Err-end_from-clause-looks g c = looks_twice 65640 (looks_twice 54 c.locate.ensures.looks c.data_page_at.ensures.looks (omega arith)) c.end_from.ensures.looks (omega arith)

pub returns-in-Err-end_from-clause-misled : goal.returns-in-Err-end_from-clause-misled
returns-in-Err-end_from-clause-misled g c told stands =
    let same = looks_pack (looks_twice 54 c.locate.ensures.looks c.data_page_at.ensures.looks (omega arith)) told in
    subst (λ (q : Pack). IfMisled {T = ℕ × LastPage} (Err c.in-Err-end_from.error) (MisledBy q [] c.args.file.now.fid)) same (c.in-Err-end_from.ensures.misled told)

pub returns-in-Err-end_from-clause-hint : goal.returns-in-Err-end_from-clause-hint
returns-in-Err-end_from-clause-hint g c = if_misled_map {T = ℕ × LastPage} (Err c.in-Err-end_from.error) c.in-Err-end_from.ensures.link (λ place at wanted found x. inr x)

pub returns-in-Err-end_from-clause-handy : goal.returns-in-Err-end_from-clause-handy
returns-in-Err-end_from-clause-handy g c told whole links f handy = c.end_from.ensures.handy (sights (pack (g.D.Tape.tape c.args.disk.now))) f (c.locate.ensures.handy told whole links f handy)

-- ---- it isn't there
pub returns-in-Err-data_page_at-clause-looks : goal.returns-in-Err-data_page_at-clause-looks
returns-in-Err-data_page_at-clause-looks g c = looks_twice 65640 c.locate.ensures.looks c.data_page_at.ensures.looks (omega arith)

pub returns-in-Ok-last_page-clause-looks : goal.returns-in-Ok-last_page-clause-looks
returns-in-Ok-last_page-clause-looks g c = looks_twice 65640 (looks_twice 54 c.locate.ensures.looks c.data_page_at.ensures.looks (omega arith)) c.last_page.ensures.looks (omega arith)

pub returns-in-Err-last_page-clause-looks : goal.returns-in-Err-last_page-clause-looks
returns-in-Err-last_page-clause-looks g c = looks_twice 65640 (looks_twice 54 c.locate.ensures.looks c.data_page_at.ensures.looks (omega arith)) c.last_page.ensures.looks (omega arith)

-- a page that the leader names is found where it says
pub returns-in-Ok-last_page-clause-quick : goal.returns-in-Ok-last_page-clause-quick
returns-in-Ok-last_page-clause-quick g c told quick last =
    let f = c.args.file.now.fid in
    let leader = c.locate.new.buf.value in
    let names = names_end quick.whole (c.in-Ok.ensures.stands told) (near_of_last last) in
    let same = names.number in
    let some = names.first in
    let there : carried (pack (g.D.Tape.tape c.locate.new.disk)) (word leader 253) ≡ Some (page_number f (word leader 254)) = ap (λ (q : Pack). carried q (word leader 253)) (looks_pack c.locate.ensures.looks told) ∙ names.carries ∙ ap (λ n. Some (page_number f n)) (sym same) in
    absurd (c.in-Ok-None.ensures.there told (omega (arith, some, same)) there c.in-Ok-None.field-0-is)

pub returns-in-Ok-last_page-clause-climbs : goal.returns-in-Ok-last_page-clause-climbs
returns-in-Ok-last_page-clause-climbs g c more told quick near =
    let f = c.args.file.now.fid in
    let leader = c.locate.new.buf.value in
    let names = names_end quick.whole (c.in-Ok.ensures.stands told) near in
    let same = names.number in
    let some = names.first in
    let there : carried (pack (g.D.Tape.tape c.locate.new.disk)) (word leader 253) ≡ Some (page_number f (word leader 254)) = ap (λ (q : Pack). carried q (word leader 253)) (looks_pack c.locate.ensures.looks told) ∙ names.carries ∙ ap (λ n. Some (page_number f n)) (sym same) in
    absurd (c.in-Ok-None.ensures.there told (omega (arith, some, same)) there c.in-Ok-None.field-0-is)

pub returns-in-Ok-last_page-clause-handy : goal.returns-in-Ok-last_page-clause-handy
returns-in-Ok-last_page-clause-handy g c told =
    keeps_handy_twice c.args.hints.now.cache c.locate.new.hints.cache c.last_page.new.hints.cache (looks_twice 54 c.locate.ensures.looks c.data_page_at.ensures.looks (omega arith)) told (c.locate.ensures.handy told) (c.last_page.ensures.handy told)

pub returns-in-Err-last_page-clause-handy : goal.returns-in-Err-last_page-clause-handy
returns-in-Err-last_page-clause-handy g c told =
    keeps_handy_twice c.args.hints.now.cache c.locate.new.hints.cache c.last_page.new.hints.cache (looks_twice 54 c.locate.ensures.looks c.data_page_at.ensures.looks (omega arith)) told (c.locate.ensures.handy told) (c.last_page.ensures.handy told)

pub returns-in-Err-last_page-clause-misled : goal.returns-in-Err-last_page-clause-misled
returns-in-Err-last_page-clause-misled g c told stands =
    let same = looks_pack (looks_twice 54 c.locate.ensures.looks c.data_page_at.ensures.looks (omega arith)) told in
    subst (λ (q : Pack). IfMisled {T = ℕ × LastPage} (Err c.in-Err-last_page.error) (MisledBy q [] c.args.file.now.fid)) same
    (c.in-Err-last_page.ensures.misled told (subst (λ (q : Pack). FileIsFrom q c.args.file.now) (sym same) stands.from))

pub returns-in-Ok-last_page-clause-listed : goal.returns-in-Ok-last_page-clause-listed
returns-in-Ok-last_page-clause-listed g c = record {
  ends = c.in-Ok-last_page.ensures.ends;
  most = few_bytes c.in-Ok-last_page.ensures.seen;
  listed = listed_since c.args.hints.now.cache c.locate.new.hints.cache c.last_page.new.hints.cache (looks_twice 54 c.locate.ensures.looks c.data_page_at.ensures.looks (omega arith)) c.locate.ensures.refused (is_listed g.D.Tape.told (pack (g.D.Tape.tape c.data_page_at.new.disk)) c.in-Ok-last_page.ensures.listed (λ told. (c.in-Ok-last_page.ensures.stands told).carries));
}

-- ---- no leader was found
pub returns-in-Err-clause-cause : goal.returns-in-Err-clause-cause
returns-in-Err-clause-cause g c = never_past (ℕ × PageInfo) (g.D.Tape.tape c.args.disk.now) (g.D.Tape.tape c.locate.new.disk) c.in-Err.error c.in-Err.ensures.cause (c.in-Err.ensures.never_beyond (omega arith))
