use Rattle.std.proofs.Common.{All, List, Bool, Ok, Err, [], ap, arith, length, refl, subst, sym, ◌∙◌, ◌≡◌, inl, inr}
use Rattle.disk_records.proofs.Growing.{alone_twice, pack-silent}
use Rattle.disk_records.specs.Addresses.{pages_of}
use Rattle.disk_records.specs.Packs.{Pack}
use Rattle.disk_records.specs.Tapes.{pack}
use Rattle.disk_records.specs.declared.shape.Shape.{Shape}
use Rattle.laws_call.specs.Acting.{IsQuiet, around, Operates, refused}
use Rattle.page_seeking.specs.Refs.{MisledBy}
use Rattle.page_seeking.specs.Seeking.{Seen, Stands, page_number}
use Rattle.page_seeking.specs.declared.ends.LastPage.{LastPage}
use Rattle.page_seeking.specs.declared.refs.FileError.TheVariants as error
use Rattle.pack_model.specs.states.Whole.{Tidy, Whole}
use Rattle.file_pages.specs.Growing.{Grew, IsSector, MayBeGrown}
use Rattle.page_seeking.specs.Seeking.{IsLast}
use Rattle.file_pages.proofs.Erring.{any_misled, cause_after, memory_too, none_misled}
use Rattle.file_pages.proofs.FreeSectors.{free_are_sectors}
use Rattle.file_pages.proofs.GrownEnd.{grown_highest}
use Rattle.file_pages.proofs.GrownHandy.{grown_handy, named_still}
use Rattle.file_pages.proofs.GrowthAfter.{nothing_written, written_after}
use Rattle.file_pages.proofs.LastLabel.{label_says}
use Rattle.file_pages.proofs.Sequel.{silent_before}
use Rattle.page_seeking.proofs.TrueLinks.{never_led}
use Rattle.disk_records.specs.declared.records.Page.{Page}
use Rattle.hint_cache.specs.Caches.{Cached, address_in}
use Rattle.page_seeking.proofs.Erring.{if_misled_map}
use Rattle.page_seeking.proofs.Listing.{is_listed}
use Rattle.file_pages.proofs.Gone.{listed_still}
use Rattle.file_pages.proofs.NewListed.{fresh_since, given_or_last}
use Rattle.disk_records.proofs.Framing.{writes_silent}
use Rattle.disk_records.specs.Frames.{IsFreeSector}
use Rattle.disk_records.specs.Tapes.{added}
use Rattle.file_pages.specs.Growing.{IsEndOrFree}
use Rattle.file_pages.proofs.Framed.{end_of, grown_here}
use Rattle.file_pages.proofs.growing.grow.Goals as goal

pub returns-in-Err-clause-operates : goal.returns-in-Err-clause-operates
returns-in-Err-clause-operates g c o told stands may =
    refused (record { silent = c.last_page.ensures.looks.silent told; bits = c.last_page.ensures.table; tally = refl }) tt (λ memory. c.in-Err.ensures.want told (memory_too LastPage c.in-Err.error memory))

pub returns-in-Err-clause-grows : goal.returns-in-Err-clause-grows
returns-in-Err-clause-grows g c o at told stands may here = nothing_written _ _ c.in-Err.error (c.last_page.ensures.looks.silent told)

pub returns-in-Err-clause-misled : goal.returns-in-Err-clause-misled
returns-in-Err-clause-misled g c o told stands may = c.in-Err.ensures.misled told stands.from

-- every address is a sector's
pub returns-in-Some-clause-operates : goal.returns-in-Some-clause-operates
returns-in-Some-clause-operates g c o told stands may =
    let form = c.shape.ensures ∙ c.last_page.ensures.looks.alone.grown.form in
    absurd (c.in-Some.ensures.some (subst (λ (s : Shape). All (IsSector s) c.args.fresh.now) (sym form) (free_are_sectors (pack (g.D.Tape.tape c.args.disk.now)) c.args.fresh.now may.free)))

pub returns-in-Some-clause-grows : goal.returns-in-Some-clause-grows
returns-in-Some-clause-grows g c o at told stands may here =
    let form = c.shape.ensures ∙ c.last_page.ensures.looks.alone.grown.form in
    absurd (c.in-Some.ensures.some (subst (λ (s : Shape). All (IsSector s) c.args.fresh.now) (sym form) (free_are_sectors (pack (g.D.Tape.tape c.args.disk.now)) c.args.fresh.now may.free)))

pub returns-in-Some-clause-misled : goal.returns-in-Some-clause-misled
returns-in-Some-clause-misled g c o told stands may =
    let form = c.shape.ensures ∙ c.last_page.ensures.looks.alone.grown.form in
    absurd (c.in-Some.ensures.some (subst (λ (s : Shape). All (IsSector s) c.args.fresh.now) (sym form) (free_are_sectors (pack (g.D.Tape.tape c.args.disk.now)) c.args.fresh.now may.free)))

pub grow_pages-grown-requires-clause-sized : goal.grow_pages-grown-requires-clause-sized
grow_pages-grown-requires-clause-sized g c = ap length c.last_page.ensures.table ∙ c.requires.sized ∙ ap (λ (s : Shape). pages_of s) (sym c.last_page.ensures.looks.alone.grown.form)

pub grow_pages-grown-requires-clause-seen : goal.grow_pages-grown-requires-clause-seen
grow_pages-grown-requires-clause-seen g c =
    subst (λ (s : Shape). Seen s (page_number c.args.file.now.fid c.in-Ok.last.number) c.in-Ok.last.at c.in-Ok.last.info c.last_page.new.buf) (sym c.last_page.ensures.looks.alone.grown.form) c.in-Ok.ensures.seen

pub grow_pages-grown-requires-clause-full_name : goal.grow_pages-grown-requires-clause-full_name
grow_pages-grown-requires-clause-full_name g c = (label_says c.last_page.new.buf.label (page_number c.args.file.now.fid c.in-Ok.last.number) c.in-Ok.ensures.seen.holds.names).0

pub grow_pages-grown-requires-clause-few : goal.grow_pages-grown-requires-clause-few
grow_pages-grown-requires-clause-few g c =
    let few = (label_says c.last_page.new.buf.label (page_number c.args.file.now.fid c.in-Ok.last.number) c.in-Ok.ensures.seen.holds.names).1 in
    let tells = ap (λ i. i.bytes) c.in-Ok.ensures.seen.tells in
    omega (arith, few, tells)

pub grow_pages-grown-requires-clause-sectors : goal.grow_pages-grown-requires-clause-sectors
grow_pages-grown-requires-clause-sectors g c = subst (λ (s : Shape). All (IsSector s) c.args.fresh.now) c.shape.ensures c.in-None.ensures.none

pub note_pages-requires : goal.note_pages-requires
note_pages-requires g c = record { few = rw c.in-Ok-grown.is at c.grow_pages-grown.ensures.few }

pub returns-in-Ok-grown-clause-operates : goal.returns-in-Ok-grown-clause-operates
returns-in-Ok-grown-clause-operates g c o told stands may =
    let a = g.D.Tape.tape c.args.disk.now in
    let b = g.D.Tape.tape c.last_page.new.disk in
    let d = g.D.Tape.tape c.grow_pages-grown.new.disk in
    let fid = c.args.file.now.fid in
    let last = c.in-Ok.last in
    let looks = c.last_page.ensures.looks in
    let silent = looks.silent told in
    let packs : pack a ≡ pack b = sym (pack-silent looks.alone.grown silent) in
    let whole = subst (λ (p : Pack). Whole p) packs stands.whole in
    let tidy = subst (λ (p : Pack). Tidy p) packs stands.tidy in
    let there = subst (λ (p : Pack). Stands p (page_number fid last.number) last.at c.last_page.new.buf) packs (c.in-Ok.ensures.stands told) in
    let is = subst (λ (p : Pack). IsLast p fid last) packs (c.in-Ok.ensures.last told stands.whole) in
    let may_then = subst (λ (p : Pack). MayBeGrown p o fid c.args.bytes.now c.args.past.now c.args.fresh.now) packs may in
    let operates = (rw c.in-Ok-grown.is at (c.grow_pages-grown.ensures.operates o told whole tidy there is may_then)).operates in
    subst (λ (l : List Bool). Operates {T = Unit {0}} error.DiskFault error.Memory o c.args.fresh.now (around a l c.args.tally.now) (around d c.grow_pages-grown.new.table c.grow_pages-grown.new.tally) (Ok tt)) c.last_page.ensures.table
    (silent_before _ _ _ _ _ _ a b d looks.alone c.grow_pages-grown.ensures.alone silent (g.met.D.Disk.counted c.args.disk.now told) (g.met.D.Disk.counted c.last_page.new.disk told) c.last_page.new.hints.table c.grow_pages-grown.new.table c.args.tally.now c.grow_pages-grown.new.tally (Ok tt) operates)

pub returns-in-Err-grown-clause-operates : goal.returns-in-Err-grown-clause-operates
returns-in-Err-grown-clause-operates g c o told stands may =
    let a = g.D.Tape.tape c.args.disk.now in
    let b = g.D.Tape.tape c.last_page.new.disk in
    let d = g.D.Tape.tape c.grow_pages-grown.new.disk in
    let fid = c.args.file.now.fid in
    let last = c.in-Ok.last in
    let looks = c.last_page.ensures.looks in
    let silent = looks.silent told in
    let packs : pack a ≡ pack b = sym (pack-silent looks.alone.grown silent) in
    let whole = subst (λ (p : Pack). Whole p) packs stands.whole in
    let tidy = subst (λ (p : Pack). Tidy p) packs stands.tidy in
    let there = subst (λ (p : Pack). Stands p (page_number fid last.number) last.at c.last_page.new.buf) packs (c.in-Ok.ensures.stands told) in
    let is = subst (λ (p : Pack). IsLast p fid last) packs (c.in-Ok.ensures.last told stands.whole) in
    let may_then = subst (λ (p : Pack). MayBeGrown p o fid c.args.bytes.now c.args.past.now c.args.fresh.now) packs may in
    let operates = (rw c.in-Err-grown.is at (c.grow_pages-grown.ensures.operates o told whole tidy there is may_then)).operates in
    subst (λ (l : List Bool). Operates {T = Unit {0}} error.DiskFault error.Memory o c.args.fresh.now (around a l c.args.tally.now) (around d c.grow_pages-grown.new.table c.grow_pages-grown.new.tally) (Err c.in-Err-grown.error)) c.last_page.ensures.table
    (silent_before _ _ _ _ _ _ a b d looks.alone c.grow_pages-grown.ensures.alone silent (g.met.D.Disk.counted c.args.disk.now told) (g.met.D.Disk.counted c.last_page.new.disk told) c.last_page.new.hints.table c.grow_pages-grown.new.table c.args.tally.now c.grow_pages-grown.new.tally (Err c.in-Err-grown.error) operates)

pub returns-in-Ok-grown-clause-grows : goal.returns-in-Ok-grown-clause-grows
returns-in-Ok-grown-clause-grows g c o at told stands may here =
    let a = g.D.Tape.tape c.args.disk.now in
    let b = g.D.Tape.tape c.last_page.new.disk in
    let d = g.D.Tape.tape c.grow_pages-grown.new.disk in
    let fid = c.args.file.now.fid in
    let last = c.in-Ok.last in
    let looks = c.last_page.ensures.looks in
    let silent = looks.silent told in
    let packs : pack a ≡ pack b = sym (pack-silent looks.alone.grown silent) in
    let whole = subst (λ (p : Pack). Whole p) packs stands.whole in
    let tidy = subst (λ (p : Pack). Tidy p) packs stands.tidy in
    let there = subst (λ (p : Pack). Stands p (page_number fid last.number) last.at c.last_page.new.buf) packs (c.in-Ok.ensures.stands told) in
    let last_is = c.in-Ok.ensures.last told stands.whole in
    let is = subst (λ (p : Pack). IsLast p fid last) packs last_is in
    let may_then = subst (λ (p : Pack). MayBeGrown p o fid c.args.bytes.now c.args.past.now c.args.fresh.now) packs may in
    let writes = (rw c.in-Ok-grown.is at (c.grow_pages-grown.ensures.operates o told whole tidy there is may_then)).writes in
    written_after a b d looks.alone c.grow_pages-grown.ensures.alone silent fid last last_is at here c.args.bytes.now c.args.past.now c.args.fresh.now (Ok tt) writes

pub returns-in-Err-grown-clause-grows : goal.returns-in-Err-grown-clause-grows
returns-in-Err-grown-clause-grows g c o at told stands may here =
    let a = g.D.Tape.tape c.args.disk.now in
    let b = g.D.Tape.tape c.last_page.new.disk in
    let d = g.D.Tape.tape c.grow_pages-grown.new.disk in
    let fid = c.args.file.now.fid in
    let last = c.in-Ok.last in
    let looks = c.last_page.ensures.looks in
    let silent = looks.silent told in
    let packs : pack a ≡ pack b = sym (pack-silent looks.alone.grown silent) in
    let whole = subst (λ (p : Pack). Whole p) packs stands.whole in
    let tidy = subst (λ (p : Pack). Tidy p) packs stands.tidy in
    let there = subst (λ (p : Pack). Stands p (page_number fid last.number) last.at c.last_page.new.buf) packs (c.in-Ok.ensures.stands told) in
    let last_is = c.in-Ok.ensures.last told stands.whole in
    let is = subst (λ (p : Pack). IsLast p fid last) packs last_is in
    let may_then = subst (λ (p : Pack). MayBeGrown p o fid c.args.bytes.now c.args.past.now c.args.fresh.now) packs may in
    let writes = (rw c.in-Err-grown.is at (c.grow_pages-grown.ensures.operates o told whole tidy there is may_then)).writes in
    written_after a b d looks.alone c.grow_pages-grown.ensures.alone silent fid last last_is at here c.args.bytes.now c.args.past.now c.args.fresh.now (Err c.in-Err-grown.error) writes

pub returns-in-Err-grown-clause-misled : goal.returns-in-Err-grown-clause-misled
returns-in-Err-grown-clause-misled g c o told stands may =
    let a = g.D.Tape.tape c.args.disk.now in
    let b = g.D.Tape.tape c.last_page.new.disk in
    let d = g.D.Tape.tape c.grow_pages-grown.new.disk in
    let fid = c.args.file.now.fid in
    let last = c.in-Ok.last in
    let looks = c.last_page.ensures.looks in
    let silent = looks.silent told in
    let packs : pack a ≡ pack b = sym (pack-silent looks.alone.grown silent) in
    let whole = subst (λ (p : Pack). Whole p) packs stands.whole in
    let tidy = subst (λ (p : Pack). Tidy p) packs stands.tidy in
    let there = subst (λ (p : Pack). Stands p (page_number fid last.number) last.at c.last_page.new.buf) packs (c.in-Ok.ensures.stands told) in
    let is = subst (λ (p : Pack). IsLast p fid last) packs (c.in-Ok.ensures.last told stands.whole) in
    let may_then = subst (λ (p : Pack). MayBeGrown p o fid c.args.bytes.now c.args.past.now c.args.fresh.now) packs may in
    none_misled (MisledBy (pack a) [] fid) c.in-Err-grown.error (rw c.in-Err-grown.is at (c.grow_pages-grown.ensures.misled o told whole tidy there is may_then))

pub returns-in-Ok-grown-clause-quick : goal.returns-in-Ok-grown-clause-quick
returns-in-Ok-grown-clause-quick g c o told stands may quick named =
    let a = g.D.Tape.tape c.args.disk.now in
    let b = g.D.Tape.tape c.last_page.new.disk in
    let d = g.D.Tape.tape c.grow_pages-grown.new.disk in
    let fid = c.args.file.now.fid in
    let last = c.in-Ok.last in
    let looks = c.last_page.ensures.looks in
    let silent = looks.silent told in
    let packs : pack a ≡ pack b = sym (pack-silent looks.alone.grown silent) in
    let whole = subst (λ (p : Pack). Whole p) packs stands.whole in
    let tidy = subst (λ (p : Pack). Tidy p) packs stands.tidy in
    let there = subst (λ (p : Pack). Stands p (page_number fid last.number) last.at c.last_page.new.buf) packs (c.in-Ok.ensures.stands told) in
    let is = subst (λ (p : Pack). IsLast p fid last) packs (c.in-Ok.ensures.last told stands.whole) in
    let may_then = subst (λ (p : Pack). MayBeGrown p o fid c.args.bytes.now c.args.past.now c.args.fresh.now) packs may in
    let first = c.in-Ok.ensures.quick told quick named in
    let second = c.grow_pages-grown.ensures.runs o told whole tidy there is may_then in
    omega (arith, first, second)

pub returns-in-Ok-grown-clause-near : goal.returns-in-Ok-grown-clause-near
returns-in-Ok-grown-clause-near g c o told stands may quick listed =
    let a = g.D.Tape.tape c.args.disk.now in
    let b = g.D.Tape.tape c.last_page.new.disk in
    let d = g.D.Tape.tape c.grow_pages-grown.new.disk in
    let fid = c.args.file.now.fid in
    let last = c.in-Ok.last in
    let looks = c.last_page.ensures.looks in
    let silent = looks.silent told in
    let packs : pack a ≡ pack b = sym (pack-silent looks.alone.grown silent) in
    let whole = subst (λ (p : Pack). Whole p) packs stands.whole in
    let tidy = subst (λ (p : Pack). Tidy p) packs stands.tidy in
    let there = subst (λ (p : Pack). Stands p (page_number fid last.number) last.at c.last_page.new.buf) packs (c.in-Ok.ensures.stands told) in
    let is = subst (λ (p : Pack). IsLast p fid last) packs (c.in-Ok.ensures.last told stands.whole) in
    let may_then = subst (λ (p : Pack). MayBeGrown p o fid c.args.bytes.now c.args.past.now c.args.fresh.now) packs may in
    let first = c.in-Ok.ensures.near told quick listed in
    let second = c.grow_pages-grown.ensures.runs o told whole tidy there is may_then in
    omega (arith, first, second)

pub returns-in-Ok-grown-clause-handy : goal.returns-in-Ok-grown-clause-handy
returns-in-Ok-grown-clause-handy g c o told stands may =
    let a = g.D.Tape.tape c.args.disk.now in
    let b = g.D.Tape.tape c.last_page.new.disk in
    let d = g.D.Tape.tape c.grow_pages-grown.new.disk in
    let fid = c.args.file.now.fid in
    let last = c.in-Ok.last in
    let looks = c.last_page.ensures.looks in
    let silent = looks.silent told in
    let packs : pack a ≡ pack b = sym (pack-silent looks.alone.grown silent) in
    let whole = subst (λ (p : Pack). Whole p) packs stands.whole in
    let tidy = subst (λ (p : Pack). Tidy p) packs stands.tidy in
    let there = subst (λ (p : Pack). Stands p (page_number fid last.number) last.at c.last_page.new.buf) packs (c.in-Ok.ensures.stands told) in
    let is = subst (λ (p : Pack). IsLast p fid last) packs (c.in-Ok.ensures.last told stands.whole) in
    let may_then = subst (λ (p : Pack). MayBeGrown p o fid c.args.bytes.now c.args.past.now c.args.fresh.now) packs may in
    let grew = subst (λ (p : Pack). Grew p (pack d) fid last.number c.args.fresh.now) (sym packs) (rw c.in-Ok-grown.is at (c.grow_pages-grown.ensures.grew o told whole tidy there is may_then)) in
    grown_handy (pack a) (pack d) fid last.number c.args.fresh.now grew c.args.hints.now.cache c.last_page.new.hints.cache c.note_pages.new.cache (c.last_page.ensures.handy told) c.last_page.ensures.refused c.note_pages.ensures.notes

pub returns-in-Ok-grown-clause-highest : goal.returns-in-Ok-grown-clause-highest
returns-in-Ok-grown-clause-highest g c o told stands may low =
    let a = g.D.Tape.tape c.args.disk.now in
    let b = g.D.Tape.tape c.last_page.new.disk in
    let d = g.D.Tape.tape c.grow_pages-grown.new.disk in
    let fid = c.args.file.now.fid in
    let last = c.in-Ok.last in
    let looks = c.last_page.ensures.looks in
    let silent = looks.silent told in
    let packs : pack a ≡ pack b = sym (pack-silent looks.alone.grown silent) in
    let whole = subst (λ (p : Pack). Whole p) packs stands.whole in
    let tidy = subst (λ (p : Pack). Tidy p) packs stands.tidy in
    let there = subst (λ (p : Pack). Stands p (page_number fid last.number) last.at c.last_page.new.buf) packs (c.in-Ok.ensures.stands told) in
    let is = subst (λ (p : Pack). IsLast p fid last) packs (c.in-Ok.ensures.last told stands.whole) in
    let may_then = subst (λ (p : Pack). MayBeGrown p o fid c.args.bytes.now c.args.past.now c.args.fresh.now) packs may in
    let grew = subst (λ (p : Pack). Grew p (pack d) fid last.number c.args.fresh.now) (sym packs) (rw c.in-Ok-grown.is at (c.grow_pages-grown.ensures.grew o told whole tidy there is may_then)) in
    let last_is = c.in-Ok.ensures.last told stands.whole in
    let ends = grew.ends in
    let highest = c.in-Ok.ensures.highest told stands.whole (omega (arith, ends, low)) in
    grown_highest (pack a) (pack d) fid last c.args.hints.now.cache c.last_page.new.hints.cache c.note_pages.new.cache c.args.fresh.now grew last_is c.last_page.ensures.refused c.note_pages.ensures.refused highest c.note_pages.ensures.notes c.note_pages.ensures.listed c.note_pages.ensures.none low

pub returns-in-Ok-grown-clause-named : goal.returns-in-Ok-grown-clause-named
returns-in-Ok-grown-clause-named g c o more told stands may near =
    let a = g.D.Tape.tape c.args.disk.now in
    let b = g.D.Tape.tape c.last_page.new.disk in
    let d = g.D.Tape.tape c.grow_pages-grown.new.disk in
    let fid = c.args.file.now.fid in
    let last = c.in-Ok.last in
    let looks = c.last_page.ensures.looks in
    let silent = looks.silent told in
    let packs : pack a ≡ pack b = sym (pack-silent looks.alone.grown silent) in
    let whole = subst (λ (p : Pack). Whole p) packs stands.whole in
    let tidy = subst (λ (p : Pack). Tidy p) packs stands.tidy in
    let there = subst (λ (p : Pack). Stands p (page_number fid last.number) last.at c.last_page.new.buf) packs (c.in-Ok.ensures.stands told) in
    let is = subst (λ (p : Pack). IsLast p fid last) packs (c.in-Ok.ensures.last told stands.whole) in
    let may_then = subst (λ (p : Pack). MayBeGrown p o fid c.args.bytes.now c.args.past.now c.args.fresh.now) packs may in
    let grew = subst (λ (p : Pack). Grew p (pack d) fid last.number c.args.fresh.now) (sym packs) (rw c.in-Ok-grown.is at (c.grow_pages-grown.ensures.grew o told whole tidy there is may_then)) in
    named_still stands.whole grew (c.in-Ok.ensures.last told stands.whole).number near

pub returns-in-Ok-grown-clause-alone : goal.returns-in-Ok-grown-clause-alone
returns-in-Ok-grown-clause-alone g c = alone_twice c.last_page.ensures.looks.alone c.grow_pages-grown.ensures.alone

pub returns-in-Err-grown-clause-alone : goal.returns-in-Err-grown-clause-alone
returns-in-Err-grown-clause-alone g c = alone_twice c.last_page.ensures.looks.alone c.grow_pages-grown.ensures.alone

pub returns-in-Err-grown-clause-cause : goal.returns-in-Err-grown-clause-cause
returns-in-Err-grown-clause-cause g c =
    let less = c.in-Ok.ensures.cause in
    cause_after (g.D.Tape.tape c.args.disk.now) (g.D.Tape.tape c.last_page.new.disk) (g.D.Tape.tape c.grow_pages-grown.new.disk) c.in-Err-grown.error less (rw c.in-Err-grown.is at c.grow_pages-grown.ensures.cause)

pub returns-in-Some-clause-true_links : goal.returns-in-Some-clause-true_links
returns-in-Some-clause-true_links g c o told stands may links =
    let form = c.shape.ensures ∙ c.last_page.ensures.looks.alone.grown.form in
    absurd (c.in-Some.ensures.some (subst (λ (s : Shape). All (IsSector s) c.args.fresh.now) (sym form) (free_are_sectors (pack (g.D.Tape.tape c.args.disk.now)) c.args.fresh.now may.free)))

pub returns-in-Err-clause-true_links : goal.returns-in-Err-clause-true_links
returns-in-Err-clause-true_links g c o told stands may links =
    never_led {T = Unit {0}} (pack (g.D.Tape.tape c.args.disk.now)) [] c.args.file.now.fid c.args.file.now (Err c.in-Err.error) (g.met.D.Disk.formed c.args.disk.now told) stands links (c.in-Err.ensures.misled told stands.from)

pub returns-in-Err-grown-clause-true_links : goal.returns-in-Err-grown-clause-true_links
returns-in-Err-grown-clause-true_links g c o told stands may links =
    never_led {T = Unit {0}} (pack (g.D.Tape.tape c.args.disk.now)) [] c.args.file.now.fid c.args.file.now (Err c.in-Err-grown.error) (g.met.D.Disk.formed c.args.disk.now told) stands links (returns-in-Err-grown-clause-misled g c o told stands may)

pub returns-in-Err-clause-given : goal.returns-in-Err-clause-given
returns-in-Err-clause-given g c = if_misled_map {T = Unit {0}} (Err c.in-Err.error) c.in-Err.ensures.hint (λ place at wanted found x. inl x)

pub returns-in-Some-clause-given : goal.returns-in-Some-clause-given
returns-in-Some-clause-given g c = rw c.at_held.ensures (inr (inl (record { held = refl; own = ap (λ (p : Page). p.fid) c.page_of_file.ensures; given = c.in-Some.ensures.given })))

pub returns-in-Err-grown-clause-given : goal.returns-in-Err-grown-clause-given
returns-in-Err-grown-clause-given g c =
    if_misled_map {T = Unit {0}} (Err c.in-Err-grown.error) (rw c.in-Err-grown.is at c.grow_pages-grown.ensures.given) (λ place at wanted found x. given_or_last c.args.file.now c.args.fresh.now c.in-Ok.last c.args.hints.now.cache c.last_page.new.hints.cache c.in-Ok.ensures.ends.first c.in-Ok.ensures.listed.here place at wanted found x)

pub returns-in-Ok-grown-clause-listed : goal.returns-in-Ok-grown-clause-listed
returns-in-Ok-grown-clause-listed g c =
    let last = c.in-Ok.last in
    let page = page_number c.args.file.now.fid last.number in
    let here = is_listed g.D.Tape.told (pack (g.D.Tape.tape c.args.disk.now)) c.in-Ok.ensures.listed (λ told. (c.in-Ok.ensures.stands told).carries) in
    record {
      last = last.number;
      bytes = last.info.bytes;
      ends = c.in-Ok.ensures.ends;
      is = λ told whole. (c.in-Ok.ensures.last told whole).number;
      stays = λ none. let same = c.note_pages.ensures.none none in listed_still c.args.hints.now.cache c.last_page.new.hints.cache c.note_pages.new.cache (ap (λ (k : Cached). address_in k.entries page) same) (ap (λ (k : Cached). k.refused) same) here;
      comes = fresh_since c.args.file.now.fid last.number c.args.fresh.now c.args.hints.now.cache c.last_page.new.hints.cache c.note_pages.new.cache c.last_page.ensures.refused c.note_pages.ensures.listed;
    }

-- a hint misled before the first record write
pub returns-in-Err-clause-quiet : goal.returns-in-Err-clause-quiet
returns-in-Err-clause-quiet g c o told stands may =
    any_misled (IsQuiet (around (g.D.Tape.tape c.args.disk.now) c.args.hints.now.table c.args.tally.now) (around (g.D.Tape.tape c.last_page.new.disk) c.last_page.new.hints.table c.args.tally.now)) c.in-Err.error
    (record { silent = c.last_page.ensures.looks.silent told; bits = c.last_page.ensures.table; tally = refl })

pub returns-in-Some-clause-quiet : goal.returns-in-Some-clause-quiet
returns-in-Some-clause-quiet g c o told stands may =
    let form = c.shape.ensures ∙ c.last_page.ensures.looks.alone.grown.form in
    absurd (c.in-Some.ensures.some (subst (λ (s : Shape). All (IsSector s) c.args.fresh.now) (sym form) (free_are_sectors (pack (g.D.Tape.tape c.args.disk.now)) c.args.fresh.now may.free)))

pub returns-in-Err-grown-clause-quiet : goal.returns-in-Err-grown-clause-quiet
returns-in-Err-grown-clause-quiet g c o told stands may =
    let a = g.D.Tape.tape c.args.disk.now in
    let b = g.D.Tape.tape c.last_page.new.disk in
    let d = g.D.Tape.tape c.grow_pages-grown.new.disk in
    let fid = c.args.file.now.fid in
    let last = c.in-Ok.last in
    let looks = c.last_page.ensures.looks in
    let silent = looks.silent told in
    let packs : pack a ≡ pack b = sym (pack-silent looks.alone.grown silent) in
    let whole = subst (λ (p : Pack). Whole p) packs stands.whole in
    let tidy = subst (λ (p : Pack). Tidy p) packs stands.tidy in
    let there = subst (λ (p : Pack). Stands p (page_number fid last.number) last.at c.last_page.new.buf) packs (c.in-Ok.ensures.stands told) in
    let is = subst (λ (p : Pack). IsLast p fid last) packs (c.in-Ok.ensures.last told stands.whole) in
    let may_then = subst (λ (p : Pack). MayBeGrown p o fid c.args.bytes.now c.args.past.now c.args.fresh.now) packs may in
    none_misled (λ place at wanted found. IsQuiet (around a c.args.hints.now.table c.args.tally.now) (around d c.grow_pages-grown.new.table c.grow_pages-grown.new.tally)) c.in-Err-grown.error (rw c.in-Err-grown.is at (c.grow_pages-grown.ensures.misled o told whole tidy there is may_then))

pub returns-in-Err-clause-frame : goal.returns-in-Err-clause-frame
returns-in-Err-clause-frame g c told = writes_silent (IsEndOrFree c.args.file.now.fid (pack (g.D.Tape.tape c.args.disk.now))) (added (g.D.Tape.tape c.args.disk.now) (g.D.Tape.tape c.last_page.new.disk)) (c.last_page.ensures.looks.silent told)

pub returns-in-Some-clause-frame : goal.returns-in-Some-clause-frame
returns-in-Some-clause-frame g c told = writes_silent (IsEndOrFree c.args.file.now.fid (pack (g.D.Tape.tape c.args.disk.now))) (added (g.D.Tape.tape c.args.disk.now) (g.D.Tape.tape c.last_page.new.disk)) (c.last_page.ensures.looks.silent told)

pub returns-in-Ok-grown-clause-frame : goal.returns-in-Ok-grown-clause-frame
returns-in-Ok-grown-clause-frame g c told =
    let p = pack (g.D.Tape.tape c.args.disk.now) in
    let looks = c.last_page.ensures.looks in
    let is = end_of p c.args.file.now.fid c.in-Ok.last c.last_page.new.buf (c.in-Ok.ensures.stands told) c.in-Ok.ensures.seen.tells c.in-Ok.ensures.ends in
    grown_here c.args.file.now.fid c.in-Ok.last.at looks.alone.grown c.grow_pages-grown.ensures.alone.grown (looks.silent told) is (c.grow_pages-grown.ensures.frame told)

pub returns-in-Err-grown-clause-frame : goal.returns-in-Err-grown-clause-frame
returns-in-Err-grown-clause-frame g c told =
    let p = pack (g.D.Tape.tape c.args.disk.now) in
    let looks = c.last_page.ensures.looks in
    let is = end_of p c.args.file.now.fid c.in-Ok.last c.last_page.new.buf (c.in-Ok.ensures.stands told) c.in-Ok.ensures.seen.tells c.in-Ok.ensures.ends in
    grown_here c.args.file.now.fid c.in-Ok.last.at looks.alone.grown c.grow_pages-grown.ensures.alone.grown (looks.silent told) is (c.grow_pages-grown.ensures.frame told)

pub returns-in-Ok-grown-clause-were_free : goal.returns-in-Ok-grown-clause-were_free
returns-in-Ok-grown-clause-were_free g c told =
    let packs = pack-silent c.last_page.ensures.looks.alone.grown (c.last_page.ensures.looks.silent told) in
    subst (λ (p : Pack). All (IsFreeSector p) c.args.fresh.now) packs (rw c.in-Ok-grown.is at (c.grow_pages-grown.ensures.were_free told))
