use Rattle.std.proofs.Common.{◌≡◌, ◌≢◌, ◌*◌, ◌/◌, ◌%◌, ◌<◌, true, get_or, length, None, Some, Err, ap, sym, subst, ◌∙◌, arith, refl}
use Rattle.alto_words.specs.Fid.{is_full_name, sys_dir}
use Rattle.disk_records.specs.declared.records.Page.{Page}
use Rattle.disk_records.specs.Addresses.{pages_of, real_of}
use Rattle.disk_records.specs.Events.{IsFirstOf}
use Rattle.disk_records.specs.Labels.{page_of}
use Rattle.disk_records.specs.Packs.{carried, is_free_at}
use Rattle.disk_records.specs.Tapes.{added, pack}
use Rattle.disk_records.specs.Causes.{IsCause}
use Rattle.disk_records.proofs.Looking.{looks_pack}
use Rattle.disk_records.proofs.Growing.{alone_here, alone_twice}
use Rattle.disk_records.proofs.Framing.{usable_here, usable_looks, usable_twice}
use Rattle.label_check.proofs.Framing.{usable_claim}
use Rattle.scav_pages.specs.laws_operation.proofs.Making.{named_page}
use Rattle.pack_model.specs.hints.Links.{dir_words}
use Rattle.pack_model.specs.reading.Slots.{slots}
use Rattle.scav_pages.specs.Stops.{cause_of_stop, stop_of_guard}
use Rattle.scav_pages.proofs.Causing.{cause_of_guarded, cause_of_part}
use Rattle.scav_names.specs.Roots.{Widened}
use Rattle.scav_names.specs.Words.{page_with}
use Rattle.scav_names.proofs.Going.{cause_of_memory, does_stop, so_far_here}
use Rattle.scav_names.proofs.PageWriting.{page_is}
use Rattle.scav_names.proofs.RootPages.{root_page}
use Rattle.scav_names.proofs.RootWidening.{carries_last, ends_pushed, few_words, label_found, left_widened, lengthening_found, number_low, page_found, place_known, so_far_claim, so_far_lengthen, so_far_looks, some_is_free, widened}
use Rattle.scav_names.proofs.WideningPage.{found_held, label_names}
use Rattle.scav_names.proofs.widen.widen_root.Goals as goal

pub returns-in_err-last-clause-does : goal.returns-in_err-last-clause-does
returns-in_err-last-clause-does g c = λ told todo may.
    let a = g.D.Tape.tape c.args.disk.now in
    let root = c.args.root.now in
    let end : c.end-end.result ≡ root.rooms.end = c.end-end.ensures (slots (dir_words (pack a) sys_dir)) may.may.rooms ∙ sym may.may.rooms.end_is in
    let within : c.end-end.result / 256 < length root.pages = subst (λ n. n / 256 < length root.pages) (sym end) (place_known a root todo may) in
    let h = root_page (pack a) root.pages c.end-end.result may.may.known.pages within in
    let other : page_with sys_dir c.end-end.result ≢ None = λ none. (let no = sym h.page ∙ none in cc) in
    absurd (c.in_err-last.ensures.found other within h.first (subst (λ f. get_or root.pages (c.end-end.result / 256) 0 < pages_of f) (sym c.shape-shape.ensures) h.within) (ap Err c.in_err-last.ensures.astray))

pub returns-in_err-fresh-clause-does : goal.returns-in_err-fresh-clause-does
returns-in_err-fresh-clause-does g c = λ told todo may.
    let a = g.D.Tape.tape c.args.disk.now in
    let x = c.in_err-fresh.ensures in
    does_stop c.in_err-fresh.field-0.0 c.from_residual-in_err-fresh.result (so_far_looks (so_far_here a) x.looks told) (λ astray. some_is_free a c.args.root.now todo may (x.none told (ap Err astray))) c.from_residual-in_err-fresh.ensures.1

pub returns-in_default-clause-does : goal.returns-in_default-clause-does
returns-in_default-clause-does g c = λ told todo may.
    let a = g.D.Tape.tape c.args.disk.now in
    let end : c.end-end.result ≡ c.args.root.now.rooms.end = c.end-end.ensures (slots (dir_words (pack a) sys_dir)) may.may.rooms ∙ sym may.may.rooms.end_is in
    let low = number_low a c.args.root.now todo may c.in_ok-fresh.fresh (c.in_ok-fresh.ensures.free told) (g.met.D.Disk.formed c.args.disk.now told) in
    let number = ap (λ (x : Page). x.number) (page_is sys_dir c.end-end.result c.in_ok-last.last.page c.in_ok-last.ensures.page) in
    let no = c.in_default.ensures in
    absurd (no (omega (arith, low, number, end)))

pub claim-requires-clause-label : goal.claim-requires-clause-label
claim-requires-clause-label g c =
    let full : is_full_name c.in_ok-last.last.page.fid ≡ true = ap (λ (x : Page). is_full_name x.fid) (sym (page_is sys_dir c.end-end.result c.in_ok-last.last.page c.in_ok-last.ensures.page)) in
    let names = ap page_of c.label_of-label.ensures ∙ label_names (record { fid = c.in_ok-last.last.page.fid; number = c.in-Some.number }) (2 * (c.end-end.result % 256)) 65535 c.real_of.result full (let next = c.in-Some.ensures in omega (arith, next.0, next.1)) (omega arith) in
    (named_page c.label_of-label.result (record { fid = c.in_ok-last.last.page.fid; number = c.in-Some.number }) names).1

pub returns-in_err-claim-clause-alone : goal.returns-in_err-claim-clause-alone
returns-in_err-claim-clause-alone g c = alone_twice c.in_ok-fresh.ensures.looks.alone c.in_err-claim.ensures.alone

pub returns-in_err-claim-clause-frame : goal.returns-in_err-claim-clause-frame
returns-in_err-claim-clause-frame g c = usable_twice c.in_ok-fresh.ensures.looks.alone c.in_err-claim.ensures.alone (usable_looks c.in_ok-fresh.ensures.looks) (usable_claim c.in_err-claim.ensures.guarded)

pub returns-in_err-lengthen-clause-alone : goal.returns-in_err-lengthen-clause-alone
returns-in_err-lengthen-clause-alone g c = alone_twice (alone_twice c.in_ok-fresh.ensures.looks.alone c.in_ok-claim.ensures.alone) c.in_err-lengthen.ensures.alone

pub returns-in_err-lengthen-clause-frame : goal.returns-in_err-lengthen-clause-frame
returns-in_err-lengthen-clause-frame g c = usable_twice (alone_twice c.in_ok-fresh.ensures.looks.alone c.in_ok-claim.ensures.alone) c.in_err-lengthen.ensures.alone (usable_twice c.in_ok-fresh.ensures.looks.alone c.in_ok-claim.ensures.alone (usable_looks c.in_ok-fresh.ensures.looks) (usable_claim c.in_ok-claim.ensures.guarded)) c.in_err-lengthen.ensures.frame

pub returns-clause-alone : goal.returns-clause-alone
returns-clause-alone g c = alone_twice (alone_twice c.in_ok-fresh.ensures.looks.alone c.in_ok-claim.ensures.alone) c.in_ok-lengthen.ensures.alone

pub returns-clause-frame : goal.returns-clause-frame
returns-clause-frame g c = usable_twice (alone_twice c.in_ok-fresh.ensures.looks.alone c.in_ok-claim.ensures.alone) c.in_ok-lengthen.ensures.alone (usable_twice c.in_ok-fresh.ensures.looks.alone c.in_ok-claim.ensures.alone (usable_looks c.in_ok-fresh.ensures.looks) (usable_claim c.in_ok-claim.ensures.guarded)) c.in_ok-lengthen.ensures.frame

pub returns-in_err-claim-clause-does : goal.returns-in_err-claim-clause-does
returns-in_err-claim-clause-does g c = λ told todo may.
    let a = g.D.Tape.tape c.args.disk.now in
    let root = c.args.root.now in
    let end : c.end-end.result ≡ root.rooms.end = c.end-end.ensures (slots (dir_words (pack a) sys_dir)) may.may.rooms ∙ sym may.may.rooms.end_is in
    let page = page_found (page_is sys_dir c.end-end.result c.in_ok-last.last.page c.in_ok-last.ensures.page) end in
    let at = c.in_ok-last.ensures.at ∙ ap (λ n. get_or root.pages (n / 256) 0) end in
    let is = label_found (pack a) page end at c.in-Some.ensures.1 c.shape-shape.ensures c.real_of.ensures c.label_of-label.ensures in
    let free = c.in_ok-fresh.ensures.free told in
    let looks = c.in_ok-fresh.ensures.looks in
    let x = c.in_err-claim.ensures in
    let guarded = x.guarded told in
    does_stop (stop_of_guard c.in_err-claim.field-0.0) c.from_residual-in_err-claim.result
    (so_far_claim a root todo may c.in_ok-fresh.fresh free (g.met.D.Disk.formed c.args.disk.now told) c.label_of-label.result is looks.alone.grown (looks.silent told) x.alone.grown guarded.some)
    (found_held c.in_err-claim.field-0.0 guarded (ap (λ p. is_free_at p c.in_ok-fresh.fresh) (looks_pack looks told) ∙ free.free)) c.from_residual-in_err-claim.ensures.1

pub returns-in_err-lengthen-clause-does : goal.returns-in_err-lengthen-clause-does
returns-in_err-lengthen-clause-does g c = λ told todo may.
    let a = g.D.Tape.tape c.args.disk.now in
    let b = g.D.Tape.tape c.claim.new.disk in
    let d = g.D.Tape.tape c.lengthen.new.disk in
    let root = c.args.root.now in
    let end : c.end-end.result ≡ root.rooms.end = c.end-end.ensures (slots (dir_words (pack a) sys_dir)) may.may.rooms ∙ sym may.may.rooms.end_is in
    let page = page_found (page_is sys_dir c.end-end.result c.in_ok-last.last.page c.in_ok-last.ensures.page) end in
    let at = c.in_ok-last.ensures.at ∙ ap (λ n. get_or root.pages (n / 256) 0) end in
    let is = label_found (pack a) page end at c.in-Some.ensures.1 c.shape-shape.ensures c.real_of.ensures c.label_of-label.ensures in
    let free = c.in_ok-fresh.ensures.free told in
    let formed = g.met.D.Disk.formed c.args.disk.now told in
    let looks = c.in_ok-fresh.ensures.looks in
    let x = c.in_ok-claim.ensures in
    let done = (x.guarded told).ok.wrote in
    let here : carried (pack b) c.in_ok-last.last.at ≡ Some c.in_ok-last.last.page =
    ap (carried (pack b)) at ∙ carries_last a root todo may c.in_ok-fresh.fresh free formed c.label_of-label.result is looks.alone.grown (looks.silent told) x.alone.grown done ∙ ap (λ (x : Page). Some x) (sym page) in
    let wrote = c.in_err-lengthen.ensures.writes told here in
    let next = c.real_of-2.ensures ∙ ap (λ s. real_of s c.in_ok-fresh.fresh) c.shape-shape.ensures in
    let same = lengthening_found (pack b) at page end next in
    does_stop c.in_err-lengthen.field-0.0 c.from_residual-in_err-lengthen.result
    (so_far_lengthen a root todo may c.in_ok-fresh.fresh free formed c.label_of-label.result is looks.alone.grown (looks.silent told) x.alone.grown done c.in_err-lengthen.ensures.alone.grown (subst (λ l. IsFirstOf l (added b d)) same wrote.some))
    (λ astray. wrote.found (ap Err astray)) c.from_residual-in_err-lengthen.ensures.1

pub returns-clause-does : goal.returns-clause-does
returns-clause-does g c = λ told todo may.
    let a = g.D.Tape.tape c.args.disk.now in
    let b = g.D.Tape.tape c.claim.new.disk in
    let d = g.D.Tape.tape c.lengthen.new.disk in
    let root = c.args.root.now in
    let new = c.push_page.new.root in
    let end : c.end-end.result ≡ root.rooms.end = c.end-end.ensures (slots (dir_words (pack a) sys_dir)) may.may.rooms ∙ sym may.may.rooms.end_is in
    let page = page_found (page_is sys_dir c.end-end.result c.in_ok-last.last.page c.in_ok-last.ensures.page) end in
    let at = c.in_ok-last.ensures.at ∙ ap (λ n. get_or root.pages (n / 256) 0) end in
    let is = label_found (pack a) page end at c.in-Some.ensures.1 c.shape-shape.ensures c.real_of.ensures c.label_of-label.ensures in
    let free = c.in_ok-fresh.ensures.free told in
    let formed = g.met.D.Disk.formed c.args.disk.now told in
    let looks = c.in_ok-fresh.ensures.looks in
    let x = c.in_ok-claim.ensures in
    let done = (x.guarded told).ok.wrote in
    let here : carried (pack b) c.in_ok-last.last.at ≡ Some c.in_ok-last.last.page =
    ap (carried (pack b)) at ∙ carries_last a root todo may c.in_ok-fresh.fresh free formed c.label_of-label.result is looks.alone.grown (looks.silent told) x.alone.grown done ∙ ap (λ (x : Page). Some x) (sym page) in
    let y = c.in_ok-lengthen.ensures in
    let wrote = y.writes told here in
    let next = c.real_of-2.ensures ∙ ap (λ s. real_of s c.in_ok-fresh.fresh) c.shape-shape.ensures in
    let same = lengthening_found (pack b) at page end next in
    let left = left_widened a root todo may c.in_ok-fresh.fresh free formed c.label_of-label.result is looks.alone.grown (looks.silent told) x.alone.grown done y.alone.grown (wrote.ok ∙ same) in
    ends_pushed {Leaves = Widened root new todo} c.push_page.result
    (so_far_lengthen a root todo may c.in_ok-fresh.fresh free formed c.label_of-label.result is looks.alone.grown (looks.silent told) x.alone.grown done y.alone.grown (subst (λ l. IsFirstOf l (added b d)) same wrote.some))
    c.push_page.ensures.memory c.push_page.ensures.pages (c.push_page.ensures.rooms (slots (dir_words (pack a) sys_dir)) may.may.rooms (few_words a root todo may))
    (λ pages rooms. subst (λ q. Widened root new todo (pack a) q tt) (sym left) (widened a root todo may c.in_ok-fresh.fresh free formed new pages (c.push_page.ensures.from ∙ c.in_ok-fresh.ensures.next) rooms))

pub returns-in_err-last-clause-cause : goal.returns-in_err-last-clause-cause
returns-in_err-last-clause-cause g c = cause_of_part c.in_err-last.field-0.0 c.from_residual.result (alone_here (g.D.Tape.tape c.args.disk.now)) refl (alone_here _) (subst (λ s. IsCause (g.D.Tape.tape c.args.disk.now) (g.D.Tape.tape c.args.disk.now) (cause_of_stop s)) (sym c.in_err-last.ensures.astray) refl) c.from_residual.ensures.1

pub returns-in_err-fresh-clause-cause : goal.returns-in_err-fresh-clause-cause
returns-in_err-fresh-clause-cause g c = cause_of_part c.in_err-fresh.field-0.0 c.from_residual-in_err-fresh.result (alone_here _) refl c.in_err-fresh.ensures.looks.alone c.in_err-fresh.ensures.cause c.from_residual-in_err-fresh.ensures.1

pub returns-in_err-claim-clause-cause : goal.returns-in_err-claim-clause-cause
returns-in_err-claim-clause-cause g c = cause_of_guarded c.in_err-claim.field-0.0 c.from_residual-in_err-claim.result c.in_ok-fresh.ensures.looks.alone c.in_ok-fresh.ensures.cause c.in_err-claim.ensures.alone c.in_err-claim.ensures.cause c.from_residual-in_err-claim.ensures.1

pub returns-in_err-lengthen-clause-cause : goal.returns-in_err-lengthen-clause-cause
returns-in_err-lengthen-clause-cause g c = cause_of_part c.in_err-lengthen.field-0.0 c.from_residual-in_err-lengthen.result (alone_twice c.in_ok-fresh.ensures.looks.alone c.in_ok-claim.ensures.alone) (c.in_ok-claim.ensures.cause ∙ c.in_ok-fresh.ensures.cause) c.in_err-lengthen.ensures.alone c.in_err-lengthen.ensures.cause c.from_residual-in_err-lengthen.ensures.1

pub returns-in_err-last-clause-first : goal.returns-in_err-last-clause-first
returns-in_err-last-clause-first g c = c.requires.first

pub returns-in_err-last-clause-alone : goal.returns-in_err-last-clause-alone
returns-in_err-last-clause-alone g c = alone_here _

pub returns-in_err-last-clause-frame : goal.returns-in_err-last-clause-frame
returns-in_err-last-clause-frame g c = usable_here (g.D.Tape.tape c.args.disk.now)

pub returns-in_err-fresh-clause-first : goal.returns-in_err-fresh-clause-first
returns-in_err-fresh-clause-first g c = let least = c.in_err-fresh.ensures.least in let first = c.requires.first in omega (arith, least, first)

pub returns-in_err-fresh-clause-alone : goal.returns-in_err-fresh-clause-alone
returns-in_err-fresh-clause-alone g c = c.in_err-fresh.ensures.looks.alone

pub returns-in_err-fresh-clause-frame : goal.returns-in_err-fresh-clause-frame
returns-in_err-fresh-clause-frame g c = usable_looks c.in_err-fresh.ensures.looks

pub returns-in_default-clause-first : goal.returns-in_default-clause-first
returns-in_default-clause-first g c = let least = c.in_ok-fresh.ensures.least in let first = c.requires.first in omega (arith, least, first)

pub returns-in_default-clause-cause : goal.returns-in_default-clause-cause
returns-in_default-clause-cause g c = c.in_ok-fresh.ensures.cause

pub returns-in_default-clause-alone : goal.returns-in_default-clause-alone
returns-in_default-clause-alone g c = c.in_ok-fresh.ensures.looks.alone

pub returns-in_default-clause-frame : goal.returns-in_default-clause-frame
returns-in_default-clause-frame g c = usable_looks c.in_ok-fresh.ensures.looks

pub claim-requires-clause-first : goal.claim-requires-clause-first
claim-requires-clause-first g c = let least = c.in_ok-fresh.ensures.first in let first = c.requires.first in omega (arith, least, first)

pub claim-requires-clause-place : goal.claim-requires-clause-place
claim-requires-clause-place g c = subst (λ f. c.in_ok-fresh.fresh < pages_of f) (sym c.in_ok-fresh.ensures.looks.alone.grown.form) c.in_ok-fresh.ensures.place

pub returns-in_err-claim-clause-first : goal.returns-in_err-claim-clause-first
returns-in_err-claim-clause-first g c = let least = c.in_ok-fresh.ensures.least in let first = c.requires.first in omega (arith, least, first)

pub lengthen-requires-clause-first : goal.lengthen-requires-clause-first
lengthen-requires-clause-first g c = c.in_ok-last.ensures.first

pub lengthen-requires-clause-place : goal.lengthen-requires-clause-place
lengthen-requires-clause-place g c = subst (λ f. c.in_ok-last.last.at < pages_of f) (c.shape-shape.ensures ∙ sym (alone_twice c.in_ok-fresh.ensures.looks.alone c.in_ok-claim.ensures.alone).grown.form) c.in_ok-last.ensures.within

pub lengthen-requires-clause-full_name : goal.lengthen-requires-clause-full_name
lengthen-requires-clause-full_name g c = ap (λ (x : Page). is_full_name x.fid) (sym (page_is sys_dir c.end-end.result c.in_ok-last.last.page c.in_ok-last.ensures.page))

pub returns-in_err-lengthen-clause-first : goal.returns-in_err-lengthen-clause-first
returns-in_err-lengthen-clause-first g c = let least = c.in_ok-fresh.ensures.least in let first = c.requires.first in omega (arith, least, first)

pub returns-clause-first : goal.returns-clause-first
returns-clause-first g c = let least = c.in_ok-fresh.ensures.least in let first = c.requires.first in let from = c.push_page.ensures.from in omega (arith, least, first, from)

pub returns-clause-cause : goal.returns-clause-cause
returns-clause-cause g c = cause_of_memory (g.D.Tape.tape c.args.disk.now) (g.D.Tape.tape c.lengthen.new.disk) c.push_page.result (c.in_ok-lengthen.ensures.cause ∙ c.in_ok-claim.ensures.cause ∙ c.in_ok-fresh.ensures.cause) c.push_page.ensures.memory
