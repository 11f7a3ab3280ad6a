use Rattle.std.proofs.Common.{◌≡◌, ℕ, ◌<◌, ◌≤◌, ◌-◌, ◌*◌, suc, get_or, length, slice_set, Some, ap, ◌∙◌, refl, sym, subst, arith}
use Rattle.std.specs.Prelude.{min}
use Rattle.std.proofs.lemmas.List.Elements.{All-set}
use Rattle.disk_records.specs.Addresses.{descriptor_length, pages_of}
use Rattle.disk_records.specs.Labels.{page_of}
use Rattle.disk_records.specs.Packs.{after, carried, sector_at}
use Rattle.disk_records.specs.Commands.{relabel_writes}
use Rattle.disk_records.specs.Tapes.{pack}
use Rattle.disk_records.specs.Words.{word}
use Rattle.disk_records.proofs.Framing.{usable_looks, usable_twice}
use Rattle.disk_records.proofs.Growing.{alone_here, alone_twice}
use Rattle.disk_records.proofs.Looking.{looks_pack}
use Rattle.label_check.proofs.Framing.{usable_relabel}
use Rattle.scav_pages.specs.Ends.{MayDescribePage}
use Rattle.scav_pages.proofs.Causing.{cause_of_guarded, cause_of_part}
use Rattle.scav_pages.proofs.Changing.{other_word}
use Rattle.scav_pages.proofs.Doing.{does_ok, does_stop_part, does_stop_two, going_does, going_done, going_here, going_looks, pack_done}
use Rattle.scav_pages.proofs.Claiming.{going_scavengeable, names_its_page}
use Rattle.scav_pages.proofs.Describing.{already_described, carries_page_there, claim_described, count_described, count_mends, few_data_pages, its_page, may_claim_data}
use Rattle.scav_pages.proofs.Keeping.{Mends, mends_nothing}
use Rattle.scav_pages.proofs.descriptor.mend_data_page.Goals as goal

pub claim_page-requires-clause-place : goal.claim_page-requires-clause-place
claim_page-requires-clause-place g c =
    let most = few_data_pages (g.D.Tape.tape c.args.disk.now).form in
    let is = c.from-index.ensures in
    c.requires.within (c.from-index.result - 1) 0 (omega (arith, most, is, c.requires.most))

pub returns-in_err-places-clause-does : goal.returns-in_err-places-clause-does
returns-in_err-places-clause-does g c = λ told may.
    let a = g.D.Tape.tape c.args.disk.now in
    let places = c.args.places.now in
    let none : get_or places c.args.number 0 ≡ 0 = ap (λ i. get_or places i 0) (sym c.from-index.ensures) ∙ c.if-at-eq0.true in
    let d = c.in_err-places.ensures.does told (may_claim_data (pack a) c.args.number c.args.from.now places may c.requires.one c.requires.most c.page_bytes-bytes.result none) in
    does_stop_part c.in_err-places.field-0.0 c.from_residual.result (going_here a) c.in_err-places.ensures.alone.grown d c.from_residual.ensures.1

pub returns-in_err-places-clause-cause : goal.returns-in_err-places-clause-cause
returns-in_err-places-clause-cause g c = cause_of_part c.in_err-places.field-0.0 c.from_residual.result (alone_here _) refl c.in_err-places.ensures.alone c.in_err-places.ensures.cause c.from_residual.ensures.1

pub returns-then-at-eq0-clause-does : goal.returns-then-at-eq0-clause-does
returns-then-at-eq0-clause-does g c = λ told may.
    let a = g.D.Tape.tape c.args.disk.now in
    let b = g.D.Tape.tape c.claim_page.new.disk in
    let places = c.args.places.now in
    let at = c.in_ok-places.field-0 in
    let bytes = c.page_bytes-bytes.result in
    let is = c.from-index.ensures in
    let none : get_or places c.args.number 0 ≡ 0 = ap (λ i. get_or places i 0) (sym is) ∙ c.if-at-eq0.true in
    let size : bytes ≡ min 512 (descriptor_length a.form - 512 * (c.args.number - 1)) = c.page_bytes-bytes.ensures ∙ ap (λ s. min 512 (descriptor_length s - 512 * (c.args.number - 1))) c.shape.ensures in
    let most = few_data_pages a.form in
    let long : c.args.number < length places = omega (arith, most, c.requires.most) in
    let d = c.in_ok-places.ensures.does told (may_claim_data (pack a) c.args.number c.args.from.now places may c.requires.one c.requires.most bytes none) in
    let going = going_does (going_here a) c.in_ok-places.ensures.alone.grown d in
    does_ok tt going (subst (λ i. MayDescribePage (pack b) (suc c.args.number) (slice_set places i at) c.claim_page.new.from) (sym is)
    (claim_described (pack a) c.args.number c.args.from.now places may c.requires.one c.requires.most (pack b) at c.claim_page.new.from bytes d.leaves (g.met.D.Disk.formed c.claim_page.new.disk told) (going_scavengeable going may.scavengeable) size none long))

pub returns-then-at-eq0-clause-within : goal.returns-then-at-eq0-clause-within
returns-then-at-eq0-clause-within g c = All-set (λ (at : ℕ). at < pages_of (g.D.Tape.tape c.args.disk.now).form) c.args.places.now c.from-index.result c.in_ok-places.field-0 c.in_ok-places.ensures.place.1 c.requires.within

pub read_page-requires-clause-place : goal.read_page-requires-clause-place
read_page-requires-clause-place g c =
    let most = few_data_pages (g.D.Tape.tape c.args.disk.now).form in
    let is = c.from-index.ensures in
    c.requires.within c.from-index.result 0 (omega (arith, most, is, c.requires.most))

pub returns-in_err-info-clause-does : goal.returns-in_err-info-clause-does
returns-in_err-info-clause-does g c = λ told may.
    let a = g.D.Tape.tape c.args.disk.now in
    let places = c.args.places.now in
    let at = get_or places c.from-index.result 0 in
    let noted : get_or places c.args.number 0 ≡ at = ap (λ i. get_or places i 0) (sym c.from-index.ensures) in
    does_stop_two c.in_err-info.field-0.0 c.from_residual-in_err-info.result (going_here a) c.in_err-info.ensures.looks.alone.grown
    (carries_page_there (pack a) c.args.number c.args.from.now places may c.requires.one c.requires.most at noted c.if-at-eq0.false) (mends_nothing (pack a)) (omega arith)
    (c.in_err-info.ensures.guarded told) c.from_residual-in_err-info.ensures.1

pub returns-in_err-info-clause-cause : goal.returns-in_err-info-clause-cause
returns-in_err-info-clause-cause g c = cause_of_guarded c.in_err-info.field-0.0 c.from_residual-in_err-info.result (alone_here _) refl c.in_err-info.ensures.looks.alone c.in_err-info.ensures.cause c.from_residual-in_err-info.ensures.1

pub relabel-requires-clause-place : goal.relabel-requires-clause-place
relabel-requires-clause-place g c =
    let most = few_data_pages (g.D.Tape.tape c.args.disk.now).form in
    let is = c.from-index.ensures in
    subst (λ s. get_or c.args.places.now c.from-index.result 0 < pages_of s) (sym c.in_ok-info.ensures.looks.alone.grown.form) (c.requires.within c.from-index.result 0 (omega (arith, most, is, c.requires.most)))

pub relabel-requires-clause-same : goal.relabel-requires-clause-same
relabel-requires-clause-same g c =
    let most = few_data_pages (g.D.Tape.tape c.args.disk.now).form in
    let few : c.page_bytes-bytes.result ≤ 512 = omega (arith, c.page_bytes-bytes.ensures) in
    ap page_of c.label_of-label.ensures ∙ names_its_page (its_page c.args.number) c.page_bytes-bytes.result c.in_ok-info.info.next c.in_ok-info.info.previous refl (omega (arith, most, c.requires.most)) few

pub returns-in_err-relabel-clause-cause : goal.returns-in_err-relabel-clause-cause
returns-in_err-relabel-clause-cause g c = cause_of_guarded c.in_err-relabel.field-0.0 c.from_residual-in_err-relabel.result c.in_ok-info.ensures.looks.alone c.in_ok-info.ensures.cause c.in_err-relabel.ensures.alone c.in_err-relabel.ensures.cause c.from_residual-in_err-relabel.ensures.1

pub returns-in_err-relabel-clause-alone : goal.returns-in_err-relabel-clause-alone
returns-in_err-relabel-clause-alone g c = alone_twice c.in_ok-info.ensures.looks.alone c.in_err-relabel.ensures.alone

pub returns-in_err-relabel-clause-frame : goal.returns-in_err-relabel-clause-frame
returns-in_err-relabel-clause-frame g c = usable_twice c.in_ok-info.ensures.looks.alone c.in_err-relabel.ensures.alone (usable_looks c.in_ok-info.ensures.looks) (usable_relabel c.in_err-relabel.ensures.guarded)

pub returns-in_ok-relabel-clause-alone : goal.returns-in_ok-relabel-clause-alone
returns-in_ok-relabel-clause-alone g c = alone_twice c.in_ok-info.ensures.looks.alone c.in_ok-relabel.ensures.alone

pub returns-in_ok-relabel-clause-frame : goal.returns-in_ok-relabel-clause-frame
returns-in_ok-relabel-clause-frame g c = usable_twice c.in_ok-info.ensures.looks.alone c.in_ok-relabel.ensures.alone (usable_looks c.in_ok-info.ensures.looks) (usable_relabel c.in_ok-relabel.ensures.guarded)

pub returns-in_err-relabel-clause-does : goal.returns-in_err-relabel-clause-does
returns-in_err-relabel-clause-does g c = λ told may.
    let a = g.D.Tape.tape c.args.disk.now in
    let places = c.args.places.now in
    let label = c.label_of-label.result in
    let at = get_or places c.from-index.result 0 in
    let noted : get_or places c.args.number 0 ≡ at = ap (λ i. get_or places i 0) (sym c.from-index.ensures) in
    let looks = c.in_ok-info.ensures.looks in
    let same = looks_pack looks told in
    let most = few_data_pages a.form in
    let few : c.page_bytes-bytes.result ≤ 512 = omega (arith, c.page_bytes-bytes.ensures) in
    let names : page_of label ≡ Some (its_page c.args.number) = ap page_of c.label_of-label.ensures ∙ names_its_page (its_page c.args.number) c.page_bytes-bytes.result c.in_ok-info.info.next c.in_ok-info.info.previous refl (omega (arith, most, c.requires.most)) few in
    let other = other_word 3 c.in_ok-info.info.bytes label _ (sector_at (pack a) at).label c.label_of-label.ensures (ap (λ i. i.bytes) (c.in_ok-info.ensures.read told).tells) c.if-info-bytes.true in
    does_stop_two c.in_err-relabel.field-0.0 c.from_residual-in_err-relabel.result (going_looks (going_here a) looks told) c.in_err-relabel.ensures.alone.grown
    (subst (λ p. carried p at ≡ Some (its_page c.args.number)) (sym same) (carries_page_there (pack a) c.args.number c.args.from.now places may c.requires.one c.requires.most at noted c.if-at-eq0.false))
    (subst (λ p. Mends p (relabel_writes at label (sector_at p at).value)) (sym same) (count_mends (pack a) c.args.number c.args.from.now places may c.requires.one c.requires.most at noted c.if-at-eq0.false label names other))
    (omega arith) (c.in_err-relabel.ensures.guarded told) c.from_residual-in_err-relabel.ensures.1

pub returns-in_ok-relabel-clause-does : goal.returns-in_ok-relabel-clause-does
returns-in_ok-relabel-clause-does g c = λ told may.
    let a = g.D.Tape.tape c.args.disk.now in
    let q = pack (g.D.Tape.tape c.relabel.new.disk) in
    let places = c.args.places.now in
    let label = c.label_of-label.result in
    let bytes = c.page_bytes-bytes.result in
    let at = get_or places c.from-index.result 0 in
    let noted : get_or places c.args.number 0 ≡ at = ap (λ i. get_or places i 0) (sym c.from-index.ensures) in
    let looks = c.in_ok-info.ensures.looks in
    let same = looks_pack looks told in
    let most = few_data_pages a.form in
    let few : bytes ≤ 512 = omega (arith, c.page_bytes-bytes.ensures) in
    let size : bytes ≡ min 512 (descriptor_length a.form - 512 * (c.args.number - 1)) = c.page_bytes-bytes.ensures ∙ ap (λ s. min 512 (descriptor_length s - 512 * (c.args.number - 1))) c.shape.ensures in
    let names : page_of label ≡ Some (its_page c.args.number) = ap page_of c.label_of-label.ensures ∙ names_its_page (its_page c.args.number) bytes c.in_ok-info.info.next c.in_ok-info.info.previous refl (omega (arith, most, c.requires.most)) few in
    let grown = c.in_ok-relabel.ensures.alone.grown in
    let done = (c.in_ok-relabel.ensures.guarded told).ok in
    let left : q ≡ after (pack a) (relabel_writes at label (sector_at (pack a) at).value) = pack_done grown done ∙ ap (λ p. after p (relabel_writes at label (sector_at p at).value)) same in
    let other = other_word 3 c.in_ok-info.info.bytes label _ (sector_at (pack a) at).label c.label_of-label.ensures (ap (λ i. i.bytes) (c.in_ok-info.ensures.read told).tells) c.if-info-bytes.true in
    let mends = subst (λ p. Mends p (relabel_writes at label (sector_at p at).value)) (sym same) (count_mends (pack a) c.args.number c.args.from.now places may c.requires.one c.requires.most at noted c.if-at-eq0.false label names other) in
    let going = going_done (going_looks (going_here a) looks told) grown mends done in
    does_ok tt going
    (count_described (pack a) c.args.number c.args.from.now places may c.requires.one c.requires.most at noted c.if-at-eq0.false q bytes label names (ap (λ l. word l 3) c.label_of-label.ensures) left (g.met.D.Disk.formed c.relabel.new.disk told) (going_scavengeable going may.scavengeable) size)

pub returns-else-info-bytes-clause-does : goal.returns-else-info-bytes-clause-does
returns-else-info-bytes-clause-does g c = λ told may.
    let a = g.D.Tape.tape c.args.disk.now in
    let b = g.D.Tape.tape c.read_page.new.disk in
    let places = c.args.places.now in
    let at = get_or places c.from-index.result 0 in
    let noted : get_or places c.args.number 0 ≡ at = ap (λ i. get_or places i 0) (sym c.from-index.ensures) in
    let looks = c.in_ok-info.ensures.looks in
    let read = c.in_ok-info.ensures.read told in
    let size = c.page_bytes-bytes.ensures ∙ ap (λ s. min 512 (descriptor_length s - 512 * (c.args.number - 1))) c.shape.ensures in
    does_ok tt (going_looks (going_here a) looks told)
    (already_described (pack a) c.args.number c.args.from.now places may c.requires.one c.requires.most at noted c.if-at-eq0.false (pack b) (looks_pack looks told) (g.met.D.Disk.formed c.read_page.new.disk told)
    (sym (ap (λ i. i.bytes) read.tells) ∙ c.if-info-bytes.false ∙ size))

pub returns-in_err-info-clause-frame : goal.returns-in_err-info-clause-frame
returns-in_err-info-clause-frame g c = usable_looks c.in_err-info.ensures.looks
