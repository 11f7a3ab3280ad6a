use Rattle.std.proofs.Common.{◌≡◌, ◌<◌, Some, true, false, ap, ◌∙◌, sym, subst, rules, replicate, refl}
use Rattle.disk_records.specs.Addresses.{pages_of}
use Rattle.disk_records.specs.Labels.{page_of}
use Rattle.disk_records.specs.Packs.{after, is_free_at}
use Rattle.disk_records.specs.Commands.{claim_writes}
use Rattle.disk_records.specs.Tapes.{pack}
use Rattle.disk_records.specs.Words.{word}
use Rattle.disk_records.proofs.Framing.{usable_looks, usable_twice}
use Rattle.disk_records.proofs.Growing.{alone_here, alone_twice}
use Rattle.disk_records.proofs.Looking.{looks_pack}
use Rattle.label_check.proofs.Framing.{usable_claim}
use Rattle.scav_pages.specs.Free.{NoneFreeBelow}
use Rattle.scav_pages.proofs.Causing.{cause_of_guarded, cause_of_part}
use Rattle.scav_pages.proofs.Doing.{does_ok, does_stop_claim, does_stop_looking, going_done, going_here, going_looks, pack_done}
use Rattle.scav_pages.proofs.Claiming.{claim_mends, named_ranged, names_its_page, none_below_claimed, some_is_free}
use Rattle.scav_pages.proofs.Keeping.{Mends}
use Rattle.scav_pages.proofs.Stopping.{no_ok}
use Rattle.scav_pages.proofs.ends.claim_page.Goals as goal

pub claim-requires-clause-label : goal.claim-requires-clause-label
claim-requires-clause-label g c = let names : page_of c.label_of-label.result ≡ Some c.args.page = (c.names.ensures).0 (search rules) in named_ranged c.label_of-label.result c.args.page names

pub returns-then-not-names-clause-does : goal.returns-then-not-names-clause-does
returns-then-not-names-clause-does g c = λ told may.
    let names : page_of c.label_of-label.result ≡ Some c.args.page = ap page_of c.label_of-label.ensures ∙ names_its_page c.args.page c.args.bytes 65535 c.match-before.previous may.named may.number c.requires.bytes in
    absurd (let no : false ≡ true = sym c.if-not-names.true ∙ (c.names.ensures).1 names in cc)

pub returns-in_err-at-clause-does : goal.returns-in_err-at-clause-does
returns-in_err-at-clause-does g c = λ told may.
    let a = g.D.Tape.tape c.args.disk.now in
    does_stop_looking c.in_err-at.field-0.0 c.from_residual.result (going_here a) c.in_err-at.ensures.looks told
    (λ astray. some_is_free (pack a) c.args.page c.args.bytes c.args.from.now may (c.in_err-at.ensures.none told astray)) (c.in_err-at.ensures.want told) c.from_residual.ensures.1

pub returns-in_err-at-clause-wrote : goal.returns-in_err-at-clause-wrote
returns-in_err-at-clause-wrote g c = λ told. no_ok _ _ c.from_residual.result c.from_residual.ensures.1

pub returns-in_err-at-clause-place : goal.returns-in_err-at-clause-place
returns-in_err-at-clause-place g c = no_ok _ _ c.from_residual.result c.from_residual.ensures.1

pub returns-in_err-at-clause-cause : goal.returns-in_err-at-clause-cause
returns-in_err-at-clause-cause g c = cause_of_part c.in_err-at.field-0.0 c.from_residual.result (alone_here _) refl c.in_err-at.ensures.looks.alone c.in_err-at.ensures.cause c.from_residual.ensures.1

pub claim-requires-clause-place : goal.claim-requires-clause-place
claim-requires-clause-place g c = subst (λ s. c.in_ok-at.at < pages_of s) (sym c.in_ok-at.ensures.looks.alone.grown.form) c.in_ok-at.ensures.place

pub returns-in_err-claim-clause-wrote : goal.returns-in_err-claim-clause-wrote
returns-in_err-claim-clause-wrote g c = λ told. no_ok _ _ c.from_residual-in_err-claim.result c.from_residual-in_err-claim.ensures.1

pub returns-in_err-claim-clause-place : goal.returns-in_err-claim-clause-place
returns-in_err-claim-clause-place g c = no_ok _ _ c.from_residual-in_err-claim.result c.from_residual-in_err-claim.ensures.1

pub returns-in_err-claim-clause-cause : goal.returns-in_err-claim-clause-cause
returns-in_err-claim-clause-cause g c = cause_of_guarded c.in_err-claim.field-0.0 c.from_residual-in_err-claim.result c.in_ok-at.ensures.looks.alone c.in_ok-at.ensures.cause c.in_err-claim.ensures.alone c.in_err-claim.ensures.cause c.from_residual-in_err-claim.ensures.1

pub returns-in_err-claim-clause-alone : goal.returns-in_err-claim-clause-alone
returns-in_err-claim-clause-alone g c = alone_twice c.in_ok-at.ensures.looks.alone c.in_err-claim.ensures.alone

pub returns-in_err-claim-clause-frame : goal.returns-in_err-claim-clause-frame
returns-in_err-claim-clause-frame g c = usable_twice c.in_ok-at.ensures.looks.alone c.in_err-claim.ensures.alone (usable_looks c.in_ok-at.ensures.looks) (usable_claim c.in_err-claim.ensures.guarded)

pub returns-clause-alone : goal.returns-clause-alone
returns-clause-alone g c = alone_twice c.in_ok-at.ensures.looks.alone c.in_ok-claim.ensures.alone

pub returns-clause-frame : goal.returns-clause-frame
returns-clause-frame g c = usable_twice c.in_ok-at.ensures.looks.alone c.in_ok-claim.ensures.alone (usable_looks c.in_ok-at.ensures.looks) (usable_claim c.in_ok-claim.ensures.guarded)

pub returns-in_err-claim-clause-does : goal.returns-in_err-claim-clause-does
returns-in_err-claim-clause-does g c = λ told may.
    let a = g.D.Tape.tape c.args.disk.now in
    let label = c.label_of-label.result in
    let at = c.in_ok-at.at in
    let looks = c.in_ok-at.ensures.looks in
    let same = looks_pack looks told in
    let found = c.in_ok-at.ensures.free told in
    let names : page_of c.label_of-label.result ≡ Some c.args.page = (c.names.ensures).0 (search rules) in
    let count = ap (λ l. word l 3) c.label_of-label.ensures in
    does_stop_claim c.in_err-claim.field-0.0 c.from_residual-in_err-claim.result (going_looks (going_here a) looks told) c.in_err-claim.ensures.alone.grown
    (subst (λ p. is_free_at p at ≡ true) (sym same) found.free)
    (subst (λ p. Mends p (claim_writes at label (replicate 256 0))) (sym same) (claim_mends (pack a) c.args.page c.args.bytes c.args.from.now at label may found.free names count))
    (c.in_err-claim.ensures.guarded told) c.from_residual-in_err-claim.ensures.1

pub returns-clause-wrote : goal.returns-clause-wrote
returns-clause-wrote g c = λ told.
    let label = c.label_of-label.result in
    let at = c.in_ok-at.at in
    let looks = c.in_ok-at.ensures.looks in
    let same = looks_pack looks told in
    let found = c.in_ok-at.ensures.free told in
    let names : page_of c.label_of-label.result ≡ Some c.args.page = (c.names.ensures).0 (search rules) in
    let left = pack_done c.in_ok-claim.ensures.alone.grown (c.in_ok-claim.ensures.guarded told).ok ∙ ap (λ p. after p (claim_writes at label (replicate 256 0))) same in
    record { was_free = found.free; label = label; names = names; count = ap (λ l. word l 3) c.label_of-label.ensures; left = left }

pub returns-clause-does : goal.returns-clause-does
returns-clause-does g c = λ told may.
    let a = g.D.Tape.tape c.args.disk.now in
    let label = c.label_of-label.result in
    let at = c.in_ok-at.at in
    let looks = c.in_ok-at.ensures.looks in
    let same = looks_pack looks told in
    let found = c.in_ok-at.ensures.free told in
    let names : page_of c.label_of-label.result ≡ Some c.args.page = (c.names.ensures).0 (search rules) in
    let count = ap (λ l. word l 3) c.label_of-label.ensures in
    let grown = c.in_ok-claim.ensures.alone.grown in
    let done = (c.in_ok-claim.ensures.guarded told).ok in
    let left = pack_done grown done ∙ ap (λ p. after p (claim_writes at label (replicate 256 0))) same in
    let q = pack (g.D.Tape.tape c.claim.new.disk) in
    does_ok at
    (going_done (going_looks (going_here a) looks told) grown (subst (λ p. Mends p (claim_writes at label (replicate 256 0))) (sym same) (claim_mends (pack a) c.args.page c.args.bytes c.args.from.now at label may found.free names count)) done)
    (record {
      wrote = record { was_free = found.free; label = label; names = names; count = count; left = left };
      none_below = subst (λ n. NoneFreeBelow q n) (sym c.in_ok-at.ensures.next) (none_below_claimed (pack a) q c.args.page c.args.from.now at label (replicate 256 0) may.none_below found names left);
    })

pub returns-in_err-at-clause-frame : goal.returns-in_err-at-clause-frame
returns-in_err-at-clause-frame g c = usable_looks c.in_err-at.ensures.looks
