use Rattle.std.proofs.Common.{◌≡◌, true, false, not, Some, get_or, ap, sym, subst, ◌∙◌, arith, rules, refl}
use Rattle.disk_records.specs.Addresses.{is_right_header, pages_of}
use Rattle.disk_records.specs.declared.records.Sector.{Sector}
use Rattle.disk_records.specs.Packs.{Pack}
use Rattle.disk_records.specs.Tapes.{pack}
use Rattle.pack_model.specs.reading.Sights.{sights}
use Rattle.pack_model.specs.reading.Sights.Sight.{hidden}
use Rattle.pack_model.specs.scavenger.Scavenging.{root_stands}
use Rattle.pack_model.specs.scavenger.Scavenging.Refusal.{root_bad, root_taken}
use Rattle.pack_model.specs.states.InUse.{available, is_good}
use Rattle.pack_model.specs.scavenger.Needed.{needed, root_widens}
use Rattle.disk_records.proofs.Looking.{looks_pack}
use Rattle.disk_records.proofs.Growing.{alone_here, alone_twice, length-pack, silent_twice}
use Rattle.scav_pages.specs.declared.errors.Stop.TheVariants.{Memory}
use Rattle.scav_pages.proofs.Causing.{cause_of_looked, cause_of_part}
use Rattle.scav_names.specs.Catalogues.{HoldsNames}
use Rattle.scavenger.proofs.Finishing.{few_needed}
use Rattle.scavenger.proofs.Refusals.{available_is, first_bad, first_full, first_none, first_taken, good_header}
use Rattle.scavenger.proofs.refusing.refuse.Goals as goal

pub returns-in_err-names-clause-alone : goal.returns-in_err-names-clause-alone
returns-in_err-names-clause-alone g c = alone_twice c.in_ok-look.ensures.looks.alone c.in_err-names.ensures.alone

pub returns-in_err-more-clause-alone : goal.returns-in_err-more-clause-alone
returns-in_err-more-clause-alone g c = alone_twice c.in_ok-look.ensures.looks.alone c.in_ok-names.ensures.alone

pub returns-then-needed-free-clause-alone : goal.returns-then-needed-free-clause-alone
returns-then-needed-free-clause-alone g c = alone_twice c.in_ok-look.ensures.looks.alone c.in_ok-names.ensures.alone

pub returns-clause-alone : goal.returns-clause-alone
returns-clause-alone g c = alone_twice c.in_ok-look.ensures.looks.alone c.in_ok-names.ensures.alone

pub returns-then-not-branch-clause-refuses : goal.returns-then-not-branch-clause-refuses
returns-then-not-branch-clause-refuses g c = λ told counted bad.
    let p = pack (g.D.Tape.tape c.args.disk.now) in
    let least = (g.D.Tape.tape c.args.disk.now).form.least_pages in
    let size = length-pack (g.D.Tape.tape c.args.disk.now) ∙ g.met.D.Disk.sized c.args.disk.now told in
    let held = c.in_ok-look.ensures.holds told in
    let right : c.in_ok-look.field-0 ≡ is_good (get_or (sights (pack (g.D.Tape.tape c.args.disk.now))) 1 hidden) = c.in_ok-look.ensures.right ∙ ap (λ (s : Sector). is_right_header (g.D.Tape.tape c.args.disk.now).form 1 s.header) held ∙ sym (good_header (pack (g.D.Tape.tape c.args.disk.now)) (omega (arith, least, size))) in
    let wrong : c.in_ok-look.field-0 ≡ false = search rules in
    ap (λ (s : Sector). Some (root_bad s.header)) held ∙ first_bad (pack (g.D.Tape.tape c.args.disk.now)) (sym right ∙ wrong)

pub returns-then-counts-clause-refuses : goal.returns-then-counts-clause-refuses
returns-then-counts-clause-refuses g c = λ told counted bad.
    let least = (g.D.Tape.tape c.args.disk.now).form.least_pages in
    let size = length-pack (g.D.Tape.tape c.args.disk.now) ∙ g.met.D.Disk.sized c.args.disk.now told in
    let held = c.in_ok-look.ensures.holds told in
    let right : c.in_ok-look.field-0 ≡ is_good (get_or (sights (pack (g.D.Tape.tape c.args.disk.now))) 1 hidden) = c.in_ok-look.ensures.right ∙ ap (λ (s : Sector). is_right_header (g.D.Tape.tape c.args.disk.now).form 1 s.header) held ∙ sym (good_header (pack (g.D.Tape.tape c.args.disk.now)) (omega (arith, least, size))) in
    let good : is_good (get_or (sights (pack (g.D.Tape.tape c.args.disk.now))) 1 hidden) ≡ true = sym right ∙ (search rules) in
    let taken : root_stands (g.D.Tape.tape c.args.disk.now).form (sights (pack (g.D.Tape.tape c.args.disk.now))) (get_or (sights (pack (g.D.Tape.tape c.args.disk.now))) 1 hidden) ≡ false = sym (counted.taken good) ∙ ap not c.if-counts.true in
    ap (λ (s : Sector). Some (root_taken s.label)) held ∙ first_taken (pack (g.D.Tape.tape c.args.disk.now)) good taken

pub returns-then-needed-free-clause-refuses : goal.returns-then-needed-free-clause-refuses
returns-then-needed-free-clause-refuses g c = λ told counted bad.
    let least = (g.D.Tape.tape c.args.disk.now).form.least_pages in
    let size = length-pack (g.D.Tape.tape c.args.disk.now) ∙ g.met.D.Disk.sized c.args.disk.now told in
    let held = c.in_ok-look.ensures.holds told in
    let right : c.in_ok-look.field-0 ≡ is_good (get_or (sights (pack (g.D.Tape.tape c.args.disk.now))) 1 hidden) = c.in_ok-look.ensures.right ∙ ap (λ (s : Sector). is_right_header (g.D.Tape.tape c.args.disk.now).form 1 s.header) held ∙ sym (good_header (pack (g.D.Tape.tape c.args.disk.now)) (omega (arith, least, size))) in
    let good : is_good (get_or (sights (pack (g.D.Tape.tape c.args.disk.now))) 1 hidden) ≡ true = sym right ∙ (search rules) in
    let stands : root_stands (g.D.Tape.tape c.args.disk.now).form (sights (pack (g.D.Tape.tape c.args.disk.now))) (get_or (sights (pack (g.D.Tape.tape c.args.disk.now))) 1 hidden) ≡ true = sym (counted.taken good) ∙ ap not c.if-counts.false in
    let here = looks_pack c.in_ok-look.ensures.looks told in
    let more : c.in_ok-more.more ≡ root_widens (g.D.Tape.tape c.args.disk.now).form (sights (pack (g.D.Tape.tape c.args.disk.now))) = c.in_ok-more.ensures (pack (g.D.Tape.tape c.args.disk.now)) size (subst (λ (q : Pack). HoldsNames q c.in_ok-names.names) here (c.in_ok-names.ensures.names told)) in
    let few = few_needed (pack (g.D.Tape.tape c.args.disk.now)) size in
    let all = counted.needed_is in
    let sum = c.saturating_add-needed.ensures in
    let needs : c.saturating_add-needed.result ≡ needed (g.D.Tape.tape c.args.disk.now).form (sights (pack (g.D.Tape.tape c.args.disk.now))) = omega (arith, few, all, sum, more) in
    let frees = available_is (pack (g.D.Tape.tape c.args.disk.now)) c.args.counts.now c.args.bad size counted bad in
    let form = ap pages_of (c.shape.ensures ∙ c.in_ok-names.ensures.alone.grown.form ∙ c.in_ok-look.ensures.looks.alone.grown.form) in
    let pages = c.pages.ensures in
    let a = c.from.ensures in
    let b = c.from-2.ensures in
    let d = c.saturating_sub-good.ensures in
    let e = c.saturating_sub-free.ensures in
    let free : c.saturating_sub-free.result ≡ available (g.D.Tape.tape c.args.disk.now).form (sights (pack (g.D.Tape.tape c.args.disk.now))) = omega (arith, frees, form, pages, a, b, d, e) in
    first_full (pack (g.D.Tape.tape c.args.disk.now)) good stands c.saturating_add-needed.result c.saturating_sub-free.result needs free c.if-needed-free.true

pub returns-clause-refuses : goal.returns-clause-refuses
returns-clause-refuses g c = λ told counted bad.
    let least = (g.D.Tape.tape c.args.disk.now).form.least_pages in
    let size = length-pack (g.D.Tape.tape c.args.disk.now) ∙ g.met.D.Disk.sized c.args.disk.now told in
    let held = c.in_ok-look.ensures.holds told in
    let right : c.in_ok-look.field-0 ≡ is_good (get_or (sights (pack (g.D.Tape.tape c.args.disk.now))) 1 hidden) = c.in_ok-look.ensures.right ∙ ap (λ (s : Sector). is_right_header (g.D.Tape.tape c.args.disk.now).form 1 s.header) held ∙ sym (good_header (pack (g.D.Tape.tape c.args.disk.now)) (omega (arith, least, size))) in
    let good : is_good (get_or (sights (pack (g.D.Tape.tape c.args.disk.now))) 1 hidden) ≡ true = sym right ∙ (search rules) in
    let stands : root_stands (g.D.Tape.tape c.args.disk.now).form (sights (pack (g.D.Tape.tape c.args.disk.now))) (get_or (sights (pack (g.D.Tape.tape c.args.disk.now))) 1 hidden) ≡ true = sym (counted.taken good) ∙ ap not c.if-counts.false in
    let here = looks_pack c.in_ok-look.ensures.looks told in
    let more : c.in_ok-more.more ≡ root_widens (g.D.Tape.tape c.args.disk.now).form (sights (pack (g.D.Tape.tape c.args.disk.now))) = c.in_ok-more.ensures (pack (g.D.Tape.tape c.args.disk.now)) size (subst (λ (q : Pack). HoldsNames q c.in_ok-names.names) here (c.in_ok-names.ensures.names told)) in
    let few = few_needed (pack (g.D.Tape.tape c.args.disk.now)) size in
    let all = counted.needed_is in
    let sum = c.saturating_add-needed.ensures in
    let needs : c.saturating_add-needed.result ≡ needed (g.D.Tape.tape c.args.disk.now).form (sights (pack (g.D.Tape.tape c.args.disk.now))) = omega (arith, few, all, sum, more) in
    let frees = available_is (pack (g.D.Tape.tape c.args.disk.now)) c.args.counts.now c.args.bad size counted bad in
    let form = ap pages_of (c.shape.ensures ∙ c.in_ok-names.ensures.alone.grown.form ∙ c.in_ok-look.ensures.looks.alone.grown.form) in
    let pages = c.pages.ensures in
    let a = c.from.ensures in
    let b = c.from-2.ensures in
    let d = c.saturating_sub-good.ensures in
    let e = c.saturating_sub-free.ensures in
    let free : c.saturating_sub-free.result ≡ available (g.D.Tape.tape c.args.disk.now).form (sights (pack (g.D.Tape.tape c.args.disk.now))) = omega (arith, frees, form, pages, a, b, d, e) in
    first_none (pack (g.D.Tape.tape c.args.disk.now)) good stands c.saturating_add-needed.result c.saturating_sub-free.result needs free c.if-needed-free.false

pub returns-in_err-look-clause-cause : goal.returns-in_err-look-clause-cause
returns-in_err-look-clause-cause g c = cause_of_looked c.in_err-look.field-0.0 c.from_residual.result (alone_here _) refl c.in_err-look.ensures.looks.alone c.in_err-look.ensures.cause c.from_residual.ensures.1

pub returns-in_err-names-clause-cause : goal.returns-in_err-names-clause-cause
returns-in_err-names-clause-cause g c = cause_of_part c.in_err-names.field-0.0 c.from_residual-in_err-names.result c.in_ok-look.ensures.looks.alone c.in_ok-look.ensures.cause c.in_err-names.ensures.alone c.in_err-names.ensures.cause c.from_residual-in_err-names.ensures.1

pub returns-in_err-more-clause-cause : goal.returns-in_err-more-clause-cause
returns-in_err-more-clause-cause g c = cause_of_part Memory c.from_residual-in_err-more.result (alone_twice c.in_ok-look.ensures.looks.alone c.in_ok-names.ensures.alone) (c.in_ok-names.ensures.cause ∙ c.in_ok-look.ensures.cause) (alone_here _) refl c.from_residual-in_err-more.ensures.1

pub returns-in_err-look-clause-alone : goal.returns-in_err-look-clause-alone
returns-in_err-look-clause-alone g c = c.in_err-look.ensures.looks.alone

pub returns-in_err-look-clause-silent : goal.returns-in_err-look-clause-silent
returns-in_err-look-clause-silent g c = c.in_err-look.ensures.looks.silent

pub returns-then-not-branch-clause-refusal : goal.returns-then-not-branch-clause-refusal
returns-then-not-branch-clause-refusal g c = tt

pub returns-then-not-branch-clause-found : goal.returns-then-not-branch-clause-found
returns-then-not-branch-clause-found g c = λ told astray. cc

pub returns-then-not-branch-clause-cause : goal.returns-then-not-branch-clause-cause
returns-then-not-branch-clause-cause g c = c.in_ok-look.ensures.cause

pub returns-then-not-branch-clause-alone : goal.returns-then-not-branch-clause-alone
returns-then-not-branch-clause-alone g c = c.in_ok-look.ensures.looks.alone

pub returns-then-not-branch-clause-silent : goal.returns-then-not-branch-clause-silent
returns-then-not-branch-clause-silent g c = c.in_ok-look.ensures.looks.silent

pub returns-then-counts-clause-refusal : goal.returns-then-counts-clause-refusal
returns-then-counts-clause-refusal g c = tt

pub returns-then-counts-clause-found : goal.returns-then-counts-clause-found
returns-then-counts-clause-found g c = λ told astray. cc

pub returns-then-counts-clause-cause : goal.returns-then-counts-clause-cause
returns-then-counts-clause-cause g c = c.in_ok-look.ensures.cause

pub returns-then-counts-clause-alone : goal.returns-then-counts-clause-alone
returns-then-counts-clause-alone g c = c.in_ok-look.ensures.looks.alone

pub returns-then-counts-clause-silent : goal.returns-then-counts-clause-silent
returns-then-counts-clause-silent g c = c.in_ok-look.ensures.looks.silent

pub returns-in_err-names-clause-silent : goal.returns-in_err-names-clause-silent
returns-in_err-names-clause-silent g c = λ told. silent_twice c.in_ok-look.ensures.looks.alone.grown c.in_err-names.ensures.alone.grown (c.in_ok-look.ensures.looks.silent told) (c.in_err-names.ensures.silent told)

pub returns-in_err-more-clause-silent : goal.returns-in_err-more-clause-silent
returns-in_err-more-clause-silent g c = λ told. silent_twice c.in_ok-look.ensures.looks.alone.grown c.in_ok-names.ensures.alone.grown (c.in_ok-look.ensures.looks.silent told) (c.in_ok-names.ensures.silent told)

pub returns-then-needed-free-clause-refusal : goal.returns-then-needed-free-clause-refusal
returns-then-needed-free-clause-refusal g c = tt

pub returns-then-needed-free-clause-found : goal.returns-then-needed-free-clause-found
returns-then-needed-free-clause-found g c = λ told astray. cc

pub returns-then-needed-free-clause-cause : goal.returns-then-needed-free-clause-cause
returns-then-needed-free-clause-cause g c = c.in_ok-names.ensures.cause ∙ c.in_ok-look.ensures.cause

pub returns-then-needed-free-clause-silent : goal.returns-then-needed-free-clause-silent
returns-then-needed-free-clause-silent g c = λ told. silent_twice c.in_ok-look.ensures.looks.alone.grown c.in_ok-names.ensures.alone.grown (c.in_ok-look.ensures.looks.silent told) (c.in_ok-names.ensures.silent told)

pub returns-clause-refusal : goal.returns-clause-refusal
returns-clause-refusal g c = tt

pub returns-clause-found : goal.returns-clause-found
returns-clause-found g c = λ told astray. cc

pub returns-clause-cause : goal.returns-clause-cause
returns-clause-cause g c = c.in_ok-names.ensures.cause ∙ c.in_ok-look.ensures.cause

pub returns-clause-silent : goal.returns-clause-silent
returns-clause-silent g c = λ told. silent_twice c.in_ok-look.ensures.looks.alone.grown c.in_ok-names.ensures.alone.grown (c.in_ok-look.ensures.looks.silent told) (c.in_ok-names.ensures.silent told)
