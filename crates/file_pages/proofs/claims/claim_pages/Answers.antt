use Rattle.std.proofs.Common.{All, List, ap, arith, drop, length, min, refl, subst, suc, sym, ℕ, ◌*◌, ◌<◌, ◌∙◌, ◌≡◌}
use Rattle.std.proofs.lemmas.List.{drop_min}
use Rattle.std.proofs.lemmas.List.Elements.{All-cons, All-head, All-tail, All-contains_itself}
use Rattle.disk_records.proofs.Growing.{alone_here, alone_twice, nothing_added}
use Rattle.disk_records.specs.Addresses.{pages_of}
use Rattle.disk_records.specs.Tapes.{added, pack}
use Rattle.disk_records.specs.declared.records.Place.TheVariants.{Held}
use Rattle.disk_records.specs.declared.shape.Shape.{Shape}
use Rattle.pack_model.specs.operations.Commands.{claims_of, claims_writes}
use Rattle.file_pages.specs.Growing.{IsSector, WasGivenToGrow}
use Rattle.file_pages.proofs.ClaimRow.{Midway, fits_next, midway_begins, midway_breaks_off, midway_ends, midway_goes_on, next_is_free, same_claim_label}
use Rattle.file_pages.proofs.ClaimedWords.{claimed_as}
use Rattle.file_pages.proofs.Erring.{never_misled, caused_later, wrong_at}
use Rattle.std.specs.Prelude.{Contains}
use Rattle.disk_records.specs.declared.records.Page.{Page}
use Rattle.disk_records.proofs.Framing.{free_before, free_by_sector, writes_silent, writes_then}
use Rattle.disk_records.specs.Frames.{IsFreeSector}
use Rattle.file_pages.proofs.Framed.{all_of_none}
use Rattle.file_pages.proofs.claims.claim_pages.Goals as goal

pub loop-at-init : goal.loop-at-init
loop-at-init g c =
    let a = g.D.Tape.tape c.args.disk.now in
    record {
      alone = alone_here a;
      unfailed = refl;
      frame = λ told. writes_silent (IsFreeSector (pack a)) (added a a) (nothing_added a.events);
      were_free = λ told free. free;
      previous = c.requires.last_place;
      sectors = c.requires.sectors;
      given = All-contains_itself c.args.fresh.now;
      numbers = refl;
      small = let fits = c.ranges.last.fits in omega (arith, fits);
      midway = λ told can. midway_begins a c.args.fid c.args.last c.args.last_at c.args.bytes.now c.args.past.now c.args.fresh.now can;
    }

pub returns-in_default-checked_add-clause-claims : goal.returns-in_default-checked_add-clause-claims
returns-in_default-checked_add-clause-claims g c told can =
    let few = (c.loop-at.invariant.midway told can).can.few in
    let long = c.in-Some.ensures.cases.1 in
    absurd (c.in_default-checked_add.ensures (omega (arith, few, long)))

pub returns-in_default-checked_add-clause-misled : goal.returns-in_default-checked_add-clause-misled
returns-in_default-checked_add-clause-misled g c told can =
    let few = (c.loop-at.invariant.midway told can).can.few in
    let long = c.in-Some.ensures.cases.1 in
    absurd (c.in_default-checked_add.ensures (omega (arith, few, long)))

pub claim_page-requires-clause-previous : goal.claim_page-requires-clause-previous
claim_page-requires-clause-previous g c = subst (λ (s : Shape). c.loop-at.previous < pages_of s) (sym c.loop-at.invariant.alone.grown.form) c.loop-at.invariant.previous

pub claim_page-requires-clause-sector : goal.claim_page-requires-clause-sector
claim_page-requires-clause-sector g c =
    let form = (g.D.Tape.tape c.args.disk.now).form in
    subst (λ (s : Shape). IsSector s c.in-Some.at.now) (sym c.loop-at.invariant.alone.grown.form) (All-head (IsSector form) c.in-Some.at.now c.in-Some.later.now (subst (All (IsSector form)) c.in-Some.ensures.cases.0 c.loop-at.invariant.sectors))

pub claim_page-requires-clause-later : goal.claim_page-requires-clause-later
claim_page-requires-clause-later g c =
    let form = (g.D.Tape.tape c.args.disk.now).form in
    subst (λ (s : Shape). All (IsSector s) c.in-Some.later.now) (sym c.loop-at.invariant.alone.grown.form) (All-tail (IsSector form) c.in-Some.at.now c.in-Some.later.now (subst (All (IsSector form)) c.in-Some.ensures.cases.0 c.loop-at.invariant.sectors))

pub returns-in-Err-clause-claims : goal.returns-in-Err-clause-claims
returns-in-Err-clause-claims g c told can =
    let a = g.D.Tape.tape c.args.disk.now in
    let b = g.D.Tape.tape c.loop-at.disk in
    let d = g.D.Tape.tape c.claim_page.new.disk in
    let inv = c.loop-at.invariant in
    let at = c.in-Some.at.now in
    let later = c.in-Some.later.now in
    let number : c.in-Some-checked_add.number ≡ suc c.loop-at.before = omega (arith, c.in-Some-checked_add.ensures.1) in
    let whole = claims_writes (claims_of a.form c.args.fid (suc c.args.last) c.args.last_at c.args.bytes.now c.args.past.now c.args.fresh.now) in
    let x = subst (λ (l : List ℕ). Midway whole (2 * length c.args.fresh.now) a b c.args.fid c.loop-at.before c.loop-at.previous c.loop-at.left.now c.args.past.now l) c.in-Some.ensures.cases.0 (inv.midway told can) in
    let fits = fits_next (pack b) c.loop-at.before c.loop-at.left.now c.args.past.now at later x.can in
    let guarded = claimed_as _ _ _ _ (same_claim_label b.form a.form c.args.fid c.in-Some-checked_add.number (suc c.loop-at.before) c.loop-at.previous c.loop-at.left.now c.args.past.now at later inv.alone.grown.form number) refl (c.in-Err.ensures.guarded told fits) in
    midway_breaks_off whole (2 * length c.args.fresh.now) a b d c.args.fid c.loop-at.before c.loop-at.previous c.loop-at.left.now c.args.past.now at later inv.alone c.claim_page.ensures.alone x c.in-Err.error (Held at) at _ c.error_at.result c.error_at.ensures guarded

pub returns-in-Err-clause-misled : goal.returns-in-Err-clause-misled
returns-in-Err-clause-misled g c told can =
    let a = g.D.Tape.tape c.args.disk.now in
    let b = g.D.Tape.tape c.loop-at.disk in
    let d = g.D.Tape.tape c.claim_page.new.disk in
    let inv = c.loop-at.invariant in
    let at = c.in-Some.at.now in
    let later = c.in-Some.later.now in
    let whole = claims_writes (claims_of a.form c.args.fid (suc c.args.last) c.args.last_at c.args.bytes.now c.args.past.now c.args.fresh.now) in
    let x = subst (λ (l : List ℕ). Midway whole (2 * length c.args.fresh.now) a b c.args.fid c.loop-at.before c.loop-at.previous c.loop-at.left.now c.args.past.now l) c.in-Some.ensures.cases.0 (inv.midway told can) in
    let fits = fits_next (pack b) c.loop-at.before c.loop-at.left.now c.args.past.now at later x.can in
    let free = next_is_free whole (2 * length c.args.fresh.now) a b d c.args.fid c.loop-at.before c.loop-at.previous c.loop-at.left.now c.args.past.now at later inv.alone c.claim_page.ensures.alone x in
    never_misled (λ p. IsFreeSector p at) at b d c.in-Err.error (Held at) at _ c.error_at.result c.error_at.ensures (c.in-Err.ensures.guarded told fits).wrong free

pub returns-in-Err-clause-cause : goal.returns-in-Err-clause-cause
returns-in-Err-clause-cause g c =
    let less = c.loop-at.invariant.unfailed in
    caused_later (g.D.Tape.tape c.args.disk.now) (g.D.Tape.tape c.loop-at.disk) (g.D.Tape.tape c.claim_page.new.disk) c.in-Err.error (Held c.in-Some.at.now) c.in-Some.at.now _ c.error_at.result c.error_at.ensures less c.in-Err.ensures.cause

pub returns-in-Err-clause-alone : goal.returns-in-Err-clause-alone
returns-in-Err-clause-alone g c = alone_twice c.loop-at.invariant.alone c.claim_page.ensures.alone

pub loop-at-smaller : goal.loop-at-smaller
loop-at-smaller g c = let long = c.in-Some.ensures.cases.1 in omega (arith, long)

pub loop-at-preserved : goal.loop-at-preserved
loop-at-preserved g c =
    let a = g.D.Tape.tape c.args.disk.now in
    let b = g.D.Tape.tape c.loop-at.disk in
    let d = g.D.Tape.tape c.claim_page.new.disk in
    let inv = c.loop-at.invariant in
    let at = c.in-Some.at.now in
    let later = c.in-Some.later.now in
    let rest = c.in-Some.ensures.cases.0 in
    let long = c.in-Some.ensures.cases.1 in
    let sectors = subst (All (IsSector a.form)) rest inv.sectors in
    let number : c.in-Some-checked_add.number ≡ suc c.loop-at.before = omega (arith, c.in-Some-checked_add.ensures.1) in
    let min_is : c.min.result ≡ min (length c.loop-at.left.now) 512 = c.min.ensures in
    let count : c.min.result ≡ min 512 (length c.loop-at.left.now) = omega (arith, min_is) in
    let left : c.after_first-left.result.now ≡ drop 512 c.loop-at.left.now = c.after_first-left.ensures ∙ ap (λ n. drop n c.loop-at.left.now) count ∙ drop_min 512 c.loop-at.left.now in
    let whole = claims_writes (claims_of a.form c.args.fid (suc c.args.last) c.args.last_at c.args.bytes.now c.args.past.now c.args.fresh.now) in
    let numbers = inv.numbers in
    record {
      unfailed = c.in-Ok.ensures.cause ∙ inv.unfailed;
      frame = λ told. writes_then IsFreeSector free_by_sector inv.alone.grown c.claim_page.ensures.alone.grown (inv.frame told) (c.claim_page.ensures.frame told);
      were_free = λ told free. inv.were_free told (subst (All (IsFreeSector (pack a))) (sym rest) (All-cons (IsFreeSector (pack a)) at later (free_before inv.alone.grown (inv.frame told) at (c.in-Ok.ensures.was_free told)) free));
      alone = alone_twice inv.alone c.claim_page.ensures.alone;
      previous = (All-head (IsSector a.form) at later sectors).last;
      sectors = All-tail (IsSector a.form) at later sectors;
      given = All-tail (Contains c.args.fresh.now) at later (subst (All (Contains c.args.fresh.now)) rest inv.given);
      numbers = omega (arith, numbers, number, long);
      small = let fits = c.in-Some-checked_add.ensures in omega (arith, fits.0, number);
      midway = λ told can.
          let x = subst (λ (l : List ℕ). Midway whole (2 * length c.args.fresh.now) a b c.args.fid c.loop-at.before c.loop-at.previous c.loop-at.left.now c.args.past.now l) rest (inv.midway told can) in
          let fits = fits_next (pack b) c.loop-at.before c.loop-at.left.now c.args.past.now at later x.can in
          let guarded = claimed_as _ _ _ _ (same_claim_label b.form a.form c.args.fid c.in-Some-checked_add.number (suc c.loop-at.before) c.loop-at.previous c.loop-at.left.now c.args.past.now at later inv.alone.grown.form number) refl (c.in-Ok.ensures.guarded told fits) in
          let on = midway_goes_on whole (2 * length c.args.fresh.now) a b d c.args.fid c.loop-at.before c.loop-at.previous c.loop-at.left.now c.args.past.now at later inv.alone c.claim_page.ensures.alone x guarded in
          subst (λ n. Midway whole (2 * length c.args.fresh.now) a d c.args.fid n at c.after_first-left.result.now c.args.past.now later) (sym number)
          (subst (λ (l : List ℕ). Midway whole (2 * length c.args.fresh.now) a d c.args.fid (suc c.loop-at.before) at l c.args.past.now later) (sym left) on);
    }

pub returns-clause-claims : goal.returns-clause-claims
returns-clause-claims g c told can =
    let a = g.D.Tape.tape c.args.disk.now in
    let b = g.D.Tape.tape c.loop-at.disk in
    midway_ends (claims_writes (claims_of a.form c.args.fid (suc c.args.last) c.args.last_at c.args.bytes.now c.args.past.now c.args.fresh.now)) (2 * length c.args.fresh.now) a b c.args.fid c.loop-at.before c.loop-at.previous c.loop-at.left.now c.args.past.now c.loop-at.rest.now
    c.in_default.ensures.cases (c.loop-at.invariant.midway told can)

pub returns-clause-few : goal.returns-clause-few
returns-clause-few g c = let none = c.in_default.ensures.cases in let numbers = c.loop-at.invariant.numbers in let small = c.loop-at.invariant.small in omega (arith, none, numbers, small)

pub returns-clause-alone : goal.returns-clause-alone
returns-clause-alone g c = c.loop-at.invariant.alone

pub returns-in_default-checked_add-clause-given : goal.returns-in_default-checked_add-clause-given
returns-in_default-checked_add-clause-given g c =
    let rest = subst (All (Contains c.args.fresh.now)) c.in-Some.ensures.cases.0 c.loop-at.invariant.given in
    rw c.at_held.ensures (record { held = refl; own = ap (λ (p : Page). p.fid) c.page_of_file.ensures; given = All-head (Contains c.args.fresh.now) c.in-Some.at.now c.in-Some.later.now rest })

pub returns-in-Err-clause-given : goal.returns-in-Err-clause-given
returns-in-Err-clause-given g c =
    let rest = subst (All (Contains c.args.fresh.now)) c.in-Some.ensures.cases.0 c.loop-at.invariant.given in
    wrong_at (Unit {0}) (WasGivenToGrow c.args.fid c.args.fresh.now) c.in-Err.error (Held c.in-Some.at.now) c.in-Some.at.now _ c.error_at.result c.error_at.ensures
    (λ found. record { held = refl; own = ap (λ (p : Page). p.fid) c.page_of_file-in-Err.ensures; given = All-head (Contains c.args.fresh.now) c.in-Some.at.now c.in-Some.later.now rest })

pub returns-in-Err-clause-frame : goal.returns-in-Err-clause-frame
returns-in-Err-clause-frame g c told = writes_then IsFreeSector free_by_sector c.loop-at.invariant.alone.grown c.claim_page.ensures.alone.grown (c.loop-at.invariant.frame told) (c.claim_page.ensures.frame told)

pub returns-clause-were_free : goal.returns-clause-were_free
returns-clause-were_free g c told = c.loop-at.invariant.were_free told (all_of_none (IsFreeSector (pack (g.D.Tape.tape c.args.disk.now))) c.loop-at.rest.now c.in_default.ensures.cases)
