use Rattle.std.proofs.Common.{Err, List, Ok, ap, arith, set, true, ℕ, ◌∙◌, ◌≡◌, inl, inr, refl}
use Rattle.file_pages.specs.Calls.{WasGiven}
use Rattle.disk_records.proofs.Growing.{alone_twice}
use Rattle.disk_records.specs.Addresses.{real_of}
use Rattle.disk_records.specs.Labels.{in_range, tag}
use Rattle.disk_records.specs.declared.records.Place.TheVariants.{Held}
use Rattle.disk_records.specs.declared.shape.Shape.{Shape}
use Rattle.pack_model.specs.hints.Links.{no_link}
use Rattle.pack_model.specs.operations.PageWords.{first_page_label, leader_label, new_bytes}
use Rattle.file_pages.specs.Counting.{counted_after}
use Rattle.file_pages.proofs.ClaimedWords.{claimed_as, few_bytes, label_ranged}
use Rattle.file_pages.proofs.Erring.{never_misled, wrong_at}
use Rattle.file_pages.proofs.TwoClaims.{leader_still_free, make_broken, make_done, make_others, make_placed, make_unbegun}
use Rattle.disk_records.proofs.Framing.{free_by_sector, free_before, writes_then}
use Rattle.disk_records.specs.Frames.{IsFreeSector}
use Rattle.disk_records.specs.Tapes.{pack}
use Rattle.label_check.proofs.Framing.{claim_here, guarded_writes}
use Rattle.file_pages.proofs.making.make_file.Goals as goal

pub claim-requires-clause-label : goal.claim-requires-clause-label
claim-requires-clause-label g c = ap (λ (l : List ℕ). in_range (tag l)) c.first_label-label.ensures.label ∙ label_ranged c.args.fid 1 (new_bytes c.args.fid) no_link (real_of c.shape-shape.result c.args.leader_at) c.requires.full_name (few_bytes c.args.fid) (omega arith)

pub claim-claimed-requires-clause-label : goal.claim-claimed-requires-clause-label
claim-claimed-requires-clause-label g c = ap (λ (l : List ℕ). in_range (tag l)) c.new_leader_label-label.ensures.label ∙ label_ranged c.args.fid 0 512 (real_of c.shape-shape.result c.args.page_at) no_link c.requires.full_name (omega arith) (omega arith)

pub returns-in-Err-clause-operates : goal.returns-in-Err-clause-operates
returns-in-Err-clause-operates g c told may =
    let label = c.first_label-label.ensures.label ∙ ap (λ (s : Shape). first_page_label s c.args.fid c.args.leader_at) c.shape-shape.ensures in
    make_unbegun _ _ c.args.table.now c.args.fid c.args.name.now c.args.moment c.args.leader_at c.args.page_at may c.args.table.now c.in-Err.error (Held c.args.page_at) c.args.page_at _ c.error_at.result c.error_at.ensures
    (claimed_as _ _ _ _ label c.first_value-value.ensures (c.in-Err.ensures.guarded told))

pub returns-in-Ok-claimed-clause-operates : goal.returns-in-Ok-claimed-clause-operates
returns-in-Ok-claimed-clause-operates g c told may =
    let a = g.D.Tape.tape c.args.disk.now in
    let b = g.D.Tape.tape c.claim.new.disk in
    let d = g.D.Tape.tape c.claim-claimed.new.disk in
    let form = c.shape-shape.ensures in
    let first : c.first_label-label.result ≡ first_page_label a.form c.args.fid c.args.leader_at = c.first_label-label.ensures.label ∙ ap (λ (s : Shape). first_page_label s c.args.fid c.args.leader_at) form in
    let second : c.new_leader_label-label.result ≡ leader_label a.form c.args.fid c.args.page_at = c.new_leader_label-label.ensures.label ∙ ap (λ (s : Shape). leader_label s c.args.fid c.args.page_at) form in
    let count1 = g.met.D.Disk.counted c.args.disk.now told in
    let count2 = g.met.D.Disk.counted c.claim.new.disk told in
    let count3 = g.met.D.Disk.counted c.claim-claimed.new.disk told in
    let done = (claimed_as _ _ _ _ first c.first_value-value.ensures (c.in-Ok.ensures.guarded told)).ok in
    let guarded = claimed_as _ _ _ _ second c.new_value-value.ensures (rw c.in-Ok-claimed.is at (c.claim-claimed.ensures.guarded told)) in
    let counts : c.count_operation.new.tally ≡ counted_after b.writes 2 d.writes (Ok tt) c.args.tally.now =
    c.count_operation.ensures ∙ ap (λ k. counted_after k 2 c.writes-now.result c.claim-claimed.result c.args.tally.now) c.writes-before.ensures ∙ ap (λ k. counted_after b.writes 2 k c.claim-claimed.result c.args.tally.now) c.writes-now.ensures ∙ ap (λ r. counted_after b.writes 2 d.writes r c.args.tally.now) c.in-Ok-claimed.is in
    let limit = c.limit_of-limit.ensures in
    make_done _ _ c.args.table.now c.args.fid c.args.name.now c.args.moment c.args.leader_at c.args.page_at may _ c.claim.ensures.alone c.claim-claimed.ensures.alone done count1 count2 count3 c.set-in-Ok-claimed.new.self guarded
    (c.set-in-Ok-claimed.ensures ∙ ap (λ l. set l c.args.leader_at true) c.set.ensures) counts (omega (arith, limit))

pub returns-in-Ok-claimed-clause-placed : goal.returns-in-Ok-claimed-clause-placed
returns-in-Ok-claimed-clause-placed g c told may =
    let a = g.D.Tape.tape c.args.disk.now in
    let form = c.shape-shape.ensures in
    let first : c.first_label-label.result ≡ first_page_label a.form c.args.fid c.args.leader_at = c.first_label-label.ensures.label ∙ ap (λ (s : Shape). first_page_label s c.args.fid c.args.leader_at) form in
    let second : c.new_leader_label-label.result ≡ leader_label a.form c.args.fid c.args.page_at = c.new_leader_label-label.ensures.label ∙ ap (λ (s : Shape). leader_label s c.args.fid c.args.page_at) form in
    let done = (claimed_as _ _ _ _ first c.first_value-value.ensures (c.in-Ok.ensures.guarded told)).ok in
    let guarded = claimed_as _ _ _ _ second c.new_value-value.ensures (rw c.in-Ok-claimed.is at (c.claim-claimed.ensures.guarded told)) in
    make_placed _ _ c.args.table.now c.args.fid c.args.name.now c.args.moment c.args.leader_at c.args.page_at may _ c.claim.ensures.alone c.claim-claimed.ensures.alone done guarded.ok.wrote

pub returns-in-Ok-claimed-clause-others : goal.returns-in-Ok-claimed-clause-others
returns-in-Ok-claimed-clause-others g c told may =
    let a = g.D.Tape.tape c.args.disk.now in
    let form = c.shape-shape.ensures in
    let first : c.first_label-label.result ≡ first_page_label a.form c.args.fid c.args.leader_at = c.first_label-label.ensures.label ∙ ap (λ (s : Shape). first_page_label s c.args.fid c.args.leader_at) form in
    let second : c.new_leader_label-label.result ≡ leader_label a.form c.args.fid c.args.page_at = c.new_leader_label-label.ensures.label ∙ ap (λ (s : Shape). leader_label s c.args.fid c.args.page_at) form in
    let done = (claimed_as _ _ _ _ first c.first_value-value.ensures (c.in-Ok.ensures.guarded told)).ok in
    let guarded = claimed_as _ _ _ _ second c.new_value-value.ensures (rw c.in-Ok-claimed.is at (c.claim-claimed.ensures.guarded told)) in
    make_others _ _ c.args.table.now c.args.fid c.args.name.now c.args.moment c.args.leader_at c.args.page_at may _ c.claim.ensures.alone c.claim-claimed.ensures.alone done guarded.ok.wrote

pub returns-in-Err-claimed-clause-operates : goal.returns-in-Err-claimed-clause-operates
returns-in-Err-claimed-clause-operates g c told may =
    let a = g.D.Tape.tape c.args.disk.now in
    let b = g.D.Tape.tape c.claim.new.disk in
    let d = g.D.Tape.tape c.claim-claimed.new.disk in
    let form = c.shape-shape.ensures in
    let first : c.first_label-label.result ≡ first_page_label a.form c.args.fid c.args.leader_at = c.first_label-label.ensures.label ∙ ap (λ (s : Shape). first_page_label s c.args.fid c.args.leader_at) form in
    let second : c.new_leader_label-label.result ≡ leader_label a.form c.args.fid c.args.page_at = c.new_leader_label-label.ensures.label ∙ ap (λ (s : Shape). leader_label s c.args.fid c.args.page_at) form in
    let count1 = g.met.D.Disk.counted c.args.disk.now told in
    let count2 = g.met.D.Disk.counted c.claim.new.disk told in
    let count3 = g.met.D.Disk.counted c.claim-claimed.new.disk told in
    let done = (claimed_as _ _ _ _ first c.first_value-value.ensures (c.in-Ok.ensures.guarded told)).ok in
    let error = c.in-Err-claimed.error in
    let guarded = claimed_as _ _ _ _ second c.new_value-value.ensures (rw c.in-Err-claimed.is at (c.claim-claimed.ensures.guarded told)) in
    let counts : c.count_operation.new.tally ≡ counted_after b.writes 2 d.writes (Err error) c.args.tally.now =
    c.count_operation.ensures ∙ ap (λ k. counted_after k 2 c.writes-now.result c.claim-claimed.result c.args.tally.now) c.writes-before.ensures ∙ ap (λ k. counted_after b.writes 2 k c.claim-claimed.result c.args.tally.now) c.writes-now.ensures ∙ ap (λ r. counted_after b.writes 2 d.writes r c.args.tally.now) c.in-Err-claimed.is in
    make_broken _ _ c.args.table.now c.args.fid c.args.name.now c.args.moment c.args.leader_at c.args.page_at may _ c.claim.ensures.alone c.claim-claimed.ensures.alone done count1 count2 count3 c.args.table.now error (Held c.args.leader_at) c.args.leader_at _ c.error_at-in-Err-claimed.result c.error_at-in-Err-claimed.ensures guarded counts

pub returns-in-Err-claimed-clause-misled : goal.returns-in-Err-claimed-clause-misled
returns-in-Err-claimed-clause-misled g c told may =
    let a = g.D.Tape.tape c.args.disk.now in
    let first : c.first_label-label.result ≡ first_page_label a.form c.args.fid c.args.leader_at = c.first_label-label.ensures.label ∙ ap (λ (s : Shape). first_page_label s c.args.fid c.args.leader_at) c.shape-shape.ensures in
    let done = (claimed_as _ _ _ _ first c.first_value-value.ensures (c.in-Ok.ensures.guarded told)).ok in
    let free = leader_still_free _ _ c.args.table.now c.args.fid c.args.name.now c.args.moment c.args.leader_at c.args.page_at may _ c.claim.ensures.alone c.claim-claimed.ensures.alone done in
    never_misled _ _ _ _ c.in-Err-claimed.error (Held c.args.leader_at) c.args.leader_at _ c.error_at-in-Err-claimed.result c.error_at-in-Err-claimed.ensures (rw c.in-Err-claimed.is at (c.claim-claimed.ensures.guarded told)).wrong free

pub returns-in-Ok-claimed-clause-alone : goal.returns-in-Ok-claimed-clause-alone
returns-in-Ok-claimed-clause-alone g c = alone_twice c.claim.ensures.alone c.claim-claimed.ensures.alone

pub returns-in-Err-claimed-clause-alone : goal.returns-in-Err-claimed-clause-alone
returns-in-Err-claimed-clause-alone g c = alone_twice c.claim.ensures.alone c.claim-claimed.ensures.alone

pub returns-in-Err-clause-given : goal.returns-in-Err-clause-given
returns-in-Err-clause-given g c = wrong_at (Unit {0}) (WasGiven c.args.fid c.args.leader_at c.args.page_at) c.in-Err.error (Held c.args.page_at) c.args.page_at _ c.error_at.result c.error_at.ensures (λ found. record { held = refl; given = inr ((cc), refl) })

pub returns-in-Err-claimed-clause-given : goal.returns-in-Err-claimed-clause-given
returns-in-Err-claimed-clause-given g c =
    wrong_at (Unit {0}) (WasGiven c.args.fid c.args.leader_at c.args.page_at) c.in-Err-claimed.error (Held c.args.leader_at) c.args.leader_at _ c.error_at-in-Err-claimed.result c.error_at-in-Err-claimed.ensures (λ found. record { held = refl; given = inl ((cc), refl) })

pub returns-in-Err-clause-runs : goal.returns-in-Err-clause-runs
returns-in-Err-clause-runs g c told = let r = (c.claim.ensures.guarded told).runs in omega (arith, r)

pub returns-in-Ok-claimed-clause-runs : goal.returns-in-Ok-claimed-clause-runs
returns-in-Ok-claimed-clause-runs g c told = let r = (c.claim.ensures.guarded told).runs in let s = (c.claim-claimed.ensures.guarded told).runs in omega (arith, r, s)

pub returns-in-Err-claimed-clause-runs : goal.returns-in-Err-claimed-clause-runs
returns-in-Err-claimed-clause-runs g c told = let r = (c.claim.ensures.guarded told).runs in let s = (c.claim-claimed.ensures.guarded told).runs in omega (arith, r, s)

pub returns-in-Err-clause-frame : goal.returns-in-Err-clause-frame
returns-in-Err-clause-frame g c told =
    let Here = IsFreeSector (pack (g.D.Tape.tape c.args.disk.now)) in
    guarded_writes Here (c.in-Err.ensures.guarded told) (λ free. claim_here Here c.args.page_at free c.first_label-label.result c.first_value-value.result)

pub returns-in-Ok-claimed-clause-frame : goal.returns-in-Ok-claimed-clause-frame
returns-in-Ok-claimed-clause-frame g c told =
    let a = g.D.Tape.tape c.args.disk.now in
    let b = g.D.Tape.tape c.claim.new.disk in
    writes_then IsFreeSector free_by_sector c.claim.ensures.alone.grown c.claim-claimed.ensures.alone.grown
    (guarded_writes (IsFreeSector (pack a)) (c.in-Ok.ensures.guarded told) (λ free. claim_here (IsFreeSector (pack a)) c.args.page_at free c.first_label-label.result c.first_value-value.result))
    (guarded_writes (IsFreeSector (pack b)) (c.claim-claimed.ensures.guarded told) (λ free. claim_here (IsFreeSector (pack b)) c.args.leader_at free c.new_leader_label-label.result c.new_value-value.result))

pub returns-in-Err-claimed-clause-frame : goal.returns-in-Err-claimed-clause-frame
returns-in-Err-claimed-clause-frame g c told =
    let a = g.D.Tape.tape c.args.disk.now in
    let b = g.D.Tape.tape c.claim.new.disk in
    writes_then IsFreeSector free_by_sector c.claim.ensures.alone.grown c.claim-claimed.ensures.alone.grown
    (guarded_writes (IsFreeSector (pack a)) (c.in-Ok.ensures.guarded told) (λ free. claim_here (IsFreeSector (pack a)) c.args.page_at free c.first_label-label.result c.first_value-value.result))
    (guarded_writes (IsFreeSector (pack b)) (c.claim-claimed.ensures.guarded told) (λ free. claim_here (IsFreeSector (pack b)) c.args.leader_at free c.new_leader_label-label.result c.new_value-value.result))

pub returns-in-Ok-claimed-clause-were_free : goal.returns-in-Ok-claimed-clause-were_free
returns-in-Ok-claimed-clause-were_free g c told =
    let a = g.D.Tape.tape c.args.disk.now in
    let first = c.in-Ok.ensures.guarded told in
    let second = rw c.in-Ok-claimed.is at (c.claim-claimed.ensures.guarded told) in
    let writes = guarded_writes (IsFreeSector (pack a)) first (λ free. claim_here (IsFreeSector (pack a)) c.args.page_at free c.first_label-label.result c.first_value-value.result) in
    (free_before c.claim.ensures.alone.grown writes c.args.leader_at second.ok.held, first.ok.held)
