use Rattle.std.proofs.Common.{List, ap, arith, length, min, ℕ, ◌∙◌, ◌≡◌}
use Rattle.std.proofs.lemmas.List.{length-take}
use Rattle.disk_records.specs.Addresses.{real_of}
use Rattle.disk_records.specs.Labels.{in_range, tag}
use Rattle.disk_records.specs.declared.shape.Shape.{Shape}
use Rattle.pack_model.specs.operations.Commands.{past_last}
use Rattle.pack_model.specs.operations.PageWords.{link_to_first, page_value}
use Rattle.file_pages.proofs.ClaimedWords.{claimed_as, label_ranged}
use Rattle.file_pages.proofs.FreshWords.{first_of_page, same_label}
use Rattle.disk_records.specs.Frames.{IsFreeSector}
use Rattle.disk_records.specs.Tapes.{pack}
use Rattle.label_check.proofs.Framing.{claim_here, guarded_writes}
use Rattle.page_seeking.proofs.Erring.{on_ok_map}
use Rattle.file_pages.proofs.claims.claim_page.Goals as goal

pub claim-requires-clause-label : goal.claim-requires-clause-label
claim-requires-clause-label g c =
    let count : c.min-count.result ≡ min (length c.args.bytes.now) 512 = c.min-count.ensures in
    let fits = c.ranges.number.fits in
    ap (λ (l : List ℕ). in_range (tag l)) (same_label c.label_of-label.result c.label_of-label.ensures c.page_of_file-page.ensures (λ i. c.min-count.result) (λ i. c.link_to_first-next.result) (λ i. c.real_of.result))
    ∙ label_ranged c.args.fid c.args.number c.min-count.result c.link_to_first-next.result c.real_of.result c.requires.full_name (omega (arith, count)) (omega (arith, fits))

pub returns-clause-guarded : goal.returns-clause-guarded
returns-clause-guarded g c told fits =
    let min_is : c.min-count.result ≡ min (length c.args.bytes.now) 512 = c.min-count.ensures in
    let count : c.min-count.result ≡ min 512 (length c.args.bytes.now) = omega (arith, min_is) in
    let label = same_label c.label_of-label.result c.label_of-label.ensures c.page_of_file-page.ensures count
    (c.link_to_first-next.ensures ∙ ap (λ (s : Shape). link_to_first s c.args.later.now) c.shape-shape.ensures)
    (c.real_of.ensures ∙ ap (λ (s : Shape). real_of s c.args.previous) c.shape-shape.ensures) in
    let short = length-take c.min-count.result c.args.bytes.now in
    let words : length c.past_last.result.now ≡ length (past_last c.args.past.now c.args.later.now) = ap length c.past_last.ensures in
    let first = first_of_page c.min-count.result c.args.bytes.now count in
    let value = c.page_value-value.ensures (omega (arith, short, words, count, fits)) ∙ (λ i. page_value (first i) (c.past_last.ensures i)) in
    claimed_as _ _ _ _ label value (c.claim.ensures.guarded told)

pub returns-clause-frame : goal.returns-clause-frame
returns-clause-frame g c told =
    let Here = IsFreeSector (pack (g.D.Tape.tape c.args.disk.now)) in
    guarded_writes Here (c.claim.ensures.guarded told) (λ free. claim_here Here c.args.at free c.label_of-label.result c.page_value-value.result)

pub returns-clause-was_free : goal.returns-clause-was_free
returns-clause-was_free g c told = on_ok_map c.claim.result (λ done. done.held) (c.claim.ensures.guarded told).ok
