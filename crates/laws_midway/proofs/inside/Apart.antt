-- A sector that carries a page beside free ones that are claimed.
use Rattle.std.proofs.Common.{None, Some, ap, cond, false, get_or, sym, true, ℕ, ◌∙◌, ◌≡◌, ◌≢◌}
use Rattle.laws_hint.specs.disk_records.specs.Labels.{is_free, page_of, tag}
use Rattle.laws_hint.specs.disk_records.specs.Packs.{Pack, carried, is_free_at, is_usable, sector_at}
use Rattle.laws_hint.specs.disk_records.specs.declared.records.Page.{Page}
use Rattle.laws_hint.specs.disk_records.specs.declared.records.Sector.{Sector}
use Rattle.laws_hint.specs.laws_operation.proofs.Making.{named_page}
use Rattle.laws_hint.specs.pack_laws.proofs.Guarding.{carried_parts, free_parts, in_range_taken}
use Rattle.laws_hint.specs.pack_model.specs.operations.Commands.{all_claimed, sectors_of}
use Rattle.laws_midway.proofs.inside.Looping.{claims_leave_other_sectors}
use Rattle.laws_midway.specs.LoopLaws.{CarriedIsApartFromFree, ClaimsLeaveCarriedPages}

-- a free sector carries no page
free_is_other : (p : Pack) (at i : ℕ) (page : Page) → carried p at ≡ Some page → is_free_at p i ≡ true → at ≢ i
free_is_other p at i page carries free same =
    let taken = named_page (sector_at p at).label page (carried_parts p at page carries).1 in
    let is : is_free (tag (sector_at p at).label) ≡ true = ap (λ k. is_free (tag (sector_at p k).label)) same ∙ (free_parts p i free).1 in
    let both : true ≡ false = sym is ∙ in_range_taken (tag (sector_at p at).label) taken.1 in
    absurd cc

pub carried_is_apart_from_free : CarriedIsApartFromFree
carried_is_apart_from_free p at page ats carries free k d within = free_is_other p at (get_or ats k d) page carries (free k d within)

pub claims_leave_carried_pages : ClaimsLeaveCarriedPages
claims_leave_carried_pages p claims at page carries free =
    ap (λ (s : Sector). cond (is_usable p.shape at s) (page_of s.label) None) (claims_leave_other_sectors p claims at (carried_is_apart_from_free p at page (sectors_of (all_claimed claims)) carries free)) ∙ carries
