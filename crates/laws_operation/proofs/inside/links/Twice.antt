-- A page that a free sector gets while another one carries it is carried twice.
use Rattle.std.proofs.Common.{List, Some, [], refl, subst, ℕ, ◌∙◌, ◌∷◌, ◌≡◌, true}
use Rattle.laws_contents.specs.disk_records.specs.Commands.{claim_writes}
use Rattle.laws_contents.specs.disk_records.specs.Labels.{page_of}
use Rattle.laws_contents.specs.disk_records.specs.Packs.{Pack, after, carried, is_free_at}
use Rattle.laws_contents.specs.disk_records.specs.declared.records.Event.TheVariants.{Wrote}
use Rattle.laws_contents.specs.disk_records.specs.declared.records.Page.{Page}
use Rattle.laws_contents.specs.pack_laws.proofs.Guarding.{free_parts, other_kept, value_page}
use Rattle.laws_contents.specs.laws_record.proofs.Recording.{free_sight}
use Rattle.laws_operation.proofs.inside.links.Claims.{claim_here, free_none}
use Rattle.laws_operation.proofs.inside.links.Records.{carried_same}
use Rattle.laws_operation.specs.OnceLaws.{CarriedOnce}

claimed_twice : (p : Pack) (at j : ℕ) (label value : List ℕ) (x : Page) → is_free_at p at ≡ true → page_of label ≡ Some x → carried p j ≡ Some x → CarriedOnce (after p (claim_writes at label value)) → ⊥
claimed_twice p at j label value x is names elsewhere once = apart (once j at x (kept ∙ elsewhere) (claim_here p at label value x (free_parts p at is).0 names))
  where
    apart : j ≡ at → ⊥
    apart e = free_none p at (free_sight p at is) x (subst (λ i. carried p i ≡ Some x) e elsewhere)

    with_value : Pack
    with_value = after p (Wrote at 2 value ∷ [])

    kept : carried (after p (claim_writes at label value)) j ≡ carried p j
    kept =
        value_page (after with_value (Wrote at 1 label ∷ [])) at value j
        ∙ carried_same with_value (after with_value (Wrote at 1 label ∷ [])) j refl (other_kept with_value at 1 label j apart)
        ∙ value_page p at value j
