-- No page is carried twice where pages come after the last page of a file.
use Rattle.std.proofs.Common.{List, Some, [], ap, arith, inl, inr, length, subst, suc, ℕ, ◌<◌, ◌∙◌, ◌∷◌, ◌≡◌, ◌⊎◌}
use Rattle.laws_contents.specs.alto_words.specs.declared.fid.Fid.{Fid}
use Rattle.laws_contents.specs.disk_records.specs.Commands.{claim_writes}
use Rattle.laws_contents.specs.disk_records.specs.Labels.{page_of}
use Rattle.laws_contents.specs.disk_records.specs.Packs.{Pack, after, carried}
use Rattle.laws_contents.specs.disk_records.specs.declared.records.Page.{Page}
use Rattle.laws_contents.specs.pack_model.specs.operations.Commands.{Claim, Claimable, claims_writes}
use Rattle.laws_contents.specs.pack_model.specs.operations.Committing.{page_of_byte}
use Rattle.laws_contents.specs.pack_model.specs.reading.Files.{file_bytes, place}
use Rattle.laws_contents.specs.pack_model.specs.operations.Operations.{grow_writes}
use Rattle.laws_contents.specs.pack_model.specs.operations.PageWords.{page_number}
use Rattle.laws_contents.specs.pack_model.specs.reading.Sights.{sights}
use Rattle.laws_contents.specs.pack_model.specs.states.Whole.{Whole}
use Rattle.laws_contents.specs.laws_record.proofs.Copying.{place_carried}
use Rattle.laws_contents.specs.laws_record.proofs.Carried.{carried_place, whole_once}
use Rattle.laws_operation.proofs.inside.links.Claims.{claim_carried}
use Rattle.laws_operation.proofs.inside.links.ClaimsRow.{IsClaim, claim_names, claim_range, claims_carried, next_able}
use Rattle.laws_operation.proofs.inside.links.FileGrowth.{none_behind}
use Rattle.laws_operation.proofs.inside.links.NamedAlone.{AllAlone, NamesAlone, all_once, alone_join, claim_alone}
use Rattle.laws_operation.proofs.inside.links.Records.{number_one, page_one}
use Rattle.laws_operation.specs.OnceLaws.{GrowCarriesOnce, StaysOnce, WidenCarriesOnce}

-- the claims of pages that no sector carries
claims_alone : (cs : List Claim) (p : Pack) (f : Fid) (k : ℕ) → Claimable (sights p) f k cs → ((m i : ℕ) → k < m → carried p i ≡ Some (page_number f m) → ⊥) → AllAlone p (claims_writes cs)
claims_alone [] p f k able none = tt
claims_alone (c ∷ cs) p f k able none =
    let names : page_of c.label ≡ Some (page_number f (suc k)) = claim_names p f k c cs able in
    alone_join p (claim_writes c.at c.label c.value) (claims_writes cs)
    (claim_alone p c.at c.label c.value (λ x e i is. absurd (none (suc k) i (omega arith) (is ∙ ap Some (page_one c.label x (page_number f (suc k)) e names)))))
    (claims_alone cs (after p (claim_writes c.at c.label c.value)) f (suc k) (next_able p f k c cs able) (λ m i more is. elim (claim_carried p c.at c.label c.value i (page_number f m) is) [
      | inl new ↦ (let n = number_one f m (suc k) c.label names new.1 in omega arith)
      | inr old ↦ none m i (omega arith) old
    ]))

-- and then another label of the old last page
pub growth_once : (p : Pack) → Whole p → (f : Fid) (last at : ℕ) (cs : List Claim) (label value : List ℕ) → place (sights p) f last ≡ Some at → Claimable (sights p) f last cs → page_of label ≡ Some (page_number f last)
    → ((m j : ℕ) → last < m → place (sights p) f m ≡ Some j → ⊥) → StaysOnce p (grow_writes cs at label value)
growth_once p w f last at cs label value sector able names ends =
    let was : carried p at ≡ Some (page_number f last) = place_carried p (page_number f last) at sector in
    let none : (m i : ℕ) → last < m → carried p i ≡ Some (page_number f m) → ⊥ = λ m i more is. ends m i more (carried_place p w i (page_number f m) is) in
    let alone : NamesAlone (after p (claims_writes cs)) at label = λ x e i is. here x e i (claims_carried cs p f last able i x is) in
    all_once p (grow_writes cs at label value) (whole_once p w) (alone_join p (claims_writes cs) (claim_writes at label value) (claims_alone cs p f last able none) (claim_alone (after p (claims_writes cs)) at label value alone))
  where
    here : (x : Page) → page_of label ≡ Some x → (i : ℕ) → carried p i ≡ Some x ⊎ IsClaim f last cs i x → i ≡ at
    here x e i (inl old) = whole_once p w i at x old (place_carried p (page_number f last) at sector ∙ ap Some (page_one label (page_number f last) x names e))
    here x e i (inr new) =
        let one : x ≡ page_number f last = page_one label x (page_number f last) e names in
        absurd (let r = (claim_range f last cs i last (subst (IsClaim f last cs i) one new)).0 in omega arith)

-- a growth
pub grow_carries_once : GrowCarriesOnce
grow_carries_once p f new claims at label value w h = growth_once p w f (page_of_byte (length (file_bytes (sights p) f))) at claims label value h.sector h.claimable h.page (none_behind p w f at h.sector)

-- a widening
pub widen_carries_once : WidenCarriesOnce
widen_carries_once p d added claims at label value w h = growth_once p w d (page_of_byte (length (file_bytes (sights p) d))) at claims label value h.sector h.claimable h.page (none_behind p w d at h.sector)
