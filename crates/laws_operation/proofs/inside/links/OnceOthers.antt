-- No page is carried twice: whole packs, values, cuts, makes and drops.
use Rattle.std.proofs.Common.{Bool, Some, [], ap, arith, cond, false, inl, inr, true, ℕ, ◌++◌, ◌∙◌, ◌∷◌, ◌≡◌}
use Rattle.std.specs.Prelude.{reverse, ◌==◌}
use Rattle.laws_contents.specs.disk_records.specs.Commands.{claim_writes, relabel_writes, value_writes}
use Rattle.laws_contents.specs.disk_records.specs.Labels.{page_of}
use Rattle.laws_contents.specs.disk_records.specs.Packs.{Pack, after, carried}
use Rattle.laws_contents.specs.disk_records.specs.declared.records.Page.{Page}
use Rattle.laws_contents.specs.pack_model.specs.operations.Commands.{releases_writes, values_writes}
use Rattle.laws_contents.specs.pack_model.specs.operations.Committing.{page_of_byte}
use Rattle.laws_contents.specs.pack_model.specs.sessions.Descriptor.{closed_values, opened_value}
use Rattle.laws_contents.specs.pack_model.specs.operations.Operations.{cut_writes, drop_writes, enter_writes, release_file_writes, make_writes}
use Rattle.laws_contents.specs.pack_model.specs.operations.PageWords.{page_number}
use Rattle.laws_contents.specs.pack_model.specs.states.Sound.{mark_clean, mark_open}
use Rattle.laws_contents.specs.laws_record.proofs.Copying.{place_carried}
use Rattle.laws_contents.specs.laws_record.proofs.Carried.{whole_once}
use Rattle.laws_operation.proofs.inside.links.Claims.{claim_carried}
use Rattle.laws_operation.proofs.inside.links.Making.{never_carried}
use Rattle.laws_operation.proofs.inside.links.NamedAlone.{NamesAlone, all_once, alone_join, claim_alone, relabel_alone, releases_alone, values_alone}
use Rattle.laws_operation.proofs.inside.links.Records.{number_one, page_one}
use Rattle.laws_operation.specs.OnceLaws.{CloseCarriesOnce, CutCarriesOnce, DropCarriesOnce, EnterCarriesOnce, MakeCarriesOnce, OpenCarriesOnce, ReleaseCarriesOnce, StaysOnce, ValuesCarryOnce, WholePackCarriesOnce}

-- a whole pack
pub whole_pack_carries_once : WholePackCarriesOnce
whole_pack_carries_once p w = whole_once p w

-- values
pub values_carry_once : ValuesCarryOnce
values_carry_once p vs w = all_once p (values_writes vs) (whole_once p w) (values_alone vs p)

-- opening the mark
pub open_carries_once : OpenCarriesOnce
open_carries_once p mark at value w = by (mark == mark_open)
  where
    by : (c : Bool) → StaysOnce p (cond c [] (values_writes ((at, opened_value value) ∷ [])))
    by true = whole_once p w
    by false = values_carry_once p ((at, opened_value value) ∷ []) w

-- and closing
pub close_carries_once : CloseCarriesOnce
close_carries_once p mark shape last busy pages w = by (mark == mark_clean)
  where
    by : (c : Bool) → StaysOnce p (cond c [] (values_writes (reverse (closed_values shape last busy 0 pages))))
    by true = whole_once p w
    by false = values_carry_once p (reverse (closed_values shape last busy 0 pages)) w

-- an entering
pub enter_carries_once : EnterCarriesOnce
enter_carries_once p before at value w = all_once p (enter_writes before at value) (whole_once p w) (alone_join p (values_writes before) (value_writes at value) (values_alone before p) (values_alone ((at, value) ∷ []) (after p (values_writes before))))

-- a cut
pub cut_carries_once : CutCarriesOnce
cut_carries_once p f n at label value later w h =
    let x : Page = page_number f (page_of_byte n) in
    let was : carried p at ≡ Some x = place_carried p x at h.sector in
    let alone : NamesAlone p at label = λ y e i is. whole_once p w i at y is (was ∙ ap Some (page_one label x y h.page e)) in
    all_once p (cut_writes at label value later) (whole_once p w) (alone_join p (relabel_writes at label value) (releases_writes later) (relabel_alone p at label value alone) (releases_alone later (after p (relabel_writes at label value))))

-- a make
pub make_carries_once : MakeCarriesOnce
make_carries_once p f name moment page head w h =
    let q : Pack = after p (claim_writes page.at page.label page.value) in
    let first : NamesAlone p page.at page.label = λ x e i is. absurd (never_carried p w f h.not_there 1 i (is ∙ ap Some (page_one page.label x (page_number f 1) e h.page_is))) in
    let second : NamesAlone q head.at head.label = λ x e i is. absurd (apart x e i is) in
    all_once p (make_writes page head) (whole_once p w) (alone_join p (claim_writes page.at page.label page.value) (claim_writes head.at head.label head.value ++ []) (claim_alone p page.at page.label page.value first) (claim_alone q head.at head.label head.value second))
  where
    apart : (x : Page) → page_of head.label ≡ Some x → (i : ℕ) → carried (after p (claim_writes page.at page.label page.value)) i ≡ Some x → ⊥
    apart x e i is =
        let zero_is : carried (after p (claim_writes page.at page.label page.value)) i ≡ Some (page_number f 0) = is ∙ ap Some (page_one head.label x (page_number f 0) e h.leader_is) in
        elim (claim_carried p page.at page.label page.value i (page_number f 0) zero_is) [
          | inl new ↦ (let n = number_one f 0 1 page.label h.page_is new.1 in omega arith)
          | inr old ↦ never_carried p w f h.not_there 0 i old
        ]

-- a drop except its entry's slot
pub release_carries_once : ReleaseCarriesOnce
release_carries_once p at pages w = all_once p (release_file_writes at pages) (whole_once p w) (releases_alone (at ∷ pages) p)

-- with the value of its entry's slot
pub drop_carries_once : DropCarriesOnce
drop_carries_once p at pages slot_at value w =
    all_once p (drop_writes at pages slot_at value) (whole_once p w) (alone_join p (release_file_writes at pages) (value_writes slot_at value) (releases_alone (at ∷ pages) p) (values_alone ((slot_at, value) ∷ []) (after p (release_file_writes at pages))))
