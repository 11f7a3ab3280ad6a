-- After closing each data page of DiskDescriptor has its value.
use Rattle.std.proofs.Common.{Bool, List, Some, [], ap, arith, length, length-set, refl, reverse, suc, sym, zero, ℕ, ◌+◌, ◌<◌, ◌∙◌, ◌∷◌, ◌≡◌}
use Rattle.laws_line.specs.alto_words.specs.Fid.{disk_descriptor}
use Rattle.laws_line.specs.disk_records.proofs.Growing.{after-append}
use Rattle.laws_line.specs.disk_records.specs.Commands.{value_writes}
use Rattle.laws_line.specs.disk_records.specs.Packs.{Pack, after, sector_at}
use Rattle.laws_line.specs.disk_records.specs.declared.records.Event.TheVariants.{Wrote}
use Rattle.laws_line.specs.pack_model.specs.operations.Commands.{values_writes}
use Rattle.laws_line.specs.pack_model.specs.sessions.Descriptor.{closed_values, descriptor_value}
use Rattle.laws_line.specs.pack_model.specs.reading.Files.{place}
use Rattle.laws_line.specs.pack_model.specs.reading.Sights.{sights}
use Rattle.laws_line.specs.pack_model.specs.states.Sound.{mark_clean}
use Rattle.laws_line.specs.pack_laws.proofs.Placing.{one_page, page_of_place}
use Rattle.laws_line.specs.pack_laws.proofs.Sighted.{length-sights}
use Rattle.laws_line.specs.laws_operation.specs.ByteLaws.{Bear}
use Rattle.laws_line.specs.laws_operation.proofs.CloseLaw.{last_value}
use Rattle.laws_line.specs.pack_laws.proofs.Guarding.{here_written, other_kept}

-- values keep the number of sectors
length_values : (vs : List (ℕ × List ℕ)) (p : Pack) → length (after p (values_writes vs)).sectors ≡ length p.sectors
length_values [] p = refl
length_values (v ∷ vs) p = length_values vs (after p (Wrote v.0 2 v.1 ∷ [])) ∙ length-set p.sectors v.0 _

-- each of these pages has its value
pub closed_value : (p : Pack) (last : ℕ) (busy : List Bool) (pages : List ℕ) (n : ℕ) → Bear (sights p) disk_descriptor (suc n) pages → (k at : ℕ) → k < length pages → place (sights p) disk_descriptor (suc (n + k)) ≡ Some at
    → (sector_at (after p (values_writes (reverse (closed_values p.shape last busy n pages)))) at).value ≡ descriptor_value p.shape last mark_clean busy (n + k)
closed_value p last busy [] n bear k at l e = absurd (omega arith)
closed_value p last busy (first ∷ pages) n bear k at l e =
    ap (λ es. (sector_at (after p es) at).value) (last_value p.shape last n first busy pages)
    ∙ ap (λ q. (sector_at q at).value) (after-append p (values_writes vs) (value_writes first value))
    ∙ by (λ j. closed_value p last busy pages (suc n) bear.1 j at) k l e
  where
    value : List ℕ
    value = descriptor_value p.shape last mark_clean busy n

    vs : List (ℕ × List ℕ)
    vs = reverse (closed_values p.shape last busy (suc n) pages)

    -- of the pages after the first one
    Later : Type 0
    Later = (j : ℕ) → j < length pages → place (sights p) disk_descriptor (suc (suc n + j)) ≡ Some at → (sector_at (after p (values_writes vs)) at).value ≡ descriptor_value p.shape last mark_clean busy (suc n + j)

    by : Later → (k : ℕ) → k < suc (length pages) → place (sights p) disk_descriptor (suc (n + k)) ≡ Some at → (sector_at (after (after p (values_writes vs)) (value_writes first value)) at).value ≡ descriptor_value p.shape last mark_clean busy (n + k)
    by later zero l e =
        let z : n ≡ n + 0 = omega arith in
        let both : Some at ≡ Some first = sym e ∙ ap (λ m. place (sights p) disk_descriptor (suc m)) (sym z) ∙ bear.0 in
        let same : at ≡ first = cc in
        let within : first < length (sights p) = (page_of_place (sights p) disk_descriptor n first bear.0).within in
        let all = length-sights p in
        let still = length_values vs p in
        ap (λ i. (sector_at (after (after p (values_writes vs)) (value_writes first value)) i).value) same
        ∙ ap (λ s. s.value) (here_written (after p (values_writes vs)) first 2 value (omega (arith, within, all, still)))
        ∙ ap (descriptor_value p.shape last mark_clean busy) z
    by later (suc k) l e =
        let z : suc n + k ≡ n + suc k = omega arith in
        let apart : at ≡ first → ⊥ = λ same. let x = (one_page (sights p) disk_descriptor disk_descriptor (suc (n + suc k)) (suc n) at e (bear.0 ∙ ap Some (sym same))).1 in omega (arith, x) in
        ap (λ s. s.value) (other_kept (after p (values_writes vs)) first 2 value at apart)
        ∙ later k (omega arith) (ap (λ m. place (sights p) disk_descriptor (suc m)) z ∙ e)
        ∙ ap (descriptor_value p.shape last mark_clean busy) z
