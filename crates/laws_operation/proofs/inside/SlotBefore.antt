-- The slot of a dropped file's entry, before its file went.
use Rattle.std.proofs.Common.{Bool, List, [], ap, false, length, refl, subst, sym, true, ℕ, ◌+◌, ◌/◌, ◌∙◌, ◌∷◌, ◌≡◌, ◌≤◌}
use Rattle.std.specs.Option.{is_some}
use Rattle.laws_contents.specs.alto_words.specs.Fid.{is_fid}
use Rattle.laws_contents.specs.alto_words.specs.declared.fid.Fid.{Fid}
use Rattle.laws_contents.specs.disk_records.specs.Packs.{Pack, after, sector_at}
use Rattle.laws_contents.specs.pack_model.specs.hints.Links.{dir_words}
use Rattle.laws_contents.specs.pack_model.specs.operations.Operations.{release_file_writes}
use Rattle.laws_contents.specs.pack_model.specs.reading.Bytes.{words_of}
use Rattle.laws_contents.specs.pack_model.specs.reading.Files.{file_bytes, lives}
use Rattle.laws_contents.specs.pack_model.specs.reading.Sights.{Sight, sights}
use Rattle.laws_contents.specs.pack_model.specs.reading.Sights.Sight.{hidden}
use Rattle.laws_contents.specs.pack_model.specs.reading.Slots.{all_words, slots}
use Rattle.laws_contents.specs.pack_model.specs.reading.Slots.Item.{entry}
use Rattle.laws_contents.specs.pack_laws.proofs.Keys.{same_fid}
use Rattle.laws_contents.specs.laws_record.proofs.DirWords.{dir_page}
use Rattle.laws_contents.specs.laws_record.specs.DirLaws.{DirWrite}
use Rattle.laws_operation.proofs.Dropped.{release_law}
use Rattle.laws_operation.proofs.Seating.{leader_none_is}
use Rattle.laws_operation.proofs.inside.Elsewhere.{MayBe, not_same, other_bytes, other_leader}
use Rattle.laws_operation.proofs.inside.Kept.{same_places}
use Rattle.laws_operation.specs.LifeLaws.{SlotOfADropStoodBefore}

pub slot_of_a_drop_stood_before : SlotOfADropStoodBefore
slot_of_a_drop_stood_before p f d at pages slot_at a b own w t hyp fr =
    let ss : List Sight = sights p in
    let q : Pack = after p (release_file_writes at pages) in
    let go = release_law p w t f at pages hyp in
    let h = fr.write in
    let dead : lives (sights q) f ≡ false = ap is_some (leader_none_is (sights q) f (go.0).drops.gone) in
    let apart : is_fid d f ≡ false = elim (is_fid d f) as (λ c. is_fid d f ≡ c → c ≡ false) [
      | true ↦ λ e. (let clash : true ≡ false = sym h.lives ∙ ap (lives (sights q)) (same_fid d f e) ∙ dead in cc)
      | false ↦ λ e. refl
    ] refl in
    let words : dir_words q d ≡ dir_words p d = ap words_of (other_bytes f ss (sights q) go.1 d apart) in
    let write : DirWrite p d (all_words a) slot_at (all_words (entry f own ∷ []) ∷ []) = record {
      directory = h.directory;
      lives = sym (ap is_some (other_leader f ss (sights q) go.1 d apart)) ∙ h.lives;
      sector = sym (same_places f d ss (sights q) go.1 apart (all_words a / 256 + 1)) ∙ h.sector;
      some = h.some;
      one_page = h.one_page;
      within = subst (λ ws. all_words a + 1 ≤ length ws) words h.within;
    } in
    let there = dir_page p d (all_words a) slot_at (all_words (entry f own ∷ []) ∷ []) write in
    record {
      frees = record { slots_are = sym (ap slots words) ∙ fr.slots_are; some = fr.some; most = fr.most; write = write };
      sector = go.2 slot_at (λ z. not_same d f apart (subst (MayBe f) (there.shows hidden) z));
    }
