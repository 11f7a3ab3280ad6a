-- Whether sector 1 is free for SysDir's leader page.
use Rattle.std.proofs.Common.{◌∙◌, ◌≡◌, ◌⊎◌, Bool, Some, ap, false, get_or, inl, inr, not, refl, suc, sym, true, ℕ}
use Rattle.std.specs.Prelude.{◌&&◌}
use Rattle.laws_room.specs.alto_words.specs.declared.fid.Fid.{Fid}
use Rattle.laws_room.specs.alto_words.specs.Fid.{sys_dir}
use Rattle.laws_room.specs.disk_records.specs.Packs.{is_free_at}
use Rattle.laws_room.specs.pack_model.specs.reading.Files.{place}
use Rattle.laws_room.specs.pack_model.specs.reading.Sights.{Sight, sights}
use Rattle.laws_room.specs.pack_model.specs.reading.Sights.Sight.{free, hidden, holds, leads, stray}
use Rattle.laws_room.specs.pack_model.specs.states.InUse.{counts, in_use, is_good, is_place}
use Rattle.laws_room.specs.pack_model.specs.scavenger.Scavenging.{root_stands}
use Rattle.laws_room.specs.pack_laws.proofs.Keys.{same_fid}
use Rattle.laws_room.specs.laws_record.proofs.Carried.{place_by}
use Rattle.laws_mend.proofs.inside.FreeOnes.{shown_free}
use Rattle.laws_mend.specs.NumberLaws.{FirstSectorIsFree}

-- both parts hold
first_of : (a b : Bool) → (a && b) ≡ true → a ≡ true
first_of true b e = refl
first_of false b e = cc

second_of : (a b : Bool) → (a && b) ≡ true → b ≡ true
second_of true b e = e
second_of false b e = cc

pub first_sector_is_free : FirstSectorIsFree
first_sector_is_free p ready used = by (get_or (sights p) 1 hidden) refl ready.root
  where
    -- a page in use has its place there
    in_place : (f : Fid) (n : ℕ) → (counts p.shape (sights p) f n && is_place 1 (place (sights p) f n)) ≡ true → place (sights p) f n ≡ Some 1
    in_place f n e = place_by 1 (place (sights p) f n) (second_of (counts p.shape (sights p) f n) (is_place 1 (place (sights p) f n)) e)

    by : (s : Sight) → get_or (sights p) 1 hidden ≡ s → root_stands p.shape (sights p) (get_or (sights p) 1 hidden) ≡ true → (place (sights p) sys_dir 0 ≡ Some 1) ⊎ (is_free_at p 1 ≡ true)
    by hidden e r = absurd (let c : false ≡ true = sym (ap (root_stands p.shape (sights p)) e) ∙ r in cc)
    by free e r = inr (shown_free p 1 e)
    by stray e r = absurd (used.ended.cleared.no_stray 1 e)
    by (leads f a l) e r = elim (used.used 1 (ap is_good e)) [
      | inl is ↦ absurd (let c : leads f a l ≡ free = sym e ∙ is in cc)
      | inr is ↦
          (let same : f ≡ sys_dir = same_fid f sys_dir (sym (ap (root_stands p.shape (sights p)) e) ∙ r) in
          let here = in_place f 0 (sym (ap (λ s. in_use p.shape (sights p) (1, s)) e) ∙ is) in
          inl (ap (λ g. place (sights p) g 0) (sym same) ∙ here))
    ]
    by (holds f n bytes) e r = elim (used.used 1 (ap is_good e)) [
      | inl is ↦ absurd (let c : holds f n bytes ≡ free = sym e ∙ is in cc)
      | inr is ↦ absurd
          (let counted : counts p.shape (sights p) f (suc n) ≡ true = first_of (counts p.shape (sights p) f (suc n)) (is_place 1 (place (sights p) f (suc n))) (sym (ap (λ s. in_use p.shape (sights p) (1, s)) e) ∙ is) in
          let stands : not (counts p.shape (sights p) f (suc n)) ≡ true = sym (ap (root_stands p.shape (sights p)) e) ∙ r in
          let c : false ≡ true = sym (ap not counted) ∙ stands in cc)
    ]
