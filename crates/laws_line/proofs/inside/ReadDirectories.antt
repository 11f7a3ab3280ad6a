-- A directory that a pack is read with has its slots.
use Rattle.std.proofs.Common.{Bool, List, None, Option, Some, [], ap, cond, false, refl, sym, true, ◌∙◌, ◌≡◌}
use Rattle.std.specs.FinMap.{get}
use Rattle.std.specs.Option.{is_some, option_map}
use Rattle.std.specs.Prelude.{All}
use Rattle.laws_room.specs.alto_words.specs.Fid.{is_directory}
use Rattle.laws_room.specs.alto_words.specs.declared.fid.Fid.{Fid}
use Rattle.disk_records.specs.Packs.{Pack}
use Rattle.laws_line.proofs.inside.Runs.{IsShort}
use Rattle.laws_line.proofs.inside.SoundSettled.{kept_short, slots_short}
use Rattle.laws_line.specs.AfterLaws.{DirectoriesAreRead, IsDirectory}
use Rattle.laws_room.specs.pack_laws.proofs.Keys.{fid_same, fid_total}
use Rattle.pack_model.specs.reading.Bodies.{Body, File, described, found, is_described}
use Rattle.pack_model.specs.reading.Bodies.Body.{data_of, items_of}
use Rattle.pack_model.specs.reading.Bytes.{words_of}
use Rattle.pack_model.specs.reading.Files.{file_bytes, leader, lives}
use Rattle.pack_model.specs.reading.Leaders.{Leader}
use Rattle.pack_model.specs.reading.Model.{read_as, read_sights}
use Rattle.pack_model.specs.reading.Namings.{Naming, body_kept, is_kept, items_kept}
use Rattle.pack_model.specs.reading.Sights.{Sight, sights}
use Rattle.pack_model.specs.reading.Slots.{Item, slots}
use Rattle.pack_model.specs.showing.View.{seen_of}
use Rattle.laws_room.specs.laws_record.proofs.Around.{around}
use Rattle.laws_room.specs.laws_record.proofs.Keeping.{get-where}
use Rattle.laws_room.specs.laws_record.proofs.LeaderSteps.{body_left, tidied_file}
use Rattle.laws_room.specs.laws_record.proofs.Mending.{get-seen}
use Rattle.laws_room.specs.laws_record.proofs.Reading.{get-found, read_file}
use Rattle.laws_room.specs.laws_record.proofs.Unkept.{after_files}

-- A body of slots of at most 1,023 words.
record Slots (b : Body) : Type 0 where
  items : List Item
  is : b ≡ items_of items
  short : All IsShort items

-- the scan leaves it so
slots_kept : (ok : List Naming → Naming → Bool) (d : Fid) (before : List Naming) (b : Body) → Slots b → Slots (body_kept ok d before b)
slots_kept ok d before b s = record { items = items_kept ok d before s.items; is = ap (body_kept ok d before) s.is; short = kept_short ok d before s.items s.short }

module _ (ss : List Sight) (d : Fid) (kind : is_directory d ≡ true) where
  -- a file that is found has such a body
  found_slots : (x : File) → get (described ss) d ≡ Some x → Slots x.body
  found_slots x e = by (is_described d) (leader ss d) (sym (get-where (found ss) is_described d ∙ ap (λ r. cond (is_described d) r None) (get-found ss d)) ∙ e)
    where
      read : List Item
      read = slots (words_of (file_bytes ss d))

      by : (b : Bool) (r : Option Leader) → cond b (option_map (read_file d (file_bytes ss d)) r) None ≡ Some x → Slots x.body
      by false r q = absurd (let n : None ≡ Some x = q in cc)
      by true None q = absurd (let n : None ≡ Some x = q in cc)
      by true (Some l) q =
          let same : read_file d (file_bytes ss d) l ≡ x = cc in
          record { items = read; is = ap (λ y. y.body) (sym same) ∙ ap (λ b. cond b (items_of read) (data_of (file_bytes ss d))) kind; short = slots_short read (words_of (file_bytes ss d)) refl }

module _ (p : Pack) (d : Fid) (kind : is_directory d ≡ true) where
  abbrev shown : List Sight
  shown = sights p

  -- after the scan it has one
  left : (x : File) (e : get (described shown) d ≡ Some x) → Slots (body_left (lives shown) (described shown) d x e)
  left x e = slots_kept (is_kept (lives shown)) d (after_files (is_kept (lives shown)) [] (around fid_total fid_same (described shown) d x e).front) x.body (found_slots shown d kind x e)

  -- so it is in the model
  directory : (r : Option File) → get (described shown) d ≡ r → (t : Option File) → get (read_as p).files d ≡ t → is_some t ≡ true → IsDirectory (read_as p) d
  unfolding read_sights
  directory r e None q there = absurd cc
  directory None e (Some y) q there = absurd (let n : Some (seen_of d y) ≡ None = ap (option_map (seen_of d)) (sym q) ∙ get-seen (lives shown) (described shown) d ∙ ap (option_map (seen_of d)) e in cc)
  directory (Some x) e (Some y) q there =
      let s = left x e in
      record { lead = x.leader; slots = s.items; there = tidied_file (lives shown) (described shown) d x e ∙ ap (λ b. Some (record { leader = x.leader; body = b })) s.is; short = s.short }

pub directories_are_read : DirectoriesAreRead
directories_are_read p d kind there = directory p d kind (get (described (sights p)) d) refl (get (read_as p).files d) refl there
