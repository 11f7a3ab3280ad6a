-- An entry comes into a directory of any pack.
use Rattle.std.proofs.Common.{Bool, List, Some, [], ap, arith, false, length, refl, sym, true, ℕ, ◌&&◌, ◌++◌, ◌+◌, ◌-◌, ◌∙◌, ◌∷◌, ◌≡◌}
use Rattle.std.specs.FinMap.{entries, get, insert}
use Rattle.std.specs.List.{list_any}
use Rattle.std.specs.Option.{unwrap_or}
use Rattle.pack_laws.specs.alto_words.specs.declared.fid.Fid.{Fid}
use Rattle.pack_laws.specs.disk_records.specs.Packs.{Pack}
use Rattle.pack_laws.specs.pack_model.specs.reading.Bodies.{Files, described, items_in}
use Rattle.pack_laws.specs.pack_model.specs.reading.Bytes.{put_at}
use Rattle.pack_laws.specs.pack_model.specs.reading.Files.{leader, lives}
use Rattle.pack_laws.specs.pack_model.specs.reading.Leaders.{Leader}
use Rattle.pack_laws.specs.pack_model.specs.hints.Links.{dir_words}
use Rattle.pack_laws.specs.pack_model.specs.sessions.Maps.{update_found}
use Rattle.pack_laws.specs.pack_model.specs.reading.Model.{Model, read_as, read_sights}
use Rattle.pack_laws.specs.pack_model.specs.reading.Namings.{clashes, files_kept, is_kept, may_stand, namings, tidied}
use Rattle.pack_laws.specs.pack_model.specs.operations.Rooms.{find_room, items_entered, left_over, placed}
use Rattle.pack_laws.specs.pack_model.specs.reading.Sights.{sights}
use Rattle.pack_laws.specs.pack_model.specs.reading.Slots.{Item, all_words, entry_length}
use Rattle.pack_laws.specs.pack_model.specs.reading.Slots.Item.{entry, space}
use Rattle.pack_laws.specs.pack_model.specs.operations.Step.{on_items, update_file}
use Rattle.laws_record.proofs.DirReads.{dir_reads, dir_was, has_leader}
use Rattle.laws_record.proofs.DirWords.{DirChange, dir_change}
use Rattle.laws_record.proofs.EnterScan.{back_items, enter_scan, front_items, kept_was, length-items_kept}
use Rattle.laws_record.proofs.Entered.{directory}
use Rattle.laws_record.proofs.EnterSlots.{slots_entered}
use Rattle.laws_record.proofs.Mending.{entries-tidied}
use Rattle.laws_record.proofs.Roomy.{placed_there}
use Rattle.laws_record.proofs.Scanned.{kept_before, tidied_items}
use Rattle.laws_record.specs.DirLaws.{Enters, entered}
use Rattle.laws_record.specs.EnterLaws.{EntryIsTheStep, MayEnter}

module _ (p : Pack) (d : Fid) (at : ℕ) (new : List ℕ) (a b : List Item) (f : Fid) (name : List ℕ) (left : ℕ) (h : Enters p d at new a b f name left) (may : MayEnter p d f name) where
  -- the words of the free slot
  abbrev pub total : ℕ
  total = entry_length (length name) + left

  -- the files before
  abbrev pub files : Files
  files = described (sights p)

  -- the files that live
  abbrev pub v : Fid → Bool
  v = lives (sights p)

  -- the words of the directory then
  abbrev pub words : List ℕ
  words = put_at (all_words a) new (dir_words p d)

  -- the directory's leader
  abbrev pub dir_leader : Leader
  dir_leader = (has_leader (sights p) d h.write.lives).0

  -- and it has it
  pub lead : leader (sights p) d ≡ Some dir_leader
  lead = (has_leader (sights p) d h.write.lives).1

  -- what changes
  pub change : DirChange p (entered p at a new) d words
  change = dir_change p d (all_words a) at new h.write

  -- the directory before
  pub here : get files d ≡ Some (directory dir_leader (a ++ space total ∷ b))
  here = dir_was p (entered p at a new) d words change h.write.directory dir_leader lead ∙ ap (λ is. Some (directory dir_leader is)) h.slots_are

  -- its file lives, and it fits
  pub stands : may_stand v (record { dir = d; name = name; fid = f }) ≡ true
  stands = λ i. may.lives i && may.fits i

  -- it clashes with none that is kept
  pub apart : list_any (clashes (record { dir = d; name = name; fid = f })) (namings (files_kept (is_kept v) [] (entries files))) ≡ false
  unfolding read_sights
  apart = sym (ap (λ es. list_any (clashes (record { dir = d; name = name; fid = f })) (namings es)) (entries-tidied v files)) ∙ may.apart

  -- the slots before and after, as the model has them
  abbrev pub front_slots : List Item
  front_slots = front_items v files d dir_leader a b total f name left here stands apart

  -- the slots after, as the model has them
  abbrev pub back_slots : List Item
  back_slots = back_items v files d dir_leader a b total f name left here stands apart

  -- the directory in the model
  pub model_dir : get (read_as p).files d ≡ Some (directory dir_leader (front_slots ++ space total ∷ back_slots))
  unfolding read_sights
  model_dir = tidied_items v files d dir_leader (a ++ space total ∷ b) here ∙ ap (λ is. Some (directory dir_leader is)) (kept_was v files d dir_leader a b total f name left here stands apart)

  -- as many slots in front
  pub front_length : length front_slots ≡ length a
  front_length = length-items_kept (is_kept v) d (kept_before v files d dir_leader (a ++ space total ∷ b) here) a

  -- the model then
  pub enter_reads : read_as (entered p at a new) ≡ record (read_as p) { files = insert (read_as p).files d (directory dir_leader (front_slots ++ entry f name ∷ left_over left back_slots)) }
  unfolding read_sights
  enter_reads = dir_reads p (entered p at a new) d words change h.write.directory dir_leader lead (insert (tidied v files) d (directory dir_leader (front_slots ++ entry f name ∷ left_over left back_slots)))
      (ap (λ is. tidied v (insert files d (directory dir_leader is))) (slots_entered p d at new a b f name left h) ∙ enter_scan v files d dir_leader a b total f name left here stands apart)

-- a change of a directory's slots, where it is there
pub on_slots : (m : Model) (d : Fid) (dir_leader : Leader) (is js : List Item) (g : List Item → List Item) → get m.files d ≡ Some (directory dir_leader is) → g is ≡ js → record m { files = insert m.files d (directory dir_leader js) } ≡ update_file m d (on_items g)
on_slots m d dir_leader is js g here e = ap (λ x. record m { files = insert m.files d (directory dir_leader x) }) (sym e) ∙ ap (λ r. record m { files = update_found m.files d (on_items g) r }) (sym here)

-- the record write of an entry's first words is the operation
pub entry_is_the_step : EntryIsTheStep
entry_is_the_step p d at new a b f name left h may room =
    let n : ℕ = entry_length (length name) in
    let k : List Item = front_slots p d at new a b f name left h may in
    let q : List Item = back_slots p d at new a b f name left h may in
    let lead : Leader = dir_leader p d at new a b f name left h may in
    let is : List Item = k ++ space (n + left) ∷ q in
    let dir = model_dir p d at new a b f name left h may in
    let found : find_room n is ≡ Some (record { first = length a; place = all_words a; total = n + left }) = ap (find_room n) (sym (ap items_in dir)) ∙ room in
    let there : placed (entry f name) is ≡ Some (k ++ entry f name ∷ left_over (n + left - n) q) =
    placed_there (entry f name) 0 0 k q (n + left) (record { first = length a; place = all_words a; total = n + left }) found (let z = front_length p d at new a b f name left h may in omega arith) refl in
    let z : n + left - n ≡ left = omega arith in
    enter_reads p d at new a b f name left h may
    ∙ on_slots (read_as p) d lead is (k ++ entry f name ∷ left_over left q) (items_entered (entry f name)) dir
    (ap (λ r. unwrap_or r is) there ∙ ap (λ m. k ++ entry f name ∷ left_over m q) z)
