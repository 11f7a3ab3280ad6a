-- The free sectors of a whole pack are as many as its model has room.
use Rattle.std.proofs.Common.{List, ap, arith, cond, true, ℕ, ◌+◌, ◌≡◌}
use Rattle.std.specs.FinMap.{entries}
use Rattle.laws_operation.specs.alto_words.specs.Fid.{disk_descriptor, sys_dir}
use Rattle.laws_operation.specs.disk_records.specs.Packs.{Pack}
use Rattle.laws_operation.specs.disk_records.specs.declared.shape.Shape.{Shape}
use Rattle.laws_operation.specs.pack_model.specs.reading.Files.{lives, numbered}
use Rattle.laws_operation.specs.pack_model.specs.states.InUse.{free_sector_count, how_many, in_use}
use Rattle.laws_operation.specs.pack_model.specs.scavenger.Mended.{needs}
use Rattle.laws_operation.specs.pack_model.specs.reading.Model.{descriptor_pages, files_pages, good_sectors, read_as, read_sights}
use Rattle.laws_operation.specs.pack_model.specs.scavenger.Needed.{needed}
use Rattle.laws_operation.specs.pack_model.specs.reading.Sights.{Sight, sights}
use Rattle.laws_operation.specs.pack_model.specs.states.Whole.{Whole, WholeSights}
use Rattle.laws_room.proofs.inside.Rooming.{counting_theorem}
use Rattle.laws_record.proofs.DirReads.{has_leader}
use Rattle.laws_room.proofs.SystemFiles.{leader_shown, pages_read}
use Rattle.laws_room.proofs.inside.WholeFiles.{available_free, files_complete}
use Rattle.laws_room.specs.RoomLaws.{FreeIsTheRoom}

-- SysDir lives
pub root_lives : (shape : Shape) (ss : List Sight) → WholeSights shape ss → lives ss sys_dir ≡ true
root_lives shape ss w = leader_shown ss sys_dir 1 true w.root.0 w.root.1

-- the pages of all files, and the free sectors, are the good ones
pub pages_and_free : (p : Pack) → Whole p → files_pages (entries (read_as p).files) + descriptor_pages p.shape + free_sector_count (sights p) ≡ good_sectors (sights p)
unfolding needs needed
pages_and_free p w =
    let ss : List Sight = sights p in
    let lead = has_leader ss sys_dir (root_lives p.shape ss w) in
    let count = (counting_theorem p).needed_is in
    let free = available_free p w in
    let complete = files_complete p w in
    let pages = pages_read p.shape ss lead.0 lead.1 w.descriptor_lives in
    let root : ◌≡◌ {A = ℕ} (cond {A = ℕ} (lives ss sys_dir) 0 2) 0 = ap (λ b. cond {A = ℕ} b 0 2) (root_lives p.shape ss w) in
    let own : ◌≡◌ {A = ℕ} (cond {A = ℕ} (lives ss disk_descriptor) 0 (descriptor_pages p.shape)) 0 = ap (λ b. cond {A = ℕ} b 0 (descriptor_pages p.shape)) w.descriptor_lives in
    omega arith

-- those in use are these pages
pub in_use_pages : (p : Pack) → Whole p → how_many (in_use p.shape (sights p)) (numbered 0 (sights p)) ≡ files_pages (entries (read_as p).files) + descriptor_pages p.shape
in_use_pages p w =
    let count = counting_theorem p in
    let used = count.in_use in
    let good = count.available_is in
    let free = available_free p w in
    let all = pages_and_free p w in
    omega arith

-- the law
pub free_is_the_room : FreeIsTheRoom
unfolding read_sights
free_is_the_room p w = let all = pages_and_free p w in record { available_is = available_free p w; in_use = in_use_pages p w; pages = all; room_is = omega arith }
