-- What is needed and what is available, by the room of the mended pack.
use Rattle.std.proofs.Common.{◌*◌, ◌+◌, ◌∙◌, ◌∷◌, ◌≡◌, ◌≤◌, Bool, List, None, Option, Some, [], ap, arith, cond, false, refl, sym, true, ℕ}
use Rattle.std.specs.FinMap.{entries, entries_sorted, find, get, get-entries, insert}
use Rattle.std.specs.FinMap.Entries.{where_key}
use Rattle.std.specs.Option.{is_some}
use Rattle.laws_operation.specs.alto_words.specs.Fid.{disk_descriptor, fid_cmp, sys_dir}
use Rattle.laws_operation.specs.alto_words.specs.declared.fid.Fid.{Fid}
use Rattle.laws_operation.specs.disk_records.specs.declared.shape.Shape.{Shape}
use Rattle.laws_operation.specs.pack_model.specs.reading.Bodies.{Body, File, Files, body_length, described, found, is_described, pages_for}
use Rattle.laws_operation.specs.pack_model.specs.reading.Bodies.Body.{data_of, items_of}
use Rattle.laws_operation.specs.pack_model.specs.reading.Files.{file_bytes, leader, lives, page}
use Rattle.laws_operation.specs.pack_model.specs.states.InUse.{available}
use Rattle.laws_operation.specs.pack_model.specs.scavenger.Mended.{HasRoom, mended, needs, root_body, root_file, rooted, with_system}
use Rattle.laws_operation.specs.pack_model.specs.reading.Model.{descriptor_pages, files_pages, good_sectors}
use Rattle.laws_operation.specs.pack_model.specs.reading.Namings.{Naming, body_kept, files_kept, is_kept, items_kept, kept_after_body, kept_by}
use Rattle.laws_operation.specs.pack_model.specs.scavenger.Needed.{needed}
use Rattle.laws_operation.specs.pack_model.specs.reading.Sights.{Sight}
use Rattle.laws_operation.specs.pack_model.specs.reading.Slots.{Item, all_words, item_words}
use Rattle.laws_operation.specs.pack_model.specs.reading.Slots.Item.{entry, space}
use Rattle.laws_room.proofs.inside.Counting.{available_is}
use Rattle.laws_room.proofs.inside.Totals.{all_files, without_descriptor}
use Rattle.laws_operation.specs.pack_laws.proofs.ByLists.{entries-retain_keys}
use Rattle.laws_operation.specs.pack_laws.proofs.Joining.{AreShort}
use Rattle.laws_operation.specs.pack_laws.proofs.Keys.{fid_same, fid_total}
use Rattle.laws_record.proofs.FilePages.{changed_pages, new_pages}
use Rattle.laws_record.proofs.Keeping.{get-where}
use Rattle.laws_record.proofs.Mending.{entries-tidied}
use Rattle.laws_record.proofs.Reading.{get-found, read_file}
use Rattle.laws_record.proofs.Tidying.{some_map}

-- ---- the scan keeps the words
-- words of items, whichever of them are kept
pub items_words : (ok : List Naming → Naming → Bool) (d : Fid) (b : List Naming) (is : List Item) → all_words (items_kept ok d b is) ≡ all_words is
items_words ok d b [] = refl
items_words ok d b (space n ∷ is) = ap (λ k. n + k) (items_words ok d b is)
items_words ok d b (entry f name ∷ is) =
    let r = items_words ok d (kept_by ok d b (entry f name)) is in
    ap (λ k. k + all_words (items_kept ok d (kept_by ok d b (entry f name)) is)) (one (ok b (record { dir = d; name = name; fid = f }))) ∙ ap (λ k. item_words (entry f name) + k) r
  where
    one : (c : Bool) → item_words (cond c (entry f name) (space (item_words (entry f name)))) ≡ item_words (entry f name)
    one true = refl
    one false = refl

-- so each file keeps its pages
kept_pages : (ok : List Naming → Naming → Bool) (b : List Naming) (es : List (Fid × File)) → files_pages (files_kept ok b es) ≡ files_pages es
kept_pages ok b [] = refl
kept_pages ok b (e ∷ es) = let h = ap pages_for (one e.1.body) in let r = kept_pages ok (kept_after_body ok e.0 b e.1.body) es in omega arith
  where
    one : (x : Body) → body_length (body_kept ok e.0 b x) ≡ body_length x
    one (data_of bytes) = refl
    one (items_of is) = ap (λ n. n * 2) (items_words ok e.0 b is)

-- one file changes by so many pages
pub pages_around : (files : Files) (d : Fid) (x y : File) (m : ℕ) → get files d ≡ Some x → pages_for (body_length y.body) ≡ m + pages_for (body_length x.body) → files_pages (entries (insert files d y)) ≡ m + files_pages (entries files)
pages_around files d x y m is e = let h = changed_pages files d x y is in omega arith

-- ---- SysDir's pages where it doesn't live
-- SysDir has two pages where it doesn't live
rooted_pages : (files : Files) → files_pages (entries (rooted files)) ≡ files_pages (entries files) + cond (is_some (get files sys_dir)) 0 2
rooted_pages files = by (get files sys_dir) refl
  where
    by : (r : Option File) → get files sys_dir ≡ r → files_pages (entries (insert files sys_dir (root_file (root_body r)))) ≡ files_pages (entries files) + cond (is_some r) 0 2
    by (Some x) e = let h = pages_around files sys_dir x (root_file x.body) 0 e (omega arith) in omega arith
    by None e = let h = new_pages files sys_dir (root_file (root_body None)) e in omega arith

-- needed and available, by the sum of pages of the mended pack
pub needed_is : (shape : Shape) (ss : List Sight) → ((f : Fid) → AreShort (page ss f)) → available shape ss + (needs (mended shape ss) + descriptor_pages shape) ≡ needed shape ss + good_sectors ss
unfolding needed needs mended
needed_is shape ss short =
    let a = available_is shape ss in
    let b = all_files shape ss short in
    let c = without_descriptor shape ss short (entries (found ss)) (entries_sorted (found ss)) in
    let d : files_pages (entries (described ss)) ≡ files_pages (where_key fid_cmp is_described (entries (found ss))) = ap files_pages (entries-retain_keys fid_total fid_same (found ss) is_described) in
    let e = rooted_pages (described ss) in
    let f : files_pages (entries (mended shape ss).files) ≡ files_pages (entries (rooted (described ss))) = ap files_pages (entries-tidied (with_system (lives ss)) (rooted (described ss))) ∙ kept_pages (is_kept (with_system (lives ss))) [] (entries (rooted (described ss))) in
    let g : ◌≡◌ {A = ℕ} (cond {A = ℕ} (is_some (get (described ss) sys_dir)) 0 2) (cond {A = ℕ} (lives ss sys_dir) 0 2) = ap (λ b. cond {A = ℕ} b 0 2) (ap is_some (get-where (found ss) is_described sys_dir ∙ get-found ss sys_dir) ∙ some_map (read_file sys_dir (file_bytes ss sys_dir)) (leader ss sys_dir)) in
    let h : ◌≡◌ {A = ℕ} (cond {A = ℕ} (is_some (find fid_cmp disk_descriptor (entries (found ss)))) 0 (descriptor_pages shape)) (cond {A = ℕ} (lives ss disk_descriptor) 0 (descriptor_pages shape)) = ap (λ b. cond {A = ℕ} b 0 (descriptor_pages shape)) (ap is_some (sym (get-entries (found ss) disk_descriptor) ∙ get-found ss disk_descriptor) ∙ some_map (read_file disk_descriptor (file_bytes ss disk_descriptor)) (leader ss disk_descriptor)) in
    omega arith

-- there is room where needed is at most the available
pub room_is : (shape : Shape) (ss : List Sight) → ((f : Fid) → AreShort (page ss f)) → (HasRoom (mended shape ss) → needed shape ss ≤ available shape ss) × (needed shape ss ≤ available shape ss → HasRoom (mended shape ss))
unfolding mended
room_is shape ss short = let e = needed_is shape ss short in (λ h. omega arith, λ h. omega arith)
