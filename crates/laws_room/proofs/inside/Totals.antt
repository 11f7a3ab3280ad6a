-- The pages that files have and those that they lack make up their bytes' pages.
use Rattle.std.proofs.Common.{◌*◌, ◌+◌, ◌/◌, ◌∙◌, ◌∷◌, ◌≡◌, ◌≤◌, Bool, List, None, Option, Some, T, [], ap, arith, cond, false, length, not, refl, subst, suc, sym, true, zero, ℕ}
use Rattle.std.specs.FinMap.{entries, entries_sorted, find, get, get-entries, is_sorted}
use Rattle.std.specs.FinMap.Entries.{below_all, where_key}
use Rattle.std.specs.Option.{is_some, option_map}
use Rattle.laws_operation.specs.alto_words.specs.Fid.{disk_descriptor, fid_cmp, is_directory, is_fid}
use Rattle.laws_operation.specs.alto_words.specs.declared.fid.Fid.{Fid}
use Rattle.laws_operation.specs.disk_records.specs.Addresses.{descriptor_length}
use Rattle.laws_operation.specs.disk_records.specs.declared.shape.Shape.{Shape}
use Rattle.laws_operation.specs.pack_model.specs.reading.Bodies.{Body, File, body_length, body_of, found, is_described, pages_for}
use Rattle.laws_operation.specs.pack_model.specs.reading.Bodies.Body.{data_of, items_of}
use Rattle.laws_operation.specs.pack_model.specs.reading.Bytes.{words_of}
use Rattle.laws_operation.specs.pack_model.specs.reading.Files.{file_bytes, leader, most_pages, page, place}
use Rattle.laws_operation.specs.pack_model.specs.states.InUse.{last_page, one_if}
use Rattle.laws_operation.specs.pack_model.specs.reading.Leaders.{Leader}
use Rattle.laws_operation.specs.pack_model.specs.reading.Model.{descriptor_pages, files_pages}
use Rattle.laws_operation.specs.pack_model.specs.scavenger.Needed.{file_lacks, files_lack, missing}
use Rattle.laws_operation.specs.pack_model.specs.reading.Sights.{Sight}
use Rattle.laws_operation.specs.pack_model.specs.reading.Slots.{slots}
use Rattle.laws_room.specs.CountLaws.{count_placed, placed_pages}
use Rattle.laws_operation.specs.pack_laws.proofs.Bytes.{length-words_of}
use Rattle.laws_operation.specs.pack_laws.proofs.Joining.{AreShort}
use Rattle.laws_operation.specs.pack_laws.proofs.ByteInPages.{has_byte}
use Rattle.laws_operation.specs.pack_laws.proofs.Keys.{is_fid-itself, is_fid-sym, same_fid}
use Rattle.laws_operation.specs.pack_laws.proofs.Placing.{leader_of_place, no_leader, no_page, page_of_place}
use Rattle.laws_record.proofs.Around.{first_part, not_below, second_part}
use Rattle.laws_record.proofs.Heads.{all_within}
use Rattle.laws_record.proofs.Reading.{get-found, read_file}

-- ---- a page has a place where its bytes are found
place_some : (ss : List Sight) (f : Fid) (n : ℕ) → is_some (place ss f (suc n)) ≡ is_some (page ss f n)
place_some ss f n = by (place ss f (suc n)) refl
  where
    by : (r : Option ℕ) → place ss f (suc n) ≡ r → is_some (place ss f (suc n)) ≡ is_some (page ss f n)
    by None e = ap is_some e ∙ sym (ap is_some (no_page ss f n e))
    by (Some at) e = ap is_some e ∙ sym (ap is_some (page_of_place ss f n at e).page_is)

-- so has a leader
place_lead : (ss : List Sight) (f : Fid) → is_some (place ss f 0) ≡ is_some (leader ss f)
place_lead ss f = by (place ss f 0) refl
  where
    by : (r : Option ℕ) → place ss f 0 ≡ r → is_some (place ss f 0) ≡ is_some (leader ss f)
    by None e = ap is_some e ∙ sym (ap is_some (no_leader ss f e))
    by (Some at) e = ap is_some e ∙ sym (ap is_some (leader_of_place ss f at e).leader_is)

-- ---- the pages below a file's end are there
below_end : (ss : List Sight) (f : Fid) (j : ℕ) → AreShort (page ss f) → suc j * 512 ≤ length (file_bytes ss f) → is_some (page ss f j) ≡ true
unfolding file_bytes
below_end ss f j short l = ap is_some (has_byte most_pages (page ss f) j 511 short (omega arith) (omega arith)).there

-- the slots of a directory, and the bytes of any other file, are within its bytes
body_within : (f : Fid) (bytes : List ℕ) → body_length (body_of f bytes) ≤ length bytes
body_within f bytes = by (is_directory f)
  where
    by : (b : Bool) → body_length (cond b (items_of (slots (words_of bytes))) (data_of bytes)) ≤ length bytes
    by true = let h = all_within (slots (words_of bytes)) (words_of bytes) refl in let w = length-words_of bytes in omega arith
    by false = omega arith

-- ---- one file: the pages that are there and those that it lacks
module _ (shape : Shape) (ss : List Sight) (short : (f : Fid) → AreShort (page ss f)) where
  -- a leader that is read has a place
  leader_there : (f : Fid) → is_some (leader ss f) ≡ true → one_if (is_some (place ss f 0)) ≡ 1
  leader_there f e = ap one_if (place_lead ss f ∙ e)

  -- a test holds or not
  one_or_not : (b : Bool) → one_if b + one_if (not b) ≡ 1
  one_or_not true = refl
  one_or_not false = refl

  -- of the pages up to number n each is carried or missing
  all_pages : (f : Fid) → is_some (leader ss f) ≡ true → (n : ℕ) → placed_pages ss f n + missing ss f n ≡ suc n
  all_pages f e zero = let h = leader_there f e in omega arith
  all_pages f e (suc n) =
      let h = all_pages f e n in
      let s = ap one_if (place_some ss f n) in
      let o = one_or_not (is_some (page ss f n)) in omega arith

  -- none is missing below the end of the bytes
  none_missing : (f : Fid) (n : ℕ) → n * 512 ≤ length (file_bytes ss f) → missing ss f n ≡ 0
  none_missing f zero l = refl
  none_missing f (suc n) l =
      let h = none_missing f n (omega arith) in
      let c = ap (λ b. one_if (not b)) (below_end ss f n (short f) l) in omega arith

  -- the pages for a file's body; DiskDescriptor's are fixed
  abbrev total : Fid → Body → ℕ
  total f body = cond (is_fid f disk_descriptor) (descriptor_pages shape) (pages_for (body_length body))

  -- what a file's pages that are carried, and those that it lacks, make up
  file_total : (f : Fid) → is_some (leader ss f) ≡ true → placed_pages ss f (last_page shape f (body_of f (file_bytes ss f))) + file_lacks shape ss f (body_of f (file_bytes ss f)) ≡ total f (body_of f (file_bytes ss f))
  file_total f e = by (is_fid f disk_descriptor)
    where
      body : Body
      body = body_of f (file_bytes ss f)

      by : (b : Bool) → placed_pages ss f (suc (cond b (descriptor_length shape) (body_length (body_of f (file_bytes ss f))) / 512)) + cond b (missing ss f (suc (cond b (descriptor_length shape) (body_length (body_of f (file_bytes ss f))) / 512))) (one_if (not (is_some (page ss f (cond b (descriptor_length shape) (body_length (body_of f (file_bytes ss f))) / 512)))))
          ≡ cond b (descriptor_pages shape) (pages_for (body_length (body_of f (file_bytes ss f))))
      by true = let h = all_pages f e (suc (descriptor_length shape / 512)) in omega arith
      by false =
          let n : ℕ = body_length (body_of f (file_bytes ss f)) / 512 in
          let h = all_pages f e (suc n) in
          let w = body_within f (file_bytes ss f) in
          let m = none_missing f n (omega arith) in omega arith

  -- ---- all files
  -- of these files together
  abbrev pub totals : List (Fid × File) → ℕ
  totals [] = 0
  totals (e ∷ es) = total e.0 e.1.body + totals es

  -- these files, each with its carried and its lacking pages
  sum_files : (es : List (Fid × File)) → T (is_sorted fid_cmp es) → ((f : Fid) (x : File) → find fid_cmp f es ≡ Some x → placed_pages ss f (last_page shape f x.body) + file_lacks shape ss f x.body ≡ total f x.body) → count_placed shape ss es + files_lack shape ss es ≡ totals es
  sum_files [] s h = omega arith
  sum_files (e ∷ es) s h =
      let here = h e.0 e.1 (ap (λ b. cond b (Some e.1) (find fid_cmp e.0 es)) (is_fid-itself e.0)) in
      let rest = sum_files es (second_part (below_all fid_cmp e.0 es) (is_sorted fid_cmp es) s) (λ f x is. h f x (later f x is)) in
      omega arith
    where
      later : (f : Fid) (x : File) → find fid_cmp f es ≡ Some x → cond (is_fid f e.0) (Some e.1) (find fid_cmp f es) ≡ Some x
      later f x is = by (is_fid f e.0) refl
        where
          by : (b : Bool) → is_fid f e.0 ≡ b → cond b (Some e.1) (find fid_cmp f es) ≡ Some x
          by false q = is
          by true q = absurd (let n : None ≡ Some x = sym (not_below fid_cmp e.0 es (first_part (below_all fid_cmp e.0 es) (is_sorted fid_cmp es) s)) ∙ ap (λ k. find fid_cmp k es) (sym (same_fid f e.0 q)) ∙ is in cc)

  -- each file that is found
  found_good : (f : Fid) (x : File) → get (found ss) f ≡ Some x → placed_pages ss f (last_page shape f x.body) + file_lacks shape ss f x.body ≡ total f x.body
  found_good f x is = by (leader ss f) refl (sym (get-found ss f) ∙ is)
    where
      by : (r : Option Leader) → leader ss f ≡ r → option_map (read_file f (file_bytes ss f)) r ≡ Some x → placed_pages ss f (last_page shape f x.body) + file_lacks shape ss f x.body ≡ total f x.body
      by None e q = absurd (let n : None ≡ Some x = q in cc)
      by (Some l) e q = let y : read_file f (file_bytes ss f) l ≡ x = cc in subst (λ z. placed_pages ss f (last_page shape f z.body) + file_lacks shape ss f z.body ≡ total f z.body) y (file_total f (ap is_some e))

  -- all files that are found
  pub all_files : count_placed shape ss (entries (found ss)) + files_lack shape ss (entries (found ss)) ≡ totals (entries (found ss))
  all_files = sum_files (entries (found ss)) (entries_sorted (found ss)) (λ f x is. found_good f x (get-entries (found ss) f ∙ is))

  -- DiskDescriptor's pages are counted apart
  pub without_descriptor : (es : List (Fid × File)) → T (is_sorted fid_cmp es) → totals es + cond (is_some (find fid_cmp disk_descriptor es)) 0 (descriptor_pages shape) ≡ files_pages (where_key fid_cmp is_described es) + descriptor_pages shape
  without_descriptor [] s = omega arith
  without_descriptor (e ∷ es) s = by (is_fid e.0 disk_descriptor) (is_fid disk_descriptor e.0) refl (is_fid-sym e.0 disk_descriptor) (without_descriptor es (second_part (below_all fid_cmp e.0 es) (is_sorted fid_cmp es) s))
    where
      by : (b c : Bool) → is_fid e.0 disk_descriptor ≡ b → b ≡ c
          → totals es + cond (is_some (find fid_cmp disk_descriptor es)) 0 (descriptor_pages shape) ≡ files_pages (where_key fid_cmp is_described es) + descriptor_pages shape
          → (cond b (descriptor_pages shape) (pages_for (body_length e.1.body)) + totals es) + cond (is_some (cond c (Some e.1) (find fid_cmp disk_descriptor es))) 0 (descriptor_pages shape) ≡ files_pages (cond (not b) (e ∷ where_key fid_cmp is_described es) (where_key fid_cmp is_described es)) + descriptor_pages shape
      by true true q r h =
          let n = ap (λ x. cond (is_some x) 0 (descriptor_pages shape)) (ap (λ k. find fid_cmp k es) (sym (same_fid e.0 disk_descriptor q)) ∙ not_below fid_cmp e.0 es (first_part (below_all fid_cmp e.0 es) (is_sorted fid_cmp es) s)) in omega arith
      by true false q r h = absurd cc
      by false true q r h = absurd cc
      by false false q r h = omega arith
