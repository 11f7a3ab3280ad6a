-- The words of one directory change: the files as the Scavenger will find them, and the pages that count.
use Rattle.std.proofs.Common.{◌*◌, ◌/◌, ◌∙◌, ◌≡◌, Bool, List, Some, [], ap, cond, false, nat_le, refl, subst, suc, sym, true, ℕ}
use Rattle.std.specs.FinMap.{get, get-insert, insert}
use Rattle.laws_operation.specs.alto_words.specs.Fid.{is_directory, is_fid, sys_dir}
use Rattle.laws_operation.specs.alto_words.specs.declared.fid.Fid.{Fid}
use Rattle.laws_operation.specs.disk_records.specs.Addresses.{descriptor_length}
use Rattle.laws_operation.specs.disk_records.specs.Packs.{Pack}
use Rattle.laws_operation.specs.pack_model.specs.reading.Bodies.{File, Files, described}
use Rattle.laws_operation.specs.pack_model.specs.reading.Bodies.Body.{data_of, items_of}
use Rattle.laws_operation.specs.pack_model.specs.reading.Bytes.{words_of}
use Rattle.laws_operation.specs.pack_model.specs.reading.Files.{file_bytes, leader, lives}
use Rattle.laws_operation.specs.pack_model.specs.states.InUse.{counts, is_within}
use Rattle.laws_operation.specs.pack_model.specs.reading.Leaders.{Leader}
use Rattle.laws_operation.specs.pack_model.specs.hints.Links.{dir_words}
use Rattle.laws_operation.specs.pack_model.specs.scavenger.Mended.{root_file, rooted, with_system}
use Rattle.laws_operation.specs.pack_model.specs.reading.Namings.{tidied}
use Rattle.laws_operation.specs.pack_model.specs.reading.Sights.{sights}
use Rattle.laws_operation.specs.pack_model.specs.reading.Slots.{Item, all_words, slots}
use Rattle.laws_room.proofs.inside.RootStanding.{SamePagesCount}
use Rattle.laws_room.proofs.inside.RootedAt.{counted_file, rooted_at}
use Rattle.laws_operation.specs.pack_laws.proofs.Keys.{fid_total, is_fid-itself, same_fid}
use Rattle.laws_record.proofs.DirReads.{dir_files, dir_lives, dir_was, insert_same, not_descriptor}
use Rattle.laws_record.proofs.DirWords.{DirChange}
use Rattle.laws_record.proofs.Entered.{directory}
use Rattle.laws_record.proofs.Reading.{get_alike, get_by, read_file}
use Rattle.laws_record.proofs.Systemic.{MendedStay, mended_files}

-- the leader that stands for SysDir's
abbrev pub zeros : Leader
zeros = (root_file (items_of [])).leader

module _ (p q : Pack) (d : Fid) (words : List ℕ) (c : DirChange p q d words) (dir : is_directory d ≡ true) (l : Leader) (lead : leader (sights p) d ≡ Some l) where
  -- the files that live then
  abbrev pub living : Fid → Bool
  living = with_system (lives (sights p))

  -- the files before
  abbrev pub files : Files
  files = rooted (described (sights p))

  -- the leader that the directory has among them
  abbrev pub dir_leader : Leader
  dir_leader = cond (is_fid d sys_dir) zeros l

  -- the directory among them
  counted_dir : (is : List Item) → counted_file d (directory l is) ≡ directory dir_leader is
  counted_dir is = elim (is_fid d sys_dir) as (λ b. cond b (root_file (items_of is)) (directory l is) ≡ directory (cond b zeros l) is) [ true ↦ refl | false ↦ refl ]

  -- the directory before
  pub rooted_was : get files d ≡ Some (directory dir_leader (slots (dir_words p d)))
  rooted_was =
      let x : File = directory l (slots (dir_words p d)) in
      ap (λ m. get (rooted m) d) (sym (insert_same (described (sights p)) d x (dir_was p q d words c dir l lead)))
      ∙ ap (λ m. get m d) (rooted_at (described (sights p)) d x)
      ∙ get-insert fid_total files d (counted_file d x) d
      ∙ ap (λ b. cond b (Some (counted_file d x)) (get files d)) (is_fid-itself d)
      ∙ ap Some (counted_dir (slots (dir_words p d)))

  -- all files now
  pub mended_now : mended_files (sights q) ≡ tidied living (insert files d (directory dir_leader (slots words)))
  mended_now =
      ap (λ w. tidied (with_system w) (rooted (described (sights q)))) (dir_lives p q d words c dir l lead)
      ∙ ap (tidied living) (ap rooted (dir_files p q d words c dir l lead) ∙ rooted_at (described (sights p)) d (directory l (slots words)) ∙ ap (insert files d) (counted_dir (slots words)))

  -- where the scan leaves the same
  pub turned_stay : tidied living (insert files d (directory dir_leader (slots words))) ≡ tidied living files → MendedStay p q
  turned_stay same = record { shape = c.shape; good = c.good; files = mended_now ∙ same }

  -- the slots of a directory have as many words: the same pages count
  pub same_count : all_words (slots words) ≡ all_words (slots (dir_words p d)) → SamePagesCount p q
  same_count size f n = ap (λ shape. counts shape (sights q) f n) c.shape ∙ by (is_fid f d) refl
    where
      end : (is : List Item) → is_within p.shape d n (Some (directory l is)) ≡ nat_le n (suc (all_words is * 2 / 512))
      end is = ap (λ b. nat_le n (suc (cond b (descriptor_length p.shape) (all_words is * 2) / 512))) (not_descriptor d dir)

      item_file : (bytes : List ℕ) → read_file d bytes l ≡ directory l (slots (words_of bytes))
      item_file bytes = ap (λ b. record { leader = l; body = cond b (items_of (slots (words_of bytes))) (data_of bytes) }) dir

      by : (b : Bool) → is_fid f d ≡ b → counts p.shape (sights q) f n ≡ counts p.shape (sights p) f n
      by false e = ap (is_within p.shape f n) (get_alike (sights p) (sights q) f (c.leaders f) (c.others f e))
      by true e = subst (λ g. counts p.shape (sights q) g n ≡ counts p.shape (sights p) g n) (sym (same_fid f d e))
          (ap (is_within p.shape d n) (get_by (sights q) d l (file_bytes (sights q) d) (c.leaders d ∙ lead) refl ∙ ap Some (item_file (file_bytes (sights q) d) ∙ ap (λ x. directory l (slots x)) c.words_are))
          ∙ end (slots words) ∙ ap (λ k. nat_le n (suc (k * 2 / 512))) size ∙ sym (end (slots (dir_words p d)))
          ∙ sym (ap (is_within p.shape d n) (get_by (sights p) d l (file_bytes (sights p) d) lead refl ∙ ap Some (item_file (file_bytes (sights p) d)))))
