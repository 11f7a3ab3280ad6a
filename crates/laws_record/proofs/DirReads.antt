-- What is read where one directory has other words.
use Rattle.std.proofs.Common.{◌∙◌, ◌≡◌, List, None, Option, Some, ap, cond, false, not, refl, sym, true, ℕ}
use Rattle.std.specs.FinMap.{FinMap, get, get-insert, insert, retain_keys, same_map}
use Rattle.std.specs.Option.{is_some}
use Rattle.pack_laws.specs.alto_words.specs.Fid.{disk_descriptor, fid_cmp, is_directory, is_fid}
use Rattle.pack_laws.specs.alto_words.specs.declared.fid.Fid.{Fid}
use Rattle.pack_laws.specs.disk_records.specs.Packs.{Pack}
use Rattle.pack_laws.specs.pack_model.specs.reading.Bodies.{Files, described, found, is_described}
use Rattle.pack_laws.specs.pack_model.specs.reading.Bodies.Body.{data_of, items_of}
use Rattle.pack_laws.specs.pack_model.specs.reading.Bytes.{words_of}
use Rattle.pack_laws.specs.pack_model.specs.reading.Files.{file_bytes, leader, lives}
use Rattle.pack_laws.specs.pack_model.specs.reading.Leaders.{Leader}
use Rattle.pack_laws.specs.pack_model.specs.hints.Links.{dir_words}
use Rattle.pack_laws.specs.pack_model.specs.reading.Model.{last_serial, read_as, read_sights}
use Rattle.pack_laws.specs.pack_model.specs.reading.Namings.{tidied}
use Rattle.pack_laws.specs.pack_model.specs.reading.Sights.{Sight, sights}
use Rattle.pack_laws.specs.pack_model.specs.reading.Slots.{slots}
use Rattle.pack_laws.proofs.Keys.{fid_same, fid_total, is_fid-sym, same_fid}
use Rattle.laws_record.proofs.DirWords.{DirChange}
use Rattle.laws_record.proofs.Entered.{directory}
use Rattle.laws_record.proofs.Framing.{lives_same, model_same}
use Rattle.laws_record.proofs.Keeping.{get-where, kept_insert}
use Rattle.laws_record.proofs.Reading.{get_alike, get_by, insert_from_get, read_file}
use Rattle.laws_record.proofs.Staying.{Stays}

-- a directory isn't DiskDescriptor
pub not_descriptor : (d : Fid) → is_directory d ≡ true → is_fid d disk_descriptor ≡ false
not_descriptor d dir = elim (is_fid d disk_descriptor) as (λ b. is_fid d disk_descriptor ≡ b → b ≡ false) [
  | true ↦ λ e. let clash : false ≡ true = ap is_directory (sym (same_fid d disk_descriptor e)) ∙ dir in cc
  | false ↦ λ e. refl
] refl

-- a value that is there already
pub insert_same : {X : Type 0} (m : FinMap fid_cmp X) (f : Fid) (x : X) → get m f ≡ Some x → insert m f x ≡ m
insert_same m f x is = same_map fid_total fid_same _ _ (λ q. get-insert fid_total m f x q ∙ at q)
  where
    at : (q : Fid) → cond (is_fid q f) (Some x) (get m q) ≡ get m q
    at q = elim (is_fid q f) as (λ b. is_fid q f ≡ b → cond b (Some x) (get m q) ≡ get m q) [ true ↦ λ e. sym (ap (get m) (same_fid q f e) ∙ is) | false ↦ λ e. refl ] refl

-- a file that lives has a leader
pub has_leader : (ss : List Sight) (f : Fid) → lives ss f ≡ true → (l : Leader) × (leader ss f ≡ Some l)
has_leader ss f live = by (leader ss f) refl live
  where
    by : (r : Option Leader) → leader ss f ≡ r → is_some r ≡ true → (l : Leader) × (leader ss f ≡ Some l)
    by None e live = cc
    by (Some l) e live = (l, e)

module _ (p q : Pack) (d : Fid) (words : List ℕ) (c : DirChange p q d words) (dir : is_directory d ≡ true) (l : Leader) (lead : leader (sights p) d ≡ Some l) where
  -- the file of a directory, by its slots
  file_is : (bytes : List ℕ) → read_file d bytes l ≡ directory l (slots (words_of bytes))
  file_is bytes = ap (λ b. record { leader = l; body = cond b (items_of (slots (words_of bytes))) (data_of bytes) }) dir

  -- the same files live
  pub dir_lives : lives (sights q) ≡ lives (sights p)
  dir_lives = lives_same (sights q) (sights p) c.leaders

  -- DiskDescriptor has the same bytes
  dir_last : file_bytes (sights q) disk_descriptor ≡ file_bytes (sights p) disk_descriptor
  dir_last = c.others disk_descriptor (is_fid-sym disk_descriptor d ∙ not_descriptor d dir)

  -- the directory before
  pub dir_was : get (described (sights p)) d ≡ Some (directory l (slots (dir_words p d)))
  dir_was = get-where (found (sights p)) is_described d ∙ ap (λ b. cond (not b) (get (found (sights p)) d) None) (not_descriptor d dir) ∙ get_by (sights p) d l _ lead refl ∙ ap Some (file_is _)

  -- and the files now
  pub dir_files : described (sights q) ≡ insert (described (sights p)) d (directory l (slots words))
  dir_files =
      ap (λ m. retain_keys m is_described)
      (insert_from_get (found (sights p)) (found (sights q)) d (directory l (slots words))
      (get_by (sights q) d l (file_bytes (sights q) d) (c.leaders d ∙ lead) refl ∙ ap Some (file_is (file_bytes (sights q) d) ∙ ap (λ x. directory l (slots x)) c.words_are))
      (λ g e. get_alike (sights p) (sights q) g (c.leaders g) (c.others g e)))
      ∙ kept_insert (found (sights p)) is_described d (directory l (slots words)) (ap not (not_descriptor d dir))

  -- so the model is that of these files
  pub dir_reads : (files : Files) → tidied (lives (sights p)) (insert (described (sights p)) d (directory l (slots words))) ≡ files → read_as q ≡ record (read_as p) { files = files }
  unfolding read_sights
  dir_reads files e =
      ap (λ shape. read_sights shape (sights q)) c.shape
      ∙ model_same p.shape _ _ _ _ _ _ c.good (ap (λ b. last_serial (words_of b)) dir_last)
      (ap (λ v. tidied v (described (sights q))) dir_lives ∙ ap (tidied (lives (sights p))) dir_files ∙ e)

  -- with the same slots it is the same
  dir_read : slots words ≡ slots (dir_words p d) → read_as q ≡ read_as p
  unfolding read_sights
  dir_read e =
      ap (λ shape. read_sights shape (sights q)) c.shape
      ∙ model_same p.shape _ _ _ _ _ _ c.good (ap (λ b. last_serial (words_of b)) dir_last)
      (ap (λ v. tidied v (described (sights q))) dir_lives ∙ ap (tidied (lives (sights p))) (dir_found e))
    where
      dir_found : slots words ≡ slots (dir_words p d) → described (sights q) ≡ described (sights p)
      dir_found e = dir_files ∙ ap (λ is. insert (described (sights p)) d (directory l is)) e ∙ insert_same (described (sights p)) d _ dir_was

  -- and so are all files
  pub dir_same : slots words ≡ slots (dir_words p d) → Stays p q
  dir_same e = record {
    read = dir_read e;
    files = record { shape = c.shape; good = c.good; leaders = c.leaders; files = dir_files ∙ ap (λ is. insert (described (sights p)) d (directory l is)) e ∙ insert_same (described (sights p)) d _ dir_was };
  }
