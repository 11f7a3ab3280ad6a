-- One ordinary file has other bytes: what is read then.
use Rattle.std.proofs.Common.{◌∙◌, ◌≡◌, List, None, Some, ap, cond, false, not, refl, set, sym, ℕ}
use Rattle.std.specs.FinMap.{get, insert, retain_keys}
use Rattle.pack_laws.specs.alto_words.specs.Fid.{disk_descriptor, is_fid}
use Rattle.pack_laws.specs.alto_words.specs.declared.fid.Fid.{Fid}
use Rattle.pack_laws.specs.disk_records.specs.Packs.{Pack}
use Rattle.pack_laws.specs.pack_model.specs.reading.Bodies.{described, found, is_described}
use Rattle.pack_laws.specs.pack_model.specs.reading.Bodies.Body.{data_of, items_of}
use Rattle.pack_laws.specs.pack_model.specs.reading.Bytes.{words_of}
use Rattle.pack_laws.specs.pack_model.specs.reading.Files.{file_bytes, leader, lives}
use Rattle.pack_laws.specs.pack_model.specs.reading.Leaders.{Leader}
use Rattle.pack_laws.specs.pack_model.specs.sessions.Maps.{update_found}
use Rattle.pack_laws.specs.pack_model.specs.reading.Model.{good_one, good_sectors, last_serial, read_as, read_sights}
use Rattle.pack_laws.specs.pack_model.specs.reading.Namings.{tidied}
use Rattle.pack_laws.specs.pack_model.specs.reading.Sights.{sights}
use Rattle.pack_laws.specs.pack_model.specs.reading.Sights.Sight.{hidden, holds}
use Rattle.pack_laws.specs.pack_model.specs.reading.Slots.{slots}
use Rattle.pack_laws.specs.pack_model.specs.operations.Step.{on_bytes, update_file}
use Rattle.laws_record.proofs.DirReads.{has_leader}
use Rattle.laws_record.proofs.Framing.{good_set, lives_same, model_same}
use Rattle.laws_record.proofs.Keeping.{get-tidied_plain, get-where, kept_insert, plain, tidied_insert}
use Rattle.pack_laws.proofs.Keys.{is_fid-sym}
use Rattle.pack_laws.proofs.Paging.{other_files, same_leaders}
use Rattle.pack_laws.proofs.Placing.{IsPageAt}
use Rattle.laws_record.proofs.Reading.{get_alike, get_by, insert_from_get, read_file}
use Rattle.laws_record.specs.StepLaws.{LivesOrdinary}

-- ---- what changes
-- One file has other bytes, and all else is as before.
pub record FileChange (p q : Pack) (f : Fid) (bytes : List ℕ) : Type 0 where
  pub shape : q.shape ≡ p.shape
  pub good : good_sectors (sights q) ≡ good_sectors (sights p)
  pub leaders : (g : Fid) → leader (sights q) g ≡ leader (sights p) g
  pub others : (g : Fid) → is_fid g f ≡ false → file_bytes (sights q) g ≡ file_bytes (sights p) g
  pub bytes_are : file_bytes (sights q) f ≡ bytes

-- so it is where a sector holds other bytes of its page
pub page_change : (p q : Pack) (f : Fid) (n at : ℕ) (new bytes : List ℕ) (h : IsPageAt (sights p) f n at) → q.shape ≡ p.shape → sights q ≡ set (sights p) at (holds f n new) → file_bytes (set (sights p) at (holds f n new)) f ≡ bytes → FileChange p q f bytes
page_change p q f n at new bytes h shape shown e = record {
  shape = shape;
  good = ap good_sectors shown ∙ good_set (sights p) at (holds f n new) hidden (sym (ap good_one (h.shows hidden)));
  leaders = λ g. ap (λ us. leader us g) shown ∙ same_leaders (sights p) f n at h new g;
  others = λ g apart. ap (λ us. file_bytes us g) shown ∙ other_files (sights p) f n at h new g apart;
  bytes_are = ap (λ us. file_bytes us f) shown ∙ e;
}

module _ (p q : Pack) (f : Fid) (bytes : List ℕ) (c : FileChange p q f bytes) (o : LivesOrdinary p f) where
  -- its leader
  abbrev l : Leader
  l = (has_leader (sights p) f o.lives).0

  -- and it has it
  lead : leader (sights p) f ≡ Some l
  lead = (has_leader (sights p) f o.lives).1

  -- its file, by its bytes
  file_is : (b : List ℕ) → read_file f b l ≡ plain l b
  file_is b = ap (λ t. record { leader = l; body = cond t (items_of (slots (words_of b))) (data_of b) }) o.ordinary

  -- before
  file_was : get (described (sights p)) f ≡ Some (plain l (file_bytes (sights p) f))
  file_was = get-where (found (sights p)) is_described f ∙ ap (λ b. cond (not b) (get (found (sights p)) f) None) o.described ∙ get_by (sights p) f l _ lead refl ∙ ap Some (file_is _)

  -- and now
  files_now : described (sights q) ≡ insert (described (sights p)) f (plain l bytes)
  files_now =
      ap (λ m. retain_keys m is_described)
      (insert_from_get (found (sights p)) (found (sights q)) f (plain l bytes)
      (get_by (sights q) f l (file_bytes (sights q) f) (c.leaders f ∙ lead) refl ∙ ap Some (file_is (file_bytes (sights q) f) ∙ ap (plain l) c.bytes_are))
      (λ g e. get_alike (sights p) (sights q) g (c.leaders g) (c.others g e)))
      ∙ kept_insert (found (sights p)) is_described f (plain l bytes) (ap not o.described)

  -- the model, where the file's bytes are changed so
  pub bytes_step : (g : List ℕ → List ℕ) → g (file_bytes (sights p) f) ≡ bytes → read_as q ≡ update_file (read_as p) f (on_bytes g)
  unfolding read_sights
  bytes_step g e =
      ap (λ shape. read_sights shape (sights q)) c.shape
      ∙ model_same p.shape _ _ _ _ _ _ c.good (ap (λ b. last_serial (words_of b)) (c.others disk_descriptor (is_fid-sym disk_descriptor f ∙ o.described)))
      (ap (λ v. tidied v (described (sights q))) (lives_same (sights q) (sights p) c.leaders)
      ∙ ap (tidied (lives (sights p))) files_now
      ∙ tidied_insert (lives (sights p)) (described (sights p)) f (plain l (file_bytes (sights p) f)) l bytes file_was (file_bytes (sights p) f, refl)
      ∙ ap (λ b. insert (tidied (lives (sights p)) (described (sights p))) f (plain l b)) (sym e)
      ∙ ap (update_found (tidied (lives (sights p)) (described (sights p))) f (on_bytes g)) (sym (get-tidied_plain (lives (sights p)) (described (sights p)) f (plain l (file_bytes (sights p) f)) file_was (file_bytes (sights p) f, refl))))
