-- The files of a pack whose pages are mended, as the Scavenger finds them.
use Rattle.std.proofs.Common.{◌∙◌, ◌≡◌, Bool, List, None, Option, Some, ap, cond, false, not, refl, subst, sym, true, ℕ}
use Rattle.std.specs.FinMap.{get, get-insert, insert, same_map}
use Rattle.std.specs.Option.{is_some, option_map}
use Rattle.laws_mend.specs.alto_words.specs.Fid.{disk_descriptor, is_directory, is_fid, sys_dir}
use Rattle.laws_mend.specs.alto_words.specs.declared.fid.Fid.{Fid}
use Rattle.laws_mend.specs.disk_records.specs.Packs.{Pack}
use Rattle.laws_mend.specs.pack_model.specs.hints.Links.{dir_words}
use Rattle.laws_mend.specs.pack_model.specs.reading.Bodies.{Body, File, Files, body_items, described, found, is_described, items_in}
use Rattle.laws_mend.specs.pack_model.specs.reading.Bodies.Body.{data_of, items_of}
use Rattle.laws_mend.specs.pack_model.specs.reading.Bytes.{words_of}
use Rattle.laws_mend.specs.pack_model.specs.reading.Files.{file_bytes, leader, lives}
use Rattle.laws_mend.specs.pack_model.specs.reading.Leaders.{Leader}
use Rattle.laws_mend.specs.pack_model.specs.reading.Model.{descriptor_words, dir_items, good_sectors, last_serial, read_as, read_sights}
use Rattle.laws_mend.specs.pack_model.specs.reading.Namings.{IsTidy, Naming, body_kept, is_kept, tidied}
use Rattle.laws_mend.specs.pack_model.specs.reading.Sights.{sights}
use Rattle.laws_mend.specs.pack_model.specs.reading.Slots.{Item, slots}
use Rattle.laws_mend.specs.pack_model.specs.scavenger.Mended.{mended, root_body, root_file, rooted}
use Rattle.laws_mend.specs.pack_model.specs.scavenger.Reports.{PagesMended}
use Rattle.laws_mend.specs.pack_model.specs.showing.View.{seen_of}
use Rattle.laws_mend.specs.pack_laws.proofs.Keys.{fid_same, fid_total, same_fid}
use Rattle.laws_mend.specs.laws_record.proofs.DirReads.{has_leader}
use Rattle.laws_mend.specs.laws_record.proofs.Keeping.{get-where}
use Rattle.laws_mend.specs.laws_record.proofs.LeaderSteps.{body_left, tidied_file}
use Rattle.laws_mend.specs.laws_record.proofs.Mending.{get-seen, mended_view}
use Rattle.laws_mend.specs.laws_record.proofs.Reading.{get-found, get_by, read_file}
use Rattle.laws_mend.specs.laws_record.proofs.Systemic.{described_get, mended_files}
use Rattle.laws_mend.specs.laws_operation.proofs.entries.Laws.{items_are_slots, read_entries_are_kept}
use Rattle.laws_mend.specs.laws_room.proofs.SystemFiles.{alive, here, leader_shown, lacking_read, mended_is, names_read, root}
use Rattle.laws_mend.specs.laws_room.specs.NextLaws.{mended_pack}
use Rattle.laws_names.specs.ModelLaws.{AllKeptIsTidy, MendedIsRead, MendedLives, TidyMendedIsRead}

-- ---- what is read
module _ (p : Pack) (m : PagesMended p) where
  -- SysDir's leader
  lead : (l : Leader) × (leader (sights p) sys_dir ≡ Some l)
  lead = has_leader (sights p) sys_dir (leader_shown (sights p) sys_dir 1 m.pages.root.1 m.pages.root.0 m.pages.root.2)

  -- the files, as the scan leaves them
  abbrev files : Files
  files = tidied (lives (sights p)) (described (sights p))

  -- SysDir among them
  root_left : get files sys_dir ≡ Some (record { leader = lead.0; body = body_left (lives (sights p)) (described (sights p)) sys_dir (root p.shape (sights p) lead.0 lead.1 m.pages.descriptor_lives) (here p.shape (sights p) lead.0 lead.1 m.pages.descriptor_lives) })
  root_left = tidied_file (lives (sights p)) (described (sights p)) sys_dir (root p.shape (sights p) lead.0 lead.1 m.pages.descriptor_lives) (here p.shape (sights p) lead.0 lead.1 m.pages.descriptor_lives)

  files_are : mended_files (sights p) ≡ rooted files
  files_are = mended_is p.shape (sights p) lead.0 lead.1 m.pages.descriptor_lives ∙ sym (ap (λ r. insert files sys_dir (root_file (root_body r))) root_left)

  model : mended_pack p ≡ record (read_as p) { files = rooted (read_as p).files }
  unfolding mended read_sights
  model = ap (λ fs. record { shape = p.shape; good = good_sectors (sights p); last = last_serial (descriptor_words (sights p)); files = fs }) files_are

  items : (d : Fid) → dir_items (mended_pack p) d ≡ dir_items (read_as p) d
  unfolding mended read_sights
  items d = ap (λ fs. items_in (get fs d)) files_are ∙ ap items_in (get-insert fid_total files sys_dir (root_file (root_body (get files sys_dir))) d) ∙ by (is_fid d sys_dir) refl
    where
      by : (b : Bool) → is_fid d sys_dir ≡ b → items_in (cond b (Some (root_file (root_body (get files sys_dir)))) (get files d)) ≡ items_in (get files d)
      by false e = refl
      by true e = ap (λ r. body_items (root_body r)) root_left ∙ sym (ap items_in (ap (get files) (same_fid d sys_dir e) ∙ root_left))

pub mended_is_read : MendedIsRead
mended_is_read p m =
    let l = lead p m in
    record {
      model = model p m;
      items_are = items p m;
      names_are = names_read p.shape (sights p) l.0 l.1 m.pages.descriptor_lives;
      lacking_is = lacking_read p.shape (sights p) l.0 l.1 m.pages.descriptor_lives;
      viewed = mended_view p.shape (sights p);
    }

pub mended_lives : MendedLives
mended_lives p m = let l = lead p m in alive p.shape (sights p) l.0 l.1 m.pages.descriptor_lives

-- ---- tidy packs
pub tidy_mended_is_read : TidyMendedIsRead
tidy_mended_is_read p m t d live dir = items p m d ∙ items_are_slots p d t live dir

-- the scan leaves bytes
kept_data : (ok : List Naming → Naming → Bool) (d : Fid) (before : List Naming) (b : Body) (bytes : List ℕ) → b ≡ data_of bytes → body_kept ok d before b ≡ b
kept_data ok d before b bytes e = ap (body_kept ok d before) e ∙ sym e

-- and slots, if it keeps each of them
kept_slots : (ok : List Naming → Naming → Bool) (d : Fid) (before : List Naming) (b : Body) (is : List Item) → b ≡ items_of is → body_items (body_kept ok d before b) ≡ is → body_kept ok d before b ≡ b
kept_slots ok d before b is e same = ap (body_kept ok d before) e ∙ ap items_of (sym (ap (λ x. body_items (body_kept ok d before x)) e) ∙ same) ∙ sym e

-- where each slot of every living directory is kept, it leaves all files
module _ (p : Pack) (kept : (d : Fid) → lives (sights p) d ≡ true → is_directory d ≡ true → dir_items (read_as p) d ≡ slots (dir_words p d)) where
  -- a file that is found
  one : (g : Fid) (l : Leader) → leader (sights p) g ≡ Some l → is_fid g disk_descriptor ≡ false → get (tidied (lives (sights p)) (described (sights p))) g ≡ get (described (sights p)) g
  unfolding read_sights
  one g l led other =
      let v : Fid → Bool = lives (sights p) in
      let bytes : List ℕ = file_bytes (sights p) g in
      let x : File = read_file g bytes l in
      let there : get (described (sights p)) g ≡ Some x = described_get (sights p) g other ∙ get_by (sights p) g l bytes led refl in
      let left : get (tidied v (described (sights p))) g ≡ Some (record { leader = l; body = body_left v (described (sights p)) g x there }) = tidied_file v (described (sights p)) g x there in
      let same : body_left v (described (sights p)) g x there ≡ x.body = elim (is_directory g) as (λ b. is_directory g ≡ b → body_left v (described (sights p)) g x there ≡ x.body) [
        | true ↦ λ e. kept_slots (is_kept v) g _ x.body (slots (dir_words p g)) (ap (λ c. cond c (items_of (slots (words_of bytes))) (data_of bytes)) e) (sym (ap items_in left) ∙ kept g (ap is_some led) e)
        | false ↦ λ e. kept_data (is_kept v) g _ x.body bytes (ap (λ c. cond c (items_of (slots (words_of bytes))) (data_of bytes)) e)
      ] refl in
      left ∙ ap (λ b. Some (record { leader = l; body = b })) same ∙ sym there

  -- one that isn't
  none : (g : Fid) → get (described (sights p)) g ≡ None → get (tidied (lives (sights p)) (described (sights p))) g ≡ None
  none g gone = by (get (tidied (lives (sights p)) (described (sights p))) g) refl
    where
      by : (r : Option File) → get (tidied (lives (sights p)) (described (sights p))) g ≡ r → get (tidied (lives (sights p)) (described (sights p))) g ≡ None
      by None e = e
      by (Some x) e = absurd (let c : Some (seen_of g x) ≡ None = sym (ap (option_map (seen_of g)) e) ∙ get-seen (lives (sights p)) (described (sights p)) g ∙ ap (option_map (seen_of g)) gone in cc)

  -- so it leaves them all
  files_stay : tidied (lives (sights p)) (described (sights p)) ≡ described (sights p)
  files_stay = same_map fid_total fid_same _ _ (λ g. by g (is_fid g disk_descriptor) refl (leader (sights p) g) refl)
    where
      by : (g : Fid) (b : Bool) → is_fid g disk_descriptor ≡ b → (r : Option Leader) → leader (sights p) g ≡ r → get (tidied (lives (sights p)) (described (sights p))) g ≡ get (described (sights p)) g
      by g false other (Some l) led = one g l led other
      by g false other None gone = let z : get (described (sights p)) g ≡ None = described_get (sights p) g other ∙ get-found (sights p) g ∙ ap (option_map (read_file g (file_bytes (sights p) g))) gone in none g z ∙ sym z
      by g true own r led = let z : get (described (sights p)) g ≡ None = get-where (found (sights p)) is_described g ∙ ap (λ b. cond (not b) (get (found (sights p)) g) None) own in none g z ∙ sym z

-- so the pack is tidy
pub all_kept_is_tidy : AllKeptIsTidy
unfolding read_sights
all_kept_is_tidy p m kept =
    subst (IsTidy (lives (sights p))) (files_stay p (λ d live dir. sym (items p m d) ∙ kept d live dir)) (read_entries_are_kept p)
