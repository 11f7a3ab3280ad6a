-- Where both system files live, the mended files need what the files of the model need.
use Rattle.std.proofs.Common.{Bool, List, None, Option, Some, ap, arith, cond, false, get_or, inl, inr, length, refl, subst, sym, true, ℕ, ◌+◌, ◌||◌, ◌∙◌, ◌∷◌, ◌≡◌, ◌≤◌}
use Rattle.std.specs.Prelude.{◌↔◌}
use mathlib.Core.Path.{fun_ext}
use Rattle.std.proofs.lemmas.Bool.{cases_lt}
use Rattle.std.proofs.lemmas.List.{get_or_past}
use Rattle.std.specs.FinMap.{entries, entries-insert, get, get-insert, insert}
use Rattle.std.specs.Option.{is_some}
use Rattle.laws_operation.specs.alto_words.specs.Fid.{disk_descriptor, is_fid, sys_dir}
use Rattle.laws_operation.specs.alto_words.specs.declared.fid.Fid.{Fid}
use Rattle.laws_operation.specs.disk_records.specs.declared.shape.Shape.{Shape}
use Rattle.laws_operation.specs.pack_model.specs.reading.Bodies.{File, Files, described, items_in}
use Rattle.laws_operation.specs.pack_model.specs.reading.Files.{file_bytes, leader, leader_at, lives}
use Rattle.laws_operation.specs.pack_model.specs.reading.Leaders.{Leader}
use Rattle.laws_operation.specs.pack_model.specs.scavenger.Mended.{HasRoom, lacking, mended, needs, root_body, root_file, rooted, widens, with_system}
use Rattle.laws_operation.specs.pack_model.specs.reading.Model.{Model, descriptor_pages, files_pages, read_sights, root_items}
use Rattle.laws_operation.specs.pack_model.specs.reading.Namings.{namings, tidied}
use Rattle.laws_operation.specs.pack_model.specs.scavenger.Scavenging.{root_stands}
use Rattle.laws_operation.specs.pack_model.specs.reading.Sights.{Sight, sights}
use Rattle.laws_operation.specs.pack_model.specs.reading.Sights.Sight.{hidden, leads}
use Rattle.laws_operation.specs.pack_model.specs.reading.Slots.{Item}
use Rattle.laws_operation.specs.pack_model.specs.showing.View.{view}
use Rattle.laws_room.proofs.inside.DirRooted.{zeros}
use Rattle.laws_room.proofs.inside.Needing.{pages_around}
use Rattle.laws_room.proofs.inside.Rooming.{counting_theorem}
use Rattle.laws_operation.specs.pack_laws.proofs.Firsts.{none_each}
use Rattle.laws_operation.specs.pack_laws.proofs.Keys.{fid_same, fid_total, is_fid-itself, same_fid}
use Rattle.laws_operation.specs.pack_laws.proofs.Placing.{leader_at-leads}
use Rattle.laws_record.proofs.Around.{around}
use Rattle.laws_record.proofs.DirReads.{has_leader}
use Rattle.laws_record.proofs.Entered.{directory, namings-append}
use Rattle.laws_record.proofs.LeaderSteps.{body_left, tidied_file, tidied_leader}
use Rattle.laws_record.proofs.Mending.{mended_view}
use Rattle.laws_record.proofs.Reading.{get_by, read_file}
use Rattle.laws_record.proofs.Systemic.{described_get, mended_files}
use Rattle.laws_room.specs.RoomLaws.{ScavengeableByModel}
use Rattle.laws_room.proofs.inside.RootTurns.{listed}

-- ---- what is lacking, by the entries and the view
-- so it is the same with the same ones
lacking_same : (m n : Model) → namings (entries m.files) ≡ namings (entries n.files) → view m ≡ view n → lacking m ≡ lacking n
unfolding lacking
lacking_same m n names seen = λ i. listed (names i) (seen i)

-- ---- SysDir with another leader: the same pages, entries and slots
module _ (files : Files) (l k : Leader) (is : List Item) (here : get files sys_dir ≡ Some (directory l is)) where
  pages_kept : files_pages (entries (insert files sys_dir (directory k is))) ≡ files_pages (entries files)
  pages_kept = let h = pages_around files sys_dir (directory l is) (directory k is) 0 here (omega arith) in omega arith

  names_kept : namings (entries (insert files sys_dir (directory k is))) ≡ namings (entries files)
  names_kept =
      let r = around fid_total fid_same files sys_dir (directory l is) here in
      ap namings (entries-insert fid_total files sys_dir (directory k is) ∙ r.now (directory k is)) ∙ namings-append r.front ((sys_dir, directory k is) ∷ r.back)
      ∙ sym (ap namings r.was ∙ namings-append r.front ((sys_dir, directory l is) ∷ r.back))

  slots_kept : items_in (get (insert files sys_dir (directory k is)) sys_dir) ≡ items_in (get files sys_dir)
  slots_kept = ap items_in (get-insert fid_total files sys_dir (directory k is) sys_dir) ∙ ap (λ b. items_in (cond b (Some (directory k is)) (get files sys_dir))) (is_fid-itself sys_dir) ∙ sym (ap items_in here)

-- ---- both system files live
module _ (shape : Shape) (ss : List Sight) (l : Leader) (lead : leader ss sys_dir ≡ Some l) (own : lives ss disk_descriptor ≡ true) where
  -- so they needn't be counted as living
  pub alive : with_system (lives ss) ≡ lives ss
  alive = fun_ext (λ g. by g (is_fid g sys_dir) (is_fid g disk_descriptor) refl refl)
    where
      by : (g : Fid) (a b : Bool) → is_fid g sys_dir ≡ a → is_fid g disk_descriptor ≡ b → cond (a || b) true (lives ss g) ≡ lives ss g
      by g true b e o = sym (ap (lives ss) (same_fid g sys_dir e) ∙ ap is_some lead)
      by g false true e o = sym (ap (lives ss) (same_fid g disk_descriptor o) ∙ own)
      by g false false e o = refl

  -- SysDir among the files
  abbrev pub root : File
  root = read_file sys_dir (file_bytes ss sys_dir) l

  pub here : get (described ss) sys_dir ≡ Some root
  here = described_get ss sys_dir refl ∙ get_by ss sys_dir l (file_bytes ss sys_dir) lead refl

  -- the mended files are those of the model, except SysDir's leader
  pub mended_is : mended_files ss ≡ insert (tidied (lives ss) (described ss)) sys_dir (record { leader = zeros; body = body_left (lives ss) (described ss) sys_dir root here })
  mended_is =
      ap (λ v. tidied v (rooted (described ss))) alive
      ∙ ap (λ r. tidied (lives ss) (insert (described ss) sys_dir (root_file (root_body r)))) here
      ∙ tidied_leader (lives ss) (described ss) sys_dir root here zeros

  -- so they have as many pages
  pub pages_read : files_pages (entries (mended shape ss).files) ≡ files_pages (entries (read_sights shape ss).files)
  unfolding mended read_sights
  pages_read = ap (λ files. files_pages (entries files)) mended_is ∙ pages_kept (tidied (lives ss) (described ss)) l zeros _ (tidied_file (lives ss) (described ss) sys_dir root here)

  -- the same entries
  pub names_read : namings (entries (mended shape ss).files) ≡ namings (entries (read_sights shape ss).files)
  unfolding mended read_sights
  names_read = ap (λ files. namings (entries files)) mended_is ∙ names_kept (tidied (lives ss) (described ss)) l zeros _ (tidied_file (lives ss) (described ss) sys_dir root here)

  -- and the same slots of SysDir
  pub slots_read : root_items (mended shape ss) ≡ root_items (read_sights shape ss)
  unfolding mended read_sights
  slots_read = ap (λ files. items_in (get files sys_dir)) mended_is ∙ slots_kept (tidied (lives ss) (described ss)) l zeros _ (tidied_file (lives ss) (described ss) sys_dir root here)

  -- the same is lacking
  pub lacking_read : lacking (mended shape ss) ≡ lacking (read_sights shape ss)
  lacking_read = lacking_same (mended shape ss) (read_sights shape ss) names_read (mended_view shape ss)

  -- so as much is needed
  needs_read : needs (mended shape ss) ≡ needs (read_sights shape ss)
  unfolding needs
  needs_read = λ i. pages_read i + widens (slots_read i) (lacking_read i)

  -- and there is room in both or in neither
  pub room_read : HasRoom (mended shape ss) ↔ HasRoom (read_sights shape ss)
  unfolding mended read_sights
  room_read = (subst (λ n. n + descriptor_pages shape ≤ (read_sights shape ss).good) needs_read, subst (λ n. n + descriptor_pages shape ≤ (read_sights shape ss).good) (sym needs_read))

-- ---- a leader that a sector shows
pub leader_shown : (ss : List Sight) (f : Fid) (i : ℕ) (r : Bool) (l : Leader) → get_or ss i hidden ≡ leads f r l → lives ss f ≡ true
leader_shown ss f i r l is = by (leader ss f) refl
  where
    by : (q : Option Leader) → leader ss f ≡ q → is_some (leader ss f) ≡ true
    by (Some k) e = ap is_some e
    by None e = elim (cases_lt i (length ss)) [
      | inl within ↦ absurd (let n : Some l ≡ None = sym (leader_at-leads f r l) ∙ sym (ap (leader_at f) is) ∙ none_each (leader_at f) ss i hidden e within in cc)
      | inr past ↦ absurd (let n : hidden ≡ leads f r l = sym (get_or_past ss i hidden past) ∙ is in cc)
    ]

-- ---- the law
pub scavengeable_by_model : ScavengeableByModel
scavengeable_by_model p at =
    let ss : List Sight = sights p in
    let lead = has_leader ss sys_dir (leader_shown ss sys_dir 1 at.root.0 at.root.1 at.root.2) in
    let read = room_read p.shape ss lead.0 lead.1 at.descriptor in
    let count = (counting_theorem p).room in
    (λ h. read.0 (count.1 h.room), λ h. record { root = ap (root_stands p.shape ss) at.root.2; room = count.0 (read.1 h) })
