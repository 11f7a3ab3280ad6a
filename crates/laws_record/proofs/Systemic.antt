-- Record writes on the sectors of system files: what is viewed stays.
use Rattle.std.proofs.Common.{◌∙◌, ◌≡◌, Bool, List, None, Some, ap, cond, false, get_or, not, refl, set, sym, true, ℕ}
use mathlib.Core.Path.{fun_ext}
use Rattle.std.specs.FinMap.{get, get-insert, same_map}
use Rattle.std.specs.Option.{is_some}
use Rattle.pack_laws.specs.alto_words.specs.Fid.{disk_descriptor, is_fid, is_system, sys_dir}
use Rattle.pack_laws.specs.alto_words.specs.declared.fid.Fid.{Fid}
use Rattle.pack_laws.specs.disk_records.specs.Packs.{Pack}
use Rattle.pack_laws.specs.pack_model.specs.reading.Bodies.{Files, described, found, is_described}
use Rattle.pack_laws.specs.pack_model.specs.reading.Files.{file_bytes, leader, leader_at, lives, page_at}
use Rattle.pack_laws.specs.pack_model.specs.reading.Leaders.{Leader}
use Rattle.pack_laws.specs.pack_model.specs.scavenger.Mended.{mended, root_body, root_file, rooted, with_system}
use Rattle.pack_laws.specs.pack_model.specs.reading.Model.{good_sectors, read_sights}
use Rattle.pack_laws.specs.pack_model.specs.reading.Namings.{tidied}
use Rattle.pack_laws.specs.pack_model.specs.reading.Sights.{Sight, sights}
use Rattle.pack_laws.specs.pack_model.specs.reading.Sights.Sight.{free, hidden, leads}
use Rattle.pack_laws.specs.pack_model.specs.showing.View.{view}
use Rattle.pack_laws.proofs.Firsts.{first_same}
use Rattle.pack_laws.proofs.Keys.{fid_same, fid_total, same_fid}
use Rattle.laws_record.proofs.Describing.{view_files}
use Rattle.laws_record.proofs.Framing.{bytes_same, lives_same}
use Rattle.laws_record.proofs.Keeping.{described_kept, get-where}
use Rattle.laws_record.proofs.Mending.{mended_view}
use Rattle.laws_record.proofs.Reading.{get_alike}
use Rattle.laws_record.proofs.Staying.{FilesStay}
use Rattle.laws_record.specs.ViewLaws.{ViewsSame}

-- ---- the files as the Scavenger will find them
-- all that is viewed
abbrev pub mended_files : List Sight → Files
mended_files ss = tidied (with_system (lives ss)) (rooted (described ss))

-- the same good sectors, and the same of these files
pub record MendedStay (p q : Pack) : Type 0 where
  pub shape : q.shape ≡ p.shape
  pub good : good_sectors (sights q) ≡ good_sectors (sights p)
  pub files : mended_files (sights q) ≡ mended_files (sights p)

-- so it is where the same files are found
pub mended_stays : (p q : Pack) → FilesStay p q → MendedStay p q
mended_stays p q s = record {
  shape = s.shape;
  good = s.good;
  files = ap (λ v. tidied (with_system v) (rooted (described (sights q)))) (lives_same (sights q) (sights p) s.leaders) ∙ ap (λ m. tidied (with_system (lives (sights p))) (rooted m)) s.files;
}

-- and the views are the same
pub mended_same : (p q : Pack) → MendedStay p q → ViewsSame p q
unfolding mended
mended_same p q s =
    ap (λ shape. view (read_sights shape (sights q))) s.shape
    ∙ sym (mended_view p.shape (sights q)) ∙ view_files (mended p.shape (sights q)) (mended p.shape (sights p)) s.files ∙ mended_view p.shape (sights p)

-- ---- one sector, and a system file's leader
-- another sight that answers for no page, and for no leader but that of this file
pub record OnlyLeader (f : Fid) (s : Sight) : Type 0 where
  pub no_page : (g : Fid) (n : ℕ) → page_at g n s ≡ None
  pub no_other : (g : Fid) → is_fid g f ≡ false → leader_at g s ≡ None

-- a leader of this file does
pub only_leads : (f : Fid) (r : Bool) (l : Leader) → OnlyLeader f (leads f r l)
only_leads f r l = record { no_page = λ g n. refl; no_other = λ g e. ap (λ b. cond b (Some l) None) e }

-- so does a free sector
pub only_free : (f : Fid) → OnlyLeader f free
only_free f = record { no_page = λ g n. refl; no_other = λ g e. refl }

module _ (ss : List Sight) (i : ℕ) (f : Fid) (s : Sight) (was : OnlyLeader f (get_or ss i hidden)) (now : OnlyLeader f s) where
  -- the bytes of all files stay
  pub bytes_kept : (g : Fid) → file_bytes (set ss i s) g ≡ file_bytes ss g
  bytes_kept g = bytes_same ss i s g (λ n. now.no_page g n ∙ sym (was.no_page g n))

  -- and the leaders of all others
  leaders_kept : (g : Fid) → is_fid g f ≡ false → leader (set ss i s) g ≡ leader ss g
  leaders_kept g e = first_same (leader_at g) ss i s hidden (now.no_other g e ∙ sym (was.no_other g e))

  -- so all other files are found as before
  found_kept : (g : Fid) → is_fid g f ≡ false → get (found (set ss i s)) g ≡ get (found ss) g
  found_kept g e = get_alike ss (set ss i s) g (leaders_kept g e) (bytes_kept g)

  -- and live as before, where the system files count as living
  pub system_lives : is_system f ≡ true → with_system (lives (set ss i s)) ≡ with_system (lives ss)
  system_lives system = fun_ext (λ g. elim (is_fid g f) as (λ b. is_fid g f ≡ b → with_system (lives (set ss i s)) g ≡ with_system (lives ss) g) [
    | true ↦ λ e. (let y : is_system g ≡ true = ap is_system (same_fid g f e) ∙ system in ap (λ b. cond b true (lives (set ss i s) g)) y ∙ sym (ap (λ b. cond b true (lives ss g)) y))
    | false ↦ λ e. ap (λ r. cond (is_system g) true (is_some r)) (leaders_kept g e)
  ] refl)

-- a leader of DiskDescriptor comes, goes or changes
pub descriptor_leads : (ss : List Sight) (i : ℕ) (s : Sight) → OnlyLeader disk_descriptor (get_or ss i hidden) → OnlyLeader disk_descriptor s → mended_files (set ss i s) ≡ mended_files ss
descriptor_leads ss i s was now =
    ap (λ v. tidied v (rooted (described (set ss i s)))) (system_lives ss i disk_descriptor s was now refl)
    ∙ ap (λ m. tidied (with_system (lives ss)) (rooted m)) (described_kept ss (set ss i s) (found_kept ss i disk_descriptor s was now))

-- ---- SysDir
-- only the slots of SysDir count
root_alike : (files more : Files) → root_body (get more sys_dir) ≡ root_body (get files sys_dir) → ((g : Fid) → is_fid g sys_dir ≡ false → get more g ≡ get files g) → rooted more ≡ rooted files
root_alike files more body others = same_map fid_total fid_same _ _ (λ g. get-insert fid_total more sys_dir _ g ∙ at g ∙ sym (get-insert fid_total files sys_dir _ g))
  where
    at : (g : Fid) → cond (is_fid g sys_dir) (Some (root_file (root_body (get more sys_dir)))) (get more g) ≡ cond (is_fid g sys_dir) (Some (root_file (root_body (get files sys_dir)))) (get files g)
    at g = elim (is_fid g sys_dir) as (λ b. is_fid g sys_dir ≡ b → cond b (Some (root_file (root_body (get more sys_dir)))) (get more g) ≡ cond b (Some (root_file (root_body (get files sys_dir)))) (get files g)) [
      | true ↦ λ e. ap (λ x. Some (root_file x)) body
      | false ↦ λ e. others g e
    ] refl

-- a file among those but DiskDescriptor
pub described_get : (ss : List Sight) (g : Fid) → is_fid g disk_descriptor ≡ false → get (described ss) g ≡ get (found ss) g
described_get ss g e = get-where (found ss) is_described g ∙ ap (λ b. cond (not b) (get (found ss) g) None) e

module _ (ss : List Sight) (i : ℕ) (s : Sight) (was : OnlyLeader sys_dir (get_or ss i hidden)) (now : OnlyLeader sys_dir s) where
  -- all other files are the same
  pub root_others : (g : Fid) → is_fid g sys_dir ≡ false → get (described (set ss i s)) g ≡ get (described ss) g
  root_others g e = get-where (found (set ss i s)) is_described g ∙ ap (λ r. cond (is_described g) r None) (found_kept ss i sys_dir s was now g e) ∙ sym (get-where (found ss) is_described g)

  -- where SysDir has the same slots, these files are the same
  pub root_leads : root_body (get (described (set ss i s)) sys_dir) ≡ root_body (get (described ss) sys_dir) → mended_files (set ss i s) ≡ mended_files ss
  root_leads body =
      ap (λ v. tidied v (rooted (described (set ss i s)))) (system_lives ss i sys_dir s was now refl)
      ∙ ap (tidied (with_system (lives ss))) (root_alike (described ss) (described (set ss i s)) body root_others)
