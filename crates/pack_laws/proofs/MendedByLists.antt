-- What the Scavenger finds, needs, refuses and reports, by lists of entries.
use Rattle.std.proofs.Common.{◌≡◌, ℕ, suc, ◌+◌, Bool, true, false, cond, not, List, Option, Some, None, refl, ap, ◌∙◌}
use Rattle.std.specs.Prelude.{◌&&◌, nat_le, length, get_or, max}
use Rattle.std.specs.List.{list_any}
use Rattle.std.specs.FinMap.{find, get, get-entries, entries, entries-insert}
use Rattle.std.specs.FinMap.Entries.{put}
use Rattle.pack_model.specs.alto_words.specs.declared.fid.Fid.{Fid}
use Rattle.pack_model.specs.alto_words.specs.Fid.{fid_cmp, is_fid, serial_of, sys_dir, disk_descriptor}
use Rattle.pack_model.specs.disk_records.specs.declared.shape.Shape.{Shape}
use Rattle.pack_model.specs.disk_records.specs.Packs.{Pack, sector_at}
use Rattle.pack_model.specs.reading.Sights.{Sight, sights}
use Rattle.pack_model.specs.reading.Sights.Sight.{hidden, free, stray, leads, holds}
use Rattle.pack_model.specs.reading.Files.{lives, file_bytes, numbered}
use Rattle.pack_model.specs.reading.Bodies.{File, described, items_in}
use Rattle.pack_model.specs.reading.Namings.{namings, sys_dir_name, descriptor_name}
use Rattle.pack_model.specs.reading.Model.{read_as, files_pages, descriptor_words}
use Rattle.pack_model.specs.showing.Settling.{settle, unless}
use Rattle.pack_model.specs.scavenger.Mended.{mended, with_system, rooted, root_body, root_file, lacking, widens, needs}
use Rattle.pack_model.specs.scavenger.Needed.{needed, files_lack, root_lacks, descriptor_lacks}
use Rattle.pack_model.specs.states.InUse.{is_within, is_good, is_free_sight, how_many, bad_sectors}
use Rattle.pack_model.specs.scavenger.Scavenging.{Refusal, first_refusal, root_stands}
use Rattle.pack_model.specs.scavenger.Scavenging.Refusal.{root_bad, root_taken, pack_full}
use Rattle.pack_model.specs.scavenger.Reports.{Report, report_of, freed_sectors, mended_serial, old_serial, greatest_serial}
use Rattle.pack_laws.proofs.Keys.{fid_total}
use Rattle.pack_laws.proofs.Uses.{file_by, found_is, used_by, used_is, available_is}
use Rattle.pack_laws.proofs.ByLists.{adopts_by, adopts_list, described_by, described_list, found_by, found_list, read_by, read_list, seen_by, seen_list, tidied_by, tidied_list}

-- ---- what the Scavenger needs
abbrev pub mended_by : List Sight → List (Fid × File)
mended_by ss =
    let es = described_by ss in
    tidied_by (with_system (lives ss)) (put fid_cmp sys_dir (root_file (root_body (find fid_cmp sys_dir es))) es)

pub mended_list : (shape : Shape) (ss : List Sight) → entries (mended shape ss).files ≡ mended_by ss
unfolding mended
mended_list shape ss =
    tidied_list (with_system (lives ss)) (rooted (described ss))
    ∙ ap (tidied_by (with_system (lives ss))) (entries-insert fid_total (described ss) sys_dir (root_file (root_body (get (described ss) sys_dir)))
    ∙ ap (λ r. put fid_cmp sys_dir (root_file (root_body r)) (entries (described ss))) (get-entries (described ss) sys_dir)
    ∙ ap (λ es. put fid_cmp sys_dir (root_file (root_body (find fid_cmp sys_dir es))) es) (described_list ss))

abbrev pub has_entry : List (Fid × File) → Fid → Bool
has_entry es f = list_any (λ n. is_fid n.fid f) (namings es)

abbrev pub lacking_by : List (Fid × File) → List (Fid × List ℕ)
lacking_by es =
    unless (has_entry es sys_dir) (sys_dir, sys_dir_name)
    (unless (has_entry es disk_descriptor) (disk_descriptor, descriptor_name) (adopts_by es))

pub lacking_list : (shape : Shape) (ss : List Sight) → lacking (mended shape ss) ≡ lacking_by (mended_by ss)
unfolding lacking
lacking_list shape ss =
    ap (λ es. unless (has_entry (entries (mended shape ss).files) sys_dir) (sys_dir, sys_dir_name) (unless (has_entry (entries (mended shape ss).files) disk_descriptor) (disk_descriptor, descriptor_name) es)) (adopts_list (mended shape ss))
    ∙ ap lacking_by (mended_list shape ss)

abbrev pub widens_by : List (Fid × File) → ℕ
widens_by es = widens (items_in (find fid_cmp sys_dir es)) (lacking_by es)

abbrev pub needed_by : Shape → List Sight → ℕ
needed_by shape ss = files_lack shape ss (found_by ss) + root_lacks ss + descriptor_lacks shape ss + widens_by (mended_by ss)

pub needed_is : (shape : Shape) (ss : List Sight) → needed shape ss ≡ needed_by shape ss
unfolding needed
needed_is shape ss = λ i. files_lack shape ss (found_list ss i) + root_lacks ss + descriptor_lacks shape ss
    + widens (items_in ((get-entries (mended shape ss).files sys_dir ∙ ap (find fid_cmp sys_dir) (mended_list shape ss)) i)) (lacking_list shape ss i)

-- the same, to be proved with: all pages of the mended files
pub needs_is : (shape : Shape) (ss : List Sight) → needs (mended shape ss) ≡ files_pages (mended_by ss) + widens_by (mended_by ss)
unfolding needs
needs_is shape ss = λ i. files_pages (mended_list shape ss i) + widens (items_in ((get-entries (mended shape ss).files sys_dir ∙ ap (find fid_cmp sys_dir) (mended_list shape ss)) i)) (lacking_list shape ss i)

-- the last serial that it writes
pub serial_is : (p : Pack) → mended_serial p
    ≡ max (old_serial p.shape (file_bytes (sights p) disk_descriptor) (descriptor_words (sights p))) (max (serial_of disk_descriptor) (greatest_serial (found_by (sights p))))
serial_is p = λ i. max (old_serial p.shape (file_bytes (sights p) disk_descriptor) (descriptor_words (sights p))) (max (serial_of disk_descriptor) (greatest_serial (found_list (sights p) i)))

-- ---- what it refuses, and what it reports
abbrev pub available_by : Shape → List Sight → ℕ
available_by shape ss = how_many (λ e. is_good e.1 && not (used_by shape ss e)) (numbered 0 ss)

abbrev pub freed_by : Shape → List Sight → ℕ
freed_by shape ss = how_many (λ e. (is_good e.1 && not (used_by shape ss e)) && not (is_free_sight e.1)) (numbered 0 ss)

freed_is : (shape : Shape) (ss : List Sight) → freed_sectors shape ss ≡ freed_by shape ss
freed_is shape ss = λ i. how_many (λ e. (is_good e.1 && not (used_is shape ss e i)) && not (is_free_sight e.1)) (numbered 0 ss)

-- whether sector 1 stands
abbrev pub stands_by : Shape → List Sight → Sight → Bool
stands_by shape ss hidden = false
stands_by shape ss free = true
stands_by shape ss stray = true
stands_by shape ss (leads f readable l) = is_fid f sys_dir
stands_by shape ss (holds f n bytes) = not (is_within shape f (suc n) (file_by ss f))

stands_is : (shape : Shape) (ss : List Sight) (s : Sight) → root_stands shape ss s ≡ stands_by shape ss s
stands_is shape ss hidden = refl
stands_is shape ss free = refl
stands_is shape ss stray = refl
stands_is shape ss (leads f readable l) = refl
stands_is shape ss (holds f n bytes) = ap (λ r. not (is_within shape f (suc n) r)) (found_is ss f)

abbrev full_by : ℕ → ℕ → Option Refusal
full_by n a = cond (nat_le n a) None (Some (pack_full n a))

abbrev pub refusal_by : Shape → List Sight → List ℕ → List ℕ → Option Refusal
refusal_by shape ss header label =
    cond (not (is_good (get_or ss 1 hidden))) (Some (root_bad header))
    (cond (not (stands_by shape ss (get_or ss 1 hidden))) (Some (root_taken label)) (full_by (needed_by shape ss) (available_by shape ss)))

pub refusal_is : (p : Pack) → first_refusal p ≡ refusal_by p.shape (sights p) (sector_at p 1).header (sector_at p 1).label
refusal_is p = λ i.
    cond (not (is_good (get_or (sights p) 1 hidden))) (Some (root_bad (sector_at p 1).header))
    (cond (not (stands_is p.shape (sights p) (get_or (sights p) 1 hidden) i)) (Some (root_taken (sector_at p 1).label)) (full_by (needed_is p.shape (sights p) i) (available_is p.shape (sights p) i)))

abbrev pub report_by : Shape → List Sight → Report
report_by shape ss = record {
  files = length (seen_by (read_by ss)) + 2;
  freed = freed_by shape ss;
  bad = bad_sectors ss;
  adopted = length (adopts_by (read_by ss));
}

pub report_is : (p : Pack) → report_of p ≡ report_by p.shape (sights p)
unfolding settle
report_is p = λ i. record {
  files = length ((seen_list (read_as p) ∙ ap seen_by (read_list p.shape (sights p))) i) + 2;
  freed = freed_is p.shape (sights p) i;
  bad = bad_sectors (sights p);
  adopted = length ((adopts_list (read_as p) ∙ ap adopts_by (read_list p.shape (sights p))) i);
}
