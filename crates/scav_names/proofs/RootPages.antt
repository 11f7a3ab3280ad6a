-- The sectors of SysDir's data pages, in memory.
use Rattle.std.proofs.Common.{◌≡◌, ℕ, ◌+◌, ◌/◌, ◌<◌, ◌≤◌, List, length, get_or, add-one, Some, refl, ap, ◌∙◌}
use Rattle.alto_words.specs.Fid.{sys_dir}
use Rattle.disk_records.specs.declared.records.Page.{Page}
use Rattle.disk_records.specs.Addresses.{pages_of}
use Rattle.disk_records.specs.Packs.{Pack, carried, sector_at}
use Rattle.disk_records.specs.Words.{word}
use Rattle.scav_pages.specs.laws_contents.proofs.pages.Laws.{page_numbers_are_words}
use Rattle.scav_pages.specs.pack_laws.proofs.files.Laws.{places_are_lowest}
use Rattle.pack_model.specs.reading.Files.{place}
use Rattle.pack_model.specs.reading.Sights.{sights}
use Rattle.scav_pages.proofs.Passing.{row_carried, row_placed}
use Rattle.scav_names.specs.Catalogues.{ArePagesOf}
use Rattle.scav_names.specs.Words.{page_with}
use Rattle.scav_names.proofs.WordPass.{number_is}

-- the page with a word of SysDir is in its sector
pub record HasRootPage (p : Pack) (at n : ℕ) : Type 0 where
  pub sector : place (sights p) sys_dir (n / 256 + 1) ≡ Some at
  pub carries : carried p at ≡ Some (record { fid = sys_dir; number = n / 256 + 1 })
  pub page : page_with sys_dir n ≡ Some (record { fid = sys_dir; number = n / 256 + 1 })
  pub first : 1 ≤ at
  pub within : at < pages_of p.shape

pub root_page : (p : Pack) (pages : List ℕ) (n : ℕ) → ArePagesOf p sys_dir pages → n / 256 < length pages → HasRootPage p (get_or pages (n / 256) 0) n
root_page p pages n are l =
    let at : ℕ = get_or pages (n / 256) 0 in
    let page : Page = record { fid = sys_dir; number = n / 256 + 1 } in
    let sector : place (sights p) sys_dir (n / 256 + 1) ≡ Some at = ap (place (sights p) sys_dir) (add-one (n / 256)) ∙ are (n / 256) l in
    let carries : carried p at ≡ Some page = ((places_are_lowest p page).lowest at sector).here in
    let placed = row_placed p at (record { page = page; at = at; bytes = word (sector_at p at).label 3 }) (row_carried p at page carries) in
    record {
      sector = sector;
      carries = carries;
      page = number_is (record { dir = sys_dir; place = n; word = 0 }) page refl (page_numbers_are_words p sys_dir (n / 256 + 1) at sector);
      first = placed.1;
      within = placed.2;
    }
