-- What a sweep keeps, and what it stands for.
use Rattle.std.specs.Prelude.{◌≡◌, ℕ, suc, Bool, false, List, replicate, Option}
use Rattle.std.specs.declared.cmp.Ordering.{Ordering}
use Rattle.std.specs.Ordering.{nat_cmp, then_cmp, on}
use Rattle.std.specs.Option.{option_map, option_or, is_some}
use Rattle.std.specs.BTreeMap.{get}
use Rattle.alto_words.specs.declared.fid.Fid.{Fid}
use Rattle.alto_words.specs.Fid.{fid_cmp, is_fid}
use Rattle.disk_records.specs.declared.records.Page.{Page}
use Rattle.leader_page.specs.declared.leader.Leader.{Leader}
use Rattle.pack_model.specs.reading.Leaders as model
use Rattle.pack_model.specs.reading.Sights.{Sight}
use Rattle.pack_model.specs.reading.Files.{leader, page, leader_at, page_at, joined, most_pages}
use Rattle.pack_model.specs.reading.Stored.{StoredFile}
use Rattle.pack_reading.specs.declared.swept.Leaders.{Leaders}
use Rattle.pack_reading.specs.declared.swept.Pages.{Pages}
use Rattle.pack_reading.specs.declared.swept.Swept.{Swept}
use Rattle.pack_reading.specs.declared.files.Found.{Found}

-- a leader with zeros for hints
abbrev pub plain_leader : model.Leader → Leader
plain_leader l = record { created = l.created; written = l.written; read = l.read; name = l.name; rest = l.rest; hints = replicate 10 0 }

-- ---- the maps
abbrev pub leader_kept : Leaders → Fid → Option Leader
leader_kept leaders f = get fid_cmp leaders.kept f

-- a file whose leader is kept lives
abbrev pub lives_kept : Leaders → Fid → Bool
lives_kept leaders f = is_some (leader_kept leaders f)

abbrev pub page_cmp : Page → Page → Ordering
page_cmp = then_cmp (on (λ p. p.fid) fid_cmp) (on (λ p. p.number) nat_cmp)

-- page n of f, counted from 0 here
abbrev pub page_kept : Pages → Fid → ℕ → Option (List ℕ)
page_kept pages f n = get page_cmp pages.kept (record { fid = f; number = suc n })

-- what one sector more shows is kept, where nothing was
pub record KeepsSight (s : Sight) (old new : Swept) : Type 0 where
  pub leaders : (f : Fid) → leader_kept new.leaders f ≡ option_or (leader_kept old.leaders f) (option_map plain_leader (leader_at f s))
  pub pages : (f : Fid) (n : ℕ) → page_kept new.pages f n ≡ option_or (page_kept old.pages f n) (page_at f n s)

-- what is kept is what these sectors show
pub record HoldsSights (ss : List Sight) (swept : Swept) : Type 0 where
  pub leaders : (f : Fid) → leader_kept swept.leaders f ≡ option_map plain_leader (leader ss f)
  pub pages : (f : Fid) (n : ℕ) → page_kept swept.pages f n ≡ page ss f n

-- ---- files
-- a file of the pack, as it is kept in memory
abbrev pub found_of : Fid → StoredFile → Found
found_of f x = record { fid = f; leader = plain_leader x.leader; bytes = x.bytes }

-- the bytes of a file by its kept pages
abbrev pub bytes_kept : Pages → Fid → List ℕ
bytes_kept pages f = joined most_pages (page_kept pages f)

-- the pages of all other files stay
abbrev pub KeepsOthers : Fid → Pages → Pages → Type 0
KeepsOthers fid old new = (f : Fid) → is_fid f fid ≡ false → (n : ℕ) → page_kept new f n ≡ page_kept old f n

-- a kept leader's file
abbrev pub found_in : Pages → Fid → Leader → Found
found_in pages f l = record { fid = f; leader = l; bytes = bytes_kept pages f }
