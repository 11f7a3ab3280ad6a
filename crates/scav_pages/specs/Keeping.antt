-- What stays of directories and of leader pages while pages are mended.
use Rattle.std.specs.Prelude.{◌≡◌, ◌⊎◌, ◌∷◌, [], ℕ, Bool, true, false, get_or, Some}
use Rattle.alto_words.specs.declared.fid.Fid.{Fid}
use Rattle.alto_words.specs.Fid.{is_directory, is_system, sys_dir}
use Rattle.disk_records.specs.Packs.{Pack}
use Rattle.pack_model.specs.hints.Links.{dir_words}
use Rattle.pack_model.specs.reading.Files.{lives, place}
use Rattle.pack_model.specs.reading.Leaders.{Leader}
use Rattle.pack_model.specs.reading.Sights.{sights}
use Rattle.pack_model.specs.reading.Sights.Sight.{hidden, leads}
use Rattle.pack_model.specs.reading.Slots.{slots}
use Rattle.pack_model.specs.reading.Slots.Item.{space}
use Rattle.scav_pages.specs.Fresh.{fresh_leader, own_name}

-- ---- leader pages
-- The file's leader page stands in this sector: whether its name can be read, and what it says.
pub record Leads (p : Pack) (f : Fid) (readable : Bool) (l : Leader) : Type 0 where
  pub at : ℕ
  pub sector : place (sights p) f 0 ≡ Some at
  pub says : get_or (sights p) at hidden ≡ leads f readable l

-- Each says what it said, or has its own name now where none could be read. That of a system file, if it didn't live, isn't there yet or is
-- new.
pub record KeepsLeaders (p q : Pack) : Type 0 where
  pub kept : (f : Fid) (readable : Bool) (l : Leader) → Leads p f readable l → Leads q f readable l ⊎ ((readable ≡ false) × Leads q f true (record l { name = own_name f }))
  pub made : (f : Fid) → is_system f ≡ true → lives (sights p) f ≡ false → (lives (sights q) f ≡ false) ⊎ Leads q f true (fresh_leader f)

-- ---- directories
-- SysDir lives, with one free slot of 255 words
abbrev pub RootIsNew : Pack → Type 0
RootIsNew q = (lives (sights q) sys_dir ≡ true) × (slots (dir_words q sys_dir) ≡ space 255 ∷ [])

-- Files that live still do, with their leader pages, and directories that live have the same slots. SysDir, if it didn't live, doesn't yet or
-- is new.
pub record KeepsFiles (p q : Pack) : Type 0 where
  pub living : (f : Fid) → lives (sights p) f ≡ true → lives (sights q) f ≡ true
  pub leaders : KeepsLeaders p q
  pub slots_are : (d : Fid) → lives (sights p) d ≡ true → is_directory d ≡ true → slots (dir_words q d) ≡ slots (dir_words p d)
  pub root : lives (sights p) sys_dir ≡ false → (lives (sights q) sys_dir ≡ false) ⊎ RootIsNew q
