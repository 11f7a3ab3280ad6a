-- Whole and tidy packs: what the operations keep.
-- What a whole pack is, is this project's choice, over the labels of the SOSP 1979 paper.
use Rattle.std.specs.Prelude.{◌≡◌, ◌⊎◌, ℕ, suc, ◌≤◌, Bool, true, cond, nat_lt, List, [], ◌∷◌, length, get_or}
use Rattle.disk_records.specs.alto_words.specs.declared.fid.Fid.{Fid}
use Rattle.disk_records.specs.alto_words.specs.Fid.{is_fid, is_directory, serial_of, sys_dir, disk_descriptor}
use Rattle.disk_records.specs.declared.shape.Shape.{Shape}
use Rattle.disk_records.specs.Addresses.{disks_of, cylinders_of, table_words, descriptor_length}
use Rattle.disk_records.specs.Words.{word}
use Rattle.disk_records.specs.Packs.{Pack}
use Rattle.pack_model.specs.reading.Bytes.{words_of}
use Rattle.pack_model.specs.reading.Leaders.{Leader}
use Rattle.pack_model.specs.reading.Sights.{Sight, sights}
use Rattle.pack_model.specs.reading.Sights.Sight.{hidden, stray, leads, holds}
use Rattle.pack_model.specs.reading.Files.{lives, file_bytes, most_pages}
use Rattle.pack_model.specs.reading.Slots.{SlotsReachEnd}
use Rattle.pack_model.specs.reading.Bodies.{described}
use Rattle.pack_model.specs.reading.Namings.{IsTidy}
use Rattle.pack_model.specs.reading.Model.{IsNamed, read_sights}

-- ---- where a file lies
-- a data page: its sector and its bytes
abbrev pub PageAt : Type 0
PageAt = ℕ × List ℕ

-- these sectors hold data pages k, k + 1 and so on of f, counted from 0, with these bytes
abbrev pub Seated : List Sight → Fid → ℕ → List PageAt → Type 0
Seated ss f k [] = Unit {0}
Seated ss f k (c ∷ cs) = (get_or ss c.0 hidden ≡ holds f k c.1) × Seated ss f (suc k) cs

-- page m is one of these, which begin with page k, and i is its sector
abbrev pub IsSeat : ℕ → List PageAt → ℕ → ℕ → Type 0
IsSeat k [] m i = ⊥
IsSeat k (c ∷ cs) m i = ((m ≡ k) × (i ≡ c.0)) ⊎ IsSeat (suc k) cs m i

-- The data pages of f are these from page 0 on, and loose ones from page lo on, and no other sector has any.
pub record HasPages (ss : List Sight) (f : Fid) (pages : List PageAt) (lo : ℕ) (loose : List PageAt) : Type 0 where
  pub seated : Seated ss f 0 pages
  pub waiting : Seated ss f lo loose
  pub only : (i m : ℕ) (bytes : List ℕ) → get_or ss i hidden ≡ holds f m bytes → IsSeat 0 pages m i ⊎ IsSeat lo loose m i

-- This sector is the only leader of f.
pub record Leads (ss : List Sight) (f : Fid) (at : ℕ) (readable : Bool) (l : Leader) : Type 0 where
  pub shows : get_or ss at hidden ≡ leads f readable l
  pub only : (i : ℕ) (r : Bool) (k : Leader) → get_or ss i hidden ≡ leads f r k → i ≡ at

-- no sector is a leader of f
abbrev pub Headless : List Sight → Fid → Type 0
Headless ss f = (i : ℕ) (r : Bool) (k : Leader) → get_or ss i hidden ≡ leads f r k → ⊥

-- the last page has fewer than 512 bytes, all before it have 512
abbrev pub IsLaid : List PageAt → Type 0
IsLaid [] = ⊥
IsLaid (c ∷ []) = nat_lt (length c.1) 512 ≡ true
IsLaid (c ∷ d ∷ cs) = (length c.1 ≡ 512) × IsLaid (d ∷ cs)

-- A living file has one leader, whose name can be read, and its pages with the last, each once; of any other nothing is carried.
pub data FileWhole (ss : List Sight) (f : Fid) : Type 0 where
  absent : Headless ss f → HasPages ss f [] 0 [] → FileWhole ss f
  present : (at : ℕ) (l : Leader) (pages : List PageAt) → Leads ss f at true l → HasPages ss f pages 0 [] → IsLaid pages → length pages ≤ most_pages → FileWhole ss f

-- ---- the pack
-- DiskDescriptor's words 0 to 3 and 8 say the shape.
pub record SaysShape (shape : Shape) (words : List ℕ) : Type 0 where
  pub disks : word words 0 ≡ disks_of shape
  pub cylinders : word words 1 ≡ cylinders_of shape
  pub heads : word words 2 ≡ 2
  pub sectors : word words 3 ≡ 12
  pub table : word words 8 ≡ table_words shape

-- and its bytes are as many as the shape asks for
pub record Fits (shape : Shape) (bytes : List ℕ) : Type 0 where
  pub says : SaysShape shape (words_of bytes)
  pub size : length bytes ≡ descriptor_length shape

-- Whole: each good sector is free or holds a page of a whole file; each directory is slots to its end; sector 1 is SysDir's
-- leader; both system files have an entry; DiskDescriptor fits; no living serial is above the last one given out.
pub record WholeSights (shape : Shape) (ss : List Sight) : Type 0 where
  pub files : (f : Fid) → FileWhole ss f
  pub used : (i : ℕ) → get_or ss i hidden ≡ stray → ⊥
  pub directories : (d : Fid) → lives ss d ≡ true → is_directory d ≡ true → SlotsReachEnd (file_bytes ss d)
  pub root : (l : Leader) × (get_or ss 1 hidden ≡ leads sys_dir true l)
  pub root_named : IsNamed (read_sights shape ss) sys_dir
  pub descriptor_named : IsNamed (read_sights shape ss) disk_descriptor
  pub descriptor_lives : lives ss disk_descriptor ≡ true
  pub descriptor_fits : Fits shape (file_bytes ss disk_descriptor)
  pub last : (f : Fid) → lives ss f ≡ true → serial_of f ≤ (read_sights shape ss).last

abbrev pub Whole : Pack → Type 0
Whole p = WholeSights p.shape (sights p)

-- Tidy: every entry of a living directory is kept.
abbrev pub TidySights : List Sight → Type 0
TidySights ss = IsTidy (lives ss) (described ss)

abbrev pub Tidy : Pack → Type 0
Tidy p = TidySights (sights p)

-- Tidy if f lived: except the entry of a file that was dropped.
abbrev pub living_too : Fid → (Fid → Bool) → Fid → Bool
living_too f lives g = cond (is_fid g f) true (lives g)

abbrev pub TidyBut : Fid → List Sight → Type 0
TidyBut f ss = IsTidy (living_too f (lives ss)) (described ss)
