-- Handy hints stay handy over the operations of a session.
use Rattle.std.specs.Prelude.{All, List, None, Some, [], false, length, true, ℕ, ◌∷◌, ◌≡◌, ◌≢◌, ◌≤◌, ◌⊎◌}
use Rattle.laws_line.specs.alto_words.specs.Fid.{is_fid}
use Rattle.laws_line.specs.alto_words.specs.declared.fid.Fid.{Fid}
use Rattle.laws_line.specs.disk_records.specs.Packs.{Pack, after, sector_at}
use Rattle.laws_line.specs.pack_model.specs.hints.Handy.{CachedAt, Handy, IsRightOrIdle, NamesLastPage, last_at_word, last_number_word, leader_word, row_word}
use Rattle.laws_line.specs.pack_model.specs.operations.Commands.{Claim, values_writes}
use Rattle.laws_line.specs.pack_model.specs.operations.Committing.{page_of_byte}
use Rattle.laws_line.specs.pack_model.specs.operations.Operations.{cut_writes, grow_writes}
use Rattle.laws_line.specs.pack_model.specs.reading.Files.{file_bytes, lives, place}
use Rattle.laws_line.specs.pack_model.specs.reading.Sights.{sights}
use Rattle.laws_line.specs.pack_model.specs.states.Whole.{Tidy, Whole}
use Rattle.laws_line.specs.laws_operation.specs.ByteLaws.{MayCut, MayGrow}
use Rattle.laws_line.specs.laws_operation.specs.NameLaws.{MayWiden}
use Rattle.laws_lookup.specs.OtherLaws.{LeavesOthers}

-- the flag and the last-page words of the leader in this sector are as they were
pub record SameHandyWords (p q : Pack) (at : ℕ) : Type 0 where
  pub row : leader_word q at row_word ≡ leader_word p at row_word
  pub last_at : leader_word q at last_at_word ≡ leader_word p at last_at_word
  pub last_number : leader_word q at last_number_word ≡ leader_word p at last_number_word

-- ---- pages stay or go
-- Pages of the file are where they were, or gone; and where its leader is those words are as they were. So it is of every other file after
-- an operation on one, and of the file itself after a put, a title, a cut and a drop.
pub record KeepsHandy (p q : Pack) (f : Fid) : Type 0 where
  pub pages : (n at : ℕ) → place (sights q) f n ≡ Some at → place (sights p) f n ≡ Some at
  pub words : (at : ℕ) → place (sights q) f 0 ≡ Some at → SameHandyWords p q at

abbrev pub HandyWherePagesStayOrGo : Type 0
HandyWherePagesStayOrGo = (p q : Pack) (f : Fid) (cache : List CachedAt) → KeepsHandy p q f → Handy p f cache → Handy q f cache

-- values that aren't written into the file's leader leave its hints handy
abbrev pub HandyAfterValues : Type 0
HandyAfterValues = (p : Pack) (values : List (ℕ × List ℕ)) (f : Fid) (cache : List CachedAt) → All (λ v. place (sights p) f 0 ≢ Some v.0) values → Handy p f cache → Handy (after p (values_writes values)) f cache

-- a value of its leader does so with the same flag, and with last-page words that name a page where it is, or none
abbrev pub HandyAfterLeaderValue : Type 0
HandyAfterLeaderValue = (p : Pack) (at : ℕ) (value : List ℕ) (f : Fid) (cache : List CachedAt) → let q : Pack = after p (values_writes ((at, value) ∷ [])) in
    place (sights p) f 0 ≡ Some at → leader_word q at row_word ≡ leader_word p at row_word → NamesLastPage (sights p) f (leader_word q at last_number_word) (leader_word q at last_at_word) → Handy p f cache → Handy q f cache

-- ---- pages come
-- Pages of the file up to this number are where they were, and its leader's words too; the flag says nothing, and the words and the cache
-- speak of no page after these but of one where it is now. So it is of a file that is grown, and of a directory that is widened.
pub record GrowsHandy (p q : Pack) (f : Fid) (last : ℕ) (cache : List CachedAt) : Type 0 where
  pub pages : (n at : ℕ) → n ≤ last → place (sights p) f n ≡ Some at → place (sights q) f n ≡ Some at
  pub there : (n : ℕ) → n ≤ last → place (sights p) f n ≢ None
  pub words : (at : ℕ) → place (sights q) f 0 ≡ Some at → SameHandyWords p q at
  pub row : (at : ℕ) → place (sights q) f 0 ≡ Some at → leader_word q at row_word ≡ 0
  pub number : (at : ℕ) → place (sights q) f 0 ≡ Some at → leader_word q at last_number_word ≤ last
  pub cached : All (λ c. c.0.fid ≡ f → ((c.0.number ≤ last) × IsRightOrIdle (sights p) f c.0.number c.1) ⊎ (place (sights q) f c.0.number ≡ Some c.1)) cache

abbrev pub HandyWherePagesCome : Type 0
HandyWherePagesCome = (p q : Pack) (f : Fid) (last : ℕ) (cache : List CachedAt) → GrowsHandy p q f last cache → Handy p f cache → Handy q f cache

-- ---- operations on whole and tidy packs
-- what an operation on one file leaves of all others leaves their hints handy
abbrev pub HandyOfOthers : Type 0
HandyOfOthers = (p q : Pack) (f g : Fid) (cache : List CachedAt) → LeavesOthers f p q → is_fid g f ≡ false → Handy p g cache → Handy q g cache

-- a cut leaves those of its own file handy
abbrev pub HandyAfterCut : Type 0
HandyAfterCut = (p : Pack) (f : Fid) (n at : ℕ) (label later : List ℕ) (cache : List CachedAt) → Whole p → MayCut p f n at label later → Handy p f cache → Handy (after p (cut_writes at label (sector_at p at).value later)) f cache

-- the words of a leader and a cache speak of none of the file's pages after this number, and the flag says nothing
pub record SpeaksUpTo (p : Pack) (f : Fid) (last : ℕ) (cache : List CachedAt) : Type 0 where
  pub row : (at : ℕ) → place (sights p) f 0 ≡ Some at → leader_word p at row_word ≡ 0
  pub number : (at : ℕ) → place (sights p) f 0 ≡ Some at → leader_word p at last_number_word ≤ last
  pub cached : All (λ c. c.0.fid ≡ f → c.0.number ≤ last) cache

-- so a growth leaves those of its own file handy, if they speak of its old pages alone; and so does a widening
abbrev pub HandyAfterGrowth : Type 0
HandyAfterGrowth = (p : Pack) (f : Fid) (new : List ℕ) (claims : List Claim) (at : ℕ) (label value : List ℕ) (cache : List CachedAt) → let last : ℕ = page_of_byte (length (file_bytes (sights p) f)) in
    Whole p → Tidy p → lives (sights p) f ≡ true → MayGrow p f new claims at label value → SpeaksUpTo p f last cache → Handy p f cache → Handy (after p (grow_writes claims at label value)) f cache

abbrev pub HandyAfterWidening : Type 0
HandyAfterWidening = (p : Pack) (d : Fid) (added : List ℕ) (claims : List Claim) (at : ℕ) (label value : List ℕ) (cache : List CachedAt) → let last : ℕ = page_of_byte (length (file_bytes (sights p) d)) in
    Whole p → Tidy p → lives (sights p) d ≡ true → MayWiden p d added claims at label value → SpeaksUpTo p d last cache → Handy p d cache → Handy (after p (grow_writes claims at label value)) d cache
