-- Hints that may be passed over: the words of a leader page that help to find pages, and the cache of addresses.
-- Hints in a leader page are those of the SOSP 1979 paper; which words they are, and when they are handy, is this project's choice.
use Rattle.std.specs.Prelude.{◌≡◌, ◌⊎◌, ℕ, ◌+◌, List, Some, None, All}
use Rattle.disk_records.specs.alto_words.specs.declared.fid.Fid.{Fid}
use Rattle.disk_records.specs.declared.records.Page.{Page}
use Rattle.disk_records.specs.Words.{word}
use Rattle.disk_records.specs.Packs.{Pack, sector_at}
use Rattle.pack_model.specs.reading.Sights.{Sight, sights}
use Rattle.pack_model.specs.reading.Files.{place}

-- ---- leader words 246 to 255: property bounds; whether the file's pages lie in a row; the home directory's serial high, low,
-- version, 0 and leader address; the last page's address, number and bytes
abbrev pub row_word : ℕ
row_word = 247

abbrev pub last_at_word : ℕ
last_at_word = 253

abbrev pub last_number_word : ℕ
last_number_word = 254

-- the word of a file's leader page
abbrev pub leader_word : Pack → ℕ → ℕ → ℕ
leader_word p at n = word (sector_at p at).value n

-- ---- what makes them handy
-- each data page of f is as many sectors after the leader as its number says
abbrev pub LiesInARow : List Sight → Fid → ℕ → Type 0
LiesInARow ss f leader_at = (n at : ℕ) → place ss f n ≡ Some at → at ≡ leader_at + n

-- an address for a page is its sector, or no sector bears the page
abbrev pub IsRightOrIdle : List Sight → Fid → ℕ → ℕ → Type 0
IsRightOrIdle ss f number at = (place ss f number ≡ Some at) ⊎ (place ss f number ≡ None)

-- the last-page words name the data page with their number, or f has no data page of this number
abbrev pub NamesLastPage : List Sight → Fid → ℕ → ℕ → Type 0
NamesLastPage ss f number at = (number ≡ 0) ⊎ IsRightOrIdle ss f number at

-- a listed page and its address
abbrev pub CachedAt : Type 0
CachedAt = Page × ℕ

-- each address that the cache has for a page of f is right, or no sector bears the page
abbrev pub HandyCache : List Sight → Fid → List CachedAt → Type 0
HandyCache ss f cache = All (λ c. c.0.fid ≡ f → IsRightOrIdle ss f c.0.number c.1) cache

-- The flag of f is 0 or right; its last-page words and each address for a page of it in the cache are right, or no sector bears that
-- page. What isn't handy is passed over, and can't mislead.
pub record Handy (p : Pack) (f : Fid) (cache : List CachedAt) : Type 0 where
  pub row : (at : ℕ) → place (sights p) f 0 ≡ Some at → (leader_word p at row_word ≡ 0) ⊎ LiesInARow (sights p) f at
  pub last : (at : ℕ) → place (sights p) f 0 ≡ Some at → NamesLastPage (sights p) f (leader_word p at last_number_word) (leader_word p at last_at_word)
  pub cached : HandyCache (sights p) f cache
