-- What a caller sees of a cache of addresses.
use Rattle.std.specs.Prelude.{◌≡◌, ◌≢◌, ℕ, suc, ◌≤◌, ◌<◌, ◌==◌, ◌&&◌, Bool, not, List, ◌∷◌, map, length, take, filter, find, AllPairs, Option, Some, None}
use Rattle.std.specs.Option.{option_map}
use Rattle.alto_words.specs.declared.fid.Fid.{Fid}
use Rattle.alto_words.specs.Fid.{is_fid}
use Rattle.disk_records.specs.declared.records.Page.{Page}
use Rattle.hint_cache.specs.declared.cache.Entry.{Entry}

-- the entries, the most recently used first, and how many calls of `note` were refused
pub record Cached : Type 0 where
  pub entries : List Entry
  pub refused : ℕ

-- at most 48 entries, and no two for one page
pub record IsCacheList (entries : List Entry) : Type 0 where
  pub few : length entries ≤ 48
  pub distinct : AllPairs (λ a b. a.page ≢ b.page) entries

abbrev pub is_page : Page → Page → Bool
is_page p q = is_fid p.fid q.fid && p.number == q.number

-- the address that is listed for a page
abbrev pub address_in : List Entry → Page → Option ℕ
address_in entries page = option_map (λ e. e.at) (find (λ e. is_page e.page page) entries)

-- the list without a page's entry
abbrev pub without : Page → List Entry → List Entry
without page entries = filter (λ e. not (is_page e.page page)) entries

-- the list with this entry in front, and no other for its page; the last of 49 is dropped
abbrev pub noted : Page → ℕ → List Entry → List Entry
noted page at entries = take 48 (record { page = page; at = at } ∷ without page entries)

-- ---- pages of one file
-- no page of this file is listed whose number is at least `from` and below `to`
pub record NoneListed (entries : List Entry) (fid : Fid) (from to : ℕ) : Type 0 where
  pub none : (number : ℕ) → from ≤ number → number < to → address_in entries (record { fid = fid; number = number }) ≡ None

-- this entry is listed, of a page of this file below this number, and no page between them is listed
pub record IsHighestBelow (entries : List Entry) (fid : Fid) (number : ℕ) (entry : Entry) : Type 0 where
  pub file : entry.page.fid ≡ fid
  pub below : entry.page.number < number
  pub listed : address_in entries entry.page ≡ Some entry.at
  pub highest : NoneListed entries fid (suc entry.page.number) number

-- ---- the cache that keeps them
-- the pairs of a cache as entries
abbrev pub entry_of : Page × ℕ → Entry
entry_of pair = record { page = pair.0; at = pair.1 }

abbrev pub entries_of : List (Page × ℕ) → List Entry
entries_of pairs = map entry_of pairs
