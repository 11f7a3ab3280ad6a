-- The words of a cache: a count, and then five words for each entry, the most recently used first.
use Rattle.std.specs.Prelude.{ℕ, ◌+◌, ◌-◌, ◌*◌, ◌≡◌, min, IsTrue, None, List, [], ◌∷◌, ◌++◌, map, length, replicate, get_or}
use Rattle.std.specs.List.{flat_map, range_with_len}
use Rattle.alto_words.specs.Fid.{is_full_name}
use Rattle.disk_records.specs.declared.records.Page.{Page}
use Rattle.hint_cache.specs.declared.cache.Entry.{Entry}
use Rattle.hint_cache.specs.Caches.{address_in, without}

-- serial high, serial low, version, page number and address
abbrev pub entry_words : Entry → List ℕ
entry_words e = e.page.fid.high ∷ e.page.fid.low ∷ e.page.fid.version ∷ e.page.number ∷ e.at ∷ []

-- 241 words: zeros follow the last entry
abbrev pub cache_words : List Entry → List ℕ
cache_words entries = length entries ∷ flat_map entry_words entries ++ replicate (240 - 5 * length entries) 0

-- ---- what any words say
-- the entry with this index
abbrev pub entry_in : List ℕ → ℕ → Entry
entry_in words i = record {
  page = record { fid = record { high = get_or words (5 * i + 1) 0; low = get_or words (5 * i + 2) 0; version = get_or words (5 * i + 3) 0 }; number = get_or words (5 * i + 4) 0 };
  at = get_or words (5 * i + 5) 0;
}

-- a count above 48 counts as 48
abbrev pub entries_in : List ℕ → List Entry
entries_in words = map (entry_in words) (range_with_len 0 (min (get_or words 0 0) 48))

-- of entries for one page the first counts
abbrev pub first_of_each : List Entry → List Entry
first_of_each [] = []
first_of_each (e ∷ es) = e ∷ without e.page (first_of_each es)

-- the list of entries that any words hold
abbrev pub cache_in : List ℕ → List Entry
cache_in words = first_of_each (entries_in words)

-- words of ones list no page of a file that can live, as no full name has such a version
abbrev pub OnesNameNoFile : Type 0
OnesNameNoFile = (page : Page) → IsTrue (is_full_name page.fid) → address_in (cache_in (replicate 241 65535)) page ≡ None
