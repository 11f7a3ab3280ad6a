-- Files, by asking of all sectors: no link is followed.
-- Files whose pages are known by labels alone are those of the SOSP 1979 paper; that the lowest of several copies counts is this
-- project's choice.
use Rattle.std.specs.Prelude.{◌≡◌, ℕ, zero, suc, ◌<◌, ◌&&◌, ◌==◌, Bool, true, false, cond, nat_lt, List, [], ◌∷◌, ◌++◌, length, get_or, Option, Some, None}
use Rattle.std.specs.Option.{option_or, is_some}
use Rattle.disk_records.specs.alto_words.specs.declared.fid.Fid.{Fid}
use Rattle.disk_records.specs.alto_words.specs.Fid.{is_fid}
use Rattle.pack_model.specs.reading.Leaders.{Leader}
use Rattle.pack_model.specs.reading.Sights.{Sight}
use Rattle.pack_model.specs.reading.Sights.Sight.{hidden, free, stray, leads, holds}

-- the first answer of a list
unfoldable pub first : {S X : Type 0} → (S → Option X) → List S → Option X
first answer [] = None
first answer (s ∷ ss) = option_or (answer s) (first answer ss)

-- the leader of f that a sector shows
abbrev pub leader_at : Fid → Sight → Option Leader
leader_at f hidden = None
leader_at f free = None
leader_at f stray = None
leader_at f (leads g readable l) = cond (is_fid f g) (Some l) None
leader_at f (holds g n bytes) = None

-- the counted bytes of page n of f, from 0, that a sector shows
abbrev pub page_at : Fid → ℕ → Sight → Option (List ℕ)
page_at f n hidden = None
page_at f n free = None
page_at f n stray = None
page_at f n (leads g readable l) = None
page_at f n (holds g k bytes) = cond (is_fid f g && n == k) (Some bytes) None

-- of several sectors that carry one page the lowest counts
abbrev pub leader : List Sight → Fid → Option Leader
leader ss f = first (leader_at f) ss

-- page n of f, from 0: the bytes of the lowest sector that shows it
abbrev pub page : List Sight → Fid → ℕ → Option (List ℕ)
page ss f n = first (page_at f n) ss

-- a file lives where some sector carries its leader page
abbrev pub lives : List Sight → Fid → Bool
lives ss f = is_some (leader ss f)

-- the bytes of pages in order, up to and with the first that isn't full, or up to the first that is missing
unfoldable pub joined : ℕ → (ℕ → Option (List ℕ)) → List ℕ
joined zero pages = []
joined (suc k) pages =
    elim (pages 0) [
      | None ↦ []
      | Some bytes ↦ elim (nat_lt (length bytes) 512) [ true ↦ bytes | false ↦ bytes ++ joined k (λ n. pages (suc n)) ]
    ]

-- data pages are numbered from 1 to 65,535
unfoldable pub most_pages : ℕ
most_pages = 65535

-- the bytes of a file: its pages up to the first that isn't full or is missing
unfoldable pub file_bytes : List Sight → Fid → List ℕ
file_bytes ss f = joined most_pages (page ss f)

-- Sector i bears what is asked for: it answers x, and no lower sector answers.
pub record Bears {S X : Type 0} (answer : S → Option X) (ss : List S) (i : ℕ) (x : X) : Type 0 where
  pub within : i < length ss
  pub answers : (d : S) → answer (get_or ss i d) ≡ Some x
  pub lowest : (j : ℕ) (d : S) → j < i → answer (get_or ss j d) ≡ None

-- ---- the addresses of pages
-- each sight with its address
abbrev pub numbered : {S : Type 0} → ℕ → List S → List (ℕ × S)
numbered at [] = []
numbered at (s ∷ ss) = (at, s) ∷ numbered (suc at) ss

-- whether a sector carries the page with this number in its label
abbrev pub carries_page : Fid → ℕ → Sight → Bool
carries_page f n hidden = false
carries_page f n free = false
carries_page f n stray = false
carries_page f zero (leads g readable l) = is_fid f g
carries_page f (suc n) (leads g readable l) = false
carries_page f zero (holds g k bytes) = false
carries_page f (suc n) (holds g k bytes) = is_fid f g && n == k

abbrev pub place_at : Fid → ℕ → ℕ × Sight → Option ℕ
place_at f n e = cond (carries_page f n e.1) (Some e.0) None

-- the sector that bears the page of f with this number in its label
abbrev pub place : List Sight → Fid → ℕ → Option ℕ
place ss f n = first (place_at f n) (numbered 0 ss)
