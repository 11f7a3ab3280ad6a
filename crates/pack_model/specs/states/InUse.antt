-- Which sectors are in use, and which are available.
-- What is in use is this project's choice, for the Scavenger of the SOSP 1979 paper.
use Rattle.std.specs.Prelude.{ℕ, suc, ◌+◌, ◌/◌, ◌==◌, ◌&&◌, Bool, true, false, cond, not, nat_le, List, [], ◌∷◌, drop, Option, Some, None}
use Rattle.std.specs.FinMap.{get}
use Rattle.disk_records.specs.alto_words.specs.declared.fid.Fid.{Fid}
use Rattle.disk_records.specs.alto_words.specs.Fid.{is_fid, disk_descriptor}
use Rattle.disk_records.specs.declared.shape.Shape.{Shape}
use Rattle.disk_records.specs.Addresses.{descriptor_length}
use Rattle.pack_model.specs.reading.Sights.{Sight}
use Rattle.pack_model.specs.reading.Sights.Sight.{hidden, free, stray, leads, holds}
use Rattle.pack_model.specs.reading.Files.{place, numbered}
use Rattle.pack_model.specs.reading.Bodies.{Body, File, found, body_length}

-- ---- where a file ends
-- the end of a file's bytes: of a directory that of its slots, of DiskDescriptor that of its format
abbrev pub end_of : Shape → Fid → Body → ℕ
end_of shape f body = cond (is_fid f disk_descriptor) (descriptor_length shape) (body_length body)

-- the number of its last page
abbrev pub last_page : Shape → Fid → Body → ℕ
last_page shape f body = suc (end_of shape f body / 512)

-- a page with this number in its label is within the file's end; page 0 is the leader
abbrev pub is_within : Shape → Fid → ℕ → Option File → Bool
is_within shape f n None = false
is_within shape f n (Some x) = nat_le n (last_page shape f x.body)

abbrev pub counts : Shape → List Sight → Fid → ℕ → Bool
counts shape ss f n = is_within shape f n (get (found ss) f)

-- ---- sectors
abbrev pub is_place : ℕ → Option ℕ → Bool
is_place at None = false
is_place at (Some i) = at == i

-- a test of the page that a sector shows, by the number in its label
abbrev pub of_page : (Fid → ℕ → Bool) → Sight → Bool
of_page test hidden = false
of_page test free = false
of_page test stray = false
of_page test (leads f readable l) = test f 0
of_page test (holds f n bytes) = test f (suc n)

-- In use: the lowest sector with a page of a living file that is within the file's end.
abbrev pub in_use : Shape → List Sight → ℕ × Sight → Bool
in_use shape ss e = of_page (λ f n. counts shape ss f n && is_place e.0 (place ss f n)) e.1

-- a right header, from sector 1 up
abbrev pub is_good : Sight → Bool
is_good hidden = false
is_good free = true
is_good stray = true
is_good (leads f readable l) = true
is_good (holds f n bytes) = true

abbrev pub is_free_sight : Sight → Bool
is_free_sight hidden = false
is_free_sight free = true
is_free_sight stray = false
is_free_sight (leads f readable l) = false
is_free_sight (holds f n bytes) = false

-- good, and not in use
abbrev pub is_available : Shape → List Sight → ℕ × Sight → Bool
is_available shape ss e = is_good e.1 && not (in_use shape ss e)

-- ---- numbers of sectors
abbrev pub one_if : Bool → ℕ
one_if true = 1
one_if false = 0

-- how many pass a test
abbrev pub how_many : {X : Type 0} → (X → Bool) → List X → ℕ
how_many test [] = 0
how_many test (x ∷ xs) = one_if (test x) + how_many test xs

-- how many sectors a scavenge may take: the good ones that aren't in use
unfoldable pub available : Shape → List Sight → ℕ
available shape ss = how_many (is_available shape ss) (numbered 0 ss)

-- how many sectors show that they are free
abbrev pub free_sector_count : List Sight → ℕ
free_sector_count ss = how_many is_free_sight ss

-- bad: a wrong header, from sector 1 up
abbrev pub bad_sectors : List Sight → ℕ
bad_sectors ss = how_many (λ s. not (is_good s)) (drop 1 ss)
