-- The record writes of several sector commands in a row, and the words that grow and cut write.
-- That a free page is checked before it is claimed is from the SOSP 1979 paper, and that a command which writes a record writes all
-- later ones from the Alto Hardware Manual; the words are this project's choice.
use Rattle.std.specs.Prelude.{◌≡◌, ℕ, suc, ◌+◌, ◌-◌, ◌/◌, ◌%◌, true, min, List, [], ◌∷◌, ◌++◌, length, take, drop, get_or, set}
use Rattle.disk_records.specs.alto_words.specs.declared.fid.Fid.{Fid}
use Rattle.disk_records.specs.declared.shape.Shape.{Shape}
use Rattle.disk_records.specs.declared.records.Event.{Event}
use Rattle.disk_records.specs.Addresses.{real_of}
use Rattle.disk_records.specs.Labels.{tag, in_range, label_of}
use Rattle.disk_records.specs.Words.{word}
use Rattle.disk_records.specs.Commands.{value_writes, claim_writes, release_writes}
use Rattle.pack_model.specs.reading.Bytes.{bytes_of}
use Rattle.pack_model.specs.reading.Sights.{Sight}
use Rattle.pack_model.specs.reading.Sights.Sight.{hidden, free, holds}
use Rattle.pack_model.specs.states.Whole.{PageAt}
use Rattle.pack_model.specs.hints.Links.{no_link}
use Rattle.pack_model.specs.operations.PageWords.{page_value, put_value, page_number, link_to_first, relabelled, leader_label, first_page_label, first_page_value, new_leader_value}

-- ---- claims
-- A free sector, and the label and the value that it gets.
pub record Claim : Type 0 where
  pub at : ℕ
  pub label : List ℕ
  pub value : List ℕ

-- the record writes of claims, one after another
abbrev pub claims_writes : List Claim → List Event
claims_writes [] = []
claims_writes (c ∷ cs) = claim_writes c.at c.label c.value ++ claims_writes cs

-- the page that a claim makes, where it is a data page
abbrev pub claimed : Claim → PageAt
claimed c = (c.at, take (word c.label 3) (bytes_of c.value))

abbrev pub all_claimed : List Claim → List PageAt
all_claimed [] = []
all_claimed (c ∷ cs) = claimed c ∷ all_claimed cs

-- each label names the next data page of f, from page k on, counted from 0, and its sector is free when its turn comes
abbrev pub Claimable : List Sight → Fid → ℕ → List Claim → Type 0
Claimable ss f k [] = Unit {0}
Claimable ss f k (c ∷ cs) =
    (get_or ss c.at hidden ≡ free)
    × (tag c.label ≡ record { fid = f; page = suc k; bytes = word c.label 3 })
    × (in_range (tag c.label) ≡ true)
    × Claimable (set ss c.at (holds f k (take (word c.label 3) (bytes_of c.value)))) f (suc k) cs

-- words after the bytes of the last page, and of no other
abbrev pub past_last : List ℕ → List ℕ → List ℕ
past_last past [] = past
past_last past (at ∷ fresh) = []

-- the claims of these bytes as pages of f from this number on, after a page in the sector `previous`; the last page has also
-- these words past its count
abbrev pub claims_of : Shape → Fid → ℕ → ℕ → List ℕ → List ℕ → List ℕ → List Claim
claims_of shape f number previous bytes past [] = []
claims_of shape f number previous bytes past (at ∷ fresh) =
    record {
      at = at;
      label = label_of (page_number f number) (min 512 (length bytes)) (link_to_first shape fresh) (real_of shape previous);
      value = page_value (take 512 bytes) (past_last past fresh);
    } ∷ claims_of shape f (suc number) at (drop 512 bytes) past fresh

-- ---- make: a new file's page 1 and its leader, in two free sectors, and each links to the other
abbrev pub first_page_claim : Shape → Fid → ℕ → ℕ → Claim
first_page_claim shape f leader_at page_at = record { at = page_at; label = first_page_label shape f leader_at; value = first_page_value f }

abbrev pub leader_claim : Shape → Fid → List ℕ → ℕ → ℕ → ℕ → Claim
leader_claim shape f name moment leader_at page_at = record { at = leader_at; label = leader_label shape f page_at; value = new_leader_value f name moment page_at }

-- in the order in which they are made
abbrev pub make_claims : Shape → Fid → List ℕ → ℕ → ℕ → ℕ → List Claim
make_claims shape f name moment leader_at page_at = first_page_claim shape f leader_at page_at ∷ leader_claim shape f name moment leader_at page_at ∷ []

-- ---- grow, and widen: new bytes after the b bytes of a file, whose last page is in the sector `at`
-- the bytes that the last page still takes
abbrev pub last_room : ℕ → ℕ
last_room b = 512 - b % 512

-- the claims of the pages after it
abbrev pub grown_claims : Shape → Fid → ℕ → ℕ → List ℕ → List ℕ → List ℕ → List Claim
grown_claims shape f b at new past fresh = claims_of shape f (b / 512 + 2) at (drop (last_room b) new) past fresh

-- the old last page's value: its bytes, the new ones after them, and the rest as it was
abbrev pub grown_value : ℕ → List ℕ → List ℕ → List ℕ → List ℕ → List ℕ
grown_value b new past fresh value = put_value (b % 512) (take (last_room b) new) (past_last past fresh) value

-- its label: the next link names the first new page, and is no link where there is none
abbrev pub grown_label : Shape → ℕ → List ℕ → List ℕ → List ℕ → List ℕ
grown_label shape b new fresh label = relabelled label (min 512 (b % 512 + length new)) (link_to_first shape fresh)

-- ---- cut: the label of the page that becomes the last, where the first n bytes of the file are kept; its value stays
abbrev pub cut_label : ℕ → List ℕ → List ℕ
cut_label n label = relabelled label (n % 512) no_link

-- ---- releases
abbrev pub releases_writes : List ℕ → List Event
releases_writes [] = []
releases_writes (at ∷ ats) = release_writes at ++ releases_writes ats

-- the sectors of pages
abbrev pub sectors_of : List PageAt → List ℕ
sectors_of [] = []
sectors_of (c ∷ cs) = c.0 ∷ sectors_of cs

-- ---- values
-- a sector, and the value that it gets
abbrev pub values_writes : List (ℕ × List ℕ) → List Event
values_writes [] = []
values_writes (v ∷ vs) = value_writes v.0 v.1 ++ values_writes vs
