-- What the sectors of a formatted pack show, by their place: the leaders and the page of SysDir and the leader of DiskDescriptor, then
-- DiskDescriptor's pages, and then free sectors. Their bytes and numbers are any here.
use Rattle.std.proofs.Common.{◌≡◌, ℕ, zero, suc, ◌+◌, ◌<◌, ◌≤◌, true, false, List, [], ◌∷◌, ◌++◌, length, refl, ap, subst, ◌∙◌, arith, replicate, get_or, inl, inr}
use Rattle.std.proofs.lemmas.Bool.{lt-ltb, cases_eq}
use Rattle.laws_hint.specs.alto_words.specs.declared.fid.Fid.{Fid}
use Rattle.laws_hint.specs.alto_words.specs.Fid.{is_fid, sys_dir, disk_descriptor}
use Rattle.laws_hint.specs.pack_model.specs.reading.Bytes.{bytes_of}
use Rattle.laws_hint.specs.pack_model.specs.reading.Leaders.{Leader}
use Rattle.laws_hint.specs.pack_model.specs.reading.Namings.{sys_dir_name, descriptor_name}
use Rattle.laws_hint.specs.pack_model.specs.reading.Sights.{Sight}
use Rattle.laws_hint.specs.pack_model.specs.reading.Sights.Sight.{hidden, free, stray, leads, holds}
use Rattle.laws_hint.specs.pack_model.specs.operations.Step.{new_leader}
use Rattle.laws_hint.specs.pack_model.specs.sessions.Format.{format_slots}
use Rattle.laws_hint.specs.pack_model.specs.states.Whole.{PageAt, Seated, IsSeat, IsLaid}
use Rattle.laws_hint.specs.pack_laws.proofs.Keys.{is_fid-itself, same_fid}

-- DiskDescriptor's pages from page n on, counted from 0
abbrev pub pages_shown : (ℕ → List ℕ) → ℕ → ℕ → List Sight
pages_shown b n zero = []
pages_shown b n (suc k) = holds disk_descriptor n (b n) ∷ pages_shown b (suc n) k

-- the sectors from 4 on
abbrev pub later_shown : (ℕ → List ℕ) → ℕ → ℕ → ℕ → List Sight
later_shown b n k frees = pages_shown b n k ++ replicate frees free

abbrev pub root_leader : ℕ → Leader
root_leader moment = new_leader sys_dir_name moment

abbrev pub its_leader : ℕ → Leader
its_leader moment = new_leader descriptor_name moment

abbrev pub root_bytes : List ℕ
root_bytes = bytes_of format_slots

abbrev pub shown : ℕ → (ℕ → List ℕ) → ℕ → ℕ → List Sight
shown moment b k frees =
    hidden
    ∷ leads sys_dir true (root_leader moment)
    ∷ holds sys_dir 0 root_bytes
    ∷ leads disk_descriptor true (its_leader moment)
    ∷ later_shown b 0 k frees

-- the sector of DiskDescriptor's page n
abbrev pub sector_of : ℕ → ℕ
sector_of n = suc (suc (suc (suc n)))

-- ---- what holds of each of them holds of every sector
each_free : (Q : ℕ → Sight → Type 0) (frees : ℕ) → ((i : ℕ) → i < frees → Q i free) → ((i : ℕ) → frees ≤ i → Q i hidden) → (i : ℕ) → Q i (get_or (replicate frees free) i hidden)
each_free Q zero f h i = h i (omega arith)
each_free Q (suc frees) f h zero = f 0 (omega arith)
each_free Q (suc frees) f h (suc i) = each_free (λ j s. Q (suc j) s) frees (λ j l. f (suc j) (omega arith)) (λ j l. h (suc j) (omega arith)) i

each_later : (Q : ℕ → Sight → Type 0) (b : ℕ → List ℕ) (n k frees : ℕ)
    → ((j m : ℕ) → m ≡ n + j → j < k → Q j (holds disk_descriptor m (b m)))
    → ((i : ℕ) → k ≤ i → i < k + frees → Q i free)
    → ((i : ℕ) → k + frees ≤ i → Q i hidden)
    → (i : ℕ) → Q i (get_or (later_shown b n k frees) i hidden)
each_later Q b n zero frees p f h i = each_free Q frees (λ j l. f j (omega arith) (omega arith)) (λ j l. h j (omega arith)) i
each_later Q b n (suc k) frees p f h zero = p 0 n (omega arith) (omega arith)
each_later Q b n (suc k) frees p f h (suc i) = each_later (λ j s. Q (suc j) s) b (suc n) k frees
    (λ j m e l. p (suc j) m (omega arith) (omega arith))
    (λ j l m. f (suc j) (omega arith) (omega arith))
    (λ j l. h (suc j) (omega arith))
    i

pub each : (P : ℕ → Sight → Type 0) (moment : ℕ) (b : ℕ → List ℕ) (k frees : ℕ)
    → P 0 hidden
    → P 1 (leads sys_dir true (root_leader moment))
    → P 2 (holds sys_dir 0 root_bytes)
    → P 3 (leads disk_descriptor true (its_leader moment))
    → ((j : ℕ) → j < k → P (sector_of j) (holds disk_descriptor j (b j)))
    → ((i : ℕ) → k ≤ i → i < k + frees → P (sector_of i) free)
    → ((i : ℕ) → k + frees ≤ i → P (sector_of i) hidden)
    → (i : ℕ) → P i (get_or (shown moment b k frees) i hidden)
each P moment b k frees p0 p1 p2 p3 pages f h zero = p0
each P moment b k frees p0 p1 p2 p3 pages f h (suc zero) = p1
each P moment b k frees p0 p1 p2 p3 pages f h (suc (suc zero)) = p2
each P moment b k frees p0 p1 p2 p3 pages f h (suc (suc (suc zero))) = p3
each P moment b k frees p0 p1 p2 p3 pages f h (suc (suc (suc (suc i)))) = each_later (λ j s. P (sector_of j) s) b 0 k frees
    (λ j m e l. let z : j ≡ m = omega arith in subst (λ n. P (sector_of j) (holds disk_descriptor n (b n))) z (pages j l))
    f h i

-- each page is in its sector
page_later : (b : ℕ → List ℕ) (n k frees j m : ℕ) → m ≡ n + j → j < k → get_or (later_shown b n k frees) j hidden ≡ holds disk_descriptor m (b m)
page_later b n zero frees j m e l = absurd (omega arith)
page_later b n (suc k) frees zero m e l = let z : n ≡ m = omega arith in ap (λ i. holds disk_descriptor i (b i)) z
page_later b n (suc k) frees (suc j) m e l = page_later b (suc n) k frees j m (omega arith) (omega arith)

pub page_shown_at : (moment : ℕ) (b : ℕ → List ℕ) (k frees j : ℕ) → j < k → get_or (shown moment b k frees) (sector_of j) hidden ≡ holds disk_descriptor j (b j)
page_shown_at moment b k frees j l = page_later b 0 k frees j j (omega arith) l

-- ---- the file and the page that a sector shows
abbrev pub fid_in : Sight → Fid
fid_in hidden = sys_dir
fid_in free = sys_dir
fid_in stray = sys_dir
fid_in (leads f readable l) = f
fid_in (holds f n bytes) = f

abbrev pub page_in : Sight → ℕ
page_in hidden = 0
page_in free = 0
page_in stray = 0
page_in (leads f readable l) = 0
page_in (holds f n bytes) = n

pub other : (f g : Fid) → is_fid f g ≡ false → g ≡ f → ⊥
other f g apart e = let t : is_fid f g ≡ true = ap (is_fid f) e ∙ is_fid-itself f in cc

-- a file is SysDir, DiskDescriptor, or another one
pub by_file : (f : Fid) (P : Type 0) → (f ≡ sys_dir → P) → (f ≡ disk_descriptor → P) → (is_fid f sys_dir ≡ false → is_fid f disk_descriptor ≡ false → P) → P
by_file f P root its others = elim (is_fid f sys_dir) as (λ b. is_fid f sys_dir ≡ b → P) [
  | true ↦ λ e. root (same_fid f sys_dir e)
  | false ↦ λ a. elim (is_fid f disk_descriptor) as (λ b. is_fid f disk_descriptor ≡ b → P) [
    | true ↦ λ e. its (same_fid f disk_descriptor e)
    | false ↦ λ b. others a b
  ] refl
] refl

-- ---- DiskDescriptor's pages and their sectors
abbrev pub its_pages : (ℕ → List ℕ) → ℕ → ℕ → List PageAt
its_pages b n zero = []
its_pages b n (suc k) = (sector_of n, b n) ∷ its_pages b (suc n) k

pub length-its_pages : (b : ℕ → List ℕ) (n k : ℕ) → length (its_pages b n k) ≡ k
length-its_pages b n zero = refl
length-its_pages b n (suc k) = ap suc (length-its_pages b (suc n) k)

pub its_seated : (ss : List Sight) (b : ℕ → List ℕ) (n k : ℕ) → ((j : ℕ) → j < n + k → get_or ss (sector_of j) hidden ≡ holds disk_descriptor j (b j)) → Seated ss disk_descriptor n (its_pages b n k)
its_seated ss b n zero shows = tt
its_seated ss b n (suc k) shows = (shows n (omega arith), its_seated ss b (suc n) k (λ j l. shows j (omega arith)))

pub its_seat : (b : ℕ → List ℕ) (n k j : ℕ) → n ≤ j → j < n + k → IsSeat n (its_pages b n k) j (sector_of j)
its_seat b n zero j low l = absurd (omega arith)
its_seat b n (suc k) j low l = elim (cases_eq j n) [
  | inl e ↦ inl (e, ap sector_of e)
  | inr m ↦ inr (its_seat b (suc n) k j (omega arith) (omega arith))
]

-- all but the last are full
pub its_laid : (b : ℕ → List ℕ) (n k : ℕ) → ((j : ℕ) → j < n + k → length (b j) ≡ 512) → length (b (n + k)) < 512 → IsLaid (its_pages b n (suc k))
its_laid b n zero full last = let z : n + 0 ≡ n = omega arith in lt-ltb (length (b n)) 512 (subst (λ m. length (b m) < 512) z last)
its_laid b n (suc k) full last =
    let z : n + suc k ≡ suc n + k = omega arith in
    (full n (omega arith), its_laid b (suc n) k (λ j l. full j (omega arith)) (subst (λ m. length (b m) < 512) z last))
