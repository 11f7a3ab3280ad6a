-- Sectors for pages that DiskDescriptor lacks.
use Rattle.std.proofs.Common.{[], ◌+◌, ◌<◌, ◌∙◌, ◌∷◌, ◌≡◌, ◌≤◌, ◌⊎◌, Bool, List, None, Option, Some, ap, arith, eq-eqb, false, get_or, inl, inr, le-leb, not, refl, suc, sym, true, zero, ℕ}
use Rattle.std.proofs.lemmas.Bool.{cases_lt}
use Rattle.std.specs.Option.{is_some}
use Rattle.std.specs.Prelude.{◌&&◌, ◌||◌, cond}
use Rattle.laws_room.specs.alto_words.specs.declared.fid.Fid.{Fid}
use Rattle.laws_room.specs.alto_words.specs.Fid.{disk_descriptor, sys_dir}
use Rattle.laws_room.specs.disk_records.specs.Packs.{Pack, carried, is_free_at}
use Rattle.laws_room.specs.pack_model.specs.reading.Bodies.{body_of}
use Rattle.laws_room.specs.pack_model.specs.reading.Files.{carries_page, file_bytes, leader, lives, numbered, page, place}
use Rattle.laws_room.specs.pack_model.specs.reading.Leaders.{Leader}
use Rattle.laws_room.specs.pack_model.specs.reading.Model.{descriptor_pages}
use Rattle.laws_room.specs.pack_model.specs.reading.Sights.{Sight, sights}
use Rattle.laws_room.specs.pack_model.specs.reading.Sights.Sight.{free, hidden}
use Rattle.laws_room.specs.pack_model.specs.scavenger.Needed.{descriptor_lacks, missing, needed, page_lacks}
use Rattle.laws_room.specs.pack_model.specs.scavenger.Reports.{freed_sectors}
use Rattle.laws_room.specs.pack_model.specs.scavenger.Scavenging.{Scavengeable}
use Rattle.laws_room.specs.pack_model.specs.sessions.Descriptor.{data_pages}
use Rattle.laws_room.specs.pack_model.specs.states.InUse.{counts, how_many, in_use, is_available, is_free_sight, is_good, is_place, is_within, last_page, one_if}
use Rattle.laws_room.specs.pack_model.specs.states.Sentences.{EachOnce, IsUsed}
use Rattle.laws_room.specs.pack_laws.proofs.Placing.{no_page}
use Rattle.laws_room.specs.laws_contents.proofs.pages.Laws.{carried_once_is_in_place}
use Rattle.laws_room.specs.laws_record.proofs.Carried.{carried_shows}
use Rattle.laws_room.specs.laws_record.proofs.Reading.{get_by, read_file}
use Rattle.laws_mend.proofs.inside.Counted.{carried_in_use}
use Rattle.laws_mend.proofs.inside.Counting.{freed_and_free}
use Rattle.laws_mend.proofs.inside.Filed.{lives_place}
use Rattle.laws_mend.proofs.inside.FreeOnes.{needed_is_free, shown_free, some_free}
use Rattle.laws_mend.proofs.inside.Lacked.{file_is_counted, lacking_is_needed, root_taken}
use Rattle.laws_mend.specs.NumberLaws.{LackingDescriptorPageIsFree}
use Rattle.laws_mend.specs.Parts.{RootedBut, Used}

-- ---- how many sectors carry some pages
none_pass : (u : Sight → Bool) (xs : List Sight) → ((i : ℕ) → u (get_or xs i hidden) ≡ true → ⊥) → how_many u xs ≡ 0
none_pass u [] h = refl
none_pass u (x ∷ xs) h = let rest = none_pass u xs (λ i. h (suc i)) in by (u x) refl rest
  where
    by : (b : Bool) → u x ≡ b → how_many u xs ≡ 0 → one_if (u x) + how_many u xs ≡ 0
    by true e rest = absurd (h 0 e)
    by false e rest = (let z = ap one_if e in omega arith)

one_passes : (u : Sight → Bool) (xs : List Sight) → ((i j : ℕ) → u (get_or xs i hidden) ≡ true → u (get_or xs j hidden) ≡ true → i ≡ j) → how_many u xs ≤ 1
one_passes u [] h = omega arith
one_passes u (x ∷ xs) h = let rest = one_passes u xs (λ i j a b. let c = h (suc i) (suc j) a b in omega arith) in by (u x) refl rest
  where
    by : (b : Bool) → u x ≡ b → how_many u xs ≤ 1 → one_if (u x) + how_many u xs ≤ 1
    by true e rest = (let z = ap one_if e in let r = none_pass u xs (λ i is. let c = h 0 (suc i) e is in absurd (omega arith)) in omega arith)
    by false e rest = (let z = ap one_if e in omega arith)

-- one of two tests
either_many : (t u v : Sight → Bool) (xs : List Sight) → ((s : Sight) → one_if (t s) ≤ one_if (u s) + one_if (v s)) → how_many t xs ≤ how_many u xs + how_many v xs
either_many t u v [] h = omega arith
either_many t u v (x ∷ xs) h = let a = h x in let b = either_many t u v xs h in omega arith

-- no more than pass another test
fewer : (t : ℕ × Sight → Bool) (u : Sight → Bool) (from : ℕ) (xs : List Sight) → ((i k : ℕ) → k ≡ from + i → t (k, get_or xs i hidden) ≡ true → u (get_or xs i hidden) ≡ true) → how_many t (numbered from xs) ≤ how_many u xs
fewer t u from [] h = omega arith
fewer t u from (x ∷ xs) h =
    let rest = fewer t u (suc from) xs (λ i k e. h (suc i) k (omega arith)) in
    by (t (from, x)) refl rest
  where
    by : (b : Bool) → t (from, x) ≡ b → how_many t (numbered (suc from) xs) ≤ how_many u xs → one_if (t (from, x)) + how_many t (numbered (suc from) xs) ≤ one_if (u x) + how_many u xs
    by true e rest = (let z = ap one_if e in let y = ap one_if (h 0 from (omega arith) e) in omega arith)
    by false e rest = (let z = ap one_if e in omega arith)

-- the data pages of a file with numbers up to this one
among : Fid → ℕ → Sight → Bool
among f zero s = false
among f (suc k) s = carries_page f (suc k) s || among f k s

among_many : (ss : List Sight) (f : Fid) (k : ℕ) → EachOnce ss → how_many (among f k) ss ≤ k
unfolding among
among_many ss f zero alone = let z = none_pass (λ s. false) ss (λ i e. let c : false ≡ true = e in cc) in omega arith
among_many ss f (suc k) alone =
    let rest = among_many ss f k alone in
    let one = one_passes (carries_page f (suc k)) ss (λ i j a b. alone f (suc k) i j a b) in
    let both = either_many (among f (suc k)) (carries_page f (suc k)) (among f k) ss (λ s. or_many (carries_page f (suc k) s) (among f k s)) in
    omega arith
  where
    or_many : (a b : Bool) → one_if (a || b) ≤ one_if a + one_if b
    or_many true b = omega arith
    or_many false b = omega arith

or_first : (a b : Bool) → a ≡ true → (a || b) ≡ true
or_first true b e = refl
or_first false b e = cc

or_last : (a b : Bool) → b ≡ true → (a || b) ≡ true
or_last true b e = refl
or_last false b e = e

is_among : (f : Fid) (k n : ℕ) (s : Sight) → n < k → carries_page f (suc n) s ≡ true → among f k s ≡ true
unfolding among
is_among f zero n s less has = absurd (omega arith)
is_among f (suc k) n s less has = elim (cases_lt n k) [
  | inl below ↦ or_last (carries_page f (suc k) s) (among f k s) (is_among f k n s below has)
  | inr past ↦ (let z : n ≡ k = omega arith in or_first (carries_page f (suc k) s) (among f k s) (ap (λ m. carries_page f (suc m) s) (sym z) ∙ has))
]

-- ---- tests
and_none : (a c : Bool) → ((a && false) && c) ≡ false
and_none true c = refl
and_none false c = refl

and_first : (a c : Bool) → ((a && true) && c) ≡ true → a ≡ true
and_first true c e = refl
and_first false c e = cc

and_last : (a c : Bool) → c ≡ false → (a && c) ≡ false
and_last true c e = e
and_last false c e = refl

-- ---- while DiskDescriptor doesn't live
-- an available sector that isn't free carries one of its data pages
module _ (p : Pack) (r : RootedBut p) where
  goes_among : (i k : ℕ) → k ≡ 0 + i → (is_available p.shape (sights p) (k, get_or (sights p) i hidden) && not (is_free_sight (get_or (sights p) i hidden))) ≡ true → among disk_descriptor (data_pages p.shape) (get_or (sights p) i hidden) ≡ true
  goes_among i k e goes =
      let z : k ≡ i = omega arith in
      let here : (is_available p.shape (sights p) (i, get_or (sights p) i hidden) && not (is_free_sight (get_or (sights p) i hidden))) ≡ true =
      ap (λ j. is_available p.shape (sights p) (j, get_or (sights p) i hidden) && not (is_free_sight (get_or (sights p) i hidden))) (sym z) ∙ goes in
      elim (r.used i) [
        | inl used ↦ absurd (used_stays (get_or (sights p) i hidden) (in_use p.shape (sights p) (i, get_or (sights p) i hidden)) here used)
        | inr page_of_it ↦ is_among disk_descriptor (data_pages p.shape) page_of_it.0 (get_or (sights p) i hidden) page_of_it.1 (carried_shows p i (record { fid = disk_descriptor; number = suc page_of_it.0 }) page_of_it.2)
      ]
    where
      used_stays : (s : Sight) (b : Bool) → ((is_good s && not b) && not (is_free_sight s)) ≡ true → (is_good s ≡ true → (s ≡ free) ⊎ (b ≡ true)) → ⊥
      used_stays s true goes used = let c : false ≡ true = sym (and_none (is_good s) (not (is_free_sight s))) ∙ goes in cc
      used_stays s false goes used = elim (used (and_first (is_good s) (not (is_free_sight s)) goes)) [
        | inl is ↦ (let c : false ≡ true = sym (and_last (is_good s && true) (not (is_free_sight s)) (ap (λ x. not (is_free_sight x)) is)) ∙ goes in cc)
        | inr e ↦ cc
      ]

  few_go : freed_sectors p.shape (sights p) ≤ data_pages p.shape
  few_go =
      let a = fewer (λ e. is_available p.shape (sights p) e && not (is_free_sight e.1)) (among disk_descriptor (data_pages p.shape)) 0 (sights p) goes_among in
      let b = among_many (sights p) disk_descriptor (data_pages p.shape) r.ended.cleared.once in
      omega arith

  dead_needs : lives (sights p) disk_descriptor ≡ false → data_pages p.shape + 1 ≤ needed p.shape (sights p)
  unfolding needed
  dead_needs dead = let e : descriptor_lacks p.shape (sights p) ≡ descriptor_pages p.shape = ap (λ b. cond b 0 (descriptor_pages p.shape)) dead in omega arith

  dead_free : Scavengeable p → lives (sights p) disk_descriptor ≡ false → (at : ℕ) × (is_free_at p at ≡ true)
  dead_free ready dead =
      let both = freed_and_free p in
      let few = few_go in
      let some = dead_needs dead in
      let room = ready.room in
      let many : 0 < how_many is_free_sight (sights p) = omega arith in
      let f = some_free (sights p) many in
      (f.0, shown_free p f.0 f.1)

  -- ---- once it lives
  pub living_used : lives (sights p) disk_descriptor ≡ true → Used p
  living_used live = record { ended = r.ended; used = λ i. by i (r.used i) }
    where
      counted : (n : ℕ) → n < data_pages p.shape → (l : Option Leader) → leader (sights p) disk_descriptor ≡ l → counts p.shape (sights p) disk_descriptor (suc n) ≡ true
      counted n less None e = absurd (let c : false ≡ true = sym (ap is_some e) ∙ live in cc)
      counted n less (Some l) e =
          ap (is_within p.shape disk_descriptor (suc n)) (get_by (sights p) disk_descriptor l (file_bytes (sights p) disk_descriptor) e refl)
          ∙ le-leb (suc n) (last_page p.shape disk_descriptor (body_of disk_descriptor (file_bytes (sights p) disk_descriptor))) (omega arith)

      by : (i : ℕ) → IsUsed p.shape (sights p) i ⊎ ((n : ℕ) × (n < data_pages p.shape) × (carried p i ≡ Some (record { fid = disk_descriptor; number = suc n }))) → IsUsed p.shape (sights p) i
      by i (inl used) = used
      by i (inr x) = λ good. inr
          (carried_in_use p i (record { fid = disk_descriptor; number = suc x.0 }) x.2
          ∙ (λ j. counted x.0 x.1 (leader (sights p) disk_descriptor) refl j && is_place i (carried_once_is_in_place p (record { fid = disk_descriptor; number = suc x.0 }) i r.ended.cleared.once x.2 j))
          ∙ eq-eqb i i refl)

  one_missing : (k m : ℕ) → m < k → page (sights p) disk_descriptor m ≡ None → 1 ≤ missing (sights p) disk_descriptor k
  one_missing zero m less none = absurd (omega arith)
  one_missing (suc k) m less none = elim (cases_lt m k) [
    | inl below ↦ (let rest = one_missing k m below none in omega arith)
    | inr last ↦ (let z : m ≡ k = omega arith in let here : page_lacks (sights p) disk_descriptor k ≡ 1 = ap (page_lacks (sights p) disk_descriptor) (sym z) ∙ ap (λ x. one_if (not (is_some x))) none in omega arith)
  ]

  living_free : Scavengeable p → lives (sights p) disk_descriptor ≡ true → (m : ℕ) → m < data_pages p.shape → page (sights p) disk_descriptor m ≡ None → (at : ℕ) × (is_free_at p at ≡ true)
  living_free ready live m less none = by (leader (sights p) disk_descriptor) refl
    where
      by : (l : Option Leader) → leader (sights p) disk_descriptor ≡ l → (at : ℕ) × (is_free_at p at ≡ true)
      by None e = absurd (let c : false ≡ true = sym (ap is_some e) ∙ live in cc)
      by (Some l) e =
          let counted = file_is_counted p.shape (sights p) disk_descriptor (read_file disk_descriptor (file_bytes (sights p) disk_descriptor) l) (get_by (sights p) disk_descriptor l (file_bytes (sights p) disk_descriptor) e refl) in
          let one = one_missing (last_page p.shape disk_descriptor (body_of disk_descriptor (file_bytes (sights p) disk_descriptor))) m (omega arith) none in
          let all = lacking_is_needed p in
          needed_is_free p (living_used live) ready (omega arith)

pub lacking_descriptor_page_is_free : LackingDescriptorPageIsFree
lacking_descriptor_page_is_free p n ready r few lacks =
    let at = by (lives (sights p) disk_descriptor) refl n few lacks in
    (at.0, root_taken p sys_dir r.root.1 r.root.0 r.root.2 at.0 at.1, at.1)
  where
    by : (b : Bool) → lives (sights p) disk_descriptor ≡ b → (n : ℕ) → n ≤ data_pages p.shape → place (sights p) disk_descriptor n ≡ None → (at : ℕ) × (is_free_at p at ≡ true)
    by false dead n few lacks = dead_free p r ready dead
    by true live zero few lacks = absurd (let c : true ≡ false = sym live ∙ lives_place (sights p) disk_descriptor ∙ ap is_some lacks in cc)
    by true live (suc m) few lacks = living_free p r ready live m (omega arith) (no_page (sights p) disk_descriptor m lacks)
