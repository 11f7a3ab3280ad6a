-- The mark of DiskDescriptor, by its first data page.
use Rattle.std.proofs.Common.{Bool, List, None, Option, Some, [], ap, arith, cond, eqb-true, false, get_or, inl, inr, length, ltb-false, nat_lt, refl, suc, sym, take, true, zero, ℕ, ◌&&◌, ◌*◌, ◌++◌, ◌+◌, ◌-◌, ◌<◌, ◌==◌, ◌∙◌, ◌∷◌, ◌≡◌, ◌≢◌, ◌≤◌, ◌⊎◌}
use Rattle.std.proofs.lemmas.Bool.{cases_lt, eqb-false}
use Rattle.laws_operation.specs.alto_words.specs.Fid.{disk_descriptor}
use Rattle.laws_operation.specs.disk_records.specs.Addresses.{is_right_header}
use Rattle.laws_operation.specs.disk_records.specs.Labels.{page_of, tag}
use Rattle.laws_operation.specs.disk_records.specs.Packs.{Pack, after, carried, is_usable, sector_at}
use Rattle.laws_operation.specs.disk_records.specs.Words.{word}
use Rattle.laws_operation.specs.disk_records.specs.declared.records.Event.TheVariants.{Wrote}
use Rattle.laws_operation.specs.disk_records.specs.declared.records.Page.{Page}
use Rattle.laws_operation.specs.pack_model.specs.reading.Bytes.{bytes_of, words_of}
use Rattle.laws_operation.specs.pack_model.specs.reading.Files.{file_bytes, joined, most_pages, page, place}
use Rattle.laws_operation.specs.pack_model.specs.reading.Sights.{Sight, sights}
use Rattle.laws_operation.specs.pack_model.specs.reading.Sights.Sight.{hidden, holds}
use Rattle.laws_operation.specs.pack_model.specs.states.Sound.{mark_clean, mark_of}
use Rattle.laws_room.specs.MarkLaws.{OpenedIsUnmarked, UnmarkedIsUnclean, UnmarkedStays, mark_page}
use Rattle.laws_operation.specs.pack_laws.proofs.Guarding.{carried_parts, front_from, here_written, other_kept, usable_within}
use Rattle.laws_operation.specs.pack_laws.proofs.Joining.{Reaches-none, continue, joined_at, most_is, skip}
use Rattle.laws_operation.specs.pack_laws.proofs.Placing.{no_page, page_of_place}
use Rattle.laws_operation.specs.pack_laws.specs.FileLaws.{CarriesLowest}
use Rattle.laws_record.proofs.Copying.{place_carried}
use Rattle.laws_record.proofs.Recording.{carried_sight}
use Rattle.laws_record.specs.QuietLaws.{with_value}
use Rattle.laws_operation.specs.pack_laws.proofs.files.Laws.{places_are_lowest}

-- the mark in the counted bytes of a page
abbrev mark_in : Option (List ℕ) → ℕ
mark_in None = 0
mark_in (Some bytes) = word (words_of bytes) 6

-- a word in front is there whatever follows
word_front : (n : ℕ) (b r : List ℕ) → n * 2 + 2 ≤ length b → get_or (words_of (b ++ r)) n 0 ≡ get_or (words_of b) n 0
word_front n [] r l = absurd (omega arith)
word_front n (x ∷ []) r l = absurd (omega arith)
word_front zero (x ∷ y ∷ b) r l = refl
word_front (suc n) (x ∷ y ∷ b) r l = word_front n b r (omega arith)

-- the mark is read off that page
mark_of_page : (ss : List Sight) → mark_of ss ≡ mark_in (page ss disk_descriptor 0)
unfolding file_bytes
mark_of_page ss =
    let l : 0 < most_pages = rw most_is (omega arith) in
    ap (λ b. word (words_of b) 6) (joined_at 0 most_pages (page ss disk_descriptor) l (Reaches-none (page ss disk_descriptor))) ∙ by (page ss disk_descriptor 0)
  where
    by : (r : Option (List ℕ)) → word (words_of (continue r (joined (most_pages - 1) (skip 1 (page ss disk_descriptor))))) 6 ≡ mark_in r
    by None = refl
    by (Some b) = full (nat_lt (length b) 512) refl
      where
        full : (c : Bool) → nat_lt (length b) 512 ≡ c → word (words_of (cond c b (b ++ joined (most_pages - 1) (skip 1 (page ss disk_descriptor))))) 6 ≡ word (words_of b) 6
        full true e = refl
        full false e = let m : 512 ≤ length b = ltb-false (length b) 512 e in word_front 6 b _ (omega arith)

-- a word of counted bytes is the value's, or isn't there
taken_word : (c n : ℕ) (v : List ℕ) → (get_or (words_of (take c (bytes_of v))) n 0 ≡ get_or v n 0) ⊎ (get_or (words_of (take c (bytes_of v))) n 0 ≡ 0)
taken_word zero n v = inr refl
taken_word (suc zero) n [] = inr refl
taken_word (suc zero) n (w ∷ v) = inr refl
taken_word (suc (suc c)) n [] = inr refl
taken_word (suc (suc c)) zero (w ∷ v) = inl (omega arith)
taken_word (suc (suc c)) (suc n) (w ∷ v) = taken_word c n v

-- ---- the laws
-- an unmarked pack isn't clean
pub unmarked_is_unclean : UnmarkedIsUnclean
unmarked_is_unclean p unmarked clean = by (place (sights p) disk_descriptor 1) refl
  where
    mark : mark_in (page (sights p) disk_descriptor 0) ≡ mark_clean
    mark = sym (mark_of_page (sights p)) ∙ clean.mark

    by : (r : Option ℕ) → place (sights p) disk_descriptor 1 ≡ r → ⊥
    by None e = let z : ◌≡◌ {A = ℕ} 0 1 = sym (ap mark_in (no_page (sights p) disk_descriptor 0 e)) ∙ mark in omega arith
    by (Some at) e =
        let h = page_of_place (sights p) disk_descriptor 0 at e in
        let c : ℕ = (tag (sector_at p at).label).bytes in
        let v : List ℕ = (sector_at p at).value in
        let same : holds disk_descriptor 0 h.bytes ≡ holds disk_descriptor 0 (take c (bytes_of v)) = sym (h.shows hidden) ∙ carried_sight p at mark_page (place_carried p mark_page at e) in
        let bytes : h.bytes ≡ take c (bytes_of v) = cc in
        let m : word (words_of (take c (bytes_of v))) 6 ≡ mark_clean = ap (λ b. word (words_of b) 6) (sym bytes) ∙ sym (ap mark_in h.page_is) ∙ mark in
        elim (taken_word c 6 v) [
          | inl is ↦ unmarked at e (sym is ∙ m)
          | inr none ↦ (let z : ◌≡◌ {A = ℕ} 0 1 = sym none ∙ m in omega arith)
        ]

-- the place of a page is one alone
lowest_one : (p : Pack) (x : Page) (at i : ℕ) → CarriesLowest p x at → CarriesLowest p x i → i ≡ at
lowest_one p x at i a b = elim (cases_lt i at) [
  | inl low ↦ absurd (a.lowest i low b.here)
  | inr high ↦ elim (cases_lt at i) [
    | inl low ↦ absurd (b.lowest at low a.here)
    | inr same ↦ omega arith
  ]
]

-- a value write leaves what sectors carry
value_carries : (p : Pack) (at : ℕ) (value : List ℕ) (i : ℕ) → carried (with_value p at value) i ≡ carried p i
value_carries p at value i = let front = front_from p.sectors at i value in λ j. cond (nat_lt 0 i && is_right_header p.shape i (front.0 j)) (page_of (front.1 j)) None

-- another mark is written
pub opened_is_unmarked : OpenedIsUnmarked
opened_is_unmarked p at value is other i placed mark =
    let q : Pack = with_value p at value in
    let was = (places_are_lowest p mark_page).lowest at is in
    let now = (places_are_lowest q mark_page).lowest i placed in
    let here : CarriesLowest p mark_page i = record { here = sym (value_carries p at value i) ∙ now.here; lowest = λ j low c. now.lowest j low (value_carries p at value j ∙ c) } in
    let same : i ≡ at = lowest_one p mark_page at i was here in
    let within = usable_within p at (carried_parts p at mark_page was.here).0 in
    other (sym (ap (λ k. word (sector_at q k).value 6) same ∙ ap (λ s. word s.value 6) (here_written p at 2 value within)) ∙ mark)

-- a record write elsewhere, or with another mark
pub unmarked_stays : UnmarkedStays
unmarked_stays p at part words unmarked stays other i placed mark = elim (i == at) as (λ b. (i == at) ≡ b → ⊥) [
  | true ↦ λ e. (let z : i ≡ at = eqb-true i at e in other (ap (carried q) (sym z) ∙ now.here) (ap (λ k. word (sector_at q k).value 6) (sym z) ∙ mark))
  | false ↦ λ e. elsewhere (eqb-false i at e)
] refl
  where
    q : Pack
    q = after p (Wrote at part words ∷ [])

    now : CarriesLowest q mark_page i
    now = (places_are_lowest q mark_page).lowest i placed

    -- other sectors carry what they carried
    kept : (j : ℕ) → j ≢ at → carried q j ≡ carried p j
    kept j apart = ap (λ s. cond (is_usable p.shape j s) (page_of s.label) None) (other_kept p at part words j apart)

    elsewhere : i ≢ at → ⊥
    elsewhere apart = by (place (sights p) disk_descriptor 1) refl
      where
        here : carried p i ≡ Some mark_page
        here = sym (kept i apart) ∙ now.here

        by : (r : Option ℕ) → place (sights p) disk_descriptor 1 ≡ r → ⊥
        by None e = (places_are_lowest p mark_page).none e i here
        by (Some k) e = elim (k == at) as (λ b. (k == at) ≡ b → ⊥) [
          | true ↦ λ t. (
              let z : k ≡ at = eqb-true k at t in
              let was = (places_are_lowest p mark_page).lowest k e in
              let c : carried q at ≡ Some mark_page = stays (e ∙ ap Some z) in
              elim (cases_lt at i) [ inl low ↦ now.lowest at low c | inr high ↦ was.lowest i (omega arith) here ]
              )
          | false ↦ λ t. (
              let far = eqb-false k at t in
              let was = (places_are_lowest p mark_page).lowest k e in
              let c : carried q k ≡ Some mark_page = kept k far ∙ was.here in
              elim (cases_lt k i) [
                | inl low ↦ now.lowest k low c
                | inr high ↦ elim (cases_lt i k) [
                  | inl low ↦ was.lowest i low here
                  | inr same ↦ (
                      let z : k ≡ i = omega arith in
                      unmarked i (e ∙ ap Some z) (sym (ap (λ s. word s.value 6) (other_kept p at part words i apart)) ∙ mark)
                      )
                ]
              ]
              )
        ] refl
