-- The bytes and the words of a file that gets a page more.
use Rattle.std.proofs.Common.{[], ◌*◌, ◌++◌, ◌+◌, ◌<◌, ◌∙◌, ◌∷◌, ◌≡◌, List, Option, Some, ap, append-nil, append_assoc, arith, cond, length, nat_lt, refl, suc, sym, zero, ℕ}
use Rattle.std.proofs.lemmas.Bool.{lt-ltb}
use Rattle.laws_room.specs.alto_words.specs.declared.fid.Fid.{Fid}
use Rattle.laws_room.specs.disk_records.specs.Packs.{after}
use Rattle.laws_room.specs.pack_model.specs.reading.Bytes.{bytes_of, words_of}
use Rattle.laws_room.specs.pack_model.specs.reading.Files.{file_bytes, joined, most_pages, page}
use Rattle.laws_room.specs.pack_model.specs.reading.Sights.{Sight}
use Rattle.laws_room.specs.pack_model.specs.reading.SlotWords.{space_words}
use Rattle.laws_room.specs.pack_model.specs.reading.Slots.{IsEven, IsSlot, Reads, slots}
use Rattle.laws_room.specs.pack_model.specs.reading.Slots.IsEven.{none as no_bytes, two}
use Rattle.laws_room.specs.pack_model.specs.reading.Slots.Item.{space}
use Rattle.laws_room.specs.pack_model.specs.reading.Slots.Reads.{next as next_slot, none as no_slots}
use Rattle.laws_room.specs.pack_laws.proofs.Joining.{continue, joined-suc, most_is}
use Rattle.laws_room.specs.laws_record.proofs.Heads.{all_read}

-- ---- bytes of pages
-- a file whose last page gets full, and ends with the page after it
joined_grows : (fuel : ℕ) (old new : ℕ → Option (List ℕ)) (k : ℕ) (a c e more : List ℕ) → suc k < fuel → ((j : ℕ) → j < k → (x : List ℕ) × (old j ≡ Some x) × (length x ≡ 512)) → ((j : ℕ) → j < k → new j ≡ old j)
    → old k ≡ Some a → length a < 512 → new k ≡ Some c → length c ≡ 512 → new (suc k) ≡ Some e → length e < 512 → c ++ e ≡ a ++ more → joined fuel new ≡ joined fuel old ++ more
joined_grows zero old new k a c e more less full same was short now long after brief both = absurd (omega arith)
joined_grows (suc zero) old new k a c e more less full same was short now long after brief both = absurd (omega arith)
joined_grows (suc (suc fuel)) old new zero a c e more less full same was short now long after brief both =
    let rest : List ℕ = joined (suc fuel) (λ n. new (suc n)) in
    let ends : rest ≡ e =
    joined-suc fuel (λ n. new (suc n)) ∙ ap (λ x. continue x (joined fuel (λ n. new (suc (suc n))))) after ∙ ap (λ t. cond t e (e ++ joined fuel (λ n. new (suc (suc n))))) (lt-ltb (length e) 512 brief) in
    joined-suc (suc fuel) new ∙ ap (λ x. continue x rest) now ∙ ap (λ n. cond (nat_lt n 512) c (c ++ rest)) long ∙ ap (λ x. c ++ x) ends ∙ both
    ∙ ap (λ x. x ++ more) (sym (joined-suc (suc fuel) old ∙ ap (λ x. continue x (joined (suc fuel) (λ n. old (suc n)))) was ∙ ap (λ t. cond t a (a ++ joined (suc fuel) (λ n. old (suc n)))) (lt-ltb (length a) 512 short)))
joined_grows (suc (suc fuel)) old new (suc k) a c e more less full same was short now long after brief both =
    let one = full 0 (omega arith) in
    let x : List ℕ = one.0 in
    let js : List ℕ = joined (suc fuel) (λ n. new (suc n)) in
    let is : List ℕ = joined (suc fuel) (λ n. old (suc n)) in
    let more_is : js ≡ is ++ more = joined_grows (suc fuel) (λ n. old (suc n)) (λ n. new (suc n)) k a c e more (omega arith) (λ j l. full (suc j) (omega arith)) (λ j l. same (suc j) (omega arith)) was short now long after brief both in
    joined-suc (suc fuel) new ∙ ap (λ y. continue y js) (same 0 (omega arith) ∙ one.1) ∙ ap (λ n. cond (nat_lt n 512) x (x ++ js)) one.2 ∙ ap (λ z. x ++ z) more_is ∙ sym (append_assoc x is more)
    ∙ ap (λ z. z ++ more) (sym (joined-suc (suc fuel) old ∙ ap (λ y. continue y is) one.1 ∙ ap (λ n. cond (nat_lt n 512) x (x ++ is)) one.2))

pub bytes_grow : (ss tt : List Sight) (f : Fid) (k : ℕ) (a c e more : List ℕ) → suc k < 65535 → ((j : ℕ) → j < k → (x : List ℕ) × (page ss f j ≡ Some x) × (length x ≡ 512)) → ((j : ℕ) → j < k → page tt f j ≡ page ss f j)
    → page ss f k ≡ Some a → length a < 512 → page tt f k ≡ Some c → length c ≡ 512 → page tt f (suc k) ≡ Some e → length e < 512 → c ++ e ≡ a ++ more → file_bytes tt f ≡ file_bytes ss f ++ more
unfolding file_bytes
bytes_grow ss tt f k a c e more less = joined_grows most_pages (page ss f) (page tt f) k a c e more (let z = most_is in omega arith)

-- bytes in whole words
pub even_words : (ws : List ℕ) → IsEven (bytes_of ws)
even_words [] = no_bytes
even_words (w ∷ ws) = two (even_words ws)

pub even_append : (a b : List ℕ) → IsEven a → IsEven b → IsEven (a ++ b)
even_append [] b no_bytes e = e
even_append _ b (two {bytes = a} x) e = two (even_append a b x e)

pub words_append : (a b : List ℕ) → IsEven a → words_of (a ++ b) ≡ words_of a ++ words_of b
words_append [] b no_bytes = refl
words_append _ b (two {a = x} {b = y} {bytes = a} e) = ap (λ r. (x * 256 + y) ∷ r) (words_append a b e)

-- ---- one free slot
page_slot : IsSlot (space_words 256) (space 256)
page_slot = record { some = omega arith; most = omega arith; first = refl; reads = refl; size = refl }

pub one_slot : Reads (space_words 256) (space 256 ∷ [])
one_slot = next_slot (sym (append-nil (space_words 256))) page_slot no_slots

pub one_item : slots (space_words 256) ≡ space 256 ∷ []
one_item = (all_read (space_words 256) (space 256 ∷ []) one_slot).0
