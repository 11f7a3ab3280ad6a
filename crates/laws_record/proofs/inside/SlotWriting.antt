-- An entry that was read is written as its words.
use Rattle.std.proofs.Common.{◌%◌, ◌*◌, ◌++◌, ◌+◌, ◌/◌, ◌<◌, ◌==◌, ◌∙◌, ◌∷◌, ◌≡◌, ◌≤◌, Bool, List, None, Some, [], ap, append-nil, arith, cond, drop, eqb-true, false, length, length-append, refl, sym, take, take-append-drop, true, ℕ}
use Rattle.std.specs.List.{list_all}
use Rattle.std.proofs.lemmas.Bool.{and_parts}
use Rattle.std.proofs.lemmas.List.{get_or-take}
use Rattle.pack_laws.specs.alto_words.specs.declared.fid.Fid.{Fid}
use Rattle.pack_laws.specs.disk_records.specs.Words.{word}
use Rattle.pack_laws.specs.pack_model.specs.reading.Bytes.{bytes_of, words_of}
use Rattle.pack_laws.specs.pack_model.specs.reading.SlotWords.{entry_words, short_name_words}
use Rattle.pack_laws.specs.pack_model.specs.reading.Slots.{entry_length, is_entry, slot_fid, slot_name, slot_of, slot_pad}
use Rattle.pack_laws.specs.pack_model.specs.reading.Slots.Item.{entry, space}
use Rattle.pack_laws.proofs.Bytes.{length-bytes_of, words_of-bytes_of}
use Rattle.laws_record.proofs.Heads.{head_of, slot_size}
use Rattle.laws_record.specs.SlotLaws.{EntryWritesBack}

-- ---- the words of a name
-- a last odd byte makes no word
odd_end : (bytes : List ℕ) (b : ℕ) → length bytes % 2 ≡ 0 → words_of (bytes ++ b ∷ []) ≡ words_of bytes
odd_end [] b e = refl
odd_end (a ∷ []) b e = absurd (omega (arith, e))
odd_end (a ∷ c ∷ bytes) b e = ap (λ r. (a * 256 + c) ∷ r) (odd_end bytes b (omega (arith, e)))

-- what follows the name in whole words is nothing, or one 0
padded : (n : ℕ) (name pad : List ℕ) → length (n ∷ (name ++ pad)) ≡ 2 * ((length name + 2) / 2) → list_all (λ b. b == 0) pad ≡ true → words_of (n ∷ (name ++ 0 ∷ [])) ≡ words_of (n ∷ (name ++ pad))
padded n name [] size blank = let s = length-append name [] in odd_end (n ∷ name) 0 (omega arith) ∙ ap (λ l. words_of (n ∷ l)) (sym (append-nil name))
padded n name (b ∷ []) size blank = let zero : b ≡ 0 = eqb-true b 0 (and_parts (b == 0) _ blank).0 in ap (λ c. words_of (n ∷ (name ++ c ∷ []))) (sym zero)
padded n name (b ∷ c ∷ pad) size blank = absurd (let s = length-append name (b ∷ c ∷ pad) in omega arith)

-- bytes are the first, as many as this says, and those after
parted : (bytes : List ℕ) → 0 < length bytes → bytes ≡ word bytes 0 ∷ (take (word bytes 0) (drop 1 bytes) ++ drop (word bytes 0) (drop 1 bytes))
parted [] some = absurd (omega arith)
parted (b ∷ bytes) some = ap (λ l. b ∷ l) (sym (take-append-drop b bytes))

-- ---- the words of an entry
entry_is : (w : List ℕ) → 6 ≤ length w → is_entry w ≡ true → entry_words (slot_fid w) (word w 5) (slot_name w) ≡ w
unfolding is_entry
entry_is (a ∷ b ∷ c ∷ d ∷ e ∷ g ∷ t) l is =
    let w : List ℕ = a ∷ b ∷ c ∷ d ∷ e ∷ g ∷ t in
    let name : List ℕ = slot_name w in
    let full = and_parts _ _ is in
    let fourth = and_parts _ _ full.0 in
    let pad = and_parts _ _ fourth.0 in
    let stored = and_parts _ _ pad.0 in
    let long = and_parts _ _ stored.0 in
    let both = and_parts _ _ long.0 in
    let first : a ≡ 1024 + length w = eqb-true _ _ both.0 in
    let size : length w ≡ entry_length (length name) = eqb-true _ _ both.1 in
    let counted : length name ≡ word (bytes_of t) 0 = eqb-true _ _ long.1 in
    let zero : e ≡ 0 = eqb-true _ _ fourth.1 in
    let bytes = length-bytes_of t in
    let whole : length name ∷ (name ++ slot_pad w) ≡ bytes_of t = (λ i. counted i ∷ (name ++ slot_pad w)) ∙ sym (parted (bytes_of t) (omega arith)) in
    let all : length (length name ∷ (name ++ slot_pad w)) ≡ 2 * ((length name + 2) / 2) = ap length whole ∙ (omega arith) in
    let short : short_name_words name ≡ t = padded (length name) name (slot_pad w) all pad.1 ∙ ap words_of whole ∙ words_of-bytes_of t in
    let head : 1024 + entry_length (length name) ≡ a = omega arith in
    λ i. head i ∷ b ∷ c ∷ d ∷ sym zero i ∷ g ∷ short i
entry_is _ l is = absurd (omega arith)

-- what words that are an entry say
entry_says : (w : List ℕ) (f : Fid) (name : List ℕ) → slot_of w ≡ Some (entry f name) → entry_words f (word w 5) name ≡ w
entry_says w f name e = by (word w 0 == length w) (is_entry w) refl e
  where
    many : 6 ≤ length w
    many = let size : entry_length (length name) ≡ length w = slot_size w (entry f name) e in omega arith

    by : (s t : Bool) → is_entry w ≡ t → cond s (Some (space (length w))) (cond t (Some (entry (slot_fid w) (slot_name w))) None) ≡ Some (entry f name) → entry_words f (word w 5) name ≡ w
    by true t is e = absurd (let clash : space (length w) ≡ entry f name = cc in cc)
    by false true is e =
        let fid : f ≡ slot_fid w = cc in
        let named : name ≡ slot_name w = cc in
        (λ i. entry_words (fid i) (word w 5) (named i)) ∙ entry_is w many is
    by false false is e = absurd cc

pub entry_writes_back : EntryWritesBack
entry_writes_back = λ words f name e.
    let n : ℕ = entry_length (length name) in
    let h = head_of words (entry f name) e in
    ap (λ a. entry_words f a name) (sym (get_or-take n words 5 0 (omega arith))) ∙ entry_says (take n words) f name h.reads
