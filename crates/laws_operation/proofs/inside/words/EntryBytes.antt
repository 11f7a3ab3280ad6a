-- The words of an entry are its slot.
use Rattle.std.proofs.Common.{Bool, List, None, Some, [], ap, arith, cond, drop, eq-eqb, eqb-true, false, length, min, refl, subst, suc, sym, take, true, zero, ℕ, ◌%◌, ◌&&◌, ◌*◌, ◌++◌, ◌+◌, ◌-◌, ◌/◌, ◌<◌, ◌==◌, ◌∙◌, ◌∷◌, ◌≡◌}
use Rattle.std.proofs.lemmas.List.{drop_at, get_or-append-add, length-append, take_at}
use Rattle.std.proofs.lemmas.List.Elements.{All-append, All-cons, All-nil}
use Rattle.std.proofs.Math.Seq.{take-append-add}
use Rattle.std.specs.List.{list_all}
use Rattle.std.specs.Prelude.{All}
use Rattle.laws_contents.specs.alto_words.specs.Fid.{is_full_name}
use Rattle.laws_contents.specs.alto_words.specs.Names.{is_stored_name}
use Rattle.laws_contents.specs.alto_words.specs.declared.fid.Fid.{Fid}
use Rattle.laws_contents.specs.disk_records.specs.Words.{word}
use Rattle.laws_contents.specs.pack_model.specs.reading.Bytes.{bytes_of, words_of}
use Rattle.laws_contents.specs.pack_model.specs.reading.SlotWords.{entry_words, short_name_words}
use Rattle.laws_contents.specs.pack_model.specs.reading.Slots.{IsSlot, entry_length, is_entry, slot_bytes, slot_fid, slot_name, slot_of, slot_pad}
use Rattle.laws_contents.specs.pack_model.specs.reading.Slots.Item.{entry, space}
use Rattle.laws_contents.specs.pack_laws.proofs.Bytes.{length-words_of}
use Rattle.laws_operation.proofs.inside.words.NameWords.{spelled_below, stored_short}
use Rattle.laws_operation.specs.DirectoryWords.{EntryWordsFit}

-- bytes survive as words, except a last odd one
whole_bytes : (bytes : List ℕ) → All (λ b. b < 256) bytes → bytes_of (words_of bytes) ≡ take (2 * (length bytes / 2)) bytes
whole_bytes [] below = refl
whole_bytes (a ∷ []) below = refl
whole_bytes (a ∷ b ∷ bytes) below =
    let low = below 1 0 (omega arith) in
    let high : (a * 256 + b) / 256 ≡ a = omega arith in
    let rest : (a * 256 + b) % 256 ≡ b = omega arith in
    let n : 2 * (suc (suc (length bytes)) / 2) ≡ suc (suc (2 * (length bytes / 2))) = omega arith in
    (λ i. high i ∷ rest i ∷ whole_bytes bytes (λ k d l. below (suc (suc k)) d (omega arith)) i) ∙ ap (λ m. take m (a ∷ b ∷ bytes)) (sym n)

-- a last 0, or nothing
blank : (k : ℕ) → list_all (λ b. b == 0) (take k (0 ∷ [])) ≡ true
blank zero = refl
blank (suc zero) = refl
blank (suc (suc k)) = refl

module _ (f : Fid) (address : ℕ) (name : List ℕ) (full : is_full_name f ≡ true) (stored : is_stored_name name ≡ true) where
  -- their number
  short_size : length (short_name_words name) ≡ (length name + 2) / 2
  short_size = let all : length (name ++ 0 ∷ []) ≡ length name + 1 = length-append name (0 ∷ []) in length-words_of (length name ∷ (name ++ 0 ∷ [])) ∙ omega arith

  pub entry_size : length (entry_words f address name) ≡ entry_length (length name)
  entry_size = let n = short_size in omega arith

  -- the bytes of its name: the length, the characters, and one 0 where that makes them even
  name_bytes_are : slot_bytes (entry_words f address name) ≡ length name ∷ (name ++ take (2 * ((length name + 2) / 2) - suc (length name)) (0 ∷ []))
  name_bytes_are =
      let all : length (name ++ 0 ∷ []) ≡ length name + 1 = length-append name (0 ∷ []) in
      let k : ℕ = 2 * ((length name + 2) / 2) - suc (length name) in
      let n : 2 * (length (length name ∷ (name ++ 0 ∷ [])) / 2) ≡ suc (length name + k) = omega arith in
      let zero_below : All (λ b. b < 256) (0 ∷ []) = All-cons (λ b. b < 256) 0 [] (omega arith) (All-nil (λ b. b < 256)) in
      whole_bytes (length name ∷ (name ++ 0 ∷ [])) (All-append (λ b. b < 256) (length name ∷ name) (0 ∷ []) (spelled_below name stored) zero_below)
      ∙ ap (λ m. take m (length name ∷ (name ++ 0 ∷ []))) n ∙ ap (λ l. length name ∷ l) (take-append-add name (0 ∷ []) k)

  name_is : slot_name (entry_words f address name) ≡ name
  name_is = ap (λ bytes. take (word bytes 0) (drop 1 bytes)) name_bytes_are ∙ take_at name (take (2 * ((length name + 2) / 2) - suc (length name)) (0 ∷ [])) (length name) refl

  pad_is : slot_pad (entry_words f address name) ≡ take (2 * ((length name + 2) / 2) - suc (length name)) (0 ∷ [])
  pad_is = ap (λ bytes. drop (word bytes 0) (drop 1 bytes)) name_bytes_are ∙ drop_at name (take (2 * ((length name + 2) / 2) - suc (length name)) (0 ∷ [])) (length name) refl

  -- all tests hold
  is_one : is_entry (entry_words f address name) ≡ true
  unfolding is_entry
  is_one =
      let size = entry_size in
      let first : (1024 + entry_length (length name) == 1024 + length (entry_words f address name)) ≡ true = eq-eqb (1024 + entry_length (length name)) (1024 + length (entry_words f address name)) (omega arith) in
      let second : (length (entry_words f address name) == entry_length (length (slot_name (entry_words f address name)))) ≡ true = eq-eqb (length (entry_words f address name)) (entry_length (length (slot_name (entry_words f address name)))) (size ∙ ap (λ n. entry_length (length n)) (sym name_is)) in
      let third : (length (slot_name (entry_words f address name)) == word (slot_bytes (entry_words f address name)) 0) ≡ true = eq-eqb (length (slot_name (entry_words f address name))) (word (slot_bytes (entry_words f address name)) 0) (ap length name_is ∙ ap (λ bytes. word bytes 0) (sym name_bytes_are)) in
      let fourth : is_stored_name (slot_name (entry_words f address name)) ≡ true = ap is_stored_name name_is ∙ stored in
      let fifth : list_all (λ b. b == 0) (slot_pad (entry_words f address name)) ≡ true = ap (list_all (λ b. b == 0)) pad_is ∙ blank (2 * ((length name + 2) / 2) - suc (length name)) in
      (λ i. first i && second i && third i && fourth i && fifth i && true && full i)

  -- so they are the entry
  pub entry_slot : IsSlot (entry_words f address name) (entry f name)
  entry_slot =
      let size = entry_size in
      let short = stored_short name stored in
      let n : (1024 + entry_length (length name)) % 1024 ≡ length (entry_words f address name) = omega arith in
      record {
        some = omega arith;
        most = omega arith;
        first = n;
        reads = reads;
        size = sym size;
      }
    where
      no_space : (1024 + entry_length (length name) == length (entry_words f address name)) ≡ false
      no_space = by (1024 + entry_length (length name) == length (entry_words f address name)) refl
        where
          by : (t : Bool) → (1024 + entry_length (length name) == length (entry_words f address name)) ≡ t → t ≡ false
          by false e = refl
          by true e = absurd (let x = eqb-true (1024 + entry_length (length name)) (length (entry_words f address name)) e in let size = entry_size in omega arith)

      reads : slot_of (entry_words f address name) ≡ Some (entry f name)
      reads =
          ap (λ t. cond t (Some (space (length (entry_words f address name)))) (cond (is_entry (entry_words f address name)) (Some (entry (slot_fid (entry_words f address name)) (slot_name (entry_words f address name)))) None)) no_space
          ∙ ap (λ t. cond t (Some (entry f (slot_name (entry_words f address name)))) None) is_one ∙ ap (λ n. Some (entry f n)) name_is

-- words left over have a free slot, whose first word says them
left_words : (left : ℕ) → 0 < left → cond (left == 0) [] (left ∷ []) ≡ left ∷ []
left_words left some = by (left == 0) refl
  where
    by : (t : Bool) → (left == 0) ≡ t → cond t [] (left ∷ []) ≡ left ∷ []
    by true e = absurd (let z = eqb-true left 0 e in omega arith)
    by false e = refl

-- and as many words as there are
left_size : (left : ℕ) → length (cond (left == 0) [] (left ∷ [])) ≡ min left 1
left_size zero = refl
left_size (suc n) = ap length (left_words (suc n) (omega arith)) ∙ omega arith

-- both together
pub entry_words_fit : EntryWordsFit
entry_words_fit f address name left full stored =
    let own : List ℕ = entry_words f address name in
    let size : length own ≡ entry_length (length name) = entry_size f address name full stored in
    let over : List ℕ = cond (left == 0) [] (left ∷ []) in
    let over_size : length over ≡ min left 1 = left_size left in
    let all : length (own ++ over) ≡ length own + length over = length-append own over in
    let z : entry_length (length name) ≡ length own + 0 = omega arith in
    record {
      short = stored_short name stored;
      size = omega (arith, all, size, over_size);
      slot = subst (λ w. IsSlot w (entry f name)) (sym (take_at own over (entry_length (length name)) size)) (entry_slot f address name full stored);
      left_is = λ some. ap (word (own ++ over)) z ∙ get_or-append-add own over 0 0 ∙ ap (λ l. word l 0) (left_words left some);
    }
