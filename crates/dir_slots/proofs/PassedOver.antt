-- Slots that are passed over where they stand: bare names in the words of entries, and a walk after such slots.
use Rattle.std.proofs.Common.{◌≡◌, ℕ, zero, suc, ◌+◌, ◌-◌, ◌*◌, ◌/◌, ◌%◌, ◌<◌, ◌≤◌, Bool, true, false, ◌==◌, IsTrue, List, [], ◌∷◌, ◌++◌, length, take, drop, get_or, Some, None, refl, sym, ap, ◌∙◌, subst, arith, append_assoc, append-nil}
use Rattle.std.specs.List.{list_all}
use Rattle.std.proofs.lemmas.Bool.{and_from, and_parts, both_ways, cond-true, eq-eqb, eqb-true, false_from_ne_true, le-leb}
use Rattle.std.proofs.lemmas.List.{drop-drop, get_or-drop, get_or-map, get_or-take, length-drop, length-map, length-append, length-take-le, length_push, take-take, take_all, take_more, take_rest}
use Rattle.std.proofs.lemmas.List.Elements.{All-append, All-push}
use Rattle.std.proofs.lemmas.List.Folds.{list_all-append}
use Rattle.alto_words.specs.Fid.{is_full_name}
use Rattle.alto_words.specs.Names.{fold_case, is_bare_name, is_name_character, is_same_name, is_stored_name, stored_in}
use Rattle.alto_words.proofs.Folding.{folded}
use Rattle.alto_words.proofs.Forms.{bare_stored}
use Rattle.alto_words.proofs.Names.{is_bare_name-stem}
use Rattle.disk_records.specs.Words.{word}
use Rattle.disk_records.proofs.Bytes.{length-bytes_of}
use Rattle.pack_model.specs.reading.Bytes.{bytes_of}
use Rattle.pack_model.specs.reading.Slots.{entry_length, first_length, is_entry, item_words, slot_at, slot_bytes, slot_fid, slot_name}
use Rattle.pack_model.specs.reading.Slots.Item.{space, entry}
use Rattle.pack_model.specs.reading.SlotWords.{address_at}
use Rattle.dir_slots.specs.declared.others.Passing.{Passing}
use Rattle.dir_slots.specs.declared.slot.Slot.TheVariants.{Free, Entry}
use Rattle.dir_slots.specs.declared.walk.PlacedSlot.{PlacedSlot}
use Rattle.dir_slots.specs.Inside.{IsBareEntry, IsBareSpelled, IsOtherAt, IsOtherEntry, entry_of, further, is_pair, name_of}
use Rattle.dir_slots.specs.Items.{item_of}
use Rattle.dir_slots.specs.Others.{IsOther, Passes}
use Rattle.dir_slots.specs.Walks.{Meets, Walked, Walking, placed_slots, slot_met}
use Rattle.dir_slots.proofs.Entries.{entry_from, named_parts}
use Rattle.dir_slots.proofs.Hands.{first_stays, hand_of, whole_is}
use Rattle.dir_slots.proofs.Heads.{slot_at-file, slot_at-free}
use Rattle.dir_slots.proofs.Meeting.{meets_more}
use Rattle.dir_slots.proofs.Names.{name_of-parts}
use Rattle.dir_slots.proofs.NameWords.{after_name}
use Rattle.dir_slots.proofs.Stepping.{nothing_is, walking}
use Rattle.dir_slots.proofs.Turns.{more_of_page}

-- ---- bytes in words
bytes_of-append : (xs ys : List ℕ) → bytes_of (xs ++ ys) ≡ bytes_of xs ++ bytes_of ys
bytes_of-append [] ys = refl
bytes_of-append (x ∷ xs) ys = ap (λ l. (x / 256) ∷ (x % 256) ∷ l) (bytes_of-append xs ys)

all_pairs : (words : List ℕ) → list_all is_pair words ≡ true → list_all is_name_character (bytes_of words) ≡ true
all_pairs [] all = refl
all_pairs (w ∷ words) all =
    let parts = and_parts (is_pair w) (list_all is_pair words) all in
    let both = and_parts (is_name_character (w / 256)) (is_name_character (w % 256)) parts.0 in
    and_from (is_name_character (w / 256)) (list_all is_name_character ((w % 256) ∷ bytes_of words)) both.0
    (and_from (is_name_character (w % 256)) (list_all is_name_character (bytes_of words)) both.1 (all_pairs words parts.1))

-- a byte of an even number is the high one of its word
high_byte : (words : List ℕ) (k : ℕ) → k ≤ length words → word (bytes_of words) (2 * k) ≡ word words k / 256
high_byte [] k within = refl
high_byte (w ∷ words) zero within = refl
high_byte (w ∷ words) (suc k) within =
    let n : 2 * suc k ≡ suc (suc (2 * k)) = omega arith in
    ap (λ m. word (bytes_of (w ∷ words)) m) n ∙ high_byte words k (omega (arith, within))

low_byte : (words : List ℕ) (k : ℕ) → k ≤ length words → word (bytes_of words) (2 * k + 1) ≡ word words k % 256
low_byte [] k within = refl
low_byte (w ∷ words) zero within = refl
low_byte (w ∷ words) (suc k) within =
    let n : 2 * suc k + 1 ≡ suc (suc (2 * k + 1)) = omega arith in
    ap (λ m. word (bytes_of (w ∷ words)) m) n ∙ low_byte words k (omega (arith, within))

pub byte_high : (words : List ℕ) (at : ℕ) → 6 + at / 2 ≤ length words → at % 2 ≡ 0 → word words (6 + at / 2) / 256 ≡ word (slot_bytes words) at
byte_high words at within even =
    let n : 2 * (at / 2) ≡ at = omega (arith, even) in
    ap (λ w. w / 256) (sym (get_or-drop 6 words (at / 2) 0)) ∙ sym (high_byte (drop 6 words) (at / 2) (omega (arith, within, length-drop 6 words))) ∙ ap (word (slot_bytes words)) n

pub byte_low : (words : List ℕ) (at : ℕ) → 6 + at / 2 ≤ length words → (at % 2 ≡ 0 → ⊥) → word words (6 + at / 2) % 256 ≡ word (slot_bytes words) at
byte_low words at within odd =
    let n : 2 * (at / 2) + 1 ≡ at = omega (arith, odd) in
    ap (λ w. w % 256) (sym (get_or-drop 6 words (at / 2) 0)) ∙ sym (low_byte (drop 6 words) (at / 2) (omega (arith, within, length-drop 6 words))) ∙ ap (word (slot_bytes words)) n

-- ---- a bare name
-- words as the first, those between, and the last
pub split_words : (words : List ℕ) → 2 ≤ length words → words ≡ get_or words 0 0 ∷ (take (length words - 1 - 1) (drop 1 words) ++ get_or words (length words - 1) 0 ∷ [])
split_words [] least = absurd (omega (arith, least))
split_words (w ∷ []) least = absurd (omega (arith, least))
split_words (w ∷ v ∷ words) least =
    let n : ℕ = length words in
    let mid : length (w ∷ v ∷ words) - 1 - 1 ≡ n = omega arith in
    let end : length (w ∷ v ∷ words) - 1 ≡ suc n = omega arith in
    ap (λ l. w ∷ l) (sym (take_all (n + 1) (v ∷ words) (omega arith)) ∙ take_more (v ∷ words) n 0 (omega arith))
    ∙ (λ i. w ∷ (take (sym mid i) (v ∷ words) ++ get_or (w ∷ v ∷ words) (sym end i) 0 ∷ []))

module _ (words : List ℕ) (first last : ℕ) (mid : List ℕ) (parts : words ≡ first ∷ (mid ++ last ∷ [])) (size : (first / 256 + 2) / 2 ≡ length words) (most : length words ≤ 20)
    (head : is_name_character (first % 256) ≡ true) (inner : list_all is_pair mid ≡ true) where
  bytes : bytes_of words ≡ (first / 256) ∷ (first % 256) ∷ (bytes_of mid ++ (last / 256) ∷ (last % 256) ∷ [])
  bytes = ap bytes_of parts ∙ ap (λ l. (first / 256) ∷ (first % 256) ∷ l) (bytes_of-append mid (last ∷ []))

  long : length words ≡ length mid + 2
  long = let e = length_push mid last in omega (arith, ap length parts, e)

  spelled : (stem pad : List ℕ) → bytes_of words ≡ (first / 256) ∷ ((stem ++ 46 ∷ []) ++ pad) → first / 256 ≡ length stem + 1 → 1 ≤ length stem → list_all (λ b. b == 0) pad ≡ true → list_all is_name_character stem ≡ true → IsBareSpelled words
  spelled stem pad is counts some blank characters =
      let name : List ℕ = stem ++ 46 ∷ [] in
      let count : first / 256 ≡ length name = counts ∙ sym (length_push stem 46) in
      let few : length stem ≤ 38 = omega (arith, counts, size, most) in
      let bare : is_bare_name name ≡ true = is_bare_name-stem stem ∙ and_from _ _ (and_from _ _ (le-leb 1 (length stem) some) (le-leb (length stem) 38 few)) characters in
      record {
        name = name;
        named =
            name_of-parts (bytes_of words) (name ++ pad) name pad (length name) (is ∙ ap (λ n. n ∷ (name ++ pad)) count) (after_name name pad)
            ∙ cond-true _ (stored_in name) None blank ∙ cond-true (is_stored_name name) (Some name) None (bare_stored name bare).0;
        bare = bare;
        size = sym size ∙ ap (λ n. (n + 2) / 2) count;
      }

  pub spelled_even : first / 256 % 2 ≡ 0 → last ≡ 11776 → IsBareSpelled words
  spelled_even even is =
      let high : last / 256 ≡ 46 = omega (arith, is) in
      let low : last % 256 ≡ 0 = omega (arith, is) in
      let twice = length-bytes_of mid in
      spelled ((first % 256) ∷ bytes_of mid) (0 ∷ [])
      (bytes ∙ ap (λ l. (first / 256) ∷ (first % 256) ∷ l) ((λ i. bytes_of mid ++ high i ∷ low i ∷ []) ∙ sym (append_assoc (bytes_of mid) (46 ∷ []) (0 ∷ []))))
      (omega (arith, even, size, long, twice)) (omega arith) refl (and_from _ _ head (all_pairs mid inner))

  pub spelled_odd : (first / 256 % 2 ≡ 0 → ⊥) → last % 256 ≡ 46 → is_name_character (last / 256) ≡ true → IsBareSpelled words
  spelled_odd odd low high =
      let twice = length-bytes_of mid in
      let more = length_push (bytes_of mid) (last / 256) in
      spelled ((first % 256) ∷ (bytes_of mid ++ (last / 256) ∷ [])) []
      (bytes
      ∙ ap (λ l. (first / 256) ∷ (first % 256) ∷ l) (
      ap (λ b. bytes_of mid ++ (last / 256) ∷ b ∷ []) low ∙ sym (append_assoc (bytes_of mid) ((last / 256) ∷ []) (46 ∷ []))
      ∙ sym (append-nil ((bytes_of mid ++ (last / 256) ∷ []) ++ 46 ∷ []))
      ))
      (omega (arith, odd, size, long, twice, more)) (omega arith) refl
      (and_from _ _ head (list_all-append is_name_character (bytes_of mid) ((last / 256) ∷ []) ∙ and_from _ _ (all_pairs mid inner) (and_from (is_name_character (last / 256)) true high refl)))

-- ---- the entry of a bare name
pub bare_entry : (words rest : List ℕ) → bytes_of rest ≡ slot_bytes words → length rest + 6 ≡ length words → word words 0 ≡ 1024 + length words → word words 4 ≡ 0 → is_full_name (slot_fid words) ≡ true → IsBareSpelled rest → IsBareEntry words
bare_entry words rest same long first blank full s =
    let named : name_of (slot_bytes words) ≡ Some s.name = ap name_of (sym same) ∙ s.named in
    let size = s.size in
    let spelled = named_parts words s.name named in
    let count : length s.name ≡ word (slot_bytes words) 0 =
    sym (ap length spelled.1) ∙ eqb-true _ _ (and_parts _ _ (and_parts _ _ spelled.0).0).0 in
    let head : word (slot_bytes words) 0 ≡ word words 6 / 256 = sym (byte_high words 0 (omega (arith, long, size)) refl) in
    record {
      is = entry_from words s.name (record {
        first = first;
        size = omega (arith, long, size);
        named = named;
        zero = blank;
        full = full;
      });
      bare = ap is_bare_name spelled.1 ∙ s.bare;
      size = omega (arith, long, size, count, head);
    }

-- ---- another name
-- the name of an entry has as many characters as its length says
own_long : (words : List ℕ) → length words ≡ entry_length (word words 6 / 256) → length (slot_name words) ≡ word words 6 / 256
own_long words size =
    let head : word (slot_bytes words) 0 ≡ word words 6 / 256 = sym (byte_high words 0 (omega (arith, size)) refl) in
    let twice = length-bytes_of (drop 6 words) in
    let after = length-drop 6 words in
    let rest = length-drop 1 (slot_bytes words) in
    length-take-le (word (slot_bytes words) 0) (drop 1 (slot_bytes words)) (omega (arith, head, twice, after, rest, size)) ∙ head

same_long : (own name : List ℕ) → is_same_name own name ≡ true → length own ≡ length name
same_long own name same = sym (length-map own fold_case) ∙ ap length (folded own name same) ∙ length-map name fold_case

-- one of another length
pub other_long : (words name : List ℕ) → length words ≡ entry_length (word words 6 / 256) → (length name ≡ word words 6 / 256 → ⊥) → is_same_name (slot_name words) name ≡ false
other_long words name size differs = false_from_ne_true _ (λ same. differs (sym (same_long (slot_name words) name same) ∙ own_long words size))

-- one with another character
pub other_character : (words name : List ℕ) (at : ℕ) → length words ≡ entry_length (word words 6 / 256) → length name ≡ word words 6 / 256 → 1 ≤ at → at ≤ length name
    → (fold_case (word (slot_bytes words) at) == fold_case (get_or name (at - 1) 0)) ≡ false → is_same_name (slot_name words) name ≡ false
other_character words name at size long some within differs =
    false_from_ne_true _ (λ same.
    let own : List ℕ = slot_name words in
    let all = own_long words size in
    let head : word (slot_bytes words) 0 ≡ word words 6 / 256 = sym (byte_high words 0 (omega (arith, size)) refl) in
    let here : get_or own (at - 1) 0 ≡ word (slot_bytes words) at =
    get_or-take (word (slot_bytes words) 0) (drop 1 (slot_bytes words)) (at - 1) 0 (omega (arith, head, long, some, within))
    ∙ get_or-drop 1 (slot_bytes words) (at - 1) 0 ∙ ap (word (slot_bytes words)) (omega (arith, some)) in
    let e : fold_case (get_or own (at - 1) 0) ≡ fold_case (get_or name (at - 1) 0) =
    sym (get_or-map fold_case own (at - 1) 0 0 (omega (arith, all, long, some, within)))
    ∙ ap (λ l. get_or l (at - 1) 0) (folded own name same)
    ∙ get_or-map fold_case name (at - 1) 0 0 (omega (arith, some, within)) in
    both_ways _ differs (eq-eqb _ _ (ap fold_case (sym here) ∙ e)))

-- ---- one slot
taken_first : (words : List ℕ) (n : ℕ) → 1 ≤ n → first_length words ≡ n → first_length (take n words) ≡ n
taken_first words n least states = ap (λ w. w % 1024) (get_or-take n words 0 0 (omega (arith, least))) ∙ states

-- a free one
pub free_other : (p : Passing) (words : List ℕ) (n : ℕ) → IsTrue p.free → 1 ≤ n → n ≤ length words → first_length words ≡ n → word words 0 ≡ n → IsOtherAt p words n
free_other p words n may least within states free =
    let long : length (take n words) ≡ n = length-take-le n words within in
    let head = taken_first words n least states in
    let is = slot_at-free (take n words) (omega (arith, head, least)) (omega (arith, head, long)) (get_or-take n words 0 0 (omega (arith, least)) ∙ free ∙ sym head) in
    record {
      slot = Free n;
      least = least;
      within = within;
      states = states;
      reads = sym (is ∙ ap (λ m. Some (space m)) head);
      address = refl;
      other = may;
    }

-- the entry of another bare name
pub entry_other : (p : Passing) (words : List ℕ) (n : ℕ) → 1 ≤ n → n ≤ length words → first_length words ≡ n → (word words 0 ≡ n → ⊥) → IsOtherEntry p.name (take n words) → IsOtherAt p words n
entry_other p words n least within states file other =
    let w : List ℕ = take n words in
    let long : length w ≡ n = length-take-le n words within in
    let head = taken_first words n least states in
    let whole : take (first_length w) w ≡ w = take_all (first_length w) w (omega (arith, head, long)) in
    let is = slot_at-file w (omega (arith, head, least)) (omega (arith, head, long)) (λ e. file (sym (get_or-take n words 0 0 (omega (arith, least))) ∙ e ∙ head)) in
    record {
      slot = Entry (slot_fid w) (word w 5) (slot_name w);
      least = least;
      within = within;
      states = states;
      reads = sym (is ∙ ap entry_of whole ∙ cond-true (is_entry w) (Some (entry (slot_fid w) (slot_name w))) None other.entry.is);
      address = refl;
      other = ((bare_stored (slot_name w) other.entry.bare).1, other.other);
    }

-- ---- a walk after such slots
pub passes_none : (p : Passing) (given : List ℕ) (walk : Walking) → Walked given walk → Passes p given given walk
passes_none p given walk walked = record { walked = walked; seen = []; slots = sym (append-nil (placed_slots given)); others = λ k d l. absurd (omega (arith, l)) }

passes_next : (p : Passing) (first mid later : List ℕ) (old walk : Walking) (met : PlacedSlot) → Passes p first mid old → Meets mid later walk (Some met) → IsOther p (item_of met.slot) → Passes p first later walk
passes_next p first mid later old walk met before meets other = record {
  walked = meets.walked;
  seen = before.seen ++ slot_met met ∷ [];
  slots = meets.slots ∙ ap (λ l. l ++ slot_met met ∷ []) before.slots ∙ append_assoc (placed_slots first) before.seen (slot_met met ∷ []);
  others = All-push (λ s. IsOther p s.item) before.seen (slot_met met) before.others other;
}

-- and then others
pub passes_both : (p : Passing) (first mid later : List ℕ) (old walk : Walking) → Passes p first mid old → Passes p mid later walk → Passes p first later walk
passes_both p first mid later old walk x y = record {
  walked = y.walked;
  seen = x.seen ++ y.seen;
  slots = y.slots ∙ ap (λ l. l ++ y.seen) x.slots ∙ append_assoc (placed_slots first) x.seen y.seen;
  others = All-append (λ s. IsOther p s.item) x.seen y.seen x.others y.others;
}

passes_one : (p : Passing) (given words : List ℕ) (n : ℕ) (walk : Walking) → Walked given walk → walk.held ≡ 0 → walk.ended ≡ false → (o : IsOtherAt p words n) → Meets given (given ++ take n words) (further walk n) (Some (record { place = walk.place; slot = o.slot }))
passes_one p given words n walk walked none going o =
    let was = walked.held going in
    let empty : hand_of given ≡ [] = nothing_is (hand_of given) (sym none ∙ was.held) in
    let joined : hand_of given ++ take n words ≡ take n words = ap (λ l. l ++ take n words) empty in
    let long : length (take n words) ≡ n = length-take-le n words o.within in
    let size : length (hand_of given ++ take n words) ≡ n = ap (λ (l : List ℕ). length l) joined ∙ long in
    let whole : item_words (item_of o.slot) ≡ n = whole_is (take n words) (item_of o.slot) (taken_first words n o.least o.states ∙ sym long) (sym o.reads) ∙ long in
    meets_more given (take n words) walk (further walk n) walked (record { place = walk.place; slot = o.slot }) refl (ap (λ (k : ℕ). walk.place + k) (sym size)) going
    (record { held = none; front = was.front ∙ ap (take 26) empty }) (ap slot_at joined ∙ sym o.reads) (whole ∙ sym size) (o.address ∙ ap (λ l. address_at l 0 (item_of o.slot)) (sym joined))

-- the slot in hand, with the words of the page that end it
pub passes_hand : (p : Passing) (page given : List ℕ) (from place held size n : ℕ) (front fresh : List ℕ) (ended : Bool) → Walked (given ++ take from page) (walking place held front ended) → ended ≡ false → 0 < held → size ≡ get_or front 0 0 % 1024
    → held ≤ size → size ≤ 26 → from ≤ length page → size - held ≤ length page - from → take size fresh ≡ take held front ++ take (size - held) (drop from page) → IsOtherAt p (take size fresh) n
    → Passes p (given ++ take from page) (given ++ take (from + (size - held)) page) (walking (place + size) 0 fresh ended)
passes_hand p page given from place held size n front fresh ended walked going some states more most within few now o =
    let before : List ℕ = given ++ take from page in
    let rest : List ℕ = take (size - held) (drop from page) in
    let old : Walking = walking place held front ended in
    let new : Walking = walking (place + size) 0 fresh ended in
    let was = walked.held going in
    let w : List ℕ = take size fresh in
    let is : hand_of before ≡ take held front = sym (was.front ∙ take_all 26 (hand_of before) (omega (arith, was.held, more, most))) in
    let joined : hand_of before ++ rest ≡ w = ap (λ l. l ++ rest) is ∙ sym now in
    let rest_is : length rest ≡ size - held = length-take-le (size - held) (drop from page) (omega (arith, few, length-drop from page)) in
    let size_is : length (hand_of before ++ rest) ≡ size = omega (arith, length-append (hand_of before) rest, was.held, rest_is, more) in
    let long : length w ≡ size = ap (λ (l : List ℕ). length l) (sym joined) ∙ size_is in
    let head : first_length w ≡ size =
    ap first_length (sym joined) ∙ first_stays (hand_of before) rest (omega (arith, was.held, some)) ∙ ap first_length is ∙ ap (λ x. x % 1024) (get_or-take held front 0 0 some) ∙ sym states in
    let whole : take n w ≡ w = take_all n w (omega (arith, o.states, head, long)) in
    let reads : slot_at w ≡ Some (item_of o.slot) = sym (o.reads ∙ ap slot_at whole) in
    let met : PlacedSlot = record { place = place; slot = o.slot } in
    let meets : Meets before (before ++ rest) new (Some met) =
    meets_more before rest old new walked met refl (ap (λ (k : ℕ). place + k) (sym size_is)) going (record { held = refl; front = refl }) (ap slot_at joined ∙ reads) (whole_is w (item_of o.slot) (head ∙ sym long) reads ∙ long ∙ sym size_is)
    (o.address ∙ ap (λ l. address_at l 0 (item_of o.slot)) (whole ∙ sym joined)) in
    let all : before ++ rest ≡ given ++ take (from + (size - held)) page =
    ap (λ l. before ++ l) (sym (take-take (size - held) (length page - from) (drop from page) few)) ∙ more_of_page given page from (size - held) within few in
    passes_next p before before (given ++ take (from + (size - held)) page) old new met (passes_none p before old walked) (subst (λ l. Meets before l new (Some met)) all meets) o.other

-- none was passed over yet
pub passes_start : (p : Passing) (given : List ℕ) (walk : Walking) (from : ℕ) → Walked given walk → Passes p given given (further walk (from - from))
passes_start p given walk from walked =
    let same : walk.place + (from - from) ≡ walk.place = omega arith in
    passes_none p given (further walk (from - from)) (record {
      place = same ∙ walked.place;
      held = λ going. let was = walked.held going in record { held = was.held; front = was.front };
      unfinished = walked.unfinished;
      ended = walked.ended;
    })

-- so many words are left in the page
pub few_of_page : (page : List ℕ) (at n : ℕ) → at ≤ length page → n ≤ length (take (length page - at) (drop at page)) → at + n ≤ length page
few_of_page page at n within few = omega (arith, few, within, length-take-le (length page - at) (drop at page) (omega (arith, length-drop at page)))

-- one slot more of a page
pub passes_more : (p : Passing) (page : List ℕ) (from at n : ℕ) (given : List ℕ) (walk : Walking) → from ≤ at → at ≤ length page → walk.held ≡ 0 → walk.ended ≡ false → Passes p (given ++ take from page) (given ++ take at page) (further walk (at - from))
    → IsOtherAt p (take (length page - at) (drop at page)) n → Passes p (given ++ take from page) (given ++ take (at + n) page) (further walk (at + n - from))
passes_more p page from at n given walk on within none going before o =
    let words : List ℕ = take (length page - at) (drop at page) in
    let few : n ≤ length page - at = let e = few_of_page page at n within o.within in omega (arith, e) in
    let met : PlacedSlot = record { place = walk.place + (at - from); slot = o.slot } in
    let meets : Meets (given ++ take at page) (given ++ take (at + n) page) (further (further walk (at - from)) n) (Some met) =
    subst (λ l. Meets (given ++ take at page) l (further (further walk (at - from)) n) (Some met)) (more_of_page given page at n within few)
    (passes_one p (given ++ take at page) words n (further walk (at - from)) before.walked none going o) in
    let place : walk.place + (at - from) + n ≡ walk.place + (at + n - from) = omega (arith, on) in
    subst (λ (k : ℕ). Passes p (given ++ take from page) (given ++ take (at + n) page) (record { place = k; held = walk.held; front = walk.front; ended = walk.ended })) place
    (passes_next p (given ++ take from page) (given ++ take at page) (given ++ take (at + n) page) (further walk (at - from)) (further (further walk (at - from)) n) met before meets o.other)

-- ---- the rest of a page, from the end of a slot on
pub rest_long : (rest : List ℕ) (n : ℕ) → length (take (length rest - n) (drop n rest)) ≡ length rest - n
rest_long rest n = ap length (take_rest rest n) ∙ length-drop n rest

-- where it begins, if so many words of it are left out
pub rest_at : (page rest : List ℕ) (n : ℕ) → length rest ≤ length page → n ≤ length rest → length page - length (take (length rest - n) (drop n rest)) ≡ length page - length rest + n
rest_at page rest n within few = omega (arith, within, few, rest_long rest n)

pub rest_is : (page rest : List ℕ) (at n : ℕ) → rest ≡ drop at page → take (length rest - n) (drop n rest) ≡ drop (at + n) page
rest_is page rest at n is = take_rest rest n ∙ ap (λ l. drop n l) is ∙ drop-drop n at page

pub passes_rest : (p : Passing) (page rest : List ℕ) (from n : ℕ) (given : List ℕ) (walk : Walking) → length rest ≤ length page → from ≤ length page - length rest → rest ≡ drop (length page - length rest) page → walk.held ≡ 0 → walk.ended ≡ false
    → Passes p (given ++ take from page) (given ++ take (length page - length rest) page) (further walk (length page - length rest - from)) → IsOtherAt p rest n
    → Passes p (given ++ take from page) (given ++ take (length page - length (take (length rest - n) (drop n rest))) page) (further walk (length page - length (take (length rest - n) (drop n rest)) - from))
passes_rest p page rest from n given walk within on is none going before o =
    let at : ℕ = length page - length rest in
    let here : IsOtherAt p (take (length page - at) (drop at page)) n = subst (λ (l : List ℕ). IsOtherAt p l n) (is ∙ sym (take_rest page at)) o in
    subst (λ (k : ℕ). Passes p (given ++ take from page) (given ++ take k page) (further walk (k - from))) (sym (rest_at page rest n within o.within))
    (passes_more p page from at n given walk on (omega arith) none going before here)
