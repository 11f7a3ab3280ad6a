-- Slots as words, and these read back.
use Rattle.std.proofs.Common.{◌≡◌, ℕ, zero, suc, ◌+◌, ◌-◌, ◌<◌, ◌≤◌, List, [], ◌∷◌, ◌++◌, length, get_or, take, map, replicate, set, Some, refl, sym, ap, ◌∙◌, subst, arith}
use Rattle.std.specs.Prelude.{All}
use Rattle.std.proofs.lemmas.List.{append_assoc, length-append, length-replicate, take_all, take_at, drop_at, get_or-append-add, flat_map_more, take_more, take-replicate}
use Rattle.std.proofs.lemmas.List.Elements.{All-head, All-tail, All-more, All-same}
use Rattle.alto_words.specs.declared.fid.Fid.{Fid}
use Rattle.alto_words.proofs.Versions.{is_stored_name-fits}
use Rattle.pack_model.specs.reading.Slots.{item_words, all_words, entry_length, first_length, slot_at, slots}
use Rattle.pack_model.specs.reading.Slots.Item.{space}
use Rattle.pack_model.specs.reading.SlotWords.{entry_words, space_words, address_at}
use Rattle.dir_slots.specs.declared.slot.Slot.{Slot}
use Rattle.dir_slots.specs.declared.slot.Slot.TheVariants.{Free, Entry}
use Rattle.dir_slots.specs.Inside.{entry_of}
use Rattle.dir_slots.specs.Items.{item_of, items_of, address_of, addresses_in, slot_words, slots_words, IsInRange}
use Rattle.dir_slots.specs.Laws.{HasStoredName, ReadsBack}
use Rattle.dir_slots.proofs.Entries.{entry_of-some}
use Rattle.dir_slots.proofs.NameWords.{length-short_name, name_of-written}
use Rattle.dir_slots.proofs.Heads.{slot_at-nil, slot_at-free, slot_at-file}
use Rattle.dir_slots.proofs.Slots.{slots-none, slots-some, addresses_from, addresses_step, addresses_none}

-- ---- a slot
pub length-entry : (f : Fid) (a : ℕ) (name : List ℕ) → length (entry_words f a name) ≡ entry_length (length name)
length-entry f a name = let e = length-short_name name in omega arith

length-space : (n : ℕ) → 1 ≤ n → length (space_words n) ≡ n
length-space n some = let e : suc (n - 1) ≡ n = omega arith in ap suc (length-replicate (n - 1) 0) ∙ e

pub length-slot : (s : Slot) → IsInRange s → length (slot_words s) ≡ item_words (item_of s)
length-slot (Free n) h = length-space n h.0
length-slot (Entry f a name) h = length-entry f a name

pub slot_at-written : (s : Slot) (rest : List ℕ) → IsInRange s → HasStoredName s → slot_at (slot_words s ++ rest) ≡ Some (item_of s)
slot_at-written (Free n) rest h stored =
    let words : List ℕ = space_words n ++ rest in
    let some = h.0 in
    let most = h.1 in
    let states : first_length words ≡ n = omega arith in
    let size = length-slot (Free n) h in
    let long = length-append (space_words n) rest in
    slot_at-free words (omega arith) (omega arith) (sym states) ∙ ap (λ m. Some (space m)) states
slot_at-written (Entry f a name) rest full stored =
    let own : List ℕ = entry_words f a name in
    let words : List ℕ = own ++ rest in
    let most = is_stored_name-fits name stored in
    let size : length own ≡ entry_length (length name) = length-entry f a name in
    let states : first_length words ≡ entry_length (length name) = omega arith in
    let long = length-append own rest in
    slot_at-file words (omega arith) (omega arith) (λ e. let same : 1024 + entry_length (length name) ≡ first_length words = e in omega arith)
    ∙ ap entry_of (take_at own rest (first_length words) (size ∙ sym states))
    ∙ entry_of-some own name (record {
      first = ap (λ n. 1024 + n) (sym size);
      size = size;
      named = name_of-written name stored;
      zero = refl;
      full = full;
    })

-- ---- all slots
pub slots-written : (ss : List Slot) → All IsInRange ss → All HasStoredName ss → slots (slots_words ss) ≡ items_of ss
slots-written [] h stored = slots-none [] slot_at-nil
slots-written (s ∷ ss) h stored =
    let rest : List ℕ = slots_words ss in
    let one = All-head IsInRange s ss h in
    slots-some (slot_words s ++ rest) (item_of s) (slot_at-written s rest one (All-head HasStoredName s ss stored))
    ∙ ap (λ l. item_of s ∷ slots l) (drop_at (slot_words s) rest (item_words (item_of s)) (length-slot s one))
    ∙ ap (λ l. item_of s ∷ l) (slots-written ss (All-tail IsInRange s ss h) (All-tail HasStoredName s ss stored))

address_at-written : (front rest : List ℕ) (s : Slot) → address_at (front ++ (slot_words s ++ rest)) (length front) (item_of s) ≡ address_of s
address_at-written front rest (Free n) = refl
address_at-written front rest (Entry f a name) = get_or-append-add front (entry_words f a name ++ rest) 5 0

addresses-written : (front : List ℕ) (ss : List Slot) → All IsInRange ss → addresses_from (front ++ slots_words ss) (length front) (items_of ss) ≡ map address_of ss
addresses-written front [] h = addresses_none (front ++ []) (length front)
addresses-written front (s ∷ ss) h =
    let rest : List ℕ = slots_words ss in
    let words : List ℕ = front ++ (slot_words s ++ rest) in
    let one = All-head IsInRange s ss h in
    let more : words ≡ (front ++ slot_words s) ++ rest = sym (append_assoc front (slot_words s) rest) in
    let behind : length front + item_words (item_of s) ≡ length (front ++ slot_words s) = ap (λ n. length front + n) (sym (length-slot s one)) ∙ sym (length-append front (slot_words s)) in
    addresses_step words (length front) (item_of s) (items_of ss)
    ∙ ap (λ a. a ∷ addresses_from words (length front + item_words (item_of s)) (items_of ss)) (address_at-written front rest s)
    ∙ ap (λ l. address_of s ∷ l) ((λ i. addresses_from (more i) (behind i) (items_of ss)) ∙ addresses-written (front ++ slot_words s) ss (All-tail IsInRange s ss h))

pub addresses_in-written : (ss : List Slot) → All IsInRange ss → All HasStoredName ss → addresses_in (slots_words ss) ≡ map address_of ss
addresses_in-written ss h stored = ap (addresses_from (slots_words ss) 0) (slots-written ss h stored) ∙ addresses-written [] ss h

all_words-written : (ss : List Slot) → All IsInRange ss → all_words (items_of ss) ≡ length (slots_words ss)
all_words-written [] h = refl
all_words-written (s ∷ ss) h =
    let one = length-slot s (All-head IsInRange s ss h) in
    let rest = all_words-written ss (All-tail IsInRange s ss h) in
    let long = length-append (slot_words s) (slots_words ss) in
    omega arith

pub reads_back : ReadsBack
reads_back = λ ss h stored. (slots-written ss h stored, addresses_in-written ss h stored, all_words-written ss h)

-- ---- written one by one
pub words_more : (ss : List Slot) (i : ℕ) (s : Slot) (words : List ℕ) → i < length ss → s ≡ get_or ss i s → words ≡ slots_words (take i ss) → words ++ slot_words s ≡ slots_words (take (i + 1) ss)
words_more ss i s words lt is so_far =
    ap (λ l. l ++ slot_words s) so_far ∙ flat_map_more slot_words [] (take i ss) s ∙ ap slots_words (ap (λ x. take i ss ++ x ∷ []) is ∙ sym (take_more ss i s lt))

pub stored_more : (ss : List Slot) (i : ℕ) (s : Slot) → i < length ss → s ≡ get_or ss i s → All HasStoredName (take i ss) → HasStoredName s → All HasStoredName (take (i + 1) ss)
stored_more ss i s lt is so_far stored = All-more HasStoredName ss i s lt so_far (subst HasStoredName is stored)

-- and read back, when all are
pub record WrittenBack (ss : List Slot) (words : List ℕ) : Type 0 where
  pub items : slots words ≡ items_of ss
  pub addresses : addresses_in words ≡ map address_of ss
  pub size : length words ≡ all_words (items_of ss)

pub written_back : (ss : List Slot) (i : ℕ) (words : List ℕ) → length ss ≤ i → All IsInRange ss → words ≡ slots_words (take i ss) → All HasStoredName (take i ss) → WrittenBack ss words
written_back ss i words all h so_far stored =
    let whole : take i ss ≡ ss = take_all i ss all in
    let are : words ≡ slots_words ss = so_far ∙ ap slots_words whole in
    let stored' : All HasStoredName ss = All-same HasStoredName ss (take i ss) (sym whole) stored in
    record {
      items = ap slots are ∙ slots-written ss h stored';
      addresses = ap addresses_in are ∙ addresses_in-written ss h stored';
      size = ap length are ∙ sym (all_words-written ss h);
    }

-- a free slot in a row of zeros
pub space-written : (m n : ℕ) → 1 ≤ n → n ≤ m → take n (set (replicate m 0) 0 n) ≡ space_words n
space-written m zero some within = absurd (omega arith)
space-written zero (suc n) some within = absurd (omega arith)
space-written (suc m) (suc n) some within =
    let e : n ≡ suc n - 1 = omega arith in
    ap (λ l. suc n ∷ l) (take-replicate n m 0 (omega arith) ∙ ap (λ k. replicate k 0) e)
