-- Slots in the place of slots: those before and after stay.
use Rattle.std.proofs.Common.{◌%◌, ◌++◌, ◌+◌, ◌-◌, ◌<◌, ◌∙◌, ◌∷◌, ◌≡◌, ◌≤◌, List, None, Some, [], ap, append_assoc, arith, cond, drop, eq-eqb, get_or-drop, inl, length, length-append, length-drop, refl, sym, take, ℕ}
use Rattle.std.proofs.lemmas.List.{drop-drop, get_or-append_right, get_or-take, get_or_append_left, length-take-le}
use Rattle.pack_laws.specs.alto_words.specs.declared.fid.Fid.{Fid}
use Rattle.pack_laws.specs.disk_records.specs.Words.{word}
use Rattle.pack_laws.specs.pack_model.specs.reading.Bytes.{put_at}
use Rattle.pack_laws.specs.pack_model.specs.reading.Slots.{Item, all_words, is_entry, item_words, slot_at, slot_fid, slot_name, slots}
use Rattle.pack_laws.specs.pack_model.specs.reading.Slots.Item.{entry, space}
use Rattle.laws_record.proofs.Addressing.{drop_same, slot_kept}
use Rattle.pack_laws.proofs.Bytes.{length-put_at}
use Rattle.laws_record.proofs.Heads.{all_within, head_reads, slots_cons, slots_some}

-- ---- words in place
-- the words before
pub put_before : (at : ℕ) (new old : List ℕ) (k : ℕ) → at + length new ≤ length old → k < at → word (put_at at new old) k ≡ word old k
put_before at new old k fits l =
    let size = length-take-le at old (omega arith) in
    get_or_append_left (take at old ++ new) (drop (at + length new) old) 0 k (let s = length-append (take at old) new in omega arith)
    ∙ get_or_append_left (take at old) new 0 k (omega arith)
    ∙ get_or-take at old k 0 l

-- the words themselves
pub put_here : (at : ℕ) (new old : List ℕ) (k : ℕ) → at + length new ≤ length old → k < length new → word (put_at at new old) (at + k) ≡ word new k
put_here at new old k fits l =
    let size = length-take-le at old (omega arith) in
    let z : at + k - at ≡ k = omega arith in
    get_or_append_left (take at old ++ new) (drop (at + length new) old) 0 (at + k) (let s = length-append (take at old) new in omega arith)
    ∙ get_or-append_right (take at old) new at (at + k) 0 size (omega arith)
    ∙ ap (word new) z

-- the words after
pub put_after : (at : ℕ) (new old : List ℕ) (k : ℕ) → at + length new ≤ length old → at + length new ≤ k → word (put_at at new old) k ≡ word old k
put_after at new old k fits l =
    let size = length-take-le at old (omega arith) in
    let all : length (take at old ++ new) ≡ at + length new = (let s = length-append (take at old) new in omega arith) in
    let z : at + length new + (k - (at + length new)) ≡ k = omega arith in
    get_or-append_right (take at old ++ new) (drop (at + length new) old) (at + length new) k 0 all l
    ∙ get_or-drop (at + length new) old (k - (at + length new)) 0
    ∙ ap (word old) z

-- ---- slots before and after
-- the words of slots in a row
pub words-append : (a b : List Item) → all_words (a ++ b) ≡ all_words a + all_words b
words-append [] b = omega arith
words-append (i ∷ a) b = let r = words-append a b in omega arith

-- those of one entry
pub one_word : (f : Fid) (name : List ℕ) → all_words (entry f name ∷ []) ≡ item_words (entry f name)
one_word f name = omega arith

-- what follows the first slots
pub slots_behind : (place : ℕ) (words : List ℕ) (a b : List Item) → slots (drop place words) ≡ a ++ b → slots (drop (place + all_words a) words) ≡ b
slots_behind place words [] b e = let z : place + 0 ≡ place = omega arith in ap (λ k. slots (drop k words)) z ∙ e
slots_behind place words (i ∷ a) b e =
    let s = slots_cons (drop place words) i (a ++ b) e in
    let z : place + (item_words i + all_words a) ≡ place + item_words i + all_words a = omega arith in
    ap (λ k. slots (drop k words)) z ∙ slots_behind (place + item_words i) words a b (ap slots (sym (drop-drop (item_words i) place words)) ∙ s.1)

-- the first slots stay where their words do
pub slots_before : (place : ℕ) (xs ys : List ℕ) (a b : List Item) → length ys ≡ length xs → slots (drop place xs) ≡ a ++ b → ((k : ℕ) → place ≤ k → k < place + all_words a → word ys k ≡ word xs k) → slots (drop place ys) ≡ a ++ slots (drop (place + all_words a) ys)
slots_before place xs ys [] b size e same = let z : place ≡ place + 0 = omega arith in ap (λ k. slots (drop k ys)) z
slots_before place xs ys (i ∷ a) b size e same =
    let s = slots_cons (drop place xs) i (a ++ b) e in
    let sizes : length (drop place ys) ≡ length (drop place xs) = length-drop place ys ∙ ap (λ n. n - place) size ∙ sym (length-drop place xs) in
    let here : slot_at (drop place ys) ≡ Some i =
    slot_kept (drop place xs) (drop place ys) i sizes s.0 (λ k l. inl (get_or-drop place ys k 0 ∙ same (place + k) (omega arith) (omega arith) ∙ sym (get_or-drop place xs k 0))) in
    let rest : slots (drop (place + item_words i) ys) ≡ a ++ slots (drop (place + item_words i + all_words a) ys) =
    slots_before (place + item_words i) xs ys a b size (ap slots (sym (drop-drop (item_words i) place xs)) ∙ s.1) (λ k l m. same k (omega arith) (omega arith)) in
    let z : place + item_words i + all_words a ≡ place + (item_words i + all_words a) = omega arith in
    slots_some (drop place ys) i here ∙ ap (λ r. i ∷ r) (ap slots (drop-drop (item_words i) place ys) ∙ rest ∙ ap (λ k. a ++ slots (drop k ys)) z)

-- ---- one slot in the place of others
-- Slots with others in the place of some: the words before and after are the same, and the new ones are a slot.
pub record Replaced (xs ys : List ℕ) (a : List Item) (i : Item) (total : ℕ) : Type 0 where
  pub size : length ys ≡ length xs
  pub before : (k : ℕ) → k < all_words a → word ys k ≡ word xs k
  pub behind : (k : ℕ) → all_words a + total ≤ k → word ys k ≡ word xs k
  pub head : slot_at (drop (all_words a) ys) ≡ Some i

-- the slots then, where the new one takes up all words
pub slots_replaced : (xs ys : List ℕ) (a old b : List Item) (i : Item) → slots xs ≡ a ++ (old ++ b) → Replaced xs ys a i (all_words old) → item_words i ≡ all_words old → slots ys ≡ a ++ i ∷ b
slots_replaced xs ys a old b i e r all =
    let z : 0 + all_words a ≡ all_words a = omega arith in
    let w : 0 + all_words (a ++ old) ≡ all_words a + item_words i = (let s = words-append a old in omega arith) in
    let behind : slots (drop (all_words a + item_words i) xs) ≡ b = ap (λ k. slots (drop k xs)) (sym w) ∙ slots_behind 0 xs (a ++ old) b (e ∙ sym (append_assoc a old b)) in
    slots_before 0 xs ys a (old ++ b) r.size e (λ k l m. r.before k (omega arith))
    ∙ ap (λ k. a ++ slots (drop k ys)) z
    ∙ ap (λ x. a ++ x) (slots_some (drop (all_words a) ys) i r.head)
    ∙ ap (λ x. a ++ i ∷ x) (ap slots (drop-drop (item_words i) (all_words a) ys)
    ∙ ap slots (drop_same xs ys (all_words a + item_words i) r.size (λ k l m. r.behind k (omega arith)))
    ∙ behind)

-- ---- a slot made free, or several made one
-- the first word of a free slot
pub free_head : (words : List ℕ) (n : ℕ) → 0 < n → n < 1024 → n ≤ length words → word words 0 ≡ n → slot_at words ≡ Some (space n)
free_head words n some most within first =
    let size : length (take n words) ≡ n = length-take-le n words within in
    let word0 : word (take n words) 0 ≡ length (take n words) = get_or-take n words 0 0 some ∙ first ∙ sym size in
    head_reads words (space n) (record {
      some = some;
      within = within;
      most = most;
      first = ap (λ k. k % 1024) first ∙ (omega arith);
      reads = ap (λ t. cond t (Some (space (length (take n words)))) (cond (is_entry (take n words)) (Some (entry (slot_fid (take n words)) (slot_name (take n words)))) None)) (eq-eqb (word (take n words) 0) (length (take n words)) word0) ∙ ap (λ k. Some (space k)) size;
    })

-- one word makes them one free slot
pub slots_freed : (xs : List ℕ) (a old b : List Item) → slots xs ≡ a ++ (old ++ b) → 0 < all_words old → all_words old < 1024 → slots (put_at (all_words a) (all_words old ∷ []) xs) ≡ a ++ space (all_words old) ∷ b
slots_freed xs a old b e some most =
    let n : ℕ = all_words old in
    let at : ℕ = all_words a in
    let all : all_words a + all_words old ≤ length xs = (let w = all_within (a ++ (old ++ b)) xs e in let s = words-append a (old ++ b) in let t = words-append old b in omega arith) in
    let one : length (n ∷ []) ≡ 1 = refl in
    let fits : at + length (n ∷ []) ≤ length xs = omega arith in
    let ys : List ℕ = put_at at (n ∷ []) xs in
    let size : length ys ≡ length xs = length-put_at at (n ∷ []) xs fits in
    let z : at + 0 ≡ at = omega arith in
    let here : word (drop at ys) 0 ≡ n = get_or-drop at ys 0 0 ∙ put_here at (n ∷ []) xs 0 fits (omega arith) in
    slots_replaced xs ys a old b (space n) e (record {
      size = size;
      before = λ k l. put_before at (n ∷ []) xs k fits l;
      behind = λ k l. put_after at (n ∷ []) xs k fits (omega arith);
      head = free_head (drop at ys) n some most (let d = length-drop at ys in omega arith) here;
    }) refl
