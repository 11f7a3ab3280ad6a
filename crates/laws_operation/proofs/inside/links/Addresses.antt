-- The addresses of entries in the words of a directory.
use Rattle.std.proofs.Common.{All, List, Some, [], cond, arith, false, length, refl, subst, sym, true, ℕ, ◌++◌, ◌+◌, ◌<◌, ◌∷◌, ◌≡◌, ◌≤◌, suc, zero}
use Rattle.std.proofs.lemmas.List.Elements.{All-cons, All-head, All-nil, All-tail}
use Rattle.laws_contents.specs.alto_words.specs.Fid.{is_fid}
use Rattle.laws_contents.specs.alto_words.specs.declared.fid.Fid.{Fid}
use Rattle.laws_contents.specs.disk_records.specs.Words.{word}
use Rattle.laws_contents.specs.pack_model.specs.reading.Files.{place}
use Rattle.laws_contents.specs.pack_model.specs.hints.Links.{IsTrueAddress}
use Rattle.laws_contents.specs.pack_model.specs.operations.Rooms.{left_over}
use Rattle.laws_contents.specs.pack_model.specs.reading.Sights.{Sight}
use Rattle.laws_contents.specs.pack_model.specs.reading.SlotWords.{SlotAt, address_at, slots_at}
use Rattle.laws_contents.specs.pack_model.specs.reading.Slots.{Item, all_words, item_words}
use Rattle.laws_contents.specs.pack_model.specs.reading.Slots.Item.{entry, space}
use Rattle.laws_contents.specs.pack_model.specs.operations.Step.{items_without}
use Rattle.laws_contents.specs.laws_record.proofs.Addressing.{entry_words_many}

-- the addresses of these slots, which begin with this word, are true
abbrev pub AllTrue : List Sight → List ℕ → ℕ → List Item → Type 0
AllTrue ss words begin [] = Unit {0}
AllTrue ss words begin (i ∷ is) = IsTrueAddress ss i (address_at words begin i) × AllTrue ss words (begin + item_words i) is

-- so they are as slots that stand there
pub from_slots : (ss : List Sight) (words : List ℕ) (begin : ℕ) (is : List Item) → All (λ s. IsTrueAddress ss s.item s.address) (slots_at words begin is) → AllTrue ss words begin is
unfolding slots_at
from_slots ss words begin [] h = tt
from_slots ss words begin (i ∷ is) h =
    let true_one : SlotAt → Type 0 = λ s. IsTrueAddress ss s.item s.address in
    let s : SlotAt = record { place = begin; item = i; address = address_at words begin i } in
    (All-head true_one s (slots_at words (begin + item_words i) is) h, from_slots ss words (begin + item_words i) is (All-tail true_one s (slots_at words (begin + item_words i) is) h))

-- and back
pub to_slots : (ss : List Sight) (words : List ℕ) (begin : ℕ) (is : List Item) → AllTrue ss words begin is → All (λ s. IsTrueAddress ss s.item s.address) (slots_at words begin is)
unfolding slots_at
to_slots ss words begin [] h = All-nil (λ (s : SlotAt). IsTrueAddress ss s.item s.address)
to_slots ss words begin (i ∷ is) h =
    let true_one : SlotAt → Type 0 = λ s. IsTrueAddress ss s.item s.address in
    let s : SlotAt = record { place = begin; item = i; address = address_at words begin i } in
    All-cons true_one s (slots_at words (begin + item_words i) is) h.0 (to_slots ss words (begin + item_words i) is h.1)

-- ---- in other words
-- an address in the same words
address_same : (i : Item) (xs ys : List ℕ) (begin : ℕ) → ((k : ℕ) → begin ≤ k → k < begin + item_words i → word ys k ≡ word xs k) → address_at ys begin i ≡ address_at xs begin i
address_same (space n) xs ys begin same = refl
address_same (entry f name) xs ys begin same = let l = entry_words_many (length name) in same (begin + 5) (omega arith) (omega arith)

-- the same words have the same addresses
pub true_words : (ss : List Sight) (xs ys : List ℕ) (begin : ℕ) (is : List Item) → ((k : ℕ) → begin ≤ k → k < begin + all_words is → word ys k ≡ word xs k) → AllTrue ss xs begin is → AllTrue ss ys begin is
true_words ss xs ys begin [] same h = tt
true_words ss xs ys begin (i ∷ is) same h = (
  subst (IsTrueAddress ss i) (sym (address_same i xs ys begin (λ k l m. same k l (omega arith)))) h.0,
  true_words ss xs ys (begin + item_words i) is (λ k l m. same k (omega arith) (omega arith)) h.1,
)

-- ---- parts
-- the first slots
pub true_front : (ss : List Sight) (words : List ℕ) (begin : ℕ) (a b : List Item) → AllTrue ss words begin (a ++ b) → AllTrue ss words begin a
true_front ss words begin [] b h = tt
true_front ss words begin (i ∷ a) b h = (h.0, true_front ss words (begin + item_words i) a b h.1)

-- the last slots
pub true_back : (ss : List Sight) (words : List ℕ) (begin : ℕ) (a b : List Item) → AllTrue ss words begin (a ++ b) → AllTrue ss words (begin + all_words a) b
true_back ss words begin [] b h = let z : begin ≡ begin + 0 = omega arith in subst (λ n. AllTrue ss words n b) z h
true_back ss words begin (i ∷ a) b h = let z : begin + item_words i + all_words a ≡ begin + (item_words i + all_words a) = omega arith in subst (λ n. AllTrue ss words n b) z (true_back ss words (begin + item_words i) a b h.1)

-- both together
pub true_join : (ss : List Sight) (words : List ℕ) (begin : ℕ) (a b : List Item) → AllTrue ss words begin a → AllTrue ss words (begin + all_words a) b → AllTrue ss words begin (a ++ b)
true_join ss words begin [] b h g = let z : begin + 0 ≡ begin = omega arith in subst (λ n. AllTrue ss words n b) z g
true_join ss words begin (i ∷ a) b h g = let z : begin + (item_words i + all_words a) ≡ begin + item_words i + all_words a = omega arith in (h.0, true_join ss words (begin + item_words i) a b h.1 (subst (λ n. AllTrue ss words n b) z g))

-- ---- other sectors
-- where leaders stay at their addresses
pub true_more : (ss us : List Sight) (words : List ℕ) (at : ℕ) (is : List Item) → ((g : Fid) (a : ℕ) → place ss g 0 ≡ Some a → place us g 0 ≡ Some a) → AllTrue ss words at is → AllTrue us words at is
true_more ss us words at [] stay h = tt
true_more ss us words at (space n ∷ is) stay h = (tt, true_more ss us words (at + n) is stay h.1)
true_more ss us words at (entry f name ∷ is) stay h = (stay f (address_at words at (entry f name)) h.0, true_more ss us words (at + item_words (entry f name)) is stay h.1)

-- where they do except one file, without its entries
pub true_without : (ss us : List Sight) (f : Fid) (words : List ℕ) (at : ℕ) (is : List Item) → ((g : Fid) (a : ℕ) → is_fid g f ≡ false → place ss g 0 ≡ Some a → place us g 0 ≡ Some a) → AllTrue ss words at is → AllTrue us words at (items_without f is)
true_without ss us f words at [] stay h = tt
true_without ss us f words at (space n ∷ is) stay h = (tt, true_without ss us f words (at + n) is stay h.1)
true_without ss us f words at (entry g name ∷ is) stay h =
    let rest = true_without ss us f words (at + item_words (entry g name)) is stay h.1 in
    elim (is_fid g f) as (λ b. is_fid g f ≡ b → AllTrue us words at (cond b (space (item_words (entry g name))) (entry g name) ∷ items_without f is)) [
      | true ↦ λ e. (tt, rest)
      | false ↦ λ e. (stay g (address_at words at (entry g name)) e h.0, rest)
    ] refl

-- ---- slots in the place of others
pub true_replaced : (ss : List Sight) (xs ys : List ℕ) (a old new b : List Item) → ((k : ℕ) → k < all_words a → word ys k ≡ word xs k) → ((k : ℕ) → all_words a + all_words old ≤ k → word ys k ≡ word xs k) → all_words new ≡ all_words old
    → AllTrue ss ys (all_words a) new → AllTrue ss xs 0 (a ++ (old ++ b)) → AllTrue ss ys 0 (a ++ (new ++ b))
true_replaced ss xs ys a old new b before behind size here h =
    let z : 0 + all_words a ≡ all_words a = omega arith in
    let first : AllTrue ss ys 0 a = true_words ss xs ys 0 a (λ k l m. before k (omega arith)) (true_front ss xs 0 a (old ++ b) h) in
    let rest : AllTrue ss xs (all_words a + all_words old) b = true_back ss xs (all_words a) old b (subst (λ n. AllTrue ss xs n (old ++ b)) z (true_back ss xs 0 a (old ++ b) h)) in
    let last : AllTrue ss ys (all_words a + all_words new) b = subst (λ n. AllTrue ss ys (all_words a + n) b) (sym size) (true_words ss xs ys (all_words a + all_words old) b (λ k l m. behind k l) rest) in
    true_join ss ys 0 a (new ++ b) first (subst (λ n. AllTrue ss ys n (new ++ b)) (sym z) (true_join ss ys (all_words a) new b here last))

-- ---- the free slot for words left over
-- has no address
pub left_true : (ss : List Sight) (words : List ℕ) (begin k : ℕ) → AllTrue ss words begin (left_over k [])
left_true ss words begin zero = tt
left_true ss words begin (suc k) = (tt, tt)
