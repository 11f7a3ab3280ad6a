-- The entries beside slots that come in the place of others.
use Rattle.std.proofs.Common.{List, [], ap, arith, inl, inr, length, refl, subst, sym, ℕ, ◌++◌, ◌+◌, ◌<◌, ◌∙◌, ◌∷◌, ◌≡◌, ◌≤◌, ◌⊎◌}
use Rattle.std.proofs.lemmas.List.Elements.{Contains-append_cases, Contains-append_left, Contains-append_right}
use Rattle.std.specs.Prelude.{Contains}
use Rattle.laws_operation.specs.alto_words.specs.declared.fid.Fid.{Fid}
use Rattle.laws_operation.specs.disk_records.specs.Packs.{Pack}
use Rattle.laws_operation.specs.disk_records.specs.Words.{word}
use Rattle.laws_operation.specs.disk_records.specs.declared.records.Page.{Page}
use Rattle.laws_operation.specs.pack_model.specs.hints.Links.{dir_slots, dir_words}
use Rattle.laws_operation.specs.pack_model.specs.hints.Misled.{StandsInEntry}
use Rattle.laws_operation.specs.pack_model.specs.reading.Namings.{Naming, namings_in}
use Rattle.laws_operation.specs.pack_model.specs.reading.SlotWords.{SlotAt, address_at, slots_at}
use Rattle.laws_operation.specs.pack_model.specs.reading.Slots.{Item, all_words, entry_length, item_words}
use Rattle.laws_operation.specs.pack_model.specs.reading.Slots.Item.{entry, space}
use Rattle.laws_operation.specs.laws_record.proofs.Addressing.{entry_words_many}
use Rattle.laws_lookup.specs.OwnLaws.{EntryBesideStands, EntryStandsOutsideOfFreeSlots, ReplacesSlots, ReplacingTurnsRound}
use Rattle.laws_lookup.proofs.inside.Found.{in_cases, none_in}

-- ---- slots where they stand
-- in two parts
pub split_at : (words : List ℕ) (begin : ℕ) (a b : List Item) → slots_at words begin (a ++ b) ≡ slots_at words begin a ++ slots_at words (begin + all_words a) b
unfolding slots_at
split_at words begin [] b = let z : begin ≡ begin + 0 = omega arith in ap (λ n. slots_at words n b) z
split_at words begin (i ∷ a) b =
    let z : begin + item_words i + all_words a ≡ begin + (item_words i + all_words a) = omega arith in
    let s : SlotAt = record { place = begin; item = i; address = address_at words begin i } in
    ap (λ ss. s ∷ ss) (split_at words (begin + item_words i) a b ∙ ap (λ n. slots_at words (begin + item_words i) a ++ slots_at words n b) z)

-- an address in the same words
same_address : (i : Item) (xs ys : List ℕ) (begin : ℕ) → ((k : ℕ) → begin ≤ k → k < begin + item_words i → word ys k ≡ word xs k) → address_at ys begin i ≡ address_at xs begin i
same_address (space n) xs ys begin same = refl
same_address (entry f name) xs ys begin same = let l = entry_words_many (length name) in same (begin + 5) (omega arith) (omega arith)

-- slots in the same words
same_at : (xs ys : List ℕ) (begin : ℕ) (is : List Item) → ((k : ℕ) → begin ≤ k → k < begin + all_words is → word ys k ≡ word xs k) → slots_at ys begin is ≡ slots_at xs begin is
unfolding slots_at
same_at xs ys begin [] same = refl
same_at xs ys begin (i ∷ is) same = λ n.
    record { place = begin; item = i; address = same_address i xs ys begin (λ k l m. same k l (omega arith)) n } ∷ same_at xs ys (begin + item_words i) is (λ k l m. same k (omega arith) (omega arith)) n

-- where one of them stands
pub record Range (begin : ℕ) (is : List Item) (s : SlotAt) : Type 0 where
  pub low : begin ≤ s.place
  pub high : s.place + item_words s.item ≤ begin + all_words is

pub range : (words : List ℕ) (begin : ℕ) (is : List Item) (s : SlotAt) → Contains (slots_at words begin is) s → Range begin is s
unfolding slots_at
range words begin [] s h = absurd (none_in s h)
range words begin (i ∷ is) s h = elim (in_cases (record { place = begin; item = i; address = address_at words begin i }) (slots_at words (begin + item_words i) is) s h) [
  | inl e ↦ subst (λ (t : SlotAt). Range begin (i ∷ is) t) e (record { low = omega arith; high = omega arith })
  | inr more ↦ let r = range words (begin + item_words i) is s more in let l = r.low in let h = r.high in record { low = omega arith; high = omega arith }
]

-- free slots have no entry
pub no_entry : (d : Fid) (words : List ℕ) (begin : ℕ) (is : List Item) (s : SlotAt) (f : Fid) (name : List ℕ) → namings_in d is ≡ [] → Contains (slots_at words begin is) s → s.item ≡ entry f name → ⊥
unfolding slots_at
no_entry d words begin [] s f name bare h is = none_in s h
no_entry d words begin (space n ∷ is) s f name bare h item = elim (in_cases (record { place = begin; item = space n; address = 0 }) (slots_at words (begin + n) is) s h) [
  | inl e ↦ let clash : space n ≡ entry f name = ap (λ (t : SlotAt). t.item) e ∙ item in cc
  | inr more ↦ no_entry d words (begin + n) is s f name bare more item
]
no_entry d words begin (entry g own ∷ is) s f name bare h item = let clash : ◌≡◌ {A = List Naming} (record { dir = d; name = own; fid = g } ∷ namings_in d is) [] = bare in absurd cc

-- ---- one of the slots
module _ (p q : Pack) (d : Fid) (a old new b : List Item) (r : ReplacesSlots p q d a old new b) where
  -- in three parts
  parts_of : (words : List ℕ) (mid : List Item) → slots_at words 0 (a ++ (mid ++ b)) ≡ slots_at words 0 a ++ (slots_at words (all_words a) mid ++ slots_at words (all_words a + all_words mid) b)
  parts_of words mid =
      let z : 0 + all_words a ≡ all_words a = omega arith in
      split_at words 0 a (mid ++ b) ∙ ap (λ n. slots_at words 0 a ++ slots_at words n (mid ++ b)) z ∙ ap (λ ss. slots_at words 0 a ++ ss) (split_at words (all_words a) mid b)

  -- the last part, where its slots stand in the other words
  last_part : (s : SlotAt) → Contains (slots_at (dir_words p d) (all_words a + all_words old) b) s → Contains (slots_at (dir_words q d) (all_words a + all_words new) b) s
  unfolding slots_at
  last_part s h = elim r.size [
    | inl none ↦ absurd (none_in s (subst (λ is. Contains (slots_at (dir_words p d) (all_words a + all_words old) is) s) none h))
    | inr same ↦
        let now : slots_at (dir_words q d) (all_words a + all_words old) b ≡ slots_at (dir_words p d) (all_words a + all_words old) b = same_at (dir_words p d) (dir_words q d) (all_words a + all_words old) b (λ k l m. r.later k l m) in
        subst (λ n. Contains (slots_at (dir_words q d) (all_words a + n) b) s) (sym same) (subst (λ ss. Contains ss s) (sym now) h)
  ]

  -- each slot stands still, or is one of those that go
  pub still : (s : SlotAt) → Contains (dir_slots p d) s → Contains (dir_slots q d) s ⊎ Contains (slots_at (dir_words p d) (all_words a) old) s
  still s h =
      let was : dir_slots p d ≡ slots_at (dir_words p d) 0 a ++ (slots_at (dir_words p d) (all_words a) old ++ slots_at (dir_words p d) (all_words a + all_words old) b) = ap (slots_at (dir_words p d) 0) r.were ∙ parts_of (dir_words p d) old in
      let is : dir_slots q d ≡ slots_at (dir_words q d) 0 a ++ (slots_at (dir_words q d) (all_words a) new ++ slots_at (dir_words q d) (all_words a + all_words new) b) = ap (slots_at (dir_words q d) 0) r.are ∙ parts_of (dir_words q d) new in
      elim (Contains-append_cases (slots_at (dir_words p d) 0 a) (slots_at (dir_words p d) (all_words a) old ++ slots_at (dir_words p d) (all_words a + all_words old) b) s (subst (λ ss. Contains ss s) was h)) [
        | inl first ↦
            let now : slots_at (dir_words q d) 0 a ≡ slots_at (dir_words p d) 0 a = same_at (dir_words p d) (dir_words q d) 0 a (λ k l m. r.before k (omega arith)) in
            inl (subst (λ ss. Contains ss s) (sym is) (Contains-append_left (slots_at (dir_words q d) 0 a) (slots_at (dir_words q d) (all_words a) new ++ slots_at (dir_words q d) (all_words a + all_words new) b) s (subst (λ ss. Contains ss s) (sym now) first)))
        | inr more ↦ elim (Contains-append_cases (slots_at (dir_words p d) (all_words a) old) (slots_at (dir_words p d) (all_words a + all_words old) b) s more) [
          | inl gone ↦ inr gone
          | inr last ↦ inl (subst (λ ss. Contains ss s) (sym is) (Contains-append_right (slots_at (dir_words q d) 0 a) (slots_at (dir_words q d) (all_words a) new ++ slots_at (dir_words q d) (all_words a + all_words new) b) s
              (Contains-append_right (slots_at (dir_words q d) (all_words a) new) (slots_at (dir_words q d) (all_words a + all_words new) b) s (last_part s last))))
        ]
      ]

  -- so its entry does
  stands_by : (w at : ℕ) (wanted : Page) (s : StandsInEntry p d w at wanted) → Contains (dir_slots q d) s.slot → StandsInEntry q d w at wanted
  stands_by w at wanted s there = record {
    lives = r.living ∙ s.lives;
    directory = s.directory;
    slot = s.slot;
    name = s.name;
    stands = there;
    item = s.item;
    number = s.number;
    word = s.word;
    address = s.address;
  }

  -- an entry's address word is within its slot
  outside : (w at : ℕ) (wanted : Page) (s : StandsInEntry p d w at wanted) → (w < all_words a) ⊎ (all_words a + all_words old ≤ w) → Contains (slots_at (dir_words p d) (all_words a) old) s.slot → ⊥
  outside w at wanted s apart h =
      let x = range (dir_words p d) (all_words a) old s.slot h in
      let low = x.low in
      let high = x.high in
      let long = entry_words_many (length s.name) in
      let size : item_words s.slot.item ≡ entry_length (length s.name) = ap item_words s.item in
      let here = s.word in
      elim apart [ inl before ↦ omega arith | inr later ↦ omega arith ]

-- ---- the laws
pub entry_beside_stands : EntryBesideStands
entry_beside_stands p q d a old new b w at wanted r apart s = elim (still p q d a old new b r s.slot s.stands) [
  | inl there ↦ stands_by p q d a old new b r w at wanted s there
  | inr gone ↦ absurd (outside p q d a old new b r w at wanted s apart gone)
]

pub entry_stands_outside_of_free_slots : EntryStandsOutsideOfFreeSlots
entry_stands_outside_of_free_slots p q d a old new b w at wanted r bare s = elim (still p q d a old new b r s.slot s.stands) [
  | inl there ↦ stands_by p q d a old new b r w at wanted s there
  | inr gone ↦ absurd (no_entry d (dir_words p d) (all_words a) old s.slot wanted.fid s.name bare gone s.item)
]

pub replacing_turns_round : ReplacingTurnsRound
replacing_turns_round p q d a old new b r = record {
  living = sym r.living;
  were = r.are;
  are = r.were;
  size = elim r.size [ inl none ↦ inl none | inr same ↦ inr (sym same) ];
  before = λ k l. sym (r.before k l);
  later = λ k l m. elim r.size [ inl none ↦ (let z : all_words b ≡ 0 = ap all_words none in absurd (omega arith)) | inr same ↦ sym (r.later k (omega (arith, same)) (omega (arith, same))) ];
}
