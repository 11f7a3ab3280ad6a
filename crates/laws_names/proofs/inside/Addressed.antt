-- Another address is written in an entry: every other slot stands as it stood.
use Rattle.std.proofs.Common.{◌+◌, ◌<◌, ◌∙◌, ◌∷◌, ◌≡◌, ◌≢◌, ◌⊎◌, Bool, List, [], ap, arith, drop, false, inl, inr, length, refl, subst, sym, true, ℕ}
use Rattle.std.proofs.lemmas.Bool.{cases_eq, cases_lt}
use Rattle.std.proofs.lemmas.List.Elements.{Contains-append_cases, Contains-append_right, Contains-push_cases}
use Rattle.std.specs.Prelude.{Contains}
use Rattle.laws_mend.specs.alto_words.specs.Fid.{is_fid}
use Rattle.laws_mend.specs.alto_words.specs.declared.fid.Fid.{Fid}
use Rattle.laws_mend.specs.disk_records.specs.Packs.{Pack}
use Rattle.laws_mend.specs.disk_records.specs.Words.{word}
use Rattle.laws_mend.specs.pack_model.specs.hints.Links.{dir_slots, dir_words}
use Rattle.laws_mend.specs.pack_model.specs.reading.Bytes.{put_at, words_of}
use Rattle.laws_mend.specs.pack_model.specs.reading.SlotWords.{SlotAt, address_at, address_word, slots_at}
use Rattle.laws_mend.specs.pack_model.specs.reading.Slots.{Item, item_words, slots}
use Rattle.laws_mend.specs.pack_model.specs.reading.Slots.Item.{entry, space}
use Rattle.laws_mend.specs.pack_model.specs.scavenger.Reports.{PagesMended}
use Rattle.laws_mend.specs.pack_laws.proofs.Keys.{is_fid-itself, same_fid}
use Rattle.laws_mend.specs.laws_record.proofs.Heads.{head_of, slots_cons}
use Rattle.laws_mend.specs.laws_record.proofs.Slotwise.{put_after, put_before, put_here}
use Rattle.laws_mend.specs.laws_record.specs.DirLaws.{DirWrite, dir_written}
use Rattle.laws_mend.specs.laws_record.specs.DirLaws.IsLooseWord.{of_address}
use Rattle.laws_mend.specs.laws_lookup.proofs.Replacing.{range}
use Rattle.laws_names.proofs.inside.Freed.{loose_words_leave}
use Rattle.laws_names.specs.WriteLaws.{AddressIsWritten, LooseWordsWritten}

-- ---- slots of a list
in_cases : (s : SlotAt) (ss : List SlotAt) (t : SlotAt) → Contains (s ∷ ss) t → (s ≡ t) ⊎ Contains ss t
in_cases s ss t h = elim (Contains-append_cases (s ∷ []) ss t h) [
  | inl one ↦ elim (Contains-push_cases [] s t one) [ inl none ↦ absurd (let l = none.1 in omega arith) | inr e ↦ inl e ]
  | inr more ↦ inr more
]

-- each has a word at least
AllSome : List Item → Type 0
AllSome [] = Unit {0}
AllSome (i ∷ is) = (0 < item_words i) × AllSome is

all_some : (is : List Item) (words : List ℕ) → slots words ≡ is → AllSome is
unfolding AllSome
all_some [] words e = tt
all_some (i ∷ is) words e =
    let s = slots_cons words i is e in
    ((head_of words i s.0).some, all_some is (drop (item_words i) words) s.1)

-- so one slot alone stands at a place
one_there : (words : List ℕ) (begin : ℕ) (is : List Item) → AllSome is → (s t : SlotAt) → Contains (slots_at words begin is) s → Contains (slots_at words begin is) t → s.place ≡ t.place → s ≡ t
unfolding slots_at AllSome
one_there words begin [] some s t h k same = absurd (let l = h.1 in omega arith)
one_there words begin (i ∷ is) some s t h k same =
    let first : SlotAt = record { place = begin; item = i; address = address_at words begin i } in
    let rest : List SlotAt = slots_at words (begin + item_words i) is in
    by (λ x y. one_there words (begin + item_words i) is some.1 s t x y same) (in_cases first rest s h) (in_cases first rest t k)
  where
    by : (Contains (slots_at words (begin + item_words i) is) s → Contains (slots_at words (begin + item_words i) is) t → s ≡ t) → (record { place = begin; item = i; address = address_at words begin i } ≡ s) ⊎ Contains (slots_at words (begin + item_words i) is) s
        → (record { place = begin; item = i; address = address_at words begin i } ≡ t) ⊎ Contains (slots_at words (begin + item_words i) is) t → s ≡ t
    by later (inl x) (inl y) = sym x ∙ y
    by later (inl x) (inr y) = absurd (let l = (range words (begin + item_words i) is t y).low in let z : begin ≡ s.place = ap (λ (r : SlotAt). r.place) x in let some_here = some.0 in omega arith)
    by later (inr x) (inl y) = absurd (let l = (range words (begin + item_words i) is s x).low in let z : begin ≡ t.place = ap (λ (r : SlotAt). r.place) y in let some_here = some.0 in omega arith)
    by later (inr x) (inr y) = later x y

-- a slot as it stands in other words
abbrev in_words : List ℕ → SlotAt → SlotAt
in_words words t = record { place = t.place; item = t.item; address = address_at words t.place t.item }

moved : (xs ys : List ℕ) (begin : ℕ) (is : List Item) (t : SlotAt) → Contains (slots_at ys begin is) t → Contains (slots_at xs begin is) (in_words xs t)
unfolding slots_at
moved xs ys begin [] t h = absurd (let l = h.1 in omega arith)
moved xs ys begin (i ∷ is) t h = elim (in_cases (record { place = begin; item = i; address = address_at ys begin i }) (slots_at ys (begin + item_words i) is) t h) [
  | inl e ↦ subst (λ (r : SlotAt). Contains (slots_at xs begin (i ∷ is)) (in_words xs r)) e (0, omega arith, refl)
  | inr more ↦ Contains-append_right (record { place = begin; item = i; address = address_at xs begin i } ∷ []) (slots_at xs (begin + item_words i) is) (in_words xs t) (moved xs ys (begin + item_words i) is t more)
]

-- with its address there
own_address : (ys : List ℕ) (begin : ℕ) (is : List Item) (t : SlotAt) → Contains (slots_at ys begin is) t → t.address ≡ address_at ys t.place t.item
unfolding slots_at
own_address ys begin [] t h = absurd (let l = h.1 in omega arith)
own_address ys begin (i ∷ is) t h = elim (in_cases (record { place = begin; item = i; address = address_at ys begin i }) (slots_at ys (begin + item_words i) is) t h) [
  | inl e ↦ subst (λ (r : SlotAt). r.address ≡ address_at ys r.place r.item) e refl
  | inr more ↦ own_address ys (begin + item_words i) is t more
]

-- ---- the write
module _ (p : Pack) (d : Fid) (at : ℕ) (s : SlotAt) (f : Fid) (name : List ℕ) (address : ℕ) (m : PagesMended p) (stands : Contains (dir_slots p d) s) (is_entry : s.item ≡ entry f name) (h : DirWrite p d (address_word s.place) at (address ∷ [])) where
  abbrev q : Pack
  q = dir_written p (address_word s.place) at (address ∷ [])

  loose : LooseWordsWritten p q d (address_word s.place) (address ∷ [])
  loose = loose_words_leave p d (address_word s.place) at (address ∷ []) m h (λ k low high. of_address (record { lives = h.lives; directory = h.directory; slot = s; fid = f; name = name; stands = stands; item = is_entry; word = (let one : length (address ∷ []) ≡ 1 = refl in omega arith) }))

  -- the new address, and all other words
  here : word (dir_words q d) (address_word s.place) ≡ address
  here =
      let z : address_word s.place ≡ address_word s.place + 0 = omega arith in
      let one : length (address ∷ []) ≡ 1 = refl in
      ap (λ ws. word ws (address_word s.place)) loose.written.words_are ∙ ap (word (put_at (address_word s.place) (address ∷ []) (dir_words p d))) z ∙ put_here (address_word s.place) (address ∷ []) (dir_words p d) 0 h.within (omega arith)

  other : (k : ℕ) → k ≢ address_word s.place → word (dir_words q d) k ≡ word (dir_words p d) k
  other k apart = ap (λ ws. word ws k) loose.written.words_are ∙ elim (cases_lt k (address_word s.place)) [
    | inl l ↦ put_before (address_word s.place) (address ∷ []) (dir_words p d) k h.within l
    | inr l ↦ put_after (address_word s.place) (address ∷ []) (dir_words p d) k h.within (let one : length (address ∷ []) ≡ 1 = refl in let z : address_word s.place ≢ k = λ e. apart (sym e) in omega arith)
  ]

  -- the address of another slot
  same_address : (place : ℕ) (i : Item) → place ≢ s.place → address_at (dir_words q d) place i ≡ address_at (dir_words p d) place i
  same_address place (space n) apart = refl
  same_address place (entry g own) apart = other (place + 5) (λ e. apart (omega arith))

  abbrev is : List Item
  is = slots (dir_words p d)

  now : (t : SlotAt) → Contains (dir_slots q d) t → Contains (slots_at (dir_words q d) 0 (slots (dir_words p d))) t
  now t here = subst (λ js. Contains (slots_at (dir_words q d) 0 js) t) (loose.slots_are d) here

  -- of the directory itself
  comes : (t : SlotAt) → Contains (dir_slots q d) t → (Contains (dir_slots p d) t × (t.place ≢ s.place)) ⊎ (t ≡ record { place = s.place; item = s.item; address = address })
  comes t there = by (cases_eq t.place s.place)
    where
      own : t.address ≡ address_at (dir_words q d) t.place t.item
      own = own_address (dir_words q d) 0 (slots (dir_words p d)) t (now t there)

      was : Contains (dir_slots p d) (in_words (dir_words p d) t)
      was = moved (dir_words p d) (dir_words q d) 0 (slots (dir_words p d)) t (now t there)

      by : (t.place ≡ s.place) ⊎ (t.place ≢ s.place) → (Contains (dir_slots p d) t × (t.place ≢ s.place)) ⊎ (t ≡ record { place = s.place; item = s.item; address = address })
      by (inr apart) = let e : in_words (dir_words p d) t ≡ t = λ i. record { place = t.place; item = t.item; address = sym (own ∙ same_address t.place t.item apart) i } in inl (subst (λ (r : SlotAt). Contains (dir_slots p d) r) e was, apart)
      by (inl same) =
          let one : in_words (dir_words p d) t ≡ s = one_there (dir_words p d) 0 (slots (dir_words p d)) (all_some (slots (dir_words p d)) (dir_words p d) refl) (in_words (dir_words p d) t) s was stands same in
          let items : t.item ≡ s.item = ap (λ (r : SlotAt). r.item) one in
          let new : t.address ≡ address = own ∙ (λ i. address_at (dir_words q d) (same i) ((items ∙ is_entry) i)) ∙ here in
          inr (λ i. record { place = same i; item = items i; address = new i })

  stays : (t : SlotAt) → Contains (dir_slots p d) t → t.place ≢ s.place → Contains (dir_slots q d) t
  stays t there apart =
      let own : t.address ≡ address_at (dir_words p d) t.place t.item = own_address (dir_words p d) 0 (slots (dir_words p d)) t there in
      let e : in_words (dir_words q d) t ≡ t = λ i. record { place = t.place; item = t.item; address = sym (own ∙ sym (same_address t.place t.item apart)) i } in
      subst (λ js. Contains (slots_at (dir_words q d) 0 js) t) (sym (loose.slots_are d)) (subst (λ (r : SlotAt). Contains (slots_at (dir_words q d) 0 (slots (dir_words p d))) r) e (moved (dir_words q d) (dir_words p d) 0 (slots (dir_words p d)) t there))

  -- of each directory
  not_own : (e : Fid) → is_fid e d ≡ false → e ≡ d → ⊥
  not_own e c same = (let x : false ≡ true = sym c ∙ ap (λ g. is_fid g d) same ∙ is_fid-itself d in cc)

  come_all : (e : Fid) (t : SlotAt) (c : Bool) → is_fid e d ≡ c → Contains (dir_slots q e) t → (Contains (dir_slots p e) t × (e ≡ d → t.place ≡ s.place → ⊥)) ⊎ ((e ≡ d) × (t ≡ record { place = s.place; item = s.item; address = address }))
  come_all e t false c there = inl (subst (λ ws. Contains (slots_at ws 0 (slots ws)) t) (ap words_of (loose.written.others e c)) there, λ same l. not_own e c same)
  come_all e t true c there = elim (comes t (subst (λ g. Contains (dir_slots q g) t) (same_fid e d c) there)) [
    | inl r ↦ inl (subst (λ g. Contains (dir_slots p g) t) (sym (same_fid e d c)) r.0, λ same l. r.1 l)
    | inr r ↦ inr (same_fid e d c, r)
  ]

  stay_all : (e : Fid) (t : SlotAt) (c : Bool) → is_fid e d ≡ c → Contains (dir_slots p e) t → (e ≡ d → t.place ≡ s.place → ⊥) → Contains (dir_slots q e) t
  stay_all e t false c there apart = subst (λ ws. Contains (slots_at ws 0 (slots ws)) t) (sym (ap words_of (loose.written.others e c))) there
  stay_all e t true c there apart = subst (λ g. Contains (dir_slots q g) t) (sym (same_fid e d c)) (stays t (subst (λ g. Contains (dir_slots p g) t) (same_fid e d c) there) (λ l. apart (same_fid e d c) l))

pub address_is_written : AddressIsWritten
address_is_written p d at s f name address m stands is_entry h = record {
  loose = loose p d at s f name address m stands is_entry h;
  stay = λ e t there apart. stay_all p d at s f name address m stands is_entry h e t (is_fid e d) refl there apart;
  come = λ e t there. come_all p d at s f name address m stands is_entry h e t (is_fid e d) refl there;
}
