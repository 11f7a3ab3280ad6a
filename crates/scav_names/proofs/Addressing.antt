-- Addresses of entries, made true one after another.
use Rattle.std.proofs.Common.{◌≡◌, ◌⊎◌, inl, inr, ℕ, zero, suc, ◌+◌, ◌/◌, ◌^◌, ◌<◌, ◌≤◌, ◌==◌, Bool, true, false, cond, List, [], ◌∷◌, ◌++◌, length, get_or, Option, Some, None, refl, sym, ap, subst, ◌∙◌, eqb-true, arith}
use Rattle.std.specs.Prelude.{All, Contains}
use Rattle.std.specs.Option.{is_some, option_map, option_map_or, option_to_list}
use Rattle.std.specs.Cmp.{tied_itself}
use Rattle.std.specs.declared.cmp.Ordering.TheVariants.{Less, Equal}
use Rattle.std.proofs.lemmas.List.Elements.{All-append, All-cons, All-contains, All-contains_itself, All-head, All-nil, All-tail}
use borrow.Author.Tests.{eqb-false}
use Rattle.alto_words.specs.declared.fid.Fid.{Fid}
use Rattle.alto_words.specs.Fid.{fid_cmp, is_fid}
use Rattle.dir_slots.proofs.Hands.{slots_within}
use Rattle.dir_slots.proofs.Slots.{all_words-append}
use Rattle.disk_records.specs.Packs.{Pack, after}
use Rattle.disk_records.proofs.Growing.{after-append}
use Rattle.scav_pages.specs.laws_contents.proofs.pages.Laws.{page_numbers_are_words}
use Rattle.scav_pages.specs.laws_contents.proofs.words.Laws.{each_word_has_its_page}
use Rattle.scav_pages.specs.laws_lookup.proofs.Replacing.{range}
use Rattle.laws_names.specs.Keeping.{AllKeepOpen}
use Rattle.laws_names.specs.WriteLaws.{AddressIsSet}
use Rattle.laws_names.proofs.entries.Laws.{names_are_mended, slot_splits}
use Rattle.laws_names.proofs.lacking.Laws.{none_lacking_is_named}
use Rattle.laws_names.proofs.joins.Laws.{keeps_open_join, nothing_keeps_open}
use Rattle.laws_names.proofs.writes.Laws.{address_is_written}
use Rattle.laws_names.proofs.parts.Laws.{mended_has_parts}
use Rattle.scav_pages.specs.laws_operation.proofs.places.Laws.{file_lives_in_a_place}
use Rattle.scav_pages.specs.laws_record.specs.DirLaws.{DirWrite, dir_written}
use Rattle.scav_pages.specs.pack_laws.proofs.Keys.{fid_total, is_fid-itself, same_fid}
use Rattle.pack_model.specs.hints.Links.{IsTrueAddress, dir_slots, dir_words}
use Rattle.pack_model.specs.operations.PageWords.{in_page}
use Rattle.pack_model.specs.reading.Files.{lives, place}
use Rattle.pack_model.specs.reading.Sights.{Sight, sights}
use Rattle.pack_model.specs.reading.SlotWords.{SlotAt, address_at, address_word, slots_at}
use Rattle.pack_model.specs.reading.Slots.{Item, all_words, entry_length, item_words, slots}
use Rattle.pack_model.specs.reading.Slots.Item.{space, entry}
use Rattle.pack_model.specs.scavenger.Mended.{lacking}
use Rattle.pack_model.specs.scavenger.Reports.{NamesMended}
use Rattle.scav_names.specs.declared.living.Living.{Living}
use Rattle.scav_names.specs.declared.placed.PlacedEntry.{PlacedEntry}
use Rattle.scav_names.specs.declared.words.DirWord.{DirWord}
use Rattle.scav_names.specs.Living.{living_in}
use Rattle.scav_names.specs.Parts.{AreInOrder, IsAlive, IsTrueBut, MayBeAddressed, StandsBefore, StandsThere, slot_of}
use Rattle.scav_names.specs.Words as words
use Rattle.scav_names.specs.Words.{AreWordsOf, ComesFirst, IsWordOf, true_address, address_words, other_address, page_writes, word_writes, words_writes}
use Rattle.scav_names.proofs.WordRuns.{page_keeps, page_left}

-- ---- two slots in one place
in_cases : (x : SlotAt) (xs : List SlotAt) (s : SlotAt) → Contains (x ∷ xs) s → (x ≡ s) ⊎ Contains xs s
in_cases x xs s (zero, l, e) = inl e
in_cases x xs s (suc k, l, e) = inr (k, omega (arith, l), e)

in_entries : (x : PlacedEntry) (xs : List PlacedEntry) (s : PlacedEntry) → Contains (x ∷ xs) s → (x ≡ s) ⊎ Contains xs s
in_entries x xs s (zero, l, e) = inl e
in_entries x xs s (suc k, l, e) = inr (k, omega (arith, l), e)

-- if one is an entry with a true address, the other has a true one
same_slot : (ss : List Sight) (words : List ℕ) (begin : ℕ) (is : List Item) (s t : SlotAt) (f : Fid) (name : List ℕ) → Contains (slots_at words begin is) s → Contains (slots_at words begin is) t → s.item ≡ entry f name → t.place ≡ s.place → IsTrueAddress ss s.item s.address → IsTrueAddress ss t.item t.address
unfolding slots_at
same_slot ss words begin [] s t f name (k, l, e) there item at good = absurd (omega (arith, l))
same_slot ss words begin (i ∷ is) s t f name here there item at good =
    let head : SlotAt = record { place = begin; item = i; address = address_at words begin i } in
    elim (in_cases head (slots_at words (begin + item_words i) is) s here) [
      | inl a ↦ elim (in_cases head (slots_at words (begin + item_words i) is) t there) [
        | inl b ↦ subst (λ x. IsTrueAddress ss x.item x.address) (sym a ∙ b) good
        | inr b ↦
            let low = (range words (begin + item_words i) is t b).low in
            let first : begin ≡ s.place = ap (λ x. x.place) a in
            let size : item_words i ≡ item_words (entry f name) = ap item_words (ap (λ x. x.item) a ∙ item) in
            absurd (omega (arith, low, first, at, size))
      ]
      | inr a ↦ elim (in_cases head (slots_at words (begin + item_words i) is) t there) [
        | inl b ↦ subst (λ x. IsTrueAddress ss x.item x.address) b (by i (range words (begin + item_words i) is s a).low (ap (λ x. x.place) b))
        | inr b ↦ same_slot ss words (begin + item_words i) is s t f name a b item at good
      ]
    ]
  where
    by : (j : Item) → begin + item_words j ≤ s.place → begin ≡ t.place → IsTrueAddress ss j (address_at words begin j)
    by (space n) low first = tt
    by (entry g own) low first = absurd (omega (arith, low, first, at))

-- ---- one address
-- it is written in the page of its word
address_write : (p : Pack) (e : PlacedEntry) (address : ℕ) → StandsThere p e → (at : ℕ) × DirWrite p e.dir (address_word e.place) at (address ∷ [])
address_write p e address there =
    let splits = slot_splits p e.dir (slot_of e) there.stands in
    let size : all_words (slots (dir_words p e.dir)) ≡ all_words splits.before + (entry_length (length e.name) + all_words splits.behind) = ap all_words splits.slots_are ∙ all_words-append splits.before (entry e.fid e.name ∷ splits.behind) in
    let within = slots_within (dir_words p e.dir) in
    let place : e.place ≡ all_words splits.before = splits.place in
    let fits : e.place + 5 < length (dir_words p e.dir) = omega (arith, size, within, place) in
    let has = each_word_has_its_page p e.dir (e.place + 5) fits in (
      has.at,
      record {
        directory = there.directory;
        lives = there.living;
        sector = has.stands.sector;
        some = omega arith;
        one_page = omega arith;
        within = omega (arith, fits);
      },
    )

-- the word of an entry, where it isn't true
abbrev new_word : PlacedEntry → Living → DirWord
new_word e x = record { dir = e.dir; place = address_word e.place; word = x.leader_at }

not_before_itself : (f : Fid) → fid_cmp f f ≡ Less → ⊥
not_before_itself f less = (let tie : Less ≡ Equal = sym less ∙ tied_itself fid_total f in cc)

-- an entry after another one stands elsewhere
apart : (e f : PlacedEntry) → StandsBefore e f → f.dir ≡ e.dir → f.place ≡ e.place → ⊥
apart e f (inl less) dir at = not_before_itself e.dir (subst (λ d. fid_cmp e.dir d ≡ Less) dir less)
apart e f (inr same) dir at = let low = same.1 in omega (arith, low, at)

true_still : (p q : Pack) (i : Item) (a : ℕ) → ((f : Fid) (n : ℕ) → place (sights q) f n ≡ place (sights p) f n) → IsTrueAddress (sights p) i a → IsTrueAddress (sights q) i a
true_still p q (space n) a places good = tt
true_still p q (entry f name) a places good = places f 0 ∙ good

lives_still : (p q : Pack) (f : Fid) → ((g : Fid) (n : ℕ) → place (sights q) g n ≡ place (sights p) g n) → lives (sights q) f ≡ lives (sights p) f
lives_still p q f places = file_lives_in_a_place q f ∙ ap is_some (places f 0) ∙ sym (file_lives_in_a_place p f)

-- of which no entry is asked any more
module _ (p : Pack) (files : List Living) (e : PlacedEntry) (es : List PlacedEntry) (may : MayBeAddressed p files (e ∷ es)) (x : Living) (alive : living_in files e.fid ≡ Some x) where
  there : StandsThere p e
  there = All-head (StandsThere p) e es may.stand

  led : place (sights p) e.fid 0 ≡ Some x.leader_at
  led = sym (may.leaders e.fid) ∙ ap (option_map (λ y. y.leader_at)) alive

  -- its address is true already
  true_already : x.leader_at ≡ e.leader_at → MayBeAddressed p files es
  true_already same = record {
    pages = may.pages;
    tidy = may.tidy;
    lacking_none = may.lacking_none;
    rises = may.rises;
    leaders = may.leaders;
    alive = All-tail (IsAlive files) e es may.alive;
    stand = All-tail (StandsThere p) e es may.stand;
    order = may.order.1;
    others = λ d living directory k z within not_one.
        let t = get_or (dir_slots p d) k z in
        let here : Contains (dir_slots p d) t = All-contains_itself (dir_slots p d) k z within in
        by d t here (λ not_e. may.others d living directory k z within (λ f has dir at. elim (in_entries e es f has) [
          | inl one ↦ not_e (ap (λ y. y.dir) one ∙ dir) (ap (λ y. y.place) one ∙ at)
          | inr more ↦ not_one f more dir at
        ])) (is_fid e.dir d) (e.place == t.place) refl refl;
  }
    where
      by : (d : Fid) (t : SlotAt) → Contains (dir_slots p d) t → ((e.dir ≡ d → e.place ≡ t.place → ⊥) → IsTrueAddress (sights p) t.item t.address) → (a b : Bool) → is_fid e.dir d ≡ a → (e.place == t.place) ≡ b → IsTrueAddress (sights p) t.item t.address
      by d t here other true true a b =
          let dir : e.dir ≡ d = same_fid e.dir d a in
          let at : e.place ≡ t.place = eqb-true e.place t.place b in
          same_slot (sights p) (dir_words p d) 0 (slots (dir_words p d)) (slot_of e) t e.fid e.name (subst (λ g. Contains (dir_slots p g) (slot_of e)) dir there.stands) here refl (sym at) (led ∙ ap (λ n. Some n) same)
      by d t here other true false a b = other (λ dir at. eqb-false e.place t.place b at)
      by d t here other false c a b = other (λ dir at. (let yes : is_fid e.dir d ≡ true = ap (λ g. is_fid g d) dir ∙ is_fid-itself d in let no : true ≡ false = sym yes ∙ a in cc))

  -- or becomes so
  module _ (at : ℕ) (write : DirWrite p e.dir (address_word e.place) at (x.leader_at ∷ [])) where
    set : AddressIsSet p (dir_written p (address_word e.place) at (x.leader_at ∷ [])) e.dir (slot_of e) x.leader_at
    set = address_is_written p e.dir at (slot_of e) e.fid e.name x.leader_at may.pages there.stands refl write

    true_now : MayBeAddressed (dir_written p (address_word e.place) at (x.leader_at ∷ [])) files es
    true_now = record {
      pages = set.loose.written.mended;
      tidy = set.loose.tidy may.tidy;
      lacking_none = ap lacking set.loose.mended_is ∙ may.lacking_none;
      rises = may.rises;
      leaders = λ f. may.leaders f ∙ sym (set.loose.written.places_are f 0);
      alive = All-tail (IsAlive files) e es may.alive;
      stand = λ k z within.
          let f = get_or es k z in
          let was : StandsThere p f = All-tail (StandsThere p) e es may.stand k z within in
          record {
            living = lives_still p q f.dir set.loose.written.places_are ∙ was.living;
            directory = was.directory;
            stands = set.stay f.dir (slot_of f) was.stands (λ dir place. apart e f (may.order.0 k z within) dir place);
          };
      order = may.order.1;
      others = λ d living directory k z within not_one.
          let t = get_or (dir_slots q d) k z in
          elim (set.come d t (All-contains_itself (dir_slots q d) k z within)) [
            | inl old ↦ true_still p q t.item t.address set.loose.written.places_are (All-contains (IsTrueBut p (e ∷ es) d) (dir_slots p d) t (may.others d (sym (lives_still p q d set.loose.written.places_are) ∙ living) directory) old.0 (λ f has dir place. elim (in_entries e es f has) [
              | inl one ↦ old.1 (sym (ap (λ y. y.dir) one ∙ dir)) (sym (ap (λ y. y.place) one ∙ place))
              | inr more ↦ not_one f more dir place
            ]))
            | inr new ↦ subst (λ y. IsTrueAddress (sights q) y.item y.address) (sym new.1) (set.loose.written.places_are e.fid 0 ∙ led)
          ];
    }
      where
        q : Pack
        q = dir_written p (address_word e.place) at (x.leader_at ∷ [])

    write_is : word_writes p (new_word e x) ≡ page_writes p at (in_page (address_word e.place)) (x.leader_at ∷ [])
    write_is = ap (λ o. page_writes p (option_map_or (λ i. i) o 0) (in_page (address_word e.place)) (x.leader_at ∷ [])) write.sector

    address_left : after p (word_writes p (new_word e x)) ≡ dir_written p (address_word e.place) at (x.leader_at ∷ [])
    address_left = ap (after p) write_is ∙ page_left p (address_word e.place) at (x.leader_at ∷ [])

    address_keeps : AllKeepOpen p (word_writes p (new_word e x))
    address_keeps = subst (AllKeepOpen p) (sym write_is) (page_keeps p (address_word e.place) at (x.leader_at ∷ []) set.loose.written.keeps)

-- ---- all of them
pub record RunsTrue (p : Pack) (words : List DirWord) : Type 0 where
  pub keeps : AllKeepOpen p (words_writes p words)
  pub mended : NamesMended (after p (words_writes p words))

-- a word, and then the others
then_word : (p q : Pack) (w : DirWord) (ws : List DirWord) → after p (word_writes p w) ≡ q → AllKeepOpen p (word_writes p w) → RunsTrue q ws → RunsTrue p (w ∷ ws)
then_word p q w ws left keeps rest = record {
  keeps = keeps_open_join p (word_writes p w) (words_writes (after p (word_writes p w)) ws) keeps (subst (λ r. AllKeepOpen r (words_writes r ws)) (sym left) rest.keeps);
  mended = subst NamesMended (sym (after-append p (word_writes p w) (words_writes (after p (word_writes p w)) ws) ∙ ap (λ r. after r (words_writes r ws)) left)) rest.mended;
}

-- that of the first entry, and then the others
first_address : (p : Pack) (files : List Living) (e : PlacedEntry) (es : List PlacedEntry) (may : MayBeAddressed p files (e ∷ es)) → ((q : Pack) → MayBeAddressed q files es → RunsTrue q (address_words files es)) → RunsTrue p (address_words files (e ∷ es))
first_address p files e es may rest = by (x.leader_at == e.leader_at) refl
  where
    x : Living
    x = (All-head (IsAlive files) e es may.alive).0

    alive : living_in files e.fid ≡ Some x
    alive = (All-head (IsAlive files) e es may.alive).1

    words_are : (b : Bool) → (x.leader_at == e.leader_at) ≡ b → address_words files (e ∷ es) ≡ option_to_list (cond b None (Some (new_word e x))) ++ address_words files es
    words_are b test = ap (λ o. option_to_list (other_address e o) ++ address_words files es) alive ∙ ap (λ c. option_to_list (cond c None (Some (new_word e x))) ++ address_words files es) test

    by : (b : Bool) → (x.leader_at == e.leader_at) ≡ b → RunsTrue p (address_words files (e ∷ es))
    by true test = subst (RunsTrue p) (sym (words_are true test)) (rest p (true_already p files e es may x alive (eqb-true x.leader_at e.leader_at test)))
    by false test =
        let w = address_write p e x.leader_at (there p files e es may x alive) in
        let q : Pack = dir_written p (address_word e.place) w.0 (x.leader_at ∷ []) in
        subst (RunsTrue p) (sym (words_are false test))
        (then_word p q (new_word e x) (address_words files es) (address_left p files e es may x alive w.0 w.1) (address_keeps p files e es may x alive w.0 w.1) (rest q (true_now p files e es may x alive w.0 w.1)))

pub run_addresses : (p : Pack) (files : List Living) (kept : List PlacedEntry) → MayBeAddressed p files kept → RunsTrue p (address_words files kept)
run_addresses p files [] may = record {
  keeps = nothing_keeps_open p;
  mended = names_are_mended p may.pages may.tidy (λ f living. none_lacking_is_named p f may.pages may.lacking_none living) (λ d living directory k z within. may.others d living directory k z within (λ f has dir at. absurd (let none = has.1 in omega (arith, none))));
}
run_addresses p files (e ∷ es) may = first_address p files e es may (λ q m. run_addresses q files es m)

-- ---- the words are words of the pack, and rise
word_of : (p : Pack) (files : List Living) (e : PlacedEntry) → StandsThere p e → (o : Option Living) → All (IsWordOf p) (option_to_list (other_address e o))
word_of p files e there None = All-nil (IsWordOf p)
word_of p files e there (Some x) = by (x.leader_at == e.leader_at)
  where
    by : (b : Bool) → All (IsWordOf p) (option_to_list (cond b None (Some (new_word e x))))
    by true = All-nil (IsWordOf p)
    by false = All-cons (IsWordOf p) (new_word e x) [] (let w = (address_write p e x.leader_at there).1 in let fits = w.within in record { lives = there.living; directory = there.directory; within = omega (arith, fits) }) (All-nil (IsWordOf p))

words_of : (p : Pack) (files : List Living) (kept : List PlacedEntry) → All (StandsThere p) kept → All (IsWordOf p) (address_words files kept)
words_of p files [] stand = All-nil (IsWordOf p)
words_of p files (e ∷ es) stand = All-append (IsWordOf p) (option_to_list (true_address files e)) (address_words files es) (word_of p files e (All-head (StandsThere p) e es stand) (living_in files e.fid)) (words_of p files es (All-tail (StandsThere p) e es stand))

comes_first : (e f : PlacedEntry) (a b : ℕ) → StandsBefore e f → ComesFirst (record { dir = e.dir; place = address_word e.place; word = a }) (record { dir = f.dir; place = address_word f.place; word = b })
comes_first e f a b (inl less) = inl less
comes_first e f a b (inr same) = inr (same.0, (let low = same.1 in omega (arith, low)))

later_words : (files : List Living) (e : PlacedEntry) (a : ℕ) (es : List PlacedEntry) → All (StandsBefore e) es → All (ComesFirst (record { dir = e.dir; place = address_word e.place; word = a })) (address_words files es)
later_words files e a [] order = All-nil (ComesFirst (record { dir = e.dir; place = address_word e.place; word = a }))
later_words files e a (f ∷ es) order = All-append P (option_to_list (true_address files f)) (address_words files es) (one (living_in files f.fid)) (later_words files e a es (All-tail (StandsBefore e) f es order))
  where
    P : DirWord → Type 0
    P = ComesFirst (record { dir = e.dir; place = address_word e.place; word = a })

    one : (o : Option Living) → All P (option_to_list (other_address f o))
    one None = All-nil P
    one (Some x) = by (x.leader_at == f.leader_at)
      where
        by : (b : Bool) → All P (option_to_list (cond b None (Some (new_word f x))))
        by true = All-nil P
        by false = All-cons P (new_word f x) [] (comes_first e f a x.leader_at (All-head (StandsBefore e) f es order)) (All-nil P)

rises_with : (files : List Living) (e : PlacedEntry) (es : List PlacedEntry) → All (StandsBefore e) es → words.Rises (address_words files es) → (o : Option Living) → words.Rises (option_to_list (other_address e o) ++ address_words files es)
rises_with files e es order rest None = rest
rises_with files e es order rest (Some x) = by (x.leader_at == e.leader_at)
  where
    by : (b : Bool) → words.Rises (option_to_list (cond b None (Some (new_word e x))) ++ address_words files es)
    by true = rest
    by false = (later_words files e x.leader_at es order, rest)

words_rise : (files : List Living) (kept : List PlacedEntry) → AreInOrder kept → words.Rises (address_words files kept)
words_rise files [] order = tt
words_rise files (e ∷ es) order = rises_with files e es order.0 (words_rise files es order.1) (living_in files e.fid)

pub are_words : (p : Pack) (files : List Living) (kept : List PlacedEntry) → MayBeAddressed p files kept → AreWordsOf p (address_words files kept)
are_words p files kept may = record {
  once = (mended_has_parts p may.pages).rooted.used.ended.cleared.once;
  each = words_of p files kept may.stand;
  rising = words_rise files kept may.order;
}

-- their places are few enough to be counted
pub few_places : (p : Pack) (e : PlacedEntry) → StandsThere p e → e.place + 5 < 2 ^ 32
few_places p e there =
    let w = (address_write p e 0 there).1 in
    let few = page_numbers_are_words p e.dir ((e.place + 5) / 256 + 1) (address_write p e 0 there).0 w.sector in
    omega (arith, few)
