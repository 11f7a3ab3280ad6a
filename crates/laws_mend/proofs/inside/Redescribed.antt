-- DiskDescriptor's words are written on a pack whose names are mended.
use Rattle.std.proofs.Common.{[], ◌%◌, ◌*◌, ◌++◌, ◌+◌, ◌-◌, ◌/◌, ◌<◌, ◌∙◌, ◌∷◌, ◌≡◌, ◌≢◌, ◌≤◌, ◌⊎◌, Bool, List, None, Option, Some, ap, arith, cond, drop, false, get_or, inl, inr, length, length-take, map, not, refl, subst, suc, sym, take, true, zero, ℕ, get_or-drop, le-leb, nat_le}
use Rattle.std.proofs.lemmas.Bool.{cases_lt}
use Rattle.std.proofs.lemmas.List.{ext_get_or, get_or-take, length-append, length-replicate, reverse-append, take_all, get_or_past}
use Rattle.std.proofs.lemmas.List.Elements.{All-weaker}
use Rattle.std.specs.Option.{is_some}
use Rattle.std.specs.Prelude.{◌&&◌, All, replicate, reverse}
use Rattle.laws_room.specs.alto_words.specs.declared.fid.Fid.{Fid}
use Rattle.laws_room.specs.alto_words.specs.Fid.{disk_descriptor, is_fid, sys_dir}
use Rattle.laws_room.specs.disk_records.proofs.Growing.{after-append}
use Rattle.laws_room.specs.disk_records.specs.Addresses.{descriptor_length, table_words}
use Rattle.laws_room.specs.disk_records.specs.Commands.{value_writes}
use Rattle.laws_room.specs.disk_records.specs.Packs.{Pack, after, carried, sector_at}
use Rattle.laws_room.specs.disk_records.specs.Words.{double, word}
use Rattle.laws_room.specs.disk_records.specs.declared.records.Page.{Page}
use Rattle.laws_room.specs.disk_records.specs.declared.records.Sector.{Sector}
use Rattle.laws_room.specs.disk_records.specs.declared.shape.Shape.{Shape}
use Rattle.laws_room.specs.pack_model.specs.hints.Links.{EntryAddresses, HasLinks, IsTrueAddress, PageLinks, dir_words, kept_slots, next_link, previous_link}
use Rattle.laws_room.specs.pack_model.specs.hints.Tables.{HintsTrue, true_table, words_of_bits}
use Rattle.laws_room.specs.pack_model.specs.operations.Commands.{values_writes}
use Rattle.laws_room.specs.pack_model.specs.operations.PageWords.{filled}
use Rattle.laws_room.specs.pack_model.specs.reading.Bodies.{described}
use Rattle.laws_room.specs.pack_model.specs.reading.Bytes.{words_of}
use Rattle.laws_room.specs.pack_model.specs.reading.Files.{carries_page, file_bytes, lives, numbered, place}
use Rattle.laws_room.specs.pack_model.specs.reading.Leaders.{Leader}
use Rattle.laws_room.specs.pack_model.specs.reading.Model.{Model, IsNamed, descriptor_words, dir_items, good_sectors, is_named, last_serial, read_as, read_sights}
use Rattle.laws_room.specs.pack_model.specs.reading.Namings.{IsTidy, tidied}
use Rattle.laws_room.specs.pack_model.specs.reading.Sights.{Sight, sights}
use Rattle.laws_room.specs.pack_model.specs.reading.Sights.Sight.{free, hidden, holds, leads, stray}
use Rattle.laws_room.specs.pack_model.specs.reading.Slots.{SlotsReachEnd, Item}
use Rattle.laws_room.specs.pack_model.specs.reading.Slots.Item.{entry, space}
use Rattle.laws_room.specs.pack_model.specs.reading.SlotWords.{SlotAt, slots_at}
use Rattle.laws_room.specs.pack_model.specs.sessions.Descriptor.{closed_values, descriptor_text, descriptor_value}
use Rattle.laws_room.specs.pack_model.specs.states.InUse.{counts, free_sector_count, how_many, in_use, is_available, is_free_sight, is_good, is_place, one_if}
use Rattle.laws_room.specs.pack_model.specs.states.Sentences.{IsUsed, PagesWhole, WholeBySentences}
use Rattle.laws_room.specs.pack_model.specs.states.Sound.{Clean, Sound, mark_clean}
use Rattle.laws_room.specs.pack_model.specs.states.Whole.{SaysShape}
use Rattle.laws_room.specs.pack_laws.proofs.Bytes.{length-words_of}
use Rattle.laws_room.specs.pack_laws.proofs.Guarding.{carried_parts, here_written, other_kept, usable_within}
use Rattle.laws_room.specs.pack_laws.proofs.Keys.{is_fid-itself}
use Rattle.laws_room.specs.pack_laws.proofs.Placing.{page_of_place, place_none}
use Rattle.laws_room.specs.laws_contents.proofs.words.Laws.{each_word_has_its_page, word_stands_in_its_page}
use Rattle.laws_room.specs.laws_record.proofs.Copying.{place_carried}
use Rattle.laws_room.specs.laws_record.proofs.DirReads.{not_descriptor}
use Rattle.laws_room.specs.laws_record.proofs.Framing.{lives_same, model_same}
use Rattle.laws_room.specs.laws_record.proofs.sentences.Laws.{by_sentences}
use Rattle.laws_room.specs.laws_record.specs.QuietLaws.{with_value}
use Rattle.laws_lookup.specs.HintLaws.{HasFullValues}
use Rattle.laws_mend.proofs.inside.Alike.{alike_next, alike_previous}
use Rattle.laws_mend.proofs.inside.Availing.{same_in_use}
use Rattle.laws_mend.proofs.inside.Counted.{counts_stay}
use Rattle.laws_mend.proofs.inside.Filed.{bytes_by_places, lives_by_place, lives_place}
use Rattle.laws_mend.proofs.inside.Revalued.{IsNear, IsRevalued, bytes_long, near_carries, near_free, near_free_sight, near_good, near_leads, near_next, near_previous, near_use, revalued, revalued_itself, revalued_twice}
use Rattle.laws_mend.proofs.inside.Revalued.IsNear.{one, held}
use Rattle.laws_mend.specs.ClosingLaws.{DescribedIsSound, MayBeDescribed, IsDescribedSound}

-- what is something is the same
some_page : {x y : Page} → Some x ≡ Some y → x ≡ y
some_page e = cc

-- ---- the record writes, one after another
-- record writes of values, joined
values_join : (a b : List (ℕ × List ℕ)) → values_writes (a ++ b) ≡ values_writes a ++ values_writes b
values_join [] b = refl
values_join (v ∷ a) b = ap (λ r. value_writes v.0 v.1 ++ r) (values_join a b)

-- a page's value has 256 words
filled_size : (n : ℕ) (items : List ℕ) → length items ≤ n → length (filled n items) ≡ n
filled_size n items l = let r : length {A = ℕ} (replicate (n - length items) 0) ≡ n - length items = length-replicate {A = ℕ} (n - length items) 0 in let z = length-append items (replicate (n - length items) 0) in omega arith

value_size : (shape : Shape) (last : ℕ) (busy : List Bool) (n : ℕ) → length (descriptor_value shape last mark_clean busy n) ≡ 256
value_size shape last busy n = filled_size 256 (take 256 (drop (256 * n) (descriptor_text shape last mark_clean busy))) (let z = length-take 256 (drop (256 * n) (descriptor_text shape last mark_clean busy)) in omega arith)

module _ (p : Pack) (last : ℕ) (busy : List Bool) where
  abbrev value : ℕ → List ℕ
  value n = descriptor_value p.shape last mark_clean busy n

  -- the pack after them
  closed : ℕ → List ℕ → Pack
  closed n [] = p
  closed n (at ∷ pages) = with_value (closed (suc n) pages) at (value n)

  closed_is : (n : ℕ) (pages : List ℕ) → after p (values_writes (reverse (closed_values p.shape last busy n pages))) ≡ closed n pages
  unfolding closed
  closed_is n [] = refl
  closed_is n (at ∷ pages) =
      ap (λ vs. after p (values_writes vs)) (reverse-append ((at, value n) ∷ []) (closed_values p.shape last busy (suc n) pages))
      ∙ ap (after p) (values_join (reverse (closed_values p.shape last busy (suc n) pages)) ((at, value n) ∷ []))
      ∙ after-append p (values_writes (reverse (closed_values p.shape last busy (suc n) pages))) (values_writes ((at, value n) ∷ []))
      ∙ ap (λ r. with_value r at (value n)) (closed_is (suc n) pages)

  -- these sectors carry data pages of DiskDescriptor, from page n on
  abbrev Carry : ℕ → List ℕ → Type 0
  Carry n pages = (k : ℕ) → k < length pages → carried p (get_or pages k 0) ≡ Some (record { fid = disk_descriptor; number = suc (n + k) })

  later : (n at : ℕ) (pages : List ℕ) → Carry n (at ∷ pages) → Carry (suc n) pages
  later n at pages c k less = let z : n + suc k ≡ suc n + k = omega arith in c (suc k) (omega arith) ∙ ap (λ m. Some (record { fid = disk_descriptor; number = suc m })) z

  here : (n at : ℕ) (pages : List ℕ) → Carry n (at ∷ pages) → carried p at ≡ Some (record { fid = disk_descriptor; number = suc n })
  here n at pages c = let z : n + 0 ≡ n = omega arith in c 0 (omega arith) ∙ ap (λ m. Some (record { fid = disk_descriptor; number = suc m })) z

  closed_revalues : HasFullValues p → (n : ℕ) (pages : List ℕ) → Carry n pages → IsRevalued p (closed n pages)
  unfolding closed
  closed_revalues full n [] c = revalued_itself p full
  closed_revalues full n (at ∷ pages) c =
      let r = closed_revalues full (suc n) pages (later n at pages c) in
      revalued_twice p (closed (suc n) pages) (with_value (closed (suc n) pages) at (value n)) r (revalued (closed (suc n) pages) at n (value n) r.full (r.pages at ∙ here n at pages c) (value_size p.shape last busy n))

  -- what each sector holds
  closed_values_are : HasFullValues p → (n : ℕ) (pages : List ℕ) → Carry n pages → (k : ℕ) → k < length pages → (sector_at (closed n pages) (get_or pages k 0)).value ≡ value (n + k)
  unfolding closed
  closed_values_are full n [] c k less = absurd (omega arith)
  closed_values_are full n (at ∷ pages) c zero less =
      let r = closed_revalues full (suc n) pages (later n at pages c) in
      let z : n ≡ n + 0 = omega arith in
      let there = (carried_parts (closed (suc n) pages) at (record { fid = disk_descriptor; number = suc n }) (r.pages at ∙ here n at pages c)).0 in
      ap (λ (s : Sector). s.value) (here_written (closed (suc n) pages) at 2 (value n) (usable_within (closed (suc n) pages) at there)) ∙ ap value z
  closed_values_are full n (at ∷ pages) c (suc k) less =
      let z : suc n + k ≡ n + suc k = omega arith in
      let apart : get_or pages k 0 ≢ at = λ same.
      (let x = c (suc k) less in
      let y = here n at pages c in
      let e : Some (record { fid = disk_descriptor; number = suc (n + suc k) }) ≡ Some (record { fid = disk_descriptor; number = suc n }) = sym x ∙ ap (carried p) same ∙ y in
      let m : ◌≡◌ {A = Page} (record { fid = disk_descriptor; number = suc (n + suc k) }) (record { fid = disk_descriptor; number = suc n }) = some_page e in
      let w : suc (n + suc k) ≡ suc n = ap (λ (g : Page). g.number) m in omega arith) in
      ap (λ (s : Sector). s.value) (other_kept (closed (suc n) pages) at 2 (value n) (get_or pages k 0) apart) ∙ closed_values_are full (suc n) pages (later n at pages c) k (omega arith) ∙ ap value z

-- ---- the words of the file
-- zeros after some items aren't told from none
read_filled : (items : List ℕ) (m k : ℕ) → get_or (items ++ replicate m 0) k 0 ≡ get_or items k 0
read_filled [] zero k = refl
read_filled [] (suc m) zero = refl
read_filled [] (suc m) (suc k) = read_filled [] m k
read_filled (x ∷ items) m zero = refl
read_filled (x ∷ items) m (suc k) = read_filled items m k

-- word k of page n is word 256 * n + k of the text
value_word : (shape : Shape) (last : ℕ) (busy : List Bool) (n k : ℕ) → k < 256 → word (descriptor_value shape last mark_clean busy n) k ≡ word (descriptor_text shape last mark_clean busy) (256 * n + k)
value_word shape last busy n k less =
    let text : List ℕ = descriptor_text shape last mark_clean busy in
    let z : k + 256 * n ≡ 256 * n + k = omega arith in
    read_filled (take 256 (drop (256 * n) text)) (256 - length (take 256 (drop (256 * n) text))) k
    ∙ get_or-take 256 (drop (256 * n) text) k 0 less
    ∙ get_or-drop (256 * n) text k 0

bits_size : (n : ℕ) (bits : List Bool) → length (words_of_bits n bits) ≡ n
bits_size zero bits = refl
bits_size (suc n) bits = ap suc (bits_size n (drop 16 bits))

text_size : (shape : Shape) (last : ℕ) (busy : List Bool) → length (descriptor_text shape last mark_clean busy) ≡ 16 + table_words shape
text_size shape last busy = let b = bits_size (table_words shape) busy in omega arith

-- ---- the map
-- each sector that isn't free is busy
free_words : (xs : List Sight) → how_many not (map (λ s. not (is_free_sight s)) xs) ≡ free_sector_count xs
free_words [] = refl
free_words (x ∷ xs) = (let r = free_words xs in let e : one_if (not (not (is_free_sight x))) ≡ one_if (is_free_sight x) = twice_not (is_free_sight x) in omega arith)
  where
    twice_not : (b : Bool) → one_if (not (not b)) ≡ one_if b
    twice_not true = refl
    twice_not false = refl

-- the same sectors are free
same_map : (xs ys : List Sight) → length ys ≡ length xs → ((i : ℕ) → is_free_sight (get_or ys i hidden) ≡ is_free_sight (get_or xs i hidden)) → map (λ s. not (is_free_sight s)) ys ≡ map (λ s. not (is_free_sight s)) xs
same_map [] [] l h = refl
same_map [] (y ∷ ys) l h = absurd (omega arith)
same_map (x ∷ xs) [] l h = absurd (omega arith)
same_map (x ∷ xs) (y ∷ ys) l h = let first = h 0 in let rest = same_map xs ys (omega arith) (λ i. h (suc i)) in λ i. not (first i) ∷ rest i

-- where each good sector is free or in use, the available ones are the free ones
true_map : (shape : Shape) (ss : List Sight) (from : ℕ) (xs : List Sight) → ((i k : ℕ) → k ≡ from + i → is_available shape ss (k, get_or xs i hidden) ≡ is_free_sight (get_or xs i hidden)) → map (λ e. not (is_available shape ss e)) (numbered from xs) ≡ map (λ s. not (is_free_sight s)) xs
true_map shape ss from [] h = refl
true_map shape ss from (x ∷ xs) h = let first = h 0 from (omega arith) in let rest = true_map shape ss (suc from) xs (λ i k e. h (suc i) k (omega arith)) in λ i. not (first i) ∷ rest i

used_is_free : (shape : Shape) (ss : List Sight) (at : ℕ) (s : Sight) → (is_good s ≡ true → (s ≡ free) ⊎ (in_use shape ss (at, s) ≡ true)) → is_available shape ss (at, s) ≡ is_free_sight s
used_is_free shape ss at hidden h = refl
used_is_free shape ss at free h = refl
used_is_free shape ss at stray h = elim (h refl) [ inl e ↦ absurd cc | inr e ↦ absurd (let c : false ≡ true = e in cc) ]
used_is_free shape ss at (leads f r l) h = elim (h refl) [ inl e ↦ absurd cc | inr e ↦ ap (λ b. true && not b) e ]
used_is_free shape ss at (holds f n bytes) h = elim (h refl) [ inl e ↦ absurd cc | inr e ↦ ap (λ b. true && not b) e ]

-- ---- addresses
addresses_same : (ss us : List Sight) → ((f : Fid) (n : ℕ) → place us f n ≡ place ss f n) → (xs : List SlotAt) → All (λ s. IsTrueAddress ss s.item s.address) xs → All (λ s. IsTrueAddress us s.item s.address) xs
addresses_same ss us same xs all = All-weaker (λ s. IsTrueAddress ss s.item s.address) (λ s. IsTrueAddress us s.item s.address) (λ s. by s.item s.address) xs all
  where
    by : (i : Item) (address : ℕ) → IsTrueAddress ss i address → IsTrueAddress us i address
    by (space n) address e = tt
    by (entry f name) address e = same f 0 ∙ e

-- a file lives whose leader page is shown
shown_lives : (p : Pack) (at : ℕ) (f : Fid) (r : Bool) (l : Leader) → get_or (sights p) at hidden ≡ leads f r l → lives (sights p) f ≡ true
shown_lives p at f r l is = by (lives (sights p) f) refl
  where
    within : at < length (sights p)
    within = elim (cases_lt at (length (sights p))) [
      | inl low ↦ low
      | inr past ↦ absurd (let c : leads f r l ≡ hidden = sym is ∙ get_or_past (sights p) at hidden past in cc)
    ]

    by : (b : Bool) → lives (sights p) f ≡ b → lives (sights p) f ≡ true
    by true e = e
    by false e =
        let none : place (sights p) f 0 ≡ None = place_dead (place (sights p) f 0) (sym (lives_place (sights p) f) ∙ e) in
        absurd (let c : true ≡ false = sym (is_fid-itself f) ∙ sym (ap (carries_page f 0) is) ∙ place_none (sights p) f 0 at hidden none within in cc)
      where
        place_dead : (x : Option ℕ) → is_some x ≡ false → x ≡ None
        place_dead None e = refl
        place_dead (Some k) e = cc

some_number : {x y : ℕ} → Some x ≡ Some y → x ≡ y
some_number e = cc

-- ---- the pack that is left
module _ (p q : Pack) (last : ℕ) (busy : List Bool) (pages : List ℕ) (h : MayBeDescribed p last busy pages) (r : IsRevalued p q) (shape : q.shape ≡ p.shape)
    (holds_now : (k : ℕ) → k < length pages → (sector_at q (get_or pages k 0)).value ≡ descriptor_value p.shape last mark_clean busy k) where
  abbrev whole : PagesWhole p.shape (sights p)
  whole = h.named.pages

  abbrev text : List ℕ
  text = descriptor_text p.shape last mark_clean busy

  lives_stay : (f : Fid) → lives (sights q) f ≡ lives (sights p) f
  lives_stay f = lives_by_place (sights p) (sights q) f (r.places f 0)

  all_lives : lives (sights q) ≡ lives (sights p)
  all_lives = lives_same (sights q) (sights p) r.files.leaders

  -- the bytes of other files
  bytes_stay : (f : Fid) → is_fid f disk_descriptor ≡ false → file_bytes (sights q) f ≡ file_bytes (sights p) f
  bytes_stay f other = bytes_by_places (sights p) (sights q) f (λ n. r.places f (suc n)) (λ n k e. by n ((page_of_place (sights p) f n k e).bytes) ((page_of_place (sights p) f n k e).shows hidden) (r.near k))
    where
      by : (n : ℕ) (bytes : List ℕ) {s t : Sight} → t ≡ holds f n bytes → IsNear disk_descriptor s t → s ≡ t
      by n bytes is (one e) = e
      by n bytes is (held m a b x y l) = absurd
          (let c : holds disk_descriptor m b ≡ holds f n bytes = sym y ∙ is in
          let same : disk_descriptor ≡ f = cc in
          let e : true ≡ false = sym (is_fid-itself disk_descriptor) ∙ ap (λ g. is_fid g disk_descriptor) same ∙ other in cc)

  -- those of DiskDescriptor are as many
  size_stays : length (file_bytes (sights q) disk_descriptor) ≡ descriptor_length p.shape
  size_stays = bytes_long disk_descriptor (sights p) (sights q) disk_descriptor (λ n. r.places disk_descriptor (suc n)) r.near ∙ whole.descriptor_size

  -- and they are the text
  words_size : length (descriptor_words (sights q)) ≡ length text
  words_size = let a = length-words_of (file_bytes (sights q) disk_descriptor) in let b = size_stays in let c = text_size p.shape last busy in omega arith

  words_are : descriptor_words (sights q) ≡ text
  words_are = ext_get_or 0 (descriptor_words (sights q)) text words_size each
    where
      each : (w : ℕ) → w < length (descriptor_words (sights q)) → get_or (descriptor_words (sights q)) w 0 ≡ get_or text w 0
      each w less =
          let a = each_word_has_its_page q disk_descriptor w less in
          let k : ℕ = w / 256 in
          let size = words_size in
          let many = text_size p.shape last busy in
          let number = h.size in
          let few : k < length pages = omega arith in
          let z : w / 256 + 1 ≡ suc k = omega arith in
          let y : 256 * k + w % 256 ≡ w = omega arith in
          let placed : Some a.at ≡ Some (get_or pages k 0) = sym a.stands.sector ∙ ap (place (sights q) disk_descriptor) z ∙ r.places disk_descriptor (suc k) ∙ h.bears k few in
          let same : a.at ≡ get_or pages k 0 = some_number placed in
          word_stands_in_its_page q disk_descriptor w a.at (w % 256) less a.stands
          ∙ ap (λ i. word (sector_at q i).value (w % 256)) same
          ∙ ap (λ v. word v (w % 256)) (holds_now k few)
          ∙ value_word p.shape last busy k (w % 256) (omega arith)
          ∙ ap (word text) y

  -- ---- what is read
  serial : last_serial (descriptor_words (sights q)) ≡ last
  serial =
      let l = text_size p.shape last busy in
      let halves_are : last / 65536 * 65536 + last % 65536 ≡ last = omega arith in
      let long : nat_le 6 (length text) ≡ true = le-leb 6 (length text) (omega arith) in
      ap last_serial words_are ∙ ap (λ b. cond b (double text 4) 0) long ∙ halves_are

  read : read_as q ≡ record (read_as p) { last = last }
  unfolding read_sights
  read = ap (λ s. read_sights s (sights q)) shape ∙ model_same p.shape (good_sectors (sights q)) (good_sectors (sights p)) (last_serial (descriptor_words (sights q))) last (tidied (lives (sights q)) (described (sights q))) (tidied (lives (sights p)) (described (sights p))) r.files.good serial (λ i. tidied (all_lives i) (r.files.files i))

  counted : (f : Fid) (n : ℕ) → counts p.shape (sights q) f n ≡ counts p.shape (sights p) f n
  counted = counts_stay p q r.files

  named : (f : Fid) → lives (sights q) f ≡ true → IsNamed (read_as q) f
  named f live = ap (λ m. is_named m f) read ∙ h.named.named f (sym (lives_stay f) ∙ live)

  -- ---- the pages
  used : (i : ℕ) → IsUsed p.shape (sights q) i
  used i good = by (whole.used i (sym (near_good disk_descriptor _ _ (r.near i)) ∙ good))
    where
      by : (get_or (sights p) i hidden ≡ free) ⊎ (in_use p.shape (sights p) (i, get_or (sights p) i hidden) ≡ true) → (get_or (sights q) i hidden ≡ free) ⊎ (in_use p.shape (sights q) (i, get_or (sights q) i hidden) ≡ true)
      by (inl e) = inl (near_free disk_descriptor _ _ (r.near i) e)
      by (inr e) = inr
          (near_use disk_descriptor p.shape (sights q) i _ _ (r.near i)
          ∙ same_in_use p.shape (sights p) (sights q) i (get_or (sights p) i hidden) counted (λ f n has. ap (is_place i) (r.places f n))
          ∙ e)

  carries_same : (i : ℕ) (f : Fid) (n : ℕ) → carries_page f n (get_or (sights q) i hidden) ≡ carries_page f n (get_or (sights p) i hidden)
  carries_same i f n = near_carries disk_descriptor _ _ (r.near i) f n

  sizes : (f : Fid) → length (file_bytes (sights q) f) ≡ length (file_bytes (sights p) f)
  sizes f = bytes_long disk_descriptor (sights p) (sights q) f (λ n. r.places f (suc n)) r.near

  pages_whole : PagesWhole p.shape (sights q)
  pages_whole = record {
    used = used;
    once = λ f n i j x y. whole.once f n i j (sym (carries_same i f n) ∙ x) (sym (carries_same j f n) ∙ y);
    last_pages = λ f live. ap is_some (ap (λ n. place (sights q) f (suc (n / 512))) (sizes f) ∙ r.places f (suc (length (file_bytes (sights p) f) / 512))) ∙ whole.last_pages f (sym (lives_stay f) ∙ live);
    readable = λ f live at readable l e is. whole.readable f (sym (lives_stay f) ∙ live) at readable l (sym (r.places f 0) ∙ e) (led at f readable l (r.near at) is);
    directories = λ d live dir. subst SlotsReachEnd (sym (bytes_stay d (not_descriptor d dir))) (whole.directories d (sym (lives_stay d) ∙ live) dir);
    root = (whole.root.0, whole.root.1, near_leads disk_descriptor _ _ (r.near 1) sys_dir whole.root.1 whole.root.0 whole.root.2);
    descriptor_lives = lives_stay disk_descriptor ∙ whole.descriptor_lives;
    descriptor_size = size_stays;
  }
    where
      led : (at : ℕ) (f : Fid) (readable : Bool) (l : Leader) → IsNear disk_descriptor (get_or (sights q) at hidden) (get_or (sights p) at hidden) → get_or (sights q) at hidden ≡ leads f readable l → get_or (sights p) at hidden ≡ leads f readable l
      led at f readable l (one e) is = sym e ∙ is
      led at f readable l (held n a b x y k) is = absurd (let c : holds disk_descriptor n a ≡ leads f readable l = sym x ∙ is in cc)

  root_lives : lives (sights p) sys_dir ≡ true
  root_lives = shown_lives p 1 sys_dir whole.root.1 whole.root.0 whole.root.2

  says : SaysShape p.shape (descriptor_words (sights q))
  says = record {
    disks = ap (λ ws. word ws 0) words_are;
    cylinders = ap (λ ws. word ws 1) words_are;
    heads = ap (λ ws. word ws 2) words_are;
    sectors = ap (λ ws. word ws 3) words_are;
    table = ap (λ ws. word ws 8) words_are;
  }

  by_each : WholeBySentences p.shape (sights q)
  by_each = record {
    pages = pages_whole;
    root_named = subst (λ s. IsNamed (read_sights s (sights q)) sys_dir) shape (named sys_dir (lives_stay sys_dir ∙ root_lives));
    descriptor_named = subst (λ s. IsNamed (read_sights s (sights q)) disk_descriptor) shape (named disk_descriptor (lives_stay disk_descriptor ∙ whole.descriptor_lives));
    descriptor_says = says;
    last = λ f live.
        let s = h.serials f (sym (lives_stay f) ∙ live) in
        let e : (read_sights p.shape (sights q)).last ≡ last = ap (λ g. (read_sights g (sights q)).last) (sym shape) ∙ ap (λ (m : Model). m.last) read in
        omega arith;
  }

  sound : Sound q
  sound = record {
    whole = by_sentences q (subst (λ s. WholeBySentences s (sights q)) (sym shape) by_each);
    tidy = subst (λ v. IsTidy v (described (sights q))) (sym all_lives) (subst (IsTidy (lives (sights p))) (sym r.files.files) h.named.tidy);
    named = named;
  }

  -- ---- the hints
  links : (i : ℕ) → HasLinks p i → HasLinks q i
  links i l = record {
    next = ap (λ x. word x 0) (r.labels i) ∙ l.next ∙ sym (ap (λ s. next_link s (sights q) (get_or (sights q) i hidden)) shape ∙ alike_next p.shape (sights p) (sights q) r.places (get_or (sights q) i hidden) ∙ near_next disk_descriptor p.shape (sights p) _ _ (r.near i));
    previous = ap (λ x. word x 1) (r.labels i) ∙ l.previous ∙ sym (ap (λ s. previous_link s (sights q) (get_or (sights q) i hidden)) shape ∙ alike_previous p.shape (sights p) (sights q) r.places (get_or (sights q) i hidden) ∙ near_previous disk_descriptor p.shape (sights p) _ _ (r.near i));
  }

  page_links : PageLinks q
  page_links i u = links i (h.named.links.pages i
      (sym (ap (λ s. in_use s (sights q) (i, get_or (sights q) i hidden)) shape
      ∙ near_use disk_descriptor p.shape (sights q) i _ _ (r.near i)
      ∙ same_in_use p.shape (sights p) (sights q) i (get_or (sights p) i hidden) counted (λ f n has. ap (is_place i) (r.places f n))) ∙ u))

  addresses : EntryAddresses q
  addresses d live dir =
      let words : dir_words q d ≡ dir_words p d = ap words_of (bytes_stay d (not_descriptor d dir)) in
      let items : dir_items (read_as q) d ≡ dir_items (read_as p) d = ap (λ m. dir_items m d) read in
      let slots : kept_slots q d ≡ kept_slots p d = λ i. slots_at (words i) 0 (items i) in
      subst (All (λ s. IsTrueAddress (sights q) s.item s.address)) (sym slots) (addresses_same (sights p) (sights q) r.places (kept_slots p d) (h.named.links.entries d (sym (lives_stay d) ∙ live) dir))

  table_is : true_table q ≡ busy
  table_is =
      ap (λ s. map (λ e. not (is_available s (sights q) e)) (numbered 0 (sights q))) shape
      ∙ true_map p.shape (sights q) 0 (sights q) (λ i k e. let z : k ≡ i = omega arith in ap (λ j. is_available p.shape (sights q) (j, get_or (sights q) i hidden)) z ∙ used_is_free p.shape (sights q) i (get_or (sights q) i hidden) (used i))
      ∙ same_map (sights p) (sights q) r.size (λ i. near_free_sight disk_descriptor _ _ (r.near i))
      ∙ sym h.map_is

  hints : HintsTrue q
  hints = record {
    links = record { pages = page_links; entries = addresses };
    table =
        (λ i. take (table_words (shape i)) (drop 16 (words_are i)))
        ∙ take_all (table_words p.shape) (words_of_bits (table_words p.shape) busy) (let b = bits_size (table_words p.shape) busy in omega arith)
        ∙ (λ i. words_of_bits (table_words (sym shape i)) (sym table_is i));
    free =
        ap (λ ws. word ws 7) words_are
        ∙ ap (how_many not) (h.map_is ∙ sym (same_map (sights p) (sights q) r.size (λ i. near_free_sight disk_descriptor _ _ (r.near i))))
        ∙ free_words (sights q);
  }

  clean : Clean q
  clean = record { lives = lives_stay disk_descriptor ∙ whole.descriptor_lives; mark = ap (λ ws. word ws 6) words_are }

-- ---- the law
pub described_is_sound : DescribedIsSound
described_is_sound p last busy pages h =
    let carry : (k : ℕ) → k < length pages → carried p (get_or pages k 0) ≡ Some (record { fid = disk_descriptor; number = suc (0 + k) }) =
    λ k less. let z : k ≡ 0 + k = omega arith in place_carried p (record { fid = disk_descriptor; number = suc k }) (get_or pages k 0) (h.bears k less) ∙ ap (λ m. Some (record { fid = disk_descriptor; number = suc m })) z in
    let q : Pack = closed p last busy 0 pages in
    let r : IsRevalued p q = closed_revalues p last busy h.full 0 pages carry in
    let now : (k : ℕ) → k < length pages → (sector_at q (get_or pages k 0)).value ≡ descriptor_value p.shape last mark_clean busy k =
    λ k less. let z : 0 + k ≡ k = omega arith in closed_values_are p last busy h.full 0 pages carry k less ∙ ap (descriptor_value p.shape last mark_clean busy) z in
    subst (λ x. IsDescribedSound p x last) (sym (closed_is p last busy 0 pages)) (record {
      sound = sound p q last busy pages h r r.shape now;
      clean = clean p q last busy pages h r r.shape now;
      hints = hints p q last busy pages h r r.shape now;
      read = read p q last busy pages h r r.shape now;
    })
