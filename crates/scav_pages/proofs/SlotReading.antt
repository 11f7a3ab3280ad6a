-- The slots of the directory in hand, page by page.
use Rattle.std.proofs.Common.{◌≡◌, ◌≢◌, ◌⊎◌, inl, inr, ℕ, zero, suc, ◌+◌, ◌*◌, ◌/◌, ◌<◌, ◌≤◌, true, false, List, [], ◌∷◌, ◌++◌, length, take, drop, Option, Some, None, refl, sym, ap, subst, ◌∙◌, arith, append-nil, append_assoc, length-append, length-take}
use Rattle.std.proofs.lemmas.List.{drop_all, take-append-drop, take-take}
use Rattle.alto_words.specs.declared.fid.Fid.{Fid}
use Rattle.disk_records.specs.Packs.{Pack}
use Rattle.disk_records.proofs.Bytes.{length-words_of}
use Rattle.pack_model.specs.hints.Links.{dir_words}
use Rattle.pack_model.specs.reading.Files.{file_bytes, place}
use Rattle.pack_model.specs.reading.Sights.{sights}
use Rattle.pack_model.specs.reading.Slots.{Item, all_words, first_length, item_words, slot_at, slots, slots_after}
use Rattle.pack_model.specs.reading.Slots.Item.{space}
use Rattle.dir_slots.specs.Walks.{IsOpen, Walking}
use Rattle.dir_slots.specs.Walks as slot_walk
use Rattle.dir_slots.proofs.Hands.{first_stays, hand_of, slots_on, slots_within}
use Rattle.dir_slots.proofs.Heads.{slot_at-is}
use Rattle.dir_slots.proofs.Slots.{all_words-append, slots-none, slots-some}
use Rattle.laws_mend.specs.laws_contents.specs.PageLaws.{FullBefore, IsFullPage, bytes_at}
use Rattle.laws_mend.specs.laws_contents.specs.WordContents.{words_at}
use Rattle.laws_mend.specs.laws_contents.proofs.bytes.Laws.{page_goes_on}
use Rattle.laws_mend.specs.laws_contents.proofs.words.Laws.{page_words_go_on}
use Rattle.scav_pages.specs.declared.directory.Directory.{Directory}
use Rattle.scav_pages.specs.Directories.{HasRead}

-- ---- slots
-- one free word is a slot
one_word : slots (1 ∷ []) ≡ space 1 ∷ []
unfolding slots_after slot_at
one_word = refl

-- where a slot can't be read, words follow the slots
pub ended_within : (given : List ℕ) (walk : Walking) → slot_walk.Walked given walk → walk.ended ≡ true → walk.place < length given
ended_within given walk w ended =
    let most = slots_within given in
    let at = w.place in
    by_size (all_words (slots given)) refl most at
  where
    -- a free word after the last one would be a slot more
    more : all_words (slots given) ≡ length given → ⊥
    more all =
        let none : hand_of given ≡ [] = drop_all (all_words (slots given)) given (omega (arith, all)) in
        let two : slots given ++ space 1 ∷ [] ≡ slots given = ap (λ l. slots given ++ l) (sym (ap (λ h. slots (h ++ 1 ∷ [])) none ∙ one_word)) ∙ sym (slots_on given (1 ∷ [])) ∙ w.ended ended (1 ∷ []) in
        let sizes = ap length two in
        let sum : length (slots given ++ space 1 ∷ []) ≡ length (slots given) + 1 = length-append (slots given) (space 1 ∷ []) in
        omega (arith, sizes, sum)

    equal_or : (a b : ℕ) → a ≤ b → (a ≡ b) ⊎ (a < b)
    equal_or zero zero l = inl refl
    equal_or zero (suc b) l = inr (omega arith)
    equal_or (suc a) zero l = absurd (omega (arith, l))
    equal_or (suc a) (suc b) l = elim (equal_or a b (omega (arith, l))) [ inl e ↦ inl (ap suc e) | inr less ↦ inr (omega (arith, less)) ]

    by_size : (n : ℕ) → all_words (slots given) ≡ n → all_words (slots given) ≤ length given → walk.place ≡ all_words (slots given) → walk.place < length given
    by_size n is most at = elim (equal_or (all_words (slots given)) (length given) most) [
      | inl all ↦ absurd (more all)
      | inr less ↦ omega (arith, at, less)
    ]

-- the slots of more words end where they did, or past the words before
pub ends_past : (given more : List ℕ) → IsOpen (hand_of given) → (all_words (slots (given ++ more)) ≡ all_words (slots given)) ⊎ (length given < all_words (slots (given ++ more)))
ends_past given more open_hand = by (slot_at (hand ++ more)) refl
  where
    hand : List ℕ
    hand = hand_of given

    on : all_words (slots (given ++ more)) ≡ all_words (slots given) + all_words (slots (hand ++ more))
    on = ap all_words (slots_on given more) ∙ all_words-append (slots given) (slots (hand ++ more))

    held : length given ≡ all_words (slots given) + length hand
    held = let most = slots_within given in let cut = length_drop (all_words (slots given)) given most in omega (arith, cut, most)
      where
        length_drop : (n : ℕ) (l : List ℕ) → n ≤ length l → length (drop n l) + n ≡ length l
        length_drop zero l h = omega arith
        length_drop (suc n) [] h = absurd (omega (arith, h))
        length_drop (suc n) (x ∷ l) h = let rest = length_drop n l (omega (arith, h)) in omega (arith, rest)

    longer : (i : Item) → slot_at (hand ++ more) ≡ Some i → length hand < item_words i
    longer i is = by_hand hand refl
      where
        front : (n : ℕ) (l : List ℕ) → 0 < n → first_length (take n l) ≡ first_length l
        front zero l h = absurd (omega (arith, h))
        front (suc n) [] h = refl
        front (suc n) (x ∷ l) h = refl

        by_hand : (h : List ℕ) → hand ≡ h → length hand < item_words i
        by_hand [] e = let one = (slot_at-is (hand ++ more) i is).0 in let size = one.size in let some = one.some in let none = ap length e in omega (arith, size, some, none)
        by_hand (x ∷ h) e =
            let some : 0 < length hand = (let long = ap length e in omega (arith, long)) in
            let one = (slot_at-is (hand ++ more) i is).0 in
            let first = one.first in
            let size = one.size in
            let least = one.some in
            let head : first_length (take (item_words i) (hand ++ more)) ≡ first_length hand = front (item_words i) (hand ++ more) (omega (arith, size, least)) ∙ first_stays hand more some in
            let past = open_hand some in
            omega (arith, first, size, head, past)

    by : (o : Option Item) → slot_at (hand ++ more) ≡ o → (all_words (slots (given ++ more)) ≡ all_words (slots given)) ⊎ (length given < all_words (slots (given ++ more)))
    by None is = inl (on ∙ ap (λ l. all_words (slots given) + all_words l) (slots-none (hand ++ more) is) ∙ omega arith)
    by (Some i) is =
        let first : all_words (slots (hand ++ more)) ≡ item_words i + all_words (slots (drop (item_words i) (hand ++ more))) = ap all_words (slots-some (hand ++ more) i is) in
        let long = longer i is in
        inr (omega (arith, on, held, first, long))

-- ---- words of full pages
-- full pages have 256 words each
pub full_words : (p : Pack) (d : Fid) (k : ℕ) → FullBefore p d k → length (take (256 * k) (dir_words p d)) ≡ 256 * k
full_words p d k h =
    let bytes = full_bytes k h in
    let all = length-take (512 * k) (file_bytes (sights p) d) in
    let half : length (dir_words p d) ≡ length (file_bytes (sights p) d) / 2 = length-words_of (file_bytes (sights p) d) in
    let cut = length-take (256 * k) (dir_words p d) in
    omega (arith, bytes, all, half, cut)
  where
    full_bytes : (k : ℕ) → FullBefore p d k → length (take (512 * k) (file_bytes (sights p) d)) ≡ 512 * k
    full_bytes zero h = refl
    full_bytes (suc k) h =
        let before : FullBefore p d k = record { each = λ j l. h.each j (omega (arith, l)) } in
        let here : IsFullPage p d k = h.each k (omega arith) in
        let full = here.full in
        let next : 512 * k + length (bytes_at p here.at) ≡ 512 * suc k = omega (arith, full) in
        let goes = ap length (page_goes_on p d k here.at before here.sector ∙ ap (λ n. take n (file_bytes (sights p) d)) next) in
        let sum = length-append (take (512 * k) (file_bytes (sights p) d)) (bytes_at p here.at) in
        let rest = full_bytes k before in
        omega (arith, goes, sum, rest, full)

-- ---- one row more
module _ (p : Pack) (d : Fid) (old new : Directory) (h : HasRead p d old) where
  -- of which no words count
  pub same_read : new.walk.length ≡ old.walk.length → new.walk.pages ≡ old.walk.pages → new.slots ≡ old.slots → new.at ≡ old.at → HasRead p d new
  same_read long pages slots_are at_is = record {
    given = h.given;
    rest = h.rest;
    walked = subst (slot_walk.Walked h.given) (sym slots_are) h.walked;
    words = ap (λ n. take (n / 2) (dir_words p d)) long ∙ h.words;
    all = λ going. h.all (ap (λ w. w.ended) (sym slots_are) ∙ going);
    sector = λ l.
        let same : new.slots.place ≡ old.slots.place = ap (λ w. w.place) slots_are in
        ap (λ w. place (sights p) d (suc (w.place / 256))) slots_are ∙ h.sector (omega (arith, l, pages, same)) ∙ ap Some (sym at_is);
  }

  -- whose words come after a slot that can't be read
  pub past_read : (bytes : ℕ) → old.slots.ended ≡ true → old.walk.length ≡ 512 * old.walk.pages → new.walk.length ≡ old.walk.length + bytes → new.slots ≡ old.slots → new.at ≡ old.at → HasRead p d new
  past_read bytes ended full long slots_are at_is = record {
    given = h.given;
    rest = h.rest ++ drop (old.walk.length / 2) (take (new.walk.length / 2) (dir_words p d));
    walked = subst (slot_walk.Walked h.given) (sym slots_are) h.walked;
    words =
        sym (take-append-drop (old.walk.length / 2) (take (new.walk.length / 2) (dir_words p d)))
        ∙ ap (λ l. l ++ drop (old.walk.length / 2) (take (new.walk.length / 2) (dir_words p d))) (take-take (old.walk.length / 2) (new.walk.length / 2) (dir_words p d) (omega (arith, long)) ∙ h.words)
        ∙ append_assoc h.given h.rest (drop (old.walk.length / 2) (take (new.walk.length / 2) (dir_words p d)));
    all = λ going. absurd (let no : true ≡ false = sym ended ∙ ap (λ w. w.ended) (sym slots_are) ∙ going in cc);
    sector = λ l.
        let within = ended_within h.given old.slots h.walked ended in
        let words = ap length h.words in
        let sum = length-append h.given h.rest in
        let cut = length-take (old.walk.length / 2) (dir_words p d) in
        ap (λ w. place (sights p) d (suc (w.place / 256))) slots_are ∙ h.sector (omega (arith, within, words, sum, cut, full)) ∙ ap Some (sym at_is);
  }

  -- whose words are given to the slot walk
  pub fed_read : (bytes at : ℕ) (page : List ℕ) → old.slots.ended ≡ false → FullBefore p d old.walk.pages → old.walk.length ≡ 512 * old.walk.pages → place (sights p) d (suc old.walk.pages) ≡ Some at → page ≡ words_at p at → length page ≡ bytes / 2
      → new.walk.pages ≡ old.walk.pages + 1 → new.walk.length ≡ old.walk.length + bytes → ((given : List ℕ) → slot_walk.Walked given old.slots → slot_walk.Walked (given ++ page) new.slots)
      → (new.slots.place / 256 ≡ old.walk.pages → new.at ≡ at) → (new.slots.place / 256 ≢ old.walk.pages → new.at ≡ old.at) → HasRead p d new
  fed_read bytes at page going full whole seat is size pages long walks here elsewhere = record {
    given = h.given ++ page;
    rest = [];
    walked = now;
    words = words;
    all = λ _. refl;
    sector = λ l. by (equal_or (new.slots.place / 256) old.walk.pages) l;
  }
    where
      k : ℕ
      k = old.walk.pages

      now : slot_walk.Walked (h.given ++ page) new.slots
      now = walks h.given h.walked

      before : take (256 * old.walk.pages) (dir_words p d) ≡ h.given
      before = (let half : 256 * old.walk.pages ≡ old.walk.length / 2 = omega (arith, whole) in ap (λ n. take n (dir_words p d)) half) ∙ h.words ∙ ap (λ l. h.given ++ l) (h.all going) ∙ append-nil h.given

      given_long : length h.given ≡ 256 * old.walk.pages
      given_long = sym (ap length before) ∙ full_words p d old.walk.pages full

      words : take (new.walk.length / 2) (dir_words p d) ≡ (h.given ++ page) ++ []
      words =
          let counted : length (words_at p at) ≡ bytes / 2 = sym (ap length is) ∙ size in
          let half : new.walk.length / 2 ≡ 256 * old.walk.pages + length (words_at p at) = omega (arith, long, whole, counted) in
          ap (λ n. take n (dir_words p d)) half ∙ sym (page_words_go_on p d old.walk.pages at full seat) ∙ (λ i. before i ++ sym is i) ∙ sym (append-nil (h.given ++ page))

      equal_or : (a b : ℕ) → (a ≡ b) ⊎ (a ≢ b)
      equal_or zero zero = inl refl
      equal_or zero (suc b) = inr (λ e. omega (arith, e))
      equal_or (suc a) zero = inr (λ e. omega (arith, e))
      equal_or (suc a) (suc b) = elim (equal_or a b) [ inl e ↦ inl (ap suc e) | inr other ↦ inr (λ e. (let same : a ≡ b = omega (arith, e) in other same)) ]

      by : (new.slots.place / 256 ≡ old.walk.pages) ⊎ (new.slots.place / 256 ≢ old.walk.pages) → new.slots.place / 256 < new.walk.pages → place (sights p) d (suc (new.slots.place / 256)) ≡ Some new.at
      by (inl same) l = ap (λ n. place (sights p) d (suc n)) same ∙ seat ∙ ap Some (sym (here same))
      by (inr other) l = elim (ends_past h.given page (h.walked.unfinished going)) [
        | inl stays ↦
            let same : new.slots.place ≡ old.slots.place = now.place ∙ stays ∙ sym h.walked.place in
            ap (λ n. place (sights p) d (suc (n / 256))) same ∙ h.sector (below same other l) ∙ ap Some (sym (elsewhere other))
        | inr past ↦ absurd (beyond other l past)
      ]
        where
          less : (a b : ℕ) → a < b + 1 → a ≢ b → a < b
          less a b l other = elim (equal_or a b) [ inl e ↦ absurd (other e) | inr _ ↦ omega (arith, l, other) ]

          below : new.slots.place ≡ old.slots.place → new.slots.place / 256 ≢ old.walk.pages → new.slots.place / 256 < new.walk.pages → old.slots.place / 256 < old.walk.pages
          below same other l = subst (λ n. n / 256 < old.walk.pages) same (less (new.slots.place / 256) old.walk.pages (omega (arith, l, pages)) other)

          beyond : new.slots.place / 256 ≢ old.walk.pages → new.slots.place / 256 < new.walk.pages → length h.given < all_words (slots (h.given ++ page)) → ⊥
          beyond other l past =
              let first = less (new.slots.place / 256) old.walk.pages (omega (arith, l, pages)) other in
              let is_place = now.place in
              omega (arith, first, past, is_place, given_long)
