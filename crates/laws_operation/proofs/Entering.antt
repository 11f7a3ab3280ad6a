-- Enter: all its record writes, one after another.
use Rattle.std.proofs.Common.{Bool, List, Some, [], add-one, ap, arith, cond, drop, eq-eqb, eqb-true, false, inl, inr, length, length-drop, min, refl, subst, suc, sym, take, true, zero, ℕ, ◌*◌, ◌++◌, ◌+◌, ◌-◌, ◌/◌, ◌<◌, ◌∙◌, ◌∷◌, ◌≡◌, ◌≢◌, ◌≤◌}
use Rattle.std.proofs.lemmas.Bool.{cases_lt}
use Rattle.std.proofs.lemmas.List.{length-append, length-take, nil_from_length, take-append-drop}
use Rattle.std.specs.FinMap.{entries}
use Rattle.std.specs.List.{list_any}
use Rattle.std.specs.Option.{is_some}
use Rattle.std.specs.Prelude.{◌==◌}
use Rattle.laws_contents.specs.alto_words.specs.Fid.{is_directory, is_system}
use Rattle.laws_contents.specs.alto_words.specs.declared.fid.Fid.{Fid}
use Rattle.laws_contents.specs.disk_records.specs.Commands.{value_writes}
use Rattle.laws_contents.specs.disk_records.specs.Packs.{Pack, after, sector_at}
use Rattle.laws_contents.specs.disk_records.specs.declared.records.Event.{Event}
use Rattle.laws_contents.specs.pack_model.specs.reading.Bytes.{put_at}
use Rattle.laws_contents.specs.pack_model.specs.operations.Commands.{values_writes}
use Rattle.laws_contents.specs.pack_model.specs.operations.Committing.{page_of_word}
use Rattle.laws_contents.specs.pack_model.specs.operations.Entering.{overlapping}
use Rattle.laws_contents.specs.pack_model.specs.reading.Files.{carries_page, lives, place}
use Rattle.laws_contents.specs.pack_model.specs.hints.Links.{dir_words}
use Rattle.laws_contents.specs.pack_model.specs.sessions.Meanings.{reading}
use Rattle.laws_contents.specs.pack_model.specs.reading.Model.{dir_items}
use Rattle.laws_contents.specs.pack_model.specs.reading.Namings.{clashes, namings}
use Rattle.laws_contents.specs.pack_model.specs.operations.PageWords.{in_page, later, near}
use Rattle.laws_contents.specs.pack_model.specs.operations.Rooms.{find_room}
use Rattle.laws_contents.specs.pack_model.specs.reading.Sights.{sights}
use Rattle.laws_contents.specs.pack_model.specs.reading.Sights.Sight.{hidden, holds}
use Rattle.laws_contents.specs.pack_model.specs.reading.Slots.{Item, all_words, entry_length, slots}
use Rattle.laws_contents.specs.pack_model.specs.reading.Slots.Item.{space}
use Rattle.laws_contents.specs.pack_model.specs.operations.Step.{Operation}
use Rattle.laws_contents.specs.pack_model.specs.operations.Step.Operation.{enter}
use Rattle.laws_contents.specs.pack_model.specs.states.Whole.{Tidy, Whole}
use Rattle.laws_contents.specs.pack_laws.proofs.Moving.{stands_last}
use Rattle.laws_contents.specs.pack_laws.proofs.Placing.{place_same}
use Rattle.laws_contents.specs.laws_record.proofs.Addressing.{LooseIn, entry_words_many}
use Rattle.laws_contents.specs.laws_record.proofs.DirWords.{dir_change, new_bytes, page_by_bytes, written_sights}
use Rattle.laws_contents.specs.laws_record.proofs.Heads.{all_within}
use Rattle.laws_contents.specs.laws_record.proofs.Slotwise.{words-append}
use Rattle.laws_contents.specs.laws_record.specs.DirLaws.{DirWrite, dir_written}
use Rattle.laws_contents.specs.laws_record.specs.EnterLaws.{IsItsRoom, MayEnter}
use Rattle.laws_operation.proofs.EnterStages.{EntersBy, later_first, loose_stage, views_of}
use Rattle.laws_operation.proofs.EntryWrite.{EntersLast, enters_of, last_stage, loose_in, put_drop}
use Rattle.laws_operation.specs.NameLaws.{EntryWords}
use Rattle.std.proofs.Math.Seq.{take-append_seam}

-- ---- one free slot is the room
-- An entry's words, of which the room is one free slot.
pub record Ready (p : Pack) (d : Fid) (name : List ℕ) (f : Fid) (a b : List Item) (left : ℕ) (words : List ℕ) (at next_at : ℕ) : Type 0 where
  pub directory : is_directory d ≡ true
  pub living : lives (sights p) d ≡ true
  pub no_system : is_system f ≡ false
  pub may : MayEnter p d f name
  pub slots_are : slots (dir_words p d) ≡ a ++ space (entry_length (length name) + left) ∷ b
  pub room : IsItsRoom p d a name left
  pub words_are : EntryWords f name left words
  pub sector : place (sights p) d (page_of_word (all_words a)) ≡ Some at
  pub next_sector : 0 < length (later (all_words a) words) → place (sights p) d (suc (page_of_word (all_words a))) ≡ Some next_at

-- the words lie within the directory
pub words_within : (p : Pack) (d : Fid) (a b : List Item) (k : ℕ) → slots (dir_words p d) ≡ a ++ space k ∷ b → all_words a + k ≤ length (dir_words p d)
words_within p d a b k e = let l = all_within (a ++ space k ∷ b) (dir_words p d) e in let z : all_words (a ++ space k ∷ b) ≡ all_words a + (k + all_words b) = words-append a (space k ∷ b) in omega arith

-- pages stay where they are when words of one of them are written
pub sector_still : (p : Pack) (d : Fid) (w at : ℕ) (new : List ℕ) (h : DirWrite p d w at new) (n : ℕ) → place (sights (dir_written p w at new)) d n ≡ place (sights p) d n
sector_still p d w at new h n =
    let here = page_by_bytes p d w at new h in
    ap (λ us. place us d n) (written_sights p d w at new h) ∙ place_same (sights p) at (holds d (2 * w / 512) (new_bytes p d w at new h)) d n here.within (same n (2 * w / 512) (new_bytes p d w at new h) here.bytes ∙ sym (ap (carries_page d n) (here.shows hidden)))
  where
    same : (n k : ℕ) (x y : List ℕ) → carries_page d n (holds d k x) ≡ carries_page d n (holds d k y)
    same zero k x y = refl
    same (suc n) k x y = refl

-- the words of which one page has all
module _ (p : Pack) (w : Whole p) (t : Tidy p) (d : Fid) (name : List ℕ) (f : Fid) (a b : List Item) (left : ℕ) (words : List ℕ) (at next_at : ℕ) (r : Ready p d name f a b left words at next_at) where
  -- words from the slot's first on, in its page
  write_here : (new : List ℕ) → 0 < length new → length new ≤ length words → in_page (all_words a) + length new ≤ 256 → DirWrite p d (all_words a) at new
  write_here new some most one = record {
    directory = r.directory;
    lives = r.living;
    sector = ap (place (sights p) d) (add-one (all_words a / 256)) ∙ r.sector;
    some = some;
    one_page = one;
    within = let l = words_within p d a b (entry_length (length name) + left) r.slots_are in let s = r.words_are.size in omega arith;
  }

  -- the entry's first words, where the others stand
  last_here : (new over : List ℕ) → words ≡ new ++ over → 0 < length new → in_page (all_words a) + length new ≤ 256 → take (length over) (drop (all_words a + length new) (dir_words p d)) ≡ over → EntersLast p d (value_writes at (put_at (in_page (all_words a)) new (sector_at p at).value)) (enter d name f)
  last_here new over split some one stands =
      let parts : length words ≡ length new + length over = ap length split ∙ length-append new over in
      last_stage p w t d at new a b f name left (enters_of p d at new over words a b f name left r.words_are split r.slots_are (write_here new some (omega arith) one) stands) r.may r.room r.no_system

-- the last record write alone
last_by : (p : Pack) (d : Fid) (events : List Event) (o : Operation) → EntersLast p d events o → EntersBy p d events [] o
last_by p d events o s = record { obeys = views_of s.obeys; ends = stands_last reading s.obeys; whole = s.whole; tidy = s.tidy; same = s.same }

-- the moves by how many values come first
abbrev pub ticks : Bool → List (Unit {0})
ticks true = []
ticks false = tt ∷ []

-- the value of the next page, where the words lie over the end of the first one, and then the entry
pub second_stage : (p : Pack) (w : Whole p) (t : Tidy p) (d : Fid) (name : List ℕ) (f : Fid) (a b : List Item) (left : ℕ) (words : List ℕ) (at next_at : ℕ) → Ready p d name f a b left words at next_at
    → EntersBy p d (values_writes (overlapping p (all_words a) words next_at) ++ value_writes at (put_at (in_page (all_words a)) (near (all_words a) words) (sector_at (after p (values_writes (overlapping p (all_words a) words next_at))) at).value)) (ticks (page_of_word (all_words a + length words - 1) == page_of_word (all_words a))) (enter d name f)
second_stage p w t d name f a b left words at next_at r = by (page_of_word (all_words a + length words - 1) == page_of_word (all_words a)) refl
  where
    split : words ≡ near (all_words a) words ++ later (all_words a) words
    split = sym (take-append-drop (256 - in_page (all_words a)) words)

    many : 7 ≤ length words
    many = let s = r.words_are.size in let l = entry_words_many (length name) in omega arith

    near_size : length (near (all_words a) words) ≡ min (256 - in_page (all_words a)) (length words)
    near_size = length-take (256 - in_page (all_words a)) words

    over_size : length (later (all_words a) words) ≡ length words - (256 - in_page (all_words a))
    over_size = length-drop (256 - in_page (all_words a)) words

    within_page : in_page (all_words a) < 256
    within_page = omega arith

    by : (c : Bool) → (page_of_word (all_words a + length words - 1) == page_of_word (all_words a)) ≡ c
        → EntersBy p d (values_writes (cond c [] ((next_at, put_at 0 (later (all_words a) words) (sector_at p next_at).value) ∷ [])) ++ value_writes at (put_at (in_page (all_words a)) (near (all_words a) words) (sector_at (after p (values_writes (cond c [] ((next_at, put_at 0 (later (all_words a) words) (sector_at p next_at).value) ∷ [])))) at).value)) (ticks c) (enter d name f)
    by true e =
        let same : page_of_word (all_words a + length words - 1) ≡ page_of_word (all_words a) = eqb-true (page_of_word (all_words a + length words - 1)) (page_of_word (all_words a)) e in
        let s = near_size in let o = over_size in let m = many in let q = within_page in
        let none : length (later (all_words a) words) ≡ 0 = omega arith in
        last_by p d (value_writes at (put_at (in_page (all_words a)) (near (all_words a) words) (sector_at p at).value)) (enter d name f)
        (last_here p w t d name f a b left words at next_at r (near (all_words a) words) (later (all_words a) words) split (omega arith) (omega arith) (ap (λ k. take k (drop (all_words a + length (near (all_words a) words)) (dir_words p d))) none ∙ sym (nil_from_length (later (all_words a) words) none)))
    by false e =
        let apart : page_of_word (all_words a + length words - 1) ≢ page_of_word (all_words a) = λ z. (let x : true ≡ false = sym (eq-eqb (page_of_word (all_words a + length words - 1)) (page_of_word (all_words a)) z) ∙ e in cc) in
        let s = near_size in let o = over_size in let m = many in let q = within_page in
        let size = r.words_are.size in
        let long : 256 - in_page (all_words a) < length words = (elim (cases_lt (256 - in_page (all_words a)) (length words)) [ inl l ↦ l | inr l ↦ absurd (apart (omega arith)) ]) in
        let w2 : ℕ = all_words a + length (near (all_words a) words) in
        let z : in_page w2 ≡ 0 = omega arith in
        let page : w2 / 256 + 1 ≡ suc (page_of_word (all_words a)) = omega arith in
        let inside = words_within p d a b (entry_length (length name) + left) r.slots_are in
        let h : DirWrite p d w2 next_at (later (all_words a) words) = record {
          directory = r.directory;
          lives = r.living;
          sector = ap (place (sights p) d) page ∙ r.next_sector (omega arith);
          some = omega arith;
          one_page = let short = r.words_are.short in omega arith;
          within = omega arith;
        } in
        let loose : (k : ℕ) → w2 ≤ k → k < w2 + length (later (all_words a) words) → LooseIn 0 (slots (dir_words p d)) k = λ k low high.
        subst (λ is. LooseIn 0 is k) (sym r.slots_are) (loose_in 0 a b (entry_length (length name) + left) k (omega arith) (omega arith)) in
        let st = loose_stage p w t d w2 next_at (later (all_words a) words) h loose in
        let q1 : Pack = dir_written p w2 next_at (later (all_words a) words) in
        let c = dir_change p d w2 next_at (later (all_words a) words) h in
        let r1 : Ready q1 d name f a b left words at next_at = record {
          directory = r.directory;
          living = ap is_some (c.leaders d) ∙ r.living;
          no_system = r.no_system;
          may = record { lives = ap is_some (c.leaders f) ∙ r.may.lives; fits = r.may.fits; apart = ap (λ m. list_any (clashes (record { dir = d; name = name; fid = f })) (namings (entries m.files))) st.read ∙ r.may.apart };
          slots_are = st.slots_stay ∙ r.slots_are;
          room = ap (λ x. find_room (entry_length (length name)) (dir_items x d)) st.read ∙ r.room;
          words_are = r.words_are;
          sector = sector_still p d w2 next_at (later (all_words a) words) h (page_of_word (all_words a)) ∙ r.sector;
          next_sector = λ some. sector_still p d w2 next_at (later (all_words a) words) h (suc (page_of_word (all_words a))) ∙ r.next_sector some;
        } in
        let stands : take (length (later (all_words a) words)) (drop (all_words a + length (near (all_words a) words)) (dir_words q1 d)) ≡ later (all_words a) words =
        ap (λ x. take (length (later (all_words a) words)) (drop w2 x)) c.words_are ∙ ap (take (length (later (all_words a) words))) (put_drop w2 (later (all_words a) words) (dir_words p d) h.within)
        ∙ take-append_seam (later (all_words a) words) (drop (w2 + length (later (all_words a) words)) (dir_words p d)) in
        let last = last_by q1 d (value_writes at (put_at (in_page (all_words a)) (near (all_words a) words) (sector_at q1 at).value)) (enter d name f)
        (last_here q1 st.whole st.tidy d name f a b left words at next_at r1 (near (all_words a) words) (later (all_words a) words) split (omega arith) (omega arith) stands) in
        let all = later_first p w t d w2 next_at (later (all_words a) words) h loose (value_writes at (put_at (in_page (all_words a)) (near (all_words a) words) (sector_at q1 at).value)) [] (enter d name f) last in
        subst (λ k. EntersBy p d (value_writes next_at (put_at k (later (all_words a) words) (sector_at p next_at).value) ++ value_writes at (put_at (in_page (all_words a)) (near (all_words a) words) (sector_at (after p (value_writes next_at (put_at k (later (all_words a) words) (sector_at p next_at).value))) at).value)) (tt ∷ []) (enter d name f)) z all
