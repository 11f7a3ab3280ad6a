-- The slots of directories while names are mended.
use Rattle.std.proofs.Common.{[], ◌++◌, ◌+◌, ◌-◌, ◌<◌, ◌≤◌, ◌∙◌, ◌∷◌, ◌≡◌, Bool, List, ap, arith, false, inl, inr, length, refl, subst, suc, sym, true, zero, ℕ}
use Rattle.std.proofs.lemmas.Bool.{cases_lt}
use Rattle.std.specs.Option.{is_some}
use Rattle.laws_room.specs.alto_words.specs.declared.fid.Fid.{Fid}
use Rattle.laws_room.specs.alto_words.specs.Fid.{is_fid}
use Rattle.laws_room.specs.disk_records.specs.Packs.{Pack}
use Rattle.laws_room.specs.disk_records.specs.Words.{word}
use Rattle.laws_room.specs.pack_model.specs.hints.Links.{dir_slots, dir_words}
use Rattle.laws_room.specs.pack_model.specs.operations.Rooms.{left_over}
use Rattle.laws_room.specs.pack_model.specs.reading.Bytes.{put_at, words_of}
use Rattle.laws_room.specs.pack_model.specs.reading.Files.{file_bytes}
use Rattle.laws_room.specs.pack_model.specs.reading.Sights.{sights}
use Rattle.laws_room.specs.pack_model.specs.reading.SlotWords.{address_at, address_word, slots_at}
use Rattle.laws_room.specs.pack_model.specs.reading.Slots.{Item, SlotsReachEnd, all_words, item_words, slots}
use Rattle.laws_room.specs.pack_model.specs.reading.Slots.Item.{entry, space}
use Rattle.laws_room.specs.pack_laws.proofs.Bytes.{length-put_at}
use Rattle.laws_room.specs.pack_laws.proofs.Keys.{same_fid}
use Rattle.laws_room.specs.laws_record.proofs.Addressing.{IsLoose, LooseIn, loose_among, slots_kept}
use Rattle.laws_room.specs.laws_record.proofs.DirSteps.{widen_slots}
use Rattle.laws_room.specs.laws_record.proofs.DirWords.{dir_change}
use Rattle.laws_room.specs.laws_record.proofs.EnterSlots.{slots_entered}
use Rattle.laws_room.specs.laws_record.proofs.Heads.{all_read}
use Rattle.laws_room.specs.laws_record.proofs.Slotwise.{put_after, put_before}
use Rattle.laws_room.specs.laws_record.specs.DirLaws.{IsLooseWord, dir_written}
use Rattle.laws_room.specs.laws_record.specs.DirLaws.IsLooseWord.{in_space, of_address}
use Rattle.laws_lookup.proofs.Replacing.{split_at}
use Rattle.laws_mend.specs.SlotLaws.{EntersReplacesSlots, LooseWordsKeepSlots, MoreWordsReplaceSlots}

-- ---- words left over
left_over_first : (left : ℕ) (b : List Item) → left_over left [] ++ b ≡ left_over left b
left_over_first zero b = refl
left_over_first (suc n) b = refl

left_over_words : (left : ℕ) → all_words (left_over left []) ≡ left
left_over_words zero = refl
left_over_words (suc n) = omega arith

-- ---- an entry
pub enters_replaces_slots : EntersReplacesSlots
enters_replaces_slots p d at new a b f name left h =
    let c = dir_change p d (all_words a) at new h.write in
    let ws : List ℕ = dir_words p d in
    let extent = h.extent in
    record {
      living = ap is_some (c.leaders d);
      were = h.slots_are;
      are = ap slots c.words_are ∙ slots_entered p d at new a b f name left h ∙ ap (λ r. a ++ entry f name ∷ r) (sym (left_over_first left b));
      size = inr (let l = left_over_words left in omega arith);
      before = λ k low. ap (λ r. word r k) c.words_are ∙ put_before (all_words a) new ws k h.write.within low;
      later = λ k low high. ap (λ r. word r k) c.words_are ∙ put_after (all_words a) new ws k h.write.within (omega arith);
    }

-- ---- more words
-- those of the first list
pub first_words : (xs ys : List ℕ) (k : ℕ) → k < length xs → word (xs ++ ys) k ≡ word xs k
first_words [] ys k l = absurd (omega arith)
first_words (x ∷ xs) ys zero l = refl
first_words (x ∷ xs) ys (suc k) l = first_words xs ys k (omega arith)

-- slots within the first list stand there with the same addresses
front_slots : (xs ys : List ℕ) (place : ℕ) (is : List Item) → place + all_words is ≤ length xs → slots_at (xs ++ ys) place is ≡ slots_at xs place is
unfolding slots_at
front_slots xs ys place [] l = refl
front_slots xs ys place (i ∷ is) l = λ j. record { place = place; item = i; address = same i (omega arith) j } ∷ front_slots xs ys (place + item_words i) is (omega arith) j
  where
    same : (i : Item) → place + item_words i ≤ length xs → address_at (xs ++ ys) place i ≡ address_at xs place i
    same (space n) l = refl
    same (entry f name) l = first_words xs ys (address_word place) (omega arith)

-- those of a directory with a free slot of 256 words more
pub slots_and_one : (p q : Pack) (d : Fid) (fresh : List ℕ) → SlotsReachEnd (file_bytes (sights p) d) → dir_words q d ≡ dir_words p d ++ fresh → slots fresh ≡ space 256 ∷ []
    → dir_slots q d ≡ dir_slots p d ++ record { place = all_words (slots (dir_words p d)); item = space 256; address = 0 } ∷ []
unfolding slots_at
slots_and_one p q d fresh ends more one =
    let ws : List ℕ = dir_words p d in
    let r = all_read ws ends.items ends.reads in
    let all : all_words (slots ws) ≡ length ws = ap all_words r.0 ∙ r.1 in
    let first : 0 + all_words (slots ws) ≡ all_words (slots ws) = omega arith in
    (λ i. slots_at (more i) 0 (slots (more i))) ∙ ap (slots_at (ws ++ fresh) 0) (widen_slots p d fresh ends one) ∙ split_at (ws ++ fresh) 0 (slots ws) (space 256 ∷ [])
    ∙ ap (λ n. slots_at (ws ++ fresh) 0 (slots ws) ++ slots_at (ws ++ fresh) n (space 256 ∷ [])) first
    ∙ ap (λ is. is ++ record { place = all_words (slots ws); item = space 256; address = 0 } ∷ []) (front_slots ws fresh 0 (slots ws) (omega arith))

pub more_words_replace_slots : MoreWordsReplaceSlots
more_words_replace_slots p q d fresh living ends more one =
    let r = all_read (dir_words p d) ends.items ends.reads in
    let all : all_words (slots (dir_words p d)) ≡ length (dir_words p d) = ap all_words r.0 ∙ r.1 in
    record {
      living = living;
      were = sym (no_more (slots (dir_words p d)));
      are = ap slots more ∙ widen_slots p d fresh ends one;
      size = inl refl;
      before = λ k low. ap (λ ws. word ws k) more ∙ first_words (dir_words p d) fresh k (omega arith);
      later = λ k low high. absurd (omega arith);
    }
  where
    no_more : (is : List Item) → is ++ [] ≡ is
    no_more [] = refl
    no_more (i ∷ is) = ap (λ r. i ∷ r) (no_more is)

-- ---- loose words
-- where a loose word stands
loose_word : (p : Pack) (d : Fid) (k : ℕ) → IsLooseWord p d k → LooseIn 0 (slots (dir_words p d)) k
loose_word p d k (in_space s n stands is low high) =
    let j : ℕ = k - s.place in
    let z : s.place + j ≡ k = omega arith in
    subst (LooseIn 0 (slots (dir_words p d))) z (loose_among (dir_words p d) 0 (slots (dir_words p d)) stands.0 s j stands.1 stands.2 (subst (λ x. IsLoose x j) (sym is) (omega arith, omega arith)))
loose_word p d k (of_address a) =
    subst (LooseIn 0 (slots (dir_words p d))) (sym a.word) (loose_among (dir_words p d) 0 (slots (dir_words p d)) a.stands.0 a.slot 5 a.stands.1 a.stands.2 (subst (λ x. IsLoose x 5) (sym a.item) refl))

pub loose_words_keep_slots : LooseWordsKeepSlots
loose_words_keep_slots p d w at new h loose e = by (is_fid e d) refl
  where
    ws : List ℕ
    ws = dir_words p d

    own : slots (dir_words (dir_written p w at new) d) ≡ slots (dir_words p d)
    own =
        ap slots (dir_change p d w at new h).words_are
        ∙ slots_kept (dir_words p d) (put_at w new (dir_words p d)) 0 (slots (dir_words p d)) (length-put_at w new (dir_words p d) h.within) refl
        (λ k low high. elim (cases_lt k w) [
          | inl before ↦ inl (put_before w new (dir_words p d) k h.within before)
          | inr past ↦ elim (cases_lt k (w + length new)) [
            | inl here ↦ inr (loose_word p d k (loose k past here))
            | inr behind ↦ inl (put_after w new (dir_words p d) k h.within behind)
          ]
        ])

    by : (b : Bool) → is_fid e d ≡ b → slots (dir_words (dir_written p w at new) e) ≡ slots (dir_words p e)
    by true same = subst (λ g. slots (dir_words (dir_written p w at new) g) ≡ slots (dir_words p g)) (sym (same_fid e d same)) own
    by false other = ap (λ bytes. slots (words_of bytes)) ((dir_change p d w at new h).others e other)
