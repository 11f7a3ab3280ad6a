-- SysDir is made: a data page of one free slot, and then its leader page in sector 1.
use Rattle.std.proofs.Common.{[], ◌%◌, ◌*◌, ◌/◌, ◌∙◌, ◌∷◌, ◌≡◌, ◌≢◌, ◌≤◌, ◌⊎◌, Bool, List, None, Option, Some, ap, arith, cond, drop, eq-eqb, false, get_or, inl, inr, le-leb, length, length-take, nat_le, refl, subst, suc, sym, take, true, zero, ℕ}
use Rattle.std.proofs.lemmas.Bool.{cases_eq}
use Rattle.std.proofs.lemmas.List.{take_all}
use Rattle.std.specs.Option.{is_some}
use Rattle.std.specs.Prelude.{◌&&◌, ◌==◌}
use Rattle.laws_room.specs.alto_words.specs.declared.fid.Fid.{Fid}
use Rattle.laws_room.specs.alto_words.specs.Fid.{is_directory, is_fid, sys_dir}
use Rattle.laws_room.specs.disk_records.specs.Commands.{claim_writes}
use Rattle.laws_room.specs.disk_records.specs.Labels.{page_of, tag}
use Rattle.laws_room.specs.disk_records.specs.Packs.{Pack, after, carried, is_free_at, sector_at}
use Rattle.laws_room.specs.disk_records.specs.Words.{word}
use Rattle.laws_room.specs.disk_records.specs.declared.records.Page.{Page}
use Rattle.laws_room.specs.disk_records.specs.declared.records.Sector.{Sector}
use Rattle.laws_room.specs.pack_model.specs.hints.Links.{dir_words}
use Rattle.laws_room.specs.pack_model.specs.reading.Bytes.{bytes_of}
use Rattle.laws_room.specs.pack_model.specs.reading.Files.{file_bytes, leader, lives, place}
use Rattle.laws_room.specs.pack_model.specs.reading.Leaders.{Leader, is_readable, leader_of, leader_words}
use Rattle.laws_room.specs.pack_model.specs.reading.Sights.{page_sight, sights}
use Rattle.laws_room.specs.pack_model.specs.reading.Sights.Sight.{free, hidden}
use Rattle.laws_room.specs.pack_model.specs.reading.Slots.{SlotsReachEnd, all_words, and_then, first_length, is_entry, slot_at, slot_fid, slot_name, slot_of, slots, slots_after}
use Rattle.laws_room.specs.pack_model.specs.reading.Slots.Item.{entry, space}
use Rattle.laws_room.specs.pack_model.specs.states.InUse.{counts, in_use, is_good, is_place, is_within}
use Rattle.laws_room.specs.pack_model.specs.states.Sentences.{IsUsed}
use Rattle.laws_room.specs.pack_laws.proofs.Bytes.{length-bytes_of, length-words_of}
use Rattle.laws_room.specs.pack_laws.proofs.guards.Laws.{claim_takes_at_the_label}
use Rattle.laws_room.specs.pack_laws.proofs.Keys.{is_fid-itself, same_fid}
use Rattle.laws_room.specs.pack_laws.proofs.Placing.{page_of_place}
use Rattle.laws_room.specs.pack_laws.specs.GuardLaws.{ComesToHold}
use Rattle.laws_room.specs.laws_contents.proofs.ends.Laws.{last_page_ends_the_file}
use Rattle.laws_room.specs.laws_contents.proofs.pages.Laws.{none_before_the_first}
use Rattle.laws_room.specs.laws_contents.proofs.words.Laws.{page_words_are_a_slice}
use Rattle.laws_room.specs.laws_contents.specs.PageLaws.{bytes_at}
use Rattle.laws_room.specs.laws_contents.specs.WordContents.{words_at}
use Rattle.laws_room.specs.laws_record.proofs.Copying.{place_carried}
use Rattle.laws_room.specs.laws_record.proofs.Ends.{counts_none}
use Rattle.laws_room.specs.laws_record.proofs.Reading.{get_by}
use Rattle.laws_room.specs.laws_record.proofs.Recording.{carried_sight, free_sight}
use Rattle.laws_room.specs.laws_record.proofs.slots.Laws.{one_by_one, reads_to_the_end}
use Rattle.laws_mend.proofs.inside.Alike.{counts_alike}
use Rattle.laws_mend.proofs.inside.Completed.{claimed_aside, claimed_cleared, claimed_here, claimed_others, claimed_place}
use Rattle.laws_mend.proofs.inside.Counted.{carried_in_use}
use Rattle.laws_mend.proofs.inside.Describing.{use_alike}
use Rattle.laws_mend.proofs.inside.Filed.{bytes_by_places, lives_by_place, lives_place}
use Rattle.laws_mend.proofs.inside.Shortened.{even_by}
use Rattle.laws_mend.specs.PartLaws.{RootIsMade}
use Rattle.laws_mend.specs.Parts.{Rooted, Used}

-- no other file is SysDir
not_root : (f : Fid) → is_fid f sys_dir ≡ false → f ≡ sys_dir → ⊥
not_root f e same = let c : true ≡ false = sym (is_fid-itself sys_dir) ∙ ap (λ g. is_fid g sys_dir) (sym same) ∙ e in cc

-- the first word of some, and none after all
word_of_front : (words : List ℕ) (n : ℕ) → word (take (suc n) words) 0 ≡ word words 0
word_of_front [] n = refl
word_of_front (w ∷ words) n = refl

drop_all : (n : ℕ) (words : List ℕ) → length words ≤ n → drop n words ≡ []
drop_all zero [] l = refl
drop_all zero (w ∷ words) l = absurd (omega arith)
drop_all (suc n) [] l = refl
drop_all (suc n) (w ∷ words) l = drop_all n words (omega arith)

-- ---- one free slot
-- words that a free slot's length begins are this slot, if they are as many
one_slot : (words : List ℕ) → length words ≡ 255 → word words 0 ≡ 255 → slots words ≡ space 255 ∷ []
unfolding slot_at slots_after
one_slot words size first =
    let length_is : first_length words ≡ 255 = ap (λ n. n % 1024) first in
    let all : take 255 words ≡ words = take_all 255 words (omega arith) in
    let here : slot_at words ≡ Some (space 255) =
    (λ i. cond (nat_le 1 (length_is i) && nat_le (length_is i) (size i)) (slot_of (take (length_is i) words)) None)
    ∙ ap slot_of all
    ∙ (λ i. cond (first i == size i) (Some (space (size i))) (cond (is_entry words) (Some (entry (slot_fid words) (slot_name words))) None)) in
    let none : drop 255 words ≡ [] = drop_all 255 words (omega arith) in
    one_by_one words ∙ ap (λ r. and_then r (λ n. slots (drop n words))) here ∙ ap (λ ws. space 255 ∷ slots ws) none

-- ---- no page of a file that doesn't live
module _ (p : Pack) (used : Used p) (dead : lives (sights p) sys_dir ≡ false) where
  -- its pages don't count
  dead_root : (n : ℕ) → counts p.shape (sights p) sys_dir n ≡ false
  dead_root n = by (leader (sights p) sys_dir) refl
    where
      by : (l : Option Leader) → leader (sights p) sys_dir ≡ l → counts p.shape (sights p) sys_dir n ≡ false
      by None e = counts_none p.shape (sights p) sys_dir n e
      by (Some l) e = absurd (let c : true ≡ false = sym (ap is_some e) ∙ dead in cc)

  -- so no sector carries one
  no_root_page : (n : ℕ) → place (sights p) sys_dir n ≡ None
  no_root_page n = by (place (sights p) sys_dir n) refl
    where
      page : Page
      page = record { fid = sys_dir; number = n }

      taken : (k c : ℕ) (v : List ℕ) → (m : ℕ) → get_or (sights p) k hidden ≡ page_sight sys_dir m c v → (is_good (get_or (sights p) k hidden) ≡ true) × (get_or (sights p) k hidden ≡ free → ⊥)
      taken k c v zero e = (ap is_good e, λ is. let x : page_sight sys_dir 0 c v ≡ free = sym e ∙ is in cc)
      taken k c v (suc m) e = (ap is_good e, λ is. let x : page_sight sys_dir (suc m) c v ≡ free = sym e ∙ is in cc)

      by : (r : Option ℕ) → place (sights p) sys_dir n ≡ r → place (sights p) sys_dir n ≡ None
      by None e = e
      by (Some k) e =
          let here : carried p k ≡ Some (record { fid = sys_dir; number = n }) = place_carried p (record { fid = sys_dir; number = n }) k e in
          let t = taken k (tag (sector_at p k).label).bytes (sector_at p k).value n (carried_sight p k (record { fid = sys_dir; number = n }) here) in
          absurd (elim (used.used k t.0) [
            | inl is ↦ t.1 is
            | inr is ↦ (let c : true ≡ false = sym is ∙ carried_in_use p k (record { fid = sys_dir; number = n }) here ∙ ap (λ b. b && is_place k (place (sights p) sys_dir n)) (dead_root n) in cc)
          ])

-- ---- the two claims
module _ (p : Pack) (at : ℕ) (label value later_label later_value : List ℕ) (used : Used p) (dead : lives (sights p) sys_dir ≡ false) (first : is_free_at p 1 ≡ true) (is : is_free_at p at ≡ true) (other : at ≢ 1)
    (names : page_of label ≡ Some (record { fid = sys_dir; number = 1 })) (count : (tag label).bytes ≡ 510) (size : length value ≡ 256) (says : word value 0 ≡ 255) (leads_it : page_of later_label ≡ Some (record { fid = sys_dir; number = 0 })) where
  abbrev data_page : Page
  data_page = record { fid = sys_dir; number = 1 }

  abbrev lead_page : Page
  lead_page = record { fid = sys_dir; number = 0 }

  abbrev q : Pack
  q = after p (claim_writes at label value)

  abbrev r : Pack
  r = after q (claim_writes 1 later_label later_value)

  c : ComesToHold at data_page label value p q
  c = (claim_takes_at_the_label p at data_page label value 3 is names).taken (omega arith)

  lacks : place (sights p) sys_dir 1 ≡ None
  lacks = no_root_page p used dead 1

  here : place (sights q) sys_dir 1 ≡ Some at
  here = claimed_place p q at data_page (tag label).bytes value is lacks c.shown

  -- its words are one free slot
  counted_bytes : bytes_at q at ≡ take 510 (bytes_of value)
  counted_bytes = ap (λ (s : Sector). take (tag s.label).bytes (bytes_of s.value)) c.here ∙ ap (λ n. take n (bytes_of value)) count

  many : length (bytes_at q at) ≡ 510
  many = let a = ap length counted_bytes in let b = length-take 510 (bytes_of value) in let d = length-bytes_of value in omega arith

  bytes_size : length (file_bytes (sights q) sys_dir) ≡ 510
  bytes_size = let m = many in let e = (last_page_ends_the_file q sys_dir 0 at (none_before_the_first q sys_dir) here (inl (omega arith))).size in omega arith

  words_are : dir_words q sys_dir ≡ take 255 value
  words_are =
      let slice : words_at q at ≡ take 256 (drop (256 * 0) (dir_words q sys_dir)) = page_words_are_a_slice q sys_dir 0 at (none_before_the_first q sys_dir) here in
      let m : length (bytes_at q at) / 2 ≡ 255 = ap (λ n. n / 2) many in
      let left : words_at q at ≡ take 255 value = (λ i. take (m i) (sector_at q at).value) ∙ ap (λ (s : Sector). take 255 s.value) c.here in
      let l = length-words_of (file_bytes (sights q) sys_dir) in
      let s = bytes_size in
      sym (take_all 256 (dir_words q sys_dir) (omega arith)) ∙ sym slice ∙ left

  slots_are : slots (dir_words q sys_dir) ≡ space 255 ∷ []
  slots_are =
      let l : length (take 255 value) ≡ 255 = (let t = length-take 255 value in omega arith) in
      let w : word (take 255 value) 0 ≡ 255 = word_of_front value 254 ∙ says in
      ap slots words_are ∙ one_slot (take 255 value) l w

  reaches : SlotsReachEnd (file_bytes (sights q) sys_dir)
  reaches =
      let s = bytes_size in
      let l = length-words_of (file_bytes (sights q) sys_dir) in
      let a : all_words (slots (dir_words q sys_dir)) ≡ 255 = ap all_words slots_are in
      record {
        even = even_by 255 (file_bytes (sights q) sys_dir) (omega arith);
        items = slots (dir_words q sys_dir);
        reads = (reads_to_the_end (dir_words q sys_dir)).1 (omega arith);
      }

  -- ---- the leader page
  still_free : is_free_at q 1 ≡ true
  still_free = c.frees 1 (λ same. other (sym same)) ∙ first

  d : ComesToHold 1 lead_page later_label later_value q r
  d = (claim_takes_at_the_label q 1 lead_page later_label later_value 3 still_free leads_it).taken (omega arith)

  q_others : (f : Fid) (n : ℕ) → (f ≡ sys_dir → n ≡ 1 → ⊥) → place (sights q) f n ≡ place (sights p) f n
  q_others = claimed_others p q at data_page (tag label).bytes value is lacks c.shown

  q_lacks : place (sights q) sys_dir 0 ≡ None
  q_lacks = q_others sys_dir 0 (λ x y. omega arith) ∙ no_root_page p used dead 0

  r_others : (f : Fid) (n : ℕ) → (f ≡ sys_dir → n ≡ 0 → ⊥) → place (sights r) f n ≡ place (sights q) f n
  r_others = claimed_others q r 1 lead_page (tag later_label).bytes later_value still_free q_lacks d.shown

  r_here : place (sights r) sys_dir 0 ≡ Some 1
  r_here = claimed_place q r 1 lead_page (tag later_label).bytes later_value still_free q_lacks d.shown

  q_aside : (k : ℕ) → k ≢ at → get_or (sights q) k hidden ≡ get_or (sights p) k hidden
  q_aside = claimed_aside p q at data_page (tag label).bytes value is lacks c.shown

  r_aside : (k : ℕ) → k ≢ 1 → get_or (sights r) k hidden ≡ get_or (sights q) k hidden
  r_aside = claimed_aside q r 1 lead_page (tag later_label).bytes later_value still_free q_lacks d.shown

  aside : (k : ℕ) → k ≢ 1 → k ≢ at → get_or (sights r) k hidden ≡ get_or (sights p) k hidden
  aside k a b = r_aside k a ∙ q_aside k b

  -- other files are as they were
  other_places : (f : Fid) (n : ℕ) → is_fid f sys_dir ≡ false → place (sights r) f n ≡ place (sights p) f n
  other_places f n e = r_others f n (λ same _. not_root f e same) ∙ q_others f n (λ same _. not_root f e same)

  other_lives : (f : Fid) → is_fid f sys_dir ≡ false → lives (sights r) f ≡ lives (sights p) f
  other_lives f e = lives_by_place (sights p) (sights r) f (other_places f 0 e)

  other_bytes : (f : Fid) → is_fid f sys_dir ≡ false → file_bytes (sights r) f ≡ file_bytes (sights p) f
  other_bytes f e = bytes_by_places (sights p) (sights r) f (λ n. other_places f (suc n) e) (λ n k placed.
      let h = (page_of_place (sights p) f n k placed).shows hidden in
      aside k (λ same. (let x = ap (λ j. get_or (sights p) j hidden) same in let y = free_sight p 1 first in cc)) (λ same. (let x = ap (λ j. get_or (sights p) j hidden) same in let y = free_sight p at is in cc)))

  root_bytes : file_bytes (sights r) sys_dir ≡ file_bytes (sights q) sys_dir
  root_bytes = bytes_by_places (sights q) (sights r) sys_dir (λ n. r_others sys_dir (suc n) (λ x y. omega arith)) (λ n k placed.
      let h = (page_of_place (sights q) sys_dir n k placed).shows hidden in
      r_aside k (λ same. (let x = ap (λ j. get_or (sights q) j hidden) same in let y = free_sight q 1 still_free in cc)))

  root_lives : lives (sights r) sys_dir ≡ true
  root_lives = lives_place (sights r) sys_dir ∙ ap is_some r_here

  root_counts : (n : ℕ) → n ≤ 1 → (l : Option Leader) → leader (sights r) sys_dir ≡ l → counts p.shape (sights r) sys_dir n ≡ true
  root_counts n few None e = absurd (let x : false ≡ true = sym (ap is_some e) ∙ root_lives in cc)
  root_counts n few (Some l) e =
      ap (is_within p.shape sys_dir n) (get_by (sights r) sys_dir l (file_bytes (sights q) sys_dir) e root_bytes)
      ∙ ap (λ is. nat_le n (suc (all_words is * 2 / 512))) slots_are
      ∙ le-leb n 1 few

  used_after : (i : ℕ) → IsUsed p.shape (sights r) i
  used_after i good = elim (cases_eq i 1) [
    | inl same ↦ inr
        (ap (λ k. in_use p.shape (sights r) (k, get_or (sights r) k hidden)) same ∙ carried_in_use r 1 lead_page d.page_here
        ∙ (λ j. root_counts 0 (omega arith) (leader (sights r) sys_dir) refl j && is_place 1 (r_here j)))
    | inr apart ↦ elim (cases_eq i at) [
      | inl same ↦ inr
          (ap (λ k. in_use p.shape (sights r) (k, get_or (sights r) k hidden)) same ∙ carried_in_use r at data_page (d.pages at other ∙ c.page_here)
          ∙ (λ j. root_counts 1 (omega arith) (leader (sights r) sys_dir) refl j && is_place at ((r_others sys_dir 1 (λ x y. omega arith) ∙ here) j))
          ∙ eq-eqb at at refl)
      | inr apart_too ↦ by apart apart_too (used.used i (ap is_good (sym (aside i apart apart_too)) ∙ good))
    ]
  ]
    where
      by : i ≢ 1 → i ≢ at → (get_or (sights p) i hidden ≡ free) ⊎ (in_use p.shape (sights p) (i, get_or (sights p) i hidden) ≡ true) → (get_or (sights r) i hidden ≡ free) ⊎ (in_use p.shape (sights r) (i, get_or (sights r) i hidden) ≡ true)
      by a b (inl e) = inl (aside i a b ∙ e)
      by a b (inr e) = inr (ap (λ x. in_use p.shape (sights r) (i, x)) (aside i a b) ∙ use_alike p.shape (sights p) (sights r) i (get_or (sights p) i hidden) (λ f n. test f n (is_fid f sys_dir) refl) e)
        where
          test : (f : Fid) (n : ℕ) (b : Bool) → is_fid f sys_dir ≡ b → (counts p.shape (sights p) f n && is_place i (place (sights p) f n)) ≡ true → (counts p.shape (sights r) f n && is_place i (place (sights r) f n)) ≡ true
          test f n false x is = (λ j. counts_alike p.shape (sights p) (sights r) f n (other_lives f x) (other_bytes f x) j && is_place i (other_places f n x j)) ∙ is
          test f n true x is =
              let none : counts p.shape (sights p) f n ≡ false = ap (λ g. counts p.shape (sights p) g n) (same_fid f sys_dir x) ∙ dead_root p used dead n in
              absurd (let y : true ≡ false = sym is ∙ ap (λ b. b && is_place i (place (sights p) f n)) none in cc)

  made : Rooted r
  made = record {
    used = record {
      ended = record {
        cleared = claimed_cleared q r 1 lead_page (tag later_label).bytes later_value still_free q_lacks d.shown (claimed_cleared p q at data_page (tag label).bytes value is lacks c.shown used.ended.cleared);
        directories = λ e live dir. ends e live dir (is_fid e sys_dir) refl;
      };
      used = used_after;
    };
    root = (leader_of sys_dir later_value, is_readable (leader_words later_value), claimed_here q r 1 lead_page (tag later_label).bytes later_value still_free q_lacks d.shown);
  }
    where
      ends : (e : Fid) → lives (sights r) e ≡ true → is_directory e ≡ true → (b : Bool) → is_fid e sys_dir ≡ b → SlotsReachEnd (file_bytes (sights r) e)
      ends e live dir false x = subst SlotsReachEnd (sym (other_bytes e x)) (used.ended.directories e (sym (other_lives e x) ∙ live) dir)
      ends e live dir true x = subst (λ g. SlotsReachEnd (file_bytes (sights r) g)) (sym (same_fid e sys_dir x)) (subst SlotsReachEnd (sym root_bytes) reaches)

pub root_is_made : RootIsMade
root_is_made p at label value later_label later_value used dead first is other names count size says leads_it = record {
  slots = slots_are p at label value later_label later_value used dead first is other names count size says leads_it;
  rooted = made p at label value later_label later_value used dead first is other names count size says leads_it;
}
