-- A last page that was missing is claimed.
use Rattle.std.proofs.Common.{[], ◌/◌, ◌<◌, ◌∙◌, ◌≡◌, ◌≢◌, ◌⊎◌, Bool, List, None, Option, Some, ap, arith, eq-eqb, false, get_or, inl, inr, le-leb, length, refl, set, subst, suc, sym, take, true, zero, ℕ}
use Rattle.std.proofs.Math.ListN.{length-set}
use Rattle.std.proofs.lemmas.Bool.{cases_eq}
use Rattle.std.proofs.lemmas.List.{get_or-set_other, get_or-set_same}
use Rattle.std.specs.Option.{is_some}
use Rattle.std.specs.Prelude.{◌&&◌}
use Rattle.laws_room.specs.alto_words.specs.declared.fid.Fid.{Fid}
use Rattle.laws_room.specs.alto_words.specs.Fid.{is_fid, disk_descriptor}
use Rattle.laws_room.specs.disk_records.specs.Commands.{claim_writes}
use Rattle.laws_room.specs.disk_records.specs.Labels.{page_of, tag}
use Rattle.laws_room.specs.disk_records.specs.Packs.{Pack, after, is_free_at}
use Rattle.laws_room.specs.disk_records.specs.declared.records.Page.{Page}
use Rattle.laws_room.specs.pack_model.specs.reading.Bytes.{bytes_of}
use Rattle.laws_room.specs.pack_model.specs.reading.Files.{carries_page, file_bytes, joined, lives, most_pages, page, place}
use Rattle.laws_room.specs.pack_model.specs.reading.Sights.{Sight, page_sight, sights}
use Rattle.laws_room.specs.pack_model.specs.reading.Sights.Sight.{free, hidden, holds, stray}
use Rattle.laws_room.specs.pack_model.specs.reading.Slots.{SlotsReachEnd}
use Rattle.laws_room.specs.pack_model.specs.states.InUse.{counts, in_use, is_good, is_place}
use Rattle.laws_room.specs.pack_model.specs.states.Sentences.{EachOnce, IsUsed}
use Rattle.laws_room.specs.pack_laws.proofs.guards.Laws.{claim_takes_at_the_label}
use Rattle.laws_room.specs.pack_laws.proofs.Joining.{continue, joined-suc}
use Rattle.laws_room.specs.pack_laws.proofs.Keys.{is_fid-itself, same_fid}
use Rattle.laws_room.specs.pack_laws.proofs.Placing.{both_test, carries-holds, no_page, page_of_place, place_from, place_none, place_same}
use Rattle.laws_room.specs.pack_laws.specs.GuardLaws.{ComesToHold}
use Rattle.laws_room.specs.laws_record.proofs.Carried.{carries_within}
use Rattle.laws_room.specs.laws_record.proofs.Recording.{free_sight, free_within}
use Rattle.laws_mend.proofs.inside.Alike.{counts_alike}
use Rattle.laws_mend.proofs.inside.Availing.{none_free, same_in_use}
use Rattle.laws_mend.proofs.inside.Counted.{counts_end, page_in_use}
use Rattle.laws_mend.proofs.inside.Filed.{bytes_by_places, lives_by_place, page_by_place}
use Rattle.laws_mend.specs.PartLaws.{LastClaimLeaves}
use Rattle.laws_mend.specs.Parts.{Cleared, Rooted}

-- ---- a page with no bytes
-- it ends a file where the file ended
joined_empty : (fuel : ℕ) (old new : ℕ → Option (List ℕ)) (k : ℕ) → old k ≡ None → new k ≡ Some [] → ((j : ℕ) → j ≢ k → new j ≡ old j) → joined fuel new ≡ joined fuel old
unfolding joined
joined_empty zero old new k none empty others = refl
joined_empty (suc fuel) old new zero none empty others =
    joined-suc fuel new ∙ ap (λ x. continue x (joined fuel (λ n. new (suc n)))) empty
    ∙ sym (joined-suc fuel old ∙ ap (λ x. continue x (joined fuel (λ n. old (suc n)))) none)
joined_empty (suc fuel) old new (suc k) none empty others =
    let first : new 0 ≡ old 0 = others 0 (omega arith) in
    let rest : joined fuel (λ n. new (suc n)) ≡ joined fuel (λ n. old (suc n)) = joined_empty fuel (λ n. old (suc n)) (λ n. new (suc n)) k none empty (λ j apart. others (suc j) (omega arith)) in
    joined-suc fuel new ∙ (λ i. continue (first i) (rest i)) ∙ sym (joined-suc fuel old)

bytes_empty : (ss tt : List Sight) (f : Fid) (k : ℕ) → page ss f k ≡ None → page tt f k ≡ Some [] → ((j : ℕ) → j ≢ k → page tt f j ≡ page ss f j) → file_bytes tt f ≡ file_bytes ss f
unfolding file_bytes
bytes_empty ss tt f k none empty others = joined_empty most_pages (page ss f) (page tt f) k none empty others

-- ---- one more page
-- a sector that shows a page carries it alone
alone_in : (g f : Fid) (m n c : ℕ) (v : List ℕ) → carries_page g m (page_sight f n c v) ≡ true → (g ≡ f) × (m ≡ n)
alone_in g f zero zero c v e = (same_fid g f e, refl)
alone_in g f zero (suc n) c v e = absurd cc
alone_in g f (suc m) zero c v e = absurd cc
alone_in g f (suc m) (suc n) c v e = let r = both_test g f m n e in (sym r.0, ap suc (sym r.1))

itself_in : (f : Fid) (n c : ℕ) (v : List ℕ) → carries_page f n (page_sight f n c v) ≡ true
itself_in f zero c v = is_fid-itself f
itself_in f (suc n) c v = carries-holds f n (take c (bytes_of v))

module _ (p q : Pack) (at : ℕ) (page_is : Page) (count : ℕ) (value : List ℕ) (is : is_free_at p at ≡ true) (lacks : place (sights p) page_is.fid page_is.number ≡ None)
    (shown : sights q ≡ set (sights p) at (page_sight page_is.fid page_is.number count value)) where
  abbrev s : Sight
  s = page_sight page_is.fid page_is.number count value

  pub claimed_aside : (k : ℕ) → k ≢ at → get_or (sights q) k hidden ≡ get_or (sights p) k hidden
  claimed_aside k other = ap (λ us. get_or us k hidden) shown ∙ get_or-set_other (sights p) at k s hidden other

  pub claimed_here : get_or (sights q) at hidden ≡ s
  claimed_here = ap (λ us. get_or us at hidden) shown ∙ get_or-set_same (sights p) at s hidden (free_within p at is)

  -- it is the page's place
  pub claimed_place : place (sights q) page_is.fid page_is.number ≡ Some at
  claimed_place = ap (λ us. place us page_is.fid page_is.number) shown ∙ place_from (set (sights p) at s) page_is.fid page_is.number at (record {
    within = subst (λ k. at < k) (sym (length-set (sights p) at s)) (free_within p at is);
    carries = λ d. ap (carries_page page_is.fid page_is.number) (get_or-set_same (sights p) at s d (free_within p at is)) ∙ itself_in page_is.fid page_is.number count value;
    lowest = λ j d low. ap (carries_page page_is.fid page_is.number) (get_or-set_other (sights p) at j s d (omega arith)) ∙ place_none (sights p) page_is.fid page_is.number j d lacks (let w = free_within p at is in omega arith);
  })

  -- every other page has its own
  pub claimed_others : (f : Fid) (n : ℕ) → (f ≡ page_is.fid → n ≡ page_is.number → ⊥) → place (sights q) f n ≡ place (sights p) f n
  claimed_others f n apart = ap (λ us. place us f n) shown ∙ place_same (sights p) at s f n (free_within p at is) (bare (carries_page f n s) refl ∙ sym (ap (carries_page f n) (free_sight p at is) ∙ none_free f n))
    where
      bare : (b : Bool) → carries_page f n s ≡ b → carries_page f n s ≡ false
      bare false e = e
      bare true e = let r = alone_in f page_is.fid n page_is.number count value e in absurd (apart r.0 r.1)

  -- no page comes to be carried twice
  pub claimed_once : EachOnce (sights p) → EachOnce (sights q)
  claimed_once alone f n i j a b = elim (cases_eq i at) [
    | inl x ↦ elim (cases_eq j at) [
      | inl y ↦ x ∙ sym y
      | inr y ↦ absurd (clash j y b (ap (λ k. carries_page f n (get_or (sights q) k hidden)) (sym x) ∙ a))
    ]
    | inr x ↦ elim (cases_eq j at) [
      | inl y ↦ absurd (clash i x a (ap (λ k. carries_page f n (get_or (sights q) k hidden)) (sym y) ∙ b))
      | inr y ↦ alone f n i j (sym (ap (carries_page f n) (claimed_aside i x)) ∙ a) (sym (ap (carries_page f n) (claimed_aside j y)) ∙ b)
    ]
  ]
    where
      clash : (k : ℕ) → k ≢ at → carries_page f n (get_or (sights q) k hidden) ≡ true → carries_page f n (get_or (sights q) at hidden) ≡ true → ⊥
      clash k other there here =
          let r = alone_in f page_is.fid n page_is.number count value (sym (ap (carries_page f n) claimed_here) ∙ here) in
          let old : carries_page f n (get_or (sights p) k hidden) ≡ true = sym (ap (carries_page f n) (claimed_aside k other)) ∙ there in
          let none : place (sights p) f n ≡ None = (λ i. place (sights p) (r.0 i) (r.1 i)) ∙ lacks in
          let c : true ≡ false = sym old ∙ place_none (sights p) f n k hidden none (carries_within (sights p) f n k old) in cc

  pub claimed_cleared : Cleared p → Cleared q
  claimed_cleared c = record {
    once = claimed_once c.once;
    no_stray = λ i e. elim (cases_eq i at) [
      | inl same ↦ no_stray_page page_is.number (sym claimed_here ∙ ap (λ k. get_or (sights q) k hidden) (sym same) ∙ e)
      | inr other ↦ c.no_stray i (sym (claimed_aside i other) ∙ e)
    ];
  }
    where
      no_stray_page : (n : ℕ) → page_sight page_is.fid n count value ≡ stray → ⊥
      no_stray_page zero e = cc
      no_stray_page (suc n) e = cc

  -- a sector that was free or in use is so still, if the same pages count
  pub claimed_used : ((f : Fid) (n : ℕ) → counts p.shape (sights q) f n ≡ counts p.shape (sights p) f n) → (i : ℕ) → i ≢ at → IsUsed p.shape (sights p) i → IsUsed p.shape (sights q) i
  claimed_used counted i other was good = by (was (ap is_good (sym (claimed_aside i other)) ∙ good))
    where
      apart : (f : Fid) (n : ℕ) → carries_page f n (get_or (sights p) i hidden) ≡ true → f ≡ page_is.fid → n ≡ page_is.number → ⊥
      apart f n has x y =
          let none : place (sights p) f n ≡ None = (λ k. place (sights p) (x k) (y k)) ∙ lacks in
          let c : true ≡ false = sym has ∙ place_none (sights p) f n i hidden none (carries_within (sights p) f n i has) in cc

      by : (get_or (sights p) i hidden ≡ free) ⊎ (in_use p.shape (sights p) (i, get_or (sights p) i hidden) ≡ true) → (get_or (sights q) i hidden ≡ free) ⊎ (in_use p.shape (sights q) (i, get_or (sights q) i hidden) ≡ true)
      by (inl e) = inl (claimed_aside i other ∙ e)
      by (inr e) = inr
          (ap (λ x. in_use p.shape (sights q) (i, x)) (claimed_aside i other)
          ∙ same_in_use p.shape (sights p) (sights q) i (get_or (sights p) i hidden) counted (λ f n has. ap (is_place i) (claimed_others f n (apart f n has)))
          ∙ e)

-- ---- the law
module _ (p : Pack) (at : ℕ) (page_is : Page) (label value : List ℕ) (is : is_free_at p at ≡ true) (aside_root : at ≢ 1) (names : page_of label ≡ Some page_is) (empty : (tag label).bytes ≡ 0)
    (number : page_is.number ≡ suc (length (file_bytes (sights p) page_is.fid) / 512)) (lacks : place (sights p) page_is.fid page_is.number ≡ None) where
  abbrev after_it : Pack
  after_it = after p (claim_writes at label value)

  shown_after : sights after_it ≡ set (sights p) at (page_sight page_is.fid page_is.number (tag label).bytes value)
  shown_after = (let c : ComesToHold at page_is label value p after_it = (claim_takes_at_the_label p at page_is label value 3 is names).taken (omega arith) in c.shown)

  abbrev last : ℕ
  last = length (file_bytes (sights p) page_is.fid) / 512

  others_after : (f : Fid) (n : ℕ) → (f ≡ page_is.fid → n ≡ page_is.number → ⊥) → place (sights after_it) f n ≡ place (sights p) f n
  others_after = claimed_others p after_it at page_is (tag label).bytes value is lacks shown_after

  placed_after : place (sights after_it) page_is.fid page_is.number ≡ Some at
  placed_after = claimed_place p after_it at page_is (tag label).bytes value is lacks shown_after

  aside_after : (k : ℕ) → k ≢ at → get_or (sights after_it) k hidden ≡ get_or (sights p) k hidden
  aside_after = claimed_aside p after_it at page_is (tag label).bytes value is lacks shown_after

  -- a page that had a place has it elsewhere
  elsewhere : (f : Fid) (n k : ℕ) → place (sights p) f (suc n) ≡ Some k → k ≢ at
  elsewhere f n k e same =
      let h = (page_of_place (sights p) f n k e).shows hidden in
      let c : holds f n (page_of_place (sights p) f n k e).bytes ≡ free = sym h ∙ ap (λ j. get_or (sights p) j hidden) same ∙ free_sight p at is in cc

  lives_after : (f : Fid) → lives (sights after_it) f ≡ lives (sights p) f
  lives_after f = lives_by_place (sights p) (sights after_it) f (others_after f 0 (λ same zero_is. (let z = number in omega arith)))

  bytes_after : (f : Fid) → file_bytes (sights after_it) f ≡ file_bytes (sights p) f
  bytes_after f = by (is_fid f page_is.fid) refl
    where
      by : (b : Bool) → is_fid f page_is.fid ≡ b → file_bytes (sights after_it) f ≡ file_bytes (sights p) f
      by false e =
          let apart : f ≡ page_is.fid → ⊥ = λ same. let c : true ≡ false = sym (is_fid-itself page_is.fid) ∙ ap (λ g. is_fid g page_is.fid) (sym same) ∙ e in cc in
          bytes_by_places (sights p) (sights after_it) f (λ n. others_after f (suc n) (λ same _. apart same)) (λ n k placed. aside_after k (elsewhere f n k placed))
      by true e =
          let same : f ≡ page_is.fid = same_fid f page_is.fid e in
          let here : place (sights after_it) f (suc last) ≡ Some at = (λ i. place (sights after_it) (same i) (sym number i)) ∙ placed_after in
          let old : place (sights p) f (suc last) ≡ None = (λ i. place (sights p) (same i) (sym number i)) ∙ lacks in
          let h = page_of_place (sights after_it) f last at here in
          let shows : get_or (sights after_it) at hidden ≡ holds page_is.fid last [] =
          claimed_here p after_it at page_is (tag label).bytes value is lacks shown_after ∙ (λ i. page_sight page_is.fid (number i) (empty i) value) in
          let none : holds f last h.bytes ≡ holds page_is.fid last [] = sym (h.shows hidden) ∙ shows in
          let bytes : h.bytes ≡ [] = cc in
          bytes_empty (sights p) (sights after_it) f last (no_page (sights p) f last old) (h.page_is ∙ ap Some bytes)
          (λ j apart. page_by_place (sights p) (sights after_it) f j (others_after f (suc j) (λ x y. apart (let z = y in let w = number in omega arith))) (λ k placed. aside_after k (elsewhere f j k placed)))

  counts_after : (f : Fid) (n : ℕ) → counts p.shape (sights after_it) f n ≡ counts p.shape (sights p) f n
  counts_after f n = counts_alike p.shape (sights p) (sights after_it) f n (lives_after f) (bytes_after f)

  rooted_after : is_fid page_is.fid disk_descriptor ≡ false → lives (sights p) page_is.fid ≡ true → Rooted p → Rooted after_it
  rooted_after other live r = record {
    used = record {
      ended = record {
        cleared = claimed_cleared p after_it at page_is (tag label).bytes value is lacks shown_after r.used.ended.cleared;
        directories = λ d lived dir. subst SlotsReachEnd (sym (bytes_after d)) (r.used.ended.directories d (sym (lives_after d) ∙ lived) dir);
      };
      used = each;
    };
    root = (r.root.0, r.root.1, aside_after 1 (λ same. aside_root (sym same)) ∙ r.root.2);
  }
    where
      each : (i : ℕ) → IsUsed p.shape (sights after_it) i
      each i = elim (cases_eq i at) as (λ _. IsUsed p.shape (sights after_it) i) [
        | inr apart ↦ claimed_used p after_it at page_is (tag label).bytes value is lacks shown_after counts_after i apart (r.used.used i)
        | inl same ↦ λ good. inr
            (ap (λ k. in_use p.shape (sights after_it) (k, get_or (sights after_it) k hidden)) same
            ∙ ap (λ x. in_use p.shape (sights after_it) (at, x)) (claimed_here p after_it at page_is (tag label).bytes value is lacks shown_after)
            ∙ page_in_use p.shape (sights after_it) at page_is.fid page_is.number (tag label).bytes value
            ∙ (λ i. counts_after page_is.fid page_is.number i && is_place at (placed_after i))
            ∙ (λ i. (counts_end p r.used.ended page_is.fid live other page_is.number ∙ le-leb page_is.number (suc (length (file_bytes (sights p) page_is.fid) / 512)) (omega arith)) i && eq-eqb at at refl i))
      ]

pub last_claim_leaves : LastClaimLeaves
last_claim_leaves p at page_is label value is aside_root names other empty number lacks = record {
  here = placed_after p at page_is label value is aside_root names empty number lacks;
  others = others_after p at page_is label value is aside_root names empty number lacks;
  lives_are = lives_after p at page_is label value is aside_root names empty number lacks;
  bytes_are = bytes_after p at page_is label value is aside_root names empty number lacks;
  last_page = ap is_some
      (ap (λ b. place (sights (after_it p at page_is label value is aside_root names empty number lacks)) page_is.fid (suc (length b / 512))) (bytes_after p at page_is label value is aside_root names empty number lacks page_is.fid)
      ∙ ap (place (sights (after_it p at page_is label value is aside_root names empty number lacks)) page_is.fid) (sym number)
      ∙ placed_after p at page_is label value is aside_root names empty number lacks);
  rooted = rooted_after p at page_is label value is aside_root names empty number lacks other;
}
