-- The hints of a new file are handy.
use Rattle.std.proofs.Common.{List, Some, [], ap, arith, get_or, inl, inr, length, refl, suc, sym, true, zero, ℕ, ◌%◌, ◌++◌, ◌+◌, ◌-◌, ◌/◌, ◌∙◌, ◌∷◌, ◌≡◌}
use Rattle.std.proofs.lemmas.List.{get_or-append_right, length-append, length-replicate}
use Rattle.std.specs.Prelude.{replicate}
use Rattle.laws_hint.specs.alto_words.proofs.Versions.{is_stored_name-fits}
use Rattle.laws_hint.specs.alto_words.specs.Names.{is_stored_name}
use Rattle.laws_hint.specs.alto_words.specs.declared.fid.Fid.{Fid}
use Rattle.laws_hint.specs.disk_records.specs.Packs.{Pack, after, sector_at}
use Rattle.laws_hint.specs.disk_records.specs.Words.{word}
use Rattle.laws_hint.specs.disk_records.specs.declared.records.Event.TheVariants.{Wrote}
use Rattle.laws_hint.specs.disk_records.specs.declared.records.Event.{Event}
use Rattle.laws_hint.specs.disk_records.specs.declared.records.Page.{Page}
use Rattle.laws_hint.specs.laws_operation.proofs.make.Laws.{make_places_its_pages, make_words_fit}
use Rattle.laws_hint.specs.laws_operation.specs.FileWords.{CanMake}
use Rattle.laws_hint.specs.laws_operation.specs.PlaceLaws.{HasTwoPages}
use Rattle.laws_hint.specs.pack_laws.proofs.Bytes.{length-words_of}
use Rattle.laws_hint.specs.pack_laws.proofs.Guarding.{free_parts, here_written, usable_within}
use Rattle.laws_hint.specs.pack_model.specs.hints.Handy.{CachedAt, Handy, IsRightOrIdle, last_at_word, last_number_word, leader_word, row_word}
use Rattle.laws_hint.specs.pack_model.specs.operations.Commands.{Claim, first_page_claim, leader_claim}
use Rattle.laws_hint.specs.pack_model.specs.operations.Operations.{make_writes}
use Rattle.laws_hint.specs.pack_model.specs.operations.PageWords.{filled, last_page_hints, leader_value, name_words, new_bytes, new_leader_value}
use Rattle.laws_hint.specs.pack_model.specs.operations.Step.{new_leader}
use Rattle.laws_hint.specs.pack_model.specs.reading.Files.{place}
use Rattle.laws_hint.specs.pack_model.specs.reading.Leaders.{Leader}
use Rattle.laws_hint.specs.pack_model.specs.reading.Sights.{sights}
use Rattle.laws_hint.specs.pack_model.specs.states.Whole.{Tidy, Whole}
use Rattle.laws_midway.proofs.inside.Looping.{as_many}
use Rattle.laws_midway.specs.MadeLaws.{HandyAfterMake, ListsNewPages}

-- ---- the words of a new leader
name_size : (name : List ℕ) → is_stored_name name ≡ true → length (name_words name) ≡ 20
name_size name stored =
    let short = is_stored_name-fits name stored in
    let long : length (filled 40 (length name ∷ name)) ≡ 40 = length-append (length name ∷ name) (replicate (40 - length (length name ∷ name)) 0) ∙ (let r = length-replicate {A = ℕ} (40 - length (length name ∷ name)) 0 in omega (arith, r, short)) in
    let half = length-words_of (filled 40 (length name ∷ name)) in
    omega (arith, long, half)

-- word 246 + k is word k of the hints
hint_word : (l : Leader) (hints : List ℕ) (k : ℕ) → is_stored_name l.name ≡ true → length l.rest ≡ 220 → word (leader_value l hints) (246 + k) ≡ word hints k
hint_word l hints k stored rest =
    let front : List ℕ = l.created / 65536 ∷ l.created % 65536 ∷ l.written / 65536 ∷ l.written % 65536 ∷ l.read / 65536 ∷ l.read % 65536 ∷ [] in
    let a : 246 + k - 6 ≡ 240 + k = omega arith in
    let b : 240 + k - 240 ≡ k = omega arith in
    let size : length (name_words l.name ++ l.rest) ≡ 240 = length-append (name_words l.name) l.rest ∙ (let n = name_size l.name stored in omega (arith, n, rest)) in
    get_or-append_right front ((name_words l.name ++ l.rest) ++ hints) 6 (246 + k) 0 refl (omega arith)
    ∙ ap (λ j. get_or ((name_words l.name ++ l.rest) ++ hints) j 0) a
    ∙ get_or-append_right (name_words l.name ++ l.rest) hints 240 (240 + k) 0 size (omega arith)
    ∙ ap (λ j. get_or hints j 0) b

-- ---- a new file
module _ (p : Pack) (f : Fid) (name : List ℕ) (moment leader_at page_at : ℕ) (cache : List CachedAt) (whole : Whole p) (tidy : Tidy p) (h : CanMake p f name leader_at page_at) where
  abbrev page : Claim
  page = first_page_claim p.shape f leader_at page_at

  abbrev head : Claim
  head = leader_claim p.shape f name moment leader_at page_at

  abbrev q : Pack
  q = after p (make_writes page head)

  places : HasTwoPages (after p (make_writes page head)) f leader_at page_at
  places = make_places_its_pages p f name moment page head whole tidy (make_words_fit p f name moment leader_at page_at h)

  -- its leader's value is the last that is written
  value_there : (sector_at (after p (make_writes page head)) leader_at).value ≡ new_leader_value f name moment page_at
  value_there =
      let first : List Event = Wrote page_at 2 page.value ∷ Wrote page_at 1 page.label ∷ Wrote page_at 2 page.value ∷ Wrote leader_at 2 head.value ∷ Wrote leader_at 1 head.label ∷ [] in
      let long = as_many first p.sectors in
      let inside = usable_within p leader_at (free_parts p leader_at h.leader_free).0 in
      ap (λ s. s.value) (here_written (after p first) leader_at 2 head.value (omega (arith, long, inside)))

  word_is : (k : ℕ) → leader_word (after p (make_writes page head)) leader_at (246 + k) ≡ word (last_page_hints page_at 1 (new_bytes f)) k
  word_is k = ap (λ v. word v (246 + k)) value_there ∙ hint_word (new_leader name moment) (last_page_hints page_at 1 (new_bytes f)) k h.stored (length-replicate {A = ℕ} 220 0)

  -- the leader is there
  leads : (at : ℕ) → place (sights (after p (make_writes page head))) f 0 ≡ Some at → leader_at ≡ at
  leads at e = let both : Some leader_at ≡ Some at = sym places.leader ∙ e in cc

  -- an address that the cache has is right, or there is no such page
  right : (x : Page) (at : ℕ) → (x.number ≡ 0 → at ≡ leader_at) × (x.number ≡ 1 → at ≡ page_at) → IsRightOrIdle (sights (after p (make_writes page head))) f x.number at
  right x at l = by x.number refl
    where
      by : (n : ℕ) → x.number ≡ n → IsRightOrIdle (sights (after p (make_writes page head))) f x.number at
      by zero e = inl (ap (place (sights (after p (make_writes page head))) f) e ∙ places.leader ∙ ap Some (sym (l.0 e)))
      by (suc zero) e = inl (ap (place (sights (after p (make_writes page head))) f) e ∙ places.page ∙ ap Some (sym (l.1 e)))
      by (suc (suc n)) e = inr (ap (place (sights (after p (make_writes page head))) f) e ∙ places.none (suc (suc n)) (omega arith))

  made_handy : ListsNewPages f leader_at page_at cache → Handy (after p (make_writes page head)) f cache
  made_handy lists = record {
    row = λ at e. inl (ap (λ i. leader_word (after p (make_writes page head)) i row_word) (sym (leads at e)) ∙ word_is 1);
    last = λ at e.
        let number : leader_word (after p (make_writes page head)) at last_number_word ≡ 1 = ap (λ i. leader_word (after p (make_writes page head)) i last_number_word) (sym (leads at e)) ∙ word_is 8 in
        let there : leader_word (after p (make_writes page head)) at last_at_word ≡ page_at = ap (λ i. leader_word (after p (make_writes page head)) i last_at_word) (sym (leads at e)) ∙ word_is 7 in
        inr (inl (ap (place (sights (after p (make_writes page head))) f) number ∙ places.page ∙ ap Some (sym there)));
    cached = λ i d low e. right (get_or cache i d).0 (get_or cache i d).1 (lists i d low e);
  }

pub handy_after_make : HandyAfterMake
handy_after_make p f name moment leader_at page_at cache whole tidy h lists = made_handy p f name moment leader_at page_at cache whole tidy h lists
