-- Packs that differ in hints alone: what their sectors show, the bytes of their files, and the slots of their directories.
use Rattle.std.proofs.Common.{◌%◌, ◌&&◌, ◌*◌, ◌+◌, ◌/◌, ◌<◌, ◌∙◌, ◌∷◌, ◌≡◌, Bool, List, [], ap, arith, cond, false, get_or, inl, inr, length, length-take, map, min, nat_lt, refl, subst, suc, sym, take, true, zero, ℕ}
use Rattle.std.proofs.lemmas.Bool.{cases_lt}
use Rattle.std.proofs.lemmas.List.{get_or_past}
use Rattle.pack_laws.specs.alto_words.specs.Fid.{disk_descriptor}
use Rattle.pack_laws.specs.alto_words.specs.declared.fid.Fid.{Fid}
use Rattle.pack_laws.specs.disk_records.specs.Addresses.{is_right_header}
use Rattle.pack_laws.specs.disk_records.specs.Labels.{Tag, in_range, is_free, tag}
use Rattle.pack_laws.specs.disk_records.specs.Packs.{Pack, is_usable, sector_at}
use Rattle.pack_laws.specs.disk_records.specs.Words.{word}
use Rattle.pack_laws.specs.pack_model.specs.reading.Bytes.{bytes_of, words_of}
use Rattle.pack_laws.specs.pack_model.specs.reading.Files.{place}
use Rattle.pack_laws.specs.pack_model.specs.hints.HintWords.{IsHintByte, SameButHints}
use Rattle.pack_laws.specs.pack_model.specs.hints.HintWords.IsHintByte.{of_entry, of_free, of_leader, of_map, past_count}
use Rattle.pack_laws.specs.pack_model.specs.reading.Leaders.{Leader, is_readable, leader_of, leader_words}
use Rattle.pack_laws.specs.pack_model.specs.reading.Sights.{page_sight, sight, sights, tag_sight}
use Rattle.pack_laws.specs.pack_model.specs.reading.Sights.Sight.{free, hidden, holds, leads, stray}
use Rattle.laws_record.proofs.Addressing.{take_same}
use Rattle.laws_record.proofs.inside.Alike.{OneAlike, carry_alike, place_all}
use Rattle.pack_laws.proofs.Bytes.{length-bytes_of}
use Rattle.pack_laws.proofs.Placing.{data_page_of_place}
use Rattle.pack_laws.proofs.Sighted.{length-sights, sights-get}
use Rattle.laws_record.proofs.Unseen.{hints_same, tag_after}

-- ---- one sector
-- two sights that differ in a value alone
one_by : (u r e : Bool) (g : Fid) (k c : ℕ) (a b : List ℕ) → length b ≡ length a
    → ((x : Bool) (l : Leader) → cond u (cond r (page_sight g k c a) (cond e free stray)) hidden ≡ leads g x l → leader_words b ≡ leader_words a)
    → OneAlike (cond u (cond r (page_sight g k c a) (cond e free stray)) hidden) (cond u (cond r (page_sight g k c b) (cond e free stray)) hidden)
one_by false r e g k c a b size hints = inl refl
one_by true false e g k c a b size hints = inl refl
one_by true true e g zero c a b size hints = inl (hints_same g 0 c b a refl (hints (is_readable (leader_words a)) (leader_of g a) refl))
one_by true true e g (suc k) c a b size hints = inr (record {
  fid = g;
  number = k;
  old = take c (bytes_of a);
  new = take c (bytes_of b);
  was = refl;
  now = refl;
  size = length-take c (bytes_of b) ∙ ap (min c) (length-bytes_of b ∙ ap (λ n. 2 * n) size ∙ sym (length-bytes_of a)) ∙ sym (length-take c (bytes_of a));
})

-- no byte before a leader's hints is a hint
leader_told : (p : Pack) (at k : ℕ) (g : Fid) (x : Bool) (l : Leader) → get_or (sights p) at hidden ≡ leads g x l → k < 492 → IsHintByte p at k → ⊥
leader_told p at k g x l is low (of_free e) = let clash : free ≡ leads g x l = sym e ∙ is in cc
leader_told p at k g x l is low (of_leader f bears high) = omega arith
leader_told p at k g x l is low (past_count f n bytes e high) = let clash : holds f n bytes ≡ leads g x l = sym e ∙ is in cc
leader_told p at k g x l is low (of_entry d w address word) = let h = data_page_of_place (sights p) d (w / 256) at word.sector in let clash : holds d (w / 256) h.bytes ≡ leads g x l = sym (h.shows hidden) ∙ is in cc
leader_told p at k g x l is low (of_map w map word) = let h = data_page_of_place (sights p) disk_descriptor (w / 256) at word.sector in let clash : holds disk_descriptor (w / 256) h.bytes ≡ leads g x l = sym (h.shows hidden) ∙ is in cc

-- the first words of a value, by its bytes
words_from : (n : ℕ) (words : List ℕ) → words_of (take (2 * n) (bytes_of words)) ≡ take n words
words_from zero words = refl
words_from (suc n) [] = let z : 2 * suc n ≡ suc (suc (2 * n)) = omega arith in ap (λ k. words_of (take k [])) z
words_from (suc n) (w ∷ words) =
    let z : 2 * suc n ≡ suc (suc (2 * n)) = omega arith in
    let e : w / 256 * 256 + w % 256 ≡ w = omega arith in
    ap (λ k. words_of (take k (bytes_of (w ∷ words)))) z ∙ (λ i. e i ∷ words_from n words i)

module _ (p q : Pack) (h : SameButHints p q) where
  -- as many bytes in a value
  pub value_size : (at : ℕ) → length (bytes_of (sector_at q at).value) ≡ length (bytes_of (sector_at p at).value)
  value_size at = length-bytes_of (sector_at q at).value ∙ ap (λ n. 2 * n) (h.sizes at) ∙ sym (length-bytes_of (sector_at p at).value)

  -- the same leader
  leader_words_same : (at : ℕ) (g : Fid) (x : Bool) (l : Leader) → get_or (sights p) at hidden ≡ leads g x l → leader_words (sector_at q at).value ≡ leader_words (sector_at p at).value
  leader_words_same at g x l is =
      sym (words_from 246 (sector_at q at).value)
      ∙ ap words_of (take_same (bytes_of (sector_at p at).value) (bytes_of (sector_at q at).value) 492 (value_size at) (λ k low m. elim (h.values at k) [ inl e ↦ e | inr hint ↦ absurd (leader_told p at k g x l is low hint) ]))
      ∙ words_from 246 (sector_at p at).value

  -- each sector shows the same, or the same page with as many bytes
  pub each_alike : (at : ℕ) → OneAlike (get_or (sights p) at hidden) (get_or (sights q) at hidden)
  unfolding sight
  each_alike at = elim (cases_lt at (length p.sectors)) [
    | inl l ↦ (let s = sector_at p at in
        let t = sector_at q at in
        let was : get_or (sights p) at hidden ≡ sight p.shape at s = sights-get p at hidden l in
        let now : get_or (sights q) at hidden ≡ sight q.shape at t = sights-get q at hidden (omega (arith, h.sectors)) in
        let g : Tag = tag s.label in
        let same : sight q.shape at t ≡ cond (is_usable p.shape at s) (cond (in_range g) (page_sight g.fid g.page g.bytes t.value) (cond (is_free g) free stray)) hidden =
        (λ i. cond (nat_lt 0 at && is_right_header (h.shape i) at (h.headers at i)) (tag_sight (tag_after s.label t.label (h.labels at) i) t.value) hidden) in
        let both = one_by (is_usable p.shape at s) (in_range g) (is_free g) g.fid g.page g.bytes s.value t.value (h.sizes at) (λ x l e. leader_words_same at g.fid x l (was ∙ e)) in
        subst (λ a. OneAlike a (get_or (sights q) at hidden)) (sym was) (subst (OneAlike (sight p.shape at s)) (sym (now ∙ same)) both))
    | inr past ↦ inl (get_or_past (sights q) at hidden (let n = length-sights q in omega (arith, h.sectors)) ∙ sym (get_or_past (sights p) at hidden (let n = length-sights p in omega arith)))
  ]

  -- as many sectors
  pub sights_size : length (sights q) ≡ length (sights p)
  sights_size = length-sights q ∙ h.sectors ∙ sym (length-sights p)

  -- each page in the same place
  pub place_alike : (f : Fid) (n : ℕ) → place (sights q) f n ≡ place (sights p) f n
  place_alike f n = place_all (sights p) (sights q) f n sights_size (λ i. carry_alike f n (get_or (sights p) i hidden) (get_or (sights q) i hidden) (each_alike i))
