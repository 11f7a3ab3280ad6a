-- Packs that differ in hints alone: the bytes of their files, the slots of their directories, and so what they mean.
use Rattle.std.proofs.Common.{◌%◌, ◌*◌, ◌+◌, ◌/◌, ◌<◌, ◌∙◌, ◌≡◌, ◌≢◌, ◌≤◌, ◌⊎◌, List, None, Option, Some, ap, arith, false, get_or, inl, inr, length, length-take, map, min, refl, subst, suc, sym, take, true, ℕ}
use Rattle.std.proofs.lemmas.Bool.{cases_lt}
use Rattle.std.proofs.lemmas.List.{get_or-take, get_or_past}
use Rattle.pack_laws.specs.alto_words.specs.Fid.{disk_descriptor, is_directory, is_fid}
use Rattle.pack_laws.specs.alto_words.specs.declared.fid.Fid.{Fid}
use Rattle.pack_laws.specs.disk_records.specs.Labels.{tag}
use Rattle.pack_laws.specs.disk_records.specs.Packs.{Pack, sector_at}
use Rattle.pack_laws.specs.disk_records.specs.Words.{word}
use Rattle.pack_laws.specs.pack_model.specs.reading.Bytes.{bytes_of, words_of}
use Rattle.pack_laws.specs.pack_model.specs.reading.Files.{file_bytes, most_pages, page, place}
use Rattle.pack_laws.specs.pack_model.specs.hints.HintWords.{IsAddressWord, IsHintByte, IsMapWord, SameButHints}
use Rattle.pack_laws.specs.pack_model.specs.hints.HintWords.IsHintByte.{of_entry, of_free, of_leader, of_map, past_count}
use Rattle.pack_laws.specs.pack_model.specs.reading.Model.{descriptor_words}
use Rattle.pack_laws.specs.pack_model.specs.reading.Sights.{sights}
use Rattle.pack_laws.specs.pack_model.specs.reading.Sights.Sight.{free, hidden, holds, leads}
use Rattle.pack_laws.specs.pack_model.specs.reading.Slots.{slots}
use Rattle.laws_record.proofs.Addressing.{IsLoose, LooseIn, loose_among, slots_kept}
use Rattle.laws_record.proofs.inside.Alike.{Alike}
use Rattle.laws_record.proofs.inside.AlikeWhole.{means_alike}
use Rattle.pack_laws.proofs.Bytes.{length-words_of}
use Rattle.laws_record.proofs.Differing.{DiffersIn, PageDiffersIn, differs_nowhere, joined_differs, words_differ}
use Rattle.laws_record.proofs.inside.Hinting.{each_alike, place_alike, sights_size, value_size}
use Rattle.pack_laws.proofs.Keys.{is_fid-itself}
use Rattle.pack_laws.proofs.Placing.{leader_of_place, no_page, one_page, page_of_place, short_pages}
use Rattle.pack_laws.proofs.Sighted.{length-sights, shows_page, sights-get}
use Rattle.laws_record.proofs.Unseen.{tag_after}
use Rattle.laws_record.specs.HintLaws.{HintsMeanNothing}

-- ---- where the bytes of a file may differ
-- a word that may: an entry's address, or one of DiskDescriptor's map
abbrev pub IsHintWord : Pack → Fid → ℕ → Type 0
IsHintWord p f w = IsAddressWord p f w ⊎ ((f ≡ disk_descriptor) × IsMapWord p w)

-- and its bytes
abbrev pub IsHintAt : Pack → Fid → ℕ → Type 0
IsHintAt p f k = IsHintWord p f (k / 2)

-- a word's byte stands in its page
byte_word : (n k w number : ℕ) → w / 256 + 1 ≡ suc n → number ≡ w % 256 → number ≡ k / 2 → k < 512 → (512 * n + k) / 2 ≡ w
byte_word n k w number page word half low = omega arith

-- a byte of a data page that is a hint is one of the file's
hint_at : (p : Pack) (f : Fid) (n at k : ℕ) (bytes : List ℕ) → place (sights p) f (suc n) ≡ Some at → get_or (sights p) at hidden ≡ holds f n bytes → k < length bytes → k < 512 → IsHintByte p at k → IsHintAt p f (512 * n + k)
hint_at p f n at k bytes bears is l low (of_free e) = absurd (let clash : free ≡ holds f n bytes = sym e ∙ is in cc)
hint_at p f n at k bytes bears is l low (of_leader g led high) =
    let x = leader_of_place (sights p) g at led in
    absurd (let clash : leads g x.readable x.lead ≡ holds f n bytes = sym (x.shows hidden) ∙ is in cc)
hint_at p f n at k bytes bears is l low (past_count g m other e high) =
    let both : holds g m other ≡ holds f n bytes = sym e ∙ is in
    let same : other ≡ bytes = cc in
    absurd (let size : length other ≡ length bytes = ap length same in omega arith)
hint_at p f n at k bytes bears is l low (of_entry d w address word) =
    let one = one_page (sights p) d f (w / 256 + 1) (suc n) at word.sector bears in
    let z : (512 * n + k) / 2 ≡ w = byte_word n k w (k / 2) one.1 word.within refl low in
    inl (subst (λ g. IsAddressWord p g ((512 * n + k) / 2)) one.0 (subst (IsAddressWord p d) (sym z) address))
hint_at p f n at k bytes bears is l low (of_map w map word) =
    let one = one_page (sights p) disk_descriptor f (w / 256 + 1) (suc n) at word.sector bears in
    let z : (512 * n + k) / 2 ≡ w = byte_word n k w (k / 2) one.1 word.within refl low in
    inr (sym one.0, subst (IsMapWord p) (sym z) map)

module _ (p q : Pack) (h : SameButHints p q) where
  -- the bytes of one sector that shows a page
  sector_differs : (f : Fid) (n at : ℕ) (a b : List ℕ) → at < length p.sectors → place (sights p) f (suc n) ≡ Some at → get_or (sights p) at hidden ≡ holds f n a → get_or (sights q) at hidden ≡ holds f n b → length a ≤ 512 → DiffersIn (IsHintAt p f) (512 * n) a b
  sector_differs f n at a b l bears was now short =
      let m : at < length q.sectors = omega (arith, h.sectors) in
      let x = shows_page p.shape at (sector_at p at) f n a (sym (sights-get p at hidden l) ∙ was) in
      let y = shows_page q.shape at (sector_at q at) f n b (sym (sights-get q at hidden m) ∙ now) in
      let count : (tag (sector_at q at).label).bytes ≡ (tag (sector_at p at).label).bytes = ap (λ t. t.bytes) (tag_after (sector_at p at).label (sector_at q at).label (h.labels at)) in
      let c : ℕ = (tag (sector_at p at).label).bytes in
      let vp : List ℕ = bytes_of (sector_at p at).value in
      let vq : List ℕ = bytes_of (sector_at q at).value in
      let b_is : b ≡ take c vq = y.bytes_are ∙ ap (λ k. take k vq) count in
      let size : length (take c vq) ≡ length (take c vp) = length-take c vq ∙ ap (min c) (value_size p q h at) ∙ sym (length-take c vp) in
      let sa : length a ≡ min c (length vp) = ap length x.bytes_are ∙ length-take c vp in
      record {
        size = ap length b_is ∙ size ∙ sym (ap length x.bytes_are);
        bytes = λ k low. elim (h.values at k) [
          | inl e ↦ inl (ap (λ r. get_or r k 0) b_is ∙ get_or-take c vq k 0 (omega arith) ∙ e ∙ sym (ap (λ r. get_or r k 0) x.bytes_are ∙ get_or-take c vp k 0 (omega arith)))
          | inr hint ↦ inr (hint_at p f n at k a bears was low (omega arith) hint)
        ];
      }

  -- so is each page
  page_differs : (f : Fid) (n : ℕ) → PageDiffersIn (IsHintAt p f) (512 * n) (page (sights p) f n) (page (sights q) f n)
  page_differs f n = by (place (sights p) f (suc n)) refl
    where
      same : place (sights q) f (suc n) ≡ place (sights p) f (suc n)
      same = place_alike p q h f (suc n)

      by : (r : Option ℕ) → place (sights p) f (suc n) ≡ r → PageDiffersIn (IsHintAt p f) (512 * n) (page (sights p) f n) (page (sights q) f n)
      by None e =
          let a = no_page (sights p) f n e in
          let b = no_page (sights q) f n (same ∙ e) in
          subst (λ r. PageDiffersIn (IsHintAt p f) (512 * n) r (page (sights q) f n)) (sym a) (subst (PageDiffersIn (IsHintAt p f) (512 * n) None) (sym b) Prim.tt)
      by (Some at) e =
          let a = page_of_place (sights p) f n at e in
          let b = page_of_place (sights q) f n at (same ∙ e) in
          let l : at < length p.sectors = subst (λ k. at < k) (length-sights p) a.within in
          let d = sector_differs f n at a.bytes b.bytes l e (a.shows hidden) (b.shows hidden) ((short_pages p f).short n a.bytes a.page_is) in
          subst (λ r. PageDiffersIn (IsHintAt p f) (512 * n) r (page (sights q) f n)) (sym a.page_is) (subst (PageDiffersIn (IsHintAt p f) (512 * n) (Some a.bytes)) (sym b.page_is) d)

  -- and each file
  file_differs : (f : Fid) → DiffersIn (IsHintAt p f) 0 (file_bytes (sights p) f) (file_bytes (sights q) f)
  unfolding file_bytes
  file_differs f = joined_differs (IsHintAt p f) most_pages (page (sights p) f) (page (sights q) f) 0 (short_pages p f)
      (λ n. let z : 512 * n ≡ 0 + 512 * n = omega arith in subst (λ k. PageDiffersIn (IsHintAt p f) k (page (sights p) f n) (page (sights q) f n)) z (page_differs f n))

  -- words that may differ are hints
  word_differs : (f : Fid) (w : ℕ) → w < length (words_of (file_bytes (sights p) f)) → (word (words_of (file_bytes (sights q) f)) w ≡ word (words_of (file_bytes (sights p) f)) w) ⊎ IsHintWord p f w
  word_differs f w l =
      let x : 2 * w / 2 ≡ w = omega arith in
      let y : suc (2 * w) / 2 ≡ w = omega arith in
      elim (words_differ (IsHintAt p f) (file_bytes (sights p) f) (file_bytes (sights q) f) (file_differs f) w l) [
        | inl same ↦ inl same
        | inr d ↦ inr (elim d [ inl a ↦ subst (IsHintWord p f) x a | inr b ↦ subst (IsHintWord p f) y b ])
      ]

  -- an ordinary file has the same bytes
  plain_same : (f : Fid) → is_directory f ≡ false → is_fid f disk_descriptor ≡ false → file_bytes (sights q) f ≡ file_bytes (sights p) f
  plain_same f ordinary other = differs_nowhere (IsHintAt p f) (file_bytes (sights p) f) (file_bytes (sights q) f) (file_differs f)
      (λ k hint. elim hint [
        | inl a ↦ (let d : true ≡ false = sym a.directory ∙ ordinary in cc)
        | inr m ↦ (let d : true ≡ false = sym (is_fid-itself disk_descriptor) ∙ ap (λ g. is_fid g disk_descriptor) (sym m.0) ∙ other in cc)
      ])

module _ (p q : Pack) (h : SameButHints p q) where
  -- the same slots
  slots_hint : (d : Fid) → is_directory d ≡ true → slots (words_of (file_bytes (sights q) d)) ≡ slots (words_of (file_bytes (sights p) d))
  slots_hint d directory =
      let xs : List ℕ = words_of (file_bytes (sights p) d) in
      let ys : List ℕ = words_of (file_bytes (sights q) d) in
      let size : length ys ≡ length xs = length-words_of (file_bytes (sights q) d) ∙ ap (λ n. n / 2) (file_differs p q h d).size ∙ sym (length-words_of (file_bytes (sights p) d)) in
      slots_kept xs ys 0 (slots xs) size refl (λ k low l. elim (word_differs p q h d k l) [
        | inl same ↦ inl same
        | inr hint ↦ elim hint [
          | inl a ↦ inr (subst (LooseIn 0 (slots xs)) (sym a.word) (loose_among xs 0 (slots xs) a.stands.0 a.slot 5 a.stands.1 a.stands.2 (subst (λ x. IsLoose x 5) (sym a.item) refl)))
          | inr m ↦ absurd (let clash : true ≡ false = sym directory ∙ ap is_directory m.0 in cc)
        ]
      ])

  -- the same words of DiskDescriptor, except its map
  map_words : (k : ℕ) → k < 16 → k ≢ 7 → word (descriptor_words (sights q)) k ≡ word (descriptor_words (sights p)) k
  map_words k low other =
      let size : length (descriptor_words (sights q)) ≡ length (descriptor_words (sights p)) =
      length-words_of (file_bytes (sights q) disk_descriptor) ∙ ap (λ n. n / 2) (file_differs p q h disk_descriptor).size ∙ sym (length-words_of (file_bytes (sights p) disk_descriptor)) in
      elim (cases_lt k (length (descriptor_words (sights p)))) [
        | inl l ↦ elim (word_differs p q h disk_descriptor k l) [
          | inl same ↦ same
          | inr hint ↦ elim hint [
            | inl a ↦ absurd (let clash : true ≡ false = sym a.directory in cc)
            | inr m ↦ absurd (elim m.1.word [ inl seven ↦ other seven | inr high ↦ (let x = high in omega arith) ])
          ]
        ]
        | inr past ↦ get_or_past (descriptor_words (sights q)) k 0 (omega arith) ∙ sym (get_or_past (descriptor_words (sights p)) k 0 past)
      ]

  -- so they differ in hints alone by what they show
  hints_alike : Alike (sights p) (sights q)
  hints_alike = record {
    size = sights_size p q h;
    each = each_alike p q h;
    sizes = λ f. (file_differs p q h f).size;
    plain = plain_same p q h;
    slots_are = λ d live directory. slots_hint d directory;
    words = map_words;
  }

-- Packs that differ in hints alone are read the same, and one is sound or clean if and only if the other is.
pub hints_mean_nothing : HintsMeanNothing
hints_mean_nothing p q h = means_alike p q h.shape (hints_alike p q h)
