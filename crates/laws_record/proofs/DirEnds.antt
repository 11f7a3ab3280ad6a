-- A directory ends at its slots, and pages that aren't in use are made free.
use Rattle.std.proofs.Common.{◌*◌, ◌+◌, ◌<◌, ◌∙◌, ◌≡◌, ◌≤◌, List, None, Option, Some, ap, arith, false, inl, inr, length, length-take, min, refl, set, suc, sym, take, take-take, true, ℕ}
use Rattle.std.proofs.lemmas.Bool.{cases_lt}
use Rattle.pack_laws.specs.alto_words.specs.Fid.{disk_descriptor, is_directory, is_fid}
use Rattle.pack_laws.specs.alto_words.specs.declared.fid.Fid.{Fid}
use Rattle.pack_laws.specs.disk_records.specs.Labels.{tag}
use Rattle.pack_laws.specs.disk_records.specs.Packs.{Pack, carried, sector_at}
use Rattle.pack_laws.specs.disk_records.specs.declared.records.Page.{Page}
use Rattle.pack_laws.specs.pack_model.specs.reading.Bytes.{bytes_of, words_of}
use Rattle.pack_laws.specs.pack_model.specs.reading.Files.{file_bytes, leader, most_pages, page}
use Rattle.pack_laws.specs.pack_model.specs.reading.Leaders.{Leader}
use Rattle.pack_laws.specs.pack_model.specs.hints.Links.{dir_words}
use Rattle.pack_laws.specs.pack_model.specs.reading.Model.{good_one, good_sectors}
use Rattle.pack_laws.specs.pack_model.specs.reading.Sights.{Sight, sights}
use Rattle.pack_laws.specs.pack_model.specs.reading.Sights.Sight.{hidden, holds}
use Rattle.pack_laws.specs.pack_model.specs.reading.Slots.{all_words, slots}
use Rattle.pack_laws.proofs.Bytes.{length-words_of}
use Rattle.pack_laws.proofs.Guarding.{carried_parts}
use Rattle.pack_laws.proofs.Joining.{Reaches, most_is}
use Rattle.pack_laws.proofs.Keys.{is_fid-sym, same_fid}
use Rattle.pack_laws.proofs.Paging.{length-file, other_files, other_number, other_pages, same_leaders, this_page}
use Rattle.pack_laws.proofs.Placing.{page_of_place, short_pages}
use Rattle.laws_record.proofs.Copying.{place_carried}
use Rattle.laws_record.proofs.inside.Cutting.{bytes_cut, slots_take, words_take}
use Rattle.laws_record.proofs.DirReads.{dir_same, not_descriptor}
use Rattle.laws_record.proofs.Framing.{good_set}
use Rattle.laws_record.proofs.Heads.{all_within}
use Rattle.laws_record.proofs.Lasting.{reaches_end}
use Rattle.laws_record.proofs.Recording.{carried_sight, label_sights, number_below}
use Rattle.laws_record.proofs.Staying.{Stays, stay_bytes}
use Rattle.laws_record.specs.DirLaws.{CutAtSlots}
use Rattle.laws_record.specs.QuietLaws.{with_label}

-- the slots end within the bytes
slots_within : (ss : List Sight) (d : Fid) → all_words (slots (words_of (file_bytes ss d))) * 2 ≤ length (file_bytes ss d)
slots_within ss d = let l = all_within (slots (words_of (file_bytes ss d))) (words_of (file_bytes ss d)) refl in let s = length-words_of (file_bytes ss d) in omega arith

-- a directory that ends earlier, but not before its slots, is read the same
pub ends_same : (p q : Pack) (d : Fid) (m : ℕ) → is_directory d ≡ true → q.shape ≡ p.shape → good_sectors (sights q) ≡ good_sectors (sights p) → ((g : Fid) → leader (sights q) g ≡ leader (sights p) g)
    → ((g : Fid) → is_fid g d ≡ false → file_bytes (sights q) g ≡ file_bytes (sights p) g) → file_bytes (sights q) d ≡ take (2 * m) (file_bytes (sights p) d) → all_words (slots (dir_words p d)) ≤ m → Stays p q
ends_same p q d m dir shape good leaders others bytes within = by (leader (sights p) d) refl
  where
    by : (r : Option Leader) → leader (sights p) d ≡ r → Stays p q
    by (Some l) e =
        dir_same p q d (take m (dir_words p d))
        (record { shape = shape; good = good; leaders = leaders; others = others; words_are = ap words_of bytes ∙ words_take m (file_bytes (sights p) d) })
        dir l e (slots_take (slots (dir_words p d)) (dir_words p d) m refl within)
    by None e = stay_bytes p q (sights q) shape refl (record {
      good = sym good;
      leaders = λ f. sym (leaders f);
      bytes = λ f file. sym (others f (elim (is_fid f d) as (λ b. is_fid f d ≡ b → b ≡ false) [
        | true ↦ λ same. absurd (elim file [
          | inl lives ↦ lives (ap (leader (sights p)) (same_fid f d same) ∙ e)
          | inr is ↦ (let clash : true ≡ false = sym same ∙ ap (λ g. is_fid g d) is ∙ is_fid-sym disk_descriptor d ∙ not_descriptor d dir in cc)
        ])
        | false ↦ λ other. refl
      ] refl));
    })

-- ---- a label that counts fewer bytes
-- the bytes of the page are enough
pub enough : (p : Pack) (d : Fid) (n b : ℕ) (bytes : List ℕ) → n < most_pages → Reaches (page (sights p) d) n → page (sights p) d n ≡ Some bytes → 512 * n + b ≤ length (file_bytes (sights p) d) → b < 512 → b ≤ length bytes
enough p d n b bytes l r is fits low =
    let size = length-file (sights p) d n bytes (short_pages p d) l r is in
    elim (cases_lt (length bytes) 512) [ inl short ↦ (let e = size.1 short in omega arith) | inr full ↦ omega arith ]

-- a label that ends a directory at its slots
pub cut_at_slots : CutAtSlots Stays
cut_at_slots p d at n label dir bears names low ends =
    let x : Page = record { fid = d; number = suc n } in
    let ss : List Sight = sights p in
    let h = page_of_place ss d n at bears in
    let is : carried p at ≡ Some x = place_carried p x at bears in
    let parts = carried_parts p at x is in
    let below = number_below label x names in
    let most : n < most_pages = rw most_is (omega arith) in
    let b : ℕ = (tag label).bytes in
    let value : List ℕ = (sector_at p at).value in
    let c : ℕ = (tag (sector_at p at).label).bytes in
    let within = slots_within ss d in
    let reached : Reaches (page ss d) n = reaches_end ss d n (short_pages p d) (omega arith) in
    let fits : b ≤ length h.bytes = enough p d n b h.bytes most reached h.page_is (omega arith) low in
    let same : holds d n h.bytes ≡ holds d n (take c (bytes_of value)) = sym (h.shows hidden) ∙ carried_sight p at x is in
    let old : h.bytes ≡ take c (bytes_of value) = cc in
    let count : b ≤ c = (let s : length h.bytes ≡ min c (length (bytes_of value)) = ap length old ∙ length-take c (bytes_of value) in omega arith) in
    let new : take b (bytes_of value) ≡ take b h.bytes = sym (take-take b c (bytes_of value) count) ∙ ap (take b) (sym old) in
    let shown : sights (with_label p at label) ≡ set ss at (holds d n (take b h.bytes)) = label_sights p at x label parts.0 names ∙ ap (λ v. set ss at (holds d n v)) new in
    let z : 512 * n + b ≡ 2 * all_words (slots (dir_words p d)) = omega arith in
    ends_same p (with_label p at label) d (all_words (slots (dir_words p d))) dir refl
    (ap good_sectors shown ∙ good_set ss at (holds d n (take b h.bytes)) hidden (sym (ap good_one (h.shows hidden))))
    (λ g. ap (λ us. leader us g) shown ∙ same_leaders ss d n at h (take b h.bytes) g)
    (λ g e. ap (λ us. file_bytes us g) shown ∙ other_files ss d n at h (take b h.bytes) g e)
    (ap (λ us. file_bytes us d) shown
    ∙ bytes_cut ss (set ss at (holds d n (take b h.bytes))) d n b h.bytes (short_pages p d) most reached (λ k e. other_pages ss d n at h (take b h.bytes) d k (other_number (is_fid d d) k n e)) h.page_is fits low (this_page ss d n at h (take b h.bytes))
    ∙ ap (λ k. take k (file_bytes ss d)) z)
    (omega arith)
