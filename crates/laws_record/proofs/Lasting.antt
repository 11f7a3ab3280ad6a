-- A missing last page comes, and a leader is written that says the same.
use Rattle.std.proofs.Common.{◌%◌, ◌&&◌, ◌*◌, ◌++◌, ◌+◌, ◌-◌, ◌/◌, ◌<◌, ◌==◌, ◌∙◌, ◌≡◌, ◌≤◌, Bool, List, None, Some, [], ap, arith, cond, false, get_or, le-ltb, length, not, refl, set, subst, suc, sym, take, true, zero, ℕ}
use Rattle.pack_laws.specs.alto_words.specs.Fid.{is_fid}
use Rattle.pack_laws.specs.alto_words.specs.declared.fid.Fid.{Fid}
use Rattle.pack_laws.specs.disk_records.specs.Labels.{tag}
use Rattle.pack_laws.specs.disk_records.specs.Packs.{sector_at}
use Rattle.pack_laws.specs.pack_model.specs.reading.Bytes.{bytes_of}
use Rattle.pack_laws.specs.pack_model.specs.reading.Files.{file_bytes, joined, leader_at, most_pages, page, page_at, place}
use Rattle.pack_laws.specs.pack_model.specs.reading.Model.{good_one}
use Rattle.pack_laws.specs.pack_model.specs.reading.Sights.{Sight, page_sight, sights}
use Rattle.pack_laws.specs.pack_model.specs.reading.Sights.Sight.{free, hidden, holds}
use Rattle.pack_laws.proofs.Firsts.{first_new, first_same}
use Rattle.pack_laws.proofs.Guarding.{free_parts}
use Rattle.pack_laws.proofs.Joining.{AreShort, Reaches, Reaches-more, Reaches-none, continue, front, is_full, joined_at, joined_change, most_is, skip}
use Rattle.pack_laws.proofs.Keys.{same_fid}
use Rattle.pack_laws.proofs.Paging.{byte_of_file, other_number}
use Rattle.pack_laws.proofs.Placing.{no_page, page_at-holds, short_pages}
use Rattle.laws_record.proofs.Framing.{SameBytes, bytes_same, good_set, mute_frame}
use Rattle.laws_record.proofs.Recording.{carried_sight, free_sight, free_within, label_sights, number_below, value_sights}
use Rattle.laws_record.proofs.Staying.{Stays, stay_bytes, stay_counted}
use Rattle.laws_record.specs.QuietLaws.{LastClaim, SameLeader, with_label, with_value}

-- the pages before the one that the end of the bytes is in are full
pub reaches_end : (ss : List Sight) (f : Fid) (k : ℕ) → AreShort (page ss f) → 512 * k ≤ length (file_bytes ss f) → Reaches (page ss f) k
reaches_end ss f zero short l = Reaches-none (page ss f)
reaches_end ss f (suc k) short l =
    let offset : ℕ = 512 * k + 511 in
    let h = byte_of_file ss f offset short (omega arith) in
    let number : offset / 512 ≡ k = omega arith in
    let rest : offset % 512 ≡ 511 = omega arith in
    let before : Reaches (page ss f) k = subst (Reaches (page ss f)) number h.before in
    let most = short.short (offset / 512) h.bytes h.there in
    let within = h.within in
    let full : is_full (page ss f k) ≡ true = ap (λ n. is_full (page ss f n)) (sym number) ∙ ap is_full h.there ∙ ap not (le-ltb (length h.bytes) 512 (omega arith)) in
    Reaches-more (page ss f) k before full

-- that page comes with no bytes
last_bytes : (ss : List Sight) (i : ℕ) (f : Fid) (k : ℕ) → i < length ss → get_or ss i hidden ≡ free → page ss f k ≡ None → Reaches (page ss f) k → k < most_pages → file_bytes (set ss i (holds f k [])) f ≡ file_bytes ss f
unfolding file_bytes
last_bytes ss i f k l is none r most =
    let rest : List ℕ = joined (most_pages - suc k) (skip (suc k) (page ss f)) in
    joined_change k most_pages (page ss f) (page (set ss i (holds f k [])) f) most r
    (λ n e. first_same (page_at f n) ss i (holds f k []) hidden (ap (λ t. cond t (Some []) None) (other_number (is_fid f f) n k e) ∙ ap (page_at f n) (sym is)))
    ∙ ap (λ x. front k (page ss f) ++ continue x rest) (first_new (page_at f k) ss i (holds f k []) l none ∙ page_at-holds f k [])
    ∙ sym (joined_at k most_pages (page ss f) most r ∙ ap (λ x. front k (page ss f) ++ continue x rest) none)

-- the bytes of all other files stay
other_bytes : (ss : List Sight) (i : ℕ) (f g : Fid) (k : ℕ) (bytes : List ℕ) → get_or ss i hidden ≡ free → is_fid g f ≡ false → file_bytes (set ss i (holds f k bytes)) g ≡ file_bytes ss g
other_bytes ss i f g k bytes is e = bytes_same ss i (holds f k bytes) g (λ n. ap (λ b. cond (b && n == k) (Some bytes) None) e ∙ ap (page_at g n) (sym is))

-- so the bytes of every file do
last_frame : (ss : List Sight) (i : ℕ) (f : Fid) (k : ℕ) → i < length ss → get_or ss i hidden ≡ free → page ss f k ≡ None → Reaches (page ss f) k → k < most_pages → SameBytes ss (set ss i (holds f k []))
last_frame ss i f k l is none r most = record {
  good = sym (good_set ss i (holds f k []) hidden (ap good_one (sym is)));
  leaders = λ g. sym (first_same (leader_at g) ss i (holds f k []) hidden (ap (leader_at g) (sym is)));
  bytes = λ g file. sym (by g (is_fid g f) refl);
}
  where
    by : (g : Fid) (b : Bool) → is_fid g f ≡ b → file_bytes (set ss i (holds f k [])) g ≡ file_bytes ss g
    by g true e = subst (λ h. file_bytes (set ss i (holds f k [])) h ≡ file_bytes ss h) (sym (same_fid g f e)) (last_bytes ss i f k l is none r most)
    by g false e = other_bytes ss i f g k [] is e

-- a label of 0 bytes on a free sector for a missing last page
pub last_claim : LastClaim Stays
last_claim p at x label is names empty number none =
    let k : ℕ = length (file_bytes (sights p) x.fid) / 512 in
    let below = number_below label x names in
    let most : k < most_pages = rw most_is (omega arith) in
    stay_bytes p (with_label p at label) (set (sights p) at (holds x.fid k [])) refl
    (label_sights p at x label (free_parts p at is).0 names ∙ ap (λ n. set (sights p) at (page_sight x.fid n (tag label).bytes (sector_at p at).value)) number
    ∙ ap (λ n. set (sights p) at (holds x.fid k (take n (bytes_of (sector_at p at).value)))) empty)
    (last_frame (sights p) at x.fid k (free_within p at is) (free_sight p at is) (no_page (sights p) x.fid k (ap (place (sights p) x.fid) (sym number) ∙ none))
    (reaches_end (sights p) x.fid k (short_pages p x.fid) (omega arith)) most)

-- a leader page's value that says the same
pub same_leader : SameLeader Stays
same_leader p at x value is first e =
    let count : ℕ = (tag (sector_at p at).label).bytes in
    let was : get_or (sights p) at hidden ≡ page_sight x.fid 0 count (sector_at p at).value = carried_sight p at x is ∙ ap (λ n. page_sight x.fid n count (sector_at p at).value) first in
    stay_counted p (with_value p at value) (set (sights p) at (page_sight x.fid 0 count value)) refl
    (value_sights p at x value is ∙ ap (λ n. set (sights p) at (page_sight x.fid n count value)) first)
    (mute_frame (sights p) at (page_sight x.fid 0 count value) (sym (ap good_one was))
    (λ g. ap (λ l. cond (is_fid g x.fid) (Some l) None) e ∙ sym (ap (leader_at g) was)) (λ g n. sym (ap (page_at g n) was)))
