-- Bytes that are read page by page.
use Rattle.std.proofs.Common.{◌≡◌, ◌≢◌, ℕ, suc, min, nat_lt, ◌+◌, ◌-◌, ◌*◌, ◌/◌, ◌%◌, ◌<◌, ◌≤◌, Bool, true, false, cond, List, ◌++◌, length, take, drop, Some, None, IsTrue, ◌⊎◌, inl, inr, refl, sym, ◌∙◌, ap, subst, length-append, arith}
use Rattle.std.proofs.lemmas.Bool.Decides.{nat_tests}
use Rattle.std.proofs.lemmas.List.{drop-drop, length-drop, length-take-le}
use Rattle.std.proofs.lemmas.Slice.{drop-append-drop}
use Rattle.std.proofs.Math.Seq.{take-add, take-append_seam, take-length}
use Rattle.alto_words.specs.declared.fid.Fid.{Fid}
use Rattle.disk_records.specs.declared.records.Page.{Page}
use Rattle.disk_records.specs.declared.records.Sector.{Sector}
use Rattle.disk_records.specs.declared.shape.Shape.{Shape}
use Rattle.disk_records.specs.Bytes.{bytes_of, put_at}
use Rattle.disk_records.specs.Labels.{in_range, tag}
use Rattle.disk_records.specs.Packs.{Pack, sector_at}
use Rattle.disk_records.specs.Words.{word}
use Rattle.label_check.specs.Guarded.{HoldsPage, info_of}
use Rattle.label_check.specs.declared.errors.PageInfo.{PageInfo}
use Rattle.laws_contents.proofs.bytes.Laws.{bytes_stand_in_their_page, page_is_a_slice}
use Rattle.laws_contents.specs.PageLaws.{FullBefore}
use Rattle.laws_lookup.specs.pack_laws.proofs.Sighted.{counted}
use Rattle.pack_model.specs.reading.Files.{file_bytes, place}
use Rattle.pack_model.specs.reading.Sights.{sights}
use Rattle.pack_model.specs.states.Sentences.{EachOnce}
use Rattle.page_seeking.specs.declared.seek.Found.{Found}
use Rattle.page_seeking.specs.Seeking.{Seen, file_length, page_number}
use Rattle.page_seeking.specs.Parts.{IsReadTo, IsWithinPart}
use Rattle.page_seeking.specs.Inside.{Known}
use Rattle.page_seeking.proofs.Once.{counts_once, length_once, placed_once}

-- ---- a page more
-- what stands in front is as long as it was
pub read_length : (bytes old now : List ℕ) (offset done : ℕ) → IsReadTo bytes offset done old now → length now ≡ length old
read_length bytes old now offset done x =
    let rest = length-drop offset bytes in
    let long = length-take-le done (drop offset bytes) (omega (arith, rest, x.there)) in
    let past = length-drop done old in
    let both = length-append (take done (drop offset bytes)) (drop done old) in
    let most = x.most in
    ap length x.read ∙ omega (arith, long, past, both, most)

-- bytes that follow are put after those that were read
pub read_more : (bytes old now new : List ℕ) (offset done count : ℕ) → IsReadTo bytes offset done old now → new ≡ take count (drop (offset + done) bytes) → offset + done + count ≤ length bytes → done + count ≤ length old
    → IsReadTo bytes offset (done + count) old (put_at done new now)
read_more bytes old now new offset done count x is there most =
    let rest = length-drop offset bytes in
    let later = length-drop (offset + done) bytes in
    let long : length (take done (drop offset bytes)) ≡ done = length-take-le done (drop offset bytes) (omega (arith, rest, x.there)) in
    let many : length new ≡ count = ap length is ∙ length-take-le count (drop (offset + done) bytes) (omega (arith, later, there)) in
    let front : take done now ≡ take done (drop offset bytes) = ap (take done) x.read ∙ ap (λ n. take n (take done (drop offset bytes) ++ drop done old)) (sym long) ∙ take-append_seam (take done (drop offset bytes)) (drop done old) in
    let back : drop (done + length new) now ≡ drop (done + count) old = ap (λ n. drop (done + n) now) many ∙ ap (drop (done + count)) x.read ∙ drop-append-drop done old (take done (drop offset bytes)) (done + count) (omega arith) long in
    let both : take (done + count) (drop offset bytes) ≡ take done (drop offset bytes) ++ new = take-add done count (drop offset bytes) ∙ ap (λ l. take done (drop offset bytes) ++ l) (ap (take count) (drop-drop done offset bytes) ∙ sym is) in
    record {
      there = omega (arith, there);
      most = most;
      read =
          ap (λ l. (l ++ new) ++ drop (done + length new) now) front
          ∙ ap (λ l. (take done (drop offset bytes) ++ new) ++ l) back
          ∙ ap (λ l. l ++ drop (done + count) old) (sym both);
    }

-- bytes of a known page are those of the file
pub page_bytes : {told : Bool} {p : Pack} {form : Shape} {f : Fid} {n : ℕ} {found : Found} {buffer : Sector} (place_in from count : ℕ) → EachOnce (sights p) → FullBefore p f (n - 1) → IsTrue told → 1 ≤ n → Known told p form (page_number f n) found → buffer ≡ sector_at p found.at
    → place_in ≡ 512 * (n - 1) + from → from < 512 → from + count ≤ found.info.bytes
    → (take count (drop from (bytes_of buffer.value)) ≡ take count (drop place_in (file_bytes (sights p) f))) × (place_in + count ≤ file_length p f)
page_bytes {p = p} {f = f} {n} {found} {buffer} place_in from count once before told first known holds is small few =
    let page : place_in / 512 ≡ n - 1 = omega (arith, is, small) in
    let rest : place_in % 512 ≡ from = omega (arith, is, small) in
    let sector = placed_once once told first known in
    let counts = counts_once once told first known in
    let slice = (page_is_a_slice p f (n - 1) found.at before sector).within in
    let stand = bytes_stand_in_their_page p f place_in count found.at (subst (FullBefore p f) (sym page) before) (ap (λ k. place (sights p) f (suc k)) page ∙ sector) (omega (arith, rest, counts, few)) in (
      ap (λ (s : Sector). take count (drop from (bytes_of s.value))) holds ∙ ap (λ k. take count (drop k (bytes_of (sector_at p found.at).value))) (sym rest) ∙ sym stand,
      omega (arith, is, slice, counts, few),
    )

-- ---- the end
-- all that fits or all that is there was read
pub read_whole : (bytes old now : List ℕ) (offset done : ℕ) → IsReadTo bytes offset done old now → (done ≡ length old) ⊎ (offset + done ≡ length bytes) → IsWithinPart bytes offset old now done
read_whole bytes old now offset done x end =
    let there = x.there in
    let most = x.most in
    record {
      part = record { many = elim end [ inl all ↦ omega (arith, all, there) | inr last ↦ omega (arith, last, most) ]; read = x.read };
      within = omega (arith, there);
    }

-- where all fits from the first byte on, it is all that is there
pub read_all_there : (bytes old now : List ℕ) (done : ℕ) → IsWithinPart bytes 0 old now done → length bytes ≤ length old → take done now ≡ bytes
read_all_there bytes old now done x fits =
    let many = x.part.many in
    let all : done ≡ length bytes = omega (arith, many, fits) in
    let long : length (take done bytes) ≡ done = length-take-le done bytes (omega (arith, all)) in
    ap (take done) x.part.read ∙ ap (λ n. take n (take done bytes ++ drop done old)) (sym long) ∙ take-append_seam (take done bytes) (drop done old) ∙ ap (λ n. take n bytes) all ∙ take-length bytes

-- the bytes that a label of a page counts
pub few_by_label : {form : Shape} {page : Page} {at : ℕ} {info : PageInfo} {buffer : Sector} → HoldsPage form at page buffer → info ≡ info_of buffer.label → info.bytes ≤ 512
few_by_label {page = page} {info = info} {buffer} holds tells =
    let most = by (in_range (tag buffer.label)) refl holds.names in
    let count : info.bytes ≡ word buffer.label 3 = ap (λ (i : PageInfo). i.bytes) tells in
    omega (arith, count, most)
  where
    by : (r : Bool) → in_range (tag buffer.label) ≡ r → cond r (Some (record { fid = (tag buffer.label).fid; number = (tag buffer.label).page })) None ≡ Some page → word buffer.label 3 ≤ 512
    by false is e = absurd cc
    by true is e = counted (tag buffer.label) is

pub few_bytes : {form : Shape} {page : Page} {at : ℕ} {info : PageInfo} {buffer : Sector} → Seen form page at info buffer → info.bytes ≤ 512
few_bytes seen = few_by_label seen.holds seen.tells

-- what is put fills the room or is all
pub put_all : (done count room bytes : ℕ) → count ≡ min bytes (room - done) → done ≤ room → (done + count ≡ room) ⊎ (count ≡ bytes)
put_all done count room bytes is most = by (nat_lt bytes (room - done)) refl
  where
    by : (t : Bool) → nat_lt bytes (room - done) ≡ t → (done + count ≡ room) ⊎ (count ≡ bytes)
    by true e = let less : bytes < room - done = grind (arith, nat_tests) in inr (omega (arith, is, less))
    by false e = let more : room - done ≤ bytes = grind (arith, nat_tests) in inl (omega (arith, is, more, most))

-- reading ends with the last page
pub read_ended : {told : Bool} {p : Pack} {form : Shape} {f : Fid} {n : ℕ} {found : Found} (offset done : ℕ) (old now : List ℕ) → EachOnce (sights p) → FullBefore p f (n - 1) → IsTrue told → 1 ≤ n → Known told p form (page_number f n) found → IsReadTo (file_bytes (sights p) f) offset done old now
    → (done ≡ length now) ⊎ (offset + done ≡ 512 * (n - 1) + found.info.bytes) → (found.info.bytes ≢ 512) ⊎ (n ≡ 65535) → IsWithinPart (file_bytes (sights p) f) offset old now done
read_ended {p = p} {f = f} {n} {found} offset done old now once before told first known x placed ends =
    let size = length_once once told before (record { first = first; known = known; ends = ends }) in
    read_whole (file_bytes (sights p) f) old now offset done x (elim placed [ inl all ↦ inl (all ∙ read_length (file_bytes (sights p) f) old now offset done x) | inr last ↦ inr (omega (arith, last, size)) ])
