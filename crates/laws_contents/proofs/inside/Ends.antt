-- Where a file's bytes end.
use Rattle.std.proofs.Common.{List, None, Option, Some, [], ap, append-nil, arith, drop, inl, inr, length, refl, suc, sym, true, zero, ℕ, ◌%◌, ◌*◌, ◌++◌, ◌+◌, ◌/◌, ◌<◌, ◌∙◌, ◌≡◌, ◌≤◌, ◌⊎◌}
use Rattle.std.proofs.lemmas.List.{length-drop}
use Rattle.std.specs.Option.{is_some}
use Rattle.laws_record.specs.alto_words.specs.declared.fid.Fid.{Fid}
use Rattle.laws_record.specs.disk_records.specs.Packs.{Pack}
use Rattle.laws_record.specs.pack_model.specs.operations.Committing.{page_of_byte}
use Rattle.laws_record.specs.pack_model.specs.reading.Files.{file_bytes, most_pages, page, place}
use Rattle.laws_record.specs.pack_model.specs.reading.Sights.{sights}
use Rattle.laws_record.specs.pack_model.specs.states.Whole.{Whole}
use Rattle.laws_record.specs.pack_laws.proofs.Placing.{short_pages}
use Rattle.laws_record.proofs.Lasting.{reaches_end}
use Rattle.laws_record.proofs.sentences.Laws.{sentences_hold}
use Rattle.laws_contents.proofs.inside.Counted.{pages_are_their_counted_bytes}
use Rattle.laws_contents.proofs.inside.Full.{full_before, joined_none, split_at}
use Rattle.laws_contents.proofs.inside.Parts.{drop_first, length-parts}
use Rattle.laws_contents.proofs.inside.WholeFiles.{full_before_each_of_a_whole_pack}
use Rattle.laws_contents.specs.EndLaws.{EachFileHasItsEnd, EndsInAPage, LastPageEndsTheFile, MissingPageEndsTheFile, WholeFileEndsInAPage}
use Rattle.laws_contents.specs.PageLaws.{FullBefore, bytes_at}

-- ---- the end by pages
pub last_page_ends_the_file : LastPageEndsTheFile
last_page_ends_the_file p f k at h e end =
    let s = split_at p f k at h e in
    let all : List ℕ = file_bytes (sights p) f in
    let none : s.parts.rest ≡ [] = elim end [ inl short ↦ s.short short | inr missing ↦ s.last missing ] in
    let rest : drop (512 * k) all ≡ bytes_at p at = drop_first (512 * k) all (bytes_at p at) s.parts ∙ ap (λ r. bytes_at p at ++ r) none ∙ append-nil (bytes_at p at) in
    let size = ap length rest in
    let many = length-drop (512 * k) all in
    let least = length-parts (512 * k) all (bytes_at p at) s.parts in
    record { size = omega arith; rest = rest }

-- pages that are full, and as many as there may be
pub missing_page_ends_the_file : MissingPageEndsTheFile
unfolding file_bytes
missing_page_ends_the_file p f zero h e = ap length (joined_none most_pages (page (sights p) f) ((pages_are_their_counted_bytes p f 0).missing e))
missing_page_ends_the_file p f (suc k) h e =
    let last = h.each k (omega arith) in
    let before : FullBefore p f k = record { each = λ j l. h.each j (omega arith) } in
    let full = last.full in
    let size = (last_page_ends_the_file p f k last.at before last.sector (inr e)).size in
    omega arith

-- ---- the end by the length
-- the length is at least that of a page that is there and of the full ones before it
pub at_least : (p : Pack) (f : Fid) (k at : ℕ) → FullBefore p f k → place (sights p) f (suc k) ≡ Some at → 512 * k + length (bytes_at p at) ≤ length (file_bytes (sights p) f)
at_least p f k at h e = length-parts (512 * k) (file_bytes (sights p) f) (bytes_at p at) (split_at p f k at h e).parts

-- the page that the end is in
end_by : (p : Pack) (f : Fid) (k : ℕ) → k ≡ length (file_bytes (sights p) f) / 512 → FullBefore p f k → (r : Option ℕ) → place (sights p) f (suc k) ≡ r
    → ((place (sights p) f (suc k) ≡ None) × (length (file_bytes (sights p) f) % 512 ≡ 0)) ⊎ ((at : ℕ) × (place (sights p) f (suc k) ≡ Some at) × (length (bytes_at p at) ≡ length (file_bytes (sights p) f) % 512))
end_by p f k is h None e = let size = missing_page_ends_the_file p f k h e in inl (e, omega arith)
end_by p f k is h (Some at) e =
    let least = at_least p f k at h e in
    let short : length (bytes_at p at) < 512 = omega arith in
    let size = (last_page_ends_the_file p f k at h e (inl short)).size in
    inr (at, e, omega arith)

pub each_file_has_its_end : EachFileHasItsEnd
each_file_has_its_end p f =
    let k : ℕ = length (file_bytes (sights p) f) / 512 in
    let h : FullBefore p f k = full_before p f k (reaches_end (sights p) f k (short_pages p f) (omega arith)) in
    record { before = h; end = end_by p f k refl h (place (sights p) f (suc k)) refl }

-- ---- on a whole pack
-- no page comes after one that isn't full
none_after : (p : Pack) (f : Fid) (k at : ℕ) → Whole p → place (sights p) f (suc k) ≡ Some at → length (bytes_at p at) < 512 → (r : Option ℕ) → place (sights p) f (suc (suc k)) ≡ r → place (sights p) f (suc (suc k)) ≡ None
none_after p f k at w e short None is = is
none_after p f k at w e short (Some next) is =
    let x = (full_before_each_of_a_whole_pack p f (suc k) next w is).each k (omega arith) in
    let both : Some x.at ≡ Some at = sym x.sector ∙ e in
    let same : x.at ≡ at = cc in
    let size = ap (λ i. length (bytes_at p i)) same in
    let full = x.full in
    absurd (omega arith)

-- the page is there
whole_end : (p : Pack) (f : Fid) (k : ℕ) → Whole p → k ≡ length (file_bytes (sights p) f) / 512 → is_some (place (sights p) f (suc k)) ≡ true
    → ((place (sights p) f (suc k) ≡ None) × (length (file_bytes (sights p) f) % 512 ≡ 0)) ⊎ ((at : ℕ) × (place (sights p) f (suc k) ≡ Some at) × (length (bytes_at p at) ≡ length (file_bytes (sights p) f) % 512))
    → EndsInAPage p f
whole_end p f k w is some (inl missing) = absurd (let no = ap is_some missing.0 in cc)
whole_end p f k w is some (inr there) =
    let count = there.2 in
    let page : page_of_byte (length (file_bytes (sights p) f)) ≡ suc k = ap suc (sym is) in
    record {
      at = there.0;
      sector = ap (place (sights p) f) page ∙ there.1;
      counts = there.2;
      none = ap (λ n. place (sights p) f (suc n)) page ∙ none_after p f k there.0 w there.1 (omega arith) (place (sights p) f (suc (suc k))) refl;
    }

pub whole_file_ends_in_a_page : WholeFileEndsInAPage
whole_file_ends_in_a_page p f w live =
    whole_end p f (length (file_bytes (sights p) f) / 512) w refl ((sentences_hold p w).pages.last_pages f live) (each_file_has_its_end p f).end
