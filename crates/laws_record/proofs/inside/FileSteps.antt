-- Put, cut and grow: the record write is the step.
use Rattle.std.proofs.Common.{◌%◌, ◌*◌, ◌++◌, ◌+◌, ◌-◌, ◌/◌, ◌<◌, ◌∙◌, ◌∷◌, ◌≡◌, ◌≢◌, ◌≤◌, Bool, List, Some, [], ap, append_assoc, arith, cond, drop, false, length, length-take, lt-ltb, min, nat_lt, refl, set, subst, suc, sym, take, take-append-drop, take-take, true, ℕ}
use Rattle.std.proofs.lemmas.List.{drop_at, take_min}
use Rattle.pack_laws.specs.alto_words.specs.Fid.{is_fid}
use Rattle.pack_laws.specs.alto_words.specs.declared.fid.Fid.{Fid}
use Rattle.pack_laws.specs.disk_records.specs.Labels.{page_of, tag}
use Rattle.pack_laws.specs.disk_records.specs.Packs.{Pack, after, sector_at}
use Rattle.pack_laws.specs.disk_records.specs.declared.records.Event.TheVariants.{Wrote}
use Rattle.pack_laws.specs.pack_model.specs.reading.Bytes.{bytes_of, put_at}
use Rattle.pack_laws.specs.pack_model.specs.reading.Files.{file_bytes, joined, most_pages, page}
use Rattle.pack_laws.specs.pack_model.specs.reading.Sights.{Sight, sights}
use Rattle.pack_laws.specs.pack_model.specs.reading.Sights.Sight.{hidden, holds}
use Rattle.laws_record.proofs.inside.Cutting.{bytes_cut}
use Rattle.laws_record.proofs.DirEnds.{enough}
use Rattle.pack_laws.proofs.Joining.{Reaches, continue, front, joined_at, joined_change, most_is, skip}
use Rattle.laws_record.proofs.Lasting.{reaches_end}
use Rattle.laws_record.proofs.inside.OneFile.{bytes_step, page_change}
use Rattle.pack_laws.proofs.Paging.{bytes_after, length-file, other_number, other_pages, page_fits, this_page}
use Rattle.pack_laws.proofs.Placing.{IsPageAt, data_page_of_place, page_of_place, short_pages}
use Rattle.pack_laws.proofs.Putting.{value_put}
use Rattle.laws_record.proofs.Recording.{label_sights, number_below}
use Rattle.pack_laws.proofs.Sighted.{length-sights, shows_page, sights-get}
use Rattle.laws_record.specs.QuietLaws.{with_label}
use Rattle.laws_record.specs.StepLaws.{CutIsTheStep, GrowIsTheStep, PutIsTheStep, more_bytes}

-- ---- put
-- a value with bytes in their place
pub put_is_the_step : PutIsTheStep
put_is_the_step p at part words x o w v =
    let h = data_page_of_place (sights p) x.fid (x.offset / 512) at v.bears in
    let short = short_pages p x.fid in
    let fits = page_fits (sights p) x.fid at x.offset x.bytes h short w.some w.page w.file in
    let q : Pack = after p (Wrote at part words ∷ []) in
    let new : List ℕ = put_at (x.offset % 512) x.bytes h.bytes in
    let shown : sights q ≡ set (sights p) at (holds x.fid (x.offset / 512) new) =
    ap (λ n. sights (after p (Wrote at n words ∷ []))) v.value_alone
    ∙ ap (λ y. sights (after p (Wrote at 2 y ∷ []))) v.value
    ∙ value_put p at (x.offset / 512) (x.offset % 512) x.fid x.bytes h fits w.are_bytes in
    bytes_step p q x.fid (put_at x.offset x.bytes (file_bytes (sights p) x.fid))
    (page_change p q x.fid (x.offset / 512) at new (put_at x.offset x.bytes (file_bytes (sights p) x.fid)) h refl shown (bytes_after (sights p) x.fid at x.offset x.bytes h short w.some w.page w.file))
    o (put_at x.offset x.bytes) refl

-- ---- a label with another count
-- what a sector shows then of its page
pub count_shown : (p : Pack) (at n : ℕ) (f : Fid) (label : List ℕ) (h : IsPageAt (sights p) f n at) → page_of label ≡ Some (record { fid = f; number = suc n }) → sights (with_label p at label) ≡ set (sights p) at (holds f n (take (tag label).bytes (bytes_of (sector_at p at).value)))
count_shown p at n f label h names =
    let l : at < length p.sectors = subst (λ k. at < k) (length-sights p) h.within in
    let shows = shows_page p.shape at (sector_at p at) f n h.bytes (sym (sights-get p at hidden l) ∙ h.shows hidden) in
    label_sights p at (record { fid = f; number = suc n }) label shows.usable names

-- the bytes that it counts before
count_was : (p : Pack) (at n : ℕ) (f : Fid) (h : IsPageAt (sights p) f n at) → h.bytes ≡ take (tag (sector_at p at).label).bytes (bytes_of (sector_at p at).value)
count_was p at n f h =
    let l : at < length p.sectors = subst (λ k. at < k) (length-sights p) h.within in
    (shows_page p.shape at (sector_at p at) f n h.bytes (sym (sights-get p at hidden l) ∙ h.shows hidden)).bytes_are

-- fewer bytes
pub cut_is_the_step : CutIsTheStep
cut_is_the_step p at n f label o bears names low fits =
    let ss : List Sight = sights p in
    let h = page_of_place ss f n at bears in
    let b : ℕ = (tag label).bytes in
    let c : ℕ = (tag (sector_at p at).label).bytes in
    let value : List ℕ = bytes_of (sector_at p at).value in
    let below = number_below label (record { fid = f; number = suc n }) names in
    let most : n < most_pages = rw most_is (omega arith) in
    let reached : Reaches (page ss f) n = reaches_end ss f n (short_pages p f) (omega arith) in
    let enough_bytes : b ≤ length h.bytes = enough p f n b h.bytes most reached h.page_is fits low in
    let was = count_was p at n f h in
    let count : b ≤ c = (let s : length h.bytes ≡ min c (length value) = ap length was ∙ length-take c value in omega arith) in
    let new : take b value ≡ take b h.bytes = sym (take-take b c value count) ∙ ap (take b) (sym was) in
    let shown : sights (with_label p at label) ≡ set ss at (holds f n (take b h.bytes)) = count_shown p at n f label h names ∙ ap (λ v. set ss at (holds f n v)) new in
    bytes_step p (with_label p at label) f (take (512 * n + b) (file_bytes ss f))
    (page_change p (with_label p at label) f n at (take b h.bytes) (take (512 * n + b) (file_bytes ss f)) h refl shown
    (bytes_cut ss (set ss at (holds f n (take b h.bytes))) f n b h.bytes (short_pages p f) most reached (λ k e. other_pages ss f n at h (take b h.bytes) f k (other_number (is_fid f f) k n e)) h.page_is enough_bytes low (this_page ss f n at h (take b h.bytes))))
    o (take (512 * n + b)) refl

-- ---- more bytes
-- bytes after others are what is left when these are dropped
after_are : (a b all : List ℕ) → all ≡ a ++ b → a ++ drop (length a) all ≡ all
after_are a b all e = ap (λ x. a ++ drop (length a) x) e ∙ ap (λ x. a ++ x) (drop_at a b (length a) refl) ∙ sym e

-- a page that begins as before, and what comes after it
page_more : (front old new rest : List ℕ) → take (length old) new ≡ old → (x : List ℕ) × (front ++ continue (Some new) rest ≡ (front ++ old) ++ x)
page_more front old new rest begins = by (nat_lt (length new) 512)
  where
    split : new ≡ old ++ drop (length old) new
    split = sym (take-append-drop (length old) new) ∙ ap (λ x. x ++ drop (length old) new) begins

    by : (t : Bool) → (x : List ℕ) × (front ++ cond t new (new ++ rest) ≡ (front ++ old) ++ x)
    by true = (drop (length old) new, ap (λ x. front ++ x) split ∙ sym (append_assoc front old (drop (length old) new)))
    by false = (drop (length old) new ++ rest, ap (λ x. front ++ (x ++ rest)) split ∙ ap (λ x. front ++ x) (append_assoc old (drop (length old) new) rest) ∙ sym (append_assoc front old (drop (length old) new ++ rest)))

-- the bytes of a file whose last page grows are those before, and more
bytes_grow : (ss tt : List Sight) (f : Fid) (n : ℕ) (old new : List ℕ) → n < most_pages → Reaches (page ss f) n → ((k : ℕ) → k ≢ n → page tt f k ≡ page ss f k) → page ss f n ≡ Some old → length old < 512 → page tt f n ≡ Some new → take (length old) new ≡ old
    → (x : List ℕ) × (file_bytes tt f ≡ file_bytes ss f ++ x)
unfolding file_bytes
bytes_grow ss tt f n old new l r others was short now begins =
    let rest : List ℕ = joined (most_pages - suc n) (skip (suc n) (page ss f)) in
    let m = page_more (front n (page ss f)) old new rest begins in
    let before : joined most_pages (page ss f) ≡ front n (page ss f) ++ old =
    joined_at n most_pages (page ss f) l r ∙ ap (λ x. front n (page ss f) ++ continue x rest) was ∙ ap (λ t. front n (page ss f) ++ cond t old (old ++ rest)) (lt-ltb (length old) 512 short) in
    (m.0, joined_change n most_pages (page ss f) (page tt f) l r others ∙ ap (λ x. front n (page ss f) ++ continue x rest) now ∙ m.1 ∙ ap (λ x. x ++ m.0) (sym before))

-- more of the same bytes begin as fewer do
first_bytes : (old value : List ℕ) (b c : ℕ) → old ≡ take c value → length old ≤ b → take (length old) (take b value) ≡ old
first_bytes old value b c is l =
    let len : length old ≡ min c (length value) = ap length is ∙ length-take c value in
    take-take (length old) b value l ∙ ap (λ k. take k value) len ∙ take_min c value ∙ sym is

-- a label that counts more
pub grow_is_the_step : GrowIsTheStep
grow_is_the_step p at f label o bears names more =
    let ss : List Sight = sights p in
    let all : ℕ = length (file_bytes ss f) in
    let n : ℕ = all / 512 in
    let h = page_of_place ss f n at bears in
    let b : ℕ = (tag label).bytes in
    let c : ℕ = (tag (sector_at p at).label).bytes in
    let value : List ℕ = bytes_of (sector_at p at).value in
    let q : Pack = with_label p at label in
    let below = number_below label (record { fid = f; number = suc n }) names in
    let most : n < most_pages = rw most_is (omega arith) in
    let reached : Reaches (page ss f) n = reaches_end ss f n (short_pages p f) (omega arith) in
    let size = length-file ss f n h.bytes (short_pages p f) most reached h.page_is in
    let whole = size.0 in
    let short : length h.bytes < 512 = omega arith in
    let part : all ≡ 512 * n + length h.bytes = size.1 short in
    let rest : all % 512 ≡ length h.bytes = omega arith in
    let was = count_was p at n f h in
    let new : List ℕ = take b value in
    let begins : take (length h.bytes) new ≡ h.bytes = first_bytes h.bytes value b c was (omega arith) in
    let shown : sights q ≡ set ss at (holds f n new) = count_shown p at n f label h names in
    let grown = bytes_grow ss (set ss at (holds f n new)) f n h.bytes new most reached (λ k e. other_pages ss f n at h new f k (other_number (is_fid f f) k n e)) h.page_is short (this_page ss f n at h new) begins in
    let now : file_bytes (sights q) f ≡ file_bytes ss f ++ grown.0 = subst (λ us. file_bytes us f ≡ file_bytes ss f ++ grown.0) (sym shown) grown.1 in
    bytes_step p q f (file_bytes (sights q) f)
    (page_change p q f n at new (file_bytes (sights q) f) h refl shown (ap (λ us. file_bytes us f) (sym shown)))
    o (λ bytes. bytes ++ more_bytes p q f) (after_are (file_bytes ss f) grown.0 (file_bytes (sights q) f) now)
