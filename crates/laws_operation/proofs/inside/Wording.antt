-- The words that are written.
use Rattle.std.proofs.Common.{Bool, List, None, Some, [], ap, append_assoc, arith, cond, drop, false, get_or-drop, inl, inr, length, not, refl, sym, take, true, ℕ, ◌&&◌, ◌++◌, ◌+◌, ◌<◌, ◌∙◌, ◌≡◌, ◌≤◌, ◌⊎◌}
use Rattle.std.proofs.lemmas.Bool.{le-leb}
use Rattle.std.proofs.lemmas.List.Elements.{All-append}
use Rattle.std.proofs.lemmas.List.{append-nil, drop_all, length-append, length-take, take-take, take_at}
use Rattle.std.specs.Prelude.{All, nat_le, nat_lt, ◌==◌}
use Rattle.laws_contents.specs.alto_words.specs.Fid.{serial_of}
use Rattle.laws_contents.specs.disk_records.specs.Labels.{Tag, in_range, tag}
use Rattle.laws_contents.specs.disk_records.specs.Packs.{Pack, sector_at}
use Rattle.laws_contents.specs.disk_records.specs.Words.{word}
use Rattle.laws_contents.specs.pack_model.specs.reading.Bytes.{bytes_of, put_at, words_of}
use Rattle.laws_contents.specs.pack_model.specs.reading.Files.{page}
use Rattle.laws_contents.specs.pack_model.specs.reading.Namings.{fits}
use Rattle.laws_contents.specs.pack_model.specs.operations.PageWords.{page_number, put_value, relabelled}
use Rattle.laws_contents.specs.pack_laws.proofs.Bytes.{bytes_below, bytes_of-put, take-put_at}
use Rattle.laws_contents.specs.laws_record.specs.QuietLaws.{counted_of}
use Rattle.laws_operation.proofs.Making.{named_page}
use Rattle.laws_operation.specs.WordLaws.{BytesInAValue, LabelWithAnotherCount}

-- whatever the first of several tests was
first_true : (a b c d e : Bool) → (a && b && c && d && e) ≡ true → (true && b && c && d && e) ≡ true
first_true true b c d e h = h
first_true false b c d e h = absurd cc

-- another count of at most 512 bytes is in range as well
range_still : (t : Tag) (bytes : ℕ) → in_range t ≡ true → bytes ≤ 512 → in_range (record { fid = t.fid; page = t.page; bytes = bytes }) ≡ true
unfolding in_range
range_still t bytes e l =
    ap (λ b. b && nat_le 1 t.fid.version && nat_le t.fid.version 65534 && not (serial_of t.fid == 0) && nat_lt t.page 65536) (le-leb bytes 512 l)
    ∙ first_true (nat_le t.bytes 512) (nat_le 1 t.fid.version) (nat_le t.fid.version 65534) (not (serial_of t.fid == 0)) (nat_lt t.page 65536) e

-- a label with another count and another next link
pub label_with_another_count : LabelWithAnotherCount
label_with_another_count label page bytes next e l =
    let named = named_page label page e in
    let behind : (k : ℕ) → word (drop 4 label) k ≡ word label (4 + k) = λ k. get_or-drop 4 label k 0 in
    let same : tag (relabelled label bytes next) ≡ record { fid = (tag label).fid; page = (tag label).page; bytes = bytes } = λ i. record { fid = record { high = behind 2 i; low = behind 3 i; version = behind 1 i }; page = behind 0 i; bytes = bytes } in
    let told : record { fid = (tag label).fid; page = (tag label).page; bytes = bytes } ≡ record { fid = page.fid; page = page.number; bytes = bytes } = ap (λ t. record { fid = t.fid; page = t.page; bytes = bytes }) named.0 in
    let range : in_range (tag (relabelled label bytes next)) ≡ true = ap in_range same ∙ range_still (tag label) bytes named.1 l in
    (ap (λ b. cond b (Some (page_number (tag (relabelled label bytes next)).fid (tag (relabelled label bytes next)).page)) None) range ∙ ap (λ t. Some (page_number t.fid t.page)) (same ∙ told), refl)

-- bytes in place in a value
pub bytes_in_a_value : BytesInAValue
bytes_in_a_value p at offset new below fits =
    let c : ℕ = (tag (sector_at p at).label).bytes in
    let v : List ℕ = (sector_at p at).value in
    let short = length-take c (bytes_of v) in
    let none : put_value offset new [] v ≡ words_of (put_at offset new (bytes_of v)) = ap (λ x. words_of (put_at offset x (bytes_of v))) (append-nil new) in
    ap (λ x. take c (bytes_of x)) none ∙ ap (take c) (bytes_of-put offset new v (omega arith) below) ∙ take-put_at c offset new (bytes_of v) fits

-- with more bytes after them, which stand past the first c
past_in_bytes : (c offset : ℕ) (new more old : List ℕ) → c ≡ offset + length new → c ≤ length old → take c (put_at offset (new ++ more) old) ≡ put_at offset new (take c old)
past_in_bytes c offset new more old is within =
    let front : List ℕ = take offset old in
    let rest : List ℕ = drop (offset + length (new ++ more)) old in
    let short : length front ≡ offset = length-take offset old ∙ (omega arith) in
    let size : length (front ++ new) ≡ c = length-append front new ∙ (omega arith) in
    let parts : (front ++ (new ++ more)) ++ rest ≡ (front ++ new) ++ (more ++ rest) = ap (λ x. x ++ rest) (sym (append_assoc front new more)) ∙ append_assoc (front ++ new) more rest in
    let none : drop (offset + length new) (take c old) ≡ [] = drop_all (offset + length new) (take c old) (rw length-take (omega arith)) in
    ap (take c) parts ∙ take_at (front ++ new) (more ++ rest) c size
    ∙ sym (append-nil (front ++ new)) ∙ ap (λ x. (x ++ new) ++ []) (sym (take-take offset c old (omega arith))) ∙ ap (λ x. (take offset (take c old) ++ new) ++ x) (sym none)

-- so it is of words in a value past the bytes that its label counts
pub past_in_a_value : (p : Pack) (at offset : ℕ) (new past : List ℕ) → All (λ byte. byte < 256) new → All (λ w. w < 65536) past → offset + length new ≤ length (counted_of p at (sector_at p at).value) → offset + length new + length (bytes_of past) ≤ length (bytes_of (sector_at p at).value)
    → (past ≡ []) ⊎ ((tag (sector_at p at).label).bytes ≡ offset + length new) → counted_of p at (put_value offset new past (sector_at p at).value) ≡ put_at offset new (counted_of p at (sector_at p at).value)
past_in_a_value p at offset new past below words fits room (inl none) = ap (λ l. counted_of p at (put_value offset new l (sector_at p at).value)) none ∙ bytes_in_a_value p at offset new below fits
past_in_a_value p at offset new past below words fits room (inr end) =
    let c : ℕ = (tag (sector_at p at).label).bytes in
    let v : List ℕ = (sector_at p at).value in
    let both = length-append new (bytes_of past) in
    ap (take c) (bytes_of-put offset (new ++ bytes_of past) v (omega arith) (All-append (λ byte. byte < 256) new (bytes_of past) below (bytes_below past words)))
    ∙ past_in_bytes c offset new (bytes_of past) (bytes_of v) end (omega arith)
