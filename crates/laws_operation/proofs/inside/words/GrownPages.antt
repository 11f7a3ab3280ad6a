-- The words of a growth and of a widening.
use Rattle.std.proofs.Common.{List, Some, [], ap, append-nil, append_assoc, arith, drop, inl, inr, length, min, subst, suc, sym, take, take-append-drop, ℕ, ◌%◌, ◌*◌, ◌++◌, ◌+◌, ◌-◌, ◌/◌, ◌<◌, ◌∙◌, ◌∷◌, ◌≡◌, ◌≤◌, ◌⊎◌}
use Rattle.std.proofs.lemmas.Bool.{cases_lt, lt-ltb}
use Rattle.std.proofs.lemmas.List.{length-append, length-drop, length-take, take_all}
use Rattle.std.proofs.lemmas.List.Elements.{All-append, All-drop, All-take}
use Rattle.laws_contents.specs.alto_words.specs.declared.fid.Fid.{Fid}
use Rattle.laws_contents.specs.disk_records.specs.Addresses.{pages_of}
use Rattle.laws_contents.specs.disk_records.specs.Labels.{page_of, tag}
use Rattle.laws_contents.specs.disk_records.specs.Packs.{Pack, sector_at}
use Rattle.laws_contents.specs.pack_model.specs.reading.Bytes.{bytes_of, put_at}
use Rattle.laws_contents.specs.pack_model.specs.operations.Commands.{Claimable, all_claimed, claims_of, grown_claims, grown_label, grown_value, last_room, past_last}
use Rattle.laws_contents.specs.pack_model.specs.operations.Committing.{page_of_byte}
use Rattle.laws_contents.specs.pack_model.specs.reading.Files.{file_bytes, place}
use Rattle.laws_contents.specs.pack_model.specs.operations.PageWords.{link_to_first, page_number}
use Rattle.laws_contents.specs.pack_model.specs.reading.Sights.{Sight, sights}
use Rattle.laws_contents.specs.pack_model.specs.states.Whole.{IsLaid, PageAt, Whole}
use Rattle.laws_contents.specs.pack_laws.proofs.Bytes.{bytes_below, bytes_of-put, length-bytes_of}
use Rattle.laws_contents.specs.laws_record.specs.QuietLaws.{counted_of}
use Rattle.laws_operation.proofs.Changing.{length-together}
use Rattle.laws_operation.proofs.Grown.{last_page, old_counted}
use Rattle.laws_operation.proofs.Lying.{bytes_laid, together-append}
use Rattle.laws_operation.proofs.Seating.{carries_none, laid_front}
use Rattle.laws_operation.proofs.inside.Wording.{label_with_another_count}
use Rattle.laws_operation.specs.ByteLaws.{together}
use Rattle.laws_operation.proofs.inside.words.FewPages.{few_pages}
use Rattle.laws_operation.proofs.inside.words.Filled.{take-put_before, take-put_front}
use Rattle.laws_operation.proofs.inside.words.FreshPages.{Hold, after_below, claims_able, claims_hold, free_in, in_pages, pages_laid, pages_together}
use Rattle.laws_operation.proofs.inside.words.Labels.{placed_label, placed_name}
use Rattle.laws_operation.specs.FileWords.{CanGrow, GrowWordsFit}

-- the last page of a whole file counts what its bytes have after full pages
last_count : (p : Pack) (f : Fid) (at : ℕ) → Whole p → place (sights p) f (page_of_byte (length (file_bytes (sights p) f))) ≡ Some at → length (counted_of p at (sector_at p at).value) ≡ length (file_bytes (sights p) f) % 512
last_count p f at w sector =
    let ss : List Sight = sights p in
    let last = last_page ss f at (w.files f) sector in
    let h = last.spot in
    let pages : List PageAt = h.front ++ (at, last.old) ∷ h.later in
    let full : length (together h.front) ≡ 512 * length h.front = length-together h.front (laid_front h.front (at, last.old) h.later h.laid) in
    let size : length (file_bytes ss f) ≡ length (together pages) = ap length (bytes_laid ss f pages (length pages) [] (carries_none ss f pages 0 (length pages) h.carries) (omega arith) h.laid h.few) in
    let ends : together pages ≡ together h.front ++ last.old = together-append h.front ((at, last.old) ∷ h.later) ∙ ap (λ l. together h.front ++ together ((at, last.old) ∷ l)) last.ends ∙ ap (λ x. together h.front ++ x) (append-nil last.old) in
    let all : length (together h.front ++ last.old) ≡ length (together h.front) + length last.old = length-append (together h.front) last.old in
    let same : length (together pages) ≡ length (together h.front ++ last.old) = ap length ends in
    let is : length last.old ≡ length (counted_of p at (sector_at p at).value) = ap length (old_counted p f (length (file_bytes ss f) / 512) at last.old last.shows) in
    let number = h.number in
    omega (arith, full, size, all, same, is, number)

module _ (p : Pack) (f : Fid) (b : ℕ) (new past fresh : List ℕ) (at : ℕ) (w : Whole p) (h : CanGrow p f b new past fresh at) where
  abbrev value : List ℕ
  value = (sector_at p at).value

  abbrev label : List ℕ
  label = (sector_at p at).label

  -- the last page's number
  sector : place (sights p) f (page_of_byte (length (file_bytes (sights p) f))) ≡ Some at
  sector = subst (λ n. place (sights p) f (page_of_byte n) ≡ Some at) h.size h.sector

  -- its bytes
  count : length (take (tag label).bytes (bytes_of value)) ≡ b % 512
  count = last_count p f at w sector ∙ ap (λ n. n % 512) (sym h.size)

  value_size : length (bytes_of value) ≡ 512
  value_size = length-bytes_of value ∙ ap (λ n. 2 * n) h.sized

  counted : take (tag label).bytes (bytes_of value) ≡ take (b % 512) (bytes_of value)
  counted =
      let short : length (take (tag label).bytes (bytes_of value)) ≡ min (tag label).bytes (length (bytes_of value)) = length-take (tag label).bytes (bytes_of value) in
      let n : (tag label).bytes ≡ b % 512 = omega (arith, short, count, value_size) in
      ap (λ n. take n (bytes_of value)) n

  -- the new pages
  first_size : length (take (last_room b) new) ≡ min (last_room b) (length new)
  first_size = length-take (last_room b) new

  rest_size : length (drop (last_room b) new) ≡ length new - last_room b
  rest_size = length-drop (last_room b) new

  -- there are none where the bytes go into the old last page, and else as many as the others want
  abbrev Many : List ℕ → Type 0
  Many fs = ((length fs ≡ 0) × (b % 512 + length new < 512)) ⊎ (Hold (drop (last_room b) new) fs × (last_room b ≤ length new))

  many : Many fresh
  many = elim (cases_lt (b % 512 + length new) 512) [
    | inl less ↦ inl (omega (arith, h.number), less)
    | inr more ↦ inr (omega (arith, h.number, rest_size), omega arith)
  ]

  -- ---- the value of the old last page
  fits : (fs : List ℕ) → Many fs → b % 512 + length (take (last_room b) new ++ bytes_of (past_last past fs)) ≤ 512
  fits [] m =
      let both : length (take (last_room b) new ++ bytes_of past) ≡ length (take (last_room b) new) + length (bytes_of past) = length-append (take (last_room b) new) (bytes_of past) in
      elim m [ inl none ↦ (let less = none.1 in let room = h.room in omega (arith, first_size)) | inr some ↦ absurd (let hold = some.0 in omega arith) ]
  fits (i ∷ fs) m = let both : length (take (last_room b) new ++ []) ≡ length (take (last_room b) new) + 0 = length-append (take (last_room b) new) [] in omega (arith, first_size)

  value_bytes : bytes_of (grown_value b new past fresh value) ≡ put_at (b % 512) (take (last_room b) new ++ bytes_of (past_last past fresh)) (bytes_of value)
  value_bytes = bytes_of-put (b % 512) (take (last_room b) new ++ bytes_of (past_last past fresh)) value (let l = fits fresh many in omega (arith, value_size))
      (All-append (λ x. x < 256) (take (last_room b) new) (bytes_of (past_last past fresh)) (All-take (λ x. x < 256) (last_room b) new h.bytes) (bytes_below (past_last past fresh) (after_below past fresh h.words)))

  -- its counted bytes stay
  kept : counted_of p at (grown_value b new past fresh value) ≡ counted_of p at value
  kept =
      let short : length (take (tag label).bytes (bytes_of value)) ≡ min (tag label).bytes (length (bytes_of value)) = length-take (tag label).bytes (bytes_of value) in
      let n : (tag label).bytes ≡ b % 512 = omega (arith, short, count, value_size) in
      ap (take (tag label).bytes) value_bytes ∙ ap (λ n. take n (put_at (b % 512) (take (last_room b) new ++ bytes_of (past_last past fresh)) (bytes_of value))) n
      ∙ take-put_before (b % 512) (take (last_room b) new ++ bytes_of (past_last past fresh)) (bytes_of value) (omega (arith, value_size)) ∙ sym counted

  -- under its new label they are those and the first new ones
  abbrev more : List ℕ
  more = take (min 512 (b % 512 + length new)) (bytes_of (grown_value b new past fresh value))

  more_is : take (min 512 (b % 512 + length new)) (bytes_of (grown_value b new past fresh value)) ≡ counted_of p at value ++ take (last_room b) new
  more_is =
      let n : min 512 (b % 512 + length new) ≡ b % 512 + length (take (last_room b) new) = omega (arith, first_size) in
      ap (take (min 512 (b % 512 + length new))) value_bytes ∙ ap (λ n. take n (put_at (b % 512) (take (last_room b) new ++ bytes_of (past_last past fresh)) (bytes_of value))) n
      ∙ take-put_front (b % 512) (take (last_room b) new) (bytes_of (past_last past fresh)) (bytes_of value) (omega (arith, value_size)) ∙ ap (λ x. x ++ take (last_room b) new) (sym counted)

  more_size : length (take (min 512 (b % 512 + length new)) (bytes_of (grown_value b new past fresh value))) ≡ min 512 (b % 512 + length new)
  more_size = let z = length-append (counted_of p at value) (take (last_room b) new) in ap length more_is ∙ omega (arith, z, count, first_size)

  -- ---- the claims
  number_is : b / 512 + 2 ≡ suc (page_of_byte b)
  number_is = omega arith

  able : Claimable (sights p) f (page_of_byte (length (file_bytes (sights p) f))) (grown_claims p.shape f b at new past fresh)
  able =
      let less : page_of_byte (length (file_bytes (sights p) f)) + length fresh < pages_of p.shape = few_pages p f at fresh w sector (free_in p fresh h.free) h.distinct in
      let cylinders = p.shape.most in
      let few : page_of_byte b + length fresh ≤ 65535 = omega (arith, h.size) in
      subst (λ n. Claimable (sights p) f n (grown_claims p.shape f b at new past fresh)) (ap page_of_byte h.size)
      (subst (λ n. Claimable (sights p) f (page_of_byte b) (claims_of p.shape f n at (drop (last_room b) new) past fresh)) (sym number_is)
      (claims_able p.shape f past fresh (sights p) (page_of_byte b) at (drop (last_room b) new) (placed_name p f (page_of_byte b) at h.sector) (free_in p fresh h.free) h.distinct few))

  claims_are : all_claimed (grown_claims p.shape f b at new past fresh) ≡ in_pages (drop (last_room b) new) fresh
  claims_are = claims_hold p.shape f past fresh (b / 512 + 2) at (drop (last_room b) new) (All-drop (λ x. x < 256) (last_room b) new h.bytes) h.words
      (elim many [ inl none ↦ (let less = none.1 in let room = h.room in omega (arith, rest_size)) | inr some ↦ (let enough = some.1 in let room = h.room in omega (arith, rest_size)) ])
      (elim many [ inl none ↦ inl none.0 | inr some ↦ inr some.0 ])

  -- all bytes
  bytes_by : (fs : List ℕ) → Many fs → more ++ together (in_pages (drop (last_room b) new) fs) ≡ counted_of p at value ++ new
  bytes_by [] m = elim m [
    | inl none ↦ append-nil more ∙ more_is ∙ ap (λ x. counted_of p at value ++ x) (take_all (last_room b) new (let less = none.1 in omega arith))
    | inr some ↦ absurd (let hold = some.0 in omega arith)
  ]
  bytes_by (i ∷ fs) m = elim m [
    | inl none ↦ absurd (let z = none.0 in omega arith)
    | inr some ↦
        ap (λ x. more ++ x) (pages_together (i ∷ fs) (drop (last_room b) new) some.0) ∙ ap (λ x. x ++ drop (last_room b) new) more_is
        ∙ append_assoc (counted_of p at value) (take (last_room b) new) (drop (last_room b) new) ∙ ap (λ x. counted_of p at value ++ x) (take-append-drop (last_room b) new)
  ]

  -- laid as a file's
  laid_by : (fs : List ℕ) → Many fs → IsLaid ((at, more) ∷ in_pages (drop (last_room b) new) fs)
  laid_by [] m = elim m [ inl none ↦ lt-ltb (length more) 512 (let less = none.1 in omega (arith, more_size)) | inr some ↦ absurd (let hold = some.0 in omega arith) ]
  laid_by (i ∷ fs) m = elim m [
    | inl none ↦ absurd (let z = none.0 in omega arith)
    | inr some ↦ (more_size ∙ (let enough = some.1 in omega arith), pages_laid (i ∷ fs) (drop (last_room b) new) some.0)
  ]

  -- ---- what a growth and a widening want alike
  pub record Grows : Type 0 where
    pub at_last : place (sights p) f (page_of_byte (length (file_bytes (sights p) f))) ≡ Some at
    pub claimable : Claimable (sights p) f (page_of_byte (length (file_bytes (sights p) f))) (grown_claims p.shape f b at new past fresh)
    pub counted_still : counted_of p at (grown_value b new past fresh value) ≡ counted_of p at value
    pub page : page_of (grown_label p.shape b new fresh label) ≡ Some (page_number f (page_of_byte (length (file_bytes (sights p) f))))
    pub laid : IsLaid ((at, more) ∷ all_claimed (grown_claims p.shape f b at new past fresh))
    pub bytes : more ++ together (all_claimed (grown_claims p.shape f b at new past fresh)) ≡ counted_of p at value ++ new

  pub grows : Grows
  grows = record {
    at_last = sector;
    claimable = able;
    counted_still = kept;
    page = (label_with_another_count label (page_number f (page_of_byte (length (file_bytes (sights p) f)))) (min 512 (b % 512 + length new)) (link_to_first p.shape fresh) (placed_label p f (page_of_byte (length (file_bytes (sights p) f))) at sector) (omega arith)).0;
    laid = subst (λ cs. IsLaid ((at, more) ∷ cs)) (sym claims_are) (laid_by fresh many);
    bytes = ap (λ cs. more ++ together cs) claims_are ∙ bytes_by fresh many;
  }

-- a growth
pub grow_words_fit : GrowWordsFit
grow_words_fit p f b new past fresh at w file h =
    let g = grows p f b new past fresh at w h in
    record { file = file; sector = g.at_last; claimable = g.claimable; kept = g.counted_still; page = g.page; laid = g.laid; bytes = g.bytes }
