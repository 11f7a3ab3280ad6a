-- The bytes of a file that are read in parts, and how many sector commands they take.
use Rattle.std.proofs.Common.{◌≡◌, ◌⊎◌, ◌≤◌, ◌<◌, ◌+◌, ◌-◌, ◌*◌, ◌/◌, ℕ, zero, suc, Bool, List, ◌++◌, length, min, take, drop, replicate, append_assoc, inl, inr, Result, Ok, Err, IfOk, refl, sym, ap, subst, ◌∙◌, arith}
use Rattle.std.proofs.Math.Seq.{take-add, take-append-add}
use Rattle.std.proofs.lemmas.List.{length-append, length-drop, length-take-le, take-append-le, length-replicate, take-take, take_all, take_at}
use Rattle.std.specs.Result.{IsErrAnd}
use Rattle.alto_words.specs.declared.fid.Fid.{Fid}
use Rattle.disk_records.specs.Packs.{Pack}
use Rattle.disk_records.specs.Tapes.{Taped, pack}
use Rattle.hint_cache.specs.Caches.{Cached}
use Rattle.directory.specs.laws_midway.proofs.growing.Laws.{last_page_has_a_number}
use Rattle.page_seeking.specs.Parts.{IsWithinPart, ListsNext}
use Rattle.page_seeking.specs.Seeking.{Refused, file_length}
use Rattle.pack_model.specs.operations.Committing.{page_of_byte}
use Rattle.pack_model.specs.states.Whole.{Whole}
use Rattle.exec_session.specs.Contents.{FewForParts, HasParts, IsNextPart, IsNoted}
use Rattle.exec_session.specs.declared.stop.Stop.{Stop}

-- an error says nothing of what Ok gives
pub ok_of_error : {U : Type 0} (P : Stop → Type 0) (Q : U → Type 0) (r : Result U Stop) → IsErrAnd r P → IfOk r Q
ok_of_error P Q (Ok x) is = absurd is
ok_of_error P Q (Err x) is = tt

-- ---- bytes
pub parts_more : (bytes : List ℕ) (k n : ℕ) (read now : List ℕ) → HasParts bytes k read → IsNextPart bytes (k * 4096) read now n → n ≡ 4096 → HasParts bytes (k + 1) now
parts_more bytes k n read now h x whole =
    let many = x.many in
    let within = x.within in
    let next : (k + 1) * 4096 ≡ k * 4096 + 4096 = omega arith in
    record {
      there = omega (arith, many, within, whole);
      read_are =
          x.read ∙ ap (λ m. read ++ take m (drop (k * 4096) bytes)) whole ∙ ap (λ l. l ++ take 4096 (drop (k * 4096) bytes)) h.read_are
          ∙ sym (ap (λ m. take m bytes) next ∙ take-add (k * 4096) 4096 bytes);
    }

pub parts_end : (bytes : List ℕ) (k n : ℕ) (read now : List ℕ) → HasParts bytes k read → IsNextPart bytes (k * 4096) read now n → n < 4096 → now ≡ bytes
parts_end bytes k n read now h x few =
    let many = x.many in
    let within = x.within in
    let all : length bytes ≤ k * 4096 + n = omega (arith, many, within, few) in
    x.read ∙ ap (λ l. l ++ take n (drop (k * 4096) bytes)) h.read_are ∙ sym (take-add (k * 4096) n bytes) ∙ take_all (k * 4096 + n) bytes all

-- ---- a part that is read where it stays
-- the bytes grow by zeros
pub grown_by_part : (at held : ℕ) (read room grown : List ℕ) → at ≡ length read → at ≡ held → grown ≡ room → room ≡ take (at + 4096) read ++ replicate (at + 4096 - held) 0 → grown ≡ read ++ replicate 4096 0
grown_by_part at held read room grown from same lent is =
    let all : take (at + 4096) read ≡ read = take_all (at + 4096) read (omega (arith, from)) in
    let more : at + 4096 - held ≡ 4096 = omega (arith, same) in
    lent ∙ is ∙ (λ i. all i ++ replicate (more i) 0)

-- what is lent has a part's length
pub part_sized : (read grown : List ℕ) (at : ℕ) → grown ≡ read ++ replicate 4096 0 → at ≡ length read → length (take (length grown - at) (drop at grown)) ≡ 4096
part_sized read grown at same from =
    let left : length (drop at grown) ≡ length grown - at = length-drop at grown in
    let taken : length (take (length grown - at) (drop at grown)) ≡ length grown - at = length-take-le (length grown - at) (drop at grown) (omega (arith, left)) in
    let zeros : List ℕ = replicate 4096 0 in
    let many : length zeros ≡ 4096 = length-replicate {A = ℕ} 4096 0 in
    let all : length grown ≡ length read + length zeros = ap length same ∙ length-append read zeros in
    omega (arith, taken, all, many, from)

-- the part takes the place of its zeros, and those that it hasn't are cut off
pub part_in_place : (read grown now rest more : List ℕ) (n at long : ℕ) → grown ≡ read ++ replicate 4096 0 → at ≡ length read → n ≤ length now → at + n ≤ long → take (at + n) (take long ((take at grown ++ (now ++ rest)) ++ more)) ≡ read ++ take n now
part_in_place read grown now rest more n at long same from fits within =
    let front : take at grown ≡ read = ap (take at) same ∙ take_at read (replicate 4096 0) at (sym from) in
    let joined : (read ++ (now ++ rest)) ++ more ≡ read ++ (now ++ (rest ++ more)) = simp append_assoc in
    take-take (at + n) long ((take at grown ++ (now ++ rest)) ++ more) within
    ∙ ap (λ l. take (at + n) ((l ++ (now ++ rest)) ++ more)) front
    ∙ (λ i. take (from i + n) (joined i))
    ∙ take-append-add read (now ++ (rest ++ more)) n
    ∙ ap (λ l. read ++ l) (take-append-le n now (rest ++ more) fits)

-- ---- a part after the others
-- one part, by the call that read it into a buffer of as many bytes
pub next_part : (bytes : List ℕ) (offset n : ℕ) (part now read new : List ℕ) → length part ≡ 4096 → IsWithinPart bytes offset part now n → new ≡ read ++ take n now → IsNextPart bytes offset read new n
next_part bytes offset n part now read new size h is =
    let many : n ≡ min 4096 (length bytes - offset) = h.part.many ∙ ap (λ k. min k (length bytes - offset)) size in
    let left : length (drop offset bytes) ≡ length bytes - offset = length-drop offset bytes in
    let fits : n ≤ length (drop offset bytes) = omega (arith, many, left) in
    let taken : length (take n (drop offset bytes)) ≡ n = length-take-le n (drop offset bytes) fits in
    record {
      within = h.within;
      many = many;
      read =
          is ∙ ap (λ l. read ++ take n l) h.part.read
          ∙ ap (λ l. read ++ l) (take-append-le n (take n (drop offset bytes)) (drop n part) (omega (arith, taken)) ∙ take_all n (take n (drop offset bytes)) (omega (arith, taken)));
    }

pub part_many : (n : ℕ) (part now read new : List ℕ) → length part ≡ 4096 → length now ≡ 4096 → n ≤ length part → new ≡ read ++ take n now → (n ≤ 4096) × (length new ≡ length read + n)
part_many n part now read new size same fits is =
    let taken : length (take n now) ≡ n = length-take-le n now (omega (arith, size, same, fits)) in
    let both : length new ≡ length read + length (take n now) = ap length is ∙ length-append read (take n now) in
    (omega (arith, size, fits), omega (arith, both, taken))

-- no file of a whole pack has as many
pub too_many_parts : (p : Pack) (f : Fid) (k : ℕ) (bytes read : List ℕ) → Whole p → length bytes ≡ file_length p f → 8192 ≤ k → HasParts bytes k read → ⊥
too_many_parts p f k bytes read whole is many h =
    let most = last_page_has_a_number p f whole in
    let there = h.there in
    omega (arith, most, there, is)

-- ---- sector commands
-- what the cache lists next, since a call began with another cache
next_noted : (told : Bool) (p : Pack) (f : Fid) (offset : ℕ) (a b c : Cached) → a.refused ≤ b.refused → ListsNext told p f offset b c → IsNoted told p f offset c ⊎ Refused a c
next_noted told p f offset a b c grows next = elim next [ inl listed ↦ inl listed | inr rose ↦ inr (omega (arith, grows, rose)) ]

none_or_some : (k : ℕ) → (k ≡ 0) ⊎ (1 ≤ k)
none_or_some zero = inl refl
none_or_some (suc k) = inr (omega arith)

module _ (told : Bool) (f : Fid) (k n : ℕ) (old mid new : Taped) (before cache now : Cached) (few : FewForParts told f k old mid before cache) (same : pack mid ≡ pack old)
    (quick : k ≡ 0 → new.runs ≤ mid.runs + (page_of_byte (k * 4096 + n) + 1)) where
  noted_there : IsNoted told (pack old) f (k * 4096) cache → IsNoted told (pack mid) f (k * 4096) cache
  noted_there noted = subst (λ p. IsNoted told p f (k * 4096) cache) (sym same) noted

  -- one whole part more
  pub few_more : before.refused ≤ cache.refused → cache.refused ≤ now.refused
      → (IsNoted told (pack mid) f (k * 4096) cache → n ≡ 4096 → new.runs + page_of_byte (k * 4096) ≤ mid.runs + (page_of_byte (k * 4096 + n - 1) + 1))
      → ListsNext told (pack mid) f (k * 4096 + n) cache now → n ≡ 4096 → FewForParts told f (k + 1) old new before now
  few_more grows goes filled next whole = record {
    first = λ none. absurd (omega (arith, none));
    later = λ some. elim (none_or_some k) [ inl none ↦ listed (none_runs none) | inr more ↦ elim (few.later more) [ inl few ↦ listed (more_runs few.0 (filled (noted_there few.1) whole)) | inr rose ↦ inr (omega (arith, rose, goes)) ] ];
  }
    where
      place : k * 4096 + n ≡ (k + 1) * 4096
      place = omega (arith, whole)

      none_runs : k ≡ 0 → new.runs ≤ old.runs + (8 * (k + 1) + 2)
      none_runs none =
          let start = few.first none in
          let then = quick none in
          omega (arith, start, then, none, whole)

      more_runs : mid.runs ≤ old.runs + (8 * k + 2) → new.runs + page_of_byte (k * 4096) ≤ mid.runs + (page_of_byte (k * 4096 + n - 1) + 1) → new.runs ≤ old.runs + (8 * (k + 1) + 2)
      more_runs so_far then = omega (arith, so_far, then, whole)

      listed : new.runs ≤ old.runs + (8 * (k + 1) + 2) → ((new.runs ≤ old.runs + (8 * (k + 1) + 2)) × IsNoted told (pack old) f ((k + 1) * 4096) now) ⊎ Refused before now
      listed runs = elim (next_noted told (pack mid) f (k * 4096 + n) before cache now grows next) [
        | inl noted ↦ inl (runs, subst (λ p. IsNoted told p f ((k + 1) * 4096) now) same (subst (λ i. IsNoted told (pack mid) f i now) place noted))
        | inr rose ↦ inr rose
      ]

  -- the last part
  pub few_end : (bytes read all : List ℕ) → length bytes ≡ file_length (pack old) f → IsNextPart bytes (k * 4096) read all n → n < 4096 → cache.refused ≤ now.refused
      → (IsNoted told (pack mid) f (k * 4096) cache → new.runs + page_of_byte (k * 4096) ≤ mid.runs + (page_of_byte (k * 4096 + n) + 1))
      → (new.runs ≤ old.runs + (file_length (pack old) f / 512 + 3)) ⊎ Refused before now
  few_end bytes read all is x short goes soon = elim (none_or_some k) [
    | inl none ↦ inl (none_runs none)
    | inr more ↦ elim (few.later more) [ inl few ↦ inl (more_runs few.0 (soon (noted_there few.1))) | inr rose ↦ inr (omega (arith, rose, goes)) ]
  ]
    where
      last : k * 4096 + n ≡ file_length (pack old) f
      last =
          let many = x.many in
          let within = x.within in
          omega (arith, many, within, short, is)

      none_runs : k ≡ 0 → new.runs ≤ old.runs + (file_length (pack old) f / 512 + 3)
      none_runs none =
          let start = few.first none in
          let then = quick none in
          omega (arith, start, then, none, last)

      more_runs : mid.runs ≤ old.runs + (8 * k + 2) → new.runs + page_of_byte (k * 4096) ≤ mid.runs + (page_of_byte (k * 4096 + n) + 1) → new.runs ≤ old.runs + (file_length (pack old) f / 512 + 3)
      more_runs so_far then = omega (arith, so_far, then, last)
