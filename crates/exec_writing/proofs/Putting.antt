-- Bytes that are put in the place of others, page by page.
use Rattle.std.proofs.Common.{Contains, Err, List, Ok, Result, [], ap, append-nil, append_assoc, arith, drop, inl, inr, length, length-drop, min, refl, subst, suc, sym, take, take_all, zero, ℕ, ◌%◌, ◌++◌, ◌+◌, ◌-◌, ◌<◌, ◌∙◌, ◌∷◌, ◌≡◌, ◌≤◌, ◌⊎◌}
use Rattle.std.proofs.lemmas.List.{drop-drop, length-take}
use Rattle.alto_words.specs.declared.fid.Fid.{Fid}
use Rattle.disk_records.specs.Packs.{Pack}
use Rattle.disk_records.specs.Tapes.{Taped, pack}
use Rattle.disk_records.specs.declared.records.Event.{Event}
use Rattle.disk_records.specs.declared.records.Place.{Place}
use Rattle.file_pages.specs.Putting.{EndsBefore}
use Rattle.exec_session.specs.laws_call.specs.Acting.{Around}
use Rattle.exec_session.specs.laws_line.specs.Ready.{steps_of}
use Rattle.exec_session.specs.laws_steps.proofs.lengths.Laws.{put_keeps_the_length}
use Rattle.exec_session.specs.laws_steps.specs.LineKeepingLaws.{StaysFoundOver}
use Rattle.page_seeking.specs.Refs as refs
use Rattle.page_seeking.specs.Refs.{MisledBy}
use Rattle.page_seeking.specs.Seeking.{file_length}
use Rattle.page_seeking.specs.declared.refs.FileError.{FileError}
use Rattle.page_seeking.specs.declared.refs.FileError.TheVariants as fault
use Rattle.page_seeking.specs.declared.refs.FileRef.{FileRef}
use Rattle.pack_model.specs.hints.Misled.{AnswersMisled}
use Rattle.pack_model.specs.operations.Committing.{length_of}
use Rattle.pack_model.specs.operations.Step.{Operation, step}
use Rattle.pack_model.specs.operations.Step.Operation.{put}
use Rattle.pack_model.specs.reading.Model.{Model, read_as}
use Rattle.session_model.specs.Keeping.{Kept}
use Rattle.session_model.specs.Streams.{puts, puts_from}
use Rattle.exec_session.specs.Meant.{IfHint}
use Rattle.exec_session.specs.Stops.{stop_written}
use Rattle.exec_session.specs.declared.stop.Stop.{Stop}
use Rattle.exec_session.proofs.Finding.{contains_first}
use Rattle.exec_steps.specs.Midway.{Arrived, StepsOn}
use Rattle.exec_steps.proofs.Joining.{step_for, step_of_nothing, steps_err, steps_ok}
use Rattle.exec_steps.proofs.Stepping.{steps_append}
use Rattle.exec_steps.proofs.laws.Laws.{step_stops, steps_join}
use Rattle.exec_writing.specs.Patching.{MayPatchFile}
use Rattle.exec_writing.proofs.Lengths.{model_length}
use Rattle.exec_writing.proofs.Opening.{file_stands_still}
use Rattle.exec_writing.proofs.Stamping.{twice_one}

-- ---- the answer of one put
-- a hint that misled is one of the file's, of which nothing was written, and the file has all these bytes
pub put_hints : (p : Pack) (events : List Event) (file : FileRef) (end : ℕ) (old new : Around) (result : Result (Unit {0}) FileError) → end ≤ file_length p file.fid → refs.IfMisled result (MisledBy p [] file.fid) → refs.IfMisled result (λ place at wanted found. events ≡ []) → refs.IfBeyond result (EndsBefore p file.fid end old new)
    → IfHint (stop_written file result) (λ place at wanted found. Contains (file.fid ∷ []) wanted.fid × AnswersMisled p events place at wanted found)
put_hints p events file end old new (Ok x) within misled silent beyond = tt
put_hints p events file end old new (Err (fault.Misled place at wanted found)) within misled silent beyond =
    (subst (Contains (file.fid ∷ [])) (sym misled.own) (contains_first file.fid []), subst (λ es. AnswersMisled p es place at wanted found) (sym silent) misled.answers)
put_hints p events file end old new (Err (fault.Beyond length)) within misled silent beyond = let is = beyond.is in let past = beyond.past in absurd (omega (arith, within, is, past))
put_hints p events file end old new (Err fault.DiskFault) within misled silent beyond = tt
put_hints p events file end old new (Err fault.Memory) within misled silent beyond = tt

-- ---- the operations, one a page
nothing_left : (fuel : ℕ) (f : Fid) (at : ℕ) → puts_from fuel f at [] ≡ []
nothing_left zero f at = refl
nothing_left (suc fuel) f at = refl

-- more fuel than bytes is none
enough : (fuel more : ℕ) (f : Fid) (at : ℕ) (bytes : List ℕ) → length bytes ≤ fuel → length bytes ≤ more → puts_from fuel f at bytes ≡ puts_from more f at bytes
enough fuel more f at [] few also = nothing_left fuel f at ∙ sym (nothing_left more f at)
enough zero more f at (b ∷ bytes) few also = absurd (omega (arith, few))
enough (suc fuel) zero f at (b ∷ bytes) few also = absurd (omega (arith, also))
enough (suc fuel) (suc more) f at (b ∷ bytes) few also =
    let r = 512 - at % 512 in
    let left = length-drop r (b ∷ bytes) in
    let some : 1 ≤ r = omega arith in
    ap (λ l. put f at (take r (b ∷ bytes)) ∷ l) (enough fuel more f (at + r) (drop r (b ∷ bytes)) (omega (arith, left, few, some)) (omega (arith, left, also, some)))

le_or_less : (a b : ℕ) → (a ≤ b) ⊎ (b < a)
le_or_less zero b = inl (omega arith)
le_or_less (suc a) zero = inr (omega arith)
le_or_less (suc a) (suc b) = elim (le_or_less a b) [ inl l ↦ inl (omega (arith, l)) | inr l ↦ inr (omega (arith, l)) ]

no_items : (xs : List ℕ) → length xs ≡ 0 → xs ≡ []
no_items [] e = refl
no_items (x ∷ xs) e = cc

-- what is left after as many as lie in the page
rest_is : (f : Fid) (at n r : ℕ) (bytes : List ℕ) → n ≡ min (length bytes) r → puts_from (length bytes) f (at + r) (drop r bytes) ≡ puts f (at + n) (drop n bytes)
rest_is f at n r bytes is = elim (le_or_less r (length bytes)) [
  | inl within ↦
      let same : r ≡ n = omega (arith, is, within) in
      let left = length-drop r bytes in
      enough (length bytes) (length (drop r bytes)) f (at + r) (drop r bytes) (omega (arith, left)) (omega arith) ∙ ap (λ k. puts f (at + k) (drop k bytes)) same
  | inr past ↦
      let all : n ≡ length bytes = omega (arith, is, past) in
      let none = no_items (drop r bytes) (let left = length-drop r bytes in omega (arith, left, past)) in
      let gone = no_items (drop n bytes) (let left = length-drop n bytes in omega (arith, left, all)) in
      ap (puts_from (length bytes) f (at + r)) none ∙ nothing_left (length bytes) f (at + r) ∙ sym (ap (puts f (at + n)) gone ∙ nothing_left 0 f (at + n))
]

pub puts_first : (f : Fid) (at n : ℕ) (bytes : List ℕ) → 0 < length bytes → n ≡ min (length bytes) (512 - at % 512) → puts f at bytes ≡ put f at (take (512 - at % 512) bytes) ∷ puts f (at + n) (drop n bytes)
puts_first f at n [] some is = absurd (omega (arith, some))
puts_first f at n (b ∷ bytes) some is =
    let r = 512 - at % 512 in
    let left = length-drop r (b ∷ bytes) in
    let one : 1 ≤ r = omega arith in
    ap (λ l. put f at (take r (b ∷ bytes)) ∷ l)
    (enough (length bytes) (length (b ∷ bytes)) f (at + r) (drop r (b ∷ bytes)) (omega (arith, left, one)) (omega (arith, left)) ∙ rest_is f at n r (b ∷ bytes) is)

-- ---- so far
-- These puts are done, of the file whose bytes are to be put; the others are left.
pub record PutSoFar (a b : Taped) (one two : Kept) (file : FileRef) (offset : ℕ) (bytes : List ℕ) (done : ℕ) : Type 0 where
  pub first : List Operation
  pub split : first ++ puts file.fid (offset + done) (drop done bytes) ≡ puts file.fid offset bytes
  pub stays : (m : Model) → StaysFoundOver m first file.fid file.from
  pub lengths : (m : Model) → offset + length bytes ≤ length_of m file.fid → length_of (steps_of m first) file.fid ≡ length_of m file.fid
  pub steps : StepsOn {T = Unit {0}} a b one two first [] (file.fid ∷ []) (Ok tt)

stays_both : (f : Fid) (from : Place) (ops more : List Operation) (m : Model) → StaysFoundOver m ops f from → ((n : Model) → StaysFoundOver n more f from) → StaysFoundOver m (ops ++ more) f from
stays_both f from [] more m h k = k m
stays_both f from (o ∷ ops) more m h k = (h.0, stays_both f from ops more (step m o) h.1 k)

pub none_put : (a : Taped) (one : Kept) (file : FileRef) (offset : ℕ) (bytes : List ℕ) → PutSoFar a a one one file offset bytes 0
none_put a one file offset bytes = record {
  first = [];
  split = let same : offset + 0 ≡ offset = omega arith in ap (λ at. puts file.fid at bytes) same;
  stays = λ m. tt;
  lengths = λ m within. refl;
  steps = step_of_nothing a one (file.fid ∷ []) tt;
}

module _ (a b c : Taped) (one two three : Kept) (file : FileRef) (offset : ℕ) (bytes : List ℕ) (done : ℕ) (may : MayPatchFile (pack a) file offset bytes) (so : PutSoFar a b one two file offset bytes done) (more : done < length bytes) where
  abbrev f : Fid
  f = file.fid

  abbrev at : ℕ
  at = offset + done

  abbrev rest : List ℕ
  rest = drop done bytes

  abbrev next : Operation
  next = put f at (take (512 - at % 512) rest)

  -- the file is as long as it was
  may_still : {left : List ℕ} → Arrived (pack a) (pack b) two so.first left → MayPatchFile (pack b) file at rest
  may_still arrived =
      let found = file_stands_still file arrived so.stays may.found in
      let was = model_length (pack a) file may.found in
      let within = may.within in
      let same : file_length (pack b) f ≡ file_length (pack a) f =
      sym (model_length (pack b) file found) ∙ ap (λ m. length_of m f) arrived.reads ∙ so.lengths (read_as (pack a)) (omega (arith, within, was)) ∙ was
      in
      let left = length-drop done bytes in
      record { found = found; within = omega (arith, within, same, left, more) }

  joined : (result : Result (Unit {0}) Stop) → (MayPatchFile (pack b) file at rest → StepsOn b c two three (next ∷ []) [] (f ∷ []) result) → StepsOn a c one three (so.first ++ next ∷ []) [] (f ∷ []) result
  joined result steps =
      step_for a c one three (so.first ++ next ∷ []) [] ((f ∷ []) ++ (f ∷ [])) (f ∷ []) result (twice_one f)
      (steps_join (Unit {0}) (Unit {0}) a b c one two three so.first (next ∷ []) [] [] (f ∷ []) (f ∷ []) tt result so.steps (λ left arrived. steps (may_still arrived)))

  -- a put that isn't done ends all
  pub puts_stop : (e : Stop) → (MayPatchFile (pack b) file at rest → StepsOn {T = ℕ} b c two three (next ∷ []) [] (f ∷ []) (Err e)) → StepsOn {T = Unit {0}} a c one three (puts f offset bytes) [] (f ∷ []) (Err e)
  puts_stop e steps =
      let left = length-drop done bytes in
      let n = min (length rest) (512 - at % 512) in
      let later = puts f (at + n) (drop n rest) in
      let all : (so.first ++ next ∷ []) ++ later ≡ puts f offset bytes = append_assoc so.first (next ∷ []) later ∙ ap (λ l. so.first ++ l) (sym (puts_first f at n rest (omega (arith, left, more)) refl)) ∙ so.split in
      subst (λ ops. StepsOn {T = Unit {0}} a c one three ops [] (f ∷ []) (Err e)) all
      (step_stops (Unit {0}) (Unit {0}) a c one three (so.first ++ next ∷ []) later [] [] (f ∷ []) [] e (joined (Err e) (λ still. steps_err (Unit {0}) ℕ b c two three (next ∷ []) [] (f ∷ []) e (steps still))))

  pub puts_more : (n : ℕ) → n ≡ min (length rest) (512 - at % 512) → (MayPatchFile (pack b) file at rest → StepsOn b c two three (next ∷ []) [] (f ∷ []) (Ok n)) → PutSoFar a c one three file offset bytes (done + n)
  puts_more n is steps =
      let left = length-drop done bytes in
      let some : 0 < length rest = omega (arith, left, more) in
      let further : at + n ≡ offset + (done + n) = omega arith in
      record {
        first = so.first ++ next ∷ [];
        split =
            append_assoc so.first (next ∷ []) (puts f (offset + (done + n)) (drop (done + n) bytes))
            ∙ ap (λ l. so.first ++ next ∷ l) (ap (λ k. puts f k (drop (done + n) bytes)) (sym further) ∙ ap (puts f (at + n)) (sym (drop-drop n done bytes)))
            ∙ ap (λ l. so.first ++ l) (sym (puts_first f at n rest some is))
            ∙ so.split;
        stays = λ m. stays_both f file.from so.first (next ∷ []) m (so.stays m) (λ k. (tt, tt));
        lengths = λ m within.
            let kept = so.lengths m within in
            let taken = length-take (512 - at % 512) rest in
            ap (λ k. length_of k f) (steps_append m so.first (next ∷ []))
            ∙ put_keeps_the_length (steps_of m so.first) f at (take (512 - at % 512) rest) (omega (arith, kept, within, taken, left, more))
            ∙ kept;
        steps = joined (Ok tt) (λ still. steps_ok (Unit {0}) ℕ b c two three (next ∷ []) [] (f ∷ []) n tt (steps still));
      }

-- all are done
pub puts_end : (a b : Taped) (one two : Kept) (file : FileRef) (offset : ℕ) (bytes : List ℕ) (done : ℕ) → length bytes ≤ done → PutSoFar a b one two file offset bytes done → StepsOn {T = Unit {0}} a b one two (puts file.fid offset bytes) [] (file.fid ∷ []) (Ok tt)
puts_end a b one two file offset bytes done all so =
    let left = length-drop done bytes in
    let none = no_items (drop done bytes) (omega (arith, left, all)) in
    let are : so.first ≡ puts file.fid offset bytes = sym (append-nil so.first) ∙ ap (λ l. so.first ++ l) (sym (ap (puts file.fid (offset + done)) none ∙ nothing_left 0 file.fid (offset + done))) ∙ so.split in
    subst (λ ops. StepsOn {T = Unit {0}} a b one two ops [] (file.fid ∷ []) (Ok tt)) are so.steps

-- the bytes from one on
pub tail_is : (n : ℕ) (bytes : List ℕ) → take (length bytes - n) (drop n bytes) ≡ drop n bytes
tail_is n bytes = let left = length-drop n bytes in take_all (length bytes - n) (drop n bytes) (omega (arith, left))

-- as many bytes as lie in the page
pub part_is : (n r : ℕ) (bytes : List ℕ) → n ≡ min (length bytes) r → take n bytes ≡ take r bytes
part_is n r bytes is = elim (le_or_less r (length bytes)) [
  | inl within ↦ let same : n ≡ r = omega (arith, is, within) in ap (λ k. take k bytes) same
  | inr past ↦ take_all n bytes (omega (arith, is, past)) ∙ sym (take_all r bytes (omega (arith, past)))
]
