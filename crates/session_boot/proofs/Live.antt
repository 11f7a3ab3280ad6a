-- Lines as their keys are taken: all of them ended so far, or no key counts any more.
use Rattle.std.proofs.Common.{◌≡◌, ℕ, ◌+◌, ◌≤◌, List, [], ◌∷◌, ◌++◌, length, take, drop, refl, sym, ◌∙◌, ap, subst, arith, append_assoc}
use Rattle.std.proofs.lemmas.List.{take_all, append-nil, length-append, length-take, take-append-drop}
use Rattle.std.proofs.Math.Seq.{take-append-add, drop-append-add}
use Rattle.executive.specs.pack_model.specs.sessions.Lines.{lines, lines_from, ended_lines, ended_from, most_keys, keys_of}
use Rattle.executive.specs.pack_laws.proofs.Lining.{rest_from, lines-append, ended-append, rest-append, lines_split}
use Rattle.disk_records.specs.Tapes.{IsUnbroken}
use Rattle.session_boot.specs.Keys.{TookEnded, TookRest, TookLast}
use Rattle.session_boot.proofs.LineEnds.{unbroken_ended, unbroken_rest, whole_line, keys_of-push, ended_few}

-- All lines so far have ended, and so many keys still count.
pub record Live (old now : List ℕ) (left : ℕ) (done : List (List ℕ)) : Type 0 where
  pub taken : List ℕ
  pub split : old ≡ taken ++ now
  pub counted : length taken + left ≡ most_keys
  pub ended : ended_from [] taken ≡ done
  pub rest : rest_from [] taken ≡ []
  pub typed : taken ≡ keys_of done

-- All lines are taken, and no key counts any more.
pub record Over (old now : List ℕ) (left : ℕ) (done : List (List ℕ)) : Type 0 where
  pub taken : List ℕ
  pub split : old ≡ taken ++ now
  pub all : lines old ≡ done
  pub ahead : length (ended_lines taken) ≤ length done
  pub are_taken : length done ≤ length (lines taken)
  pub keys : now ≡ drop most_keys old
  pub spent : left ≡ 0

pub live_start : (keys : List ℕ) → Live keys keys most_keys []
live_start keys = record { taken = []; split = refl; counted = omega arith; ended = refl; rest = refl; typed = refl }

took_all : (n : ℕ) (keys : List ℕ) → take n keys ++ drop n keys ≡ keys
took_all n keys = take-append-drop n keys

pub split_more : (old taken more rest now : List ℕ) → old ≡ taken ++ rest → rest ≡ more ++ now → old ≡ (taken ++ more) ++ now
split_more old taken more rest now old_is rest_is = old_is ∙ ap (λ l. taken ++ l) rest_is ∙ sym (append_assoc taken more now)

module _ {old mid : List ℕ} {before : ℕ} {done : List (List ℕ)} (live : Live old mid before done) where
  -- the lines are those so far and those of the keys that are left
  pub live_lines : lines old ≡ done ++ lines_from [] (take before mid)
  live_lines =
      ap (λ k. lines_from [] (take k old)) (sym live.counted)
      ∙ ap (λ l. lines_from [] (take (length live.taken + before) l)) live.split
      ∙ ap (lines_from []) (take-append-add live.taken mid before)
      ∙ lines-append [] live.taken (take before mid)
      ∙ ap (λ l. l ++ lines_from (rest_from [] live.taken) (take before mid)) live.ended
      ∙ ap (λ l. done ++ lines_from l (take before mid)) live.rest

  pub live_keys : drop most_keys old ≡ drop before mid
  live_keys = ap (λ k. drop k old) (sym live.counted) ∙ ap (drop (length live.taken + before)) live.split ∙ drop-append-add live.taken mid before

  -- the lines that ended within the keys taken and some more without a line's end
  pub live_part : (part : List ℕ) → IsUnbroken part → length part ≤ before → ended_lines (live.taken ++ part) ≡ done
  live_part part unbroken counted =
      let few : length (live.taken ++ part) ≤ most_keys = omega (arith, live.counted, counted, length-append live.taken part) in
      ap (ended_from []) (take_all most_keys (live.taken ++ part) few)
      ∙ ended-append [] live.taken part
      ∙ ap (λ l. l ++ ended_from (rest_from [] live.taken) part) live.ended
      ∙ ap (λ l. done ++ ended_from l part) live.rest
      ∙ ap (λ l. done ++ l) (unbroken_ended [] part unbroken)
      ∙ append-nil done

  -- so many as were taken
  live_ended_lines : length (ended_lines live.taken) ≡ length done
  live_ended_lines = ap length (ap ended_lines (sym (append-nil live.taken)) ∙ live_part [] tt (omega arith))

  pub live_ahead : length (ended_lines live.taken) ≤ length done
  live_ahead = omega (arith, live_ended_lines)

  pub live_after : length done ≤ length (lines live.taken)
  live_after = omega (arith, live_ended_lines, ended_few live.taken)

  -- the lines of the keys taken and of some more
  live_more : (rest : List ℕ) → length rest ≤ before → lines (live.taken ++ rest) ≡ done ++ lines_from [] rest
  live_more rest counted =
      let few : length (live.taken ++ rest) ≤ most_keys = omega (arith, live.counted, counted, length-append live.taken rest) in
      ap (lines_from []) (take_all most_keys (live.taken ++ rest) few)
      ∙ lines-append [] live.taken rest
      ∙ ap (λ l. l ++ lines_from (rest_from [] live.taken) rest) live.ended
      ∙ ap (λ l. done ++ lines_from l rest) live.rest

  -- the keys that count are at their end, and these lines were in them
  pub live_rest : {new : List ℕ} {after : ℕ} {whole : List ℕ} (more : List (List ℕ)) → lines_from [] whole ≡ more → TookRest mid new before after whole → Over old new after (done ++ more)
  live_rest {new} {after} {whole} more are t =
      record {
        taken = live.taken ++ take before mid;
        split = split_more old live.taken (take before mid) mid new live.split (sym (took_all before mid) ∙ ap (λ l. take before mid ++ l) (sym t.rest));
        all = live_lines ∙ ap (λ l. done ++ lines_from [] l) t.is ∙ ap (λ l. done ++ l) are;
        ahead =
            let within : length (take before mid) ≤ before = omega (arith, length-take before mid) in
            let ended = ap length (live_part (take before mid) (subst IsUnbroken (sym t.is) t.unbroken) within) in
            omega (arith, ended, length-append done more);
        are_taken =
            let within : length (take before mid) ≤ before = omega (arith, length-take before mid) in
            let same = ap length (live_more (take before mid) within ∙ ap (λ l. done ++ lines_from [] l) t.is ∙ ap (λ l. done ++ l) are) in
            omega (arith, same);
        keys = t.rest ∙ sym live_keys;
        spent = t.spent;
      }

  -- a line more has ended
  pub live_ended : {new : List ℕ} {after : ℕ} {line : List ℕ} (t : TookEnded mid new before after line) → Live old new after (done ++ t.whole ∷ [])
  live_ended {new} {after} t =
      let one : ended_from [] (t.whole ++ 10 ∷ []) ≡ t.whole ∷ [] =
      ended-append [] t.whole (10 ∷ []) ∙ ap (λ l. l ++ ended_from (rest_from [] t.whole) (10 ∷ [])) (unbroken_ended [] t.whole t.unbroken) ∙ ap (λ l. ended_from l (10 ∷ [])) (unbroken_rest [] t.whole t.unbroken) in
      let none : rest_from [] (t.whole ++ 10 ∷ []) ≡ [] = rest-append [] t.whole (10 ∷ []) in
      record {
        taken = live.taken ++ (t.whole ++ 10 ∷ []);
        split = split_more old live.taken (t.whole ++ 10 ∷ []) mid new live.split (t.split ∙ sym (append_assoc t.whole (10 ∷ []) new));
        counted = omega (arith, live.counted, t.counted, length-append live.taken (t.whole ++ 10 ∷ []), length-append t.whole (10 ∷ []));
        ended = ended-append [] live.taken (t.whole ++ 10 ∷ []) ∙ ap (λ l. l ++ ended_from (rest_from [] live.taken) (t.whole ++ 10 ∷ [])) live.ended ∙ ap (λ l. done ++ ended_from l (t.whole ++ 10 ∷ [])) live.rest ∙ ap (λ l. done ++ l) one;
        rest = rest-append [] live.taken (t.whole ++ 10 ∷ []) ∙ ap (λ l. rest_from l (t.whole ++ 10 ∷ [])) live.rest ∙ none;
        typed = ap (λ l. l ++ (t.whole ++ 10 ∷ [])) live.typed ∙ sym (keys_of-push done t.whole);
      }

  -- a last line that hasn't
  pub live_last : {new : List ℕ} {after : ℕ} {line : List ℕ} (t : TookLast mid new before after line) → Over old new after (done ++ t.whole ∷ [])
  live_last t =
      let one : lines_from [] t.whole ≡ t.whole ∷ [] =
      lines_split [] t.whole ∙ ap (λ l. l ++ lines_from (rest_from [] t.whole) []) (unbroken_ended [] t.whole t.took.unbroken) ∙ ap (λ l. lines_from l []) (unbroken_rest [] t.whole t.took.unbroken) ∙ whole_line t.whole t.some in
      live_rest (t.whole ∷ []) one t.took
