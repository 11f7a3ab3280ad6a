-- The lines of the keys, whether all of them ended so far or no key counts any more.
use Rattle.std.proofs.Common.{◌≡◌, ◌⊎◌, inl, inr, ℕ, ◌+◌, ◌≤◌, List, [], ◌∷◌, ◌++◌, length, take, drop, refl, sym, ◌∙◌, ap, subst, arith}
use Rattle.std.proofs.lemmas.List.{append-nil}
use Rattle.std.proofs.lemmas.Bool.{cases_lt}
use Rattle.executive.specs.pack_model.specs.sessions.Lines.{lines, lines_from, ended_lines, keys_of, TookLines}
use Rattle.session_boot.specs.Keys.{kept_of, TookEnded, TookRest, TookLast, TookPart}
use Rattle.session_boot.proofs.Live.{Live, Over, split_more, live_lines, live_keys, live_part, live_ahead, live_after, live_rest, live_ended, live_last}

-- Either of them.
abbrev pub Lined : List ℕ → List ℕ → ℕ → List (List ℕ) → Type 0
Lined old now left done = Live old now left done ⊎ Over old now left done

-- the lines begin with those so far
pub lined_front : {old mid : List ℕ} {before : ℕ} {done : List (List ℕ)} → Lined old mid before done → (more : List (List ℕ)) × (lines old ≡ done ++ more)
lined_front {mid = mid} {before} (inl live) = (lines_from [] (take before mid), live_lines live)
lined_front {done = done} (inr over) = ([], over.all ∙ sym (append-nil done))

-- the keys that were taken: those of these lines, and no more
pub record LinesTaken (old mid : List ℕ) (done : List (List ℕ)) : Type 0 where
  pub taken : List ℕ
  pub split : old ≡ taken ++ mid
  pub ahead : length (ended_lines taken) ≤ length done
  pub are_taken : length done ≤ length (lines taken)
  pub exact : TookLines old mid taken (length done)

-- so many first lines are these
these_lines : (done more : List (List ℕ)) → take (length done) (done ++ more) ≡ done
these_lines [] more = refl
these_lines (line ∷ done) more = ap (λ l. line ∷ l) (these_lines done more)

pub lined_split : {old mid : List ℕ} {before : ℕ} {done : List (List ℕ)} → Lined old mid before done → LinesTaken old mid done
lined_split {old} {mid} {before} {done} (inl live) =
    let first : take (length done) (lines old) ≡ done = ap (take (length done)) (live_lines live) ∙ these_lines done (lines_from [] (take before mid)) in
    record { taken = live.taken; split = live.split; ahead = live_ahead live; are_taken = live_after live; exact = inl (live.typed ∙ ap keys_of (sym first)) }
lined_split (inr over) = record { taken = over.taken; split = over.split; ahead = over.ahead; are_taken = over.are_taken; exact = inr (ap length (sym over.all), over.keys) }

-- a line that was taken, as it was typed
pub record Took (old new : List ℕ) (before after : ℕ) (done : List (List ℕ)) (line : List ℕ) : Type 0 where
  pub whole : List ℕ
  pub kept : line ≡ kept_of whole
  pub lined : Lined old new after (done ++ whole ∷ [])
  pub fewer : after + 1 ≤ before

fewer_last : {mid new line : List ℕ} {before after : ℕ} → TookLast mid new before after line → after + 1 ≤ before
fewer_last {mid} {before = before} t = elim (cases_lt 0 before) [
  | inl some ↦ omega (arith, t.took.spent, some)
  | inr none ↦ let zero : before ≡ 0 = omega (arith, none) in absurd (t.some (sym t.took.is ∙ ap (λ (k : ℕ). take k mid) zero))
]

module _ {old mid : List ℕ} {before : ℕ} {done : List (List ℕ)} where
  pub lined_took : {new line : List ℕ} {after : ℕ} → Lined old mid before done → TookEnded mid new before after line ⊎ TookLast mid new before after line → Took old new before after done line
  lined_took (inl live) (inl t) = record { whole = t.whole; kept = t.kept; lined = inl (live_ended live t); fewer = omega (arith, t.counted) }
  lined_took (inl live) (inr t) = record { whole = t.whole; kept = t.kept; lined = inr (live_last live t); fewer = fewer_last t }
  lined_took (inr over) (inl t) = absurd (omega (arith, over.spent, t.counted))
  lined_took (inr over) (inr t) = absurd (omega (arith, over.spent, fewer_last t))

  -- no line is left
  pub lined_over : {new : List ℕ} {after : ℕ} → Lined old mid before done → TookRest mid new before after [] → Over old new after done
  lined_over {new} {after} (inl live) t = subst (Over old new after) (append-nil done) (live_rest live [] refl t)
  lined_over {new} (inr over) t =
      let same : new ≡ mid = t.rest ∙ ap (λ (k : ℕ). drop k mid) over.spent in
      record { taken = over.taken; split = over.split ∙ ap (λ l. over.taken ++ l) (sym same); all = over.all; ahead = over.ahead; are_taken = over.are_taken; keys = same ∙ over.keys; spent = t.spent }

  pub lined_part : {new : List ℕ} → Lined old mid before done → TookPart mid new before → (taken : List ℕ) × (old ≡ taken ++ new) × (ended_lines taken ≡ done)
  lined_part {new} (inl live) t = (live.taken ++ t.part, split_more old live.taken t.part mid new live.split t.split, live_part live t.part t.unbroken t.counted)
  lined_part (inr over) t = absurd (omega (arith, over.spent, t.some))

  -- no key counts any more
  pub lined_spent : Lined old mid before done → before ≡ 0 → Over old mid before done
  lined_spent (inl live) none =
      record {
        taken = live.taken;
        split = live.split;
        all = live_lines live ∙ ap (λ (k : ℕ). done ++ lines_from [] (take k mid)) none ∙ append-nil done;
        ahead = live_ahead live;
        are_taken = live_after live;
        keys = sym (live_keys live ∙ ap (λ (k : ℕ). drop k mid) none);
        spent = none;
      }
  lined_spent (inr over) none = over
