-- A file's written date, as the last step of a line.
use Rattle.std.proofs.Common.{◌≡◌, ◌∷◌, ◌++◌, Contains, ℕ, List, [], Result, Ok, Err, append-nil, inl, inr, sym, subst}
use Rattle.std.specs.Result.{IsErrAnd}
use Rattle.std.proofs.lemmas.List.Elements.{Contains-append_cases}
use Rattle.alto_words.specs.declared.fid.Fid.{Fid}
use Rattle.disk_records.specs.Tapes.{Taped, pack}
use Rattle.exec_session.specs.laws_steps.specs.LineKeepingLaws.{StaysFoundOver}
use Rattle.page_seeking.specs.declared.refs.FileRef.{FileRef}
use Rattle.pack_model.specs.operations.Step.{Operation}
use Rattle.pack_model.specs.reading.Model.{Model}
use Rattle.session_model.specs.Keeping.{Kept}
use Rattle.exec_session.specs.declared.stop.Stop.{Stop}
use Rattle.exec_session.proofs.Stopping.{error_is}
use Rattle.exec_steps.specs.Asked.{IsFile, to_stamp}
use Rattle.exec_steps.specs.Midway.{StepsOn}
use Rattle.exec_steps.proofs.Joining.{step_for}
use Rattle.exec_steps.proofs.laws.Laws.{step_stops, steps_join}
use Rattle.exec_writing.proofs.Opening.{file_stands_still}

pub twice_one : (f g : Fid) → Contains ((f ∷ []) ++ (f ∷ [])) g → Contains (f ∷ []) g
twice_one f g c = elim (Contains-append_cases (f ∷ []) (f ∷ []) g c) [ inl one ↦ one | inr two ↦ two ]

module _ (a b : Taped) (one two : Kept) (ops : List Operation) (file : FileRef) (moment : ℕ) (claimed : List ℕ) where
  abbrev f : Fid
  f = file.fid

  -- the steps before it stopped
  pub unstamped : (e : Stop) (result : Result (Unit {0}) Stop) → IsErrAnd result (λ x. x ≡ e) → StepsOn {T = Unit {0}} a b one two ops claimed (f ∷ []) (Err e) → StepsOn a b one two (ops ++ to_stamp f moment ∷ []) claimed (f ∷ []) result
  unstamped e result is steps =
      subst (λ r. StepsOn a b one two (ops ++ to_stamp f moment ∷ []) claimed (f ∷ []) r) (sym (error_is result is))
      (subst (λ l. StepsOn {T = Unit {0}} a b one two (ops ++ to_stamp f moment ∷ []) l (f ∷ []) (Err e)) (append-nil claimed)
      (step_for a b one two (ops ++ to_stamp f moment ∷ []) (claimed ++ []) ((f ∷ []) ++ []) (f ∷ []) (Err e) (λ g c. c)
      (step_stops (Unit {0}) (Unit {0}) a b one two ops (to_stamp f moment ∷ []) claimed [] (f ∷ []) [] e steps)))

-- they are done
pub stamped_after : (a b d : Taped) (one two three : Kept) (ops : List Operation) (file : FileRef) (moment now : ℕ) (claimed : List ℕ) (x : Unit {0}) (result : Result (Unit {0}) Stop) → now ≡ moment → ((m : Model) → StaysFoundOver m ops file.fid file.from) → IsFile (pack a) file
    → StepsOn a b one two ops claimed (file.fid ∷ []) (Ok x) → (IsFile (pack b) file → StepsOn b d two three (to_stamp file.fid now ∷ []) [] (file.fid ∷ []) result) → StepsOn a d one three (ops ++ to_stamp file.fid moment ∷ []) claimed (file.fid ∷ []) result
stamped_after a b d one two three ops file moment now claimed x result same stays is first next =
    let f = file.fid in
    subst (λ l. StepsOn a d one three (ops ++ to_stamp f moment ∷ []) l (f ∷ []) result) (append-nil claimed)
    (step_for a d one three (ops ++ to_stamp f moment ∷ []) (claimed ++ []) ((f ∷ []) ++ (f ∷ [])) (f ∷ []) result (twice_one f)
    (steps_join (Unit {0}) (Unit {0}) a b d one two three ops (to_stamp f moment ∷ []) claimed [] (f ∷ []) (f ∷ []) x result first
    (λ left arrived. subst (λ n. StepsOn b d two three (to_stamp f n ∷ []) [] (f ∷ []) result) same (next (file_stands_still file arrived stays is)))))
