-- A line that has only looked before it writes: it is a turn from where it began to look.
use Rattle.std.proofs.Common.{◌≡◌, ◌∙◌, ◌++◌, [], List, append-nil, ap, sym, subst}
use Rattle.disk_records.proofs.Growing.{added-twice, pack-silent}
use Rattle.disk_records.specs.Events.{writes_in}
use Rattle.disk_records.specs.Packs.{Pack}
use Rattle.disk_records.specs.Tapes.{DiskAlone, Taped, added, capped, pack}
use Rattle.disk_records.specs.declared.records.Event.{Event}
use Rattle.exec_words.specs.declared.line.Line.{Line}
use Rattle.exec_words.specs.declared.reply.Reply.{Reply}
use Rattle.pack_model.specs.hints.Truth.{Truthful}
use Rattle.pack_model.specs.sessions.Meanings.{session}
use Rattle.pack_model.specs.sessions.Moves.{IsStartOf, Obeys}
use Rattle.pack_model.specs.sessions.Tallies.{counted}
use Rattle.session_model.specs.Answering.{Answered, Answers}
use Rattle.session_model.specs.Keeping.{Kept}
use Rattle.session_model.specs.Turning.{State, cue_moves, typed}
use Rattle.exec_session.specs.Turned.{Turned}

-- its count of record writes is as it was
pub same_count : (a b : Taped) → DiskAlone a b → added a b ≡ [] → a.writes ≡ capped (writes_in a.events) → b.writes ≡ capped (writes_in b.events) → b.writes ≡ a.writes
same_count a b alone silent before after = after ∙ ap (λ es. capped (writes_in es)) (alone.grown.events ∙ ap (λ es. a.events ++ es) silent ∙ append-nil a.events) ∙ sym before

answered_before : {p q : Pack} {es fs : List Event} {s : State} {l : Line} {r : Reply} {u : State} → q ≡ p → fs ≡ es → (a : Answered q s (typed l) fs r u) → Answered p s (typed l) es r u
answered_before {p} {q} {es} {fs} {s} {l} {r} {u} same all a = record {
  moves = a.moves;
  each = subst (λ x. Obeys session s.model x es a.moves) same (subst (λ e. Obeys session s.model q e a.moves) all a.each);
  start = subst (λ x. IsStartOf a.moves (cue_moves x s (typed l))) same a.start;
  answers = subst (λ x. Answers x s (typed l) es a.moves r u) same (subst (λ e. Answers q s (typed l) e a.moves r u) all a.answers);
}

pub looked_before : (old mid new : Taped) (one two : Kept) (s : State) (l : Line) (r : Reply) → DiskAlone old mid → DiskAlone mid new → added old mid ≡ [] → mid.writes ≡ old.writes → Turned mid new one two s l r → Turned old new one two s l r
unfolding answered_before
looked_before old mid new one two s l r first next silent writes t =
    let same : pack mid ≡ pack old = pack-silent first.grown silent in
    let all : added mid new ≡ added old new = sym (added-twice first.grown next.grown ∙ ap (λ es. es ++ added mid new) silent) in
    record {
      state = t.state;
      goes_on = t.goes_on;
      answered = answered_before same all t.answered;
      need = t.need;
      keeping = t.keeping;
      tally = λ tells. t.tally tells ∙ ap (λ n. counted n t.answered.moves one.tally) writes;
      truthful = λ was. t.truthful (subst (λ p. Truthful p one.busy) (sym same) was);
    }
