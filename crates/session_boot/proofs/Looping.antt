-- The loop over the lines: its beginning, and its next turn by what was answered.
use Rattle.std.proofs.Common.{◌≡◌, ◌+◌, ◌<◌, ◌^◌, ℕ, Option, Some, None, Ok, Err, inl, inr, subst}
use Rattle.disk_records.specs.declared.records.Tally.{Tally}
use Rattle.disk_records.specs.Events.{writes_in}
use Rattle.disk_records.specs.Tapes.{Grown, Taped, capped, pack}
use Rattle.executive.specs.pack_laws.proofs.Lining.{most_keys-is}
use Rattle.executive.specs.pack_model.specs.states.Sound.{Sound}
use Rattle.session_model.specs.Keeping.{Kept}
use Rattle.session_model.specs.Opening.{Begun}
use Rattle.session_boot.specs.Boots.{LastsTo, OpenedBy}
use Rattle.session_boot.specs.Faults.{stop_of, stop_of_need}
use Rattle.session_boot.specs.Turns.{NextTurn}
use Rattle.session_boot.specs.declared.line.Next.{Next}
use Rattle.session_boot.specs.declared.line.Next.TheVariants.{More, Over}
use Rattle.session_boot.specs.declared.status.Fault.{Fault}
use Rattle.session_boot.proofs.Ends.{line_broke, line_over, missed_lasts}
use Rattle.session_boot.proofs.Goings.{AtEnd, at_end_none, so_far_more}
use Rattle.session_boot.proofs.SoFar.{Modelled, SoFar, so_far_begins}

pub starts : (moment : ℕ) (first old : Taped) (given : Tally) (k : Kept) → OpenedBy first old → Begun (pack first) k moment given.limit → SoFar moment first given old k 2147483648 0
starts moment first old given k opened is_begun = subst (λ n. SoFar moment first given old k n 0) most_keys-is (so_far_begins moment first old given k opened is_begun)

module _ {moment : ℕ} {first now z : Taped} {given : Tally} {k : Kept} (two : Kept) {left : ℕ} (rest : ℕ) {index : ℕ} (so_far : SoFar moment first given now k left index) (modelled : Modelled now) (limit : given.limit < 2 ^ 64) (sound : Sound (pack first)) (counts : first.writes ≡ capped (writes_in first.events)) (grown : Grown now z) where
  pub next_lasts : (fault : Fault) → NextTurn now z k two left rest (Err fault) → LastsTo moment first z given two.tally (stop_of fault)
  next_lasts fault (inl missed) = missed_lasts so_far modelled limit sound counts missed
  next_lasts fault (inr (taken, other)) = line_broke so_far modelled limit sound counts grown other taken

  pub next_over : (o : Option Next) → o ≡ Some Over → NextTurn now z k two left rest (Ok o) → LastsTo moment first z given two.tally (stop_of_need two.need)
  next_over o is next = line_over so_far modelled limit sound counts grown (subst (λ n. NextTurn now z k two left rest (Ok n)) is next)

  pub next_more : (o : Option Next) → o ≡ Some More → NextTurn now z k two left rest (Ok o) → SoFar moment first given z two rest (index + 1)
  next_more o is next = so_far_more so_far modelled limit sound grown (subst (λ n. NextTurn now z k two left rest (Ok n)) is next)

  pub next_none : (o : Option Next) → o ≡ None → NextTurn now z k two left rest (Ok o) → AtEnd moment first given z two
  next_none o is next = at_end_none so_far (subst (λ n. NextTurn now z k two left rest (Ok n)) is next)
