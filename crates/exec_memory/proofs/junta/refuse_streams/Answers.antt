use Rattle.std.proofs.Common.{◌&&◌, sym, ap, ◌∙◌}
use Rattle.std.proofs.lemmas.Bool.{le-ltb, lt-ltb}
use Rattle.exec_session.specs.Meant.{kept}
use Rattle.exec_session.specs.Stops.{refused_if}
use Rattle.exec_words.specs.declared.reply.Refusal.TheVariants as refused
use Rattle.session_model.specs.Keeping.{world_of}
use Rattle.session_model.specs.Refusals.{is_any_open}
use Rattle.exec_memory.proofs.junta.refuse_streams.Goals as goal

pub returns-then-level-lt-STREAMS_LEVEL : goal.returns-then-level-lt-STREAMS_LEVEL
returns-then-level-lt-STREAMS_LEVEL c = c.refuse_open_streams.ensures ∙ sym (ap (λ b. refused_if (b && is_any_open (world_of (kept c.args.session.now))) refused.StreamsOpen) (lt-ltb c.args.level 6 c.if-level-lt-STREAMS_LEVEL.true))

pub returns : goal.returns
returns c = sym (ap (λ b. refused_if (b && is_any_open (world_of (kept c.args.session.now))) refused.StreamsOpen) (le-ltb c.args.level 6 c.if-level-lt-STREAMS_LEVEL.false))
