-- The reply to a line, its operations, and the world after it; of a line that is refused none, and the world as it was.
-- The replies are this project's choice.
use Rattle.std.specs.Prelude.{ℕ, List, [], Option, Some, None}
use Rattle.exec_words.specs.pack_model.specs.operations.Step.{Operation}
use Rattle.exec_words.specs.pack_model.specs.reading.Model.{Model}
use Rattle.exec_words.specs.declared.line.Line.{Line}
use Rattle.exec_words.specs.declared.reply.Refusal.{Refusal}
use Rattle.exec_words.specs.Texts.{refusal_text}
use Rattle.session_model.specs.Worlds.{World}
use Rattle.session_model.specs.Refusals.{refusal_of}
use Rattle.session_model.specs.Effects.{effect}

abbrev pub refusal : Line → Model → World → Option Refusal
refusal l m w = refusal_of l m w (effect l m w).ops

abbrev pub unless_refused : {X : Type 0} → Option Refusal → X → X → X
unless_refused None x y = x
unless_refused (Some r) x y = y

abbrev pub text_unless : Option Refusal → List ℕ → List ℕ
text_unless None text = text
text_unless (Some r) text = refusal_text r

-- the text that is shown
abbrev pub reply_to : Line → Model → World → List ℕ
reply_to l m w = text_unless (refusal l m w) (effect l m w).text

abbrev pub ops : Line → Model → World → List Operation
ops l m w = unless_refused (refusal l m w) (effect l m w).ops []

abbrev pub next : Line → Model → World → World
next l m w = unless_refused (refusal l m w) (effect l m w).world w
