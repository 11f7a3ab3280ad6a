use Rattle.std.proofs.Common.{◌≡◌, IfOk, List, ℕ, subst}
use Rattle.exec_words.specs.Texts.{names_text}
use Rattle.executive.proofs.list.slots_text.Goals as goal

pub returns : goal.returns
returns c = subst (λ (names : List (List ℕ)). IfOk c.text_of.result (λ text. text.items ≡ names_text names)) c.in_ok-names.ensures c.text_of.ensures
