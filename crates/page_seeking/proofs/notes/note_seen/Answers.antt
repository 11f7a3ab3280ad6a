use Rattle.std.proofs.Common.{◌≡◌, ℕ, Some, Option, None, sym, ◌∙◌}
use Rattle.page_seeking.proofs.Noting.{listed_alone, listed_both, noted_alone, noted_both}
use Rattle.page_seeking.proofs.Recent.{kept_alone, kept_both, recent_alone, recent_both}
use Rattle.page_seeking.proofs.notes.note_seen.Goals as goal

one : {a b : ℕ} → ◌≡◌ {A = Option ℕ} (Some a) (Some b) → a ≡ b
one e = cc

none : {a : ℕ} → ◌≡◌ {A = Option ℕ} None (Some a) → ⊥
none e = cc

pub returns-in-Some-clause-lists : goal.returns-in-Some-clause-lists
returns-in-Some-clause-lists c = listed_both c.note_one.ensures.noted c.note_one-in-Some.ensures.noted (λ i goes links. one (c.in-Some.ensures.all i goes links))

pub returns-in-Some-clause-noted : goal.returns-in-Some-clause-noted
returns-in-Some-clause-noted c = noted_both c.note_one.ensures.noted c.note_one-in-Some.ensures.noted c.in-Some.ensures.some.0 c.in-Some.ensures.some.1

pub returns-in_default-clause-lists : goal.returns-in_default-clause-lists
returns-in_default-clause-lists c = let all = c.next_address.ensures.all in let is = c.in_default.is in listed_alone c.note_one.ensures.noted (λ i goes links. none (sym is ∙ all i goes links))

pub returns-in_default-clause-noted : goal.returns-in_default-clause-noted
returns-in_default-clause-noted c = noted_alone c.note_one.ensures.noted

pub returns-in-Some-clause-recent : goal.returns-in-Some-clause-recent
returns-in-Some-clause-recent c = recent_both c.note_one.ensures.noted c.note_one-in-Some.ensures.noted

pub returns-in-Some-clause-keeps : goal.returns-in-Some-clause-keeps
returns-in-Some-clause-keeps c other less = kept_both other less c.note_one.ensures.noted c.note_one-in-Some.ensures.noted

pub returns-in_default-clause-recent : goal.returns-in_default-clause-recent
returns-in_default-clause-recent c = recent_alone c.note_one.ensures.noted

pub returns-in_default-clause-keeps : goal.returns-in_default-clause-keeps
returns-in_default-clause-keeps c other less = kept_alone other less c.note_one.ensures.noted
