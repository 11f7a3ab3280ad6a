use Rattle.file_pages.proofs.MadeHandy.{lists_two, made_handy}
use Rattle.file_pages.proofs.making.make.Goals as goal

pub returns-in-Ok-clause-listed : goal.returns-in-Ok-clause-listed
returns-in-Ok-clause-listed g c = lists_two _ _ _ _ _ c.note_two.ensures.notes

pub returns-in-Ok-clause-handy : goal.returns-in-Ok-clause-handy
returns-in-Ok-clause-handy g c told may = made_handy _ _ _ _ _ (c.in-Ok.ensures.placed told may) (c.in-Ok.ensures.others told may) _ _ c.note_two.ensures.notes
