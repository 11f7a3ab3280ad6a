use Rattle.file_pages.proofs.MadeHandy.{noted_two}
use Rattle.file_pages.proofs.new_hints.note_two.Goals as goal

pub returns-clause-notes : goal.returns-clause-notes
returns-clause-notes c = noted_two c.args.fid c.args.leader_at c.args.page_at _ _ _ (rw c.page_of_file.ensures at c.note_one.ensures) (rw c.page_of_file-2.ensures at c.note_one-2.ensures)
