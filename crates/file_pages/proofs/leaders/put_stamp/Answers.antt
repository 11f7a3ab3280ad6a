use Rattle.std.proofs.Common.{[], ap, ◌∙◌, ◌∷◌}
use Rattle.disk_records.specs.Bytes.{put_at}
use Rattle.file_pages.proofs.leaders.put_stamp.Goals as goal

pub returns : goal.returns
returns c = c.put_words-2.ensures ∙ ap (put_at 253 (c.args.last.at ∷ c.args.last.number ∷ c.args.last.info.bytes ∷ [])) (c.put_words.ensures ∙ ap (λ h. put_at 2 h c.args.value.now) c.halves.ensures)
