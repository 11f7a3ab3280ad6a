use Rattle.std.proofs.Common.{ap, map, ◌∙◌}
use Rattle.std.specs.List.{list_any}
use Rattle.alto_words.specs.Fid.{is_fid}
use Rattle.session_model.specs.Keeping.{stream_of}
use Rattle.exec_session.proofs.Slots.{files_in_slots}
use Rattle.exec_session.proofs.streams.OpenStreams.has_file.Goals as goal

pub returns : goal.returns
returns c = c.have_file.ensures ∙ files_in_slots c.args.fid 0 c.self.inside.slots ∙ ap (λ os. list_any (λ s. is_fid s.fid c.args.fid) (map stream_of os)) c.self.view_is
