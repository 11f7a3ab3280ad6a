-- Where links are true, no hint of a file misleads.
use Rattle.std.proofs.Common.{List, Result}
use Rattle.alto_words.specs.declared.fid.Fid.{Fid}
use Rattle.disk_records.specs.Packs.{AreFormed, Pack}
use Rattle.disk_records.specs.declared.records.Event.{Event}
use Rattle.laws_contents.proofs.pages.Laws.{formed_pages_have_256_words}
use Rattle.laws_lookup.proofs.hints.Laws.{true_hints_never_mislead}
use Rattle.page_seeking.proofs.Erring.{if_misled_map}
use Rattle.page_seeking.specs.Refs.{FileStands, IfMisled, MisledBy}
use Rattle.page_seeking.specs.declared.refs.FileError.{FileError}
use Rattle.page_seeking.specs.declared.refs.FileRef.{FileRef}
use Rattle.pack_model.specs.hints.Links.{LinksTrue}

-- a call that answers Misled only of a hint that misled as it began never does, whichever file is meant
pub never_led : {T : Type 0} (p : Pack) (events : List Event) (f : Fid) (file : FileRef) (result : Result T FileError) → AreFormed p → FileStands p file → LinksTrue p → IfMisled result (MisledBy p events f) → IfMisled result (λ place at wanted found. ⊥)
never_led p events f file result formed stands links misled =
    if_misled_map result misled (λ place at wanted found x. true_hints_never_mislead p place at wanted stands.whole stands.tidy (λ i page e. formed_pages_have_256_words p i page formed e) links (x.answers.on_disk stands.whole) x.answers.misled)
