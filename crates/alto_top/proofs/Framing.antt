-- Where the record writes of words go: in usable sectors, and none is of a header.
use Rattle.std.proofs.Common.{Bool, IsTrue, subst, sym}
use Rattle.disk_records.proofs.Framing.{writes_append}
use Rattle.disk_records.proofs.Growing.{writes-shown}
use Rattle.disk_records.specs.Events.{shown_events}
use Rattle.disk_records.specs.Frames.{IsUsableSector, WritesIn, WritesUsable}
use Rattle.disk_records.specs.Tapes.{Taped, added, pack}
use Rattle.pack_model.specs.showing.Settling.{show}
use Rattle.session_boot.proofs.Framing.{writes_none}
use Rattle.session_boot.proofs.Unread.{first_shown}
use Rattle.session_boot.specs.declared.status.Status.{Status}
use Rattle.alto_top.specs.Scavenging.{ScavengesPack}
use Rattle.alto_top.specs.Showing.{ShowsPack, listing_text}
use Rattle.alto_top.specs.Top.{ShowsUsage, usage_text}

module _ {told : Bool} {a b : Taped} {answer : Status} where
  pub show_usable : (IsTrue told → ShowsPack a b answer) → WritesUsable told a b
  show_usable shows = λ h. writes_none (IsUsableSector (pack a)) (added a b) (first_shown (listing_text (show (pack a))) (added a b) (shows h).some)

  pub usage_usable : (IsTrue told → ShowsUsage a b answer) → WritesUsable told a b
  usage_usable shows = λ h. writes_none (IsUsableSector (pack a)) (added a b) (first_shown usage_text (added a b) (shows h).some)

  pub scavenge_usable : (IsTrue told → ScavengesPack a b answer) → WritesUsable told a b
  scavenge_usable scavenges = λ h.
      let s = scavenges h in
      let Here = IsUsableSector (pack a) in
      subst (WritesIn Here) (sym s.split) (writes_append Here s.writes (shown_events s.shown) s.scavenge.frame (writes_none Here (shown_events s.shown) (writes-shown s.shown)))
