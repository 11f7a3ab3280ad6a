-- The links of a line as a whole, and of a line and the closing after it.
use Rattle.std.specs.Prelude.{Bool, List, Some, ℕ, ◌++◌, ◌≡◌}
use Rattle.laws_line.specs.alto_words.specs.Fid.{disk_descriptor}
use Rattle.laws_line.specs.disk_records.specs.Packs.{Pack, after, sector_at}
use Rattle.laws_line.specs.disk_records.specs.declared.records.Event.{Event}
use Rattle.laws_line.specs.pack_model.specs.sessions.Descriptor.{open_writes}
use Rattle.laws_line.specs.pack_model.specs.reading.Files.{place}
use Rattle.laws_line.specs.pack_model.specs.hints.Links.{LinksTrue}
use Rattle.laws_line.specs.pack_model.specs.reading.Sights.{sights}
use Rattle.laws_line.specs.pack_model.specs.states.Sound.{mark_of}
use Rattle.laws_line.specs.pack_model.specs.operations.Step.{Operation}
use Rattle.laws_line.specs.pack_model.specs.hints.Tables.{TableTrue}
use Rattle.laws_line.specs.pack_model.specs.states.Whole.{Tidy, Whole}
use Rattle.laws_line.specs.laws_operation.specs.DescriptorLaws.{MayClose}
use Rattle.laws_line.specs.CrashLaws.{Batch, does, makes, over, with_serial}
use Rattle.laws_line.specs.laws_operation.specs.LinkLaws.{KeepsLinks}
use Rattle.laws_hint.specs.ClosingLaws.{ClosedTrue, closing_writes}

-- ---- a line
-- each operation's record writes leave all links true where they were, on the pack that those before them leave
abbrev pub EachKeepsLinks : {p : Pack} {events : List Event} {ops : List Operation} → Batch p events ops → Type 0
EachKeepsLinks over = Unit {0}
EachKeepsLinks (does {p = p} {events = events} other stays line) = KeepsLinks p events × EachKeepsLinks line
EachKeepsLinks (makes {p = p} {at = at} {last = last} {events = events} placed above stays line) = KeepsLinks (with_serial p at last) events × EachKeepsLinks line

-- then so does the line, with its new serials
abbrev pub LineKeepsLinks : Type 0
LineKeepsLinks = (p : Pack) (events : List Event) (ops : List Operation) (line : Batch p events ops) → Whole p → Tidy p → EachKeepsLinks line → KeepsLinks p events

-- record writes that keep links, and then others on the pack that they leave, keep them together
abbrev pub LinksJoin : Type 0
LinksJoin = (p : Pack) (a b : List Event) → KeepsLinks p a → KeepsLinks (after p a) b → KeepsLinks p (a ++ b)

-- ---- from the first record write of a session on
-- the record writes by which the mark is opened, in the sector of DiskDescriptor's first data page
abbrev pub opening_writes : Pack → ℕ → List Event
opening_writes p at = open_writes (mark_of (sights p)) at (sector_at p at).value

-- the opening of the mark and then such a line keep links
abbrev pub OpenedLineKeepsLinks : Type 0
OpenedLineKeepsLinks = (p : Pack) (at : ℕ) (events : List Event) (ops : List Operation) (line : Batch (after p (opening_writes p at)) events ops) → Whole p → Tidy p → place (sights p) disk_descriptor 1 ≡ Some at
    → EachKeepsLinks line → KeepsLinks p (opening_writes p at ++ events)

-- where links were true before both, closing the pack after them with its true map leaves all hints true
abbrev pub LineClosesWithTrueHints : Type 0
LineClosesWithTrueHints = (p : Pack) (at : ℕ) (events : List Event) (ops : List Operation) (line : Batch (after p (opening_writes p at)) events ops) (busy : List Bool) (pages : List ℕ) → let q : Pack = after p (opening_writes p at ++ events) in
    Whole p → Tidy p → place (sights p) disk_descriptor 1 ≡ Some at → EachKeepsLinks line → LinksTrue p → MayClose q pages → TableTrue q busy → ClosedTrue q (after q (closing_writes q busy pages))
