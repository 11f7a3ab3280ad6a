-- A line keeps links where its operations do, and closing after it leaves all hints true.
use Rattle.std.proofs.Common.{List, Some, [], subst, sym, ℕ, ◌++◌, ◌≡◌}
use Rattle.laws_line.specs.alto_words.specs.Fid.{disk_descriptor}
use Rattle.laws_line.specs.disk_records.proofs.Growing.{after-append}
use Rattle.laws_line.specs.disk_records.specs.Packs.{Pack, after, sector_at}
use Rattle.laws_line.specs.disk_records.specs.declared.records.Event.{Event}
use Rattle.laws_line.specs.pack_model.specs.operations.Committing.{moves_of_all}
use Rattle.laws_line.specs.pack_model.specs.sessions.Descriptor.{serial_writes}
use Rattle.laws_line.specs.pack_model.specs.reading.Files.{place}
use Rattle.laws_line.specs.pack_model.specs.hints.Links.{LinksTrue}
use Rattle.laws_line.specs.pack_model.specs.reading.Model.{read_as}
use Rattle.laws_line.specs.pack_model.specs.scavenger.Scavenging.{Unmarked}
use Rattle.laws_line.specs.pack_model.specs.reading.Sights.{sights}
use Rattle.laws_line.specs.pack_model.specs.operations.Step.{Operation}
use Rattle.laws_line.specs.pack_model.specs.operations.Step.Operation.{drop_file}
use Rattle.laws_line.specs.pack_model.specs.states.Whole.{Tidy, Whole}
use Rattle.laws_line.specs.laws_operation.specs.DescriptorLaws.{KeepsSound}
use Rattle.laws_line.specs.laws_operation.specs.LinkLaws.{KeepsLinks}
use Rattle.laws_line.specs.CrashLaws.{Batch, LineStays, does, makes, over, with_serial}
use Rattle.laws_hint.proofs.inside.ClosedHints.{closing_leaves_hints_true}
use Rattle.laws_hint.specs.LineLinks.{EachKeepsLinks, LineClosesWithTrueHints, LineKeepsLinks, LinksJoin, OpenedLineKeepsLinks, opening_writes}
use Rattle.laws_line.proofs.crashes.Laws.{crashes_of_an_unmarked_line, open_pack_is_unmarked}
use Rattle.laws_line.specs.laws_operation.proofs.descriptor.Laws.{open_carries_out, open_keeps_links, serial_keeps_links}
use Rattle.laws_line.specs.laws_room.proofs.marks.Laws.{unmarked_is_unclean}

-- ---- links
-- one after another
pub links_join : LinksJoin
links_join p a b first then links = subst LinksTrue (sym (after-append p a b)) (then (first links))

-- along a line
along : {p : Pack} {events : List Event} {ops : List Operation} (line : Batch p events ops) → Whole p → Tidy p → EachKeepsLinks line → KeepsLinks p events
along over w t each = λ links. links
along (does {p = p} {events = events} {later = later} other s line) w t each = links_join p events later each.0 (along line s.whole s.tidy each.1)
along (makes {p = p} {at = at} {last = last} {events = events} {later = later} placed above s line) w t each =
    links_join p (serial_writes at last (sector_at p at).value) (events ++ later) (serial_keeps_links p at last w t placed above)
    (links_join (with_serial p at last) events later each.0 (along line s.whole s.tidy each.1))

-- the law
pub line_keeps_links : LineKeepsLinks
line_keeps_links p events ops line w t each = along line w t each

-- ---- from the opening of the mark on
-- what the opening keeps, and the mark after it
opened : (p : Pack) (at : ℕ) → Whole p → Tidy p → place (sights p) disk_descriptor 1 ≡ Some at → KeepsSound p (after p (opening_writes p at)) × Unmarked (after p (opening_writes p at))
opened p at w t placed =
    let h = open_carries_out p at (drop_file disk_descriptor) [] w t placed in
    (h.keeps, open_pack_is_unmarked (after p (opening_writes p at)) h.keeps.whole h.marked)

-- links
pub opened_line_keeps_links : OpenedLineKeepsLinks
opened_line_keeps_links p at events ops line w t placed each =
    let h = opened p at w t placed in
    links_join p (opening_writes p at) events (open_keeps_links p at w t placed) (along line h.0.whole h.0.tidy each)

-- what the line leaves
stays : (p : Pack) (at : ℕ) (events : List Event) (ops : List Operation) → Batch (after p (opening_writes p at)) events ops → Whole p → Tidy p → place (sights p) disk_descriptor 1 ≡ Some at
    → LineStays (after p (opening_writes p at)) events ops (moves_of_all (read_as (after p (opening_writes p at))) ops)
stays p at events ops line w t placed = let h = opened p at w t placed in crashes_of_an_unmarked_line (after p (opening_writes p at)) events ops h.0.whole h.0.tidy h.1 line

-- and closing after it
pub line_closes_with_true_hints : LineClosesWithTrueHints
line_closes_with_true_hints p at events ops line busy pages w t placed each links may map =
    let q : Pack = after p (opening_writes p at ++ events) in
    let both : q ≡ after (after p (opening_writes p at)) events = after-append p (opening_writes p at) events in
    let h = stays p at events ops line w t placed in
    let whole : Whole q = subst Whole (sym both) h.whole in
    let unmarked : Unmarked q = subst Unmarked (sym both) h.unmarked in
    closing_leaves_hints_true q busy pages whole (subst Tidy (sym both) h.tidy) may (λ e. unmarked_is_unclean q unmarked (record { lives = whole.descriptor_lives; mark = e }))
    (opened_line_keeps_links p at events ops line w t placed each links) map
