-- Operations on a pack that stands, by what a caller knows, and lines of them.
use Rattle.std.proofs.Common.{◌≡◌, ℕ, ◌<◌, ◌≤◌, List, [], ◌∷◌, ◌++◌, Some, length, sym, ap, subst}
use Rattle.laws_steps.specs.alto_words.specs.declared.fid.Fid.{Fid}
use Rattle.laws_steps.specs.alto_words.specs.Fid.{disk_descriptor}
use Rattle.laws_steps.specs.disk_records.specs.Packs.{Pack, after, sector_at}
use Rattle.laws_steps.specs.disk_records.specs.declared.records.Event.{Event}
use Rattle.laws_steps.specs.pack_model.specs.hints.Links.{LinksTrue}
use Rattle.laws_steps.specs.pack_model.specs.operations.Commands.{first_page_claim, grown_claims, grown_label, grown_value, leader_claim}
use Rattle.laws_steps.specs.pack_model.specs.operations.Committing.{pages_for_operations, serial_moves}
use Rattle.laws_steps.specs.pack_model.specs.operations.Entering.{EntryRoom, entry_value, found_room, values_first}
use Rattle.laws_steps.specs.pack_model.specs.operations.Operations.{enter_writes}
use Rattle.laws_steps.specs.pack_model.specs.operations.PageWords.{entered_words}
use Rattle.laws_steps.specs.pack_model.specs.operations.Rooms.{Room}
use Rattle.laws_steps.specs.pack_model.specs.operations.Step.{Operation}
use Rattle.laws_steps.specs.pack_model.specs.operations.Step.Operation.{enter, grow, make}
use Rattle.laws_steps.specs.pack_model.specs.reading.Files.{file_bytes, place}
use Rattle.laws_steps.specs.pack_model.specs.reading.Model.{dir_items, read_as}
use Rattle.laws_steps.specs.pack_model.specs.reading.Sights.{sights}
use Rattle.laws_steps.specs.pack_model.specs.sessions.Descriptor.{open_writes, serial_writes}
use Rattle.laws_steps.specs.pack_model.specs.states.InUse.{free_sector_count}
use Rattle.laws_steps.specs.pack_model.specs.states.Sound.{Sound, mark_of, mark_open}
use Rattle.laws_steps.specs.pack_model.specs.states.Whole.{Tidy, Whole}
use Rattle.laws_steps.specs.laws_operation.specs.DirectoryWords.{CanEnter, left_in}
use Rattle.laws_steps.specs.laws_operation.specs.FileWords.{CanGrow, CanMake}
use Rattle.laws_steps.specs.laws_operation.specs.ByteLaws.{IsOrdinary}
use Rattle.laws_steps.specs.laws_operation.specs.LinkLaws.{KeepsLinks}
use Rattle.laws_steps.specs.laws_operation.specs.NameLaws.{entry_room}
use Rattle.laws_steps.specs.laws_operation.proofs.descriptor.Laws.{open_carries_out, open_keeps_links, serial_carries_out, serial_keeps_links}
use Rattle.laws_steps.specs.laws_operation.proofs.enter.Laws.{enter_keeps_links, enter_words_fit}
use Rattle.laws_steps.specs.laws_operation.proofs.grow.Laws.{grow_keeps_links, grow_words_fit}
use Rattle.laws_steps.specs.laws_operation.proofs.make.Laws.{make_keeps_links, make_words_fit}
use Rattle.laws_steps.specs.laws_line.specs.CrashLaws.{Batch, StaysMendable, does, makes, over, with_serial}
use Rattle.laws_steps.specs.laws_line.specs.SoundLines.{IsKindOfLine}
use Rattle.laws_steps.specs.laws_line.proofs.crashes.Laws.{crashes_of_each_operation, crashes_of_enter}
use Rattle.laws_steps.specs.laws_line.proofs.sound.Laws.{crashes_of_a_line_on_a_sound_pack}
use Rattle.laws_steps.specs.laws_hint.specs.LineLinks.{EachKeepsLinks}
use Rattle.laws_steps.specs.laws_hint.proofs.lines.Laws.{opened_line_keeps_links}
use Rattle.laws_met.specs.Peopled.{entering, growing, making, opening}
use Rattle.laws_met.specs.Premises.{LineRuns}

-- A whole and tidy pack with true links.
pub record Stands (p : Pack) : Type 0 where
  pub whole : Whole p
  pub tidy : Tidy p
  pub links : LinksTrue p

-- These record writes are the operation.
pub record Done (p : Pack) (events : List Event) (o : Operation) : Type 0 where
  pub stays : StaysMendable p events o
  pub links : KeepsLinks p events

-- so the pack that they leave stands
pub stands_after : (p : Pack) (events : List Event) (o : Operation) → Stands p → Done p events o → Stands (after p events)
stands_after p events o s d = record { whole = d.stays.whole; tidy = d.stays.tidy; links = d.links s.links }

-- ---- DiskDescriptor's words
pub stands_opened : (p : Pack) (at : ℕ) (o : Operation) → Stands p → place (sights p) disk_descriptor 1 ≡ Some at → Stands (after p (open_writes (mark_of (sights p)) at (sector_at p at).value))
stands_opened p at o s placed = let h = (open_carries_out p at o [] s.whole s.tidy placed).keeps in record { whole = h.whole; tidy = h.tidy; links = open_keeps_links p at s.whole s.tidy placed s.links }

pub stands_numbered : (p : Pack) (at last : ℕ) → Stands p → place (sights p) disk_descriptor 1 ≡ Some at → (read_as p).last ≤ last → Stands (with_serial p at last)
stands_numbered p at last s placed above = let h = (serial_carries_out p at last s.whole s.tidy placed above).keeps in record { whole = h.whole; tidy = h.tidy; links = serial_keeps_links p at last s.whole s.tidy placed above s.links }

-- ---- operations
module _ (p : Pack) (s : Stands p) where
  pub made : (f : Fid) (name : List ℕ) (leader_at page_at : ℕ) → CanMake p f name leader_at page_at → Done p (making p f name leader_at page_at) (make f name 1000)
  made f name leader_at page_at can =
      let may = make_words_fit p f name 1000 leader_at page_at can in
      record {
        stays = (crashes_of_each_operation p s.whole s.tidy).makes f name 1000 (first_page_claim p.shape f leader_at page_at) (leader_claim p.shape f name 1000 leader_at page_at) may;
        links = make_keeps_links p f name 1000 leader_at page_at s.whole s.tidy may;
      }

  pub entered : (d : Fid) (name : List ℕ) (f : Fid) (address : ℕ) (found : Room) (at next_at : ℕ) (r : EntryRoom)
      → CanEnter p d name f found (entered_words f address name (left_in found name)) at next_at → found_room found (dir_items (read_as p) d) at next_at ≡ r → place (sights p) f 0 ≡ Some address
      → Done p (entering p r f address name) (enter d name f)
  entered d name f address found at next_at r can same placed =
      let words : List ℕ = entered_words f address name (left_in found name) in
      let h = enter_words_fit p d name f address found at next_at can in
      let stays : StaysMendable p (enter_writes (values_first p (entry_room h.before h.old at next_at) words) at (entry_value p (entry_room h.before h.old at next_at) words)) (enter d name f) = crashes_of_enter p d name f h.before h.old h.behind (left_in found name) words at next_at s.whole s.tidy h.may in
      let links = enter_keeps_links p d name f h.before h.old h.behind (left_in found name) words at next_at s.whole s.tidy h.may placed in
      let both : Done p (entering p (found_room found (dir_items (read_as p) d) at next_at) f address name) (enter d name f) = subst (λ r. Done p (enter_writes (values_first p r words) at (entry_value p r words)) (enter d name f)) h.room (record { stays = stays; links = links }) in
      subst (λ r. Done p (entering p r f address name) (enter d name f)) same both

  pub grown : (f : Fid) (b : ℕ) (new fresh : List ℕ) (at : ℕ) → IsOrdinary f → CanGrow p f b new [] fresh at → Done p (growing p f b new fresh at) (grow f new)
  grown f b new fresh at ordinary can =
      let may = grow_words_fit p f b new [] fresh at s.whole ordinary can in
      record {
        stays = (crashes_of_each_operation p s.whole s.tidy).grows f new (grown_claims p.shape f b at new [] fresh) at (grown_label p.shape b new fresh (sector_at p at).label) (grown_value b new [] fresh (sector_at p at).value) may;
        links = subst (λ b. KeepsLinks p (growing p f b new fresh at)) (sym can.size) (grow_keeps_links p f new [] fresh at s.whole s.tidy (grow_words_fit p f (length (file_bytes (sights p) f)) new [] fresh at s.whole ordinary (subst (λ b. CanGrow p f b new [] fresh at) can.size can)));
      }

-- ---- lines
-- These record writes are a line of these operations.
pub record LineDone (p : Pack) (events : List Event) (ops : List Operation) : Type 0 where
  pub line : Batch p events ops
  pub links : EachKeepsLinks line

pub done_none : (p : Pack) → LineDone p [] []
done_none p = record { line = over; links = tt }

pub done_more : (p : Pack) (events later : List Event) (o : Operation) (ops : List Operation) → serial_moves o ≡ [] → Done p events o → LineDone (after p events) later ops → LineDone p (events ++ later) (o ∷ ops)
done_more p events later o ops plain d rest = record { line = does plain d.stays rest.line; links = (d.links, rest.links) }

pub done_make : (p : Pack) (at last : ℕ) (events later : List Event) (f : Fid) (name : List ℕ) (moment : ℕ) (ops : List Operation) → place (sights p) disk_descriptor 1 ≡ Some at → (read_as p).last ≤ last
    → Done (with_serial p at last) events (make f name moment) → LineDone (after (with_serial p at last) events) later ops → LineDone p (serial_writes at last (sector_at p at).value ++ (events ++ later)) (make f name moment ∷ ops)
done_make p at last events later f name moment ops placed above d rest = record { line = makes placed above d.stays rest.line; links = (d.links, rest.links) }

-- the line is done on a sound pack, after the opening of the mark
pub ran : (p : Pack) (events : List Event) (ops : List Operation) → Sound p → LinksTrue p → place (sights p) disk_descriptor 1 ≡ Some 4 → 0 < length ops → IsKindOfLine (read_as p) ops → pages_for_operations (read_as p) ops ≤ free_sector_count (sights p)
    → LineDone (after p (opening p)) events ops → LineRuns p events ops
ran p events ops sound links placed some is enough d = record {
  sound = sound;
  links = links;
  placed = placed;
  is_line = is;
  enough = enough;
  batch = d.line;
  each_keeps = d.links;
  line = crashes_of_a_line_on_a_sound_pack p 4 events ops sound placed some is enough d.line;
  keeps = opened_line_keeps_links p 4 events ops d.line sound.whole sound.tidy placed d.links links;
}

-- once the mark is open a line begins at once
pub opened_already : (p : Pack) → mark_of (sights p) ≡ mark_open → opening p ≡ []
opened_already p open_is = ap (λ mark. open_writes mark 4 (sector_at p 4).value) open_is

pub ran_on : (p : Pack) (events : List Event) (ops : List Operation) → mark_of (sights p) ≡ mark_open → Sound p → LinksTrue p → place (sights p) disk_descriptor 1 ≡ Some 4 → 0 < length ops → IsKindOfLine (read_as p) ops → pages_for_operations (read_as p) ops ≤ free_sector_count (sights p)
    → LineDone p events ops → LineRuns p events ops
ran_on p events ops open_is sound links placed some is enough d =
    ran p events ops sound links placed some is enough (subst (λ first. LineDone (after p first) events ops) (sym (opened_already p open_is)) d)

pub after_opened : (p : Pack) (events : List Event) → mark_of (sights p) ≡ mark_open → after p (opening p ++ events) ≡ after p events
after_opened p events open_is = ap (λ first. after p (first ++ events)) (opened_already p open_is)
