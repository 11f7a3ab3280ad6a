-- A drop without the slot of its entry, by the leader that was read.
use Rattle.std.proofs.Common.{Bool, Err, List, Ok, Result, [], ap, arith, false, subst, sym, ℕ, ◌∙◌, ◌∷◌, ◌≡◌, OnOk}
use Rattle.alto_words.specs.declared.fid.Fid.{Fid}
use Rattle.disk_records.proofs.Growing.{pack-after}
use Rattle.disk_records.specs.Commands.{release_writes}
use Rattle.disk_records.specs.Events.{IsFirstOf}
use Rattle.disk_records.specs.Packs.{Pack, after}
use Rattle.disk_records.specs.Tapes.{Grown, Taped, added, pack}
use Rattle.disk_records.specs.declared.records.Event.{Event}
use Rattle.disk_records.specs.declared.records.Sector.{Sector}
use Rattle.disk_records.specs.declared.records.Tally.{Tally}
use Rattle.label_check.specs.declared.errors.PageInfo.{PageInfo}
use Rattle.laws_call.specs.Acting.{Releases, around, releasing}
use Rattle.laws_hint.proofs.changes.Laws.{releases_mark_the_map}
use Rattle.laws_hint.specs.MapChanges.{marked}
use Rattle.laws_lookup.proofs.dropping.Laws.{bare_file_may_be_dropped}
use Rattle.laws_lookup.proofs.others.Laws.{release_leaves_others}
use Rattle.laws_midway.proofs.found.Laws.{found_file_lives}
use Rattle.laws_operation.proofs.drop.Laws.{release_carries_out, release_keeps_links, release_takes_no_sector}
use Rattle.laws_operation.specs.LifeLaws.{MayDrop}
use Rattle.laws_call.specs.laws_record.proofs.Carried.{carried_place}
use Rattle.pack_model.specs.operations.Committing.{length_of, page_of_byte}
use Rattle.pack_model.specs.operations.Operations.{release_file_writes}
use Rattle.pack_model.specs.operations.Step.Operation.{drop_file}
use Rattle.pack_model.specs.reading.Model.{read_as}
use Rattle.pack_model.specs.states.Whole.{Tidy, Whole}
use Rattle.page_seeking.specs.Refs.{FileStands}
use Rattle.page_seeking.specs.Seeking.{page_number}
use Rattle.page_seeking.specs.declared.refs.FileError.TheVariants as file
use Rattle.page_seeking.specs.declared.refs.FileError.{FileError}
use Rattle.page_seeking.specs.declared.refs.FileRef.{FileRef}
use Rattle.file_pages.proofs.CutFiles.{known_read}
use Rattle.file_pages.proofs.Following.{follows_released}
use Rattle.file_pages.specs.Cutting.{IsRead}
use Rattle.file_pages.specs.Dropping.{ActsButSlot, DropsButSlot, MayBeDropped}
use Rattle.file_pages.specs.Releasing.{IsKnown, AreAfter, CommitsAndReleases, CommitsFirst, Follows}

pub record DropHere (p : Pack) (f : Fid) (at : ℕ) : Type 0 where
  pub pages : List ℕ
  pub may : MayDrop p f at pages
  pub left : AreAfter p f 0 pages

pub drop_here : (p : Pack) (file : FileRef) (at : ℕ) (info : PageInfo) → FileStands p file → MayBeDropped p file.fid → IsKnown p (page_number file.fid 0) at info → DropHere p file.fid at
drop_here p file at info stands dropped known =
    let has = bare_file_may_be_dropped p file.fid stands.whole (found_file_lives p file.fid file.leader_at file.from stands.whole stands.tidy stands.from) dropped.no_system dropped.bare in
    let count = has.may.number in
    record {
      pages = has.pages;
      may = record {
        no_system = dropped.no_system;
        sector = carried_place p stands.whole at (page_number file.fid 0) (known.carries);
        bare = dropped.bare;
        number = has.may.number;
        pages_are = has.may.pages_are;
      };
      left = record { whole = stands.whole; bear = has.may.pages_are; count = omega (arith, count) };
    }

pub drop_begun : {a c : Taped} {t u : Tally} {bits now : List Bool} (f : Fid) (at : ℕ) (pages : List ℕ) (result : Result (Unit {0}) FileError) → MayDrop (pack a) f at pages → CommitsAndReleases (release_writes at) pages a c t u result → OnOk result (now ≡ marked false (at ∷ pages) bits)
    → Releases file.DiskFault file.Memory f (around a bits t) (around c now u) result
drop_begun {a} f at pages result may x table = releasing (record {
  at = at;
  pages = pages;
  may = may;
  some = x.some;
  all = x.all;
  table = table;
  counts = x.counts (drop_file f) (page_of_byte (length_of (read_as (pack a)) f));
  out_of_memory = x.less;
})

-- ---- what the record writes do
drop_acts : (p : Pack) (f : Fid) (at : ℕ) (pages : List ℕ) → Whole p → Tidy p → MayDrop p f at pages → ActsButSlot p f (at ∷ pages) (release_file_writes at pages)
drop_acts p f at pages whole tidy may = record {
  goes = release_carries_out p f at pages whole tidy may;
  links = release_keeps_links p f at pages whole tidy may;
  map = (releases_mark_the_map p whole tidy).goes f at pages may;
  free = release_takes_no_sector p at pages;
  others = release_leaves_others p f at pages whole tidy may;
}

pub drop_does : {a c : Taped} {t u : Tally} (f : Fid) (at : ℕ) (pages : List ℕ) (result : Result (Unit {0}) FileError) → Whole (pack a) → Tidy (pack a) → MayDrop (pack a) f at pages → CommitsAndReleases (release_writes at) pages a c t u result
    → DropsButSlot (pack a) f (added a c) result
drop_does {a} f at pages result whole tidy may x = record { at = at; pages = pages; may = may; acts = drop_acts (pack a) f at pages whole tidy may; some = x.some; all = x.all }

-- a call that wrote nothing made a prefix of them
pub drop_not_begun : (p : Pack) (file : FileRef) (events : List Event) (error : FileError) → FileStands p file → MayBeDropped p file.fid → events ≡ [] → DropsButSlot p file.fid events (Err error)
drop_not_begun p file events error stands dropped silent =
    let has = bare_file_may_be_dropped p file.fid stands.whole (found_file_lives p file.fid file.leader_at file.from stands.whole stands.tidy stands.from) dropped.no_system dropped.bare in
    record {
      at = has.at;
      pages = has.pages;
      may = has.may;
      acts = drop_acts p file.fid has.at has.pages stands.whole stands.tidy has.may;
      some = subst (IsFirstOf (release_file_writes has.at has.pages)) (sym silent) tt;
      all = tt;
    }

-- ---- the label that commits
pub follows_leader : {p : Pack} {a b : Taped} {f : Fid} {at : ℕ} {info : PageInfo} {buffer : Sector} {t u : Tally} → pack a ≡ p → IsRead p (page_number f 0) at info buffer → Grown a b → CommitsFirst (release_writes at) a b t u (Ok tt) → Follows p (pack b) (page_number f 0) at info
follows_leader {p} {a} {b} {f} {at} {info} same read grown x = follows_released p (pack b) f 0 at info (known_read read) (pack-after grown ∙ ap (after (pack a)) x.all ∙ ap (λ (q : Pack). after q (release_writes at)) same)
