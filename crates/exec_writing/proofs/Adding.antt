-- A line that makes a file: what its steps ask for, and what is known of it as it begins and once its sectors are reserved.
use Rattle.std.proofs.Common.{◌≡◌, ◌≢◌, ◌≤◌, ◌<◌, ◌+◌, ℕ, All, Bool, true, List, [], ◌∷◌, Contains, Option, Some, None, get_or, length, length-append, refl, sym, subst, ap, ◌∙◌, arith, suc, zero}
use Rattle.std.proofs.lemmas.List.Kept.{AllPairs-from_increasing}
use Rattle.std.proofs.lemmas.Option.{slice_get-get_or}
use Rattle.alto_words.specs.Fid.{disk_descriptor}
use Rattle.alto_words.specs.declared.fid.Fid.{Fid}
use Rattle.directory.specs.Asked.{DirStands}
use Rattle.disk_records.specs.Packs.{Pack, is_free_at}
use Rattle.disk_records.specs.Tapes.{Taped, pack}
use Rattle.exec_words.specs.declared.line.Line.{Line}
use Rattle.exec_words.specs.declared.reply.Refusal.{Refusal}
use Rattle.exec_session.specs.laws_line.specs.Ready.{steps_of}
use Rattle.laws_operation.proofs.places.Laws.{none_above_the_last_serial}
use Rattle.laws_operation.specs.EntryLaws.{IsOpenTo}
use Rattle.exec_session.specs.laws_session.specs.UnrefusedLaws.{MakesFile}
use Rattle.page_alloc.specs.Free.{IsReserved}
use Rattle.pack_model.specs.hints.Tables.{TableTrue}
use Rattle.pack_model.specs.operations.Rooms.{largest_run}
use Rattle.pack_model.specs.operations.Step.Operation.{enter, make}
use Rattle.pack_model.specs.reading.Files.{place}
use Rattle.pack_model.specs.reading.Model.{Model, dir_items, read_as}
use Rattle.pack_model.specs.reading.Sights.{sights}
use Rattle.pack_model.specs.reading.Slots.{entry_length}
use Rattle.pack_model.specs.reading.Versions.{exact}
use Rattle.pack_model.specs.sessions.Descriptor.{DescriptorFits, data_pages}
use Rattle.pack_model.specs.states.Sound.{Sound}
use Rattle.session_model.specs.Effects.{effect, widenings}
use Rattle.session_model.specs.Keeping.{Keeping, Kept}
use Rattle.session_model.specs.Refusals.{most_serials}
use Rattle.session_model.specs.Replies.{ops, refusal as refusal_to, unless_refused}
use Rattle.session_model.specs.Turning.{State}
use Rattle.session_model.specs.Worlds.{World}
use Rattle.exec_session.proofs.Finding.{root_found}
use Rattle.exec_session.specs.Found.{root_ref}
use Rattle.exec_steps.specs.Asked.{IsSameButTable, MayMakeEntered, first_widenings, made_entered, made_fid}
use Rattle.exec_session.specs.Meant.{kept}
use Rattle.exec_session.specs.Turned.{Begins, SameBut}
use Rattle.exec_steps.specs.declared.rooms.NewEntry.{NewEntry}
use Rattle.exec_session.specs.declared.session.Session.{Session}
use Rattle.exec_steps.proofs.Calling.{dir_stands_still}
use Rattle.exec_steps.specs.Midway.{AreFree, Arrived}
use Rattle.exec_session.specs.laws_lookup.specs.HintLaws.{HasFullValues}

-- ---- reserved sectors
pub are_free : (p : Pack) (end n : ℕ) (bits : List Bool) (fresh : List ℕ) → IsReserved end n bits fresh → All (λ i. is_free_at p i ≡ true) fresh → AreFree p fresh
are_free p end n bits fresh reserved free = (free, (λ i j d lt within. apart (AllPairs-from_increasing fresh reserved.rising.rising i j d lt within)))
  where
    apart : {x y : ℕ} → x < y → x ≢ y
    apart less = λ e. omega (arith, less, e)

-- ---- DiskDescriptor's first page, by what is kept of it
pub first_placed : (p : Pack) (k : Kept) → DescriptorFits p k.shape k.last k.mark k.pages → place (sights p) disk_descriptor 1 ≡ Some (get_or k.pages 0 0)
first_placed p k fits =
    let size : length k.pages ≡ data_pages k.shape = fits.size in
    let some : 0 < length k.pages = omega (arith, size) in
    fits.bears 0 some ∙ slice_get-get_or k.pages 0 0 some

-- ---- SysDir
pub root_stands : (p : Pack) → Sound p → DirStands p root_ref
root_stands p sound =
    let found = root_found p sound in
    record { stands = record { whole = sound.whole; tidy = sound.tidy; from = found.from }; directory = found.directory; living = found.living }

-- ---- what the steps of a new file ask, once the mark is open
-- Of the pack `p` as the line began, and `q` then.
pub may_make : (p q : Pack) (k : Kept) (w : World) (l : Line) (e : NewEntry) (of_directory : Bool) (fresh : List ℕ) → Sound p → DirStands p e.dir → first_widenings e ≡ widenings (read_as p) e.dir.fid e.name
    → MakesFile p w l e.dir.fid e.name (made_fid of_directory ((read_as p).last + 1)) → Arrived p q k [] fresh → k.last < most_serials → MayMakeEntered q k e of_directory fresh
may_make p q k w l e of_directory fresh sound stands planned makes arrived left =
    let m : Model = read_as p in
    let d : Fid = e.dir.fid in
    let f : Fid = made_fid of_directory (k.last + 1) in
    let reads : read_as q ≡ m = arrived.reads in
    let last : m.last ≡ k.last = sym (ap (λ x. x.last) reads) ∙ arrived.fits.last_is in
    let named : MakesFile p w l d e.name f = subst (λ n. MakesFile p w l d e.name (made_fid of_directory (n + 1))) last makes in
    let above = named.next in
    record {
      widens = record { root = dir_stands_still root_ref arrived (λ x. tt) (root_stands p sound); dir = dir_stands_still e.dir arrived (λ x. tt) stands; free = arrived.free };
      planned = planned ∙ ap (λ x. widenings x d e.name) (sym reads);
      left = left;
      full_name = named.full_name;
      fresh_file = none_above_the_last_serial q f arrived.whole (let same = ap (λ x. x.last) reads in omega (arith, above, same));
      stored = named.entry.stored;
      absent = ap (λ x. exact e.name (dir_items x d)) reads ∙ named.entry.absent;
      open_name = subst (λ x. IsOpenTo x d f e.name) (sym reads) named.entry.free;
      enterable = named.entry.enterable;
      room = subst (λ x. entry_length (length e.name) ≤ largest_run (dir_items (steps_of x (first_widenings e)) d)) (sym reads)
          (subst (λ o. entry_length (length e.name) ≤ largest_run (dir_items (steps_of m o) d)) (sym planned) named.entry.place);
    }

-- ---- the operations
pub some_made : (e : NewEntry) (f : Fid) (moment : ℕ) → 0 < length (made_entered e f moment)
some_made e f moment = let many = length-append (first_widenings e) (make f e.name moment ∷ enter e.dir.fid e.name f ∷ []) in omega (arith, many)

-- of a line that is refused the other one
pub unless_same : {X : Type 0} (r : Option Refusal) (x y : X) → x ≡ y → unless_refused r x y ≡ y
unless_same None x y e = e
unless_same (Some z) x y e = refl

-- a line that isn't refused does those of its effect
pub unrefused_ops : (l : Line) (m : Model) (w : World) → refusal_to l m w ≡ None → ops l m w ≡ (effect l m w).ops
unrefused_ops l m w none = ap (λ r. unless_refused r (effect l m w).ops []) none

-- ---- as the line begins, and once it has looked
pub begins_there : (a b : Taped) (k : Kept) (s : State) (l : Line) → pack b ≡ pack a → Begins a k s l → Begins b k s l
begins_there a b k s l same begins = record {
  keeping = subst (λ p. Keeping p k s) (sym same) begins.keeping;
  unneeded = begins.unneeded;
  stays = begins.stays;
  taken_up = begins.taken_up;
  full = subst HasFullValues (sym same) begins.full;
}

-- what is kept, if only the table may be another, which is true if it was
pub same_but_reserved : (a b : Taped) (s0 s1 : Session) → pack b ≡ pack a → IsSameButTable s0 s1 → (TableTrue (pack a) s0.hints.table → TableTrue (pack a) s1.hints.table) → SameBut a b (kept s0) (kept s1)
same_but_reserved a b s0 s1 here same table = record {
  world = record { moment = ap (λ x. x.moment) same; level = ap (λ x. x.world.level) same; memory = ap (λ x. x.world.memory) same; streams = ap (λ x. x.streams.slots) same; need = ap (λ x. x.need) same };
  shape = ap (λ x. x.descriptor.shape) same;
  last = ap (λ x. x.descriptor.last) same;
  mark = ap (λ x. x.descriptor.mark) same;
  pages = ap (λ x. x.descriptor.pages) same;
  tally = ap (λ x. x.tally) same;
  table = λ was. subst (λ p. TableTrue p s1.hints.table) (sym here) (table was);
}

-- its files
pub touched_pair : (files : List Fid) (d e : Fid) → Contains files d → Contains files e → (f : Fid) → Contains (d ∷ e ∷ []) f → Contains files f
touched_pair files d e first second f (zero, less, is) = subst (Contains files) is first
touched_pair files d e first second f (suc zero, less, is) = subst (Contains files) is second
touched_pair files d e first second f (suc (suc k), less, is) = absurd (omega (arith, less))
