-- The entry of a name, the page in which its slot begins, and the value in which that is a free one.
use Rattle.std.proofs.Common.{◌≡◌, ℕ, ◌+◌, ◌*◌, ◌<◌, ◌≤◌, false, List, [], ◌∷◌, IfSome, None, Option, Some, Result, refl, sym, ◌∙◌, ap, subst, arith, inl, inr}
use Rattle.alto_words.specs.Fid.{is_system}
use Rattle.alto_words.specs.declared.fid.Fid.{Fid}
use Rattle.alto_words.specs.declared.wanted.Wanted.{Wanted}
use Rattle.alto_words.specs.declared.wanted.Wanted.TheVariants.{Exact}
use Rattle.dir_slots.proofs.Hands.{slots_within}
use Rattle.dir_slots.proofs.Slots.{all_words-append}
use Rattle.disk_records.proofs.Bytes.{length-words_of}
use Rattle.disk_records.specs.Commands.{value_writes}
use Rattle.disk_records.specs.Packs.{Pack, sector_at}
use Rattle.disk_records.specs.Tapes.{Taped}
use Rattle.disk_records.specs.declared.records.Sector.{Sector}
use Rattle.file_pages.specs.Calls.{IsOneValue}
use Rattle.file_pages.specs.Values.{WroteValue}
use Rattle.hint_cache.specs.Caches.{Cached}
use Rattle.laws_call.proofs.writing.Laws.{written_acts}
use Rattle.laws_call.specs.Acting.{Around}
use Rattle.laws_call.specs.Writing.{entry_freed, leaves}
use Rattle.laws_operation.proofs.drop.Laws.{slot_carries_out, slot_keeps_links, slot_words_fit}
use Rattle.laws_operation.proofs.values.Laws.{values_leave_free_sectors}
use Rattle.file_pages.specs.laws_contents.proofs.pages.Laws.{carried_once_is_in_place}
use Rattle.file_pages.specs.laws_lookup.proofs.slots.Laws.{found_entry_has_the_name, found_entry_splits_the_slots}
use Rattle.file_pages.specs.laws_midway.proofs.found.Laws.{found_entry_may_go}
use Rattle.pack_model.specs.hints.Links.{dir_slots, dir_words}
use Rattle.pack_model.specs.operations.Committing.{page_of_byte, page_of_word}
use Rattle.pack_model.specs.operations.PageWords.{freed_value}
use Rattle.pack_model.specs.operations.Step.Operation.{leave}
use Rattle.pack_model.specs.operations.Step.{Operation}
use Rattle.pack_model.specs.reading.Files.{file_bytes, lives}
use Rattle.pack_model.specs.reading.Lookup.{EntryAt, entry_at}
use Rattle.pack_model.specs.reading.Sights.{sights}
use Rattle.pack_model.specs.reading.Slots.Item.{entry}
use Rattle.pack_model.specs.reading.Slots.{Item, all_words, item_words}
use Rattle.pack_model.specs.states.Whole.{Tidy, TidyBut, Whole}
use Rattle.page_seeking.specs.Seeking.{IsLengthBelow, KeepsHandy, Quick, Stands, file_length, page_number}
use Rattle.page_seeking.specs.declared.refs.FileError.{FileError}
use Rattle.page_seeking.specs.declared.refs.FileRef.{FileRef}
use Rattle.directory.specs.declared.errors.DirError.{DirError}
use Rattle.directory.specs.Answers.{in_directory}
use Rattle.directory.specs.Asked.{DirIsFound, DirStands}
use Rattle.directory.specs.Found.{IsQuick}
use Rattle.directory.specs.Leaving.{ActsOnSlot, EndsDrop, FreesSlot, IsEntryNamed, IsEntryOf, IsOrdinaryEntry, IsQuickTwice, ending, entry_named, freed, unended, unfreed}
use Rattle.directory.proofs.Answering.{error_out, ok_in}
use Rattle.directory.proofs.Quickly.{refused_sooner}
use Rattle.directory.proofs.Standing.{once_of_whole}

pub found_of_stands : (p : Pack) (dir : FileRef) → DirStands p dir → DirIsFound p dir
found_of_stands p dir h = record { once = once_of_whole p h.stands.whole; from = h.stands.from; directory = h.directory; living = h.living }

-- ---- its page
-- an entry begins within the directory's bytes
pub begins_within : (p : Pack) (d : Fid) (w : Wanted) (e : EntryAt) → entry_at w (dir_slots p d) ≡ Some e → 2 * e.place < file_length p d
begins_within p d w e is =
    let s = found_entry_splits_the_slots (dir_words p d) w e is in
    let most = slots_within (dir_words p d) in
    let words = ap all_words s.slots_are ∙ all_words-append s.before (entry e.fid e.name ∷ s.later) in
    let half = length-words_of (file_bytes (sights p) d) in
    let place = s.place in
    omega (arith, most, words, half, place)

pub page_within : (p : Pack) (d : Fid) (w : Wanted) (e : EntryAt) → entry_at w (dir_slots p d) ≡ Some e → page_of_word e.place ≤ page_of_byte (file_length p d)
page_within p d w e is = let within = begins_within p d w e is in omega (arith, within)

-- so no length is below it
pub no_length_below : (p : Pack) (d : Fid) (w : Wanted) (e : EntryAt) (n : ℕ) → entry_at w (dir_slots p d) ≡ Some e → IsLengthBelow p d (page_of_word e.place) n → ⊥
no_length_below p d w e n is h = let within = page_within p d w e is in let below = h.below in let same = h.is in omega (arith, within, below, same)

-- ---- its slot
pub record EntryIsThere (p : Pack) (d : Fid) (name : List ℕ) (at : ℕ) (e : EntryAt) : Type 0 where
  pub before : List Item
  pub later : List Item
  pub named : IsEntryNamed p d name at before later e

pub entry_is_there : (p : Pack) (dir : FileRef) (name : List ℕ) (at : ℕ) (e : EntryAt) (buffer : Sector) → DirIsFound p dir → entry_named p dir.fid name ≡ Some e → Stands p (page_number dir.fid (page_of_word e.place)) at buffer
    → EntryIsThere p dir.fid name at e
entry_is_there p dir name at e buffer found is stands =
    let place = carried_once_is_in_place p (page_number dir.fid (page_of_word e.place)) at found.once stands.carries in
    let go = found_entry_may_go p dir.fid (Exact name) e at found.living found.directory is place in
    record { before = go.before; later = go.later; named = record { first = is; same = found_entry_has_the_name (Exact name) (dir_slots p dir.fid) e is; place = go.place_is; entry = go.entry_is } }

-- the value in which it is a free one
pub freed_is : (p : Pack) (d : Fid) (name : List ℕ) (at : ℕ) (a b : List Item) (e : EntryAt) (buffer : Sector) (value : List ℕ) → IsEntryNamed p d name at a b e → buffer ≡ sector_at p at → value ≡ freed_value e.place (item_words (entry e.fid e.name)) buffer.value
    → value ≡ entry_freed p at a e.fid e.name
freed_is p d name at a b e buffer value named holds is =
    is ∙ ap (λ (s : Sector). freed_value e.place (item_words (entry e.fid e.name)) s.value) holds ∙ ap (λ n. freed_value n (item_words (entry e.fid e.name)) (sector_at p at).value) (sym named.place)

-- ---- the leaving
ordinary : (p : Pack) (d : Fid) (name : List ℕ) (e : EntryAt) (r : Option EntryAt) → r ≡ Some e → IfSome r (λ (x : EntryAt). is_system x.fid ≡ false) → is_system e.fid ≡ false
ordinary p d name e None is h = absurd cc
ordinary p d name e (Some x) is h = let same : x ≡ e = cc in subst (λ (y : EntryAt). is_system y.fid ≡ false) same h

pub left_once : (p : Pack) (d : Fid) (name : List ℕ) (at : ℕ) (a b : List Item) (e : EntryAt) → Whole p → Tidy p → IsOrdinaryEntry p d name → IsEntryNamed p d name at a b e → IsOneValue p (leave d name) (value_writes at (entry_freed p at a e.fid e.name))
left_once p d name at a b e whole tidy may named =
    let exact = leaves named.entry named.same (ordinary p d name e (entry_named p d name) named.first may) in
    record { exact = exact; acts = written_acts p (leave d name) [] [] (value_writes at (entry_freed p at a e.fid e.name)) whole tidy exact; moves = refl }

pub slot_freed : {o : Operation} {d : Fid} {name : List ℕ} {at : ℕ} {a b : List Item} {e : EntryAt} {p : Pack} {old new : Around} (r : Result (Unit {0}) FileError) (s : Result (Unit {0}) DirError) → s ≡ in_directory r → IsEntryNamed p d name at a b e
    → WroteValue at (entry_freed p at a e.fid e.name) o old new r → FreesSlot p d name old.tape new.tape s
slot_freed r s is named wrote = rw is (freed named (record { some = wrote.some; all = ok_in _ r wrote.all; out_of_memory = λ memory. wrote.out_of_memory (error_out r _ memory) }))

-- ---- the end of a drop
of_file : (f : Fid) (e : EntryAt) (r : Option EntryAt) → r ≡ Some e → IfSome r (λ (x : EntryAt). x.fid ≡ f) → e.fid ≡ f
of_file f e None is h = absurd cc
of_file f e (Some x) is h = let same : x ≡ e = cc in subst (λ (y : EntryAt). y.fid ≡ f) same h

acts_on_slot : (p : Pack) (d : Fid) (name : List ℕ) (at : ℕ) (a b : List Item) (e : EntryAt) → Whole p → TidyBut e.fid (sights p) → lives (sights p) e.fid ≡ false → IsEntryNamed p d name at a b e
    → ActsOnSlot p (value_writes at (entry_freed p at a e.fid e.name))
acts_on_slot p d name at a b e whole tidy dead named =
    let frees = slot_words_fit p d at a b e.fid e.name named.entry in
    record {
      slot = slot_carries_out p e.fid d at a b e.name whole tidy dead frees;
      links = slot_keeps_links p e.fid d at a b e.name whole tidy dead frees;
      free = values_leave_free_sectors p ((at, entry_freed p at a e.fid e.name) ∷ []);
    }

pub drop_ended : {T : Type 0} {old new : Taped} (p : Pack) (d : Fid) (name : List ℕ) (f : Fid) (r : Result T DirError) → Whole p → TidyBut f (sights p) → lives (sights p) f ≡ false → IsEntryOf p d name f → FreesSlot p d name old new r → EndsDrop p old new r
drop_ended p d name f r whole tidy dead of (unfreed silent) = unended silent
drop_ended p d name f r whole tidy dead of (freed {at} {a} {b} {e} named wrote) =
    let same = sym (of_file f e (entry_named p d name) named.first of) in
    ending (acts_on_slot p d name at a b e whole (subst (λ (x : Fid). TidyBut x (sights p)) same tidy) (subst (λ (x : Fid). lives (sights p) x ≡ false) same dead) named) wrote

-- ---- few sector commands
pub quick_kept : (p : Pack) (f : Fid) (old now : Cached) → Quick p f old → KeepsHandy p old now → Quick p f now
quick_kept p f old now q keeps = record { whole = q.whole; links = q.links; handy = record { row = q.handy.row; last = q.handy.last; cached = keeps q.whole q.links f q.handy.cached } }

-- the entry is found, and its page is located
pub quick_both : (p : Pack) (d : Fid) (w : Wanted) (e : EntryAt) (number : ℕ) (before mid now : Cached) (a b c : Taped) → entry_at w (dir_slots p d) ≡ Some e → number ≡ page_of_word e.place → mid.refused ≤ now.refused → IsQuick p d before mid a b
    → c.runs ≤ b.runs + (number + 1) → IsQuickTwice p d 2 before now a c
quick_both p d w e number before mid now a b c is same grows found located =
    let within = page_within p d w e is in
    elim found [ inl few ↦ inl (omega (arith, few, located, within, same)) | inr rose ↦ inr (refused_sooner before mid now grows rose) ]

-- and its slot is written
pub quick_written : (p : Pack) (d : Fid) (before now : Cached) (a b c : Taped) → IsQuickTwice p d 2 before now a b → c.runs ≤ b.runs + 2 → IsQuickTwice p d 4 before now a c
quick_written p d before now a b c located written = elim located [ inl few ↦ inl (omega (arith, few, written)) | inr rose ↦ inr rose ]
