-- The record writes of each operation leave SysDir's leader and DiskDescriptor alone.
use Rattle.std.proofs.Common.{Bool, List, None, Some, [], ap, arith, cond, eq-eqb, false, get_or, inl, inr, length, length-drop, refl, set, subst, suc, sym, take, true, ℕ, ◌++◌, ◌+◌, ◌-◌, ◌/◌, ◌<◌, ◌∙◌, ◌∷◌, ◌≡◌, ◌≢◌}
use Rattle.std.proofs.lemmas.Bool.{cases_lt, or_parts}
use Rattle.std.proofs.lemmas.List.Elements.{All-append, All-nil}
use Rattle.std.specs.Prelude.{◌==◌}
use Rattle.laws_room.specs.alto_words.specs.Fid.{disk_descriptor, is_directory, is_fid, sys_dir}
use Rattle.laws_room.specs.alto_words.specs.declared.fid.Fid.{Fid}
use Rattle.disk_records.specs.Commands.{claim_writes, relabel_writes, release_writes, value_writes}
use Rattle.disk_records.specs.Labels.{Tag, in_range, page_of, tag}
use Rattle.disk_records.specs.Packs.{Pack, sector_at}
use Rattle.disk_records.specs.Words.{word}
use Rattle.disk_records.specs.declared.records.Page.{Page}
use Rattle.pack_model.specs.reading.Bytes.{bytes_of, put_at}
use Rattle.pack_model.specs.operations.Commands.{Claim, Claimable, claims_writes, releases_writes, values_writes}
use Rattle.pack_model.specs.operations.Committing.{page_of_byte, page_of_word}
use Rattle.pack_model.specs.operations.Entering.{EntryRoom, entry_value, after_joining, joining, overlapping}
use Rattle.pack_model.specs.reading.Files.{file_bytes, place}
use Rattle.pack_model.specs.reading.Model.{good_one}
use Rattle.pack_model.specs.operations.Operations.{release_file_writes}
use Rattle.pack_model.specs.operations.PageWords.{freed_value, in_page, later, page_number}
use Rattle.pack_model.specs.reading.Sights.{Sight, sights}
use Rattle.pack_model.specs.reading.Sights.Sight.{free, hidden, holds}
use Rattle.pack_model.specs.reading.Slots.{all_words}
use Rattle.pack_model.specs.states.Whole.{Whole}
use Rattle.laws_room.specs.pack_laws.proofs.Keys.{same_fid}
use Rattle.laws_room.specs.laws_record.proofs.Copying.{place_carried}
use Rattle.laws_room.specs.laws_record.proofs.DirReads.{not_descriptor}
use Rattle.laws_room.specs.laws_operation.proofs.EnterMoves.{values-append}
use Rattle.laws_room.specs.laws_operation.proofs.Lying.{shows_set, within}
use Rattle.laws_room.specs.laws_operation.specs.NameLaws.{entry_room}
use Rattle.laws_line.proofs.inside.crashes.Sparing.{IsElse, claim_spares, names_else, reclaim_spares, relabel_spares, release_spares, releases_spare, shown_free, value_alone}
use Rattle.laws_line.specs.SystemLaws.{CutLeavesTheSystem, DropLeavesTheSystem, EnterLeavesTheSystem, GrowLeavesTheSystem, LeaderLeavesTheSystem, MakeLeavesTheSystem, PutLeavesTheSystem, ReleaseLeavesTheSystem, SlotLeavesTheSystem, LeavesSystem, LeavesSystemAt, WidenLeavesTheSystem}

-- ---- names of files
-- an ordinary file isn't SysDir
not_root : (f : Fid) → is_directory f ≡ false → is_fid f sys_dir ≡ false
not_root f ordinary = by (is_fid f sys_dir) refl
  where
    by : (t : Bool) → is_fid f sys_dir ≡ t → t ≡ false
    by true e = absurd (let d : true ≡ false = sym (ap is_directory (same_fid f sys_dir e)) ∙ ordinary in cc)
    by false e = refl

-- its pages are other ones
data_page : (f : Fid) (n : ℕ) → is_fid f disk_descriptor ≡ false → 0 < n → IsElse (page_number f n)
data_page f n apart some = record { no_descriptor = apart; no_root = inl some }

-- ---- claims
-- what a claim's label names
claim_names : (label : List ℕ) (f : Fid) (n c : ℕ) → tag label ≡ record { fid = f; page = n; bytes = c } → in_range (tag label) ≡ true → page_of label ≡ Some (page_number f n)
claim_names label f n c e r = ap (λ b. cond b (Some (page_number (tag label).fid (tag label).page)) None) r ∙ ap (λ (t : Tag). Some (page_number t.fid t.page)) e

module _ (p : Pack) (w : Whole p) where
  -- of pages of a file
  claims_spare : (f : Fid) (apart : is_fid f disk_descriptor ≡ false) (cs : List Claim) (ss : List Sight) (k : ℕ) → ((i : ℕ) → get_or ss i hidden ≡ free → get_or (sights p) i hidden ≡ free) → Claimable ss f k cs → LeavesSystem p (claims_writes cs)
  claims_spare f apart [] ss k frees h = All-nil (LeavesSystemAt p)
  claims_spare f apart (c ∷ cs) ss k frees h =
      let page : Sight = holds f k (take (word c.label 3) (bytes_of c.value)) in
      All-append (LeavesSystemAt p) (claim_writes c.at c.label c.value) (claims_writes cs)
      (claim_spares p w.root.0 w.root.1 c.at c.label c.value (shown_free p c.at (frees c.at h.0)) (names_else c.label (page_number f (suc k)) (claim_names c.label f (suc k) (word c.label 3) h.1 h.2) apart))
      (claims_spare f apart cs (set ss c.at page) (suc k) (λ i e. elim (shows_set ss c.at page i free (within ss c.at (ap good_one h.0)) e) [ inl z ↦ absurd (let x : page ≡ free = z.1 in cc) | inr z ↦ frees i z.1 ]) h.3)

  -- of a growth
  grow_spares : (f : Fid) (n : ℕ) (claims : List Claim) (at : ℕ) (label value : List ℕ) → is_fid f disk_descriptor ≡ false → place (sights p) f (page_of_byte n) ≡ Some at → Claimable (sights p) f (page_of_byte n) claims → page_of label ≡ Some (page_number f (page_of_byte n))
      → LeavesSystem p (claims_writes claims ++ claim_writes at label value)
  grow_spares f n claims at label value apart bears claimable names =
      let x : Page = page_number f (page_of_byte n) in
      All-append (LeavesSystemAt p) (claims_writes claims) (claim_writes at label value) (claims_spare f apart claims (sights p) (page_of_byte n) (λ i e. e) claimable)
      (reclaim_spares p w.root.0 w.root.1 at x label value (place_carried p x at bears) (data_page f (page_of_byte n) apart (omega arith)) (names_else label x names apart))

  -- a page of a directory
  dir_page : (d : Fid) (n at : ℕ) (value : List ℕ) → is_directory d ≡ true → 0 < n → place (sights p) d n ≡ Some at → LeavesSystem p (value_writes at value)
  dir_page d n at value dir some bears = value_alone p w.root.0 w.root.1 at (page_number d n) value (place_carried p (page_number d n) at bears) (data_page d n (not_descriptor d dir) some)

-- ---- the laws
pub put_leaves_the_system : PutLeavesTheSystem
put_leaves_the_system p f offset new at value w h =
    let x : Page = page_number f (page_of_byte offset) in
    value_alone p w.root.0 w.root.1 at x value (place_carried p x at h.sector) (data_page f (page_of_byte offset) h.file.no_descriptor (omega arith))

pub grow_leaves_the_system : GrowLeavesTheSystem
grow_leaves_the_system p f new claims at label value w h = grow_spares p w f (length (file_bytes (sights p) f)) claims at label value h.file.no_descriptor h.sector h.claimable h.page

pub cut_leaves_the_system : CutLeavesTheSystem
cut_leaves_the_system p f n at label later w h =
    let x : Page = page_number f (page_of_byte n) in
    All-append (LeavesSystemAt p) (relabel_writes at label (sector_at p at).value) (releases_writes later)
    (relabel_spares p w.root.0 w.root.1 at x label (sector_at p at).value (place_carried p x at h.sector) (data_page f (page_of_byte n) h.file.no_descriptor (omega arith)) (names_else label x h.page h.file.no_descriptor))
    (releases_spare p w.root.0 w.root.1 f (suc (page_of_byte n)) later h.file.no_descriptor (omega arith) h.later_are)

pub leader_leaves_the_system : LeaderLeavesTheSystem
leader_leaves_the_system p f change at value w h =
    let x : Page = page_number f 0 in
    value_alone p w.root.0 w.root.1 at x value (place_carried p x at h.sector) (record { no_descriptor = h.file.no_descriptor; no_root = inr (not_root f h.file.no_directory) })

pub make_leaves_the_system : MakeLeavesTheSystem
make_leaves_the_system p f name moment page leader w h =
    All-append (LeavesSystemAt p) (claim_writes page.at page.label page.value) (claim_writes leader.at leader.label leader.value ++ [])
    (claim_spares p w.root.0 w.root.1 page.at page.label page.value h.page_free (names_else page.label (page_number f 1) h.page_is h.no_descriptor))
    (All-append (LeavesSystemAt p) (claim_writes leader.at leader.label leader.value) []
    (claim_spares p w.root.0 w.root.1 leader.at leader.label leader.value h.leader_free (names_else leader.label (page_number f 0) h.leader_is h.no_descriptor)) (All-nil (LeavesSystemAt p)))

pub release_leaves_the_system : ReleaseLeavesTheSystem
release_leaves_the_system p f at pages w h =
    let x : Page = page_number f 0 in
    let apart = or_parts (is_fid f sys_dir) (is_fid f disk_descriptor) h.no_system in
    All-append (LeavesSystemAt p) (release_writes at) (releases_writes pages)
    (release_spares p w.root.0 w.root.1 at x (place_carried p x at h.sector) (record { no_descriptor = apart.1; no_root = inr apart.0 }))
    (releases_spare p w.root.0 w.root.1 f 1 pages apart.1 (omega arith) h.pages_are)

pub slot_leaves_the_system : SlotLeavesTheSystem
slot_leaves_the_system p d at a old b value w h = dir_page p w d (all_words a / 256 + 1) at value h.write.directory (omega arith) h.write.sector

pub drop_leaves_the_system : DropLeavesTheSystem
drop_leaves_the_system p f at pages d slot_at a old b value w h frees = All-append (LeavesSystemAt p) (release_file_writes at pages) (value_writes slot_at value) (release_leaves_the_system p f at pages w h) (slot_leaves_the_system p d slot_at a old b value w frees)

pub widen_leaves_the_system : WidenLeavesTheSystem
widen_leaves_the_system p d added claims at label value w h = grow_spares p w d (length (file_bytes (sights p) d)) claims at label value (not_descriptor d h.directory) h.sector h.claimable h.page

pub enter_leaves_the_system : EnterLeavesTheSystem
enter_leaves_the_system p d name f a old b left words at next_at w h =
    let r : EntryRoom = entry_room a old at next_at in
    let x : List (ℕ × List ℕ) = joining p r in
    let y : List (ℕ × List ℕ) = overlapping (after_joining p r) (all_words a) words next_at in
    let last : List ℕ = entry_value p r words in
    All-append (LeavesSystemAt p) (values_writes (x ++ y)) (value_writes at last)
    (subst (LeavesSystem p) (sym (values-append x y))
    (All-append (LeavesSystemAt p) (values_writes x) (values_writes y)
    (first (r.first_words == r.total) (freed_value r.place r.total (sector_at p at).value))
    (second (page_of_word (all_words a + length words - 1) == page_of_word (all_words a)) refl (put_at 0 (later (all_words a) words) (sector_at (after_joining p r) next_at).value))))
    (here last)
  where
    here : (value : List ℕ) → LeavesSystem p (value_writes at value)
    here value = dir_page p w d (page_of_word (all_words a)) at value h.directory (omega arith) h.sector

    first : (c : Bool) (value : List ℕ) → LeavesSystem p (values_writes (cond c [] ((at, value) ∷ [])))
    first true value = All-nil (LeavesSystemAt p)
    first false value = here value

    second : (c : Bool) → (page_of_word (all_words a + length words - 1) == page_of_word (all_words a)) ≡ c → (value : List ℕ) → LeavesSystem p (values_writes (cond c [] ((next_at, value) ∷ [])))
    second true e value = All-nil (LeavesSystemAt p)
    second false e value =
        let apart : page_of_word (all_words a + length words - 1) ≢ page_of_word (all_words a) = λ z. (let x : true ≡ false = sym (eq-eqb (page_of_word (all_words a + length words - 1)) (page_of_word (all_words a)) z) ∙ e in cc) in
        let over : length (later (all_words a) words) ≡ length words - (256 - in_page (all_words a)) = length-drop (256 - in_page (all_words a)) words in
        let long : 256 - in_page (all_words a) < length words = (elim (cases_lt (256 - in_page (all_words a)) (length words)) [ inl l ↦ l | inr l ↦ absurd (apart (omega arith)) ]) in
        dir_page p w d (suc (page_of_word (all_words a))) next_at value h.directory (omega arith) (h.next_sector (omega arith))
