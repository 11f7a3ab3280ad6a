-- Where links are true, and all entries are kept except that of a file that was dropped, no hint for a file that lives misleads.
use Rattle.std.proofs.Common.{All, Bool, List, None, Option, Result, Some, [], add-one, ap, arith, cond, false, inl, inr, le-leb, length, ltb-true, nat_lt, not, refl, subst, suc, sym, true, zero, ℕ, ◌+◌, ◌<◌, ◌∙◌, ◌∷◌, ◌≡◌, ◌≤◌, ◌⊎◌}
use Rattle.std.proofs.lemmas.List.Elements.{All-contains, Contains-append_cases, Contains-append_right, Contains-push_cases}
use Rattle.std.specs.FinMap.{entries, from_entries, get}
use Rattle.std.specs.Option.{is_some, option_map}
use Rattle.std.specs.Prelude.{Contains}
use mathlib.Core.Path.{fun_ext}
use Rattle.alto_words.specs.Fid.{fid_cmp, is_directory, is_fid}
use Rattle.alto_words.specs.declared.fid.Fid.{Fid}
use Rattle.disk_records.specs.Addresses.{pages_of, real_of}
use Rattle.disk_records.specs.Packs.{AreFormed, Pack, carried, is_usable, sector_at}
use Rattle.disk_records.specs.Words.{word}
use Rattle.disk_records.specs.declared.records.Page.{Page}
use Rattle.disk_records.specs.declared.records.Place.TheVariants.{Entry, Held, Next, Root}
use Rattle.disk_records.specs.declared.records.Place.{Place}
use Rattle.pack_model.specs.hints.Links.{IsTrueAddress, LinksTrue, dir_words, kept_slots, link_to}
use Rattle.pack_model.specs.hints.Misled.{IsOnDisk, Misled, StandsInEntry, StandsInLink}
use Rattle.pack_model.specs.operations.Committing.{page_of_byte}
use Rattle.pack_model.specs.operations.Step.{body_without, file_without, item_without, items_without}
use Rattle.pack_model.specs.reading.Bodies.{Files, body_items, described, found, is_described, items_in}
use Rattle.pack_model.specs.reading.Bodies.Body.{data_of, items_of}
use Rattle.pack_model.specs.reading.Files.{file_bytes, lives, place}
use Rattle.pack_model.specs.reading.Model.{dir_items, read_as, read_sights}
use Rattle.pack_model.specs.reading.Namings.{IsTidy, files_kept, is_kept, tidied}
use Rattle.pack_model.specs.reading.Sights.{sights}
use Rattle.pack_model.specs.reading.Slots.{Item, item_words, slots}
use Rattle.pack_model.specs.reading.Slots.Item.{entry, space}
use Rattle.pack_model.specs.reading.SlotWords.{SlotAt, address_at, slots_at}
use Rattle.pack_model.specs.sessions.Maps.{map_values}
use Rattle.pack_model.specs.states.Whole.{TidyBut, Whole, living_too}
use Rattle.file_pages.specs.pack_laws.proofs.Guarding.{carried_parts}
use Rattle.file_pages.specs.pack_laws.proofs.Keys.{fid_same, fid_total, same_fid}
use Rattle.file_pages.specs.pack_laws.proofs.Mapping.{get-map_values}
use Rattle.file_pages.specs.laws_record.proofs.Carried.{carried_place}
use Rattle.file_pages.specs.laws_record.proofs.Copying.{place_carried}
use Rattle.file_pages.specs.laws_record.proofs.DirReads.{has_leader, not_descriptor}
use Rattle.file_pages.specs.laws_record.proofs.Dropping.{files_other, gone}
use Rattle.file_pages.specs.laws_record.proofs.Heads.{and_left, and_right}
use Rattle.file_pages.specs.laws_record.proofs.Keeping.{get-where}
use Rattle.file_pages.specs.laws_record.proofs.Reading.{get_by}
use Rattle.file_pages.specs.laws_contents.proofs.pages.Laws.{formed_pages_have_256_words}
use Rattle.laws_operation.proofs.lengths.Laws.{full_page_is_not_the_last, placed_pages_are_those_up_to_the_last}
use Rattle.laws_operation.proofs.links.Laws.{next_link_names_the_page_after}
use Rattle.laws_operation.specs.LengthLaws.{CountsPage}
use Rattle.file_pages.specs.laws_lookup.proofs.hints.Laws.{true_hints_never_mislead}
use Rattle.file_pages.specs.laws_lookup.specs.HintLaws.{HasFullValues}
use Rattle.page_seeking.specs.Refs.{MisledBy}
use Rattle.page_seeking.specs.Seeking.{page_number}
use Rattle.page_seeking.specs.declared.refs.FileRef.{FileRef}
use Rattle.directory.specs.declared.errors.DirError.{DirError}
use Rattle.directory.specs.Asked.{DirIsFound}
use Rattle.directory.specs.Errors.{IfMisled}
use Rattle.directory.proofs.Misleading.{misled_map}

-- ---- the entries that are kept
-- where the file lives, all are
alive_too : (f : Fid) (v : Fid → Bool) → v f ≡ true → living_too f v ≡ v
alive_too f v alive = fun_ext (λ g. elim (is_fid g f) as (λ b. is_fid g f ≡ b → cond b true (v g) ≡ v g) [ true ↦ λ e. sym (ap v (same_fid g f e) ∙ alive) | false ↦ λ e. refl ] refl)

-- where it doesn't, all but its own
dead_again : (f : Fid) (v : Fid → Bool) → v f ≡ false → gone f (living_too f v) ≡ v
dead_again f v dead = fun_ext (λ g. elim (is_fid g f) as (λ b. is_fid g f ≡ b → cond b false (cond b true (v g)) ≡ v g) [ true ↦ λ e. sym (ap v (same_fid g f e) ∙ dead) | false ↦ λ e. refl ] refl)

tidied_without : (f : Fid) (v : Fid → Bool) (files : Files) → v f ≡ false → IsTidy (living_too f v) files → tidied v files ≡ map_values (file_without f) files
unfolding tidied map_values
tidied_without f v files dead tidy =
    ap (λ u. from_entries {R = fid_cmp} (files_kept (is_kept u) [] (entries files))) (sym (dead_again f v dead)) ∙ ap (from_entries {R = fid_cmp}) (files_other (living_too f v) f [] (entries files) tidy)

items_are_others : (p : Pack) (f d : Fid) → lives (sights p) f ≡ false → TidyBut f (sights p) → lives (sights p) d ≡ true → is_directory d ≡ true → dir_items (read_as p) d ≡ items_without f (slots (dir_words p d))
unfolding read_sights
items_are_others p f d dead tidy live dir =
    let ss = sights p in
    let l = has_leader ss d live in
    ap (λ m. items_in (get m d)) (tidied_without f (lives ss) (described ss) dead tidy)
    ∙ ap items_in (get-map_values fid_total fid_same (file_without f) (described ss) d)
    ∙ ap (λ r. items_in (option_map (file_without f d) r)) (get-where (found ss) is_described d ∙ ap (λ b. cond (not b) (get (found ss) d) None) (not_descriptor d dir) ∙ get_by ss d l.0 (file_bytes ss d) l.1 refl)
    ∙ ap (λ c. body_items (body_without f (cond c (items_of (slots (dir_words p d))) (data_of (file_bytes ss d))))) dir

-- ---- entries of other files
same_words : (f : Fid) (i : Item) → item_words i ≡ item_words (item_without f i)
same_words f (space n) = refl
same_words f (entry g name) = elim (is_fid g f) as (λ b. item_words (entry g name) ≡ item_words (cond b (space (item_words (entry g name))) (entry g name))) [ true ↦ refl | false ↦ refl ]

in_cases : (s : SlotAt) (ss : List SlotAt) (t : SlotAt) → Contains (s ∷ ss) t → (s ≡ t) ⊎ Contains ss t
in_cases s ss t h = elim (Contains-append_cases (s ∷ []) ss t h) [
  | inl one ↦ elim (Contains-push_cases [] s t one) [ inl none ↦ absurd (let l = none.1 in omega arith) | inr e ↦ inl e ]
  | inr more ↦ inr more
]

-- they stand where those of one file are free slots
stands_without : (f g : Fid) (name words : List ℕ) (begin : ℕ) (is : List Item) (s : SlotAt) → is_fid g f ≡ false → s.item ≡ entry g name → Contains (slots_at words begin is) s → Contains (slots_at words begin (items_without f is)) s
unfolding slots_at
stands_without f g name words begin [] s other named h = h
stands_without f g name words begin (i ∷ is) s other named h =
    let slot : SlotAt = record { place = begin; item = i; address = address_at words begin i } in
    let left : SlotAt = record { place = begin; item = item_without f i; address = address_at words begin (item_without f i) } in
    let later : List SlotAt = slots_at words (begin + item_words (item_without f i)) (items_without f is) in
    elim (in_cases slot (slots_at words (begin + item_words i) is) s h) [
      | inl one ↦
          let item : i ≡ entry g name = ap (λ (x : SlotAt). x.item) one ∙ named in
          let stays : item_without f i ≡ i = ap (item_without f) item ∙ ap (λ b. cond b (space (item_words (entry g name))) (entry g name)) other ∙ sym item in
          let same : left ≡ s = ap (λ (j : Item). record { place = begin; item = j; address = address_at words begin j }) stays ∙ one in
          subst (Contains (left ∷ later)) same (0, omega arith, refl)
      | inr more ↦ Contains-append_right (left ∷ []) later s (subst (λ n. Contains (slots_at words (begin + n) (items_without f is)) s) (same_words f i) (stands_without f g name words (begin + item_words i) is s other named more))
    ]

-- ---- a page that is carried
within_pack : (p : Pack) (x : Page) (j : ℕ) → carried p j ≡ Some x → (0 < j) × (j < pages_of p.shape)
within_pack p x j is =
    let usable : is_usable p.shape j (sector_at p j) ≡ true = (carried_parts p j x is).0 in (
      ltb-true 0 j (and_left (nat_lt 0 j) _ usable),
      ltb-true j (pages_of p.shape) (and_left (nat_lt j (pages_of p.shape)) _ (and_right (nat_lt 0 j) _ usable)),
    )

-- ---- addresses of entries
other_entry_leads : (p : Pack) (f dir : Fid) (w at : ℕ) (x : Page) → lives (sights p) f ≡ false → TidyBut f (sights p) → LinksTrue p → lives (sights p) x.fid ≡ true → Misled p (Entry dir w) at x → ⊥
other_entry_leads p f dir w at x dead tidy links live m =
    let e : StandsInEntry p dir w at x = m.stands in
    let words = dir_words p dir in
    let other : is_fid x.fid f ≡ false = elim (is_fid x.fid f) as (λ b. is_fid x.fid f ≡ b → b ≡ false) [ true ↦ λ s. (let z : true ≡ false = sym live ∙ ap (lives (sights p)) (same_fid x.fid f s) ∙ dead in absurd cc) | false ↦ λ s. refl ] refl in
    let same : kept_slots p dir ≡ slots_at words 0 (items_without f (slots words)) = ap (slots_at words 0) (items_are_others p f dir dead tidy e.lives e.directory) in
    let all = subst (All (λ s. IsTrueAddress (sights p) s.item s.address)) same (links.entries dir e.lives e.directory) in
    let one = All-contains (λ s. IsTrueAddress (sights p) s.item s.address) (slots_at words 0 (items_without f (slots words))) e.slot all (stands_without f x.fid e.name words 0 (slots words) e.slot other e.item e.stands) in
    let there : place (sights p) x.fid x.number ≡ Some at = ap (place (sights p) x.fid) e.number ∙ subst (λ i. IsTrueAddress (sights p) i e.slot.address) e.item one ∙ ap Some (sym e.address) in
    let is : carried p at ≡ Some x = place_carried p x at there in
    let names = within_pack p x at is in
    m.misses at (record { first = names.0; last = names.1; named = refl }) is

-- ---- next links
-- where a page isn't the last, the next one is within the file
next_there : (p : Pack) → Whole p → HasFullValues p → (x : Page) (i : ℕ) → carried p i ≡ Some x → (x.number ≡ 0) ⊎ (word (sector_at p i).label 3 ≡ 512) → suc x.number ≤ page_of_byte (length (file_bytes (sights p) x.fid))
next_there p whole sized x i is full = by x.number refl full
  where
    by : (n : ℕ) → x.number ≡ n → (x.number ≡ 0) ⊎ (word (sector_at p i).label 3 ≡ 512) → suc x.number ≤ page_of_byte (length (file_bytes (sights p) x.fid))
    by zero e h = rw e (omega arith)
    by (suc k) e (inl h) = cc
    by (suc k) e (inr h) =
        let counts : CountsPage p x.fid k i 512 = record { sector = ap (place (sights p) x.fid) (sym e) ∙ carried_place p whole i x is; sized = sized i x is; bytes = h } in
        let more = full_page_is_not_the_last p x.fid k i whole counts in
        rw e (omega (arith, more))

some_of : {X : Type 0} (r : Option X) → is_some r ≡ true → (x : X) × (r ≡ Some x)
some_of None e = cc
some_of (Some x) e = (x, refl)

link_leads : (p : Pack) (i at : ℕ) (x : Page) → Whole p → HasFullValues p → LinksTrue p → lives (sights p) x.fid ≡ true → Misled p (Next i) at x → ⊥
link_leads p i at x whole sized links live m =
    let h : StandsInLink p i at x = m.stands in
    let f = h.page.fid in
    let own : x.fid ≡ f = ap (λ (y : Page). y.fid) h.means in
    let next = next_there p whole sized h.page i h.carries h.full in
    let there = some_of (place (sights p) f (suc h.page.number)) (placed_pages_are_those_up_to_the_last p f (suc h.page.number) whole (subst (λ g. lives (sights p) g ≡ true) own live) ∙ le-leb (suc h.page.number) (page_of_byte (length (file_bytes (sights p) f))) next) in
    let j = there.0 in
    let means : x ≡ page_number f (suc h.page.number) = h.means ∙ ap (page_number f) (add-one h.page.number) in
    let is : carried p j ≡ Some x = place_carried p (page_number f (suc h.page.number)) j there.1 ∙ ap Some (sym means) in
    let names = within_pack p x j is in
    let linked = next_link_names_the_page_after p f h.page.number i whole links (carried_place p whole i h.page h.carries) in
    let named : at ≡ real_of p.shape j = h.link ∙ linked ∙ ap (link_to p.shape) there.1 in
    m.misses j (record { first = names.0; last = names.1; named = named }) is

-- ---- both
dead_never_mislead : (p : Pack) (f : Fid) (place : Place) (at : ℕ) (x : Page) → lives (sights p) f ≡ false → Whole p → TidyBut f (sights p) → HasFullValues p → LinksTrue p → lives (sights p) x.fid ≡ true → IsOnDisk place → Misled p place at x → ⊥
dead_never_mislead p f Root at x dead whole tidy sized links live on m = on
dead_never_mislead p f (Entry dir w) at x dead whole tidy sized links live on m = other_entry_leads p f dir w at x dead tidy links live m
dead_never_mislead p f (Next i) at x dead whole tidy sized links live on m = link_leads p i at x whole sized links live m
dead_never_mislead p f (Held i) at x dead whole tidy sized links live on m = on

pub others_never_mislead : (p : Pack) (f : Fid) (place : Place) (at : ℕ) (x : Page) → Whole p → TidyBut f (sights p) → HasFullValues p → LinksTrue p → lives (sights p) x.fid ≡ true → IsOnDisk place → Misled p place at x → ⊥
others_never_mislead p f place at x whole tidy sized links live on m = by (lives (sights p) f) refl
  where
    by : (b : Bool) → lives (sights p) f ≡ b → ⊥
    by true alive = true_hints_never_mislead p place at x whole (subst (λ v. IsTidy v (described (sights p))) (alive_too f (lives (sights p)) alive) tidy) sized links on m
    by false dead = dead_never_mislead p f place at x dead whole tidy sized links live on m

-- so a call on a directory that lives never answers that one did
pub never_led_but : {T : Type 0} (p : Pack) (f : Fid) (dir : FileRef) (r : Result T DirError) → AreFormed p → DirIsFound p dir → Whole p → TidyBut f (sights p) → LinksTrue p → IfMisled r (MisledBy p [] dir.fid) → IfMisled r (λ place at wanted found. ⊥)
never_led_but p f dir r formed found whole tidy links misled = misled_map r misled (λ place at wanted label x.
    others_never_mislead p f place at wanted whole tidy (λ i page e. formed_pages_have_256_words p i page formed e) links (subst (λ g. lives (sights p) g ≡ true) (sym x.own) found.living) (x.answers.on_disk whole) x.answers.misled)
