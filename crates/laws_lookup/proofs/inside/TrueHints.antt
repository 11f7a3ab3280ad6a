-- True hints never mislead, on a whole and tidy pack.
use Rattle.std.proofs.Common.{All, None, Option, Some, ap, arith, get_or, inl, inr, le-leb, length, ltb-true, nat_lt, refl, subst, suc, sym, true, zero, ℕ, ◌<◌, ◌∙◌, ◌≡◌, ◌≤◌, ◌⊎◌, add-one}
use Rattle.std.proofs.lemmas.List.Elements.{All-contains}
use Rattle.std.specs.Option.{is_some}
use Rattle.laws_operation.specs.alto_words.specs.Fid.{sys_dir}
use Rattle.laws_operation.specs.alto_words.specs.declared.fid.Fid.{Fid}
use Rattle.laws_operation.specs.disk_records.specs.Addresses.{pages_of, real_of}
use Rattle.laws_operation.specs.disk_records.specs.Packs.{Pack, carried, is_usable, sector_at}
use Rattle.laws_operation.specs.disk_records.specs.Words.{word}
use Rattle.laws_operation.specs.disk_records.specs.declared.records.Page.{Page}
use Rattle.laws_operation.specs.disk_records.specs.declared.records.Place.TheVariants.{Entry, Held, Next, Root}
use Rattle.laws_operation.specs.pack_model.specs.hints.Links.{IsTrueAddress, LinksTrue, dir_slots, dir_words, kept_slots, link_to}
use Rattle.laws_operation.specs.pack_model.specs.hints.Misled.{Misled, StandsInEntry, StandsInLink, leader_page}
use Rattle.laws_operation.specs.pack_model.specs.operations.Committing.{page_of_byte}
use Rattle.laws_operation.specs.pack_model.specs.operations.PageWords.{page_number}
use Rattle.laws_operation.specs.pack_model.specs.reading.Files.{carries_page, file_bytes, lives, place}
use Rattle.laws_operation.specs.pack_model.specs.reading.Model.{good_one}
use Rattle.laws_operation.specs.pack_model.specs.reading.SlotWords.{slots_at}
use Rattle.laws_operation.specs.pack_model.specs.reading.Sights.{sights}
use Rattle.laws_operation.specs.pack_model.specs.reading.Sights.Sight.{hidden}
use Rattle.laws_operation.specs.pack_model.specs.states.Whole.{FileWhole, Tidy, Whole, absent, present}
use Rattle.laws_operation.specs.pack_laws.proofs.Carrying.{carried_shown}
use Rattle.laws_operation.specs.pack_laws.proofs.Guarding.{carried_parts}
use Rattle.laws_operation.specs.pack_laws.proofs.Keys.{is_fid-itself}
use Rattle.laws_operation.specs.pack_laws.proofs.Placing.{shows_carried, shows_led}
use Rattle.laws_operation.specs.pack_laws.proofs.Sighted.{length-sights}
use Rattle.laws_operation.specs.laws_record.proofs.Carried.{carried_place, carried_shows, place_of_carried}
use Rattle.laws_operation.specs.laws_record.proofs.Copying.{place_carried}
use Rattle.laws_operation.specs.laws_record.proofs.Heads.{and_left, and_right}
use Rattle.laws_operation.proofs.Lying.{within}
use Rattle.laws_operation.proofs.entries.Laws.{items_are_slots}
use Rattle.laws_operation.proofs.lengths.Laws.{full_page_is_not_the_last, placed_pages_are_those_up_to_the_last}
use Rattle.laws_operation.proofs.links.Laws.{next_link_names_the_page_after}
use Rattle.laws_operation.proofs.places.Laws.{file_lives_in_a_place}
use Rattle.laws_operation.specs.LengthLaws.{CountsPage}
use Rattle.laws_lookup.specs.HintLaws.{HasFullValues, HeldAddressNeverMisleads, RootNeverMisleads, TrueHintsNeverMislead}

-- ---- a page that is carried
-- its sector is a usable one
pub within_pack : (p : Pack) (x : Page) (j : ℕ) → carried p j ≡ Some x → (0 < j) × (j < pages_of p.shape)
within_pack p x j is =
    let usable : is_usable p.shape j (sector_at p j) ≡ true = (carried_parts p j x is).0 in (
      ltb-true 0 j (and_left (nat_lt 0 j) _ usable),
      ltb-true j (pages_of p.shape) (and_left (nat_lt j (pages_of p.shape)) _ (and_right (nat_lt 0 j) _ usable)),
    )

-- SysDir's leader is, at its fixed address
pub root_carried : (p : Pack) → Whole p → carried p 1 ≡ Some (leader_page sys_dir)
root_carried p whole =
    let shows = whole.root.1 in
    let good : good_one (get_or (sights p) 1 hidden) ≡ 1 = ap good_one shows in
    let inside = within (sights p) 1 good in
    let long = length-sights p in
    carried_shown p 1 (leader_page sys_dir) hidden (omega arith) (ap (carries_page sys_dir 0) shows ∙ is_fid-itself sys_dir)

-- its file lives
pub page_lives : (p : Pack) → Whole p → (x : Page) (i : ℕ) → carried p i ≡ Some x → lives (sights p) x.fid ≡ true
page_lives p whole x i is = by (whole.files x.fid) x.number (carried_shows p i x is)
  where
    by : FileWhole (sights p) x.fid → (n : ℕ) → carries_page x.fid n (get_or (sights p) i hidden) ≡ true → lives (sights p) x.fid ≡ true
    by (absent headless c) zero e = let h = shows_led x.fid (get_or (sights p) i hidden) e in absurd (headless i h.0 h.1 h.2)
    by (absent headless c) (suc n) e = let h = shows_carried x.fid n (get_or (sights p) i hidden) e in elim (c.only i n h.0 h.1) [ inl s ↦ absurd s | inr s ↦ absurd s ]
    by (present at l pages led c laid few) n e =
        let leads_it : carries_page x.fid 0 (get_or (sights p) at hidden) ≡ true = ap (carries_page x.fid 0) led.shows ∙ is_fid-itself x.fid in
        file_lives_in_a_place p x.fid ∙ ap is_some (place_of_carried (sights p) x.fid (present at l pages led c laid few) 0 at leads_it)

-- ---- addresses of entries
-- a true one names the place of the leader
entry_true : (p : Pack) (dir : Fid) (w at : ℕ) (x : Page) → Tidy p → LinksTrue p → StandsInEntry p dir w at x → place (sights p) x.fid 0 ≡ Some at
entry_true p dir w at x tidy links e =
    let same : kept_slots p dir ≡ dir_slots p dir = ap (slots_at (dir_words p dir) 0) (items_are_slots p dir tidy e.lives e.directory) in
    let all = subst (All (λ s. IsTrueAddress (sights p) s.item s.address)) same (links.entries dir e.lives e.directory) in
    let one = All-contains (λ s. IsTrueAddress (sights p) s.item s.address) (dir_slots p dir) e.slot all e.stands in
    subst (λ i. IsTrueAddress (sights p) i e.slot.address) e.item one ∙ ap Some (sym e.address)

entry_leads : (p : Pack) (dir : Fid) (w at : ℕ) (x : Page) → Tidy p → LinksTrue p → Misled p (Entry dir w) at x → ⊥
entry_leads p dir w at x tidy links m =
    let there : place (sights p) x.fid x.number ≡ Some at = ap (place (sights p) x.fid) m.stands.number ∙ entry_true p dir w at x tidy links m.stands in
    let is : carried p at ≡ Some x = place_carried p x at there in
    let names = within_pack p x at is in
    m.misses at (record { first = names.0; last = names.1; named = refl }) is

-- ---- next links
-- where a page isn't the last, the next one is within the file
next_there : (p : Pack) → Whole p → HasFullValues p → (x : Page) (i : ℕ) → carried p i ≡ Some x → (x.number ≡ 0) ⊎ (word (sector_at p i).label 3 ≡ 512) → suc x.number ≤ page_of_byte (length (file_bytes (sights p) x.fid))
next_there p whole sized x i is full = by x.number refl full
  where
    by : (n : ℕ) → x.number ≡ n → (x.number ≡ 0) ⊎ (word (sector_at p i).label 3 ≡ 512) → suc x.number ≤ page_of_byte (length (file_bytes (sights p) x.fid))
    by zero e h = rw e (omega arith)
    by (suc k) e (inl h) = cc
    by (suc k) e (inr h) =
        let counts : CountsPage p x.fid k i 512 = record { sector = ap (place (sights p) x.fid) (sym e) ∙ carried_place p whole i x is; sized = sized i x is; bytes = h } in
        let more = full_page_is_not_the_last p x.fid k i whole counts in
        rw e (omega (arith, more))

pub some_of : {X : Type 0} (r : Option X) → is_some r ≡ true → (x : X) × (r ≡ Some x)
some_of None e = cc
some_of (Some x) e = (x, refl)

link_leads : (p : Pack) (i at : ℕ) (x : Page) → Whole p → HasFullValues p → LinksTrue p → Misled p (Next i) at x → ⊥
link_leads p i at x whole sized links m =
    let h : StandsInLink p i at x = m.stands in
    let f = h.page.fid in
    let next = next_there p whole sized h.page i h.carries h.full in
    let there = some_of (place (sights p) f (suc h.page.number)) (placed_pages_are_those_up_to_the_last p f (suc h.page.number) whole (page_lives p whole h.page i h.carries) ∙ le-leb (suc h.page.number) (page_of_byte (length (file_bytes (sights p) f))) next) in
    let j = there.0 in
    let means : x ≡ page_number f (suc h.page.number) = h.means ∙ ap (page_number f) (add-one h.page.number) in
    let is : carried p j ≡ Some x = place_carried p (page_number f (suc h.page.number)) j there.1 ∙ ap Some (sym means) in
    let names = within_pack p x j is in
    let linked = next_link_names_the_page_after p f h.page.number i whole links (carried_place p whole i h.page h.carries) in
    let named : at ≡ real_of p.shape j = h.link ∙ linked ∙ ap (link_to p.shape) there.1 in
    m.misses j (record { first = names.0; last = names.1; named = named }) is

-- ---- the laws
pub true_hints_never_mislead : TrueHintsNeverMislead
true_hints_never_mislead p Root at x whole tidy sized links on m = on
true_hints_never_mislead p (Entry dir w) at x whole tidy sized links on m = entry_leads p dir w at x tidy links m
true_hints_never_mislead p (Next i) at x whole tidy sized links on m = link_leads p i at x whole sized links m
true_hints_never_mislead p (Held i) at x whole tidy sized links on m = on

pub root_never_misleads : RootNeverMisleads
root_never_misleads p at x whole m =
    let is : carried p 1 ≡ Some x = root_carried p whole ∙ ap Some (sym m.stands.1) in
    let names = within_pack p x 1 is in
    m.misses 1 (record { first = names.0; last = names.1; named = m.stands.0 }) is

pub held_address_never_misleads : HeldAddressNeverMisleads
held_address_never_misleads p i at x is m =
    let names = within_pack p x i is in
    m.misses i (record { first = names.0; last = names.1; named = m.stands }) is
