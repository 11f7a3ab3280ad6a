-- SysDir with a page more: the sectors that it takes, the record writes, and what they leave.
use Rattle.std.proofs.Common.{◌≡◌, ◌≢◌, inl, inr, ℕ, suc, ◌+◌, ◌-◌, ◌*◌, ◌/◌, ◌%◌, ◌<◌, ◌≤◌, ◌==◌, nat_lt, Bool, true, false, IsTrue, List, [], ◌∷◌, ◌++◌, get_or, length, map, replicate, cond, None, Some, Result, Ok, Err, refl, sym, ap, subst, ◌∙◌, eqb-true, ltb-true, ltb-false, arith}
use Rattle.std.specs.Prelude.{IfErr, OnOk, nat_eq}
use Rattle.std.specs.Cmp.Lexicographic.{bytes_decides, pointwise, same_text}
use Rattle.std.proofs.lemmas.List.{get_or-append_right, get_or_append_left, length-append, length-replicate, set-get_or}
use Rattle.std.proofs.lemmas.List.Elements.{All-get_or}
use borrow.Author.Tests.{eqb-false}
use Rattle.alto_words.specs.Fid.{sys_dir}
use Rattle.disk_records.specs.declared.records.Event.{Event}
use Rattle.disk_records.specs.declared.records.Event.TheVariants.{Wrote}
use Rattle.disk_records.specs.declared.records.Page.{Page}
use Rattle.disk_records.specs.declared.records.Sector.{Sector}
use Rattle.disk_records.specs.declared.shape.Shape.{Shape}
use Rattle.disk_records.specs.Addresses.{real_of}
use Rattle.disk_records.specs.Commands.{claim_writes, relabel_writes, value_writes}
use Rattle.disk_records.specs.Events.{IsFirstOf}
use Rattle.disk_records.specs.Labels.{is_free, label_of, tag}
use Rattle.disk_records.specs.Packs.{AreFormed, IsFormed, Pack, after, carried, is_free_at, is_usable, no_sector, sector_at}
use Rattle.disk_records.specs.Tapes.{Grown, Looks, Taped, added, pack}
use Rattle.disk_records.specs.Words.{word}
use Rattle.disk_records.proofs.FirstOnes.{first_front, first_then}
use Rattle.disk_records.proofs.Growing.{added-twice, grown_twice, pack-after}
use Rattle.scav_pages.specs.laws_contents.specs.PageLaws.{bytes_at}
use Rattle.scav_pages.specs.laws_contents.proofs.ends.Laws.{each_file_has_its_end}
use Rattle.scav_pages.specs.laws_contents.proofs.pages.Laws.{formed_pages_have_256_words, labels_count, page_numbers_are_words}
use Rattle.scav_pages.specs.laws_mend.specs.WidenLaws.{CanWiden, WidensInWords, last_number, new_label, old_label, widening_writes}
use Rattle.scav_pages.specs.laws_mend.proofs.widening.Laws.{widening_in_words}
use Rattle.laws_names.specs.Keeping.{AllKeepOpen, KeepsOpen}
use Rattle.laws_names.specs.LackingLaws.{RootIsWidened}
use Rattle.laws_names.proofs.joins.Laws.{keeps_open_breaks_off, keeps_open_ends, keeps_open_join, nothing_keeps_open}
use Rattle.laws_names.proofs.lacking.Laws.{no_room_is_none, root_widening_leaves, widening_has_its_sector}
use Rattle.scav_pages.specs.laws_operation.proofs.Widening.{directory_length}
use Rattle.scav_pages.specs.laws_record.proofs.Heads.{all_read}
use Rattle.laws_room.specs.NextLaws.{LackingNext}
use Rattle.scav_pages.specs.pack_laws.specs.GuardLaws.{ComesToHold}
use Rattle.scav_pages.specs.pack_laws.proofs.Guarding.{carried_parts, named_taken, usable_within}
use Rattle.scav_pages.specs.pack_laws.proofs.files.Laws.{places_are_lowest}
use Rattle.scav_pages.specs.pack_laws.proofs.guards.Laws.{claim_takes_at_the_label}
use Rattle.pack_model.specs.hints.Links.{dir_words}
use Rattle.pack_model.specs.operations.PageWords.{page_number}
use Rattle.pack_model.specs.operations.Rooms.{find_room}
use Rattle.pack_model.specs.reading.Files.{file_bytes, place}
use Rattle.pack_model.specs.reading.Sights.{sights}
use Rattle.pack_model.specs.reading.SlotWords.{space_words}
use Rattle.pack_model.specs.reading.Slots.{all_words, entry_length, slots}
use Rattle.pack_model.specs.scavenger.Mended.{with_page}
use Rattle.pack_model.specs.scavenger.Reports.{PagesMended}
use Rattle.pack_model.specs.scavenger.Scavenging.{Throughout}
use Rattle.scav_pages.proofs.Changing.{change_first, change_join, claim_changes, label_stays, relabel_changes, value_changes}
use Rattle.scav_pages.proofs.Ranking.{page_ranged}
use Rattle.scav_pages.specs.Changes.{AllChange}
use Rattle.scav_pages.specs.declared.errors.Stop.{Stop}
use Rattle.scav_pages.specs.declared.errors.Stop.TheVariants.{Memory}
use Rattle.scav_pages.specs.Free.{IsNextFree, NoneFreeBelow, NoneFreeFrom}
use Rattle.scav_names.specs.declared.living.Living.{Living}
use Rattle.scav_names.specs.declared.root.Root.{Root}
use Rattle.scav_names.specs.Catalogues.{ArePagesOf}
use Rattle.scav_names.specs.Does.{Does}
use Rattle.scav_names.specs.Lacking.{entry_for}
use Rattle.scav_names.specs.Rooms.{HasRooms}
use Rattle.scav_names.specs.Roots.{MayBeWidened, Widened, lengthened_value, lengthening_writes}
use Rattle.scav_names.specs.Words.{changed_writes}
use Rattle.scav_names.proofs.FillRoom.{root_lives}
use Rattle.scav_names.proofs.Going.{SoFar, changes_added}
use Rattle.scav_names.proofs.OneRoom.{word_known}
use Rattle.scav_names.proofs.RootPages.{HasRootPage, root_page}

-- ---- SysDir's words
-- they are slots to their end, and its bytes are whole words
pub record IsFull (p : Pack) : Type 0 where
  pub words : all_words (slots (dir_words p sys_dir)) ≡ length (dir_words p sys_dir)
  pub bytes : length (file_bytes (sights p) sys_dir) ≡ 2 * length (dir_words p sys_dir)

pub root_is_full : (p : Pack) → PagesMended p → IsFull p
root_is_full p mended =
    let ends = mended.pages.directories sys_dir (root_lives p mended) refl in
    let r = all_read (dir_words p sys_dir) ends.items ends.reads in
    let double : all_words ends.items * 2 ≡ length (file_bytes (sights p) sys_dir) = directory_length ends.items (file_bytes (sights p) sys_dir) ends.even r.1 in
    let all : all_words ends.items ≡ length (dir_words p sys_dir) = r.1 in
    record { words = ap all_words r.0 ∙ all; bytes = omega (arith, double, all) }

-- ---- sectors
-- none is free below this one, and none from it on
none_at_all : (p : Pack) (from at : ℕ) → NoneFreeBelow p from → NoneFreeFrom p from → is_free_at p at ≡ false
none_at_all p from at below above = by (nat_lt at from) refl
  where
    by : (t : Bool) → nat_lt at from ≡ t → is_free_at p at ≡ false
    by true l = below at (ltb-true at from l)
    by false l = above at (ltb-false at from l)

-- a sector that carries a page isn't free
carried_not_free : (p : Pack) (at : ℕ) (page : Page) → carried p at ≡ Some page → is_free_at p at ≡ true → ⊥
carried_not_free p at page here free =
    let parts = carried_parts p at page here in
    let no : false ≡ true = sym (ap (λ b. cond b (is_free (tag (sector_at p at).label)) false) parts.0 ∙ named_taken (sector_at p at).label page parts.1) ∙ free in cc

-- the first of two equal lists
heads : {x y : Living} {xs ys : List Living} → x ∷ xs ≡ y ∷ ys → x ≡ y
heads e = cc

-- ---- calls
-- a look more
pub so_far_looks : {told : Bool} {most : ℕ} {a b c : Taped} → SoFar a b → Looks told most b c → IsTrue told → SoFar a c
so_far_looks {a} {b} {c} x looks told = record {
  grown = grown_twice x.grown looks.alone.grown;
  keeps = subst (AllKeepOpen (pack a)) (sym (added-twice x.grown looks.alone.grown)) (keeps_open_join (pack a) (added a b) (added b c) x.keeps (subst (AllKeepOpen (after (pack a) (added a b))) (sym (looks.silent told)) (nothing_keeps_open (after (pack a) (added a b)))));
  changes = changes_added x.grown looks.alone.grown x.changes (subst (AllChange (pack b)) (sym (looks.silent told)) tt);
}

-- ---- a record write that changes nothing
-- it may be left out
left_out : (P : Pack → Type 0) (p : Pack) (xs ys : List Event) (e : Event) → after (after p xs) (e ∷ []) ≡ after p xs → Throughout P p (xs ++ e ∷ ys) → Throughout P p (xs ++ ys)
left_out P p [] ys e same all = subst (λ q. Throughout P q ys) same all.1
left_out P p (x ∷ xs) ys e same all = (all.0, left_out P (after p (x ∷ [])) xs ys e same all.1)

left_out_after : (p : Pack) (xs ys : List Event) (e : Event) → after (after p xs) (e ∷ []) ≡ after p xs → after p (xs ++ ys) ≡ after p (xs ++ e ∷ ys)
left_out_after p [] ys e same = ap (λ q. after q ys) (sym same)
left_out_after p (x ∷ xs) ys e same = left_out_after (after p (x ∷ [])) xs ys e same

-- such is the value that stands
value_stands : (p : Pack) (at : ℕ) (value : List ℕ) → (sector_at p at).value ≡ value → after p (value_writes at value) ≡ p
value_stands p at value is =
    ap (λ v. after p (value_writes at v)) (sym is)
    ∙ ap (λ (xs : List Sector). record p { sectors = xs }) (set-get_or p.sectors at no_sector)

-- ---- before
module _ (a : Taped) (root : Root) (todo : List Living) (may : MayBeWidened (pack a) root todo) where
  abbrev p : Pack
  p = pack a

  -- SysDir's words, the sector of its last page, and that page
  abbrev w : ℕ
  w = root.rooms.end

  abbrev at : ℕ
  at = get_or root.pages (w / 256) 0

  abbrev page : Page
  page = record { fid = sys_dir; number = w / 256 + 1 }

  end_is : w ≡ length (dir_words p sys_dir)
  end_is = may.may.rooms.end_is ∙ (root_is_full p may.may.pages).words

  pub place_known : w / 256 < length root.pages
  place_known = word_known w may.may.known (let e = end_is in omega (arith, e))

  pub last_page : HasRootPage p at w
  last_page = root_page p root.pages w may.may.known.pages place_known

  pub few_words : all_words (slots (dir_words p sys_dir)) + 256 < 4294967296
  few_words =
      let low = page_numbers_are_words p sys_dir (w / 256 + 1) at last_page.sector in
      let end = may.may.rooms.end_is in
      omega (arith, low, end)

  lacking_next : LackingNext p may.next.fid may.next.name (map entry_for may.rest)
  lacking_next = may.may.lacking_are ∙ ap (map entry_for) may.todo_is

  -- a free sector is found
  pub some_is_free : NoneFreeFrom p root.from → ⊥
  some_is_free none =
      let nowhere = no_room_is_none p may.next.fid may.next.name may.may.pages may.may.tidy may.none in
      let some = widening_has_its_sector p may.next.fid may.next.name (map entry_for may.rest) may.may.scavengeable may.may.pages lacking_next nowhere in
      let no : true ≡ false = sym some.2 ∙ none_at_all p root.from some.0 may.may.known.none_below none in cc

  -- ---- by this sector
  module _ (fresh : ℕ) (free : IsNextFree p root.from fresh) (formed : AreFormed p) where
    abbrev writes : List Event
    writes = widening_writes p sys_dir at fresh

    abbrev q : Pack
    q = after p writes

    -- the record writes of the new page, and of the old last one
    abbrev claiming : List Event
    claiming = claim_writes fresh (new_label p sys_dir at w) (replicate 256 0)

    abbrev value : List ℕ
    value = lengthened_value (w % 256) (sector_at p at).value

    abbrev label : List ℕ
    label = old_label p sys_dir at fresh w

    abbrev lengthening : List Event
    lengthening = changed_writes at (sector_at p at).value value ++ relabel_writes at label value

    -- those that are done: the value that stands already isn't written
    abbrev done : List Event
    done = claiming ++ lengthening

    bytes_are : length (file_bytes (sights p) sys_dir) ≡ 2 * w
    bytes_are = (root_is_full p may.may.pages).bytes ∙ ap (λ n. 2 * n) (sym end_is)

    number_is : last_number p sys_dir ≡ w / 256 + 1
    number_is = let b = bytes_are in omega (arith, b)

    can : CanWiden p sys_dir at fresh
    can = record {
      directory = refl;
      sector = ap (place (sights p) sys_dir) number_is ∙ last_page.sector;
      sized = formed_pages_have_256_words p at page formed last_page.carries;
      free = free.free;
    }

    label_size : length (sector_at p at).label ≡ 8
    label_size = (All-get_or IsFormed p.sectors at no_sector (usable_within p at (carried_parts p at page last_page.carries).0) formed).label

    in_words : WidensInWords p sys_dir at fresh w
    in_words = widening_in_words p sys_dir at fresh w can label_size bytes_are

    pub number_low : w / 256 + 2 < 65536
    number_low = (page_ranged (new_label p sys_dir at w) (page_number sys_dir (w / 256 + 2)) in_words.new_page).0

    wide : RootIsWidened p q at fresh may.next.fid may.next.name (map entry_for may.rest)
    wide = root_widening_leaves p at fresh may.next.fid may.next.name (map entry_for may.rest) may.may.pages may.may.tidy can lacking_next may.none may.short

    -- ---- the old last page, once the new one is there
    apart : at ≢ fresh
    apart same = carried_not_free p at page last_page.carries (ap (is_free_at p) same ∙ free.free)

    abbrev p1 : Pack
    p1 = after p claiming

    takes_fresh : ComesToHold fresh (page_number sys_dir (w / 256 + 2)) (new_label p sys_dir at w) (replicate 256 0) p p1
    takes_fresh = (claim_takes_at_the_label p fresh (page_number sys_dir (w / 256 + 2)) (new_label p sys_dir at w) (replicate 256 0) 3 free.free in_words.new_page).taken (omega arith)

    last_still : sector_at p1 at ≡ sector_at p at
    last_still = takes_fresh.others at apart

    last_usable : is_usable p1.shape at (sector_at p1 at) ≡ true
    last_usable = (carried_parts p1 at page (takes_fresh.pages at apart ∙ last_page.carries)).0

    -- its label counts fewer bytes than all
    counts : word (sector_at p at).label 3 ≡ length (file_bytes (sights p) sys_dir) % 512
    counts =
        let ending = each_file_has_its_end p sys_dir in
        let said = (labels_count p sys_dir (length (file_bytes (sights p) sys_dir) / 512) at can.sector).says can.sized in
        elim ending.end [
          | inl missing ↦ absurd (let wrong : None ≡ Some at = sym missing.0 ∙ can.sector in cc)
          | inr there ↦ (let both : Some there.0 ≡ Some at = sym there.1 ∙ can.sector in let same : there.0 ≡ at = cc in sym said ∙ ap (λ k. length (bytes_at p k)) (sym same) ∙ there.2)
        ]

    other_label : label ≢ (sector_at p at).label
    other_label same = (let count : 512 ≡ word (sector_at p at).label 3 = ap (λ l. word l 3) same in let few = counts in omega (arith, count, few))

    -- ---- the record writes that are done
    done_leaves : after p done ≡ q
    done_leaves = by (pointwise nat_eq (sector_at p at).value value) refl ∙ ap (after p) (sym in_words.writes_are)
      where
        by : (t : Bool) → pointwise nat_eq (sector_at p at).value value ≡ t → after p (claiming ++ (cond t [] (value_writes at value) ++ relabel_writes at label value)) ≡ after p (claiming ++ claim_writes at label value)
        by true e = left_out_after p claiming (relabel_writes at label value) (Wrote at 2 value) (value_stands p1 at value (ap (λ (s : Sector). s.value) last_still ∙ same_text (sector_at p at).value value (sym e)))
        by false e = refl

    done_keeps : AllKeepOpen p done
    done_keeps = by (pointwise nat_eq (sector_at p at).value value) refl (subst (AllKeepOpen p) in_words.writes_are wide.keeps)
      where
        by : (t : Bool) → pointwise nat_eq (sector_at p at).value value ≡ t → AllKeepOpen p (claiming ++ claim_writes at label value) → AllKeepOpen p (claiming ++ (cond t [] (value_writes at value) ++ relabel_writes at label value))
        by true e all = left_out (KeepsOpen p) p claiming (relabel_writes at label value) (Wrote at 2 value) (value_stands p1 at value (ap (λ (s : Sector). s.value) last_still ∙ same_text (sector_at p at).value value (sym e))) all
        by false e all = all

    done_changes : AllChange p done
    done_changes = change_join None p claiming lengthening (claim_changes p fresh (page_number sys_dir (w / 256 + 2)) (new_label p sys_dir at w) (replicate 256 0) free.free in_words.new_page) (by (pointwise nat_eq (sector_at p at).value value) refl)
      where
        label_now : label ≢ (sector_at p1 at).label
        label_now same = other_label (same ∙ ap (λ (s : Sector). s.label) last_still)

        by : (t : Bool) → pointwise nat_eq (sector_at p at).value value ≡ t → AllChange p1 (cond t [] (value_writes at value) ++ relabel_writes at label value)
        by true e = relabel_changes p1 at label value label_now
        by false e = change_join None p1 (value_writes at value) (relabel_writes at label value)
            (value_changes p1 at value (λ same. (let wrong : true ≡ false = sym ((bytes_decides (sector_at p at).value value).1 (sym (same ∙ ap (λ (s : Sector). s.value) last_still))) ∙ e in cc)))
            (relabel_changes (after p1 (value_writes at value)) at label value (λ same. label_now (same ∙ label_stays p1 at value last_usable)))

    -- ---- one command after another
    -- a prefix of the record writes is done
    so_far_first : {d : Taped} → Grown a d → IsFirstOf done (added a d) → SoFar a d
    so_far_first {d} grown some = record { grown = grown; keeps = keeps_open_breaks_off p done (added a d) some done_keeps; changes = change_first None p done (added a d) some done_changes }

    -- one of those of the new page
    pub so_far_claim : {b c : Taped} (first : List ℕ) → first ≡ new_label p sys_dir at w → Grown a b → added a b ≡ [] → Grown b c → IsFirstOf (claim_writes fresh first (replicate 256 0)) (added b c) → SoFar a c
    so_far_claim {b} {c} first is x silent y some =
        so_far_first (grown_twice x y)
        (subst (IsFirstOf done) (sym (added-twice x y ∙ ap (λ l. l ++ added b c) silent))
        (first_front claiming lengthening (added b c) (subst (λ l. IsFirstOf (claim_writes fresh l (replicate 256 0)) (added b c)) is some)))

    -- the new page is there
    module _ {b c : Taped} (first : List ℕ) (is : first ≡ new_label p sys_dir at w) (x : Grown a b) (silent : added a b ≡ []) (y : Grown b c) (wrote : added b c ≡ claim_writes fresh first (replicate 256 0)) where
      claimed : added a c ≡ claiming
      claimed = added-twice x y ∙ ap (λ l. l ++ added b c) silent ∙ wrote ∙ ap (λ l. claim_writes fresh l (replicate 256 0)) is

      takes : ComesToHold fresh (page_number sys_dir (w / 256 + 2)) (new_label p sys_dir at w) (replicate 256 0) p (pack c)
      takes = subst (ComesToHold fresh (page_number sys_dir (w / 256 + 2)) (new_label p sys_dir at w) (replicate 256 0) p) (sym (pack-after (grown_twice x y) ∙ ap (after p) claimed)) takes_fresh

      -- the old last one is as it was
      pub carries_last : carried (pack c) at ≡ Some page
      carries_last = takes.pages at apart ∙ last_page.carries

      lengthening_is : lengthening_writes (pack c) at page (w % 256) (real_of p.shape fresh) ≡ lengthening
      lengthening_is = ap (λ (s : Sector). changed_writes at s.value (lengthened_value (w % 256) s.value) ++ relabel_writes at (label_of page 512 (real_of p.shape fresh) (word s.label 1)) (lengthened_value (w % 256) s.value)) (takes.others at apart)

      pub so_far_lengthen : {d : Taped} → Grown c d → IsFirstOf (lengthening_writes (pack c) at page (w % 256) (real_of p.shape fresh)) (added c d) → SoFar a d
      so_far_lengthen {d} z some =
          so_far_first (grown_twice (grown_twice x y) z)
          (subst (IsFirstOf done) (sym (added-twice (grown_twice x y) z))
          (first_then claiming lengthening (added a c) (added c d) claimed (subst (λ l. IsFirstOf l (added c d)) lengthening_is some)))

      pub left_widened : {d : Taped} → Grown c d → added c d ≡ lengthening_writes (pack c) at page (w % 256) (real_of p.shape fresh) → pack d ≡ q
      left_widened {d} z all =
          pack-after (grown_twice (grown_twice x y) z)
          ∙ ap (after p) (added-twice (grown_twice x y) z ∙ (λ i. claimed i ++ (all ∙ lengthening_is) i))
          ∙ done_leaves

    -- ---- what is left
    fresh_carried : carried q fresh ≡ Some (page_number sys_dir (suc (last_number p sys_dir)))
    fresh_carried = ((places_are_lowest q (page_number sys_dir (suc (last_number p sys_dir)))).lowest fresh wide.widened.here).here

    none_below : NoneFreeBelow q (fresh + 1)
    none_below k low = by (is_free_at q k) refl
      where
        was : is_free_at q k ≡ true → (s t : Bool) → (k == fresh) ≡ s → nat_lt k root.from ≡ t → ⊥
        was e true t same l =
            let is : k ≡ fresh = eqb-true k fresh same in
            carried_not_free q fresh (page_number sys_dir (suc (last_number p sys_dir))) fresh_carried (ap (is_free_at q) (sym is) ∙ e)
        was e false true same l =
            let below : k < root.from = ltb-true k root.from l in
            let no : true ≡ false = sym (wide.free k e) ∙ may.may.known.none_below k below in cc
        was e false false same l =
            let other : k ≢ fresh = eqb-false k fresh same in
            let above : root.from ≤ k = ltb-false k root.from l in
            let no : true ≡ false = sym (wide.free k e) ∙ free.lowest k above (omega (arith, low, other)) in cc

        by : (u : Bool) → is_free_at q k ≡ u → is_free_at q k ≡ false
        by false e = e
        by true e = absurd (was e (k == fresh) (nat_lt k root.from) refl refl)

    pages_long : length root.pages ≡ last_number p sys_dir
    pages_long = may.may.known.page_count ∙ ap (λ n. n / 256 + 1) (sym end_is) ∙ sym number_is

    pages_are : ArePagesOf q sys_dir (root.pages ++ fresh ∷ [])
    pages_are n l = by (nat_lt n (length root.pages)) refl
      where
        by : (t : Bool) → nat_lt n (length root.pages) ≡ t → place (sights q) sys_dir (suc n) ≡ Some (get_or (root.pages ++ fresh ∷ []) n 0)
        by true e =
            let low : n < length root.pages = ltb-true n (length root.pages) e in
            let long = pages_long in
            wide.widened.places_are sys_dir (suc n) (λ s is. omega (arith, low, long, is))
            ∙ may.may.known.pages n low ∙ ap (λ k. Some k) (sym (get_or_append_left root.pages (fresh ∷ []) 0 n low))
        by false e =
            let high : length root.pages ≤ n = ltb-false n (length root.pages) e in
            let all : length (root.pages ++ fresh ∷ []) ≡ length root.pages + 1 = length-append root.pages (fresh ∷ []) in
            let same : n ≡ length root.pages = omega (arith, high, all, l) in
            let none : n - length root.pages ≡ 0 = omega (arith, same) in
            ap (λ k. place (sights q) sys_dir (suc k)) (same ∙ pages_long) ∙ wide.widened.here
            ∙ ap (λ k. Some k) (sym (get_or-append_right root.pages (fresh ∷ []) (length root.pages) n 0 refl high ∙ ap (λ k. get_or (fresh ∷ []) k 0) none))

    words_long : length (dir_words q sys_dir) ≡ length (dir_words p sys_dir) + 256
    words_long =
        let zeros : length {A = ℕ} (replicate 255 0) ≡ 255 = length-replicate {A = ℕ} 255 0 in
        let all : length (dir_words p sys_dir ++ space_words 256) ≡ length (dir_words p sys_dir) + length (space_words 256) = length-append (dir_words p sys_dir) (space_words 256) in
        ap length wide.widened.words_are ∙ all ∙ ap (λ n. length (dir_words p sys_dir) + suc n) zeros

    page_count : length (root.pages ++ fresh ∷ []) ≡ length (dir_words q sys_dir) / 256 + 1
    page_count =
        let all : length (root.pages ++ fresh ∷ []) ≡ length root.pages + 1 = length-append root.pages (fresh ∷ []) in
        let many = may.may.known.page_count in
        let long = words_long in
        omega (arith, all, many, long)

    pub widened : (new : Root) → new.pages ≡ root.pages ++ fresh ∷ [] → new.from ≡ fresh + 1 → HasRooms new.rooms (with_page (slots (dir_words p sys_dir))) → Widened root new todo p q tt
    widened new pages from rooms = record {
      may = record {
        scavengeable = (keeps_open_ends p writes wide.keeps).last.keeps.scavengeable may.may.scavengeable;
        pages = wide.widened.mended;
        tidy = wide.tidy;
        known = record {
          pages = subst (ArePagesOf q sys_dir) (sym pages) pages_are;
          page_count = ap length pages ∙ page_count;
          none_below = subst (NoneFreeBelow q) (sym from) none_below;
        };
        rooms = subst (HasRooms new.rooms) (sym wide.widened.slots_are.are) rooms;
        lacking_are = wide.lacking_is ∙ sym (ap (map entry_for) may.todo_is);
        led = λ k z within. wide.widened.places_are (get_or todo k z).fid 0 (λ s is. omega (arith, is)) ∙ may.may.led k z within;
      };
      stay = wide.stay;
      room = λ next rest is. (let same : next ≡ may.next = heads (sym is ∙ may.todo_is) in subst (λ (x : Living). find_room (entry_length (length x.name)) (slots (dir_words q sys_dir)) ≢ None) (sym same) wide.room);
    }

-- ---- the end
-- what is known in memory comes last
pub ends_pushed : {a d : Taped} {Leaves : Pack → Pack → Unit {0} → Type 0} {A B : Type 0} (result : Result (Unit {0}) Stop) → SoFar a d → IfErr result (λ s. s ≡ Memory) → OnOk result A → OnOk result B → (A → B → Leaves (pack a) (pack d) tt) → Does Leaves a d result
ends_pushed (Ok v) x memory one two leaves = record { leaves = leaves one two; found = λ is. cc; keeps = x.keeps; changes = x.changes }
ends_pushed (Err e) x memory one two leaves = record { leaves = tt; found = λ is. cc; keeps = x.keeps; changes = x.changes }

-- ---- what was found of the last page
pub page_found : {end w : ℕ} {page : Page} → record { fid = sys_dir; number = end / 256 + 1 } ≡ page → end ≡ w → page ≡ record { fid = sys_dir; number = w / 256 + 1 }
page_found is end = sym is ∙ ap (λ n. record { fid = sys_dir; number = n / 256 + 1 }) end

-- the label of the new page
pub label_found : (p : Pack) {w end at found number real : ℕ} {page : Page} {label : List ℕ} {shape : Shape} → page ≡ record { fid = sys_dir; number = w / 256 + 1 } → end ≡ w → found ≡ at → number ≡ page.number + 1 → shape ≡ p.shape → real ≡ real_of shape found
    → label ≡ label_of (record { fid = page.fid; number = number }) (2 * (end % 256)) 65535 real → label ≡ new_label p sys_dir at w
label_found p {w} {end} {at} {found} {number} {page = page} is ends there next same address names =
    let two : number ≡ w / 256 + 2 = (let first : page.number ≡ w / 256 + 1 = ap (λ (x : Page). x.number) is in omega (arith, next, first)) in
    names ∙ (λ i. label_of (record { fid = (is i).fid; number = two i }) (2 * (ends i % 256)) 65535 ((address ∙ (λ j. real_of (same j) (there j))) i))

-- the record writes of the last page
pub lengthening_found : (p : Pack) {w end at found next link : ℕ} {page last : Page} → found ≡ at → page ≡ last → end ≡ w → link ≡ next → lengthening_writes p found page (end % 256) link ≡ lengthening_writes p at last (w % 256) next
lengthening_found p there is ends to = λ i. lengthening_writes p (there i) (is i) (ends i % 256) (to i)
