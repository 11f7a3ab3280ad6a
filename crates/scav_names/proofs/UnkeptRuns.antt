-- All slots of entries that aren't kept are made free, one after another.
use Rattle.std.proofs.Common.{◌≡◌, inl, inr, ℕ, ◌+◌, ◌/◌, Bool, true, false, cond, List, [], ◌∷◌, length, map, refl, sym, ap, subst, ◌∙◌, arith}
use Rattle.std.specs.Prelude.{All}
use Rattle.std.specs.Option.{option_map_or}
use Rattle.std.specs.FinMap.{entries}
use Rattle.std.proofs.lemmas.List.Elements.{All-cons, All-head, All-nil, All-tail}
use Rattle.alto_words.specs.declared.fid.Fid.{Fid}
use Rattle.dir_slots.proofs.Hands.{slots_within}
use Rattle.dir_slots.proofs.Slots.{all_words-append}
use Rattle.disk_records.specs.Packs.{Pack, after}
use Rattle.disk_records.proofs.Growing.{after-append}
use Rattle.laws_names.specs.Keeping.{AllKeepOpen}
use Rattle.laws_names.proofs.entries.Laws.{leaders_are_listed, slot_splits}
use Rattle.laws_names.proofs.joins.Laws.{keeps_open_join, nothing_keeps_open}
use Rattle.laws_names.proofs.models.Laws.{mended_lives}
use Rattle.laws_names.proofs.parts.Laws.{mended_has_parts}
use Rattle.scav_pages.specs.laws_record.proofs.Addressing.{entry_words_many}
use Rattle.pack_model.specs.hints.Links.{dir_words}
use Rattle.pack_model.specs.operations.PageWords.{in_page}
use Rattle.pack_model.specs.reading.Bodies.{File, found}
use Rattle.pack_model.specs.reading.Files.{lives, place}
use Rattle.pack_model.specs.reading.Leaders.{Leader}
use Rattle.pack_model.specs.reading.Model.{root_items}
use Rattle.pack_model.specs.reading.Namings.{AllKept, Naming, is_kept}
use Rattle.pack_model.specs.reading.Sights.{sights}
use Rattle.pack_model.specs.reading.Slots.{all_words, item_words, slots}
use Rattle.pack_model.specs.reading.Slots.Item.{entry}
use Rattle.pack_model.specs.scavenger.Mended.{lacking}
use Rattle.pack_model.specs.scavenger.Reports.{PagesMended}
use Rattle.pack_model.specs.sessions.Maps.{map_entries}
use Rattle.pack_model.specs.showing.Settling.{given_names}
use Rattle.pack_model.specs.showing.View.{view}
use Rattle.pack_model.specs.states.Whole.{Tidy}
use Rattle.scav_names.specs.declared.living.Living.{Living}
use Rattle.scav_names.specs.declared.placed.PlacedEntry.{PlacedEntry}
use Rattle.scav_names.specs.declared.words.DirWord.{DirWord}
use Rattle.scav_names.specs.Catalogues.{naming_of, pack_entries}
use Rattle.scav_names.specs.Living.{leader_sector, living_files, living_of}
use Rattle.scav_names.specs.Parting.{lives_then, unkept_among, unkept_entries}
use Rattle.scav_names.specs.Parts.{AreInOrder, MayBeNamed, StandsBefore, StandsThere, UnkeptFreed, slot_of}
use Rattle.scav_names.specs.Words as words
use Rattle.scav_names.specs.Words.{AreWordsOf, ComesFirst, IsWordOf, freeing_word, page_writes, word_writes, words_writes}
use Rattle.scav_names.proofs.EnteringLeft.{entries_stand}
use Rattle.scav_names.proofs.MendedEntries.{described_named}
use Rattle.scav_names.proofs.UnkeptLists.{all_unkept, first_unkept, unkept_order}
use Rattle.scav_names.proofs.UnkeptSlots.{kept_now, order_of, pack_freed, slot_freed, stands_unkept, unkept_frees, unkept_now}
use Rattle.scav_names.proofs.WordRuns.{page_keeps, page_left}

-- ---- none is left
none_unkept : (alive : Fid → Bool) (before : List Naming) (es : List PlacedEntry) → unkept_among alive before es ≡ [] → AllKept (is_kept alive) before (map naming_of es)
none_unkept alive before [] h = tt
none_unkept alive before (e ∷ es) h = by (is_kept alive before (naming_of e)) refl h (λ g. none_unkept alive (naming_of e ∷ before) es g)
  where
    by : (b : Bool) → is_kept alive before (naming_of e) ≡ b → cond b (unkept_among alive (naming_of e ∷ before) es) (e ∷ unkept_among alive before es) ≡ []
        → (unkept_among alive (naming_of e ∷ before) es ≡ [] → AllKept (is_kept alive) (naming_of e ∷ before) (map naming_of es)) → AllKept (is_kept alive) before (map naming_of (e ∷ es))
    by true k g again = (k, again g)
    by false k g again = absurd cc

tidy_then : (p : Pack) → PagesMended p → unkept_entries p ≡ [] → Tidy p
tidy_then p m none =
    let all = none_unkept (lives_then p) [] (pack_entries p) none in
    subst (AllKept (is_kept (lives (sights p))) []) (sym (described_named p)) (subst (λ v. AllKept (is_kept v) [] (map naming_of (pack_entries p))) (mended_lives p m) all)

-- ---- living files by their leaders
abbrev by_leader : (Fid → ℕ) → List (Fid × Leader) → List Living
by_leader at ls = map (λ (l : Fid × Leader). record { fid = l.0; leader_at = at l.0; name = l.1.name }) ls

listed : (p : Pack) (es : List (Fid × File)) → map (living_of (sights p)) es ≡ by_leader (leader_sector (sights p)) (map_entries {X = File} {Y = Leader} (λ f x. x.leader) es)
listed p [] = refl
listed p (e ∷ es) = ap (λ l. living_of (sights p) e ∷ l) (listed p es)

living_now : (p q : Pack) → map_entries {X = File} {Y = Leader} (λ f x. x.leader) (entries (found (sights q))) ≡ map_entries {X = File} {Y = Leader} (λ f x. x.leader) (entries (found (sights p))) → ((f : Fid) → place (sights q) f 0 ≡ place (sights p) f 0) → living_files q ≡ living_files p
living_now p q leaders places =
    listed q (entries (found (sights q)))
    ∙ (λ i. by_leader (λ f. option_map_or (λ at. at) (places f i) 0) (leaders i))
    ∙ sym (listed p (entries (found (sights p))))

-- ---- one after another
pub record RunsFree (p : Pack) (unkept : List PlacedEntry) : Type 0 where
  pub keeps : AllKeepOpen p (words_writes p (map freeing_word unkept))
  pub leaves : UnkeptFreed p (after p (words_writes p (map freeing_word unkept))) tt

none_to_free : (p : Pack) → MayBeNamed p → unkept_entries p ≡ [] → RunsFree p []
none_to_free p may none = record {
  keeps = nothing_keeps_open p;
  leaves = record {
    named = may;
    tidy = tidy_then p may.pages none;
    kept = refl;
    lacking_is = refl;
    root = refl;
    places = λ f n. refl;
    living = refl;
    adopted = refl;
  };
}

first_freed : (p : Pack) (e : PlacedEntry) (es : List PlacedEntry) → MayBeNamed p → unkept_entries p ≡ e ∷ es → ((q : Pack) → MayBeNamed q → unkept_entries q ≡ es → RunsFree q es) → RunsFree p (e ∷ es)
first_freed p e es may are rest =
    let m : PagesMended p = may.pages in
    let r = first_unkept (lives_then p) [] (pack_entries p) e es are in
    let s = stands_unkept p e es m r in
    let free = unkept_frees p e s in
    let at : ℕ = free.0 in
    let q : Pack = pack_freed p m e es r s at free.1 in
    let f = slot_freed p m e es r s at free.1 in
    let w : DirWord = freeing_word e in
    let word : ℕ = all_words (entry e.fid e.name ∷ []) in
    let sizes : item_words (entry e.fid e.name) ≡ word = omega arith in
    let writes_are : word_writes p w ≡ page_writes p at (in_page (all_words s.before)) (word ∷ []) =
    (λ i. page_writes p (option_map_or (λ n. n) (place (sights p) e.dir (s.place i / 256 + 1)) 0) (in_page (s.place i)) (sizes i ∷ []))
    ∙ ap (λ o. page_writes p (option_map_or (λ n. n) o 0) (in_page (all_words s.before)) (word ∷ [])) free.1.write.sector in
    let left : after p (word_writes p w) ≡ q = ap (after p) writes_are ∙ page_left p (all_words s.before) at (word ∷ []) in
    let keeps : AllKeepOpen p (word_writes p w) = subst (AllKeepOpen p) (sym writes_are) (page_keeps p (all_words s.before) at (word ∷ []) f.written.keeps) in
    let named : MayBeNamed q = record { scavengeable = f.written.keeps.keeps.scavengeable may.scavengeable; pages = f.written.mended } in
    let then = rest q named (unkept_now p m e es r s at free.1) in
    let ws = map freeing_word es in
    let l = then.leaves in
    record {
      keeps = keeps_open_join p (word_writes p w) (words_writes (after p (word_writes p w)) ws) keeps (subst (λ r. AllKeepOpen r (words_writes r ws)) (sym left) then.keeps);
      leaves = subst (λ r. UnkeptFreed p r tt) (sym (after-append p (word_writes p w) (words_writes (after p (word_writes p w)) ws) ∙ ap (λ r. after r (words_writes r ws)) left)) (record {
        named = l.named;
        tidy = l.tidy;
        kept = l.kept ∙ kept_now p m e es r s at free.1;
        lacking_is = l.lacking_is ∙ ap lacking f.mended_is;
        root = l.root ∙ ap root_items f.mended_is;
        places = λ g n. l.places g n ∙ f.written.places_are g n;
        living = l.living ∙ living_now p q (leaders_are_listed p q f.written.leaders_are) (λ g. f.written.places_are g 0);
        adopted = l.adopted ∙ ap (λ x. length (given_names (view x).names (entries (view x).files))) f.read;
      });
    }

pub run_unkept : (p : Pack) (unkept : List PlacedEntry) → MayBeNamed p → unkept_entries p ≡ unkept → RunsFree p unkept
run_unkept p [] may are = none_to_free p may are
run_unkept p (e ∷ es) may are = first_freed p e es may are (λ q named left. run_unkept q es named left)

-- ---- the words are words of the pack, and rise
word_of : (p : Pack) (e : PlacedEntry) → StandsThere p e → IsWordOf p (freeing_word e)
word_of p e there =
    let splits = slot_splits p e.dir (slot_of e) there.stands in
    let size : all_words (slots (dir_words p e.dir)) ≡ all_words splits.before + (item_words (entry e.fid e.name) + all_words splits.behind) = ap all_words splits.slots_are ∙ all_words-append splits.before (entry e.fid e.name ∷ splits.behind) in
    let within = slots_within (dir_words p e.dir) in
    let place : e.place ≡ all_words splits.before = splits.place in
    let many = entry_words_many (length e.name) in
    record { lives = there.living; directory = there.directory; within = omega (arith, size, within, place, many) }

each_word : (p : Pack) (es : List PlacedEntry) → All (StandsThere p) es → All (IsWordOf p) (map freeing_word es)
each_word p [] h = All-nil (IsWordOf p)
each_word p (e ∷ es) h = All-cons (IsWordOf p) (freeing_word e) (map freeing_word es) (word_of p e (All-head (StandsThere p) e es h)) (each_word p es (All-tail (StandsThere p) e es h))

comes_first : (e f : PlacedEntry) → StandsBefore e f → ComesFirst (freeing_word e) (freeing_word f)
comes_first e f (inl less) = inl less
comes_first e f (inr same) = inr (same.0, (let low = same.1 in omega (arith, low)))

later_words : (e : PlacedEntry) (es : List PlacedEntry) → All (StandsBefore e) es → All (ComesFirst (freeing_word e)) (map freeing_word es)
later_words e [] h = All-nil (ComesFirst (freeing_word e))
later_words e (f ∷ es) h = All-cons (ComesFirst (freeing_word e)) (freeing_word f) (map freeing_word es) (comes_first e f (All-head (StandsBefore e) f es h)) (later_words e es (All-tail (StandsBefore e) f es h))

words_rise : (es : List PlacedEntry) → AreInOrder es → words.Rises (map freeing_word es)
words_rise [] h = tt
words_rise (e ∷ es) h = (later_words e es h.0, words_rise es h.1)

pub are_freeing_words : (p : Pack) (unkept : List PlacedEntry) → MayBeNamed p → unkept_entries p ≡ unkept → AreWordsOf p (map freeing_word unkept)
are_freeing_words p unkept may are = record {
  once = (mended_has_parts p may.pages).rooted.used.ended.cleared.once;
  each = each_word p unkept (subst (All (StandsThere p)) are (all_unkept (StandsThere p) (lives_then p) [] (pack_entries p) (entries_stand p)));
  rising = words_rise unkept (subst AreInOrder are (unkept_order (lives_then p) [] (pack_entries p) (order_of p)));
}
