-- The parts of a mending of names, one after another.
use Rattle.std.proofs.Common.{◌≡◌, ℕ, ◌+◌, ◌<◌, ◌^◌, List, [], length, Result, Ok, Err, sym, ap, subst, ◌∙◌, arith}
use Rattle.std.specs.Prelude.{IfOk, IsErrOf}
use Rattle.disk_records.specs.Packs.{Pack, after}
use Rattle.disk_records.specs.Tapes.{Grown, Taped, added, pack}
use Rattle.disk_records.proofs.Growing.{pack-after}
use Rattle.laws_names.specs.Keeping.{AllKeepOpen}
use Rattle.laws_names.proofs.joins.Laws.{nothing_keeps_open}
use Rattle.laws_room.specs.NextLaws.{mended_pack}
use Rattle.pack_model.specs.reading.Model.{root_items}
use Rattle.pack_model.specs.scavenger.Reports.{NamesMended}
use Rattle.scav_pages.specs.Changes.{AllChange}
use Rattle.scav_pages.specs.declared.errors.Stop.{Stop}
use Rattle.scav_pages.specs.declared.errors.Stop.TheVariants.{Astray}
use Rattle.scav_names.specs.declared.catalogue.Catalogue.{Catalogue}
use Rattle.scav_names.specs.declared.living.Living.{Living}
use Rattle.scav_names.specs.declared.placed.PlacedEntry.{PlacedEntry}
use Rattle.scav_names.specs.declared.root.Root.{Root}
use Rattle.scav_names.specs.Catalogues.{HoldsNames}
use Rattle.scav_names.specs.Does.{Does}
use Rattle.scav_names.specs.Lacking.{adopted_among, lacking_files}
use Rattle.scav_names.specs.Living.{living_files}
use Rattle.scav_names.specs.Mending.{AreMended, AreReady, root_read}
use Rattle.scav_names.specs.Parting.{kept_entries}
use Rattle.scav_names.specs.Parts.{MayBeAddressed, MayBeNamed, UnkeptFreed}
use Rattle.scav_names.specs.Rooms.{HasSlots}
use Rattle.scav_names.specs.Roots.{AllEntered, MayBeEntered}
use Rattle.scav_names.proofs.EnteringCount.{few_lacking, lacking_counted}
use Rattle.scav_names.proofs.EnteringFirst.{first_may_be_entered}
use Rattle.scav_names.proofs.EnteringLeft.{left_to_address, tidy_entries}

-- ---- names are read
pub record AreRead (p q : Pack) (names : Catalogue) : Type 0 where
  pub holds : HoldsNames p names
  pub same : q ≡ p

pub read_does : {a b : Taped} (result : Result Catalogue Stop) → Grown a b → added a b ≡ [] → (IsErrOf result Astray → ⊥) → IfOk result (HoldsNames (pack a)) → Does AreRead a b result
read_does {a} {b} result grown silent found holds = record {
  leaves = by result holds;
  found = found;
  keeps = subst (AllKeepOpen (pack a)) (sym silent) (nothing_keeps_open (pack a));
  changes = subst (AllChange (pack a)) (sym silent) tt;
}
  where
    by : (r : Result Catalogue Stop) → IfOk r (HoldsNames (pack a)) → IfOk r (AreRead (pack a) (pack b))
    by (Ok names) h = record { holds = h; same = pack-after grown ∙ ap (after (pack a)) silent }
    by (Err e) h = tt

-- ---- what is freed then
pub read_may : {p q : Pack} {names : Catalogue} → AreRead p q names → MayBeNamed p → MayBeNamed q
read_may read may = subst MayBeNamed (sym read.same) may

-- ---- what is entered
freed_may : {p q : Pack} {names : Catalogue} (new : Catalogue) (files : List Living) → MayBeNamed p → HoldsNames p names → UnkeptFreed p q tt → HasSlots new.rooms (root_items (mended_pack p)) → new.root_pages ≡ names.root_pages → files ≡ lacking_files p → MayBeEntered q (root_read new) files
freed_may {p} {q} {names} new files may holds freed rooms pages are =
    subst (MayBeEntered q (root_read new)) (sym are)
    (subst (λ l. MayBeEntered q (record { rooms = new.rooms; pages = l; from = 1 }) (lacking_files p)) (sym pages) (first_may_be_entered {names = names} {rooms = new.rooms} may.pages holds freed rooms))

few_files : {p : Pack} (files : List Living) → MayBeNamed p → files ≡ lacking_files p → length p.sectors + 2 < 2 ^ 32 → length files < 2 ^ 32
few_files {p} files may are few =
    let l = few_lacking p may.pages in
    let same = ap length are in
    omega (arith, l, same, few)

pub are_ready : {p q : Pack} {names : Catalogue} (new : Catalogue) (kept : List PlacedEntry) (files : List Living) → MayBeNamed p → HoldsNames p names → UnkeptFreed p q tt → HasSlots new.rooms (root_items (mended_pack p)) → new.living ≡ names.living → new.root_pages ≡ names.root_pages → kept ≡ kept_entries p → files ≡ lacking_files p → length p.sectors + 2 < 2 ^ 32
    → AreReady (root_read new) new.living kept p q files
are_ready new kept files may holds freed rooms living pages kept_are are few = record {
  named = may;
  freed = freed;
  may = freed_may new files may holds freed rooms pages are;
  living_are = living ∙ holds.living;
  kept_are = kept_are;
  lacking_are = are;
  few = few_files files may are few;
}

-- equal lists
pub ready_same : {root : Root} {living living' files files' : List Living} {kept kept' : List PlacedEntry} {p q : Pack} → living' ≡ living → kept' ≡ kept → files' ≡ files → AreReady root living kept p q files → AreReady root living' kept' p q files'
ready_same {root} {p = p} {q = q} l k f ready = record {
  named = ready.named;
  freed = ready.freed;
  may = subst (MayBeEntered q root) (sym f) ready.may;
  living_are = l ∙ ready.living_are;
  kept_are = k ∙ ready.kept_are;
  lacking_are = f ∙ ready.lacking_are;
  few = subst (λ xs. length xs < 2 ^ 32) (sym f) ready.few;
}

-- ---- what is addressed
pub ready_addressed : {root : Root} {files living : List Living} {kept : List PlacedEntry} {p q r : Pack} → AreReady root living kept p q files → AllEntered q r tt → MayBeAddressed r living kept
ready_addressed {living = living} {kept = kept} {p = p} {q = q} {r = r} ready all =
    let freed = ready.freed in
    subst (λ l. MayBeAddressed r l kept) (freed.living ∙ sym ready.living_are)
    (subst (MayBeAddressed r (living_files q)) (sym (tidy_entries q freed.named.pages freed.tidy) ∙ freed.kept ∙ sym ready.kept_are) (left_to_address freed.named.pages freed.tidy all))

-- ---- and counted
pub ready_mended : {root : Root} {files living : List Living} {kept : List PlacedEntry} {p q r : Pack} (adopted : ℕ) → AreReady root living kept p q files → NamesMended r → (length files < 2 ^ 32 → adopted ≡ adopted_among files) → AreMended p r adopted
ready_mended {p = p} adopted ready mended counted = record { mended = mended; adopted_is = counted ready.few ∙ ap adopted_among ready.lacking_are ∙ lacking_counted p ready.named.pages }
