-- The entry under which a file was found, as it stands in its directory, with the sector of its slot's first word.
use Rattle.std.proofs.Common.{Bool, List, None, Option, Some, ap, arith, false, length, ltb-false, ltb-true, nat_lt, refl, subst, suc, true, ℕ, ◌*◌, ◌/◌, ◌<◌, ◌∙◌, ◌∷◌, ◌≡◌}
use Rattle.std.specs.Option.{option_map}
use Rattle.alto_words.specs.Fid.{is_directory}
use Rattle.alto_words.specs.declared.fid.Fid.{Fid}
use Rattle.alto_words.specs.declared.wanted.Wanted.TheVariants.{Exact}
use Rattle.dir_slots.proofs.Hands.{slots_within}
use Rattle.dir_slots.proofs.Slots.{all_words-append}
use Rattle.directory.specs.Leaving.{entry_named}
use Rattle.disk_records.proofs.Bytes.{length-words_of}
use Rattle.disk_records.specs.Packs.{Pack}
use Rattle.exec_session.specs.laws_contents.proofs.ends.Laws.{each_file_has_its_end, whole_file_ends_in_a_page}
use Rattle.exec_session.specs.laws_line.specs.LineLaws.{IsEntered}
use Rattle.laws_lookup.proofs.slots.Laws.{found_entry_splits_the_slots, lookup_is_the_models}
use Rattle.exec_session.specs.laws_midway.proofs.found.Laws.{found_entry_may_go}
use Rattle.exec_session.specs.laws_operation.specs.DirectoryWords.{HasEntry}
use Rattle.exec_session.specs.laws_steps.proofs.entries.Laws.{entered_is_meant}
use Rattle.pack_model.specs.hints.Links.{dir_words}
use Rattle.pack_model.specs.operations.Committing.{page_of_word}
use Rattle.pack_model.specs.reading.Files.{file_bytes, lives, place}
use Rattle.pack_model.specs.reading.Lookup.{EntryAt, entered}
use Rattle.pack_model.specs.reading.Model.{read_as}
use Rattle.pack_model.specs.reading.Sights.{sights}
use Rattle.pack_model.specs.reading.Slots.Item.{entry}
use Rattle.pack_model.specs.reading.Slots.{Item, all_words}
use Rattle.pack_model.specs.reading.Versions.{Entered}
use Rattle.pack_model.specs.states.Whole.{Tidy, Whole}

-- ---- its page
-- it begins within the directory's bytes
begins_within : (p : Pack) (d : Fid) (name : List ℕ) (e : EntryAt) → entry_named p d name ≡ Some e → 2 * e.place < length (file_bytes (sights p) d)
begins_within p d name e is =
    let s = found_entry_splits_the_slots (dir_words p d) (Exact name) e is in
    let most = slots_within (dir_words p d) in
    let words = ap all_words s.slots_are ∙ all_words-append s.before (entry e.fid e.name ∷ s.later) in
    let half = length-words_of (file_bytes (sights p) d) in
    let place = s.place in
    omega (arith, most, words, half, place)

-- so a sector has its page
pub record HasSector (p : Pack) (d : Fid) (n : ℕ) : Type 0 where
  pub at : ℕ
  pub sector : place (sights p) d n ≡ Some at

page_is_there : (p : Pack) (d : Fid) (w : ℕ) → Whole p → lives (sights p) d ≡ true → 2 * w < length (file_bytes (sights p) d) → HasSector p d (page_of_word w)
page_is_there p d w whole living within = by (nat_lt (w / 256) (length (file_bytes (sights p) d) / 512)) refl
  where
    by : (b : Bool) → nat_lt (w / 256) (length (file_bytes (sights p) d) / 512) ≡ b → HasSector p d (page_of_word w)
    by true before = let full = (each_file_has_its_end p d).before.each (w / 256) (ltb-true (w / 256) (length (file_bytes (sights p) d) / 512) before) in record { at = full.at; sector = full.sector }
    by false last =
        let end = whole_file_ends_in_a_page p d whole living in
        let same : w / 256 ≡ length (file_bytes (sights p) d) / 512 = let low = ltb-false (w / 256) (length (file_bytes (sights p) d) / 512) last in omega (arith, low, within) in
        record { at = end.at; sector = ap (λ n. place (sights p) d (suc n)) same ∙ end.sector }

-- ---- the entry
-- The first entry under the name, which is the file's; its slot after some slots and before others.
pub record IsFoundBy (p : Pack) (d : Fid) (name : List ℕ) (f : Fid) : Type 0 where
  pub at : ℕ
  pub before : List Item
  pub later : List Item
  pub first : EntryAt
  pub named : entry_named p d name ≡ Some first
  pub own : first.fid ≡ f
  pub entry_is : HasEntry p d at before later f first.name

some_entered : (r : Option EntryAt) (x : Entered) → option_map entered r ≡ Some x → (e : EntryAt) × (r ≡ Some e) × (e.fid ≡ x.0)
some_entered None x is = absurd (let n : None ≡ Some x = is in cc)
some_entered (Some e) x is = (e, refl, let n : Some (entered e) ≡ Some x = is in let same : entered e ≡ x = cc in ap (λ (y : Entered). y.0) same)

pub found_by : (p : Pack) (d : Fid) (name : List ℕ) (f : Fid) → Whole p → Tidy p → is_directory d ≡ true → lives (sights p) d ≡ true → IsEntered (read_as p) d name f → IsFoundBy p d name f
found_by p d name f whole tidy directory living is =
    let meant = some_entered (entry_named p d name) (f, is.own) (lookup_is_the_models p d (Exact name) tidy living directory ∙ entered_is_meant (read_as p) d f name is) in
    let e = meant.0 in
    let page = page_is_there p d e.place whole living (begins_within p d name e meant.1) in
    let go = found_entry_may_go p d (Exact name) e page.at living directory meant.1 page.sector in
    record {
      at = page.at;
      before = go.before;
      later = go.later;
      first = e;
      named = meant.1;
      own = meant.2;
      entry_is = subst (λ g. HasEntry p d page.at go.before go.later g e.name) meant.2 go.entry_is;
    }
