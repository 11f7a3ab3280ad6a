-- A drop by two calls.
use Rattle.std.proofs.Common.{Err, List, [], ap, false, refl, subst, sym, ℕ, ◌++◌, ◌∷◌, ◌≡◌}
use Rattle.std.proofs.lemmas.Result.{on_ok_weaker}
use Rattle.laws_call.specs.alto_words.specs.Fid.{is_fid}
use Rattle.laws_call.specs.alto_words.specs.declared.fid.Fid.{Fid}
use Rattle.laws_call.specs.disk_records.proofs.FirstOnes.{first_front, first_then}
use Rattle.laws_call.specs.disk_records.specs.Commands.{value_writes}
use Rattle.laws_call.specs.disk_records.specs.Packs.{Pack, after, sector_at}
use Rattle.laws_call.specs.disk_records.specs.declared.records.Event.{Event}
use Rattle.laws_call.specs.disk_records.specs.declared.records.Sector.{Sector}
use Rattle.laws_call.proofs.going.Laws.{operation_joins}
use Rattle.laws_call.proofs.writing.Laws.{written_acts}
use Rattle.laws_call.specs.Acting.{Acts}
use Rattle.laws_call.specs.Writing.{Written, drops}
use Rattle.laws_call.specs.laws_lookup.proofs.stays.Laws.{slots_of_another_directory_stay}
use Rattle.laws_midway.proofs.dropped.Laws.{drop_leaves_others}
use Rattle.laws_call.specs.laws_operation.proofs.drop.Laws.{release_carries_out}
use Rattle.laws_call.specs.laws_operation.specs.DirectoryWords.{HasEntry}
use Rattle.laws_call.specs.laws_operation.specs.LifeLaws.{MayDrop}
use Rattle.laws_call.specs.pack_model.specs.operations.Committing.{page_of_word}
use Rattle.laws_call.specs.pack_model.specs.operations.Operations.{release_file_writes}
use Rattle.laws_call.specs.pack_model.specs.operations.PageWords.{freed_value}
use Rattle.laws_call.specs.pack_model.specs.operations.Step.Operation.{drop_file}
use Rattle.laws_call.specs.pack_model.specs.reading.Slots.Item.{entry}
use Rattle.laws_call.specs.pack_model.specs.reading.Slots.{Item, all_words, item_words}
use Rattle.laws_call.specs.pack_model.specs.states.Whole.{Tidy, Whole}
use Rattle.laws_steps.proofs.inside.Released.{entry_stays, entry_stood, found_released, others}
use Rattle.laws_steps.specs.DroppingLaws.{DropIsJoined, ReleasesLeaveTheEntry, released_pack, slot_writes}

-- ---- between the two calls
pub releases_leave_the_entry : ReleasesLeaveTheEntry
releases_leave_the_entry p f d at pages slot_at a b own w t may has =
    let ne : is_fid d f ≡ false = (drop_leaves_others p f d at pages slot_at a b own w t may has).apart in
    record {
      whole = (release_carries_out p f at pages w t may).drops.whole;
      apart = ne;
      living = (entry_stays p w t f at pages may d ne slot_at a b f own has).living;
      slots = slots_of_another_directory_stay f p (released_pack p at pages) d (others p w t f at pages may) ne;
      entry = λ i before later mine there. entry_stays p w t f at pages may d ne i before later f mine there;
      found = found_released p w t f at pages may;
    }

-- ---- both calls
module _ (p : Pack) (w : Whole p) (t : Tidy p) (f d : Fid) (at : ℕ) (pages : List ℕ) (may : MayDrop p f at pages) where
  -- the value as read between them is that of the drop
  written : is_fid d f ≡ false → (slot_at : ℕ) (a b : List Item) (own : List ℕ) → HasEntry (released_pack p at pages) d slot_at a b f own → Written p (drop_file f) [] (at ∷ pages) (release_file_writes at pages ++ slot_writes (released_pack p at pages) slot_at a f own)
  written ne slot_at a b own has =
      let before : HasEntry p d slot_at a b f own = entry_stood p w t f at pages may d ne slot_at a b f own has in
      let sector : sector_at (released_pack p at pages) slot_at ≡ sector_at p slot_at = (others p w t f at pages may).sectors d (page_of_word (all_words a)) slot_at ne before.sector in
      subst (λ (s : Sector). Written p (drop_file f) [] (at ∷ pages) (release_file_writes at pages ++ value_writes slot_at (freed_value (all_words a) (item_words (entry f own)) s.value))) (sym sector) (drops may before)

  acts : is_fid d f ≡ false → (slot_at : ℕ) (a b : List Item) (own : List ℕ) → HasEntry (released_pack p at pages) d slot_at a b f own → Acts p (drop_file f) [] (at ∷ pages) (release_file_writes at pages ++ slot_writes (released_pack p at pages) slot_at a f own)
  acts ne slot_at a b own has = written_acts p (drop_file f) [] (at ∷ pages) (release_file_writes at pages ++ slot_writes (released_pack p at pages) slot_at a f own) w t (written ne slot_at a b own has)

pub drop_is_joined : (T U E F : Type 0) → DropIsJoined T U E F
drop_is_joined T U E F p ops events x f d at pages slot_at a b own first w t may has =
    let stands = releases_leave_the_entry (after p events) f d at pages slot_at a b own w t may has in
    let releases : List Event = release_file_writes at pages in
    record {
      breaks = λ some error prefix.
          let value : List Event = slot_writes (released_pack (after p events) at pages) slot_at a f own in
          operation_joins T U E F p ops events x (drop_file f) (releases ++ value) some (Err error) first refl (acts (after p events) w t f d at pages may stands.apart slot_at a b own (stands.entry slot_at a b own has)).stays (first_front releases value some prefix) tt;
      joins = λ i before later mine there some result prefix all.
          let value : List Event = slot_writes (released_pack (after p events) at pages) i before f mine in
          operation_joins T U E F p ops events x (drop_file f) (releases ++ value) (releases ++ some) result first refl (acts (after p events) w t f d at pages may stands.apart i before later mine there).stays (first_then releases value releases some refl prefix)
          (on_ok_weaker result (λ e. ap (λ l. releases ++ l) e) all);
      written = written (after p events) w t f d at pages may stands.apart;
      acts = acts (after p events) w t f d at pages may stands.apart;
      stands = stands;
    }
