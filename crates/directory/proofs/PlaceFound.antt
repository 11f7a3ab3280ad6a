-- What is known of a directory's slots once the visitor that seeks the place of an entry has met them all.
use Rattle.std.proofs.Common.{◌≡◌, ℕ, true, false, List, [], length, None, Option, Some, IfNone, IfSome, refl, sym, ◌∙◌, ap, subst}
use Rattle.std.specs.List.{FoldsTo}
use Rattle.std.specs.Option.{is_some, option_map}
use Rattle.alto_words.specs.declared.fid.Fid.{Fid}
use Rattle.alto_words.specs.declared.wanted.Wanted.TheVariants.{Exact}
use Rattle.disk_records.specs.Packs.{Pack}
use Rattle.pack_model.specs.hints.Links.{dir_slots, dir_words}
use Rattle.pack_model.specs.operations.Rooms.{largest_run}
use Rattle.pack_model.specs.reading.Lookup.{entry_at}
use Rattle.pack_model.specs.reading.Slots.{entry_length, slots}
use Rattle.directory.specs.declared.entry.EntryFound.{EntryFound}
use Rattle.directory.specs.declared.place.RoomFound.{RoomFound}
use Rattle.directory.specs.declared.placing.Placing.{Placing}
use Rattle.directory.specs.FreeRows.{RowOf, row_of}
use Rattle.directory.specs.Inside.{MeetsMeant, MeetsRow, found_at}
use Rattle.directory.specs.Places.{HasNoRoom, IsPlaceFor, IsRoomAmong, IsTaken}
use Rattle.directory.specs.Seeking.{MeetsAll, MeetsRoom}
use Rattle.directory.proofs.Meeting.{HasMeant, all_meant}
use Rattle.directory.proofs.RoomSeeking.{HasRoom, IsSought, all_rooms, fold_part}
use Rattle.directory.proofs.Rows.{all_rows}

pub record HasMet (p : Pack) (d : Fid) (name : List ℕ) (v : Placing) : Type 0 where
  pub same : HasMeant (Exact name) (dir_slots p d) v.same
  pub largest : v.runs.largest ≡ largest_run (slots (dir_words p d))
  pub room : HasRoom (entry_length (length name)) (slots (dir_words p d)) v.seeking

pub all_met : (p : Pack) (d : Fid) (name : List ℕ) (u v : Placing) → u.same.wanted ≡ Exact name → u.same.best ≡ None → u.runs.row ≡ 0 → u.runs.largest ≡ 0 → u.seeking.row ≡ row_of (entry_length (length name)) [] → u.seeking.room ≡ None
    → FoldsTo MeetsAll u (dir_slots p d) v → HasMet p d name v
all_met p d name u v wanted none row largest empty no_room folds = record {
  same = all_meant (Exact name) (dir_slots p d) u.same v.same wanted none (fold_part MeetsAll MeetsMeant (λ (x : Placing). x.same) (λ a s b h. h.same) (dir_slots p d) u v folds);
  largest = all_rows p d u.runs v.runs row largest (fold_part MeetsAll MeetsRow (λ (x : Placing). x.runs) (λ a s b h. h.runs) (dir_slots p d) u v folds);
  room = all_rooms (entry_length (length name)) (dir_words p d) (slots (dir_words p d)) u.seeking v.seeking (ap (λ (r : RowOf). r.needed) empty) (ap (λ (r : RowOf). r.items) empty) no_room
      (fold_part MeetsAll MeetsRoom (λ (x : Placing). x.seeking) (λ a s b h. h.seeking) (dir_slots p d) u v folds);
}

-- ---- the three answers
module _ (p : Pack) (d : Fid) (name : List ℕ) (v : Placing) (met : HasMet p d name v) where
  pub taken_there : (e : EntryFound) → v.same.best ≡ Some e → IsTaken p d name
  taken_there e is = record { entry = found_at e; named = sym met.same.best ∙ ap (option_map found_at) is }

  absent_there : v.same.best ≡ None → entry_at (Exact name) (dir_slots p d) ≡ None
  absent_there none = sym met.same.best ∙ ap (option_map found_at) none

  pub place_there : (r : RoomFound) → v.same.best ≡ None → v.seeking.room ≡ Some r → IsPlaceFor p d name r
  place_there r none is = record { absent = absent_there none; room = subst (λ o. IfSome o (IsRoomAmong (entry_length (length name)) (slots (dir_words p d)))) is met.room.found }

  pub full_there : v.same.best ≡ None → v.seeking.room ≡ None → HasNoRoom p d name v.runs.largest
  full_there none is = record { absent = absent_there none; none = (subst (λ o. IfNone o (IsSought (entry_length (length name)) (slots (dir_words p d)) v.seeking.row.items)) is met.room.sought).none; most = met.largest }

-- ---- an entry of the same name, or none
pub some_is : {A : Type 0} (o : Option A) → is_some o ≡ true → (x : A) × (o ≡ Some x)
some_is None e = absurd cc
some_is (Some x) e = (x, refl)

pub none_is : {A : Type 0} (o : Option A) → is_some o ≡ false → o ≡ None
none_is None e = refl
none_is (Some x) e = absurd cc
