-- The words of the next entry, in its room.
use Rattle.std.proofs.Common.{◌≡◌, ℕ, ◌+◌, ◌-◌, ◌/◌, ◌<◌, ◌≤◌, Bool, true, false, cond, List, [], ◌∷◌, ◌++◌, length, drop, take, map, get_or, Option, Some, None, Result, Ok, Err, refl, sym, ap, subst, ◌∙◌, arith}
use Rattle.std.specs.Prelude.{IfOk}
use Rattle.std.specs.Option.{is_some}
use Rattle.std.proofs.lemmas.Bool.Decides.{nat_tests}
use Rattle.std.proofs.lemmas.List.{length-append}
use Rattle.alto_words.specs.declared.fid.Fid.{Fid}
use Rattle.alto_words.specs.Fid.{is_full_name, sys_dir}
use Rattle.dir_slots.proofs.Hands.{slots_within}
use Rattle.dir_slots.proofs.Slots.{all_words-append}
use Rattle.disk_records.specs.declared.records.Page.{Page}
use Rattle.disk_records.specs.Packs.{Pack, after, carried, sector_at}
use Rattle.disk_records.specs.Labels.{Tag, in_range, tag}
use Rattle.scav_pages.specs.laws_contents.proofs.pages.Laws.{page_numbers_are_words}
use Rattle.laws_names.specs.Keeping.{AllKeepOpen, KeepsOpen}
use Rattle.laws_names.specs.WriteLaws.{CanBeEntered, EntryIsEntered, RoomIsWritten}
use Rattle.laws_names.proofs.entries.Laws.{entries_stay_on, nothing_keeps_entries}
use Rattle.laws_names.proofs.lacking.Laws.{next_may_be_entered}
use Rattle.laws_names.proofs.parts.Laws.{mended_has_parts}
use Rattle.laws_names.proofs.writes.Laws.{next_entry_is_entered, room_words_leave, written_words_stand}
use Rattle.scav_pages.specs.laws_operation.specs.NameLaws.{IsRoom}
use Rattle.scav_pages.specs.laws_operation.proofs.places.Laws.{file_lives_in_a_place}
use Rattle.scav_pages.specs.laws_record.proofs.Carried.{carries_within}
use Rattle.scav_pages.specs.laws_record.proofs.Roomy.{run_enough}
use Rattle.scav_pages.specs.laws_record.specs.DirLaws.{DirWrite, dir_written, entered}
use Rattle.scav_pages.specs.pack_laws.proofs.Carrying.{carried_shown}
use Rattle.scav_pages.specs.pack_laws.proofs.Guarding.{carried_parts}
use Rattle.scav_pages.specs.pack_laws.proofs.Keys.{is_fid-itself}
use Rattle.scav_pages.specs.pack_laws.proofs.Sighted.{length-sights}
use Rattle.scav_pages.specs.pack_laws.proofs.files.Laws.{places_are_lowest}
use Rattle.pack_model.specs.hints.Links.{dir_words}
use Rattle.pack_model.specs.operations.PageWords.{in_page}
use Rattle.pack_model.specs.operations.Rooms.{items_entered}
use Rattle.pack_model.specs.reading.Files.{carries_page, lives, place}
use Rattle.pack_model.specs.reading.Sights.{sights}
use Rattle.pack_model.specs.reading.Sights.Sight.{hidden}
use Rattle.pack_model.specs.reading.Slots.{all_words, entry_length, slots}
use Rattle.pack_model.specs.reading.Slots.Item.{entry, space}
use Rattle.pack_model.specs.scavenger.Mended.{lacking}
use Rattle.pack_model.specs.scavenger.Reports.{PagesMended}
use Rattle.scav_pages.specs.declared.errors.Stop.{Stop}
use Rattle.scav_names.specs.declared.living.Living.{Living}
use Rattle.scav_names.specs.declared.rooms.EntryRoom.{EntryRoom}
use Rattle.scav_names.specs.declared.root.Root.{Root}
use Rattle.scav_names.specs.Lacking.{entry_for}
use Rattle.scav_names.specs.Roots.{AreEntryWords, EntryWritten, IsLater, LaterWritten, MayBeFilled, RoomMadeOne}
use Rattle.scav_names.specs.Words.{page_writes}
use Rattle.scav_names.proofs.OneRoom.{knows_still, word_known}
use Rattle.scav_names.proofs.RootPages.{root_page}
use Rattle.scav_names.proofs.WordRuns.{page_keeps, page_left}

-- SysDir lives on a mended pack
pub root_lives : (p : Pack) → PagesMended p → lives (sights p) sys_dir ≡ true
root_lives p mended =
    let shows = (mended_has_parts p mended).rooted.root in
    let has : carries_page sys_dir 0 (get_or (sights p) 1 hidden) ≡ true = ap (carries_page sys_dir 0) shows.2 ∙ is_fid-itself sys_dir in
    let here = carried_shown p 1 (record { fid = sys_dir; number = 0 }) hidden (subst (λ l. 1 < l) (length-sights p) (carries_within (sights p) sys_dir 0 1 has)) has in
    by (place (sights p) sys_dir 0) refl here
  where
    by : (o : Option ℕ) → place (sights p) sys_dir 0 ≡ o → carried p 1 ≡ Some (record { fid = sys_dir; number = 0 }) → lives (sights p) sys_dir ≡ true
    by None e here = absurd ((places_are_lowest p (record { fid = sys_dir; number = 0 })).none e 1 here)
    by (Some at) e here = file_lives_in_a_place p sys_dir ∙ ap is_some e

module _ {p : Pack} {root : Root} {next : Living} {todo : List Living} {room : EntryRoom} (may : MayBeFilled p root next todo room) where
  -- the room lies within SysDir's words
  pub room_within : room.place + room.total ≤ length (dir_words p sys_dir)
  room_within =
      let size : all_words (slots (dir_words p sys_dir)) ≡ all_words may.before + (room.total + all_words may.behind) = ap all_words may.room_is.split ∙ all_words-append may.before (space room.total ∷ may.behind) in
      let within = slots_within (dir_words p sys_dir) in
      let at = may.place in
      omega (arith, size, within, at)

  -- words in it are words of one page
  pub write_in : (w : ℕ) (new : List ℕ) → 0 < length new → in_page w + length new ≤ 256 → w + length new ≤ length (dir_words p sys_dir) → DirWrite p sys_dir w (get_or root.pages (w / 256) 0) new
  write_in w new some one within = record {
    directory = refl;
    lives = root_lives p may.pages;
    sector = (root_page p root.pages w may.known.pages (word_known w may.known (omega (arith, within)))).sector;
    some = some;
    one_page = one;
    within = within;
  }

  -- places in it are few enough to be counted
  pub place_few : (w : ℕ) → w ≤ length (dir_words p sys_dir) → w < 4294967296
  place_few w within = (let few = page_numbers_are_words p sys_dir (w / 256 + 1) (get_or root.pages (w / 256) 0) (root_page p root.pages w may.known.pages (word_known w may.known within)).sector in omega (arith, few))

  -- ---- words after its first one
  module _ (near : ℕ) (later : List ℕ) (is : IsLater room room.place near later) where
    -- none
    pub none_later : later ≡ [] → LaterWritten root next todo room near later p p tt
    none_later none = record { may = may; places = λ f n. refl; slots_are = refl; stand = ap (λ l. take (length l) (drop (room.place + near) (dir_words p sys_dir))) none ∙ sym none; stay = nothing_keeps_entries p }

    -- some
    module _ (some : 0 < length later) (one : in_page (room.place + near) + length later ≤ 256) where
      later_write : DirWrite p sys_dir (room.place + near) (get_or root.pages ((room.place + near) / 256) 0) later
      later_write = write_in (room.place + near) later some one (let w = room_within in let f = is.fits in omega (arith, w, f))

      later_left : RoomIsWritten p (dir_written p (room.place + near) (get_or root.pages ((room.place + near) / 256) 0) later) sys_dir (room.place + near) later
      later_left = room_words_leave p sys_dir (room.place + near) (get_or root.pages ((room.place + near) / 256) 0) later may.before may.behind room.total may.pages later_write may.room_is.split
          (let at = may.place in let n = is.some in omega (arith, at, n)) (let at = may.place in let f = is.fits in omega (arith, at, f))

      pub later_keeps : AllKeepOpen p (page_writes p (get_or root.pages ((room.place + near) / 256) 0) (in_page (room.place + near)) later)
      later_keeps = page_keeps p (room.place + near) (get_or root.pages ((room.place + near) / 256) 0) later later_left.loose.written.keeps

      pub later_written : LaterWritten root next todo room near later p (after p (page_writes p (get_or root.pages ((room.place + near) / 256) 0) (in_page (room.place + near)) later)) tt
      later_written = subst (λ q. LaterWritten root next todo room near later p q tt) (sym (page_left p (room.place + near) (get_or root.pages ((room.place + near) / 256) 0) later)) (record {
        may = record {
          scavengeable = later_left.loose.written.keeps.keeps.scavengeable may.scavengeable;
          pages = later_left.loose.written.mended;
          tidy = later_left.loose.tidy may.tidy;
          known = knows_still may.known later_left.loose.written later_write.within;
          lacking_is = ap lacking later_left.loose.mended_is ∙ may.lacking_is;
          led = later_left.loose.written.places_are next.fid 0 ∙ may.led;
          before = may.before;
          behind = may.behind;
          room_is = subst (λ l. IsRoom (entry_length (length next.name)) l may.before (space room.total ∷ []) may.behind) (sym (later_left.loose.slots_are sys_dir)) may.room_is;
          place = may.place;
        };
        places = later_left.loose.written.places_are;
        slots_are = later_left.loose.slots_are sys_dir;
        stand = written_words_stand p sys_dir (room.place + near) (get_or root.pages ((room.place + near) / 256) 0) later later_write;
        stay = later_left.stay;
      })

-- ---- its first words
module _ {p q : Pack} {root : Root} {next : Living} {todo : List Living} {room : EntryRoom} (near : ℕ) (first later words : List ℕ) (are : AreEntryWords next room words) (split : words ≡ first ++ later) (long : length first ≡ near) (wrote : LaterWritten root next todo room near later p q tt) (some : 1 ≤ near) (one : in_page room.place + near ≤ 256) where
  may : MayBeFilled q root next todo room
  may = wrote.may

  total_is : entry_length (length next.name) + (room.total - entry_length (length next.name)) ≡ room.total
  total_is = (let enough = run_enough (entry_length (length next.name)) (space room.total ∷ may.behind) (room.total + 0, may.behind) may.room_is.run_is in omega (arith, enough))

  near_fits : near ≤ room.total
  near_fits = (let most = are.most in let size = ap length split ∙ length-append first later in omega (arith, most, size, long))

  first_write : DirWrite q sys_dir room.place (get_or root.pages (room.place / 256) 0) first
  first_write = write_in may room.place first (omega (arith, some, long)) (omega (arith, one, long)) (let w = room_within may in let f = near_fits in omega (arith, w, f, long))

  can : CanBeEntered q next.fid next.name may.before may.behind (room.total - entry_length (length next.name)) next.leader_at (get_or root.pages (room.place / 256) 0) first later
  can = record {
    may = next_may_be_entered q next.fid next.name (map entry_for todo) may.pages may.lacking_is;
    full_name = are.full_name;
    stored = are.stored;
    address_is = may.led;
    room = subst (λ t. IsRoom (entry_length (length next.name)) (slots (dir_words q sys_dir)) may.before (space t ∷ []) may.behind) (sym total_is) may.room_is;
    words_are = sym are.words_are ∙ split;
    write = subst (λ w. DirWrite q sys_dir w (get_or root.pages (room.place / 256) 0) first) may.place first_write;
    stand = subst (λ w. take (length later) (drop w (dir_words q sys_dir)) ≡ later) (λ i. may.place i + sym long i) wrote.stand;
  }

  done : EntryIsEntered q (entered q (get_or root.pages (room.place / 256) 0) may.before first) may.before next.fid next.name (map entry_for todo) first
  done = next_entry_is_entered q next.fid next.name (map entry_for todo) may.before may.behind (room.total - entry_length (length next.name)) next.leader_at (get_or root.pages (room.place / 256) 0) first later may.pages may.tidy may.lacking_is can

  same_pack : dir_written q room.place (get_or root.pages (room.place / 256) 0) first ≡ entered q (get_or root.pages (room.place / 256) 0) may.before first
  same_pack = λ i. dir_written q (may.place i) (get_or root.pages (room.place / 256) 0) first

  pub first_keeps : AllKeepOpen q (page_writes q (get_or root.pages (room.place / 256) 0) (in_page room.place) first)
  first_keeps = page_keeps q room.place (get_or root.pages (room.place / 256) 0) first (subst (KeepsOpen q) (sym same_pack) done.written.keeps)

  pub first_known : room.place / 256 < length root.pages
  first_known = word_known room.place may.known (let w = room_within may in omega (arith, w))

  pub entry_written : EntryWritten root next todo room p (after q (page_writes q (get_or root.pages (room.place / 256) 0) (in_page room.place) first)) tt
  entry_written = subst (λ r. EntryWritten root next todo room p r tt) (sym (page_left q room.place (get_or root.pages (room.place / 256) 0) first ∙ same_pack)) (record {
    scavengeable = done.written.keeps.keeps.scavengeable may.scavengeable;
    pages = done.written.mended;
    tidy = done.tidy;
    known = knows_still may.known done.written can.write.within;
    slots_are = done.slots_are ∙ ap (items_entered (entry next.fid next.name)) wrote.slots_are;
    places = λ f n. done.written.places_are f n ∙ wrote.places f n;
    lacking_are = done.lacking_are;
    stay = entries_stay_on p q (entered q (get_or root.pages (room.place / 256) 0) may.before first) wrote.stay done.stay;
  })

-- ---- the whole of it
-- the room is large enough
pub room_enough : {p : Pack} {root : Root} {next : Living} {todo : List Living} {room : EntryRoom} → MayBeFilled p root next todo room → entry_length (length next.name) ≤ room.total
room_enough {next = next} {room = room} may = (let enough = run_enough (entry_length (length next.name)) (space room.total ∷ may.behind) (room.total + 0, may.behind) may.room_is.run_is in omega (arith, enough))

-- a page that is carried is one of a full name
range_is_full : (t : Tag) → in_range t ≡ true → is_full_name t.fid ≡ true
unfolding in_range
range_is_full t e = grind (arith, nat_tests, e)

pub led_is_full : (p : Pack) (f : Fid) (at : ℕ) → place (sights p) f 0 ≡ Some at → is_full_name f ≡ true
led_is_full p f at e =
    let carries = ((places_are_lowest p (record { fid = f; number = 0 })).lowest at e).here in
    by (in_range (tag (sector_at p at).label)) refl ((carried_parts p at (record { fid = f; number = 0 }) carries).1)
  where
    by : (t : Bool) → in_range (tag (sector_at p at).label) ≡ t → cond {A = Option Page} t (Some (record { fid = (tag (sector_at p at).label).fid; number = (tag (sector_at p at).label).page })) None ≡ Some (record { fid = f; number = 0 }) → is_full_name f ≡ true
    by true range is = (let same : ◌≡◌ {A = Page} (record { fid = (tag (sector_at p at).label).fid; number = (tag (sector_at p at).label).page }) (record { fid = f; number = 0 }) = cc in subst (λ g. is_full_name g ≡ true) (ap (λ x. x.fid) same) (range_is_full (tag (sector_at p at).label) range))
    by false range is = cc

-- the room was made one before
entry_after : {p q r : Pack} {root : Root} {next : Living} {todo : List Living} {room : EntryRoom} → RoomMadeOne root next todo room p q tt → EntryWritten root next todo room q r tt → EntryWritten root next todo room p r tt
entry_after {p} {q} {r} one wrote = record {
  scavengeable = wrote.scavengeable;
  pages = wrote.pages;
  tidy = wrote.tidy;
  known = wrote.known;
  slots_are = wrote.slots_are ∙ one.same;
  places = λ f n. wrote.places f n ∙ one.places f n;
  lacking_are = wrote.lacking_are;
  stay = entries_stay_on p q r one.stay wrote.stay;
}

pub entry_if : {p q : Pack} (r : Pack) {root : Root} {next : Living} {todo : List Living} {room : EntryRoom} (result : Result (Unit {0}) Stop) → RoomMadeOne root next todo room p q tt → IfOk result (EntryWritten root next todo room q r) → IfOk result (EntryWritten root next todo room p r)
entry_if r (Ok v) one wrote = entry_after one wrote
entry_if r (Err e) one wrote = tt
