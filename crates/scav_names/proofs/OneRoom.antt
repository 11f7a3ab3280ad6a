-- The room for the next entry, made one free slot.
use Rattle.std.proofs.Common.{◌≡◌, ℕ, suc, ◌+◌, ◌/◌, ◌<◌, ◌≤◌, List, [], ◌∷◌, ◌++◌, length, map, get_or, refl, sym, ap, subst, ◌∙◌, arith}
use Rattle.std.proofs.lemmas.List.Elements.{All-head}
use Rattle.alto_words.specs.Fid.{sys_dir}
use Rattle.dir_slots.proofs.Hands.{slots_within}
use Rattle.dir_slots.proofs.Slots.{all_words-append}
use Rattle.disk_records.specs.Packs.{Pack, after}
use Rattle.laws_names.specs.Keeping.{AllKeepOpen, KeepsOpen}
use Rattle.laws_names.specs.WriteLaws.{FoundRoom, NamesWritten, RoomIsOne}
use Rattle.laws_names.proofs.entries.Laws.{nothing_keeps_entries}
use Rattle.laws_names.proofs.writes.Laws.{room_is_found, room_is_made_one}
use Rattle.scav_pages.specs.laws_operation.specs.NameLaws.{IsRoom}
use Rattle.scav_pages.specs.laws_record.proofs.Roomy.{run_enough}
use Rattle.scav_pages.specs.laws_record.specs.DirLaws.{dir_written, freed}
use Rattle.scav_pages.specs.pack_laws.proofs.Bytes.{length-put_at}
use Rattle.pack_model.specs.hints.Links.{dir_words}
use Rattle.pack_model.specs.operations.PageWords.{in_page}
use Rattle.pack_model.specs.reading.Files.{place}
use Rattle.pack_model.specs.reading.Sights.{sights}
use Rattle.pack_model.specs.reading.Slots.{all_words, entry_length, slots}
use Rattle.pack_model.specs.reading.Slots.Item.{space}
use Rattle.scav_names.specs.declared.living.Living.{Living}
use Rattle.scav_names.specs.declared.rooms.EntryRoom.{EntryRoom}
use Rattle.scav_names.specs.declared.root.Root.{Root}
use Rattle.scav_names.specs.Lacking.{entry_for}
use Rattle.scav_names.specs.Roots.{IsLed, KnowsPages, MayBeWritten, RoomMadeOne}
use Rattle.scav_names.specs.Words.{page_writes}
use Rattle.scav_names.proofs.Order.{divided}
use Rattle.scav_names.proofs.RootPages.{root_page}
use Rattle.scav_names.proofs.WordRuns.{page_keeps, page_left}

-- a word of SysDir's slots lies in a page that is known
pub word_known : {p : Pack} {root : Root} (w : ℕ) → KnowsPages p root → w ≤ length (dir_words p sys_dir) → w / 256 < length root.pages
word_known {p} {root} w known l = let many = known.page_count in omega (arith, many, divided w (length (dir_words p sys_dir)) l)

-- pages are known over words that are written
pub knows_still : {p q : Pack} {root : Root} {w : ℕ} {new : List ℕ} → KnowsPages p root → NamesWritten p q sys_dir w new → w + length new ≤ length (dir_words p sys_dir) → KnowsPages q root
knows_still {p} {q} {root} {w} {new} known wrote fits = record {
  pages = λ n l. wrote.places_are sys_dir (suc n) ∙ known.pages n l;
  page_count = known.page_count ∙ ap (λ k. k / 256 + 1) (sym (ap length wrote.words_are ∙ length-put_at w new (dir_words p sys_dir) fits));
  none_below = λ k l. wrote.free_are k ∙ known.none_below k l;
}

-- ---- the room that was found
module _ {p : Pack} {root : Root} {next : Living} {todo : List Living} {room : EntryRoom} (may : MayBeWritten p root next todo room) where
  found : FoundRoom (entry_length (length next.name)) (slots (dir_words p sys_dir)) may.first.found
  found = room_is_found (entry_length (length next.name)) (slots (dir_words p sys_dir)) may.first.found (omega arith) may.first.first

  place_is : room.place ≡ all_words found.before
  place_is = may.first.place ∙ found.place

  total_is : room.total ≡ all_words found.old
  total_is = may.first.total ∙ found.total

  -- it lies within SysDir's words, and has some
  some : 1 ≤ all_words found.old
  some = (let enough = run_enough (entry_length (length next.name)) (found.old ++ found.behind) (all_words found.old, found.behind) found.room.run_is in omega (arith, enough))

  fits : all_words found.before + all_words found.old ≤ length (dir_words p sys_dir)
  fits =
      let size : all_words (slots (dir_words p sys_dir)) ≡ all_words found.before + (all_words found.old + all_words found.behind) = ap all_words found.room.split ∙ all_words-append found.before (found.old ++ found.behind) ∙ ap (λ k. all_words found.before + k) (all_words-append found.old found.behind) in
      let within = slots_within (dir_words p sys_dir) in
      omega (arith, size, within)

  pub place_known : room.place / 256 < length root.pages
  place_known = word_known room.place may.may.known (let at = place_is in let l = fits in omega (arith, at, l))

  -- ---- it is one already
  pub one_already : room.first_words ≡ room.total → RoomMadeOne root next todo room p p tt
  one_already same =
      let old : found.old ≡ space room.total ∷ [] = found.alone (sym may.first.first_words ∙ same ∙ may.first.total) ∙ ap (λ t. space t ∷ []) (sym may.first.total) in
      record {
        may = record {
          scavengeable = may.may.scavengeable;
          pages = may.may.pages;
          tidy = may.may.tidy;
          known = may.may.known;
          lacking_is = may.may.lacking_are;
          led = All-head (IsLed p) next todo may.may.led;
          before = found.before;
          behind = found.behind;
          room_is = subst (λ l. IsRoom (entry_length (length next.name)) (slots (dir_words p sys_dir)) found.before l found.behind) old found.room;
          place = place_is;
        };
        places = λ f n. refl;
        same = refl;
        stay = nothing_keeps_entries p;
      }

  -- ---- it is several
  one : RoomIsOne p (freed p (get_or root.pages (room.place / 256) 0) found.before found.old) found.before found.old found.behind next.fid next.name (map entry_for todo)
  one = room_is_made_one p (get_or root.pages (room.place / 256) 0) found.before found.old found.behind next.fid next.name (map entry_for todo) may.may.pages may.may.tidy may.may.lacking_are
      (ap (λ w. place (sights p) sys_dir (w / 256 + 1)) (sym place_is) ∙ (root_page p root.pages room.place may.may.known.pages place_known).sector) found.room

  same_pack : dir_written p room.place (get_or root.pages (room.place / 256) 0) (room.total ∷ []) ≡ freed p (get_or root.pages (room.place / 256) 0) found.before found.old
  same_pack = λ i. dir_written p (place_is i) (get_or root.pages (room.place / 256) 0) (total_is i ∷ [])

  pub several_keep : AllKeepOpen p (page_writes p (get_or root.pages (room.place / 256) 0) (in_page room.place) (room.total ∷ []))
  several_keep = page_keeps p room.place (get_or root.pages (room.place / 256) 0) (room.total ∷ []) (subst (KeepsOpen p) (sym same_pack) one.written.keeps)

  pub several_made : RoomMadeOne root next todo room p (after p (page_writes p (get_or root.pages (room.place / 256) 0) (in_page room.place) (room.total ∷ []))) tt
  several_made = subst (λ q. RoomMadeOne root next todo room p q tt) (sym (page_left p room.place (get_or root.pages (room.place / 256) 0) (room.total ∷ []) ∙ same_pack)) (record {
    may = record {
      scavengeable = one.written.keeps.keeps.scavengeable may.may.scavengeable;
      pages = one.written.mended;
      tidy = one.tidy;
      known = knows_still may.may.known one.written (let n = some in let l = fits in omega (arith, n, l));
      lacking_is = one.lacking_is;
      led = one.written.places_are next.fid 0 ∙ All-head (IsLed p) next todo may.may.led;
      before = found.before;
      behind = found.behind;
      room_is = subst (λ t. IsRoom (entry_length (length next.name)) (slots (dir_words (freed p (get_or root.pages (room.place / 256) 0) found.before found.old) sys_dir)) found.before (space t ∷ []) found.behind) (sym total_is) one.room;
      place = place_is;
    };
    places = one.written.places_are;
    same = one.same;
    stay = one.stay;
  })
