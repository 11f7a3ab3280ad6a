-- What stays known over all record writes of an operation.
use Rattle.std.proofs.Common.{All, List, Some, [], ap, arith, false, length, subst, suc, sym, true, ℕ, ◌%◌, ◌++◌, ◌∙◌, ◌∷◌, ◌≡◌}
use Rattle.std.proofs.lemmas.List.Elements.{All-cons, All-nil}
use Rattle.std.specs.Prelude.{cond}
use Rattle.laws_hint.specs.alto_words.specs.Fid.{is_directory}
use Rattle.laws_hint.specs.alto_words.specs.declared.fid.Fid.{Fid}
use Rattle.laws_hint.specs.disk_records.specs.Commands.{value_writes}
use Rattle.laws_hint.specs.disk_records.specs.Labels.{is_free, tag}
use Rattle.laws_hint.specs.disk_records.specs.Packs.{Pack, after, is_free_at, sector_at}
use Rattle.laws_hint.specs.disk_records.specs.Words.{word}
use Rattle.laws_hint.specs.disk_records.specs.declared.records.Event.{Event}
use Rattle.laws_call.proofs.inside.Writing.{written_acts}
use Rattle.laws_call.specs.WritingLaws.{StaysKnown, WrittenStaysKnown}
use Rattle.laws_call.specs.Writing.{Written, cuts, drops, entering_writes, enters, entry_freed, grown_writes, grows, leaves, makes, puts, stamps, titles, widens}
use Rattle.laws_hint.specs.laws_line.proofs.crashes.Laws.{crashes_of_enter}
use Rattle.laws_hint.specs.laws_lookup.proofs.before.Laws.{cut_misled_before, drop_misled_before, enter_misled_before, grow_misled_before, leave_misled_before, make_misled_before, widen_misled_before}
use Rattle.laws_hint.specs.laws_lookup.proofs.others.Laws.{cut_keeps_pages, cut_leaves_others, grow_keeps_pages, grow_leaves_others, make_leaves_others, place_is_of_its_file, values_leave_others, widen_keeps_pages, widen_leaves_others}
use Rattle.laws_hint.specs.laws_lookup.proofs.stays.Laws.{values_misled_before}
use Rattle.laws_hint.specs.laws_lookup.specs.OtherLaws.{AreOfFile, KeepsPages, LeavesOthers}
use Rattle.laws_hint.specs.laws_lookup.specs.StayLaws.{MisledBefore}
use Rattle.laws_hint.specs.laws_operation.proofs.Concerning.{AllOf, events_are, values_of}
use Rattle.laws_hint.specs.laws_operation.proofs.cut.Laws.{cut_words_fit}
use Rattle.laws_hint.specs.laws_operation.proofs.drop.Laws.{slot_words_fit}
use Rattle.laws_hint.specs.laws_operation.proofs.enter.Laws.{enter_words_fit}
use Rattle.laws_hint.specs.laws_operation.proofs.grow.Laws.{grow_words_fit}
use Rattle.laws_hint.specs.laws_operation.proofs.make.Laws.{make_words_fit}
use Rattle.laws_hint.specs.laws_operation.proofs.places.Laws.{file_that_does_not_live_has_no_page, values_keep_places}
use Rattle.laws_hint.specs.laws_operation.proofs.widen.Laws.{widen_words_fit}
use Rattle.laws_hint.specs.laws_operation.specs.ByteLaws.{Bear, IsOrdinary}
use Rattle.laws_hint.specs.laws_operation.specs.DirectoryWords.{left_in}
use Rattle.laws_hint.specs.laws_operation.specs.FileWords.{CanCut, CanGrow, CanMake}
use Rattle.laws_hint.specs.laws_operation.specs.NameLaws.{MayEnterAt, entry_room}
use Rattle.laws_hint.specs.laws_record.proofs.Copying.{place_carried}
use Rattle.laws_hint.specs.pack_laws.proofs.Guarding.{carried_parts, named_taken}
use Rattle.laws_hint.specs.pack_model.specs.operations.Commands.{Claim, cut_label, first_page_claim, grown_claims, grown_label, grown_value, leader_claim, values_writes}
use Rattle.laws_hint.specs.pack_model.specs.operations.Committing.{page_of_byte, page_of_word}
use Rattle.laws_hint.specs.pack_model.specs.operations.Entering.{EntryRoom, entry_value, values_first}
use Rattle.laws_hint.specs.pack_model.specs.operations.Operations.{cut_writes, make_writes}
use Rattle.laws_hint.specs.pack_model.specs.operations.PageWords.{entered_words, page_number, put_value, stamped_value, titled_value, widening_bytes}
use Rattle.laws_hint.specs.pack_model.specs.operations.Step.Operation.{cut, enter, grow, make, widen}
use Rattle.laws_hint.specs.pack_model.specs.operations.Step.{Operation}
use Rattle.laws_hint.specs.pack_model.specs.reading.Files.{file_bytes, place}
use Rattle.laws_hint.specs.pack_model.specs.reading.Sights.{sights}
use Rattle.laws_hint.specs.pack_model.specs.reading.SlotWords.{address_word, space_words}
use Rattle.laws_hint.specs.pack_model.specs.reading.Slots.{Item, all_words}
use Rattle.laws_hint.specs.pack_model.specs.states.Whole.{Tidy, Whole}

-- ---- sectors that aren't free
place_held : (p : Pack) (f : Fid) (n at : ℕ) → place (sights p) f n ≡ Some at → is_free_at p at ≡ false
place_held p f n at there =
    let parts = carried_parts p at (page_number f n) (place_carried p (page_number f n) at there) in
    ap (λ usable. cond usable (is_free (tag (sector_at p at).label)) false) parts.0 ∙ named_taken (sector_at p at).label (page_number f n) parts.1

bear_held : (p : Pack) (f : Fid) (n : ℕ) (ats : List ℕ) → Bear (sights p) f n ats → All (λ at. is_free_at p at ≡ false) ats
bear_held p f n [] b = All-nil (λ at. is_free_at p at ≡ false)
bear_held p f n (at ∷ ats) b = All-cons (λ i. is_free_at p i ≡ false) at ats (place_held p f n at b.0) (bear_held p f (suc n) ats b.1)

none_held : (p : Pack) → All (λ at. is_free_at p at ≡ false) []
none_held p = All-nil (λ at. is_free_at p at ≡ false)

-- ---- one value
module _ (p : Pack) (w : Whole p) (f : Fid) (n at : ℕ) (value : List ℕ) (there : place (sights p) f n ≡ Some at) (wq : Whole (after p (value_writes at value))) where
  value_others : LeavesOthers f p (after p (value_writes at value))
  value_others = values_leave_others p f ((at, value) ∷ []) w wq (place_is_of_its_file p f n at there, tt)

  value_leader : KeepsPages f 0 p (after p (value_writes at value))
  value_leader m i l is = (values_keep_places p ((at, value) ∷ [])).places f m ∙ is

  -- in an ordinary file
  value_misled : is_directory f ≡ false → MisledBefore p (value_writes at value)
  value_misled ordinary = values_misled_before p f ((at, value) ∷ []) w wq ordinary (place_is_of_its_file p f n at there, tt)

of_all : (p : Pack) (f : Fid) (values : List (ℕ × List ℕ)) → AllOf f p values → AreOfFile p f values
of_all p f [] h = tt
of_all p f (v ∷ values) h = (h.0, of_all p f values h.1)

-- ---- claims
module _ (p : Pack) (w : Whole p) (t : Tidy p) where
  grown : (f : Fid) (new past fresh : List ℕ) (at : ℕ) → IsOrdinary f → let b : ℕ = length (file_bytes (sights p) f) in CanGrow p f b new past fresh at → StaysKnown p (grow f new) [] (grown_writes p f b at new past fresh)
  grown f new past fresh at file can =
      let b : ℕ = length (file_bytes (sights p) f) in
      let claims : List Claim = grown_claims p.shape f b at new past fresh in
      let label : List ℕ = grown_label p.shape b new fresh (sector_at p at).label in
      let value : List ℕ = grown_value b new past fresh (sector_at p at).value in
      let may = grow_words_fit p f b new past fresh at w file can in
      record {
        others = λ one. grow_leaves_others p f new claims at label value w t may;
        leader = λ one n i l is. grow_keeps_pages p f new claims at label value w t may n i (omega (arith, l)) is;
        misled = grow_misled_before p f new past fresh at w t may can.number;
        held = none_held p;
      }

  widened : (d : Fid) (past fresh : List ℕ) (at : ℕ) → is_directory d ≡ true → let b : ℕ = length (file_bytes (sights p) d) in CanGrow p d b widening_bytes past fresh at → StaysKnown p (widen d) [] (grown_writes p d b at widening_bytes past fresh)
  widened d past fresh at directory can =
      let b : ℕ = length (file_bytes (sights p) d) in
      let claims : List Claim = grown_claims p.shape d b at widening_bytes past fresh in
      let label : List ℕ = grown_label p.shape b widening_bytes fresh (sector_at p at).label in
      let value : List ℕ = grown_value b widening_bytes past fresh (sector_at p at).value in
      let may = widen_words_fit p d b past fresh at w directory can in
      record {
        others = λ one. widen_leaves_others p d (space_words 256) claims at label value w t may;
        leader = λ one n i l is. widen_keeps_pages p d (space_words 256) claims at label value w t may n i (omega (arith, l)) is;
        misled = widen_misled_before p d (space_words 256) past fresh at w t may can.number;
        held = none_held p;
      }

  made : (f : Fid) (name : List ℕ) (moment leader_at page_at : ℕ) → CanMake p f name leader_at page_at
      → StaysKnown p (make f name moment) [] (make_writes (first_page_claim p.shape f leader_at page_at) (leader_claim p.shape f name moment leader_at page_at))
  made f name moment leader_at page_at can =
      let may = make_words_fit p f name moment leader_at page_at can in
      record {
        others = λ one. make_leaves_others p f name moment (first_page_claim p.shape f leader_at page_at) (leader_claim p.shape f name moment leader_at page_at) w t may;
        leader = λ one n i l is. let none = file_that_does_not_live_has_no_page p f n w can.not_there in cc;
        misled = make_misled_before p f name moment leader_at page_at w t may;
        held = none_held p;
      }

  cut_so : (f : Fid) (n at : ℕ) (later : List ℕ) → CanCut p f n at later → StaysKnown p (cut f n) later (cut_writes at (cut_label n (sector_at p at).label) (sector_at p at).value later)
  cut_so f n at later can =
      let may = cut_words_fit p f n at later can in
      let label : List ℕ = cut_label n (sector_at p at).label in
      record {
        others = λ one. cut_leaves_others p f n at label later w t may;
        leader = λ one m i l is. cut_keeps_pages p f n at label later w t may m i (omega (arith, l)) is;
        misled = cut_misled_before p f n at label later w t may;
        held = bear_held p f (suc (page_of_byte n)) later can.later_are;
      }

  -- ---- an entry
  -- the values of an entering by its room
  entered : (d f : Fid) (name : List ℕ) (a old b : List Item) (left : ℕ) (words : List ℕ) (at next_at : ℕ) → MayEnterAt p d name f a old b left words at next_at → place (sights p) f 0 ≡ Some (word words (address_word 0))
      → StaysKnown p (enter d name f) [] (entering_writes p (entry_room a old at next_at) words)
  entered d f name a old b left words at next_at may leader =
      let r : EntryRoom = entry_room a old at next_at in
      let values : List (ℕ × List ℕ) = values_first p r words ++ (at, entry_value p r words) ∷ [] in
      let es : values_writes values ≡ entering_writes p r words = events_are p w t d name f a old b left words at next_at may in
      let wq : Whole (after p (entering_writes p r words)) = (crashes_of_enter p d name f a old b left words at next_at w t may).whole in
      let all = of_all p d values (values_of p w t d name f a old b left words at next_at may) in
      record {
        others = λ one. subst (λ l. LeavesOthers d p (after p l)) es (values_leave_others p d values w (subst (λ l. Whole (after p l)) (sym es) wq) all);
        leader = λ one m i l is. subst (λ e. place (sights (after p e)) d m ≡ Some i) es ((values_keep_places p values).places d m ∙ is);
        misled = enter_misled_before p d name f a old b left words at next_at w t may leader;
        held = none_held p;
      }

pub written_stays_known : WrittenStaysKnown
written_stays_known p o claimed released writes w t h = known h
  where
    ends : {o : Operation} {claimed released : List ℕ} {writes : List Event} → Written p o claimed released writes → Whole (after p writes)
    ends {o} {claimed} {released} {writes} x = (written_acts p o claimed released writes w t x).stays.whole

    known : {o : Operation} {claimed released : List ℕ} {writes : List Event} → Written p o claimed released writes → StaysKnown p o released writes
    known (puts {f = f} {offset = offset} {at = at} {new = new} {past = past} can past_end) =
        let value : List ℕ = put_value (offset % 512) new past (sector_at p at).value in
        let wq = ends (puts can past_end) in
        record {
          others = λ one. value_others p w f (page_of_byte offset) at value can.sector wq;
          leader = λ one. value_leader p w f (page_of_byte offset) at value can.sector wq;
          misled = value_misled p w f (page_of_byte offset) at value can.sector wq can.file.no_directory;
          held = none_held p;
        }
    known (grows {f = f} {new = new} {past = past} {fresh = fresh} {b = b} {at = at} file can) =
        subst (λ n. CanGrow p f n new past fresh at → StaysKnown p (grow f new) [] (grown_writes p f n at new past fresh)) (sym can.size) (grown p w t f new past fresh at file) can
    known (cuts {f = f} {n = n} {at = at} {later = later} can) = cut_so p w t f n at later can
    known (titles {f = f} {name = name} {at = at} can stored) =
        let value : List ℕ = titled_value name (sector_at p at).value in
        let wq = ends (titles can stored) in
        record {
          others = λ one. value_others p w f 0 at value can.sector wq;
          leader = λ one. value_leader p w f 0 at value can.sector wq;
          misled = value_misled p w f 0 at value can.sector wq can.file.no_directory;
          held = none_held p;
        }
    known (stamps {f = f} {moment = moment} {at = at} {last_at = last_at} {b = b} can size last) =
        let value : List ℕ = stamped_value moment last_at (page_of_byte b) (b % 512) (sector_at p at).value in
        let wq = ends (stamps {moment = moment} can size last) in
        record {
          others = λ one. value_others p w f 0 at value can.sector wq;
          leader = λ one. value_leader p w f 0 at value can.sector wq;
          misled = value_misled p w f 0 at value can.sector wq can.file.no_directory;
          held = none_held p;
        }
    known (makes {f = f} {name = name} {moment = moment} {leader_at = leader_at} {page_at = page_at} can) = made p w t f name moment leader_at page_at can
    known (drops {f = f} {d = d} {at = at} {slot_at = slot_at} {pages = pages} {own = own} {a = a} {b = b} may has) = record {
      others = λ one. absurd one;
      leader = λ one. absurd one;
      misled = drop_misled_before p f at pages d slot_at a b own w t may (slot_words_fit p d slot_at a b f own has);
      held = All-cons (λ i. is_free_at p i ≡ false) at pages (place_held p f 0 at may.sector) (bear_held p f 1 pages may.pages_are);
    }
    known (leaves {f = f} {d = d} {name = name} {own = own} {at = at} {a = a} {b = b} has same no_system) =
        let value : List ℕ = entry_freed p at a f own in
        let wq = ends (leaves {name = name} has same no_system) in
        record {
          others = λ one. value_others p w d (page_of_word (all_words a)) at value has.sector wq;
          leader = λ one. value_leader p w d (page_of_word (all_words a)) at value has.sector wq;
          misled = leave_misled_before p d at a b f own w wq (slot_words_fit p d at a b f own has);
          held = none_held p;
        }
    known (enters {f = f} {d = d} {name = name} {r = r} {leader_at = leader_at} {at = at} {next_at = next_at} can leader) =
        let words : List ℕ = entered_words f leader_at name (left_in r name) in
        let there = enter_words_fit p d name f leader_at r at next_at can in
        subst (λ room. StaysKnown p (enter d name f) [] (entering_writes p room words)) there.room (entered p w t d f name there.before there.old there.behind (left_in r name) words at next_at there.may leader)
    known (widens {d = d} {past = past} {fresh = fresh} {b = b} {at = at} directory can) =
        subst (λ n. CanGrow p d n widening_bytes past fresh at → StaysKnown p (widen d) [] (grown_writes p d n at widening_bytes past fresh)) (sym can.size) (widened p w t d past fresh at directory) can
