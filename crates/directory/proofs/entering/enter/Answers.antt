use Rattle.std.proofs.Common.{Bool, Err, IsTrue, List, [], ap, arith, inl, inr, length, subst, sym, take, refl, ℕ, ◌*◌, ◌+◌, ◌-◌, ◌∙◌, ◌≤◌}
use Rattle.disk_records.proofs.Framing.{writes_after_look, writes_silent}
use Rattle.disk_records.proofs.Growing.{alone_twice}
use Rattle.disk_records.proofs.Looking.{looks_pack, looks_twice}
use Rattle.disk_records.specs.Causes.{never, other}
use Rattle.disk_records.specs.Frames.{IsPageOf}
use Rattle.disk_records.specs.Packs.{Pack}
use Rattle.disk_records.specs.Tapes.{pack}
use Rattle.file_pages.proofs.Valued.{look_leaves_handy, value_leaves_handy}
use Rattle.laws_call.specs.Acting.{IsQuiet, Operates, around, refused}
use Rattle.laws_guard.proofs.guarded.Laws.{look_before_operates}
use Rattle.pack_model.specs.operations.Committing.{page_of_word}
use Rattle.pack_model.specs.operations.PageWords.{entered_words}
use Rattle.pack_model.specs.operations.Step.Operation.{enter}
use Rattle.pack_model.specs.states.Whole.{Whole}
use Rattle.page_seeking.specs.Refs.{MisledBy}
use Rattle.page_seeking.specs.Seeking.{Quick, Stands, file_length, page_number}
use Rattle.page_seeking.proofs.Erring.{on_ok}
use Rattle.directory.specs.declared.errors.DirError.TheVariants.{NameTaken}
use Rattle.directory.specs.declared.errors.DirError.{DirError}
use Rattle.directory.specs.declared.place.RoomFound.{RoomFound}
use Rattle.directory.specs.Asked.{DirIsFound}
use Rattle.directory.specs.Entering.{has_later, to_enter, unentered}
use Rattle.directory.specs.Errors.{IfMisled, disk_fault, out_of_memory}
use Rattle.directory.specs.Places.{HasNoRoom}
use Rattle.directory.proofs.Answering.{by_slots_any, cause_of_entering, never_by_slots, never_full, never_taken, same_error}
use Rattle.directory.proofs.EntryCall.{entered, quick_thrice, words_entered, words_few, words_some, words_within}
use Rattle.directory.proofs.EntryPages.{written_there}
use Rattle.directory.proofs.LeavingEntry.{found_of_stands, quick_kept}
use Rattle.directory.proofs.Misleading.{dir_never_led, misled_any, misled_map}
use Rattle.directory.proofs.Paging.{take_short}
use Rattle.directory.proofs.Quickly.{handy_twice}
use Rattle.directory.proofs.entering.enter.Goals as goal

-- ---- no place was found
pub returns-in-Err-clause-operates : goal.returns-in-Err-clause-operates
returns-in-Err-clause-operates g c told stands may = refused (record { silent = c.find_place.ensures.looks.silent told; bits = c.find_place.ensures.table; tally = refl }) tt (λ memory. c.in-Err.ensures.want told (same_error RoomFound (Unit {0}) c.in-Err.error out_of_memory memory))

pub returns-in-Err-clause-taken : goal.returns-in-Err-clause-taken
returns-in-Err-clause-taken g c told stands taken = c.in-Err.ensures.taken told (found_of_stands (pack (g.D.Tape.tape c.args.disk.now)) c.args.dir.now stands) (same_error RoomFound (Unit {0}) c.in-Err.error NameTaken taken)

pub returns-in-Err-clause-full : goal.returns-in-Err-clause-full
returns-in-Err-clause-full g c told stands = c.in-Err.ensures.full told (found_of_stands (pack (g.D.Tape.tape c.args.disk.now)) c.args.dir.now stands)

pub returns-in-Err-clause-misled : goal.returns-in-Err-clause-misled
returns-in-Err-clause-misled g c told stands = c.in-Err.ensures.misled told (found_of_stands (pack (g.D.Tape.tape c.args.disk.now)) c.args.dir.now stands)

pub returns-in-Err-clause-true_links : goal.returns-in-Err-clause-true_links
returns-in-Err-clause-true_links g c told stands links =
    dir_never_led {T = Unit {0}} (pack (g.D.Tape.tape c.args.disk.now)) c.args.dir.now (Err c.in-Err.error) (g.met.D.Disk.formed c.args.disk.now told) stands links (returns-in-Err-clause-misled g c told stands)

pub returns-in-Err-clause-quiet : goal.returns-in-Err-clause-quiet
returns-in-Err-clause-quiet g c told stands =
    misled_any {T = Unit {0}} (IsQuiet (around (g.D.Tape.tape c.args.disk.now) c.args.hints.now.table c.args.tally.now) (around (g.D.Tape.tape c.find_place.new.disk) c.find_place.new.hints.table c.args.tally.now)) (Err c.in-Err.error)
    (record { silent = c.find_place.ensures.looks.silent told; bits = c.find_place.ensures.table; tally = refl })

pub returns-in-Err-clause-unwritten : goal.returns-in-Err-clause-unwritten
returns-in-Err-clause-unwritten g c told =
    by_slots_any {T = Unit {0}} (IsQuiet (around (g.D.Tape.tape c.args.disk.now) c.args.hints.now.table c.args.tally.now) (around (g.D.Tape.tape c.find_place.new.disk) c.find_place.new.hints.table c.args.tally.now)) (Err c.in-Err.error)
    (record { silent = c.find_place.ensures.looks.silent told; bits = c.find_place.ensures.table; tally = refl })

pub returns-in-Err-clause-handy : goal.returns-in-Err-clause-handy
returns-in-Err-clause-handy g c told = look_leaves_handy c.args.hints.now.cache c.find_place.new.hints.cache c.find_place.ensures.looks told (c.find_place.ensures.handy told)

-- ---- its pages weren't located
pub returns-in-Err-locate_room-clause-operates : goal.returns-in-Err-locate_room-clause-operates
returns-in-Err-locate_room-clause-operates g c told stands may =
    let looks = looks_twice 4298440756 c.find_place.ensures.looks c.locate_room.ensures.looks (omega arith) in
    refused (record { silent = looks.silent told; bits = c.locate_room.ensures.table ∙ c.find_place.ensures.table; tally = refl }) tt (λ memory. c.in-Err-locate_room.ensures.want told (same_error (ℕ × ℕ) (Unit {0}) c.in-Err-locate_room.error out_of_memory memory))

pub returns-in-Err-locate_room-clause-taken : goal.returns-in-Err-locate_room-clause-taken
returns-in-Err-locate_room-clause-taken g c told stands taken =
    let p = pack (g.D.Tape.tape c.args.disk.now) in
    let d = c.args.dir.now.fid in
    let found = c.in-Ok.ensures.found told (found_of_stands p c.args.dir.now stands) in
    let words = take c.put_entry-count.result c.put_entry-count.new.words in
    let is = c.put_entry-count.ensures.words ∙ ap (entered_words c.args.fid c.args.leader_at c.args.name.now) (c.saturating_sub-left.ensures ∙ ap (λ n. c.in-Ok.room.words.total - n) c.entry_words.ensures.words) in
    let one = looks_pack c.find_place.ensures.looks told in
    let fits = subst (λ (q : Pack). 2 * (c.in-Ok.room.place + length words) ≤ file_length q d) (sym one) (words_within p d c.args.name.now c.args.fid c.args.leader_at c.in-Ok.room words found is) in
    let some = words_some p d c.args.name.now c.args.fid c.args.leader_at c.in-Ok.room words found is in
    absurd (never_taken {T = Unit {0}} (Err c.in-Err-locate_room.error) (c.in-Err-locate_room.ensures.full told (subst Whole (sym one) stands.stands.whole) fits some) taken)

pub returns-in-Err-locate_room-clause-full : goal.returns-in-Err-locate_room-clause-full
returns-in-Err-locate_room-clause-full g c told stands =
    let p = pack (g.D.Tape.tape c.args.disk.now) in
    let d = c.args.dir.now.fid in
    let found = c.in-Ok.ensures.found told (found_of_stands p c.args.dir.now stands) in
    let words = take c.put_entry-count.result c.put_entry-count.new.words in
    let is = c.put_entry-count.ensures.words ∙ ap (entered_words c.args.fid c.args.leader_at c.args.name.now) (c.saturating_sub-left.ensures ∙ ap (λ n. c.in-Ok.room.words.total - n) c.entry_words.ensures.words) in
    let one = looks_pack c.find_place.ensures.looks told in
    let fits = subst (λ (q : Pack). 2 * (c.in-Ok.room.place + length words) ≤ file_length q d) (sym one) (words_within p d c.args.name.now c.args.fid c.args.leader_at c.in-Ok.room words found is) in
    let some = words_some p d c.args.name.now c.args.fid c.args.leader_at c.in-Ok.room words found is in
    never_full {T = Unit {0}} (HasNoRoom p d c.args.name.now) (Err c.in-Err-locate_room.error) (c.in-Err-locate_room.ensures.full told (subst Whole (sym one) stands.stands.whole) fits some)

pub returns-in-Err-locate_room-clause-unwritten : goal.returns-in-Err-locate_room-clause-unwritten
returns-in-Err-locate_room-clause-unwritten g c told =
    let looks = looks_twice 4298440756 c.find_place.ensures.looks c.locate_room.ensures.looks (omega arith) in
    by_slots_any {T = Unit {0}} (IsQuiet (around (g.D.Tape.tape c.args.disk.now) c.args.hints.now.table c.args.tally.now) (around (g.D.Tape.tape c.locate_room.new.disk) c.locate_room.new.hints.table c.args.tally.now)) (Err c.in-Err-locate_room.error)
    (record { silent = looks.silent told; bits = c.locate_room.ensures.table ∙ c.find_place.ensures.table; tally = refl })

pub returns-in-Err-locate_room-clause-misled : goal.returns-in-Err-locate_room-clause-misled
returns-in-Err-locate_room-clause-misled g c told stands =
    let p = pack (g.D.Tape.tape c.args.disk.now) in
    let one = looks_pack c.find_place.ensures.looks told in
    subst (λ (q : Pack). IfMisled {T = Unit {0}} (Err c.in-Err-locate_room.error) (MisledBy q [] c.args.dir.now.fid)) one
    (c.in-Err-locate_room.ensures.misled told (subst (λ (q : Pack). DirIsFound q c.args.dir.now) (sym one) (found_of_stands p c.args.dir.now stands)))

pub returns-in-Err-locate_room-clause-true_links : goal.returns-in-Err-locate_room-clause-true_links
returns-in-Err-locate_room-clause-true_links g c told stands links =
    dir_never_led {T = Unit {0}} (pack (g.D.Tape.tape c.args.disk.now)) c.args.dir.now (Err c.in-Err-locate_room.error) (g.met.D.Disk.formed c.args.disk.now told) stands links (returns-in-Err-locate_room-clause-misled g c told stands)

pub returns-in-Err-locate_room-clause-quiet : goal.returns-in-Err-locate_room-clause-quiet
returns-in-Err-locate_room-clause-quiet g c told stands =
    let looks = looks_twice 4298440756 c.find_place.ensures.looks c.locate_room.ensures.looks (omega arith) in
    misled_any {T = Unit {0}} (IsQuiet (around (g.D.Tape.tape c.args.disk.now) c.args.hints.now.table c.args.tally.now) (around (g.D.Tape.tape c.locate_room.new.disk) c.locate_room.new.hints.table c.args.tally.now)) (Err c.in-Err-locate_room.error)
    (record { silent = looks.silent told; bits = c.locate_room.ensures.table ∙ c.find_place.ensures.table; tally = refl })

pub returns-in-Err-locate_room-clause-cause : goal.returns-in-Err-locate_room-clause-cause
returns-in-Err-locate_room-clause-cause g c = cause_of_entering {T = Unit {0}} other (g.D.Tape.tape c.locate_room.new.disk) (Err c.in-Err-locate_room.error) c.find_place.ensures.looks.alone c.in-Ok.ensures.cause (λ none. none) c.in-Err-locate_room.ensures.cause

pub returns-in-Err-locate_room-clause-alone : goal.returns-in-Err-locate_room-clause-alone
returns-in-Err-locate_room-clause-alone g c = alone_twice c.find_place.ensures.looks.alone c.locate_room.ensures.looks.alone

pub returns-in-Err-locate_room-clause-handy : goal.returns-in-Err-locate_room-clause-handy
returns-in-Err-locate_room-clause-handy g c told =
    let looks = looks_twice 4298440756 c.find_place.ensures.looks c.locate_room.ensures.looks (omega arith) in
    look_leaves_handy c.args.hints.now.cache c.locate_room.new.hints.cache looks told
    (handy_twice (pack (g.D.Tape.tape c.args.disk.now)) (pack (g.D.Tape.tape c.find_place.new.disk)) c.args.hints.now.cache c.find_place.new.hints.cache c.locate_room.new.hints.cache (looks_pack c.find_place.ensures.looks told) (c.find_place.ensures.handy told) (c.locate_room.ensures.handy told))

-- ---- its words were to be written
pub returns-in-Ok-locate_room-clause-operates : goal.returns-in-Ok-locate_room-clause-operates
returns-in-Ok-locate_room-clause-operates g c told stands may =
    let a = g.D.Tape.tape c.args.disk.now in
    let e = g.D.Tape.tape c.locate_room.new.disk in
    let z = g.D.Tape.tape c.write_entry.new.disk in
    let d = c.args.dir.now.fid in
    let f = c.args.fid in
    let name = c.args.name.now in
    let room = c.in-Ok.room in
    let bits = c.locate_room.new.hints.table in
    let t = c.args.tally.now in
    let u = c.write_entry.new.tally in
    let found = c.in-Ok.ensures.found told (found_of_stands (pack a) c.args.dir.now stands) in
    let words = take c.put_entry-count.result c.put_entry-count.new.words in
    let is = c.put_entry-count.ensures.words ∙ ap (entered_words f c.args.leader_at name) (c.saturating_sub-left.ensures ∙ ap (λ n. room.words.total - n) c.entry_words.ensures.words) in
    let one = looks_pack c.find_place.ensures.looks told in
    let two = looks_pack c.locate_room.ensures.looks told in
    let looks = looks_twice 4298440756 c.find_place.ensures.looks c.locate_room.ensures.looks (omega arith) in
    let few = words_few (pack a) d name f c.args.leader_at room words found is in
    let low = room.low in
    let short = take_short c.put_entry-count.result c.put_entry-count.new.words in
    let most = c.put_entry-count.ensures.most in
    let here = subst (λ (q : Pack). Stands q (page_number d (page_of_word room.place)) c.in-Ok-locate_room.at c.locate_room.new.buf) one (c.in-Ok-locate_room.ensures.stands told) in
    let there : IsTrue (has_later room words) → Stands (pack a) (page_number d (page_of_word room.place + 1)) c.in-Ok-locate_room.next_at c.locate_room.new.next = λ more.
    subst (λ (q : Pack). Stands q (page_number d (page_of_word room.place + 1)) c.in-Ok-locate_room.next_at c.locate_room.new.next) one (c.in-Ok-locate_room.ensures.stands_next told more (omega (arith, low, few))) in
    let operates = entered (pack a) c.args.dir.now name f c.args.leader_at room words c.in-Ok-locate_room.at c.in-Ok-locate_room.next_at c.locate_room.new.buf c.locate_room.new.next bits t u c.write_entry.result stands may found c.put_entry-count.ensures.stored is (omega (arith, short, most)) here there (two ∙ one) (c.write_entry.ensures.writes (enter d name f) bits told) in
    subst (λ (l : List Bool). Operates {T = Unit {0}} disk_fault out_of_memory (to_enter d name f) [] (around a l t) (around z bits u) c.write_entry.result) (c.locate_room.ensures.table ∙ c.find_place.ensures.table)
    (look_before_operates (Unit {0}) DirError disk_fault out_of_memory (enter d name f) [] a e z bits bits t u c.write_entry.result looks.alone.grown c.write_entry.ensures.alone.grown (looks.silent told) (g.met.D.Disk.counted c.args.disk.now told) (g.met.D.Disk.counted c.locate_room.new.disk told) operates)

pub returns-in-Ok-locate_room-clause-found : goal.returns-in-Ok-locate_room-clause-found
returns-in-Ok-locate_room-clause-found g c told stands =
    let found = c.in-Ok.ensures.found told (found_of_stands (pack (g.D.Tape.tape c.args.disk.now)) c.args.dir.now stands) in
    on_ok c.write_entry.result (record { absent = found.absent; room = found.room.room; found = found.room.is })

pub returns-in-Ok-locate_room-clause-taken : goal.returns-in-Ok-locate_room-clause-taken
returns-in-Ok-locate_room-clause-taken g c told stands taken = absurd (never_taken c.write_entry.result c.write_entry.ensures.slots taken)

pub returns-in-Ok-locate_room-clause-full : goal.returns-in-Ok-locate_room-clause-full
returns-in-Ok-locate_room-clause-full g c told stands = never_full _ c.write_entry.result c.write_entry.ensures.slots

pub returns-in-Ok-locate_room-clause-unwritten : goal.returns-in-Ok-locate_room-clause-unwritten
returns-in-Ok-locate_room-clause-unwritten g c told = never_by_slots _ c.write_entry.result c.write_entry.ensures.slots

pub returns-in-Ok-locate_room-clause-hint : goal.returns-in-Ok-locate_room-clause-hint
returns-in-Ok-locate_room-clause-hint g c told =
    written_there _ c.in-Ok-locate_room.at c.in-Ok-locate_room.next_at c.write_entry.result (looks_pack c.locate_room.ensures.looks told) c.page_of_word.ensures (c.in-Ok-locate_room.ensures.stands told).carries (c.in-Ok-locate_room.ensures.carries_next told) (c.write_entry.ensures.misled told)

pub returns-in-Ok-locate_room-clause-misled : goal.returns-in-Ok-locate_room-clause-misled
returns-in-Ok-locate_room-clause-misled g c told stands =
    written_there _ c.in-Ok-locate_room.at c.in-Ok-locate_room.next_at c.write_entry.result (looks_pack c.locate_room.ensures.looks told) c.page_of_word.ensures (c.in-Ok-locate_room.ensures.stands told).carries (c.in-Ok-locate_room.ensures.carries_next told) (c.write_entry.ensures.misled told)

pub returns-in-Ok-locate_room-clause-quiet : goal.returns-in-Ok-locate_room-clause-quiet
returns-in-Ok-locate_room-clause-quiet g c told stands =
    written_there _ c.in-Ok-locate_room.at c.in-Ok-locate_room.next_at c.write_entry.result (looks_pack c.locate_room.ensures.looks told) c.page_of_word.ensures (c.in-Ok-locate_room.ensures.stands told).carries (c.in-Ok-locate_room.ensures.carries_next told) (c.write_entry.ensures.misled told)

pub returns-in-Ok-locate_room-clause-given : goal.returns-in-Ok-locate_room-clause-given
returns-in-Ok-locate_room-clause-given g c = misled_map c.write_entry.result c.write_entry.ensures.held (λ place at wanted found x. inr x)

pub returns-in-Err-clause-given : goal.returns-in-Err-clause-given
returns-in-Err-clause-given g c = misled_map {T = Unit {0}} (Err c.in-Err.error) c.in-Err.ensures.hint (λ place at wanted found x. inl x)

pub returns-in-Err-locate_room-clause-given : goal.returns-in-Err-locate_room-clause-given
returns-in-Err-locate_room-clause-given g c = misled_map {T = Unit {0}} (Err c.in-Err-locate_room.error) c.in-Err-locate_room.ensures.hint (λ place at wanted found x. inl x)

pub returns-in-Ok-locate_room-clause-true_links : goal.returns-in-Ok-locate_room-clause-true_links
returns-in-Ok-locate_room-clause-true_links g c told stands links =
    dir_never_led (pack (g.D.Tape.tape c.args.disk.now)) c.args.dir.now c.write_entry.result (g.met.D.Disk.formed c.args.disk.now told) stands links (returns-in-Ok-locate_room-clause-misled g c told stands)

pub returns-in-Ok-locate_room-clause-cause : goal.returns-in-Ok-locate_room-clause-cause
returns-in-Ok-locate_room-clause-cause g c = cause_of_entering never (g.D.Tape.tape c.write_entry.new.disk) c.write_entry.result (alone_twice c.find_place.ensures.looks.alone c.locate_room.ensures.looks.alone) (c.in-Ok-locate_room.ensures.cause ∙ c.in-Ok.ensures.cause) (λ never. absurd never) c.write_entry.ensures.cause

pub returns-in-Ok-locate_room-clause-alone : goal.returns-in-Ok-locate_room-clause-alone
returns-in-Ok-locate_room-clause-alone g c = alone_twice (alone_twice c.find_place.ensures.looks.alone c.locate_room.ensures.looks.alone) c.write_entry.ensures.alone

pub returns-in-Ok-locate_room-clause-handy : goal.returns-in-Ok-locate_room-clause-handy
returns-in-Ok-locate_room-clause-handy g c told =
    let looks = looks_twice 4298440756 c.find_place.ensures.looks c.locate_room.ensures.looks (omega arith) in
    value_leaves_handy (g.D.Tape.tape c.write_entry.new.disk) c.args.hints.now.cache c.locate_room.new.hints.cache looks told
    (handy_twice (pack (g.D.Tape.tape c.args.disk.now)) (pack (g.D.Tape.tape c.find_place.new.disk)) c.args.hints.now.cache c.find_place.new.hints.cache c.locate_room.new.hints.cache (looks_pack c.find_place.ensures.looks told) (c.find_place.ensures.handy told) (c.locate_room.ensures.handy told))
    (c.write_entry.ensures.places told)

pub returns-in-Ok-locate_room-clause-quick : goal.returns-in-Ok-locate_room-clause-quick
returns-in-Ok-locate_room-clause-quick g c told stands quick =
    let p = pack (g.D.Tape.tape c.args.disk.now) in
    let d = c.args.dir.now.fid in
    let room = c.in-Ok.room in
    let found = c.in-Ok.ensures.found told (found_of_stands p c.args.dir.now stands) in
    let words = take c.put_entry-count.result c.put_entry-count.new.words in
    let is = c.put_entry-count.ensures.words ∙ ap (entered_words c.args.fid c.args.leader_at c.args.name.now) (c.saturating_sub-left.ensures ∙ ap (λ n. room.words.total - n) c.entry_words.ensures.words) in
    let one = looks_pack c.find_place.ensures.looks told in
    let kept = subst (λ (q : Pack). Quick q d c.find_place.new.hints.cache) (sym one) (quick_kept p d c.args.hints.now.cache c.find_place.new.hints.cache quick (c.find_place.ensures.handy told)) in
    on_ok c.write_entry.result
    (quick_thrice p d room.place (length words) c.args.hints.now.cache c.find_place.new.hints.cache c.locate_room.new.hints.cache (g.D.Tape.tape c.args.disk.now) (g.D.Tape.tape c.find_place.new.disk) (g.D.Tape.tape c.locate_room.new.disk) (g.D.Tape.tape c.write_entry.new.disk)
    (words_some p d c.args.name.now c.args.fid c.args.leader_at room words found is) (words_within p d c.args.name.now c.args.fid c.args.leader_at room words found is) c.locate_room.ensures.refused
    (c.in-Ok.ensures.quick told quick) (c.in-Ok-locate_room.ensures.quick told kept) (c.write_entry.ensures.runs told))

-- ---- the exact record writes
pub returns-in-Err-clause-enters : goal.returns-in-Err-clause-enters
returns-in-Err-clause-enters g c told found = unentered (record { silent = c.find_place.ensures.looks.silent told; undone = tt; other = λ memory. c.in-Err.ensures.want told (same_error RoomFound (Unit {0}) c.in-Err.error out_of_memory memory) })

pub returns-in-Err-locate_room-clause-enters : goal.returns-in-Err-locate_room-clause-enters
returns-in-Err-locate_room-clause-enters g c told found =
    let looks = looks_twice 4298440756 c.find_place.ensures.looks c.locate_room.ensures.looks (omega arith) in
    unentered (record { silent = looks.silent told; undone = tt; other = λ memory. c.in-Err-locate_room.ensures.want told (same_error (ℕ × ℕ) (Unit {0}) c.in-Err-locate_room.error out_of_memory memory) })

pub returns-in-Ok-locate_room-clause-enters : goal.returns-in-Ok-locate_room-clause-enters
returns-in-Ok-locate_room-clause-enters g c told stood =
    let p = pack (g.D.Tape.tape c.args.disk.now) in
    let d = c.args.dir.now.fid in
    let f = c.args.fid in
    let name = c.args.name.now in
    let room = c.in-Ok.room in
    let bits = c.locate_room.new.hints.table in
    let found = c.in-Ok.ensures.found told stood in
    let words = take c.put_entry-count.result c.put_entry-count.new.words in
    let is = c.put_entry-count.ensures.words ∙ ap (entered_words f c.args.leader_at name) (c.saturating_sub-left.ensures ∙ ap (λ n. room.words.total - n) c.entry_words.ensures.words) in
    let one = looks_pack c.find_place.ensures.looks told in
    let looks = looks_twice 4298440756 c.find_place.ensures.looks c.locate_room.ensures.looks (omega arith) in
    let few = words_few p d name f c.args.leader_at room words found is in
    let low = room.low in
    let short = take_short c.put_entry-count.result c.put_entry-count.new.words in
    let most = c.put_entry-count.ensures.most in
    let here = subst (λ (q : Pack). Stands q (page_number d (page_of_word room.place)) c.in-Ok-locate_room.at c.locate_room.new.buf) one (c.in-Ok-locate_room.ensures.stands told) in
    let there : IsTrue (has_later room words) → Stands p (page_number d (page_of_word room.place + 1)) c.in-Ok-locate_room.next_at c.locate_room.new.next = λ more.
    subst (λ (q : Pack). Stands q (page_number d (page_of_word room.place + 1)) c.in-Ok-locate_room.next_at c.locate_room.new.next) one (c.in-Ok-locate_room.ensures.stands_next told more (omega (arith, low, few))) in
    words_entered p c.args.dir.now name f c.args.leader_at room words c.in-Ok-locate_room.at c.in-Ok-locate_room.next_at c.locate_room.new.buf c.locate_room.new.next bits c.args.tally.now c.write_entry.new.tally c.write_entry.result stood found is (omega (arith, short, most)) here there
    looks.alone c.write_entry.ensures.alone (looks.silent told) (c.write_entry.ensures.writes (enter d name f) bits told)

-- ---- where it writes
pub returns-in-Err-clause-frame : goal.returns-in-Err-clause-frame
returns-in-Err-clause-frame g c told = writes_silent (IsPageOf c.args.dir.now.fid (pack (g.D.Tape.tape c.args.disk.now))) _ (c.find_place.ensures.looks.silent told)

pub returns-in-Err-locate_room-clause-frame : goal.returns-in-Err-locate_room-clause-frame
returns-in-Err-locate_room-clause-frame g c told =
    let looks = looks_twice 4298440756 c.find_place.ensures.looks c.locate_room.ensures.looks (omega arith) in
    writes_silent (IsPageOf c.args.dir.now.fid (pack (g.D.Tape.tape c.args.disk.now))) _ (looks.silent told)

pub returns-in-Ok-locate_room-clause-frame : goal.returns-in-Ok-locate_room-clause-frame
returns-in-Ok-locate_room-clause-frame g c told =
    let looks = looks_twice 4298440756 c.find_place.ensures.looks c.locate_room.ensures.looks (omega arith) in
    writes_after_look (IsPageOf c.args.dir.now.fid) looks.alone.grown c.write_entry.ensures.alone.grown (looks.silent told) (c.write_entry.ensures.frame told)
