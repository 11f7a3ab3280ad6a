use Rattle.std.proofs.Common.{◌≡◌, ◌⊎◌, ℕ, Bool, IsTrue, ◌+◌, ◌-◌, ◌*◌, ◌<◌, ◌≤◌, length, inl, inr, refl, subst, sym, ap, ◌∙◌, arith}
use Rattle.alto_words.specs.declared.fid.Fid.{Fid}
use Rattle.disk_records.specs.declared.records.Sector.{Sector}
use Rattle.disk_records.specs.Packs.{Pack, sector_at}
use Rattle.disk_records.specs.Tapes.{Taped, pack}
use Rattle.disk_records.proofs.Looking.{looks_pack}
use Rattle.hint_cache.specs.Caches.{Cached}
use Rattle.laws_contents.specs.PageLaws.{FullBefore}
use Rattle.pack_model.specs.operations.Committing.{page_of_byte}
use Rattle.pack_model.specs.reading.Files.{file_bytes}
use Rattle.pack_model.specs.reading.Sights.{sights}
use Rattle.pack_model.specs.states.Sentences.{EachOnce}
use Rattle.page_seeking.specs.declared.links.Below.{Below}
use Rattle.page_seeking.specs.declared.seek.Found.{Found}
use Rattle.page_seeking.specs.Parts.{IsListed, IsReadTo}
use Rattle.page_seeking.specs.Seeking.{Refused, page_number}
use Rattle.page_seeking.specs.Inside.{Confirmed, KeepsRecent, Known, LastListed, Stops, StopsAt}
use Rattle.page_seeking.proofs.Ending.{same_or_less}
use Rattle.page_seeking.proofs.Once.{full_before_next}
use Rattle.page_seeking.proofs.Parting.{few_bytes, page_bytes, put_all, read_ended, read_length, read_more, read_whole}
use Rattle.page_seeking.proofs.Recent.{kept_here, listed_before}
use Rattle.page_seeking.proofs.Seeking.{confirmed_before, known_before, known_of, sought_here, sought_more, sought_twice}
use Rattle.page_seeking.proofs.read.read_on.Goals as goal

pub returns-then-done-out-clause-read : goal.returns-then-done-out-clause-read
returns-then-done-out-clause-read g c first told once before known x =
    let bytes = file_bytes (sights (pack (g.D.Tape.tape c.args.disk.now))) c.args.fid in
    let mine = c.loop-number.invariant.read first told once before known x in
    read_whole bytes first c.loop-number.out c.args.offset c.loop-number.done mine (inl (c.if-done-out.true ∙ read_length bytes first c.loop-number.out c.args.offset c.loop-number.done mine))

pub returns-then-here-ne-PAGE_BYTES-clause-read : goal.returns-then-here-ne-PAGE_BYTES-clause-read
returns-then-here-ne-PAGE_BYTES-clause-read g c first told once before known x =
    let inv = c.loop-number.invariant in
    let start = c.requires.data in
    let from = c.loop-number.auto.number in
    read_ended c.args.offset c.loop-number.done first c.loop-number.out once (inv.before told once before known) told (omega (arith, start, from)) (inv.known told known) (inv.read first told once before known x) inv.placed (inl c.if-here-ne-PAGE_BYTES.true)

pub returns-clause-read : goal.returns-clause-read
returns-clause-read g c first told once before known x =
    let inv = c.loop-number.invariant in
    let start = c.requires.data in
    let end = c.loop-number.auto.number-end (omega arith) in
    let from = c.loop-number.auto.number in
    read_ended c.args.offset c.loop-number.done first c.loop-number.out once (inv.before told once before known) told (omega (arith, start, from)) (inv.known told known) (inv.read first told once before known x) inv.placed (inr (omega (arith, end)))

-- where reading ended
stopped : {told : Bool} {old : Taped} {f : Fid} {below : Below} {number : ℕ} {end : ℕ} {here : Found} {buffer : Sector} {before now : Cached} → below.number ≤ number → 1 ≤ below.number → 512 * (number - 1) ≤ end → end ≤ 512 * (number - 1) + here.info.bytes
    → (number ≡ below.number → (here ≡ below.found) × (now ≡ before)) → (below.number < number → Confirmed told (page_number f number) old before now buffer here) → StopsAt below end before now ⊎ Stops told old f end before now
stopped {below = below} {number} {end} {here} {buffer} from least low upto start found = elim (same_or_less below.number number from) [
  | inl same ↦
      let bytes = ap (λ (x : Found). x.info.bytes) (start same).0 in
      inl (record { from = omega (arith, low, same); upto = omega (arith, upto, same, bytes); cache_is = (start same).1 })
  | inr more ↦ inr (record { number = number; here = here; buffer = buffer; first = omega (arith, least, more); from = low; upto = upto; confirmed = found more })
]

-- and how many sector commands it took if there was no more room
spent : (below number old now offset done room : ℕ) → below ≤ number → 512 * (below - 1) ≤ offset → 1 ≤ done → done ≡ room → now ≤ old + (number - below) → (below < number → done ≡ room → 512 * (number - 1) < offset + done) → now + below ≤ old + page_of_byte (offset + done - 1)
spent below number old now offset done room from low some all runs reached = elim (same_or_less below number from) [
  | inl same ↦ omega (arith, same, low, some, runs)
  | inr more ↦ let last = reached more all in omega (arith, more, last, runs)
]

-- and where the last byte is
listed_last : {told : Bool} {old : Taped} {f : Fid} {number bytes : ℕ} {here : Found} {buffer : Sector} {before now : Cached} (below : Below) (end : ℕ) → below.number ≤ number → (number ≡ below.number → (here ≡ below.found) × (now ≡ before))
    → (below.number < number → Confirmed told (page_number f number) old before now buffer here) → (page_of_byte (end - 1) ≡ number) ⊎ ((bytes ≡ 0) × LastListed told old f below end before now) → LastListed told old f below end before now
listed_last below end from start found (inr done) = done.1
listed_last {told} {old} {f} {number} {here = here} {before = before} {now} below end from start found (inl is) = elim (same_or_less below.number number from) [
  | inl same ↦ inl (is ∙ same, subst (λ (x : Cached). KeepsRecent (page_number f below.number) before x) (sym (start same).1) (kept_here (page_number f below.number) before))
  | inr more ↦
      let x = found more in
      inr (subst (λ n. IsListed told (pack old) (page_number f n) now ⊎ Refused before now) (sym is) (elim (x.lists.here) [
        | inl there ↦ inl (record { at = here.at; listed = there; carries = λ told. (x.stands told).carries })
        | inr rose ↦ inr rose
      ]))
]

-- an empty page more leaves it listed
empty_after : {told : Bool} {old : Taped} {f : Fid} {number : ℕ} {here : Found} {buffer : Sector} {before now : Cached} (below : Below) (end : ℕ) (later : Cached) → below.number ≤ number → now.refused ≤ later.refused → before.refused ≤ now.refused
    → (number ≡ below.number → (here ≡ below.found) × (now ≡ before)) → (below.number < number → Confirmed told (page_number f number) old before now buffer here) → page_of_byte (end - 1) ≡ number → KeepsRecent (page_number f number) now later
    → LastListed told old f below end before later
empty_after {told} {old} {f} {number} {here} {buffer} {before} {now} below end later from more less start found is keeps = elim (same_or_less below.number number from) [
  | inl same ↦
      let there = subst (λ n. KeepsRecent (page_number f n) now later) same keeps in
      inl (is ∙ same, subst (λ (x : Cached). KeepsRecent (page_number f below.number) x later) (start same).1 there)
  | inr further ↦
      let x = found further in
      inr (subst (λ n. IsListed told (pack old) (page_number f n) later ⊎ Refused before later) (sym is) (elim (listed_before (page_number f number) here.at before now later less more x.recent keeps) [
        | inl there ↦ inl (record { at = here.at; listed = there; carries = λ told. (x.stands told).carries })
        | inr rose ↦ inr rose
      ]))
]

pub loop-number-init : goal.loop-number-init
loop-number-init g c =
    record {
      low = c.requires.low;
      most = c.requires.most;
      placed = c.requires.placed;
      upto = c.requires.upto;
      sized = refl;
      start = λ is. (refl, refl);
      last = λ low few some. let upto = c.requires.upto in let first = c.requires.data in inl (omega (arith, low, few, some, upto, first));
      found = λ less. absurd (omega (arith, less));
      reached = λ less. absurd (omega (arith, less));
      unfailed = refl;
      sought = sought_more (omega arith) (sought_here (g.D.Tape.tape c.args.disk.now) c.args.cache.now);
      known = λ told k. k;
      before = λ told once b k. b;
      read = λ first told once b k x. x;
    }

pub returns-then-done-out-clause-stops : goal.returns-then-done-out-clause-stops
returns-then-done-out-clause-stops g c = let inv = c.loop-number.invariant in stopped c.loop-number.auto.number c.requires.data inv.low inv.upto inv.start inv.found

pub returns-then-here-ne-PAGE_BYTES-clause-stops : goal.returns-then-here-ne-PAGE_BYTES-clause-stops
returns-then-here-ne-PAGE_BYTES-clause-stops g c = let inv = c.loop-number.invariant in stopped c.loop-number.auto.number c.requires.data inv.low inv.upto inv.start inv.found

pub returns-clause-stops : goal.returns-clause-stops
returns-clause-stops g c = let inv = c.loop-number.invariant in stopped c.loop-number.auto.number c.requires.data inv.low inv.upto inv.start inv.found

pub returns-then-done-out-clause-filled : goal.returns-then-done-out-clause-filled
returns-then-done-out-clause-filled g c told low some all =
    let inv = c.loop-number.invariant in
    spent c.args.below.number c.loop-number.number _ _ c.args.offset c.loop-number.done (length c.loop-number.out) c.loop-number.auto.number low some (all ∙ sym inv.sized) (inv.sought.looks.runs told) inv.reached

pub returns-then-here-ne-PAGE_BYTES-clause-filled : goal.returns-then-here-ne-PAGE_BYTES-clause-filled
returns-then-here-ne-PAGE_BYTES-clause-filled g c told low some all =
    let inv = c.loop-number.invariant in
    spent c.args.below.number c.loop-number.number _ _ c.args.offset c.loop-number.done (length c.loop-number.out) c.loop-number.auto.number low some (all ∙ sym inv.sized) (inv.sought.looks.runs told) inv.reached

pub returns-clause-filled : goal.returns-clause-filled
returns-clause-filled g c told low some all =
    let inv = c.loop-number.invariant in
    spent c.args.below.number c.loop-number.number _ _ c.args.offset c.loop-number.done (length c.loop-number.out) c.loop-number.auto.number low some (all ∙ sym inv.sized) (inv.sought.looks.runs told) inv.reached

pub returns-then-done-out-clause-last : goal.returns-then-done-out-clause-last
returns-then-done-out-clause-last g c low few some = let inv = c.loop-number.invariant in listed_last c.args.below (c.args.offset + c.loop-number.done) c.loop-number.auto.number inv.start inv.found (inv.last low few some)

pub returns-then-here-ne-PAGE_BYTES-clause-last : goal.returns-then-here-ne-PAGE_BYTES-clause-last
returns-then-here-ne-PAGE_BYTES-clause-last g c low few some = let inv = c.loop-number.invariant in listed_last c.args.below (c.args.offset + c.loop-number.done) c.loop-number.auto.number inv.start inv.found (inv.last low few some)

pub returns-clause-last : goal.returns-clause-last
returns-clause-last g c low few some = let inv = c.loop-number.invariant in listed_last c.args.below (c.args.offset + c.loop-number.done) c.loop-number.auto.number inv.start inv.found (inv.last low few some)

pub returns-in-Err-clause-sought : goal.returns-in-Err-clause-sought
returns-in-Err-clause-sought g c = sought_more (omega arith) (sought_twice c.loop-number.invariant.sought c.follow.ensures.sought)

pub put_part-done-requires-clause-page : goal.put_part-done-requires-clause-page
put_part-done-requires-clause-page g c = let few = few_bytes c.in-Ok.ensures.found.seen in omega (arith, c.from.ensures, few)

pub loop-number-preserved : goal.loop-number-preserved
loop-number-preserved g c =
    let inv = c.loop-number.invariant in
    let next = c.in-Ok.ensures in
    let old = pack (g.D.Tape.tape c.args.disk.now) in
    let bytes = file_bytes (sights old) c.args.fid in
    let start = c.requires.data in
    let from = c.loop-number.auto.number in
    let done = c.loop-number.done in
    let count = c.put_part-done.result in
    let number = c.loop-number.number in
    let full = c.if-here-ne-PAGE_BYTES.false in
    let there : c.args.offset + done ≡ 512 * (number + 1 - 1) + 0 = elim inv.placed [ inl all ↦ absurd (c.if-done-out.false all) | inr is ↦ omega (arith, is, full, start, from) ] in
    let size = c.put_part-done.auto.out in
    let many = c.put_part-done.ensures.count in
    let most = inv.most in
    let all = put_all done count (length c.loop-number.out) c.from.result (omega (arith, many)) most in
    let word = c.from.ensures in
    let same : number ≡ number + 1 - 1 = omega arith in
    let before : IsTrue g.D.Tape.told → EachOnce (sights old) → FullBefore old c.args.fid (c.args.below.number - 1) → Known g.D.Tape.told old (g.D.Tape.tape c.args.disk.now).form (page_number c.args.fid c.args.below.number) c.args.below.found → FullBefore old c.args.fid (number + 1 - 1)
    = λ told once b k. subst (FullBefore old c.args.fid) same (full_before_next once told (omega (arith, start, from)) (inv.known told k) full (inv.before told once b k)) in
    record {
      low = omega (arith, there);
      most = omega (arith, many, most, size);
      placed = elim all [ inl room ↦ inl (omega (arith, room, size)) | inr each ↦ inr (omega (arith, each, there, word)) ];
      upto = omega (arith, many, there, word);
      sized = let before = inv.sized in omega (arith, size, before);
      start = λ is. absurd (omega (arith, is, from));
      found = λ less. confirmed_before inv.sought.looks inv.sought.refused next.found;
      reached = λ less is. let room = c.if-done-out.false in omega (arith, is, size, there, room);
      last = λ low few some.
          let room = c.if-done-out.false in
          elim (same_or_less 0 count (omega arith)) [
            | inr bytes ↦ inl (omega (arith, bytes, there, many, word, few_bytes next.found.seen))
            | inl none ↦
                let was : 1 ≤ done = omega (arith, some, none) in
                let end : c.args.offset + (done + count) ≡ c.args.offset + done = omega (arith, none) in
                let empty : c.in-Ok.found.info.bytes ≡ 0 = omega (arith, none, many, word, room, most) in
                let mine : page_of_byte (c.args.offset + done - 1) ≡ number = elim (inv.last low few was) [ inl is ↦ is | inr ended ↦ let gone = ended.0 in absurd (omega (arith, gone, full)) ] in
                let kept = empty_after c.args.below (c.args.offset + done) c.follow.new.cache from c.follow.ensures.sought.refused inv.sought.refused inv.start inv.found mine c.in-Ok.ensures.keeps in
                inr (empty, subst (λ e. LastListed g.D.Tape.told (g.D.Tape.tape c.args.disk.now) c.args.fid c.args.below e c.args.cache.now c.follow.new.cache) (sym end) kept)
          ];
      unfailed = c.in-Ok.ensures.cause ∙ c.loop-number.invariant.unfailed;
      sought = sought_more (omega arith) (sought_twice inv.sought c.follow.ensures.sought);
      known = λ told k. known_before inv.sought.looks (known_of next.found);
      before = before;
      read = λ first told once b k x.
          let mine = inv.read first told once b k x in
          let known = known_before inv.sought.looks (known_of next.found) in
          let holds : c.follow.new.buf ≡ sector_at old c.in-Ok.found.at = (next.found.stands told).holds ∙ ap (λ (p : Pack). sector_at p c.in-Ok.found.at) (looks_pack inv.sought.looks told) in
          let part = page_bytes (c.args.offset + done) 0 count once (before told once b k) told (omega arith) known holds there (omega arith) (omega (arith, many, word)) in
          let long = read_length bytes first c.loop-number.out c.args.offset done mine in
          subst (IsReadTo bytes c.args.offset (done + count) first) (sym c.put_part-done.ensures.put) (read_more bytes first c.loop-number.out _ c.args.offset done count mine part.0 part.1 (omega (arith, many, most, long)));
    }
