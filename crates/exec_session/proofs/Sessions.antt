-- A session as it begins, and as it goes on after a scavenge, by what opening the pack answers.
use Rattle.std.proofs.Common.{◌≡◌, ℕ, ◌==◌, Bool, true, false, All, List, [], length, map, Option, Some, None, refl, sym, subst, ◌∙◌, ap, arith, eq-eqb}
use Rattle.disk_records.specs.Addresses.{pages_of}
use Rattle.disk_records.specs.Packs.{AreFormed, Pack}
use Rattle.disk_records.specs.declared.shape.Shape.{Shape}
use Rattle.disk_descriptor.specs.Fields.{Fields}
use Rattle.disk_descriptor.specs.Opening.{IsOpened}
use Rattle.hint_cache.specs.Caches.{Cached}
use Rattle.hint_cache.specs.declared.hints.Hints.{Hints}
use Rattle.disk_descriptor.specs.declared.errors.OpenError.{OpenError}
use Rattle.disk_descriptor.specs.declared.errors.OpenError.TheVariants as error
use Rattle.directory.specs.laws_contents.proofs.pages.Laws.{formed_pages_have_256_words}
use Rattle.laws_steps.specs.laws_hint.proofs.truth.Laws.{truth_at_opening}
use Rattle.laws_steps.specs.laws_hint.specs.MapMeanings.{HasEachSector}
use Rattle.directory.specs.laws_lookup.proofs.hints.Laws.{true_hints_never_mislead}
use Rattle.laws_session.proofs.begins.Laws.{fresh_memory_is_kept, sessions_begin, sound_packs_are_ready}
use Rattle.laws_session.proofs.ends.Laws.{sound_packs_begin}
use Rattle.laws_session.proofs.zones.Laws.{fresh_worlds_have_a_memory}
use Rattle.laws_session.specs.laws_zone.proofs.levels.Laws.{bases_are_within}
use Rattle.laws_session.specs.laws_zone.proofs.memories.Laws.{zones_read_back}
use Rattle.laws_session.specs.BeginLaws.{KeepsFresh}
use Rattle.pack_model.specs.hints.Sources.{IsFrom}
use Rattle.pack_model.specs.hints.Truth.{Truthful}
use Rattle.pack_model.specs.states.Sound.{Sound, mark_clean, mark_of}
use Rattle.pack_model.specs.reading.Model.{read_as}
use Rattle.pack_model.specs.reading.Sights.{sights}
use Rattle.page_seeking.specs.Seeking.{all_listed}
use Rattle.session_model.specs.Keeping.{AreApart, Formed, Keeping, OpenFile, StreamFits, StreamFormed, stream_of, world_of}
use Rattle.session_model.specs.Opening.{Begun, Renewed, Unready, goes_on, not_clean, unless_so, unready}
use Rattle.session_model.specs.Streams.{Stream}
use Rattle.session_model.specs.Turning.{State}
use Rattle.session_model.specs.Worlds.{fresh_world, memory_words, mended_world}
use Rattle.laws_steps.specs.world_model.specs.Levels.{IsAtLevel, all_levels, level_base}
use Rattle.exec_session.specs.Meant.{kept}
use Rattle.exec_session.specs.Opens.{IsFresh, Mended, Refuses, RenewsNot}
use Rattle.exec_session.specs.declared.session.Session.{Session}
use Rattle.exec_session.specs.declared.streams.SessionStreams.{SessionStreams}
use Rattle.world_swap.specs.Fresh.{fresh_memory}
use Rattle.world_swap.specs.declared.world.World.{World}

-- ---- the memory
memory_at_level : (words : List ℕ) → words ≡ memory_words (fresh_world 0) → IsAtLevel all_levels words
memory_at_level words is =
    let w = fresh_world 0 in
    let has = fresh_worlds_have_a_memory 0 in
    subst (IsAtLevel all_levels) (sym is)
    (record { least = has.least; most = has.most; memory_is = (zones_read_back (level_base w.level) w.user w.zone (bases_are_within w.level) has.user has.fills).memory_is })

-- ---- streams
-- of no open stream all is true
none_open : (os : List OpenFile) → os ≡ [] → (P : OpenFile → Type 0) → All P os
none_open os none P = let empty : length os ≡ 0 = ap length none in λ i d less. absurd (omega (arith, less, empty))

-- ---- what is fresh
-- made of what opening answered, with a fresh world
abbrev pub begun_of : Fields → Hints → World → SessionStreams → ℕ → ℕ → Session
begun_of descriptor hints world streams moment limit = record { descriptor = descriptor; hints = hints; tally = record { limit = limit; passed = 0; all = 0 }; moment = moment; world = world; streams = streams; need = false }

-- What is fresh of a session.
pub record IsMade (moment limit : ℕ) (s : Session) : Type 0 where
  pub memory : s.world.memory ≡ memory_words (fresh_world 0)
  pub moment_is : s.moment ≡ moment
  pub level : s.world.level ≡ all_levels
  pub need : s.need ≡ false
  pub limit_is : s.tally ≡ record { limit = limit; passed = 0; all = 0 }

pub is_made : (descriptor : Fields) (hints : Hints) (world : World) (streams : SessionStreams) (moment limit : ℕ) → world.memory ≡ fresh_memory → world.level ≡ all_levels → IsMade moment limit (begun_of descriptor hints world streams moment limit)
is_made descriptor hints world streams moment limit memory level = record { memory = memory; moment_is = refl; level = level; need = refl; limit_is = refl }

module _ (moment limit : ℕ) (s : Session) (made : IsMade moment limit s) where
  keeps : KeepsFresh (kept s) moment
  keeps = record { moment = made.moment_is; level = made.level; memory = made.memory; streams = s.streams.unopened; need = made.need }

  pub is_fresh : s.descriptor.mark ≡ mark_clean → IsFresh moment limit (kept s)
  is_fresh clean = record { world = fresh_memory_is_kept (kept s) moment keeps; tally = made.limit_is; clean = clean }

  pub is_formed : (form : Shape) → s.descriptor.shape ≡ form → length s.hints.table ≡ pages_of form → Formed form (kept s)
  is_formed form shape bits = record {
    shape = sym shape;
    bits = bits;
    memory = rw made.level (memory_at_level s.world.memory made.memory);
    streams = none_open s.streams.slots s.streams.unopened StreamFormed;
    apart = subst (λ ss. AreApart (map stream_of ss)) (sym s.streams.unopened) tt;
  }

  -- with what DiskDescriptor says it has begun
  pub is_begun : (p : Pack) → HasEachSector p → Sound p → IsOpened p s.descriptor s.hints.table → Begun p (kept s) moment limit
  is_begun p sectors sound opened = record {
    keeping = sessions_begin p (kept s) moment sound keeps opened.fits;
    tally = made.limit_is;
    truthful = λ hints. subst (Truthful p) (sym opened.table) (truth_at_opening p sound.whole sectors hints);
  }

-- ---- on a pack that a scavenge has left
module _ (p : Pack) (mended : Mended p) where
  mended_ready : unready p ≡ None
  mended_ready =
      let clean : (mark_of (sights p) == mark_clean) ≡ true = eq-eqb (mark_of (sights p)) mark_clean mended.clean.mark in
      sound_packs_are_ready p mended.sound ∙ ap (λ b. unless_so b (not_clean (mark_of (sights p)))) clean

  none_refused : {X : Type 0} (u : Unready) → unready p ≡ Some u → X
  none_refused u is = absurd (let both : ◌≡◌ {A = Option Unready} None (Some u) = sym mended_ready ∙ is in cc)

  pub renews_not : AreFormed p → (e : OpenError) → Refuses p e → RenewsNot e
  renews_not formed (error.NoRoot found) h = none_refused _ h
  renews_not formed error.NoDescriptor h = none_refused _ h
  renews_not formed (error.Misled place at wanted found) h =
      true_hints_never_mislead p place at wanted mended.sound.whole mended.sound.tidy (λ i page e. formed_pages_have_256_words p i page formed e) mended.hints.links h.failing.on_disk h.failing.misled.misled
  renews_not formed (error.WrongLength size) h = none_refused _ h
  renews_not formed (error.BadDescriptor w found) h = none_refused _ h
  renews_not formed (error.NotClean mark) h = none_refused _ h
  renews_not formed error.DiskFault h = tt
  renews_not formed error.Memory h = tt

-- ---- the session that goes on: without addresses, and with what DiskDescriptor says
abbrev pub renewed_of : Session → Fields → Cached → List Bool → Session
renewed_of one descriptor cache table = record one { descriptor = descriptor; hints = record { cache = cache; table = table }; need = false }

module _ (one two : Session) (same : two ≡ renewed_of one two.descriptor (record { entries = []; refused = 0 }) two.hints.table) where
  world_same : world_of (kept two) ≡ mended_world (world_of (kept one))
  world_same = ap (λ (z : Session). world_of (kept z)) same

  no_stream : (P : Stream → Type 0) (l : List Stream) → l ≡ [] → All P l
  no_stream P l none = let empty : length l ≡ 0 = ap length none in λ i d less. absurd (omega (arith, less, empty))

  keeps_on : (p : Pack) → Mended p → IsOpened p two.descriptor two.hints.table → (s : State) → s.world ≡ world_of (kept one) → s.world.streams ≡ [] → Keeping p (kept two) (goes_on p s)
  keeps_on p mended opened s is none = record {
    begins = refl;
    world = ap mended_world is ∙ sym world_same;
    stands = record { sound = λ need. mended.sound; reads = λ need. refl };
    cut = (sound_packs_begin p 0 mended.sound).1;
    descriptor = λ need. opened.fits;
    fits = no_stream (StreamFits (read_as p)) s.world.streams none;
    refs = none_open two.streams.slots two.streams.unopened (λ o. IsFrom p o.ref.fid o.ref.leader_at o.ref.place);
  }

  pub is_renewed : (p : Pack) → Mended p → HasEachSector p → IsOpened p two.descriptor two.hints.table → Renewed p (kept one) (kept two)
  is_renewed p mended sectors opened = record {
    keeping = keeps_on p mended opened;
    tally = ap (λ (z : Session). z.tally) same;
    truthful = subst (Truthful p) (sym opened.table) (truth_at_opening p mended.sound.whole sectors mended.hints);
    cache = ap (λ (z : Session). all_listed z.hints.cache) same;
  }
