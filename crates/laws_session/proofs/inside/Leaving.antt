-- What lines leave of a world's memory: it is one of its level, whatever they are refused for.
use Rattle.std.proofs.Common.{◌≡◌, ℕ, Bool, true, false, cond, List, [], Option, Some, None, refl, ◌∙◌, length, set, arith}
use Rattle.std.proofs.lemmas.Bool.{leb-true}
use Rattle.std.proofs.lemmas.List.{length-set}
use Rattle.std.specs.Option.{unwrap_or}
use Rattle.std.specs.Prelude.{nat_le}
use Rattle.laws_line.specs.pack_model.specs.reading.Model.{Model}
use Rattle.session_model.specs.exec_words.specs.declared.line.Line.{Line}
use Rattle.session_model.specs.exec_words.specs.declared.line.Line.TheVariants as line
use Rattle.session_model.specs.exec_words.specs.declared.line.Target.TheVariants.{ByPath}
use Rattle.session_model.specs.exec_words.specs.declared.reply.Refusal.{Refusal}
use Rattle.session_model.specs.exec_words.specs.declared.reply.Refusal.TheVariants as refusal_is
use Rattle.session_model.specs.exec_words.specs.Typed.{is_typed_path}
use Rattle.session_model.specs.world_model.specs.Levels.{level_base, used_by_levels}
use Rattle.session_model.specs.world_model.specs.Zones.{Block, Taken, given_back, size_for, taken, zone_set}
use Rattle.session_model.specs.world_model.specs.ZoneWords.{zone_start}
use Rattle.session_model.specs.Effects.{block_effect, effect}
use Rattle.session_model.specs.Finding.{file_at, the_file}
use Rattle.session_model.specs.Refusals.{dir_at, no_world, when_missing}
use Rattle.session_model.specs.Replies.{refusal, unless_refused}
use Rattle.session_model.specs.Streams.{Stream, bytes_in}
use Rattle.session_model.specs.Worlds.{World, with_word, world_with_zone}
use Rattle.laws_zone.specs.Filling.{FillZone}
use Rattle.laws_zone.proofs.blocks.Laws.{given_back_fills_the_zone, taken_fills_the_zone, word_fills_the_zone}
use Rattle.laws_zone.proofs.levels.Laws.{counter_junta_fills_the_zone, junta_fills_the_zone}
use Rattle.laws_session.specs.ZoneLaws.{HasMemory, LinesLeaveAMemory}
use Rattle.laws_session.proofs.inside.Loading.{both_hold, loaded_worlds_have_a_memory, no_image}
use Rattle.laws_session.proofs.inside.OneFile.{is_found, of_found}
use Rattle.laws_session.proofs.inside.Passing.{neither, passes}

-- ---- the memory stays
other_rest : (w : World) (moment : ℕ) (streams : List Stream) → HasMemory w → HasMemory (record w { moment = moment; streams = streams })
other_rest w moment streams h = record { least = h.least; most = h.most; user = h.user; fills = h.fills }

-- ---- the zone is another
other_zone : (w : World) (zone : List Block) → HasMemory w → FillZone (level_base w.level) zone → HasMemory (world_with_zone w zone)
other_zone w zone h fills = record { least = h.least; most = h.most; user = h.user; fills = fills }

blocked : (w : World) (n : ℕ) → HasMemory w → HasMemory (block_effect w (taken zone_start (size_for n) w.zone)).world
blocked w n h = by (taken zone_start (size_for n) w.zone) refl
  where
    by : (t : Option Taken) → taken zone_start (size_for n) w.zone ≡ t → HasMemory (block_effect w t).world
    by None is = h
    by (Some t) is = other_zone w t.blocks h (taken_fills_the_zone (level_base w.level) n w.zone t h.fills is)

unblocked : (w : World) (at : ℕ) → HasMemory w → when_missing (given_back zone_start at w.zone) refusal_is.NotABlock ≡ None → HasMemory (world_with_zone w (unwrap_or (given_back zone_start at w.zone) []))
unblocked w at h none = by (given_back zone_start at w.zone) refl none
  where
    by : (o : Option (List Block)) → given_back zone_start at w.zone ≡ o → when_missing o refusal_is.NotABlock ≡ None → HasMemory (world_with_zone w (unwrap_or o []))
    by None is k = absurd cc
    by (Some left) is k = other_zone w left h (given_back_fills_the_zone (level_base w.level) at w.zone left h.fills is)

stored : (w : World) (at word : ℕ) → HasMemory w → HasMemory (with_word w at word)
stored w at word h = by (nat_le zone_start at)
  where
    by : (b : Bool) → HasMemory (cond b (world_with_zone w (zone_set zone_start at word w.zone)) (record w { user = set w.user at word }))
    by true = other_zone w (zone_set zone_start at word w.zone) h (word_fills_the_zone (level_base w.level) at word w.zone h.fills)
    by false = record { least = h.least; most = h.most; user = length-set w.user at word ∙ h.user; fills = h.fills }

-- ---- each line that isn't refused
left_by : (l : Line) (m : Model) (w : World) → HasMemory w → refusal l m w ≡ None → HasMemory (effect l m w).world
left_by (line.ListNames dir) m w h none = h
left_by (line.TypeOut file) m w h none = h
left_by (line.Stat file) m w h none = h
left_by (line.Make path) m w h none = h
left_by (line.Append file bytes) m w h none = h
left_by (line.Patch file offset bytes) m w h none = h
left_by (line.Cut file n) m w h none = h
left_by (line.Copy file path) m w h none = h
left_by (line.Rename old new) m w h none = h
left_by (line.Delete path) m w h none = h
left_by (line.MakeDir name) m w h none = h
left_by (line.RemoveDir name) m w h none = h
left_by line.Free m w h none = h
left_by (line.SetTime moment) m w h none = other_rest w moment w.streams h
left_by (line.OpenStream file) m w h none = other_rest w w.moment _ h
left_by (line.Get stream count) m w h none = other_rest w w.moment _ h
left_by (line.PutBytes stream bytes) m w h none = other_rest w w.moment _ h
left_by (line.Seek stream to) m w h none = other_rest w w.moment _ h
left_by (line.Close stream) m w h none = other_rest w w.moment _ h
left_by (line.Store at word) m w h none = stored w at word h
left_by (line.Fetch at) m w h none = h
left_by (line.Block n) m w h none = blocked w n h
left_by (line.Unblock at) m w h none = unblocked w at h (passes (line.Unblock at) m w none).memory
left_by (line.Junta level) m w h none =
    let bounds = both_hold (nat_le 1 level) (nat_le level 8) (passes (line.Junta level) m w none).typed in
    let some = leb-true 1 level bounds.0 in
    let least = h.least in
    let most = h.most in
    record { least = omega (arith, some, least); most = omega (arith, most); user = h.user; fills = junta_fills_the_zone w.level level w.zone most h.fills }
left_by line.CounterJunta m w h none =
    let unused = no_image refusal_is.InUse (used_by_levels w.zone) (passes line.CounterJunta m w none).memory in
    record { least = omega arith; most = omega arith; user = h.user; fills = counter_junta_fills_the_zone w.level w.zone h.most unused h.fills }
left_by (line.OutLoad path) m w h none = h
left_by (line.InLoad path message) m w h none =
    let t = passes (line.InLoad path message) m w none in
    let bounds = both_hold (is_typed_path path) (nat_le (length message) 40) t.typed in
    let missing = neither (when_missing (dir_at m (ByPath path)) refusal_is.NoSuchName) (when_missing (file_at m (ByPath path)) refusal_is.NoSuchName) t.there.0 in
    let found = is_found (file_at m (ByPath path)) refusal_is.NoSuchName missing.1 in
    let whole = of_found (file_at m (ByPath path)) (λ f. no_world (bytes_in m f)) (the_file m (ByPath path)) found t.worlds in
    loaded_worlds_have_a_memory w (bytes_in m (the_file m (ByPath path))) message whole (leb-true (length message) 40 bounds.1)
left_by line.Scavenge m w h none = h
left_by line.Quit m w h none = other_rest w w.moment [] h
left_by line.Bad m w h none = h

pub lines_leave_a_memory : LinesLeaveAMemory
lines_leave_a_memory l m w h = by (refusal l m w) refl
  where
    by : (r : Option Refusal) → refusal l m w ≡ r → HasMemory (unless_refused r (effect l m w).world w)
    by None is = left_by l m w h is
    by (Some r) is = h
