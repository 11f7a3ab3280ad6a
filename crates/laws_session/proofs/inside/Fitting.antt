-- What lines that aren't refused leave of open streams: each begins within its file still, and has it alone.
use Rattle.std.proofs.Common.{◌≡◌, ◌≤◌, ℕ, ◌+◌, Bool, true, false, cond, nat_le, nat_lt, All, List, [], ◌∷◌, ◌++◌, Option, Some, None, max, length, set, refl, sym, subst, ◌∙◌, ap, arith}
use Rattle.std.proofs.lemmas.Bool.{lt-ltb, ltb-false}
use Rattle.std.proofs.lemmas.List.Elements.{All-map}
use Rattle.laws_line.specs.alto_words.specs.declared.fid.Fid.{Fid}
use Rattle.laws_line.specs.alto_words.specs.Fid.{is_fid, sys_dir}
use Rattle.laws_line.specs.disk_records.specs.Packs.{Pack}
use Rattle.laws_line.specs.pack_model.specs.operations.Committing.{length_of}
use Rattle.laws_line.specs.pack_model.specs.operations.Step.{Operation}
use Rattle.laws_line.specs.pack_model.specs.operations.Step.Operation.{drop_file}
use Rattle.laws_line.specs.pack_model.specs.reading.Files.{lives}
use Rattle.laws_line.specs.pack_model.specs.reading.Model.{Model, read_as}
use Rattle.laws_line.specs.pack_model.specs.reading.Sights.{sights}
use Rattle.laws_line.specs.pack_model.specs.states.Sound.{Sound}
use Rattle.laws_line.specs.laws_operation.specs.ByteLaws.{IsOrdinary}
use Rattle.laws_line.specs.Ready.{steps_of}
use Rattle.session_model.specs.exec_words.specs.declared.line.Line.{Line}
use Rattle.session_model.specs.exec_words.specs.declared.line.Line.TheVariants as line
use Rattle.session_model.specs.exec_words.specs.declared.line.Target.{Target}
use Rattle.session_model.specs.exec_words.specs.declared.line.Target.TheVariants.{ByPath}
use Rattle.session_model.specs.exec_words.specs.declared.reply.Refusal.{Refusal}
use Rattle.session_model.specs.exec_words.specs.declared.reply.Refusal.TheVariants as refusal_is
use Rattle.session_model.specs.world_model.specs.Zones.{Taken, size_for, taken, zone_set}
use Rattle.session_model.specs.world_model.specs.ZoneWords.{zone_start}
use Rattle.session_model.specs.Effects.{appended_ops, block_effect, copied_ops, cut_ops, effect, listed_dir, new_file_ops, next_directory, next_file, rename_ops}
use Rattle.session_model.specs.Finding.{file_at, name_given, the_dir, the_file}
use Rattle.session_model.specs.Keeping.{AreApart, StreamFormed, stream_of}
use Rattle.session_model.specs.Refusals.{is_streamed, when_beyond, when_found, when_missing}
use Rattle.session_model.specs.Replies.{refusal, unless_refused}
use Rattle.session_model.specs.Streams.{Stream, appended_stream, bytes_in, close_ops, flush_ops, flushed_at, free_number, full_bytes, new_stream, next_bytes, pending_from, put_ops, put_stream, puts, stream_at, stream_length, with_stream, without_stream}
use Rattle.session_model.specs.Worlds.{World, the_stream, world_with_zone}
use Rattle.laws_session.specs.StreamLaws.{KeptStreamsStand, StreamsStand, StreamsStayFit}
use Rattle.laws_session.specs.UnrefusedLaws.{IsUnrefused}
use Rattle.laws_session.proofs.inside.Flushing.{is_open, of_close, of_puts, of_written}
use Rattle.laws_session.proofs.inside.Holding.{SpareAll, holds_length, read_holds}
use Rattle.laws_session.proofs.inside.Newcomers.{below_most, directory_back, is_next, next_ordinary, not_in_model}
use Rattle.laws_session.proofs.inside.Numbered.{each_to, found_is, has_number, new_one, without_it}
use Rattle.laws_session.proofs.inside.OneFile.{remove_dir_may_begin, there}
use Rattle.laws_session.proofs.inside.Passing.{passes, when_not}
use Rattle.laws_session.proofs.inside.Sparing.{spare_both, spare_of, spare_appended, spare_cut, spare_new, spare_copied, spare_rename}
use Rattle.laws_session.proofs.inside.Streaming.{Begins, Stand, stand_of, of_stand, stand_still, unstreamed, new_to_all, no_directories, spare_each, begins_other, replaced, flushed_begins, got_within, put_begins}

-- ---- the stream that a line names
-- what is so of one that is open
open_one : (m : Model) (w : World) (n : ℕ) → when_missing (stream_at n w.streams) refusal_is.NoStream ≡ None → Stand m w.streams → Begins m (the_stream n w)
open_one m w n e h = found_is (Begins m) n w.streams (the_stream n w) (is_open (stream_at n w.streams) (new_stream n sys_dir) e) h.each

flushed_stand : (m : Model) (w : World) (n to : ℕ) (e : when_missing (stream_at n w.streams) refusal_is.NoStream ≡ None) (h : Stand m w.streams)
    → to ≤ max (open_one m w n e h).size (max (the_stream n w).position (pending_from (the_stream n w) + length (the_stream n w).pending))
    → Stand (steps_of m (flush_ops m (the_stream n w))) (with_stream (flushed_at to (the_stream n w)) w.streams)
flushed_stand m w n to e h most =
    let s : Stream = the_stream n w in
    replaced m n s (flushed_at to s) (flush_ops m s) w.streams (is_open (stream_at n w.streams) (new_stream n sys_dir) e) refl refl (of_written m s (length s.pending)) (flushed_begins m s to (open_one m w n e h) most) h

sought_within : (m : Model) (w : World) (n to : ℕ) (b : Begins m (the_stream n w)) → stream_at n w.streams ≡ Some (the_stream n w) → when_found (stream_at n w.streams) (λ s. when_beyond (stream_length m s) to) ≡ None
    → to ≤ max b.size (max (the_stream n w).position (pending_from (the_stream n w) + length (the_stream n w).pending))
sought_within m w n to b is e =
    let s : Stream = the_stream n w in
    let long = holds_length m s.fid b.size b.holds in
    let least = ltb-false (stream_length m s) to (when_not (nat_lt (stream_length m s) to) (refusal_is.Beyond (stream_length m s)) (sym (ap (λ r. when_found r (λ t. when_beyond (stream_length m t) to)) is) ∙ e)) in
    omega (arith, long, least)

-- ---- no stream is open
none_open : (ss : List Stream) → nat_lt 0 (length ss) ≡ false → ss ≡ []
none_open [] e = refl
none_open (s ∷ ss) e = absurd (let clash : true ≡ false = sym (lt-ltb 0 (length (s ∷ ss)) (omega arith)) ∙ e in cc)

none_stand : (m : Model) (ss : List Stream) → ss ≡ [] → Stand m ss
none_stand m ss e = subst (Stand m) (sym e) record { each = tt; apart = tt }

-- ---- each line
-- what it leaves of the streams
abbrev Left : Pack → World → Line → Type 0
Left p w l = Stand (steps_of (read_as p) (effect l (read_as p) w).ops) (effect l (read_as p) w).world.streams

-- one that changes a file that no stream has
of_unstreamed : (p : Pack) (w : World) (file : Target) (ops : List Operation) → file_at (read_as p) file ≡ Some (the_file (read_as p) file) → is_streamed w (file_at (read_as p) file) ≡ false
    → ((g : Fid) → is_fid g (the_file (read_as p) file) ≡ false → SpareAll g ops) → Stand (read_as p) w.streams → Stand (steps_of (read_as p) ops) w.streams
of_unstreamed p w file ops is free spare h =
    let f : Fid = the_file (read_as p) file in
    stand_still (read_as p) ops w.streams (spare_each f ops w.streams spare (unstreamed w (file_at (read_as p) file) f is free)) h

-- one by which a file comes that isn't in the model
of_new : (p : Pack) (w : World) (f : Fid) (ops : List Operation) → Sound p → lives (sights p) f ≡ false → ((g : Fid) → is_fid g f ≡ false → SpareAll g ops) → Stand (read_as p) w.streams → Stand (steps_of (read_as p) ops) w.streams
of_new p w f ops sound fresh spare h =
    stand_still (read_as p) ops w.streams (spare_each f ops w.streams spare (new_to_all (read_as p) f w.streams (not_in_model p f sound.whole fresh) h.each)) h

left_by_line : (p : Pack) (w : World) (l : Line) → Sound p → IsUnrefused p w l → Stand (read_as p) w.streams → Left p w l
left_by_line p w (line.ListNames dir) sound none h = h
left_by_line p w (line.TypeOut file) sound none h = h
left_by_line p w (line.Stat file) sound none h = h
left_by_line p w (line.Make path) sound none h =
    let m : Model = read_as p in
    let t = passes (line.Make path) m w none in
    let next = next_ordinary p sound.whole (below_most (line.Make path) m refl t.serials) in
    of_new p w (next_file m) (new_file_ops m (the_dir m path) (name_given m path) (next_file m) w.moment) sound next.fresh (spare_new m (the_dir m path) (name_given m path) (next_file m) w.moment) h
left_by_line p w (line.Append file bytes) sound none h =
    let m : Model = read_as p in
    let t = passes (line.Append file bytes) m w none in
    let is = there p file sound.whole t.there.0 t.kinds.0 t.systems.0 in
    of_unstreamed p w file (appended_ops (the_file m file) bytes w.moment) is.found t.meets (λ g other. spare_appended g (the_file m file) bytes w.moment other) h
left_by_line p w (line.Patch file offset bytes) sound none h =
    let m : Model = read_as p in
    let t = passes (line.Patch file offset bytes) m w none in
    let is = there p file sound.whole t.there.0 t.kinds.0 t.systems.0 in
    of_unstreamed p w file (puts (the_file m file) offset bytes) is.found t.meets (λ g other. spare_of g (the_file m file) (puts (the_file m file) offset bytes) other (of_puts (length bytes) (the_file m file) offset bytes)) h
left_by_line p w (line.Cut file n) sound none h =
    let m : Model = read_as p in
    let t = passes (line.Cut file n) m w none in
    let is = there p file sound.whole t.there.0 t.kinds.0 t.systems.0 in
    of_unstreamed p w file (cut_ops m (the_file m file) n w.moment) is.found t.meets (λ g other. spare_cut m g (the_file m file) n w.moment other) h
left_by_line p w (line.Copy file path) sound none h =
    let m : Model = read_as p in
    let t = passes (line.Copy file path) m w none in
    let next = next_ordinary p sound.whole (below_most (line.Copy file path) m refl t.serials) in
    let made : List Operation = new_file_ops m (the_dir m path) (name_given m path) (next_file m) w.moment in
    let copied : List Operation = copied_ops (next_file m) (bytes_in m (the_file m file)) w.moment in
    of_new p w (next_file m) (made ++ copied) sound next.fresh
    (λ g other. spare_both g made copied (spare_new m (the_dir m path) (name_given m path) (next_file m) w.moment g other) (spare_copied g (next_file m) (bytes_in m (the_file m file)) w.moment other)) h
left_by_line p w (line.Rename old new) sound none h = stand_still (read_as p) (rename_ops (read_as p) old new) w.streams (each_to (Begins (read_as p)) (λ s. SpareAll s.fid (rename_ops (read_as p) old new)) w.streams (λ s b. spare_rename (read_as p) old new s.fid) h.each) h
left_by_line p w (line.Delete path) sound none h =
    let m : Model = read_as p in
    let t = passes (line.Delete path) m w none in
    let is = there p (ByPath path) sound.whole t.there.0 t.kinds.0 t.systems.0 in
    of_unstreamed p w (ByPath path) (drop_file (the_file m (ByPath path)) ∷ []) is.found t.meets (λ g other. (other, tt)) h
left_by_line p w (line.MakeDir name) sound none h =
    let m : Model = read_as p in
    let t = passes (line.MakeDir name) m w none in
    let next = is_next p (next_directory m) sound.whole refl (directory_back (m.last + 1) (below_most (line.MakeDir name) m refl t.serials)) in
    of_new p w (next_directory m) (new_file_ops m sys_dir name (next_directory m) w.moment) sound next.fresh (spare_new m sys_dir name (next_directory m) w.moment) h
left_by_line p w (line.RemoveDir name) sound none h =
    let m : Model = read_as p in
    let f : Fid = listed_dir m (Some name) in
    let may = remove_dir_may_begin p w name sound none in
    stand_still m (drop_file f ∷ []) w.streams (spare_each f (drop_file f ∷ []) w.streams (λ g other. (other, tt)) (no_directories m f w.streams may.0 h.each)) h
left_by_line p w line.Free sound none h = h
left_by_line p w (line.SetTime moment) sound none h = h
left_by_line p w (line.OpenStream file) sound none h =
    let m : Model = read_as p in
    let f : Fid = the_file m file in
    let t = passes (line.OpenStream file) m w none in
    let is = there p file sound.whole t.there.0 t.kinds.0 t.systems.0 in
    let holds = read_holds p f is.file is.living in
    new_one (Begins m) (new_stream (free_number 0 w.streams) f) w.streams h.apart (unstreamed w (file_at m file) f is.found t.meets)
    (record { ordinary = is.file; size = length_of m f; holds = holds; within = omega arith }) h.each
left_by_line p w (line.Get stream count) sound none h =
    let m : Model = read_as p in
    let t = passes (line.Get stream count) m w none in
    let s : Stream = the_stream stream w in
    flushed_stand m w stream (s.position + length (next_bytes m s count)) t.streams h (got_within m s count (open_one m w stream t.streams h))
left_by_line p w (line.PutBytes stream bytes) sound none h =
    let m : Model = read_as p in
    let t = passes (line.PutBytes stream bytes) m w none in
    let s : Stream = the_stream stream w in
    replaced m stream s (put_stream s bytes) (put_ops m s bytes) w.streams (is_open (stream_at stream w.streams) (new_stream stream sys_dir) t.streams) refl refl
    (of_written m (appended_stream s bytes) (full_bytes (appended_stream s bytes))) (put_begins m s bytes (open_one m w stream t.streams h)) h
left_by_line p w (line.Seek stream to) sound none h =
    let m : Model = read_as p in
    let t = passes (line.Seek stream to) m w none in
    flushed_stand m w stream to t.streams h (sought_within m w stream to (open_one m w stream t.streams h) (is_open (stream_at stream w.streams) (new_stream stream sys_dir) t.streams) t.within)
left_by_line p w (line.Close stream) sound none h =
    let m : Model = read_as p in
    let t = passes (line.Close stream) m w none in
    let s : Stream = the_stream stream w in
    let found = is_open (stream_at stream w.streams) (new_stream stream sys_dir) t.streams in
    let number = has_number stream w.streams s found in
    subst (λ n. Stand (steps_of m (close_ops w.moment m s)) (without_stream n w.streams)) (sym number)
    (without_it (Begins (steps_of m (close_ops w.moment m s))) stream s w.streams found h.apart (begins_other m s.fid (close_ops w.moment m s) w.streams (of_close w.moment m s) h.each))
left_by_line p w (line.Store at word) sound none h = by (nat_le zone_start at)
  where
    by : (b : Bool) → Stand (read_as p) (cond b (world_with_zone w (zone_set zone_start at word w.zone)) (record w { user = set w.user at word })).streams
    by true = h
    by false = h
left_by_line p w (line.Fetch at) sound none h = h
left_by_line p w (line.Block n) sound none h = by (taken zone_start (size_for n) w.zone)
  where
    by : (t : Option Taken) → Stand (steps_of (read_as p) (block_effect w t).ops) (block_effect w t).world.streams
    by None = h
    by (Some t) = h
left_by_line p w (line.Unblock at) sound none h = h
left_by_line p w (line.Junta level) sound none h = h
left_by_line p w line.CounterJunta sound none h = h
left_by_line p w (line.OutLoad path) sound none h =
    none_stand (steps_of (read_as p) (effect (line.OutLoad path) (read_as p) w).ops) w.streams (none_open w.streams (passes (line.OutLoad path) (read_as p) w none).meets)
left_by_line p w (line.InLoad path message) sound none h = h
left_by_line p w line.Scavenge sound none h = h
left_by_line p w line.Quit sound none h = record { each = tt; apart = tt }
left_by_line p w line.Bad sound none h = h

pub streams_stay_fit : StreamsStayFit
streams_stay_fit p w l sound given = by (refusal l (read_as p) w) refl
  where
    by : (r : Option Refusal) → refusal l (read_as p) w ≡ r → StreamsStand (steps_of (read_as p) (unless_refused r (effect l (read_as p) w).ops [])) (unless_refused r (effect l (read_as p) w).world w)
    by None none = of_stand (steps_of (read_as p) (effect l (read_as p) w).ops) (effect l (read_as p) w).world (left_by_line p w l sound none (stand_of p w given))
    by (Some r) is = given

-- ---- what a session keeps
pub kept_streams_stand : KeptStreamsStand
kept_streams_stand p form k s formed keeping = record {
  fits = keeping.fits;
  ordinary = subst (λ w. All (λ t. IsOrdinary t.fid) w.streams) (sym keeping.world) (All-map (λ t. IsOrdinary t.fid) stream_of k.streams (each formed.streams));
  apart = subst (λ w. AreApart w.streams) (sym keeping.world) formed.apart;
}
  where
    each : All StreamFormed k.streams → All (λ o. IsOrdinary (stream_of o).fid) k.streams
    each all = λ i d less. let f = all i d less in record { no_directory = f.ordinary; no_descriptor = f.no_descriptor }
