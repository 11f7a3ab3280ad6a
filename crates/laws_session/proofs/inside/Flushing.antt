-- What streams write, as lines that leave names as they are.
use Rattle.std.proofs.Common.{◌≡◌, ℕ, ◌+◌, ◌-◌, ◌%◌, ◌==◌, ◌≤◌, zero, suc, Bool, true, false, cond, All, List, [], ◌∷◌, ◌++◌, Option, Some, None, min, refl, subst, ◌∙◌, ap, length, take, drop, arith, length-append}
use Rattle.std.proofs.lemmas.List.{length-take}
use Rattle.std.proofs.lemmas.List.Elements.{All-head, All-tail}
use Rattle.std.specs.FinMap.{get}
use Rattle.std.specs.Option.{option_map, unwrap_or}
use Rattle.laws_line.specs.alto_words.specs.declared.fid.Fid.{Fid}
use Rattle.laws_line.specs.alto_words.specs.Fid.{is_fid}
use Rattle.laws_line.specs.pack_model.specs.operations.Committing.{length_in, length_of}
use Rattle.laws_line.specs.pack_model.specs.operations.Step.{Operation, on_bytes, on_leader, step}
use Rattle.laws_line.specs.pack_model.specs.operations.Step.Operation.{cut, drop_file, enter, grow, leave, make, put, stamp, title, widen}
use Rattle.laws_line.specs.pack_model.specs.reading.Bodies.{File}
use Rattle.laws_line.specs.pack_model.specs.reading.Bytes.{put_at}
use Rattle.laws_line.specs.pack_model.specs.reading.Model.{Model, read_as}
use Rattle.laws_line.specs.pack_model.specs.sessions.Maps.{update}
use Rattle.laws_line.specs.pack_laws.proofs.Keys.{fid_same, fid_total}
use Rattle.laws_line.specs.pack_laws.proofs.Mapping.{get-update}
use Rattle.laws_line.specs.LineLaws.{LeaveNames}
use Rattle.laws_line.specs.Ready.{steps_of}
use Rattle.laws_line.specs.SoundLines.{changes}
use Rattle.session_model.specs.exec_words.specs.declared.line.Line.TheVariants as line
use Rattle.session_model.specs.exec_words.specs.declared.reply.Refusal.TheVariants as refusal_is
use Rattle.session_model.specs.Effects.{ending_ops}
use Rattle.session_model.specs.Keeping.{AreApart, ComesBefore, StreamFits}
use Rattle.session_model.specs.Refusals.{when_missing}
use Rattle.session_model.specs.Streams.{Stream, appended_stream, close_ops, closing_ops, flush_ops, full_bytes, grows, pending_from, put_ops, puts, puts_from, stream_at, written_ops}
use Rattle.session_model.specs.Worlds.{World, the_stream}
use Rattle.laws_session.specs.StreamLaws.{EndingIsALine, StreamLineMayBegin, StreamsFit}
use Rattle.laws_session.proofs.inside.Changing.{grows_leave, leave_then, puts_leave}
use Rattle.laws_session.proofs.inside.OneFile.{line_of}
use Rattle.laws_session.proofs.inside.Passing.{passes}

-- ---- one stream
stamp_leaves : (m : Model) (f : Fid) (moment : ℕ) (b : Bool) → LeaveNames m (cond b (stamp f moment ∷ []) [])
stamp_leaves m f moment true = (tt, tt)
stamp_leaves m f moment false = tt

-- its pending bytes, which begin within its file
written_leave : (m : Model) (s : Stream) (n : ℕ) → pending_from s ≤ length_of m s.fid → LeaveNames m (written_ops m s n)
written_leave m s n within =
    let below : ℕ = min n (length_of m s.fid - pending_from s) in
    let size = length-take below s.pending in
    leave_then m (puts s.fid (pending_from s) (take below s.pending)) (grows s.fid (drop below (take n s.pending)))
    (puts_leave m s.fid (pending_from s) (take below s.pending) (omega (arith, size, within)))
    (grows_leave (steps_of m (puts s.fid (pending_from s) (take below s.pending))) s.fid (drop below (take n s.pending)))

put_leave : (m : Model) (s : Stream) (bytes : List ℕ) → pending_from s ≤ length_of m s.fid → LeaveNames m (put_ops m s bytes)
put_leave m s bytes within =
    let size = length-append s.pending bytes in
    written_leave m (appended_stream s bytes) (full_bytes (appended_stream s bytes)) (omega (arith, size, within))

close_leave : (moment : ℕ) (m : Model) (s : Stream) → pending_from s ≤ length_of m s.fid → LeaveNames m (close_ops moment m s)
close_leave moment m s within = leave_then m (flush_ops m s) (cond s.put (stamp s.fid moment ∷ []) []) (written_leave m s (length s.pending) within) (stamp_leaves (steps_of m (flush_ops m s)) s.fid moment s.put)

-- the one of a number that is open
found_fits : (m : Model) (n : ℕ) (ss : List Stream) (s : Stream) → All (StreamFits m) ss → stream_at n ss ≡ Some s → StreamFits m s
found_fits m n [] s fit e = absurd (let x : None ≡ Some s = e in cc)
found_fits m n (t ∷ ss) s fit e = by (t.number == n) e (found_fits m n ss s (All-tail (StreamFits m) t ss fit))
  where
    by : (b : Bool) → cond b (Some t) (stream_at n ss) ≡ Some s → (stream_at n ss ≡ Some s → StreamFits m s) → StreamFits m s
    by true k more = let same : t ≡ s = cc in subst (StreamFits m) same (All-head (StreamFits m) t ss fit)
    by false k more = more k

pub is_open : (r : Option Stream) (d : Stream) → when_missing r refusal_is.NoStream ≡ None → r ≡ Some (unwrap_or r d)
is_open None d e = absurd (let n : Some refusal_is.NoStream ≡ None = e in cc)
is_open (Some s) d e = refl

within : (m : Model) (w : World) (n : ℕ) → StreamsFit m w → when_missing (stream_at n w.streams) refusal_is.NoStream ≡ None → pending_from (the_stream n w) ≤ length_of m (the_stream n w).fid
within m w n fit e = (found_fits m n w.streams (the_stream n w) fit (is_open (stream_at n w.streams) _ e)).within

pub stream_line_may_begin : StreamLineMayBegin
stream_line_may_begin p w (line.Get stream count) n none named fit =
    let t = passes (line.Get stream count) (read_as p) w none in
    line_of p w (line.Get stream count) none
    (changes (flush_ops (read_as p) (the_stream stream w)) (written_leave (read_as p) (the_stream stream w) (length (the_stream stream w).pending) (within (read_as p) w stream fit t.streams)))
stream_line_may_begin p w (line.PutBytes stream bytes) n none named fit =
    let t = passes (line.PutBytes stream bytes) (read_as p) w none in
    line_of p w (line.PutBytes stream bytes) none (changes (put_ops (read_as p) (the_stream stream w) bytes) (put_leave (read_as p) (the_stream stream w) bytes (within (read_as p) w stream fit t.streams)))
stream_line_may_begin p w (line.Seek stream to) n none named fit =
    let t = passes (line.Seek stream to) (read_as p) w none in
    line_of p w (line.Seek stream to) none
    (changes (flush_ops (read_as p) (the_stream stream w)) (written_leave (read_as p) (the_stream stream w) (length (the_stream stream w).pending) (within (read_as p) w stream fit t.streams)))
stream_line_may_begin p w (line.Close stream) n none named fit =
    let t = passes (line.Close stream) (read_as p) w none in
    line_of p w (line.Close stream) none (changes (close_ops w.moment (read_as p) (the_stream stream w)) (close_leave w.moment (read_as p) (the_stream stream w) (within (read_as p) w stream fit t.streams)))
stream_line_may_begin p w l n none named fit = absurd (let x : None ≡ Some n = named in cc)

-- ---- all streams, one after another
-- these operations change the file alone
abbrev pub OfFile : Fid → List Operation → Type 0
OfFile f [] = Unit {0}
OfFile f (put g offset new ∷ ops) = (g ≡ f) × OfFile f ops
OfFile f (grow g new ∷ ops) = (g ≡ f) × OfFile f ops
OfFile f (stamp g moment ∷ ops) = (g ≡ f) × OfFile f ops
OfFile f (make g name moment ∷ ops) = ⊥
OfFile f (cut g n ∷ ops) = ⊥
OfFile f (title g name ∷ ops) = ⊥
OfFile f (drop_file g ∷ ops) = ⊥
OfFile f (leave d name ∷ ops) = ⊥
OfFile f (enter d name g ∷ ops) = ⊥
OfFile f (widen d ∷ ops) = ⊥

other_length : (m : Model) (f g : Fid) (h : File → File) → is_fid g f ≡ false → length_of (record m { files = update m.files f h }) g ≡ length_of m g
other_length m f g h other =
    ap length_in (get-update fid_total fid_same m.files f h g) ∙ ap (λ b. length_in (cond b (option_map h (get m.files f)) (get m.files g))) other

-- each other file is as long as before
of_other : (m : Model) (f g : Fid) (ops : List Operation) → is_fid g f ≡ false → OfFile f ops → length_of (steps_of m ops) g ≡ length_of m g
of_other m f g [] other h = refl
of_other m f g (put k offset new ∷ ops) other h = of_other (step m (put k offset new)) f g ops other h.1 ∙ other_length m k g (on_bytes (put_at offset new)) (ap (is_fid g) h.0 ∙ other)
of_other m f g (grow k new ∷ ops) other h = of_other (step m (grow k new)) f g ops other h.1 ∙ other_length m k g (on_bytes (λ bytes. bytes ++ new)) (ap (is_fid g) h.0 ∙ other)
of_other m f g (stamp k moment ∷ ops) other h = of_other (step m (stamp k moment)) f g ops other h.1 ∙ other_length m k g (on_leader (λ l. record l { written = moment })) (ap (is_fid g) h.0 ∙ other)
of_other m f g (make k name moment ∷ ops) other h = absurd h
of_other m f g (cut k n ∷ ops) other h = absurd h
of_other m f g (title k name ∷ ops) other h = absurd h
of_other m f g (drop_file k ∷ ops) other h = absurd h
of_other m f g (leave d name ∷ ops) other h = absurd h
of_other m f g (enter d name k ∷ ops) other h = absurd h
of_other m f g (widen d ∷ ops) other h = absurd h

pub of_both : (f : Fid) (a b : List Operation) → OfFile f a → OfFile f b → OfFile f (a ++ b)
of_both f [] b x y = y
of_both f (put g offset new ∷ a) b x y = (x.0, of_both f a b x.1 y)
of_both f (grow g new ∷ a) b x y = (x.0, of_both f a b x.1 y)
of_both f (stamp g moment ∷ a) b x y = (x.0, of_both f a b x.1 y)
of_both f (make k name moment ∷ a) b x y = absurd x
of_both f (cut k n ∷ a) b x y = absurd x
of_both f (title k name ∷ a) b x y = absurd x
of_both f (drop_file k ∷ a) b x y = absurd x
of_both f (leave d name ∷ a) b x y = absurd x
of_both f (enter d name k ∷ a) b x y = absurd x
of_both f (widen d ∷ a) b x y = absurd x

pub of_puts : (fuel : ℕ) (f : Fid) (at : ℕ) (bytes : List ℕ) → OfFile f (puts_from fuel f at bytes)
of_puts zero f at bytes = tt
of_puts (suc fuel) f at [] = tt
of_puts (suc fuel) f at (b ∷ bytes) = (refl, of_puts fuel f (at + (512 - at % 512)) (drop (512 - at % 512) (b ∷ bytes)))

pub of_grows : (f : Fid) (bytes : List ℕ) → OfFile f (grows f bytes)
of_grows f [] = tt
of_grows f (b ∷ bytes) = (refl, tt)

of_stamp : (f : Fid) (moment : ℕ) (b : Bool) → OfFile f (cond b (stamp f moment ∷ []) [])
of_stamp f moment true = (refl, tt)
of_stamp f moment false = tt

pub of_written : (m : Model) (s : Stream) (n : ℕ) → OfFile s.fid (written_ops m s n)
of_written m s n =
    let below : ℕ = min n (length_of m s.fid - pending_from s) in
    let front : List ℕ = take below s.pending in
    let more : List ℕ = drop below (take n s.pending) in
    of_both s.fid (puts s.fid (pending_from s) front) (grows s.fid more) (of_puts (length front) s.fid (pending_from s) front) (of_grows s.fid more)

pub of_close : (moment : ℕ) (m : Model) (s : Stream) → OfFile s.fid (close_ops moment m s)
of_close moment m s = of_both s.fid (flush_ops m s) (cond s.put (stamp s.fid moment ∷ []) []) (of_written m s (length s.pending)) (of_stamp s.fid moment s.put)

-- each stream begins within its file, which is as long as in m
abbrev Ready : Model → Model → List Stream → Type 0
Ready m n [] = Unit {0}
Ready m n (s ∷ ss) = (pending_from s ≤ length_of m s.fid) × ((length_of n s.fid ≡ length_of m s.fid) × Ready m n ss)

-- the operations by which a stream is closed go by the length of its file alone
same_close : (moment : ℕ) (m n : Model) (s : Stream) → length_of n s.fid ≡ length_of m s.fid → close_ops moment n s ≡ close_ops moment m s
same_close moment m n s e = ap (λ k. let below : ℕ = min (length s.pending) (k - pending_from s) in (puts s.fid (pending_from s) (take below s.pending) ++ grows s.fid (drop below (take (length s.pending) s.pending))) ++ cond s.put (stamp s.fid moment ∷ []) []) e

still_ready : (m n : Model) (s : Stream) (ops : List Operation) (ss : List Stream) → OfFile s.fid ops → ComesBefore s ss → Ready m n ss → Ready m (steps_of n ops) ss
still_ready m n s ops [] of apart ready = tt
still_ready m n s ops (t ∷ ts) of apart ready = (ready.0, (of_other n s.fid t.fid ops apart.1 of ∙ ready.1.0, still_ready m n s ops ts of apart.2 ready.1.1))

closing_leaves : (moment : ℕ) (m n : Model) (ss : List Stream) → AreApart ss → Ready m n ss → LeaveNames n (closing_ops moment m ss)
closing_leaves moment m n [] apart ready = tt
closing_leaves moment m n (s ∷ ss) apart ready =
    let same : close_ops moment n s ≡ close_ops moment m s = same_close moment m n s ready.1.0 in
    let begin : pending_from s ≤ length_of n s.fid = (let e = ready.1.0 in let w = ready.0 in omega (arith, e, w)) in
    leave_then n (close_ops moment m s) (closing_ops moment m ss)
    (subst (LeaveNames n) same (close_leave moment n s begin))
    (closing_leaves moment m (steps_of n (close_ops moment m s)) ss apart.1 (still_ready m n s (close_ops moment m s) ss (of_close moment m s) apart.0 ready.1.1))

at_first : (m : Model) (ss : List Stream) → All (StreamFits m) ss → Ready m m ss
at_first m [] fit = tt
at_first m (s ∷ ss) fit = ((All-head (StreamFits m) s ss fit).within, (refl, at_first m ss (All-tail (StreamFits m) s ss fit)))

pub ending_is_a_line : EndingIsALine
ending_is_a_line m w fit apart = changes (ending_ops m w) (by w.need)
  where
    by : (b : Bool) → LeaveNames m (cond b [] (closing_ops w.moment m w.streams))
    by true = tt
    by false = closing_leaves w.moment m m w.streams apart (at_first m w.streams fit)
