-- Open streams that begin within ordinary files of their own, over the operations of lines.
use Rattle.std.proofs.Common.{◌≡◌, ◌≤◌, ℕ, ◌+◌, ◌-◌, ◌*◌, ◌/◌, Bool, true, false, cond, nat_le, List, [], ◌∷◌, Option, Some, max, length, drop, refl, sym, ◌∙◌, ap, arith, length-append, length-drop}
use Rattle.std.proofs.lemmas.List.{length-take}
use Rattle.std.specs.FinMap.{contains_key}
use Rattle.std.specs.List.{list_any}
use Rattle.laws_line.specs.alto_words.specs.declared.fid.Fid.{Fid}
use Rattle.laws_line.specs.alto_words.specs.Fid.{is_directory, is_fid}
use Rattle.laws_line.specs.disk_records.specs.Packs.{Pack}
use Rattle.laws_line.specs.pack_model.specs.operations.Committing.{length_of}
use Rattle.laws_line.specs.pack_model.specs.operations.Step.{Operation}
use Rattle.laws_line.specs.pack_model.specs.reading.Bytes.{put_at}
use Rattle.laws_line.specs.pack_model.specs.reading.Model.{Model, read_as}
use Rattle.laws_line.specs.pack_laws.proofs.Keys.{same_fid}
use Rattle.laws_line.specs.laws_record.proofs.Tidying.{or_false_left, or_false_right}
use Rattle.laws_line.specs.laws_operation.proofs.places.Laws.{model_has_the_living}
use Rattle.laws_line.specs.laws_operation.specs.ByteLaws.{IsOrdinary}
use Rattle.laws_line.specs.Ready.{steps_of}
use Rattle.session_model.specs.Keeping.{StreamFits}
use Rattle.session_model.specs.Refusals.{is_streamed}
use Rattle.session_model.specs.Streams.{Stream, appended_stream, bytes_in, flush_ops, flushed_at, full_bytes, next_bytes, pending_from, put_ops, put_stream, stream_at, stream_bytes, with_stream}
use Rattle.session_model.specs.Worlds.{World}
use Rattle.laws_session.specs.StreamLaws.{StreamsStand}
use Rattle.laws_session.proofs.inside.Flushing.{OfFile}
use Rattle.laws_session.proofs.inside.Holding.{Holds, SpareAll, flush_holds, holds_bytes, holds_length, holds_there, read_holds, spared, written_holds}
use Rattle.laws_session.proofs.inside.Numbered.{OfEach, Stay, all_each, each_all, each_to, in_its_place}
use Rattle.laws_session.proofs.inside.Sparing.{spare_of}

-- ---- one stream
-- It is of an ordinary file of so many bytes, in which its pending bytes begin.
pub record Begins (m : Model) (s : Stream) : Type 0 where
  pub ordinary : IsOrdinary s.fid
  pub size : ℕ
  pub holds : Holds m s.fid size
  pub within : pending_from s ≤ size

begins_fits : (m : Model) (s : Stream) → Begins m s → StreamFits m s
begins_fits m s b = let long = holds_length m s.fid b.size b.holds in let w = b.within in record { there = holds_there m s.fid b.size b.holds; within = omega (arith, long, w) }

-- so it is of each stream that fits what a pack is read as
read_begins : (p : Pack) (s : Stream) → StreamFits (read_as p) s → IsOrdinary s.fid → Begins (read_as p) s
read_begins p s fits o = record {
  ordinary = o;
  size = length_of (read_as p) s.fid;
  holds = read_holds p s.fid o (sym (model_has_the_living p s.fid o.no_descriptor) ∙ fits.there);
  within = fits.within;
}

-- operations on other files leave it so
begins_still : (m : Model) (ops : List Operation) (s : Stream) → SpareAll s.fid ops → Begins m s → Begins (steps_of m ops) s
begins_still m ops s spare b = record { ordinary = b.ordinary; size = b.size; holds = spared m s.fid b.size ops spare b.holds; within = b.within }

-- ---- all of them
-- They begin within their files, and are apart.
abbrev pub Stand : Model → List Stream → Type 0
Stand m ss = Stay (Begins m) ss

both_each : (p : Pack) (ss : List Stream) → OfEach (StreamFits (read_as p)) ss → OfEach (λ s. IsOrdinary s.fid) ss → OfEach (Begins (read_as p)) ss
both_each p [] fits o = tt
both_each p (s ∷ ss) fits o = (read_begins p s fits.0 o.0, both_each p ss fits.1 o.1)

pub stand_of : (p : Pack) (w : World) → StreamsStand (read_as p) w → Stand (read_as p) w.streams
stand_of p w h = record { each = both_each p w.streams (all_each (StreamFits (read_as p)) w.streams h.fits) (all_each (λ s. IsOrdinary s.fid) w.streams h.ordinary); apart = h.apart }

pub of_stand : (m : Model) (w : World) → Stand m w.streams → StreamsStand m w
of_stand m w h = record {
  fits = each_all (StreamFits m) w.streams (each_to (Begins m) (StreamFits m) w.streams (begins_fits m) h.each);
  ordinary = each_all (λ s. IsOrdinary s.fid) w.streams (each_to (Begins m) (λ s. IsOrdinary s.fid) w.streams (λ s b. b.ordinary) h.each);
  apart = h.apart;
}

-- after operations that spare all their files
pub stand_still : (m : Model) (ops : List Operation) (ss : List Stream) → OfEach (λ s. SpareAll s.fid ops) ss → Stand m ss → Stand (steps_of m ops) ss
stand_still m ops ss spare h = record { each = each ss spare h.each; apart = h.apart }
  where
    each : (ts : List Stream) → OfEach (λ s. SpareAll s.fid ops) ts → OfEach (Begins m) ts → OfEach (Begins (steps_of m ops)) ts
    each [] spare b = tt
    each (t ∷ ts) spare b = (begins_still m ops t spare.0 b.0, each ts spare.1 b.1)

-- ---- of which file no stream is
-- one that the line leaves to streams
none_has : (f : Fid) (ss : List Stream) → list_any (λ s. is_fid s.fid f) ss ≡ false → OfEach (λ s. is_fid s.fid f ≡ false) ss
none_has f [] e = tt
none_has f (s ∷ ss) e = (or_false_left (is_fid s.fid f) (list_any (λ t. is_fid t.fid f) ss) e, none_has f ss (or_false_right (is_fid s.fid f) (list_any (λ t. is_fid t.fid f) ss) e))

pub unstreamed : (w : World) (r : Option Fid) (f : Fid) → r ≡ Some f → is_streamed w r ≡ false → OfEach (λ s. is_fid s.fid f ≡ false) w.streams
unstreamed w r f is e = none_has f w.streams (sym (ap (is_streamed w) is) ∙ e)

-- one that can be that of none
none_of : (m : Model) (f : Fid) (ss : List Stream) → ((s : Stream) → Begins m s → s.fid ≡ f → ⊥) → OfEach (Begins m) ss → OfEach (λ s. is_fid s.fid f ≡ false) ss
none_of m f ss not h = each_to (Begins m) (λ s. is_fid s.fid f ≡ false) ss one h
  where
    one : (s : Stream) → Begins m s → is_fid s.fid f ≡ false
    one s b = by (is_fid s.fid f) refl
      where
        by : (c : Bool) → is_fid s.fid f ≡ c → c ≡ false
        by false e = refl
        by true e = absurd (not s b (same_fid s.fid f e))

-- as one that isn't in the model, and a directory
pub new_to_all : (m : Model) (f : Fid) (ss : List Stream) → contains_key m.files f ≡ false → OfEach (Begins m) ss → OfEach (λ s. is_fid s.fid f ≡ false) ss
new_to_all m f ss absent h = none_of m f ss (λ s b e. let clash : false ≡ true = sym absent ∙ ap (contains_key m.files) (sym e) ∙ holds_there m s.fid b.size b.holds in cc) h

pub no_directories : (m : Model) (f : Fid) (ss : List Stream) → is_directory f ≡ true → OfEach (Begins m) ss → OfEach (λ s. is_fid s.fid f ≡ false) ss
no_directories m f ss directory h = none_of m f ss (λ s b e. let clash : false ≡ true = sym b.ordinary.no_directory ∙ ap is_directory e ∙ directory in cc) h

pub spare_each : (f : Fid) (ops : List Operation) (ss : List Stream) → ((g : Fid) → is_fid g f ≡ false → SpareAll g ops) → OfEach (λ s. is_fid s.fid f ≡ false) ss → OfEach (λ s. SpareAll s.fid ops) ss
spare_each f ops ss spare h = each_to (λ s. is_fid s.fid f ≡ false) (λ s. SpareAll s.fid ops) ss (λ s other. spare s.fid other) h

-- ---- a stream in the place of itself
pub begins_other : (m : Model) (f : Fid) (ops : List Operation) (ss : List Stream) → OfFile f ops → OfEach (Begins m) ss → OfEach (λ t. is_fid t.fid f ≡ false → Begins (steps_of m ops) t) ss
begins_other m f ops ss of h = each_to (Begins m) (λ t. is_fid t.fid f ≡ false → Begins (steps_of m ops) t) ss (λ t b other. begins_still m ops t (spare_of t.fid f ops other of) b) h

pub replaced : (m : Model) (n : ℕ) (s u : Stream) (ops : List Operation) (ss : List Stream) → stream_at n ss ≡ Some s → u.number ≡ s.number → u.fid ≡ s.fid → OfFile s.fid ops → Begins (steps_of m ops) u → Stand m ss → Stand (steps_of m ops) (with_stream u ss)
replaced m n s u ops ss found number fid of own h = in_its_place (Begins (steps_of m ops)) n s u ss found number fid h.apart own (begins_other m s.fid ops ss of h.each)

-- after a flush it may stand anywhere up to its length
pub flushed_begins : (m : Model) (s : Stream) (to : ℕ) (b : Begins m s) → to ≤ max b.size (max s.position (pending_from s + length s.pending)) → Begins (steps_of m (flush_ops m s)) (flushed_at to s)
flushed_begins m s to b most =
    let w = b.within in
    record {
      ordinary = b.ordinary;
      size = max b.size (pending_from s + length s.pending);
      holds = flush_holds m s b.size b.holds w;
      within = omega (arith, most);
    }

-- bytes that begin within others, in their place and past their end
put_length : (at : ℕ) (new old : List ℕ) → at ≤ length old → length (put_at at new old) ≡ max (length old) (at + length new)
put_length at new old within = simp (length-append, length-take, length-drop) (omega (arith, within))

-- the end of the bytes that are got
pub got_within : (m : Model) (s : Stream) (count : ℕ) (b : Begins m s) → s.position + length (next_bytes m s count) ≤ max b.size (max s.position (pending_from s + length s.pending))
got_within m s count b =
    let w = b.within in
    let size = holds_bytes m s.fid b.size b.holds in
    let all : length (stream_bytes m s) ≡ max (length (bytes_in m s.fid)) (pending_from s + length s.pending) = put_length (pending_from s) s.pending (bytes_in m s.fid) (omega (arith, w, size)) in
    let past = length-drop s.position (stream_bytes m s) in
    let got = length-take count (drop s.position (stream_bytes m s)) in
    omega (arith, w, size, all, past, got)

-- bytes that are put
pub put_begins : (m : Model) (s : Stream) (bytes : List ℕ) → Begins m s → Begins (steps_of m (put_ops m s bytes)) (put_stream s bytes)
put_begins m s bytes b =
    let u : Stream = appended_stream s bytes in
    let w = b.within in
    let long = length-append s.pending bytes in
    let begin : pending_from u ≤ b.size = omega (arith, w, long) in
    let full = full_least u in
    let left = length-drop (full_bytes u) u.pending in
    record {
      ordinary = b.ordinary;
      size = max b.size (pending_from u + full_bytes u);
      holds = written_holds m u b.size (full_bytes u) b.holds begin full;
      within = omega (arith, left, full);
    }
  where
    full_least : (u : Stream) → full_bytes u ≤ length u.pending
    full_least u = by (nat_le (u.position / 512) (pending_from u / 512))
      where
        by : (c : Bool) → cond c 0 (u.position / 512 * 512 - pending_from u) ≤ length u.pending
        by true = omega arith
        by false = omega arith
