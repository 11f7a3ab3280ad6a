-- Lines that aren't refused spare the files of open streams.
use Rattle.std.proofs.Common.{All, Bool, List, None, Option, Some, [], ap, cond, drop, false, length, map, min, not, refl, suc, sym, take, true, zero, ℕ, ◌++◌, ◌-◌, ◌==◌, ◌∙◌, ◌∷◌, ◌≡◌, ◌||◌}
use Rattle.std.proofs.lemmas.List.Elements.{All-cons, All-head, All-nil, All-tail}
use Rattle.std.proofs.lemmas.List.Folds.{list_any-append}
use Rattle.std.specs.List.{list_any}
use Rattle.std.specs.Option.{option_or, unwrap_or}
use Rattle.laws_call.specs.alto_words.specs.Fid.{is_directory, is_fid, sys_dir}
use Rattle.laws_call.specs.alto_words.specs.declared.fid.Fid.{Fid}
use Rattle.laws_call.specs.laws_record.proofs.Tidying.{or_false}
use Rattle.pack_laws.proofs.Keys.{is_fid-itself, same_fid}
use Rattle.laws_call.specs.pack_model.specs.operations.Committing.{length_of}
use Rattle.laws_call.specs.pack_model.specs.operations.Step.Operation.{cut, drop_file, enter, leave, make, put, stamp, title, widen}
use Rattle.laws_call.specs.pack_model.specs.operations.Step.{Operation, room_widening, spare_widening}
use Rattle.laws_call.specs.pack_model.specs.reading.Files.{first}
use Rattle.laws_call.specs.pack_model.specs.reading.Model.{Model}
use Rattle.session_model.specs.Effects.{appended_ops, block_effect, copied_ops, cut_ops, effect, ending_ops, listed_dir, made_ops, new_file_ops, next_directory, next_file, outload_ops, rename_ops, widenings, world_ops, world_puts}
use Rattle.session_model.specs.Finding.{file_at, is_there, name_given, own_name, the_dir, the_file}
use Rattle.session_model.specs.Keeping.{OpenFile, StreamFormed, stream_of}
use Rattle.session_model.specs.Operands.{Operand, in_root, removed}
use Rattle.session_model.specs.Refusals.{by_line, by_operands, is_streamed, meets_stream, missing, no_dir, of_wrong_kind, reasons, when, when_found, wrong_kind}
use Rattle.session_model.specs.Replies.{ops, refusal, unless_refused}
use Rattle.session_model.specs.Streams.{Stream, appended_stream, bytes_in, close_ops, closing_ops, flush_ops, full_bytes, grows, puts, pending_from, puts_from, written_ops}
use Rattle.session_model.specs.Worlds.{World, the_stream, world_bytes}
use Rattle.session_model.specs.exec_words.specs.declared.line.Line.TheVariants as line
use Rattle.session_model.specs.exec_words.specs.declared.line.Line.{Line}
use Rattle.session_model.specs.exec_words.specs.declared.line.Path.{Path}
use Rattle.session_model.specs.exec_words.specs.declared.line.Target.TheVariants.{ByPath}
use Rattle.session_model.specs.exec_words.specs.declared.reply.Refusal.TheVariants as refusal_is
use Rattle.session_model.specs.exec_words.specs.declared.reply.Refusal.{Refusal}
use Rattle.session_model.specs.world_model.specs.StateFiles.{mark_begun, mark_whole}
use Rattle.session_model.specs.world_model.specs.ZoneWords.{zone_start}
use Rattle.session_model.specs.world_model.specs.Zones.{Taken, size_for, taken}
use Rattle.laws_steps.proofs.inside.Leaving.{other_files_stay_found}
use Rattle.laws_steps.specs.LineKeepingLaws.{StaysFoundOver, drops_or_titles}
use Rattle.laws_steps.specs.StreamedLaws.{StreamedFilesStayFound}

-- ---- operations that neither drop the file nor give it another name
abbrev pub Spare : Fid → List Operation → Type 0
Spare g os = list_any (drops_or_titles g) os ≡ false

spare_both : (g : Fid) (a b : List Operation) → Spare g a → Spare g b → Spare g (a ++ b)
spare_both g a b x y = list_any-append (drops_or_titles g) a b ∙ or_false (list_any (drops_or_titles g) a) (list_any (drops_or_titles g) b) x y

-- the bytes of a file, and its date
puts_spare : (g f : Fid) (fuel at : ℕ) (bytes : List ℕ) → Spare g (puts_from fuel f at bytes)
puts_spare g f zero at bytes = refl
puts_spare g f (suc fuel) at [] = refl
puts_spare g f (suc fuel) at (b ∷ bytes) = puts_spare g f fuel _ _

grows_spare : (g f : Fid) (bytes : List ℕ) → Spare g (grows f bytes)
grows_spare g f [] = refl
grows_spare g f (b ∷ bytes) = refl

appends_spare : (g f : Fid) (bytes : List ℕ) (moment : ℕ) → Spare g (appended_ops f bytes moment)
appends_spare g f bytes moment = spare_both g (grows f bytes) (stamp f moment ∷ []) (grows_spare g f bytes) refl

copies_spare : (g f : Fid) (bytes : List ℕ) (moment : ℕ) → Spare g (copied_ops f bytes moment)
copies_spare g f [] moment = refl
copies_spare g f (b ∷ bytes) moment = refl

-- if there is anything to do
if_spare : (g : Fid) (b : Bool) (o : Operation) → drops_or_titles g o ≡ false → Spare g (cond b [] (o ∷ []))
if_spare g true o none = refl
if_spare g false o none = or_false (drops_or_titles g o) false none refl

cuts_spare : (m : Model) (g f : Fid) (n moment : ℕ) → Spare g (cut_ops m f n moment)
cuts_spare m g f n moment = spare_both g (cond (n == length_of m f) [] (cut f n ∷ [])) (stamp f moment ∷ []) (if_spare g (n == length_of m f) (cut f n) refl) refl

-- a new file
widenings_spare : (m : Model) (d : Fid) (name : List ℕ) (g : Fid) → Spare g (widenings m d name)
widenings_spare m d name g = spare_both g (spare_widening m) (room_widening m d name) (if_spare g _ (widen sys_dir) refl) (if_spare g _ (widen d) refl)

new_spare : (m : Model) (d : Fid) (name : List ℕ) (f : Fid) (moment : ℕ) (g : Fid) → Spare g (new_file_ops m d name f moment)
new_spare m d name f moment g = spare_both g (widenings m d name) (make f name moment ∷ enter d name f ∷ []) (widenings_spare m d name g) refl

-- pending bytes, and the end of streams
written_spare : (m : Model) (g : Fid) (s : Stream) (n : ℕ) → Spare g (written_ops m s n)
written_spare m g s n =
    let below : ℕ = min n (length_of m s.fid - pending_from s) in
    spare_both g (puts s.fid (pending_from s) (take below s.pending)) (grows s.fid (drop below (take n s.pending)))
    (puts_spare g s.fid (length (take below s.pending)) (pending_from s) (take below s.pending)) (grows_spare g s.fid (drop below (take n s.pending)))

close_spare : (moment : ℕ) (m : Model) (g : Fid) (s : Stream) → Spare g (close_ops moment m s)
close_spare moment m g s = spare_both g (flush_ops m s) (cond s.put (stamp s.fid moment ∷ []) []) (written_spare m g s (length s.pending)) (by s.put)
  where
    by : (b : Bool) → Spare g (cond b (stamp s.fid moment ∷ []) [])
    by true = refl
    by false = refl

closing_spare : (moment : ℕ) (m : Model) (g : Fid) (ss : List Stream) → Spare g (closing_ops moment m ss)
closing_spare moment m g [] = refl
closing_spare moment m g (s ∷ ss) = spare_both g (close_ops moment m s) (closing_ops moment m ss) (close_spare moment m g s) (closing_spare moment m g ss)

ending_spare : (m : Model) (w : World) (g : Fid) → Spare g (ending_ops m w)
ending_spare m w g = by w.need
  where
    by : (b : Bool) → Spare g (cond b [] (closing_ops w.moment m w.streams))
    by true = refl
    by false = closing_spare w.moment m g w.streams

-- the file of a world
worlds_spare : (m : Model) (w : World) (f g : Fid) → Spare g (world_ops m w f)
worlds_spare m w f g = by (length_of m f == 0)
  where
    by : (b : Bool) → Spare g (cond b (grows f (world_bytes w mark_whole)) (world_puts f (world_bytes w mark_begun) (world_bytes w mark_whole)))
    by true = grows_spare g f (world_bytes w mark_whole)
    by false =
        let pages : List ℕ = drop 512 (world_bytes w mark_whole) in
        spare_both g (puts f 512 pages) (put f 0 (take 512 (world_bytes w mark_whole)) ∷ []) (puts_spare g f (length pages) 512 pages) refl

-- ---- a file of a stream and the file that a line drops or renames
-- a stream has one and none has the other
apart_streamed : (w : World) (g f : Fid) → is_streamed w (Some g) ≡ true → is_streamed w (Some f) ≡ false → is_fid g f ≡ false
apart_streamed w g f has none = by (is_fid g f) refl
  where
    by : (b : Bool) → is_fid g f ≡ b → b ≡ false
    by false e = refl
    by true e = let clash : true ≡ false = sym has ∙ ap (λ k. is_streamed w (Some k)) (same_fid g f e) ∙ none in cc

-- an ordinary file is no directory
apart_directory : (g d : Fid) → is_directory g ≡ false → is_directory d ≡ true → is_fid g d ≡ false
apart_directory g d ordinary directory = by (is_fid g d) refl
  where
    by : (b : Bool) → is_fid g d ≡ b → b ≡ false
    by false e = refl
    by true e = let clash : true ≡ false = sym directory ∙ sym (ap is_directory (same_fid g d e)) ∙ ordinary in cc

-- the first file of a line that meets no stream; where none is meant, SysDir stands in its place
apart_meant : (w : World) (g : Fid) (r : Option Fid) → is_directory g ≡ false → is_streamed w (Some g) ≡ true → is_streamed w r ≡ false → is_fid g (unwrap_or r sys_dir) ≡ false
apart_meant w g None ordinary has none = apart_directory g sys_dir ordinary refl
apart_meant w g (Some f) ordinary has none = apart_streamed w g f has none

-- ---- no reason holds
none_first : (r : Option Refusal) (rs : List (Option Refusal)) → first (λ x. x) (r ∷ rs) ≡ None → (r ≡ None) × (first (λ x. x) rs ≡ None)
unfolding first
none_first None rs e = (refl, e)
none_first (Some r) rs e = absurd cc

none_behind : (a b : List (Option Refusal)) → first (λ x. x) (a ++ b) ≡ None → first (λ x. x) b ≡ None
none_behind [] b e = e
none_behind (r ∷ a) b e = none_behind a b (none_first r (a ++ b) e).1

when_not : (b : Bool) (r : Refusal) → when b r ≡ None → b ≡ false
when_not true r e = absurd cc
when_not false r e = refl

neither : {X : Type 0} (a b : Option X) → option_or a b ≡ None → b ≡ None
neither None b e = e
neither (Some x) b e = absurd cc

-- the line leaves no file to a stream
meets_none : (l : Line) (m : Model) (w : World) (os : List Operation) → first (λ x. x) (reasons l m w os) ≡ None → meets_stream l m w ≡ false
meets_none l m w os e =
    let behind = none_behind (by_operands l m) _ (none_behind (by_line l w) _ e) in
    when_not (meets_stream l m w) refusal_is.StreamsOpen (none_first _ _ (none_first _ _ (none_first _ _ (none_first _ _ behind).1).1).1).0

-- the directory that it removes is one
removed_directory : (r : Option Fid) → (when_found r (wrong_kind removed)) ≡ None → is_directory (unwrap_or r sys_dir) ≡ true
removed_directory None e = refl
removed_directory (Some d) e = by (is_directory d) (when_not (not (is_directory d)) refusal_is.NotADirectory e)
  where
    by : (b : Bool) → not b ≡ false → b ≡ true
    by true e = refl
    by false e = absurd cc

removes_directory : (name : List ℕ) (m : Model) (w : World) (os : List Operation) → first (λ x. x) (reasons (line.RemoveDir name) m w os) ≡ None → is_directory (listed_dir m (Some name)) ≡ true
removes_directory name m w os e =
    let o : Operand = record { target = ByPath (in_root name); used = removed } in
    let kinds = (none_first (of_wrong_kind m o) _ (none_behind (missing m o ∷ []) _ (none_behind (by_line (line.RemoveDir name) w) _ e))).0 in
    removed_directory (file_at m o.target) (neither (no_dir m o) (when_found (file_at m o.target) (wrong_kind removed)) kinds)

-- ---- each line
module _ (m : Model) (w : World) (g : Fid) (ordinary : is_directory g ≡ false) (has : is_streamed w (Some g) ≡ true) where
  block_spare : (r : Option Taken) → Spare g (block_effect w r).ops
  block_spare None = refl
  block_spare (Some t) = refl

  outload_spare : (path : Path) → Spare g (outload_ops m w path)
  outload_spare path = by (is_there m path)
    where
      by : (b : Bool)
          → Spare g (cond b (world_ops m w (the_file m (ByPath path)) ++ stamp (the_file m (ByPath path)) w.moment ∷ []) (made_ops m w path ++ appended_ops (next_file m) (world_bytes w mark_whole) w.moment))
      by true = spare_both g (world_ops m w (the_file m (ByPath path))) (stamp (the_file m (ByPath path)) w.moment ∷ []) (worlds_spare m w (the_file m (ByPath path)) g) refl
      by false = spare_both g (made_ops m w path) (appended_ops (next_file m) (world_bytes w mark_whole) w.moment) (new_spare m (the_dir m path) (name_given m path) (next_file m) w.moment g) (appends_spare g (next_file m) (world_bytes w mark_whole) w.moment)

  effect_spares : (l : Line) → first (λ x. x) (reasons l m w (effect l m w).ops) ≡ None → Spare g (effect l m w).ops
  effect_spares (line.ListNames dir) e = refl
  effect_spares (line.TypeOut file) e = refl
  effect_spares (line.Stat file) e = refl
  effect_spares (line.Make path) e = new_spare m (the_dir m path) (name_given m path) (next_file m) w.moment g
  effect_spares (line.Append file bytes) e = appends_spare g (the_file m file) bytes w.moment
  effect_spares (line.Patch file offset bytes) e = puts_spare g (the_file m file) _ offset bytes
  effect_spares (line.Cut file n) e = cuts_spare m g (the_file m file) n w.moment
  effect_spares (line.Copy file path) e =
      spare_both g (made_ops m w path) (copied_ops (next_file m) (bytes_in m (the_file m file)) w.moment) (new_spare m (the_dir m path) (name_given m path) (next_file m) w.moment g) (copies_spare g (next_file m) (bytes_in m (the_file m file)) w.moment)
  effect_spares (line.Rename old new) e =
      let f : Fid = the_file m (ByPath old) in
      let other : is_fid g f ≡ false = apart_meant w g (file_at m (ByPath old)) ordinary has (meets_none (line.Rename old new) m w (rename_ops m old new) e) in
      spare_both g (widenings m (the_dir m new) (name_given m new)) (title f (name_given m new) ∷ leave (the_dir m old) (own_name m old) ∷ enter (the_dir m new) (name_given m new) f ∷ [])
      (widenings_spare m (the_dir m new) (name_given m new) g) (or_false (is_fid g f) false other refl)
  effect_spares (line.Delete path) e =
      or_false (is_fid g (the_file m (ByPath path))) false (apart_meant w g (file_at m (ByPath path)) ordinary has (meets_none (line.Delete path) m w (drop_file (the_file m (ByPath path)) ∷ []) e)) refl
  effect_spares (line.MakeDir name) e = new_spare m sys_dir name (next_directory m) w.moment g
  effect_spares (line.RemoveDir name) e =
      or_false (is_fid g (listed_dir m (Some name))) false (apart_directory g (listed_dir m (Some name)) ordinary (removes_directory name m w (drop_file (listed_dir m (Some name)) ∷ []) e)) refl
  effect_spares line.Free e = refl
  effect_spares (line.SetTime moment) e = refl
  effect_spares (line.OpenStream file) e = refl
  effect_spares (line.Get stream count) e = written_spare m g (the_stream stream w) (length (the_stream stream w).pending)
  effect_spares (line.PutBytes stream bytes) e = let s : Stream = appended_stream (the_stream stream w) bytes in written_spare m g s (full_bytes s)
  effect_spares (line.Seek stream to) e = written_spare m g (the_stream stream w) (length (the_stream stream w).pending)
  effect_spares (line.Close stream) e = close_spare w.moment m g (the_stream stream w)
  effect_spares (line.Store at word) e = refl
  effect_spares (line.Fetch at) e = refl
  effect_spares (line.Block n) e = block_spare (taken zone_start (size_for n) w.zone)
  effect_spares (line.Unblock at) e = refl
  effect_spares (line.Junta level) e = refl
  effect_spares line.CounterJunta e = refl
  effect_spares (line.OutLoad path) e = outload_spare path
  effect_spares (line.InLoad path message) e = refl
  effect_spares line.Scavenge e = refl
  effect_spares line.Quit e = ending_spare m w g
  effect_spares line.Bad e = refl

  line_spares : (l : Line) → Spare g (ops l m w)
  line_spares l = by (refusal l m w) refl
    where
      by : (r : Option Refusal) → refusal l m w ≡ r → Spare g (unless_refused r (effect l m w).ops [])
      by None e = effect_spares l e
      by (Some r) e = refl

-- ---- each stream
each_stream : (P : OpenFile → Type 0) (streams : List OpenFile) → All StreamFormed streams → ((o : OpenFile) → list_any (λ s. is_fid s.fid o.ref.fid) (map stream_of streams) ≡ true → StreamFormed o → P o) → All P streams
each_stream P [] h f = All-nil P
each_stream P (o ∷ os) h f =
    All-cons P o os
    (f o (ap (λ b. b || list_any (λ s. is_fid s.fid o.ref.fid) (map stream_of os)) (is_fid-itself o.ref.fid)) (All-head StreamFormed o os h))
    (each_stream P os (All-tail StreamFormed o os h) (λ x among formed. f x (later (is_fid o.ref.fid x.ref.fid) _ among) formed))
  where
    later : (a b : Bool) → b ≡ true → (a || b) ≡ true
    later true b e = refl
    later false b e = e

pub streamed_files_stay_found : StreamedFilesStayFound
streamed_files_stay_found l m w streams kind are formed =
    each_stream (λ o. StaysFoundOver m (ops l m w) o.ref.fid o.ref.place) streams formed
    (λ o among one. other_files_stay_found m (ops l m w) o.ref.fid o.ref.place kind (line_spares m w o.ref.fid one.ordinary (ap (list_any (λ s. is_fid s.fid o.ref.fid)) are ∙ among) l))
