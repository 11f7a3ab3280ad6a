-- What a line is refused for: one reason alone is for room, which asks for the pages of its operations, and none is a hint's.
use Rattle.std.proofs.Common.{◌≡◌, ℕ, Bool, true, false, nat_lt, List, [], ◌∷◌, ◌++◌, Option, Some, None, map, subst}
use Rattle.std.specs.Option.{option_map, option_or}
use Rattle.laws_line.specs.alto_words.specs.declared.fid.Fid.{Fid}
use Rattle.laws_line.specs.alto_words.specs.declared.wanted.Wanted.{Wanted}
use Rattle.laws_line.specs.alto_words.specs.declared.wanted.Wanted.TheVariants.{Exact, Newest}
use Rattle.laws_line.specs.disk_records.specs.declared.records.Page.{Page}
use Rattle.laws_line.specs.disk_records.specs.declared.records.Place.{Place}
use Rattle.laws_line.specs.pack_model.specs.operations.Committing.{length_of, pages_for_operations}
use Rattle.laws_line.specs.pack_model.specs.operations.Step.{Operation}
use Rattle.laws_line.specs.pack_model.specs.reading.Files.{first}
use Rattle.laws_line.specs.pack_model.specs.reading.Model.{Model, room}
use Rattle.session_model.specs.exec_words.specs.declared.line.Line.{Line}
use Rattle.session_model.specs.exec_words.specs.declared.line.Line.TheVariants as line
use Rattle.session_model.specs.exec_words.specs.declared.line.Path.{Path}
use Rattle.session_model.specs.exec_words.specs.declared.line.Target.{Target}
use Rattle.session_model.specs.exec_words.specs.declared.line.Target.TheVariants.{ByPath, BySerial}
use Rattle.session_model.specs.exec_words.specs.declared.reply.Refusal.{Refusal}
use Rattle.session_model.specs.exec_words.specs.declared.reply.Refusal.TheVariants as refusal_is
use Rattle.session_model.specs.world_model.specs.Levels.{used_by_levels}
use Rattle.session_model.specs.world_model.specs.StateFiles.{Fault, fault_of, not_a_world, not_whole, spoilt}
use Rattle.session_model.specs.world_model.specs.Zones.{given_back, largest_gap, size_for, taken}
use Rattle.session_model.specs.world_model.specs.ZoneWords.{zone_start}
use Rattle.session_model.specs.Effects.{effect}
use Rattle.session_model.specs.Finding.{file_at}
use Rattle.session_model.specs.Operands.{Operand, Use, level_of, listed, new_directory, new_file, no_directory, operands, removed, some_file, world}
use Rattle.session_model.specs.Refusals.{beyond, by_line, by_memory, by_operands, by_room, by_world, dir_at, left_in, meets_stream, missing, missing_file, no_dir, no_such_stream, no_world, not_empty, of_system, of_taken_name, of_wrong_kind, reasons, refusal_of_fault, spent, stream_named, taken_dir, taken_path, taken_target, too_many, when, when_found, when_missing, wrong_kind, wrong_system}
use Rattle.session_model.specs.Streams.{bytes_in, stream_at, stream_length}
use Rattle.session_model.specs.Worlds.{World, memory_word}
use Rattle.laws_session.specs.CallLaws.{RefusalsNameNoHint}
use Rattle.laws_session.specs.UnrefusedLaws.{FullAsksForItsPages}

-- ---- reasons other than room
-- such a reason names no hint either
abbrev IsOther : Refusal → Type 0
IsOther (refusal_is.Full pages free) = ⊥
IsOther (refusal_is.HintFailed place at wanted found) = ⊥
IsOther r = Unit {0}

abbrev IfOther : Option Refusal → Type 0
IfOther None = Unit {0}
IfOther (Some r) = IsOther r

test : (t : Bool) (x : Refusal) → IsOther x → IfOther (when t x)
test true x h = h
test false x h = tt

found : {X : Type 0} (r : Option X) (f : X → Option Refusal) → ((x : X) → IfOther (f x)) → IfOther (when_found r f)
found None f h = tt
found (Some x) f h = h x

lost : {X : Type 0} (r : Option X) (x : Refusal) → IsOther x → IfOther (when_missing r x)
lost None x h = h
lost (Some y) x h = tt

either : (r s : Option Refusal) → IfOther r → IfOther s → IfOther (option_or r s)
either None s h k = k
either (Some x) s h k = h

-- ---- of operands
missing_is : (m : Model) (o : Operand) → IfOther (missing m o)
missing_is m o = either (when_missing (dir_at m o.target) refusal_is.NoSuchName) (missing_file m o) (lost (dir_at m o.target) refusal_is.NoSuchName tt) (file_is o.used)
  where
    file_is : (u : Use) → IfOther (missing_file m (record { target = o.target; used = u }))
    file_is some_file = lost (file_at m o.target) refusal_is.NoSuchName tt
    file_is no_directory = lost (file_at m o.target) refusal_is.NoSuchName tt
    file_is listed = lost (file_at m o.target) refusal_is.NoSuchName tt
    file_is removed = lost (file_at m o.target) refusal_is.NoSuchName tt
    file_is new_file = tt
    file_is new_directory = tt
    file_is world = tt

kind_is : (m : Model) (o : Operand) → IfOther (of_wrong_kind m o)
kind_is m o = either (no_dir m o) (when_found (file_at m o.target) (wrong_kind o.used))
    (found (dir_at m o.target) _ (λ d. test _ refusal_is.NotADirectory tt))
    (found (file_at m o.target) (wrong_kind o.used) (λ f. by o.used f))
  where
    by : (u : Use) (f : Fid) → IfOther (wrong_kind u f)
    by some_file f = tt
    by no_directory f = test _ refusal_is.IsADirectory tt
    by world f = test _ refusal_is.IsADirectory tt
    by listed f = test _ refusal_is.NotADirectory tt
    by removed f = test _ refusal_is.NotADirectory tt
    by new_file f = tt
    by new_directory f = tt

system_is : (m : Model) (o : Operand) → IfOther (of_system m o)
system_is m o = found (file_at m o.target) (wrong_system o.used) (λ f. by o.used f)
  where
    by : (u : Use) (f : Fid) → IfOther (wrong_system u f)
    by some_file f = test _ refusal_is.SystemFile tt
    by no_directory f = test _ refusal_is.SystemFile tt
    by world f = test _ refusal_is.SystemFile tt
    by removed f = test _ refusal_is.SystemFile tt
    by listed f = tt
    by new_file f = tt
    by new_directory f = tt

taken_is : (m : Model) (o : Operand) → IfOther (of_taken_name m o)
taken_is m o = target_is o.used o.target
  where
    dir_is : (w : Wanted) → IfOther (taken_dir m w)
    dir_is (Exact name) = test _ refusal_is.NameTaken tt
    dir_is (Newest base) = tt

    path_is : (u : Use) (path : Path) → IfOther (taken_path m u path)
    path_is new_file path = test _ refusal_is.NameTaken tt
    path_is world path = test _ refusal_is.NameTaken tt
    path_is some_file path = tt
    path_is no_directory path = tt
    path_is listed path = tt
    path_is removed path = tt
    path_is new_directory path = dir_is path.wanted

    target_is : (u : Use) (target : Target) → IfOther (taken_target m u target)
    target_is u (ByPath path) = path_is u path
    target_is u (BySerial serial) = tt

empty_is : (m : Model) (o : Operand) → IfOther (not_empty m o)
empty_is m o = found (file_at m o.target) (left_in m o.used) (λ f. by o.used f)
  where
    by : (u : Use) (f : Fid) → IfOther (left_in m u f)
    by removed f = test _ refusal_is.NotEmpty tt
    by u f = tt

-- ---- of the line
beyond_is : (l : Line) (m : Model) (w : World) → IfOther (beyond l m w)
beyond_is (line.Patch file offset bytes) m w = found (file_at m file) _ (λ f. test _ (refusal_is.Beyond (length_of m f)) tt)
beyond_is (line.Cut file n) m w = found (file_at m file) _ (λ f. test _ (refusal_is.Beyond (length_of m f)) tt)
beyond_is (line.Seek stream to) m w = found (stream_at stream w.streams) _ (λ s. test _ (refusal_is.Beyond (stream_length m s)) tt)
beyond_is l m w = tt

many_is : (l : Line) (w : World) → IfOther (too_many l w)
many_is (line.OpenStream file) w = test _ refusal_is.TooManyStreams tt
many_is l w = tt

memory_is : (l : Line) (w : World) → IfOther (by_memory l w)
memory_is (line.Block n) w = lost (taken zone_start (size_for n) w.zone) (refusal_is.NoRoom (largest_gap w.zone)) tt
memory_is (line.Unblock at) w = lost (given_back zone_start at w.zone) refusal_is.NotABlock tt
memory_is (line.Store at word) w = lost (memory_word w at) refusal_is.NotABlock tt
memory_is (line.Fetch at) w = lost (memory_word w at) refusal_is.NotABlock tt
memory_is line.CounterJunta w = by (used_by_levels w.zone)
  where
    by : (r : Option ℕ) → IfOther (option_map refusal_is.InUse r)
    by None = tt
    by (Some n) = tt
memory_is l w = tt

whole_is : (bytes : List ℕ) → IfOther (no_world bytes)
whole_is bytes = by (fault_of bytes)
  where
    by : (r : Option Fault) → IfOther (option_map refusal_of_fault r)
    by None = tt
    by (Some (not_a_world n)) = tt
    by (Some (not_whole n)) = tt
    by (Some (spoilt n)) = tt

world_is : (l : Line) (m : Model) → IfOther (by_world l m)
world_is (line.OutLoad path) m = found (file_at m (ByPath path)) _ (λ f. test _ (refusal_is.NotAWorld (length_of m f)) tt)
world_is (line.InLoad path message) m = found (file_at m (ByPath path)) _ (λ f. whole_is (bytes_in m f))
world_is l m = tt

-- ---- all of them
-- reasons of this kind stand before one that isn't of it
past_one : (r : Option Refusal) (rs : List (Option Refusal)) (x : Refusal) → IfOther r → (IsOther x → ⊥) → first (λ y. y) (r ∷ rs) ≡ Some x → first (λ y. y) rs ≡ Some x
unfolding first
past_one None rs x h another e = e
past_one (Some y) rs x h another e = absurd (another (let same : y ≡ x = cc in subst IsOther same h))

-- each of them is
abbrev AllOther : List (Option Refusal) → Type 0
AllOther [] = Unit {0}
AllOther (r ∷ rs) = IfOther r × AllOther rs

both : (xs ys : List (Option Refusal)) → AllOther xs → AllOther ys → AllOther (xs ++ ys)
both [] ys h k = k
both (x ∷ xs) ys h k = (h.0, both xs ys h.1 k)

each : (f : Operand → Option Refusal) → ((o : Operand) → IfOther (f o)) → (os : List Operand) → AllOther (map f os)
each f h [] = tt
each f h (o ∷ os) = (h o, each f h os)

past : (xs rs : List (Option Refusal)) (x : Refusal) → AllOther xs → (IsOther x → ⊥) → first (λ y. y) (xs ++ rs) ≡ Some x → first (λ y. y) rs ≡ Some x
past [] rs x h another e = e
past (y ∷ xs) rs x h another e = past xs rs x h.1 another (past_one y (xs ++ rs) x h.0 another e)

lines : (l : Line) (w : World) → AllOther (by_line l w)
lines l w = (test _ refusal_is.BadLine tt, (test _ refusal_is.NeedsScavenge tt, (test _ (refusal_is.NoService (level_of l)) tt, tt)))

named : (l : Line) (m : Model) → AllOther (by_operands l m)
named l m =
    let os : List Operand = operands l in
    let kinds : List (Option Refusal) = map (missing m) os ++ map (of_wrong_kind m) os in
    let systems : List (Option Refusal) = kinds ++ map (of_system m) os in
    both (systems ++ map (of_taken_name m) os) (map (not_empty m) os)
    (both systems (map (of_taken_name m) os)
    (both kinds (map (of_system m) os) (both (map (missing m) os) (map (of_wrong_kind m) os) (each (missing m) (missing_is m) os) (each (of_wrong_kind m) (kind_is m) os)) (each (of_system m) (system_is m) os))
    (each (of_taken_name m) (taken_is m) os))
    (each (not_empty m) (empty_is m) os)

-- a refusal that isn't of this kind is the last one
last_alone : (l : Line) (m : Model) (w : World) (os : List Operation) (x : Refusal) → (IsOther x → ⊥) → first (λ y. y) (reasons l m w os) ≡ Some x → first (λ y. y) (by_room m os ∷ []) ≡ Some x
last_alone l m w os x another e =
    let one = past (by_line l w) _ x (lines l w) another e in
    let two = past (by_operands l m) _ x (named l m) another one in
    let three = past_one (no_such_stream l w) _ x (found (stream_named l) _ (λ n. lost (stream_at n w.streams) refusal_is.NoStream tt)) another two in
    let four = past_one (beyond l m w) _ x (beyond_is l m w) another three in
    let five = past_one (too_many l w) _ x (many_is l w) another four in
    let six = past_one (when (meets_stream l m w) refusal_is.StreamsOpen) _ x (test (meets_stream l m w) refusal_is.StreamsOpen tt) another five in
    let seven = past_one (by_memory l w) _ x (memory_is l w) another six in
    let eight = past_one (by_world l m) _ x (world_is l m) another seven in
    past_one (spent l m) _ x (test _ (refusal_is.SerialsSpent m.last) tt) another eight

room_is : (t : Bool) (pages free a b : ℕ) → first (λ x. x) (when t (refusal_is.Full pages free) ∷ []) ≡ Some (refusal_is.Full a b) → (a ≡ pages) × (b ≡ free)
unfolding first
room_is false pages free a b e = absurd cc
room_is true pages free a b e = (cc, cc)

pub full_asks_for_its_pages : FullAsksForItsPages
full_asks_for_its_pages l m w pages free e =
    let os : List Operation = (effect l m w).ops in
    room_is (nat_lt (room m) (pages_for_operations m os)) (pages_for_operations m os) (room m) pages free (last_alone l m w os (refusal_is.Full pages free) (λ other. other) e)

-- ---- hints
no_hint : (t : Bool) (pages free : ℕ) (place : Place) (at : ℕ) (wanted : Page) (label : Option (List ℕ)) → first (λ x. x) (when t (refusal_is.Full pages free) ∷ []) ≡ Some (refusal_is.HintFailed place at wanted label) → ⊥
unfolding first
no_hint false pages free place at wanted label e = absurd cc
no_hint true pages free place at wanted label e = absurd cc

pub refusals_name_no_hint : RefusalsNameNoHint
refusals_name_no_hint l m w place at wanted label e =
    let os : List Operation = (effect l m w).ops in
    no_hint (nat_lt (room m) (pages_for_operations m os)) (pages_for_operations m os) (room m) place at wanted label (last_alone l m w os (refusal_is.HintFailed place at wanted label) (λ other. other) e)
