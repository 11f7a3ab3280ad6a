-- Answers of calls that a line makes, passed on as its own.
use Rattle.std.proofs.Common.{◌≡◌, ◌≤◌, ◌-◌, ℕ, Bool, true, List, [], ◌∷◌, ◌++◌, Option, Some, None, Result, Ok, Err, Vec, IfOk, inl, inr, refl, sym, subst, ap, ◌∙◌, arith, All}
use Rattle.std.specs.Prelude.{Contains}
use Rattle.std.specs.Result.{IsErrAnd}
use Rattle.std.proofs.lemmas.List.Elements.{All-contains, All-contains_itself, All-weaker, Contains-append_left, Contains-append_right}
use Rattle.alto_words.specs.declared.fid.Fid.{Fid}
use Rattle.alto_words.specs.Fid.{sys_dir}
use Rattle.directory.specs.Errors.{IfListMisled, cause_of_list}
use Rattle.directory.specs.declared.errors.ListError.{ListError}
use Rattle.directory.specs.declared.errors.ListError.TheVariants as listing
use Rattle.disk_records.proofs.Looking.{looks_within}
use Rattle.disk_records.specs.Causes.{IsCause}
use Rattle.disk_records.specs.Packs.{Pack}
use Rattle.disk_records.specs.Tapes.{Looks, Taped, pack}
use Rattle.disk_records.specs.declared.records.Page.{Page}
use Rattle.disk_records.specs.declared.records.Place.{Place}
use Rattle.exec_words.specs.declared.line.Line.{Line}
use Rattle.exec_words.specs.declared.line.Line.TheVariants as line
use Rattle.exec_words.specs.declared.line.Path.{Path}
use Rattle.exec_words.specs.declared.line.Target.{Target}
use Rattle.exec_words.specs.declared.line.Target.TheVariants.{ByPath, BySerial}
use Rattle.exec_words.specs.declared.reply.Refusal.{Refusal}
use Rattle.exec_session.specs.label_check.specs.declared.errors.LookError.{LookError}
use Rattle.exec_session.specs.label_check.specs.declared.errors.LookError.TheVariants as look
use Rattle.page_seeking.specs.Refs.{MisledBy}
use Rattle.page_seeking.specs.declared.refs.FileError.TheVariants as fault
use Rattle.pack_model.specs.hints.Handy.{CachedAt, Handy}
use Rattle.pack_model.specs.reading.Model.{Model, read_as}
use Rattle.pack_model.specs.states.Sound.{Sound}
use Rattle.session_model.specs.Answering.{NoneRefused}
use Rattle.session_model.specs.Bounds.{AllHandy, DoneWithin, RunsWithin, type_runs}
use Rattle.session_model.specs.Finding.{dir_of, file_at}
use Rattle.session_model.specs.Operands.{no_directory}
use Rattle.session_model.specs.Replies.{refusal as refusal_to, unless_refused}
use Rattle.session_model.specs.Touched.{files_touched, one_of, operand_files}
use Rattle.session_model.specs.Turning.{HintFailing, State, cue_files, typed}
use Rattle.session_model.specs.Worlds.{World}
use Rattle.exec_session.specs.Found.{dirs_followed, files_followed, operand}
use Rattle.exec_session.specs.Meant.{IfHint, IfRefused, IsSoon, IsTakenUpBy, LooksAbout, kept, replied}
use Rattle.exec_session.specs.Stops.{refused_if, stop_of_list, stop_of_look}
use Rattle.exec_session.specs.declared.session.Session.{Session}
use Rattle.exec_session.specs.declared.stop.Stop.{Stop}
use Rattle.exec_session.specs.declared.stop.Stop.TheVariants as stop
use Rattle.exec_session.proofs.Finding.{contains_first, hint_failing}
use Rattle.exec_session.proofs.OrdinaryFiles.{by_test}
use Rattle.exec_session.proofs.Stopping.{error_is}
use Rattle.executive.specs.Reads.{IsSaid, ReadsAs, ReadsRight}
use Rattle.executive.proofs.Answering.{passes_stop}

-- ---- the frame of a call that is lent the disk alone
pub looks_alone : {told : Bool} {most : ℕ} {x y : Taped} (s : Session) → Looks told most x y → LooksAbout told most x y s s
looks_alone s looks = record { looks = looks; looked = record { same = refl; refused = omega arith }; handy = λ told whole links f handy. handy }

-- in fewer sector commands than it may
pub looks_most : {told : Bool} {few : ℕ} {x y : Taped} {a b : Session} (most : ℕ) → few ≤ most → LooksAbout told few x y a b → LooksAbout told most x y a b
looks_most most within about = record { looks = looks_within most about.looks within; looked = about.looked; handy = about.handy }

-- ---- the files that a line touches
-- a hint that failed of some of these files
failing_among : (p : Pack) (files more : List Fid) (place : Place) (at : ℕ) (wanted : Page) (found : Option (List ℕ)) → (Contains files wanted.fid → Contains more wanted.fid) → HintFailing p [] files place at wanted found → HintFailing p [] more place at wanted found
failing_among p files more place at wanted found wider h = record { misled = h.misled; on_disk = h.on_disk; file = wider h.file }

hint_among : {T : Type 0} (p : Pack) (files more : List Fid) (r : Result T Stop) → ((f : Fid) → Contains files f → Contains more f) → IfHint r (HintFailing p [] files) → IfHint r (HintFailing p [] more)
hint_among p files more (Ok x) wider h = tt
hint_among p files more (Err (stop.Refused r)) wider h = tt
hint_among p files more (Err (stop.Misled place at wanted found)) wider h = failing_among p files more place at wanted found (wider wanted.fid) h
hint_among p files more (Err stop.DiskFault) wider h = tt
hint_among p files more (Err stop.Memory) wider h = tt

-- those of one operand: SysDir, its directory, its file
pub touches_dirs : (p : Pack) (target : Target) (f : Fid) → Contains (dirs_followed p target) f → Contains (sys_dir ∷ (operand_files (read_as p) (operand target no_directory) ++ [])) f
touches_dirs p target f h =
    let file = one_of (file_at (read_as p) target) in
    Contains-append_left (dirs_followed p target ++ file) [] f (Contains-append_left (dirs_followed p target) file f h)

pub touches_file : (p : Pack) (target : Target) (f : Fid) → file_at (read_as p) target ≡ Some f → Contains (sys_dir ∷ (operand_files (read_as p) (operand target no_directory) ++ [])) f
touches_file p target f e =
    let file = one_of (file_at (read_as p) target) in
    Contains-append_left (dirs_followed p target ++ file) [] f
    (Contains-append_right (dirs_followed p target) file f (subst (λ r. Contains (one_of r) f) (sym e) (contains_first f [])))

-- what is followed for it, its file besides
pub follows_file : (p : Pack) (target : Target) (f : Fid) → file_at (read_as p) target ≡ Some f → Contains (files_followed p (operand target no_directory)) f
follows_file p target f e = Contains-append_right (dirs_followed p target) (one_of (file_at (read_as p) target)) f (subst (λ r. Contains (one_of r) f) (sym e) (contains_first f []))

-- those of a directory that is listed
pub touches_dir : (m : Model) (w : World) (name : Option (List ℕ)) (d : Fid) → dir_of m name ≡ Some d → Contains (files_touched (line.ListNames name) m w) d
touches_dir m w None d e = subst (λ f. Contains (sys_dir ∷ []) f) (let n : Some sys_dir ≡ Some d = e in cc) (contains_first sys_dir [])
touches_dir m w (Some name) d e =
    let file = one_of (dir_of m (Some name)) in
    Contains-append_left ((sys_dir ∷ sys_dir ∷ []) ++ file) [] d
    (Contains-append_right (sys_dir ∷ sys_dir ∷ []) file d (subst (λ r. Contains (one_of r) d) (sym e) (contains_first d [])))

pub root_touches : (m : Model) (w : World) (name : Option (List ℕ)) (f : Fid) → Contains (sys_dir ∷ []) f → Contains (files_touched (line.ListNames name) m w) f
root_touches m w None f h = h
root_touches m w (Some name) f h = Contains-append_left (sys_dir ∷ []) ((sys_dir ∷ one_of (dir_of m (Some name))) ++ []) f h

-- ---- answers
pub ok_then : {A : Type 0} {P Q : A → Type 0} (r : Result A Stop) → IfOk r P → ((x : A) → P x → Q x) → IfOk r Q
ok_then (Ok x) h f = f x h
ok_then (Err e) h f = tt

-- of the last call: what it reads is said, it is never refused, and a hint that misled is one of a file that is touched
pub reads_of : {T : Type 0} (p : Pack) (l : Line) (says : T → List ℕ) (f : Fid) (r : Result T Stop) → Sound p → ((w : World) → Contains (files_touched l (read_as p) w) f) → IfOk r (λ x. (w : World) → IsTakenUpBy w l → IsSaid p l w (says x)) → IfRefused r (λ x. ⊥) → IfHint r (MisledBy p [] f) → ReadsRight p l says r
reads_of p l says f (Ok x) sound among said refused hint = λ w taken. record { said = said w taken; refused = tt; misled = tt }
reads_of p l says f (Err (stop.Refused x)) sound among said refused hint = absurd refused
reads_of p l says f (Err (stop.Misled place at wanted found)) sound among said refused hint = λ w taken. record { said = tt; refused = tt; misled = hint_failing p f (files_touched l (read_as p) w) place at wanted found sound (among w) hint }
reads_of p l says f (Err stop.DiskFault) sound among said refused hint = λ w taken. record { said = tt; refused = tt; misled = tt }
reads_of p l says f (Err stop.Memory) sound among said refused hint = λ w taken. record { said = tt; refused = tt; misled = tt }

-- of a call before it, whose error is passed on
pub stops_of : (T : Type 0) {U : Type 0} (p : Pack) (l : Line) (says : U → List ℕ) (f : Fid) (e : Stop) (r : Result U Stop) → IsErrAnd r (λ x. x ≡ e) → Sound p → ((w : World) → Contains (files_touched l (read_as p) w) f) → IfRefused {T = T} (Err e) (λ x. ⊥) → IfHint {T = T} (Err e) (MisledBy p [] f) → ReadsRight p l says r
stops_of T {U} p l says f e r is sound among refused hint = passes_stop {T = T} {U = U} p l (λ x. []) says e r is (reads_of {T = T} p l (λ x. []) f (Err e) sound among tt refused hint)

-- of the call that finds the operand: it is refused as the line is, and follows the hints of its directories
pub unfound : (T : Type 0) {U : Type 0} (p : Pack) (l : Line) (says : U → List ℕ) (files : List Fid) (P : Refusal → Type 0) (e : Stop) (r : Result U Stop) → IsErrAnd r (λ x. x ≡ e) → ((w : World) (x : Refusal) → IsTakenUpBy w l → P x → refusal_to l (read_as p) w ≡ Some x) → ((w : World) (f : Fid) → Contains files f → Contains (files_touched l (read_as p) w) f)
    → IfRefused {T = T} (Err e) P → IfHint {T = T} (Err e) (HintFailing p [] files) → ReadsRight p l says r
unfound T {U} p l says files P e r is refuses wider refused hint = passes_stop {T = T} {U = U} p l (λ x. []) says e r is (λ w taken. record {
  said = tt;
  refused = by e w taken refused;
  misled = hint_among {T = T} p files (files_touched l (read_as p) w) (Err e) (wider w) hint;
})
  where
    by : (e : Stop) (w : World) → IsTakenUpBy w l → IfRefused {T = T} (Err e) P → IfRefused {T = T} (Err e) (λ x. refusal_to l (read_as p) w ≡ Some x)
    by (stop.Refused x) w taken h = refuses w x taken h
    by (stop.Misled place at wanted found) w taken h = tt
    by stop.DiskFault w taken h = tt
    by stop.Memory w taken h = tt

-- of a test
pub test_refused : {U : Type 0} (p : Pack) (l : Line) (says : U → List ℕ) (b : Bool) (x : Refusal) (e : Stop) (r : Result U Stop) → IsErrAnd r (λ y. y ≡ e) → ◌≡◌ {A = Result (Unit {0}) Stop} (Err e) (refused_if b x) → ((w : World) → IsTakenUpBy w l → b ≡ true → refusal_to l (read_as p) w ≡ Some x) → ReadsRight p l says r
test_refused {U} p l says b x e r is test refuses =
    let t = by_test b e x test in
    λ w taken. subst (λ y. ReadsAs {T = U} p l w says y) (sym (error_is r is ∙ ap Err t.1)) (record { said = tt; refused = refuses w taken t.0; misled = tt })

-- of a sweep that counts
pub uncounted : {U : Type 0} (p : Pack) (l : Line) (says : U → List ℕ) (e : LookError) (r : Result U Stop) → IsErrAnd r (λ x. x ≡ stop_of_look e) → ReadsRight p l says r
uncounted {U} p l says e r is = λ w taken. subst (λ y. ReadsAs {T = U} p l w says y) (sym (error_is r is)) (by e w)
  where
    by : (e : LookError) (w : World) → ReadsAs {T = U} p l w says (Err (stop_of_look e))
    by look.DiskFault w = record { said = tt; refused = tt; misled = tt }
    by look.Memory w = record { said = tt; refused = tt; misled = tt }

-- of the call that lists slots
pub unlisted : {U : Type 0} (p : Pack) (l : Line) (says : U → List ℕ) (f : Fid) (a b : Taped) (e : ListError) (r : Result U Stop) → IsErrAnd r (λ x. x ≡ stop_of_list e) → Sound p → ((w : World) → Contains (files_touched l (read_as p) w) f) → IsCause a b (cause_of_list e) → IfListMisled {T = Unit {0}} (Err e) (MisledBy p [] f) → ReadsRight p l says r
unlisted {U} p l says f a b e r is sound among cause hint = stops_of (Unit {0}) p l says f (stop_of_list e) r is sound among (refused e cause) (hinted e hint)
  where
    refused : (e : ListError) → IsCause a b (cause_of_list e) → IfRefused {T = Unit {0}} (Err (stop_of_list e)) (λ x. ⊥)
    refused (listing.File (fault.Misled place at wanted found)) h = tt
    refused (listing.File (fault.Beyond n)) h = absurd h
    refused (listing.File fault.DiskFault) h = tt
    refused (listing.File fault.Memory) h = tt
    refused listing.Memory h = tt

    hinted : (e : ListError) → IfListMisled {T = Unit {0}} (Err e) (MisledBy p [] f) → IfHint {T = Unit {0}} (Err (stop_of_list e)) (MisledBy p [] f)
    hinted (listing.File (fault.Misled place at wanted found)) h = h
    hinted (listing.File (fault.Beyond n)) h = tt
    hinted (listing.File fault.DiskFault) h = tt
    hinted (listing.File fault.Memory) h = tt
    hinted listing.Memory h = tt

-- ---- few sector commands
pub few_stopped : {Z : Type 0} (p : Pack) (m : Model) (l : Line) (e : Stop) (r : Result (Vec ℕ Z) Stop) (n : ℕ) → IsErrAnd r (λ x. x ≡ e) → RunsWithin p m l (replied r) n
few_stopped {Z} p m l e r n is = subst (λ y. RunsWithin p m l (replied {Z = Z} y) n) (sym (error_is r is)) (by e)
  where
    by : (e : Stop) → RunsWithin p m l (replied {Z = Z} (Err e)) n
    by (stop.Refused x) = tt
    by (stop.Misled place at wanted found) = tt
    by stop.DiskFault = tt
    by stop.Memory = tt

all_front : {X : Type 0} (P : X → Type 0) (xs more : List X) → All P (xs ++ more) → All P xs
all_front P xs more h = All-weaker (Contains xs) P (λ x c. All-contains P (xs ++ more) x h (Contains-append_left xs more x c)) xs (All-contains_itself xs)

pub handy_front : (p : Pack) (busy : List Bool) (cache : List CachedAt) (files more : List Fid) → AllHandy p busy cache (files ++ more) → AllHandy p busy cache files
handy_front p busy cache files more h = record { sound = h.sound; links = h.links; table = h.table; handy = all_front (λ f. Handy p f cache) files more h.handy }

pub handy_of : (p : Pack) (busy : List Bool) (cache : List CachedAt) (files : List Fid) (f : Fid) → AllHandy p busy cache files → Contains files f → Handy p f cache
handy_of p busy cache files f h c = All-contains (λ g. Handy p g cache) files f h.handy c

-- `type` of a path that is done takes few, unless the cache refused an address
pub type_few : (old new : Taped) (one two : Session) (s : State) (target : Target) (text : List ℕ) → read_as (pack old) ≡ s.model → IsTakenUpBy s.world (line.TypeOut target)
    → ((path : Path) → target ≡ ByPath path → AllHandy (pack old) (kept one).busy (kept one).cache (files_followed (pack old) (operand target no_directory)) → IsSoon (type_runs (read_as (pack old)) path) old new one two)
    → AllHandy (pack old) (kept one).busy (kept one).cache (cue_files s (typed (line.TypeOut target))) → NoneRefused (kept one) (kept two) → DoneWithin (pack old) s.model (line.TypeOut target) (new.runs - old.runs)
type_few old new one two s (BySerial n) text reads taken quick handy none = tt
type_few old new one two s (ByPath path) text reads taken quick handy none =
    let p = pack old in
    let busy = (kept one).busy in
    let cache = (kept one).cache in
    let target = ByPath path in
    let files : cue_files s (typed (line.TypeOut target)) ≡ files_followed p (operand target no_directory) ++ [] =
    ap (λ x. unless_refused x (files_touched (line.TypeOut target) s.model s.world) []) taken
    ∙ sym (ap (λ m. files_touched (line.TypeOut target) m s.world) reads)
    in
    let soon = quick path refl (handy_front p busy cache (files_followed p (operand target no_directory)) [] (subst (AllHandy p busy cache) files handy)) in
    subst (λ m. new.runs - old.runs ≤ type_runs m path) reads (elim soon [ inl runs ↦ omega (arith, runs) | inr rose ↦ absurd (let a = none.0 in let b = none.1 in omega (arith, rose, a, b)) ])
