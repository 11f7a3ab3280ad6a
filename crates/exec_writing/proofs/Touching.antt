-- The files that a line with one operand touches, and which hints of theirs are handy.
use Rattle.std.proofs.Common.{◌≡◌, ◌++◌, ◌∷◌, All, Bool, Contains, List, [], Some, Result, Ok, Err, append-nil, ap, refl, sym, subst}
use Rattle.std.proofs.lemmas.List.Elements.{All-cons, All-contains, All-contains_itself, All-nil, All-weaker, Contains-append_left, Contains-append_right}
use Rattle.std.specs.Option.{unwrap_or}
use Rattle.alto_words.specs.declared.fid.Fid.{Fid}
use Rattle.alto_words.specs.Fid.{sys_dir}
use Rattle.disk_records.specs.Packs.{Pack}
use Rattle.disk_records.specs.declared.records.Event.{Event}
use Rattle.exec_words.specs.declared.line.Target.{Target}
use Rattle.pack_model.specs.hints.Handy.{CachedAt, Handy}
use Rattle.pack_model.specs.reading.Model.{Model}
use Rattle.session_model.specs.Bounds.{AllHandy}
use Rattle.session_model.specs.Finding.{file_at, the_file}
use Rattle.session_model.specs.Operands.{no_directory}
use Rattle.session_model.specs.Touched.{dir_named, one_of, operand_files}
use Rattle.session_model.specs.Turning.{HintFailing}
use Rattle.exec_session.specs.Found.{operand}
use Rattle.exec_session.specs.Meant.{IfHint}
use Rattle.exec_session.specs.declared.stop.Stop.{Stop}
use Rattle.exec_session.specs.declared.stop.Stop.TheVariants as stop
use Rattle.exec_session.proofs.Finding.{contains_first}

-- the file that an operand means
pub named : (m : Model) (target : Target) (f : Fid) → file_at m target ≡ Some f → the_file m target ≡ f
named m target f e = ap (λ x. unwrap_or x sys_dir) e

-- ---- what is followed for it
pub follows_file : (m : Model) (target : Target) (f : Fid) → file_at m target ≡ Some f → Contains (sys_dir ∷ operand_files m (operand target no_directory)) f
follows_file m target f e = Contains-append_right (sys_dir ∷ dir_named m target) (one_of (file_at m target)) f (subst (λ r. Contains (one_of r) f) (sym e) (contains_first f []))

-- what a line touches that has this operand alone
pub touches_file : (m : Model) (target : Target) (f g : Fid) → file_at m target ≡ Some f → Contains (f ∷ []) g → Contains (sys_dir ∷ (operand_files m (operand target no_directory) ++ [])) g
touches_file m target f g e among =
    let same : g ≡ f = only among in
    subst (λ files. Contains (sys_dir ∷ files) g) (sym (append-nil (operand_files m (operand target no_directory)))) (subst (Contains (sys_dir ∷ operand_files m (operand target no_directory))) (sym same) (follows_file m target f e))
  where
    only : {f g : Fid} → Contains (f ∷ []) g → g ≡ f
    only {f} {g} c = All-contains (λ x. x ≡ f) (f ∷ []) g (All-cons (λ x. x ≡ f) f [] refl (All-nil (λ x. x ≡ f))) c

-- ---- hints that failed
pub hint_among : {T : Type 0} (p : Pack) (events : List Event) (files more : List Fid) (r : Result T Stop) → ((f : Fid) → Contains files f → Contains more f) → IfHint r (HintFailing p events files) → IfHint r (HintFailing p events more)
hint_among p events files more (Ok x) wider h = tt
hint_among p events files more (Err (stop.Refused r)) wider h = tt
hint_among p events files more (Err (stop.Misled place at wanted found)) wider h = record { misled = h.misled; on_disk = h.on_disk; file = wider wanted.fid h.file }
hint_among p events files more (Err stop.DiskFault) wider h = tt
hint_among p events files more (Err stop.Memory) wider h = tt

-- ---- handy hints
all_front : {X : Type 0} (P : X → Type 0) (xs more : List X) → All P (xs ++ more) → All P xs
all_front P xs more h = All-weaker (Contains xs) P (λ x c. All-contains P (xs ++ more) x h (Contains-append_left xs more x c)) xs (All-contains_itself xs)

pub handy_front : (p : Pack) (busy : List Bool) (cache : List CachedAt) (files more : List Fid) → AllHandy p busy cache (files ++ more) → AllHandy p busy cache files
handy_front p busy cache files more h = record { sound = h.sound; links = h.links; table = h.table; handy = all_front (λ f. Handy p f cache) files more h.handy }

pub handy_of : (p : Pack) (busy : List Bool) (cache : List CachedAt) (files : List Fid) (f : Fid) → AllHandy p busy cache files → Contains files f → Handy p f cache
handy_of p busy cache files f h c = All-contains (λ g. Handy p g cache) files f h.handy c
