-- Bytes after those of a file, if there are some.
use Rattle.std.proofs.Common.{Bool, List, Ok, [], ap, arith, false, inl, length, refl, subst, sym, true, ℕ, ◌<◌, ◌==◌, ◌∙◌, ◌∷◌, ◌≡◌}
use Rattle.std.proofs.lemmas.Bool.Decides.{nat_tests}
use Rattle.alto_words.specs.declared.fid.Fid.{Fid}
use Rattle.disk_records.specs.Packs.{Pack}
use Rattle.disk_records.specs.Tapes.{Taped, pack}
use Rattle.file_pages.specs.Calls.{StaysHandy}
use Rattle.file_pages.specs.Growing.{MayBeGrown, of_file}
use Rattle.exec_session.specs.hint_cache.specs.Caches.{Cached}
use Rattle.page_seeking.specs.Seeking.{file_length}
use Rattle.page_seeking.specs.declared.refs.FileRef.{FileRef}
use Rattle.pack_model.specs.operations.Committing.{pages_added}
use Rattle.pack_model.specs.operations.Step.Operation.{grow}
use Rattle.session_model.specs.Keeping.{Kept}
use Rattle.session_model.specs.Streams.{grows}
use Rattle.exec_steps.specs.Asked.{MayGrowFile}
use Rattle.exec_steps.specs.Midway.{StepsOn}
use Rattle.exec_steps.proofs.Joining.{step_of_nothing}

-- ---- no bytes
is_zero : (n : ℕ) → (n == 0) ≡ true → n ≡ 0
is_zero n h = grind (arith, nat_tests)

is_some : (n : ℕ) → (n == 0) ≡ false → 0 < n
is_some n h = grind (arith, nat_tests)

pub no_bytes : (bytes : List ℕ) → length bytes ≡ 0 → bytes ≡ []
no_bytes [] e = refl
no_bytes (b ∷ bytes) e = cc

pub when_empty : (bytes : List ℕ) (b : Bool) → b ≡ (length bytes == 0) → b ≡ true → bytes ≡ []
when_empty bytes b is e = no_bytes bytes (is_zero (length bytes) (sym is ∙ e))

pub when_some : (bytes : List ℕ) (b : Bool) → b ≡ (length bytes == 0) → b ≡ false → 0 < length bytes
when_some bytes b is e = is_some (length bytes) (sym is ∙ e)

no_sectors : (b : ℕ) (bytes fresh : List ℕ) → bytes ≡ [] → length fresh ≡ pages_added b (length bytes) → fresh ≡ []
no_sectors b bytes fresh none number = no_bytes fresh (number ∙ ap (λ l. pages_added b (length l)) none ∙ (omega arith))

pub nothing_grows : (a : Taped) (k : Kept) (file : FileRef) (bytes fresh : List ℕ) (x : Unit {0}) → bytes ≡ [] → MayGrowFile (pack a) file bytes fresh → StepsOn a a k k (grows file.fid bytes) fresh (file.fid ∷ []) (Ok x)
nothing_grows a k file bytes fresh x none may =
    subst (λ l. StepsOn a a k k (grows file.fid bytes) l (file.fid ∷ []) (Ok x)) (sym (no_sectors (file_length (pack a) file.fid) bytes fresh none may.number))
    (subst (λ l. StepsOn a a k k (grows file.fid l) [] (file.fid ∷ []) (Ok x)) (sym none) (step_of_nothing a k (file.fid ∷ []) x))

pub handy_here : (p : Pack) (cache : Cached) → StaysHandy p p cache cache
handy_here p cache whole links f handy = inl handy

-- ---- some bytes
pub grows_once : (f : Fid) (bytes : List ℕ) → 0 < length bytes → grows f bytes ≡ grow f bytes ∷ []
grows_once f [] some = absurd (omega (arith, some))
grows_once f (b ∷ bytes) some = refl

pub may_be_grown : (p : Pack) (file : FileRef) (bytes fresh : List ℕ) → MayGrowFile p file bytes fresh → MayBeGrown p (grow file.fid bytes) file.fid bytes [] fresh
may_be_grown p file bytes fresh may = record {
  growth = of_file may.found.ordinary;
  room = omega arith;
  number = may.number;
  free = may.free.0;
  distinct = may.free.1;
}
