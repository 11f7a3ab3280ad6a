-- Which pages sectors carry after a value of an entering that was wanted, and where pages are.
use Rattle.std.proofs.Common.{◌≡◌, ℕ, ◌+◌, Bool, true, false, cond, min, inl, inr, List, [], Option, Result, Some, refl, sym, ◌∙◌, ap, arith}
use Rattle.std.specs.Prelude.{IsTrue}
use Rattle.std.proofs.lemmas.Bool.{cases_eq}
use Rattle.disk_records.proofs.Growing.{pack-after}
use Rattle.disk_records.specs.Commands.{value_writes}
use Rattle.disk_records.specs.Packs.{Pack, after, carried}
use Rattle.disk_records.specs.Tapes.{DiskAlone, Taped, added, pack}
use Rattle.alto_words.specs.declared.fid.Fid.{Fid}
use Rattle.disk_records.specs.declared.records.Page.{Page}
use Rattle.disk_records.specs.declared.records.Place.{Place}
use Rattle.laws_operation.specs.PlaceLaws.{SamePlaces}
use Rattle.file_pages.specs.pack_laws.proofs.guards.Laws.{value_writes_keep_the_page}
use Rattle.page_seeking.specs.Seeking.{page_number}
use Rattle.directory.specs.declared.errors.DirError.{DirError}
use Rattle.directory.specs.Entering.{next_page}
use Rattle.directory.specs.Errors.{IfMisled}
use Rattle.directory.proofs.Answering.{never_misled}

-- a value keeps what each sector carries
still : (p : Pack) (at : ℕ) (page : Page) (value : List ℕ) (i : ℕ) → carried p at ≡ Some page → carried (after p (value_writes at value)) i ≡ carried p i
still p at page value i carries = elim (cases_eq i at) [
  | inl same ↦ ap (carried (after p (value_writes at value))) same ∙ (value_writes_keep_the_page p at page value 1 carries (omega arith)).page_here ∙ sym carries ∙ ap (carried p) (sym same)
  | inr apart ↦ (value_writes_keep_the_page p at page value 1 carries (omega arith)).pages i apart
]

still_if : (p : Pack) (at : ℕ) (page : Page) (value : List ℕ) (wanted : Bool) (i : ℕ) → (IsTrue wanted → carried p at ≡ Some page) → carried (after p (cond wanted (value_writes at value) [])) i ≡ carried p i
still_if p at page value true i carries = still p at page value i (carries refl)
still_if p at page value false i carries = refl

-- so does a call that was to write it, if it is wanted, and did
pub still_carried : {a b : Taped} (at : ℕ) (page : Page) (value : List ℕ) (wanted : Bool) (i : ℕ) → DiskAlone a b → added a b ≡ cond wanted (value_writes at value) [] → (IsTrue wanted → carried (pack a) at ≡ Some page) → carried (pack b) i ≡ carried (pack a) i
still_carried {a} {b} at page value wanted i alone done carries = ap (λ q. carried q i) (pack-after alone.grown ∙ ap (after (pack a)) done) ∙ still_if (pack a) at page value wanted i carries

-- the page after one, by its number
pub next_is : (page : Page) (n : ℕ) → n ≡ min (page.number + 1) 65535 → next_page page ≡ record { fid = page.fid; number = n }
next_is page n is = ap (λ (k : ℕ). record { fid = page.fid; number = k }) (sym is)

pub places_twice : {p q r : Pack} → SamePlaces p q → SamePlaces q r → SamePlaces p r
places_twice one two = record { living = λ f. two.living f ∙ one.living f; places = λ f n. two.places f n ∙ one.places f n }

-- values that are written to sectors in which their pages were located never mislead
pub written_there : {T : Type 0} {p q : Pack} {d : Fid} {n m : ℕ} {later : Bool} (P : Place → ℕ → Page → Option (List ℕ) → Type 0) (at next_at : ℕ) (r : Result T DirError) → q ≡ p → n ≡ m
    → carried p at ≡ Some (page_number d m) → (IsTrue later → carried p next_at ≡ Some (next_page (page_number d m)))
    → (carried q at ≡ Some (page_number d n) → (IsTrue later → carried q next_at ≡ Some (next_page (page_number d n))) → IfMisled r (λ place at wanted found. ⊥)) → IfMisled r P
written_there {p} {q} {d} {n} {m} P at next_at r same is here there never =
    let page : page_number d m ≡ page_number d n = ap (page_number d) (sym is) in
    never_misled P r (never (ap (λ x. carried x at) same ∙ here ∙ ap Some page) (λ more. ap (λ x. carried x next_at) same ∙ there more ∙ ap (λ x. Some (next_page x)) page))
