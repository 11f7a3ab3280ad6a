-- Calls that add events, one after another.
use Rattle.std.proofs.Common.{◌≡◌, ℕ, ◌+◌, ◌<◌, ◌≤◌, ◌^◌, List, [], ◌∷◌, ◌++◌, length, take, get_or, refl, sym, ◌∙◌, ap, subst, None, Ok, arith}
use Rattle.std.proofs.lemmas.List.{take_all}
use Rattle.disk_records.specs.declared.shape.Shape.{Shape}
use Rattle.disk_records.specs.declared.records.Sector.{Sector}
use Rattle.disk_records.specs.declared.records.Act.{Act}
use Rattle.disk_records.specs.declared.records.Act.TheVariants.{Read, Check, Write}
use Rattle.disk_records.specs.declared.records.Plan.{Plan}
use Rattle.disk_records.specs.declared.records.Event.{Event}
use Rattle.disk_records.specs.Packs.{sector_at}
use Rattle.disk_records.specs.Checks.{mismatch as first_mismatch, memory_after, write_of, writes_of}
use Rattle.disk_records.specs.Events.{IsFirstOf, shown_bytes, shown_events, writes_in}
use Rattle.disk_records.specs.Tapes.{Taped, DiskAlone, ShowAlone, Ran, HasShown, added, pack, capped}
use Rattle.disk_records.proofs.Growing.{grown_here, grown_twice, nothing_added, added-twice, shown-append}
use Rattle.disk_records.proofs.FirstOnes.{first_all}
use Rattle.disk_memory.specs.Adding.{Adds}
use Rattle.disk_memory.specs.Making.{IsCut, first_tape}
use Rattle.disk_memory.proofs.Counting.{take_event}

-- one call after another
pub adds_then : {a b c : Taped} {x y : List Event} → Adds a b x → Adds b c y → Adds a c (x ++ y)
adds_then {a} {b} {c} {x} {y} one two =
    record {
      grown = grown_twice one.grown two.grown;
      added = added-twice one.grown two.grown ∙ ap (λ l. l ++ added b c) one.added ∙ ap (λ l. x ++ l) two.added;
      keys = two.keys ∙ one.keys;
      runs = two.runs ∙ one.runs;
    }

-- nothing happened
pub adds_none : {a b : Taped} → b ≡ a → Adds a b []
adds_none {a} {b} same = let P : Taped → Type 0 = λ t. Adds a t [] in subst P (sym same) (record { grown = grown_here a; added = nothing_added a.events; keys = refl; runs = refl })

-- record writes show nothing
silent-write : (at part : ℕ) (act : Act) (words : List ℕ) → shown_bytes (write_of at part act words) ≡ []
silent-write at part Read words = refl
silent-write at part Check words = refl
silent-write at part Write words = refl

-- a command's record writes show nothing
pub silent-writes : (at : ℕ) (plan : Plan) (memory : Sector) → shown_bytes (writes_of at plan memory) ≡ []
silent-writes at plan memory =
    let header = write_of at 0 plan.header memory.header in
    let label = write_of at 1 plan.label memory.label in
    let value = write_of at 2 plan.value memory.value in
    shown-append header (label ++ value)
    ∙ ap (λ l. l ++ shown_bytes (label ++ value)) (silent-write at 0 plan.header memory.header)
    ∙ shown-append label value
    ∙ ap (λ l. l ++ shown_bytes value) (silent-write at 1 plan.label memory.label)
    ∙ silent-write at 2 plan.value memory.value

-- the tape with another count of sector commands
abbrev pub counted : Taped → ℕ → Taped
counted t runs = record t { runs = runs }

-- a command after which these events stand, and no others
pub alone_counted : {old new : Taped} {more : List Event} {runs : ℕ} → runs ≡ capped (old.runs + 1) → old.runs < 2 ^ 64 → Adds (counted old runs) new more → shown_bytes more ≡ [] → new.key_faults ≡ old.key_faults → new.show_faults ≡ old.show_faults → DiskAlone old new
alone_counted {old} {new} {more} {runs} count small adds silent keys shows =
    let g = adds.grown in
    let r : new.runs ≡ capped (old.runs + 1) = adds.runs ∙ count in
    record {
      grown = record {
        form = g.form;
        base = g.base;
        events = g.events;
        disk_faults = g.disk_faults;
        key_faults = g.key_faults;
        show_faults = g.show_faults;
        runs = omega (arith, r, small);
        writes = g.writes;
        spare = g.spare;
      };
      keys = adds.keys;
      key_faults = keys;
      show_faults = shows;
      shown = ap shown_bytes adds.added ∙ silent;
    }

-- a command that was done whole
pub ran_whole : {old new : Taped} (at : ℕ) (plan : Plan) (memory buffer sector : Sector) {runs : ℕ} → runs ≡ capped (old.runs + 1) → Adds (counted old runs) new (writes_of at plan memory) → sector_at (pack old) at ≡ sector → first_mismatch plan memory sector ≡ None → buffer ≡ memory_after plan memory sector → Ran at plan memory buffer old new (Ok tt)
ran_whole {old} {new} at plan memory buffer sector count adds stands matches read =
    let here : first_mismatch plan memory (sector_at (pack old) at) ≡ None = ap (first_mismatch plan memory) stands ∙ matches in
    let wrote : added old new ≡ writes_of at plan memory = adds.added in
    record {
      some = let P : List Event → Type 0 = IsFirstOf (writes_of at plan memory) in subst P (sym wrote) (first_all (writes_of at plan memory));
      checked = λ some. here;
      ok = record { matches = here; read = read ∙ ap (memory_after plan memory) (sym stands); wrote = wrote };
      mismatch = tt;
      want = λ h. cc;
      runs = adds.runs ∙ count;
    }

-- shown bytes were added
pub show_alone : {old new : Taped} {more : List Event} → Adds old new more → new.disk_faults ≡ old.disk_faults → new.key_faults ≡ old.key_faults → new.writes ≡ old.writes → ShowAlone old new
show_alone adds disk keys writes = record { grown = adds.grown; keys = adds.keys; disk_faults = disk; key_faults = keys; runs = adds.runs; writes = writes }

-- all bytes were shown
pub has_shown : {old new : Taped} (bytes : List ℕ) → Adds old new (shown_events bytes) → HasShown bytes old new (Ok tt)
has_shown {old} {new} bytes adds =
    let P : List Event → Type 0 = IsFirstOf (shown_events bytes) in
    record { some = subst P (sym adds.added) (first_all (shown_events bytes)); ok = adds.added; want = λ h. cc }

-- ---- a cut
pub cut_begun : {t : Taped} (shape : Shape) (sectors base : List Sector) (keys : List ℕ) → t ≡ first_tape shape sectors keys → sectors ≡ base → keys ≡ [] → Adds (first_tape shape base []) t []
cut_begun shape sectors base keys made same none =
    adds_none (made ∙ ap (λ s. first_tape shape s keys) same ∙ ap (λ k. first_tape shape base k) none)

-- one event more was done again
pub cut_more : {a b c : Taped} (items : List Event) (i : ℕ) (event : Event) → Adds a b (take i items) → Adds b c (event ∷ []) → i < length items → event ≡ get_or items i event → Adds a c (take (i + 1) items)
cut_more {a} {b} {c} items i event one two within is =
    let P : List Event → Type 0 = λ l. Adds a c l in
    subst P (sym (take_event items i event within is)) (adds_then one two)

-- a machine that was made anew and did these events again
pub is_cut : {old new : Taped} (items : List Event) (count i : ℕ) → Adds (first_tape old.form old.base []) new (take i (take count items)) → items ≡ old.events → length (take count items) ≤ i → new.writes ≡ capped (writes_in new.events) → new.disk_faults ≡ 0 → new.key_faults ≡ 0 → new.show_faults ≡ 0 → IsCut old count new
is_cut {old} {new} items count i adds same past counted disk keys shows =
    let events : new.events ≡ take count old.events = adds.grown.events ∙ adds.added ∙ take_all i (take count items) past ∙ ap (take count) same in
    record {
      form = adds.grown.form;
      base = adds.grown.base;
      events = events;
      keys = adds.keys;
      disk_faults = disk;
      key_faults = keys;
      show_faults = shows;
      runs = adds.runs;
      writes = counted ∙ ap (λ e. capped (writes_in e)) events;
    }
