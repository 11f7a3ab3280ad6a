-- Claims of new pages in a row, one after another.
use Rattle.std.proofs.Common.{Err, List, Ok, [], ap, append-nil, append_assoc, arith, drop, get_or, length, min, subst, suc, sym, true, ℕ, ◌*◌, ◌++◌, ◌+◌, ◌-◌, ◌∙◌, ◌∷◌, ◌≡◌, ◌≢◌, ◌≤◌, refl}
use Rattle.std.proofs.lemmas.List.{length-append, length-drop}
use Rattle.std.proofs.lemmas.List.Elements.{All-cons, All-head, All-nil}
use Rattle.alto_words.specs.declared.fid.Fid.{Fid}
use Rattle.disk_records.proofs.FirstOnes.{first_all, first_front, first_then}
use Rattle.disk_records.proofs.Growing.{added-twice, nothing_added, pack-after}
use Rattle.disk_records.specs.Addresses.{real_of}
use Rattle.disk_records.specs.Frames.{IsFreeSector}
use Rattle.disk_records.specs.Commands.{claim_writes, value_writes}
use Rattle.disk_records.specs.Events.{IsFirstOf, writes_in}
use Rattle.disk_records.specs.Labels.{label_of}
use Rattle.disk_records.specs.Packs.{Pack, after, is_free_at}
use Rattle.disk_records.specs.Tapes.{DiskAlone, Taped, added, pack}
use Rattle.disk_records.specs.declared.records.Event.{Event}
use Rattle.disk_records.specs.declared.records.Page.{Page}
use Rattle.disk_records.specs.declared.records.Place.{Place}
use Rattle.disk_records.specs.declared.shape.Shape.{Shape}
use Rattle.label_check.specs.Guarded.{Guarded}
use Rattle.label_check.specs.declared.errors.GuardError.{GuardError}
use Rattle.laws_operation.proofs.grow.Laws.{claims_keep_unclaimed_free}
use Rattle.page_seeking.specs.Seeking.{page_number}
use Rattle.page_seeking.specs.declared.refs.FileError.{FileError}
use Rattle.pack_model.specs.operations.Commands.{Claim, all_claimed, claims_of, claims_writes, sectors_of}
use Rattle.pack_model.specs.operations.PageWords.{link_to_first}
use Rattle.file_pages.specs.Growing.{CanClaim, FitsNext, Makes, next_claim}
use Rattle.file_pages.specs.Inside.{error_at}
use Rattle.file_pages.proofs.Erring.{memory_of}

-- ---- lists
-- the sectors are those that were given, and there are three record writes for each
pub claims_sectors : (shape : Shape) (f : Fid) (past fresh : List ℕ) (number previous : ℕ) (bytes : List ℕ) → sectors_of (all_claimed (claims_of shape f number previous bytes past fresh)) ≡ fresh
claims_sectors shape f past [] number previous bytes = refl
claims_sectors shape f past (at ∷ fresh) number previous bytes = ap (λ l. at ∷ l) (claims_sectors shape f past fresh (suc number) at (drop 512 bytes))

pub claims_many : (shape : Shape) (f : Fid) (past fresh : List ℕ) (number previous : ℕ) (bytes : List ℕ) → length (claims_writes (claims_of shape f number previous bytes past fresh)) ≡ 3 * length fresh
claims_many shape f past [] number previous bytes = refl
claims_many shape f past (at ∷ fresh) number previous bytes = let h = claims_many shape f past fresh (suc number) at (drop 512 bytes) in omega (arith, h)

pub claims_written : (shape : Shape) (f : Fid) (past fresh : List ℕ) (number previous : ℕ) (bytes : List ℕ) → writes_in (claims_writes (claims_of shape f number previous bytes past fresh)) ≡ 3 * length fresh
claims_written shape f past [] number previous bytes = refl
claims_written shape f past (at ∷ fresh) number previous bytes = let h = claims_written shape f past fresh (suc number) at (drop 512 bytes) in omega (arith, h)

-- the words past the last page's bytes fit, and past those of others there are none
pub fits_next : (p : Pack) (before : ℕ) (bytes past : List ℕ) (at : ℕ) (later : List ℕ) → CanClaim p before bytes past (at ∷ later) → FitsNext bytes past later
fits_next p before bytes past at [] can = let room = can.room (omega arith) in omega (arith, room)
fits_next p before bytes past at (next ∷ later) can = omega arith

-- ---- midway
-- Of all these record writes those were made, from a to b, that claim the pages up to `before`, whose sector is `previous`, and the others
-- are left.
pub record Midway (writes : List Event) (most : ℕ) (a b : Taped) (f : Fid) (before previous : ℕ) (bytes past rest : List ℕ) : Type 0 where
  pub wrote : added a b ++ claims_writes (claims_of a.form f (suc before) previous bytes past rest) ≡ writes
  pub can : CanClaim (pack b) before bytes past rest
  pub runs : b.runs + 2 * length rest ≤ a.runs + most

pub midway_begins : (a : Taped) (f : Fid) (last last_at : ℕ) (bytes past fresh : List ℕ) → CanClaim (pack a) last bytes past fresh → Midway (claims_writes (claims_of a.form f (suc last) last_at bytes past fresh)) (2 * length fresh) a a f last last_at bytes past fresh
midway_begins a f last last_at bytes past fresh can = record {
  wrote = ap (λ l. l ++ claims_writes (claims_of a.form f (suc last) last_at bytes past fresh)) (nothing_added a.events);
  can = can;
  runs = omega arith;
}

-- none are left
pub midway_ends : (writes : List Event) (most : ℕ) (a b : Taped) (f : Fid) (before previous : ℕ) (bytes past rest : List ℕ) → length rest ≡ 0 → Midway writes most a b f before previous bytes past rest → Makes writes most a b (Ok tt)
midway_ends writes most a b f before previous bytes past (at ∷ rest) none x = absurd (omega (arith, none))
midway_ends writes most a b f before previous bytes past [] none x =
    let all : added a b ≡ writes = sym (append-nil (added a b)) ∙ x.wrote in
    record {
      some = subst (λ l. IsFirstOf l (added a b)) all (first_all (added a b));
      all = all;
      out_of_memory = λ memory. cc;
      runs = let r = x.runs in omega (arith, r);
    }

module _ (writes : List Event) (most : ℕ) (a b c : Taped) (f : Fid) (before previous : ℕ) (bytes past : List ℕ) (at : ℕ) (later : List ℕ) (one : DiskAlone a b) (two : DiskAlone b c) (x : Midway writes most a b f before previous bytes past (at ∷ later)) where
  abbrev next : Claim
  next = next_claim a.form (page_number f (suc before)) previous bytes past at later

  abbrev left : List Event
  left = claims_writes (claims_of a.form f (suc (suc before)) at (drop 512 bytes) past later)

  -- the sector to come is free
  pub next_is_free : is_free_at (pack b) at ≡ true
  next_is_free = All-head (λ i. is_free_at (pack b) i ≡ true) at later x.can.free

  both : added a c ≡ added a b ++ added b c
  both = added-twice one.grown two.grown

  -- it was claimed
  pub midway_goes_on : Guarded {T = Unit {0}} (λ p. IsFreeSector p at) at (value_writes at (next_claim a.form (page_number f (suc before)) previous bytes past at later).value) (claim_writes at (next_claim a.form (page_number f (suc before)) previous bytes past at later).label (next_claim a.form (page_number f (suc before)) previous bytes past at later).value) 2 b c (Ok tt)
      → Midway writes most a c f (suc before) at (drop 512 bytes) past later
  midway_goes_on guarded =
      let wrote : added b c ≡ claim_writes at next.label next.value = guarded.ok.wrote in
      let packs : pack c ≡ after (pack b) (claims_writes (next ∷ [])) = pack-after two.grown ∙ ap (after (pack b)) wrote in
      let can = x.can in
      let less : length (drop 512 bytes) ≡ length bytes - 512 = length-drop 512 bytes in
      record {
        wrote = ap (λ l. l ++ left) (both ∙ ap (λ l. added a b ++ l) wrote) ∙ append_assoc (added a b) (claim_writes at next.label next.value) left ∙ x.wrote;
        can = record {
          free = λ k d within. subst (λ p. is_free_at p (get_or later k d) ≡ true) (sym packs)
              (claims_keep_unclaimed_free (pack b) (next ∷ []) (get_or later k d) (can.free (suc k) d (omega (arith, within)))
              (All-cons (λ i. get_or later k d ≢ i) at [] (λ same. can.distinct 0 (suc k) d (omega arith) (omega (arith, within)) (sym same)) (All-nil (λ i. get_or later k d ≢ i))));
          distinct = λ i j d less within. can.distinct (suc i) (suc j) d (omega (arith, less)) (omega (arith, within));
          few = let few = can.few in omega (arith, few);
          small = can.small;
          room = λ some. let room = can.room (omega arith) in let small = can.small in omega (arith, room, small, some, less);
        };
        runs = let now = guarded.runs in let was = x.runs in omega (arith, now, was);
      }

  -- it wasn't
  pub midway_breaks_off : (error : GuardError) (place : Place) (held : ℕ) (wanted : Page) (e : FileError) → e ≡ error_at place held wanted error
      → Guarded {T = Unit {0}} (λ p. IsFreeSector p at) at (value_writes at (next_claim a.form (page_number f (suc before)) previous bytes past at later).value) (claim_writes at (next_claim a.form (page_number f (suc before)) previous bytes past at later).label (next_claim a.form (page_number f (suc before)) previous bytes past at later).value) 2 b c (Err error)
      → Makes writes most a c (Err e)
  midway_breaks_off error place held wanted e same guarded =
      let sum : length (added a b ++ (claim_writes at next.label next.value ++ left)) ≡ length (added a b) + length (claim_writes at next.label next.value ++ left) = length-append (added a b) (claim_writes at next.label next.value ++ left) in
      let all = ap length x.wrote in
      let spare = one.grown.spare in
      record {
        some = subst (IsFirstOf writes) (sym both) (subst (λ l. IsFirstOf l (added a b ++ added b c)) x.wrote
            (first_then (added a b) (claim_writes at next.label next.value ++ left) (added a b) (added b c) refl (first_front (claim_writes at next.label next.value) left (added b c) guarded.some)));
        all = tt;
        out_of_memory = λ memory. let less = (guarded.want (memory_of error place held wanted e same memory)).less in omega (arith, less, spare, sum, all);
        runs = let now = guarded.runs in let was = x.runs in omega (arith, now, was);
      }

-- ---- one label
pub same_claim_label : (shape form : Shape) (f : Fid) (n m previous : ℕ) (bytes past : List ℕ) (at : ℕ) (later : List ℕ) → shape ≡ form → n ≡ m → (next_claim shape (page_number f n) previous bytes past at later).label ≡ (next_claim form (page_number f m) previous bytes past at later).label
same_claim_label shape form f n m previous bytes past at later same number = λ i. label_of (page_number f (number i)) (min 512 (length bytes)) (link_to_first (same i) later) (real_of (same i) previous)
