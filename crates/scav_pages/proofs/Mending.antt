-- All pages of a pack: what the passes free together, and what is mended in the end.
use Rattle.std.proofs.Common.{◌≡◌, ◌≤◌, ◌<◌, ◌+◌, ◌⊎◌, ◌||◌, Bool, cond, Err, Ok, ap, arith, length, false, inl, inr, min, refl, subst, sym, true, ◌∙◌, ℕ}
use Rattle.std.specs.Option.{is_some}
use Rattle.std.specs.Prelude.{IfSome, IsErrAnd, Option, Result}
use Rattle.alto_words.specs.Fid.{disk_descriptor, is_fid, is_system, sys_dir}
use Rattle.alto_words.specs.declared.fid.Fid.{Fid}
use Rattle.disk_records.specs.Addresses.{pages_of}
use Rattle.disk_records.specs.Packs.{Pack}
use Rattle.disk_records.specs.Tapes.{Grown, Taped, added, pack}
use Rattle.disk_records.proofs.Growing.{pack-after}
use Rattle.pack_model.specs.reading.Files.{lives}
use Rattle.pack_model.specs.reading.Leaders.{Leader}
use Rattle.pack_model.specs.reading.Sights.{sights}
use Rattle.pack_model.specs.scavenger.Reports.{PagesMended, adopted_files, freed_sectors}
use Rattle.pack_model.specs.scavenger.Scavenging.{Scavengeable}
use Rattle.laws_mend.specs.pack_laws.proofs.Keys.{same_fid}
use Rattle.laws_mend.specs.laws_operation.proofs.places.Laws.{file_lives_in_a_place}
use Rattle.laws_mend.specs.JoinLaws.{Ends}
use Rattle.laws_mend.specs.Parts.{FreesMore}
use Rattle.laws_mend.specs.Tending.{Tends}
use Rattle.laws_mend.proofs.joins.Laws.{tending_ends}
use Rattle.laws_mend.proofs.numbers.Laws.{freed_and_free, frees_join, used_available_is_free}
use Rattle.scav_table.specs.declared.errors.SweepError.{SweepError}
use Rattle.scav_table.specs.declared.errors.SweepError.TheVariants as sweep
use Rattle.scav_pages.specs.Changes.{AllMend}
use Rattle.scav_pages.specs.Fresh.{own_name}
use Rattle.scav_pages.specs.Keeping.{Leads}
use Rattle.scav_pages.specs.declared.errors.Stop.{Stop}
use Rattle.scav_pages.specs.declared.errors.Stop.TheVariants.{DiskFault, Memory, Astray}
use Rattle.scav_pages.specs.declared.unused.Unused.{Unused}
use Rattle.scav_pages.specs.Does.{Does}
use Rattle.scav_pages.specs.Mending.{AreMended, MendsOrStops, MendsPages}
use Rattle.scav_pages.specs.Parts.{CopiesReleased, DirectoriesEnd, MayMoveRoot, StraysReleased, UnusedReleased}
use Rattle.scav_pages.proofs.Ahead.{free_few}
use Rattle.scav_pages.proofs.Claiming.{root_carried}
use Rattle.scav_pages.proofs.Doing.{Going, error_is}
use Rattle.scav_pages.proofs.Keeping.{carried_lives}

-- ---- how many are freed
-- what four passes free together, as long as it can be counted
pub all_released : (p q r s t : Pack) (copies strays both total : ℕ) (unused : Unused) → CopiesReleased p q copies → StraysReleased q r strays → DirectoriesEnd r s tt → UnusedReleased s t unused → length t.sectors < 4294967296
    → both ≡ min (copies + strays) 4294967295 → total ≡ min (both + unused.freed) 4294967295 → UnusedReleased p t (record { freed = total; root = unused.root })
all_released p q r s t copies strays both total unused one two three four low first all =
    let frees : FreesMore p t (((copies + strays) + 0) + unused.freed) = frees_join p s t ((copies + strays) + 0) unused.freed (frees_join p r s (copies + strays) 0 (frees_join p q r copies strays one.frees two.frees) three.frees) four.frees in
    let most = free_few t in
    let free_then = frees.free in
    let same : ((copies + strays) + 0) + unused.freed ≡ total = omega arith in
    record { used = four.used; frees = subst (FreesMore p t) same frees; root = four.root }

-- a sector of the same disk
pub root_within : {a b : Taped} → Grown a b → (root : Option ℕ) → IfSome root (λ at. (1 ≤ at) × (at < pages_of b.form)) → IfSome root (λ at. (1 ≤ at) × (at < pages_of a.form))
root_within {a} {b} grown root is = subst (λ shape. IfSome root (λ at. (1 ≤ at) × (at < pages_of shape))) grown.form is

-- ---- in the end
-- what each crash point of a run comes to
mending_ends : (a b : Taped) → AllMend (pack a) (added a b) → Ends (pack a) (added a b)
mending_ends a b mends = tending_ends (pack a) (added a b) mends.tends

tended : (a b : Taped) → Grown a b → AllMend (pack a) (added a b) → Tends (pack a) (pack b)
tended a b grown mends = subst (Tends (pack a)) (sym (pack-after grown)) (mending_ends a b mends).last

-- a pack that can be scavenged can be so midway
pub ready_midway : (a b : Taped) → Going a b → Scavengeable (pack a) → Scavengeable (pack b)
ready_midway a b x ready = (tended a b x.grown x.mends).keeps.scavengeable ready

pub may_move : (a b : Taped) (unused : Unused) → Going a b → Scavengeable (pack a) → UnusedReleased (pack a) (pack b) unused → MayMoveRoot (pack b) unused.root
may_move a b unused x ready released = record { scavengeable = ready_midway a b x ready; used = released.used; root_is = released.root }

-- where each good sector is free or in use, as many more are free as were available and not free
pub freed_all : (p q : Pack) (unused : Unused) → UnusedReleased p q unused → unused.freed ≡ freed_sectors p.shape (sights p)
freed_all p q unused released =
    let now = used_available_is_free q released.used in
    let was = freed_and_free p in
    let free_then = released.frees.free in
    let available_then = released.frees.available_is in
    omega arith

-- the system files live, and each name can be read
system_lives : {q : Pack} → PagesMended q → (f : Fid) → is_system f ≡ true → lives (sights q) f ≡ true
system_lives {q} mended f system = by (is_fid f sys_dir) (is_fid f disk_descriptor) refl refl system
  where
    by : (s t : Bool) → is_fid f sys_dir ≡ s → is_fid f disk_descriptor ≡ t → (s || t) ≡ true → lives (sights q) f ≡ true
    by true t e d is = ap (lives (sights q)) (same_fid f sys_dir e) ∙ carried_lives q 1 sys_dir (root_carried q mended.pages.root.0 mended.pages.root.1 mended.pages.root.2)
    by false true e d is = ap (lives (sights q)) (same_fid f disk_descriptor d) ∙ mended.pages.descriptor_lives
    by false false e d is = cc

named_then : {q : Pack} {f : Fid} {l : Leader} → PagesMended q → (readable : Bool) → Leads q f readable l ⊎ ((readable ≡ false) × Leads q f true (record l { name = own_name f })) → Leads q f true (cond readable l (record l { name = own_name f }))
named_then mended true (inl same) = same
named_then mended true (inr named) = absurd (let wrong : true ≡ false = named.0 in cc)
named_then {q} {f} {l} mended false (inl same) = absurd (let wrong : false ≡ true = mended.pages.readable f (file_lives_in_a_place q f ∙ ap is_some same.sector) same.at false l same.sector same.says in cc)
named_then mended false (inr named) = named.1

pub are_mended : (a b c : Taped) (unused : Unused) → Going a c → UnusedReleased (pack a) (pack b) unused → PagesMended (pack c) → AreMended (pack a) (pack c) unused.freed
are_mended a b c unused x released mended = record {
  mended = mended;
  freed_is = freed_all (pack a) (pack b) unused released;
  adopted = subst (λ q. adopted_files q ≡ adopted_files (pack a)) (sym (pack-after x.grown)) (mending_ends a c x.mends).adopted;
  keeps = (tended a c x.grown x.mends).keeps;
  slots_are = x.keeps.slots_are;
  root = λ dead. elim (x.keeps.root dead) [
    | inl still ↦ absurd (let wrong : true ≡ false = sym (carried_lives (pack c) 1 sys_dir (root_carried (pack c) mended.pages.root.0 mended.pages.root.1 mended.pages.root.2)) ∙ still in cc)
    | inr made ↦ made.1
  ];
  leaders = λ f readable l lead. named_then mended readable (x.keeps.leaders.kept f readable l lead);
  fresh = λ f system dead. elim (x.keeps.leaders.made f system dead) [
    | inl still ↦ absurd (let wrong : true ≡ false = sym (system_lives mended f system) ∙ still in cc)
    | inr new ↦ new
  ];
}

-- ---- as the answer of a sweep
module _ (a b : Taped) (grown : Grown a b) (freed : ℕ) where
  -- what all passes say, where so many sectors were freed
  abbrev pub DoesMend : Result (Unit {0}) Stop → Type 0
  DoesMend result = Does (λ p q done. AreMended p q freed) a b result

  pub mends_ok : DoesMend (Ok tt) → MendsPages a b (Ok freed)
  mends_ok does =
      let ends = mending_ends a b does.mends in
      record { mended = does.leaves; want = λ is. cc; kept = ends.kept; unclean = ends.unclean; unmarked = (tended a b grown does.mends).unmarked; changes = does.mends.changes }

  mends_err : (stop : Stop) (error : SweepError) → (error ≡ sweep.Memory → stop ≡ Memory) → DoesMend (Err stop) → MendsPages a b (Err error)
  mends_err stop error room does =
      let ends = mending_ends a b does.mends in
      record {
        mended = tt;
        want = λ is. (let same : error ≡ sweep.Memory = cc in does.want (ap Err (room same)));
        kept = ends.kept;
        unclean = ends.unclean;
        unmarked = (tended a b grown does.mends).unmarked;
        changes = does.mends.changes;
      }

  pub mends_fault : DoesMend (Err DiskFault) → MendsPages a b (Err sweep.DiskFault)
  mends_fault does = mends_err DiskFault sweep.DiskFault (λ is. cc) does

  pub mends_memory : DoesMend (Err Memory) → MendsPages a b (Err sweep.Memory)
  mends_memory does = mends_err Memory sweep.Memory (λ is. refl) does

  -- a sector is always found as it has to be
  pub mends_astray : DoesMend (Err Astray) → MendsPages a b (Ok freed)
  mends_astray does = absurd (does.found refl)

  -- the same with a word for going astray
  pub mends_or_ends : DoesMend (Ok tt) → MendsOrStops a b (Ok freed)
  mends_or_ends does = record { mends = mends_ok does; found = λ is. cc }

  stops_so : (stop : Stop) → DoesMend (Err stop) → MendsOrStops a b (Err stop)
  stops_so DiskFault does = record { mends = mends_fault does; found = λ is. cc }
  stops_so Memory does = record { mends = mends_memory does; found = λ is. cc }
  stops_so Astray does = absurd (does.found refl)

  pub mends_or_stops : (stop : Stop) (result : Result ℕ Stop) → DoesMend (Err stop) → IsErrAnd result (λ s. s ≡ stop) → MendsOrStops a b result
  mends_or_stops stop result does is = subst (MendsOrStops a b) (sym (error_is result is)) (stops_so stop does)
