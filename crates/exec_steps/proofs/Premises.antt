-- What a new file and its entry ask of the pack, by what is known before them.
use Rattle.std.proofs.Common.{Bool, List, Some, [], ap, arith, false, length, refl, subst, sym, take, true, ℕ, ◌+◌, ◌<◌, ◌^◌, ◌∙◌, ◌∷◌, ◌≡◌, ◌≢◌, ◌≤◌}
use Rattle.alto_words.specs.Fid.{disk_descriptor, is_fid, serial_of}
use Rattle.alto_words.specs.declared.fid.Fid.{Fid}
use Rattle.disk_records.specs.Packs.{Pack, is_free_at, sector_at}
use Rattle.disk_records.specs.Words.{word}
use Rattle.disk_records.specs.declared.records.Event.{Event}
use Rattle.exec_session.specs.laws_call.proofs.writing.Laws.{written_acts}
use Rattle.exec_session.specs.laws_call.specs.Writing.{makes}
use Rattle.exec_session.specs.laws_line.specs.CrashLaws.{StaysMendable, with_serial}
use Rattle.exec_session.specs.laws_operation.proofs.descriptor.Laws.{serial_carries_out}
use Rattle.exec_session.specs.laws_operation.proofs.places.Laws.{serial_keeps_places}
use Rattle.exec_session.specs.laws_operation.proofs.values.Laws.{values_leave_free_sectors}
use Rattle.exec_session.specs.laws_operation.specs.DescriptorLaws.{GivesSerial}
use Rattle.exec_session.specs.laws_operation.specs.FileWords.{CanMake}
use Rattle.exec_session.specs.pack_laws.proofs.Keys.{same_fid}
use Rattle.pack_model.specs.operations.Commands.{first_page_claim, leader_claim}
use Rattle.pack_model.specs.operations.Operations.{make_writes}
use Rattle.pack_model.specs.operations.Step.Operation.{make}
use Rattle.pack_model.specs.reading.Files.{lives, place}
use Rattle.pack_model.specs.reading.Model.{read_as}
use Rattle.pack_model.specs.reading.Sights.{sights}
use Rattle.pack_model.specs.sessions.Descriptor.{serial_value, serial_writes}
use Rattle.pack_model.specs.states.Whole.{Tidy, Whole}
use Rattle.session_model.specs.Keeping.{Kept}
use Rattle.session_model.specs.Refusals.{most_serials}
use Rattle.exec_steps.specs.Asked.{MayMakeNext, made_fid}
use Rattle.exec_steps.specs.Midway.{AreFree}

-- ---- full names
pub made_serial : (is_dir : Bool) (n : ℕ) → n < 2 ^ 31 → serial_of (made_fid is_dir n) ≡ n
made_serial true n low = omega (arith, low)
made_serial false n low = omega (arith, low)

pub few_serials : (n : ℕ) → n < most_serials → n + 1 < 2 ^ 31
unfolding most_serials
few_serials n h = omega (arith, h)

-- ---- two sectors
pub two_of : (fresh : List ℕ) → 2 ≤ length fresh → take 2 fresh ≡ word fresh 0 ∷ word fresh 1 ∷ []
two_of [] many = absurd (omega (arith, many))
two_of (x ∷ []) many = absurd (omega (arith, many))
two_of (x ∷ y ∷ fresh) many = refl

pub record TwoFree (p : Pack) (x y : ℕ) : Type 0 where
  pub first : is_free_at p x ≡ true
  pub second : is_free_at p y ≡ true
  pub apart : x ≢ y

pub two_free : (p : Pack) (x y : ℕ) → AreFree p (x ∷ y ∷ []) → TwoFree p x y
two_free p x y free = record { first = free.0 0 0 (omega arith); second = free.0 1 0 (omega arith); apart = free.1 0 1 0 (omega arith) (omega arith) }

-- ---- a make after its serial
module _ (p : Pack) (k : Kept) (is_dir : Bool) (name fresh : List ℕ) (moment bt : ℕ) (may : MayMakeNext p k is_dir name fresh) (many : 2 ≤ length fresh) (placed : place (sights p) disk_descriptor 1 ≡ Some bt) where
  abbrev f : Fid
  f = made_fid is_dir (k.last + 1)

  pub above : (read_as p).last ≤ k.last + 1
  above = let e = may.fits.last_is in omega (arith, e)

  gives : GivesSerial p (k.last + 1) (serial_writes bt (k.last + 1) (sector_at p bt).value)
  gives = serial_carries_out p bt (k.last + 1) may.whole may.tidy placed above

  -- a file that doesn't live isn't DiskDescriptor
  other : is_fid f disk_descriptor ≡ false
  other = by (is_fid f disk_descriptor) refl
    where
      by : (b : Bool) → is_fid f disk_descriptor ≡ b → b ≡ false
      by false e = refl
      by true e = let dead = may.fresh_file in let alive = may.whole.descriptor_lives in let same = ap (λ g. lives (sights p) g) (same_fid f disk_descriptor e) in absurd (let both = sym dead ∙ same ∙ alive in cc)

  free_two : TwoFree (with_serial p bt (k.last + 1)) (word fresh 0) (word fresh 1)
  free_two =
      let t = two_free p (word fresh 0) (word fresh 1) (subst (AreFree p) (two_of fresh many) may.free) in
      let same = values_leave_free_sectors p ((bt, serial_value (k.last + 1) (sector_at p bt).value) ∷ []) in
      record { first = same (word fresh 0) ∙ t.first; second = same (word fresh 1) ∙ t.second; apart = t.apart }

  pub can_make : CanMake (with_serial p bt (k.last + 1)) f name (word fresh 0) (word fresh 1)
  can_make = record {
    no_descriptor = other;
    full_name = may.full_name;
    not_there = (serial_keeps_places p bt (k.last + 1) (sector_at p bt).value).living f ∙ may.fresh_file;
    last = ap (λ m. m.last) gives.reads ∙ sym (made_serial is_dir (k.last + 1) (few_serials k.last may.left));
    stored = may.stored;
    leader_free = free_two.first;
    page_free = free_two.second;
    two = free_two.apart;
  }

  pub whole_then : Whole (with_serial p bt (k.last + 1))
  whole_then = gives.keeps.whole

  pub tidy_then : Tidy (with_serial p bt (k.last + 1))
  tidy_then = gives.keeps.tidy

  abbrev pub all_writes : List Event
  all_writes = make_writes (first_page_claim (with_serial p bt (k.last + 1)).shape f (word fresh 0) (word fresh 1)) (leader_claim (with_serial p bt (k.last + 1)).shape f name moment (word fresh 0) (word fresh 1))

  pub make_stays : StaysMendable (with_serial p bt (k.last + 1)) all_writes (make f name moment)
  make_stays = (written_acts (with_serial p bt (k.last + 1)) (make f name moment) (word fresh 1 ∷ word fresh 0 ∷ []) [] all_writes whole_then tidy_then (makes can_make)).stays
