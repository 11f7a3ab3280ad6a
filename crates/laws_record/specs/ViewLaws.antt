-- Record writes after which a pack is viewed as before, on any pack: they concern the system files.
use Rattle.std.specs.Prelude.{List, None, Some, [], suc, true, ℕ, ◌∷◌, ◌≡◌}
use Rattle.pack_laws.specs.alto_words.specs.Fid.{disk_descriptor, is_system, sys_dir}
use Rattle.pack_laws.specs.alto_words.specs.declared.fid.Fid.{Fid}
use Rattle.pack_laws.specs.disk_records.specs.Labels.{page_of}
use Rattle.pack_laws.specs.disk_records.specs.Packs.{Pack, after, carried, is_free_at}
use Rattle.pack_laws.specs.disk_records.specs.declared.records.Event.TheVariants.{Wrote}
use Rattle.pack_laws.specs.pack_model.specs.reading.Files.{leader}
use Rattle.pack_laws.specs.pack_model.specs.hints.Links.{dir_words}
use Rattle.pack_laws.specs.pack_model.specs.reading.Model.{read_as}
use Rattle.pack_laws.specs.pack_model.specs.reading.Namings.{namings_in}
use Rattle.pack_laws.specs.pack_model.specs.reading.Sights.{sights}
use Rattle.pack_laws.specs.pack_model.specs.reading.Slots.{slots}
use Rattle.pack_laws.specs.pack_model.specs.showing.View.{view}
use Rattle.laws_record.specs.QuietLaws.{Relation, with_label, with_value}

-- the second pack is viewed as the first
abbrev pub ViewsSame : Relation
ViewsSame p q = view (read_as q) ≡ view (read_as p)

-- ---- DiskDescriptor
-- The sector is free, or it carries a data page of DiskDescriptor.
pub data IsDescriptorPage (p : Pack) (at : ℕ) : Type 0 where
  unclaimed : is_free_at p at ≡ true → IsDescriptorPage p at
  claimed : (n : ℕ) → carried p at ≡ Some (record { fid = disk_descriptor; number = suc n }) → IsDescriptorPage p at

-- any record of such a sector, where it is such a one afterwards too
abbrev pub DescriptorPages : Relation → Type 0
DescriptorPages Kept = (p : Pack) (at part : ℕ) (words : List ℕ) → let q : Pack = after p (Wrote at part words ∷ []) in IsDescriptorPage p at → IsDescriptorPage q at → Kept p q

-- ---- leaders of system files
-- the first leader of DiskDescriptor, or one more, in the label of a free sector
abbrev pub DescriptorLeader : Relation → Type 0
DescriptorLeader Kept = (p : Pack) (at : ℕ) (label : List ℕ) → is_free_at p at ≡ true → page_of label ≡ Some (record { fid = disk_descriptor; number = 0 }) → Kept p (with_label p at label)

-- the first leader of SysDir, in whose slots no entry stands
abbrev pub FirstLeaderOfTheMainDirectory : Type 0
FirstLeaderOfTheMainDirectory = (p : Pack) (at : ℕ) (label : List ℕ) → is_free_at p at ≡ true → page_of label ≡ Some (record { fid = sys_dir; number = 0 }) → leader (sights p) sys_dir ≡ None → namings_in sys_dir (slots (dir_words p sys_dir)) ≡ [] → ViewsSame p (with_label p at label)

-- any value of a system file's leader, as where its name is written
abbrev pub SystemLeaderValue : Relation → Type 0
SystemLeaderValue Kept = (p : Pack) (at : ℕ) (f : Fid) (value : List ℕ) → is_system f ≡ true → carried p at ≡ Some (record { fid = f; number = 0 }) → Kept p (with_value p at value)
