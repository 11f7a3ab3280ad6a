-- Record writes that keep, of any pack, what a scavenge keeps: what is shown, and the available sectors less the needed ones.
use Rattle.std.specs.Prelude.{List, None, Some, [], true, ℕ, ◌∷◌, ◌≡◌}
use Rattle.laws_operation.specs.alto_words.specs.Fid.{sys_dir}
use Rattle.laws_operation.specs.disk_records.specs.Labels.{page_of}
use Rattle.laws_operation.specs.disk_records.specs.Packs.{Pack, carried, is_free_at, is_usable, sector_at}
use Rattle.laws_operation.specs.pack_model.specs.reading.Files.{leader}
use Rattle.laws_operation.specs.pack_model.specs.hints.Links.{dir_words}
use Rattle.laws_operation.specs.pack_model.specs.scavenger.Scavenging.{Keeps, RootStands}
use Rattle.laws_operation.specs.pack_model.specs.reading.Sights.{sights}
use Rattle.laws_operation.specs.pack_model.specs.reading.Slots.{slots}
use Rattle.laws_operation.specs.pack_model.specs.reading.Slots.Item.{space}
use Rattle.laws_record.specs.QuietLaws.{Relation, with_label}

-- Sector 1 has the page that it had, or none, or SysDir's leader: so it may become SysDir's leader afterwards if it might before.
pub data RootMay (p q : Pack) : Type 0 where
  as_before : is_usable q.shape 1 (sector_at q 1) ≡ is_usable p.shape 1 (sector_at p 1) → carried q 1 ≡ carried p 1 → RootMay p q
  made_free : is_free_at q 1 ≡ true → RootMay p q
  its_leader : carried q 1 ≡ Some (record { fid = sys_dir; number = 0 }) → RootMay p q

-- it keeps what a scavenge keeps, where sector 1 may still become SysDir's leader
abbrev pub KeepsAside : Relation
KeepsAside p q = RootMay p q → Keeps p q

-- the same, where the premise on sector 1 is told by the files too: a leader more may make its page count
abbrev pub KeepsWithRoot : Relation
KeepsWithRoot p q = (RootStands p.shape (sights p) → RootStands q.shape (sights q)) → Keeps p q

-- the first leader of SysDir, whose slots are one free slot of 255 words
abbrev pub FreshLeaderOfTheMainDirectoryKeeps : Relation → Type 0
FreshLeaderOfTheMainDirectoryKeeps Kept = (p : Pack) (at : ℕ) (label : List ℕ) → is_free_at p at ≡ true → page_of label ≡ Some (record { fid = sys_dir; number = 0 }) → leader (sights p) sys_dir ≡ None → slots (dir_words p sys_dir) ≡ space 255 ∷ [] → Kept p (with_label p at label)
