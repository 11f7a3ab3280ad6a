-- Record writes that keep what a scavenge keeps.
use Rattle.std.proofs.Common.{[], ◌∷◌}
use Rattle.laws_operation.specs.disk_records.specs.Packs.{Pack, after, sector_at}
use Rattle.laws_operation.specs.disk_records.specs.declared.records.Event.TheVariants.{Wrote}
use Rattle.laws_room.proofs.inside.Balancing.{mended_keeps}
use Rattle.laws_room.proofs.inside.FreshRoot.{fresh_root}
use Rattle.laws_room.proofs.inside.RootStanding.{root_may, within_stays}
use Rattle.laws_room.specs.KeepLaws.{FreshLeaderOfTheMainDirectoryKeeps, KeepsAside, KeepsWithRoot}
use Rattle.laws_record.proofs.Copying.{copy_claim, copy_release, lowest_release}
use Rattle.laws_record.proofs.DirEnds.{cut_at_slots}
use Rattle.laws_record.proofs.DirKinds.{loose_words}
use Rattle.laws_record.proofs.Lasting.{last_claim, same_leader}
use Rattle.laws_record.proofs.Staying.{FilesStay}
use Rattle.laws_record.proofs.SystemWrites.{descriptor_leader, descriptor_pages, system_leader_value}
use Rattle.laws_record.proofs.Systemic.{mended_stays}
use Rattle.laws_record.proofs.Unread.{stray_release, unread_claim, unread_release}
use Rattle.laws_record.proofs.Unseen.{equal_value, free_value, leader_hints, other_links, past_count}
use Rattle.laws_record.proofs.Unused.{unused_release}
use Rattle.laws_record.specs.DirLaws.{CutAtSlots, LooseWords, UnusedRelease, dir_written}
use Rattle.laws_record.specs.QuietLaws.{CopyClaim, CopyRelease, EqualValue, FreeValue, LastClaim, LeaderHints, LowestRelease, OtherLinks, PastCount, SameLeader, StrayRelease, UnreadClaim, UnreadRelease, with_label, with_value}
use Rattle.laws_record.specs.ViewLaws.{DescriptorLeader, DescriptorPages, SystemLeaderValue}

-- the same files are found
files_keep : (p q : Pack) → FilesStay p q → KeepsAside p q
files_keep p q s may = mended_keeps p q (mended_stays p q s) (root_may p q (within_stays p q s) may)

-- any value of a free sector
pub free_value_keeps_aside : FreeValue KeepsAside
free_value_keeps_aside p at value is = files_keep p (with_value p at value) (free_value p at value is).files

-- the value that stands there
pub equal_value_keeps_aside : EqualValue KeepsAside
equal_value_keeps_aside p at = files_keep p (with_value p at (sector_at p at).value) (equal_value p at).files

-- a label with other links
pub other_links_keeps_aside : OtherLinks KeepsAside
other_links_keeps_aside p at label e = files_keep p (with_label p at label) (other_links p at label e).files

-- a data page's value with the same counted bytes
pub past_count_keeps_aside : PastCount KeepsAside
past_count_keeps_aside p at page value is some e = files_keep p (with_value p at value) (past_count p at page value is some e).files

-- a leader page's value with the same words before the hints
pub leader_hints_keeps_aside : LeaderHints KeepsAside
leader_hints_keeps_aside p at page value is first e = files_keep p (with_value p at value) (leader_hints p at page value is first e).files

-- a leader page's value that says the same
pub same_leader_keeps_aside : SameLeader KeepsAside
same_leader_keeps_aside p at page value is first e = files_keep p (with_value p at value) (same_leader p at page value is first e).files

-- a page that isn't read comes
pub unread_claim_keeps_aside : UnreadClaim KeepsAside
unread_claim_keeps_aside p at page label is names past = files_keep p (with_label p at label) (unread_claim p at page label is names past).files

-- and goes
pub unread_release_keeps_aside : UnreadRelease KeepsAside
unread_release_keeps_aside p at page label is none past = files_keep p (with_label p at label) (unread_release p at page label is none past).files

-- so does a label out of range
pub stray_release_keeps_aside : StrayRelease KeepsAside
stray_release_keeps_aside p at label none now = files_keep p (with_label p at label) (stray_release p at label none now).files

-- a second copy goes
pub copy_release_keeps_aside : CopyRelease KeepsAside
copy_release_keeps_aside p at lower page label is other low none = files_keep p (with_label p at label) (copy_release p at lower page label is other low none).files

-- a copy comes
pub copy_claim_keeps_aside : CopyClaim KeepsAside
copy_claim_keeps_aside p at source page label is bears copy = files_keep p (with_label p at label) (copy_claim p at source page label is bears copy).files

-- the lowest copy goes
pub lowest_release_keeps_aside : LowestRelease KeepsAside
lowest_release_keeps_aside p at next page label bears other above between copy none = files_keep p (with_label p at label) (lowest_release p at next page label bears other above between copy none).files

-- a missing last page comes
pub last_claim_keeps_aside : LastClaim KeepsAside
last_claim_keeps_aside p at page label is names empty number none = files_keep p (with_label p at label) (last_claim p at page label is names empty number none).files

-- other loose words of a directory
pub loose_words_keeps_aside : LooseWords KeepsAside
loose_words_keeps_aside p d w at new write loose = files_keep p (dir_written p w at new) (loose_words p d w at new write loose).files

-- a directory ends with its slots
pub cut_at_slots_keeps_aside : CutAtSlots KeepsAside
cut_at_slots_keeps_aside p d at n label dir bears names low ends = files_keep p (with_label p at label) (cut_at_slots p d at n label dir bears names low ends).files

-- a page that isn't in use goes
pub unused_release_keeps_aside : UnusedRelease KeepsAside
unused_release_keeps_aside p at page label is unused only none = files_keep p (with_label p at label) (unused_release p at page label is unused only none)

-- DiskDescriptor's data pages
pub descriptor_pages_keeps_aside : DescriptorPages KeepsAside
descriptor_pages_keeps_aside p at part words was now = files_keep p (after p (Wrote at part words ∷ [])) (descriptor_pages p at part words was now)

-- DiskDescriptor's first leader
pub descriptor_leader_keeps_with_root : DescriptorLeader KeepsWithRoot
descriptor_leader_keeps_with_root p at label is names = mended_keeps p (with_label p at label) (descriptor_leader p at label is names)

-- a system file's leader
pub system_leader_value_keeps_with_root : SystemLeaderValue KeepsWithRoot
system_leader_value_keeps_with_root p at f value system is = mended_keeps p (with_value p at value) (system_leader_value p at f value system is)

-- SysDir's first leader, over one free slot
pub fresh_leader_of_the_main_directory_keeps : FreshLeaderOfTheMainDirectoryKeeps KeepsWithRoot
fresh_leader_of_the_main_directory_keeps p at label is names none slots = mended_keeps p (with_label p at label) (fresh_root p at label is names none slots)
