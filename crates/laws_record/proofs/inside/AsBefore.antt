-- Record writes after which a pack is read or viewed as before.
use Rattle.std.proofs.Common.{[], ◌∷◌}
use Rattle.pack_laws.specs.disk_records.specs.Packs.{Pack, after}
use Rattle.pack_laws.specs.disk_records.specs.declared.records.Event.TheVariants.{Wrote}
use Rattle.laws_record.proofs.Copying.{copy_claim, copy_release, lowest_release}
use Rattle.laws_record.proofs.DirEnds.{cut_at_slots}
use Rattle.laws_record.proofs.DirKinds.{loose_words}
use Rattle.laws_record.proofs.Lasting.{last_claim, same_leader}
use Rattle.laws_record.proofs.SystemWrites.{descriptor_leader, descriptor_pages, system_leader_value}
use Rattle.laws_record.proofs.Systemic.{mended_same, mended_stays}
use Rattle.laws_record.proofs.Unread.{stray_release, unread_claim, unread_release}
use Rattle.laws_record.proofs.Unseen.{equal_value, free_value, leader_hints, other_links, past_count}
use Rattle.laws_record.proofs.Unused.{unused_release}
use Rattle.laws_record.specs.DirLaws.{CutAtSlots, LooseWords, UnusedRelease}
use Rattle.laws_record.specs.QuietLaws.{CopyClaim, CopyRelease, EqualValue, FreeValue, LastClaim, LeaderHints, LowestRelease, OtherLinks, PastCount, ReadsSame, SameLeader, StrayRelease, UnreadClaim, UnreadRelease, with_label, with_value}
use Rattle.laws_record.specs.ViewLaws.{DescriptorLeader, DescriptorPages, SystemLeaderValue, ViewsSame}

-- ---- read
-- any value of a free sector
pub free_value_reads_same : FreeValue ReadsSame
free_value_reads_same p at value is = (free_value p at value is).read

-- the value that stands there
pub equal_value_reads_same : EqualValue ReadsSame
equal_value_reads_same p at = (equal_value p at).read

-- a label with other links
pub other_links_reads_same : OtherLinks ReadsSame
other_links_reads_same p at label e = (other_links p at label e).read

-- a data page's value with the same counted bytes
pub past_count_reads_same : PastCount ReadsSame
past_count_reads_same p at page value is some e = (past_count p at page value is some e).read

-- a leader page's value with the same words before the hints
pub leader_hints_reads_same : LeaderHints ReadsSame
leader_hints_reads_same p at page value is first e = (leader_hints p at page value is first e).read

-- a leader page's value that says the same
pub same_leader_reads_same : SameLeader ReadsSame
same_leader_reads_same p at page value is first e = (same_leader p at page value is first e).read

-- a page that isn't read comes
pub unread_claim_reads_same : UnreadClaim ReadsSame
unread_claim_reads_same p at page label is names past = (unread_claim p at page label is names past).read

-- and goes
pub unread_release_reads_same : UnreadRelease ReadsSame
unread_release_reads_same p at page label is none past = (unread_release p at page label is none past).read

-- so does a label out of range
pub stray_release_reads_same : StrayRelease ReadsSame
stray_release_reads_same p at label none now = (stray_release p at label none now).read

-- a second copy goes
pub copy_release_reads_same : CopyRelease ReadsSame
copy_release_reads_same p at lower page label is other low none = (copy_release p at lower page label is other low none).read

-- a copy comes
pub copy_claim_reads_same : CopyClaim ReadsSame
copy_claim_reads_same p at source page label is bears copy = (copy_claim p at source page label is bears copy).read

-- the lowest copy goes
pub lowest_release_reads_same : LowestRelease ReadsSame
lowest_release_reads_same p at next page label bears other above between copy none = (lowest_release p at next page label bears other above between copy none).read

-- a missing last page comes
pub last_claim_reads_same : LastClaim ReadsSame
last_claim_reads_same p at page label is names empty number none = (last_claim p at page label is names empty number none).read

-- other loose words of a directory
pub loose_words_reads_same : LooseWords ReadsSame
loose_words_reads_same p d w at new write loose = (loose_words p d w at new write loose).read

-- a directory ends with its slots
pub cut_at_slots_reads_same : CutAtSlots ReadsSame
cut_at_slots_reads_same p d at n label dir bears names low ends = (cut_at_slots p d at n label dir bears names low ends).read

-- ---- viewed
-- DiskDescriptor's data pages
pub descriptor_pages_views_same : DescriptorPages ViewsSame
descriptor_pages_views_same p at part words was now = let q : Pack = after p (Wrote at part words ∷ []) in mended_same p q (mended_stays p q (descriptor_pages p at part words was now))

-- its first leader
pub descriptor_leader_views_same : DescriptorLeader ViewsSame
descriptor_leader_views_same p at label is names = mended_same p (with_label p at label) (descriptor_leader p at label is names)

-- a system file's leader
pub system_leader_value_views_same : SystemLeaderValue ViewsSame
system_leader_value_views_same p at f value system is = mended_same p (with_value p at value) (system_leader_value p at f value system is)

-- a page that isn't in use goes
pub unused_release_views_same : UnusedRelease ViewsSame
unused_release_views_same p at page label is unused only none = let q : Pack = with_label p at label in mended_same p q (mended_stays p q (unused_release p at page label is unused only none))
