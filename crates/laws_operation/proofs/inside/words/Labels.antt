-- Labels that name pages.
use Rattle.std.proofs.Common.{Bool, List, None, Some, ap, cond, le-leb, not, sym, true, false, ℕ, ◌&&◌, ◌<◌, ◌∙◌, ◌≡◌, ◌≤◌}
use Rattle.std.proofs.lemmas.Bool.{lt-ltb}
use Rattle.std.specs.Prelude.{nat_le, nat_lt, ◌==◌}
use Rattle.laws_contents.specs.alto_words.specs.Fid.{is_full_name, serial_of}
use Rattle.laws_contents.specs.alto_words.specs.declared.fid.Fid.{Fid}
use Rattle.laws_contents.specs.disk_records.specs.Labels.{in_range, label_of, page_of, tag}
use Rattle.laws_contents.specs.disk_records.specs.Packs.{Pack, sector_at}
use Rattle.laws_contents.specs.pack_model.specs.reading.Files.{lives, place}
use Rattle.laws_contents.specs.pack_model.specs.operations.PageWords.{page_number}
use Rattle.laws_contents.specs.pack_model.specs.reading.Sights.{sights}
use Rattle.laws_contents.specs.pack_laws.proofs.Guarding.{carried_parts}
use Rattle.laws_contents.specs.pack_laws.proofs.Placing.{place_of_leader}
use Rattle.laws_contents.specs.laws_record.proofs.Copying.{place_carried}
use Rattle.laws_contents.specs.laws_record.proofs.DirReads.{has_leader}
use Rattle.laws_contents.specs.laws_record.proofs.Heads.{and_left}
use Rattle.laws_operation.proofs.Making.{named_page}

-- a full name that can be given, with a count and a number, is in range
all_five : (a b c d e : Bool) → a ≡ true → (b && c && d) ≡ true → e ≡ true → (a && b && c && d && e) ≡ true
all_five a b c d e x y z = ap (λ t. t && b && c && d && e) x ∙ ap (λ t. t && e) y ∙ z

middle_three : (a b c d e : Bool) → (a && b && c && d && e) ≡ true → (b && c && d) ≡ true
middle_three true b c d e h = and_left (b && c && d) e h
middle_three false b c d e h = absurd cc

pub label_range : (f : Fid) (n bytes next previous : ℕ) → is_full_name f ≡ true → bytes ≤ 512 → n < 65536 → in_range (tag (label_of (page_number f n) bytes next previous)) ≡ true
unfolding in_range
label_range f n bytes next previous full few small = all_five (nat_le bytes 512) (nat_le 1 f.version) (nat_le f.version 65534) (not (serial_of f == 0)) (nat_lt n 65536) (le-leb bytes 512 few) full (lt-ltb n 65536 small)

-- it names the page
pub label_page : (f : Fid) (n bytes next previous : ℕ) → is_full_name f ≡ true → bytes ≤ 512 → n < 65536 → page_of (label_of (page_number f n) bytes next previous) ≡ Some (page_number f n)
label_page f n bytes next previous full few small = ap (λ b. cond b (Some (page_number f n)) None) (label_range f n bytes next previous full few small)

-- ---- sectors of a file
-- the label of the sector that bears a page names it
pub placed_label : (p : Pack) (f : Fid) (n at : ℕ) → place (sights p) f n ≡ Some at → page_of (sector_at p at).label ≡ Some (page_number f n)
placed_label p f n at sector = (carried_parts p at (page_number f n) (place_carried p (page_number f n) at sector)).1

-- so its full name can be given
pub placed_name : (p : Pack) (f : Fid) (n at : ℕ) → place (sights p) f n ≡ Some at → is_full_name f ≡ true
unfolding in_range
placed_name p f n at sector =
    let label : List ℕ = (sector_at p at).label in
    let named = named_page label (page_number f n) (placed_label p f n at sector) in
    let g : Fid = (tag label).fid in
    let e : g ≡ f = ap (λ t. t.fid) named.0 in
    ap is_full_name (sym e) ∙ middle_three (nat_le (tag label).bytes 512) (nat_le 1 g.version) (nat_le g.version 65534) (not (serial_of g == 0)) (nat_lt (tag label).page 65536) named.1

-- and that of a living file
pub living_name : (p : Pack) (f : Fid) → lives (sights p) f ≡ true → is_full_name f ≡ true
living_name p f living =
    let l = has_leader (sights p) f living in
    let at = place_of_leader (sights p) f l.0 l.1 in
    placed_name p f 0 at.0 at.1
