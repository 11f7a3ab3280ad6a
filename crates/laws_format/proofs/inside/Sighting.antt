-- The sectors of a formatted pack show what they have to.
use Rattle.std.proofs.Common.{◌≡◌, ℕ, zero, suc, ◌+◌, ◌-◌, ◌*◌, ◌/◌, ◌%◌, ◌<◌, ◌≤◌, true, cond, not, List, [], ◌∷◌, ◌++◌, length, min, refl, ap, ◌∙◌, arith, replicate, map, eq-eqb}
use Rattle.std.specs.Prelude.{◌&&◌, ◌==◌, nat_le}
use Rattle.std.proofs.lemmas.Bool.{lt-ltb, le-leb}
use Rattle.std.proofs.lemmas.List.{length-append, length-replicate}
use Rattle.laws_hint.specs.alto_words.specs.Fid.{sys_dir, disk_descriptor}
use Rattle.laws_hint.specs.alto_words.specs.Names.{is_stored_name}
use Rattle.laws_hint.specs.disk_records.specs.declared.shape.Shape.{Shape}
use Rattle.laws_hint.specs.disk_records.specs.Addresses.{pages_of, real_of, descriptor_length}
use Rattle.laws_hint.specs.disk_records.specs.Commands.{ones}
use Rattle.laws_hint.specs.disk_records.specs.Labels.{tag, in_range, is_free}
use Rattle.laws_hint.specs.disk_records.specs.Packs.{is_usable}
use Rattle.laws_hint.specs.pack_model.specs.reading.Leaders.{leader_of, leader_name, is_readable}
use Rattle.laws_hint.specs.pack_model.specs.reading.Namings.{sys_dir_name, descriptor_name}
use Rattle.laws_hint.specs.pack_model.specs.reading.Sights.{Sight, sight, sights, sights_from, tag_sight}
use Rattle.laws_hint.specs.pack_model.specs.reading.Sights.Sight.{hidden, free, stray, leads, holds}
use Rattle.laws_hint.specs.pack_model.specs.sessions.Descriptor.{data_pages}
use Rattle.laws_hint.specs.pack_model.specs.sessions.Format.{Written, format_leader, format_root, format_page, format_pages, formatted, free_after_format, sectors_used, with_headers}
use Rattle.laws_format.specs.Writing.{headed}
use Rattle.laws_format.proofs.inside.Pages.{its_bytes}
use Rattle.laws_format.proofs.inside.Shown.{its_leader, later_shown, root_bytes, root_leader, shown}

-- ---- one sector
pub headed_usable : (shape : Shape) (number at : ℕ) (w : Written) → 0 < at → at < pages_of shape → is_usable shape at (headed shape number at w) ≡ true
headed_usable shape number at w low l = λ i. lt-ltb 0 at low i && (lt-ltb at (pages_of shape) l i && eq-eqb (real_of shape at) (real_of shape at) refl i)

-- what it shows
abbrev pub shows : Written → Sight
shows w = tag_sight (tag w.0) w.1

headed_shows : (shape : Shape) (number at : ℕ) (w : Written) → 0 < at → at < pages_of shape → sight shape at (headed shape number at w) ≡ shows w
unfolding sight
headed_shows shape number at w low l = ap (λ b. cond b (shows w) hidden) (headed_usable shape number at w low l)

all_show : (shape : Shape) (number at : ℕ) (ws : List Written) → 0 < at → at + length ws ≤ pages_of shape → sights_from shape at (with_headers shape number at ws) ≡ map shows ws
unfolding sights_from
all_show shape number at [] low l = refl
all_show shape number at (w ∷ ws) low l = λ i. headed_shows shape number at w low (omega arith) i ∷ all_show shape number (suc at) ws (omega arith) (omega arith) i

-- ---- leaders, SysDir's page, and free sectors
root_leads : (shape : Shape) (moment : ℕ) → shows (format_leader shape sys_dir sys_dir_name moment 1 1 510) ≡ leads sys_dir true (root_leader moment)
unfolding in_range leader_of leader_name is_readable is_stored_name
root_leads shape moment =
    let e : moment / 65536 * 65536 + moment % 65536 ≡ moment = omega arith in
    λ i. leads sys_dir true (record { created = e i; written = e i; read = e i; name = sys_dir_name; rest = replicate 220 0 })

its_leads : (shape : Shape) (moment at number bytes : ℕ) → shows (format_leader shape disk_descriptor descriptor_name moment at number bytes) ≡ leads disk_descriptor true (its_leader moment)
unfolding in_range leader_of leader_name is_readable is_stored_name
its_leads shape moment at number bytes =
    let e : moment / 65536 * 65536 + moment % 65536 ≡ moment = omega arith in
    λ i. leads disk_descriptor true (record { created = e i; written = e i; read = e i; name = descriptor_name; rest = replicate 220 0 })

root_holds : (shape : Shape) → shows (format_root shape) ≡ holds sys_dir 0 root_bytes
unfolding in_range
root_holds shape = refl

frees_show : (n : ℕ) → map shows (replicate n (ones 8, ones 256)) ≡ replicate n free
unfolding in_range is_free
frees_show zero = refl
frees_show (suc n) = ap (λ r. free ∷ r) (frees_show n)

-- ---- DiskDescriptor's pages
page_holds : (shape : Shape) (n : ℕ) → n < 65535 → shows (format_page shape n) ≡ holds disk_descriptor n (its_bytes shape n)
unfolding in_range
page_holds shape n l =
    let few : ℕ = min 512 (descriptor_length shape - 512 * n) in
    let most : few ≤ 512 = omega arith in
    let number : suc n < 65536 = omega arith in
    λ i. cond (le-leb few 512 most i && nat_le 1 1 && nat_le 1 65534 && not (2 == 0) && lt-ltb (suc n) 65536 number i) (holds disk_descriptor n (its_bytes shape n)) (cond (is_free (tag (format_page shape n).0)) free stray)

pages_hold : (shape : Shape) (n k frees : ℕ) → n + k ≤ 65535 → map shows (format_pages shape n k ++ replicate frees (ones 8, ones 256)) ≡ later_shown (its_bytes shape) n k frees
pages_hold shape n zero frees l = frees_show frees
pages_hold shape n (suc k) frees l = λ i. page_holds shape n (omega arith) i ∷ pages_hold shape (suc n) k frees (omega arith) i

-- ---- the pack
-- there are so many sectors, and few pages
pub pages_few : (shape : Shape) → data_pages shape ≤ 5
pages_few shape = let most = shape.most_pages in omega arith

pub used_few : (shape : Shape) → sectors_used shape ≤ pages_of shape
used_few shape = let least = shape.least_pages in let most = shape.most_pages in omega arith

length-format_pages : (shape : Shape) (n k : ℕ) → length (format_pages shape n k) ≡ k
length-format_pages shape n zero = refl
length-format_pages shape n (suc k) = ap suc (length-format_pages shape (suc n) k)

-- those from sector 4 on
abbrev pub later_written : Shape → List Written
later_written shape = format_pages shape 0 (data_pages shape) ++ replicate (free_after_format shape) (ones 8, ones 256)

pub later_many : (shape : Shape) → 4 + length (later_written shape) ≡ pages_of shape
later_many shape =
    let pages : List Written = format_pages shape 0 (data_pages shape) in
    let frees : List Written = replicate (free_after_format shape) (ones 8, ones 256) in
    let all : length (pages ++ frees) ≡ length pages + length frees = length-append pages frees in
    let some : length pages ≡ data_pages shape = length-format_pages shape 0 (data_pages shape) in
    let rest : length frees ≡ free_after_format shape = length-replicate (free_after_format shape) (ones 8, ones 256) in
    let used = used_few shape in
    omega arith

pub formatted_sights : (shape : Shape) (number moment : ℕ) → sights (formatted shape number moment) ≡ shown moment (its_bytes shape) (data_pages shape) (free_after_format shape)
unfolding sights_from sight
formatted_sights shape number moment =
    let few = pages_few shape in
    let all = later_many shape in
    let ws : List Written = format_leader shape sys_dir sys_dir_name moment 1 1 510 ∷ format_root shape ∷ format_leader shape disk_descriptor descriptor_name moment 3 (data_pages shape) (descriptor_length shape % 512) ∷ later_written shape in
    ap (λ r. hidden ∷ r) (all_show shape number 1 ws (omega arith) (omega arith))
    ∙ (λ i. hidden ∷ root_leads shape moment i ∷ root_holds shape i ∷ its_leads shape moment 3 (data_pages shape) (descriptor_length shape % 512) i ∷ pages_hold shape 0 (data_pages shape) (free_after_format shape) (omega arith) i)
