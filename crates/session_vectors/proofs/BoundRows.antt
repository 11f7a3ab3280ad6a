-- Bounds on sector commands: a pack for which they hold, files whose leaders name their last pages or don't, and bounds as numbers.
use Rattle.std.proofs.Common.{◌≡◌, ℕ, List, [], ◌∷◌, refl, sym, ap, subst, ◌∙◌, arith}
use Rattle.std.proofs.lemmas.List.Elements.{All-cons, All-nil}
use Rattle.std.specs.Prelude.{codes, replicate}
use Rattle.laws_format.specs.alto_words.specs.Fid.{sys_dir}
use Rattle.laws_format.specs.alto_words.specs.Names.{is_stored_name}
use Rattle.laws_format.specs.disk_records.specs.Addresses.{real_of}
use Rattle.laws_format.specs.disk_records.specs.Labels.{in_range, is_free, label_of}
use Rattle.laws_format.specs.disk_records.specs.Packs.{Pack}
use Rattle.laws_format.specs.pack_model.specs.hints.Handy.{Handy, leader_word, last_number_word}
use Rattle.laws_format.specs.pack_model.specs.hints.Links.{no_link}
use Rattle.laws_format.specs.pack_model.specs.operations.Committing.{length_of, page_of_byte}
use Rattle.laws_format.specs.pack_model.specs.operations.PageWords.{page_number, page_value, leader_label, leader_value}
use Rattle.laws_format.specs.pack_model.specs.operations.Step.{new_leader}
use Rattle.laws_format.specs.pack_model.specs.reading.Files.{first}
use Rattle.laws_format.specs.pack_model.specs.reading.Leaders.{leader_of, leader_name, is_readable}
use Rattle.laws_format.specs.pack_model.specs.reading.Sights.{sight, sights_from}
use Rattle.laws_format.specs.pack_model.specs.sessions.Format.{format_table, formatted}
use Rattle.laws_format.proofs.formatted.Laws.{formatted_leaders_are_handy, formatted_pack_begins_a_session, formatted_pack_has_free_sectors}
use Rattle.pack_vectors.proofs.Shapes.{small}
use Rattle.pack_vectors.proofs.SmallPacks.{pack_of, system, words_a, its_words, some_or}
use Rattle.session_model.specs.Bounds.{AllHandy, NamesItsLast, append_runs, type_runs}
use Rattle.session_vectors.proofs.Models.{f3, m0, root_0, ma, md, root_is, a_is, root_d, d_is, a_in_d, a_path, in_dir}

-- ---- the pack that formatting writes, and its main directory
abbrev p0 : Pack
p0 = formatted small 1 1000

all_handy : AllHandy p0 (format_table small) [] (sys_dir ∷ [])
all_handy =
    let begins = formatted_pack_begins_a_session small 1 1000 in
    record {
      sound = begins.sound;
      links = begins.hints.links;
      table = (formatted_pack_has_free_sectors small 1 1000).table;
      handy = All-cons (λ f. Handy p0 f []) sys_dir [] (formatted_leaders_are_handy small 1 1000 sys_dir [] (All-nil _)) (All-nil (λ f. Handy p0 f []));
    }

root_names_last : NamesItsLast p0 m0 sys_dir
unfolding sights_from sight real_of in_range is_free leader_of leader_name is_readable is_stored_name first
root_names_last = record { at = 1; leader = refl; number = rw (root_0) refl; sector = rw (root_0) refl }

-- ---- a file A of 600 bytes: its leader is in sector 5, its pages are in 6 and 7; the leader names a last page by this address and number
abbrev bytes_600 : List ℕ
bytes_600 = replicate 600 17

abbrev naming : ℕ → ℕ → Pack
naming at number = pack_of 37 (system words_a (its_words 3 1) (
    (leader_label small f3 6, leader_value (new_leader (codes "A.") 1000) (0 ∷ 0 ∷ 0 ∷ 0 ∷ 0 ∷ 0 ∷ 0 ∷ at ∷ number ∷ 88 ∷ []))
    ∷ (label_of (page_number f3 1) 512 no_link no_link, page_value (replicate 512 17) [])
    ∷ (label_of (page_number f3 2) 88 no_link no_link, page_value (replicate 88 17) [])
    ∷ []))

names_last : NamesItsLast (naming 7 2) (ma bytes_600) f3
unfolding sights_from sight real_of in_range is_free leader_of leader_name is_readable is_stored_name first
names_last = record { at = 5; leader = refl; number = rw (a_is bytes_600) refl; sector = rw (a_is bytes_600) refl }

last_of_600 : page_of_byte (length_of (ma bytes_600) f3) ≡ 2
last_of_600 = rw (a_is bytes_600) refl

-- page 1 is where the leader says, and isn't the last
names_earlier : NamesItsLast (naming 6 1) (ma bytes_600) f3 → ⊥
unfolding sights_from sight real_of in_range is_free leader_of leader_name is_readable is_stored_name first
names_earlier names =
    let at_5 : 5 ≡ names.at = ap some_or names.leader in
    let two : leader_word (naming 6 1) names.at last_number_word ≡ 2 = names.number ∙ last_of_600 in
    let one : leader_word (naming 6 1) names.at last_number_word ≡ 1 = subst (λ i. leader_word (naming 6 1) i last_number_word ≡ 1) at_5 refl in
    let same : ◌≡◌ {A = ℕ} 1 2 = sym one ∙ two in
    omega arith

-- ---- bounds as numbers: SysDir and D have one page each, and the 600 bytes take one page more than none
type_bound : type_runs (ma bytes_600) a_path ≡ 10
unfolding is_stored_name first
type_bound = rw (root_is bytes_600, a_is bytes_600) refl

type_bound_in_d : type_runs md (in_dir (codes "D.") (codes "A.")) ≡ 10
unfolding is_stored_name first
type_bound_in_d = rw (root_d, d_is, a_in_d) refl

-- 500 bytes more end in the third page, and 400 in the second one
append_bound : append_runs (ma bytes_600) a_path (replicate 500 1) ≡ 28
unfolding is_stored_name first
append_bound = rw (root_is bytes_600, a_is bytes_600) refl

append_within_a_page : append_runs (ma bytes_600) a_path (replicate 400 1) ≡ 25
unfolding is_stored_name first
append_within_a_page = rw (root_is bytes_600, a_is bytes_600) refl
