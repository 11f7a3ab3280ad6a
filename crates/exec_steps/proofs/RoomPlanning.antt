-- Which directories get a page more before an entry, by the free words of their slots.
use Rattle.std.proofs.Common.{◌≡◌, ◌||◌, ℕ, Bool, true, false, cond, nat_le, nat_lt, List, [], ◌∷◌, length, sym, ap, ◌∙◌, arith}
use Rattle.std.proofs.lemmas.Bool.Decides.{nat_tests}
use Rattle.alto_words.specs.Fid.{is_fid, sys_dir}
use Rattle.alto_words.specs.declared.fid.Fid.{Fid}
use Rattle.disk_records.specs.Packs.{Pack}
use Rattle.pack_model.specs.hints.Links.{dir_words}
use Rattle.pack_model.specs.operations.Rooms.{largest_run}
use Rattle.pack_model.specs.operations.Step.{room_widening, spare_widening}
use Rattle.pack_model.specs.operations.Step.Operation.{widen}
use Rattle.pack_model.specs.reading.Model.{dir_items, read_as, root_items}
use Rattle.pack_model.specs.reading.Slots.{entry_length, slots}
use Rattle.page_seeking.specs.declared.refs.FileRef.{FileRef}
use Rattle.directory.specs.Asked.{DirStands}
use Rattle.exec_session.specs.laws_operation.proofs.entries.Laws.{items_are_slots}
use Rattle.exec_steps.specs.Rooms.{widens_if}

-- the most free words in a row are the model's
pub run_in_the_model : (p : Pack) (dir : FileRef) (words : ℕ) → DirStands p dir → words ≡ largest_run (slots (dir_words p dir.fid)) → words ≡ largest_run (dir_items (read_as p) dir.fid)
run_in_the_model p dir words s is = is ∙ ap largest_run (sym (items_are_slots p dir.fid s.stands.tidy s.living s.directory))

-- a test the other way round
pub turned : (k n : ℕ) → nat_lt n k ≡ true → nat_le k n ≡ false
turned k n e = grind (arith, nat_tests)

pub turned_not : (k n : ℕ) → nat_lt n k ≡ false → nat_le k n ≡ true
turned_not k n e = grind (arith, nat_tests)

-- SysDir's page, for a long entry
pub spare_is : (p : Pack) (lacks : Bool) → lacks ≡ nat_lt (largest_run (root_items (read_as p))) 26 → spare_widening (read_as p) ≡ widens_if lacks sys_dir
spare_is p true e = ap (λ b. cond b [] (widen sys_dir ∷ [])) (turned 26 (largest_run (root_items (read_as p))) (sym e))
spare_is p false e = ap (λ b. cond b [] (widen sys_dir ∷ [])) (turned_not 26 (largest_run (root_items (read_as p))) (sym e))

-- another directory's page
pub room_is : (p : Pack) (d : Fid) (name : List ℕ) (lacks : Bool) → is_fid d sys_dir ≡ false → lacks ≡ nat_lt (largest_run (dir_items (read_as p) d)) (entry_length (length name)) → room_widening (read_as p) d name ≡ widens_if lacks d
room_is p d name true other e = ap (λ b. cond (b || nat_le (entry_length (length name)) (largest_run (dir_items (read_as p) d))) [] (widen d ∷ [])) other ∙ ap (λ b. cond b [] (widen d ∷ [])) (turned (entry_length (length name)) (largest_run (dir_items (read_as p) d)) (sym e))
room_is p d name false other e = ap (λ b. cond (b || nat_le (entry_length (length name)) (largest_run (dir_items (read_as p) d))) [] (widen d ∷ [])) other ∙ ap (λ b. cond b [] (widen d ∷ [])) (turned_not (entry_length (length name)) (largest_run (dir_items (read_as p) d)) (sym e))

-- SysDir itself gets none by this rule
pub no_room_of_root : (p : Pack) (d : Fid) (name : List ℕ) → is_fid d sys_dir ≡ true → room_widening (read_as p) d name ≡ widens_if false d
no_room_of_root p d name e = ap (λ b. cond (b || nat_le (entry_length (length name)) (largest_run (dir_items (read_as p) d))) [] (widen d ∷ [])) e
