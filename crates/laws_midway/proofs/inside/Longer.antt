-- How long a file is: no longer than its pages have numbers, and longer after a growth or a widening.
use Rattle.std.proofs.Common.{Bool, List, None, Option, Some, [], ap, arith, cond, false, length, nat_lt, refl, sym, true, ℕ, ◌*◌, ◌++◌, ◌+◌, ◌/◌, ◌<◌, ◌∙◌, ◌∷◌, ◌≡◌, ◌≤◌}
use Rattle.std.proofs.lemmas.Bool.Decides.{nat_tests}
use Rattle.std.proofs.lemmas.List.{length-append}
use Rattle.std.specs.FinMap.{get}
use Rattle.std.specs.Option.{is_some, option_map}
use Rattle.laws_hint.specs.alto_words.specs.declared.fid.Fid.{Fid}
use Rattle.laws_hint.specs.disk_records.specs.Packs.{Pack, sector_at}
use Rattle.laws_hint.specs.laws_contents.proofs.ends.Laws.{each_file_has_its_end, whole_file_ends_in_a_page}
use Rattle.laws_hint.specs.laws_contents.proofs.model.Laws.{directory_is_its_pages, ordinary_file_is_its_pages}
use Rattle.laws_hint.specs.laws_contents.proofs.pages.Laws.{page_numbers_are_words}
use Rattle.laws_hint.specs.laws_operation.proofs.places.Laws.{file_lives_in_a_place, file_that_does_not_live_has_no_page}
use Rattle.laws_hint.specs.pack_laws.proofs.Keys.{fid_same, fid_total, is_fid-itself}
use Rattle.laws_hint.specs.pack_laws.proofs.Mapping.{get-update}
use Rattle.laws_hint.specs.pack_model.specs.operations.Committing.{length_in, length_of, page_of_byte}
use Rattle.laws_hint.specs.pack_model.specs.operations.Step.Operation.{widen}
use Rattle.laws_hint.specs.pack_model.specs.operations.Step.{on_bytes, on_items, step}
use Rattle.laws_hint.specs.pack_model.specs.reading.Bodies.Body.{data_of, items_of}
use Rattle.laws_hint.specs.pack_model.specs.reading.Bodies.{File, Files, body_length}
use Rattle.laws_hint.specs.pack_model.specs.reading.Files.{file_bytes, lives, place}
use Rattle.laws_hint.specs.pack_model.specs.reading.Leaders.{leader_of}
use Rattle.laws_hint.specs.pack_model.specs.reading.Model.{dir_items, read_as}
use Rattle.laws_hint.specs.pack_model.specs.reading.Sights.{sights}
use Rattle.laws_hint.specs.pack_model.specs.reading.Slots.Item.{entry, space}
use Rattle.laws_hint.specs.pack_model.specs.reading.Slots.{Item, all_words}
use Rattle.laws_hint.specs.pack_model.specs.sessions.Maps.{update}
use Rattle.laws_hint.specs.pack_model.specs.states.Whole.{Whole}
use Rattle.laws_midway.specs.GrowingLaws.{GrowLengthens, LastPageHasANumber, WidenLengthens}

-- ---- what lives
-- a file of which a page has a place lives
pub is_lived : (p : Pack) (f : Fid) (n at : ℕ) → Whole p → place (sights p) f n ≡ Some at → lives (sights p) f ≡ true
is_lived p f n at whole placed = by (lives (sights p) f) refl
  where
    by : (b : Bool) → lives (sights p) f ≡ b → lives (sights p) f ≡ true
    by true is = is
    by false is = let none : ◌≡◌ {A = Option ℕ} None (Some at) = sym (file_that_does_not_live_has_no_page p f n whole is) ∙ placed in absurd cc

-- the leader of a living file has a place
leader_placed : (p : Pack) (f : Fid) → lives (sights p) f ≡ true → (at : ℕ) × (place (sights p) f 0 ≡ Some at)
leader_placed p f living = by (place (sights p) f 0) (sym (file_lives_in_a_place p f) ∙ living)
  where
    by : (r : Option ℕ) → is_some r ≡ true → (at : ℕ) × (r ≡ Some at)
    by None e = absurd cc
    by (Some at) e = (at, refl)

-- ---- the last page
pub last_page_has_a_number : LastPageHasANumber
last_page_has_a_number p f whole = by (nat_lt (length (file_bytes (sights p) f) / 512) 65535) refl
  where
    by : (b : Bool) → nat_lt (length (file_bytes (sights p) f) / 512) 65535 ≡ b → length (file_bytes (sights p) f) / 512 < 65535
    by true is = grind (arith, nat_tests)
    by false is =
        let many : 65535 ≤ length (file_bytes (sights p) f) / 512 = grind (arith, nat_tests) in
        let full = (each_file_has_its_end p f).before.each 65534 (omega (arith, many)) in
        let end = whole_file_ends_in_a_page p f whole (is_lived p f 65535 full.at whole full.sector) in
        let most = page_numbers_are_words p f (page_of_byte (length (file_bytes (sights p) f))) end.at end.sector in
        absurd (omega (arith, many, most))

-- ---- a file of the model that is changed
updated : (files : Files) (f : Fid) (g : File → File) (x : File) → get files f ≡ Some x → length_in (get (update files f g) f) ≡ body_length (g x).body
updated files f g x is = ap length_in (get-update fid_total fid_same files f g f ∙ ap (λ b. cond b (option_map g (get files f)) (get files f)) (is_fid-itself f) ∙ ap (option_map g) is)

-- a slot more
slot_more : (is : List Item) → all_words (is ++ space 256 ∷ []) ≡ all_words is + 256
slot_more [] = refl
slot_more (space n ∷ is) = let h = slot_more is in omega (arith, h)
slot_more (entry f own ∷ is) = let h = slot_more is in omega (arith, h)

pub grow_lengthens : GrowLengthens
grow_lengthens p f new ordinary living =
    let l = leader_placed p f living in
    let x : File = record { leader = leader_of f (sector_at p l.0).value; body = data_of (file_bytes (sights p) f) } in
    let is = ordinary_file_is_its_pages p f l.0 ordinary.no_directory ordinary.no_descriptor l.1 in
    let was : length_of (read_as p) f ≡ length (file_bytes (sights p) f) = ap length_in is in
    updated (read_as p).files f (on_bytes (λ bytes. bytes ++ new)) x is ∙ length-append (file_bytes (sights p) f) new ∙ ap (λ n. n + length new) (sym was)

pub widen_lengthens : WidenLengthens
widen_lengthens p d directory living =
    let l = leader_placed p d living in
    let items : List Item = dir_items (read_as p) d in
    let x : File = record { leader = leader_of d (sector_at p l.0).value; body = items_of items } in
    let is = directory_is_its_pages p d l.0 directory l.1 in
    let was : length_of (read_as p) d ≡ all_words items * 2 = ap length_in is in
    let more : all_words (items ++ space 256 ∷ []) ≡ all_words items + 256 = slot_more items in
    let now : length_of (step (read_as p) (widen d)) d ≡ all_words (items ++ space 256 ∷ []) * 2 = updated (read_as p).files d (on_items (λ is. is ++ space 256 ∷ [])) x is in
    omega (arith, was, more, now)
