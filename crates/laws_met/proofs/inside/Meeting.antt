-- The pack with two files and a directory meets the premises of operations, and its session can be closed.
use Rattle.std.proofs.Common.{◌≡◌, ◌≢◌, ℕ, ◌<◌, true, [], ◌∷◌, length, refl, sym, ap, arith, replicate, inr}
use Rattle.std.proofs.lemmas.List.Elements.{All-cons, All-nil}
use Rattle.std.specs.Prelude.{All, AllPairs}
use Rattle.laws_steps.specs.disk_records.specs.Packs.{is_free_at, sector_at}
use Rattle.laws_steps.specs.pack_model.specs.operations.PageWords.{widening_bytes}
use Rattle.laws_steps.specs.pack_model.specs.operations.Step.{new_leader}
use Rattle.laws_steps.specs.pack_model.specs.reading.SlotWords.{space_words}
use Rattle.laws_steps.specs.pack_model.specs.reading.Sights.{sights}
use Rattle.laws_steps.specs.pack_model.specs.states.Sound.{mark_clean, mark_of}
use Rattle.laws_steps.specs.pack_laws.proofs.Bytes.{bytes_below}
use Rattle.laws_steps.specs.laws_operation.specs.ByteLaws.{IsOrdinary}
use Rattle.laws_steps.specs.laws_operation.specs.DescriptorLaws.{MayClose}
use Rattle.laws_steps.specs.laws_operation.specs.FileWords.{ArePastTheEnd, CanCut, CanGrow, CanPut, CanWriteLeader}
use Rattle.laws_steps.specs.laws_operation.specs.LifeLaws.{MayDrop}
use Rattle.laws_steps.specs.laws_hint.proofs.closing.Laws.{closing_leaves_hints_true}
use Rattle.laws_met.specs.Peopled.{bytes_a, bytes_more, dir_d, file_a, name_a, peopled}
use Rattle.laws_met.specs.Premises.{PremisesAreMet, SessionCloses}
use Rattle.laws_met.proofs.inside.FactsP.{directory_lies, file_is, inner_is, inner_items, session}
use Rattle.laws_met.proofs.inside.LineA.{all_same}
use Rattle.laws_met.proofs.inside.LineD.{links_b, sound_b}
use Rattle.laws_met.proofs.inside.Lines.{items_of_words}
use Rattle.laws_met.proofs.inside.More.{ordinary_is_bare}
use Rattle.laws_met.proofs.inside.Operating.{Stands}

pub stands_b : Stands peopled
stands_b = record { whole = sound_b.whole; tidy = sound_b.tidy; links = links_b }

pub ordinary_a : IsOrdinary file_a
ordinary_a = record { no_directory = refl; no_descriptor = refl }

-- a file of 600 bytes
pub size_a : length bytes_a ≡ 600
size_a = refl

pub can_put : CanPut peopled file_a 510 (1 ∷ 2 ∷ []) 6
can_put = record {
  file = ordinary_a;
  sector = file_is.pages.1.0;
  one_page = omega arith;
  within = let e = ap length file_is.bytes in let n = size_a in omega arith;
  bytes = All-cons (λ b. b < 256) 1 (2 ∷ []) (omega arith) (All-cons (λ b. b < 256) 2 [] (omega arith) (All-nil (λ b. b < 256)));
}

-- a word is written past them where the bytes reach the file's end
pub can_put_last : CanPut peopled file_a 598 (1 ∷ 2 ∷ []) 7
can_put_last = record {
  file = ordinary_a;
  sector = file_is.pages.1.1.0;
  one_page = omega arith;
  within = let e = ap length file_is.bytes in let n = size_a in omega arith;
  bytes = can_put.bytes;
}

past_the_end : ArePastTheEnd peopled file_a 598 (1 ∷ 2 ∷ []) (7 ∷ []) 7
past_the_end = record {
  words = All-cons (λ w. w < 65536) 7 [] (omega arith) (All-nil (λ w. w < 65536));
  room = omega arith;
  last = inr (let e = ap length file_is.bytes in let n = size_a in omega arith);
  sized = file_is.sized;
}

-- one free sector
one_free : All (λ i. is_free_at peopled i ≡ true) (12 ∷ [])
one_free = All-cons (λ i. is_free_at peopled i ≡ true) 12 [] directory_lies.free (All-nil (λ i. is_free_at peopled i ≡ true))

pub one_distinct : (at : ℕ) → AllPairs (λ i j. i ≢ j) (at ∷ [])
one_distinct at = λ i j d a b. absurd (omega arith)

pub can_grow : CanGrow peopled file_a 600 bytes_more (7 ∷ []) (12 ∷ []) 7
can_grow = record {
  size = sym (ap length file_is.bytes);
  sector = file_is.pages.1.1.0;
  sized = file_is.sized;
  bytes = all_same 500 66 (λ x. x < 256) (omega arith);
  words = All-cons (λ w. w < 65536) 7 [] (omega arith) (All-nil (λ w. w < 65536));
  room = omega arith;
  number = refl;
  free = one_free;
  distinct = one_distinct 12;
}

-- the words of a wide free slot
pub wide_bytes : All (λ b. b < 256) widening_bytes
wide_bytes = bytes_below (space_words 256) (All-cons (λ w. w < 65536) 256 (replicate 255 0) (omega arith) (all_same 255 0 (λ w. w < 65536) (omega arith)))

pub can_widen : CanGrow peopled dir_d 510 widening_bytes [] (12 ∷ []) 9
can_widen = record {
  size = sym directory_lies.size;
  sector = directory_lies.page;
  sized = directory_lies.sized;
  bytes = wide_bytes;
  words = All-nil (λ w. w < 65536);
  room = omega arith;
  number = refl;
  free = one_free;
  distinct = one_distinct 12;
}

pub can_cut : CanCut peopled file_a 100 6 (7 ∷ [])
can_cut = record {
  file = ordinary_a;
  sector = file_is.pages.1.0;
  within = let e = ap length file_is.bytes in let n = size_a in omega arith;
  number = let e = ap length file_is.bytes in let n = size_a in omega arith;
  later_are = (file_is.pages.1.1.0, tt);
}

pub can_write_leader : CanWriteLeader peopled file_a 5
can_write_leader = record { file = ordinary_a; sector = file_is.pages.0; sized = file_is.leader_sized }

pub may_drop : MayDrop peopled file_a 5 (6 ∷ 7 ∷ [])
may_drop = record {
  no_system = refl;
  sector = file_is.pages.0;
  bare = ordinary_is_bare peopled file_a (new_leader name_a 1000) bytes_a ordinary_a file_is.lead file_is.bytes;
  number = let e = ap length file_is.bytes in let n = size_a in omega arith;
  pages_are = file_is.pages.1;
}

pub may_close : MayClose peopled (4 ∷ [])
may_close = record { pages_are = (session.placed, tt); number = refl; sized = All-cons (λ at. length (sector_at peopled at).value ≡ 256) 4 [] directory_lies.sized_4 (All-nil (λ at. length (sector_at peopled at).value ≡ 256)) }

pub premises_are_met : PremisesAreMet
premises_are_met = record {
  sound = sound_b;
  links = links_b;
  mark = session.mark;
  pages = file_is.pages;
  bytes = file_is.bytes;
  items = items_of_words peopled dir_d inner_items stands_b inner_is.living refl inner_is.slots_are;
  can_put = can_put;
  can_put_last = can_put_last;
  past_the_end = past_the_end;
  can_grow = can_grow;
  can_widen = can_widen;
  can_cut = can_cut;
  can_write_leader = can_write_leader;
  has_entry = record { directory = refl; living = inner_is.living; slots_are = inner_is.slots_are; sector = directory_lies.page };
  may_drop = may_drop;
  may_close = may_close;
}

pub session_closes : SessionCloses
session_closes =
    let unclean : mark_of (sights peopled) ≡ mark_clean → ⊥ = λ e. let open_is = session.mark in absurd (omega (arith, e, open_is)) in
    closing_leaves_hints_true peopled _ (4 ∷ []) sound_b.whole sound_b.tidy may_close unclean links_b refl
