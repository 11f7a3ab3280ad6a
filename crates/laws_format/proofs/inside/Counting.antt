-- The addresses of the free sectors of a formatted pack, and their number.
use Rattle.std.proofs.Common.{◌≡◌, ℕ, zero, suc, ◌+◌, ◌<◌, ◌≤◌, Bool, true, false, cond, List, [], ◌∷◌, length, refl, sym, ap, subst, ◌∙◌, arith}
use Rattle.std.specs.List.{range_with_len}
use Rattle.std.specs.Prelude.{filter, ◌&&◌, nat_lt}
use Rattle.std.proofs.lemmas.Bool.{le-leb, lt-leb, lt-ltb}
use Rattle.laws_hint.specs.disk_records.specs.declared.shape.Shape.{Shape}
use Rattle.laws_hint.specs.disk_records.specs.Addresses.{pages_of}
use Rattle.laws_hint.specs.disk_records.specs.Packs.{Pack, is_free_at}
use Rattle.laws_hint.specs.page_alloc.specs.Free.{IsTrueTable, free_addresses}
use Rattle.laws_hint.specs.pack_model.specs.sessions.Format.{Written, formatted, free_after_format, sectors_used, with_headers}
use Rattle.laws_hint.specs.laws_room.proofs.rooms.Laws.{free_is_the_room}
use Rattle.laws_hint.proofs.meanings.Laws.{free_table_is_true}
use Rattle.laws_format.specs.Formatted.{FreeAfterUsed}
use Rattle.laws_format.proofs.inside.Describing.{map_is}
use Rattle.laws_format.proofs.inside.Freeing.{free_many, free_map, which}
use Rattle.laws_format.proofs.inside.Sighting.{later_many, later_written, used_few}
use Rattle.laws_format.proofs.inside.Wholeness.{sound}

-- ---- addresses that pass a test from one on
all_pass : (test : ℕ → Bool) (a n : ℕ) → ((at : ℕ) → a ≤ at → at < a + n → test at ≡ true) → filter test (range_with_len a n) ≡ range_with_len a n
all_pass test a zero h = refl
all_pass test a (suc n) h =
    ap (λ b. cond b (a ∷ filter test (range_with_len (a + 1) n)) (filter test (range_with_len (a + 1) n))) (h a (omega arith) (omega arith))
    ∙ ap (λ r. a ∷ r) (all_pass test (a + 1) n (λ at low high. h at (omega arith) (omega arith)))

pass_from : (test : ℕ → Bool) (a m n many from : ℕ) → many ≡ m + n → from ≡ a + m → ((at : ℕ) → at < from → test at ≡ false) → ((at : ℕ) → from ≤ at → at < from + n → test at ≡ true) → filter test (range_with_len a many) ≡ range_with_len from n
pass_from test a zero n many from e i f t =
    let y : many ≡ n = omega arith in
    let z : a ≡ from = omega arith in
    (λ j. filter test (range_with_len (z j) (y j))) ∙ all_pass test from n t
pass_from test a (suc m) n zero from e i f t = absurd (omega arith)
pass_from test a (suc m) n (suc many) from e i f t =
    ap (λ b. cond b (a ∷ filter test (range_with_len (a + 1) many)) (filter test (range_with_len (a + 1) many))) (f a (omega arith))
    ∙ pass_from test (a + 1) m n many from (omega arith) (omega arith) f t

length-with_headers : (shape : Shape) (number at : ℕ) (ws : List Written) → length (with_headers shape number at ws) ≡ length ws
length-with_headers shape number at [] = refl
length-with_headers shape number at (w ∷ ws) = ap suc (length-with_headers shape number (suc at) ws)

module _ (shape : Shape) (number moment : ℕ) where
  abbrev p : Pack
  p = formatted shape number moment

  pub sectors_many : length p.sectors ≡ pages_of shape
  sectors_many =
      let rest = length-with_headers shape number 4 (later_written shape) in
      let all = later_many shape in
      omega arith

  free_are : free_addresses p ≡ range_with_len (sectors_used shape) (free_after_format shape)
  free_are =
      let few = used_few shape in
      pass_from (is_free_at p) 0 (sectors_used shape) (free_after_format shape) (pages_of shape) (sectors_used shape) (omega arith) (omega arith)
      (λ at low. which shape number moment at ∙ ap (λ b. b && nat_lt at (pages_of shape)) (lt-leb (sectors_used shape) at low))
      (λ at low high. which shape number moment at ∙ (λ t. le-leb (sectors_used shape) at low t && lt-ltb at (pages_of shape) (omega arith) t))

  pub free_after_used : FreeAfterUsed p
  free_after_used =
      let whole = (sound shape moment number).whole in
      let room = free_is_the_room p whole in
      let many = free_many shape number moment in
      record {
        each_sector = sectors_many;
        which = which shape number moment;
        addresses = free_are;
        shown = many;
        available_are = room.available_is ∙ many;
        room_is = room.room_is ∙ many;
        table = sym (map_is shape number moment);
        by_labels = subst (IsTrueTable p) (free_map shape number moment) (free_table_is_true p);
      }
