-- Tallies, and turns that broke off.
use Rattle.std.proofs.Common.{◌≡◌, ℕ, ◌-◌, ◌^◌, true, false, List, [], ◌∷◌, refl, arith}
use Rattle.pack_laws.specs.disk_records.specs.declared.records.Tally.{Tally}
use Rattle.pack_laws.specs.pack_model.specs.operations.Operations.{Move}
use Rattle.pack_laws.specs.pack_model.specs.operations.Operations.Move.{quiet, commits}
use Rattle.pack_laws.specs.pack_model.specs.operations.Step.Operation.{widen}
use Rattle.pack_laws.specs.pack_model.specs.sessions.Tallies.{counted, is_among, no_tally, took_effect}
use Rattle.pack_laws.specs.pack_model.specs.sessions.Turns.{BreaksAt, Turn}
use Rattle.pack_laws.specs.alto_words.specs.Fid.{sys_dir}

-- two operations, by the record writes 5 and 7 of a machine that had three before
two_done : List Move
two_done = quiet ∷ commits (widen sys_dir) ∷ quiet ∷ commits (widen sys_dir) ∷ []

-- the limit is between them, on the first, one before it, and after both
between : counted 3 two_done (no_tally 6) ≡ record { limit = 6; passed = 1; all = 2 }
unfolding two_done
between = refl

on_the_first : counted 3 two_done (no_tally 5) ≡ record { limit = 5; passed = 1; all = 2 }
unfolding two_done
on_the_first = refl

before_both : counted 3 two_done (no_tally 4) ≡ record { limit = 4; passed = 0; all = 2 }
unfolding two_done
before_both = refl

after_both : counted 3 two_done (no_tally 7) ≡ record { limit = 7; passed = 2; all = 2 }
unfolding two_done
after_both = refl

-- a count stands at its end, and the limit stays
stands_still : took_effect 1 (record { limit = 9; passed = 2 ^ 64 - 1; all = 2 ^ 64 - 1 }) ≡ record { limit = 9; passed = 2 ^ 64 - 1; all = 2 ^ 64 - 1 }
stands_still = refl

-- the second of two record writes is among them, a third isn't; at the end of the machine's count none can be told
second_of_two : is_among 3 2 5 ≡ true
second_of_two = refl

no_third : is_among 3 3 5 ≡ false
no_third = refl

none_at_the_end : is_among (2 ^ 64 - 1) 1 (2 ^ 64 - 1) ≡ false
none_at_the_end = refl

-- ---- a turn of one move and two bytes: both the move and one byte where the display failed; nothing of it where the disk did
whole : Turn ℕ
whole = record { ops = 1 ∷ []; text = 65 ∷ 10 ∷ []; counts = true }

half_shown : BreaksAt true (record { ops = 1 ∷ []; text = 65 ∷ []; counts = false }) whole
unfolding whole
half_shown = record { off = record { start = (refl, tt); text = (refl, tt); later = λ some. refl; uncounted = refl }; shows = λ e. refl; silent = λ e. let both : ◌≡◌ true false = e in absurd cc }

nothing_shown : BreaksAt false (record { ops = []; text = []; counts = false }) whole
unfolding whole
nothing_shown = record { off = record { start = tt; text = tt; later = λ some. absurd (some refl); uncounted = refl }; shows = λ e. let both : ◌≡◌ false true = e in absurd cc; silent = λ e. refl }

-- a byte is not shown where the disk failed, nor is the move left out where the display did
no_byte_by_the_disk : BreaksAt false (record { ops = 1 ∷ []; text = 65 ∷ []; counts = false }) whole → ⊥
unfolding whole
no_byte_by_the_disk h = let none : ◌≡◌ {A = List ℕ} (65 ∷ []) [] = h.silent refl in cc

no_move_missing : BreaksAt true (record { ops = []; text = []; counts = false }) whole → ⊥
unfolding whole
no_move_missing h = let all : ◌≡◌ {A = List ℕ} [] (1 ∷ []) = h.shows refl in cc
