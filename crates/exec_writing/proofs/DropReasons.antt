-- What `delete` and `rmdir` are refused for: the tests of their operand, in their order, then of `delete` the streams, and nothing else.
use Rattle.std.proofs.Common.{◌≡◌, ◌||◌, ◌∷◌, ◌∙◌, Bool, List, None, Option, Some, [], arith, false, length, nat_lt, not, refl, true, ℕ}
use Rattle.std.proofs.lemmas.Bool.{le-ltb, lt-ltb}
use Rattle.std.specs.List.{list_any}
use Rattle.std.specs.Option.{option_or}
use Rattle.alto_words.specs.declared.fid.Fid.{Fid}
use Rattle.alto_words.specs.Fid.{disk_descriptor, is_directory, is_fid, is_system, sys_dir}
use Rattle.exec_words.specs.declared.line.Line.TheVariants as line
use Rattle.exec_words.specs.declared.line.Path.{Path}
use Rattle.exec_words.specs.declared.line.Target.TheVariants.{ByPath}
use Rattle.exec_words.specs.declared.reply.Refusal.{Refusal}
use Rattle.exec_words.specs.declared.reply.Refusal.TheVariants as refusal
use Rattle.exec_session.specs.laws_session.proofs.refused.Laws.{refused_by_tests, refused_in_order}
use Rattle.exec_session.specs.laws_session.specs.RefusedLaws.{IsRefusedInOrder, first_of}
use Rattle.laws_lookup.specs.DropLaws.{is_an_entry}
use Rattle.pack_model.specs.reading.Files.{first}
use Rattle.pack_model.specs.reading.Model.{Model, room}
use Rattle.pack_model.specs.reading.Namings.{namings_in}
use Rattle.pack_model.specs.reading.Slots.{Item}
use Rattle.pack_model.specs.reading.Slots.Item.{entry, space}
use Rattle.session_model.specs.Finding.{file_at, has_entry}
use Rattle.session_model.specs.Operands.{Operand, in_root, no_directory, removed}
use Rattle.session_model.specs.Refusals.{is_streamed, left_in, not_empty, of_system, of_taken_name, of_wrong_kind, missing, when, when_found, when_missing, wrong_kind, wrong_system}
use Rattle.session_model.specs.Replies.{refusal as refusal_to}
use Rattle.session_model.specs.Worlds.{World}
use Rattle.exec_session.specs.Found.{operand, operand_tests}
use Rattle.exec_session.specs.Meant.{IsTakenUpBy}

-- after the operand streams alone may be against them, since no page comes
streams_alone : (m : Model) (streamed : Bool) → first_of (None ∷ None ∷ None ∷ when streamed refusal.StreamsOpen ∷ None ∷ None ∷ None ∷ when (nat_lt (room m) 0) (refusal.Full 0 (room m)) ∷ []) ≡ when streamed refusal.StreamsOpen
unfolding first
streams_alone m streamed = by streamed (nat_lt (room m) 0) (le-ltb (room m) 0 (omega arith))
  where
    by : (b few : Bool) → few ≡ false → first_of (None ∷ None ∷ None ∷ when b refusal.StreamsOpen ∷ None ∷ None ∷ None ∷ when few (refusal.Full 0 (room m)) ∷ []) ≡ when b refusal.StreamsOpen
    by false false e = refl
    by true few e = refl
    by false true e = absurd (let n : true ≡ false = e in cc)

streams_after : (m : Model) (a b : Option Refusal) (streamed : Bool) → a ≡ None → b ≡ None → first_of (a ∷ b ∷ None ∷ None ∷ None ∷ when streamed refusal.StreamsOpen ∷ None ∷ None ∷ None ∷ when (nat_lt (room m) 0) (refusal.Full 0 (room m)) ∷ []) ≡ when streamed refusal.StreamsOpen
unfolding first
streams_after m None None streamed e f = streams_alone m streamed
streams_after m (Some r) b streamed e f = absurd (let n : Some r ≡ None = e in cc)
streams_after m None (Some r) streamed e f = absurd (let n : Some r ≡ None = f in cc)

-- ---- `delete`
left_none : (m : Model) (r : Option Fid) → when_found r (left_in m no_directory) ≡ None
left_none m None = refl
left_none m (Some f) = refl

module _ (m : Model) (w : World) (path : Path) (taken : IsTakenUpBy w (line.Delete path)) where
  abbrev o : Operand
  o = operand (ByPath path) no_directory

  abbrev streamed : Bool
  streamed = is_streamed w (file_at m (ByPath path))

  abbrev others : List (Option Refusal)
  others = of_taken_name m o ∷ not_empty m o ∷ None ∷ None ∷ None ∷ when streamed refusal.StreamsOpen ∷ None ∷ None ∷ None ∷ when (nat_lt (room m) 0) (refusal.Full 0 (room m)) ∷ []

  deletes_in_order : IsRefusedInOrder (line.Delete path) m w (operand_tests m o) others
  deletes_in_order = refused_in_order (line.Delete path) m w (operand_tests m o) others taken refl

  -- by its operand
  pub delete_refused : (r : Refusal) → first_of (operand_tests m o) ≡ Some r → refusal_to (line.Delete path) m w ≡ Some r
  delete_refused r e = deletes_in_order.here r e

  -- or by the streams
  pub delete_unrefused : first_of (operand_tests m o) ≡ None → refusal_to (line.Delete path) m w ≡ when streamed refusal.StreamsOpen
  delete_unrefused e = deletes_in_order.later e ∙ streams_after m (of_taken_name m o) (not_empty m o) streamed refl (left_none m (file_at m (ByPath path)))

-- ---- `rmdir`
abbrev removed_operand : List ℕ → Operand
removed_operand name = operand (ByPath (in_root name)) removed

-- its tests, by the file that is meant
abbrev pub removed_tests : Model → Option Fid → Option Refusal
removed_tests m f = first_of (
    option_or None (when_missing f refusal.NoSuchName)
    ∷ option_or (when (not (is_directory sys_dir)) refusal.NotADirectory) (when_found f (wrong_kind removed))
    ∷ when_found f (wrong_system removed)
    ∷ None
    ∷ when_found f (left_in m removed)
    ∷ [])

pub rmdir_refused : (m : Model) (w : World) (name : List ℕ) → IsTakenUpBy w (line.RemoveDir name) → refusal_to (line.RemoveDir name) m w ≡ removed_tests m (file_at m (ByPath (in_root name)))
rmdir_refused m w name taken =
    let o = removed_operand name in
    refused_by_tests (line.RemoveDir name) m w (missing m o ∷ of_wrong_kind m o ∷ of_system m o ∷ of_taken_name m o ∷ not_empty m o ∷ [])
    (None ∷ None ∷ None ∷ when false refusal.StreamsOpen ∷ None ∷ None ∷ None ∷ when (nat_lt (room m) 0) (refusal.Full 0 (room m)) ∷ []) taken refl
    (streams_alone m false)

pub removed_absent : (m : Model) → removed_tests m None ≡ Some refusal.NoSuchName
unfolding first
removed_absent m = refl

-- of one that is there
abbrev kind_or : Bool → Bool → Bool → Option Refusal
kind_or directory system entries = option_or (when (not directory) refusal.NotADirectory) (option_or (when system refusal.SystemFile) (when entries refusal.NotEmpty))

removed_is : (m : Model) (f : Fid) → removed_tests m (Some f) ≡ kind_or (is_directory f) (is_system f) (has_entry m f)
unfolding first
removed_is m f = by (is_directory f) (is_fid f sys_dir) (is_fid f disk_descriptor) (has_entry m f)
  where
    by : (a b c d : Bool) → option_or None (option_or (option_or None (when (not a) refusal.NotADirectory)) (option_or (when (c || b) refusal.SystemFile) (option_or None (option_or (when d refusal.NotEmpty) None)))) ≡ kind_or a (b || c) d
    by true true true true = refl
    by true true true false = refl
    by true true false true = refl
    by true true false false = refl
    by true false true true = refl
    by true false true false = refl
    by true false false true = refl
    by true false false false = refl
    by false b c d = refl

module _ (m : Model) (f : Fid) where
  pub no_directory_refused : not (is_directory f) ≡ true → removed_tests m (Some f) ≡ Some refusal.NotADirectory
  no_directory_refused is = removed_is m f ∙ by (is_directory f) is
    where
      by : (b : Bool) → not b ≡ true → kind_or b (is_system f) (has_entry m f) ≡ Some refusal.NotADirectory
      by true e = cc
      by false e = refl

  pub system_refused : not (is_directory f) ≡ false → is_system f ≡ true → removed_tests m (Some f) ≡ Some refusal.SystemFile
  system_refused directory is = removed_is m f ∙ by (is_directory f) (is_system f) directory is
    where
      by : (b c : Bool) → not b ≡ false → c ≡ true → kind_or b c (has_entry m f) ≡ Some refusal.SystemFile
      by true true d e = refl
      by true false d e = cc
      by false c d e = cc

  pub entries_refused : not (is_directory f) ≡ false → is_system f ≡ false → has_entry m f ≡ true → removed_tests m (Some f) ≡ Some refusal.NotEmpty
  entries_refused directory system is = removed_is m f ∙ by (is_directory f) (is_system f) (has_entry m f) directory system is
    where
      by : (b c d : Bool) → not b ≡ false → c ≡ false → d ≡ true → kind_or b c d ≡ Some refusal.NotEmpty
      by true false true e g h = refl
      by true false false e g h = cc
      by true true d e g h = cc
      by false c d e g h = cc

  pub nothing_refused : not (is_directory f) ≡ false → is_system f ≡ false → has_entry m f ≡ false → removed_tests m (Some f) ≡ None
  nothing_refused directory system is = removed_is m f ∙ by (is_directory f) (is_system f) (has_entry m f) directory system is
    where
      by : (b c d : Bool) → not b ≡ false → c ≡ false → d ≡ false → kind_or b c d ≡ None
      by true false false e g h = refl
      by true false true e g h = cc
      by true true d e g h = cc
      by false c d e g h = cc

-- ---- entries of a directory
pub entries_among : (d : Fid) (is : List Item) → nat_lt 0 (length (namings_in d is)) ≡ list_any is_an_entry is
entries_among d [] = refl
entries_among d (space n ∷ is) = entries_among d is
entries_among d (entry f name ∷ is) = lt-ltb 0 (length (namings_in d (entry f name ∷ is))) (omega arith)
