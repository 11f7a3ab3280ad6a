use Rattle.std.proofs.Common.{◌≡◌, ◌++◌, map}
use Rattle.std.specs.List.{filter}
use Rattle.std.specs.Vec.Iter.{into_iter_items}
use Rattle.pack_reading.specs.Files.{is_shown, shown_of}
use Rattle.pack_reading.proofs.files.show_files.Given as goal

abbrev pub invariant-loop-file : goal.invariant-loop-file
invariant-loop-file l = l.shown.items ++ map shown_of (filter is_shown (into_iter_items l.file-iterator)) ≡ map shown_of (filter is_shown l.fn.files)
