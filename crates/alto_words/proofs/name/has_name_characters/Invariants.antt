use Rattle.std.proofs.Common.{◌≡◌, take}
use Rattle.std.specs.List.{list_all}
use Rattle.alto_words.specs.Names.{is_name_character}
use Rattle.alto_words.proofs.name.has_name_characters.Given as goal

abbrev pub invariant-loop-c : goal.invariant-loop-c
invariant-loop-c l = l.all ≡ list_all is_name_character (take l.c-index l.text)
