use Rattle.std.proofs.Common.{refl}
use Rattle.alto_words.proofs.CharacterTable.{row_of}
use Rattle.alto_words.proofs.characters.is_name_character.Goals as goal

pub returns : goal.returns
returns c = row_of _ c.args.c refl c.ranges.c.fits
