-- Packs that were sound when names had no versions are sound still, and are read as they were.
use Rattle.std.proofs.Common.{◌∙◌, sym}
use Rattle.pack_model.specs.alto_words.specs.Names.{is_bare_name, is_stored_name}
use Rattle.pack_model.specs.alto_words.proofs.Versions.{is_stored_name-bare}
use Rattle.pack_laws.specs.NameLaws.{OldPacks}
use Rattle.pack_laws.proofs.OwnRule.{own_read, sound_own}
use Rattle.pack_laws.proofs.WiderRule.{stays_sound}

-- a bare name is a stored one
pub old_packs : OldPacks
old_packs = λ p is. let stays = stays_sound is_bare_name is_stored_name is_stored_name-bare p is in (sound_own p stays.sound, sym (own_read p) ∙ stays.read)
