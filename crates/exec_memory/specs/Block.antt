-- Why no block is taken, as the refusal of a line.
use Rattle.zones.specs.declared.errors.ZoneError.{ZoneError}
use Rattle.zones.specs.declared.errors.ZoneError.TheVariants.{NoRoom}
use Rattle.exec_words.specs.declared.reply.Refusal.{Refusal}
use Rattle.exec_words.specs.declared.reply.Refusal.TheVariants as refusal

abbrev pub refusal_of : ZoneError → Refusal
refusal_of (NoRoom largest) = refusal.NoRoom largest
