use Rattle.std.proofs.Common.{◌≡◌, ap, ◌∙◌, rules}
use Rattle.disk_records.specs.Addresses.{cylinders_of}
use Rattle.pack_model.specs.scavenger.Reports.{map_words}
use Rattle.scavenger.specs.Descriptors.{heads}
use Rattle.scavenger.proofs.OldSerial.{drives_said}
use Rattle.scavenger.proofs.system.System.says_drives.Goals as goal

pub returns-then-bytes-map_words : goal.returns-then-bytes-map_words
returns-then-bytes-map_words c = λ p shape is bytes.
    let maps : c.div_ceil-map_words.result ≡ map_words c.args.drives c.args.shape = search rules in
    let said : c.states.result ≡ heads c.args.self.now.words c.args.drives (cylinders_of c.args.shape) c.div_ceil-map_words.result = c.states.ensures ∙ ap (λ n. heads c.args.self.now.words c.args.drives n c.div_ceil-map_words.result) c.cylinders-then-bytes-map_words.ensures in
    drives_said p c.args.self.now.words is.words c.args.shape c.args.drives c.args.bytes c.div_ceil-map_words.result c.states.result bytes maps c.if-bytes-map_words.true said
