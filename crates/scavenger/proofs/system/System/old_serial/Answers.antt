use Rattle.std.proofs.Common.{◌≡◌, inl, inr, ◌+◌, ◌*◌, sym, subst, rules}
use Rattle.disk_records.specs.declared.shape.Shape.{Shape}
use Rattle.alto_words.specs.Fid.{disk_descriptor}
use Rattle.pack_model.specs.reading.Files.{file_bytes}
use Rattle.pack_model.specs.reading.Model.{descriptor_words}
use Rattle.pack_model.specs.reading.Sights.{sights}
use Rattle.pack_model.specs.scavenger.Reports.{old_serial}
use Rattle.scavenger.proofs.OldSerial.{serial_said}
use Rattle.scavenger.proofs.system.System.old_serial.Goals as goal

pub returns-then-one : goal.returns-then-one
returns-then-one c = λ p shape is bytes.
    subst (λ (s : Shape). c.from.result * 65536 + c.from-then-one.result ≡ old_serial s (file_bytes (sights p) disk_descriptor) (descriptor_words (sights p))) (sym shape)
    (serial_said p c.args.self.now.words is.words c.args.shape (c.from.result * 65536 + c.from-then-one.result) c.says_drives-own.result c.says_drives-one.result (search rules) (search rules) (elim c.if-one.either [ inl x ↦ inl x | inr y ↦ inr y.1 ]) (search rules))
