-- What the end of a session answers, and where replies come from.
use Rattle.std.specs.Prelude.{◌≡◌, []}
use Rattle.disk_records.specs.Causes.{Cause, disk, other}
use Rattle.exec_words.specs.declared.reply.Refusal.{Refusal}
use Rattle.exec_words.specs.declared.reply.Refusal.TheVariants as refusal
use Rattle.exec_words.specs.declared.reply.Reply.{Reply}
use Rattle.exec_words.specs.declared.reply.Reply.TheVariants as reply

-- ---- the end of a session
abbrev pub IsEndRefusal : Refusal → Type 0
IsEndRefusal (refusal.HintFailed place at wanted found) = Unit {0}
IsEndRefusal r = ⊥

abbrev pub IsEndAnswer : Reply → Type 0
IsEndAnswer (reply.Done text) = text ≡ []
IsEndAnswer (reply.Refused r) = IsEndRefusal r
IsEndAnswer reply.Quit = ⊥
IsEndAnswer reply.Scavenge = ⊥
IsEndAnswer reply.DiskFault = Unit {0}
IsEndAnswer reply.Memory = Unit {0}

-- ---- causes
abbrev pub cause_of_reply : Reply → Cause
cause_of_reply (reply.Done text) = other
cause_of_reply (reply.Refused r) = other
cause_of_reply reply.Quit = other
cause_of_reply reply.Scavenge = other
cause_of_reply reply.DiskFault = disk
cause_of_reply reply.Memory = other
