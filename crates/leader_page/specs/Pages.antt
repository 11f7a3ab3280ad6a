-- What a caller sees of leader pages: values of 256 words, and the leaders that they say.
use Rattle.std.specs.Prelude.{◌≡◌, ℕ, ◌-◌, true, false, List, drop, replicate, Option, MatchOption}
use Rattle.alto_words.specs.declared.fid.Fid.{Fid}
use Rattle.disk_records.specs.Words.{word}
use Rattle.pack_model.specs.reading.Leaders as model
use Rattle.pack_model.specs.reading.Leaders.{is_readable, name_bytes, leader_words, leader_of}
use Rattle.leader_page.specs.declared.leader.Leader.{Leader}

-- what a leader says, its hints apart
abbrev pub said : Leader → model.Leader
said l = record { created = l.created; written = l.written; read = l.read; name = l.name; rest = l.rest }

-- this value says this leader, whatever file it is of, and has these hints in its words from 246 on
pub record Says (value : List ℕ) (leader : model.Leader) (hints : List ℕ) : Type 0 where
  pub readable : is_readable (leader_words value) ≡ true
  pub leader_is : (f : Fid) → leader_of f value ≡ leader
  pub hints_are : drop 246 value ≡ hints

-- the one answer to a value: none where no stored name is spelled, and else the leader that it says
abbrev pub IsDecoded : List ℕ → Option Leader → Type 0
IsDecoded value answer = MatchOption answer (is_readable (leader_words value) ≡ false) (λ l. Says value (said l) l.hints)

-- the bytes after the name are 0
abbrev pub IsPadded : List ℕ → Type 0
IsPadded value = let length_byte = word (name_bytes value) 0 in drop length_byte (drop 1 (name_bytes value)) ≡ replicate (39 - length_byte) 0
