use Rattle.std.proofs.Common.{◌≡◌, List, ℕ, Option, Some, None, ap, ◌∙◌, rules}
use Rattle.std.specs.Option.{MatchOption}
use Rattle.alto_words.specs.declared.fid.Fid.{Fid}
use Rattle.alto_words.specs.Fid.{serial_of}
use Rattle.alto_words.specs.Names.{lost}
use Rattle.pack_model.specs.reading.Leaders.{leader_of, leader_words}
use Rattle.leader_page.proofs.Spelling.{spelled}
use Rattle.leader_page.proofs.Decoding.{of_file_named, of_file_lost}
use Rattle.leader_page.proofs.leader.Leader.of_file.Goals as goal

-- the name that was read, or else the lost one
own : (f : Fid) (value name : List ℕ) (read : Option (List ℕ)) (Lost : Type 0) → (Lost → name ≡ lost (serial_of f)) → MatchOption read Lost (λ x. name ≡ x) → read ≡ spelled (leader_words value) → record (leader_of f value) { name = name } ≡ leader_of f value
own f value name None Lost is cases read = of_file_lost f value name (is cases) read
own f value name (Some x) Lost is cases read = of_file_named f value name (ap Some cases ∙ read)

pub returns-clause-leader : goal.returns-clause-leader
returns-clause-leader c =
    let name = c.unwrap_or_else-name.result in
    c.under.ensures.leader c.args.fid ∙ own c.args.fid c.args.value.now name c.read_name.result _ (λ h. search rules) c.unwrap_or_else-name.ensures c.read_name.ensures
