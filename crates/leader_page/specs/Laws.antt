-- What holds of leader pages.
use Rattle.std.specs.Prelude.{◌≡◌, ℕ, ◌<◌, true, List, [], ◌∷◌, ◌++◌, length, take, drop, Option, Some, All}
use Rattle.alto_words.specs.declared.fid.Fid.{Fid}
use Rattle.alto_words.specs.Names.{is_stored_name}
use Rattle.pack_model.specs.reading.Leaders as model
use Rattle.pack_model.specs.reading.Leaders.{is_readable, leader_words, leader_of}
use Rattle.pack_model.specs.operations.PageWords.{leader_value, titled_value, stamped_value}
use Rattle.leader_page.specs.declared.leader.Leader.{Leader}
use Rattle.leader_page.specs.Pages.{said, Says, IsDecoded, IsPadded}

-- a value that says a leader is answered by that leader
abbrev pub ReadsBack : Type 0
ReadsBack = (value : List ℕ) (l : Leader) (answer : Option Leader) → Says value (said l) l.hints → IsDecoded value answer → answer ≡ Some l

-- a value with no bytes but 0 after the name is that of the leader that it says
abbrev pub WritesBack : Type 0
WritesBack =
    (value : List ℕ) (leader : model.Leader) (hints : List ℕ) → length value ≡ 256 → All (λ w. w < 65536) value → IsPadded value
    → Says value leader hints → leader_value leader hints ≡ value

abbrev pub LengthValue : Type 0
LengthValue =
    (leader : model.Leader) (hints : List ℕ) → is_stored_name leader.name ≡ true → length leader.rest ≡ 220 → length hints ≡ 10
    → length (leader_value leader hints) ≡ 256

-- the words of a leader say it
abbrev pub ValueSaysItsLeader : Type 0
ValueSaysItsLeader =
    (leader : model.Leader) (hints : List ℕ) → is_stored_name leader.name ≡ true → length leader.rest ≡ 220 → Says (leader_value leader hints) leader hints

-- a value with another name
pub record SaysTitled (value : List ℕ) (name : List ℕ) : Type 0 where
  pub readable : is_readable (leader_words (titled_value name value)) ≡ true
  pub leader_is : (f : Fid) → leader_of f (titled_value name value) ≡ record (leader_of f value) { name = name }
  pub hints_are : drop 246 (titled_value name value) ≡ drop 246 value

abbrev pub TitleChangesTheName : Type 0
TitleChangesTheName = (value name : List ℕ) → length value ≡ 256 → is_stored_name name ≡ true → SaysTitled value name

-- a value with another written date, and with other hints at its last page
pub record SaysStamped (value : List ℕ) (moment at number bytes : ℕ) : Type 0 where
  pub readable : is_readable (leader_words (stamped_value moment at number bytes value)) ≡ is_readable (leader_words value)
  pub leader_is : (f : Fid) → leader_of f (stamped_value moment at number bytes value) ≡ record (leader_of f value) { written = moment }
  pub hints_are : drop 246 (stamped_value moment at number bytes value) ≡ take 7 (drop 246 value) ++ (at ∷ number ∷ bytes ∷ [])

abbrev pub StampChangesTheWrittenDate : Type 0
StampChangesTheWrittenDate = (value : List ℕ) (moment at number bytes : ℕ) → length value ≡ 256 → SaysStamped value moment at number bytes
