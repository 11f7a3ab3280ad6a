-- Links that were true are true again once an operation is done.
use Rattle.std.specs.Prelude.{List, length, ℕ}
use Rattle.laws_contents.specs.alto_words.specs.declared.fid.Fid.{Fid}
use Rattle.laws_contents.specs.disk_records.specs.Commands.{value_writes}
use Rattle.laws_contents.specs.disk_records.specs.declared.records.Event.{Event}
use Rattle.laws_contents.specs.disk_records.specs.Packs.{Pack, after, sector_at}
use Rattle.laws_contents.specs.pack_model.specs.operations.Commands.{cut_label, first_page_claim, grown_claims, grown_label, grown_value, leader_claim}
use Rattle.laws_contents.specs.pack_model.specs.reading.Files.{file_bytes}
use Rattle.laws_contents.specs.pack_model.specs.hints.Links.{LinksTrue}
use Rattle.laws_contents.specs.pack_model.specs.operations.Operations.{cut_writes, release_file_writes, grow_writes, make_writes}
use Rattle.laws_contents.specs.pack_model.specs.reading.Sights.{sights}
use Rattle.laws_contents.specs.pack_model.specs.states.Whole.{Tidy, Whole}
use Rattle.laws_operation.specs.ByteLaws.{MayCut, MayGrow, MayPut}
use Rattle.laws_operation.specs.LeaderLaws.{MayWriteLeader, stamped, titled}
use Rattle.laws_operation.specs.LifeLaws.{MayDrop, MayMake}

-- these record writes leave all links true where they were
abbrev pub KeepsLinks : Pack → List Event → Type 0
KeepsLinks p events = LinksTrue p → LinksTrue (after p events)

-- a value of an ordinary file's page, or of its leader
abbrev pub PutKeepsLinks : Type 0
PutKeepsLinks = (p : Pack) (f : Fid) (offset : ℕ) (new : List ℕ) (at : ℕ) (value : List ℕ) → Whole p → Tidy p → MayPut p f offset new at value → KeepsLinks p (value_writes at value)

abbrev pub TitleKeepsLinks : Type 0
TitleKeepsLinks = (p : Pack) (f : Fid) (name : List ℕ) (at : ℕ) (value : List ℕ) → Whole p → Tidy p → MayWriteLeader p f (titled name) at value → KeepsLinks p (value_writes at value)

abbrev pub StampKeepsLinks : Type 0
StampKeepsLinks = (p : Pack) (f : Fid) (moment : ℕ) (at : ℕ) (value : List ℕ) → Whole p → Tidy p → MayWriteLeader p f (stamped moment) at value → KeepsLinks p (value_writes at value)

-- a growth with the words that it writes
abbrev pub GrowKeepsLinks : Type 0
GrowKeepsLinks = (p : Pack) (f : Fid) (new past fresh : List ℕ) (at : ℕ) → let b : ℕ = length (file_bytes (sights p) f) in
    let claims = grown_claims p.shape f b at new past fresh in let label : List ℕ = grown_label p.shape b new fresh (sector_at p at).label in let value : List ℕ = grown_value b new past fresh (sector_at p at).value in
    Whole p → Tidy p → MayGrow p f new claims at label value → KeepsLinks p (grow_writes claims at label value)

-- a cut
abbrev pub CutKeepsLinks : Type 0
CutKeepsLinks = (p : Pack) (f : Fid) (n at : ℕ) (later : List ℕ) → Whole p → Tidy p → MayCut p f n at (cut_label n (sector_at p at).label) later
    → KeepsLinks p (cut_writes at (cut_label n (sector_at p at).label) (sector_at p at).value later)

-- a make
abbrev pub MakeKeepsLinks : Type 0
MakeKeepsLinks = (p : Pack) (f : Fid) (name : List ℕ) (moment leader_at page_at : ℕ) → let page = first_page_claim p.shape f leader_at page_at in let leader = leader_claim p.shape f name moment leader_at page_at in
    Whole p → Tidy p → MayMake p f name moment page leader → KeepsLinks p (make_writes page leader)

-- a drop except its entry's slot
abbrev pub ReleaseKeepsLinks : Type 0
ReleaseKeepsLinks = (p : Pack) (f : Fid) (at : ℕ) (pages : List ℕ) → Whole p → Tidy p → MayDrop p f at pages → KeepsLinks p (release_file_writes at pages)
