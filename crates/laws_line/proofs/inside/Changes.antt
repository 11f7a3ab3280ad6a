-- Operations that leave names as they are keep the files fitting.
use Rattle.std.proofs.Common.{◌++◌, ◌+◌, ◌∙◌, ◌∷◌, ◌≡◌, ◌≤◌, Bool, List, Some, [], ap, arith, length, length-append, length-take, refl, sym, take, ℕ}
use Rattle.std.proofs.lemmas.List.Elements.{All-append, All-cons, All-nil}
use Rattle.std.specs.FinMap.{get}
use Rattle.std.specs.List.{list_any}
use Rattle.laws_room.specs.alto_words.specs.Fid.{is_fid}
use Rattle.laws_room.specs.alto_words.specs.declared.fid.Fid.{Fid}
use Rattle.laws_line.proofs.inside.FreeWords.{row_widened}
use Rattle.laws_line.proofs.inside.Mentions.{any_first}
use Rattle.laws_line.proofs.inside.Runs.{IsShort}
use Rattle.laws_line.proofs.inside.Updates.{Fair, Keeps, kept_updated}
use Rattle.laws_line.specs.LineLaws.{LeavesNames}
use Rattle.laws_room.specs.pack_laws.proofs.Bytes.{length-put_at}
use Rattle.pack_model.specs.reading.Bodies.{Body, File, body_length, pages_for}
use Rattle.pack_model.specs.reading.Bodies.Body.{data_of, items_of}
use Rattle.pack_model.specs.reading.Bytes.{put_at}
use Rattle.pack_model.specs.operations.Committing.{length_in, length_of, pages_added, pages_for_operation}
use Rattle.pack_model.specs.reading.Leaders.{Leader}
use Rattle.pack_model.specs.reading.Model.{Model}
use Rattle.pack_model.specs.reading.Namings.{Naming, namings_in}
use Rattle.pack_model.specs.reading.Slots.Item.{space}
use Rattle.pack_model.specs.operations.Step.{Operation, on_bytes, on_items, on_leader, step}
use Rattle.pack_model.specs.operations.Step.Operation.{cut, drop_file, enter, grow, leave, make, put, stamp, title, widen}
use Rattle.laws_room.specs.laws_record.proofs.Entered.{namings_in-append}
use Rattle.laws_room.specs.laws_record.proofs.Slotwise.{words-append}

-- other bytes of an ordinary file; a directory stays as it is
bytes_fair : (f : Fid) (h : List ℕ → List ℕ) (more : ℕ) (l : Leader) (b : Body) → ((bytes : List ℕ) → b ≡ data_of bytes → pages_for (length (h bytes)) ≤ pages_for (length bytes) + more) → Fair f (on_bytes h) more (record { leader = l; body = b })
bytes_fair f h more l (data_of bytes) few = record { pages = few bytes refl; name = λ s. s; slots = λ s. s; named = λ q e. e; row = omega arith }
bytes_fair f h more l (items_of is) few = record { pages = omega arith; name = λ s. s; slots = λ s. s; named = λ q e. e; row = omega arith }

-- another leader
leader_fair : (f : Fid) (h : Leader → Leader) (x : File) → (length x.leader.name ≤ 39 → length (h x.leader).name ≤ 39) → Fair f (on_leader h) 0 x
leader_fair f h x short = record { pages = omega arith; name = short; slots = λ s. s; named = λ q e. e; row = omega arith }

-- a free slot of 256 words more is a page more
page_fair : (d : Fid) (l : Leader) (b : Body) → Fair d (on_items (λ is. is ++ space 256 ∷ [])) 1 (record { leader = l; body = b })
page_fair d l (data_of bytes) = record { pages = omega arith; name = λ s. s; slots = λ s. s; named = λ q e. e; row = omega arith }
page_fair d l (items_of is) = record {
  pages = (let w = words-append is (space 256 ∷ []) in omega arith);
  name = λ s. s;
  slots = λ s. All-append IsShort is (space 256 ∷ []) s (All-cons IsShort (space 256) [] (omega arith) (All-nil IsShort));
  named = λ q e. ap (any_of q) (namings_in-append d is (space 256 ∷ [])) ∙ any_first (is_of q) (namings_in d is) [] e;
  row = row_widened is (space 256 ∷ []);
}
  where
    is_of : Fid → Naming → Bool
    is_of q n = is_fid n.fid q

    any_of : Fid → List Naming → Bool
    any_of q ns = list_any (is_of q) ns

-- the length of a file that is there
length_there : (m : Model) (f : Fid) (x : File) → get m.files f ≡ Some x → length_of m f ≡ body_length x.body
length_there m f x e = ap length_in e

pub keeps_step : (m : Model) (o : Operation) → LeavesNames m o → Keeps m (step m o) (pages_for_operation m o)
keeps_step m (put f offset new) within = kept_updated m f (on_bytes (put_at offset new)) 0 (λ x e. let s = length_there m f x e in bytes_fair f (put_at offset new) 0 x.leader x.body (λ bytes is.
    let n : body_length x.body ≡ length bytes = ap body_length is in
    let l : length (put_at offset new bytes) ≡ length bytes = length-put_at offset new bytes (omega arith) in omega arith))
keeps_step m (grow f new) h = kept_updated m f (on_bytes (λ bytes. bytes ++ new)) (pages_added (length_of m f) (length new)) (λ x e. let s = length_there m f x e in bytes_fair f (λ bytes. bytes ++ new) (pages_added (length_of m f) (length new)) x.leader x.body (λ bytes is.
    let n : body_length x.body ≡ length bytes = ap body_length is in
    let l : length (bytes ++ new) ≡ length_of m f + length new = length-append bytes new ∙ ap (λ k. k + length new) (sym (s ∙ n)) in omega arith))
keeps_step m (cut f n) h = kept_updated m f (on_bytes (take n)) 0 (λ x e. bytes_fair f (take n) 0 x.leader x.body (λ bytes is. let l = length-take n bytes in omega arith))
keeps_step m (title f name) short = kept_updated m f (on_leader (λ l. record l { name = name })) 0 (λ x e. leader_fair f (λ l. record l { name = name }) x (λ s. short))
keeps_step m (stamp f moment) h = kept_updated m f (on_leader (λ l. record l { written = moment })) 0 (λ x e. leader_fair f (λ l. record l { written = moment }) x (λ s. s))
keeps_step m (widen d) h = kept_updated m d (on_items (λ is. is ++ space 256 ∷ [])) 1 (λ x e. page_fair d x.leader x.body)
keeps_step m (make f name moment) h = absurd h
keeps_step m (drop_file f) h = absurd h
keeps_step m (leave d name) h = absurd h
keeps_step m (enter d name f) h = absurd h
