use Rattle.std.proofs.Common.{◌≡◌, ◌++◌, ◌∷◌, List, [], ℕ, map, append_assoc, append-nil, subst, sym, ◌∙◌}
use Rattle.executive.specs.declared.order.Listed.{Listed}
use Rattle.executive.proofs.list.row_of.Goals as goal

abbrev names_in : List Listed → List (List ℕ)
names_in ls = map (λ (l : Listed). l.name) ls

-- one name more, and all
row_more : (row now : List (List ℕ)) (x : Listed) (left rest : List Listed) (all : List (List ℕ)) → now ≡ row ++ x.name ∷ [] → left ≡ x ∷ rest → row ++ names_in left ≡ all → now ++ names_in rest ≡ all
row_more row now x left rest all e s h = rw e (rw append_assoc (subst (λ (ls : List Listed). row ++ names_in ls ≡ all) s h))

row_all : (row : List (List ℕ)) (left : List Listed) (all : List (List ℕ)) → left ≡ [] → row ++ names_in left ≡ all → row ≡ all
row_all row left all s h = sym (append-nil row) ∙ subst (λ (ls : List Listed). row ++ names_in ls ≡ all) s h

pub loop-listed-preserved : goal.loop-listed-preserved
loop-listed-preserved c = row_more c.loop-listed.row.items c.push.new.self.items c.in-Some.listed.now c.loop-listed.listed-iterator c.next.new.self _ c.in_ok-push.ensures.items c.in-Some.ensures.steps c.loop-listed.invariant

pub returns : goal.returns
returns c = row_all c.loop-listed.row.items c.loop-listed.listed-iterator _ c.in-None.ensures.steps.0 c.loop-listed.invariant
