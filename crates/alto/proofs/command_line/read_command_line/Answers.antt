use Rattle.std.proofs.Common.{◌≡◌, ℕ, ◌-◌, List, length, take, drop, map, string_bytes, sym, ap, ◌∙◌, rules, arith, length-drop}
use Rattle.std.proofs.lemmas.Grind.{common_steps}
use Rattle.std.proofs.lemmas.List.{take_all, drop-map}
use Rattle.alto.proofs.command_line.read_command_line.Goals as goal

-- the words from an index on, by any view of words
taken_from : {A B : Type 0} (f : A → B) (words : List A) (n : ℕ) → map f (take (length words - n) (drop n words)) ≡ drop n (map f words)
taken_from f words n = ap (map f) (take_all (length words - n) (drop n words) (omega (arith, length-drop n words))) ∙ sym (drop-map f n words)

pub returns-in-Some-clause-reads : goal.returns-in-Some-clause-reads
returns-in-Some-clause-reads c = (
  search rules,
  record {
    start = c.in-Some.start;
    starts = sym c.start_of.ensures.start ∙ c.in-Some.is;
    cylinders = search rules;
    second = c.path_at.ensures;
    pack = grind (arith, common_steps);
    rest = taken_from string_bytes c.args.words.now c.in-Some.start.rest;
  },
)
