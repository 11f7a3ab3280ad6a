use Rattle.std.proofs.Common.{◌≡◌, ℕ, Bool, true, false, cond, ◌&&◌, ◌==◌, nat_eq, List, [], ◌∷◌, take, length, Some, None, refl, ◌∙◌, ap, subst}
use Rattle.std.specs.Option.{option_map}
use Rattle.std.specs.Cmp.Lexicographic.{pointwise}
use Rattle.alto_words.specs.Names.{is_stored_name}
use Rattle.alto_words.specs.Numbers.{number_in}
use Rattle.exec_words.specs.declared.line.Path.{Path}
use Rattle.exec_words.specs.declared.line.Target.TheVariants.{ByPath, BySerial}
use Rattle.exec_words.specs.Grammar.{file_in, path_in}
use Rattle.exec_words.proofs.operand.read_file.Goals as goal

no_path : path_in [] ≡ None
unfolding is_stored_name
no_path = refl

-- a text that doesn't begin with `#` is a path
by_path : (text : List ℕ) → pointwise nat_eq (take 1 text) (35 ∷ []) ≡ false → (path : Path) → Some path ≡ path_in text → Some (ByPath path) ≡ file_in text
by_path [] other path e = let f : Some path ≡ None = e ∙ no_path in cc
by_path (c ∷ text) other path e = by (c == 35) other
  where
    by : (b : Bool) → b && true ≡ false → Some (ByPath path) ≡ cond b (option_map BySerial (number_in text)) (option_map ByPath (path_in (c ∷ text)))
    by true h = let f : true ≡ false = h in cc
    by false h = ap (option_map ByPath) e

pub returns-in_ok-read_path-in-None : goal.returns-in_ok-read_path-in-None
returns-in_ok-read_path-in-None c = by_path c.args.text.now (subst (λ t. pointwise nat_eq (take (length t) c.args.text.now) t ≡ false) c.as_slice.ensures c.in-None.ensures.cases) c.in_ok-read_path-in-None.field-0 c.in_ok-read_path-in-None.ensures
