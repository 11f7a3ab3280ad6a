-- Files that get a name where they have none, one after another.
use Rattle.std.proofs.Common.{◌≡◌, ℕ, ◌+◌, ◌<◌, List, [], ◌∷◌, ◌++◌, length, take, get_or, map, refl, sym, ap, ◌∙◌}
use Rattle.std.specs.FinMap.{FinMap}
use Rattle.std.proofs.lemmas.List.{take_more, map-append}
use Rattle.alto_words.specs.declared.fid.Fid.{Fid}
use Rattle.alto_words.specs.Fid.{fid_cmp}
use Rattle.pack_model.specs.showing.View.{Home, Seen}
use Rattle.pack_model.specs.showing.Settling.{adopted, settled}
use Rattle.pack_reading.specs.declared.shown.ShownFile.{ShownFile}
use Rattle.pack_reading.specs.Shows.{seen_file}

pub settled-push : (homes : FinMap fid_cmp Home) (es : List (Fid × Seen)) (e : Fid × Seen) → settled homes (es ++ e ∷ []) ≡ adopted (settled homes es) e
settled-push homes [] e = refl
settled-push homes (x ∷ es) e = settled-push (adopted homes x) es e

-- one file more
pub settled_more : (homes : FinMap fid_cmp Home) (files : List ShownFile) (i : ℕ) (file : ShownFile) → i < length files → file ≡ get_or files i file
    → adopted (settled homes (map seen_file (take i files))) (seen_file file) ≡ settled homes (map seen_file (take (i + 1) files))
settled_more homes files i file more is =
    sym (
    ap (λ l. settled homes (map seen_file l)) (take_more files i file more ∙ ap (λ s. take i files ++ s ∷ []) (sym is))
    ∙ ap (settled homes) (map-append seen_file (take i files) (file ∷ []))
    ∙ settled-push homes (map seen_file (take i files)) (seen_file file)
    )
