use Rattle.std.proofs.Common.{◌≡◌, List, ℕ, ◌++◌, codes, OnOk, ◌∙◌, ap, subst, append_assoc}
use Rattle.exec_words.specs.Texts.{place_text, found_text, page_text, with_number}
use Rattle.exec_words.proofs.refusal.push_hint.Goals as goal

-- six pieces, one after the other
joined : (out a b c d e f : List ℕ) (one two three four five : List ℕ) → one ≡ out ++ a → two ≡ one ++ b → three ≡ two ++ c → four ≡ three ++ d → five ≡ four ++ e
    → five ++ f ≡ out ++ (a ++ b ++ c ++ d ++ e ++ f)
joined out a b c d e f one two three four five i j k l m =
    ap (λ t. t ++ f) (m ∙ ap (λ t. t ++ e) (l ∙ ap (λ t. t ++ d) (k ∙ ap (λ t. t ++ c) (j ∙ ap (λ t. t ++ b) i)))) ∙ simp append_assoc

pub returns : goal.returns
returns c =
    let all =
    joined c.args.out.now.items (codes "hint failed: ") (place_text c.args.place) (with_number (codes " at ") c.args.at) (page_text c.args.wanted) (codes " found") (found_text c.args.found)
    c.push.new.out.items c.push_place.new.out.items c.push_with_number.new.out.items c.push_page.new.out.items c.push-2.new.out.items
    c.in_ok-push.ensures c.in_ok-push_place.ensures c.in_ok-push_with_number.ensures c.in_ok-push_page.ensures c.in_ok-push-2.ensures in
    subst (λ t. OnOk c.push_found.result (c.push_found.new.out.items ≡ t)) all c.push_found.ensures
