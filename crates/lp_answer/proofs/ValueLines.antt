-- The lines of values, as a loop writes them: what is written, followed by what is left, is the whole.
use Rattle.std.proofs.Common.{◌≡◌, ℕ, ◌+◌, ◌<◌, ◌≤◌, List, [], ◌∷◌, ◌++◌, length, drop, get_or, sym, ◌∙◌, ap, append_assoc}
use Rattle.std.proofs.lemmas.List.{append-nil, at_drop_more, at_drop_all}
use Rattle.frac128.specs.declared.frac.Frac.{Frac}
use Rattle.lp_answer.specs.Texts.{value_line, value_lines}

-- after one more value's line is written
pub lines-more : (letter : List ℕ) (xs : List Frac) (i : ℕ) (x : Frac) (old new all : List ℕ) → i < length xs
    → x ≡ get_or xs i x → old ++ value_lines letter i (drop i xs) ≡ all → new ≡ old ++ value_line letter i x
    → new ++ value_lines letter (i + 1) (drop (i + 1) xs) ≡ all
lines-more letter xs i x old new all l is inv e =
    let rest = value_lines letter (i + 1) (drop (i + 1) xs) in
    let first : value_lines letter i (drop i xs) ≡ value_line letter i (get_or xs i x) ++ rest =
    at_drop_more (λ (ys : List Frac). value_lines letter i ys) xs i x l in
    let second : value_line letter i x ≡ value_line letter i (get_or xs i x) =
    ap (λ (y : Frac). value_line letter i y) is in
    ap (λ (t : List ℕ). t ++ rest) e
    ∙ (append_assoc old (value_line letter i x) rest
    ∙ (ap (λ (t : List ℕ). old ++ (t ++ rest)) second ∙ (ap (λ (t : List ℕ). old ++ t) (sym first) ∙ inv)))

-- after the last value the lines are complete
pub lines-end : (letter : List ℕ) (xs : List Frac) (i : ℕ) (old all : List ℕ) → length xs ≤ i
    → old ++ value_lines letter i (drop i xs) ≡ all → old ≡ all
lines-end letter xs i old all over inv =
    let none : value_lines letter i (drop i xs) ≡ [] =
    at_drop_all (λ (ys : List Frac). value_lines letter i ys) xs i over in
    sym (append-nil old) ∙ (ap (λ (t : List ℕ). old ++ t) (sym none) ∙ inv)
