-- The texts of the elements of a list, as a loop writes them: the written text and the remaining one are the whole.
use Rattle.std.proofs.Common.{◌≡◌, ℕ, suc, ◌+◌, ◌<◌, ◌≤◌, List, [], ◌∷◌, ◌++◌, length, map, drop, get_or, codes, refl}
use Rattle.std.proofs.Common.{sym, ◌∙◌, ap, append_assoc, arith}
use Rattle.std.proofs.lemmas.List.{append-nil, at_drop_more}
use Rattle.std.proofs.Math.ListN.{drop_of_length-le}
use Rattle.model.specs.Programs.{Symbol}
use Rattle.cert_types.specs.cert_rules.Gaps.{SymbolPlace}
use Rattle.report_text.specs.Pieces.{with_commas_before, numbered_lines}
use Rattle.report_text.specs.Reasons.{shut_line, shut_lines}

-- the text of one more element after a comma
pub commas_with_one_more : {X : Type 0} (f : X → List ℕ) (xs : List X) (i : ℕ) (d : X) (old new all : List ℕ) → i < length xs
    → old ++ with_commas_before (map f (drop i xs)) ≡ all → new ≡ (old ++ codes ", ") ++ f (get_or xs i d)
    → new ++ with_commas_before (map f (drop (i + 1) xs)) ≡ all
commas_with_one_more {X} f xs i d old new all lt inv e =
    let rest = with_commas_before (map f (drop (i + 1) xs)) in
    let step : with_commas_before (map f (drop i xs)) ≡ codes ", " ++ (f (get_or xs i d) ++ rest) = at_drop_more (λ (ys : List X). with_commas_before (map f ys)) xs i d lt in
    ap (λ (t : List ℕ). t ++ rest) e
    ∙ (append_assoc (old ++ codes ", ") (f (get_or xs i d)) rest
    ∙ (append_assoc old (codes ", ") (f (get_or xs i d) ++ rest) ∙ (ap (λ (t : List ℕ). old ++ t) (sym step) ∙ inv)))

-- after the last element the text with commas is whole
pub commas_complete : {X : Type 0} (f : X → List ℕ) (xs : List X) (i : ℕ) (old all : List ℕ) → length xs ≤ i
    → old ++ with_commas_before (map f (drop i xs)) ≡ all → old ≡ all
commas_complete {X} f xs i old all le inv =
    let step : with_commas_before (map f (drop i xs)) ≡ [] = ap (λ (ys : List X). with_commas_before (map f ys)) (drop_of_length-le xs le) in
    sym (append-nil old) ∙ (ap (λ (t : List ℕ). old ++ t) (sym step) ∙ inv)

-- the line of one more shut place
pub shut_more : {X : Type 0} (symbols : List Symbol) (f : X → SymbolPlace) (xs : List X) (i : ℕ) (d : X) (old new all : List ℕ) → i < length xs
    → old ++ shut_lines symbols (map f (drop i xs)) ≡ all → new ≡ old ++ shut_line symbols (f (get_or xs i d))
    → new ++ shut_lines symbols (map f (drop (i + 1) xs)) ≡ all
shut_more {X} symbols f xs i d old new all lt inv e =
    let rest = shut_lines symbols (map f (drop (i + 1) xs)) in
    let step : shut_lines symbols (map f (drop i xs)) ≡ shut_line symbols (f (get_or xs i d)) ++ rest = at_drop_more (λ (ys : List X). shut_lines symbols (map f ys)) xs i d lt in
    ap (λ (t : List ℕ). t ++ rest) e
    ∙ (append_assoc old (shut_line symbols (f (get_or xs i d))) rest ∙ (ap (λ (t : List ℕ). old ++ t) (sym step) ∙ inv))

-- after the last shut place the lines are complete
pub shut_end : {X : Type 0} (symbols : List Symbol) (f : X → SymbolPlace) (xs : List X) (i : ℕ) (old all : List ℕ) → length xs ≤ i
    → old ++ shut_lines symbols (map f (drop i xs)) ≡ all → old ≡ all
shut_end {X} symbols f xs i old all le inv =
    let step : shut_lines symbols (map f (drop i xs)) ≡ [] = ap (λ (ys : List X). shut_lines symbols (map f ys)) (drop_of_length-le xs le) in
    sym (append-nil old) ∙ (ap (λ (t : List ℕ). old ++ t) (sym step) ∙ inv)

-- the lines with those of one element more, by its number
pub numbered_more : {X : Type 0} (lines : ℕ → X → List ℕ) (xs : List X) (i : ℕ) (d : X) (old new all : List ℕ) → i < length xs
    → old ++ numbered_lines lines (i + 1) (drop i xs) ≡ all → new ≡ old ++ lines (i + 1) (get_or xs i d)
    → new ++ numbered_lines lines (i + 1 + 1) (drop (i + 1) xs) ≡ all
numbered_more {X} lines xs i d old new all lt inv e =
    let next : suc (i + 1) ≡ i + 1 + 1 = omega arith in
    let rest = numbered_lines lines (suc (i + 1)) (drop (i + 1) xs) in
    let step : numbered_lines lines (i + 1) (drop i xs) ≡ lines (i + 1) (get_or xs i d) ++ rest = at_drop_more (λ (ys : List X). numbered_lines lines (i + 1) ys) xs i d lt in
    ap (λ (n : ℕ). new ++ numbered_lines lines n (drop (i + 1) xs)) (sym next)
    ∙ (ap (λ (t : List ℕ). t ++ rest) e
    ∙ (append_assoc old (lines (i + 1) (get_or xs i d)) rest ∙ (ap (λ (t : List ℕ). old ++ t) (sym step) ∙ inv)))

-- after the last element the lines by numbers are whole
pub numbered_end : {X : Type 0} (lines : ℕ → X → List ℕ) (xs : List X) (i : ℕ) (old all : List ℕ) → length xs ≤ i
    → old ++ numbered_lines lines (i + 1) (drop i xs) ≡ all → old ≡ all
numbered_end {X} lines xs i old all le inv =
    let step : numbered_lines lines (i + 1) (drop i xs) ≡ [] = ap (λ (ys : List X). numbered_lines lines (i + 1) ys) (drop_of_length-le xs le) in
    sym (append-nil old) ∙ (ap (λ (t : List ℕ). old ++ t) (sym step) ∙ inv)

-- elements have the same lines as their plain data
pub numbered_same : {X Y : Type 0} (f : ℕ → X → List ℕ) (g : ℕ → Y → List ℕ) (view : X → Y) → ((n : ℕ) (x : X) → f n x ≡ g n (view x))
    → (n : ℕ) (xs : List X) → numbered_lines f n xs ≡ numbered_lines g n (map view xs)
numbered_same f g view same n [] = refl
numbered_same f g view same n (x ∷ xs) =
    ap (λ (t : List ℕ). t ++ numbered_lines f (suc n) xs) (same n x)
    ∙ ap (λ (t : List ℕ). g n (view x) ++ t) (numbered_same f g view same (suc n) xs)

-- the lines with those of one row more
pub rows_more : {R X : Type 0} (rows : List R) (items : R → List X) (line : ℕ → ℕ → X → List ℕ) (i : ℕ) (d : R) (row : List X)
    (old new all : List ℕ) → i < length rows → old ++ numbered_lines (λ n r. numbered_lines (line n) 1 (items r)) (i + 1) (drop i rows) ≡ all
    → row ≡ items d → d ≡ get_or rows i d → new ≡ old ++ numbered_lines (line (i + 1)) 1 row
    → new ++ numbered_lines (λ n r. numbered_lines (line n) 1 (items r)) (i + 1 + 1) (drop (i + 1) rows) ≡ all
rows_more {R} {X} rows items line i d row old new all lt inv e f g =
    numbered_more (λ n r. numbered_lines (line n) 1 (items r)) rows i d old new all lt inv
    (g ∙ ap (λ (xs : List X). old ++ numbered_lines (line (i + 1)) 1 xs) (e ∙ ap items f))

-- pieces appended to a text, two and up to five
pub two_pushed : (old p q a b c d : List ℕ) → p ≡ old ++ a → a ≡ c → q ≡ p ++ b → b ≡ d → q ≡ old ++ (c ++ d)
two_pushed old p q a b c d ep ea eq eb =
    let whole : q ≡ (old ++ c) ++ d = cc in
    whole ∙ append_assoc old c d

-- three appended pieces follow the text in order, each given by an equation
pub three_pushed : (old p q r a b c d e f : List ℕ) → p ≡ old ++ a → a ≡ d → q ≡ p ++ b → b ≡ e → r ≡ q ++ c → c ≡ f
    → r ≡ old ++ (d ++ (e ++ f))
three_pushed old p q r a b c d e f ep ea eq eb er ec =
    er
    ∙ (ap (λ (t : List ℕ). t ++ c) (two_pushed old p q a b d e ep ea eq eb)
    ∙ (ap (λ (t : List ℕ). (old ++ (d ++ e)) ++ t) ec
    ∙ (append_assoc old (d ++ e) f ∙ ap (λ (t : List ℕ). old ++ t) (append_assoc d e f))))

-- four appended pieces follow the text in order, each given by an equation
pub four_pushed : (old p q r s a b c d e f g h : List ℕ) → p ≡ old ++ a → a ≡ e → q ≡ p ++ b → b ≡ f → r ≡ q ++ c → c ≡ g
    → s ≡ r ++ d → d ≡ h → s ≡ old ++ (e ++ (f ++ (g ++ h)))
four_pushed old p q r s a b c d e f g h ep ea eq eb er ec es ed =
    let whole : s ≡ ((old ++ e) ++ f) ++ g ++ h = cc in
    whole ∙ (append_assoc ((old ++ e) ++ f) g h ∙ (append_assoc (old ++ e) f (g ++ h) ∙ append_assoc old e (f ++ (g ++ h))))

-- five appended pieces follow the text in order, each given by an equation
pub five_pushed : (old p q r s t a b c d e f g h i j : List ℕ) → p ≡ old ++ a → a ≡ f → q ≡ p ++ b → b ≡ g → r ≡ q ++ c
    → c ≡ h → s ≡ r ++ d → d ≡ i → t ≡ s ++ e → e ≡ j → t ≡ old ++ (f ++ (g ++ (h ++ (i ++ j))))
five_pushed old p q r s t a b c d e f g h i j ep ea eq eb er ec es ed et ee =
    two_pushed r s t d e i j es ed et ee
    ∙ (ap (λ (x : List ℕ). x ++ (i ++ j)) (three_pushed old p q r a b c f g h ep ea eq eb er ec)
    ∙ (append_assoc old (f ++ (g ++ h)) (i ++ j)
    ∙ ap (λ (x : List ℕ). old ++ x) (append_assoc f (g ++ h) (i ++ j) ∙ ap (λ (x : List ℕ). f ++ x) (append_assoc g h (i ++ j)))))

-- two pieces appended to an empty text are the whole, each given by an equation
pub whole_pushed : (old p q a b c d : List ℕ) → old ≡ [] → p ≡ old ++ a → a ≡ c → q ≡ p ++ b → b ≡ d → q ≡ c ++ d
whole_pushed old p q a b c d none ep ea eq eb =
    two_pushed old p q a b c d ep ea eq eb ∙ ap (λ (t : List ℕ). t ++ (c ++ d)) none
