-- The lines of each of some numbers, as a loop writes them.
use Rattle.std.proofs.Common.{◌≡◌, ℕ, ◌+◌, ◌<◌, refl, sym, ap, ◌∙◌, arith, List, [], ◌∷◌, ◌++◌, length, drop, get_or}
use Rattle.std.proofs.Common.{append_assoc, suc}
use Rattle.std.specs.List.{range_with_len}
use Rattle.std.proofs.lemmas.List.{append-nil, at_drop_more}
use Rattle.cert_types.proofs.Numbers.{numbers-more}
use Rattle.report_text.specs.Pieces.{numbered_lines}
use Rattle.facts_report.specs.FactTexts.{lines_of_each}

-- the lines of two lists of numbers
each_joined : (f : ℕ → List ℕ) (js ks : List ℕ) → lines_of_each f (js ++ ks) ≡ lines_of_each f js ++ lines_of_each f ks
each_joined f [] ks = refl
each_joined f (j ∷ js) ks =
    ap (λ (t : List ℕ). f j ++ t) (each_joined f js ks) ∙ sym
    (append_assoc (f j) (lines_of_each f js) (lines_of_each f ks))

-- the lines with those of one number more
each_more : (f : ℕ → List ℕ) (n : ℕ) → lines_of_each f (range_with_len 0 (n + 1)) ≡ lines_of_each f (range_with_len 0 n)
    ++ f n
each_more f n =
    ap (lines_of_each f) (numbers-more 0 n)
    ∙ (each_joined f (range_with_len 0 n) ((0 + n) ∷ [])
    ∙ (ap (λ (m : ℕ). lines_of_each f (range_with_len 0 n) ++ lines_of_each f (m ∷ []))
    (let z : 0 + n ≡ n = omega arith in z)
    ∙ ap (λ (t : List ℕ). lines_of_each f (range_with_len 0 n) ++ t) (append-nil (f n))))

-- after the lines of the first n numbers that of number n is written
pub each_pushed : (f : ℕ → List ℕ) (n : ℕ) (base old new : List ℕ) → old ≡ base ++ lines_of_each f (range_with_len 0 n)
    → new ≡ old ++ f n → new ≡ base ++ lines_of_each f (range_with_len 0 (n + 1))
each_pushed f n base old new e h =
    h
    ∙ (ap (λ (t : List ℕ). t ++ f n) e
    ∙ (append_assoc base (lines_of_each f (range_with_len 0 n)) (f n)
    ∙ ap (λ (t : List ℕ). base ++ t) (sym (each_more f n))))

-- the lines of all nine numbers are written
pub each_whole : (f : ℕ → List ℕ) (n : ℕ) (base new : List ℕ) → n ≡ 9
    → new ≡ base ++ lines_of_each f (range_with_len 0 n)
    → new ≡ base ++ lines_of_each f (range_with_len 0 9)
each_whole f n base new e h = h ∙ ap (λ (k : ℕ). base ++ lines_of_each f (range_with_len 0 k)) e

-- the lines of one more element, numbered from 0
pub line_more : {X : Type 0} (lines : ℕ → X → List ℕ) (xs : List X) (i : ℕ) (d : X) (old new all : List ℕ)
    → i < length xs
    → old ++ numbered_lines lines i (drop i xs) ≡ all → new ≡ old ++ lines i (get_or xs i d)
    → new ++ numbered_lines lines (i + 1) (drop (i + 1) xs) ≡ all
line_more {X} lines xs i d old new all lt inv e =
    let next : suc i ≡ i + 1 = omega arith in
    let rest = numbered_lines lines (suc i) (drop (i + 1) xs) in
    let step : numbered_lines lines i (drop i xs) ≡ lines i (get_or xs i d) ++ rest =
    at_drop_more (λ (ys : List X). numbered_lines lines i ys) xs i d lt in
    ap (λ (n : ℕ). new ++ numbered_lines lines n (drop (i + 1) xs)) (sym next)
    ∙ (ap (λ (t : List ℕ). t ++ rest) e
    ∙ (append_assoc old (lines i (get_or xs i d)) rest ∙ (ap (λ (t : List ℕ). old ++ t) (sym step) ∙ inv)))
