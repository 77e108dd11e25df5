-- A column of rows, one row after the other.
use Rattle.std.proofs.Common.{◌≡◌, ℕ, ◌+◌, ◌<◌, ◌≤◌, ◌⊎◌, inl, inr, List, [], ◌∷◌, map, length, drop, get_or, ap, arith}
use Rattle.std.proofs.Common.{refl, sym, ◌∙◌}
use Rattle.std.specs.Prelude.{ℤ, pos, ◌+ℤ◌, ◌*ℤ◌, unsigned_abs}
use Rattle.std.proofs.lemmas.Int.{ints}
use Rattle.std.proofs.lemmas.Bool.{cases_lt}
use Rattle.std.proofs.lemmas.List.{drop_more, drop_all, get_or_past}
use Rattle.std.proofs.lemmas.List.Elements.{All-head, All-tail}
use Rattle.linear_forms.proofs.int_laws.RingLaws.{mul-zero_ℤ}
use Rattle.linear_forms.specs.Forms.{Form, at}
use Rattle.linear_forms.specs.Certificates.{combined_coef}
use Rattle.poly_terms.specs.declared.poly.Row.{Row}
use Rattle.poly_terms.specs.Views.{form_of}
use Rattle.farkas_cert.specs.declared.combination.Column.{Column}
use Rattle.farkas_cert.specs.declared.combination.Column.TheVariants.{Unknown, Constants}
use Rattle.farkas_cert.specs.Columns.{number_in, combined_in, HaveAtMost}
use Rattle.farkas_cert.specs.Sizes.{column_size, column_limit, AreSmall}

-- a column of rows is the first row's number times its multiplier, plus that of the others
combined_in-next : (c : Column) (m : ℕ) (ms : List ℕ) (f : Form) (rows : List Form) → combined_in c (m ∷ ms) (f ∷ rows) ≡ pos m *ℤ number_in c f +ℤ combined_in c ms rows
combined_in-next (Unknown u) m ms f rows = refl
combined_in-next Constants m ms f rows = refl

-- without rows the column's number is 0
combined_in-no_row : (c : Column) (ms : List ℕ) → combined_in c ms [] ≡ pos 0
combined_in-no_row (Unknown u) [] = refl
combined_in-no_row (Unknown u) (m ∷ ms) = refl
combined_in-no_row Constants [] = refl
combined_in-no_row Constants (m ∷ ms) = refl

-- without multipliers the column's number is 0
combined_in-no_multiplier : (c : Column) (rows : List Form) → combined_in c [] rows ≡ pos 0
combined_in-no_multiplier (Unknown u) rows = refl
combined_in-no_multiplier Constants rows = refl

-- the rest of a column from a position on is the row there times its multiplier, plus the rest after it
pub left-next : (c : Column) (ms : List ℕ) (rows : List Row) (i : ℕ) (r : Row) → i < length ms → i < length rows → r ≡ get_or rows i r
    → combined_in c (drop i ms) (map form_of (drop i rows)) ≡ pos (get_or ms i 0) *ℤ number_in c (form_of r) +ℤ combined_in c (drop (i + 1) ms) (map form_of (drop (i + 1) rows))
left-next c ms rows i r lm lr e =
    ap (λ (xs : List ℕ). combined_in c xs (map form_of (drop i rows))) (drop_more ms i 0 lm)
    ∙ (ap (λ (xs : List Row). combined_in c (get_or ms i 0 ∷ drop (i + 1) ms) (map form_of xs)) (drop_more rows i r lr)
    ∙ (ap (λ (x : Row). combined_in c (get_or ms i 0 ∷ drop (i + 1) ms) (form_of x ∷ map form_of (drop (i + 1) rows))) (sym e)
    ∙ combined_in-next c (get_or ms i 0) (drop (i + 1) ms) (form_of r) (map form_of (drop (i + 1) rows))))

-- the rest is 0 where one of the lists ends
pub left-end : (c : Column) (ms : List ℕ) (rows : List Row) (i : ℕ) → (length ms ≤ i) ⊎ (length rows ≤ i) → combined_in c (drop i ms) (map form_of (drop i rows)) ≡ pos 0
left-end c ms rows i (inl h) = ap (λ (xs : List ℕ). combined_in c xs (map form_of (drop i rows))) (drop_all i ms h) ∙ combined_in-no_multiplier c (map form_of (drop i rows))
left-end c ms rows i (inr h) = ap (λ (xs : List Row). combined_in c (drop i ms) (map form_of xs)) (drop_all i rows h) ∙ combined_in-no_row c (drop i ms)

-- the rest of the absolute values from a position on
pub size-next : (c : Column) (rows : List Row) (i : ℕ) (r : Row) → i < length rows → r ≡ get_or rows i r
    → column_size (number_in c) (map form_of (drop i rows)) ≡ unsigned_abs (number_in c (form_of r)) + column_size (number_in c) (map form_of (drop (i + 1) rows))
size-next c rows i r l e =
    ap (λ (xs : List Row). column_size (number_in c) (map form_of xs)) (drop_more rows i r l)
    ∙ ap (λ (x : Row). unsigned_abs (number_in c (form_of x)) + column_size (number_in c) (map form_of (drop (i + 1) rows))) (sym e)

-- a column of small rows is small
pub column-small : (c : Column) (rows : List Form) → AreSmall rows → column_size (number_in c) rows ≤ column_limit
column-small (Unknown u) rows h = h.coefs u
column-small Constants rows h = h.constants

-- past the coefficients of all rows, the combined coefficients are 0
pub combined_past : (ms : List ℕ) (rows : List Form) (n u : ℕ) → HaveAtMost n rows → n ≤ u → combined_coef ms rows u ≡ pos 0
combined_past [] rows n u h l = refl
combined_past (m ∷ ms) [] n u h l = refl
combined_past (m ∷ ms) (r ∷ rows) n u h l =
    let P : Form → Type 0 = λ (f : Form). length f.coefs ≤ n in
    both _ _ (mul-zero_ℤ (pos m) (at r.coefs u) (get_or_past r.coefs u (pos 0) (omega (arith, All-head P r rows h)))) (combined_past ms rows n u (All-tail P r rows h) l)
  where
    both : (a b : ℤ) → a ≡ pos 0 → b ≡ pos 0 → a +ℤ b ≡ pos 0
    both a b e f = omega (arith, ints)

-- if coefficients agree below a position that is past all rows and the list, they agree everywhere
pub coefs_past : (ms : List ℕ) (rows : List Form) (coefs : List ℤ) (n k u : ℕ) → HaveAtMost n rows → n ≤ k → length coefs ≤ k
    → ((v : ℕ) → v < k → at coefs v ≡ combined_coef ms rows v) → at coefs u ≡ combined_coef ms rows u
coefs_past ms rows coefs n k u h in_rows in_coefs same = go (cases_lt u k)
  where
    go : (u < k) ⊎ (k ≤ u) → at coefs u ≡ combined_coef ms rows u
    go (inl l) = same u l
    go (inr l) = get_or_past coefs u (pos 0) (omega arith) ∙ sym (combined_past ms rows n u h (omega arith))
