-- The rows of a rule are small; the dot product of two lists.
use Rattle.std.proofs.Common.{◌≡◌, ℕ, suc, ◌+◌, ◌*◌, ◌<◌, ◌≤◌, ◌⊎◌, inl, inr, List, [], ◌∷◌, length, drop, get_or, ap}
use Rattle.std.proofs.Common.{arith, refl, sym, ◌∙◌}
use Rattle.std.specs.Prelude.{ℤ, pos, ◌+ℤ◌, ◌*ℤ◌, unsigned_abs}
use Rattle.std.specs.List.{All}
use Rattle.std.proofs.lemmas.Int.{ints}
use Rattle.std.proofs.lemmas.Bool.{cases_lt}
use Rattle.std.proofs.lemmas.List.{drop_more, drop_all, get_or_past}
use Rattle.std.proofs.lemmas.List.Elements.{All-head, All-tail, All-get_or}
use Rattle.linear_forms.proofs.int_laws.RingLaws.{mul-zero_ℤ}
use Rattle.linear_forms.specs.Forms.{Form, at, list_dot}
use Rattle.farkas_cert.specs.Scales.{numbers_at}
use Rattle.farkas_cert.specs.Sizes.{column_size, row_limit, HasRowNumbers, RowsOfARuleAreSmall}

-- the sum of the absolute values of numbers below 2^63, one of each row
total_size-le : (number : Form → ℤ) (rows : List Form) → All HasRowNumbers rows → ((f : Form) → HasRowNumbers f → unsigned_abs (number f) + 1 ≤ row_limit)
    → column_size number rows + length rows ≤ row_limit * length rows
total_size-le number [] h small = omega arith
total_size-le number (f ∷ rows) h small = omega (arith, small f (All-head HasRowNumbers f rows h), total_size-le number rows (All-tail HasRowNumbers f rows h) small)

-- a coefficient is small, even if it isn't listed
coef-small : (f : Form) (u : ℕ) → HasRowNumbers f → unsigned_abs (at f.coefs u) + 1 ≤ row_limit
coef-small f u h = go (cases_lt u (length f.coefs))
  where
    go : (u < length f.coefs) ⊎ (length f.coefs ≤ u) → unsigned_abs (at f.coefs u) + 1 ≤ row_limit
    go (inl l) = omega (arith, All-get_or (λ (x : ℤ). unsigned_abs x < row_limit) f.coefs u (pos 0) l h.coefs)
    go (inr l) = omega (arith, ap unsigned_abs (get_or_past f.coefs u (pos 0) l))

-- at most 128 rows with numbers below 2^63 are small
pub rows_of_a_rule : RowsOfARuleAreSmall
rows_of_a_rule rows few h = record {
  coefs = λ u. omega (arith, total_size-le (λ (f : Form). at f.coefs u) rows h (λ f k. coef-small f u k));
  constants = omega (arith, total_size-le (λ (f : Form). f.constant) rows h (λ f k. omega (arith, k.constant)));
}

-- the dot product of two lists, as long as both have elements
abbrev pub zip_dot : List ℤ → List ℤ → ℤ
zip_dot [] ys = pos 0
zip_dot (x ∷ xs) [] = pos 0
zip_dot (x ∷ xs) (y ∷ ys) = x *ℤ y +ℤ zip_dot xs ys

-- the dot product of a list with zeros is 0
list_dot-zeros : (xs : List ℤ) (z : ℕ → ℤ) → ((j : ℕ) → z j ≡ pos 0) → list_dot xs z ≡ pos 0
list_dot-zeros [] z h = refl
list_dot-zeros (x ∷ xs) z h = both _ _ (mul-zero_ℤ x (z 0) (h 0)) (list_dot-zeros xs (λ j. z (suc j)) (λ j. h (suc j)))
  where
    both : (a b : ℤ) → a ≡ pos 0 → b ≡ pos 0 → a +ℤ b ≡ pos 0
    both a b e f = omega (arith, ints)

-- the dot product of two lists is that of the first with the numerators of the second
pub zip_dot-list_dot : (xs ys : List ℤ) → zip_dot xs ys ≡ list_dot xs (numbers_at ys)
zip_dot-list_dot [] ys = refl
zip_dot-list_dot (x ∷ xs) [] = sym (list_dot-zeros (x ∷ xs) (numbers_at []) (λ j. refl))
zip_dot-list_dot (x ∷ xs) (y ∷ ys) = ap (λ (v : ℤ). x *ℤ y +ℤ v) (zip_dot-list_dot xs ys)

-- the rest of the dot product from a position on
pub zip_dot-next : (xs ys : List ℤ) (i : ℕ) → i < length xs → i < length ys → zip_dot (drop i xs) (drop i ys) ≡ get_or xs i (pos 0) *ℤ get_or ys i (pos 0) +ℤ zip_dot (drop (i + 1) xs) (drop (i + 1) ys)
zip_dot-next xs ys i lx ly =
    ap (λ (v : List ℤ). zip_dot v (drop i ys)) (drop_more xs i (pos 0) lx)
    ∙ ap (λ (v : List ℤ). zip_dot (get_or xs i (pos 0) ∷ drop (i + 1) xs) v) (drop_more ys i (pos 0) ly)

-- the rest is 0 where one of the lists ends
pub zip_dot-end : (xs ys : List ℤ) (i : ℕ) → (length xs ≤ i) ⊎ (length ys ≤ i) → zip_dot (drop i xs) (drop i ys) ≡ pos 0
zip_dot-end xs ys i (inl h) = ap (λ (v : List ℤ). zip_dot v (drop i ys)) (drop_all i xs h)
zip_dot-end xs ys i (inr h) = ap (λ (v : List ℤ). zip_dot (drop i xs) v) (drop_all i ys h) ∙ no_second (drop i xs)
  where
    no_second : (v : List ℤ) → zip_dot v [] ≡ pos 0
    no_second [] = refl
    no_second (x ∷ v) = refl
