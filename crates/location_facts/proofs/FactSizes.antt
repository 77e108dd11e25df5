-- The combined rows of a rule are small enough for certificates, and so are the goals of facts.
use Rattle.std.proofs.Common.{◌≡◌, ℕ, zero, suc, ◌+◌, ◌*◌, ◌^◌, ◌<◌, ◌≤◌, ◌⊎◌, inl, inr, ap, refl, sym, ◌∙◌, subst}
use Rattle.std.proofs.Common.{arith}
use Rattle.std.proofs.Common.{List, [], ◌∷◌, ◌++◌, length, map}
use Rattle.std.specs.Prelude.{ℤ, pos, negsuc, unsigned_abs, ◌+ℤ◌, ◌-ℤ◌, ◌*ℤ◌, ◌≤ℤ◌}
use Rattle.std.specs.List.{All}
use Rattle.std.proofs.lemmas.Int.{ints}
use Rattle.std.proofs.lemmas.Bool.{cases_lt}
use Rattle.std.proofs.lemmas.List.{get_or_past}
use Rattle.std.proofs.lemmas.List.Elements.{All-head, All-tail, All-get_or, All-filter}
use Rattle.poly_terms.specs.linear_forms.Forms.{Form, at}
use Rattle.poly_terms.specs.linear_forms.RuleQuestions.{opposite}
use Rattle.poly_terms.proofs.linear_forms.CombinationLaws.{at-sum, at-times}
use Rattle.cert_types.proofs.rule_forms.Forms.{at-itself, at-other}
use Rattle.farkas_cert.specs.Sizes.{column_size, row_limit, HasRowNumbers, AreSmall}
use Rattle.location_facts.specs.declared.fact.LocFact.{LocFact}
use Rattle.location_facts.specs.Rows.{value_before, row_before, facts_at}

-- the size of a column of appended lists
column-append : (number : Form → ℤ) (rows more : List Form)
    → column_size number (rows ++ more) ≡ column_size number rows + column_size number more
column-append number [] more = let e : column_size number more ≡ 0 + column_size number more = omega arith in e
column-append number (f ∷ rows) more = omega (arith, column-append number rows more)

-- the size of a column of rows with numbers below 2^63
rows-size : (number : Form → ℤ) (rows : List Form) → All HasRowNumbers rows
    → ((f : Form) → HasRowNumbers f → unsigned_abs (number f) < row_limit)
    → column_size number rows ≤ row_limit * length rows
rows-size number [] h small = omega arith
rows-size number (f ∷ rows) h small =
    omega (
      arith,
      small f (All-head HasRowNumbers f rows h),
      rows-size number rows (All-tail HasRowNumbers f rows h) small,
    )

-- a coefficient is small, even if it isn't listed
coef-small : (f : Form) (u : ℕ) → HasRowNumbers f → unsigned_abs (at f.coefs u) < row_limit
coef-small f u h = go (cases_lt u (length f.coefs))
  where
    go : (u < length f.coefs) ⊎ (length f.coefs ≤ u) → unsigned_abs (at f.coefs u) < row_limit
    go (inl l) = All-get_or (λ (x : ℤ). unsigned_abs x < row_limit) f.coefs u (pos 0) l h.coefs
    go (inr l) = omega (arith, ap unsigned_abs (get_or_past f.coefs u (pos 0) l))

-- the size of a column of facts whose numbers there are at most 2
facts-size : (number : Form → ℤ) (P : LocFact → Type 0) (facts : List LocFact) → All P facts
    → ((f : LocFact) → P f → unsigned_abs (number (row_before f)) ≤ 2)
    → column_size number (map row_before facts) ≤ 2 * length facts
facts-size number P [] h small = omega arith
facts-size number P (f ∷ facts) h small =
    omega (arith, small f (All-head P f facts h), facts-size number P facts (All-tail P f facts h) small)

-- a coefficient of the value at a place is at most 1
place-coef : (i u : ℕ) → unsigned_abs (at (value_before i).coefs u) ≤ 1
place-coef zero u = omega arith
place-coef (suc i) u = go (cases_lt u i) (cases_lt i u)
  where
    go : (u < i) ⊎ (i ≤ u) → (i < u) ⊎ (u ≤ i) → unsigned_abs (at (value_before (suc i)).coefs u) ≤ 1
    go (inl l) m = subst (λ (z : ℤ). unsigned_abs z ≤ 1) (sym (at-other i u (λ e. omega (arith, l, e)))) (omega arith)
    go (inr l) (inl m) =
        subst (λ (z : ℤ). unsigned_abs z ≤ 1) (sym (at-other i u (λ e. omega (arith, m, e)))) (omega arith)
    go (inr l) (inr m) =
        subst (λ (z : ℤ). unsigned_abs z ≤ 1)
        (sym (ap (λ (w : ℕ). at (value_before (suc i)).coefs w) (let e : u ≡ i = omega (arith, l, m) in e)
        ∙ at-itself i)) (omega arith)

-- the difference of two numbers of at most 1 in absolute value is at most 2
less-few : (a b : ℤ) → unsigned_abs a ≤ 1 → unsigned_abs b ≤ 1 → unsigned_abs (a +ℤ negsuc 0 *ℤ b) ≤ 2
less-few a b l m = go a b (unsigned_abs a) (unsigned_abs b) refl refl l m
  where
    go : (a b : ℤ) (m n : ℕ) → unsigned_abs a ≡ m → unsigned_abs b ≡ n → m ≤ 1 → n ≤ 1
        → unsigned_abs (a +ℤ negsuc 0 *ℤ b) ≤ 2
    go a b m n e f g h = omega (arith, ints, e, f, g, h)

-- a coefficient of a fact is at most 2 in absolute value
pub fact-coef : (f : LocFact) (u : ℕ) → unsigned_abs (at (row_before f).coefs u) ≤ 2
fact-coef f u =
    subst (λ (z : ℤ). unsigned_abs z ≤ 2)
    (sym (at-sum (value_before f.plus).coefs (opposite (value_before f.minus)).coefs u
    ∙ ap (λ (z : ℤ). at (value_before f.plus).coefs u +ℤ z) (at-times (negsuc 0) (value_before f.minus).coefs u)))
    (less-few (at (value_before f.plus).coefs u) (at (value_before f.minus).coefs u) (place-coef f.plus u)
    (place-coef f.minus u))

-- the value at a place has the constant 0
place-constant : (i : ℕ) → (value_before i).constant ≡ pos 0
place-constant zero = refl
place-constant (suc i) = refl

pub fact-constant : (f : LocFact) → (negsuc 0 ≤ℤ f.least) × (f.least ≤ℤ pos 1)
    → unsigned_abs (row_before f).constant ≤ 2
fact-constant f (l, h) =
    go (value_before f.plus).constant (value_before f.minus).constant f.least (place-constant f.plus)
    (place-constant f.minus) l h
  where
    go : (a b k : ℤ) → a ≡ pos 0 → b ≡ pos 0 → negsuc 0 ≤ℤ k → k ≤ℤ pos 1
        → unsigned_abs ((a +ℤ negsuc 0 *ℤ b) -ℤ k) ≤ 2
    go a b k e f l h = omega (arith, ints, e, f, l, h)

-- at most 128 rows with numbers below 2^63, with at most 243 facts of a symbol, are small
pub combined-small : (rows : List Form) (s : ℕ) (kept : List LocFact) → length rows ≤ 128 → All HasRowNumbers rows
    → All (λ f. (negsuc 0 ≤ℤ f.least) × (f.least ≤ℤ pos 1)) kept → length (facts_at s kept) ≤ 243
    → AreSmall (rows ++ map row_before (facts_at s kept))
combined-small rows s kept few numbers leasts few-facts = record {
  coefs = λ u. together (λ f. at f.coefs u) (λ f h. coef-small f u h) (λ f h. fact-coef f u);
  constants = together (λ f. f.constant) (λ f h. h.constant) fact-constant;
}
  where
    sums : (a b n m whole : ℕ) → whole ≡ a + b → a ≤ row_limit * n → b ≤ 2 * m → n ≤ 128 → m ≤ 243
        → whole ≤ 2 ^ 70 + 2 ^ 10
    sums a b n m whole e k l g h = omega (arith, e, k, l, g, h)

    together : (number : Form → ℤ) → ((f : Form) → HasRowNumbers f → unsigned_abs (number f) < row_limit)
        → ((f : LocFact) → (negsuc 0 ≤ℤ f.least) × (f.least ≤ℤ pos 1) → unsigned_abs (number (row_before f)) ≤ 2)
        → column_size number (rows ++ map row_before (facts_at s kept)) ≤ 2 ^ 70 + 2 ^ 10
    together number small small-facts =
        sums (column_size number rows) (column_size number (map row_before (facts_at s kept))) (length rows)
        (length (facts_at s kept)) (column_size number (rows ++ map row_before (facts_at s kept)))
        (column-append number rows (map row_before (facts_at s kept))) (rows-size number rows numbers small)
        (facts-size number (λ f. (negsuc 0 ≤ℤ f.least) × (f.least ≤ℤ pos 1)) (facts_at s kept)
        (All-filter _ (λ f. (negsuc 0 ≤ℤ f.least) × (f.least ≤ℤ pos 1)) kept leasts) small-facts) few few-facts
