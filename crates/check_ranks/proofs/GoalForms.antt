-- The decrease by a rule, column by column.
use Rattle.std.proofs.Common.{◌≡◌, ℕ, zero, suc, ◌<◌, ◌≤◌, List, [], ◌∷◌, length, map, refl, sym, ap, ◌∙◌}
use Rattle.std.proofs.Common.{arith, All, ◌⊎◌, inl, inr, get_or}
use Rattle.std.specs.Prelude.{ℤ, pos, ◌+ℤ◌, ◌-ℤ◌, ◌*ℤ◌, unsigned_abs}
use Rattle.std.proofs.lemmas.Bool.{cases_lt as order}
use Rattle.std.proofs.lemmas.Int.{ints}
use Rattle.std.proofs.lemmas.List.{length-map}
use Rattle.std.proofs.lemmas.List.Elements.{All-head, All-tail, recursion_from_All}
use Rattle.farkas_cert.specs.Sizes.{HasRowNumbers, row_limit}
use Rattle.poly_terms.specs.Views.{form_of}
use Rattle.poly_terms.specs.declared.poly.Row.{Row}
use Rattle.poly_terms.specs.linear_forms.Combinations.{form_times, combination, less}
use Rattle.poly_terms.specs.linear_forms.Forms.{Form, at, list_dot}
use Rattle.poly_terms.specs.linear_forms.Losses.{at_new_values, loss}
use Rattle.poly_terms.specs.linear_forms.RuleQuestions.{constant_form}
use Rattle.poly_terms.proofs.linear_forms.int_laws.RingLaws.{mul_comm_ℤ}
use Rattle.cert_context.specs.declared.columns.Column.{Column}
use Rattle.cert_context.specs.declared.columns.Column.TheVariants as column
use Rattle.cert_context.specs.Columns.{number_in, IsAlike, HasColumns}
use Rattle.cert_context.proofs.Cuts.{each-at}
use Rattle.cert_context.proofs.FormColumns.{at-past, less-column, number-small, sum-column, times-column}
use Rattle.check_ranks.specs.Goals.{AreWithin}

-- the entry of a combination in a column is the combination of the entries
none-column : (c : Column) (v : ℕ → ℤ) → number_in c (combination [] v) ≡ pos 0
none-column (column.Unknown u) v = refl
none-column column.Constant v = refl

combination-column : (c : Column) (fs : List Form) (v : ℕ → ℤ)
    → number_in c (combination fs v) ≡ list_dot (map (number_in c) fs) v
combination-column c [] v = none-column c v
combination-column c (f ∷ fs) v =
    regroup _ _ _ _ _ (sum-column c (form_times (v 0) f) (combination fs (λ p. v (suc p)))) (times-column c (v 0) f)
    (mul_comm_ℤ (v 0) (number_in c f)) (combination-column c fs (λ p. v (suc p)))
  where
    regroup : (s a b m w : ℤ) {r : ℤ} → s ≡ a +ℤ b → a ≡ m → m ≡ w → b ≡ r → s ≡ w +ℤ r
    regroup s a b m w e d f g = omega (arith, ints, e, d, f, g)

-- the entry of the decrease in a column
pub loss-column : (c : Column) (f g : Form) (new_values : List Form) (k : ℤ)
    → number_in c (loss f g new_values k)
    ≡ number_in c f -ℤ list_dot (map (number_in c) new_values) (at g.coefs) -ℤ number_in c (constant_form g.constant)
    -ℤ number_in c (constant_form k)
loss-column c f g new_values k =
    regroup _ _ _ _ _ _ _ (less-column c (less f (at_new_values g new_values)) (constant_form k))
    (less-column c f (at_new_values g new_values))
    (sum-column c (combination new_values (at g.coefs)) (constant_form g.constant)) (combination-column c new_values (at g.coefs))
  where
    regroup : (s l f n d h k : ℤ) {e : ℤ} → s ≡ l -ℤ k → l ≡ f -ℤ n → n ≡ d +ℤ h → d ≡ e → s ≡ f -ℤ e -ℤ h -ℤ k
    regroup s l f n d h k a b c g = omega (arith, ints, a, b, c, g)

-- the combination at an unknown past the width of all forms is 0
dot-past : (fs : List Form) (v : ℕ → ℤ) (w u : ℕ) → w ≤ u → All (λ f. length f.coefs ≤ w) fs
    → list_dot (map (number_in (column.Unknown u)) fs) v ≡ pos 0
dot-past [] v w u l h = refl
dot-past (f ∷ fs) v w u l h =
    regroup _ (v 0) _ (at-past f.coefs u (omega (arith, l, All-head (λ (g : Form). length g.coefs ≤ w) f fs h)))
    (dot-past fs (λ i. v (suc i)) w u l (All-tail (λ (g : Form). length g.coefs ≤ w) f fs h))
  where
    regroup : (a b r : ℤ) → a ≡ pos 0 → r ≡ pos 0 → a *ℤ b +ℤ r ≡ pos 0
    regroup a b r e d = ap (λ (x : ℤ). x *ℤ b +ℤ r) e ∙ zero-mul b r d
      where
        zero-mul : (b r : ℤ) → r ≡ pos 0 → pos 0 *ℤ b +ℤ r ≡ pos 0
        zero-mul b r d = omega (arith, ints, d)

-- a row with these entries and this constant is the decrease less the least permitted one
pub loss-row : (w : ℕ) (f g : Form) (new_values : List Form) (k : ℤ) (xs : List ℤ) (c : ℤ) → AreWithin w f new_values
    → HasColumns (λ u. at f.coefs u -ℤ list_dot (map (number_in (column.Unknown u)) new_values) (at g.coefs)) w xs
    → c ≡ f.constant -ℤ list_dot (map (number_in column.Constant) new_values) (at g.coefs) -ℤ g.constant -ℤ k
    → IsAlike (record { coefs = xs; constant = c }) (loss f g new_values k)
loss-row w f g new_values k xs c within h e = record {
  coefs = λ u. go u (order u w);
  constant = e ∙ sym (loss-column column.Constant f g new_values k);
}
  where
    none : (a b : ℤ) → a -ℤ b ≡ a -ℤ b -ℤ pos 0 -ℤ pos 0
    none a b = omega (arith, ints)

    past : (a b : ℤ) → a ≡ pos 0 → b ≡ pos 0 → pos 0 ≡ a -ℤ b -ℤ pos 0 -ℤ pos 0
    past a b d m = omega (arith, ints, d, m)

    go : (u : ℕ) → (u < w) ⊎ (w ≤ u) → at xs u ≡ at (loss f g new_values k).coefs u
    go u (inl l) =
        h.each u l
        ∙ (none (at f.coefs u) (list_dot (map (number_in (column.Unknown u)) new_values) (at g.coefs))
        ∙ sym (loss-column (column.Unknown u) f g new_values k))
    go u (inr l) =
        at-past xs u (omega (arith, l, h.long))
        ∙ (past (at f.coefs u) (list_dot (map (number_in (column.Unknown u)) new_values) (at g.coefs))
        (at-past f.coefs u (omega (arith, l, within.before))) (dot-past new_values (at g.coefs) w u l within.new_values)
        ∙ sym (loss-column (column.Unknown u) f g new_values k))

-- a row with these entries and this constant is the form less a number
pub floor-row : (w : ℕ) (f : Form) (k : ℤ) (xs : List ℤ) (c : ℤ) → length f.coefs ≤ w → HasColumns (at f.coefs) w xs
    → c ≡ f.constant -ℤ k → IsAlike (record { coefs = xs; constant = c }) (less f (constant_form k))
floor-row w f k xs c l h e = record {
  coefs = λ u. go u (order u w);
  constant = e ∙ sym (less-column column.Constant f (constant_form k));
}
  where
    none : (a : ℤ) → a ≡ a -ℤ pos 0
    none a = omega (arith, ints)

    past : (a : ℤ) → a ≡ pos 0 → pos 0 ≡ a -ℤ pos 0
    past a d = omega (arith, ints, d)

    go : (u : ℕ) → (u < w) ⊎ (w ≤ u) → at xs u ≡ at (less f (constant_form k)).coefs u
    go u (inl m) = h.each u m ∙ (none (at f.coefs u) ∙ sym (less-column (column.Unknown u) f (constant_form k)))
    go u (inr m) =
        at-past xs u (omega (arith, m, h.long))
        ∙ (past (at f.coefs u) (at-past f.coefs u (omega (arith, m, l))) ∙ sym (less-column (column.Unknown u) f (constant_form k)))

-- a column has one entry for each row
pub new_values-length : (c : Column) (new_values : List Row) → length (map (number_in c) (map form_of new_values)) ≡ length new_values
new_values-length c new_values = length-map (map form_of new_values) (number_in c) ∙ length-map new_values form_of

-- the entry of a row in a column is at the row's position
pub row-number : (c : Column) (new_values : List Row) (i : ℕ) (r : Row) (d : ℤ) → i < length new_values → r ≡ get_or new_values i r
    → get_or (map (number_in c) (map form_of new_values)) i d ≡ number_in c (form_of r)
row-number c [] i r d l e = absurd (omega (arith, l))
row-number c (x ∷ new_values) zero r d l e = ap (λ (q : Row). number_in c (form_of q)) (sym e)
row-number c (x ∷ new_values) (suc i) r d l e = row-number c new_values i r d (omega (arith, l)) e

pub row-small : (c : Column) (new_values : List Row) (i : ℕ) (r : Row) → i < length new_values → r ≡ get_or new_values i r
    → All HasRowNumbers (map form_of new_values) → unsigned_abs (number_in c (form_of r)) < row_limit
row-small c new_values i r l e h =
    number-small c (form_of r)
    (each-at form_of HasRowNumbers new_values i r l e (recursion_from_All HasRowNumbers (map form_of new_values) h))
