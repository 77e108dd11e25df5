-- The goal of a side bound, column by column.
use Rattle.std.proofs.Common.{◌≡◌, ℕ, ◌<◌, ◌≤◌, List, length, sym, ap, ◌∙◌, arith, ◌⊎◌, inl, inr}
use Rattle.std.specs.Prelude.{ℤ, pos, neg_ℤ, ◌+ℤ◌, ◌*ℤ◌}
use Rattle.std.proofs.lemmas.Bool.{cases_lt as order}
use Rattle.std.proofs.lemmas.Int.{ints}
use Rattle.poly_terms.specs.linear_forms.Combinations.{form_times}
use Rattle.poly_terms.specs.linear_forms.Forms.{Form, at}
use Rattle.poly_terms.proofs.linear_forms.int_laws.RingLaws.{mul_comm_ℤ}
use Rattle.cert_types.specs.cert_rules.AcceptsSizes.{Side, Up, Low, side_bound_goal}
use Rattle.cert_context.specs.declared.columns.Column.{Column}
use Rattle.cert_context.specs.declared.columns.Column.TheVariants as column
use Rattle.cert_context.specs.Columns.{number_in, IsAlike, HasColumns}
use Rattle.cert_context.proofs.FormColumns.{at-past, sum-column, times-column}
use Rattle.check_sizes.specs.SideBounds.{factor_of}

-- the entry of a form plus another form times a factor
times-right : (c : Column) (k : ℤ) (f v : Form) → number_in c f +ℤ number_in c (form_times k v) ≡ number_in c f +ℤ (number_in c v *ℤ k)
times-right c k f v = ap (λ (x : ℤ). number_in c f +ℤ x) (times-column c k v ∙ mul_comm_ℤ k (number_in c v))

-- the entry of the goal of a side bound in a column
goal-column : (c : Column) (s : Side) (den : ℕ) (f v : Form)
    → number_in c (side_bound_goal s den f v) ≡ number_in c f +ℤ (number_in c v *ℤ factor_of s den)
goal-column c Up den f v = sum-column c f (form_times (neg_ℤ (pos den)) v) ∙ times-right c (neg_ℤ (pos den)) f v
goal-column c Low den f v = sum-column c f (form_times (pos den) v) ∙ times-right c (pos den) f v

zero-mul : (b : ℤ) → pos 0 *ℤ b ≡ pos 0
zero-mul b = omega (arith, ints)

-- a row with these entries and this constant is the goal of the side bound
pub side_bound-row : (w : ℕ) (s : Side) (den : ℕ) (f v : Form) (xs : List ℤ) (c : ℤ) → length f.coefs ≤ w → length v.coefs ≤ w
    → HasColumns (λ u. at f.coefs u +ℤ (at v.coefs u *ℤ factor_of s den)) w xs
    → c ≡ f.constant +ℤ (v.constant *ℤ factor_of s den) → IsAlike (record { coefs = xs; constant = c }) (side_bound_goal s den f v)
side_bound-row w s den f v xs c l m h e = record {
  coefs = λ u. go u (order u w);
  constant = e ∙ sym (goal-column column.Constant s den f v);
}
  where
    past : (a b k : ℤ) → a ≡ pos 0 → b ≡ pos 0 → pos 0 ≡ a +ℤ (b *ℤ k)
    past a b k d n = let z = zero-mul k in omega (arith, ints, d, z, ap (λ (x : ℤ). x *ℤ k) n)

    go : (u : ℕ) → (u < w) ⊎ (w ≤ u) → at xs u ≡ at (side_bound_goal s den f v).coefs u
    go u (inl k) = h.each u k ∙ sym (goal-column (column.Unknown u) s den f v)
    go u (inr k) =
        at-past xs u (omega (arith, k, h.long))
        ∙ (past (at f.coefs u) (at v.coefs u) (factor_of s den) (at-past f.coefs u (omega (arith, k, l)))
        (at-past v.coefs u (omega (arith, k, m)))
        ∙ sym (goal-column (column.Unknown u) s den f v))
