-- A side bound over the prepared rows of a rule is accepted exactly if the setting accepts it at the rule.
use Rattle.std.specs.Bool.{IsTrue}
use Rattle.std.proofs.Common.{◌≡◌, ◌↔◌, ℕ, zero, suc, ◌-◌, ◌≤◌, ◌<◌, Bool, List, [], ◌∷◌, length, get_or, map, Option, Some, None, refl, sym, ap, ◌∙◌, subst, arith}
use Rattle.std.proofs.lemmas.List.{length-map}
use Rattle.std.proofs.lemmas.List.Elements.{recursion_from_All}
use Rattle.farkas_cert.specs.Sizes.{HasRowNumbers}
use Rattle.poly_terms.specs.declared.poly.Row.{Row}
use Rattle.poly_terms.specs.linear_forms.Forms.{Form}
use Rattle.guard_prep.specs.declared.rule_rows.RuleRows.{RuleRows}
use Rattle.model.specs.Polynomials.{Polynomial}
use Rattle.poly_terms.specs.Views.{form_of, poly_of}
use Rattle.poly_terms.specs.linear_forms.Certificates.{Implies}
use Rattle.cert_types.specs.cert_rules.AcceptsSizes.{Side, AcceptsSideBound, HasSideBoundShape, ReadsLeft, side_bound_goal, left_of}
use Rattle.cert_types.specs.cert_rules.Combined.{form_at}
use Rattle.cert_types.specs.cert_rules.ComposedSizes.{poly_of as poly_in}
use Rattle.cert_types.specs.cert_rules.Nodes.{SideBound, Linear, Poly}
use Rattle.cert_types.specs.cert_rules.Setting.{Setting}
use Rattle.cert_types.specs.cert_program.Setting.{nonlinear_at}
use Rattle.cert_context.specs.SuitedRows.{IsPreparedRuleOf, SuitsSideBounds}
use Rattle.cert_context.proofs.Cuts.{each-at}
use Rattle.check_sizes.specs.SideBounds.{HasSideBoundNumbers, IsSideBoundOver, IsLeftAlone}

module _ (s : Setting) (t : ℕ) (m : RuleRows) (own : IsPreparedRuleOf s t m) where
  rows-count : length m.rows.items ≡ length (s.rows t)
  rows-count = sym (length-map m.rows.items form_of) ∙ ap length own.rows

  -- the numbers of a side bound have the right shape for the rule exactly if they have it for its rows and left places
  pub numbers-shape : (side_bound : SideBound) → HasSideBoundNumbers (length m.rows.items) m.left side_bound → HasSideBoundShape s t (left_of s.program t) side_bound
  numbers-shape (Linear den f ms) h = record {
    over = h.over;
    den_limit = h.den_limit;
    long = h.long ∙ own.left;
    limit = h.limit;
    one_each = record { long = h.one_each ∙ rows-count; limit = h.within };
  }
  numbers-shape Poly h = tt

  pub shape-numbers : (side_bound : SideBound) → HasSideBoundShape s t (left_of s.program t) side_bound → HasSideBoundNumbers (length m.rows.items) m.left side_bound
  shape-numbers (Linear den f ms) h = record {
    over = h.over;
    den_limit = h.den_limit;
    long = h.long ∙ sym own.left;
    limit = h.limit;
    one_each = h.one_each.long ∙ sym rows-count;
    within = h.one_each.limit;
  }
  shape-numbers Poly h = tt

  module _ (place : ℕ) (l : 1 ≤ place) where
    -- the update at the place, if it has degree 2 or more, is that of the setting
    update-is : nonlinear_at (map poly_of m.polys.items) (place - 1) ≡ poly_in s t place
    update-is = own.polys (place - 1) ∙ go place l
      where
        go : (i : ℕ) → 1 ≤ i → s.poly t (i - 1) ≡ poly_in s t i
        go zero k = absurd (omega (arith, k))
        go (suc i) k = ap (s.poly t) (let z : suc i - 1 ≡ i = omega arith in z)

    -- a side bound that is certified over the prepared rows is accepted
    pub over-accepted : (side : Side) (side_bound : SideBound) → IsSideBoundOver m place side side_bound
        → AcceptsSideBound s (record { rule = t; place = place }) side side_bound
    over-accepted side (Linear den f ms) h =
        subst (λ (T : Type 0). T) (λ i. Implies (own.rows i) ms (side_bound_goal side den f (form_at (own.new_values i) (place - 1)))) h
    over-accepted side Poly h = go (nonlinear_at (map poly_of m.polys.items) (place - 1)) refl h
      where
        go : (o : Option Polynomial) → nonlinear_at (map poly_of m.polys.items) (place - 1) ≡ o → IsLeftAlone m.left o
            → AcceptsSideBound s (record { rule = t; place = place }) side Poly
        go None e k = absurd k
        go (Some q) e k = record {
          polynomial = q;
          nonlinear = sym update-is ∙ e;
          left_alone = subst (λ (n : ℕ). ReadsLeft n q) own.left k;
        }

    -- a side bound that is accepted is certified over the prepared rows
    pub accepted-over : (side : Side) (side_bound : SideBound) → AcceptsSideBound s (record { rule = t; place = place }) side side_bound
        → IsSideBoundOver m place side side_bound
    accepted-over side (Linear den f ms) h =
        subst (λ (T : Type 0). T)
        (sym (λ i. Implies (own.rows i) ms (side_bound_goal side den f (form_at (own.new_values i) (place - 1))))) h
    accepted-over side Poly h =
        subst (IsLeftAlone m.left) (sym (update-is ∙ h.nonlinear))
        (subst (λ (n : ℕ). ReadsLeft n h.polynomial) (sym own.left) h.left_alone)

    -- a test that decides whether a side bound is certified decides whether it is accepted
    pub side_bound-test : (side : Side) (side_bound : SideBound) (b : Bool) → IsTrue b ↔ IsSideBoundOver m place side side_bound
        → IsTrue b ↔ AcceptsSideBound s (record { rule = t; place = place }) side side_bound
    side_bound-test side side_bound b h = (λ e. over-accepted side side_bound (h.0 e), λ k. h.1 (accepted-over side side_bound k))

-- the new value at a position is that of the row there
pub new-there : (rs : List Row) (i : ℕ) (r : Row) → i < length rs → r ≡ get_or rs i r → form_at (map form_of rs) i ≡ form_of r
new-there [] i r l e = absurd (omega (arith, l))
new-there (x ∷ rs) zero r l e = ap form_of (sym e)
new-there (x ∷ rs) (suc i) r l e = new-there rs i r (omega (arith, l)) e

-- the new value at a position has small numbers and few coefficients
pub new-suits : (m : RuleRows) (i : ℕ) (r : Row) → SuitsSideBounds m → i < length m.new_values.items → r ≡ get_or m.new_values.items i r
    → HasRowNumbers (form_of r) × (length (form_of r).coefs ≤ m.unknowns)
new-suits m i r h l e = (
  each-at form_of HasRowNumbers m.new_values.items i r l e (recursion_from_All HasRowNumbers (map form_of m.new_values.items) h.new_values),
  each-at form_of (λ (f : Form). length f.coefs ≤ m.unknowns) m.new_values.items i r l e
      (recursion_from_All (λ (f : Form). length f.coefs ≤ m.unknowns) (map form_of m.new_values.items) h.width),
)
