-- A cost that is a free value passes every affine form, and its linear programs need pivots.
use Rattle.std.proofs.Common.{◌≡◌, inl, ℕ, zero, suc, ◌<◌, [], ◌∷◌, Some, None, refl, sym, ◌∙◌, ap, subst, arith}
use Rattle.std.specs.Prelude.{pos, negsuc, ◌≤ℤ◌}
use Rattle.std.proofs.lemmas.Int.{ints}
use Rattle.std.proofs.lemmas.List.Elements.{All-nil, All-cons}
use Rattle.model.specs.Costs.{HasCost, cost_rule}
use Rattle.model.specs.Programs.{Rule}
use Rattle.model.specs.Terms.{Term, Variable}
use Rattle.model.proofs.Cases.{some_same}
use Rattle.its_model.specs.linear_forms.Causes.{budget}
use Rattle.its_model.specs.linear_forms.Forms.{Form, at, form_value}
use Rattle.its_model.specs.linear_forms.Points.{IsPoint}
use Rattle.its_model.specs.linear_forms.Questions.{program_of_question}
use Rattle.guard_prep.specs.Prepared.{prepared}
use Rattle.guard_prep.specs.Tightening.{divisor_of}
use Rattle.simplex_core.specs.Tableau.{first_tableau, equation, cost, pivot}
use Rattle.simplex_core.specs.HitsLimit.{HitsLimit}
use Rattle.cert_types.specs.declared.answer.Question.TheVariants as asked
use Rattle.cert_types.specs.cert_program.WorkedGaps.{looping}
use Rattle.cert_types.specs.cert_rules.AcceptsSizes.{Up, Low}
use Rattle.cert_types.specs.rule_forms.Bounds.{IsUnboundedRay}
use Rattle.cert_types.specs.rule_forms.Kinds.{Number}
use Rattle.cert_types.specs.rule_forms.Worked.{plane_form, free_value}
use Rattle.cert_types.proofs.rule_forms.Rays.{unbounded-has-none}
use Rattle.local_size.specs.Places.{local_forms, value_on}
use Rattle.local_size.specs.Sides.{kind_program}
use Rattle.cost_bounds.specs.CostReasons.{prepared_cost}
use Rattle.time_bounds.specs.CostWhys.{CostPassesForms}
use Rattle.time_bounds.specs.WorkedReports.{along_free, from_one}
use Rattle.time_bounds.proofs.PassedForms.{unbounded_passes}
use Rattle.worked_reasons.specs.Costs.{paying_rule, paying, CostsAreWorkedOut}
use Rattle.worked_reasons.proofs.Runs.{budget_run}

-- the row C >= 0
abbrev row : Form
row = plane_form (pos 0) (pos 1) (pos 0)

-- along C the cost rises within the row
stays_on : (j : ℕ) → j < 1 → at along_free j ≡ pos 0
stays_on zero l = refl
stays_on (suc j) l = absurd (omega (arith, l))

rises : IsUnboundedRay (row ∷ []) 1 free_value (at along_free)
rises = record {
  ray = record {
    each = All-cons (λ r. pos 0 ≤ℤ form_value r (at along_free) (pos 0)) row [] (omega (arith, ints))
        (All-nil (λ r. pos 0 ≤ℤ form_value r (at along_free) (pos 0)));
  };
  still = stays_on;
  rises = omega (arith, ints);
}

meets : IsPoint (row ∷ []) (at from_one.parts) (pos from_one.den)
meets = record {
  denominator = omega (arith, ints);
  meets = record {
    each = All-cons (λ r. pos 0 ≤ℤ form_value r (at from_one.parts) (pos 1)) row [] (omega (arith, ints))
        (All-nil (λ r. pos 0 ≤ℤ form_value r (at from_one.parts) (pos 1)));
  };
}

-- the rule has a cost
abbrev has_cost : HasCost paying 1
has_cost = record { rule = paying_rule; numbered = refl; cost = Variable 1; written = refl }

unbounded : CostPassesForms paying 1 Up along_free from_one
unfolding divisor_of
unbounded = record {
  step = record {
    costs = has_cost;
    not_polynomial = refl;
    ray_length = refl;
    point_length = refl;
    from = meets;
    along = rises;
    none = unbounded-has-none (row ∷ []) 1 free_value (at along_free)
        (record { z = at from_one.parts; d = pos from_one.den; point = meets }) rises;
  };
  passes = unbounded_passes (row ∷ []) 1 free_value from_one along_free meets rises;
}

-- the only cost of the rule is this one
cost_is : (P : Rule → Type 0) (h : HasCost paying 1) → P (cost_rule h.rule h.cost) → P (cost_rule paying_rule (Variable 1))
cost_is P h k =
    let rule = some_same paying_rule h.rule h.numbered in
    let written = some_same (Variable 1) h.cost (ap (λ (r : Rule). r.cost) rule ∙ h.written) in
    subst (λ (c : Term). P (cost_rule paying_rule c)) (sym written)
    (subst (λ (r : Rule). P (cost_rule r h.cost)) (sym rule) k)

not_below : CostPassesForms paying 1 Low along_free from_one → ⊥
unfolding divisor_of
not_below h =
    down (cost_is (λ r. IsUnboundedRay (prepared r).rows (prepared r).left (value_on Low (prepared r) 1) (at along_free)) h.step.costs
    h.step.along)
  where
    down : IsUnboundedRay (row ∷ []) 1 (plane_form (pos 0) (negsuc 0) (pos 0)) (at along_free) → ⊥
    down l = let up = l.rises in omega (arith, ints, up)

-- a number that bounds the cost
number_hits_limit : HitsLimit (kind_program (local_forms (prepared_cost has_cost)) (value_on Up (prepared_cost has_cost) 1) Number) 0 (budget 0)
unfolding program_of_question first_tableau equation cost pivot divisor_of
number_hits_limit =
    budget_run (kind_program (local_forms (prepared_cost has_cost)) (value_on Up (prepared_cost has_cost) 1) Number) 0 refl refl

-- the rule that stays has no cost
no_cost : HasCost looping 1 → ⊥
no_cost h = missing (ap (λ (r : Rule). r.cost) (some_same _ h.rule h.numbered) ∙ h.written)
  where
    missing : None ≡ Some h.cost → ⊥
    missing e = cc

pub costs_worked : CostsAreWorkedOut
costs_worked = record {
  unbounded = λ b. unbounded;
  not_below = λ b h. not_below h;
  exceeds = λ b. record { costs = has_cost; question = refl; not_polynomial = refl; exceeds = inl (inl (tt, number_hits_limit)) };
  not_of_a_place = λ b h. let e = h.question in (let none : ⊥ = cc in none);
  no_cost = λ b h. no_cost h.costs;
}
