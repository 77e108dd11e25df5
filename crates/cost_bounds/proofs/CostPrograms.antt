-- The program of a cost, whose only rule is the cost rule: a local bound of its only place is a bound on the cost.
use Rattle.std.proofs.Common.{◌≡◌, ℕ, ◌<◌, List, [], ◌∷◌, length, get_or, Option, refl, sym, ap, ◌∙◌, subst, arith}
use Rattle.std.specs.Prelude.{Some, slice_get}
use Rattle.std.proofs.lemmas.Option.{slice_get-get_or}
use Rattle.model.specs.Costs.{HasCost, cost_rule}
use Rattle.model.specs.Programs.{Program, Rule, Symbol}
use Rattle.its_model.specs.CostPrograms.{cost_program}
use Rattle.its_model.specs.Valid.{IsValid}
use Rattle.its_model.specs.linear_forms.Certificates.{Implies}
use Rattle.its_model.proofs.CostPrograms.{cost-programs-tell-costs}
use Rattle.its_model.proofs.ValidLaws.{rule-valid}
use Rattle.cert_types.specs.Composing.{IsReadable}
use Rattle.cert_types.specs.Views.{side_bound_of}
use Rattle.cert_types.specs.cert_program.Setting.{new_values_in, nonlinear_at, polys_in, rows_in, setting_of}
use Rattle.cert_types.specs.cert_rules.AcceptsCosts.{AcceptsCostSideBound, cost_result_variable}
use Rattle.cert_types.specs.cert_rules.AcceptsSizes.{AcceptsSideBound, HasSideBoundShape, ReadsLeft, Up, left_in}
use Rattle.cert_types.specs.cert_rules.AcceptsSizes.{left_of}
use Rattle.cert_types.specs.cert_rules.AcceptsSizes.{side_bound_goal}
use Rattle.cert_types.specs.cert_rules.Combined.{form_at}
use Rattle.cert_types.specs.cert_rules.Nodes.{ResultVariable, SideBound, Linear, Poly, LocalBound}
use Rattle.cert_types.specs.cert_rules.Setting.{costs_of}
use Rattle.cert_types.specs.declared.answer.GuardFeasibility.{GuardFeasibility}
use Rattle.cert_types.specs.declared.side_bound.SideBound as code
use Rattle.cert_types.specs.declared.side_bound.SideBound.TheVariants as side_bounds
use Rattle.local_size.specs.LocalAnswers.{HasBound, IsLocal}
use Rattle.local_size.specs.LocalLaws.{IsResultVariableOf}
use Rattle.local_size.proofs.Accepted.{bound-shaped, up-accepted}
use Rattle.cost_nodes.proofs.CostRules.{cost-rule-fits, cost-rule-is}
use Rattle.cost_bounds.specs.CostReasons.{prepared_cost}

-- the element at a position of a list that is long enough
element : {X : Type 0} (xs : List X) (n : ℕ) → n < length xs → (x : X) × (slice_get xs n ≡ Some x)
element [] n l = absurd (omega (arith, l))
element (x ∷ xs) n l = (get_or (x ∷ xs) n x, slice_get-get_or (x ∷ xs) n x l)

-- the only place of the target of a program of a cost
abbrev pub only_place_of : ResultVariable
only_place_of = record { rule = 1; place = 1 }

module _ (p : Program) (t : ℕ) (h : HasCost p t) (v : IsValid p) where
  -- the symbol that the rule leaves
  pub source : (s : Symbol) × (slice_get p.symbols h.rule.source ≡ Some s)
  source = element p.symbols h.rule.source (rule-valid p t h.rule v h.numbered).source

  -- the program of the cost
  abbrev pub program-of-cost : Program
  program-of-cost = cost_program source.0 h.rule h.cost

  -- the program of the cost is valid
  pub program-of-cost-valid : IsValid program-of-cost
  program-of-cost-valid = cost-programs-tell-costs.valid p program-of-cost t v
      (record { costs = h; symbol = source.0; source = source.1; program = refl })

  -- the only rule of the program of the cost has one place
  pub program-of-cost-place : IsResultVariableOf program-of-cost only_place_of (cost_rule h.rule h.cost)
  program-of-cost-place = record {
    numbered = refl;
    is_result_variable = record {
      rule = cost_rule h.rule h.cost;
      numbered = refl;
      least = omega arith;
      most = omega arith;
    };
  }

  -- a side bound that has the right shape over the program of the cost has it over the rows of the cost
  shape-of_cost : (side_bound : SideBound) → HasSideBoundShape (setting_of program-of-cost) 1
      (left_of program-of-cost 1) side_bound
      → HasSideBoundShape (costs_of (setting_of p)) t (left_of p t) side_bound
  shape-of_cost (Linear den form multipliers) k = record {
    over = k.over;
    den_limit = k.den_limit;
    long = k.long ∙ sym (ap left_in h.numbered);
    limit = k.limit;
    one_each = record {
      long = k.one_each.long ∙ sym (ap (λ (o : Option Rule). length (rows_in o)) (cost-rule-is p t h));
      limit = k.one_each.limit;
    };
  }
  shape-of_cost Poly k = tt

  -- a side bound that is accepted over the program of the cost is accepted as a side bound of the cost
  accepted-of_cost : (side_bound : SideBound) → AcceptsSideBound (setting_of program-of-cost) only_place_of Up
      side_bound
      → AcceptsCostSideBound (setting_of p) t side_bound
  accepted-of_cost (Linear den form multipliers) k =
      subst (λ (o : Option Rule). Implies (rows_in o) multipliers
      (side_bound_goal Up den form (form_at (new_values_in o) 0)))
      (sym (cost-rule-is p t h)) k
  accepted-of_cost Poly k = record {
    polynomial = k.polynomial;
    nonlinear = ap (λ (o : Option Rule). nonlinear_at (polys_in o) 0) (cost-rule-is p t h) ∙ k.nonlinear;
    left_alone = subst (λ (n : ℕ). ReadsLeft n k.polynomial) (sym (ap left_in h.numbered)) k.left_alone;
  }

  module _ (pivots : ℕ) (e : GuardFeasibility) (l : LocalBound)
      (is : IsLocal (prepared_cost h) (cost_result_variable t) pivots e (HasBound l)) where
    -- the upper side bound of an answer on the cost has the right shape, and is accepted
    pub up-shaped : HasSideBoundShape (costs_of (setting_of p)) t (left_of p t) l.up
    up-shaped = shape-of_cost l.up
        (bound-shaped program-of-cost (cost_rule h.rule h.cost) only_place_of pivots program-of-cost-valid
        program-of-cost-place e l is).up

    pub up-accepts : AcceptsCostSideBound (setting_of p) t l.up
    up-accepts = accepted-of_cost l.up
        (up-accepted program-of-cost (cost_rule h.rule h.cost) only_place_of pivots program-of-cost-valid
        program-of-cost-place e l is)

  -- a side bound of the right shape can be read
  pub shape-readable : (side_bound : code.SideBound)
      → HasSideBoundShape (costs_of (setting_of p)) t (left_of p t) (side_bound_of side_bound) → IsReadable side_bound
  shape-readable (side_bounds.Linear den coefs constant multipliers) k =
      (k.over, omega (arith, k.long, ap left_in h.numbered, (cost-rule-fits p t h v).few_variables))
  shape-readable side_bounds.Poly k = tt
