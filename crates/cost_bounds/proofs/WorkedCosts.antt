-- The worked values of costs hold.
use Rattle.std.proofs.Common.{◌≡◌, inl, false, refl, sym, ◌∙◌, ap, subst, arith}
use Rattle.bound_table.specs.Below.{below}
use Rattle.bound_table.specs.InForce.{rewritten}
use Rattle.bound_table.specs.Rewriting.{simplified, passes_until_same, at_node, parts_passed}
use Rattle.model.specs.Bounds.{Input}
use Rattle.model.specs.Facts.{Cost}
use Rattle.cert_types.specs.cert_rules.Nodes.{ResultVariable, SideBoundCost, NeverCost, Cite, NoProof, AndProof}
use Rattle.cert_types.specs.cert_rules.Nodes.{CostBound}
use Rattle.cert_types.specs.declared.answer.LimitHit.{LimitHit}
use Rattle.cert_types.specs.declared.answer.Question.TheVariants as questions
use Rattle.local_size.specs.LocalAnswers.{Local, HasHitLimit}
use Rattle.outcome.specs.Reports.{SizeMissing, SizeUntimed, SizeHitLimit}
use Rattle.bound_fixpoint.specs.Keys.{key}
use Rattle.cost_bounds.specs.CostLemmas.{cost_node}
use Rattle.cost_bounds.specs.CostOutcomes.{BoundedBy, NotBounded, RunsTo, StepTo}
use Rattle.cost_bounds.specs.WorkedCosts.{by_B, no_size, once, own_size, paying_over, up_to}
use Rattle.cost_bounds.specs.WorkedCosts.{SizesReadAreWorkedOut, ZeroTimesAreWorkedOut, ReasonsAreWorkedOut}
use Rattle.cost_bounds.specs.WorkedCosts.{BoundsAreWorkedOut}
use Rattle.cost_bounds.specs.WorkedCosts.{LemmasAreWorkedOut, CostsAreWorkedOut}

sizes : SizesReadAreWorkedOut
sizes = record { entering = refl; round = refl }

zero-times : ZeroTimesAreWorkedOut
zero-times = record { zero = refl; none = refl; one = refl; sum = refl }

-- the question of a limit isn't about a place
not-of_a_place : (x : LimitHit) → x.question ≡ questions.Local 2 1
    → StepTo (paying_over once own_size 2) (HasHitLimit x) (NotBounded (SizeHitLimit x)) → ⊥
not-of_a_place x place k = differ (sym place ∙ ap (λ (y : LimitHit). y.question) (inner k))
  where
    inner : {x y : LimitHit} → NotBounded (SizeHitLimit x) ≡ NotBounded (SizeHitLimit y) → x ≡ y
    inner e = cc

    differ : questions.Local 2 1 ≡ questions.Cost 2 → ⊥
    differ e = cc

-- a rule that may run doesn't cost 0
not-never : RunsTo (paying_over once no_size 2) (λ step. step ≡ up_to by_B) false (BoundedBy NeverCost) → ⊥
not-never (step, same, k) = other
    (subst (λ (x : Local). StepTo (paying_over once no_size 2) x (BoundedBy NeverCost)) same k)
  where
    other : BoundedBy NeverCost ≡ NotBounded (SizeMissing (key 1 2)) → ⊥
    other e = cc

reasons : ReasonsAreWorkedOut
reasons = record {
  no_bounds = refl;
  not_untimed = λ k. untimed k;
  not_the_second = λ k. second k;
  lacks_time = refl;
  lacks_size = refl;
  limit = λ x. refl;
  not_of_a_place = not-of_a_place;
  never = refl;
  not_never = not-never;
}
  where
    untimed : NotBounded (SizeUntimed 2) ≡ NotBounded (SizeMissing (key 1 2)) → ⊥
    untimed e = cc

    inner : {x y : ResultVariable} → NotBounded (SizeMissing x) ≡ NotBounded (SizeMissing y) → x ≡ y
    inner e = cc

    second : NotBounded (SizeMissing (key 2 2)) ≡ NotBounded (SizeMissing (key 1 2)) → ⊥
    second e =
        let same : 2 ≡ 1 = ap (λ (k : ResultVariable). k.rule) (inner e) in
        absurd (omega (arith, same))

bounds : BoundsAreWorkedOut
unfolding rewritten simplified passes_until_same at_node parts_passed below
bounds = record {
  entering = inl (record { before = refl; after = refl }, refl);
  entering_costs = refl;
  round_costs = refl;
  not_the_other = λ e. other e;
  empty_costs = refl;
  never_costs = refl;
}
  where
    other : Cost 1 (Input 0) ≡ Cost 1 (Input 1) → ⊥
    other e = cc

lemmas : LemmasAreWorkedOut
lemmas = record {
  premises = refl;
  entering = refl;
  round = refl;
  empty = refl;
  never = refl;
  not_the_time_alone = λ e. alone e;
}
  where
    alone : CostBound (cost_node 2 (SideBoundCost by_B)) (AndProof (Cite 4) (AndProof (Cite 3) NoProof))
        ≡ CostBound (cost_node 2 (SideBoundCost by_B)) (AndProof (Cite 4) NoProof) → ⊥
    alone e = cc

pub worked : CostsAreWorkedOut
worked = record { sizes = sizes; zero = zero-times; reasons = reasons; bounds = bounds; lemmas = lemmas }
