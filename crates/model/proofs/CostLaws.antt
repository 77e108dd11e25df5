-- Laws of what a run spends, step by step.
use Rattle.std.proofs.Common.{◌≡◌, ◌≢◌, ◌⊎◌, inl, inr, true, false, ◌==◌, ℕ, zero, suc, ◌+◌, List, [], ◌∷◌, ◌++◌, map}
use Rattle.std.proofs.Common.{ℤ}
use Rattle.std.proofs.Common.{Option, Some, None, refl, sym, ◌∙◌, ap, subst, arith}
use Rattle.std.specs.Prelude.{slice_get}
use Rattle.std.proofs.lemmas.Bool.Decides.{eqb_tells}
use Rattle.model.specs.Terms.{value}
use Rattle.model.specs.Programs.{Program, Rule, rule_at}
use Rattle.model.specs.Runs.{Config, Step, Leads, IsStep, IsRun, count}
use Rattle.model.specs.Spending.{cost_at, cost_by, updated, values_after, step_cost, spent}
use Rattle.model.specs.Costs.{without_cost, without_costs}
use Rattle.model.specs.Costs.{RunsAreAtTheirValues, PlainRulesSpendTheirCount, CostsChangeNoRun}
use Rattle.model.proofs.RunLaws.{one_if_same-same, one_if_same-other}

-- a run ends at the values to which its steps lead
pub stands_at : (p : Program) (start : List ℤ) (steps : List Step) (c : Config) → IsRun p start steps c
    → c.values ≡ values_after p start steps
stands_at p start [] c run = run.values
stands_at p start (s ∷ earlier) c (b, run, step) =
    let before = stands_at p start earlier b run in
    let by_rule = ap (λ (o : Option Rule). updated o (values_after p start earlier ++ s.free)) (sym step.numbered) in
    step.leads.values ∙ (ap (λ (v : List ℤ). map (λ u. value u (v ++ s.free)) step.rule.updates) before ∙ by_rule)

pub values_stand : RunsAreAtTheirValues
values_stand = record { each = stands_at }

-- after one more step by a rule, the rule has spent the cost of this step in addition
pub spent_more : (p : Program) (t : ℕ) (start : List ℤ) (s : Step) (earlier : List Step) → s.rule ≡ t
    → spent p t start (s ∷ earlier) ≡ step_cost p start s earlier + spent p t start earlier
spent_more p t start s earlier e = go (eqb_tells s.rule t)
  where
    go : ((s.rule == t) ≡ true) × (s.rule ≡ t) ⊎ ((s.rule == t) ≡ false) × (s.rule ≢ t)
        → spent p t start (s ∷ earlier) ≡ step_cost p start s earlier + spent p t start earlier
    go (inl (test, same)) = rw test refl
    go (inr (test, other)) = absurd (other e)

-- after one more step by another rule, a rule has spent the same
pub spent_same : (p : Program) (t : ℕ) (start : List ℤ) (s : Step) (earlier : List Step) → s.rule ≢ t
    → spent p t start (s ∷ earlier) ≡ spent p t start earlier
spent_same p t start s earlier ne = go (eqb_tells s.rule t)
  where
    go : ((s.rule == t) ≡ true) × (s.rule ≡ t) ⊎ ((s.rule == t) ≡ false) × (s.rule ≢ t)
        → spent p t start (s ∷ earlier) ≡ spent p t start earlier
    go (inl (test, same)) = absurd (ne same)
    go (inr (test, other)) = rw test (omega arith)

-- the number of a rule isn't 0, the number of the virtual entry
number_over_0 : (p : Program) (t : ℕ) (r : Rule) → rule_at p t ≡ Some r → 0 ≢ t
number_over_0 p zero r e h = absurd (none_some e)
  where
    none_some : None ≡ Some r → ⊥
    none_some x = cc
number_over_0 p (suc t) r e h = omega (arith, h)

-- a rule without a cost spends as much as it occurs
plain_count : (p : Program) (t : ℕ) (r : Rule) → rule_at p t ≡ Some r → r.cost ≡ None → (start : List ℤ)
    (steps : List Step) → spent p t start steps ≡ count t steps
plain_count p t r e none start [] = sym (one_if_same-other 0 t (number_over_0 p t r e))
plain_count p t r e none start (s ∷ earlier) = go (eqb_tells s.rule t) (plain_count p t r e none start earlier)
  where
    env : List ℤ
    env = values_after p start earlier ++ s.free

    one : s.rule ≡ t → step_cost p start s earlier ≡ 1
    one same =
        ap (λ (n : ℕ). cost_by (rule_at p n) env) same ∙ (ap (λ (o : Option Rule). cost_by o env) e ∙ ap (λ c. cost_at c env) none)

    go : ((s.rule == t) ≡ true) × (s.rule ≡ t) ⊎ ((s.rule == t) ≡ false) × (s.rule ≢ t)
        → spent p t start earlier ≡ count t earlier → spent p t start (s ∷ earlier) ≡ count t (s ∷ earlier)
    go (inl (test, same)) before = omega (arith, spent_more p t start s earlier same, one same, before, one_if_same-same s.rule t same)
    go (inr (test, other)) before = omega (arith, spent_same p t start s earlier other, before, one_if_same-other s.rule t other)

pub plain_spend : PlainRulesSpendTheirCount
plain_spend = record { each = plain_count }

-- the rule at a position of a list without costs is the rule there, without its cost
get_without : (rules : List Rule) (i : ℕ) (r : Rule) → slice_get rules i ≡ Some r
    → slice_get (map without_cost rules) i ≡ Some (without_cost r)
get_without [] i r e = absurd (none_some e)
  where
    none_some : None ≡ Some r → ⊥
    none_some x = cc
get_without (q ∷ rules) zero r e = ap (λ (q : Rule). Some (without_cost q)) (some_same e)
  where
    some_same : Some q ≡ Some r → q ≡ r
    some_same h = cc
get_without (q ∷ rules) (suc i) r e = get_without rules i r e

-- a rule at a position of a list without costs is the cost-free version of the rule there
get_back : (rules : List Rule) (i : ℕ) (r : Rule) → slice_get (map without_cost rules) i ≡ Some r
    → (q : Rule) × (slice_get rules i ≡ Some q) × (without_cost q ≡ r)
get_back [] i r e = absurd (none_some e)
  where
    none_some : None ≡ Some r → ⊥
    none_some x = cc
get_back (q ∷ rules) zero r e = (q, refl, some_same e)
  where
    some_same : Some (without_cost q) ≡ Some r → without_cost q ≡ r
    some_same h = cc
get_back (q ∷ rules) (suc i) r e = get_back rules i r e

-- the rule with a number in a program without its costs is the rule with this number, without its cost
at_without : (p : Program) (t : ℕ) (r : Rule) → rule_at p t ≡ Some r → rule_at (without_costs p) t ≡ Some (without_cost r)
at_without p zero r e = absurd (none_some e)
  where
    none_some : None ≡ Some r → ⊥
    none_some x = cc
at_without p (suc t) r e = get_without p.rules t r e

at_back : (p : Program) (t : ℕ) (r : Rule) → rule_at (without_costs p) t ≡ Some r
    → (q : Rule) × (rule_at p t ≡ Some q) × (without_cost q ≡ r)
at_back p zero r e = absurd (none_some e)
  where
    none_some : None ≡ Some r → ⊥
    none_some x = cc
at_back p (suc t) r e = get_back p.rules t r e

-- a rule leads to the same configurations as without its cost
leads_without : (r : Rule) (c : Config) (free : List ℤ) (d : Config) → Leads r c free d → Leads (without_cost r) c free d
leads_without r c free d h = record { source = h.source; left = h.left; free_ones = h.free_ones; guard = h.guard; target = h.target; values = h.values }

leads_back : (r : Rule) (c : Config) (free : List ℤ) (d : Config) → Leads (without_cost r) c free d → Leads r c free d
leads_back r c free d h = record { source = h.source; left = h.left; free_ones = h.free_ones; guard = h.guard; target = h.target; values = h.values }

-- a step of a program is one of the program without its costs
pub step_without : (p : Program) (c : Config) (s : Step) (d : Config) → IsStep p c s d → IsStep (without_costs p) c s d
step_without p c s d h = record {
  rule = without_cost h.rule;
  numbered = at_without p s.rule h.rule h.numbered;
  leads = leads_without h.rule c s.free d h.leads;
}

step_back : (p : Program) (c : Config) (s : Step) (d : Config) → IsStep (without_costs p) c s d → IsStep p c s d
step_back p c s d h =
    let (q, numbered, same) = at_back p s.rule h.rule h.numbered in
    record {
      rule = q;
      numbered = numbered;
      leads = leads_back q c s.free d (subst (λ (r : Rule). Leads r c s.free d) (sym same) h.leads);
    }

-- a run of a program is one of the program without its costs
pub run_without : (p : Program) (start : List ℤ) (steps : List Step) (c : Config) → IsRun p start steps c
    → IsRun (without_costs p) start steps c
run_without p start [] c run = record { places = run.places; at = run.at; values = run.values }
run_without p start (s ∷ earlier) c (b, run, step) = (b, run_without p start earlier b run, step_without p b s c step)

pub run_back : (p : Program) (start : List ℤ) (steps : List Step) (c : Config) → IsRun (without_costs p) start steps c
    → IsRun p start steps c
run_back p start [] c run = record { places = run.places; at = run.at; values = run.values }
run_back p start (s ∷ earlier) c (b, run, step) = (b, run_back p start earlier b run, step_back p b s c step)

pub costs_change_no_run : CostsChangeNoRun
costs_change_no_run = record { without = run_without; back = run_back }
