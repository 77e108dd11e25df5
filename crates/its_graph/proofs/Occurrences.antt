-- Without a cycle each rule occurs at most once: once it has occurred, no path leads on to its source.
use Rattle.std.proofs.Common.{◌≡◌, ◌≢◌, ℕ, zero, suc, ◌+◌, ◌*◌, ◌≤◌, List, [], ◌∷◌, true, false, ℤ, Some, refl, sym}
use Rattle.std.proofs.Common.{◌∙◌, ap, subst, inl, inr, ◌⊎◌, arith, ◌==◌}
use Rattle.std.specs.Prelude.{⊤}
use Rattle.std.proofs.lemmas.Bool.Decides.{eqb_tells}
use Rattle.model.specs.Programs.{Program, Rule, rule_at}
use Rattle.model.specs.Runs.{Config, Step, IsStep, IsRun, count, one_if_same}
use Rattle.model.proofs.RunLaws.{same_rule, one_if_same-same, one_if_same-other, entry_once}
use Rattle.model.specs.Paths.{HasEdge, HasPath, any_rule, Here, Onward, HasCycle}
use Rattle.run_counting.specs.Paying.{allowance, IsPaidFor}
use Rattle.run_counting.proofs.Counting.{paid}

-- A step follows an edge of the graph.
pub step_edge : (p : Program) (b : Config) (s : Step) (c : Config) → IsStep p b s c → HasEdge p any_rule b.at c.at
step_edge p b s c h = record {
  number = s.rule;
  rule = h.rule;
  numbered = h.numbered;
  allowed = refl;
  source = sym h.leads.source;
  target = sym h.leads.target;
}

-- The levels for rule t: 0 if a path leads from the rule's target to the current symbol, and any number if not.
abbrev HasLevel : Program → ℕ → Config → ℕ → Type 0
HasLevel p t c zero = (r : Rule) × (rule_at p t ≡ Some r) × HasPath p any_rule r.target c.at
HasLevel p t c (suc l) = ⊤

-- Each entry weighs 1.
abbrev one_each : ℕ → ℕ
one_each e = 1

-- From level k a step leads to a level that is lower by 1 if the step is by rule t.
abbrev LeadsOn : Program → ℕ → Step → Config → ℕ → Type 0
LeadsOn p t s c k = (l : ℕ) × HasLevel p t c l
    × (l + 1 * one_if_same s.rule t ≤ k + 1 * allowance one_each (0 ∷ []) s.rule)

-- Without a cycle each step keeps or lowers the level as required: rule t leads to level 0 and never occurs at that
-- level; any other rule keeps the level.
falls : (p : Program) → ¬ (HasCycle p) → (t : ℕ) (b : Config) (s : Step) (c : Config) → IsStep p b s c → (k : ℕ)
    → HasLevel p t b k → LeadsOn p t s c k
falls p acyclic t b s c step k level = go (eqb_tells s.rule t) k level
  where
    its_number : s.rule ≡ t → rule_at p t ≡ Some step.rule
    its_number same = ap (rule_at p) (sym same) ∙ step.numbered

    go : ((s.rule == t) ≡ true) × (s.rule ≡ t) ⊎ ((s.rule == t) ≡ false) × (s.rule ≢ t) → (k : ℕ) → HasLevel p t b k
        → LeadsOn p t s c k
    go (inl (test, same)) zero (r, numbered, path) = absurd (acyclic (record {
      from = b.at;
      to = step.rule.target;
      edge = record {
        number = s.rule;
        rule = step.rule;
        numbered = step.numbered;
        allowed = refl;
        source = sym step.leads.source;
        target = refl;
      };
      back =
          subst (λ (q : Rule). HasPath p any_rule q.target b.at) (same_rule p t r step.rule numbered (its_number same))
          path;
    }))
    go (inl (test, same)) (suc k) level =
        (0, (step.rule, its_number same, Here (sym step.leads.target)), omega (arith, one_if_same-same s.rule t same))
    go (inr (test, other)) zero (r, numbered, path) =
        let onward = Onward path (step_edge p b s c step) in
        (0, (r, numbered, onward), omega (arith, one_if_same-other s.rule t other))
    go (inr (test, other)) (suc k) level = (suc k, tt, omega (arith, one_if_same-other s.rule t other))

-- These levels pay for rule t; only the virtual entry adds 1.
pays : (p : Program) → ¬ (HasCycle p) → (start : List ℤ) (t : ℕ) → t ≢ 0
    → IsPaidFor (λ steps c. IsRun p start steps c) (HasLevel p t) 1 t one_each (0 ∷ [])
pays p acyclic start t rule = record {
  rule = rule;
  start = λ c run. (1, tt, omega arith);
  step = λ s earlier c run. (run.0, run.1, falls p acyclic t run.0 s c run.2);
}

-- Without a cycle each rule, and the virtual entry, occurs at most once.
pub at_most_once : (p : Program) → ¬ (HasCycle p) → (start : List ℤ) (steps : List Step) (c : Config) (t : ℕ)
    → IsRun p start steps c → count t steps ≤ 1
at_most_once p acyclic start steps c zero run = omega (arith, entry_once p start steps c run)
at_most_once p acyclic start steps c (suc t) run =
    let levels = pays p acyclic start (suc t) (λ e. omega (arith, e)) in
    let all_paid = paid (λ ss d. IsRun p start ss d) (HasLevel p (suc t)) 1 (suc t) one_each (0 ∷ []) levels steps c run in
    omega (arith, all_paid.often (omega arith), entry_once p start steps c run)
