-- A program that is strengthened by facts that hold has the same runs.
use Rattle.std.proofs.Common.{◌≡◌, ℕ, zero, suc, ◌+◌, ◌≤◌, ◌==◌, ap, arith, refl, sym, ◌∙◌, subst, List, [], ◌∷◌}
use Rattle.std.proofs.Common.{◌++◌, length, take, min, Option, Some, None, if◌then◌else◌}
use Rattle.std.specs.Prelude.{ℤ, option_map}
use Rattle.std.specs.List.{Contains}
use Rattle.std.proofs.lemmas.List.Elements.{All-append, All-take, All-contains}
use Rattle.std.proofs.lemmas.Option.{slice_get-map}
use Rattle.poly_terms.specs.model.Bounds.{Bound, val}
use Rattle.poly_terms.specs.model.Spending.{cost_by, updated, values_after, step_cost, spent, spent_all}
use Rattle.poly_terms.specs.model.Facts.{Fact, Time, Size, Cost, Holds, HoldsTotal, HoldsLength}
use Rattle.poly_terms.specs.model.Programs.{Program, Rule, rule_at, arity_of, AtomHolds, GuardHolds}
use Rattle.poly_terms.specs.model.Runs.{Config, Step, Leads, IsStep, IsRun, sizes_of_start}
use Rattle.poly_terms.specs.model.RunLaws.{AritiesAgree}
use Rattle.poly_terms.proofs.linear_forms.ListLaws.{All-front}
use Rattle.poly_terms.proofs.model.Cases.{none_some}
use Rattle.poly_terms.proofs.model.StepLaws.{values}
use Rattle.location_facts.specs.declared.fact.LocFact.{LocFact}
use Rattle.location_facts.specs.Candidates.{IsCandidate}
use Rattle.location_facts.specs.Facts.{HoldsAlways}
use Rattle.location_facts.specs.Laws.{AreHeld}
use Rattle.location_facts.specs.Rows.{facts_at}
use Rattle.location_facts.specs.Strengthening.{fact_atom, room_for, strongest_atoms, strengthened_rule, strengthened}
use Rattle.location_facts.proofs.Strongest.{HasFact, strongest-all, atom-holds, fact-of-symbol}

-- the strengthened rule with a number
pub at-strong : (kept : List LocFact) (p : Program) (t : ℕ)
    → rule_at (strengthened kept p) t ≡ option_map (strengthened_rule kept) (rule_at p t)
at-strong kept p zero = refl
at-strong kept p (suc t) = slice_get-map (strengthened_rule kept) p.rules t

-- a strengthened rule comes from a rule
from-strong : (kept : List LocFact) (o : Option Rule) (r : Rule) → option_map (strengthened_rule kept) o ≡ Some r
    → (q : Rule) × (o ≡ Some q) × (strengthened_rule kept q ≡ r)
from-strong kept None r e = absurd (none_some r e)
from-strong kept (Some q) r e = (q, refl, same e)
  where
    same : Some (strengthened_rule kept q) ≡ Some r → strengthened_rule kept q ≡ r
    same h = cc

-- wherever a strengthened rule leads, the rule leads
leads-back : (kept : List LocFact) (r : Rule) (c : Config) (free : List ℤ) (d : Config)
    → Leads (strengthened_rule kept r) c free d → Leads r c free d
leads-back kept r c free d h = record {
  source = h.source;
  left = h.left;
  free_ones = h.free_ones;
  guard = All-front (AtomHolds (c.values ++ free)) r.guard
      (take (room_for r) (strongest_atoms (facts_at r.source kept))) h.guard;
  target = h.target;
  values = h.values;
}

step-back : (kept : List LocFact) (p : Program) (c : Config) (s : Step) (d : Config)
    → IsStep (strengthened kept p) c s d → IsStep p c s d
step-back kept p c s d h =
    let (q, numbered, same) = from-strong kept (rule_at p s.rule) h.rule (sym (at-strong kept p s.rule) ∙ h.numbered) in
    record {
      rule = q;
      numbered = numbered;
      leads = leads-back kept q c s.free d (subst (λ (r : Rule). Leads r c s.free d) (sym same) h.leads);
    }

pub run-back : (kept : List LocFact) (p : Program) (start : List ℤ) (steps : List Step) (c : Config)
    → IsRun (strengthened kept p) start steps c → IsRun p start steps c
run-back kept p start [] c run = record { places = run.places; at = run.at; values = run.values }
run-back kept p start (s ∷ earlier) c (b, run, step) =
    (b, run-back kept p start earlier b run, step-back kept p b s c step)

module _ (p : Program) (agree : AritiesAgree p) (kept : List LocFact) (held : AreHeld p kept) where
  -- the added atoms of a rule hold if a run is at its source
  atoms-hold : (start : List ℤ) (steps : List Step) (c : Config) → IsRun p start steps c → (free : List ℤ) (s : ℕ)
      → c.at ≡ s → GuardHolds (c.values ++ free) (strongest_atoms (facts_at s kept))
  atoms-hold start steps c run free s at =
      strongest-all (AtomHolds (c.values ++ free)) (facts_at s kept)
      (λ i j k h. holds i j k h (fact-of-symbol s kept h.fact h.member))
    where
      long : length c.values ≡ arity_of p c.at
      long = values p agree start steps c run

      within : (i a : ℕ) → i ≤ min a 8 → length c.values ≡ a → i ≤ length c.values
      within i a l e = omega (arith, l, e)

      holds : (i j : ℕ) (k : ℤ) (h : HasFact (facts_at s kept) i j k)
          → Contains kept h.fact × (h.fact.symbol ≡ s) → AtomHolds (c.values ++ free) (fact_atom i j k)
      holds i j k h (member, same) =
          let f = h.fact in
          let candidate : IsCandidate p f = All-contains (IsCandidate p) kept f held.candidates member in
          let here : c.at ≡ f.symbol = at ∙ sym same in
          let known : length c.values ≡ arity_of p f.symbol = long ∙ ap (arity_of p) here in
          let l = within f.plus (arity_of p f.symbol) candidate.plus known in
          let m = within f.minus (arity_of p f.symbol) candidate.minus known in
          let met = (All-contains (HoldsAlways p) kept f held.hold member).each start steps c run here in
          subst (λ (x : ℕ). AtomHolds (c.values ++ free) (fact_atom x j k)) h.plus
          (subst (λ (y : ℕ). AtomHolds (c.values ++ free) (fact_atom f.plus y k)) h.minus
          (subst (λ (z : ℤ). AtomHolds (c.values ++ free) (fact_atom f.plus f.minus z)) h.is_least
          (atom-holds c free f.plus f.minus f.least l m met)))

  -- a step of a run is a step of the strengthened program
  step-on : (start : List ℤ) (steps : List Step) (c : Config) → IsRun p start steps c → (s : Step) (d : Config)
      → IsStep p c s d → IsStep (strengthened kept p) c s d
  step-on start steps c run s d h = record {
    rule = strengthened_rule kept h.rule;
    numbered = at-strong kept p s.rule ∙ ap (λ (o : Option Rule). option_map (strengthened_rule kept) o) h.numbered;
    leads = record {
      source = h.leads.source;
      left = h.leads.left;
      free_ones = h.leads.free_ones;
      guard = All-append (AtomHolds (c.values ++ s.free)) h.rule.guard
          (take (room_for h.rule) (strongest_atoms (facts_at h.rule.source kept))) h.leads.guard
          (All-take (AtomHolds (c.values ++ s.free)) (room_for h.rule)
          (strongest_atoms (facts_at h.rule.source kept))
          (atoms-hold start steps c run s.free h.rule.source h.leads.source));
      target = h.leads.target;
      values = h.leads.values;
    };
  }

  pub run-on : (start : List ℤ) (steps : List Step) (c : Config) → IsRun p start steps c
      → IsRun (strengthened kept p) start steps c
  run-on start [] c run = record { places = run.places; at = run.at; values = run.values }
  run-on start (s ∷ earlier) c (b, run, step) =
      (b, run-on start earlier b run, step-on start earlier b run s c step)

  -- strengthening doesn't change a rule's cost or target
  cost-same : (o : Option Rule) (env : List ℤ) → cost_by (option_map (strengthened_rule kept) o) env ≡ cost_by o env
  cost-same None env = refl
  cost-same (Some r) env = refl

  updated-same : (o : Option Rule) (env : List ℤ) → updated (option_map (strengthened_rule kept) o) env ≡ updated o env
  updated-same None env = refl
  updated-same (Some r) env = refl

  after-same : (start : List ℤ) (steps : List Step)
      → values_after (strengthened kept p) start steps ≡ values_after p start steps
  after-same start [] = refl
  after-same start (s ∷ earlier) =
      ap (λ (v : List ℤ). updated (rule_at (strengthened kept p) s.rule) (v ++ s.free)) (after-same start earlier)
      ∙ (ap (λ (o : Option Rule). updated o (values_after p start earlier ++ s.free)) (at-strong kept p s.rule)
      ∙ updated-same (rule_at p s.rule) (values_after p start earlier ++ s.free))

  step_cost-same : (start : List ℤ) (s : Step) (earlier : List Step)
      → step_cost (strengthened kept p) start s earlier ≡ step_cost p start s earlier
  step_cost-same start s earlier =
      ap (λ (v : List ℤ). cost_by (rule_at (strengthened kept p) s.rule) (v ++ s.free)) (after-same start earlier)
      ∙ (ap (λ (o : Option Rule). cost_by o (values_after p start earlier ++ s.free)) (at-strong kept p s.rule)
      ∙ cost-same (rule_at p s.rule) (values_after p start earlier ++ s.free))

  spent-same : (t : ℕ) (start : List ℤ) (steps : List Step)
      → spent (strengthened kept p) t start steps ≡ spent p t start steps
  spent-same t start [] = refl
  spent-same t start (s ∷ earlier) =
      ap (λ (n : ℕ). (if s.rule == t then n else 0) + spent (strengthened kept p) t start earlier)
      (step_cost-same start s earlier)
      ∙ ap (λ (n : ℕ). (if s.rule == t then step_cost p start s earlier else 0) + n) (spent-same t start earlier)

  spent_all-same : (start : List ℤ) (steps : List Step) → spent_all (strengthened kept p) start steps
      ≡ spent_all p start steps
  spent_all-same start [] = refl
  spent_all-same start (s ∷ earlier) =
      ap (λ (n : ℕ). n + spent_all (strengthened kept p) start earlier) (step_cost-same start s earlier)
      ∙ ap (λ (n : ℕ). step_cost p start s earlier + n) (spent_all-same start earlier)

  -- a bound of the strengthened program is a bound of the program
  pub bound-carries : (fact : Fact) → Holds (strengthened kept p) fact → Holds p fact
  bound-carries (Time t b) h = record { each = λ start steps c run. h.each start steps c (run-on start steps c run) }
  bound-carries (Size t i b) h = record { each = λ start steps c run. h.each start steps c (run-on start steps c run) }
  bound-carries (Cost t b) h = record {
    each = λ start steps c run.
        subst (λ (n : ℕ). n ≤ val b (sizes_of_start start)) (spent-same t start steps)
        (h.each start steps c (run-on start steps c run));
  }

  pub total-carries : (bound : Bound) → HoldsTotal (strengthened kept p) bound → HoldsTotal p bound
  total-carries bound h = record {
    each = λ start steps c run.
        subst (λ (n : ℕ). n ≤ val bound (sizes_of_start start)) (spent_all-same start steps)
        (h.each start steps c (run-on start steps c run));
  }

  pub length-carries : (bound : Bound) → HoldsLength (strengthened kept p) bound → HoldsLength p bound
  length-carries bound h = record { each = λ start steps c run. h.each start steps c (run-on start steps c run) }
