-- Each run lifts to a program that simulates its program.
use Rattle.std.proofs.Common.{◌≡◌, ℕ, List, [], ◌∷◌, ◌++◌, map, ℤ, Some, refl, sym, ◌∙◌, ap, subst}
use Rattle.model.specs.Terms.{Term, value}
use Rattle.model.specs.Programs.{Program, Rule, rule_at, arity_of, GuardHolds}
use Rattle.model.specs.Runs.{Config, Step, Leads, IsStep, IsRun}
use Rattle.model.proofs.RunLaws.{same_config, same_rule}
use Rattle.refinement.specs.Simulation.{Projection, config_below, step_below, IsEnabled, HasRuleBelow, Simulates}
use Rattle.refinement.specs.Lifted.{HasLift, AllRunsLift, AllRunsProject}

-- a rule that leads on is enabled
pub enabled : (r : Rule) (c : Config) (free : List ℤ) (d : Config) → Leads r c free d → IsEnabled r c free
enabled r c free d h = record { source = h.source; left = h.left; free_ones = h.free_ones; guard = h.guard }

-- the configuration that an enabled rule leads to
pub next : Rule → Config → List ℤ → Config
next r c free = record { at = r.target; values = map (λ u. value u (c.values ++ free)) r.updates }

-- an enabled rule leads to that configuration
pub leads_next : (r : Rule) (c : Config) (free : List ℤ) → IsEnabled r c free → Leads r c free (next r c free)
unfolding next
leads_next r c free h = record {
  source = h.source;
  left = h.left;
  free_ones = h.free_ones;
  guard = h.guard;
  target = refl;
  values = refl;
}

-- the configuration that a copy leads to projects to the one that the rule below leads to
pub next_below : (o : Projection) (r copy : Rule) (b c d : Config) (free : List ℤ) → (p : Program) (t : ℕ)
    → (h : HasRuleBelow p o t copy) → h.rule ≡ r → config_below o b ≡ c → Leads r c free d
    → config_below o (next copy b free) ≡ d
unfolding next
next_below o r copy b c d free p t h same below leads =
    let values : b.values ≡ c.values = ap (λ (x : Config). x.values) below in
    let updates : copy.updates ≡ r.updates = h.copies.updates ∙ ap (λ (x : Rule). x.updates) same in
    same_config (config_below o (next copy b free)) d
    (h.copies.target ∙ (ap (λ (x : Rule). x.target) same ∙ sym leads.target))
    (ap (λ (us : List Term). map (λ u. value u (b.values ++ free)) us) updates
    ∙ (ap (λ (v : List ℤ). map (λ u. value u (v ++ free)) r.updates) values ∙ sym leads.values))

module _ (p q : Program) (o : Projection) (HasFacts : Config → Type 0) (h : Simulates q p o HasFacts) where
  -- a run that lifts, with one more step, lifts
  lift_step : (start : List ℤ) (earlier : List Step) (b : Config) (s : Step) (c : Config)
      → HasLift q o HasFacts start earlier b → IsStep p b s c → HasLift q o HasFacts start (s ∷ earlier) c
  lift_step start earlier b s c l step =
      let enabled_below : IsEnabled step.rule (config_below o l.end) s.free =
      subst (λ (x : Config). IsEnabled step.rule x s.free) (sym l.end_below) (enabled step.rule b s.free c step.leads) in
      let cover = h.covered s.rule step.rule l.end s.free l.facts step.numbered enabled_below in
      let below = h.copies cover.number cover.rule cover.numbered in
      let numbered : rule_at p (o.rule cover.number) ≡ Some step.rule =
      ap (rule_at p) cover.above ∙ step.numbered in
      let same : below.rule ≡ step.rule = same_rule p (o.rule cover.number) below.rule step.rule below.numbered numbered in
      let guard : GuardHolds (l.end.values ++ s.free) step.rule.guard = enabled_below.guard in
      let leads = leads_next cover.rule l.end s.free cover.enabled in
      record {
        above = record { rule = cover.number; free = s.free } ∷ l.above;
        end = next cover.rule l.end s.free;
        run = (l.end, l.run, record { rule = cover.rule; numbered = cover.numbered; leads = leads });
        steps_below =
            ap (λ (n : ℕ). record { rule = n; free = s.free } ∷ map (step_below o) l.above) cover.above
            ∙ ap (λ (steps : List Step). s ∷ steps) l.steps_below;
        end_below = next_below o step.rule cover.rule l.end b c s.free p cover.number below same l.end_below step.leads;
        facts = h.kept cover.number step.rule cover.rule l.end (next cover.rule l.end s.free) s.free l.facts
            cover.numbered numbered guard leads;
      }

  -- each run lifts
  lift : (start : List ℤ) (steps : List Step) (c : Config) → IsRun p start steps c
      → HasLift q o HasFacts start steps c
  lift start [] c run = record {
    above = [];
    end = record { at = q.start; values = start };
    run = record { places = run.places ∙ sym h.places; at = refl; values = refl };
    steps_below = refl;
    end_below = same_config (config_below o (record { at = q.start; values = start })) c (h.start ∙ sym run.at)
        (sym run.values);
    facts = h.first (record { at = q.start; values = start }) refl;
  }
  lift start (s ∷ earlier) c (b, run, step) = lift_step start earlier b s c (lift start earlier b run) step

  pub all_lift : AllRunsLift p q o HasFacts
  all_lift = record { each = lift }

-- laws for steps of q that project to steps of p, if the guards of copies imply those of the rules below
module _ (p q : Program) (o : Projection) (start : o.symbol q.start ≡ p.start)
    (places : arity_of q q.start ≡ arity_of p p.start)
    (copies : (t : ℕ) (copy : Rule) → rule_at q t ≡ Some copy → HasRuleBelow p o t copy)
    (guards : (t : ℕ) (r copy : Rule) (env : List ℤ) → rule_at q t ≡ Some copy → rule_at p (o.rule t) ≡ Some r
    → GuardHolds env copy.guard → GuardHolds env r.guard) where
  step_projects : (b : Config) (s : Step) (c : Config) → IsStep q b s c
      → IsStep p (config_below o b) (step_below o s) (config_below o c)
  step_projects b s c step =
      let below = copies s.rule step.rule step.numbered in
      record {
        rule = below.rule;
        numbered = below.numbered;
        leads = record {
          source = ap o.symbol step.leads.source ∙ below.copies.source;
          left = step.leads.left ∙ below.copies.left;
          free_ones = step.leads.free_ones ∙ below.copies.free;
          guard = guards s.rule below.rule step.rule (b.values ++ s.free) step.numbered below.numbered step.leads.guard;
          target = ap o.symbol step.leads.target ∙ below.copies.target;
          values = step.leads.values
              ∙ ap (λ (us : List Term). map (λ u. value u (b.values ++ s.free)) us) below.copies.updates;
        };
      }

  run_projects : (values : List ℤ) (steps : List Step) (c : Config) → IsRun q values steps c
      → IsRun p values (map (step_below o) steps) (config_below o c)
  run_projects values [] c run = record {
    places = run.places ∙ places;
    at = ap o.symbol run.at ∙ start;
    values = run.values;
  }
  run_projects values (s ∷ earlier) c (b, run, step) =
      (config_below o b, run_projects values earlier b run, step_projects b s c step)

  pub all_project : AllRunsProject p q o
  all_project = record { each = run_projects }
