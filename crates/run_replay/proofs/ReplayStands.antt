-- States of a replay: after one more step, at a bad step, and at the end.
use Rattle.std.proofs.Common.{◌≡◌, ℕ, zero, suc, ◌+◌, ◌-◌, ◌≤◌, ◌<◌, List, [], ◌∷◌, ◌++◌, length, take, drop, reverse}
use Rattle.std.proofs.Common.{get_or, ℤ, Some, None, Option, refl, sym, ◌∙◌, ap, subst, arith, append_assoc}
use Rattle.std.specs.Prelude.{slice_index, slice_index_or, IfSome}
use Rattle.std.proofs.lemmas.Grind.{reverse_onto}
use Rattle.std.proofs.lemmas.List.{length-map, length-reverse, length-take-le, reverse-append, take_more, take-append-drop}
use Rattle.std.proofs.lemmas.List.{take_all, drop_more}
use Rattle.std.proofs.lemmas.List.FromFn.{length-map-range_with_len, get_or-map-range_with_len}
use Rattle.std.proofs.lemmas.Option.{slice_get_within}
use Rattle.its_model.specs.model.Terms.{value}
use Rattle.its_model.specs.model.Programs.{Program, Rule, rule_at}
use Rattle.its_model.specs.model.Spending.{cost, spent}
use Rattle.its_model.specs.model.Runs.{Config, Step, IsStep, count}
use Rattle.its_model.specs.Steps.{StepFault}
use Rattle.its_model.specs.Views.{config_of}
use Rattle.its_model.proofs.poly_terms.model.CostLaws.{stands_at}
use Rattle.bound_expr.specs.Capped.{capped}
use Rattle.run_replay.specs.declared.replaying.Standing.{Standing}
use Rattle.run_replay.specs.declared.replaying_error.ReplayError.{ReplayError}
use Rattle.run_replay.specs.Runs.{Run}
use Rattle.run_replay.specs.Replays.{replay_fault, RunsInRange, IsRunInRange, BadStep, IsFirstBadStep, Sums, tally_along, places_reached}
use Rattle.run_replay.specs.Replays.{greatest_size, greatest_sizes}
use Rattle.run_replay.specs.ReplayLaws.{ReplaysAreDecided}
use Rattle.run_replay.specs.ReplayAnswers.{sums_of, bad_step_of, last_first, first_steps, IsReplay, Refuses, Notes}
use Rattle.run_replay.specs.ReplayAnswers.{CanWalk, ReplayIsAfter}
use Rattle.run_replay.proofs.ReplayFaults.{ReplayStepsHaveNoFault}
use Rattle.run_replay.proofs.ReplayRuns.{next_runs}
use Rattle.run_replay.proofs.ReplayTallies.{count_at_most, tally_more}

-- the first n + 1 steps of a run are the first n steps and one more
pub first_more : (r : Run) (n : ℕ) (s : Step) → n < length r.steps → s ≡ get_or r.steps n s
    → first_steps r (n + 1) ≡ s ∷ first_steps r n
first_more r n s low e =
    ap reverse (take_more r.steps n s low)
    ∙ (reverse-append (take n r.steps) (get_or r.steps n s ∷ []) ∙ ap (λ (x : Step). x ∷ first_steps r n) (sym e))

-- the first n steps of a run are n
pub first_length : (r : Run) (n : ℕ) → n ≤ length r.steps → length (first_steps r n) ≡ n
first_length r n low = length-reverse (take n r.steps) ∙ length-take-le n r.steps low

-- the steps of a run, last step first, are those after a step, this step, and those before it
parted : (r : Run) (n : ℕ) (s : Step) → n < length r.steps → s ≡ get_or r.steps n s
    → last_first r ≡ reverse (drop (n + 1) r.steps) ++ s ∷ first_steps r n
parted r n s low e =
    let rest : drop n r.steps ≡ s ∷ drop (n + 1) r.steps =
    drop_more r.steps n s low ∙ ap (λ (x : Step). x ∷ drop (n + 1) r.steps) (sym e) in
    ap reverse (sym (take-append-drop n r.steps))
    ∙ (reverse-append (take n r.steps) (drop n r.steps)
    ∙ (ap (λ (ss : List Step). reverse ss ++ first_steps r n) rest
    ∙ (ap (λ (ss : List Step). ss ++ first_steps r n) (reverse_onto (drop (n + 1) r.steps) s [])
    ∙ append_assoc (reverse (drop (n + 1) r.steps)) (s ∷ []) (first_steps r n))))

-- a step with a fault after the first steps is the first bad step
pub bad_first : (p : Program) (r : Run) (n : ℕ) (s : Step) (c : Config) (f : StepFault) → n < length r.steps
    → s ≡ get_or r.steps n s → RunsInRange p r.start (first_steps r n) c → replay_fault p c s ≡ Some f
    → IsFirstBadStep p r.start (last_first r) (record { number = n + 1; fault = f })
bad_first p r n s c f low e h fault = record {
  later = reverse (drop (n + 1) r.steps);
  step = s;
  earlier = first_steps r n;
  order = parted r n s low e;
  number = omega (arith, first_length r n (omega (arith, low)));
  end = c;
  runs = h;
  fault = fault;
}

-- an error that contains the first bad step refuses the run with it
pub refuses : (p : Program) (r : Run) (bad : BadStep) (x : ReplayError) → bad_step_of x ≡ Some bad
    → IsFirstBadStep p r.start (last_first r) bad → Refuses p r x
refuses p r bad x e h =
    subst (λ (o : Option BadStep). IfSome o (λ b. IsFirstBadStep p r.start (last_first r) b)) (sym e) h

-- the number of a rule is at least 1 and at most the number of rules
rule_within : (p : Program) (t : ℕ) (r : Rule) → rule_at p t ≡ Some r → (0 < t) × (t - 1 < length p.rules)
rule_within p zero r e = absurd (none_some e)
  where
    none_some : None ≡ Some r → ⊥
    none_some k = cc
rule_within p (suc t) r e = let l = slice_get_within p.rules t r e in (omega arith, omega (arith, l))

-- the properties of a tally along steps that adding the next step requires
pub record IsNotable (t : Sums) (s : Step) (earlier : List Step) (values : List ℤ) : Type 0 where
  pub rule : 0 < s.rule
  pub counted : s.rule ≤ length t.counts
  pub sized : s.rule ≤ length t.greatest
  pub places : length (slice_index_or t.greatest (s.rule - 1) []) ≡ length values
  pub steps : t.steps ≡ length earlier
  pub count : slice_index t.counts (s.rule - 1) ≤ length earlier
  pub charged : s.rule ≤ length t.costs

pub notable : (p : Program) (start : List ℤ) (earlier : List Step) (t : Sums) (c : Config) (s : Step) (d : Config)
    → t ≡ tally_along p start earlier → IsStep p c s d → IsNotable t s earlier d.values
notable p start earlier t c s d is step =
    let n = length p.rules in
    let k = s.rule - 1 in
    let within = rule_within p s.rule step.rule step.numbered in
    let counts : ℕ → ℕ = λ u. count u earlier in
    let rows : ℕ → List ℕ = greatest_sizes p start earlier in
    let costs : ℕ → ℕ = λ u. capped (spent p u start earlier) in
    let places : length d.values ≡ places_reached (rule_at p s.rule) =
    ap length step.leads.values ∙ (length-map step.rule.updates (λ u. value u (c.values ++ s.free))
    ∙ ap places_reached (sym step.numbered)) in
    subst (λ (x : Sums). IsNotable x s earlier d.values) (sym is) (record {
      rule = within.0;
      counted = omega (arith, within.0, within.1, length-map-range_with_len counts 1 n);
      sized = omega (arith, within.0, within.1, length-map-range_with_len rows 1 n);
      places = ap length (get_or-map-range_with_len rows 1 n k s.rule [] within.1 (omega (arith, within.0)))
          ∙ (length-map-range_with_len (λ i. greatest_size p start s.rule i earlier) 1 (places_reached (rule_at p s.rule))
          ∙ sym places);
      steps = refl;
      count = omega (
        arith,
        get_or-map-range_with_len counts 1 n k s.rule 0 within.1 (omega (arith, within.0)),
        count_at_most s.rule earlier within.0,
      );
      charged = omega (arith, within.0, within.1, length-map-range_with_len costs 1 n);
    })

-- a replay that takes one more step and adds it to its tally has taken this step
pub stands_next : ReplayStepsHaveNoFault → (p : Program) (r : Run) (n : ℕ) (s : Step) (charged : ℕ) (old new : Standing)
    → n < length r.steps → s ≡ get_or r.steps n s → ReplayIsAfter p r n old
    → IsStep p (config_of old.walk.here) s (config_of new.walk.here) → replay_fault p (config_of old.walk.here) s ≡ None
    → charged ≡ cost p s.rule (old.walk.here.values.items ++ s.free)
    → Notes (s.rule - 1) new.walk.here.values.items charged (sums_of old.tally) (sums_of new.tally)
    → CanWalk p new.walk → ReplayIsAfter p r (n + 1) new
stands_next law p r n s charged old new low e h step none costs notes walks =
    let earlier = first_steps r n in
    let within = rule_within p s.rule step.rule step.numbered in
    let runs : RunsInRange p r.start (s ∷ earlier) (config_of new.walk.here) =
    next_runs law p r.start earlier (config_of old.walk.here) s (config_of new.walk.here) h.runs step none in
    let places : length new.walk.here.values.items ≡ places_reached (rule_at p s.rule) =
    ap length step.leads.values ∙ (length-map step.rule.updates (λ u. value u (old.walk.here.values.items ++ s.free))
    ∙ ap places_reached (sym step.numbered)) in
    let tally : sums_of new.tally ≡ tally_along p r.start (s ∷ earlier) =
    tally_more p r.start s earlier (s.rule - 1) new.walk.here.values.items charged (sums_of old.tally)
    (sums_of new.tally) h.tally notes (omega (arith, within.0)) within.1
    (costs ∙ ap (λ (v : List ℤ). cost p s.rule (v ++ s.free))
    (stands_at p r.start earlier (config_of old.walk.here) h.runs.run))
    (stands_at p r.start (s ∷ earlier) (config_of new.walk.here) runs.run) places in
    let more = sym (first_more r n s low e) in
    record {
      runs = subst (λ (ss : List Step). RunsInRange p r.start ss (config_of new.walk.here)) more runs;
      walks = walks;
      tally = subst (λ (ss : List Step). sums_of new.tally ≡ tally_along p r.start ss) more tally;
    }

-- a replay that has taken all steps has the result for the run
pub whole_replay : (p : Program) (r : Run) (n : ℕ) (s : Standing) → length r.steps ≤ n → ReplayIsAfter p r n s
    → IsReplay p r (sums_of s.tally)
whole_replay p r n s all h =
    let e : first_steps r n ≡ last_first r = ap reverse (take_all n r.steps all) in
    record {
      run = (config_of s.walk.here, subst (λ (ss : List Step). RunsInRange p r.start ss (config_of s.walk.here)) e h.runs);
      tally = subst (λ (ss : List Step). sums_of s.tally ≡ tally_along p r.start ss) e h.tally;
    }

-- a run in range is only refused if memory ran out
pub refused_never : ReplaysAreDecided → (p : Program) (r : Run) (x : ReplayError) → Refuses p r x
    → IsRunInRange p r.start (last_first r) → bad_step_of x ≡ None
refused_never law p r x h run = go (bad_step_of x) h
  where
    go : (o : Option BadStep) → IfSome o (λ b. IsFirstBadStep p r.start (last_first r) b) → o ≡ None
    go None k = refl
    go (Some b) k = absurd (law.none_bad p r.start (last_first r) b run k)

-- a run with a first bad step is refused with this step, or memory ran out
pub refused_once : ReplaysAreDecided → (p : Program) (r : Run) (x : ReplayError) (bad : BadStep) → Refuses p r x
    → IsFirstBadStep p r.start (last_first r) bad → IfSome (bad_step_of x) (λ b. b ≡ bad)
refused_once law p r x bad h k = go (bad_step_of x) h
  where
    go : (o : Option BadStep) → IfSome o (λ b. IsFirstBadStep p r.start (last_first r) b) → IfSome o (λ b. b ≡ bad)
    go None i = i
    go (Some b) i = law.one_bad p r.start (last_first r) b bad i k
