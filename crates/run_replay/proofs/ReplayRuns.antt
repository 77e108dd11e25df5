-- Runs in range, their prefixes, and their first bad steps.
use Rattle.std.proofs.Common.{◌≡◌, ◌⊎◌, inl, inr, ℕ, zero, suc, ◌≤◌, List, [], ◌∷◌, ◌++◌, length, map, ℤ}
use Rattle.std.proofs.Common.{Bool, true, false, ◌&&◌, if◌then◌else◌, nat_eq, Option, Some, None, refl, sym, ◌∙◌, ap}
use Rattle.std.proofs.Common.{subst, arith, length-append}
use Rattle.std.proofs.lemmas.Bool.Decides.{nat_tests}
use Rattle.its_model.specs.model.Terms.{value}
use Rattle.its_model.specs.model.Programs.{Program, Rule, rule_at, arity_of}
use Rattle.its_model.specs.model.Runs.{Config, Step, IsStep, IsRun}
use Rattle.its_model.specs.Costs.{CostFits, cost_fault}
use Rattle.its_model.specs.Steps.{StepFault, OtherRule, RuleFits, rule_fault, found_fault, body_fault, step_fault}
use Rattle.its_model.specs.Valid.{IsValid}
use Rattle.its_model.proofs.poly_terms.model.RunLaws.{same_end}
use Rattle.its_model.proofs.poly_terms.model.StepLaws.{values}
use Rattle.its_model.proofs.poly_terms.model.CostLaws.{stands_at}
use Rattle.its_model.proofs.ValidLaws.{arities_agree}
use Rattle.run_replay.specs.Replays.{replay_fault, RunsInRange, IsRunInRange, BadStep, IsFirstBadStep}
use Rattle.run_replay.proofs.ReplayFaults.{ReplayStepsHaveNoFault, neither_fault}

-- a run in range with one more step in range is a run in range
pub next_runs : ReplayStepsHaveNoFault → (p : Program) (start : List ℤ) (earlier : List Step) (c : Config) (s : Step)
    (d : Config) → RunsInRange p start earlier c → IsStep p c s d → replay_fault p c s ≡ None
    → RunsInRange p start (s ∷ earlier) d
next_runs law p start earlier c s d h step none = record {
  run = (c, h.run, step);
  fit = (
    h.fit,
    record {
      each = λ q e. subst (λ (v : List ℤ). RuleFits q (v ++ s.free)) (stands_at p start earlier c h.run)
          (law.fits p c s q e none);
      cost = λ q e. subst (λ (v : List ℤ). CostFits (v ++ s.free) q.cost) (stands_at p start earlier c h.run)
          (law.cost_fits p c s q e none);
    },
  );
}

-- a prefix of a run in range is a run in range
pub beginning_runs : (p : Program) (start : List ℤ) (later earlier : List Step) (c : Config)
    → RunsInRange p start (later ++ earlier) c → IsRunInRange p start earlier
beginning_runs p start [] earlier c h = (c, h)
beginning_runs p start (s ∷ later) earlier c h =
    beginning_runs p start later earlier h.run.0 (record { run = h.run.1; fit = h.fit.0 })

-- the last step of a run in range has no fault at the configuration before it
pub last_has_no_fault : ReplayStepsHaveNoFault → (p : Program) (start : List ℤ) (s : Step) (earlier : List Step) (b c : Config)
    → RunsInRange p start (s ∷ earlier) c → IsRun p start earlier b → replay_fault p b s ≡ None
last_has_no_fault law p start s earlier b c h run =
    let e : h.run.0 ≡ b = same_end p start earlier h.run.0 b h.run.1 run in
    let step : IsStep p b s c = subst (λ (x : Config). IsStep p x s c) e h.run.2 in
    law.no_fault p b c s step.rule step.numbered step
    (subst (λ (v : List ℤ). RuleFits step.rule (v ++ s.free)) (sym (stands_at p start earlier b run))
    (h.fit.1.each step.rule step.numbered))
    (subst (λ (v : List ℤ). CostFits (v ++ s.free) step.rule.cost) (sym (stands_at p start earlier b run))
    (h.fit.1.cost step.rule step.numbered))

-- an option that is None contains no fault
none_some : (f : StepFault) (o : Option StepFault) → o ≡ None → o ≡ Some f → ⊥
none_some f o h k = absurd (differ (sym h ∙ k))
  where
    differ : None ≡ Some f → ⊥
    differ e = cc

-- steps that have a first bad step aren't a run in range
pub none_bad : ReplayStepsHaveNoFault → (p : Program) (start : List ℤ) (steps : List Step) (bad : BadStep)
    → IsRunInRange p start steps → IsFirstBadStep p start steps bad → ⊥
none_bad law p start steps bad (c, h) k =
    let whole : RunsInRange p start (k.later ++ k.step ∷ k.earlier) c =
    subst (λ (ss : List Step). RunsInRange p start ss c) k.order h in
    let (d, g) = beginning_runs p start k.later (k.step ∷ k.earlier) c whole in
    none_some bad.fault (replay_fault p k.end k.step)
    (last_has_no_fault law p start k.step k.earlier k.end d g k.runs.run) k.fault

-- if a list has two suffixes, the longer one ends with the shorter one
ending : {X : Type 0} (a b x y : List X) → a ++ x ≡ b ++ y → length x ≤ length y → (m : List X) × (y ≡ m ++ x)
ending a [] x y e l = (a, sym e)
ending [] (z ∷ b) x y e l = absurd (omega (arith, l, ap length e, length-append b y))
ending (w ∷ a) (z ∷ b) x y e l = let f : a ++ x ≡ b ++ y = cc in ending a b x y f l

-- bad steps with the same number and fault are the same
same_bad : (a b : BadStep) → a.number ≡ b.number → a.fault ≡ b.fault → a ≡ b
same_bad a b e f = λ i. record { number = e i; fault = f i }

-- of two first bad steps, the one that isn't later equals the other one
earlier_bad : ReplayStepsHaveNoFault → (p : Program) (start : List ℤ) (steps : List Step) (a b : BadStep)
    → (h : IsFirstBadStep p start steps a) (k : IsFirstBadStep p start steps b)
    → (m : List Step) → k.step ∷ k.earlier ≡ m ++ h.step ∷ h.earlier → a ≡ b
earlier_bad law p start steps a b h k [] e =
    let step : k.step ≡ h.step = cc in
    let before : k.earlier ≡ h.earlier = cc in
    let end : k.end ≡ h.end = same_end p start h.earlier k.end h.end
    (subst (λ (ss : List Step). IsRun p start ss k.end) before k.runs.run) h.runs.run in
    let fault : Some b.fault ≡ Some a.fault = sym k.fault
    ∙ (ap (λ (c : Config). replay_fault p c k.step) end ∙ (ap (replay_fault p h.end) step ∙ h.fault)) in
    same_bad a b (omega (arith, h.number, k.number, ap length before)) (let f : a.fault ≡ b.fault = cc in f)
earlier_bad law p start steps a b h k (w ∷ m) e =
    let before : k.earlier ≡ m ++ h.step ∷ h.earlier = cc in
    absurd (none_bad law p start k.earlier a (k.end, k.runs) (record {
      later = m;
      step = h.step;
      earlier = h.earlier;
      order = before;
      number = h.number;
      end = h.end;
      runs = h.runs;
      fault = h.fault;
    }))

-- steps have at most one first bad step
pub one_bad : ReplayStepsHaveNoFault → (p : Program) (start : List ℤ) (steps : List Step) (a b : BadStep)
    → IsFirstBadStep p start steps a → IsFirstBadStep p start steps b → a ≡ b
one_bad law p start steps a b h k = go (at_most (length h.earlier) (length k.earlier))
  where
    at_most : (x y : ℕ) → (x ≤ y) ⊎ (y ≤ x)
    at_most zero y = inl (omega arith)
    at_most (suc x) zero = inr (omega arith)
    at_most (suc x) (suc y) = elim (at_most x y) [ inl l ↦ inl (omega arith) | inr l ↦ inr (omega arith) ]

    go : (length h.earlier ≤ length k.earlier) ⊎ (length k.earlier ≤ length h.earlier) → a ≡ b
    go (inl l) =
        let (m, e) = ending h.later k.later (h.step ∷ h.earlier) (k.step ∷ k.earlier) (sym h.order ∙ k.order)
        (omega (arith, l)) in earlier_bad law p start steps a b h k m e
    go (inr l) =
        let (m, e) = ending k.later h.later (k.step ∷ k.earlier) (h.step ∷ h.earlier) (sym k.order ∙ h.order)
        (omega (arith, l)) in sym (earlier_bad law p start steps b a k h m e)

-- a step without a fault begins at the rule's source
leaves_source : (r : Rule) (c : Config) (free : List ℤ) → rule_fault r c free ≡ None → c.at ≡ r.source
leaves_source r c free h = go (nat_eq c.at r.source) (nat_eq (length free) r.free) refl h
  where
    same : (x y : ℕ) → nat_eq x y ≡ true → x ≡ y
    same x y e = grind (arith, nat_tests)

    go : (a b : Bool) → nat_eq c.at r.source ≡ a
        → (if a && b then body_fault r (c.values ++ free) else Some OtherRule) ≡ None → c.at ≡ r.source
    go true b f k = same _ _ f
    go false b f k = absurd (no k)
      where
        no : Some OtherRule ≡ None → ⊥
        no e = cc

-- a first bad step is still the first one if more steps follow
more_behind : (p : Program) (start : List ℤ) (s : Step) (steps : List Step) (bad : BadStep)
    → IsFirstBadStep p start steps bad → IsFirstBadStep p start (s ∷ steps) bad
more_behind p start s steps bad h = record {
  later = s ∷ h.later;
  step = h.step;
  earlier = h.earlier;
  order = ap (λ (ss : List Step). s ∷ ss) h.order;
  number = h.number;
  end = h.end;
  runs = h.runs;
  fault = h.fault;
}

-- one more step after a run in range makes a run in range, or is the first bad step
more_steps : ReplayStepsHaveNoFault → (p : Program) (start : List ℤ) (s : Step) (earlier : List Step) (c : Config) → IsValid p
    → RunsInRange p start earlier c
    → IsRunInRange p start (s ∷ earlier) ⊎ ((bad : BadStep) × IsFirstBadStep p start (s ∷ earlier) bad)
more_steps law p start s earlier c valid h = go (replay_fault p c s) refl
  where
    taken : (o : Option Rule) → rule_at p s.rule ≡ o → found_fault o c s.free ≡ None → replay_fault p c s ≡ None
        → IsRunInRange p start (s ∷ earlier)
    taken None e none fault = absurd (no none)
      where
        no : Some OtherRule ≡ None → ⊥
        no k = cc
    taken (Some r) e none fault =
        let agree = arities_agree p valid in
        let left : length c.values ≡ r.left = values p agree start earlier c h.run
        ∙ (ap (arity_of p) (leaves_source r c s.free none) ∙ sym (agree.left s.rule r e)) in
        let d : Config = record { at = r.target; values = map (λ u. value u (c.values ++ s.free)) r.updates } in
        (d, next_runs law p start earlier c s d h (law.step p c s r e left fault) fault)

    go : (o : Option StepFault) → replay_fault p c s ≡ o
        → IsRunInRange p start (s ∷ earlier) ⊎ ((bad : BadStep) × IsFirstBadStep p start (s ∷ earlier) bad)
    go None e = inl (taken (rule_at p s.rule) refl (neither_fault (step_fault p c s) (cost_fault p c s) e).0 e)
    go (Some f) e = inr (
      record { number = suc (length earlier); fault = f },
      record {
        later = [];
        step = s;
        earlier = earlier;
        order = refl;
        number = refl;
        end = c;
        runs = h;
        fault = e;
      },
    )

-- steps are a run in range or have a first bad one
pub some_comes : ReplayStepsHaveNoFault → (p : Program) (start : List ℤ) (steps : List Step) → IsValid p
    → length start ≡ arity_of p p.start
    → IsRunInRange p start steps ⊎ ((bad : BadStep) × IsFirstBadStep p start steps bad)
some_comes law p start [] valid places =
    let c : Config = record { at = p.start; values = start } in
    inl (c, record { run = record { places = places; at = refl; values = refl }; fit = tt })
some_comes law p start (s ∷ earlier) valid places = go (some_comes law p start earlier valid places)
  where
    go : IsRunInRange p start earlier ⊎ ((bad : BadStep) × IsFirstBadStep p start earlier bad)
        → IsRunInRange p start (s ∷ earlier) ⊎ ((bad : BadStep) × IsFirstBadStep p start (s ∷ earlier) bad)
    go (inl (c, h)) = more_steps law p start s earlier c valid h
    go (inr (bad, h)) = inr (bad, more_behind p start s earlier bad h)
