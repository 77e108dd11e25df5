-- The section of facts has the right shape, so a first fault of it is a limit, or in its multipliers.
use Rattle.std.proofs.Common.{◌≡◌, inl, inr, ℕ, suc, List, [], ◌∷◌, map, Option, Some, None}
use Rattle.std.proofs.Common.{refl, sym, ap, subst, eq-eqb}
use Rattle.std.specs.Prelude.{slice_get, ⊤}
use Rattle.std.specs.List.{AllByRecursion}
use Rattle.refined_programs.specs.model.Terms.{Term}
use Rattle.refined_programs.specs.model.Programs.{Atom, Program, Rule, arity_of}
use Rattle.refined_programs.specs.its_model.Valid.{IsValid}
use Rattle.refined_programs.specs.refinement.Sections as plain
use Rattle.refined_programs.specs.refinement.Sections.{facts_in}
use Rattle.refined_programs.specs.refinement.Obligations.{HasFirstCopy}
use Rattle.refined_programs.specs.Annotated as annotated
use Rattle.refined_programs.specs.Ends.{AtCopy, Nowhere, Goal}
use Rattle.section_checks.specs.Faults.{BranchEnd, Fault, IsFirstFault, IsFirstInStages, Obligation, WrongStart}
use Rattle.section_checks.specs.Faults.{certificate_stages, ends_of, fact_obligations, limit_checks}
use Rattle.section_checks.specs.Faults.{obligation_checks, obligations_at, obligations_of, branch_checks, due, fact_checks}
use Rattle.section_checks.specs.Faults.{rules_checks, shape_checks, test_checks}
use Rattle.cert_rules.specs.Reasons.{CheckOf, IsFirstAmong, check}
use Rattle.cert_rules.proofs.CheckLists.{passed_has_none}
use Rattle.location_facts.specs.declared.fact.LocFact.{LocFact}
use Rattle.facts_section.specs.Copies.{IsSectionOfFacts, copy_at, fact_copies, fact_term, section_of_facts}
use Rattle.facts_section.specs.Counted.{HasFactsShape}
use Rattle.facts_section.specs.Needed.{needed_facts}
use Rattle.facts_certs.specs.Refusals.{HasShape, IsOfLimitOrMultipliers}
use Rattle.facts_certs.proofs.StepEnds.{ends-have, ends-pass, steps, tests-pass}
use Rattle.facts_certs.proofs.RequiredBranches.{branches-pass, facts-pass}
use Rattle.facts_certs.proofs.FewRules.{rules-pass}

-- the start symbol needs no facts
none-needed : (p : Program) (kept : List LocFact) → needed_facts p kept p.start ≡ []
none-needed p kept = rw (eq-eqb p.start p.start refl) refl

-- the section of facts begins with a copy of the start symbol without facts
first-copy : (p : Program) (kept : List LocFact) → HasFirstCopy p (section_of_facts p kept)
first-copy p kept = record {
  copy = copy_at p kept p.start;
  there = refl;
  start = refl;
  facts = ap (λ (fs : List LocFact). map (fact_term (arity_of p p.start)) fs) (none-needed p kept);
}

-- the first failing check of a list has a reason with the property that all reasons have
abbrev AllReasons : (Fault → Type 0) → List (CheckOf Fault) → Type 0
AllReasons Q [] = ⊤
AllReasons Q (c ∷ cs) = Q c.reason × AllReasons Q cs

first-has : (Q : Fault → Type 0) (cs : List (CheckOf Fault)) (x : Fault) → AllReasons Q cs → IsFirstAmong cs x → Q x
first-has Q [] x all first = absurd first
first-has Q (c ∷ cs) x all (inl (fails, reason)) = subst Q reason all.0
first-has Q (c ∷ cs) x all (inr (holds, later)) = first-has Q cs x all.1 later

-- checks of limits have limits as their reasons
limits-reasons : (copies : List plain.Copy) (n : ℕ) (es : List BranchEnd)
    → AllReasons IsOfLimitOrMultipliers (limit_checks copies n es)
limits-reasons copies n [] = tt
limits-reasons copies n (e ∷ es) = (tt, limits-reasons copies (suc n) es)

-- an obligation is of a fact, and not of a path that ends nowhere
abbrev AreOfFacts : List Obligation → Type 0
AreOfFacts os = AllByRecursion (λ (o : Obligation). IsOfLimitOrMultipliers o.fault) os

obligations-reasons : (n : ℕ) (os : List Obligation) → AreOfFacts os
    → AllReasons IsOfLimitOrMultipliers (obligation_checks n os)
obligations-reasons n [] all = tt
obligations-reasons n (o ∷ os) all = (tt, (all.0, obligations-reasons n os all.1))

of-facts : (n j : ℕ) (r : Rule) (atoms : List Atom) (facts : List Term) (by : List (List ℕ))
    → AreOfFacts (fact_obligations n j r atoms facts by)
of-facts n j r atoms [] by = tt
of-facts n j r atoms (f ∷ facts) [] = tt
of-facts n j r atoms (f ∷ facts) (ms ∷ by) = (tt, of-facts n (suc j) r atoms facts by)

-- an end is at a copy
abbrev IsAtCopy : Goal → Type 0
IsAtCopy (AtCopy k by) = ⊤
IsAtCopy (Nowhere by) = ⊥

end-of-facts : (copies : List plain.Copy) (n : ℕ) (e : BranchEnd) → IsAtCopy e.end.goal
    → AreOfFacts (obligations_of copies n e.rule e.end)
end-of-facts copies n e at_copy = by_rule e.rule
  where
    by_goal : (r : Rule) (g : Goal) → IsAtCopy g → AreOfFacts (obligations_at copies n r e.end.atoms g)
    by_goal r (AtCopy k by) at = of-facts n 1 r e.end.atoms (facts_in (slice_get copies k)) by
    by_goal r (Nowhere by) at = absurd at

    by_rule : (o : Option Rule) → AreOfFacts (obligations_of copies n o e.end)
    by_rule None = tt
    by_rule (Some r) = by_goal r e.end.goal at_copy

-- a first fault in the certificates of ends at copies is in their multipliers
first-in-certificates : (copies : List plain.Copy) (n : ℕ) (es : List BranchEnd) (x : Fault)
    → AllByRecursion (λ (e : BranchEnd). IsAtCopy e.end.goal) es
    → IsFirstInStages (certificate_stages copies n es) x → IsOfLimitOrMultipliers x
first-in-certificates copies n [] x all first = absurd first
first-in-certificates copies n (e ∷ es) x all (inl first) =
    first-has IsOfLimitOrMultipliers (obligation_checks n (obligations_of copies n e.rule e.end)) x
    (obligations-reasons n (obligations_of copies n e.rule e.end) (end-of-facts copies n e all.0)) first
first-in-certificates copies n (e ∷ es) x all (inr (before, later)) =
    first-in-certificates copies (suc n) es x all.1 later

module _ (p : Program) (kept : List LocFact) (valid : IsValid p) (s : annotated.Section)
    (of_facts : IsSectionOfFacts p kept (annotated.section_of s)) (parts : HasFactsShape p kept s) where
  copies-are : map annotated.copy_of s.copies ≡ fact_copies p kept
  copies-are = ap (λ (x : plain.Section). x.copies) of_facts

  -- the section has the right shape
  pub shaped : HasShape p s
  shaped = record {
    start = subst (λ (x : plain.Section). HasFirstCopy p x) (sym of_facts) (first-copy p kept);
    facts = facts-pass p kept s.copies parts.copies;
    branches = branches-pass p kept s (ap (λ (x : plain.Section). x.branches) of_facts) parts.copies;
    tests = tests-pass p kept valid s parts;
    ends = ends-pass p kept valid s parts copies-are;
    rules = rules-pass p kept valid s parts;
  }

  -- a first fault is a limit, or in the multipliers
  pub late : (x : Fault) → IsFirstFault p s x → IsOfLimitOrMultipliers x
  late x (inl first) = absurd (passed_has_none
      (check WrongStart (HasFirstCopy p (annotated.section_of s)) ∷ []) (shaped.start, tt) x first)
  late x (inr (a, inl first)) = absurd (passed_has_none (fact_checks p 1 s.copies) shaped.facts x first)
  late x (inr (a, inr (b, inl first))) = absurd (passed_has_none (branch_checks 1 s.branches (due p 0 s.copies)) shaped.branches x first)
  late x (inr (a, inr (b, inr (c, inl first)))) = absurd (passed_has_none (test_checks p 1 s.branches) shaped.tests x first)
  late x (inr (a, inr (b, inr (c, inr (d, inl first))))) = absurd (passed_has_none
      (shape_checks (map annotated.copy_of s.copies) 1 (ends_of p s s.branches)) shaped.ends x first)
  late x (inr (a, inr (b, inr (c, inr (d, inr (e, inl first)))))) = absurd (passed_has_none
      (rules_checks (ends_of p s s.branches)) shaped.rules x first)
  late x (inr (a, inr (b, inr (c, inr (d, inr (e, inr (f, inl first))))))) =
      first-has IsOfLimitOrMultipliers (limit_checks (map annotated.copy_of s.copies) 1 (ends_of p s s.branches)) x
      (limits-reasons (map annotated.copy_of s.copies) 1 (ends_of p s s.branches)) first
  late x (inr (a, inr (b, inr (c, inr (d, inr (e, inr (f, inr (g, later)))))))) =
      first-in-certificates (map annotated.copy_of s.copies) 1 (ends_of p s s.branches) x
      (ends-have p kept valid s parts (λ (n : BranchEnd). IsAtCopy n.end.goal) (λ b step. tt) s.branches
      (steps p kept valid s parts)) later
