-- The branches of the section of facts: each is a step of its rule to the copy of the rule's target, with a list of
-- multipliers for each fact there.
use Rattle.std.proofs.Common.{◌≡◌, ℕ, suc, ◌+◌, Bool, true, false, List, [], ◌∷◌, ◌++◌, map, length}
use Rattle.std.proofs.Common.{Option, Some, refl, sym, ◌∙◌, ap, subst, arith, if◌then◌else◌}
use Rattle.std.specs.Prelude.{nat_eq, slice_get, slice_index_or}
use Rattle.std.specs.List.{AllByRecursion}
use Rattle.std.proofs.lemmas.List.{length-map}
use Rattle.std.proofs.lemmas.List.FromFn.{get_or-map-range_with_len}
use Rattle.refined_programs.specs.model.Programs.{Program, Rule, arity_of, rule_at}
use Rattle.refined_programs.specs.its_model.Valid.{IsValid, IsValidRule}
use Rattle.refined_programs.specs.refinement.Sections as plain
use Rattle.refined_programs.specs.refinement.Sections.{facts_of, passes}
use Rattle.refined_programs.specs.Annotated as annotated
use Rattle.refined_programs.specs.Annotated.{Branch, Cases, To, Never, If}
use Rattle.refined_programs.specs.Ends.{AtCopy, End, ends}
use Rattle.section_checks.specs.Faults.{AreTestsWide, BranchEnd, Fault, FitsAt, GoalFits, ends_of, ends_of_branch}
use Rattle.section_checks.specs.Faults.{numbered, shape_check, shape_checks, test_check, test_checks, variables_in}
use Rattle.cert_rules.specs.Reasons.{AllPass, CheckOf}
use Rattle.location_facts.specs.declared.fact.LocFact.{LocFact}
use Rattle.facts_section.specs.Copies.{copy_number, fact_copies, fact_term}
use Rattle.facts_section.specs.Counted.{CountedBranch, HasFactsShape, counted, counted_at, counted_branch}
use Rattle.facts_section.specs.Counted.{counted_branches, lists_in, needed_counts}
use Rattle.facts_section.specs.Needed.{needed_facts}
use Rattle.facts_section.proofs.CopyNumbers.{copy-at_number}

-- a property of all elements of two lists
pub all-both : {X : Type 0} (P : X → Type 0) (xs ys : List X) → AllByRecursion P xs → AllByRecursion P ys
    → AllByRecursion P (xs ++ ys)
all-both P [] ys first second = second
all-both P (x ∷ xs) ys first second = (first.0, all-both P xs ys first.1 second)

-- a property of the images of elements
all-unmapped : {X Y : Type 0} (P : Y → Type 0) (f : X → Y) (xs : List X) → AllByRecursion P (map f xs)
    → AllByRecursion (λ x. P (f x)) xs
all-unmapped P f [] all = tt
all-unmapped P f (x ∷ xs) all = (all.0, all-unmapped P f xs all.1)

-- a weaker property
all-weaker : {X : Type 0} (P Q : X → Type 0) → ((x : X) → P x → Q x) → (xs : List X) → AllByRecursion P xs
    → AllByRecursion Q xs
all-weaker P Q each [] all = tt
all-weaker P Q each (x ∷ xs) all = (each x all.0, all-weaker P Q each xs all.1)

-- numbered checks pass whose conditions hold of each element
pub numbered-pass : {X : Type 0} (f : ℕ → X → CheckOf Fault) (P : X → Type 0) → ((k : ℕ) (x : X) → P x → (f k x).holds)
    → (k : ℕ) (xs : List X) → AllByRecursion P xs → AllPass (numbered f k xs)
numbered-pass f P each k [] all = tt
numbered-pass f P each k (x ∷ xs) all = (each k x all.0, numbered-pass f P each (suc k) xs all.1)

module _ (p : Program) (kept : List LocFact) where
  abbrev pub counts : List ℕ
  counts = needed_counts p kept

  -- a counted branch is that of a rule of the program, which is valid
  pub record IsOfRule (c : CountedBranch) : Type 0 where
    pub number : ℕ
    pub rule : Rule
    pub numbered : rule_at p number ≡ Some rule
    pub valid : IsValidRule p rule
    pub is : c ≡ counted_branch p counts number rule

  -- the counted branches at a symbol are of rules
  of-rules-at : (s t : ℕ) (rules : List Rule) → AllByRecursion (IsValidRule p) rules
      → ((i : ℕ) (r : Rule) → slice_get rules i ≡ Some r → rule_at p (t + i) ≡ Some r)
      → AllByRecursion IsOfRule (counted_at p counts s t rules)
  of-rules-at s t [] valid there = tt
  of-rules-at s t (r ∷ rules) valid there =
      go (nat_eq r.source s) (of-rules-at s (suc t) rules valid.1 later)
    where
      later : (i : ℕ) (q : Rule) → slice_get rules i ≡ Some q → rule_at p (suc t + i) ≡ Some q
      later i q e =
          let next : t + suc i ≡ suc t + i = omega arith in
          subst (λ (n : ℕ). rule_at p n ≡ Some q) next (there (suc i) q e)

      here : rule_at p t ≡ Some r
      here =
          let same : t + 0 ≡ t = omega arith in subst (λ (n : ℕ). rule_at p n ≡ Some r) same (there 0 r refl)

      go : (v : Bool) → AllByRecursion IsOfRule (counted_at p counts s (suc t) rules)
          → AllByRecursion IsOfRule ((if v then counted_branch p counts t r ∷ [] else [])
          ++ counted_at p counts s (suc t) rules)
      go true rest = (record { number = t; rule = r; numbered = here; valid = valid.0; is = refl }, rest)
      go false rest = rest

  -- and so are all
  of-rules : IsValid p → (copies : List plain.Copy) → AllByRecursion IsOfRule (counted_branches p counts copies)
  of-rules valid [] = tt
  of-rules valid (c ∷ copies) =
      all-both IsOfRule (counted_at p counts c.over 1 p.rules) (counted_branches p counts copies)
      (of-rules-at c.over 1 p.rules valid.rules first) (of-rules valid copies)
    where
      first : (i : ℕ) (r : Rule) → slice_get p.rules i ≡ Some r → rule_at p (1 + i) ≡ Some r
      first i r e = let next : suc i ≡ 1 + i = omega arith in subst (λ (n : ℕ). rule_at p n ≡ Some r) next e

  -- a branch is a step of its rule to the copy of the rule's target, with a list of multipliers for each fact there
  pub record IsStep (b : Branch) : Type 0 where
    pub rule : Rule
    pub numbered : rule_at p b.rule ≡ Some rule
    pub valid : IsValidRule p rule
    pub by : List (List ℕ)
    pub cases : b.cases ≡ To (copy_number p rule.target) by
    pub lists : length by ≡ length (needed_facts p kept rule.target)

  -- cases that are a step to a copy, with their lists of multipliers
  record IsTo (cases : Cases) (k n : ℕ) : Type 0 where
    pub by : List (List ℕ)
    pub cases_are : cases ≡ To k by
    pub lists : length by ≡ n

  -- cases whose plain ones are a step
  to-of : (cases : Cases) (k n : ℕ) → annotated.cases_of cases ≡ plain.To k → lists_in cases ≡ n → IsTo cases k n
  to-of (To j by) k n e many =
      record { by = by; cases_are = ap (λ (i : ℕ). To i by) (ap copy_in e); lists = many }
    where
      copy_in : plain.Cases → ℕ
      copy_in (plain.To i) = i
      copy_in plain.Never = 0
      copy_in (plain.If f yes_cases no_cases) = 0
  to-of (Never by) k n e many = cc
  to-of (If test yes_cases no_cases) k n e many = cc

  -- a branch that is counted as one of a rule is a step
  step-of : (b : Branch) → IsOfRule (counted b) → IsStep b
  step-of b of_rule =
      let branch = ap (λ (c : CountedBranch). c.branch) of_rule.is in
      let number : b.rule ≡ of_rule.number = ap (λ (x : plain.Branch). x.rule) branch in
      let to = to-of b.cases (copy_number p of_rule.rule.target) (slice_index_or counts of_rule.rule.target 0)
      (ap (λ (x : plain.Branch). x.cases) branch) (ap (λ (c : CountedBranch). c.lists) of_rule.is) in
      record {
        rule = of_rule.rule;
        numbered = ap (rule_at p) number ∙ of_rule.numbered;
        valid = of_rule.valid;
        by = to.by;
        cases = to.cases_are;
        lists = to.lists
            ∙ get_or-map-range_with_len (λ s. length (needed_facts p kept s)) 0 (length p.symbols) of_rule.rule.target
            of_rule.rule.target 0 of_rule.valid.target (omega arith);
      }

  module _ (valid : IsValid p) (s : annotated.Section) (shape : HasFactsShape p kept s) where
    -- all branches of the section are steps
    pub steps : AllByRecursion IsStep s.branches
    steps =
        all-weaker (λ b. IsOfRule (counted b)) IsStep step-of s.branches
        (all-unmapped IsOfRule counted s.branches
        (subst (λ (cs : List CountedBranch). AllByRecursion IsOfRule cs) (sym shape.branches)
        (of-rules valid (fact_copies p kept))))

    -- their tests are wide: there are none
    pub tests-pass : AllPass (test_checks p 1 s.branches)
    tests-pass = numbered-pass (test_check p) IsStep each 1 s.branches steps
      where
        each : (k : ℕ) (b : Branch) → IsStep b → (test_check p k b).holds
        each k b step = subst (λ (c : Cases). AreTestsWide (variables_in (rule_at p b.rule)) c) (sym step.cases) tt

    -- what all ends have that steps have
    pub ends-have : (P : BranchEnd → Type 0) → ((b : Branch) (step : IsStep b)
        → P (record {
          source = b.source;
          rule = rule_at p b.rule;
          end = record {
            atoms = map passes (facts_of (annotated.section_of s) b.source);
            goal = AtCopy (copy_number p step.rule.target) step.by;
          };
        })) → (bs : List Branch) → AllByRecursion IsStep bs → AllByRecursion P (ends_of p s bs)
    ends-have P each [] all = tt
    ends-have P each (b ∷ bs) all =
        all-both P (ends_of_branch p s b) (ends_of p s bs)
        (subst (λ (c : Cases). AllByRecursion P
        (map (λ (e : End). record { source = b.source; rule = rule_at p b.rule; end = e })
        (ends (map passes (facts_of (annotated.section_of s) b.source)) c))) (sym all.0.cases) (each b all.0, tt))
        (ends-have P each bs all.1)

    -- the ends have their shapes
    pub ends-pass : map annotated.copy_of s.copies ≡ fact_copies p kept
        → AllPass (shape_checks (map annotated.copy_of s.copies) 1 (ends_of p s s.branches))
    ends-pass copies =
        numbered-pass (shape_check (map annotated.copy_of s.copies)) IsFit (λ k e fit. fit) 1 (ends_of p s s.branches)
        (ends-have IsFit each s.branches steps)
      where
        IsFit : BranchEnd → Type 0
        IsFit e = GoalFits (map annotated.copy_of s.copies) e.rule e.end.goal

        each : (b : Branch) (step : IsStep b) → FitsAt
            (slice_get (map annotated.copy_of s.copies) (copy_number p step.rule.target)) (rule_at p b.rule) step.by
        each b step =
            subst (λ (o : Option Rule). FitsAt
            (slice_get (map annotated.copy_of s.copies) (copy_number p step.rule.target)) o step.by) (sym step.numbered)
            (subst (λ (o : Option plain.Copy). FitsAt o (Some step.rule) step.by)
            (sym (ap (λ (cs : List plain.Copy). slice_get cs (copy_number p step.rule.target)) copies
            ∙ copy-at_number p kept step.rule.target step.valid.target))
            (record {
              target = refl;
              lists = step.lists
                  ∙ sym (length-map (needed_facts p kept step.rule.target) (fact_term (arity_of p step.rule.target)));
            }))
