-- The first fault of a section of a program: lists of checks, stage by stage.
use Rattle.std.specs.Prelude.{◌≡◌, ◌⊎◌, ℕ, suc, ◌+◌, ◌≤◌, ◌++◌, ◌||◌, List, [], ◌∷◌, map, length, nat_eq, Option}
use Rattle.std.specs.Prelude.{Some, None, slice_get, if◌then◌else◌, Bool, false, ⊤, IsTrue}
use Rattle.std.specs.List.{AllByRecursion}
use Rattle.refined_programs.specs.model.Terms.{Term}
use Rattle.refined_programs.specs.model.Limits.{rule_limit, atom_limit}
use Rattle.refined_programs.specs.model.Programs.{Atom, Rule, Program, rule_at, arity_of}
use Rattle.refined_programs.specs.refinement.Sections.{Copy, passes, facts_in, facts_of}
use Rattle.refined_programs.specs.refinement.Obligations.{HasFirstCopy, guard_along, guard_with_failure}
use Rattle.refined_programs.specs.its_model.Valid.{IsValidAtom, cost_atoms}
use Rattle.refined_programs.specs.its_model.linear_forms.Forms.{Form}
use Rattle.refined_programs.specs.Annotated as annotated
use Rattle.refined_programs.specs.Annotated.{Cases, To, Never, If, Branch, Section, copy_of, section_of}
use Rattle.refined_programs.specs.Ends.{Goal, AtCopy, Nowhere, End, ends}
use Rattle.refinement_rows.specs.linear_forms.Certificates.{Implies, minus_one}
use Rattle.refinement_rows.specs.guard_prep.Prepared.{rows_of}
use Rattle.refinement_rows.specs.Certified.{with_guard}
use Rattle.farkas_cert.specs.Sizes.{AreWithinLimit}
use Rattle.cert_rules.specs.Reasons.{CheckOf, check, AllPass, IsFirstAmong}

-- the possible faults: the first copy; the facts of a copy; a branch; the tests of a branch; the number of rules; the
-- shape of an end, or the number or size of its multipliers; the size of a rule; the multipliers of an end at nowhere;
-- and those for a fact of an end's copy. Copies, branches, ends and facts are numbered from 1
pub data Fault : Type 0 where
  WrongStart : Fault
  WrongFacts : ℕ → Fault
  WrongBranch : ℕ → Fault
  WrongTest : ℕ → Fault
  WrongShape : ℕ → Fault
  WrongRules : Fault
  OverLimit : ℕ → Fault
  NotNever : ℕ → Fault
  NotFact : ℕ → ℕ → Fault

-- all checks of all stages pass
abbrev pub AllStagesPass : List (List (CheckOf Fault)) → Type 0
AllStagesPass [] = ⊤
AllStagesPass (checks ∷ stages) = AllPass checks × AllStagesPass stages

-- the fault of the first check that fails
abbrev pub IsFirstInStages : List (List (CheckOf Fault)) → Fault → Type 0
IsFirstInStages [] fault = ⊥
IsFirstInStages (checks ∷ stages) fault =
    IsFirstAmong checks fault ⊎ (AllPass checks × IsFirstInStages stages fault)

-- a check for each element of a list, the first of which has number k
abbrev pub numbered : {A : Type 0} → (ℕ → A → CheckOf Fault) → ℕ → List A → List (CheckOf Fault)
numbered f k [] = []
numbered f k (x ∷ xs) = f k x ∷ numbered f (suc k) xs

-- a form has n coefficients
abbrev pub IsWide : ℕ → Form → Type 0
IsWide n f = length f.coefs ≡ n

-- each fact of a copy has a coefficient for each place of the symbol below
abbrev pub fact_check : Program → ℕ → annotated.Copy → CheckOf Fault
fact_check p k c = check (WrongFacts k) (AllByRecursion (IsWide (arity_of p c.over)) c.facts)

abbrev pub fact_checks : Program → ℕ → List annotated.Copy → List (CheckOf Fault)
fact_checks p k copies = numbered (fact_check p) k copies

-- a branch that is required: of a rule at a copy
pub record Due : Type 0 where
  pub source : ℕ
  pub rule : ℕ

-- the branches that are required at a copy of a symbol: of the rules that leave it, where the first of these rules has
-- number t
abbrev pub due_at : ℕ → ℕ → ℕ → List Rule → List Due
due_at k symbol t [] = []
due_at k symbol t (r ∷ rules) =
    (if nat_eq r.source symbol then record { source = k; rule = t } ∷ [] else []) ++ due_at k symbol (suc t) rules

-- the branches that are required at copies, the first of which has number k, in order
abbrev pub due : Program → ℕ → List annotated.Copy → List Due
due p k [] = []
due p k (c ∷ copies) = due_at k c.over 1 p.rules ++ due p (suc k) copies

-- the checks that each branch is the required one, and that none is missing at the end
abbrev pub branch_checks : ℕ → List Branch → List Due → List (CheckOf Fault)
branch_checks k [] [] = []
branch_checks k [] (d ∷ ds) = check (WrongBranch k) ⊥ ∷ []
branch_checks k (b ∷ branches) [] = check (WrongBranch k) ⊥ ∷ []
branch_checks k (b ∷ branches) (d ∷ ds) =
    check (WrongBranch k) ((b.source ≡ d.source) × (b.rule ≡ d.rule)) ∷ branch_checks (suc k) branches ds

-- each test among cases has n coefficients
abbrev pub AreTestsWide : ℕ → Cases → Type 0
AreTestsWide n (To copy by) = ⊤
AreTestsWide n (Never by) = ⊤
AreTestsWide n (If test yes_cases no_cases) = IsWide n test × AreTestsWide n yes_cases × AreTestsWide n no_cases

-- the number of a rule's variables, 0 if there is no rule
abbrev pub variables_in : Option Rule → ℕ
variables_in None = 0
variables_in (Some r) = r.left + r.free

-- the check that each test of a branch has a coefficient for each variable of its rule
abbrev pub test_check : Program → ℕ → Branch → CheckOf Fault
test_check p k b = check (WrongTest k) (AreTestsWide (variables_in (rule_at p b.rule)) b.cases)

abbrev pub test_checks : Program → ℕ → List Branch → List (CheckOf Fault)
test_checks p k branches = numbered (test_check p) k branches

-- an end of a branch: the number of the copy that it leaves, its rule if there is one, and the end of the path
pub record BranchEnd : Type 0 where
  pub source : ℕ
  pub rule : Option Rule
  pub end : End

-- the ends of a branch, in order
abbrev pub ends_of_branch : Program → Section → Branch → List BranchEnd
ends_of_branch p s b =
    map (λ e. record { source = b.source; rule = rule_at p b.rule; end = e })
    (ends (map passes (facts_of (section_of s) b.source)) b.cases)

-- the ends of all branches, in order
abbrev pub ends_of : Program → Section → List Branch → List BranchEnd
ends_of p s [] = []
ends_of p s (b ∷ branches) = ends_of_branch p s b ++ ends_of p s branches

-- the copy is one of the rule's target, and there are as many lists of multipliers as facts
pub record FitsCopy (copy : Copy) (r : Rule) (by : List (List ℕ)) : Type 0 where
  pub target : copy.over ≡ r.target
  pub lists : length by ≡ length copy.facts

-- the copy and the rule exist, and fit each other
abbrev pub FitsAt : Option Copy → Option Rule → List (List ℕ) → Type 0
FitsAt (Some copy) (Some r) by = FitsCopy copy r by
FitsAt (Some copy) None by = ⊥
FitsAt None (Some r) by = ⊥
FitsAt None None by = ⊥

-- an end is at a copy of the rule's target, or nowhere
abbrev pub GoalFits : List Copy → Option Rule → Goal → Type 0
GoalFits copies r (Nowhere by) = ⊤
GoalFits copies r (AtCopy k by) = FitsAt (slice_get copies k) r by

-- the check that an end has its shape
abbrev pub shape_check : List Copy → ℕ → BranchEnd → CheckOf Fault
shape_check copies n e = check (WrongShape n) (GoalFits copies e.rule e.end.goal)

abbrev pub shape_checks : List Copy → ℕ → List BranchEnd → List (CheckOf Fault)
shape_checks copies n es = numbered (shape_check copies) n es

-- 1 if the end is at a copy, and so a rule of the spelled program, else 0
abbrev pub rules_at : Goal → ℕ
rules_at (AtCopy k by) = 1
rules_at (Nowhere by) = 0

-- whether the end is at a copy, and the path leaves the first copy
abbrev pub leaves_by : ℕ → Goal → Bool
leaves_by source (AtCopy k by) = nat_eq source 0
leaves_by source (Nowhere by) = false

-- the number of ends at copies
abbrev pub rules_among : List BranchEnd → ℕ
rules_among [] = 0
rules_among (e ∷ es) = rules_at e.end.goal + rules_among es

-- whether an end at a copy leaves the first copy
abbrev pub leaves_start : List BranchEnd → Bool
leaves_start [] = false
leaves_start (e ∷ es) = leaves_by e.source e.end.goal || leaves_start es

-- the checks that there are few enough rules, and that one leaves the start
abbrev pub rules_checks : List BranchEnd → List (CheckOf Fault)
rules_checks es = check WrongRules ((rules_among es ≤ rule_limit) × IsTrue (leaves_start es)) ∷ []

-- a guard that has to be unsatisfiable, as a rule that has it, with multipliers that have to show so, and the fault if
-- they don't
pub record Obligation : Type 0 where
  pub rule : Rule
  pub by : List ℕ
  pub fault : Fault

-- the obligations of the facts of an end's copy, where the first fact has number j
abbrev pub fact_obligations : ℕ → ℕ → Rule → List Atom → List Term → List (List ℕ) → List Obligation
fact_obligations n j r atoms [] by = []
fact_obligations n j r atoms (f ∷ facts) [] = []
fact_obligations n j r atoms (f ∷ facts) (ms ∷ by) =
    record { rule = with_guard r (guard_with_failure r atoms f); by = ms; fault = NotFact n j }
    ∷ fact_obligations n (suc j) r atoms facts by

-- the obligations of end n: that the guard along the path is unsatisfiable, or that it is together with a fact of the
-- copy failing after the rule
abbrev pub obligations_at : List Copy → ℕ → Rule → List Atom → Goal → List Obligation
obligations_at copies n r atoms (Nowhere by) =
    record { rule = with_guard r (guard_along r atoms); by = by; fault = NotNever n } ∷ []
obligations_at copies n r atoms (AtCopy k by) = fact_obligations n 1 r atoms (facts_in (slice_get copies k)) by

-- the obligations of an end, if there is the rule
abbrev pub obligations_of : List Copy → ℕ → Option Rule → End → List Obligation
obligations_of copies n None e = []
obligations_of copies n (Some r) e = obligations_at copies n r e.atoms e.goal

-- the guard of a rule is within the limits: at most 64 atoms, its cost counted as one, over the rule's variables, each
-- of which can be expanded
pub record IsWithinLimits (r : Rule) : Type 0 where
  pub few_atoms : length r.guard + cost_atoms r.cost ≤ atom_limit
  pub guard : AllByRecursion (IsValidAtom (r.left + r.free)) r.guard

-- the rule of an end is within the limits, if there is one
abbrev pub IsEndWithin : Option Rule → End → Type 0
IsEndWithin None e = ⊤
IsEndWithin (Some r) e = IsWithinLimits (with_guard r (guard_along r e.atoms))

-- the check that the rule of an end and those of its obligations are within the limits
abbrev pub limit_check : List Copy → ℕ → BranchEnd → CheckOf Fault
limit_check copies n e =
    check (OverLimit n) (IsEndWithin e.rule e.end
    × AllByRecursion (λ o. IsWithinLimits o.rule) (obligations_of copies n e.rule e.end))

abbrev pub limit_checks : List Copy → ℕ → List BranchEnd → List (CheckOf Fault)
limit_checks copies n es = numbered (limit_check copies) n es

-- there is a multiplier for each row, and none is too large
pub record FitsRows (o : Obligation) : Type 0 where
  pub long : length o.by ≡ length (rows_of o.rule)
  pub small : AreWithinLimit o.by

-- the checks that the multipliers of the obligations of end n fit, and show that -1 follows from the rows
abbrev pub obligation_checks : ℕ → List Obligation → List (CheckOf Fault)
obligation_checks n [] = []
obligation_checks n (o ∷ os) =
    check (WrongShape n) (FitsRows o) ∷ check o.fault (Implies (rows_of o.rule) o.by minus_one)
    ∷ obligation_checks n os

-- the checks of the obligations of each end, stage by stage
abbrev pub certificate_stages : List Copy → ℕ → List BranchEnd → List (List (CheckOf Fault))
certificate_stages copies n [] = []
certificate_stages copies n (e ∷ es) =
    obligation_checks n (obligations_of copies n e.rule e.end) ∷ certificate_stages copies (suc n) es

-- all stages: start, facts, branches, tests, the shape of ends, rules, limits, and certificates
abbrev pub stages : Program → Section → List (List (CheckOf Fault))
stages p s =
    (check WrongStart (HasFirstCopy p (section_of s)) ∷ [])
    ∷ fact_checks p 1 s.copies
    ∷ branch_checks 1 s.branches (due p 0 s.copies)
    ∷ test_checks p 1 s.branches
    ∷ shape_checks (map copy_of s.copies) 1 (ends_of p s s.branches)
    ∷ rules_checks (ends_of p s s.branches)
    ∷ limit_checks (map copy_of s.copies) 1 (ends_of p s s.branches)
    ∷ certificate_stages (map copy_of s.copies) 1 (ends_of p s s.branches)

-- a section is accepted over a program: all checks pass
abbrev pub IsAccepted : Program → Section → Type 0
IsAccepted p s = AllStagesPass (stages p s)

-- this fault is the first one of the section
abbrev pub IsFirstFault : Program → Section → Fault → Type 0
IsFirstFault p s fault = IsFirstInStages (stages p s) fault
