-- The branches that are required: one for each copy and each rule that leaves the symbol below it.
use Rattle.std.proofs.Common.{◌≡◌, ◌⊎◌, inl, inr, ℕ, zero, suc, ◌+◌, true, false, List, [], ◌∷◌}
use Rattle.std.proofs.Common.{Some, refl, sym, ◌∙◌, ap, subst, arith}
use Rattle.std.specs.Prelude.{slice_get, nat_eq, if◌then◌else◌}
use Rattle.std.specs.List.{Contains}
use Rattle.std.proofs.lemmas.Bool.Decides.{eqb_tells}
use Rattle.std.proofs.lemmas.List.Elements.{Contains-append_left, Contains-append_right, Contains-append_cases}
use Rattle.refined_programs.specs.model.Programs.{Rule, Program, rule_at}
use Rattle.refined_programs.proofs.refinement.model.Cases.{none_some, some_same}
use Rattle.refined_programs.specs.Annotated as annotated
use Rattle.refined_programs.specs.Annotated.{Branch}
use Rattle.cert_rules.specs.Reasons.{AllPass}
use Rattle.section_checks.specs.Faults.{Due, due_at, due, branch_checks}

-- the branches that one rule requires at a copy of a symbol
abbrev pub due_of : ℕ → ℕ → ℕ → Rule → List Due
due_of k symbol t r = if nat_eq r.source symbol then record { source = k; rule = t } ∷ [] else []

-- a rule that leaves the symbol requires one branch
leaves-due : (k symbol t : ℕ) (r : Rule) → r.source ≡ symbol
    → Contains (due_of k symbol t r) (record { source = k; rule = t })
leaves-due k symbol t r e = go (eqb_tells r.source symbol)
  where
    go : (nat_eq r.source symbol ≡ true) × (r.source ≡ symbol) ⊎ (nat_eq r.source symbol ≡ false) × (r.source ≡ symbol → ⊥)
        → Contains (due_of k symbol t r) (record { source = k; rule = t })
    go (inl (test, same)) = rw test (0, omega arith, refl)
    go (inr (test, other)) = absurd (other e)

-- a rule that requires a branch leaves the symbol
due-leaves : (k symbol t : ℕ) (r : Rule) (d : Due) → Contains (due_of k symbol t r) d
    → (d.source ≡ k) × (d.rule ≡ t) × (r.source ≡ symbol)
due-leaves k symbol t r d h = go (eqb_tells r.source symbol)
  where
    one : Contains (record { source = k; rule = t } ∷ []) d → (d.source ≡ k) × (d.rule ≡ t)
    one (zero, low, at) = (ap (λ (x : Due). x.source) (sym at), ap (λ (x : Due). x.rule) (sym at))
    one (suc i, low, at) = absurd (omega (arith, low))

    none : Contains {X = Due} [] d → ⊥
    none (i, low, at) = omega (arith, low)

    go : (nat_eq r.source symbol ≡ true) × (r.source ≡ symbol) ⊎ (nat_eq r.source symbol ≡ false) × (r.source ≡ symbol → ⊥)
        → (d.source ≡ k) × (d.rule ≡ t) × (r.source ≡ symbol)
    go (inl (test, same)) = let k' = one (rw test at h) in (k'.0, k'.1, same)
    go (inr (test, other)) = absurd (none (rw test at h))

-- each rule that leaves the symbol requires a branch at its copy
has-due_at : (k symbol t : ℕ) (rules : List Rule) (i : ℕ) (r : Rule) → slice_get rules i ≡ Some r → r.source ≡ symbol
    → Contains (due_at k symbol t rules) (record { source = k; rule = t + i })
has-due_at k symbol t [] i r e leaves = absurd (none_some r e)
has-due_at k symbol t (q ∷ rules) zero r e leaves =
    let same : q ≡ r = some_same q r e in
    subst (λ (n : ℕ). Contains (due_at k symbol t (q ∷ rules)) (record { source = k; rule = n })) (omega arith)
    (Contains-append_left (due_of k symbol t q) (due_at k symbol (suc t) rules) (record { source = k; rule = t })
    (leaves-due k symbol t q (ap (λ (x : Rule). x.source) same ∙ leaves)))
has-due_at k symbol t (q ∷ rules) (suc i) r e leaves =
    subst (λ (n : ℕ). Contains (due_at k symbol t (q ∷ rules)) (record { source = k; rule = n })) (omega arith)
    (Contains-append_right (due_of k symbol t q) (due_at k symbol (suc t) rules) (record { source = k; rule = suc t + i })
    (has-due_at k symbol (suc t) rules i r e leaves))

-- each rule requires a branch at each copy of its source
pub has-due : (p : Program) (k : ℕ) (copies : List annotated.Copy) (j : ℕ) (c : annotated.Copy) (i : ℕ) (r : Rule)
    → slice_get copies j ≡ Some c → slice_get p.rules i ≡ Some r → r.source ≡ c.over
    → Contains (due p k copies) (record { source = k + j; rule = suc i })
has-due p k [] j c i r e at leaves = absurd (none_some c e)
has-due p k (a ∷ copies) zero c i r e at leaves =
    let same : a ≡ c = some_same a c e in
    let number : 1 + i ≡ suc i = omega arith in
    subst (λ (n : ℕ). Contains (due p k (a ∷ copies)) (record { source = n; rule = suc i })) (omega arith)
    (Contains-append_left (due_at k a.over 1 p.rules) (due p (suc k) copies) (record { source = k; rule = suc i })
    (subst (λ (t : ℕ). Contains (due_at k a.over 1 p.rules) (record { source = k; rule = t })) number
    (has-due_at k a.over 1 p.rules i r at (leaves ∙ ap (λ (x : annotated.Copy). x.over) (sym same)))))
has-due p k (a ∷ copies) (suc j) c i r e at leaves =
    subst (λ (n : ℕ). Contains (due p k (a ∷ copies)) (record { source = n; rule = suc i })) (omega arith)
    (Contains-append_right (due_at k a.over 1 p.rules) (due p (suc k) copies) (record { source = suc k + j; rule = suc i })
    (has-due p (suc k) copies j c i r e at leaves))

-- a branch that is required at a copy is of a rule that leaves its symbol
pub record IsDueAt (k symbol t : ℕ) (rules : List Rule) (d : Due) : Type 0 where
  pub source : d.source ≡ k
  pub position : ℕ
  pub number : d.rule ≡ t + position
  pub rule : Rule
  pub there : slice_get rules position ≡ Some rule
  pub leaves : rule.source ≡ symbol

due_at-is : (k symbol t : ℕ) (rules : List Rule) (d : Due) → Contains (due_at k symbol t rules) d
    → IsDueAt k symbol t rules d
due_at-is k symbol t [] d (i, low, at) = absurd (omega (arith, low))
due_at-is k symbol t (q ∷ rules) d h =
    go (Contains-append_cases (due_of k symbol t q) (due_at k symbol (suc t) rules) d h)
    (due_at-is k symbol (suc t) rules d)
  where
    later : IsDueAt k symbol (suc t) rules d → IsDueAt k symbol t (q ∷ rules) d
    later f = record {
      source = f.source;
      position = suc f.position;
      number = omega (arith, f.number);
      rule = f.rule;
      there = f.there;
      leaves = f.leaves;
    }

    go : Contains (due_of k symbol t q) d ⊎ Contains (due_at k symbol (suc t) rules) d
        → (Contains (due_at k symbol (suc t) rules) d → IsDueAt k symbol (suc t) rules d)
        → IsDueAt k symbol t (q ∷ rules) d
    go (inl one) rest =
        let found = due-leaves k symbol t q d one in
        record { source = found.0; position = 0; number = omega (arith, found.1); rule = q; there = refl; leaves = found.2 }
    go (inr other) rest = later (rest other)

-- a required branch is at a copy, of a rule that leaves the symbol below it
pub record IsDue (p : Program) (k : ℕ) (copies : List annotated.Copy) (d : Due) : Type 0 where
  pub position : ℕ
  pub source : d.source ≡ k + position
  pub copy : annotated.Copy
  pub there : slice_get copies position ≡ Some copy
  pub rule : Rule
  pub numbered : rule_at p d.rule ≡ Some rule
  pub leaves : rule.source ≡ copy.over

pub due-is : (p : Program) (k : ℕ) (copies : List annotated.Copy) (d : Due) → Contains (due p k copies) d
    → IsDue p k copies d
due-is p k [] d (i, low, at) = absurd (omega (arith, low))
due-is p k (a ∷ copies) d h =
    go (Contains-append_cases (due_at k a.over 1 p.rules) (due p (suc k) copies) d h) (due-is p (suc k) copies d)
  where
    later : IsDue p (suc k) copies d → IsDue p k (a ∷ copies) d
    later f = record {
      position = suc f.position;
      source = omega (arith, f.source);
      copy = f.copy;
      there = f.there;
      rule = f.rule;
      numbered = f.numbered;
      leaves = f.leaves;
    }

    first : IsDueAt k a.over 1 p.rules d → IsDue p k (a ∷ copies) d
    first f =
        let number : d.rule ≡ suc f.position = omega (arith, f.number) in
        record {
          position = 0;
          source = omega (arith, f.source);
          copy = a;
          there = refl;
          rule = f.rule;
          numbered = ap (rule_at p) number ∙ f.there;
          leaves = f.leaves;
        }

    go : Contains (due_at k a.over 1 p.rules) d ⊎ Contains (due p (suc k) copies) d
        → (Contains (due p (suc k) copies) d → IsDue p (suc k) copies d) → IsDue p k (a ∷ copies) d
    go (inl one) rest = first (due_at-is k a.over 1 p.rules d one)
    go (inr other) rest = later (rest other)

-- a branch of the list is the required one at its position
pub record IsBranchDue (branches : List Branch) (dues : List Due) (b : Branch) (d : Due) : Type 0 where
  pub branch : Contains branches b
  pub listed : Contains dues d
  pub source : b.source ≡ d.source
  pub rule : b.rule ≡ d.rule

later-due : (a : Branch) (branches : List Branch) (e : Due) (dues : List Due) (b : Branch) (d : Due)
    → IsBranchDue branches dues b d → IsBranchDue (a ∷ branches) (e ∷ dues) b d
later-due a branches e dues b d h = record {
  branch = (suc h.branch.0, omega (arith, h.branch.1), h.branch.2);
  listed = (suc h.listed.0, omega (arith, h.listed.1), h.listed.2);
  source = h.source;
  rule = h.rule;
}

-- if the checks of branches pass, each branch is a required one
pub branch-due : (k : ℕ) (branches : List Branch) (dues : List Due) → AllPass (branch_checks k branches dues) → (b : Branch)
    → Contains branches b → (d : Due) × IsBranchDue branches dues b d
branch-due k [] dues pass b (i, low, at) = absurd (omega (arith, low))
branch-due k (a ∷ branches) [] pass b member = absurd pass.0
branch-due k (a ∷ branches) (e ∷ dues) pass b (zero, low, at) = (
  e,
  record {
    branch = (0, omega arith, at);
    listed = (0, omega arith, refl);
    source = ap (λ (x : Branch). x.source) (sym at) ∙ (pass.0).0;
    rule = ap (λ (x : Branch). x.rule) (sym at) ∙ (pass.0).1;
  },
)
branch-due k (a ∷ branches) (e ∷ dues) pass b (suc i, low, at) =
    later (branch-due (suc k) branches dues pass.1 b (i, omega (arith, low), at))
  where
    later : ((d : Due) × IsBranchDue branches dues b d) → (d : Due) × IsBranchDue (a ∷ branches) (e ∷ dues) b d
    later (d, h) = (d, later-due a branches e dues b d h)

-- if the checks of branches pass, each required branch is there
pub due-branch : (k : ℕ) (branches : List Branch) (dues : List Due) → AllPass (branch_checks k branches dues) → (d : Due)
    → Contains dues d → (b : Branch) × IsBranchDue branches dues b d
due-branch k branches [] pass d (i, low, at) = absurd (omega (arith, low))
due-branch k [] (e ∷ dues) pass d member = absurd pass.0
due-branch k (a ∷ branches) (e ∷ dues) pass d (zero, low, at) = (
  a,
  record {
    branch = (0, omega arith, refl);
    listed = (0, omega arith, at);
    source = (pass.0).0 ∙ ap (λ (x : Due). x.source) at;
    rule = (pass.0).1 ∙ ap (λ (x : Due). x.rule) at;
  },
)
due-branch k (a ∷ branches) (e ∷ dues) pass d (suc i, low, at) =
    later (due-branch (suc k) branches dues pass.1 d (i, omega (arith, low), at))
  where
    later : ((b : Branch) × IsBranchDue branches dues b d) → (b : Branch) × IsBranchDue (a ∷ branches) (e ∷ dues) b d
    later (b, h) = (b, later-due a branches e dues b d h)
