-- The rules that a section spells are those of the ends at copies: their number, and properties of each.
use Rattle.std.proofs.Common.{◌≡◌, ◌⊎◌, inl, inr, ℕ, zero, suc, ◌+◌, ◌≤◌, ◌||◌, Bool, true, false, List, [], ◌∷◌, ◌++◌}
use Rattle.std.proofs.Common.{length, map, Option, Some, None, refl, sym, ◌∙◌, ap, subst, arith, length-append}
use Rattle.std.specs.Prelude.{nat_eq, slice_get}
use Rattle.std.specs.List.{AllByRecursion, Contains, list_any}
use Rattle.std.proofs.lemmas.List.{map-append}
use Rattle.std.proofs.lemmas.Bool.Decides.{eqb_tells}
use Rattle.refined_programs.specs.model.Programs.{Atom, Rule, Program, rule_at}
use Rattle.refined_programs.specs.refinement.Sections as plain
use Rattle.refined_programs.specs.refinement.Sections.{Path, RuleCopy, passes, facts_of, paths, rule_along}
use Rattle.refined_programs.specs.refinement.Sections.{copies_along, copies_by, rule_copies}
use Rattle.refined_programs.specs.Annotated.{Branch, Section, cases_of, branch_of, section_of}
use Rattle.refined_programs.specs.Ends.{Goal, AtCopy, Nowhere, End, path_of, paths_of, ends}
use Rattle.refined_programs.proofs.EndLaws.{paths-ends, rules-along}
use Rattle.section_checks.specs.Faults.{BranchEnd, ends_of_branch, ends_of, rules_at, leaves_by, rules_among, leaves_start}

-- if some element of one of two lists passes a test, some element of both joined does
any-left : {X : Type 0} (test : X → Bool) (xs ys : List X) → list_any test xs ≡ true → list_any test (xs ++ ys) ≡ true
any-left test [] ys h = absurd (false_true h)
  where
    false_true : false ≡ true → ⊥
    false_true e = cc
any-left test (x ∷ xs) ys h = go (test x) refl h (any-left test xs ys)
  where
    go : (v : Bool) → test x ≡ v → (v || list_any test xs) ≡ true → (list_any test xs ≡ true → list_any test (xs ++ ys) ≡ true)
        → (test x || list_any test (xs ++ ys)) ≡ true
    go true e k later = ap (λ (v : Bool). v || list_any test (xs ++ ys)) e
    go false e k later = ap (λ (v : Bool). v || list_any test (xs ++ ys)) e ∙ later k

any-right : {X : Type 0} (test : X → Bool) (xs ys : List X) → list_any test ys ≡ true → list_any test (xs ++ ys) ≡ true
any-right test [] ys h = h
any-right test (x ∷ xs) ys h = go (test x) refl (any-right test xs ys h)
  where
    go : (v : Bool) → test x ≡ v → list_any test (xs ++ ys) ≡ true → (test x || list_any test (xs ++ ys)) ≡ true
    go true e later = ap (λ (v : Bool). v || list_any test (xs ++ ys)) e
    go false e later = ap (λ (v : Bool). v || list_any test (xs ++ ys)) e ∙ later

-- if all elements of each of two lists have a property, so have those of both joined
both-all : {X : Type 0} (P : X → Type 0) (xs ys : List X) → AllByRecursion P xs → AllByRecursion P ys
    → AllByRecursion P (xs ++ ys)
both-all P [] ys h k = k
both-all P (x ∷ xs) ys h k = (h.0, both-all P xs ys h.1 k)

-- the number of ends at copies in two lists joined is the sum, and an end leaves the start if one of either list does
among-append : (xs ys : List BranchEnd) → rules_among (xs ++ ys) ≡ rules_among xs + rules_among ys
among-append [] ys = omega arith
among-append (e ∷ xs) ys = omega (arith, among-append xs ys)

start-append : (xs ys : List BranchEnd) → leaves_start (xs ++ ys) ≡ true
    → (leaves_start xs ≡ true) ⊎ (leaves_start ys ≡ true)
start-append [] ys h = inr h
start-append (e ∷ xs) ys h = go (leaves_by e.source e.end.goal) refl h (start-append xs ys)
  where
    go : (v : Bool) → leaves_by e.source e.end.goal ≡ v → (v || leaves_start (xs ++ ys)) ≡ true
        → (leaves_start (xs ++ ys) ≡ true → (leaves_start xs ≡ true) ⊎ (leaves_start ys ≡ true))
        → (leaves_start (e ∷ xs) ≡ true) ⊎ (leaves_start ys ≡ true)
    go true f k later = inl (ap (λ (v : Bool). v || leaves_start xs) f)
    go false f k later = lift (later k)
      where
        lift : (leaves_start xs ≡ true) ⊎ (leaves_start ys ≡ true) → (leaves_start (e ∷ xs) ≡ true) ⊎ (leaves_start ys ≡ true)
        lift (inl first) = inl (ap (λ (v : Bool). v || leaves_start xs) f ∙ first)
        lift (inr second) = inr second

-- the rules of a section's branches
abbrev pub rules_by : Program → Section → List Branch → List Rule
rules_by p s branches = map (λ c. c.rule) (rule_copies p (section_of s) (map branch_of branches))

-- laws for the rules of one branch: those along the paths of its ends
module _ (p : Program) (s : Section) (b : Branch) where
  abbrev pub own_ends : List End
  own_ends = ends (map passes (facts_of (section_of s) b.source)) b.cases

  abbrev pub own_rules : List Rule
  own_rules = map (λ c. c.rule) (copies_by p (section_of s) (branch_of b))

  -- a branch without a rule has no rules
  pub no-rules : rule_at p b.rule ≡ None → own_rules ≡ []
  no-rules e =
      ap (λ (o : Option Rule). map (λ c. c.rule) (copies_along (branch_of b) o
      (paths (map passes (facts_of (section_of s) b.source)) (cases_of b.cases)))) e

  pub some-rules : (r : Rule) → rule_at p b.rule ≡ Some r → own_rules ≡ map (rule_along b.source r) (paths_of own_ends)
  some-rules r e =
      let ways : List Path = paths (map passes (facts_of (section_of s) b.source)) (cases_of b.cases) in
      ap (λ (o : Option Rule). map (λ c. c.rule) (copies_along (branch_of b) o ways)) e
      ∙ (rules-along (branch_of b) r ways
      ∙ ap (λ (ps : List Path). map (rule_along b.source r) ps)
      (sym (paths-ends (map passes (facts_of (section_of s) b.source)) b.cases)))

-- there are as many rules along paths as ends at copies
paths-count : (source : ℕ) (o : Option Rule) (r : Rule) (es : List End)
    → length (map (rule_along source r) (paths_of es))
    ≡ rules_among (map (λ e. record { source = source; rule = o; end = e }) es)
paths-count source o r [] = refl
paths-count source o r (e ∷ es) = go e.goal (paths-count source o r es)
  where
    go : (g : Goal) → length (map (rule_along source r) (paths_of es))
        ≡ rules_among (map (λ x. record { source = source; rule = o; end = x }) es)
        → length (map (rule_along source r) (path_of e.atoms g ++ paths_of es))
        ≡ rules_at g + rules_among (map (λ x. record { source = source; rule = o; end = x }) es)
    go (AtCopy k by) h = omega (arith, h)
    go (Nowhere by) h = omega (arith, h)

branch-count : (p : Program) (s : Section) (b : Branch) → length (own_rules p s b) ≤ rules_among (ends_of_branch p s b)
branch-count p s b = go (rule_at p b.rule) refl
  where
    go : (o : Option Rule) → rule_at p b.rule ≡ o → length (own_rules p s b) ≤ rules_among (ends_of_branch p s b)
    go None e = omega (arith, ap (length {A = Rule}) (no-rules p s b e))
    go (Some r) e =
        omega (arith, ap (length {A = Rule}) (some-rules p s b r e), paths-count b.source (rule_at p b.rule) r (own_ends p s b))

-- a section spells at most as many rules as there are ends at copies
pub rules-count : (p : Program) (s : Section) (branches : List Branch)
    → length (rules_by p s branches) ≤ rules_among (ends_of p s branches)
rules-count p s [] = omega arith
rules-count p s (b ∷ branches) =
    let split = map-append (λ (c : RuleCopy). c.rule) (copies_by p (section_of s) (branch_of b))
    (rule_copies p (section_of s) (map branch_of branches)) in
    omega (
      arith,
      ap (length {A = Rule}) split,
      length-append (own_rules p s b) (rules_by p s branches),
      branch-count p s b,
      rules-count p s branches,
      among-append (ends_of_branch p s b) (ends_of p s branches),
    )

-- some rule leaves the first symbol
abbrev pub any_start : List Rule → Bool
any_start rules = list_any (λ x. nat_eq 0 x.source) rules

or_right : (v w : Bool) → w ≡ true → (v || w) ≡ true
or_right true w h = refl
or_right false w h = h

-- laws for ends of one branch, and the rules along their paths
module _ (source : ℕ) (o : Option Rule) (r : Rule) where
  abbrev placed : List End → List BranchEnd
  placed es = map (λ e. record { source = source; rule = o; end = e }) es

  abbrev along : List End → List Rule
  along es = map (rule_along source r) (paths_of es)

  -- if an end at a copy leaves the first copy, a rule does
  paths-start : (es : List End) → leaves_start (placed es) ≡ true → any_start (along es) ≡ true
  paths-start [] h = absurd (false_true h)
    where
      false_true : false ≡ true → ⊥
      false_true e = cc
  paths-start (e ∷ es) h = go e.goal h (paths-start es)
    where
      go : (g : Goal) → (leaves_by source g || leaves_start (placed es)) ≡ true
          → (leaves_start (placed es) ≡ true → any_start (along es) ≡ true)
          → any_start (map (rule_along source r) (path_of e.atoms g ++ paths_of es)) ≡ true
      go (Nowhere by) k ih = ih k
      go (AtCopy t by) k ih = by_source (eqb_tells source 0)
        where
          by_source : (nat_eq source 0 ≡ true) × (source ≡ 0) ⊎ (nat_eq source 0 ≡ false) × (source ≡ 0 → ⊥)
              → (nat_eq 0 source || any_start (along es)) ≡ true
          by_source (inl (test, same)) = ap (λ (n : ℕ). nat_eq 0 n || any_start (along es)) same
          by_source (inr (test, other)) =
              or_right (nat_eq 0 source) (any_start (along es))
              (ih (subst (λ (v : Bool). (v || leaves_start (placed es)) ≡ true) test k))

  -- the rule of an end at a copy has the property
  abbrev pub HoldsOfGoal : (Rule → Type 0) → List Atom → Goal → Type 0
  HoldsOfGoal P atoms (AtCopy k by) = P (rule_along source r (record { atoms = atoms; copy = k }))
  HoldsOfGoal P atoms (Nowhere by) = Unit {0}

  -- if the rule of each end at a copy has a property, so has each rule along the paths
  pub paths-all : (P : Rule → Type 0) (es : List End) → AllByRecursion (λ e. HoldsOfGoal P e.atoms e.goal) es
      → AllByRecursion P (along es)
  paths-all P [] h = tt
  paths-all P (e ∷ es) h = go e.goal h.0 (paths-all P es h.1)
    where
      go : (g : Goal) → HoldsOfGoal P e.atoms g → AllByRecursion P (along es)
          → AllByRecursion P (map (rule_along source r) (path_of e.atoms g ++ paths_of es))
      go (AtCopy k by) first rest = (first, rest)
      go (Nowhere by) first rest = rest

-- each rule that a section spells is one of a branch
module _ (p : Program) (s : Section) where
  rules-split : (b : Branch) (branches : List Branch)
      → rules_by p s (b ∷ branches) ≡ own_rules p s b ++ rules_by p s branches
  rules-split b branches =
      map-append (λ (c : RuleCopy). c.rule) (copies_by p (section_of s) (branch_of b))
      (rule_copies p (section_of s) (map branch_of branches))

  pub rules-all : (P : Rule → Type 0) (branches : List Branch)
      → ((b : Branch) → Contains branches b → AllByRecursion P (own_rules p s b)) → AllByRecursion P (rules_by p s branches)
  rules-all P [] each = tt
  rules-all P (b ∷ branches) each =
      subst (λ (rs : List Rule). AllByRecursion P rs) (sym (rules-split b branches))
      (both-all P (own_rules p s b) (rules_by p s branches) (each b (0, omega arith, refl))
      (rules-all P branches (λ x h. each x (suc h.0, omega (arith, h.1), h.2))))

  -- if an end at a copy leaves the first copy, a spelled rule leaves the first symbol
  pub rules-start : (branches : List Branch) → ((b : Branch) → Contains branches b → (r : Rule) × (rule_at p b.rule ≡ Some r))
      → leaves_start (ends_of p s branches) ≡ true → any_start (rules_by p s branches) ≡ true
  rules-start [] each h = absurd (false_true h)
    where
      false_true : false ≡ true → ⊥
      false_true e = cc
  rules-start (b ∷ branches) each h =
      ap any_start (rules-split b branches)
      ∙ go (start-append (ends_of_branch p s b) (ends_of p s branches) h)
      (rules-start branches (λ x k. each x (suc k.0, omega (arith, k.1), k.2)))
    where
      found : (r : Rule) × (rule_at p b.rule ≡ Some r)
      found = each b (0, omega arith, refl)

      go : (leaves_start (ends_of_branch p s b) ≡ true) ⊎ (leaves_start (ends_of p s branches) ≡ true)
          → (leaves_start (ends_of p s branches) ≡ true → any_start (rules_by p s branches) ≡ true)
          → any_start (own_rules p s b ++ rules_by p s branches) ≡ true
      go (inl own) later =
          any-left (λ (x : Rule). nat_eq 0 x.source) (own_rules p s b) (rules_by p s branches)
          (ap any_start (some-rules p s b found.0 found.1)
          ∙ paths-start b.source (rule_at p b.rule) found.0 (own_ends p s b) own)
      go (inr other) later =
          any-right (λ (x : Rule). nat_eq 0 x.source) (own_rules p s b) (rules_by p s branches) (later other)
