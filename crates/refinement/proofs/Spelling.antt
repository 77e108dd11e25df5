-- The rules of a spelled program: from each path a rule, and each rule from a path.
use Rattle.std.proofs.Common.{◌≡◌, ◌⊎◌, inl, inr, ℕ, zero, suc, List, [], ◌∷◌, map, Option, Some, None}
use Rattle.std.proofs.Common.{refl, sym, ◌∙◌, ap, subst, arith}
use Rattle.std.specs.Prelude.{slice_get, option_map}
use Rattle.std.specs.List.{Contains}
use Rattle.std.proofs.lemmas.List.Elements.{Contains-append_left, Contains-append_right, Contains-append_cases}
use Rattle.std.proofs.lemmas.Option.{slice_get-map}
use Rattle.model.specs.Programs.{Rule, Program, rule_at}
use Rattle.model.proofs.Cases.{none_some, some_same}
use Rattle.refinement.specs.Sections.{Branch, Section, Path, RuleCopy, paths, passes, facts_of, rule_along}
use Rattle.refinement.specs.Sections.{copies_along, copies_by, rule_copies, rule_below, rule_number_below, spelled}
use Rattle.refinement.proofs.Members.{contains-get, get-contains, contains-map, map-contains}

-- the paths of a branch
abbrev pub paths_of : Section → Branch → List Path
paths_of section b = paths (map passes (facts_of section b.source)) b.cases

-- the copy of a rule along a path of a branch
abbrev pub copy_along : Branch → Rule → Path → RuleCopy
copy_along b r path = record { of_rule = b.rule; rule = rule_along b.source r path }

-- the origin of a rule of the spelled program: a path of a branch whose rule is below it
pub record Origin (p : Program) (section : Section) (t : ℕ) (copy : Rule) : Type 0 where
  pub branch : Branch
  pub member : Contains section.branches branch
  pub below : Rule
  pub numbered : rule_at p branch.rule ≡ Some below
  pub path : Path
  pub along : Contains (paths_of section branch) path
  pub number : rule_number_below (rule_copies p section section.branches) t ≡ branch.rule
  pub same : rule_along branch.source below path ≡ copy

module _ (p : Program) (section : Section) where
  -- the copies of a branch are among all copies
  branch-in : (branches : List Branch) (b : Branch) (x : RuleCopy) → Contains branches b
      → Contains (copies_by p section b) x → Contains (rule_copies p section branches) x
  branch-in [] b x (k, low, at) h = absurd (omega (arith, low))
  branch-in (a ∷ branches) b x (zero, low, at) h =
      Contains-append_left (copies_by p section a) (rule_copies p section branches) x
      (subst (λ (y : Branch). Contains (copies_by p section y) x) (sym at) h)
  branch-in (a ∷ branches) b x (suc k, low, at) h =
      Contains-append_right (copies_by p section a) (rule_copies p section branches) x
      (branch-in branches b x (k, omega (arith, low), at) h)

  -- each copy of a rule is one of a branch
  branch-of : (branches : List Branch) (x : RuleCopy) → Contains (rule_copies p section branches) x
      → (b : Branch) × Contains branches b × Contains (copies_by p section b) x
  branch-of [] x (k, low, at) = absurd (omega (arith, low))
  branch-of (a ∷ branches) x h =
      go (Contains-append_cases (copies_by p section a) (rule_copies p section branches) x h) (branch-of branches x)
    where
      later : ((b : Branch) × Contains branches b × Contains (copies_by p section b) x)
          → (b : Branch) × Contains (a ∷ branches) b × Contains (copies_by p section b) x
      later (b, (k, low, at), one) = (b, (suc k, omega (arith, low), at), one)

      go : Contains (copies_by p section a) x ⊎ Contains (rule_copies p section branches) x
          → (Contains (rule_copies p section branches) x
          → (b : Branch) × Contains branches b × Contains (copies_by p section b) x)
          → (b : Branch) × Contains (a ∷ branches) b × Contains (copies_by p section b) x
      go (inl one) rest = (a, (zero, omega arith, refl), one)
      go (inr other) rest = later (rest other)

  -- a copy of a branch's rule is one along a path
  path-of : (b : Branch) (o : Option Rule) (ends : List Path) (x : RuleCopy) → Contains (copies_along b o ends) x
      → (r : Rule) × (o ≡ Some r) × ((path : Path) × Contains ends path × (copy_along b r path ≡ x))
  path-of b None ends x (k, low, at) = absurd (omega (arith, low))
  path-of b (Some r) ends x h = (r, refl, contains-map (copy_along b r) ends x h)

  -- an existing rule of the spelled program is one of the copies
  rule-copy : (copies : List RuleCopy) (t : ℕ) (copy : Rule) → slice_get (map (λ c. c.rule) copies) t ≡ Some copy
      → (x : RuleCopy) × (slice_get copies t ≡ Some x) × (x.rule ≡ copy)
  rule-copy copies t copy h =
      go (slice_get copies t) refl (sym (slice_get-map (λ (c : RuleCopy). c.rule) copies t) ∙ h)
    where
      go : (o : Option RuleCopy) → slice_get copies t ≡ o → option_map (λ c. c.rule) o ≡ Some copy
          → (x : RuleCopy) × (slice_get copies t ≡ Some x) × (x.rule ≡ copy)
      go None e f = absurd (none_some copy f)
      go (Some x) e f = (x, e, some_same x.rule copy f)

  -- each rule of the spelled program comes from a path of a branch
  pub origin : (t : ℕ) (copy : Rule) → rule_at (spelled p section) t ≡ Some copy → Origin p section t copy
  origin zero copy h = absurd (none_some copy h)
  origin (suc t) copy h =
      let copies : List RuleCopy = rule_copies p section section.branches in
      let found = rule-copy copies t copy h in
      let from = branch-of section.branches found.0 (contains-get copies t found.0 found.1) in
      let along = path-of from.0 (rule_at p (from.0).rule) (paths_of section from.0) found.0 from.2 in
      record {
        branch = from.0;
        member = from.1;
        below = along.0;
        numbered = along.1;
        path = (along.2).0;
        along = (along.2).1;
        number = ap rule_below found.1 ∙ ap (λ (x : RuleCopy). x.of_rule) (sym (along.2).2);
        same = ap (λ (x : RuleCopy). x.rule) (along.2).2 ∙ found.2;
      }

  -- each path of a branch whose rule exists gives a rule of the spelled program
  pub number_along : (b : Branch) (r : Rule) (path : Path) → Contains section.branches b → rule_at p b.rule ≡ Some r
      → Contains (paths_of section b) path
      → (t : ℕ) × (rule_at (spelled p section) t ≡ Some (rule_along b.source r path))
      × (rule_number_below (rule_copies p section section.branches) t ≡ b.rule)
  number_along b r path member numbered along =
      let copies : List RuleCopy = rule_copies p section section.branches in
      let x : RuleCopy = copy_along b r path in
      let one : Contains (copies_by p section b) x =
      subst (λ (o : Option Rule). Contains (copies_along b o (paths_of section b)) x) (sym numbered)
      (map-contains (copy_along b r) (paths_of section b) path along) in
      let found = get-contains copies x (branch-in section.branches b x member one) in (
        suc found.0,
        slice_get-map (λ (c : RuleCopy). c.rule) copies found.0 ∙ ap (λ (o : Option RuleCopy). option_map (λ c. c.rule) o) found.1,
        ap rule_below found.1,
      )
