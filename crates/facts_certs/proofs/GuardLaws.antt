-- The guards of the rules that the section of facts spells: each says what the rule's guard and the facts of its source
-- do.
use Rattle.std.proofs.Common.{◌≡◌, ◌↔◌, ℕ, Bool, true, false, List, [], ◌∷◌, ◌++◌, map, filter, length, Some}
use Rattle.std.proofs.Common.{suc, refl, sym, ◌∙◌, ap, subst, arith, if◌then◌else◌}
use Rattle.std.specs.Prelude.{ℤ, pos, ◌≤ℤ◌, nat_eq, not, slice_get, Option, ⊤}
use Rattle.std.specs.List.{All, Contains, list_any, range_with_len}
use Rattle.std.proofs.lemmas.Bool.{eqb-true}
use Rattle.std.proofs.lemmas.List.Elements.{All-nil, All-cons, All-head, All-tail, All-append, All-map, All-filter}
use Rattle.std.proofs.lemmas.List.Elements.{All-weaker}
use Rattle.std.proofs.lemmas.List.Elements.{All-contains, All-contains_itself}
use Rattle.refined_programs.specs.model.Programs.{Program, Rule, rule_at, arity_of, AtomHolds, GuardHolds}
use Rattle.refined_programs.specs.model.Terms.{Term, value}
use Rattle.refined_programs.specs.refinement.Obligations.{IsBranchShown, IsShown, NoneMeet}
use Rattle.refined_programs.specs.refinement.Sections.{AreAtLeastZero, Branch, Cases, To, Never, If, Copy, Section}
use Rattle.refined_programs.specs.refinement.Sections.{copies_along, copies_by, facts_in, facts_of, passes, paths}
use Rattle.refined_programs.specs.refinement.Sections.{rule_along, rule_copies}
use Rattle.refined_programs.proofs.refinement.Members.{All-first, All-second, contains-get, map-contains}
use Rattle.refined_programs.proofs.refinement.model.Cases.{some_same}
use Rattle.location_facts.specs.declared.fact.LocFact.{LocFact}
use Rattle.location_facts.specs.Candidates.{IsCandidate}
use Rattle.location_facts.specs.Laws.{AreHeld}
use Rattle.location_facts.specs.Rows.{facts_at}
use Rattle.location_facts.proofs.Strongest.{fact-of-symbol}
use Rattle.facts_section.specs.Copies.{IsMetBy, IsSectionOfFacts, branch_of_rule, branches_at, branches_of, copy_at}
use Rattle.facts_section.specs.Copies.{fact_copies, fact_term, is_other_copy}
use Rattle.facts_section.specs.Needed.{needed_among, needed_facts, is_weaker, strongest, strongest_among}
use Rattle.facts_section.proofs.FactValues.{fact-met}
use Rattle.facts_section.proofs.ImpliedFacts.{needed-keep_property, needed-suffice}
use Rattle.facts_section.proofs.StrongestFacts.{strongest-met, strongest-suffice}
use Rattle.facts_certs.specs.Refined.{GuardsHaveFacts, HasGuardOfFacts}

-- a property of the image of each element is one of each element of the image
All-unmap : {X Y : Type 0} (P : Y → Type 0) (f : X → Y) (xs : List X) → All P (map f xs) → All (λ x. P (f x)) xs
All-unmap P f xs h =
    All-weaker (Contains xs) (λ x. P (f x)) (λ x member. All-contains P (map f xs) (f x) h
    (map-contains f xs x member)) xs
    (All-contains_itself xs)

-- a guard with facts after it holds exactly where the guard holds and the facts are at least 0
guard-with : (guard : _) (facts : List Term) (env : List ℤ)
    → GuardHolds env (guard ++ map passes facts) ↔ (GuardHolds env guard × AreAtLeastZero facts env)
guard-with guard facts env = (
  λ h. (
    All-first (AtomHolds env) guard (map passes facts) h,
    All-unmap (AtomHolds env) passes facts (All-second (AtomHolds env) guard (map passes facts) h),
  ),
  λ h. All-append (AtomHolds env) guard (map passes facts) h.0 (All-map (AtomHolds env) passes facts h.1),
)

-- cases are a step to a copy, without a test
abbrev IsUntestedStep : Cases → Type 0
IsUntestedStep (To k) = ⊤
IsUntestedStep Never = ⊥
IsUntestedStep (If f yes_cases no_cases) = ⊥

-- the branches of facts lead to copies
branches-at-are-steps : (p : Program) (s t : ℕ) (rules : List Rule) → All (λ b. IsUntestedStep b.cases) (branches_at p s t rules)
branches-at-are-steps p s t [] = All-nil (λ b. IsUntestedStep b.cases)
branches-at-are-steps p s t (r ∷ rules) =
    All-append (λ b. IsUntestedStep b.cases) (if nat_eq r.source s then branch_of_rule p t r ∷ [] else [])
    (branches_at p s (suc t) rules) (one (nat_eq r.source s)) (branches-at-are-steps p s (suc t) rules)
  where
    one : (v : Bool) → All (λ b. IsUntestedStep b.cases) (if v then branch_of_rule p t r ∷ [] else [])
    one true = All-cons (λ b. IsUntestedStep b.cases) (branch_of_rule p t r) [] tt (All-nil (λ b. IsUntestedStep b.cases))
    one false = All-nil (λ b. IsUntestedStep b.cases)

branches-are-steps : (p : Program) (copies : List Copy) → All (λ b. IsUntestedStep b.cases) (branches_of p copies)
branches-are-steps p [] = All-nil (λ b. IsUntestedStep b.cases)
branches-are-steps p (c ∷ copies) =
    All-append (λ b. IsUntestedStep b.cases) (branches_at p c.over 1 p.rules) (branches_of p copies)
    (branches-at-are-steps p c.over 1 p.rules) (branches-are-steps p copies)

module _ (p : Program) (kept : List LocFact) (held : AreHeld p kept) where
  -- a copy has the facts of its symbol that are needed
  abbrev HasOwnFacts : Copy → Type 0
  HasOwnFacts c = c.facts ≡ map (fact_term (arity_of p c.over)) (needed_facts p kept c.over)

  own-facts : All HasOwnFacts (fact_copies p kept)
  own-facts =
      All-cons HasOwnFacts (copy_at p kept p.start)
      (filter (is_other_copy p) (map (copy_at p kept) (range_with_len 0 (length p.symbols)))) refl
      (All-filter (is_other_copy p) HasOwnFacts (map (copy_at p kept) (range_with_len 0 (length p.symbols)))
      (All-map HasOwnFacts (copy_at p kept) (range_with_len 0 (length p.symbols)) each))
    where
      each : All (λ s. HasOwnFacts (copy_at p kept s)) (range_with_len 0 (length p.symbols))
      each = All-weaker (Contains (range_with_len 0 (length p.symbols))) (λ s. HasOwnFacts (copy_at p kept s))
          (λ s member. refl) (range_with_len 0 (length p.symbols)) (All-contains_itself (range_with_len 0
          (length p.symbols)))

  -- a kept fact of a symbol as an expression is at least 0 exactly where it is met
  one-met : (s : ℕ) (env : List ℤ) (f : LocFact) → Contains (facts_at s kept) f
      → (pos 0 ≤ℤ value (fact_term (arity_of p s) f) env → IsMetBy f env)
      × (IsMetBy f env → pos 0 ≤ℤ value (fact_term (arity_of p s) f) env)
  one-met s env f member =
      let there = fact-of-symbol s kept f member in
      let candidate : IsCandidate p f = All-contains (IsCandidate p) kept f held.candidates there.0 in
      let same : arity_of p f.symbol ≡ arity_of p s = ap (arity_of p) there.1 in
      fact-met (arity_of p s) f env candidate.different (let low = candidate.plus in omega (arith, low, same))
      (let low = candidate.minus in omega (arith, low, same))

  -- the facts of a symbol that are needed are among its facts
  needed-within : (s : ℕ) → All (Contains (facts_at s kept)) (needed_among (strongest kept s))
  needed-within s = needed-keep_property (Contains (facts_at s kept)) (strongest kept s)
      (All-filter (λ f. not (list_any (is_weaker f) (facts_at s kept))) (Contains (facts_at s kept))
      (facts_at s kept) (All-contains_itself (facts_at s kept)))

  -- the facts of a symbol that are needed, as expressions, are at least 0 exactly where all its facts are met
  needed-met : (s : ℕ) (env : List ℤ)
      → AreAtLeastZero (map (fact_term (arity_of p s)) (needed_among (strongest kept s))) env
      ↔ All (λ f. IsMetBy f env) (facts_at s kept)
  needed-met s env = (
    λ h. strongest-suffice (facts_at s kept) env (needed-suffice env (strongest kept s)
        (All-weaker (Contains needed) (λ f. IsMetBy f env) (λ f member. (one-met s env f (among f member)).0
        (All-contains AtLeast needed f (All-unmap (λ t. pos 0 ≤ℤ value t env) (fact_term
        (arity_of p s)) needed h) member))
        needed (All-contains_itself needed))),
    λ h. All-map (λ t. pos 0 ≤ℤ value t env) (fact_term (arity_of p s)) needed (All-weaker (Contains needed) AtLeast
        (λ f member. (one-met s env f (among f member)).1
        (All-contains (λ f. IsMetBy f env) needed f (needed-keep_property (λ f. IsMetBy f env) (strongest kept s)
        (strongest-met (facts_at s kept) env h)) member)) needed
        (All-contains_itself needed)),
  )
    where
      needed : List LocFact
      needed = needed_among (strongest kept s)

      AtLeast : LocFact → Type 0
      AtLeast f = pos 0 ≤ℤ value (fact_term (arity_of p s) f) env

      among : (f : LocFact) → Contains needed f → Contains (facts_at s kept) f
      among f member = All-contains (Contains (facts_at s kept)) needed f (needed-within s) member

  -- the start symbol has no kept facts
  none-at-start : (f : LocFact) → Contains (facts_at p.start kept) f → ⊥
  none-at-start f member =
      let there = fact-of-symbol p.start kept f member in
      let candidate : IsCandidate p f = All-contains (IsCandidate p) kept f held.candidates there.0 in
      candidate.not_start there.1

  -- the facts of a copy are at least 0 exactly where the kept facts of its symbol are met
  copy-met : (c : Copy) (env : List ℤ) → HasOwnFacts c
      → AreAtLeastZero c.facts env ↔ All (λ f. IsMetBy f env) (facts_at c.over kept)
  copy-met c env own =
      subst (λ (facts : List Term). AreAtLeastZero facts env ↔ All (λ f. IsMetBy f env) (facts_at c.over kept))
      (sym own)
      (go (nat_eq c.over p.start) refl)
    where
      none : c.over ≡ p.start → (f : LocFact) → Contains (facts_at c.over kept) f → IsMetBy f env
      none same f member =
          absurd (none-at-start f (subst (λ (s : ℕ). Contains (facts_at s kept) f) same member))

      go : (v : Bool) → nat_eq c.over p.start ≡ v
          → AreAtLeastZero (map (fact_term (arity_of p c.over)) (needed_facts p kept c.over)) env
          ↔ All (λ f. IsMetBy f env) (facts_at c.over kept)
      go true e = rw e (
        λ h. All-weaker (Contains (facts_at c.over kept)) (λ f. IsMetBy f env) (none (eqb-true c.over p.start e))
            (facts_at c.over kept) (All-contains_itself (facts_at c.over kept)),
        λ h. All-nil (λ t. pos 0 ≤ℤ value t env),
      )
      go false e = rw e (needed-met c.over env)

  module _ (section : Section) (of_facts : IsSectionOfFacts p kept section) where
    -- the copy with a number has the facts of its symbol that are needed
    copy-own : (k : ℕ) (c : Copy) → slice_get section.copies k ≡ Some c → HasOwnFacts c
    copy-own k c there = All-contains HasOwnFacts (fact_copies p kept) c own-facts
        (contains-get (fact_copies p kept) k c (ap (λ (s : Section). slice_get s.copies k) (sym of_facts) ∙ there))

    -- the one rule of a branch that leads to a copy has the guard of its rule and the facts of its source
    branch-says : (b : Branch) → IsBranchShown NoneMeet p section b → IsUntestedStep b.cases
        → All (HasGuardOfFacts p kept) (copies_by p section b)
    branch-says b shown lead = go b.cases refl lead
      where
        r : Rule
        r = shown.rule

        facts : List Term
        facts = facts_of section b.source

        says : (k : ℕ) → HasGuardOfFacts p kept (record {
          of_rule = b.rule;
          rule = rule_along b.source r (record { atoms = map passes facts; copy = k });
        })
        says k = record {
          each = λ r' there env.
              let same : r' ≡ r = some_same r' r (sym there ∙ shown.fits.numbered) in
              let own : facts ≡ shown.copy.facts = ap facts_in shown.fits.there in
              let met = copy-met shown.copy env (copy-own b.source shown.copy shown.fits.there) in
              let at : shown.copy.over ≡ r'.source =
              sym shown.fits.leaves ∙ ap (λ (x : Rule). x.source) (sym same) in
              let whole = guard-with r.guard facts env in (
                λ h. let parts = whole.0 h in (
                  subst (λ (x : Rule). GuardHolds env x.guard) (sym same) parts.0,
                  subst (λ (s : ℕ). All (λ f. IsMetBy f env) (facts_at s kept)) at
                      (met.0 (subst (λ (fs : List Term). AreAtLeastZero fs env) own parts.1)),
                ),
                λ h. whole.1 (
                  subst (λ (x : Rule). GuardHolds env x.guard) same h.0,
                  subst (λ (fs : List Term). AreAtLeastZero fs env) (sym own)
                      (met.1 (subst (λ (s : ℕ). All (λ f. IsMetBy f env) (facts_at s kept)) (sym at) h.1)),
                ),
              );
        }

        go : (cases : Cases) → b.cases ≡ cases → IsUntestedStep cases → All (HasGuardOfFacts p kept) (copies_by p section b)
        go (To k) e lead =
            subst (λ (cases : Cases). All (HasGuardOfFacts p kept)
            (copies_along b (rule_at p b.rule) (paths (map passes facts) cases))) (sym e)
            (subst (λ (o : Option Rule). All (HasGuardOfFacts p kept) (copies_along b o (paths (map passes facts)
            (To k))))
            (sym shown.fits.numbered)
            (All-cons (HasGuardOfFacts p kept) (record {
              of_rule = b.rule;
              rule = rule_along b.source r (record { atoms = map passes facts; copy = k });
            }) [] (says k) (All-nil (HasGuardOfFacts p kept))))
        go Never e lead = absurd lead
        go (If f yes_cases no_cases) e lead = absurd lead

    -- each rule that branches lead to has the guard of its rule and the facts of its source
    rules-say : (branches : List Branch) → All (IsBranchShown NoneMeet p section) branches
        → All (λ b. IsUntestedStep b.cases) branches → All (HasGuardOfFacts p kept) (rule_copies p section branches)
    rules-say [] shown lead = All-nil (HasGuardOfFacts p kept)
    rules-say (b ∷ branches) shown lead =
        All-append (HasGuardOfFacts p kept) (copies_by p section b) (rule_copies p section branches)
        (branch-says b (All-head (IsBranchShown NoneMeet p section) b branches shown)
        (All-head (λ b. IsUntestedStep b.cases) b branches lead))
        (rules-say branches (All-tail (IsBranchShown NoneMeet p section) b branches shown)
        (All-tail (λ b. IsUntestedStep b.cases) b branches lead))

-- the rules that the section of kept facts spells have guards of facts
pub guards_have_facts : (p : Program) (kept : List LocFact) (section : Section) → AreHeld p kept → IsShown p section
    → IsSectionOfFacts p kept section → GuardsHaveFacts p kept section
guards_have_facts p kept section held shown of_facts =
    rules-say p kept held section of_facts section.branches shown.branches
    (subst (λ (s : Section). All (λ b. IsUntestedStep b.cases) s.branches) (sym of_facts) (branches-are-steps p (fact_copies p kept)))
