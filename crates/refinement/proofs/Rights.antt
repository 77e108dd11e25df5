-- The program that a right section spells simulates the program.
use Rattle.std.proofs.Common.{◌≡◌, ℕ, ◌+◌, List, ◌++◌, length, map, ℤ, pos, Option, Some}
use Rattle.std.proofs.Common.{refl, sym, ◌∙◌, ap, subst, length-append}
use Rattle.std.specs.Prelude.{◌≤ℤ◌, slice_get, option_map}
use Rattle.std.specs.List.{All, Contains}
use Rattle.std.proofs.lemmas.List.Elements.{All-nil, All-append, All-map, All-contains}
use Rattle.std.proofs.lemmas.Option.{slice_get-map}
use Rattle.model.specs.Terms.{Term, value}
use Rattle.model.specs.Programs.{Rule, Program, rule_at, arity_of, arity_in, AtomHolds, GuardHolds}
use Rattle.model.specs.Runs.{Config, Leads}
use Rattle.model.proofs.Cases.{some_same}
use Rattle.refinement.specs.Simulation.{config_below, IsEnabled, IsCopy, HasRuleBelow, HasEnabledCopy, Simulates}
use Rattle.refinement.specs.Sections.{Copy, Section, paths, passes, facts_in, facts_of, symbol_below, rule_along}
use Rattle.refinement.specs.Sections.{symbol_by, spelled, projection_of, AreAtLeastZero, HasFactsOf}
use Rattle.refinement.specs.Obligations.{ReadsFirst, guard_along, IsRightAt, AreCasesRight, IsBranchOf, IsBranchRight}
use Rattle.refinement.specs.Obligations.{HasBranch, IsRight}
use Rattle.refinement.specs.Laws.{HoldsAt, FollowsFrom, FactsOfCopiesHold, SpellsTheRunsOf}
use Rattle.refinement.proofs.Members.{All-first}
use Rattle.refinement.proofs.Lifting.{all_lift, all_project}
use Rattle.refinement.proofs.Bounds.{bounds_are_kept}
use Rattle.refinement.proofs.Spelling.{Origin, paths_of, origin, number_along}
use Rattle.refinement.proofs.Cases.{taken, right-path}

-- facts over a rule's left variables hold as atoms wherever the left values meet them
facts-hold : (n : ℕ) (facts : List Term) (values free : List ℤ) → length values ≡ n → All (ReadsFirst n) facts
    → AreAtLeastZero facts values → GuardHolds (values ++ free) (map passes facts)
facts-hold n facts values free len over met = All-map (AtomHolds (values ++ free)) passes facts
    (λ k d low. subst (λ (z : ℤ). pos 0 ≤ℤ z) (sym ((over k d low).each values free len)) (met k d low))

module _ (p : Program) (section : Section) (right : IsRight p section) where
  -- the branch from which a rule of the spelled program comes is right, after the facts as its paths have them
  at_origin : (t : ℕ) (copy : Rule) → Origin p section t copy → Type 0
  at_origin t copy from =
      (c : Copy) × IsBranchOf p section from.branch c from.below
      × IsRightAt section from.below from.path.atoms from.path.copy

  right-origin : (t : ℕ) (copy : Rule) (from : Origin p section t copy) → at_origin t copy from
  unfolding at_origin
  right-origin t copy from =
      let b = All-contains (IsBranchRight p section) section.branches from.branch right.branches from.member in
      let same : b.rule ≡ from.below = some_same b.rule from.below (sym b.fits.numbered ∙ from.numbered) in
      let facts : b.copy.facts ≡ facts_of section from.branch.source = ap facts_in (sym b.fits.there) in
      let cases : AreCasesRight section b.rule (map passes (facts_of section from.branch.source)) from.branch.cases =
      subst (λ (fs : List Term). AreCasesRight section b.rule (map passes fs) from.branch.cases) facts b.cases in
      let at : IsRightAt section b.rule from.path.atoms from.path.copy =
      right-path section b.rule (map passes (facts_of section from.branch.source)) from.branch.cases from.path cases
      from.along in (
        b.copy,
        subst (λ (r : Rule). IsBranchOf p section from.branch b.copy r) same b.fits,
        subst (λ (r : Rule). IsRightAt section r from.path.atoms from.path.copy) same at,
      )

  -- each rule of the spelled program is a copy of the rule below it
  copies : (t : ℕ) (copy : Rule) → rule_at (spelled p section) t ≡ Some copy
      → HasRuleBelow p (projection_of p section) t copy
  unfolding at_origin
  copies t copy numbered =
      let from = origin p section t copy numbered in
      let (c, fits, at) = right-origin t copy from in
      record {
        rule = from.below;
        numbered = ap (rule_at p) from.number ∙ from.numbered;
        copies = subst (λ (x : Rule). IsCopy (projection_of p section) from.below x) from.same (record {
          left = refl;
          free = refl;
          updates = refl;
          cost = refl;
          source = ap symbol_below fits.there ∙ sym fits.leaves;
          target = ap symbol_below at.there ∙ at.target;
        });
      }

  -- the guard of a rule of the spelled program implies that of the rule below
  guards : (t : ℕ) (r copy : Rule) (env : List ℤ) → rule_at (spelled p section) t ≡ Some copy
      → rule_at p ((projection_of p section).rule t) ≡ Some r → GuardHolds env copy.guard → GuardHolds env r.guard
  guards t r copy env numbered below holds =
      let from = origin p section t copy numbered in
      let same : from.below ≡ r =
      some_same from.below r (sym from.numbered ∙ (ap (rule_at p) (sym from.number) ∙ below)) in
      subst (λ (x : Rule). GuardHolds env x.guard) same
      (All-first (AtomHolds env) from.below.guard from.path.atoms
      (subst (λ (x : Rule). GuardHolds env x.guard) (sym from.same) holds))

  -- the spelled program starts where the program starts
  starts : (projection_of p section).symbol 0 ≡ p.start
  starts = ap symbol_below right.first.there ∙ right.first.start

  places : arity_of (spelled p section) 0 ≡ arity_of p p.start
  places =
      ap arity_in (slice_get-map (symbol_by p) section.copies 0
      ∙ ap (λ (x : Option Copy). option_map (symbol_by p) x) right.first.there)
      ∙ ap (arity_of p) right.first.start

  -- where the facts of a copy hold, a rule that is enabled below has an enabled copy
  covered : (t : ℕ) (r : Rule) (c : Config) (free : List ℤ) → HasFactsOf section c → rule_at p t ≡ Some r
      → IsEnabled r (config_below (projection_of p section) c) free
      → HasEnabledCopy (spelled p section) (projection_of p section) t c free
  covered t r c free facts numbered enabled =
      let stands : symbol_below (slice_get section.copies c.at) ≡ facts.copy.over = ap symbol_below facts.there in
      let branch : HasBranch section c.at t =
      right.complete.each c.at facts.copy t r facts.there numbered (sym enabled.source ∙ stands) in
      let b = All-contains (IsBranchRight p section) section.branches branch.branch right.branches branch.member in
      let same : b.rule ≡ r =
      some_same b.rule r (sym b.fits.numbered ∙ (ap (rule_at p) branch.rule ∙ numbered)) in
      let here : slice_get section.copies branch.branch.source ≡ Some facts.copy =
      ap (slice_get section.copies) branch.source ∙ facts.there in
      let copy : b.copy ≡ facts.copy = some_same b.copy facts.copy (sym b.fits.there ∙ here) in
      let len : length c.values ≡ b.rule.left = enabled.left ∙ ap (λ (x : Rule). x.left) (sym same) in
      let met : AreAtLeastZero b.copy.facts c.values =
      subst (λ (x : Copy). AreAtLeastZero x.facts c.values) (sym copy) facts.facts in
      let guard : GuardHolds (c.values ++ free) b.rule.guard =
      subst (λ (x : Rule). GuardHolds (c.values ++ free) x.guard) (sym same) enabled.guard in
      let holds : GuardHolds (c.values ++ free) (guard_along b.rule (map passes b.copy.facts)) =
      All-append (AtomHolds (c.values ++ free)) b.rule.guard (map passes b.copy.facts) guard
      (facts-hold b.rule.left b.copy.facts c.values free len b.fits.over_left met) in
      let all : length (c.values ++ free) ≡ b.rule.left + b.rule.free =
      length-append c.values free ∙ (ap (λ (n : ℕ). n + length free) len
      ∙ ap (λ (n : ℕ). b.rule.left + n) (enabled.free_ones ∙ ap (λ (x : Rule). x.free) (sym same))) in
      let way = taken section b.rule (c.values ++ free) all (map passes b.copy.facts) branch.branch.cases b.cases holds in
      let along : Contains (paths_of section branch.branch) way.path =
      subst (λ (fs : List Term). Contains (paths (map passes fs) branch.branch.cases) way.path) (ap facts_in (sym b.fits.there))
      way.member in
      let (number, above, below) =
      number_along p section branch.branch b.rule way.path branch.member b.fits.numbered along in
      record {
        number = number;
        rule = rule_along branch.branch.source b.rule way.path;
        numbered = above;
        above = below ∙ branch.rule;
        enabled = record {
          source = sym branch.source;
          left = len;
          free_ones = enabled.free_ones ∙ ap (λ (x : Rule). x.free) (sym same);
          guard = way.holds;
        };
      }

  -- a copy leads to a configuration with the facts of its target
  kept : (t : ℕ) (r copy : Rule) (c d : Config) (free : List ℤ) → HasFactsOf section c
      → rule_at (spelled p section) t ≡ Some copy → rule_at p ((projection_of p section).rule t) ≡ Some r
      → GuardHolds (c.values ++ free) r.guard → Leads copy c free d → HasFactsOf section d
  unfolding at_origin
  kept t r copy c d free facts numbered below guard leads =
      let from = origin p section t copy numbered in
      let (x, fits, at) = right-origin t copy from in
      let l : Leads (rule_along from.branch.source from.below from.path) c free d =
      subst (λ (x : Rule). Leads x c free d) (sym from.same) leads in
      let all : length (c.values ++ free) ≡ from.below.left + from.below.free =
      length-append c.values free ∙ (ap (λ (n : ℕ). n + length free) l.left
      ∙ ap (λ (n : ℕ). from.below.left + n) l.free_ones) in
      record {
        copy = at.copy;
        there = ap (slice_get section.copies) l.target ∙ at.there;
        facts = subst (λ (v : List ℤ). AreAtLeastZero at.copy.facts v) (sym l.values)
            (at.facts (c.values ++ free) all l.guard);
      }

  -- the spelled program simulates the program
  pub simulates : Simulates (spelled p section) p (projection_of p section) (HasFactsOf section)
  simulates = record {
    start = starts;
    places = places;
    entry = refl;
    first = λ c at. record {
      copy = right.first.copy;
      there = ap (slice_get section.copies) at ∙ right.first.there;
      facts = subst (λ (fs : List Term). AreAtLeastZero fs c.values) (sym right.first.facts)
          (All-nil (λ (f : Term). pos 0 ≤ℤ value f c.values));
    };
    copies = copies;
    covered = covered;
    kept = kept;
  }

  pub spells_the_runs : SpellsTheRunsOf p section
  spells_the_runs =
      let lifts = all_lift p (spelled p section) (projection_of p section) (HasFactsOf section) simulates in
      record {
        simulates = simulates;
        lifts = lifts;
        projects = all_project p (spelled p section) (projection_of p section) starts places copies guards;
        bounds = bounds_are_kept p (spelled p section) (projection_of p section) copies (HasFactsOf section) lifts;
      }

  -- at the end of each run some copy of its symbol has its facts
  fact-holds : (symbol : ℕ) (f : Term) → ((k : ℕ) (copy : Copy) → slice_get section.copies k ≡ Some copy
      → copy.over ≡ symbol → FollowsFrom copy.facts f) → HoldsAt p symbol f
  fact-holds symbol f follows = record {
    each = λ start steps c run at.
        let l = spells_the_runs.lifts.each start steps c run in
        let over : l.facts.copy.over ≡ symbol =
        ap symbol_below (sym l.facts.there) ∙ (ap (λ (x : Config). x.at) l.end_below ∙ at) in
        subst (λ (v : List ℤ). pos 0 ≤ℤ value f v) (ap (λ (x : Config). x.values) l.end_below)
        ((follows l.end.at l.facts.copy l.facts.there over).each l.end.values l.facts.facts);
  }

  pub facts_of_copies_hold : FactsOfCopiesHold p section
  facts_of_copies_hold = record { each = fact-holds }
