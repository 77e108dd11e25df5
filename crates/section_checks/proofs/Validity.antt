-- The program that an accepted section spells is valid, if its copies have different names.
use Rattle.std.proofs.Common.{◌≡◌, ℕ, zero, suc, ◌+◌, ◌<◌, ◌≤◌, List, [], ◌∷◌, length, map, Option, Some, None}
use Rattle.std.proofs.Common.{refl, sym, ◌∙◌, ap, subst, arith}
use Rattle.std.specs.Prelude.{slice_get, option_map}
use Rattle.std.specs.List.{AllByRecursion, Contains}
use Rattle.std.proofs.lemmas.Option.{slice_get-map, slice_get_within}
use Rattle.refined_programs.specs.model.Limits.{place_limit}
use Rattle.refined_programs.specs.model.Programs.{Name, Atom, Rule, Symbol, Program, rule_at, arity_in, arity_of}
use Rattle.refined_programs.proofs.refinement.model.Cases.{none_some}
use Rattle.refined_programs.specs.refinement.Sections as plain
use Rattle.refined_programs.specs.refinement.Sections.{symbol_by, spelled, rule_along}
use Rattle.refined_programs.specs.refinement.Obligations.{HasFirstCopy, IsBranchOf}
use Rattle.refined_programs.specs.its_model.text_core.Names.{IsName, AreDistinct}
use Rattle.refined_programs.specs.its_model.Valid.{IsValidSymbol, IsValidRule, IsValid}
use Rattle.refined_programs.proofs.its_model.ValidLaws.{holds-at, rule-valid}
use Rattle.refined_programs.specs.Annotated as annotated
use Rattle.refined_programs.specs.Annotated.{Branch, Section, copy_of, branch_of, section_of}
use Rattle.refined_programs.specs.Ends.{Goal, AtCopy, Nowhere, End}
use Rattle.cert_rules.specs.Reasons.{AllPass}
use Rattle.section_checks.specs.Faults.{BranchEnd, ends_of, ends_of_branch, FitsAt, GoalFits, IsEndWithin, shape_checks}
use Rattle.section_checks.specs.Faults.{limit_checks, IsAccepted}
use Rattle.section_checks.specs.Laws.{HasDistinctNames}
use Rattle.section_checks.proofs.Certifying.{branch-of}
use Rattle.section_checks.proofs.EndLaws.{image-all, branch-met}
use Rattle.section_checks.proofs.SpelledRules.{own_ends, own_rules, some-rules, rules-count, HoldsOfGoal, paths-all}
use Rattle.section_checks.proofs.SpelledRules.{rules-all, rules-start}

-- an end has its shape, and its rule is within the limits
abbrev IsEndGood : List plain.Copy → BranchEnd → Type 0
IsEndGood copies e = GoalFits copies e.rule e.end.goal × IsEndWithin e.rule e.end

-- if the checks pass, each end has its shape, and its rule is within the limits
ends-good : (copies : List plain.Copy) (n : ℕ) (es : List BranchEnd) → AllPass (shape_checks copies n es)
    → AllPass (limit_checks copies n es) → AllByRecursion (IsEndGood copies) es
ends-good copies n [] shapes limits = tt
ends-good copies n (e ∷ es) shapes limits =
    ((shapes.0, (limits.0).0), ends-good copies (suc n) es shapes.1 limits.1)

-- a symbol of a valid program has at most 32 places
few-places : (p : Program) → IsValid p → (k : ℕ) → arity_of p k ≤ place_limit
few-places p valid k = go (slice_get p.symbols k) refl
  where
    go : (o : Option Symbol) → slice_get p.symbols k ≡ o → arity_in o ≤ place_limit
    go None e = omega arith
    go (Some x) e = (holds-at IsValidSymbol p.symbols k x valid.symbols e).arity

-- the symbols of the spelled program are valid
symbols-valid : (p : Program) → IsValid p → (cs : List annotated.Copy) → AllByRecursion (λ c. IsName c.name) cs
    → AllByRecursion IsValidSymbol (map (symbol_by p) (map copy_of cs))
symbols-valid p valid [] names = tt
symbols-valid p valid (c ∷ cs) names =
    (record { name = names.0; arity = few-places p valid c.over }, symbols-valid p valid cs names.1)

names-same : (p : Program) (cs : List annotated.Copy)
    → map (λ x. x.name) (map (symbol_by p) (map copy_of cs)) ≡ map (λ c. c.name) cs
names-same p [] = refl
names-same p (c ∷ cs) = ap (λ (names : List Name). c.name ∷ names) (names-same p cs)

module _ (p : Program) (s : Section) (valid : IsValid p) (named : HasDistinctNames s) (accepted : IsAccepted p s) where
  -- the symbol of a copy has the places of the symbol below
  symbol-at : (k : ℕ) (copy : plain.Copy) → slice_get (section_of s).copies k ≡ Some copy
      → slice_get (spelled p (section_of s)).symbols k ≡ Some (symbol_by p copy)
  symbol-at k copy e =
      slice_get-map (symbol_by p) (section_of s).copies k ∙ ap (λ (o : Option plain.Copy). option_map (symbol_by p) o) e

  symbol-within : (k : ℕ) (copy : plain.Copy) → slice_get (section_of s).copies k ≡ Some copy
      → k < length (spelled p (section_of s)).symbols
  symbol-within k copy e = slice_get_within (spelled p (section_of s)).symbols k (symbol_by p copy) (symbol-at k copy e)

  places-at : (k : ℕ) (copy : plain.Copy) → slice_get (section_of s).copies k ≡ Some copy
      → arity_of (spelled p (section_of s)) k ≡ arity_of p copy.over
  places-at k copy e = ap arity_in (symbol-at k copy e)

  -- the rule of an end at a copy is valid
  rule-along-valid : (b : Branch) (c : annotated.Copy) (r : Rule)
      → IsBranchOf p (section_of s) (branch_of b) (copy_of c) r → (atoms : List Atom) (k : ℕ) (by : List (List ℕ))
      → (o : Option plain.Copy) → slice_get (section_of s).copies k ≡ o → FitsAt o (Some r) by
      → IsEndWithin (Some r) (record { atoms = atoms; goal = AtCopy k by })
      → IsValidRule (spelled p (section_of s)) (rule_along b.source r (record { atoms = atoms; copy = k }))
  rule-along-valid b c r fits atoms k by None e shape within = absurd shape
  rule-along-valid b c r fits atoms k by (Some copy) e shape within =
      let base : IsValidRule p r = rule-valid p b.rule r valid fits.numbered in
      record {
        source = symbol-within b.source (copy_of c) fits.there;
        target = symbol-within k copy e;
        left = base.left ∙ (ap (arity_of p) fits.leaves ∙ sym (places-at b.source (copy_of c) fits.there));
        places = base.places ∙ (ap (arity_of p) (sym shape.target) ∙ sym (places-at k copy e));
        named = base.named;
        names = base.names;
        distinct = base.distinct;
        few_variables = base.few_variables;
        few_atoms = within.few_atoms;
        updates = base.updates;
        guard = within.guard;
        cost = base.cost;
      }

  -- the rules of a branch are valid
  own-valid : (b : Branch) → Contains s.branches b → AllByRecursion (IsValidRule (spelled p (section_of s))) (own_rules p s b)
  own-valid b member =
      let (c, r, fits) = branch-of p s valid accepted b member in
      let good = ends-good (map copy_of s.copies) 1 (ends_of p s s.branches) accepted.1.1.1.1.0 accepted.1.1.1.1.1.1.0 in
      let own : AllByRecursion (IsEndGood (map copy_of s.copies)) (ends_of_branch p s b) =
      branch-met (IsEndGood (map copy_of s.copies)) p s s.branches b member good in
      let placed : AllByRecursion (λ e. IsEndGood (map copy_of s.copies) (record { source = b.source; rule = Some r; end = e })) (own_ends p s b) =
      subst (λ (o : Option Rule). AllByRecursion (λ e. IsEndGood (map copy_of s.copies) (record { source = b.source; rule = o; end = e })) (own_ends p s b)) fits.numbered
      (image-all (IsEndGood (map copy_of s.copies)) (λ (e : End). record { source = b.source; rule = rule_at p b.rule; end = e })
      (own_ends p s b) own) in
      subst (λ (rs : List Rule). AllByRecursion (IsValidRule (spelled p (section_of s))) rs)
      (sym (some-rules p s b r fits.numbered))
      (paths-all b.source (Some r) r (IsValidRule (spelled p (section_of s))) (own_ends p s b)
      (each b c r fits (own_ends p s b) placed))
    where
      one : (b : Branch) (c : annotated.Copy) (r : Rule) → IsBranchOf p (section_of s) (branch_of b) (copy_of c) r
          → (atoms : List Atom) (g : Goal) → GoalFits (map copy_of s.copies) (Some r) g
          → IsEndWithin (Some r) (record { atoms = atoms; goal = g })
          → HoldsOfGoal b.source (Some r) r (IsValidRule (spelled p (section_of s))) atoms g
      one b c r fits atoms (AtCopy k by) shape within =
          rule-along-valid b c r fits atoms k by (slice_get (map copy_of s.copies) k) refl shape within
      one b c r fits atoms (Nowhere by) shape within = tt

      each : (b : Branch) (c : annotated.Copy) (r : Rule) → IsBranchOf p (section_of s) (branch_of b) (copy_of c) r
          → (es : List End)
          → AllByRecursion (λ e. IsEndGood (map copy_of s.copies) (record { source = b.source; rule = Some r; end = e })) es
          → AllByRecursion (λ e. HoldsOfGoal b.source (Some r) r (IsValidRule (spelled p (section_of s))) e.atoms e.goal) es
      each b c r fits [] h = tt
      each b c r fits (e ∷ es) h = (one b c r fits e.atoms e.goal (h.0).0 (h.0).1, each b c r fits es h.1)

  pub spelled-valid : IsValid (spelled p (section_of s))
  spelled-valid =
      let first : HasFirstCopy p (section_of s) = accepted.0.0 in
      let rules = (accepted.1.1.1.1.1.0).0 in
      record {
        symbols = symbols-valid p valid s.copies named.names;
        distinct = subst AreDistinct (sym (names-same p s.copies)) named.distinct;
        few_rules = omega (arith, rules-count p s s.branches, rules.0);
        rules = rules-all p s (IsValidRule (spelled p (section_of s))) s.branches own-valid;
        start = symbol-within 0 first.copy first.there;
        start_is_source = rules-start p s s.branches
            (λ b member. let (c, r, fits) = branch-of p s valid accepted b member in (r, fits.numbered)) rules.1;
        start_places = valid.start_places ∙ (ap (arity_of p) (sym first.start) ∙ sym (places-at 0 first.copy first.there));
        start_names = valid.start_names;
        start_distinct = valid.start_distinct;
      }
