-- Each test of a section decides its check.
use Rattle.std.proofs.Common.{◌≡◌, ℕ, suc, ◌+◌, ◌≤◌, Bool, true, List, [], ◌∷◌, length, map, Option}
use Rattle.std.proofs.Common.{Some, None, is_none, refl, sym, ◌∙◌, ap, arith}
use Rattle.std.specs.Prelude.{slice_get}
use Rattle.std.specs.List.{list_all, AllByRecursion}
use Rattle.std.specs.Bool.{Decides}
use Rattle.std.proofs.lemmas.Bool.Decides.{Decides-eqb, Decides-ltb, Decides-and, Decides-like}
use Rattle.std.proofs.lemmas.List.Elements.{All-from_recursion, recursion_from_All}
use Rattle.section_checks.proofs.refined_programs.refinement.model.Cases.{none_some, some_same}
use Rattle.section_checks.specs.refined_programs.model.Terms.{Term, Literal, Variable, Negation, Addition, Subtraction}
use Rattle.section_checks.specs.refined_programs.model.Terms.{Multiplication, Exponentiation}
use Rattle.section_checks.specs.refined_programs.model.Limits.{rule_limit, atom_limit}
use Rattle.section_checks.specs.refined_programs.model.Programs.{Atom, Always, Compare, Rule, Program, rule_at, arity_of}
use Rattle.section_checks.specs.refined_programs.refinement.Sections.{Copy}
use Rattle.section_checks.specs.refined_programs.refinement.Obligations.{HasFirstCopy, guard_along}
use Rattle.section_checks.specs.refined_programs.poly_terms.Checked.{ReadsBelow}
use Rattle.section_checks.specs.refined_programs.poly_terms.Faults.{Fault as ExprFault, first_fault}
use Rattle.section_checks.specs.refined_programs.its_model.Valid.{IsValidAtom, difference_of}
use Rattle.section_checks.specs.refined_programs.its_model.linear_forms.Forms.{Form}
use Rattle.section_checks.specs.refined_programs.Annotated as annotated
use Rattle.section_checks.specs.refined_programs.Annotated.{Cases, To, Never, If, Branch, Section, form_term, copy_of}
use Rattle.section_checks.specs.refined_programs.Annotated.{section_of}
use Rattle.section_checks.specs.refined_programs.Ends.{Goal, AtCopy, Nowhere, End}
use Rattle.section_checks.specs.refinement_rows.linear_forms.Certificates.{minus_one}
use Rattle.section_checks.specs.refinement_rows.linear_forms.Limits.{certificate_limit}
use Rattle.section_checks.specs.refinement_rows.guard_prep.Prepared.{rows_of}
use Rattle.section_checks.specs.refinement_rows.Certified.{with_guard}
use Rattle.cert_rules.specs.NumberTests.{is_in_limit}
use Rattle.cert_rules.proofs.TestLists.{AllDecide}
use Rattle.cert_rules.proofs.NumberTests.{decides-yes, decides-no, decides-le, decides-all, decides-limit}
use Rattle.cert_rules.proofs.NumberTests.{decides-implies}
use Rattle.section_checks.specs.Faults.{IsWide, fact_check, Due, due, branch_checks, AreTestsWide, variables_in}
use Rattle.section_checks.specs.Faults.{test_check, BranchEnd, ends_of, FitsAt, GoalFits, shape_check, rules_among}
use Rattle.section_checks.specs.Faults.{leaves_start, Obligation, obligations_of, IsWithinLimits, IsEndWithin, limit_check}
use Rattle.section_checks.specs.Faults.{FitsRows, obligation_checks, certificate_stages, stages}
use Rattle.section_decide.specs.Deciding.{starts_right, is_wide, fact_test, branch_tests, are_tests_wide}
use Rattle.section_decide.specs.Deciding.{width_test, fits_at, goal_fits, shape_test, are_rules_right, reads_below}
use Rattle.section_decide.specs.Deciding.{is_valid_atom, is_within_limits, is_end_within, limit_test, fits_rows}
use Rattle.section_decide.specs.Deciding.{obligation_tests, certificate_tests, tests}
use Rattle.section_decide.specs.Laws.{FaultsAreComputed}
use Rattle.section_decide.proofs.StageTests.{AllStagesDecide, first-in-stages, stages-first, stages-pass, stages-none}
use Rattle.section_decide.proofs.StageTests.{numbered-decide}

-- the test of each element of a list decides a property of each
pub decides-each : {X : Type 0} (p : X → Bool) (P : X → Type 0) → ((x : X) → Decides (p x) (P x)) → (xs : List X)
    → Decides (list_all p xs) (AllByRecursion P xs)
decides-each p P each xs =
    Decides-like (list_all p xs) (recursion_from_All P xs) (All-from_recursion P xs) (decides-all p P each xs)

-- the test of the start decides its check
decides-start : (p : Program) (s : Section) (copies : List annotated.Copy) → s.copies ≡ copies
    → Decides (starts_right p copies) (HasFirstCopy p (section_of s))
decides-start p s [] e =
    decides-no (λ h. none_some h.copy (ap (λ (cs : List annotated.Copy). slice_get (map copy_of cs) 0) (sym e) ∙ h.there))
decides-start p s (c ∷ copies) e =
    Decides-like _ (λ h. record { copy = copy_of c; there = there; start = h.0; facts = no_facts c.facts h.1 })
    (λ h. (
      ap (λ (x : Copy). x.over) (first h) ∙ h.start,
      none-left c.facts (ap (λ (x : Copy). x.facts) (first h) ∙ h.facts),
    ))
    (Decides-and _ _ (Decides-eqb c.over p.start) (Decides-eqb (length c.facts) 0))
  where
    there : slice_get (section_of s).copies 0 ≡ Some (copy_of c)
    there = ap (λ (cs : List annotated.Copy). slice_get (map copy_of cs) 0) e

    first : (h : HasFirstCopy p (section_of s)) → copy_of c ≡ h.copy
    first h = some_same (copy_of c) h.copy (sym there ∙ h.there)

    no_facts : (fs : List Form) → length fs ≡ 0 → map form_term fs ≡ []
    no_facts [] l = refl
    no_facts (f ∷ fs) l = absurd (omega (arith, l))

    none-left : (fs : List Form) → map form_term fs ≡ [] → length fs ≡ 0
    none-left [] l = refl
    none-left (f ∷ fs) l = absurd (omega (arith, ap (length {A = Term}) l))

-- the test of a form's number of coefficients decides it
decides-wide : (n : ℕ) (f : Form) → Decides (is_wide n f) (IsWide n f)
decides-wide n f = Decides-eqb (length f.coefs) n

-- the tests of branches decide their checks
decides-branches : (k : ℕ) (branches : List Branch) (dues : List Due)
    → AllDecide (branch_checks k branches dues) (branch_tests k branches dues)
decides-branches k [] [] = tt
decides-branches k [] (d ∷ ds) = (refl, (decides-no (λ h. h), tt))
decides-branches k (b ∷ branches) [] = (refl, (decides-no (λ h. h), tt))
decides-branches k (b ∷ branches) (d ∷ ds) = (
  refl,
  (
    Decides-and _ _ (Decides-eqb b.source d.source) (Decides-eqb b.rule d.rule),
    decides-branches (suc k) branches ds,
  ),
)

-- the test of the tests among cases decides their number of coefficients
decides-tests : (n : ℕ) (c : Cases) → Decides (are_tests_wide n c) (AreTestsWide n c)
decides-tests n (To copy by) = decides-yes tt
decides-tests n (Never by) = decides-yes tt
decides-tests n (If form yes_cases no_cases) =
    Decides-like _ (λ h. (h.0, h.1.0, h.1.1)) (λ h. (h.0, (h.1, h.2)))
    (Decides-and _ _ (decides-wide n form) (Decides-and _ _ (decides-tests n yes_cases) (decides-tests n no_cases)))

-- the test whether a copy and a rule fit decides it
decides-fits : (copy : Option Copy) (r : Option Rule) (by : List (List ℕ)) → Decides (fits_at copy r by) (FitsAt copy r by)
decides-fits (Some copy) (Some r) by =
    Decides-like _ (λ h. record { target = h.0; lists = h.1 }) (λ h. (h.target, h.lists))
    (Decides-and _ _ (Decides-eqb copy.over r.target) (Decides-eqb (length by) (length copy.facts)))
decides-fits (Some copy) None by = decides-no (λ h. h)
decides-fits None (Some r) by = decides-no (λ h. h)
decides-fits None None by = decides-no (λ h. h)

decides-goal : (copies : List Copy) (r : Option Rule) (g : Goal) → Decides (goal_fits copies r g) (GoalFits copies r g)
decides-goal copies r (Nowhere by) = decides-yes tt
decides-goal copies r (AtCopy k by) = decides-fits (slice_get copies k) r by

-- the test of the number of rules decides its check
decides-rules : (es : List BranchEnd)
    → Decides (are_rules_right es) ((rules_among es ≤ rule_limit) × (leaves_start es ≡ true))
decides-rules es = Decides-and _ _ (decides-le (rules_among es) rule_limit) ((λ e. e), (λ e. e))

-- the test of the variables that an expression reads decides them
decides-reads : (n : ℕ) (t : Term) → Decides (reads_below n t) (ReadsBelow n t)
decides-reads n (Literal z) = decides-yes tt
decides-reads n (Variable i) = Decides-ltb i n
decides-reads n (Negation e) = decides-reads n e
decides-reads n (Addition d e) = Decides-and _ _ (decides-reads n d) (decides-reads n e)
decides-reads n (Subtraction d e) = Decides-and _ _ (decides-reads n d) (decides-reads n e)
decides-reads n (Multiplication d e) = Decides-and _ _ (decides-reads n d) (decides-reads n e)
decides-reads n (Exponentiation e k) = decides-reads n e

decides-none : (o : Option ExprFault) → Decides (is_none o) (o ≡ None)
decides-none None = decides-yes refl
decides-none (Some x) = decides-no (λ e. none_some x (sym e))

decides-atom : (n : ℕ) (a : Atom) → Decides (is_valid_atom n a) (IsValidAtom n a)
decides-atom n Always = decides-yes tt
decides-atom n (Compare d r e) =
    Decides-like _ (λ h. record { left = h.0; right = h.1.0; expands = h.1.1 }) (λ h. (h.left, (h.right, h.expands)))
    (Decides-and _ _ (decides-reads n d)
    (Decides-and _ _ (decides-reads n e) (decides-none (first_fault (difference_of d r e)))))

pub decides-within : (r : Rule) → Decides (is_within_limits r) (IsWithinLimits r)
decides-within r =
    Decides-like _ (λ h. record { few_atoms = h.0; guard = h.1 }) (λ h. (h.few_atoms, h.guard))
    (Decides-and _ _ (decides-le _ atom_limit)
    (decides-each (is_valid_atom (r.left + r.free)) (IsValidAtom (r.left + r.free)) (decides-atom (r.left + r.free)) r.guard))

decides-end : (r : Option Rule) (e : End) → Decides (is_end_within r e) (IsEndWithin r e)
decides-end None e = decides-yes tt
decides-end (Some r) e = decides-within (with_guard r (guard_along r e.atoms))

-- the test whether multipliers fit the rows decides it
pub decides-rows : (o : Obligation) → Decides (fits_rows o) (FitsRows o)
decides-rows o =
    Decides-like _ (λ h. record { long = h.0; small = h.1 }) (λ h. (h.long, h.small))
    (Decides-and _ _ (Decides-eqb (length o.by) (length (rows_of o.rule))) (decides-all is_in_limit (λ m. m ≤ certificate_limit) decides-limit o.by))

decides-obligations : (n : ℕ) (os : List Obligation) → AllDecide (obligation_checks n os) (obligation_tests n os)
decides-obligations n [] = tt
decides-obligations n (o ∷ os) =
    (refl, (decides-rows o, (refl, (decides-implies (rows_of o.rule) o.by minus_one, decides-obligations n os))))

decides-certificates : (copies : List Copy) (n : ℕ) (es : List BranchEnd)
    → AllStagesDecide (certificate_stages copies n es) (certificate_tests copies n es)
decides-certificates copies n [] = tt
decides-certificates copies n (e ∷ es) =
    (decides-obligations n (obligations_of copies n e.rule e.end), decides-certificates copies (suc n) es)

-- laws for the tests of all stages
module _ (p : Program) (s : Section) where
  tests-decide : AllStagesDecide (stages p s) (tests p s)
  tests-decide =
      let copies : List Copy = map copy_of s.copies in
      let es : List BranchEnd = ends_of p s s.branches in (
        (refl, (decides-start p s s.copies refl, tt)),
        (
          numbered-decide (fact_check p) (fact_test p) (λ k c. refl)
              (λ k c. decides-each (is_wide (arity_of p c.over)) (IsWide (arity_of p c.over)) (decides-wide (arity_of p c.over)) c.facts)
              1 s.copies,
          (
            decides-branches 1 s.branches (due p 0 s.copies),
            (
              numbered-decide (test_check p) (width_test p) (λ k b. refl)
                  (λ k b. decides-tests (variables_in (rule_at p b.rule)) b.cases) 1 s.branches,
              (
                numbered-decide (shape_check copies) (shape_test copies) (λ k e. refl)
                    (λ k e. decides-goal copies e.rule e.end.goal) 1 es,
                (
                  (refl, (decides-rules es, tt)),
                  (
                    numbered-decide (limit_check copies) (limit_test copies) (λ k e. refl)
                        (λ k e. Decides-and _ _ (decides-end e.rule e.end)
                        (decides-each (λ o. is_within_limits o.rule) (λ o. IsWithinLimits o.rule) (λ o. decides-within o.rule)
                        (obligations_of copies k e.rule e.end))) 1 es,
                    decides-certificates copies 1 es,
                  ),
                ),
              ),
            ),
          ),
        ),
      )

pub faults_are_computed : FaultsAreComputed
faults_are_computed = record {
  some = λ p s fault. (
    first-in-stages (stages p s) (tests p s) (tests-decide p s) fault,
    stages-first (stages p s) (tests p s) (tests-decide p s) fault,
  );
  none = λ p s. (
    stages-pass (stages p s) (tests p s) (tests-decide p s),
    stages-none (stages p s) (tests p s) (tests-decide p s),
  );
}
