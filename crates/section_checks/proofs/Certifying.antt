-- An accepted section is certified.
use Rattle.std.proofs.Common.{◌≡◌, ℕ, zero, suc, ◌+◌, List, [], ◌∷◌, ◌++◌, length, map, Option, Some, None}
use Rattle.std.proofs.Common.{refl, sym, ◌∙◌, ap, subst, arith}
use Rattle.std.specs.Prelude.{slice_get, slice_index_or, option_map}
use Rattle.std.specs.List.{AllByRecursion, Contains}
use Rattle.std.proofs.lemmas.List.Elements.{All-map, All-from_recursion, Contains-get_or}
use Rattle.std.proofs.lemmas.Option.{slice_get-map}
use Rattle.refined_programs.specs.model.Terms.{Term}
use Rattle.refined_programs.specs.model.Programs.{Atom, Rule, Program, rule_at, arity_of}
use Rattle.refined_programs.proofs.refinement.model.Cases.{none_some, some_same}
use Rattle.refined_programs.proofs.refinement.Members.{map-contains}
use Rattle.refined_programs.specs.refinement.Sections.{Copy, passes, fails, facts_in, facts_of}
use Rattle.refined_programs.specs.refinement.Sections as plain
use Rattle.refined_programs.specs.refinement.Obligations.{ReadsFirst, guard_along, guard_with_failure, IsShownAt, AreCasesShown}
use Rattle.refined_programs.specs.refinement.Obligations.{IsBranchOf, IsBranchShown, HasBranch}
use Rattle.refined_programs.specs.its_model.Valid.{IsValid}
use Rattle.refined_programs.proofs.its_model.ValidLaws.{arities_agree}
use Rattle.refinement_rows.specs.guard_prep.Laws.{IsPreparable}
use Rattle.refinement_rows.specs.guard_prep.Prepared.{rows_of}
use Rattle.refinement_rows.specs.linear_forms.Certificates.{Implies, minus_one}
use Rattle.refinement_rows.specs.Certified.{with_guard, IsRefuted, IsCertified}
use Rattle.refinement_rows.proofs.guard_prep.StepLaws.{preparable}
use Rattle.refined_programs.specs.Annotated as annotated
use Rattle.refined_programs.specs.Annotated.{Cases, To, Never, If, Branch, Section, form_term, copy_of, cases_of}
use Rattle.refined_programs.specs.Annotated.{branch_of, section_of}
use Rattle.refined_programs.specs.Ends.{End, ends}
use Rattle.cert_rules.specs.Reasons.{AllPass}
use Rattle.section_checks.specs.Faults.{IsWide, fact_checks, due, ends_of, FitsAt, fact_obligations, IsWithinLimits}
use Rattle.section_checks.specs.Faults.{IsAccepted}
use Rattle.section_checks.proofs.DueLaws.{has-due, IsDue, due-is, branch-due, due-branch}
use Rattle.section_checks.proofs.EndLaws.{IsMet, IsEndMet, IsBranchEndMet, ends-met, front-all, rest-all, cases-met}
use Rattle.section_checks.proofs.FormLaws.{forms-read}

-- the facts of a copy have as many coefficients as its symbol has places
facts-wide : (p : Program) (k : ℕ) (copies : List annotated.Copy) (j : ℕ) (c : annotated.Copy)
    → AllPass (fact_checks p k copies) → slice_get copies j ≡ Some c
    → AllByRecursion (IsWide (arity_of p c.over)) c.facts
facts-wide p k [] j c pass e = absurd (none_some c e)
facts-wide p k (a ∷ copies) zero c pass e =
    subst (λ (x : annotated.Copy). AllByRecursion (IsWide (arity_of p x.over)) x.facts) (some_same a c e) pass.0
facts-wide p k (a ∷ copies) (suc j) c pass e = facts-wide p (suc k) copies j c pass.1 e

-- a rule within the limits whose updates and variables are those of a preparable rule is preparable
pub prepared-with : (r : Rule) (atoms : List Atom) → IsPreparable r → IsWithinLimits (with_guard r atoms)
    → IsPreparable (with_guard r atoms)
prepared-with r atoms h within = record {
  few_variables = h.few_variables;
  few_atoms = omega (arith, within.few_atoms);
  few_updates = h.few_updates;
  guard = within.guard;
  updates = h.updates;
}

-- a met obligation refutes the atoms of its guard
module _ (r : Rule) (prepared : IsPreparable r) where
  met-refuted : (atoms : List Atom) (by : List ℕ) → IsWithinLimits (with_guard r atoms)
      → Implies (rows_of (with_guard r atoms)) by minus_one → IsRefuted r atoms
  met-refuted atoms by within shows = record {
    multipliers = by;
    refutes = record { preparable = prepared-with r atoms prepared within; shows = shows };
  }

  -- the obligations of a copy's facts refute each denied fact
  facts-refuted : (n j : ℕ) (atoms : List Atom) (facts : List Term) (by : List (List ℕ)) → length by ≡ length facts
      → AllByRecursion IsMet (fact_obligations n j r atoms facts by)
      → AllByRecursion (λ f. IsRefuted r (guard_with_failure r atoms f)) facts
  facts-refuted n j atoms [] by long met = tt
  facts-refuted n j atoms (f ∷ facts) [] long met = absurd (omega (arith, long))
  facts-refuted n j atoms (f ∷ facts) (ms ∷ by) long met = (
    met-refuted (guard_with_failure r atoms f) ms met.0.within met.0.shows,
    facts-refuted n (suc j) atoms facts by (omega (arith, long)) met.1,
  )

  -- an end at a copy is shown
  copy-shown : (section : plain.Section) (atoms : List Atom) (k n : ℕ) (by : List (List ℕ)) (o : Option Copy)
      → slice_get section.copies k ≡ o → FitsAt o (Some r) by
      → AllByRecursion IsMet (fact_obligations n 1 r atoms (facts_in o) by) → IsShownAt IsRefuted section r atoms k
  copy-shown section atoms k n by None e fits met = absurd fits
  copy-shown section atoms k n by (Some copy) e fits met = record {
    copy = copy;
    there = e;
    target = fits.target;
    facts = All-from_recursion (λ f. IsRefuted r (guard_with_failure r atoms f)) copy.facts
        (facts-refuted n 1 atoms copy.facts by fits.lists met);
  }

  -- cases whose ends meet their obligations are shown
  cases-shown : (section : plain.Section) (atoms : List Atom) (c : Cases)
      → AllByRecursion (IsEndMet section.copies (Some r)) (ends atoms c)
      → AreCasesShown IsRefuted section r atoms (cases_of c)
  cases-shown section atoms (To k by) met =
      copy-shown section atoms k met.0.number by (slice_get section.copies k) refl met.0.fits met.0.met
  cases-shown section atoms (Never by) met =
      met-refuted (guard_along r atoms) by met.0.met.0.within met.0.met.0.shows
  cases-shown section atoms (If test yes_cases no_cases) met =
      let P : End → Type 0 = IsEndMet section.copies (Some r) in
      let above : List Atom = atoms ++ passes (form_term test) ∷ [] in
      let below : List Atom = atoms ++ fails (form_term test) ∷ [] in (
        cases-shown section above yes_cases (front-all P (ends above yes_cases) (ends below no_cases) met),
        cases-shown section below no_cases (rest-all P (ends above yes_cases) (ends below no_cases) met),
      )

module _ (p : Program) (s : Section) (valid : IsValid p) (accepted : IsAccepted p s) where
  -- a required branch is one of its rule at its copy
  pub branch-of : (b : Branch) → Contains s.branches b
      → (c : annotated.Copy) × (r : Rule) × IsBranchOf p (section_of s) (branch_of b) (copy_of c) r
  branch-of b member =
      let (d, found) = branch-due 1 s.branches (due p 0 s.copies) accepted.1.1.0 b member in
      let f : IsDue p 0 s.copies d = due-is p 0 s.copies d found.listed in
      let source : b.source ≡ f.position = omega (arith, found.source, f.source) in
      let there : slice_get (map copy_of s.copies) b.source ≡ Some (copy_of f.copy) =
      ap (slice_get (map copy_of s.copies)) source
      ∙ (slice_get-map copy_of s.copies f.position
      ∙ ap (λ (o : Option annotated.Copy). option_map copy_of o) f.there) in
      let numbered : rule_at p b.rule ≡ Some f.rule = ap (rule_at p) found.rule ∙ f.numbered in
      let left : f.rule.left ≡ arity_of p f.copy.over =
      (arities_agree p valid).left b.rule f.rule numbered ∙ ap (arity_of p) f.leaves in
      let wide = facts-wide p 1 s.copies f.position f.copy accepted.1.0 f.there in
      let read : AllByRecursion (λ a. ReadsFirst f.rule.left (form_term a)) f.copy.facts =
      subst (λ (n : ℕ). AllByRecursion (λ a. ReadsFirst n (form_term a)) f.copy.facts) (sym left)
      (forms-read (arity_of p f.copy.over) f.copy.facts wide) in (
        f.copy,
        f.rule,
        record {
          there = there;
          numbered = numbered;
          leaves = f.leaves;
          over_left = All-map (ReadsFirst f.rule.left) form_term f.copy.facts
              (All-from_recursion (λ a. ReadsFirst f.rule.left (form_term a)) f.copy.facts read);
        },
      )

  -- all ends meet their obligations
  all-met : AllByRecursion (IsBranchEndMet (map copy_of s.copies)) (ends_of p s s.branches)
  all-met = ends-met (map copy_of s.copies) 1 (ends_of p s s.branches) accepted.1.1.1.1.0
      accepted.1.1.1.1.1.1.0 accepted.1.1.1.1.1.1.1

  -- each branch is shown
  branch-shown : (b : Branch) → Contains s.branches b → IsBranchShown IsRefuted p (section_of s) (branch_of b)
  branch-shown b member =
      let (c, r, fits) = branch-of b member in
      let met = cases-met (map copy_of s.copies) p s s.branches b r member fits.numbered all-met in
      let shown : AreCasesShown IsRefuted (section_of s) r (map passes (facts_of (section_of s) b.source)) (cases_of b.cases) =
      cases-shown r (preparable p b.rule r valid fits.numbered) (section_of s)
      (map passes (facts_of (section_of s) b.source)) b.cases met in
      record {
        copy = copy_of c;
        rule = r;
        fits = fits;
        cases = subst (λ (fs : List Term). AreCasesShown IsRefuted (section_of s) r (map passes fs) (cases_of b.cases))
            (ap facts_in fits.there) shown;
      }

  -- no branch is missing
  has-branch : (k : ℕ) (copy : Copy) (t : ℕ) (r : Rule) → slice_get (map copy_of s.copies) k ≡ Some copy
      → rule_at p t ≡ Some r → r.source ≡ copy.over → HasBranch (section_of s) k t
  has-branch k copy zero r there numbered leaves = absurd (none_some r numbered)
  has-branch k copy (suc i) r there numbered leaves =
      go (slice_get s.copies k) refl (sym (slice_get-map copy_of s.copies k) ∙ there)
    where
      from : (c : annotated.Copy) → slice_get s.copies k ≡ Some c → copy_of c ≡ copy
          → HasBranch (section_of s) k (suc i)
      from c e same =
          let member = has-due p 0 s.copies k c i r e numbered (leaves ∙ ap (λ (x : Copy). x.over) (sym same)) in
          let (b, found) = due-branch 1 s.branches (due p 0 s.copies) accepted.1.1.0
          (record { source = 0 + k; rule = suc i }) member in
          record {
            branch = branch_of b;
            member = map-contains branch_of s.branches b found.branch;
            source = omega (arith, found.source);
            rule = found.rule;
          }

      go : (o : Option annotated.Copy) → slice_get s.copies k ≡ o → option_map copy_of o ≡ Some copy
          → HasBranch (section_of s) k (suc i)
      go None e f = absurd (none_some copy f)
      go (Some c) e f = from c e (some_same (copy_of c) copy f)

  pub certified : IsCertified p (section_of s)
  certified = record {
    first = accepted.0.0;
    branches = All-map (IsBranchShown IsRefuted p (section_of s)) branch_of s.branches
        (λ k d low. branch-shown (slice_index_or s.branches k d) (Contains-get_or s.branches k d low));
    complete = record { each = has-branch };
  }
