-- The plain data of a section with its multipliers, without them, is the plain data of the section.
use Rattle.std.proofs.Common.{◌≡◌, List, [], ◌∷◌, map, refl, ◌∙◌, ap}
use Rattle.refinement.specs.model.Terms.{Term}
use Rattle.refinement.specs.Sections as plain
use Rattle.its_model.specs.Views.{name_of}
use Rattle.refined_programs.specs.declared.affine.Affine.{Affine}
use Rattle.refined_programs.specs.declared.section.SymbolCopy.{SymbolCopy}
use Rattle.refined_programs.specs.declared.section.Cases.{Cases}
use Rattle.refined_programs.specs.declared.section.Cases.TheVariants.{To, Never, If'}
use Rattle.refined_programs.specs.declared.section.Branch.{Branch}
use Rattle.refined_programs.specs.declared.section.Section.{Section}
use Rattle.refined_programs.specs.Affine.{affine_of}
use Rattle.refined_programs.specs.Annotated as annotated
use Rattle.refined_programs.specs.Annotated.{form_term}
use Rattle.refined_programs.specs.Views.{copy_of, cases_of, branch_of, section_of, affine_form, annotated_copy}
use Rattle.refined_programs.specs.Views.{annotated_cases, annotated_branch, annotated_of}

-- the facts of a copy agree in both views
pub facts-agree : (facts : List Affine) → map form_term (map affine_form facts) ≡ map affine_of facts
facts-agree [] = refl
facts-agree (f ∷ facts) = ap (λ (ts : List Term). affine_of f ∷ ts) (facts-agree facts)

-- a copy agrees in both views
pub copy-agrees : (c : SymbolCopy) → annotated.copy_of (annotated_copy c) ≡ copy_of c
copy-agrees c = ap (λ (ts : List Term). record { name = name_of c.name; over = c.over; facts = ts }) (facts-agree c.facts.items)

-- cases agree in both views
pub cases-agree : (c : Cases) → annotated.cases_of (annotated_cases c) ≡ cases_of c
cases-agree (To copy by) = refl
cases-agree (Never by) = refl
cases-agree (If' test p yes_cases q no_cases) =
    ap (λ (c : plain.Cases). plain.If (affine_of test) c (annotated.cases_of (annotated_cases no_cases)))
    (cases-agree yes_cases)
    ∙ ap (λ (c : plain.Cases). plain.If (affine_of test) (cases_of yes_cases) c) (cases-agree no_cases)

-- copies and branches agree in both views, one by one
pub copies-agree : (cs : List SymbolCopy) → map annotated.copy_of (map annotated_copy cs) ≡ map copy_of cs
copies-agree [] = refl
copies-agree (c ∷ cs) =
    ap (λ (x : plain.Copy). x ∷ map annotated.copy_of (map annotated_copy cs)) (copy-agrees c)
    ∙ ap (λ (xs : List plain.Copy). copy_of c ∷ xs) (copies-agree cs)

branch-agrees : (b : Branch) → annotated.branch_of (annotated_branch b) ≡ branch_of b
branch-agrees b =
    ap (λ (c : plain.Cases). record { source = b.source; rule = b.rule; cases = c }) (cases-agree b.cases)

branches-agree : (bs : List Branch) → map annotated.branch_of (map annotated_branch bs) ≡ map branch_of bs
branches-agree [] = refl
branches-agree (b ∷ bs) =
    ap (λ (x : plain.Branch). x ∷ map annotated.branch_of (map annotated_branch bs)) (branch-agrees b)
    ∙ ap (λ (xs : List plain.Branch). branch_of b ∷ xs) (branches-agree bs)

-- a section agrees in both views
pub section-agrees : (s : Section) → annotated.section_of (annotated_of s) ≡ section_of s
section-agrees s =
    ap (λ (cs : List plain.Copy). record { copies = cs; branches = map annotated.branch_of (map annotated_branch s.branches.items) })
    (copies-agree s.copies.items)
    ∙ ap (λ (bs : List plain.Branch). record { copies = map copy_of s.copies.items; branches = bs })
    (branches-agree s.branches.items)
