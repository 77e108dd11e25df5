-- The ends at copies are the paths to copies, and their rules those of the branch.
use Rattle.std.proofs.Common.{◌≡◌, List, [], ◌∷◌, ◌++◌, map, Option, Some, refl, sym, ◌∙◌, ap, append_assoc}
use Rattle.std.specs.Prelude.{Result, Ok, Err, OnOk}
use Rattle.refinement.specs.model.Programs.{Atom, Rule, Program, rule_at}
use Rattle.refinement.specs.Sections.{Branch, Section, Path, passes, fails, paths, facts_of, rule_along}
use Rattle.refinement.specs.Sections.{copies_along, copies_by}
use Rattle.refinement.specs.Sections as plain
use Rattle.refined_programs.specs.Annotated.{Cases, To, Never, If, form_term}
use Rattle.refined_programs.specs.Annotated as annotated
use Rattle.refined_programs.specs.Ends.{End, path_of, paths_of, ends}
use Rattle.refined_programs.specs.declared.section.Branch as declared
use Rattle.refined_programs.specs.Views.{cases_of, branch_of, annotated_cases}
use Rattle.refined_programs.proofs.AnnotatedLaws.{cases-agree}

-- the paths of two lists of ends joined are those of the first and then those of the second
pub paths-append : (xs ys : List End) → paths_of (xs ++ ys) ≡ paths_of xs ++ paths_of ys
paths-append [] ys = refl
paths-append (e ∷ xs) ys =
    ap (λ (ps : List Path). path_of e.atoms e.goal ++ ps) (paths-append xs ys)
    ∙ sym (append_assoc (path_of e.atoms e.goal) (paths_of xs) (paths_of ys))

-- the ends at copies are the paths through the cases
pub paths-ends : (atoms : List Atom) (c : Cases) → paths_of (ends atoms c) ≡ paths atoms (annotated.cases_of c)
paths-ends atoms (To copy by) = refl
paths-ends atoms (Never by) = refl
paths-ends atoms (If test yes_cases no_cases) =
    let above : List Atom = atoms ++ passes (form_term test) ∷ [] in
    let below : List Atom = atoms ++ fails (form_term test) ∷ [] in
    paths-append (ends above yes_cases) (ends below no_cases)
    ∙ (ap (λ (ps : List Path). ps ++ paths_of (ends below no_cases)) (paths-ends above yes_cases)
    ∙ ap (λ (ps : List Path). paths above (annotated.cases_of yes_cases) ++ ps) (paths-ends below no_cases))

-- the copies of a rule along paths are rules along them
pub rules-along : (b : Branch) (r : Rule) (ps : List Path)
    → map (λ c. c.rule) (copies_along b (Some r) ps) ≡ map (rule_along b.source r) ps
rules-along b r [] = refl
rules-along b r (path ∷ ps) = ap (λ (rs : List Rule). rule_along b.source r path ∷ rs) (rules-along b r ps)

-- the rules along the ends of a branch at copies are the copies of its rule
pub branch-rules : (p : Program) (section : Section) (b : declared.Branch) (r : Rule) (es : List End)
    → es ≡ ends (map passes (facts_of section b.source)) (annotated_cases b.cases) → Some r ≡ rule_at p b.rule
    → map (rule_along b.source r) (paths_of es) ≡ map (λ c. c.rule) (copies_by p section (branch_of b))
branch-rules p section b r es e numbered =
    let atoms : List Atom = map passes (facts_of section b.source) in
    let ways : List Path = paths atoms (cases_of b.cases) in
    let found : paths_of es ≡ ways =
    ap paths_of e ∙ (paths-ends atoms (annotated_cases b.cases)
    ∙ ap (λ (c : plain.Cases). paths atoms c) (cases-agree b.cases)) in
    ap (λ (ps : List Path). map (rule_along b.source r) ps) found
    ∙ (sym (rules-along (branch_of b) r ways)
    ∙ ap (λ (o : Option Rule). map (λ c. c.rule) (copies_along (branch_of b) o ways)) numbered)

-- a property that another one implies holds of an `Ok` result of which the other holds
pub ok-then : {A E : Type 0} (r : Result A E) (P Q : Type 0) → (P → Q) → OnOk r P → OnOk r Q
ok-then (Ok x) P Q f h = f h
ok-then (Err e) P Q f h = tt
