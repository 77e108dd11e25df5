-- Two lists of statements that are merged, one step after another.
use Rattle.std.proofs.Common.{◌≡◌, ◌++◌, ◌∙◌, ◌<◌, ◌+◌, ℕ, suc, List, [], ◌∷◌, map, length, drop, get_or, drop-cons, add-one}
use Rattle.std.proofs.Common.{ap, sym, subst}
use Rattle.std.proofs.lemmas.List.{map-append}
use Rattle.program_claims.specs.Claims.{Stated}
use Rattle.claims_check.specs.declared.statement.Statement.{Statement}
use Rattle.claims_check.specs.Views.{stated_of}
use Rattle.best_bounds.specs.Subjects.{KeepsSubjects}
use Rattle.best_bounds.proofs.SubjectLists.{keeps_step}

-- the statements of lists of the code
abbrev stated_in : List Statement → List Stated
stated_in statements = map stated_of statements

-- One statement of the first list is taken, behind those of the second one that come before it. What is done, and left of
-- both lists, kept the subjects of all before; with a copy of the statement that stands for it at the end, it keeps them.
pub merging_goes_on : (known found : List Statement) (i : ℕ) (item best copy : Statement)
    (done left done_then left_then others pushed : List Statement)
    → i < length known → item ≡ get_or known i item
    → KeepsSubjects (stated_in known ++ stated_in found) (stated_in done ++ (stated_in (drop i known) ++ stated_in left))
    → stated_in done_then ++ stated_in left_then ≡ stated_in done ++ stated_in left
    → KeepsSubjects (stated_of item ∷ stated_in left_then) (stated_of best ∷ stated_in others)
    → stated_of copy ≡ stated_of best
    → pushed ≡ done_then ++ (copy ∷ [])
    → KeepsSubjects (stated_in known ++ stated_in found)
    (stated_in pushed ++ (stated_in (drop (i + 1) known) ++ stated_in others))
merging_goes_on known found i item best copy done left done_then left_then others pushed within is h moved one same put =
    let begins : drop i known ≡ item ∷ drop (suc i) known =
    drop-cons known i item within ∙ ap (λ (s : Statement). s ∷ drop (suc i) known) (sym is) in
    let from : KeepsSubjects (stated_in known ++ stated_in found)
    (stated_in done ++ ((stated_of item ∷ stated_in (drop (suc i) known)) ++ stated_in left)) =
    subst (λ (ss : List Statement).
    KeepsSubjects (stated_in known ++ stated_in found) (stated_in done ++ (stated_in ss ++ stated_in left))) begins h in
    let step =
    keeps_step (stated_in known ++ stated_in found) (stated_in done) (stated_in left) (stated_in done_then)
    (stated_in left_then) (stated_in others) (stated_in (drop (suc i) known)) (stated_of item) (stated_of best) from moved
    one in
    let written : stated_in pushed ≡ stated_in done_then ++ (stated_of best ∷ []) =
    ap (λ (ss : List Statement). stated_in ss) put
    ∙ (map-append stated_of done_then (copy ∷ []) ∙ ap (λ (s : Stated). stated_in done_then ++ (s ∷ [])) same) in
    let behind : drop (suc i) known ≡ drop (i + 1) known = ap (λ (j : ℕ). drop j known) (sym (add-one i)) in
    subst (λ (ss : List Statement).
    KeepsSubjects (stated_in known ++ stated_in found) (stated_in pushed ++ (stated_in ss ++ stated_in others))) behind
    (subst (λ (ss : List Stated).
    KeepsSubjects (stated_in known ++ stated_in found) (ss ++ (stated_in (drop (suc i) known) ++ stated_in others)))
    (sym written) step)
