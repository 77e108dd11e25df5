use Rattle.std.proofs.Common.{◌≡◌, ◌⊎◌, inl, inr, List, ◌∷◌, map, ap, sym, subst}
use Rattle.claims_check.specs.declared.statement.Statement.{Statement}
use Rattle.claims_check.specs.Views.{stated_of}
use Rattle.best_bounds.specs.Subjects.{KeepsSubjects}
use Rattle.best_bounds.proofs.SubjectLists.{keeps_one}
use Rattle.best_bounds.proofs.merging.better_statement.Goals as goal

-- what is one of two statements states what that one states
states-one : (x s rival : Statement) → (x ≡ s) ⊎ (x ≡ rival)
    → (stated_of x ≡ stated_of s) ⊎ (stated_of x ≡ stated_of rival)
states-one x s rival (inl e) = inl (ap stated_of e)
states-one x s rival (inr e) = inr (ap stated_of e)

pub returns-then-is_on_same : goal.returns-then-is_on_same
returns-then-is_on_same c =
    let one = states-one c.with_lesser_bound.result.now c.args.statement.now c.in-Some.rival.now c.with_lesser_bound.ensures in
    let kept =
    keeps_one (stated_of c.args.statement.now) (stated_of c.in-Some.rival.now) (stated_of c.with_lesser_bound.result.now)
    (map stated_of c.in-Some.others.now) (c.is_on_same.ensures c.if-is_on_same.true) one in
    subst (λ (xs : List Statement).
    KeepsSubjects (stated_of c.args.statement.now ∷ map stated_of xs)
    (stated_of c.with_lesser_bound.result.now ∷ map stated_of c.in-Some.others.now)) (sym c.in-Some.ensures.cases.0) kept
