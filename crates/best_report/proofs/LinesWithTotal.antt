-- Lines with another bound on all steps.
use Rattle.std.proofs.Common.{◌≡◌, ◌∙◌, ◌++◌, ℕ, List, [], ◌∷◌, map, Option, Some, None, refl, sym, ap}
use Rattle.std.proofs.lemmas.List.{map-append}
use Rattle.std.specs.Prelude.{IfSome}
use Rattle.std.specs.List.{AllByRecursion}
use Rattle.its_model.specs.model.Terms.{Term}
use Rattle.its_model.specs.model.Programs.{Program}
use Rattle.signed_bounds.specs.Bounds.{Signed}
use Rattle.program_claims.specs.Claims.{HoldsOf}
use Rattle.best_report.specs.declared.line.Line as code
use Rattle.best_report.specs.declared.subject.Subject.{Subject}
use Rattle.best_report.specs.declared.subject.Subject.TheVariants.{Time, Cost, Total, Above, Below}
use Rattle.best_report.specs.Subjects.{stated_by}
use Rattle.best_report.specs.Statements.{first_of}
use Rattle.best_report.specs.Lines.{Line, line_of, LinesHold, LineHolds}
use Rattle.best_report.specs.Spending.{line_bound, bound_at, spending_subject, sum_within_limits, sum_of_spendings}
use Rattle.best_report.specs.Spending.{on_all_steps, with_bound_on_all, with_total}
use Rattle.best_report.proofs.SpendingTables.{bounds-same}
use Rattle.best_report.proofs.SpendingSums.{total-holds}

-- one more line is made of one more
pub more-made : (f : Line → Line) (old new xs : List code.Line) (x y : code.Line) → new ≡ old ++ y ∷ []
    → line_of y ≡ f (line_of x) → map line_of old ≡ map f (map line_of xs)
    → map line_of new ≡ map f (map line_of (xs ++ x ∷ []))
more-made f old new xs x y is made h =
    ap (map line_of) is
    ∙ (map-append line_of old (y ∷ [])
    ∙ (ap (λ (ls : List Line). ls ++ line_of y ∷ []) h
    ∙ (ap (λ (l : Line). map f (map line_of xs) ++ l ∷ []) made
    ∙ sym (ap (map f) (map-append line_of xs (x ∷ [])) ∙ map-append f (map line_of xs) (line_of x ∷ [])))))

-- a bound on all steps is none on what a rule spends
not-spending : (b : Option Signed) (t : ℕ) (o : Option Term) → line_bound Total b (spending_subject t o) ≡ None
not-spending None t o = refl
not-spending (Some b) t None = refl
not-spending (Some b) t (Some c) = refl

line-same : (sum b : Option Signed) (k : Subject) (t : ℕ) (o : Option Term)
    → line_bound k (first_of b (on_all_steps sum k)) (spending_subject t o) ≡ line_bound k b (spending_subject t o)
line-same sum (Some b) k t o = refl
line-same sum None (Time u) t o = refl
line-same sum None (Cost u) t o = refl
line-same sum None Total t o = not-spending sum t o
line-same sum None (Above u i) t o = refl
line-same sum None (Below u i) t o = refl

-- the bounds on what rules spend are the same
spending-same : (sum : Option Signed) (lines : List Line) (t : ℕ) (o : Option Term)
    → bound_at (map (with_bound_on_all sum) lines) (spending_subject t o) ≡ bound_at lines (spending_subject t o)
spending-same sum [] t o = refl
spending-same sum (l ∷ lines) t o =
    ap (λ (b : Option Signed). first_of b (bound_at (map (with_bound_on_all sum) lines) (spending_subject t o)))
    (line-same sum l.bound l.subject t o)
    ∙ ap (first_of (line_bound l.subject l.bound (spending_subject t o))) (spending-same sum lines t o)

-- and so is their sum
pub sum-same : (p : Program) (lines : List Line) → sum_of_spendings p (with_total p lines) ≡ sum_of_spendings p lines
sum-same p lines =
    ap sum_within_limits
    (bounds-same (bound_at (with_total p lines)) (bound_at lines) (spending-same (sum_of_spendings p lines) lines) 1 p.rules)

-- the lines are on the same subjects
pub subjects-same : (sum : Option Signed) (lines : List Line)
    → map (λ l. l.subject) (map (with_bound_on_all sum) lines) ≡ map (λ l. l.subject) lines
subjects-same sum [] = refl
subjects-same sum (l ∷ lines) = ap (λ (ss : List Subject). l.subject ∷ ss) (subjects-same sum lines)

-- what each line has, each line has that is made of one
pub each-made : (P Q : Line → Type 0) (f : Line → Line) → ((l : Line) → P l → Q (f l)) → (lines : List Line)
    → AllByRecursion P lines → AllByRecursion Q (map f lines)
each-made P Q f h [] all = tt
each-made P Q f h (l ∷ lines) (one, all) = (h l one, each-made P Q f h lines all)

-- the same by two properties
pub each-made-by : (P R Q : Line → Type 0) (f : Line → Line) → ((l : Line) → P l → R l → Q (f l)) → (lines : List Line)
    → AllByRecursion P lines → AllByRecursion R lines → AllByRecursion Q (map f lines)
each-made-by P R Q f h [] all others = tt
each-made-by P R Q f h (l ∷ lines) (one, all) (other, others) = (h l one other, each-made-by P R Q f h lines all others)

module _ (p : Program) where
  -- a line with a sum that holds on all steps holds
  line-total-holds : (sum b : Option Signed) (k : Subject) → IfSome sum (λ c. HoldsOf p (stated_by Total c))
      → IfSome b (λ c. HoldsOf p (stated_by k c)) → IfSome (first_of b (on_all_steps sum k)) (λ c. HoldsOf p (stated_by k c))
  line-total-holds sum (Some b) k g h = h
  line-total-holds sum None (Time t) g h = tt
  line-total-holds sum None (Cost t) g h = tt
  line-total-holds sum None Total g h = g
  line-total-holds sum None (Above t i) g h = tt
  line-total-holds sum None (Below t i) g h = tt

  -- lines that hold, hold with the sum of what the rules spend by them
  pub lines-total-hold : (lines : List Line) → LinesHold p lines → LinesHold p (with_total p lines)
  lines-total-hold lines hold =
      each-made (λ l. LineHolds p l) (λ l. LineHolds p l) (with_bound_on_all (sum_of_spendings p lines))
      (λ l h. line-total-holds (sum_of_spendings p lines) l.bound l.subject (total-holds p lines hold) h) lines hold
