-- Where lines hold, the sum of what the rules spend by them bounds what all steps cost.
use Rattle.std.proofs.Common.{◌≡◌, ◌∙◌, ℕ, suc, ◌+◌, ◌≤◌, Bool, true, false, List, [], ◌∷◌, length, Option, Some, None}
use Rattle.std.proofs.Common.{refl, sym, ap, subst, arith}
use Rattle.std.specs.Prelude.{ℤ, IfSome, if◌then◌else◌, slice_get}
use Rattle.std.specs.List.{range_with_len, sum_by}
use Rattle.std.proofs.lemmas.List.Sums.{sum_by-cons}
use Rattle.its_model.specs.model.Terms.{Term}
use Rattle.its_model.specs.model.Programs.{Program, Rule, rule_at}
use Rattle.its_model.specs.model.Runs.{Config, Step, IsRun}
use Rattle.its_model.specs.model.Spending.{spent, spent_all}
use Rattle.model.proofs.CostLaws.{plain_spend}
use Rattle.model.proofs.SpendingSums.{spending_is_by_rules}
use Rattle.signed_bounds.specs.Bounds.{Signed, SumOf, signed_val, signed_sum}
use Rattle.signed_bounds.specs.Measure.{exceeds_limits}
use Rattle.signed_bounds.specs.Views.{parts_of}
use Rattle.program_claims.specs.Claims.{HoldsOf}
use Rattle.program_claims.specs.Claims as claims
use Rattle.best_report.specs.declared.subject.Subject.{Subject}
use Rattle.best_report.specs.declared.subject.Subject.TheVariants.{Total}
use Rattle.best_report.specs.Subjects.{stated_by}
use Rattle.best_report.specs.Statements.{bound_on, first_of}
use Rattle.best_report.specs.Lines.{Line, LinesHold}
use Rattle.best_report.specs.Spending.{line_bound, bound_at, spending_subject, before, spending_bounds}
use Rattle.best_report.specs.Spending.{sum_within_limits, sum_of_spendings}
use Rattle.best_report.proofs.Statements.{of-subject}

-- a sum over as many numbers as a list has rules, from k on
sum_along : (ℕ → ℕ) → ℕ → List Rule → ℕ
sum_along f k [] = 0
sum_along f k (r ∷ rs) = f k + sum_along f (suc k) rs

-- this is the sum over these numbers
along : (f : ℕ → ℕ) (k : ℕ) (rs : List Rule) → sum_along f k rs ≡ sum_by f (range_with_len k (length rs))
unfolding sum_along
along f k [] = refl
along f k (r ∷ rs) =
    ap (λ (n : ℕ). f k + n)
    (along f (suc k) rs ∙ ap (λ (n : ℕ). sum_by f (range_with_len n (length rs))) (let e : suc k ≡ k + 1 = omega arith in e))
    ∙ sym (sum_by-cons f k (range_with_len (k + 1) (length rs)))

-- bounds that are all there have a first one and others
first-there : (o : Option Signed) (rest : Option (List Signed)) (bs : List Signed) → before o rest ≡ Some bs
    → (b : Signed) × (cs : List Signed) × (o ≡ Some b) × (rest ≡ Some cs) × (bs ≡ b ∷ cs)
first-there None rest bs e = cc
first-there (Some b) None bs e = cc
first-there (Some b) (Some cs) bs e =
    let same : bs ≡ b ∷ cs = cc in
    (b, cs, refl, refl, same)

-- numbers that are at most the values of the bounds add up to at most the value of their sum
sum-within : (x : List ℤ) (g : Subject → Option Signed) (rs : List Rule) (bs : List Signed) (f : ℕ → ℕ) (k : ℕ)
    → spending_bounds g k rs ≡ Some bs
    → ((i t : ℕ) (r : Rule) (b : Signed) → t ≡ k + i → slice_get rs i ≡ Some r → g (spending_subject t r.cost) ≡ Some b
    → f t ≤ signed_val b x)
    → sum_along f k rs ≤ signed_sum (parts_of bs) x
unfolding sum_along
sum-within x g [] bs f k e h = omega arith
sum-within x g (r ∷ rs) bs f k e h =
    let first = first-there (g (spending_subject k r.cost)) (spending_bounds g (suc k) rs) bs e in
    let here = h 0 k r first.0 (omega arith) refl first.2 in
    let rest = sum-within x g rs first.1 f (suc k) first.3 (λ i t q b is at there. h (suc i) t q b (omega (arith, is)) at there) in
    let whole : signed_sum (parts_of bs) x ≡ signed_val first.0 x + signed_sum (parts_of first.1) x =
    ap (λ (cs : List Signed). signed_sum (parts_of cs) x) first.4 in
    omega (arith, here, rest, whole)

-- what holds of a bound, if it is there, holds of it
if-there : (o : Option Signed) (b : Signed) (P : Signed → Type 0) → o ≡ Some b → IfSome o P → P b
if-there o b P e h = subst (λ (q : Option Signed). IfSome q P) e h

-- what holds of two bounds holds of the first
of-first : (o rest : Option Signed) (P : Signed → Type 0) → IfSome o P → IfSome rest P → IfSome (first_of o rest) P
of-first None rest P h k = k
of-first (Some b) rest P h k = h

module _ (p : Program) where
  -- the bound of a line that holds, on the subject, holds as a bound on it
  line-bound-holds : (k s : Subject) (o : Option Signed) → IfSome o (λ b. HoldsOf p (stated_by k b))
      → IfSome (line_bound k o s) (λ b. HoldsOf p (stated_by s b))
  line-bound-holds k s None h = tt
  line-bound-holds k s (Some b) h = go (bound_on (stated_by k b) s) (of-subject k s b)
    where
      go : (o : Option Signed) → IfSome o (λ c. stated_by k b ≡ stated_by s c) → IfSome o (λ c. HoldsOf p (stated_by s c))
      go None same = tt
      go (Some c) same = subst (λ (y : claims.Stated). HoldsOf p y) same h

  bound-holds : (lines : List Line) (s : Subject) → LinesHold p lines
      → IfSome (bound_at lines s) (λ b. HoldsOf p (stated_by s b))
  bound-holds [] s hold = tt
  bound-holds (l ∷ lines) s (holds, hold) =
      of-first (line_bound l.subject l.bound s) (bound_at lines s) (λ b. HoldsOf p (stated_by s b))
      (line-bound-holds l.subject s l.bound holds) (bound-holds lines s hold)

  -- a bound that holds on the subject of what a rule spends bounds that
  spends : (t : ℕ) (r : Rule) (b : Signed) → rule_at p t ≡ Some r → HoldsOf p (stated_by (spending_subject t r.cost) b)
      → (start : List ℤ) (steps : List Step) (c : Config) → IsRun p start steps c → spent p t start steps ≤ signed_val b start
  spends t r b at h start steps c run = go r.cost refl h
    where
      go : (o : Option Term) → r.cost ≡ o → HoldsOf p (stated_by (spending_subject t o) b)
          → spent p t start steps ≤ signed_val b start
      go None e holds =
          let occurs = holds.each start steps c run in
          omega (arith, occurs, plain_spend.each p t r at e start steps)
      go (Some w) e holds = holds.each start steps c run

  -- the rule at a position has the next number
  numbered : (i t : ℕ) (r : Rule) → t ≡ 1 + i → slice_get p.rules i ≡ Some r → rule_at p t ≡ Some r
  numbered i t r is at =
      let next : t ≡ suc i = omega (arith, is) in
      ap (λ (n : ℕ). rule_at p n) next ∙ at

  -- the sum of the bounds on what each rule spends bounds what all steps cost
  sum-holds : (lines : List Line) (bs : List Signed) → LinesHold p lines
      → spending_bounds (bound_at lines) 1 p.rules ≡ Some bs → HoldsOf p (stated_by Total (SumOf (parts_of bs)))
  sum-holds lines bs hold e = record {
    each = λ start steps c run.
        let within = sum-within start (bound_at lines) p.rules bs (λ t. spent p t start steps) 1 e (λ i t r b is at there.
        spends t r b (numbered i t r is at) (if-there (bound_at lines (spending_subject t r.cost)) b
        (λ d. HoldsOf p (stated_by (spending_subject t r.cost) d)) there
        (bound-holds lines (spending_subject t r.cost) hold)) start steps c run) in
        let numbers = along (λ t. spent p t start steps) 1 p.rules in
        let all : spent_all p start steps ≤ signed_sum (parts_of bs) start =
        omega (arith, within, numbers, spending_is_by_rules.each p start steps) in
        all;
  }

  -- and so does the sum within the limits, if there is one
  pub total-holds : (lines : List Line) → LinesHold p lines
      → IfSome (sum_of_spendings p lines) (λ b. HoldsOf p (stated_by Total b))
  total-holds lines hold = go (spending_bounds (bound_at lines) 1 p.rules) refl
    where
      limited : (b : Signed) (v : Bool) → HoldsOf p (stated_by Total b)
          → IfSome (if v then None else Some b) (λ c. HoldsOf p (stated_by Total c))
      limited b true h = tt
      limited b false h = h

      go : (o : Option (List Signed)) → spending_bounds (bound_at lines) 1 p.rules ≡ o
          → IfSome (sum_within_limits o) (λ b. HoldsOf p (stated_by Total b))
      go None e = tt
      go (Some bs) e = limited (SumOf (parts_of bs)) (exceeds_limits (SumOf (parts_of bs))) (sum-holds lines bs hold e)
