-- Programs that agree have the same tableaux, so they have the same answers.
use Rattle.std.proofs.Common.{◌≡◌, ℕ, zero, suc, ◌+◌, ◌-◌, ◌<◌, ◌≤◌, ap, arith, refl, sym, ◌∙◌, subst, ◌⊎◌, inl, inr}
use Rattle.std.proofs.Common.{Bool, true, false, List, Option, Some}
use Rattle.std.specs.Prelude.{ℤ, pos, ◌-ℤ◌, ◌*ℤ◌, if◌then◌else◌, nat_lt, nat_eq, Ok, Err, Result}
use Rattle.std.proofs.lemmas.Bool.{cases_lt, lt-ltb, le-ltb}
use Rattle.std.proofs.lemmas.Option.{slice_get_within}
use Rattle.int_laws.specs.Sums.{sum_to}
use Rattle.int_laws.proofs.SumLaws.{sum_to-same}
use Rattle.simplex_core.specs.declared.problem.Solved.{Solved}
use Rattle.simplex_core.specs.declared.problem.Solved.TheVariants.{Optimal, Infeasible}
use Rattle.simplex_core.specs.declared.problem.SolveError.{SolveError}
use Rattle.simplex_core.specs.declared.problem.SolveError.TheVariants.{Range, Budget, Wide, Memory}
use Rattle.simplex_core.specs.declared.answers.Answer.{Answer}
use Rattle.simplex_core.specs.declared.answers.Answer.TheVariants.{Solution, Dual, OutOfLimits}
use Rattle.frac128.specs.declared.frac.Frac.{Frac}
use Rattle.frac128.specs.Fraction.{IsFraction}
use Rattle.linear_forms.specs.Forms.{at}
use Rattle.linear_forms.specs.Causes.{Cause, range, budget, wide, scale, cause_of}
use Rattle.linear_forms.specs.LinearProgram.{LinearProgram}
use Rattle.linear_forms.specs.ProgramLaws.{Agree}
use Rattle.linear_forms.proofs.ProgramLaws.{agree-solutions, agree-least, agree-duals}
use Rattle.simplex_core.specs.Tableau.{Tableau, cost_row, artificial, sign_of, equation, cost, first_reduced_cost}
use Rattle.simplex_core.specs.Tableau.{first_tableau}
use Rattle.simplex_core.specs.Bland.{next_of, tableau_at}
use Rattle.simplex_core.specs.Outcome.{ComesAfter, IsAnswer, EndsOptimally, EndsInfeasibly, ExceedsNumberRange, ExceedsPivotLimit}
use Rattle.simplex_core.specs.HitsLimit.{HitsLimit, ScaledSolutionExceeds, ScaledDualExceeds, IsWholeAnswer}

-- functions with the same values are the same
fun_ext : {A B : Type 0} (f g : A → B) → ((x : A) → f x ≡ g x) → f ≡ g
fun_ext f g h = λ i. λ x. h x i

-- a program with the rows and columns of another, and its own numbers
abbrev with_numbers : LinearProgram → (ℕ → ℕ → ℤ) → (ℕ → ℤ) → (ℕ → ℤ) → (ℕ → ℤ) → LinearProgram
with_numbers p e r f s = record { rows = p.rows; columns = p.columns; entry = e; right = r; first = f; second = s }

module _ (p : LinearProgram) (e : ℕ → ℕ → ℤ) (r f s : ℕ → ℤ) (a : Agree p (with_numbers p e r f s)) where
  -- the other program
  abbrev other : LinearProgram
  other = with_numbers p e r f s

  -- the equations are the same
  equation-same : (i j : ℕ) → i < p.rows → equation p i j ≡ equation other i j
  unfolding equation
  equation-same i j l = go (cases_lt j p.columns)
    where
      signed : sign_of (p.right i) *ℤ p.right i ≡ sign_of (r i) *ℤ r i
      signed = ap (λ (z : ℤ). sign_of z *ℤ z) (a.right i l)

      right : (b : Bool) → (if b then (if nat_eq j (artificial p i) then pos 1 else pos 0) else sign_of (p.right i) *ℤ p.right i)
          ≡ (if b then (if nat_eq j (artificial p i) then pos 1 else pos 0) else sign_of (r i) *ℤ r i)
      right true = refl
      right false = signed

      go : (j < p.columns) ⊎ (p.columns ≤ j) → equation p i j ≡ equation other i j
      go (inl m) =
          ap (λ (b : Bool). if b then sign_of (p.right i) *ℤ p.entry i j else if nat_lt j (p.columns + p.rows) then (if nat_eq j (artificial p i) then pos 1 else pos 0) else sign_of (p.right i) *ℤ p.right i) (lt-ltb j p.columns m)
          ∙ (ap (λ (z : ℤ). sign_of z *ℤ p.entry i j) (a.right i l) ∙ (ap (λ (z : ℤ). sign_of (r i) *ℤ z) (a.entry i j l m)
          ∙ sym (ap (λ (b : Bool). if b then sign_of (r i) *ℤ e i j else if nat_lt j (p.columns + p.rows) then (if nat_eq j (artificial p i) then pos 1 else pos 0) else sign_of (r i) *ℤ r i) (lt-ltb j p.columns m))))
      go (inr m) =
          ap (λ (b : Bool). if b then sign_of (p.right i) *ℤ p.entry i j else if nat_lt j (p.columns + p.rows) then (if nat_eq j (artificial p i) then pos 1 else pos 0) else sign_of (p.right i) *ℤ p.right i) (le-ltb j p.columns m)
          ∙ (right (nat_lt j (p.columns + p.rows))
          ∙ sym (ap (λ (b : Bool). if b then sign_of (r i) *ℤ e i j else if nat_lt j (p.columns + p.rows) then (if nat_eq j (artificial p i) then pos 1 else pos 0) else sign_of (r i) *ℤ r i) (le-ltb j p.columns m)))

  -- the costs are the same
  cost-same : (k j : ℕ) → cost p k j ≡ cost other k j
  unfolding cost
  cost-same k j = go k (cases_lt j p.columns)
    where
      pick : (x y z : ℤ) → (j < p.columns → x ≡ y) → (j < p.columns) ⊎ (p.columns ≤ j) → (if nat_lt j p.columns then x else z) ≡ (if nat_lt j p.columns then y else z)
      pick x y z h (inl m) = ap (λ (v : ℤ). if nat_lt j p.columns then v else z) (h m)
      pick x y z h (inr m) = ap (λ (b : Bool). if b then x else z) (le-ltb j p.columns m) ∙ sym (ap (λ (b : Bool). if b then y else z) (le-ltb j p.columns m))

      go : (k : ℕ) → (j < p.columns) ⊎ (p.columns ≤ j) → cost p k j ≡ cost other k j
      go zero c = refl
      go (suc zero) c = pick (p.first j) (f j) (pos 0) (a.first j) c
      go (suc (suc k)) c = pick (p.second j) (s j) (pos 0) (a.second j) c

  -- the first reduced costs are the same
  reduced-same : (k j : ℕ) → first_reduced_cost p k j ≡ first_reduced_cost other k j
  reduced-same k j =
      ap (λ (z : ℤ). z -ℤ sum_to p.rows (λ i. cost p k (artificial p i) *ℤ equation p i j)) (cost-same k j)
      ∙ ap (λ (z : ℤ). cost other k j -ℤ z)
      (sum_to-same p.rows (λ i. cost p k (artificial p i) *ℤ equation p i j) (λ i. cost other k (artificial p i) *ℤ equation other i j)
      (λ i l. ap (λ (z : ℤ). z *ℤ equation p i j) (cost-same k (artificial p i)) ∙ ap (λ (z : ℤ). cost other k (artificial p i) *ℤ z) (equation-same i j l)))

  -- the first tableaux are the same
  first-same : first_tableau p ≡ first_tableau other
  unfolding first_tableau
  first-same = ap (λ (g : ℕ → ℕ → ℤ). record { entry = g; scale = λ _. pos 1; basis = λ i. artificial p i }) entries
    where
      each : (i j : ℕ) → (i < p.rows) ⊎ (p.rows ≤ i)
          → (if nat_lt i p.rows then equation p i j else first_reduced_cost p (i - p.rows) j) ≡ (if nat_lt i p.rows then equation other i j else first_reduced_cost other (i - p.rows) j)
      each i j (inl l) = ap (λ (z : ℤ). if nat_lt i p.rows then z else first_reduced_cost p (i - p.rows) j) (equation-same i j l)
          ∙ ap (λ (z : ℤ). if nat_lt i p.rows then equation other i j else z) (reduced-same (i - p.rows) j)
      each i j (inr l) = ap (λ (b : Bool). if b then equation p i j else first_reduced_cost p (i - p.rows) j) (le-ltb i p.rows l)
          ∙ (reduced-same (i - p.rows) j ∙ sym (ap (λ (b : Bool). if b then equation other i j else first_reduced_cost other (i - p.rows) j) (le-ltb i p.rows l)))

      entries : ◌≡◌ {A = ℕ → ℕ → ℤ} (λ i j. if nat_lt i p.rows then equation p i j else first_reduced_cost p (i - p.rows) j)
          (λ i j. if nat_lt i p.rows then equation other i j else first_reduced_cost other (i - p.rows) j)
      entries = fun_ext _ _ (λ i. fun_ext _ _ (λ j. each i j (cases_lt i p.rows)))

  -- the tableaux are the same
  tableaux-same : (k : ℕ) → tableau_at p k ≡ tableau_at other k
  tableaux-same zero = ap Some first-same
  tableaux-same (suc k) = ap (λ (o : Option Tableau). next_of p o) (tableaux-same k)

  -- the same tableau comes after the same number of pivots
  reached-same : (k : ℕ) (t : Tableau) → ComesAfter p k t → ComesAfter other k t
  reached-same k t h = record {
    is = sym (tableaux-same k) ∙ h.is;
    before = λ i u l is. record { each = (h.before i u l (tableaux-same i ∙ is)).each };
  }

  -- both sequences end as optimal with the same solution
  optimal-same : (allowed k : ℕ) (point : List Frac) (basis : List ℕ) → EndsOptimally p allowed point basis k → EndsOptimally other allowed point basis k
  optimal-same allowed k point basis h = record {
    within = h.within;
    last = h.last;
    reached = reached-same k h.last h.reached;
    in_range = record { each = h.in_range.each };
    feasible = h.feasible;
    done = h.done;
    rows = h.rows;
    basis_is = h.basis_is;
    x = h.x;
    d = h.d;
    holds = h.holds;
    solution = agree-solutions p other h.x h.d a h.solution;
    least = agree-least p other h.x h.d a h.least;
    basic = h.basic;
  }

  -- both sequences end as infeasible with the same dual
  infeasible-same : (allowed k : ℕ) (dual : List Frac) → EndsInfeasibly p allowed dual k → EndsInfeasibly other allowed dual k
  infeasible-same allowed k dual h = record {
    within = h.within;
    last = h.last;
    reached = reached-same k h.last h.reached;
    in_range = record { each = h.in_range.each };
    infeasible = h.infeasible;
    read = record {
      length_is = h.read.length_is;
      each = λ j g i. subst (λ (z : ℤ). IsFraction g (sign_of z *ℤ (h.last.scale (cost_row p 0) -ℤ h.last.entry (cost_row p 0) (artificial p j))) (h.last.scale (cost_row p 0)))
          (a.right j (let l = slice_get_within dual j g i in let m = h.read.length_is in omega arith)) (h.read.each j g i);
    };
    y = h.y;
    d = h.d;
    positive = h.positive;
    holds = h.holds;
    certified = agree-duals p other h.y a h.certified;
  }

  -- a number is out of range after the same number of pivots
  range-same : (allowed k : ℕ) → ExceedsNumberRange p allowed k → ExceedsNumberRange other allowed k
  range-same allowed k h = record { within = h.within; last = h.last; reached = reached-same k h.last h.reached; out = λ i. h.out (record { each = i.each }) }

  -- the allowed number of pivots suffices for both or for neither
  budget-same : (allowed : ℕ) → ExceedsPivotLimit p allowed → ExceedsPivotLimit other allowed
  budget-same allowed h = record {
    last = h.last;
    reached = reached-same allowed h.last h.reached;
    in_range = record { each = h.in_range.each };
    following = h.following;
    goes_on = h.goes_on;
  }

  -- the answers are the same
  answer-same : (allowed : ℕ) (x : Result Solved SolveError) → IsAnswer p allowed x → IsAnswer other allowed x
  answer-same allowed (Ok (Optimal point basis k)) (w, h) = (w, optimal-same allowed k point.items basis.items h)
  answer-same allowed (Ok (Infeasible dual k)) (w, h) = (w, infeasible-same allowed k dual.items h)
  answer-same allowed (Err (Range k)) (w, h) = (w, range-same allowed k h)
  answer-same allowed (Err (Budget k)) (w, (b, h)) = (w, (b, budget-same allowed h))
  answer-same allowed (Err (Wide n)) h = h
  answer-same allowed (Err Memory) h = tt

  -- agreeing programs hit the same limits
  limit_hit-same : (allowed : ℕ) (c : Cause) → HitsLimit p allowed c → HitsLimit other allowed c
  limit_hit-same allowed (range k) h = (h.0, range-same allowed k h.1)
  limit_hit-same allowed (budget n) h = (h.0, h.1, budget-same allowed h.2)
  limit_hit-same allowed (wide n) h = h
  limit_hit-same allowed scale h = (h.0, go h.1)
    where
      go : ScaledSolutionExceeds p allowed ⊎ ScaledDualExceeds p allowed → ScaledSolutionExceeds other allowed ⊎ ScaledDualExceeds other allowed
      go (inl t) = inl (record { at = t.at; basis = t.basis; k = t.k; ends = optimal-same allowed t.k t.at t.basis t.ends; exceeds = t.exceeds })
      go (inr t) = inr (record { dual = t.dual; k = t.k; ends = infeasible-same allowed t.k t.dual t.ends; exceeds = t.exceeds })

  -- the answers in integers are the same
  whole-answer-same : (allowed : ℕ) (x : Answer) → IsWholeAnswer p allowed x → IsWholeAnswer other allowed x
  whole-answer-same allowed (Solution s) h = record {
    fits = h.fits;
    point = h.point;
    basis = h.basis;
    k = h.k;
    ends = optimal-same allowed h.k h.point h.basis h.ends;
    scaled = h.scaled;
    within = h.within;
    den_within = h.den_within;
    columns = h.columns;
    solution = agree-solutions p other (at s.numbers.items) (pos s.den) a h.solution;
    least = agree-least p other (at s.numbers.items) (pos s.den) a h.least;
  }
  whole-answer-same allowed (Dual s) h = record {
    fits = h.fits;
    dual = h.dual;
    k = h.k;
    ends = infeasible-same allowed h.k h.dual h.ends;
    scaled = h.scaled;
    within = h.within;
    rows = h.rows;
    certified = agree-duals p other (at s.numbers.items) a h.certified;
  }
  whole-answer-same allowed (OutOfLimits c) h = limit_hit-same allowed (cause_of c) h

-- if a property holds of a program with the numbers of one that agrees with it, it holds of that one
of-agreeing : (P : LinearProgram → Type 0) (p q : LinearProgram) → Agree p q → (Agree p (with_numbers p q.entry q.right q.first q.second) → P (with_numbers p q.entry q.right q.first q.second)) → P q
of-agreeing P p q a h =
    subst (λ (n : ℕ). P (record { rows = n; columns = q.columns; entry = q.entry; right = q.right; first = q.first; second = q.second })) a.rows
    (subst (λ (n : ℕ). P (record { rows = p.rows; columns = n; entry = q.entry; right = q.right; first = q.first; second = q.second })) a.columns (h inside))
  where
    inside : Agree p (with_numbers p q.entry q.right q.first q.second)
    inside = record { rows = refl; columns = refl; entry = a.entry; right = a.right; first = a.first; second = a.second }

-- programs that agree have the same answers
pub answers-agree : (p q : LinearProgram) (allowed : ℕ) (x : Result Solved SolveError) → Agree p q → IsAnswer p allowed x → IsAnswer q allowed x
answers-agree p q allowed x a h = of-agreeing (λ r. IsAnswer r allowed x) p q a (λ b. answer-same p q.entry q.right q.first q.second b allowed x h)

-- agreeing programs hit limits of the same cause
pub hits_limit-agree : (p q : LinearProgram) (allowed : ℕ) (c : Cause) → Agree p q → HitsLimit p allowed c → HitsLimit q allowed c
hits_limit-agree p q allowed c a h = of-agreeing (λ r. HitsLimit r allowed c) p q a (λ b. limit_hit-same p q.entry q.right q.first q.second b allowed c h)

-- agreeing programs have the same answers in integers
pub whole-answers-agree : (p q : LinearProgram) (allowed : ℕ) (x : Answer) → Agree p q → IsWholeAnswer p allowed x → IsWholeAnswer q allowed x
whole-answers-agree p q allowed x a h = of-agreeing (λ r. IsWholeAnswer r allowed x) p q a (λ b. whole-answer-same p q.entry q.right q.first q.second b allowed x h)
