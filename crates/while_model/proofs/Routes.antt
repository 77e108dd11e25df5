-- Routes, which are chains of moves between points of a program, are its executions.
use Rattle.std.proofs.Common.{◌≡◌, ◌⊎◌, inl, inr, ℕ, zero, suc, ◌+◌, ◌<◌, ◌≤◌, List, [], ◌∷◌, ℤ, refl, sym, ap, subst, arith}
use Rattle.std.proofs.lemmas.List.Elements.{All-nil, All-cons, All-head}
use Rattle.model.specs.Programs.{Atom, AtomHolds, GuardHolds}
use Rattle.while_model.specs.Statements.{Statements, Nothing, Simple, While, If, followed_by, size, IsNonempty}
use Rattle.while_model.specs.Executions.{Acts, Branches, Executes, IsExecution}
use Rattle.while_model.specs.Moves.{Move, first, negations, passing}
use Rattle.while_model.proofs.Members.{IsIn}
use Rattle.while_model.proofs.Segments.{Segment, Whole, AfterSimple, InLoop, AfterLoop, InFirst, InSecond, AfterBranch}
use Rattle.while_model.proofs.Segments.{IsLeftAt, left_at_first}
use Rattle.while_model.proofs.Sources.{IsBranchMove, IsMoveOf, branch_from, in_range}
use Rattle.while_model.proofs.Tests.{test_or_negation, negation_fails}

-- The move leads from the values `env` to the values `end`.
abbrev pub Passes : Move → List ℤ → List ℤ → Type 0
Passes m env end = GuardHolds env m.guard × Acts m.action env end

-- Along n moves of the program, point 0 with the values `start` leads to the point k with the values `end`.
abbrev pub IsRoute : Statements → List ℤ → ℕ → ℕ → List ℤ → Type 0
IsRoute program start zero k end = (k ≡ 0) × (end ≡ start)
IsRoute program start (suc n) k end = (m : Move) × (env : List ℤ) × IsRoute program start n m.from env
    × IsMoveOf m 0 (size program) program × Passes m env end × (k ≡ m.to)

-- The moves of a segment are moves of the program.
pub moves_within : {program : Statements} {at after : ℕ} {here left : Statements} (m : Move)
    → Segment program at after here left → IsMoveOf m at after here → IsMoveOf m 0 (size program) program
moves_within m Whole h = h
moves_within m (AfterSimple s) h = moves_within m s (inr h)
moves_within m (InLoop s) h = moves_within m s (inr (inl h))
moves_within m (AfterLoop s) h = moves_within m s (inr (inr h))
moves_within m (InFirst s) h = moves_within m s (inr (inl h))
moves_within m (InSecond s) h = moves_within m s (inr (inr (inl h)))
moves_within m (AfterBranch s) h = moves_within m s (inr (inr (inr h)))

-- A move of the program from a point of a segment is one of the segment's moves.
pub moves_only : {program : Statements} {at after : ℕ} {here left : Statements} (m : Move)
    → Segment program at after here left → IsMoveOf m 0 (size program) program → at ≤ m.from → m.from < at + size here
    → IsMoveOf m at after here
moves_only m Whole h low high = h
moves_only m (AfterSimple {at} {after} {action} {rest} {left} s) h low high =
    go (moves_only m s h (omega (arith, low)) (omega (arith, high)))
  where
    go : IsMoveOf m at after (Simple action rest) → IsMoveOf m (suc at) after rest
    go (inl e) = absurd (omega (arith, low, ap (λ (n : Move). n.from) e))
    go (inr r) = r
moves_only m (InLoop {at} {after} {test} {block} {rest} {left} s) h low high =
    go (moves_only m s h (omega (arith, low)) (omega (arith, high)))
  where
    go : IsMoveOf m at after (While test block rest) → IsMoveOf m (suc at) at block
    go (inl r) = absurd (omega (arith, low, branch_from m at test _ _ r))
    go (inr (inl r)) = r
    go (inr (inr r)) = absurd (omega (arith, high, (in_range m rest (suc at + size block) after r).0))
moves_only m (AfterLoop {at} {after} {test} {block} {rest} {left} s) h low high =
    go (moves_only m s h (omega (arith, low)) (omega (arith, high)))
  where
    go : IsMoveOf m at after (While test block rest) → IsMoveOf m (suc at + size block) after rest
    go (inl r) = absurd (omega (arith, low, branch_from m at test _ _ r))
    go (inr (inl r)) = absurd (omega (arith, low, (in_range m block (suc at) at r).1))
    go (inr (inr r)) = r
moves_only m (InFirst {at} {after} {test} {block} {other} {rest} {left} s) h low high =
    go (moves_only m s h (omega (arith, low)) (omega (arith, high)))
  where
    go : IsMoveOf m at after (If test block other rest)
        → IsMoveOf m (suc at) (first (suc at + size block + size other) after rest) block
    go (inl r) = absurd (omega (arith, low, branch_from m at test _ _ r))
    go (inr (inl r)) = r
    go (inr (inr (inl r))) = absurd (omega (arith, high, (in_range m other (suc at + size block) _ r).0))
    go (inr (inr (inr r))) = absurd (omega (arith, high, (in_range m rest (suc at + size block + size other) after r).0))
moves_only m (InSecond {at} {after} {test} {block} {other} {rest} {left} s) h low high =
    go (moves_only m s h (omega (arith, low)) (omega (arith, high)))
  where
    go : IsMoveOf m at after (If test block other rest)
        → IsMoveOf m (suc at + size block) (first (suc at + size block + size other) after rest) other
    go (inl r) = absurd (omega (arith, low, branch_from m at test _ _ r))
    go (inr (inl r)) = absurd (omega (arith, low, (in_range m block (suc at) _ r).1))
    go (inr (inr (inl r))) = r
    go (inr (inr (inr r))) = absurd (omega (arith, high, (in_range m rest (suc at + size block + size other) after r).0))
moves_only m (AfterBranch {at} {after} {test} {block} {other} {rest} {left} s) h low high =
    go (moves_only m s h (omega (arith, low)) (omega (arith, high)))
  where
    go : IsMoveOf m at after (If test block other rest) → IsMoveOf m (suc at + size block + size other) after rest
    go (inl r) = absurd (omega (arith, low, branch_from m at test _ _ r))
    go (inr (inl r)) = absurd (omega (arith, low, (in_range m block (suc at) _ r).1))
    go (inr (inr (inl r))) = absurd (omega (arith, low, (in_range m other (suc at + size block) _ r).1))
    go (inr (inr (inr r))) = r

-- A step of an execution from the statements left at a point is a move of the program from that point, and the next
-- statements are those left at the point that it reaches.
pub step_is_move : (program : Statements) (k : ℕ) (before next : Statements) (env end : List ℤ) → IsLeftAt program k before
    → Executes before env next end
    → (m : Move) × IsMoveOf m 0 (size program) program × (m.from ≡ k) × Passes m env end × IsLeftAt program m.to next
step_is_move program k before next env end (inl (at_end, nothing)) step =
    absurd (subst (λ (b : Statements). Executes b env next end) nothing step)
step_is_move program k before next env end (inr (after, here, behind, s, some, is)) step =
    by_statement here s some (subst (λ (b : Statements). Executes b env next end) is step)
  where
    Result : Type 0
    Result = (m : Move) × IsMoveOf m 0 (size program) program × (m.from ≡ k) × Passes m env end × IsLeftAt program m.to next

    -- A move without an action changes no value.
    passed : (guard : List Atom) (to : ℕ) (left : Statements) → IsMoveOf (passing k guard to) 0 (size program) program
        → GuardHolds env guard → end ≡ env → next ≡ left → IsLeftAt program to left → Result
    passed guard to left is_move holds same e at =
        (passing k guard to, is_move, refl, (holds, same), subst (IsLeftAt program to) (sym e) at)

    -- A test leads to one point or to the other.
    tested : (test : List Atom) (one other : ℕ) (first_left second_left : Statements)
        → ((m : Move) → IsBranchMove m k test one other → IsMoveOf m 0 (size program) program)
        → IsLeftAt program one first_left → IsLeftAt program other second_left → end ≡ env
        → Branches (GuardHolds env test) first_left second_left next → Result
    tested test one other first_left second_left is_move at_one at_other same (inl (holds, e)) =
        passed test one first_left (is_move (passing k test one) (inl refl)) holds same e at_one
    tested test one other first_left second_left is_move at_one at_other same (inr (fails, e)) =
        negated (test_or_negation env test)
      where
        negated : GuardHolds env test ⊎ (x : Atom) × IsIn x (negations test) × AtomHolds env x → Result
        negated (inl holds) = absurd (fails holds)
        negated (inr (x, there, holds)) =
            passed (x ∷ []) other second_left (is_move (passing k (x ∷ []) other) (inr (x, there, refl)))
            (All-cons (AtomHolds env) x [] holds (All-nil (AtomHolds env))) same e at_other

    by_statement : (here : Statements) → Segment program k after here behind → IsNonempty here
        → Executes (followed_by here behind) env next end → Result
    by_statement Nothing s some step = absurd some
    by_statement (Simple action rest) s some (acts, e) = (
      record { from = k; to = first (suc k) after rest; guard = []; action = action },
      moves_within _ s (inl refl),
      refl,
      (All-nil (AtomHolds env), acts),
      subst (IsLeftAt program (first (suc k) after rest)) (sym e) (left_at_first (AfterSimple s)),
    )
    by_statement (While test block rest) s some (same, branches) =
        tested test (first (suc k) k block) (first (suc k + size block) after rest)
        (followed_by block (While test block (followed_by rest behind))) (followed_by rest behind)
        (λ m h. moves_within m s (inl h)) (left_at_first (InLoop s)) (left_at_first (AfterLoop s)) same branches
    by_statement (If test block other rest) s some (same, branches) =
        tested test (first (suc k) (first (suc k + size block + size other) after rest) block)
        (first (suc k + size block) (first (suc k + size block + size other) after rest) other)
        (followed_by block (followed_by rest behind)) (followed_by other (followed_by rest behind))
        (λ m h. moves_within m s (inl h)) (left_at_first (InFirst s)) (left_at_first (InSecond s)) same branches

-- A move of the program from a point is a step of an execution from the statements left there to those left at the
-- point that it reaches.
pub move_is_step : (program : Statements) (m : Move) (before : Statements) (env end : List ℤ)
    → IsLeftAt program m.from before → IsMoveOf m 0 (size program) program → Passes m env end
    → (next : Statements) × Executes before env next end × IsLeftAt program m.to next
move_is_step program m before env end (inl (at_end, nothing)) h passes =
    absurd (omega (arith, at_end, (in_range m program 0 (size program) h).1))
move_is_step program m before env end (inr (after, here, behind, s, some, is)) h passes =
    let found = by_statement here s some (moves_only m s h (omega arith) (starts_within here some)) in
    (found.0, subst (λ (b : Statements). Executes b env found.0 end) (sym is) found.1, found.2)
  where
    starts_within : (here : Statements) → IsNonempty here → m.from < m.from + size here
    starts_within Nothing some = absurd some
    starts_within (Simple action rest) some = omega arith
    starts_within (While test block rest) some = omega arith
    starts_within (If test block other rest) some = omega arith

    Result : Statements → Type 0
    Result here = (next : Statements) × Executes (followed_by here behind) env next end × IsLeftAt program m.to next

    -- A move from a test leads to one point if the test holds, and to the other if it doesn't.
    tested : (test : List Atom) (one other : ℕ) (first_left second_left : Statements)
        → IsLeftAt program one first_left → IsLeftAt program other second_left → IsBranchMove m m.from test one other
        → (next : Statements) × (end ≡ env) × Branches (GuardHolds env test) first_left second_left next
        × IsLeftAt program m.to next
    tested test one other first_left second_left at_one at_other (inl e) =
        let p : Passes (passing m.from test one) env end = subst (λ (n : Move). Passes n env end) e passes in (
          first_left,
          p.1,
          inl (p.0, refl),
          subst (λ (n : Move). IsLeftAt program n.to first_left) (sym e) at_one,
        )
    tested test one other first_left second_left at_one at_other (inr (x, there, e)) =
        let p : Passes (passing m.from (x ∷ []) other) env end = subst (λ (n : Move). Passes n env end) e passes in (
          second_left,
          p.1,
          inr (negation_fails env test x there (All-head (AtomHolds env) x [] p.0), refl),
          subst (λ (n : Move). IsLeftAt program n.to second_left) (sym e) at_other,
        )

    by_statement : (here : Statements) → Segment program m.from after here behind → IsNonempty here
        → IsMoveOf m m.from after here → Result here
    by_statement Nothing s some h = absurd some
    by_statement (Simple action rest) s some (inl e) =
        let one : Move = record { from = m.from; to = first (suc m.from) after rest; guard = []; action = action } in
        let p : Passes one env end = subst (λ (n : Move). Passes n env end) e passes in (
          followed_by rest behind,
          (p.1, refl),
          subst (λ (n : Move). IsLeftAt program n.to (followed_by rest behind)) (sym e) (left_at_first (AfterSimple s)),
        )
    by_statement (Simple action rest) s some (inr r) =
        absurd (omega (arith, (in_range m rest (suc m.from) after r).0))
    by_statement (While test block rest) s some (inl r) =
        let t = tested test (first (suc m.from) m.from block) (first (suc m.from + size block) after rest)
        (followed_by block (While test block (followed_by rest behind))) (followed_by rest behind)
        (left_at_first (InLoop s)) (left_at_first (AfterLoop s)) r in
        (t.0, (t.1, t.2), t.3)
    by_statement (While test block rest) s some (inr (inl r)) =
        absurd (omega (arith, (in_range m block (suc m.from) m.from r).0))
    by_statement (While test block rest) s some (inr (inr r)) =
        absurd (omega (arith, (in_range m rest (suc m.from + size block) after r).0))
    by_statement (If test block other rest) s some (inl r) =
        let next : ℕ = first (suc m.from + size block + size other) after rest in
        let t = tested test (first (suc m.from) next block) (first (suc m.from + size block) next other)
        (followed_by block (followed_by rest behind)) (followed_by other (followed_by rest behind))
        (left_at_first (InFirst s)) (left_at_first (InSecond s)) r in
        (t.0, (t.1, t.2), t.3)
    by_statement (If test block other rest) s some (inr (inl r)) =
        absurd (omega (arith, (in_range m block (suc m.from) _ r).0))
    by_statement (If test block other rest) s some (inr (inr (inl r))) =
        absurd (omega (arith, (in_range m other (suc m.from + size block) _ r).0))
    by_statement (If test block other rest) s some (inr (inr (inr r))) =
        absurd (omega (arith, (in_range m rest (suc m.from + size block + size other) after r).0))

-- A program followed by nothing is the program.
pub followed_by_nothing : (program : Statements) → followed_by program Nothing ≡ program
followed_by_nothing Nothing = refl
followed_by_nothing (Simple action rest) = ap (λ r. Simple action r) (followed_by_nothing rest)
followed_by_nothing (While test block rest) = ap (λ r. While test block r) (followed_by_nothing rest)
followed_by_nothing (If test block other rest) = ap (λ r. If test block other r) (followed_by_nothing rest)

-- The statements left at the first point are the whole program.
left_at_start : (program : Statements) → IsNonempty program → IsLeftAt program 0 program
left_at_start program some = inr (size program, program, Nothing, Whole, some, sym (followed_by_nothing program))

-- Each execution is a route to a point at which the statements that it leaves are left.
pub execution_is_route : (program : Statements) → IsNonempty program → (start : List ℤ) (n : ℕ) (left : Statements)
    (end : List ℤ) → IsExecution program start n left end
    → (k : ℕ) × IsRoute program start n k end × IsLeftAt program k left
execution_is_route program some start zero left end (is, same) =
    (0, (refl, same), subst (IsLeftAt program 0) (sym is) (left_at_start program some))
execution_is_route program some start (suc n) left end (before, env, earlier, step) =
    go (execution_is_route program some start n before env earlier)
  where
    go : (k : ℕ) × IsRoute program start n k env × IsLeftAt program k before
        → (k : ℕ) × IsRoute program start (suc n) k end × IsLeftAt program k left
    go (k, route, at) =
        let found = step_is_move program k before left env end at step in (
          found.0.to,
          (found.0, env, subst (λ (j : ℕ). IsRoute program start n j env) (sym found.2) route, found.1, found.3, refl),
          found.4,
        )

-- Each route is an execution, which leaves the statements that are left at its last point.
pub route_is_execution : (program : Statements) → IsNonempty program → (start : List ℤ) (n k : ℕ) (end : List ℤ)
    → IsRoute program start n k end → (left : Statements) × IsExecution program start n left end × IsLeftAt program k left
route_is_execution program some start zero k end (at, same) =
    (program, (refl, same), subst (λ (j : ℕ). IsLeftAt program j program) (sym at) (left_at_start program some))
route_is_execution program some start (suc n) k end (m, env, route, h, passes, to) =
    go (route_is_execution program some start n m.from env route)
  where
    go : (before : Statements) × IsExecution program start n before env × IsLeftAt program m.from before
        → (left : Statements) × IsExecution program start (suc n) left end × IsLeftAt program k left
    go (before, earlier, at) =
        let found = move_is_step program m before env end at h passes in (
          found.0,
          (before, env, earlier, found.1),
          subst (λ (j : ℕ). IsLeftAt program j found.0) (sym to) found.2,
        )
