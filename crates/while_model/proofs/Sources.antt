-- The moves of statements by the statement that they come from, and the points that they leave.
use Rattle.std.proofs.Common.{◌≡◌, ◌⊎◌, inl, inr, ℕ, suc, ◌+◌, ◌<◌, ◌≤◌, List, [], ◌∷◌, ◌++◌, map}
use Rattle.std.proofs.Common.{sym, ap, subst, arith}
use Rattle.model.specs.Programs.{Atom}
use Rattle.while_model.specs.Statements.{Statements, Nothing, Simple, While, If, size}
use Rattle.while_model.specs.Moves.{Move, first, negations, passing, moves_by, moves}
use Rattle.while_model.proofs.Members.{IsIn, is_in-left, is_in-right, is_in-append, is_in-map, map-is_in}

-- A move from a test: to one point if it holds, or to the other one if a negation of its atoms holds.
abbrev pub IsBranchMove : Move → ℕ → List Atom → ℕ → ℕ → Type 0
IsBranchMove m at test one other =
    (m ≡ passing at test one) ⊎ (atom : Atom) × IsIn atom (negations test) × (m ≡ passing at (atom ∷ []) other)

-- A move of statements, by the statement that it comes from.
abbrev pub IsMoveOf : Move → ℕ → ℕ → Statements → Type 0
IsMoveOf m at after Nothing = ⊥
IsMoveOf m at after (Simple action rest) =
    (m ≡ record { from = at; to = first (suc at) after rest; guard = []; action = action })
    ⊎ IsMoveOf m (suc at) after rest
IsMoveOf m at after (While test block rest) =
    IsBranchMove m at test (first (suc at) at block) (first (suc at + size block) after rest)
    ⊎ (IsMoveOf m (suc at) at block ⊎ IsMoveOf m (suc at + size block) after rest)
IsMoveOf m at after (If test block other rest) =
    IsBranchMove m at test (first (suc at) (first (suc at + size block + size other) after rest) block)
    (first (suc at + size block) (first (suc at + size block + size other) after rest) other)
    ⊎ (IsMoveOf m (suc at) (first (suc at + size block + size other) after rest) block
    ⊎ (IsMoveOf m (suc at + size block) (first (suc at + size block + size other) after rest) other
    ⊎ IsMoveOf m (suc at + size block + size other) after rest))

-- The list of a test's moves has exactly the moves from the test.
branch_listed : (m : Move) (at : ℕ) (test : List Atom) (one other : ℕ) → IsBranchMove m at test one other
    → IsIn m (moves_by at test one other)
branch_listed m at test one other (inl e) = inl e
branch_listed m at test one other (inr (atom, there, e)) =
    inr (subst (λ (n : Move). IsIn n (map (λ atom. passing at (atom ∷ []) other) (negations test))) (sym e)
    (is_in-map (λ (atom : Atom). passing at (atom ∷ []) other) atom (negations test) there))

listed_branch : (m : Move) (at : ℕ) (test : List Atom) (one other : ℕ) → IsIn m (moves_by at test one other)
    → IsBranchMove m at test one other
listed_branch m at test one other (inl e) = inl e
listed_branch m at test one other (inr h) =
    inr (map-is_in (λ (atom : Atom). passing at (atom ∷ []) other) m (negations test) h)

-- One of two alternatives, each of which implies another, implies one of the others.
pub either : {A B C D : Type 0} → (A → C) → (B → D) → A ⊎ B → C ⊎ D
either f g (inl a) = inl (f a)
either f g (inr b) = inr (g b)

-- The function that returns its argument, for an alternative that stays as it is.
unchanged : {A : Type 0} → A → A
unchanged a = a

-- A move of a test, or one of those after it, is in the list of both.
branch_then : (m : Move) (at : ℕ) (test : List Atom) (one other : ℕ) (more : List Move)
    → IsBranchMove m at test one other ⊎ IsIn m more → IsIn m (moves_by at test one other ++ more)
branch_then m at test one other more (inl h) =
    is_in-left m (moves_by at test one other) more (branch_listed m at test one other h)
branch_then m at test one other more (inr h) = is_in-right m (moves_by at test one other) more h

then_branch : (m : Move) (at : ℕ) (test : List Atom) (one other : ℕ) (more : List Move)
    → IsIn m (moves_by at test one other ++ more) → IsBranchMove m at test one other ⊎ IsIn m more
then_branch m at test one other more h =
    either (listed_branch m at test one other) unchanged (is_in-append m (moves_by at test one other) more h)

-- A member of one of two lists is in the list of both.
parts_listed : (m : Move) (xs ys : List Move) → IsIn m xs ⊎ IsIn m ys → IsIn m (xs ++ ys)
parts_listed m xs ys (inl h) = is_in-left m xs ys h
parts_listed m xs ys (inr h) = is_in-right m xs ys h

-- Each move of the statements is in their list.
pub listed : (m : Move) (here : Statements) (at after : ℕ) → IsMoveOf m at after here → IsIn m (moves at after here)
listed m Nothing at after h = h
listed m (Simple action rest) at after h = either unchanged (listed m rest (suc at) after) h
listed m (While test block rest) at after h =
    let later : ℕ = suc at + size block in
    let inside : List Move = moves (suc at) at block in
    let behind : List Move = moves later after rest in
    branch_then m at test (first (suc at) at block) (first later after rest) (inside ++ behind)
    (either unchanged
    (λ r. parts_listed m inside behind (either (listed m block (suc at) at) (listed m rest later after) r)) h)
listed m (If test block other rest) at after h =
    let second : ℕ = suc at + size block in
    let later : ℕ = suc at + size block + size other in
    let next : ℕ = first later after rest in
    let in_first : List Move = moves (suc at) next block in
    let in_second : List Move = moves second next other in
    let behind : List Move = moves later after rest in
    branch_then m at test (first (suc at) next block) (first second next other) (in_first ++ (in_second ++ behind))
    (either unchanged (λ r. parts_listed m in_first (in_second ++ behind) (either (listed m block (suc at) next)
    (λ q. parts_listed m in_second behind (either (listed m other second next) (listed m rest later after) q)) r)) h)

-- Each move in the list of the statements is one of theirs.
pub listed-only : (m : Move) (here : Statements) (at after : ℕ) → IsIn m (moves at after here) → IsMoveOf m at after here
listed-only m Nothing at after h = h
listed-only m (Simple action rest) at after h = either unchanged (listed-only m rest (suc at) after) h
listed-only m (While test block rest) at after h =
    let later : ℕ = suc at + size block in
    let inside : List Move = moves (suc at) at block in
    let behind : List Move = moves later after rest in
    either unchanged
    (λ r. either (listed-only m block (suc at) at) (listed-only m rest later after) (is_in-append m inside behind r))
    (then_branch m at test (first (suc at) at block) (first later after rest) (inside ++ behind) h)
listed-only m (If test block other rest) at after h =
    let second : ℕ = suc at + size block in
    let later : ℕ = suc at + size block + size other in
    let next : ℕ = first later after rest in
    let in_first : List Move = moves (suc at) next block in
    let in_second : List Move = moves second next other in
    let behind : List Move = moves later after rest in
    either unchanged
    (λ r. either (listed-only m block (suc at) next)
    (λ q. either (listed-only m other second next) (listed-only m rest later after) (is_in-append m in_second behind q))
    (is_in-append m in_first (in_second ++ behind) r))
    (then_branch m at test (first (suc at) next block) (first second next other) (in_first ++ (in_second ++ behind)) h)

-- A move from a test leaves the test's point.
pub branch_from : (m : Move) (at : ℕ) (test : List Atom) (one other : ℕ) → IsBranchMove m at test one other → m.from ≡ at
branch_from m at test one other (inl e) = ap (λ (n : Move). n.from) e
branch_from m at test one other (inr (atom, there, e)) = ap (λ (n : Move). n.from) e

-- The point that a move leaves is the number of one of the statements.
pub in_range : (m : Move) (here : Statements) (at after : ℕ) → IsMoveOf m at after here
    → (at ≤ m.from) × (m.from < at + size here)
in_range m Nothing at after h = absurd h
in_range m (Simple action rest) at after h = go h (in_range m rest (suc at) after)
  where
    go : IsMoveOf m at after (Simple action rest)
        → (IsMoveOf m (suc at) after rest → (suc at ≤ m.from) × (m.from < suc at + size rest))
        → (at ≤ m.from) × (m.from < at + suc (size rest))
    go (inl e) later = let from : m.from ≡ at = ap (λ (n : Move). n.from) e in (omega (arith, from), omega (arith, from))
    go (inr r) later = let (low, high) = later r in (omega (arith, low), omega (arith, high))
in_range m (While test block rest) at after h =
    go h (in_range m block (suc at) at) (in_range m rest (suc at + size block) after)
  where
    go : IsMoveOf m at after (While test block rest)
        → (IsMoveOf m (suc at) at block → (suc at ≤ m.from) × (m.from < suc at + size block))
        → (IsMoveOf m (suc at + size block) after rest
        → (suc at + size block ≤ m.from) × (m.from < suc at + size block + size rest))
        → (at ≤ m.from) × (m.from < at + suc (size block + size rest))
    go (inl r) inside later =
        let from : m.from ≡ at = branch_from m at test _ _ r in (omega (arith, from), omega (arith, from))
    go (inr (inl r)) inside later = let b = inside r in (omega (arith, b.0), omega (arith, b.1))
    go (inr (inr r)) inside later = let b = later r in (omega (arith, b.0), omega (arith, b.1))
in_range m (If test block other rest) at after h =
    go h (in_range m block (suc at) (first (suc at + size block + size other) after rest))
    (in_range m other (suc at + size block) (first (suc at + size block + size other) after rest))
    (in_range m rest (suc at + size block + size other) after)
  where
    go : IsMoveOf m at after (If test block other rest)
        → (IsMoveOf m (suc at) (first (suc at + size block + size other) after rest) block
        → (suc at ≤ m.from) × (m.from < suc at + size block))
        → (IsMoveOf m (suc at + size block) (first (suc at + size block + size other) after rest) other
        → (suc at + size block ≤ m.from) × (m.from < suc at + size block + size other))
        → (IsMoveOf m (suc at + size block + size other) after rest
        → (suc at + size block + size other ≤ m.from) × (m.from < suc at + size block + size other + size rest))
        → (at ≤ m.from) × (m.from < at + suc (size block + size other + size rest))
    go (inl r) one two later =
        let from : m.from ≡ at = branch_from m at test _ _ r in (omega (arith, from), omega (arith, from))
    go (inr (inl r)) one two later = let b = one r in (omega (arith, b.0), omega (arith, b.1))
    go (inr (inr (inl r))) one two later = let b = two r in (omega (arith, b.0), omega (arith, b.1))
    go (inr (inr (inr r))) one two later = let b = later r in (omega (arith, b.0), omega (arith, b.1))
