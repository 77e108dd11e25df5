-- The moves of statements that fit: their number, the points that they reach, and that their actions and guards fit.
use Rattle.std.proofs.Common.{◌≡◌, ◌⊎◌, inl, inr, ℕ, suc, ◌+◌, ◌<◌, ◌≤◌, List, [], ◌∷◌, ◌++◌, length, map, refl, sym}
use Rattle.std.proofs.Common.{ap, subst, arith, length-append}
use Rattle.std.specs.List.{AllByRecursion}
use Rattle.std.proofs.lemmas.List.{length-map}
use Rattle.while_model.specs.model.Limits.{atom_limit}
use Rattle.while_model.specs.model.Programs.{Atom}
use Rattle.while_model.specs.Statements.{Action, Assign, Choose, Skip, Statements, Nothing, Simple, While, If, size}
use Rattle.while_model.specs.Moves.{Move, negations, passing, first, moves_by, moves}
use Rattle.while_model.specs.Translation.{free_count}
use Rattle.while_model.proofs.Members.{IsIn}
use Rattle.while_model.proofs.Sources.{IsBranchMove, IsMoveOf}
use Rattle.its_model.specs.Valid.{IsValidAtom}
use Rattle.while_tree.specs.Readable.{FitsAction, FitsTest, Fits, rules_of}

-- The action of a move and its guard fit.
pub record FitsMove (n : ℕ) (m : Move) : Type 0 where
  pub action : FitsAction n m.action
  pub few : length m.guard ≤ atom_limit
  pub guard : AllByRecursion (IsValidAtom (n + free_count m.action)) m.guard

-- A predicate that holds of all elements holds of each member.
all_at : {X : Type 0} (P : X → Type 0) (xs : List X) (x : X) → AllByRecursion P xs → IsIn x xs → P x
all_at P [] x h i = absurd i
all_at P (y ∷ xs) x h (inl e) = subst P (sym e) h.0
all_at P (y ∷ xs) x h (inr i) = all_at P xs x h.1 i

-- The moves of a test that fits fit.
fits_branch : (n : ℕ) (m : Move) (at : ℕ) (test : List Atom) (one other : ℕ) → FitsTest n test
    → IsBranchMove m at test one other → FitsMove n m
fits_branch n m at test one other t (inl e) =
    let same : n ≡ n + 0 = omega arith in
    subst (λ (x : Move). FitsMove n x) (sym e) (record {
      action = tt;
      few = t.few;
      guard = subst (λ (k : ℕ). AllByRecursion (IsValidAtom k) test) same t.atoms;
    })
fits_branch n m at test one other t (inr (atom, there, e)) =
    let same : n ≡ n + 0 = omega arith in
    let fits = all_at (IsValidAtom n) (negations test) atom t.negated there in
    subst (λ (x : Move). FitsMove n x) (sym e) (record {
      action = tt;
      few = omega arith;
      guard = (subst (λ (k : ℕ). IsValidAtom k atom) same fits, tt);
    })

-- The moves of statements that fit fit.
pub fits_moves : (n : ℕ) (m : Move) (here : Statements) (at after : ℕ) → Fits n here → IsMoveOf m at after here
    → FitsMove n m
fits_moves n m Nothing at after f h = absurd h
fits_moves n m (Simple action rest) at after (a, r) (inl e) =
    subst (λ (x : Move). FitsMove n x) (sym e) (record { action = a; few = omega arith; guard = tt })
fits_moves n m (Simple action rest) at after (a, r) (inr i) = fits_moves n m rest (suc at) after r i
fits_moves n m (While test block rest) at after (t, b, r) (inl i) = fits_branch n m at test _ _ t i
fits_moves n m (While test block rest) at after (t, b, r) (inr (inl i)) = fits_moves n m block (suc at) at b i
fits_moves n m (While test block rest) at after (t, b, r) (inr (inr i)) =
    fits_moves n m rest (suc at + size block) after r i
fits_moves n m (If test block other rest) at after (t, b, o, r) (inl i) = fits_branch n m at test _ _ t i
fits_moves n m (If test block other rest) at after (t, b, o, r) (inr (inl i)) =
    fits_moves n m block (suc at) (first (suc at + size block + size other) after rest) b i
fits_moves n m (If test block other rest) at after (t, b, o, r) (inr (inr (inl i))) =
    fits_moves n m other (suc at + size block) (first (suc at + size block + size other) after rest) o i
fits_moves n m (If test block other rest) at after (t, b, o, r) (inr (inr (inr i))) =
    fits_moves n m rest (suc at + size block + size other) after r i

-- The first point of statements is at most `top`, if their number and the point after them are.
first_bound : (at after top : ℕ) (here : Statements) → after ≤ top → at ≤ top → first at after here ≤ top
first_bound at after top Nothing a b = a
first_bound at after top (Simple action rest) a b = b
first_bound at after top (While test block rest) a b = b
first_bound at after top (If test block other rest) a b = b

branch_bound : (m : Move) (at : ℕ) (test : List Atom) (one other top : ℕ) → one ≤ top → other ≤ top
    → IsBranchMove m at test one other → m.to ≤ top
branch_bound m at test one other top a b (inl e) = subst (λ (x : Move). x.to ≤ top) (sym e) a
branch_bound m at test one other top a b (inr (atom, there, e)) = subst (λ (x : Move). x.to ≤ top) (sym e) b

-- No move leads to a point past the statements and the point after them.
pub to_bound : (m : Move) (here : Statements) (at after top : ℕ) → after ≤ top → at + size here ≤ top
    → IsMoveOf m at after here → m.to ≤ top
to_bound m Nothing at after top a s h = absurd h
to_bound m (Simple action rest) at after top a s (inl e) =
    subst (λ (x : Move). x.to ≤ top) (sym e) (first_bound (suc at) after top rest a (omega (arith, s)))
to_bound m (Simple action rest) at after top a s (inr i) = to_bound m rest (suc at) after top a (omega (arith, s)) i
to_bound m (While test block rest) at after top a s (inl i) =
    branch_bound m at test _ _ top (first_bound (suc at) at top block (omega (arith, s)) (omega (arith, s)))
    (first_bound (suc at + size block) after top rest a (omega (arith, s))) i
to_bound m (While test block rest) at after top a s (inr (inl i)) =
    to_bound m block (suc at) at top (omega (arith, s)) (omega (arith, s)) i
to_bound m (While test block rest) at after top a s (inr (inr i)) =
    to_bound m rest (suc at + size block) after top a (omega (arith, s)) i
to_bound m (If test block other rest) at after top a s h =
    go h (first_bound (suc at + size block + size other) after top rest a (omega (arith, s)))
    (λ next i. to_bound m block (suc at) (first (suc at + size block + size other) after rest) top next (omega (arith, s)) i)
    (λ next i. to_bound m other (suc at + size block) (first (suc at + size block + size other) after rest) top next
    (omega (arith, s)) i)
    (λ i. to_bound m rest (suc at + size block + size other) after top a (omega (arith, s)) i)
  where
    go : IsMoveOf m at after (If test block other rest) → first (suc at + size block + size other) after rest ≤ top
        → (first (suc at + size block + size other) after rest ≤ top
        → IsMoveOf m (suc at) (first (suc at + size block + size other) after rest) block → m.to ≤ top)
        → (first (suc at + size block + size other) after rest ≤ top
        → IsMoveOf m (suc at + size block) (first (suc at + size block + size other) after rest) other → m.to ≤ top)
        → (IsMoveOf m (suc at + size block + size other) after rest → m.to ≤ top) → m.to ≤ top
    go (inl i) next one two later =
        branch_bound m at test _ _ top
        (first_bound (suc at) (first (suc at + size block + size other) after rest) top block next (omega (arith, s)))
        (first_bound (suc at + size block) (first (suc at + size block + size other) after rest) top other next
        (omega (arith, s))) i
    go (inr (inl i)) next one two later = one next i
    go (inr (inr (inl i))) next one two later = two next i
    go (inr (inr (inr i))) next one two later = later i

-- The number of moves of a test and of others: one for the test, one for each negation, and the others.
branch_length : (at : ℕ) (test : List Atom) (one other : ℕ) (more : List Move)
    → length (moves_by at test one other ++ more) ≡ suc (length (negations test)) + length more
branch_length at test one other more =
    omega (
      arith,
      length-append (moves_by at test one other) more,
      length-map (negations test) (λ (atom : Atom). passing at (atom ∷ []) other),
    )

-- There is a rule for each move.
pub length_moves : (here : Statements) (at after : ℕ) → length (moves at after here) ≡ rules_of here
length_moves Nothing at after = refl
length_moves (Simple action rest) at after = ap suc (length_moves rest (suc at) after)
length_moves (While test block rest) at after =
    let one = moves (suc at) at block in
    let two = moves (suc at + size block) after rest in
    let all = branch_length at test (first (suc at) at block) (first (suc at + size block) after rest) (one ++ two) in
    let both = length-append one two in
    let first_one = length_moves block (suc at) at in
    let last_one = length_moves rest (suc at + size block) after in
    omega (arith, all, both, first_one, last_one)
length_moves (If test block other rest) at after =
    let next = first (suc at + size block + size other) after rest in
    let one = moves (suc at) next block in
    let two = moves (suc at + size block) next other in
    let three = moves (suc at + size block + size other) after rest in
    let all = branch_length at test (first (suc at) next block) (first (suc at + size block) next other)
    (one ++ (two ++ three)) in
    let both = length-append one (two ++ three) in
    let last_both = length-append two three in
    let first_one = length_moves block (suc at) next in
    let second_one = length_moves other (suc at + size block) next in
    let last_one = length_moves rest (suc at + size block + size other) after in
    omega (arith, all, both, last_both, first_one, second_one, last_one)

-- There are at least as many rules as statements.
pub size_le_rules : (here : Statements) → size here ≤ rules_of here
size_le_rules Nothing = omega arith
size_le_rules (Simple action rest) = let r = size_le_rules rest in omega (arith, r)
size_le_rules (While test block rest) =
    let b = size_le_rules block in let r = size_le_rules rest in omega (arith, b, r)
size_le_rules (If test block other rest) =
    let b = size_le_rules block in
    let o = size_le_rules other in let r = size_le_rules rest in omega (arith, b, o, r)
