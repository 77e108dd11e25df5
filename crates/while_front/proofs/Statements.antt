-- The share of one statement in a program: its number of statements and its moves.
use Rattle.std.proofs.Common.{◌≡◌, ℕ, suc, ◌+◌, ◌<◌, ◌^◌, List, [], ◌∷◌, ◌++◌, length, map, refl, sym, ◌∙◌, ap, subst, arith}
use Rattle.std.proofs.Common.{append_assoc, cond, drop, false}
use Rattle.std.specs.Prelude.{◌==◌, get_or}
use Rattle.std.proofs.lemmas.Bool.Decides.{nat_tests}
use Rattle.std.proofs.lemmas.List.{drop_more}
use Rattle.while_model.specs.model.Programs.{Atom}
use Rattle.while_model.specs.Statements.{Action, Statements, Simple, While, If, size}
use Rattle.while_model.specs.Moves.{Move, first, moves_by, moves}
use Rattle.while_tree.specs.declared.stmt.Stmt.{Stmt}
use Rattle.while_tree.specs.Views.{Statement, Plain, Loop, Branch, before, joined, stmt_of, statements_of}
use Rattle.while_front.specs.Views.{statement_size, statement_moves}

-- The number of statements is that of the first one plus that of the others.
pub size_before : (s : Statement) (rest : Statements) → size (before s rest) ≡ statement_size s + size rest
size_before (Plain action) rest = omega arith
size_before (Loop test block) rest = omega arith
size_before (Branch test block other) rest = omega arith

-- A statement counts for at least one.
pub statement_size_positive : (s : Statement) → 0 < statement_size s
statement_size_positive (Plain action) = omega arith
statement_size_positive (Loop test block) = omega arith
statement_size_positive (Branch test block other) = omega arith

-- The first point of statements that begin with a statement is the number `at`.
pub first_before : (at after : ℕ) (s : Statement) (rest : Statements) → first at after (before s rest) ≡ at
first_before at after (Plain action) rest = refl
first_before at after (Loop test block) rest = refl
first_before at after (Branch test block other) rest = refl

-- The first point of a list of statements that isn't empty is its number `at`.
pub first_some : (at after : ℕ) (body : List Stmt) → 0 < length body → first at after (statements_of body) ≡ at
first_some at after [] h = absurd (omega (arith, h))
first_some at after (s ∷ body) h = first_before at after (stmt_of s) (statements_of body)

pub first_none : (at after : ℕ) (body : List Stmt) → length body ≡ 0 → first at after (statements_of body) ≡ after
first_none at after [] h = refl
first_none at after (s ∷ body) h = absurd (omega (arith, h))

-- The moves of an action followed by other statements.
action-moves : (action : Action) (rest : Statements) (at after a : ℕ) → suc at ≡ a
    → moves at after (Simple action rest) ≡ statement_moves at (first a after rest) (Plain action) ++ moves a after rest
action-moves action rest at after a e = rw (← e) refl

-- The moves of a loop followed by other statements.
loop-moves : (test : List Atom) (block rest : Statements) (at after a b : ℕ) → suc at ≡ a → suc at + size block ≡ b
    → moves at after (While test block rest)
    ≡ (moves_by at test (first a at block) (first b after rest) ++ moves a at block) ++ moves b after rest
loop-moves test block rest at after a b e f =
    subst (λ (k : ℕ). moves at after (While test block rest)
    ≡ (moves_by at test (first a at block) (first k after rest) ++ moves a at block) ++ moves k after rest) f
    (subst (λ (k : ℕ). moves at after (While test block rest)
    ≡ (moves_by at test (first k at block) (first (suc at + size block) after rest) ++ moves k at block)
    ++ moves (suc at + size block) after rest) e exact)
  where
    exact : moves at after (While test block rest)
        ≡ (moves_by at test (first (suc at) at block) (first (suc at + size block) after rest) ++ moves (suc at) at block)
        ++ moves (suc at + size block) after rest
    exact = sym (append_assoc (moves_by at test (first (suc at) at block) (first (suc at + size block) after rest))
        (moves (suc at) at block) (moves (suc at + size block) after rest))

-- The moves of a branch followed by other statements.
branch-moves : (test : List Atom) (block other rest : Statements) (at after a b d : ℕ) → suc at ≡ a
    → suc at + size block ≡ b → suc at + size block + size other ≡ d
    → moves at after (If test block other rest)
    ≡ (moves_by at test (first a (first d after rest) block) (first b (first d after rest) other)
    ++ (moves a (first d after rest) block ++ moves b (first d after rest) other)) ++ moves d after rest
branch-moves test block other rest at after a b d e f g =
    subst (λ (k : ℕ). moves at after (If test block other rest) ≡ Parts a b k) g
    (subst (λ (k : ℕ). moves at after (If test block other rest) ≡ Parts a k (suc at + size block + size other)) f
    (subst (λ (k : ℕ). moves at after (If test block other rest)
    ≡ Parts k (suc at + size block) (suc at + size block + size other)) e exact))
  where
    Parts : ℕ → ℕ → ℕ → List Move
    Parts i j k =
        (moves_by at test (first i (first k after rest) block) (first j (first k after rest) other)
        ++ (moves i (first k after rest) block ++ moves j (first k after rest) other)) ++ moves k after rest

    exact : moves at after (If test block other rest)
        ≡ Parts (suc at) (suc at + size block) (suc at + size block + size other)
    exact =
        let next = first (suc at + size block + size other) after rest in
        let tests = moves_by at test (first (suc at) next block) (first (suc at + size block) next other) in
        let one = moves (suc at) next block in
        let two = moves (suc at + size block) next other in
        let last = moves (suc at + size block + size other) after rest in
        sym (append_assoc tests (one ++ two) last ∙ ap (λ (v : List Move). tests ++ v) (append_assoc one two last))

-- The moves of statements are those of the first one and then those of the others.
pub moves_before : (s : Statement) (rest : Statements) (at after : ℕ) → moves at after (before s rest)
    ≡ statement_moves at (first (at + statement_size s) after rest) s ++ moves (at + statement_size s) after rest
moves_before (Plain action) rest at after = action-moves action rest at after (at + 1) (omega arith)
moves_before (Loop test block) rest at after =
    loop-moves test block rest at after (at + 1) (at + (1 + size block)) (omega arith) (omega arith)
moves_before (Branch test block other) rest at after =
    branch-moves test block other rest at after (at + 1) (at + 1 + size block) (at + (1 + size block + size other))
    (omega arith) (omega arith) (omega arith)

-- Moves so far, followed by those of one more statement and those of the others, are all moves.
pub moves_step : (out new all : List Move) (s : Statement) (rest : List Statement) (here after next : ℕ)
    → next ≡ first (here + statement_size s) after (joined rest) → new ≡ out ++ statement_moves here next s
    → out ++ moves here after (joined (s ∷ rest)) ≡ all
    → new ++ moves (here + statement_size s) after (joined rest) ≡ all
moves_step out new all s rest here after next n e h = both ∙ h
  where
    whole : out ++ moves here after (joined (s ∷ rest))
        ≡ out ++ (statement_moves here (first (here + statement_size s) after (joined rest)) s
        ++ moves (here + statement_size s) after (joined rest))
    whole = ap (λ (v : List Move). out ++ v) (moves_before s (joined rest) here after)

    added : new ≡ out ++ statement_moves here (first (here + statement_size s) after (joined rest)) s
    added = e ∙ ap (λ (k : ℕ). out ++ statement_moves here k s) n

    both : new ++ moves (here + statement_size s) after (joined rest) ≡ out ++ moves here after (joined (s ∷ rest))
    both = ap (λ (v : List Move). v ++ moves (here + statement_size s) after (joined rest)) added
        ∙ append_assoc out (statement_moves here (first (here + statement_size s) after (joined rest)) s)
        (moves (here + statement_size s) after (joined rest)) ∙ sym whole

-- The point after a statement is that of the next one, or the one after all if no statement is left.
pub next_is : (at after left : ℕ) (rest : List Stmt) → left ≡ length rest
    → cond (left == 0) after at ≡ first at after (statements_of rest)
next_is at after left [] e = rw e refl
next_is at after left (s ∷ rest) e =
    let some : (left == 0) ≡ false = grind (arith, nat_tests, e) in
    rw some (sym (first_before at after (stmt_of s) (statements_of rest)))

-- After one statement, one less is left.
pub left_step : (body : List Stmt) (i : ℕ) (item : Stmt) → i < length body → item ≡ get_or body i item
    → statements_of (drop i body) ≡ before (stmt_of item) (statements_of (drop (i + 1) body))
left_step body i item low e =
    ap statements_of (drop_more body i item low)
    ∙ ap (λ (s : Stmt). before (stmt_of s) (statements_of (drop (i + 1) body))) (sym e)
