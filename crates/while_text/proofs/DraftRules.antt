-- Statements that fit, and their rules, when one is appended or the last one is taken away.
use Rattle.std.proofs.Common.{◌≡◌, ℕ, suc, ◌+◌, ◌≤◌, List, [], ◌∷◌, ◌++◌, length, Option, Some, None, refl, ap, sym, subst, arith}
use Rattle.std.proofs.Common.{length-append}
use Rattle.std.specs.List.{AllByRecursion}
use Rattle.while_text.specs.model.Programs.{Atom}
use Rattle.while_text.specs.while_model.Moves.{negations, negations_of}
use Rattle.while_text.specs.while_model.Statements.{Action, Statements, Nothing, Simple, While, If}
use Rattle.while_text.specs.while_tree.Views.{Statement, Plain, Loop, Branch, before, joined}
use Rattle.while_text.specs.while_tree.Readable.{FitsTest, Fits, rules_of}
use Rattle.while_text.specs.Drafts.{Block, InLoop, InFirst, InSecond, last_of, before_last}

-- A statement by itself fits.
abbrev pub FitsOne : ℕ → Statement → Type 0
FitsOne n s = Fits n (before s Nothing)

-- The number of rules of a statement.
abbrev pub rules_of_one : Statement → ℕ
rules_of_one s = rules_of (before s Nothing)

fits_before : (n : ℕ) (s : Statement) (rest : Statements) → FitsOne n s → Fits n rest → Fits n (before s rest)
fits_before n (Plain action) rest (a, h) k = (a, k)
fits_before n (Loop test block) rest (t, b, h) k = (t, b, k)
fits_before n (Branch test block other) rest (t, b, o, h) k = (t, b, o, k)

fits_first : (n : ℕ) (s : Statement) (rest : Statements) → Fits n (before s rest) → FitsOne n s × Fits n rest
fits_first n (Plain action) rest (a, k) = ((a, tt), k)
fits_first n (Loop test block) rest (t, b, k) = ((t, b, tt), k)
fits_first n (Branch test block other) rest (t, b, o, k) = ((t, b, o, tt), k)

rules_before : (s : Statement) (rest : Statements) → rules_of (before s rest) ≡ rules_of_one s + rules_of rest
rules_before (Plain action) rest = omega arith
rules_before (Loop test block) rest = omega arith
rules_before (Branch test block other) rest = omega arith

-- Statements that fit, with one more that fits, fit.
pub fits_append : (n : ℕ) (ss : List Statement) (s : Statement) → Fits n (joined ss) → FitsOne n s
    → Fits n (joined (ss ++ s ∷ []))
fits_append n [] s h k = k
fits_append n (t ∷ ss) s h k =
    let f = fits_first n t (joined ss) h in
    fits_before n t (joined (ss ++ s ∷ [])) f.0 (fits_append n ss s f.1 k)

pub rules_append : (ss : List Statement) (s : Statement)
    → rules_of (joined (ss ++ s ∷ [])) ≡ rules_of (joined ss) + rules_of_one s
rules_append [] s = omega arith
rules_append (t ∷ ss) s =
    let e = rules_before t (joined (ss ++ s ∷ [])) in
    let f = rules_before t (joined ss) in let h = rules_append ss s in omega (arith, e, f, h)

-- The last statement and those before it fit.
pub fits_last : (n : ℕ) (ss : List Statement) (s : Statement) → Fits n (joined ss) → last_of ss ≡ Some s
    → FitsOne n s × Fits n (joined (before_last ss))
fits_last n [] s h e = cc
fits_last n (t ∷ []) s h e = (subst (FitsOne n) (same e) (fits_first n t Nothing h).0, tt)
  where
    same : Some t ≡ Some s → t ≡ s
    same d = cc
fits_last n (t ∷ u ∷ ss) s h e =
    let f = fits_first n t (joined (u ∷ ss)) h in
    let l = fits_last n (u ∷ ss) s f.1 e in (l.0, fits_before n t (joined (before_last (u ∷ ss))) f.0 l.1)

pub rules_last : (ss : List Statement) (s : Statement) → last_of ss ≡ Some s
    → rules_of (joined ss) ≡ rules_of (joined (before_last ss)) + rules_of_one s
rules_last [] s e = cc
rules_last (t ∷ []) s e =
    let f = rules_before t Nothing in let g = ap rules_of_one (same e) in omega (arith, f, g)
  where
    same : Some t ≡ Some s → t ≡ s
    same d = cc
rules_last (t ∷ u ∷ ss) s e =
    let f = rules_before t (joined (u ∷ ss)) in
    let g = rules_before t (joined (before_last (u ∷ ss))) in
    let h = rules_last (u ∷ ss) s e in omega (arith, f, g, h)

-- An open block fits, with its test and the statements before it; and the number of rules of its test and these
-- statements.
abbrev pub FitsBlock : ℕ → Block → Type 0
FitsBlock n (InLoop test before) = FitsTest n test × Fits n (joined before)
FitsBlock n (InFirst test before) = FitsTest n test × Fits n (joined before)
FitsBlock n (InSecond test first before) = FitsTest n test × Fits n first × Fits n (joined before)

abbrev pub rules_of_block : Block → ℕ
rules_of_block (InLoop test before) = suc (length (negations test)) + rules_of (joined before)
rules_of_block (InFirst test before) = suc (length (negations test)) + rules_of (joined before)
rules_of_block (InSecond test first before) =
    suc (length (negations test)) + (rules_of first + rules_of (joined before))

abbrev pub rules_of_blocks : List Block → ℕ
rules_of_blocks [] = 0
rules_of_blocks (block ∷ blocks) = rules_of_block block + rules_of_blocks blocks

pub blocks_append : (blocks : List Block) (block : Block)
    → rules_of_blocks (blocks ++ block ∷ []) ≡ rules_of_blocks blocks + rules_of_block block
blocks_append [] block = omega arith
blocks_append (b ∷ blocks) block = let h = blocks_append blocks block in omega (arith, h)

pub fits_blocks_append : (n : ℕ) (blocks : List Block) (block : Block) → AllByRecursion (FitsBlock n) blocks
    → FitsBlock n block → AllByRecursion (FitsBlock n) (blocks ++ block ∷ [])
fits_blocks_append n [] block h k = (k, tt)
fits_blocks_append n (b ∷ blocks) block (a, h) k = (a, fits_blocks_append n blocks block h k)

pub blocks_last : (blocks : List Block) (block : Block) → last_of blocks ≡ Some block
    → rules_of_blocks blocks ≡ rules_of_blocks (before_last blocks) + rules_of_block block
blocks_last [] block e = cc
blocks_last (b ∷ []) block e = let g = ap rules_of_block (same e) in omega (arith, g)
  where
    same : Some b ≡ Some block → b ≡ block
    same d = cc
blocks_last (b ∷ d ∷ blocks) block e = let h = blocks_last (d ∷ blocks) block e in omega (arith, h)

pub fits_blocks_last : (n : ℕ) (blocks : List Block) (block : Block) → AllByRecursion (FitsBlock n) blocks
    → last_of blocks ≡ Some block → FitsBlock n block × AllByRecursion (FitsBlock n) (before_last blocks)
fits_blocks_last n [] block h e = cc
fits_blocks_last n (b ∷ []) block (a, h) e = (subst (FitsBlock n) (same e) a, tt)
  where
    same : Some b ≡ Some block → b ≡ block
    same d = cc
fits_blocks_last n (b ∷ d ∷ blocks) block (a, h) e =
    let l = fits_blocks_last n (d ∷ blocks) block h e in (l.0, (a, l.1))

-- The negations of a test with one more atom are those of the test and those of the atom.
pub negations_append : (test : List Atom) (atom : Atom)
    → length (negations (test ++ atom ∷ [])) ≡ length (negations test) + length (negations_of atom)
negations_append [] atom = let e = length-append (negations_of atom) [] in omega (arith, e)
negations_append (a ∷ test) atom =
    let e = length-append (negations_of a) (negations (test ++ atom ∷ [])) in
    let f = length-append (negations_of a) (negations test) in
    let h = negations_append test atom in omega (arith, e, f, h)
