-- When a text spells a program, and the limits on texts.
use Rattle.std.specs.Prelude.{◌≡◌, ℕ, suc, ◌+◌, ◌≤◌, Bool, if◌then◌else◌, List, [], ◌∷◌, length, Option, Some, None}
use Rattle.std.specs.Prelude.{IsFalse}
use Rattle.std.specs.Prelude.{⊤}
use Rattle.expr_text.specs.model.Programs.{Name, Symbol, Program}
use Rattle.expr_text.specs.model.Limits.{rule_limit, place_limit, variable_limit, atom_limit, name_limit, token_limit}
use Rattle.expr_text.specs.model.Limits.{coefficient_limit}
use Rattle.expr_text.specs.poly_terms.Faults as polynomials
use Rattle.expr_text.specs.its_model.Valid.{IsValid}
use Rattle.expr_text.specs.text_core.Names.{AreDistinct}
use Rattle.expr_text.specs.text_core.Tokens.{pieces}
use Rattle.expr_text.specs.Pieces as inner
use Rattle.expr_text.specs.Trees.{Sum, sum_behind}
use Rattle.expr_text.specs.Terms.{number_of, sum_term}
use Rattle.expr_text.specs.Guards.{Atom, Always, Compared, Atoms, First, Joined, count_of, relation_of}
use Rattle.its_text.specs.Pieces.{Piece, In}
use Rattle.its_text.specs.Lexing.{tokens_of}
use Rattle.its_text.specs.Written.{Guard, NoGuard, BehindMark, InSquares, WrittenRule, Section, pieces_behind}
use Rattle.its_text.specs.Numbering.{is_com, term_in, symbols_of, arity_of, atoms_of_cost, rule_names, rules_of}
use Rattle.its_text.specs.Numbering.{program_numbered}
use Rattle.its_text.specs.Grammar.{Writes}
use Rattle.expr_text.specs.Differences.{differences, first_of_all}
use Rattle.its_text.specs.StateFaults.{is_goal, is_start, is_variables, is_rules}

-- The number of sections that pass a test.
abbrev pub times : (Section → Bool) → List Section → ℕ
times test [] = 0
times test (s ∷ sections) = if test s then suc (times test sections) else times test sections

-- The sections come in any order; there are the start symbol and the rules, and no kind but comments comes twice.
pub record OccurOnce (sections : List Section) : Type 0 where
  pub goal : times is_goal sections ≤ 1
  pub start : times is_start sections ≡ 1
  pub variables : times is_variables sections ≤ 1
  pub rules : times is_rules sections ≡ 1

-- A term has as many arguments as its symbol has places.
abbrev pub HasArity : List Symbol → Name → ℕ → Type 0
HasArity symbols name arity = arity_of symbols name ≡ arity

-- No left argument is repeated, the target's symbol isn't `Com_` and digits, and both terms have as many arguments as
-- their symbols have places.
pub record IsRule (symbols : List Symbol) (r : WrittenRule) : Type 0 where
  pub left : AreDistinct r.left.arguments
  pub target : IsFalse (is_com (term_in r.target).name)
  pub source_arity : HasArity symbols r.left.name (length r.left.arguments)
  pub target_arity : HasArity symbols (term_in r.target).name (length (term_in r.target).arguments)

-- Each rule meets these conditions, with the symbols before it.
abbrev pub AreRules : List Symbol → List WrittenRule → Type 0
AreRules symbols [] = ⊤
AreRules symbols (r ∷ rules) = IsRule symbols r × AreRules symbols rules

-- The rules, if there are some, meet these conditions.
abbrev pub HaveRules : Option (List WrittenRule) → Type 0
HaveRules None = ⊤
HaveRules (Some rules) = AreRules (symbols_of rules) rules

-- The bytes spell the program: they are the text of sections in a permitted order and number, which are, by numbers,
-- the program; the start symbol is then the source of a rule.
pub record Spells (bytes : List ℕ) (p : Program) : Type 0 where
  pub written : List Section
  pub text : Writes written (pieces (tokens_of bytes))
  pub once : OccurOnce written
  pub rules : HaveRules (rules_of written)
  pub numbered : program_numbered written ≡ Some p

-- Names and literals are within their limits.
abbrev pub IsSmallInner : inner.Piece → Type 0
IsSmallInner (inner.Word name) = length name ≤ name_limit
IsSmallInner (inner.Digits ds) = number_of ds ≤ coefficient_limit
IsSmallInner _ = ⊤

abbrev pub IsSmallPiece : Piece → Type 0
IsSmallPiece (In p) = IsSmallInner p
IsSmallPiece _ = ⊤

abbrev pub AreSmall : List Piece → Type 0
AreSmall [] = ⊤
AreSmall (p ∷ ps) = IsSmallPiece p × AreSmall ps

-- An expression has no more tokens than the limit.
abbrev pub IsShort : Sum → Type 0
IsShort s = length (sum_behind (λ p. p) s []) ≤ token_limit

-- An argument or a cost is short, and can be expanded.
pub record IsArgumentWithin (names : List Name) (s : Sum) : Type 0 where
  pub tokens : IsShort s
  pub expanded : polynomials.first_fault (sum_term names s) ≡ None

abbrev pub AreArgumentsWithin : List Name → List Sum → Type 0
AreArgumentsWithin names [] = ⊤
AreArgumentsWithin names (s ∷ sums) = IsArgumentWithin names s × AreArgumentsWithin names sums

-- Both sides of an atom are short, and its difference can be expanded.
abbrev pub IsAtomWithin : List Name → Atom → Type 0
IsAtomWithin names (Always t) = ⊤
IsAtomWithin names (Compared l sign r) =
    IsShort l × IsShort r × (first_of_all (differences (sum_term names l) (relation_of sign) (sum_term names r)) ≡ None)

abbrev pub AreAtomsWithin : List Name → Atoms → Type 0
AreAtomsWithin names (First a) = IsAtomWithin names a
AreAtomsWithin names (Joined atoms joint a) = AreAtomsWithin names atoms × IsAtomWithin names a

-- A cost, if there is one, is within its limits.
abbrev pub IsCostWithin : List Name → Option Sum → Type 0
IsCostWithin names None = ⊤
IsCostWithin names (Some c) = IsArgumentWithin names c

-- A guard has no more atoms than the limit; its rule's cost counts as this many atoms.
abbrev pub IsMaybeWithin : ℕ → List Name → Option Atoms → Type 0
IsMaybeWithin others names None = ⊤
IsMaybeWithin others names (Some atoms) = (count_of atoms + others ≤ atom_limit) × AreAtomsWithin names atoms

abbrev pub IsGuardWithin : ℕ → List Name → Guard → Type 0
IsGuardWithin others names NoGuard = ⊤
IsGuardWithin others names (BehindMark atoms) = IsMaybeWithin others names atoms
IsGuardWithin others names (InSquares atoms) = IsMaybeWithin others names atoms

-- A rule has no more arguments on each side than a symbol may have places, and no more variables than the limit.
pub record IsRuleWithin (r : WrittenRule) : Type 0 where
  pub left : length r.left.arguments ≤ place_limit
  pub right : length (term_in r.target).arguments ≤ place_limit
  pub variables : length (rule_names r) ≤ variable_limit
  pub arguments : AreArgumentsWithin (rule_names r) (term_in r.target).arguments
  pub cost : IsCostWithin (rule_names r) r.cost
  pub guard : IsGuardWithin (atoms_of_cost r.cost) (rule_names r) r.guard

abbrev pub AreRulesWithin : List WrittenRule → Type 0
AreRulesWithin [] = ⊤
AreRulesWithin (r ∷ rules) = IsRuleWithin r × AreRulesWithin rules

-- There are no more rules than the limit.
abbrev pub HaveRulesWithin : Option (List WrittenRule) → Type 0
HaveRulesWithin None = ⊤
HaveRulesWithin (Some rules) = (length rules ≤ rule_limit) × AreRulesWithin rules

-- The sections are within the limits.
pub record AreWithin (sections : List Section) : Type 0 where
  pub small : AreSmall (pieces_behind sections)
  pub rules : HaveRulesWithin (rules_of sections)

-- The bytes spell the program within the limits.
pub record SpellsWithin (bytes : List ℕ) (p : Program) : Type 0 where
  pub spells : Spells bytes p
  pub within : AreWithin spells.written

-- One text spells at most one program.
pub record OneProgram : Type 0 where
  pub each : (bytes : List ℕ) (p q : Program) → Spells bytes p → Spells bytes q → p ≡ q

-- A program that a text spells within the limits is valid.
pub record SpelledIsValid : Type 0 where
  pub each : (bytes : List ℕ) (p : Program) → SpellsWithin bytes p → IsValid p
