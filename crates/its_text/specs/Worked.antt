-- Worked values of the texts of programs.
use Rattle.std.specs.Prelude.{◌≡◌, ℕ, ◌++◌, List, [], ◌∷◌, length, codes, pos, Option, Some, None}
use Rattle.expr_text.specs.model.Terms.{Term, Literal, Variable, Negation, Addition, Subtraction, Multiplication}
use Rattle.expr_text.specs.model.Terms.{Exponentiation}
use Rattle.expr_text.specs.model.Programs.{Name, Symbol, Rule, Program, Atom, Always, Compare, AtLeast, MoreThan}
use Rattle.expr_text.specs.model.Programs.{AtMost}
use Rattle.expr_text.specs.model.Programs.{LessThan, EqualTo}
use Rattle.expr_text.specs.text_core.Reading.{Parsed, Refused}
use Rattle.its_text.specs.Kinds.{Kind, NotAscii, Syntax, MissingSection, RepeatedSection, ManyTargets, LeftNotVariable}
use Rattle.its_text.specs.Kinds.{LeftRepeated, ArityDiffers, NumberTooLarge, Limit, HighDegree, StartUnknown}
use Rattle.its_text.specs.Kinds.{Disjunction}
use Rattle.its_text.specs.Answers.{verdict}

-- the text is refused at a byte
abbrev pub RefusedAt : List ℕ → ℕ → Kind → Type 0
RefusedAt bytes at kind = verdict bytes ≡ Refused (record { kind = kind; at = at })

-- rules after a start symbol
abbrev pub with_rules : List ℕ → List ℕ
with_rules rules = codes "(STARTTERM (FUNCTIONSYMBOLS l0))(RULES " ++ rules ++ codes ")"

-- The first faults of texts, and their positions.
pub record FirstFaults : Type 0 where
  -- A rule with two targets is refused.
  pub many_targets : RefusedAt (with_rules (codes "l0(A) -> Com_2(l1(A),l2(A))")) 48 ManyTargets
  -- A repeated left argument is refused.
  pub left_repeated : RefusedAt (with_rules (codes "l0(A,A) -> Com_1(l0(A,A))")) 44 LeftRepeated
  -- A left argument that is a number is refused.
  pub left_not_variable : RefusedAt (with_rules (codes "l0(1) -> Com_1(l0(1))")) 42 LeftNotVariable
  -- A term with two arguments is refused if its symbol has one place.
  pub arity_differs : RefusedAt (with_rules (codes "l0(A) -> Com_1(l0(A,A))")) 60 ArityDiffers
  -- An argument of degree 9 is refused.
  pub high_degree : RefusedAt (with_rules (codes "l0(A) -> Com_1(l1(A^9))")) 59 (Limit HighDegree)
  -- The sign `||` is refused.
  pub disjunction : RefusedAt (with_rules (codes "l0(A) -> Com_1(l1(A)) :|: A >= 1 || A <= 0")) 72 Disjunction
  -- A start symbol that no rule leaves is refused.
  pub start_unknown : RefusedAt (with_rules (codes "l1(A) -> Com_1(l1(A))")) 28 StartUnknown
  -- A literal over 2^63 - 1 is refused.
  pub large_literal : RefusedAt
      (with_rules (codes "l0(A) -> Com_1(l1(A)) :|: A*A <= 9223372036854775808")) 72 NumberTooLarge
  -- A literal that is too large directly after `:|:` is refused before a bracket that can't follow.
  pub literal_before_bracket : RefusedAt (with_rules
      (codes "l0(A) -> Com_1(l1(A)) :|: 9223372036854775808 (")) 65 NumberTooLarge
  -- An argument ends at a token that can't follow, and the argument's fault comes before that token.
  pub ended_argument : RefusedAt (with_rules (codes "l0(A) -> Com_1(l1(A^9 l2")) 59 (Limit HighDegree)
  -- An argument that continues doesn't have that fault.
  pub open_argument : RefusedAt (with_rules (codes "l0(A) -> Com_1(l1(A^9+))")) 61 Syntax
  -- `Com_2` before anything but a bracket is refused at the next token.
  pub com_without_bracket : RefusedAt (with_rules (codes "l0(A) -> Com_2 l1(A)")) 54 Syntax
  -- `Com_1(` within `Com_1(` is refused.
  pub com_1_twice : RefusedAt (with_rules (codes "l0(A) -> Com_1(Com_1(l1(A)))")) 54 Syntax
  -- `Com_2(` within `Com_1(` is refused.
  pub com_2_inside : RefusedAt (with_rules (codes "l0(A) -> Com_1(Com_2(A))")) 54 ManyTargets
  -- `Com_` with any digits but the single digit 1 is refused.
  pub com_01 : RefusedAt (with_rules (codes "l0(A) -> Com_01(l1(A))")) 48 ManyTargets
  -- A left argument that begins with a name and continues is refused.
  pub left_sum : RefusedAt (with_rules (codes "l0(A+1) -> Com_1(l0(A))")) 42 LeftNotVariable
  -- A left argument in brackets is refused.
  pub left_bracket : RefusedAt (with_rules (codes "l0((A)) -> Com_1(l0(A))")) 42 LeftNotVariable
  -- Two names in the place of one left argument are refused at the second.
  pub two_names : RefusedAt (with_rules (codes "l0(A B) -> Com_1(l0(A))")) 44 Syntax
  -- A left argument that is a term with brackets is refused at its bracket.
  pub left_call : RefusedAt (with_rules (codes "l0(f(A)) -> Com_1(l0(A))")) 43 Syntax
  -- A name before a bracket begins a rule only directly after `:|:`.
  pub bracket_in_atom : RefusedAt (with_rules (codes "l0(A) -> Com_1(l1(A)) :|: A >= l0(A)")) 72 Syntax
  -- Of 2^63, the power 2^9 is computed before, and its exponent is over 8.
  pub lower_powers : RefusedAt (with_rules (codes "l0(A) -> Com_1(l1(2^63))")) 60 (Limit HighDegree)
  -- Of the two faults of 200^9, the lesser one counts.
  pub least_of_two : RefusedAt (with_rules (codes "l0(A) -> Com_1(l1(200^9))")) 61 NumberTooLarge
  -- Of `L <= R`, the right side is expanded first.
  pub right_first : RefusedAt
      (with_rules (codes "l0(A) -> Com_1(l1(A)) :|: A^9 <= 9223372036854775807*2")) 92 NumberTooLarge
  -- Of `L >= R`, the left side is expanded first.
  pub left_first : RefusedAt (with_rules (codes "l0(A) -> Com_1(l1(A)) :|: A^9 >= 9223372036854775807*2")) 92
      (Limit HighDegree)
  -- The -1 in the difference of a strict relation counts.
  pub strict : RefusedAt (with_rules (codes "l0(A) -> Com_1(l1(A)) :|: A > 9223372036854775807")) 87 NumberTooLarge
  -- A cost is exactly one expression: two, or none, are refused.
  pub two_costs : RefusedAt (with_rules (codes "l0(A) -{A,1}> Com_1(l1(A))")) 48 Syntax
  pub no_cost : RefusedAt (with_rules (codes "l0(A) -{}> Com_1(l1(A))")) 47 Syntax
  -- A comparison as a cost is refused; `}>` can't follow an open bracket.
  pub compared_cost : RefusedAt (with_rules (codes "l0(A) -{A>1}> Com_1(l1(A))")) 48 Syntax
  pub open_cost : RefusedAt (with_rules (codes "l0(A) -{(A}> Com_1(l1(A))")) 49 Syntax
  pub bars_in_cost : RefusedAt (with_rules (codes "l0(A) -{A||1}> Com_1(l1(A))")) 48 Disjunction
  -- A cost that can't be expanded is refused at its last byte, also if the next token can't follow.
  pub high_cost : RefusedAt (with_rules (codes "l0(A) -{A^9}> Com_1(l1(A))")) 49 (Limit HighDegree)
  pub large_cost : RefusedAt (with_rules (codes "l0(A) -{9223372036854775807*2}> Com_1(l1(A))")) 67 NumberTooLarge
  pub ended_cost : RefusedAt (with_rules (codes "l0(A) -{A^9 , 1}> Com_1(l1(A))")) 49 (Limit HighDegree)
  -- A cost that continues doesn't have that fault.
  pub going_cost : RefusedAt (with_rules (codes "l0(A) -{A^9+}> Com_1(l1(A))")) 51 Syntax
  -- A literal that is too large is refused in a cost.
  pub literal_in_cost : RefusedAt (with_rules (codes "l0(A) -{9223372036854775808}> Com_1(l1(A))")) 47 NumberTooLarge
  -- A cost is followed by a target, as `->` is.
  pub two_arrows : RefusedAt (with_rules (codes "l0(A) -{A}> -> l1(A)")) 51 Syntax
  pub two_targets_at_cost : RefusedAt (with_rules (codes "l0(A) -{A}> Com_2(l1(A),l2(A))")) 51 ManyTargets
  pub arity_at_cost : RefusedAt (with_rules (codes "l0(A) -{A}> l0(A,A)")) 57 ArityDiffers
  -- `-{` is one token, which occurs only between the terms of a rule; so does `}>`.
  pub brace : RefusedAt (with_rules (codes "l0(A) -> Com_1(l1(A -{")) 59 Syntax
  pub cost_behind_arrow : RefusedAt (with_rules (codes "l0(A) -> -{A}> l1(A)")) 48 Syntax
  pub cost_unopened : RefusedAt (with_rules (codes "l0(A) }> Com_1(l1(A))")) 45 Syntax
  -- Braces by themselves are no tokens.
  pub brace_alone : RefusedAt (with_rules (codes "l0(A) - {A}> Com_1(l1(A))")) 45 Syntax
  pub closing_alone : RefusedAt (with_rules (codes "l0(A) -{A} > Com_1(l1(A))")) 48 Syntax
  -- A bracket after the atom that always holds is refused.
  pub truth_and_bracket : RefusedAt (with_rules (codes "l0(A) -> Com_1(l1(A)) :|: A > 1 && TRUE (")) 79 Syntax
  -- A symbol without brackets is refused.
  pub no_brackets : RefusedAt (with_rules (codes "l0(A) -> Com_1(l1)")) 56 Syntax
  -- `!=` is no relation
  pub unequal : RefusedAt (with_rules (codes "l0(A) -> Com_1(l1(A)) :|: A != 1")) 67 Syntax
  -- A text that ends too early is refused at its end.
  pub bracket_open : RefusedAt (with_rules (codes "l0(A) -> Com_1(l1((A)")) 61 Syntax
  -- A byte over 127 is refused.
  pub not_ascii : RefusedAt (with_rules (codes "l0(A" ++ (200 ∷ codes ") -> Com_1(l1(A))"))) 43 NotAscii
  -- In a comment, which may have any bytes, a byte over 127 is no fault.
  pub ascii_in_comment : RefusedAt (codes "(COMMENT " ++ (200 ∷ codes ")")) 11 MissingSection
  -- A section that occurs twice is refused.
  pub repeated_section : RefusedAt (codes "(VAR A)(VAR A)") 7 RepeatedSection
  -- A text without a section is refused.
  pub missing_section : RefusedAt [] 0 MissingSection
  -- A text without the required sections is refused at its end.
  pub goal_alone : RefusedAt (codes "(GOAL COMPLEXITY)") 17 MissingSection
  -- `||` among variables is refused.
  pub bars_in_a_list : RefusedAt (codes "(VAR A || B)") 7 Disjunction
  -- A comment that isn't closed is refused at the end of the text.
  pub open_comment : RefusedAt (codes "(COMMENT (a)") 12 Syntax
  -- A comment ends with the bracket that closes it.
  pub behind_comment : RefusedAt (codes "(COMMENT (||) !))") 16 Syntax
  -- `COMMENT` is a name like others where no section begins.
  pub word_behind_comment : RefusedAt (codes "(GOAL COMMENT)") 6 Syntax

-- Names of one byte, and those of the two symbols.
abbrev pub name : ℕ → Name
name b = b ∷ []

abbrev pub l0 : Name
l0 = 108 ∷ 48 ∷ []

abbrev pub l1 : Name
l1 = 108 ∷ 49 ∷ []

abbrev pub symbols : ℕ → ℕ → List Symbol
symbols a b = record { name = l0; arity = a } ∷ record { name = l1; arity = b } ∷ []

-- a program that starts at l0, with one variable A there
abbrev pub started : List Symbol → List Rule → Program
started s rules = record { symbols = s; start = 0; start_names = name 65 ∷ []; rules = rules }

-- A rule from l0 to l1 with the left variable A, with or without a cost.
abbrev pub from_l0_costing : Option Term → List Name → List Term → List Atom → Rule
from_l0_costing cost free updates guard =
    record {
      source = 0;
      target = 1;
      left = 1;
      free = length free;
      names = name 65 ∷ free;
      updates = updates;
      guard = guard;
      cost = cost;
    }

-- A rule from l0 to l1 without a cost.
abbrev pub from_l0 : List Name → List Term → List Atom → Rule
from_l0 free updates guard = from_l0_costing None free updates guard

-- the text spells the program
abbrev pub IsReadAs : List ℕ → Program → Type 0
IsReadAs bytes p = verdict bytes ≡ Parsed p

-- the programs that texts denote
pub record Programs : Type 0 where
  -- A target within `Com_1(`, and one alone, give the same program.
  pub marked : IsReadAs (with_rules (codes "l0(A) -> Com_1(l1(A))"))
      (started (symbols 1 1) (from_l0 [] (Variable 0 ∷ []) [] ∷ []))
  pub bare : IsReadAs (with_rules (codes "l0(A)->l1(A)")) (started (symbols 1 1) (from_l0 [] (Variable 0 ∷ []) [] ∷ []))
  -- guards of either form, and empty ones; `Com_` without digits is a symbol
  pub behind_mark : IsReadAs (with_rules (codes "l0(A) -> l1() :|: A >= 1 && A < 2")) (started (symbols 1 0)
      (from_l0 [] [] (Compare (Variable 0) AtLeast (Literal (pos 1)) ∷ Compare (Variable 0) LessThan (Literal (pos 2))
      ∷ []) ∷ []))
  pub in_squares : IsReadAs (with_rules (codes "l0(A) -> l1() [A = 1 /\\ TRUE]"))
      (started (symbols 1 0) (from_l0 [] [] (Compare (Variable 0) EqualTo (Literal (pos 1)) ∷ Always ∷ []) ∷ []))
  pub empty_guards : IsReadAs (with_rules (codes "l0(A) -> l1() :|: l0(A) -> l1() []"))
      (started (symbols 1 0) (from_l0 [] [] [] ∷ from_l0 [] [] [] ∷ []))
  -- `TRUE` and `true` are names if a relation or an operator follows.
  pub truth_as_a_name : IsReadAs (with_rules (codes "l0(A) -> l1() :|: TRUE > 1 && true")) (started (symbols 1 0)
      (from_l0 ((84 ∷ 82 ∷ 85 ∷ 69 ∷ []) ∷ []) [] (Compare (Variable 1) MoreThan (Literal (pos 1)) ∷ Always ∷ []) ∷ []))
  -- free variables are numbered in order of first occurrence in the rule's text
  pub free_variables : IsReadAs (with_rules (codes "l0(A) -> l1(C,B) :|: D == C")) (started (symbols 1 2)
      (from_l0 (name 67 ∷ name 66 ∷ name 68 ∷ []) (Variable 1 ∷ Variable 2 ∷ [])
      (Compare (Variable 3) EqualTo (Variable 1) ∷ []) ∷ []))
  -- The arrow may have a cost, with blanks and without.
  pub costing : IsReadAs (with_rules (codes "l0(A) -{A}> Com_1(l1(A))"))
      (started (symbols 1 1) (from_l0_costing (Some (Variable 0)) [] (Variable 0 ∷ []) [] ∷ []))
  pub costing_more : IsReadAs (with_rules (codes "l0(A)-{ 2*A+(1) }>l1(A) l0(A)->l1(1)")) (started (symbols 1 1)
      (from_l0_costing (Some (Addition (Multiplication (Literal (pos 2)) (Variable 0)) (Literal (pos 1)))) []
      (Variable 0 ∷ []) [] ∷ from_l0 [] (Literal (pos 1) ∷ []) [] ∷ []))
  -- in the text the cost comes before the target
  pub free_in_cost : IsReadAs (with_rules (codes "l0(A) -{D*C}> l1(B,C) :|: B == E")) (started (symbols 1 2)
      (from_l0_costing (Some (Multiplication (Variable 1) (Variable 2))) (name 68 ∷ name 67 ∷ name 66 ∷ name 69 ∷ [])
      (Variable 3 ∷ Variable 2 ∷ []) (Compare (Variable 3) EqualTo (Variable 4) ∷ []) ∷ []))
  -- in a cost `Com_1` and `TRUE` are names like others
  pub names_in_cost : IsReadAs (with_rules (codes "l0(A) -{Com_1-TRUE}> Com_1(l1(A))")) (started (symbols 1 1)
      (from_l0_costing (Some (Subtraction (Variable 1) (Variable 2)))
      (codes "Com_1" ∷ codes "TRUE" ∷ []) (Variable 0 ∷ []) [] ∷ []))
  -- sums, differences and products group to the left, `-A^2` is `-(A^2)`, and brackets leave no node
  pub grouping : IsReadAs (with_rules (codes "l0(A) -> l1(A-1-2*A*3,-A^2,-(A)*2)")) (started (symbols 1 3)
      (from_l0 [] (Subtraction (Subtraction (Variable 0) (Literal (pos 1)))
      (Multiplication (Multiplication (Literal (pos 2)) (Variable 0)) (Literal (pos 3)))
      ∷ Negation (Exponentiation (Variable 0) 2) ∷ Multiplication (Negation (Variable 0)) (Literal (pos 2)) ∷ []) []
      ∷ []))
  -- Sections come in any order, comments have any bytes up to their closing bracket, and rules may lead to the start
  -- symbol.
  pub any_order : IsReadAs
      (codes "(COMMENT (|| !) )(RULES l1(B)->l0(0) l0(A) -> l1(007))(COMMENT)(GOAL COMPLEXITY)(VAR)(STARTTERM(FUNCTIONSYMBOLS l0))")
      (record {
        symbols = record { name = l1; arity = 1 } ∷ record { name = l0; arity = 1 } ∷ [];
        start = 1;
        start_names = name 65 ∷ [];
        rules =
            record {
              source = 0;
              target = 1;
              left = 1;
              free = 0;
              names = name 66 ∷ [];
              updates = Literal (pos 0) ∷ [];
              guard = [];
              cost = None;
            }
            ∷ record {
              source = 1;
              target = 0;
              left = 1;
              free = 0;
              names = name 65 ∷ [];
              updates = Literal (pos 7) ∷ [];
              guard = [];
              cost = None;
            } ∷ [];
      })
  -- the largest literal
  pub largest_literal : IsReadAs (with_rules (codes "l0(A) -> Com_1(l1(A)) :|: A*A <= 9223372036854775807"))
      (started (symbols 1 1)
      (from_l0 [] (Variable 0 ∷ []) (Compare (Multiplication (Variable 0) (Variable 0)) AtMost
      (Literal (pos 9223372036854775807)) ∷ []) ∷ []))

-- All worked values of texts.
pub record WorkedValues : Type 0 where
  pub faults : FirstFaults
  pub programs : Programs
