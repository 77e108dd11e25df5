-- Worked values of programs, configurations and steps as plain data.
use Rattle.std.specs.Prelude.{◌≡◌, ℕ, List, [], ◌∷◌, pos, negsuc, Some, None, ⊤}
use Rattle.poly_terms.specs.model.Terms.{Literal, Variable}
use Rattle.poly_terms.specs.model.Programs as plain
use Rattle.poly_terms.specs.model.Programs.{AtLeast, MoreThan, AtMost, LessThan, EqualTo}
use Rattle.poly_terms.specs.declared.expr.Expr.TheVariants.{Num, Var}
use Rattle.text_core.specs.declared.name.Name.{Name}
use Rattle.its_model.specs.declared.guard.Rel.TheVariants.{Ge, Gt, Le, Lt, Eq}
use Rattle.its_model.specs.declared.guard.Atom.TheVariants.{Always, Compare}
use Rattle.its_model.specs.declared.program.Symbol.{Symbol}
use Rattle.its_model.specs.declared.program.Rule.{Rule}
use Rattle.its_model.specs.declared.program.Program.{Program}
use Rattle.its_model.specs.declared.run.Config.{Config}
use Rattle.its_model.specs.declared.run.Step.{Step}
use Rattle.its_model.specs.Views.{relation_of, atom_of, symbol_of, rule_of, program_of, config_of, step_of}

-- The name with one byte.
abbrev pub letter : ℕ → plain.Name
letter b = b ∷ []

-- Worked values of relations and atoms as plain data.
pub record GuardsAreRead : Type 0 where
  -- `>=` is at least, `>` more than, `<=` at most, `<` less than, and `=` equal to.
  pub at_least : relation_of Ge ≡ AtLeast
  pub more_than : relation_of Gt ≡ MoreThan
  pub at_most : relation_of Le ≡ AtMost
  pub less_than : relation_of Lt ≡ LessThan
  pub equal_to : relation_of Eq ≡ EqualTo
  -- `TRUE` is the atom that always holds.
  pub always : atom_of Always ≡ plain.Always
  -- Sides of a comparison are not swapped: `A >= -3`, and `B < A` with B numbered 1 and A numbered 0.
  pub with_literal : atom_of (Compare (Var 0) Ge (Num (negsuc 2)))
      ≡ plain.Compare (Variable 0) AtLeast (Literal (negsuc 2))
  pub with_variables : atom_of (Compare (Var 1) Lt (Var 0)) ≡ plain.Compare (Variable 1) LessThan (Variable 0)

-- The symbol has a name with these bytes, and this many places.
pub record IsSymbol (bytes : plain.Name) (places : ℕ) (s : Symbol) : Type 0 where
  pub named : s.name.bytes.items ≡ bytes
  pub arity : s.arity ≡ places

-- The names have these bytes, one by one.
abbrev pub AreSpelled : List Name → List plain.Name → Type 0
AreSpelled [] [] = ⊤
AreSpelled [] (bytes ∷ more) = ⊥
AreSpelled (n ∷ ns) [] = ⊥
AreSpelled (n ∷ ns) (bytes ∷ more) = (n.bytes.items ≡ bytes) × AreSpelled ns more

-- The rule is f(A, B, C) -{C}> h(B, E) with the guard TRUE and A >= D, with f numbered 0 and h numbered 1; D and E are
-- free.
pub record IsFirstRule (r : Rule) : Type 0 where
  pub source : r.source ≡ 0
  pub target : r.target ≡ 1
  pub left : r.left ≡ 3
  pub free : r.free ≡ 2
  pub names : AreSpelled r.names.items (letter 65 ∷ letter 66 ∷ letter 67 ∷ letter 68 ∷ letter 69 ∷ [])
  pub updates : r.updates.items ≡ Var 1 ∷ Var 4 ∷ []
  pub guard : r.guard.items ≡ Always ∷ Compare (Var 0) Ge (Var 3) ∷ []
  pub cost : r.cost ≡ Some (Var 2)

-- This rule as plain data.
abbrev pub first_rule : plain.Rule
first_rule = record {
  source = 0;
  target = 1;
  left = 3;
  free = 2;
  names = letter 65 ∷ letter 66 ∷ letter 67 ∷ letter 68 ∷ letter 69 ∷ [];
  updates = Variable 1 ∷ Variable 4 ∷ [];
  guard = plain.Always ∷ plain.Compare (Variable 0) AtLeast (Variable 3) ∷ [];
  cost = Some (Variable 2);
}

-- The rule is g(X, Y) -> h(Y, 7), with g numbered 2; it has no guard and no cost.
pub record IsSecondRule (r : Rule) : Type 0 where
  pub source : r.source ≡ 2
  pub target : r.target ≡ 1
  pub left : r.left ≡ 2
  pub free : r.free ≡ 0
  pub names : AreSpelled r.names.items (letter 88 ∷ letter 89 ∷ [])
  pub updates : r.updates.items ≡ Var 1 ∷ Num (pos 7) ∷ []
  pub guard : r.guard.items ≡ []
  pub cost : r.cost ≡ None

-- This rule as plain data.
abbrev pub second_rule : plain.Rule
second_rule = record {
  source = 2;
  target = 1;
  left = 2;
  free = 0;
  names = letter 88 ∷ letter 89 ∷ [];
  updates = Variable 1 ∷ Literal (pos 7) ∷ [];
  guard = [];
  cost = None;
}

-- The program has the symbols f, h and g with three, two and two places and these two rules, and starts at g(X, Y).
pub record IsWorkedProgram (p : Program) : Type 0 where
  pub f : Symbol
  pub h : Symbol
  pub g : Symbol
  pub f_is : IsSymbol (letter 102) 3 f
  pub h_is : IsSymbol (letter 104) 2 h
  pub g_is : IsSymbol (letter 103) 2 g
  pub one : Rule
  pub two : Rule
  pub one_is : IsFirstRule one
  pub two_is : IsSecondRule two
  pub symbols : p.symbols.items ≡ f ∷ h ∷ g ∷ []
  pub start : p.start ≡ 2
  pub start_names : AreSpelled p.start_names.items (letter 88 ∷ letter 89 ∷ [])
  pub rules : p.rules.items ≡ one ∷ two ∷ []

-- This program as plain data.
abbrev pub worked_program : plain.Program
worked_program = record {
  symbols = record { name = letter 102; arity = 3 } ∷ record { name = letter 104; arity = 2 }
      ∷ record { name = letter 103; arity = 2 } ∷ [];
  start = 2;
  start_names = letter 88 ∷ letter 89 ∷ [];
  rules = first_rule ∷ second_rule ∷ [];
}

-- Worked values of symbols, rules and programs as plain data, wherever their parts lie in memory.
pub record ProgramsAreRead : Type 0 where
  -- A symbol keeps its name and its number of places: `f1` with three.
  pub symbol : (s : Symbol) → IsSymbol (102 ∷ 49 ∷ []) 3 s → symbol_of s ≡ record { name = 102 ∷ 49 ∷ []; arity = 3 }
  -- A rule keeps its two symbols, its numbers of left and free variables, its names, updates and atoms in order, and
  -- its cost.
  pub rule : (r : Rule) → IsFirstRule r → rule_of r ≡ first_rule
  -- A rule without a guard gets none, and one without a cost gets none.
  pub bare_rule : (r : Rule) → IsSecondRule r → rule_of r ≡ second_rule
  -- A program keeps its start, and its symbols, start names and rules in order.
  pub program : (p : Program) → IsWorkedProgram p → program_of p ≡ worked_program

-- Worked values of configurations and steps as plain data, wherever their values lie in memory.
pub record RunsAreRead : Type 0 where
  -- A configuration keeps its symbol, and its values in order: the symbol 2 with 5 and -2.
  pub config : (c : Config) → c.at ≡ 2 → c.values.items ≡ pos 5 ∷ negsuc 1 ∷ []
      → config_of c ≡ record { at = 2; values = pos 5 ∷ negsuc 1 ∷ [] }
  -- A step keeps its rule, and the values of the free variables in order: rule 1 with -3 and 4.
  pub step : (s : Step) → s.rule ≡ 1 → s.free.items ≡ negsuc 2 ∷ pos 4 ∷ []
      → step_of s ≡ record { rule = 1; free = negsuc 2 ∷ pos 4 ∷ [] }

-- All worked values of plain data.
pub record WorkedValues : Type 0 where
  pub guards : GuardsAreRead
  pub programs : ProgramsAreRead
  pub runs : RunsAreRead
