-- Worked values of canonical texts, and of which programs have a text.
use Rattle.std.specs.Prelude.{◌≡◌, ℕ, List, [], ◌∷◌, ◌++◌, codes, pos, negsuc, Some, None}
use Rattle.its_text.specs.expr_text.model.Programs.{Name, AtLeast, MoreThan, AtMost, LessThan, EqualTo}
use Rattle.its_text.specs.expr_text.model.Programs.{Atom, Always, Compare, Rule, Program}
use Rattle.its_text.specs.expr_text.model.Terms.{Term, Literal, Variable, Negation, Addition, Subtraction}
use Rattle.its_text.specs.expr_text.model.Terms.{Multiplication, Exponentiation}
use Rattle.its_text.specs.expr_text.text_core.Reading.{Parsed}
use Rattle.its_text.specs.Answers.{verdict}
use Rattle.its_writer.specs.Texts.{canonical_text}
use Rattle.its_writer.specs.Spellable.{known_behind, IsSpellableTerm, AreSpellable, terms_of, symbols_behind}
use Rattle.its_writer.specs.Spellable.{AreInOrder, names_at, IsSpellable}
use Rattle.its_writer.specs.Generated.{generated}

-- the names X and Y
abbrev pub x_and_y : List Name
x_and_y = codes "X" ∷ codes "Y" ∷ []

-- a rule from f to g with a cost, and a free variable
abbrev pub costly : List Term → List Atom → Rule
costly updates guard = record {
  source = 0;
  target = 1;
  left = 1;
  free = 1;
  names = x_and_y;
  updates = updates;
  guard = guard;
  cost = Some (Multiplication (Literal (pos 2)) (Variable 1));
}

-- a rule from g to f
abbrev pub back_rule : Term → Rule
back_rule update = record {
  source = 1;
  target = 0;
  left = 2;
  free = 0;
  names = codes "Y" ∷ codes "Z" ∷ [];
  updates = update ∷ [];
  guard = [];
  cost = None;
}

-- a program of these rules over the symbols f and g
abbrev pub over_f_g : List Rule → Program
over_f_g rules = record {
  symbols = record { name = codes "f"; arity = 1 } ∷ record { name = codes "g"; arity = 2 } ∷ [];
  start = 0;
  start_names = codes "X" ∷ [];
  rules = rules;
}

-- an operation of each kind, some within others
abbrev pub sample : Program
sample = over_f_g
    (costly
    (Negation (Exponentiation (Variable 0) 2)
    ∷ Multiplication (Addition (Variable 0) (Literal (pos 10))) (Variable 1) ∷ [])
    (Always
    ∷ Compare (Variable 1) LessThan (Subtraction (Subtraction (Variable 0) (Variable 1)) (Negation (Variable 0)))
    ∷ Compare (Variable 0) EqualTo (Exponentiation (Negation (Variable 1)) 3) ∷ []) ∷ back_rule (Literal (pos 0)) ∷ [])

-- a rule with a negative literal, and one with the negation of a literal
abbrev pub negative : Program
negative = over_f_g (costly (Variable 0 ∷ Variable 1 ∷ []) [] ∷ back_rule (Literal (negsuc 6)) ∷ [])

abbrev pub opposite : Program
opposite = over_f_g (costly (Variable 0 ∷ Variable 1 ∷ []) [] ∷ back_rule (Negation (Literal (pos 7))) ∷ [])

-- a rule whose three free variables occur in the cost, on the right and in the guard
abbrev pub scattered : ℕ → ℕ → ℕ → Rule
scattered in_cost in_update in_guard = record {
  source = 0;
  target = 1;
  left = 1;
  free = 3;
  names = codes "X" ∷ codes "Y" ∷ codes "Z" ∷ codes "W" ∷ [];
  updates = Variable in_update ∷ Exponentiation (Exponentiation (Variable 0) 2) 3 ∷ [];
  guard =
      Compare (Variable in_guard) AtLeast (Literal (pos 1)) ∷ Compare (Variable 0) MoreThan (Variable in_cost)
      ∷ Compare (Variable 0) AtMost (Literal (pos 0)) ∷ [];
  cost = Some (Variable in_cost);
}

-- a program whose symbols have no places, and so without variables
abbrev pub placeless : Program
placeless = record {
  symbols = record { name = codes "l"; arity = 0 } ∷ [];
  start = 0;
  start_names = [];
  rules = record { source = 0; target = 0; left = 0; free = 0; names = []; updates = []; guard = []; cost = None } ∷ [];
}

-- the sample, with another name for its second symbol
abbrev pub with_second : Name → Program
with_second name = record {
  symbols = record { name = codes "f"; arity = 1 } ∷ record { name = name; arity = 2 } ∷ [];
  start = 0;
  start_names = codes "X" ∷ [];
  rules = sample.rules;
}

-- the sample, with the left names of the rule from g as the names of the start symbol f
abbrev pub other_start : Program
other_start = record {
  symbols = sample.symbols;
  start = 0;
  start_names = codes "Y" ∷ codes "Z" ∷ [];
  rules = sample.rules;
}

-- a rule with a free variable that occurs nowhere
abbrev pub idle : Rule
idle = record {
  source = 0;
  target = 1;
  left = 1;
  free = 1;
  names = x_and_y;
  updates = Variable 0 ∷ Variable 0 ∷ [];
  guard = [];
  cost = None;
}

-- the canonical texts of sample programs
pub record WorkedTexts : Type 0 where
  pub least : canonical_text (generated 0)
      ≡ codes "(GOAL COMPLEXITY)\n(STARTTERM (FUNCTIONSYMBOLS l0))\n(VAR A B)\n(RULES\n  l0(A,B) -> Com_1(l1(A,B))\n)\n"
  pub one : canonical_text (generated 1)
      ≡ codes "(GOAL COMPLEXITY)\n(STARTTERM (FUNCTIONSYMBOLS l0))\n(VAR A B)\n(RULES\n  l0(A,B) -> Com_1(l1(A,B))\n"
      ++ codes "  l1(A,B) -> Com_1(l1(A-1,B)) :|: A >= 1\n  l1(A,B) -> Com_1(l2(B,B))\n)\n"
  pub operations : canonical_text sample
      ≡ codes "(GOAL COMPLEXITY)\n(STARTTERM (FUNCTIONSYMBOLS f))\n(VAR X Y Z)\n(RULES\n"
      ++ codes "  f(X) -{2*Y}> Com_1(g(-(X^2),(X+10)*Y))"
      ++ codes " :|: TRUE && Y < (X-Y)-(-X) && X = (-Y)^3\n  g(Y,Z) -> Com_1(f(0))\n)\n"
  -- the sample's canonical text is read back as the sample
  pub read_back : verdict (canonical_text sample) ≡ Parsed sample
  -- a rule with free variables in the cost, on the right and in the guard
  pub free_variables : canonical_text (over_f_g (scattered 1 2 3 ∷ []))
      ≡ codes "(GOAL COMPLEXITY)\n(STARTTERM (FUNCTIONSYMBOLS f))\n(VAR X Y Z W)\n(RULES\n"
      ++ codes "  f(X) -{Y}> Com_1(g(Z,(X^2)^3)) :|: W >= 1 && X > Y && X <= 0\n)\n"
  pub free_read : verdict (canonical_text (over_f_g (scattered 1 2 3 ∷ []))) ≡ Parsed (over_f_g (scattered 1 2 3 ∷ []))
  -- a program without variables
  pub no_variables : canonical_text placeless
      ≡ codes "(GOAL COMPLEXITY)\n(STARTTERM (FUNCTIONSYMBOLS l))\n(VAR)\n(RULES\n  l() -> Com_1(l())\n)\n"
  pub no_variables_read : verdict (canonical_text placeless) ≡ Parsed placeless
  -- a negative literal is printed with its sign, which is read as a negation, unless it is the base of a power
  pub sign : canonical_text negative ≡ canonical_text opposite
  pub read_as_opposite : verdict (canonical_text negative) ≡ Parsed opposite
  -- a negative literal as the base of a power is read as the negation of the power
  pub raised : canonical_text (over_f_g
      (costly (Variable 0 ∷ Variable 1 ∷ []) [] ∷ back_rule (Exponentiation (Literal (negsuc 6)) 2) ∷ []))
      ≡ codes "(GOAL COMPLEXITY)\n(STARTTERM (FUNCTIONSYMBOLS f))\n(VAR X Y Z)\n(RULES\n"
      ++ codes "  f(X) -{2*Y}> Com_1(g(X,Y))\n  g(Y,Z) -> Com_1(f(-7^2))\n)\n"

-- which expressions and rules a text can spell, when one variable is known, or no symbol
pub record WorkedSpelling : Type 0 where
  -- the next variable can occur, and then the one after it
  pub next : IsSpellableTerm 1 (Addition (Variable 1) (Multiplication (Variable 0) (Variable 2)))
  pub known : known_behind 1 (Addition (Variable 1) (Multiplication (Variable 0) (Variable 2))) ≡ 3
  -- the variable after the next one can't come first
  pub skipped : ¬ IsSpellableTerm 1 (Addition (Variable 2) (Variable 1))
  pub negative_literal : ¬ IsSpellableTerm 1 (Literal (negsuc 0))
  -- the cost comes first, then the right side, then the guard
  pub text_order : AreSpellable 1 (terms_of (scattered 1 2 3))
  pub guard_first : ¬ AreSpellable 1 (terms_of (scattered 1 3 2))
  pub update_first : ¬ AreSpellable 1 (terms_of (scattered 2 1 3))
  -- the sample's symbols are numbered in order of occurrence; those of the rule from g alone aren't
  pub in_order : AreInOrder 0 sample.rules
  pub symbols : symbols_behind 0 sample.rules ≡ 2
  pub out_of_order : ¬ AreInOrder 0 (back_rule (Literal (pos 0)) ∷ [])
  -- the left names of the first rule that leaves a symbol
  pub first : names_at 1 sample.rules ≡ Some (codes "Y" ∷ codes "Z" ∷ [])
  pub nowhere : names_at 2 sample.rules ≡ None

-- which programs a text can spell
pub record WorkedPrograms : Type 0 where
  pub sample_spelled : IsSpellable sample
  pub negative_not : ¬ IsSpellable negative
  -- a target may have the name `Com_`, but not `Com_` and digits
  pub com_alone : IsSpellable (with_second (codes "Com_"))
  pub com_target : ¬ IsSpellable (with_second (codes "Com_1"))
  -- two symbols must have different names
  pub same_name : ¬ IsSpellable (with_second (codes "f"))
  -- the start symbol must have the names of the first rule that leaves it
  pub other_names : ¬ IsSpellable other_start
  -- each free variable has to occur somewhere
  pub unused : ¬ IsSpellable (over_f_g (idle ∷ back_rule (Literal (pos 0)) ∷ []))

-- All worked values of this file.
pub record WorkedValues : Type 0 where
  pub texts : WorkedTexts
  pub spelling : WorkedSpelling
  pub programs : WorkedPrograms
