-- Worked values of texts at the limits and just past them.
use Rattle.std.specs.Prelude.{ℕ, zero, suc, ◌+◌, ◌/◌, ◌%◌, List, [], ◌∷◌, ◌++◌, codes, replicate, ⊤}
use Rattle.expr_text.specs.model.Programs.{Program}
use Rattle.expr_text.specs.text_core.Reading.{Answer, Parsed, Refused}
use Rattle.its_text.specs.Kinds.{Kind, Syntax, Limit, TooManyArguments, TooManyVariables, TooManyAtoms, LongName}
use Rattle.its_text.specs.Kinds.{TooManyTokens, TooManyTerms}
use Rattle.its_text.specs.Answers.{verdict}
use Rattle.its_text.specs.Worked.{RefusedAt, with_rules}

-- the text is read
abbrev pub IsProgram : Answer Program Kind → Type 0
IsProgram (Parsed p) = ⊤
IsProgram (Refused x) = ⊥

abbrev pub IsRead : List ℕ → Type 0
IsRead bytes = IsProgram (verdict bytes)

-- This many texts, numbered from the second argument on, with a separator between each two.
abbrev pub joined : (ℕ → List ℕ) → List ℕ → ℕ → ℕ → List ℕ
joined text separator from zero = []
joined text separator from (suc zero) = text from
joined text separator from (suc (suc n)) = text from ++ (separator ++ joined text separator (suc from) (suc n))

-- the variables `V00`, `V01` and so on
abbrev pub variable : ℕ → List ℕ
variable i = 86 ∷ (48 + i / 10) ∷ (48 + i % 10) ∷ []

-- rules with this many left arguments, right arguments, variables in one argument, atoms, bytes of a name, and `-`
abbrev pub left_arguments : ℕ → List ℕ
left_arguments n = with_rules (codes "l0(" ++ (joined variable (codes ",") 0 n ++ codes ")->l1()"))

abbrev pub right_arguments : ℕ → List ℕ
right_arguments n = with_rules (codes "l0()->l1(" ++ (joined (λ i. codes "0") (codes ",") 0 n ++ codes ")"))

abbrev pub variables : ℕ → List ℕ
variables n = with_rules (codes "l0()->l1(" ++ (joined variable (codes "*0*") 0 n ++ codes ")"))

abbrev pub atoms : ℕ → List ℕ
atoms n = with_rules (codes "l0()->l1():|:" ++ joined (λ i. codes "TRUE") (codes "&&") 0 n)

abbrev pub name_bytes : ℕ → List ℕ
name_bytes n = with_rules (codes "l0()->" ++ (replicate n 118 ++ codes "()"))

abbrev pub minuses : ℕ → List ℕ
minuses n = codes "(STARTTERM (FUNCTIONSYMBOLS l0))(RULES l0()->l1(" ++ replicate n 45

-- rules with this many variables in a cost, atoms beside one, and `-` in one
abbrev pub variables_in_cost : ℕ → List ℕ
variables_in_cost n = with_rules (codes "l0()-{" ++ (joined variable (codes "*0*") 0 n ++ codes "}>l1()"))

abbrev pub atoms_beside_cost : ℕ → List ℕ
atoms_beside_cost n = with_rules (codes "l0()-{0}>l1():|:" ++ joined (λ i. codes "TRUE") (codes "&&") 0 n)

abbrev pub minuses_in_cost : ℕ → List ℕ
minuses_in_cost n = codes "(STARTTERM (FUNCTIONSYMBOLS l0))(RULES l0()-{" ++ replicate n 45

-- a product of a sum of 8 variables and one with this many others
abbrev pub products : ℕ → List ℕ
products n = with_rules (codes "l0()->l1((" ++ (joined variable (codes "+") 0 8
    ++ (codes ")*(" ++ (joined variable (codes "+") 10 n ++ codes "))"))))

-- the same product as a cost
abbrev pub products_in_cost : ℕ → List ℕ
products_in_cost n = with_rules (codes "l0()-{(" ++ (joined variable (codes "+") 0 8
    ++ (codes ")*(" ++ (joined variable (codes "+") 10 n ++ codes ")}>l1()"))))

-- Texts are read at a limit; past it they are refused where the item that is one too many begins.
pub record LimitsAreWorkedOut : Type 0 where
  -- At most 32 arguments on each side are read.
  pub left_full : IsRead (left_arguments 32)
  pub left_passed : RefusedAt (left_arguments 33) 170 (Limit TooManyArguments)
  pub right_full : IsRead (right_arguments 32)
  pub right_passed : RefusedAt (right_arguments 33) 112 (Limit TooManyArguments)
  -- At most 64 variables and 64 atoms are read.
  pub variables_full : IsRead (variables 64)
  pub variables_passed : RefusedAt (variables 65) 432 (Limit TooManyVariables)
  pub atoms_full : IsRead (atoms 64)
  pub atoms_passed : RefusedAt (atoms 65) 436 (Limit TooManyAtoms)
  -- a cost may have 64 variables, and counts as one atom
  pub cost_variables_full : IsRead (variables_in_cost 64)
  pub cost_variables_passed : RefusedAt (variables_in_cost 65) 429 (Limit TooManyVariables)
  pub beside_cost_full : IsRead (atoms_beside_cost 63)
  pub beside_cost_passed : RefusedAt (atoms_beside_cost 64) 433 (Limit TooManyAtoms)
  -- A name of at most 256 bytes is read.
  pub name_full : IsRead (name_bytes 256)
  pub name_passed : RefusedAt (name_bytes 257) 45 (Limit LongName)
  -- An argument of 1,024 tokens that nothing follows is refused as a text that ends too early, and one with one more
  -- token at that token.
  pub tokens_full : RefusedAt (minuses 1024) 1072 Syntax
  pub tokens_passed : RefusedAt (minuses 1025) 1072 (Limit TooManyTokens)
  -- The limit on the tokens of an expression holds for a cost too.
  pub cost_tokens_full : RefusedAt (minuses_in_cost 1024) 1069 Syntax
  pub cost_tokens_passed : RefusedAt (minuses_in_cost 1025) 1069 (Limit TooManyTokens)
  -- An argument of 64 terms is read; one with more is refused at its last byte.
  pub terms_full : IsRead (products 8)
  pub terms_passed : RefusedAt (products 9) 118 (Limit TooManyTerms)
  pub cost_terms_full : IsRead (products_in_cost 8)
  pub cost_terms_passed : RefusedAt (products_in_cost 9) 115 (Limit TooManyTerms)
  -- An argument of degree 8 is read.
  pub degree_full : IsRead (with_rules (codes "l0(A)->l1(A^8)"))
