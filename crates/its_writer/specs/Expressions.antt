-- The canonical text of expressions, atoms and guards.
use Rattle.std.specs.Prelude.{ℕ, Bool, true, false, List, [], ◌∷◌, ◌++◌, pos, codes, slice_index_or}
use Rattle.its_text.specs.expr_text.model.Programs.{Name, Relation, AtLeast, MoreThan, AtMost, LessThan, EqualTo, Atom}
use Rattle.its_text.specs.expr_text.model.Programs.{Always, Compare}
use Rattle.its_text.specs.expr_text.model.Terms.{Term, Literal, Variable, Negation, Addition, Subtraction}
use Rattle.its_text.specs.expr_text.model.Terms.{Multiplication, Exponentiation}
use Rattle.its_writer.specs.Layout.{integer_then, bracketed_then, joined_then}

-- the name with a number, counted from 0
abbrev pub name_at : List Name → ℕ → Name
name_at names i = slice_index_or names i []

-- the text of a name
abbrev pub name_then : Name → List ℕ → List ℕ
name_then name rest = name ++ rest

-- an expression is an operation, which is put in brackets when it is an operand
abbrev pub is_operation : Term → Bool
is_operation (Literal z) = false
is_operation (Variable i) = false
is_operation (Negation e) = true
is_operation (Addition d e) = true
is_operation (Subtraction d e) = true
is_operation (Multiplication d e) = true
is_operation (Exponentiation e n) = true

-- the text of an expression over variables with these names; there are no blanks around operators
abbrev pub expression_then : List Name → Term → List ℕ → List ℕ
expression_then names (Literal z) rest = integer_then z rest
expression_then names (Variable i) rest = name_at names i ++ rest
expression_then names (Negation e) rest =
    codes "-" ++ bracketed_then (is_operation e) (expression_then names e) rest
expression_then names (Addition d e) rest =
    bracketed_then (is_operation d) (expression_then names d)
    (codes "+" ++ bracketed_then (is_operation e) (expression_then names e) rest)
expression_then names (Subtraction d e) rest =
    bracketed_then (is_operation d) (expression_then names d)
    (codes "-" ++ bracketed_then (is_operation e) (expression_then names e) rest)
expression_then names (Multiplication d e) rest =
    bracketed_then (is_operation d) (expression_then names d)
    (codes "*" ++ bracketed_then (is_operation e) (expression_then names e) rest)
expression_then names (Exponentiation e n) rest =
    bracketed_then (is_operation e) (expression_then names e) (codes "^" ++ integer_then (pos n) rest)

-- the text of an operand, in brackets if it is an operation
abbrev pub operand_then : List Name → Term → List ℕ → List ℕ
operand_then names e rest = bracketed_then (is_operation e) (expression_then names e) rest

-- the sign of a relation, with a blank on each side
abbrev pub sign_of : Relation → List ℕ
sign_of AtLeast = codes " >= "
sign_of MoreThan = codes " > "
sign_of AtMost = codes " <= "
sign_of LessThan = codes " < "
sign_of EqualTo = codes " = "

-- the text of an atom: `TRUE`, or two expressions and their relation
abbrev pub atom_then : List Name → Atom → List ℕ → List ℕ
atom_then names Always rest = codes "TRUE" ++ rest
atom_then names (Compare d relation e) rest =
    expression_then names d (sign_of relation ++ expression_then names e rest)

-- the text of a guard: empty if it has no atoms, else the atoms after `:|:`, with `&&` between each two
abbrev pub guard_then : List Name → List Atom → List ℕ → List ℕ
guard_then names [] rest = rest
guard_then names (a ∷ atoms) rest = codes " :|: " ++ joined_then (codes " && ") (atom_then names) (a ∷ atoms) rest
