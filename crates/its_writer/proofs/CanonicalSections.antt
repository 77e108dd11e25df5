-- A program in the form in which its canonical text is written.
use Rattle.std.specs.Prelude.{List, [], ◌∷◌, nat_abs, Option, Some, None}
use Rattle.its_text.specs.expr_text.model.Programs as plain
use Rattle.its_text.specs.expr_text.model.Programs.{Name, Relation, AtLeast, MoreThan, AtMost, LessThan, EqualTo}
use Rattle.its_text.specs.expr_text.model.Terms.{Term, Literal, Variable, Negation, Addition, Subtraction}
use Rattle.its_text.specs.expr_text.model.Terms.{Multiplication, Exponentiation}
use Rattle.its_text.specs.expr_text.text_core.Readers.{onto}
use Rattle.its_text.specs.expr_text.Pieces.{Sign, AtLeastSign, MoreThanSign, AtMostSign, LessThanSign, EqualSign}
use Rattle.its_text.specs.expr_text.Pieces.{Ampersands}
use Rattle.its_text.specs.expr_text.Trees.{Sum, Alone, Added, Subtracted, Single, Multiplied, Plain, Raised, Negated}
use Rattle.its_text.specs.expr_text.Trees.{Base, Number, Named, Bracketed}
use Rattle.its_text.specs.expr_text.Guards.{Atom, Always, Compared, Atoms, First, Joined, Capitals}
use Rattle.its_text.specs.Written.{Marked, Guard, NoGuard, BehindMark, WrittenRule, Section, Goal, Start, Variables}
use Rattle.its_text.specs.Written.{Rules}
use Rattle.its_writer.specs.Layout.{numeral}
use Rattle.its_writer.specs.Expressions.{name_at}
use Rattle.its_writer.specs.Texts.{symbol_names, left_names, variables_of}

-- the written form of an operand: a number, a name, or an expression in brackets
abbrev pub operand_written : List Name → Term → Sum → Base
operand_written names (Literal z) s = Number (numeral (nat_abs z))
operand_written names (Variable i) s = Named (name_at names i)
operand_written names (Negation e) s = Bracketed s
operand_written names (Addition d e) s = Bracketed s
operand_written names (Subtraction d e) s = Bracketed s
operand_written names (Multiplication d e) s = Bracketed s
operand_written names (Exponentiation e n) s = Bracketed s

-- a sum that consists of a single base
abbrev pub alone : Base → Sum
alone b = Alone (Single (Plain b))

-- the written form of an expression
abbrev pub expression_written : List Name → Term → Sum
expression_written names (Literal z) = alone (Number (numeral (nat_abs z)))
expression_written names (Variable i) = alone (Named (name_at names i))
expression_written names (Negation e) =
    Alone (Single (Negated (Plain (operand_written names e (expression_written names e)))))
expression_written names (Addition d e) =
    Added (alone (operand_written names d (expression_written names d)))
    (Single (Plain (operand_written names e (expression_written names e))))
expression_written names (Subtraction d e) =
    Subtracted (alone (operand_written names d (expression_written names d)))
    (Single (Plain (operand_written names e (expression_written names e))))
expression_written names (Multiplication d e) =
    Alone (Multiplied (Single (Plain (operand_written names d (expression_written names d))))
    (Plain (operand_written names e (expression_written names e))))
expression_written names (Exponentiation e n) =
    Alone (Single (Raised (operand_written names e (expression_written names e)) (numeral n)))

-- the written forms of arguments, after others; the last one comes first
abbrev pub arguments_written : List Name → List Sum → List Term → List Sum
arguments_written names done [] = done
arguments_written names done (e ∷ es) = arguments_written names (expression_written names e ∷ done) es

-- the sign of a relation
abbrev pub sign_written : Relation → Sign
sign_written AtLeast = AtLeastSign
sign_written MoreThan = MoreThanSign
sign_written AtMost = AtMostSign
sign_written LessThan = LessThanSign
sign_written EqualTo = EqualSign

-- the written form of an atom
abbrev pub atom_written : List Name → plain.Atom → Atom
atom_written names plain.Always = Always Capitals
atom_written names (plain.Compare d relation e) =
    Compared (expression_written names d) (sign_written relation) (expression_written names e)

-- the written forms of atoms, after others
abbrev pub atoms_written : List Name → Atoms → List plain.Atom → Atoms
atoms_written names done [] = done
atoms_written names done (a ∷ atoms) = atoms_written names (Joined done Ampersands (atom_written names a)) atoms

-- the written form of a guard
abbrev pub guard_written : List Name → List plain.Atom → Guard
guard_written names [] = NoGuard
guard_written names (a ∷ atoms) = BehindMark (Some (atoms_written names (First (atom_written names a)) atoms))

-- the written form of a cost
abbrev pub cost_written : List Name → Option Term → Option Sum
cost_written names None = None
cost_written names (Some c) = Some (expression_written names c)

-- the written form of a rule
abbrev pub rule_written : List Name → plain.Rule → WrittenRule
rule_written symbols r = record {
  left = record { name = name_at symbols r.source; arguments = onto (left_names r) [] };
  cost = cost_written r.names r.cost;
  target = Marked (record { name = name_at symbols r.target; arguments = arguments_written r.names [] r.updates });
  guard = guard_written r.names r.guard;
}

-- the written forms of rules, after others, the last one first
abbrev pub rules_written : List Name → List WrittenRule → List plain.Rule → List WrittenRule
rules_written symbols done [] = done
rules_written symbols done (r ∷ rules) = rules_written symbols (rule_written symbols r ∷ done) rules

-- the sections of the canonical text, the last one first
abbrev pub canonical_sections : plain.Program → List Section
canonical_sections p =
    Rules (rules_written (symbol_names p) [] p.rules) ∷ Variables (onto (variables_of p) [])
    ∷ Start (name_at (symbol_names p) p.start) ∷ Goal ∷ []
