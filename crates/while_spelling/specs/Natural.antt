-- Which while programs have no literal below 0.
use Rattle.std.specs.Prelude.{⊤}
use Rattle.std.specs.List.{AllByRecursion}
use Rattle.while_model.specs.model.Terms.{Term, Literal, Variable, Negation, Addition, Subtraction, Multiplication}
use Rattle.while_model.specs.model.Terms.{Exponentiation}
use Rattle.while_model.specs.model.Programs.{Atom, Always, Compare}
use Rattle.while_model.specs.Statements.{Action, Assign, Choose, Skip, Statements, Nothing, Simple, While, If}
use Rattle.its_writer.specs.Spellable.{IsNatural}

-- No literal of an expression is below 0: `-1` is the opposite of 1.
abbrev pub IsNaturalTerm : Term → Type 0
IsNaturalTerm (Literal z) = IsNatural z
IsNaturalTerm (Variable i) = ⊤
IsNaturalTerm (Negation e) = IsNaturalTerm e
IsNaturalTerm (Addition d e) = IsNaturalTerm d × IsNaturalTerm e
IsNaturalTerm (Subtraction d e) = IsNaturalTerm d × IsNaturalTerm e
IsNaturalTerm (Multiplication d e) = IsNaturalTerm d × IsNaturalTerm e
IsNaturalTerm (Exponentiation e n) = IsNaturalTerm e

-- No literal of either side of an atom is below 0.
abbrev pub IsNaturalAtom : Atom → Type 0
IsNaturalAtom Always = ⊤
IsNaturalAtom (Compare d relation e) = IsNaturalTerm d × IsNaturalTerm e

-- No literal of an assigned expression is below 0.
abbrev pub IsNaturalAction : Action → Type 0
IsNaturalAction (Assign x e) = IsNaturalTerm e
IsNaturalAction (Choose x) = ⊤
IsNaturalAction Skip = ⊤

-- No literal of the statements is below 0.
abbrev pub AreNatural : Statements → Type 0
AreNatural Nothing = ⊤
AreNatural (Simple action rest) = IsNaturalAction action × AreNatural rest
AreNatural (While test block rest) = AllByRecursion IsNaturalAtom test × AreNatural block × AreNatural rest
AreNatural (If test block other rest) =
    AllByRecursion IsNaturalAtom test × AreNatural block × AreNatural other × AreNatural rest
