-- The texts of answers to a while program.
use Rattle.std.specs.Prelude.{ℕ, ◌+◌, List, [], ◌∷◌, ◌++◌, codes, decimal}
use Rattle.text_grammar.specs.text_core.Readers.{Fault}
use Rattle.while_text.specs.declared.kind.Kind.{Kind}
use Rattle.while_text.specs.declared.kind.Kind.TheVariants.{NotAscii, Syntax, NumberTooLarge, UnknownName}
use Rattle.while_text.specs.declared.kind.Kind.TheVariants.{RepeatedName, Limit}
use Rattle.while_text.specs.declared.kind.WhileKind.{WhileKind}
use Rattle.while_text.specs.declared.kind.WhileKind.TheVariants as limits

-- The line of a statement: its number, and the position of its first byte.
abbrev pub point_line : ℕ → ℕ → List ℕ
point_line k at = codes "point " ++ (decimal k ++ (codes " at " ++ (decimal at ++ codes "\n")))

-- The lines of statements with these positions, numbered from k on.
abbrev pub point_lines : ℕ → List ℕ → List ℕ
point_lines k [] = []
point_lines k (at ∷ positions) = point_line k at ++ point_lines (k + 1) positions

-- The text of the limit that a program exceeds.
abbrev pub limit_text : WhileKind → List ℕ
limit_text limits.Name = codes "Limit Name"
limit_text limits.Tokens = codes "Limit Tokens"
limit_text limits.Terms = codes "Limit Terms"
limit_text limits.Degree = codes "Limit Degree"
limit_text limits.Atoms = codes "Limit Atoms"
limit_text limits.Variables = codes "Limit Variables"
limit_text limits.Depth = codes "Limit Depth"
limit_text limits.Rules = codes "Limit Rules"

-- The text of the kind of a fault in the text of a program.
abbrev pub kind_text : Kind → List ℕ
kind_text NotAscii = codes "NotAscii"
kind_text Syntax = codes "Syntax"
kind_text NumberTooLarge = codes "NumberTooLarge"
kind_text UnknownName = codes "UnknownName"
kind_text RepeatedName = codes "RepeatedName"
kind_text (Limit limit) = limit_text limit

-- A refusal: the byte, counted from 0, and the kind of the fault there.
abbrev pub refusal_line : ℕ → List ℕ → List ℕ
refusal_line at kind = codes "program refused at " ++ (decimal at ++ (codes ": " ++ (kind ++ codes "\n")))

abbrev pub refusal_text : Fault Kind → List ℕ
refusal_text x = refusal_line x.at (kind_text x.kind)
