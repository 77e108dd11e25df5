-- Small while programs and the worked results of reading them, on both sides.
use Rattle.std.specs.Prelude.{◌≡◌, ℕ, true, false, List, [], ◌∷◌, ◌++◌, length, codes, map, pos, Some, None}
use Rattle.text_grammar.specs.text_core.Reading.{Answer, Parsed, Refused, answer}
use Rattle.text_grammar.specs.Texts.{reader}
use Rattle.while_text.specs.model.Terms.{Literal, Variable, Subtraction}
use Rattle.while_text.specs.model.Programs.{AtLeast, EqualTo, Always, Compare}
use Rattle.while_text.specs.poly_terms.Faults.{LargeCoefficient, ManyTerms, HighDegree}
use Rattle.while_text.specs.while_model.Statements.{Assign, Choose, Skip, Statements, Nothing, Simple, While, If}
use Rattle.while_text.specs.declared.kind.Kind.{Kind}
use Rattle.while_text.specs.declared.kind.Kind.TheVariants.{NotAscii, Syntax, UnknownName, RepeatedName, Limit}
use Rattle.while_text.specs.declared.kind.WhileKind.TheVariants as limits
use Rattle.while_text.specs.declared.piece.Sort.TheVariants as sorts
use Rattle.while_text.specs.declared.piece.Follower.TheVariants as followers
use Rattle.while_text.specs.Courses.{goes_on}
use Rattle.while_text.specs.Faults.{lesser, number_of}
use Rattle.while_text.specs.Lexing.{word_sort, sort_at, follower_of, tokens}
use Rattle.while_text.specs.Reading.{Source, while_text}

-- The answer to a text.
abbrev pub answer_to : List ℕ → Answer Source Kind
answer_to text = answer (reader (while_text text)) (length text) (tokens text)

-- The answers that are a program with the input A alone, or a refusal.
abbrev pub over_a : Statements → List ℕ → Answer Source Kind
over_a program at = Parsed (record { names = (65 ∷ []) ∷ []; program = program; at = at })

abbrev pub refused : Kind → ℕ → Answer Source Kind
refused kind at = Refused (record { kind = kind; at = at })

-- A text, and its answer.
pub record Case : Type 0 where
  pub text : List ℕ
  pub comes : Answer Source Kind

abbrev pub case_of : List ℕ → Answer Source Kind → Case
case_of text comes = record { text = text; comes = comes }

-- Texts that are programs: a statement, any value, a loop, a branch with a second block, and an endless loop; two
-- statements in a block inside a block, and one after it; branches without a second block, inside one with it, and
-- after it; a test of two atoms; and a second input.
abbrev pub programs : List Case
programs =
    case_of (codes "input A; skip;") (over_a (Simple Skip Nothing) (9 ∷ []))
    ∷ case_of (codes "input A; A := ?;") (over_a (Simple (Choose 0) Nothing) (9 ∷ []))
    ∷ case_of (codes "input A; while (A >= 1) { A := A - 1; }")
    (over_a (While (Compare (Variable 0) AtLeast (Literal (pos 1)) ∷ [])
    (Simple (Assign 0 (Subtraction (Variable 0) (Literal (pos 1)))) Nothing) Nothing) (9 ∷ 26 ∷ []))
    ∷ case_of (codes "input A; if (0 = A) {} else { skip; } skip;")
    (over_a (If (Compare (Literal (pos 0)) EqualTo (Variable 0) ∷ []) Nothing (Simple Skip Nothing) (Simple Skip Nothing))
    (9 ∷ 30 ∷ 38 ∷ []))
    ∷ case_of (codes "input A; while (true) {}") (over_a (While (Always ∷ []) Nothing Nothing) (9 ∷ []))
    ∷ case_of (codes "input A; while (true) { while (true) { skip; A := ?; } skip; }")
    (over_a (While (Always ∷ [])
    (While (Always ∷ []) (Simple Skip (Simple (Choose 0) Nothing)) (Simple Skip Nothing)) Nothing)
    (9 ∷ 24 ∷ 39 ∷ 45 ∷ 55 ∷ []))
    ∷ case_of (codes "input A; if (true) { if (true) { skip; } } else { A := ?; } if (true) {}")
    (over_a (If (Always ∷ []) (If (Always ∷ []) (Simple Skip Nothing) Nothing Nothing) (Simple (Choose 0) Nothing)
    (If (Always ∷ []) Nothing Nothing Nothing)) (9 ∷ 21 ∷ 33 ∷ 50 ∷ 60 ∷ []))
    ∷ case_of (codes "input A; while (A >= 1 && true) {}")
    (over_a (While (Compare (Variable 0) AtLeast (Literal (pos 1)) ∷ Always ∷ []) Nothing Nothing) (9 ∷ []))
    ∷ case_of (codes "input A, B; B := A;") (Parsed (record {
      names = (65 ∷ []) ∷ (66 ∷ []) ∷ [];
      program = Simple (Assign 1 (Variable 0)) Nothing;
      at = 12 ∷ [];
    }))
    ∷ []

-- Texts that are refused: an unknown name, a repeated input, no statement, an empty test, a second block without a
-- branch before it, or after a loop, a block that isn't closed, one that isn't opened, a byte over 127, and an exponent
-- over the limit, with whose last token the value ends.
abbrev pub refusals : List Case
refusals =
    case_of (codes "input A; B := 1;") (refused UnknownName 9)
    ∷ case_of (codes "input A, A; skip;") (refused RepeatedName 9)
    ∷ case_of (codes "input A;") (refused Syntax 8)
    ∷ case_of (codes "input A; while () {}") (refused Syntax 16)
    ∷ case_of (codes "input A; else { skip; }") (refused Syntax 9)
    ∷ case_of (codes "input A; while (true) {} else {}") (refused Syntax 25)
    ∷ case_of (codes "input A; if (true) { skip; ") (refused Syntax 27)
    ∷ case_of (codes "input A; skip; }") (refused Syntax 15)
    ∷ case_of (codes "input A; A := " ++ 255 ∷ codes ";") (refused NotAscii 14)
    ∷ case_of (codes "input A; A := A^9 + 1;") (refused (Limit limits.Degree) 20)
    ∷ []

-- Worked values of names, tokens and followers.
pub record PiecesAreRead : Type 0 where
  pub keyword : word_sort (codes "while") ≡ sorts.While
  pub longer : word_sort (codes "whileA") ≡ sorts.Name
  pub truth : word_sort (codes "true") ≡ sorts.Truth
  pub becomes : (sort_at 58 (codes "= 1")).piece ≡ Some sorts.Becomes
  pub colon : (sort_at 58 (codes " 1")).piece ≡ Some sorts.Wrong
  pub blank : (sort_at 32 (codes "A")).piece ≡ None
  pub operator : follower_of (codes "  + A") ≡ followers.Operator
  pub end : follower_of (codes "  ") ≡ followers.Other
  -- An operator continues an expression after an exponent, and `^` doesn't.
  pub power : goes_on false followers.Caret ≡ true
  pub no_power : goes_on true followers.Caret ≡ false
  pub sum : goes_on true followers.Operator ≡ true

-- Worked values of the least fault, and of the order of kinds.
pub record FaultsAreOrdered : Type 0 where
  pub least : lesser (Some HighDegree) (Some LargeCoefficient) ≡ Some LargeCoefficient
  pub first : lesser (Some ManyTerms) (Some HighDegree) ≡ Some ManyTerms
  pub only : lesser (Some HighDegree) None ≡ Some HighDegree
  pub unknown : number_of UnknownName ≡ 4
  pub rules : number_of (Limit limits.Rules) ≡ 13

-- All worked values of reading.
pub record WorkedReadings : Type 0 where
  pub pieces : PiecesAreRead
  pub faults : FaultsAreOrdered
  pub programs_are_read : map (λ c. answer_to c.text) programs ≡ map (λ c. c.comes) programs
  pub refusals_are_given : map (λ c. answer_to c.text) refusals ≡ map (λ c. c.comes) refusals
