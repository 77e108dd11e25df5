-- While programs are lawful texts, so the answer is the tree or the first fault.
use Rattle.std.proofs.Common.{◌≡◌, ℕ, ◌+◌, ◌<◌, ◌≤◌, Bool, true, false, List, ◌∷◌, length, Option, Some, None, refl, sym}
use Rattle.std.proofs.Common.{ap, subst, lit<, arith}
use Rattle.std.specs.Prelude.{Result, Ok, Err, IfSome}
use Rattle.text_grammar.specs.text_core.Tokens.{AreInOrder, Token}
use Rattle.text_grammar.specs.text_core.Readers.{Fault}
use Rattle.text_grammar.specs.text_core.Faults.{Among, IsFirst}
use Rattle.text_grammar.specs.text_core.Reading.{Answer, Parsed, Refused, IsTree, answer}
use Rattle.text_grammar.specs.text_core.Reading as reading
use Rattle.text_core.proofs.Lexing.{in_order_in}
use Rattle.text_core.proofs.FirstFaults.{answer_is}
use Rattle.text_grammar.specs.declared.token_stream.OneMode.TheVariants.{Plain}
use Rattle.text_grammar.specs.Grammars.{Event}
use Rattle.text_grammar.specs.Marks.{lexer_of}
use Rattle.text_grammar.specs.Results.{AgreesWith}
use Rattle.text_grammar.specs.Texts.{IsLawful, reader}
use Rattle.text_grammar.proofs.ReaderLaws.{reader_laws}
use Rattle.while_text.specs.while_tree.declared.stmt.Whole.{Whole}
use Rattle.while_text.specs.declared.error.WhileError.{WhileError}
use Rattle.while_text.specs.declared.kind.Kind.{Kind}
use Rattle.while_text.specs.declared.kind.Kind.TheVariants.{NotAscii, Syntax, NumberTooLarge, UnknownName, RepeatedName, Limit}
use Rattle.while_text.specs.declared.kind.WhileKind.{WhileKind}
use Rattle.while_text.specs.declared.kind.WhileKind.TheVariants as limits
use Rattle.while_text.specs.declared.phase.Standing.{Standing}
use Rattle.while_text.specs.declared.phase.Standing.TheVariants.{Sound, Faulty, Settled}
use Rattle.while_text.specs.declared.piece.Piece.{Piece}
use Rattle.while_text.specs.declared.piece.Sort.{Sort}
use Rattle.while_text.specs.declared.piece.Sort.TheVariants as sorts
use Rattle.while_text.specs.Faults.{number_of, number_of_limit}
use Rattle.while_text.specs.Grammar.{class_of, class_of_sort}
use Rattle.while_text.specs.Lexing.{lexeme_at, tokens}
use Rattle.while_text.specs.Reading.{Source, State, state, standing_after, faults_of, floor_of, has_fault, while_text}
use Rattle.while_text.specs.Courses.{course_after, is_in_test}
use Rattle.while_text.specs.Results.{Answers}
use Rattle.while_text.specs.Views.{source_of, refusal_in}
use Rattle.while_text.specs.Within.{lexes_within}
use Rattle.while_text.proofs.ReadableGrammar.{readable}

-- Each sort has a class below 23.
sort_classed : (sort : Sort) → class_of_sort sort < 23
sort_classed sorts.Input = lit< tt
sort_classed sorts.Skip = lit< tt
sort_classed sorts.While = lit< tt
sort_classed sorts.If = lit< tt
sort_classed sorts.Else = lit< tt
sort_classed sorts.Truth = lit< tt
sort_classed sorts.Name = lit< tt
sort_classed (sorts.Number n) = lit< tt
sort_classed sorts.Becomes = lit< tt
sort_classed sorts.Question = lit< tt
sort_classed sorts.Semicolon = lit< tt
sort_classed sorts.Comma = lit< tt
sort_classed sorts.Open = lit< tt
sort_classed sorts.Close = lit< tt
sort_classed sorts.BlockOpen = lit< tt
sort_classed sorts.BlockClose = lit< tt
sort_classed sorts.Joint = lit< tt
sort_classed sorts.AtLeast = lit< tt
sort_classed sorts.MoreThan = lit< tt
sort_classed sorts.AtMost = lit< tt
sort_classed sorts.LessThan = lit< tt
sort_classed sorts.Equal = lit< tt
sort_classed sorts.Plus = lit< tt
sort_classed sorts.Minus = lit< tt
sort_classed sorts.Times = lit< tt
sort_classed sorts.Caret = lit< tt
sort_classed sorts.Strange = lit< tt
sort_classed sorts.Wrong = lit< tt

-- Limits with the same number are the same.
limits_differ : (a b : WhileKind) → number_of_limit a ≡ number_of_limit b → a ≡ b
limits_differ limits.Name limits.Name h = refl
limits_differ limits.Tokens limits.Tokens h = refl
limits_differ limits.Terms limits.Terms h = refl
limits_differ limits.Degree limits.Degree h = refl
limits_differ limits.Atoms limits.Atoms h = refl
limits_differ limits.Variables limits.Variables h = refl
limits_differ limits.Depth limits.Depth h = refl
limits_differ limits.Rules limits.Rules h = refl
limits_differ a b h = absurd (omega (arith, h))

limits_late : (a : WhileKind) → 6 ≤ number_of_limit a
limits_late limits.Name = omega arith
limits_late limits.Tokens = omega arith
limits_late limits.Terms = omega arith
limits_late limits.Degree = omega arith
limits_late limits.Atoms = omega arith
limits_late limits.Variables = omega arith
limits_late limits.Depth = omega arith
limits_late limits.Rules = omega arith

differ : (a b : Kind) → number_of a ≡ number_of b → a ≡ b
differ NotAscii NotAscii h = refl
differ Syntax Syntax h = refl
differ NumberTooLarge NumberTooLarge h = refl
differ UnknownName UnknownName h = refl
differ RepeatedName RepeatedName h = refl
differ (Limit a) (Limit b) h = ap Limit (limits_differ a b h)
differ (Limit a) b h = absurd (let k = limits_late a in omega (arith, h, k))
differ a (Limit b) h = absurd (let k = limits_late b in omega (arith, h, k))
differ a b h = absurd (omega (arith, h))

-- The floor is at most the position of the next token.
floor_near : (s : Standing) (at : ℕ) → floor_of s at ≤ at
floor_near Sound at = omega arith
floor_near Faulty at = omega arith
floor_near Settled at = omega arith

-- No fault is reported before the floor.
shown_behind : (s : Standing) (text : List ℕ) (r : State) (t : Token Piece) (y : Fault Kind)
    → Among y (faults_of s text r t) → floor_of s t.at ≤ y.at
shown_behind Sound text r t y a = omega arith
shown_behind Faulty text r t y a = omega arith
shown_behind Settled text r t y a = absurd a

-- The floor stays or rises with a token.
floor_stays : (s : Standing) (at : ℕ) → floor_of s at ≤ floor_of s at
floor_stays s at = omega arith

floor_rises : (s : Standing) (fault in_test : Bool) (at behind : ℕ) → at ≤ behind
    → floor_of s at ≤ floor_of (standing_after s fault in_test) behind
floor_rises Sound fault in_test at behind h = omega arith
floor_rises Faulty fault in_test at behind h = omega arith
floor_rises Settled fault in_test at behind h = h

-- While programs are lawful texts.
pub lawful : (text : List ℕ) → IsLawful (while_text text)
lawful text = record {
  readable = readable;
  classed = λ p. sort_classed p.sort;
  differ = differ;
  floor_next = λ es at. floor_near (state text es).standing at;
  floor_shown = λ es t y a. shown_behind (state text es).standing text (state text es) t y a;
  floor_did = λ es m at. floor_stays (state text es).standing at;
  floor_read = λ es t at some behind. floor_rises (state text es).standing (has_fault text t.piece (state text es))
      (is_in_test (course_after t.piece (state text es).course).phase) t.at at (omega (arith, some, behind));
}

-- The tokens of a while program are in order.
pub tokens_in_order : (bytes : List ℕ) → AreInOrder 0 (tokens bytes) (length bytes)
tokens_in_order bytes =
    let o = in_order_in (lexer_of (lexeme_at (length bytes))) (λ mode. lexes_within (length bytes)) bytes Plain 0 0
    (omega arith) in
    subst (AreInOrder 0 (tokens bytes)) (let e : 0 + length bytes ≡ length bytes = omega arith in e)
    (subst (λ (n : ℕ). AreInOrder n (tokens bytes) (0 + length bytes)) (let e : 0 + 0 ≡ 0 = omega arith in e) o)

-- A result that agrees with the answer is right.
pub agreeing_answers : (bytes : List ℕ) (result : Result Whole WhileError)
    → AgreesWith source_of refusal_in (answer (reader (while_text bytes)) (length bytes) (tokens bytes)) result
    → Answers bytes result
agreeing_answers bytes result h =
    go (answer (reader (while_text bytes)) (length bytes) (tokens bytes))
    (answer_is (reader (while_text bytes)) (reader_laws (while_text bytes) (lawful bytes)) (length bytes) (tokens bytes))
    result h
  where
    first : (y : Fault Kind) → IsFirst (reader (while_text bytes)) (length bytes) (tokens bytes) y
        → (o : Option (Fault Kind)) → IfSome o (λ z. z ≡ y)
        → IfSome o (IsFirst (reader (while_text bytes)) (length bytes) (tokens bytes))
    first y i None s = tt
    first y i (Some z) s = subst (IsFirst (reader (while_text bytes)) (length bytes) (tokens bytes)) (sym s) i

    go : (a : Answer Source Kind) → reading.Answers (reader (while_text bytes)) (length bytes) (tokens bytes) a
        → (result : Result Whole WhileError) → AgreesWith source_of refusal_in a result → Answers bytes result
    go (Parsed t) i (Ok made) s = subst (IsTree (reader (while_text bytes)) (length bytes) (tokens bytes)) (sym s) i
    go (Parsed t) i (Err error) s =
        subst (λ (o : Option (Fault Kind)). IfSome o (IsFirst (reader (while_text bytes)) (length bytes) (tokens bytes)))
        (sym s) tt
    go (Refused y) i (Ok made) s = absurd s
    go (Refused y) i (Err error) s = first y i (refusal_in error) s
