-- The verdict on a text is the only right one, since the reader's answer is the only right answer.
use Rattle.std.proofs.Common.{◌≡◌, ℕ, List, length, Option, Some, None, refl, ap, sym, subst, ◌∙◌, inl, inr}
use Rattle.std.specs.Prelude.{◌⊎◌}
use Rattle.expr_text.specs.model.Programs.{Name, Program}
use Rattle.expr_text.specs.text_core.Tokens.{Token}
use Rattle.expr_text.specs.text_core.Readers.{Fault}
use Rattle.expr_text.specs.text_core.Faults.{IsFirst}
use Rattle.expr_text.specs.text_core.Reading.{Answer, Parsed, Refused, answer, Answers}
use Rattle.its_text.specs.Pieces.{Piece}
use Rattle.its_text.specs.Kinds.{Kind}
use Rattle.its_text.specs.Lexing.{tokens_of}
use Rattle.its_text.specs.Written.{Section, WrittenRule}
use Rattle.its_text.specs.Numbering.{start_of, rules_of, first_leaving, program_from, program_of_parts}
use Rattle.its_text.specs.Numbering.{program_numbered}
use Rattle.its_text.specs.Grammar.{programs}
use Rattle.its_text.specs.Answers.{start_index, at_maybe, program_or, whole, verdict_of_answer, verdict}
use Rattle.its_text.specs.Spelling.{Spells}
use Rattle.its_text.specs.Verdicts.{IsFaultless, IsVerdict, IsOnlyVerdict, VerdictsAreRight}
use Rattle.its_text.proofs.ReaderLaws.{answers_all_texts, one_first_fault}

-- Sections without faults are a program, or a required part is missing.
module _ (bytes : List ℕ) (written : List Section) (stands : IsFaultless bytes written) where
  of_program : (at : ℕ) (o : Option Program) → program_numbered written ≡ o → whole (length bytes) (tokens_of bytes) written (start_of written) (rules_of written) ≡ program_or at o → IsVerdict bytes (program_or at o)
  of_program at None e k = inr (record { written = written; stands = stands; lacks = k })
  of_program at (Some p) e k = record { written = written; stands = stands; numbered = e }

  of_parts : (start : Option Name) (rules : Option (List WrittenRule)) → start_of written ≡ start → rules_of written ≡ rules → IsVerdict bytes (whole (length bytes) (tokens_of bytes) written start rules)
  of_parts None rules e f = inr (record { written = written; stands = stands; lacks = ap (λ (s : Option Name). whole (length bytes) (tokens_of bytes) written s (rules_of written)) e })
  of_parts (Some start) None e f =
      inr (record {
        written = written;
        stands = stands;
        lacks = ap (λ (s : Option Name). whole (length bytes) (tokens_of bytes) written s (rules_of written)) e ∙ ap (λ (r : Option (List WrittenRule)). whole (length bytes) (tokens_of bytes) written (Some start) r) f;
      })
  of_parts (Some start) (Some rules) e f =
      of_program (at_maybe (tokens_of bytes) (start_index written)) (program_from start rules (first_leaving start rules))
      (ap (λ (s : Option Name). program_of_parts s (rules_of written)) e ∙ ap (λ (r : Option (List WrittenRule)). program_of_parts (Some start) r) f)
      (ap (λ (s : Option Name). whole (length bytes) (tokens_of bytes) written s (rules_of written)) e ∙ ap (λ (r : Option (List WrittenRule)). whole (length bytes) (tokens_of bytes) written (Some start) r) f)

judged_right : (bytes : List ℕ) (a : Answer (List Section) Kind) → Answers programs (length bytes) (tokens_of bytes) a → IsVerdict bytes (verdict_of_answer (length bytes) (tokens_of bytes) a)
judged_right bytes (Parsed written) h = of_parts bytes written (record { text = h.written; faultless = h.faultless }) (start_of written) (rules_of written) refl refl
judged_right bytes (Refused x) h = inl h

-- the verdict on a text is a right one
pub verdict_right : (bytes : List ℕ) → IsVerdict bytes (verdict bytes)
verdict_right bytes = judged_right bytes (answer programs (length bytes) (tokens_of bytes)) (answers_all_texts.each (length bytes) (tokens_of bytes))

-- The verdict on sections that are a program by numbers is that program.
pub whole_numbered : (n : ℕ) (ts : List (Token Piece)) (written : List Section) (p : Program) (start : Option Name) (rules : Option (List WrittenRule)) → program_of_parts start rules ≡ Some p → whole n ts written start rules ≡ Parsed p
whole_numbered n ts written p None None e = cc
whole_numbered n ts written p None (Some rules) e = cc
whole_numbered n ts written p (Some start) None e = cc
whole_numbered n ts written p (Some start) (Some rules) e = ap (program_or (at_maybe ts (start_index written))) e

spelled_judged : (bytes : List ℕ) (p : Program) (s : Spells bytes p) (a : Answer (List Section) Kind) → Answers programs (length bytes) (tokens_of bytes) a
    → (verdict_of_answer (length bytes) (tokens_of bytes) a ≡ Parsed p) ⊎ ((x : Fault Kind) × IsFirst programs (length bytes) (tokens_of bytes) x × (verdict_of_answer (length bytes) (tokens_of bytes) a ≡ Refused x))
spelled_judged bytes p s (Refused x) h = inr (x, h, refl)
spelled_judged bytes p s (Parsed written) h =
    let same : s.written ≡ written = h.only s.written s.text in
    inl (whole_numbered (length bytes) (tokens_of bytes) written p (start_of written) (rules_of written) (subst (λ w. program_numbered w ≡ Some p) same s.numbered))

-- a right verdict is the one of the right answer of the reader
only_judged : (bytes : List ℕ) (b : Answer Program Kind) (a : Answer (List Section) Kind) → Answers programs (length bytes) (tokens_of bytes) a → IsVerdict bytes b → b ≡ verdict_of_answer (length bytes) (tokens_of bytes) a
only_judged bytes (Parsed p) (Parsed written) h t =
    sym (whole_numbered (length bytes) (tokens_of bytes) written p (start_of written) (rules_of written) (subst (λ w. program_numbered w ≡ Some p) (h.only t.written t.stands.text) t.numbered))
only_judged bytes (Parsed p) (Refused y) h t = absurd (t.stands.faultless y h.is)
only_judged bytes (Refused x) (Parsed written) h (inl first) = absurd (h.faultless x first.is)
only_judged bytes (Refused x) (Parsed written) h (inr l) =
    sym (subst (λ w. whole (length bytes) (tokens_of bytes) w (start_of w) (rules_of w) ≡ Refused x) (h.only l.written l.stands.text) l.lacks)
only_judged bytes (Refused x) (Refused y) h (inl first) = ap Refused (one_first_fault.each (length bytes) (tokens_of bytes) x y first h)
only_judged bytes (Refused x) (Refused y) h (inr l) = absurd (l.stands.faultless y h.is)

-- a right verdict is the verdict
verdict_only : (bytes : List ℕ) (b : Answer Program Kind) → IsVerdict bytes b → b ≡ verdict bytes
verdict_only bytes b right = only_judged bytes b (answer programs (length bytes) (tokens_of bytes)) (answers_all_texts.each (length bytes) (tokens_of bytes)) right

-- The verdict is the only right one.
pub only_verdict : (bytes : List ℕ) → IsOnlyVerdict bytes (verdict bytes)
only_verdict bytes = record { right = verdict_right bytes; only = verdict_only bytes }

-- The law that the verdict on a text is the only right one.
pub verdicts_are_right : VerdictsAreRight
verdicts_are_right = record {
  each = verdict_right;
  only = verdict_only;
  spelled = λ bytes p s. spelled_judged bytes p s (answer programs (length bytes) (tokens_of bytes)) (answers_all_texts.each (length bytes) (tokens_of bytes));
}
