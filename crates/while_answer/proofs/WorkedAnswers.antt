-- The worked values of answers to while programs.
use Rattle.std.proofs.Common.{◌≡◌, ℕ, zero, suc, ◌≤◌, List, [], ◌∷◌, ℤ, pos, refl, subst, arith}
use Rattle.std.specs.Fmt.{digits}
use Rattle.while_model.specs.Statements.{Statements, Skip, Nothing, Simple}
use Rattle.while_model.specs.Executions.{IsExecution, Executes}
use Rattle.while_model.specs.Worked.{StepsAreExecuted}
use Rattle.text_grammar.specs.text_core.Reading.{Answer, Refused, Answers, answer}
use Rattle.text_grammar.specs.Texts.{reader}
use Rattle.text_grammar.proofs.text_core.FirstFaults.{answer_is}
use Rattle.text_grammar.proofs.ReaderLaws.{reader_laws}
use Rattle.while_text.specs.declared.kind.Kind.{Kind}
use Rattle.while_text.specs.declared.kind.Kind.TheVariants.{Syntax}
use Rattle.while_text.specs.Lexing.{tokens}
use Rattle.while_text.specs.Reading.{Source, while_text}
use Rattle.while_text.proofs.Lawful.{lawful}
use Rattle.while_answer.specs.Spelled.{IsFirstFault}
use Rattle.while_answer.specs.Worked.{TextsAreWorkedOut, StepsAreWorkedOut, skipping, counting_down}

-- An empty text is refused at its end.
pub nothing_written : IsFirstFault [] (record { kind = Syntax; at = 0 })
nothing_written =
    subst (λ (a : Answer Source Kind). Answers (reader (while_text [])) 0 (tokens []) a)
    (let e : answer (reader (while_text [])) 0 (tokens []) ≡ Refused (record { kind = Syntax; at = 0 }) = refl in e)
    (answer_is (reader (while_text [])) (reader_laws (while_text []) (lawful [])) 0 (tokens []))

pub texts_worked : TextsAreWorkedOut
unfolding digits
texts_worked = record {
  none = refl;
  points = refl;
  later = refl;
  unknown = refl;
  strange = refl;
  limit = refl;
  nothing = nothing_written;
}

-- After a step of `skip` no statement is left.
nothing_left : (start : List ℤ) (n : ℕ) (left : Statements) (end : List ℤ)
    → IsExecution (Simple Skip Nothing) start (suc n) left end → left ≡ Nothing
nothing_left start zero left end (before, env, (is, same), step) =
    (subst (λ (s : Statements). Executes s env left end) is step).1
nothing_left start (suc n) left end (before, env, led, step) =
    absurd (subst (λ (s : Statements). Executes s env left end) (nothing_left start n before env led) step)

-- An execution of `skip` has at most one step.
one_step : (start : List ℤ) (n : ℕ) (left : Statements) (end : List ℤ)
    → IsExecution (Simple Skip Nothing) start n left end → n ≤ 1
one_step start zero left end h = omega arith
one_step start (suc zero) left end h = omega arith
one_step start (suc (suc n)) left end (before, env, led, step) =
    absurd (subst (λ (s : Statements). Executes s env left end) (nothing_left start n before env led) step)

pub steps_worked : StepsAreExecuted → StepsAreWorkedOut
steps_worked executed = record {
  one_step = record { each = λ start places n end ends. one_step start n ends.0 end ends.1 };
  some_step = λ h.
      let few : 1 ≤ 0 = h.each (pos 0 ∷ []) refl 1 (pos 0 ∷ [])
      (Nothing, (Simple Skip Nothing, pos 0 ∷ [], (refl, refl), (refl, refl))) in
      omega (arith, few);
  three_steps = λ h.
      let few : 3 ≤ 2 = h.each (pos 1 ∷ []) refl 3 (pos 0 ∷ []) executed.counted in omega (arith, few);
}
