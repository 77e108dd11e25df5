-- The worked programs have the stated translations and executions.
use Rattle.std.proofs.Common.{◌≡◌, inl, inr, ℕ, List, [], ◌∷◌, ℤ, pos, negsuc, refl, ◌∙◌, ap, subst, arith}
use Rattle.std.proofs.lemmas.Int.{ints}
use Rattle.std.proofs.lemmas.List.Elements.{All-nil, All-cons, All-head}
use Rattle.std.specs.Fmt.{decimal}
use Rattle.std.proofs.lemmas.Fmt.{decimal_digit}
use Rattle.model.specs.Programs.{Atom, Program, AtomHolds, GuardHolds}
use Rattle.while_model.specs.Statements.{Statements, Nothing, Simple, While, Skip, size}
use Rattle.while_model.specs.Executions.{Executes, EndsWith}
use Rattle.while_model.specs.Translation.{program_of}
use Rattle.while_model.specs.Worked.{ProgramsAreTranslated, FreeNamesAreFound, StepsAreExecuted, at_least, counting, in_block}
use Rattle.while_model.specs.Worked.{empty_first, one_input, counting_program}

-- The counting loop's translation with these numerals.
abbrev numbered : List ℕ → List ℕ → List ℕ → Program
numbered zero_text one_text two_text = record {
  symbols = record { name = 112 ∷ zero_text; arity = 1 } ∷ record { name = 112 ∷ one_text; arity = 1 }
      ∷ record { name = 112 ∷ two_text; arity = 1 } ∷ [];
  start = 0;
  start_names = one_input;
  rules = counting_program.rules;
}

counts_down : program_of one_input counting ≡ counting_program
counts_down =
    let same : program_of one_input counting ≡ numbered (decimal 0) (decimal 1) (decimal 2) = refl in
    same ∙ ap (λ (t : List ℕ). numbered t (decimal 1) (decimal 2)) (decimal_digit 0 (omega arith))
    ∙ ap (λ (t : List ℕ). numbered (48 ∷ []) t (decimal 2)) (decimal_digit 1 (omega arith))
    ∙ ap (λ (t : List ℕ). numbered (48 ∷ []) (49 ∷ []) t) (decimal_digit 2 (omega arith))

pub programs_are_translated : ProgramsAreTranslated
programs_are_translated = record {
  counts = counts_down;
  skips_first = refl;
  in_order = refl;
  inside = refl;
  blocks = refl;
  chooses = refl;
  negated = refl;
}

pub free_names_are_found : FreeNamesAreFound
free_names_are_found = record { without = refl; between = refl; behind = refl; first = refl }

-- A test with one atom holds if the atom does.
holds : (env : List ℤ) (x : Atom) → AtomHolds env x → GuardHolds env (x ∷ [])
holds env x h = All-cons (AtomHolds env) x [] h (All-nil (AtomHolds env))

fails : (env : List ℤ) (x : Atom) → ¬ (AtomHolds env x) → ¬ (GuardHolds env (x ∷ []))
fails env x h k = h (All-head (AtomHolds env) x [] k)

-- A number that distinguishes kinds of statements.
abbrev kind : Statements → ℕ
kind Nothing = 0
kind (Simple a r) = 1
kind (While t b r) = 2
kind s = 3

abbrev first_value : List ℤ → ℤ
first_value [] = pos 9
first_value (z ∷ zs) = z

-- The loop isn't entered from 0, nor left from 1.
not_entered : ¬ (Executes counting (pos 0 ∷ []) in_block (pos 0 ∷ []))
not_entered (same, inl (test, e)) = omega (arith, ints, All-head (AtomHolds (pos 0 ∷ [])) (at_least 0 (pos 1)) [] test)
not_entered (same, inr (test, e)) = omega (arith, ap kind e)

not_left : ¬ (Executes counting (pos 1 ∷ []) Nothing (pos 1 ∷ []))
not_left (same, inl (test, e)) = omega (arith, ap kind e)
not_left (same, inr (test, e)) = absurd (test (holds (pos 1 ∷ []) (at_least 0 (pos 1)) (omega (arith, ints))))

not_second_block : ¬ (Executes empty_first (pos 0 ∷ []) (Simple Skip (Simple Skip Nothing)) (pos 0 ∷ []))
not_second_block (same, inl (test, e)) = omega (arith, ap (λ (s : Statements). size s) e)
not_second_block (same, inr (test, e)) = absurd (test (holds (pos 0 ∷ []) (at_least 0 (pos 0)) (omega (arith, ints))))

-- After a step of the loop from 0, nothing is left to execute.
left_from_0 : (left : Statements) (env : List ℤ) → Executes counting (pos 0 ∷ []) left env → left ≡ Nothing
left_from_0 left env (same, inl (test, e)) =
    absurd (omega (arith, ints, All-head (AtomHolds (pos 0 ∷ [])) (at_least 0 (pos 1)) [] test))
left_from_0 left env (same, inr (test, e)) = e

no_second_step : (end : List ℤ) → ¬ (EndsWith counting (pos 0 ∷ []) 2 end)
no_second_step end (left, (before, env, (program, start, (is, same), one), two)) =
    let of_counting : Executes counting (pos 0 ∷ []) before env =
    subst (λ (v : List ℤ). Executes counting v before env) same
    (subst (λ (s : Statements). Executes s start before env) is one) in
    subst (λ (s : Statements). Executes s env left end) (left_from_0 before env of_counting) two

pub steps_are_executed : StepsAreExecuted
steps_are_executed = record {
  enters = (refl, inl (holds (pos 1 ∷ []) (at_least 0 (pos 1)) (omega (arith, ints)), refl));
  not_from_0 = not_entered;
  leaves = (refl, inr (fails (pos 0 ∷ []) (at_least 0 (pos 1)) (λ h. omega (arith, ints, h)), refl));
  not_from_1 = not_left;
  unchanged = λ step. omega (arith, ints, ap first_value step.0);
  assigns = (refl, refl);
  assigns_it = λ step. omega (arith, ints, ap first_value step.0);
  chooses = ((negsuc 4, refl), refl);
  not_another = λ step. omega (arith, ints, ap first_value step.0.1);
  skips = λ step. omega (arith, ints, ap first_value step.0);
  ends = λ left env end step. step;
  first_block = (refl, inl (holds (pos 0 ∷ []) (at_least 0 (pos 0)) (omega (arith, ints)), refl));
  second_block = (refl, inr (fails (negsuc 0 ∷ []) (at_least 0 (pos 0)) (λ h. omega (arith, ints, h)), refl));
  not_second = not_second_block;
  counted = (
    Nothing,
    (
      counting,
      pos 0 ∷ [],
      (
        in_block,
        pos 1 ∷ [],
        (
          counting,
          pos 1 ∷ [],
          (refl, refl),
          (refl, inl (holds (pos 1 ∷ []) (at_least 0 (pos 1)) (omega (arith, ints)), refl)),
        ),
        (refl, refl),
      ),
      (refl, inr (fails (pos 0 ∷ []) (at_least 0 (pos 1)) (λ h. omega (arith, ints, h)), refl)),
    ),
  );
  no_second = no_second_step;
}
