-- Run files, split into the parts of the grammar, and put together from them.
use Rattle.std.proofs.Common.{◌≡◌, ℕ, zero, suc, List, [], ◌∷◌, ◌++◌, refl, ap, arith, inl, inr, true}
use Rattle.std.specs.Prelude.{codes}
use Rattle.std.specs.Fmt.{decimal}
use Rattle.its_model.specs.model.Programs.{Program}
use Rattle.its_model.specs.model.Runs.{Step}
use Rattle.text_grammar.specs.Grammars.{alternatives}
use Rattle.text_grammar.specs.Sounding.{is_readable}
use Rattle.text_grammar.specs.Texts.{IsLawful}
use Rattle.text_grammar.specs.Parts.{Part, Says, Puts, AllMake, spelled}
use Rattle.text_grammar.specs.ByteTexts.{Numbered, Natural, Line, says, only, line_text, fold_of, numbers_of, grammar_of}
use Rattle.text_grammar.specs.ByteTexts.{HasNumbers, IsBounded}
use Rattle.text_grammar.specs.ByteParts.{ValueOf, parts_of, OwnAreMade}
use Rattle.text_grammar.proofs.ByteLaws.{bytes_lawful}
use Rattle.text_grammar.proofs.ByteDerivations.{IsDerived, by, each_natural, each_line}
use Rattle.text_grammar.proofs.Numerals.{none_when, some_none, when_none}
use Rattle.run_replay.specs.declared.kind.RunKind.{RunKind}
use Rattle.run_replay.specs.declared.kind.RunKind.TheVariants.{Syntax, NumberTooLarge, BadReference, ArityDiffers}
use Rattle.run_replay.specs.declared.kind.RunKind.TheVariants.{Limit}
use Rattle.run_replay.specs.declared.grammar.TheConstants.{LETTERS}
use Rattle.run_replay.specs.Runs.{Run}
use Rattle.run_replay.specs.Texts.{number_of, is_no_rule, run_bytes, runs_of}
use Rattle.run_replay.specs.Spelled.{steps_text, text_of, AreStepsOf, IsWithin}
use Rattle.run_replay.proofs.RuleNumbers.{rule_passed, rule_taken}

-- the types of the values of the nonterminals: a run, and steps
abbrev pub RunValue : ℕ → Type 0
RunValue zero = Run
RunValue (suc zero) = List Step
RunValue (suc (suc n)) = ⊥

-- the parts of steps, and of a run
abbrev pub steps_parts : List Step → List (Part ℕ Numbered)
steps_parts [] = says (codes "end") (Says 10 ∷ [])
steps_parts (s ∷ ss) = says (codes "step ") (Puts (Natural s.rule) ∷ Puts (Line s.free) ∷ steps_parts ss)

abbrev pub run_parts : (n : ℕ) → RunValue n → List (Part ℕ Numbered)
run_parts zero r =
    says (codes "koat-run 1") (Says 10 ∷ says (codes "start") (Puts (Line r.start) ∷ steps_parts r.steps))
run_parts (suc zero) ss = steps_parts ss
run_parts (suc (suc n)) b = absurd b

-- Kinds with the same number are the same.
differ : (a b : RunKind) → number_of a ≡ number_of b → a ≡ b
differ Syntax Syntax h = refl
differ NumberTooLarge NumberTooLarge h = refl
differ BadReference BadReference h = refl
differ ArityDiffers ArityDiffers h = refl
differ Limit Limit h = refl
differ a b h = absurd (omega (arith, h))

module _ (p : Program) where
  -- natural numbers that aren't refused are below 2^64, and smaller ones from 1 on aren't refused either; signed
  -- numbers are all refused
  pub bounded : IsBounded (run_bytes p)
  bounded = record {
    small = λ s n e.
        let l = (rule_passed p n (none_when (is_no_rule p n) BadReference e)).2 in omega (arith, l);
    below = λ s m n some l e.
        let r = rule_passed p n (none_when (is_no_rule p n) BadReference e) in
        when_none (is_no_rule p m) BadReference (rule_taken p m some (let k = r.1 in omega (arith, l, k))
        (let k = r.2 in omega (arith, l, k)));
    small_signed = λ s negative n e. absurd (some_none Syntax e);
    below_signed = λ s negative m n some l e. absurd (some_none Syntax e);
  }

  -- the parser accepts the grammar, which has the rules of numbers
  pub readable : is_readable (grammar_of (run_bytes p)) ≡ true
  readable = refl

  pub numbers : HasNumbers (run_bytes p).rules
  numbers = record {
    value = refl;
    natural = refl;
    number = refl;
    positive = refl;
    digits = refl;
    line = refl;
    values = refl;
    signed = refl;
  }

  pub runs_lawful : IsLawful (runs_of p)
  runs_lawful = bytes_lawful (run_bytes p) readable differ

  -- each alternative of the grammar is made from the values of its parts
  pub runs_made : OwnAreMade (run_bytes p) RunValue run_parts
  runs_made = record { text = (λ (vs, (ss, u)). (record { start = vs; steps = ss }, refl), tt); others = go }
    where
      go : (n : ℕ) → AllMake (fold_of (run_bytes p)) (numbers_of (run_bytes p)) (grammar_of (run_bytes p))
          (only LETTERS) (ValueOf RunValue run_parts) (parts_of RunValue run_parts)
          (suc (suc (suc (suc (suc (suc (suc (suc (suc n)))))))))
          (alternatives (run_bytes p).rules (suc (suc (suc (suc (suc (suc (suc (suc (suc n))))))))))
      go zero = ((λ (n, (vs, (ss, u))). (record { rule = n; free = vs } ∷ ss, refl)), ((λ u. ([], refl)), tt))
      go (suc n) = tt

  -- steps of the program can be derived in the grammar, and so can a run within the limits
  abbrev Derived : (n : ℕ) → ValueOf RunValue run_parts n → Type 0
  Derived n v = IsDerived (run_bytes p) bounded numbers readable RunValue run_parts n v

  steps_derived : (ss : List Step) → AreStepsOf p ss → Derived 9 ss
  steps_derived [] h = by (run_bytes p) bounded numbers readable RunValue run_parts 9 _ (inr (inl refl)) tt tt
  steps_derived (s ∷ ss) h =
      by (run_bytes p) bounded numbers readable RunValue run_parts 9 _ (inl refl) (s.rule, (s.free, (ss, tt))) (
        each_natural (run_bytes p) bounded numbers readable RunValue run_parts s.rule
            (let l = h.0.held in omega (arith, l)),
        (
          each_line (run_bytes p) bounded numbers readable RunValue run_parts s.free h.0.small,
          (steps_derived ss h.1, tt),
        ),
      )

  pub run_derived : (r : Run) → IsWithin p r → Derived 0 r
  run_derived r h =
      by (run_bytes p) bounded numbers readable RunValue run_parts 0 _ (inl refl) (r.start, (r.steps, tt)) (
        each_line (run_bytes p) bounded numbers readable RunValue run_parts r.start h.values,
        (steps_derived r.steps h.steps, tt),
      )

  -- the parts of steps, and of a run, spell their texts
  steps_spell : (ss : List Step) → spelled (fold_of (run_bytes p)) (numbers_of (run_bytes p)) (steps_parts ss)
      ≡ steps_text ss
  steps_spell [] = refl
  steps_spell (s ∷ ss) =
      ap (λ (bs : List ℕ). codes "step " ++ (decimal s.rule ++ (line_text s.free ++ bs))) (steps_spell ss)

  pub run_spells : (r : Run) → spelled (fold_of (run_bytes p)) (numbers_of (run_bytes p)) (run_parts 0 r) ≡ text_of r
  run_spells r =
      ap (λ (bs : List ℕ). codes "koat-run 1" ++ 10 ∷ (codes "start" ++ (line_text r.start ++ bs))) (steps_spell r.steps)
