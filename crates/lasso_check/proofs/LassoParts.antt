-- Lasso files composed of their parts, and decomposed into them, as the grammar has it.
use Rattle.std.proofs.Common.{◌≡◌, ℕ, zero, suc, List, [], ◌∷◌, ◌++◌, refl, ap, arith, inl, inr, true}
use Rattle.std.specs.Prelude.{codes, ℤ}
use Rattle.std.specs.Fmt.{decimal}
use Rattle.its_model.specs.model.Programs.{Program}
use Rattle.its_model.specs.model.Runs.{Step}
use Rattle.text_grammar.specs.Grammars.{alternatives}
use Rattle.text_grammar.specs.Sounding.{is_readable}
use Rattle.text_grammar.specs.Texts.{IsLawful}
use Rattle.text_grammar.specs.Parts.{Part, Says, Puts, Does, AllMake, spelled}
use Rattle.text_grammar.specs.ByteTexts.{Numbered, Natural, Line, says, only, line_text, fold_of, numbers_of, grammar_of}
use Rattle.text_grammar.specs.ByteTexts.{HasNumbers, IsBounded, AreSmall}
use Rattle.text_grammar.specs.ByteParts.{ValueOf, parts_of, OwnAreMade}
use Rattle.text_grammar.proofs.ByteLaws.{bytes_lawful}
use Rattle.text_grammar.proofs.ByteDerivations.{IsDerived, by, each_natural, each_line}
use Rattle.text_grammar.proofs.Numerals.{none_when, some_none, when_none}
use Rattle.run_replay.specs.declared.kind.RunKind.{RunKind}
use Rattle.run_replay.specs.declared.kind.RunKind.TheVariants.{Syntax, NumberTooLarge, BadReference, ArityDiffers}
use Rattle.run_replay.specs.declared.kind.RunKind.TheVariants.{Limit}
use Rattle.run_replay.specs.Texts.{number_of, is_no_rule}
use Rattle.run_replay.specs.Spelled.{steps_text, AreStepsOf}
use Rattle.run_replay.proofs.RuleNumbers.{rule_passed, rule_taken}
use Rattle.lasso_check.specs.declared.grammar.TheConstants.{LETTERS}
use Rattle.lasso_check.specs.Lassos.{Lasso}
use Rattle.lasso_check.specs.Texts.{lasso_bytes, lassos_of}
use Rattle.lasso_check.specs.Spelled.{stem_text, text_of}

-- a turn: its first step, and the others
pub record TurnSteps : Type 0 where
  pub first : Step
  pub rest : List Step

-- what follows the start values: the stem and the turn
pub record BothParts : Type 0 where
  pub stem : List Step
  pub turn : TurnSteps

-- a lasso whose turn has a step
pub record WholeLasso : Type 0 where
  pub start : List ℤ
  pub parts : BothParts

abbrev pub turn_of : TurnSteps → List Step
turn_of t = t.first ∷ t.rest

abbrev pub whole_of : WholeLasso → Lasso
whole_of w = record { start = w.start; stem = w.parts.stem; turn = turn_of w.parts.turn }

-- the values of the nonterminals: a lasso; the stem with what follows it; a turn; the rest of a turn
abbrev pub LassoValue : ℕ → Type 0
LassoValue zero = WholeLasso
LassoValue (suc zero) = BothParts
LassoValue (suc (suc zero)) = TurnSteps
LassoValue (suc (suc (suc zero))) = List Step
LassoValue (suc (suc (suc (suc n)))) = ⊥

-- the parts of which each of these values is composed
abbrev pub step_parts : Step → List (Part ℕ Numbered) → List (Part ℕ Numbered)
step_parts s xs = says (codes "step ") (Puts (Natural s.rule) ∷ Puts (Line s.free) ∷ xs)

abbrev pub rest_parts : List Step → List (Part ℕ Numbered)
rest_parts [] = says (codes "end") (Says 10 ∷ [])
rest_parts (s ∷ ss) = step_parts s (rest_parts ss)

abbrev pub stem_parts : List Step → TurnSteps → List (Part ℕ Numbered)
stem_parts [] t = says (codes "loop") (Says 10 ∷ Does 8 ∷ rest_parts (turn_of t))
stem_parts (s ∷ ss) t = step_parts s (stem_parts ss t)

abbrev pub lasso_parts : (n : ℕ) → LassoValue n → List (Part ℕ Numbered)
lasso_parts zero w =
    says (codes "koat-lasso 1")
    (Says 10 ∷ says (codes "start") (Puts (Line w.start) ∷ stem_parts w.parts.stem w.parts.turn))
lasso_parts (suc zero) b = stem_parts b.stem b.turn
lasso_parts (suc (suc zero)) t = rest_parts (turn_of t)
lasso_parts (suc (suc (suc zero))) ss = rest_parts ss
lasso_parts (suc (suc (suc (suc n)))) b = absurd b

-- Kinds with the same number are the same.
differ : (a b : RunKind) → number_of a ≡ number_of b → a ≡ b
differ Syntax Syntax h = refl
differ NumberTooLarge NumberTooLarge h = refl
differ BadReference BadReference h = refl
differ ArityDiffers ArityDiffers h = refl
differ Limit Limit h = refl
differ a b h = absurd (omega (arith, h))

module _ (p : Program) where
  -- an accepted natural number is below 2^64, and each smaller one from 1 on is accepted as well; no signed number is
  -- accepted, so that the same holds of these
  pub bounded : IsBounded (lasso_bytes p)
  bounded = record {
    small = λ s n e.
        let l = (rule_passed p n (none_when (is_no_rule p n) BadReference e)).2 in omega (arith, l);
    below = λ s m n some l e.
        let r = rule_passed p n (none_when (is_no_rule p n) BadReference e) in
        when_none (is_no_rule p m) BadReference (rule_taken p m some (let k = r.1 in omega (arith, l, k))
        (let k = r.2 in omega (arith, l, k)));
    small_signed = λ s negative n e. absurd (some_none Syntax e);
    below_signed = λ s negative m n some l e. absurd (some_none Syntax e);
  }

  -- the grammar is readable, and has the rules of numbers
  pub readable : is_readable (grammar_of (lasso_bytes p)) ≡ true
  readable = refl

  pub numbers : HasNumbers (lasso_bytes p).rules
  numbers = record {
    value = refl;
    natural = refl;
    number = refl;
    positive = refl;
    digits = refl;
    line = refl;
    values = refl;
    signed = refl;
  }

  pub lassos_lawful : IsLawful (lassos_of p)
  lassos_lawful = bytes_lawful (lasso_bytes p) readable differ

  -- each alternative of the grammar composes its value from the values of its parts
  pub lassos_made : OwnAreMade (lasso_bytes p) LassoValue lasso_parts
  lassos_made = record { text = (λ (vs, (b, u)). (record { start = vs; parts = b }, refl), tt); others = go }
    where
      go : (n : ℕ) → AllMake (fold_of (lasso_bytes p)) (numbers_of (lasso_bytes p)) (grammar_of (lasso_bytes p))
          (only LETTERS) (ValueOf LassoValue lasso_parts) (parts_of LassoValue lasso_parts)
          (suc (suc (suc (suc (suc (suc (suc (suc (suc n)))))))))
          (alternatives (lasso_bytes p).rules (suc (suc (suc (suc (suc (suc (suc (suc (suc n))))))))))
      go zero = (
        (λ (n, (vs, (b, u))). (record { stem = record { rule = n; free = vs } ∷ b.stem; turn = b.turn }, refl)),
        ((λ (t, u). (record { stem = []; turn = t }, refl)), tt),
      )
      go (suc zero) =
          ((λ (n, (vs, (ss, u))). (record { first = record { rule = n; free = vs }; rest = ss }, refl)), tt)
      go (suc (suc zero)) =
          ((λ (n, (vs, (ss, u))). (record { rule = n; free = vs } ∷ ss, refl)), ((λ u. ([], refl)), tt))
      go (suc (suc (suc n))) = tt

  -- the grammar derives the steps of a program, and a lasso within the limits
  abbrev Derived : (n : ℕ) → ValueOf LassoValue lasso_parts n → Type 0
  Derived n v = IsDerived (lasso_bytes p) bounded numbers readable LassoValue lasso_parts n v

  rest_derived : (ss : List Step) → AreStepsOf p ss → Derived 11 ss
  rest_derived [] h = by (lasso_bytes p) bounded numbers readable LassoValue lasso_parts 11 _ (inr (inl refl)) tt tt
  rest_derived (s ∷ ss) h =
      by (lasso_bytes p) bounded numbers readable LassoValue lasso_parts 11 _ (inl refl) (s.rule, (s.free, (ss, tt))) (
        each_natural (lasso_bytes p) bounded numbers readable LassoValue lasso_parts s.rule
            (let l = h.0.held in omega (arith, l)),
        (
          each_line (lasso_bytes p) bounded numbers readable LassoValue lasso_parts s.free h.0.small,
          (rest_derived ss h.1, tt),
        ),
      )

  turn_derived : (t : TurnSteps) → AreStepsOf p (turn_of t) → Derived 10 t
  turn_derived t h =
      by (lasso_bytes p) bounded numbers readable LassoValue lasso_parts 10 _ (inl refl)
      (t.first.rule, (t.first.free, (t.rest, tt))) (
        each_natural (lasso_bytes p) bounded numbers readable LassoValue lasso_parts t.first.rule
            (let l = h.0.held in omega (arith, l)),
        (
          each_line (lasso_bytes p) bounded numbers readable LassoValue lasso_parts t.first.free h.0.small,
          (rest_derived t.rest h.1, tt),
        ),
      )

  parts_derived : (ss : List Step) (t : TurnSteps) → AreStepsOf p ss → AreStepsOf p (turn_of t)
      → Derived 9 (record { stem = ss; turn = t })
  parts_derived [] t h k =
      by (lasso_bytes p) bounded numbers readable LassoValue lasso_parts 9 _ (inr (inl refl)) (t, tt)
      (turn_derived t k, tt)
  parts_derived (s ∷ ss) t h k =
      by (lasso_bytes p) bounded numbers readable LassoValue lasso_parts 9 _ (inl refl)
      (s.rule, (s.free, (record { stem = ss; turn = t }, tt))) (
        each_natural (lasso_bytes p) bounded numbers readable LassoValue lasso_parts s.rule
            (let l = h.0.held in omega (arith, l)),
        (
          each_line (lasso_bytes p) bounded numbers readable LassoValue lasso_parts s.free h.0.small,
          (parts_derived ss t h.1 k, tt),
        ),
      )

  pub lasso_derived : (w : WholeLasso) → AreSmall w.start → AreStepsOf p w.parts.stem
      → AreStepsOf p (turn_of w.parts.turn) → Derived 0 w
  lasso_derived w values stem turn =
      by (lasso_bytes p) bounded numbers readable LassoValue lasso_parts 0 _ (inl refl) (w.start, (w.parts, tt)) (
        each_line (lasso_bytes p) bounded numbers readable LassoValue lasso_parts w.start values,
        (parts_derived w.parts.stem w.parts.turn stem turn, tt),
      )

  -- the spelled parts of steps and lassos are their texts
  rest_spells : (ss : List Step) → spelled (fold_of (lasso_bytes p)) (numbers_of (lasso_bytes p)) (rest_parts ss)
      ≡ steps_text ss
  rest_spells [] = refl
  rest_spells (s ∷ ss) =
      ap (λ (bs : List ℕ). codes "step " ++ (decimal s.rule ++ (line_text s.free ++ bs))) (rest_spells ss)

  stem_spells : (ss : List Step) (t : TurnSteps)
      → spelled (fold_of (lasso_bytes p)) (numbers_of (lasso_bytes p)) (stem_parts ss t) ≡ stem_text ss (turn_of t)
  stem_spells [] t = ap (λ (bs : List ℕ). codes "loop" ++ 10 ∷ bs) (rest_spells (turn_of t))
  stem_spells (s ∷ ss) t =
      ap (λ (bs : List ℕ). codes "step " ++ (decimal s.rule ++ (line_text s.free ++ bs))) (stem_spells ss t)

  pub lasso_spells : (w : WholeLasso)
      → spelled (fold_of (lasso_bytes p)) (numbers_of (lasso_bytes p)) (lasso_parts 0 w) ≡ text_of (whole_of w)
  lasso_spells w =
      ap (λ (bs : List ℕ). codes "koat-lasso 1" ++ 10 ∷ (codes "start" ++ (line_text w.start ++ bs)))
      (stem_spells w.parts.stem w.parts.turn)
