-- Lists of facts that state what is known with the time of the first rule of the program that counts down, and others
-- that don't.
use Rattle.std.proofs.Common.{◌≡◌, ℕ, List, [], ◌∷◌, length, refl, ap, arith}
use Rattle.std.proofs.lemmas.List.Elements.{All-head}
use Rattle.rule_questions.specs.model.Bounds.{Constant}
use Rattle.rule_questions.specs.model.Facts.{Fact, Time}
use Rattle.rule_questions.specs.cert_rules.WorkedSettings.{counting}
use Rattle.rule_questions.specs.cert_rules.Worked.{once_time}
use Rattle.rule_questions.proofs.model.Cases.{some_same}
use Rattle.bound_fixpoint.specs.Derivations.{number_in}
use Rattle.bound_fixpoint.specs.Stated.{IsFactOf, AreFactsOf}
use Rattle.bound_fixpoint.specs.WorkedDerivations.{once_derivation}
use Rattle.bound_fixpoint.specs.WorkedStated.{once_known, SayOnce, BoundsAreSaidAsWorkedOut}
use Rattle.bound_fixpoint.proofs.JustifiedLemmas.{all_have_lemmas, derivations_say}
use Rattle.bound_fixpoint.proofs.WorkedComponents.{rule_1}
use Rattle.bound_fixpoint.proofs.WorkedJustification.{once_alone}

said : SayOnce ((Time 1 once_time ∷ []) ∷ []) (number_in (once_derivation ∷ []))
said = derivations_say counting (once_derivation ∷ []) (all_have_lemmas counting (once_derivation ∷ []) once_alone).sound

not_by_none : SayOnce [] (number_in (once_derivation ∷ [])) → ⊥
not_by_none h =
    let n : ◌≡◌ {A = ℕ} 0 1 = ap (λ (facts : List Fact). length facts) (h.alone 1 once_time rule_1 refl) in
    omega (arith, n)

not_other_time : SayOnce ((Time 1 (Constant 1) ∷ []) ∷ []) (number_in (once_derivation ∷ [])) → ⊥
not_other_time h =
    other (some_same once_time (Constant 1)
    (All-head (IsFactOf once_known) (Time 1 (Constant 1)) []
    (All-head (AreFactsOf once_known) (Time 1 (Constant 1) ∷ []) [] h.are)))
  where
    other : once_time ≡ Constant 1 → ⊥
    other e = cc

not_twice : SayOnce ((Time 1 once_time ∷ Time 1 once_time ∷ []) ∷ []) (number_in (once_derivation ∷ [])) → ⊥
not_twice h =
    let n : ◌≡◌ {A = ℕ} 2 1 = ap (λ (facts : List Fact). length facts) (h.alone 1 once_time rule_1 refl) in
    omega (arith, n)

not_by_the_entry : SayOnce ((Time 1 once_time ∷ []) ∷ []) (λ t i. 0) → ⊥
not_by_the_entry h =
    let n : ◌≡◌ {A = ℕ} 0 1 = ap (λ (facts : List Fact). length facts) (h.alone 1 once_time rule_1 refl) in
    omega (arith, n)

pub said_worked : BoundsAreSaidAsWorkedOut
said_worked = record {
  said = said;
  not_by_none = not_by_none;
  not_other_time = not_other_time;
  not_twice = not_twice;
  not_by_the_entry = not_by_the_entry;
}
