-- The times of a round: the table over which rules are tried, and the result for each.
use Rattle.std.proofs.Common.{◌≡◌, ℕ, zero, suc, ◌+◌, ◌==◌, true, false, List, [], ◌∷◌, ◌++◌, map, Option, Some, None, All}
use Rattle.std.proofs.Common.{inl, refl, sym, ◌∙◌, ap, subst, arith}
use Rattle.std.specs.Prelude.{slice_get}
use Rattle.std.proofs.lemmas.Bool.{or_left, or_right}
use Rattle.std.proofs.lemmas.List.Elements.{All-nil, All-cons, All-append}
use Rattle.model.specs.Bounds.{Bound, Constant}
use Rattle.model.specs.Entries.{is_in}
use Rattle.model.specs.Programs.{Program}
use Rattle.model.proofs.Membership.{same_number, slice_get-below}
use Rattle.cert_types.specs.declared.answer.GuardFeasibility.{GuardFeasibility}
use Rattle.cert_types.specs.cert_rules.AcceptsPlain.{IsRule}
use Rattle.cert_types.specs.cert_rules.Nodes.{ResultVariable}
use Rattle.cert_types.specs.cert_program.Setting.{setting_of}
use Rattle.rank_search.specs.rule_questions.EmptyAnswers.{SaysEmpty}
use Rattle.rank_search.specs.rule_questions.RuleAnswers.{AreEmptyAnswers, answer_for}
use Rattle.size_bounds.specs.declared.table.Table.{Table}
use Rattle.bound_fixpoint.specs.Keys.{lacks, time_key, rule_numbers}
use Rattle.bound_fixpoint.specs.Derivations as plain
use Rattle.bound_fixpoint.specs.Derivations.{bounds_of, bound_found, first_of}
use Rattle.bound_fixpoint.specs.Searches.{Searches}
use Rattle.bound_fixpoint.specs.Answers as told
use Rattle.bound_fixpoint.specs.Answers.{TimeOf, Answer, Lacks, derivations_by}
use Rattle.bound_fixpoint.specs.Right.{AreRight}
use Rattle.bound_fixpoint.specs.Rounds.{TriesAll, Together, IsMade}
use Rattle.bound_fixpoint.proofs.EmptyTimes.{empty_timed}
use Rattle.bound_fixpoint.proofs.DerivationLists.{found-append, known_stays, found_known}
use Rattle.bound_fixpoint.proofs.RuleNumbers.{in_rules}
use Rattle.bound_fixpoint.proofs.TimesAreJustified.{by_answer, round_times_justified}
use Rattle.bound_derivations.specs.declared.derivation.Derivation.{Derivation}
use Rattle.bound_derivations.specs.Books.{AreDerivedBounds, IsKey}
use Rattle.bound_derivations.specs.Views.{derivations_of}
use Rattle.time_bounds.specs.declared.tried_rules.RuleAttempt.{RuleAttempt}
use Rattle.time_bounds.specs.ProgramSearches.{searches_of_program}
use Rattle.time_bounds.specs.Questions.{IsTable}
use Rattle.time_bounds.specs.OpenDerivations.{AreOpenAfter}
use Rattle.time_bounds.specs.TriedRules.{AreTried, derivation_in, derivations_in, kept_in, AreAskedOver}
use Rattle.time_bounds.proofs.RuleStatusLaws.{says, shown}
use Rattle.time_bounds.proofs.OpenDerivations.{HasKeysOfRules, open_still_true}
use Rattle.time_bounds.proofs.RuleNumbers.{rule_there}
use Rattle.time_bounds.proofs.TriedDerivations.{asked_over}

-- a time found for the rule at a position is one of the rule
found-sound : (k : ℕ) (tries : List RuleAttempt) (i : ℕ) (t : ℕ) (x : RuleAttempt) → t ≡ k + i → slice_get tries i ≡ Some x
    → lacks (bound_found (derivation_in t x) t 0) ≡ false → lacks (bound_found (derivations_in k tries) t 0) ≡ false
found-sound k [] i t x e s h = absurd (let f : ⊥ = cc in f)
found-sound k (y ∷ tries) zero t x e s h =
    let at : t ≡ k = omega (arith, e) in
    let same : y ≡ x = cc in
    ap lacks (found-append (derivation_in k y) (derivations_in (suc k) tries) t 0)
    ∙ first (bound_found (derivation_in k y) t 0)
    (subst (λ (z : RuleAttempt). lacks (bound_found (derivation_in k z) t 0) ≡ false) (sym same)
    (subst (λ (n : ℕ). lacks (bound_found (derivation_in n x) t 0) ≡ false) at h))
  where
    first : (o : Option Bound) → lacks o ≡ false → lacks (first_of o (bound_found (derivations_in (suc k) tries) t 0)) ≡ false
    first None g = absurd (let f : ⊥ = cc in f)
    first (Some b) g = refl
found-sound k (y ∷ tries) (suc i) t x e s h =
    ap lacks (found-append (derivation_in k y) (derivations_in (suc k) tries) t 0)
    ∙ second (bound_found (derivation_in k y) t 0) (found-sound (suc k) tries i t x (omega (arith, e)) s h)
  where
    second : (o : Option Bound) → lacks (bound_found (derivations_in (suc k) tries) t 0) ≡ false
        → lacks (first_of o (bound_found (derivations_in (suc k) tries) t 0)) ≡ false
    second None g = g
    second (Some b) g = refl

-- each rule has an answered query over the earlier bounds, or its time is known with the new derivations
pub asked_later : (p : Program) (pivots : ℕ) (empties : List GuardFeasibility) (fs : List plain.Derivation) (tries : List RuleAttempt)
    → AreTried p (bounds_of p fs) pivots empties 1 tries
    → AreAskedOver p (bounds_of p fs) (bounds_of p (fs ++ derivations_in 1 tries)) pivots empties 1 (map kept_in tries)
asked_later p pivots empties fs tries h =
    asked_over p (bounds_of p fs) (bounds_of p (fs ++ derivations_in 1 tries)) pivots empties 1 tries
    (λ t e. known_stays p fs (derivations_in 1 tries) t 0 e)
    (λ i t x e s k. found_known p fs (derivations_in 1 tries) t 0 (found-sound 1 tries i t x e s k)) h

module _ (q : Searches) (p : Program) (right : AreRight q (setting_of p)) where
  -- the derivations of times have keys of these rules
  keyed : (fs : List plain.Derivation) (ts : List ℕ) → ((t : ℕ) → is_in t ts ≡ true → IsRule p t) → (times : List plain.Derivation)
      → TriesAll q (setting_of p) Together fs (map TimeOf ts) times → All (HasKeysOfRules p) times
  keyed fs [] rules times none =
      subst (λ (xs : List plain.Derivation). All (HasKeysOfRules p) xs) (sym none) (All-nil (HasKeysOfRules p))
  keyed fs (t ∷ ts) rules times (first, tries, (rest, e, later)) =
      subst (λ (xs : List plain.Derivation). All (HasKeysOfRules p) xs) (sym e)
      (All-append (HasKeysOfRules p) first rest
      (by_answer (λ (xs : List plain.Derivation). All (HasKeysOfRules p) xs) q (setting_of p) fs (TimeOf t) first tries
      (All-nil (HasKeysOfRules p)) (λ open_now a is_answer. answer a))
      (keyed fs ts (λ u m. rules u (or_right (u == t) (is_in u ts) m)) rest later))
    where
      answer : (a : Answer) → All (HasKeysOfRules p) (derivations_by (TimeOf t) a)
      answer (told.Found node premises bound) =
          All-cons (HasKeysOfRules p) (record { keys = time_key t ∷ []; node = node; premises = premises; bound = bound }) []
          (record {
            some = omega arith;
            each =
                All-cons (λ (k : ResultVariable). IsKey p k.rule k.place) (time_key t) []
                (record { rule = rules t (or_left (t == t) (is_in t ts) (same_number t)); place = inl refl })
                (All-nil (λ (k : ResultVariable). IsKey p k.rule k.place));
          })
          (All-nil (HasKeysOfRules p))
      answer (Lacks why) = All-nil (HasKeysOfRules p)

  -- the derivations of times in a round are open, one after the other
  pub times_open : (fs times : List plain.Derivation)
      → TriesAll q (setting_of p) Together fs (map TimeOf (rule_numbers p)) times → AreOpenAfter p fs times
  times_open fs times h =
      open_still_true (setting_of p) fs times (keyed fs (rule_numbers p) (λ t m. in_rules p t m) times h)
      (round_times_justified q (setting_of p) right fs times h)

-- the table of the derivations that rounds make is one that rounds use
pub table_of_derived : (p : Program) (pivots : ℕ) (empties : List GuardFeasibility) (tab : Table) (derivations : List Derivation)
    → AreEmptyAnswers p pivots empties → IsMade (searches_of_program p pivots) (setting_of p) (derivations_of derivations)
    → AreDerivedBounds p tab derivations → IsTable p tab empties
table_of_derived p pivots empties tab derivations answers made derived = record {
  one_each = derived.keys.times;
  start = ap lacks (derived.bounds 0 0);
  empty = record { each = λ t a found is. ap lacks (derived.bounds t 0 ∙ timed t a found is) };
}
  where
    timed : (t : ℕ) (a : GuardFeasibility) → answer_for empties t ≡ Some a → SaysEmpty a
        → bounds_of p (derivations_of derivations) t 0 ≡ Some (Constant 0)
    timed zero a found is = absurd (let f : ⊥ = cc in f)
    timed (suc i) a found is =
        let rule = rule_there p i (omega (arith, slice_get-below empties i a found, answers.one_each)) in
        empty_timed (searches_of_program p pivots) (setting_of p) (derivations_of derivations) made (suc i) rule
        (shown p pivots (suc i) rule.rule a rule.numbered (answers.each (suc i) rule.rule a rule.numbered found) (says a is))
