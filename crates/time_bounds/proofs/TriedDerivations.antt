-- The results for rules over the bounds of derivations are those of a round of times.
use Rattle.std.proofs.Common.{◌≡◌, ℕ, suc, ◌+◌, ◌||◌, Bool, true, false, List, [], ◌∷◌, ◌++◌, length}
use Rattle.std.proofs.Common.{map, Option, Some, None, refl, sym, ◌∙◌, ap, subst, append_assoc, arith}
use Rattle.std.specs.List.{range_with_len}
use Rattle.std.specs.Prelude.{slice_get}
use Rattle.std.proofs.lemmas.List.{append-nil}
use Rattle.model.specs.Programs.{Program}
use Rattle.model.proofs.Membership.{no_is_not_yes}
use Rattle.bound_expr.specs.Views.{bound_of}
use Rattle.cert_types.specs.declared.answer.GuardFeasibility.{GuardFeasibility}
use Rattle.cert_types.specs.cert_rules.Nodes.{ResultVariable}
use Rattle.cert_types.specs.cert_program.Setting.{setting_of}
use Rattle.cert_types.specs.Views.{rank_of, result_variable_of}
use Rattle.rank_search.specs.rule_questions.RuleAnswers.{AreEmptyAnswers}
use Rattle.bound_fixpoint.specs.Keys.{Bounds, is_untimed, has_key, lacks, rule_numbers, time_key}
use Rattle.bound_fixpoint.specs.Derivations as plain
use Rattle.bound_fixpoint.specs.Derivations.{RankBy, bound_found}
use Rattle.bound_fixpoint.specs.Answers as told
use Rattle.bound_fixpoint.specs.Answers.{TimeOf, Lacks}
use Rattle.bound_fixpoint.specs.Rounds.{Tries, TriesAll, Together}
use Rattle.bound_fixpoint.proofs.DerivationLists.{found-here}
use Rattle.bound_fixpoint.proofs.Keys.{has_key-first}
use Rattle.time_bounds.specs.declared.asking.AnsweredRankQuestion.{AnsweredRankQuestion}
use Rattle.time_bounds.specs.declared.tried_rules.RuleAttempt.{RuleAttempt}
use Rattle.time_bounds.specs.declared.tried_rules.RuleAttempt.TheVariants.{Known, Found, Missing}
use Rattle.time_bounds.specs.ProgramSearches.{searches_of_program}
use Rattle.time_bounds.specs.Questions.{AreAnsweredFrom}
use Rattle.time_bounds.specs.TriedRules.{IsTried, AreTried, derivation_in, derivations_in, kept_in, IsAskedOver, AreAskedOver}
use Rattle.time_bounds.proofs.AnswerLaws.{missing_reason_answered}

-- the derivations with the result of one rule more
pub derivations_more : (k : ℕ) (tries : List RuleAttempt) (x : RuleAttempt)
    → derivations_in k tries ++ derivation_in (k + length tries) x ≡ derivations_in k (tries ++ x ∷ [])
derivations_more k [] x =
    ap (λ (n : ℕ). derivation_in n x) (let z : k + 0 ≡ k = omega arith in z) ∙ sym (append-nil (derivation_in k x))
derivations_more k (y ∷ tries) x =
    append_assoc (derivation_in k y) (derivations_in (suc k) tries) (derivation_in (k + suc (length tries)) x)
    ∙ ap (λ (fs : List plain.Derivation). derivation_in k y ++ fs)
    (ap (λ (n : ℕ). derivations_in (suc k) tries ++ derivation_in n x) (let z : k + suc (length tries) ≡ suc k + length tries = omega arith in z)
    ∙ derivations_more (suc k) tries x)

-- `false` is neutral for a disjunction
or_false : (v : Bool) → (v || false) ≡ v
or_false true = refl
or_false false = refl

module _ (p : Program) (pivots : ℕ) (empties : List GuardFeasibility) (answers : AreEmptyAnswers p pivots empties) (fs : List plain.Derivation) where
  -- the result for one rule is that of the round
  one_tried : (t : ℕ) (x : RuleAttempt) → IsTried p (plain.bounds_of p fs) pivots empties t x
      → Tries (searches_of_program p pivots) (setting_of p) fs (TimeOf t) (derivation_in t x)
  one_tried t Known h = record {
    known = λ e. refl;
    tried = λ e.
        absurd (no_is_not_yes (is_untimed (plain.bounds_of p fs) t) h
        (sym (or_false (is_untimed (plain.bounds_of p fs) t)) ∙ e));
  }
  one_tried t (Found node premises bound) h = record {
    known = λ e.
        absurd (no_is_not_yes (is_untimed (plain.bounds_of p fs) t)
        (sym (or_false (is_untimed (plain.bounds_of p fs) t)) ∙ e) h.0);
    tried = λ e. (told.Found (RankBy (rank_of node)) (map result_variable_of premises.items) (bound_of bound), h.1, refl);
  }
  one_tried t (Missing a) h = record {
    known = λ e. refl;
    tried = λ e. (Lacks h.1.why, missing_reason_answered p (plain.bounds_of p fs) pivots empties t a answers h.1, refl);
  }

  -- the results for all rules from one on are those of the round
  all_tried : (k : ℕ) (tries : List RuleAttempt) → AreTried p (plain.bounds_of p fs) pivots empties k tries
      → TriesAll (searches_of_program p pivots) (setting_of p) Together fs (map TimeOf (range_with_len k (length tries)))
      (derivations_in k tries)
  all_tried k [] h = refl
  all_tried k (x ∷ tries) h = (
    derivation_in k x,
    one_tried k x h.0,
    (
      derivations_in (suc k) tries,
      refl,
      subst (λ (n : ℕ). TriesAll (searches_of_program p pivots) (setting_of p) Together fs
          (map TimeOf (range_with_len n (length tries))) (derivations_in (suc k) tries)) (let z : suc k ≡ k + 1 = omega arith in z)
          (all_tried (suc k) tries h.1),
    ),
  )

  -- the results for all rules are those of the round
  pub tried_all : (tries : List RuleAttempt) → length tries ≡ length p.rules → AreTried p (plain.bounds_of p fs) pivots empties 1 tries
      → TriesAll (searches_of_program p pivots) (setting_of p) Together fs (map TimeOf (rule_numbers p)) (derivations_in 1 tries)
  tried_all tries long h =
      subst (λ (n : ℕ). TriesAll (searches_of_program p pivots) (setting_of p) Together fs (map TimeOf (range_with_len 1 n))
      (derivations_in 1 tries)) long (all_tried 1 tries h)

-- the queries of rules without a time were answered
pub kept_asked : (p : Program) (b later : Bounds) (pivots : ℕ) (empties : List GuardFeasibility) (k : ℕ) (asked : List (Option AnsweredRankQuestion))
    → AreAskedOver p b later pivots empties k asked → AreAnsweredFrom p pivots empties k asked
kept_asked p b later pivots empties k [] h = tt
kept_asked p b later pivots empties k (None ∷ asked) h = kept_asked p b later pivots empties (suc k) asked h.1
kept_asked p b later pivots empties k (Some a ∷ asked) h =
    (h.0.1.answered, kept_asked p b later pivots empties (suc k) asked h.1)

-- the derivation of a time has the key of its rule
own_time : (t : ℕ) (f : plain.Derivation) → f.keys ≡ time_key t ∷ [] → lacks (bound_found (f ∷ []) t 0) ≡ false
own_time t f e =
    ap lacks (found-here f [] t 0 (subst (λ (ks : List ResultVariable). has_key ks t 0 ≡ true) (sym e) (has_key-first (time_key t) [])))

-- the results for rules, by their queries, if the times found are known later
pub asked_over : (p : Program) (b later : Bounds) (pivots : ℕ) (empties : List GuardFeasibility) (k : ℕ) (tries : List RuleAttempt)
    → ((t : ℕ) → is_untimed b t ≡ false → is_untimed later t ≡ false)
    → ((i t : ℕ) (x : RuleAttempt) → t ≡ k + i → slice_get tries i ≡ Some x → lacks (bound_found (derivation_in t x) t 0) ≡ false
    → is_untimed later t ≡ false)
    → AreTried p b pivots empties k tries → AreAskedOver p b later pivots empties k (map kept_in tries)
asked_over p b later pivots empties k [] grown found h = tt
asked_over p b later pivots empties k (x ∷ tries) grown found h = (
  one x (found 0 k x (omega arith) refl) h.0,
  asked_over p b later pivots empties (suc k) tries grown
      (λ i t y e s. found (suc i) t y (omega (arith, e)) s) h.1,
)
  where
    one : (y : RuleAttempt) → (lacks (bound_found (derivation_in k y) k 0) ≡ false → is_untimed later k ≡ false)
        → IsTried p b pivots empties k y → IsAskedOver p b later pivots empties k (kept_in y)
    one Known new t = grown k t
    one (Found node premises bound) new t = new (own_time k (record {
      keys = time_key k ∷ [];
      node = RankBy (rank_of node);
      premises = map result_variable_of premises.items;
      bound = bound_of bound;
    }) refl)
    one (Missing a) new t = t
