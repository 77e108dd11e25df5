-- The derivations of a round for rules are justified after the earlier ones.
use Rattle.std.proofs.Common.{◌≡◌, ℕ, suc, ◌==◌, true, false, List, [], ◌∷◌, ◌++◌}
use Rattle.std.proofs.Common.{length, map, None, refl, sym, ap, subst, arith, All}
use Rattle.std.proofs.lemmas.Bool.{or_left, or_right, or_cases}
use Rattle.std.proofs.lemmas.List.Elements.{All-nil, All-cons, All-append}
use Rattle.rule_questions.specs.model.Bounds.{Bound, Constant}
use Rattle.rule_questions.specs.model.Entries.{is_in}
use Rattle.rule_questions.proofs.model.Membership.{same_number}
use Rattle.rule_questions.specs.cert_rules.Nodes.{ResultVariable, RankNode}
use Rattle.rule_questions.specs.cert_rules.Known.{IsKnown}
use Rattle.rule_questions.specs.cert_rules.Setting.{Setting}
use Rattle.rule_questions.specs.cert_rules.AcceptsPlain.{IsRule}
use Rattle.rule_questions.specs.cert_rules.AcceptsRank.{AcceptsRank}
use Rattle.bound_fixpoint.specs.Keys.{Bounds, time_key, at_key, lacks, over, rule_numbers}
use Rattle.bound_fixpoint.specs.Derivations.{Node, RankBy, Derivation, bounds_of}
use Rattle.bound_fixpoint.specs.Needs.{needs_of}
use Rattle.bound_fixpoint.specs.Justification.{composed_bound, IsJustified, AreJustifiedAfter}
use Rattle.bound_fixpoint.specs.Searches.{Searches, Ranking, Ranked, Unranked, RankHitLimit, NoBound, OfTime}
use Rattle.outcome.specs.Reports.{NoFunction, TimeHitLimit}
use Rattle.bound_fixpoint.specs.Answers.{Target, TimeOf, is_open, Answer, Found, Lacks, derivations_by, AnswersRanking, AnswersTime}
use Rattle.bound_fixpoint.specs.Answers.{AnswersTarget}
use Rattle.bound_fixpoint.specs.Rounds.{Tries, TriesAll, Together}
use Rattle.bound_fixpoint.specs.Right.{AreRight}
use Rattle.bound_fixpoint.proofs.Cases.{either, by_cases, false_true, lacks_none}
use Rattle.bound_fixpoint.proofs.RuleNumbers.{in_rules}
use Rattle.bound_fixpoint.proofs.FreshDerivations.{AscendFrom, range_ascends, RulesAscend, rules_lower, AreFresh, AllFresh}
use Rattle.bound_fixpoint.proofs.FreshDerivations.{fresh_by_rules, begins_itself, justified_over}
use Rattle.bound_fixpoint.proofs.AcceptedRanks.{is_question, accepted_rank}
use Rattle.bound_fixpoint.proofs.KnownPremises.{rank_known}
use Rattle.bound_fixpoint.proofs.FirstDerivationsAreJustified.{time_of_rule}

-- a property of the empty list, and of the derivations that each answer gives where a bound is missing, is one of the
-- derivations for a target
pub by_answer : (P : List Derivation → Type 0) (q : Searches) (s : Setting) (fs : List Derivation) (g : Target) (more : List Derivation)
    → Tries q s fs g more → P []
    → (is_open (bounds_of s.program fs) g ≡ true → (a : Answer) → AnswersTarget q s (bounds_of s.program fs) g a
    → P (derivations_by g a))
    → P more
by_answer P q s fs g more h none some = by_cases (is_open (bounds_of s.program fs) g) tried known
  where
    tried : is_open (bounds_of s.program fs) g ≡ true → P more
    tried e = let x = h.tried e in subst P (sym x.2) (some e x.0 x.1)

    known : is_open (bounds_of s.program fs) g ≡ false → P more
    known e = subst P (sym (h.known e)) none

-- a rule whose time is queried has none yet
pub open_time : (b : Bounds) (t : ℕ) → is_open b (TimeOf t) ≡ true → b t 0 ≡ None
open_time b t e =
    either (or_cases (lacks (b t 0)) false e) (λ k. lacks_none (b t 0) k) (λ k. absurd (false_true k))

-- the derivation of an accepted ranking node is justified
ranked_justified : (s : Setting) (b : Bounds) (t : ℕ) (node : RankNode) (n : Node) (premises : List ResultVariable) (bound : Bound)
    → node.rule ≡ t → AcceptsRank s (over b) node → n ≡ RankBy node → premises ≡ needs_of s b (RankBy node)
    → bound ≡ composed_bound s b (RankBy node)
    → IsJustified s b (record { keys = time_key t ∷ []; node = n; premises = premises; bound = bound })
ranked_justified s b t node n premises bound rule ok same_node same_premises same_bound =
    subst (λ (x : Node). IsJustified s b (record { keys = time_key t ∷ []; node = x; premises = premises; bound = bound }))
    (sym same_node) (record {
      keys = ap (λ (u : ℕ). time_key u ∷ []) (sym rule);
      accepted = ok;
      premises = same_premises;
      known = subst (λ (ks : List ResultVariable). All (λ k. IsKnown (at_key b k)) ks) (sym same_premises) (rank_known b s node ok);
      bound = same_bound;
    })

module _ (q : Searches) (s : Setting) (right : AreRight q s) (fs : List Derivation) where
  -- the virtual entry has a time
  begun : IsKnown (bounds_of s.program fs 0 0)
  begun = (Constant 1, refl)

  -- the derivation that an answer about a rule gives is justified over these bounds
  time_justified : (t : ℕ) → IsRule s.program t → (a : Answer) → AnswersTime q s (bounds_of s.program fs) t a
      → All (IsJustified s (bounds_of s.program fs)) (derivations_by (TimeOf t) a)
  time_justified t rule (Lacks why) h = All-nil (IsJustified s (bounds_of s.program fs))
  time_justified t rule (Found n premises bound) h =
      All-cons (IsJustified s (bounds_of s.program fs)) (record {
        keys = time_key t ∷ [];
        node = n;
        premises = premises;
        bound = bound;
      }) []
      (by h.asked.answer h.asked.answered h.is_answer) (All-nil (IsJustified s (bounds_of s.program fs)))
    where
      not_both : (why : NoBound) → Found n premises bound ≡ Lacks why → ⊥
      not_both why e = cc

      by : (r : Ranking) → q.Ranks h.asked.set t h.asked.shut r
          → AnswersRanking s (bounds_of s.program fs) r (Found n premises bound)
          → IsJustified s (bounds_of s.program fs)
          (record { keys = time_key t ∷ []; node = n; premises = premises; bound = bound })
      by (Ranked node) answered is_answer =
          let r = right.rank h.asked.set t h.asked.shut (Ranked node)
          (is_question s (bounds_of s.program fs) begun t h.asked.set rule h.asked.is_set) answered in
          ranked_justified s (bounds_of s.program fs) t node n premises bound r.rule
          (accepted_rank s (bounds_of s.program fs) begun t h.asked.set h.asked.shut node r h.asked.is_set
          h.asked.are_shut is_answer.0)
          is_answer.1 is_answer.2 is_answer.3
      by (Unranked g) answered is_answer = absurd (not_both (OfTime (NoFunction g)) is_answer)
      by (RankHitLimit x) answered is_answer = absurd (not_both (OfTime (TimeHitLimit x)) is_answer)

  -- the derivations for a list of rules are justified
  times_justified : (ts : List ℕ) → ((t : ℕ) → is_in t ts ≡ true → IsRule s.program t) → (times : List Derivation)
      → TriesAll q s Together fs (map TimeOf ts) times → All (IsJustified s (bounds_of s.program fs)) times
  times_justified [] rules times none =
      subst (λ (xs : List Derivation). All (IsJustified s (bounds_of s.program fs)) xs) (sym none)
      (All-nil (IsJustified s (bounds_of s.program fs)))
  times_justified (t ∷ ts) rules times (first, tries, (rest, e, later)) =
      subst (λ (xs : List Derivation). All (IsJustified s (bounds_of s.program fs)) xs) (sym e)
      (All-append (IsJustified s (bounds_of s.program fs)) first rest
      (by_answer (λ (xs : List Derivation). All (IsJustified s (bounds_of s.program fs)) xs) q s fs (TimeOf t) first tries
      (All-nil (IsJustified s (bounds_of s.program fs)))
      (λ open_now a is_answer. time_justified t (rules t (or_left (t == t) (is_in t ts) (same_number t))) a is_answer))
      (times_justified ts (λ u m. rules u (or_right (u == t) (is_in u ts) m)) rest later))

  -- the rules of these derivations ascend, if those that are queried do
  times_ascend : (n : ℕ) (ts : List ℕ) → AscendFrom n ts → (times : List Derivation)
      → TriesAll q s Together fs (map TimeOf ts) times → RulesAscend n times
  times_ascend n [] up times none = subst (λ (xs : List Derivation). RulesAscend n xs) (sym none) tt
  times_ascend n (t ∷ ts) up times (first, tries, (rest, e, later)) =
      subst (λ (xs : List Derivation). RulesAscend n xs) (sym e) (go (times_ascend (suc t) ts up.1 rest later))
    where
      go : RulesAscend (suc t) rest → RulesAscend n (first ++ rest)
      go ih =
          by_answer (λ (xs : List Derivation). RulesAscend n (xs ++ rest)) q s fs (TimeOf t) first tries skipped
          (λ open_now a is_answer. answer a)
        where
          skipped : RulesAscend n rest
          skipped = let low = up.0 in rules_lower n (suc t) rest (omega (arith, low)) ih

          answer : (a : Answer) → RulesAscend n (derivations_by (TimeOf t) a ++ rest)
          answer (Found node premises bound) = (t, up.0, time_of_rule t, ih)
          answer (Lacks why) = skipped

  -- the keys of these derivations are unknown before
  times_fresh : (ts : List ℕ) (times : List Derivation) → TriesAll q s Together fs (map TimeOf ts) times
      → AllFresh (bounds_of s.program fs) times
  times_fresh [] times none =
      subst (λ (xs : List Derivation). AllFresh (bounds_of s.program fs) xs) (sym none)
      (All-nil (λ (f : Derivation). AreFresh (bounds_of s.program fs) f.keys))
  times_fresh (t ∷ ts) times (first, tries, (rest, e, later)) =
      subst (λ (xs : List Derivation). AllFresh (bounds_of s.program fs) xs) (sym e)
      (All-append (λ (f : Derivation). AreFresh (bounds_of s.program fs) f.keys) first rest
      (by_answer (λ (xs : List Derivation). AllFresh (bounds_of s.program fs) xs) q s fs (TimeOf t) first tries
      (All-nil (λ (f : Derivation). AreFresh (bounds_of s.program fs) f.keys)) answer)
      (times_fresh ts rest later))
    where
      answer : is_open (bounds_of s.program fs) (TimeOf t) ≡ true → (a : Answer)
          → AnswersTime q s (bounds_of s.program fs) t a
          → AllFresh (bounds_of s.program fs) (derivations_by (TimeOf t) a)
      answer open_now (Found node premises bound) is_answer =
          All-cons (λ (f : Derivation). AreFresh (bounds_of s.program fs) f.keys) (record {
            keys = time_key t ∷ [];
            node = node;
            premises = premises;
            bound = bound;
          }) []
          (All-cons (λ (k : ResultVariable). at_key (bounds_of s.program fs) k ≡ None) (time_key t) []
          (open_time (bounds_of s.program fs) t open_now)
          (All-nil (λ (k : ResultVariable). at_key (bounds_of s.program fs) k ≡ None)))
          (All-nil (λ (f : Derivation). AreFresh (bounds_of s.program fs) f.keys))
      answer open_now (Lacks why) is_answer = All-nil (λ (f : Derivation). AreFresh (bounds_of s.program fs) f.keys)

  -- the times of a round are justified after the earlier derivations
  pub round_times_justified : (times : List Derivation)
      → TriesAll q s Together fs (map TimeOf (rule_numbers s.program)) times → AreJustifiedAfter s fs times
  round_times_justified times h =
      justified_over s fs fs times (begins_itself fs)
      (times_justified (rule_numbers s.program) (λ t m. in_rules s.program t m) times h)
      (fresh_by_rules s.program times 1 fs
      (times_ascend 1 (rule_numbers s.program) (range_ascends 1 (length s.program.rules)) times h)
      (times_fresh (rule_numbers s.program) times h))
