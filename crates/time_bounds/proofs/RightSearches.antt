-- The answers of the searches on the rules of a valid program are right.
use Rattle.its_model.specs.linear_forms.Causes.{cause_of}
use Rattle.rank_search.proofs.rule_questions.Exact.{nodes-accepted as empty_nodes-accepted}
use Rattle.std.proofs.Common.{◌≡◌, inl, inr, ℕ, zero, suc, ◌==◌, Bool, true, false, List, [], ◌∷◌, map, Option, Some}
use Rattle.std.proofs.Common.{None, refl, sym, ◌∙◌, ap, subst, arith}
use Rattle.std.specs.Prelude.{pos}
use Rattle.std.specs.List.{Contains}
use Rattle.std.proofs.lemmas.Bool.{or_left, or_right}
use Rattle.std.proofs.lemmas.List.Elements.{All-contains_itself, All-weaker}
use Rattle.model.specs.Programs.{Program, Rule, rule_at}
use Rattle.model.specs.Entries.{is_in}
use Rattle.model.proofs.Membership.{same_number, same_number-sound, no_is_not_yes, is_in-cases, is_in-contained}
use Rattle.model.proofs.Membership.{slice_get-below}
use Rattle.its_model.specs.Valid.{IsValid}
use Rattle.its_model.specs.linear_forms.Forms.{at}
use Rattle.its_model.specs.linear_forms.Points.{IsPoint}
use Rattle.its_model.specs.linear_forms.RuleQuestions.{symbols_of_set}
use Rattle.cert_types.specs.rule_forms.Ranking.{Function}
use Rattle.guard_prep.specs.Prepared.{prepared}
use Rattle.cert_types.specs.cert_rules.Composed.{rank_form}
use Rattle.cert_types.specs.cert_rules.Gaps.{ScaledPoint, SymbolPlace}
use Rattle.cert_types.specs.cert_rules.Nodes.{SymbolForm}
use Rattle.cert_types.specs.cert_rules.AcceptsPlain.{IsRule}
use Rattle.cert_types.specs.cert_program.Setting.{setting_of, rows_in}
use Rattle.cert_types.specs.declared.answer.LimitHit.{LimitHit}
use Rattle.cert_types.specs.declared.answer.GuardFeasibility.{GuardFeasibility}
use Rattle.cert_types.specs.declared.answer.GuardFeasibility.TheVariants as empties
use Rattle.cert_types.specs.AnswerViews.{scaled_of, gap_of}
use Rattle.cert_types.specs.Views.{rank_of}
use Rattle.rank_search.specs.declared.answer.RankAnswer.{RankAnswer}
use Rattle.rank_search.specs.declared.answer.RankAnswer.TheVariants as ranks
use Rattle.rank_search.specs.rule_questions.ProgramQuestions.{ranked_set}
use Rattle.rank_search.specs.rule_questions.EmptyAnswers.{IsEmptyAnswer, EmptyNodesAreAccepted}
use Rattle.rank_search.specs.RankAnswers.{IsRuleSet, part_at, first_of, first_limit_hit, IsRankAnswer}
use Rattle.rank_search.specs.rule_questions.RuleAnswers.{answer_for, AreEmptyAnswers, limit_hit_in}
use Rattle.rank_search.specs.RankLaws.{function_of_node, RankedNodesRank, RankedNodesAreAccepted, RankAnswersAreExact}
use Rattle.rank_search.proofs.NodeLaws.{nodes-rank}
use Rattle.rank_search.proofs.Accepted.{nodes-accepted}
use Rattle.rank_search.proofs.RankExact.{answers-exact}
use Rattle.rank_search.proofs.DualGaps.{found-holds}
use Rattle.bound_fixpoint.specs.Searches.{Emptiness, NoPoint, HasPoint, EmptyHitLimit, Ranking}
use Rattle.bound_fixpoint.specs.Right.{EmptyHitsLimit, NoneHitsLimit, IsFirstLimitHit, IsRightEmptiness, IsRightRanking}
use Rattle.bound_fixpoint.specs.Right.{IsQuestion}
use Rattle.bound_fixpoint.proofs.Cases.{either}
use Rattle.time_bounds.specs.ProgramRules.{emptiness_of, ranking_of}
use Rattle.time_bounds.specs.ProgramSearches.{searches_of_program}
use Rattle.model.proofs.Cases.{slice_get-there as at_some, some_same as some_limit_hit, none_some as none_limit_hit}

-- if a function has coefficient 0 at a place of a symbol, the form made of it has
zero_at : (f : Function) (a j : ℕ) → at (f a).coefs j ≡ pos 0 → (ss : List ℕ) → at (rank_form (map (part_at f) ss) (Some a)).coefs j ≡ pos 0
zero_at f a j h [] = refl
zero_at f a j h (x ∷ ss) = go (x == a) refl (zero_at f a j h ss)
  where
    go : (v : Bool) → (x == a) ≡ v → at (rank_form (map (part_at f) ss) (Some a)).coefs j ≡ pos 0
        → at (rank_form (map (part_at f) (x ∷ ss)) (Some a)).coefs j ≡ pos 0
    go true e rest = rw e (subst (λ (s : ℕ). at (f s).coefs j ≡ pos 0) (sym (same_number-sound x a e)) h)
    go false e rest = rw e rest

limit_hit_none : (x : LimitHit) → Some x ≡ None → ⊥
limit_hit_none x e = cc

module _ (accepted : EmptyNodesAreAccepted) (functions : RankedNodesRank) (nodes : RankedNodesAreAccepted) (exact : RankAnswersAreExact)
    (p : Program) (pivots : ℕ) (valid : IsValid p) where
  -- each answer on emptiness is right
  empty_right : (t : ℕ) (e : Emptiness) → IsRule p t → (searches_of_program p pivots).Empties t e → IsRightEmptiness (setting_of p) t e
  empty_right t e rule (r, numbered, (a, same, is)) = subst (λ (x : Emptiness). IsRightEmptiness (setting_of p) t x) same (go a is)
    where
      go : (b : GuardFeasibility) → IsEmptyAnswer (prepared r) t pivots b → IsRightEmptiness (setting_of p) t (emptiness_of b)
      go (empties.Empty n) h = accepted.each p t r n numbered h.0
      go (empties.Point z) h =
          subst (λ (o : Option Rule). IsPoint (rows_in o) (at (scaled_of z).parts) (pos (scaled_of z).den)) (sym numbered) h.0.point
      go (empties.OutOfLimits x) h = h.0

  -- the set of a question is a set of rules
  rule_set : (set : List ℕ) (t : ℕ) → IsQuestion p set t → IsRuleSet p set t
  rule_set set t q = record {
    ascending = q.ascending;
    rules = All-weaker (Contains set) (IsRule p) (λ u c. q.rules u (is_in-contained set u c)) set (All-contains_itself set);
    inside = q.inside;
  }

  -- if the answer on a rule isn't a limit hit, its question hits no limit
  no_limit_hit : (t : ℕ) (r : Rule) (a : GuardFeasibility) → rule_at p t ≡ Some r → IsEmptyAnswer (prepared r) t pivots a → limit_hit_in (Some a) ≡ None
      → EmptyHitsLimit (searches_of_program p pivots) t → ⊥
  no_limit_hit t r a numbered is hits_no_limit (x, (s, there, (b, same, other))) = go a b is other hits_no_limit same
    where
      one_rule : (u v : Rule) → Some u ≡ Some v → u ≡ v
      one_rule u v e = cc

      not_empty : (m : List ℕ) → NoPoint m ≡ EmptyHitLimit x → ⊥
      not_empty m e = cc

      no_point : (z : ScaledPoint) → HasPoint z ≡ EmptyHitLimit x → ⊥
      no_point z e = cc

      same_rule : s ≡ r
      same_rule = one_rule s r (sym there ∙ numbered)

      go : (c d : GuardFeasibility) → IsEmptyAnswer (prepared r) t pivots c → IsEmptyAnswer (prepared s) t pivots d → limit_hit_in (Some c) ≡ None
          → emptiness_of d ≡ EmptyHitLimit x → ⊥
      go c (empties.Empty n) h k e f = not_empty n.multipliers.items f
      go c (empties.Point z) h k e f = no_point (scaled_of z) f
      go (empties.Empty n) (empties.OutOfLimits y) h k e f =
          let own = subst (λ (u : Rule). IsEmptyAnswer (prepared u) t pivots (empties.OutOfLimits y)) same_rule k in h.1.each (cause_of y.cause) own.1
      go (empties.Point z) (empties.OutOfLimits y) h k e f =
          let own = subst (λ (u : Rule). IsEmptyAnswer (prepared u) t pivots (empties.OutOfLimits y)) same_rule k in h.1.each (cause_of y.cause) own.1
      go (empties.OutOfLimits w) (empties.OutOfLimits y) h k e f = limit_hit_none w e

  module _ (answers : List GuardFeasibility) (are : AreEmptyAnswers p pivots answers) where
    -- each rule has its answer
    answered : (t : ℕ) → IsRule p t → (a : GuardFeasibility) × (answer_for answers t ≡ Some a)
    answered zero rule = absurd (none rule.numbered)
      where
        none : None ≡ Some rule.rule → ⊥
        none e = cc
    answered (suc k) rule = at_some answers k (omega (arith, slice_get-below p.rules k rule.rule rule.numbered, are.one_each))

    -- if the search finds no rule of a set whose question hits a limit, no question hits one
    none_hits_limit : (ts : List ℕ) → ((u : ℕ) → is_in u ts ≡ true → IsRule p u) → first_limit_hit answers ts ≡ None
        → NoneHitsLimit (searches_of_program p pivots) ts
    none_hits_limit [] rules e u m hits_limit = no_is_not_yes false refl m
    none_hits_limit (t ∷ ts) rules e u m hits_limit =
        either (is_in-cases u t ts m) (λ same. here (subst (λ (n : ℕ). EmptyHitsLimit (searches_of_program p pivots) n) same hits_limit))
        (λ later. none_hits_limit ts (λ v k. rules v (or_right (v == t) (is_in v ts) k)) (rest (answered t rule).0 (answered t rule).1) u later hits_limit)
      where
        rule : IsRule p t
        rule = rules t (or_left (t == t) (is_in t ts) (same_number t))

        rest : (a : GuardFeasibility) → answer_for answers t ≡ Some a → first_limit_hit answers ts ≡ None
        rest a same = by a (rw same at e)
          where
            by : (b : GuardFeasibility) → first_of (limit_hit_in (Some b)) (first_limit_hit answers ts) ≡ None → first_limit_hit answers ts ≡ None
            by (empties.Empty n) h = h
            by (empties.Point z) h = h
            by (empties.OutOfLimits x) h = absurd (limit_hit_none x h)

        here : EmptyHitsLimit (searches_of_program p pivots) t → ⊥
        here x =
            let a = answered t rule in
            no_limit_hit t rule.rule a.0 rule.numbered (are.each t rule.rule a.0 rule.numbered a.1) (by a.0 (rw a.1 at e)) x
          where
            by : (b : GuardFeasibility) → first_of (limit_hit_in (Some b)) (first_limit_hit answers ts) ≡ None → limit_hit_in (Some b) ≡ None
            by (empties.Empty n) h = refl
            by (empties.Point z) h = refl
            by (empties.OutOfLimits y) h = h

    -- the limit hit that is reported is that of the first rule whose question hits one
    pub first_limit_hit_of : (x : LimitHit) (ts : List ℕ) → ((u : ℕ) → is_in u ts ≡ true → IsRule p u) → first_limit_hit answers ts ≡ Some x
        → IsFirstLimitHit (searches_of_program p pivots) ts x
    first_limit_hit_of x [] rules e = absurd (none_limit_hit x e)
    first_limit_hit_of x (t ∷ ts) rules e =
        go (answered t rule).0 (answered t rule).1 (first_limit_hit_of x ts (λ v k. rules v (or_right (v == t) (is_in v ts) k)))
      where
        rule : IsRule p t
        rule = rules t (or_left (t == t) (is_in t ts) (same_number t))

        go : (a : GuardFeasibility) → answer_for answers t ≡ Some a
            → (first_limit_hit answers ts ≡ Some x → IsFirstLimitHit (searches_of_program p pivots) ts x)
            → IsFirstLimitHit (searches_of_program p pivots) (t ∷ ts) x
        go a same later = by a (are.each t rule.rule a rule.numbered same) (rw same at e)
          where
            by : (b : GuardFeasibility) → IsEmptyAnswer (prepared rule.rule) t pivots b → first_of (limit_hit_in (Some b)) (first_limit_hit answers ts) ≡ Some x
                → IsFirstLimitHit (searches_of_program p pivots) (t ∷ ts) x
            by (empties.Empty n) is h = inr (no_limit_hit t rule.rule (empties.Empty n) rule.numbered is refl, later h)
            by (empties.Point z) is h = inr (no_limit_hit t rule.rule (empties.Point z) rule.numbered is refl, later h)
            by (empties.OutOfLimits y) is h =
                inl (rule.rule, rule.numbered, (empties.OutOfLimits y, ap (λ (w : LimitHit). EmptyHitLimit w) (some_limit_hit y x h), is))

    -- each answer to the rank question of this set is right
    rank_right : (set : List ℕ) (t : ℕ) (shut : List SymbolPlace) → IsQuestion p set t → (a : RankAnswer)
        → IsRankAnswer (ranked_set p set t shut) shut pivots answers a
        → IsRightRanking (searches_of_program p pivots) (setting_of p) set t shut (ranking_of a)
    rank_right set t shut q (ranks.Ranked node) h =
        let shown = nodes.shown p set t shut pivots (rank_of node) valid (rule_set set t q) h.0 in
        record {
          rule = h.0.numbered;
          same_set = h.0.same_set;
          shape = shown.shape;
          moves = shown.moves;
          floor = shown.floor;
          reads = λ a j closed.
              subst (λ (fs : List SymbolForm). at (rank_form fs (Some a)).coefs j ≡ pos 0) (sym h.0.forms)
              (zero_at (function_of_node (ranked_set p set t shut) pivots (rank_of node) h.0) a j
              ((functions.fits (ranked_set p set t shut) pivots (rank_of node) h.0).closed a j closed) (symbols_of_set (ranked_set p set t shut)));
        }
    rank_right set t shut q (ranks.NoRank gap) h =
        let none = (exact.none p set t shut pivots answers (ranks.NoRank gap) valid (rule_set set t q) are h).0 tt in (
          record {
            rule = h.0.numbered;
            same_set = h.0.same_set;
            same_shut = h.0.same_shut;
            holds = found-holds p set t shut pivots answers valid (rule_set set t q) are (gap_of gap) h.0;
            none = none.0;
          },
          none_hits_limit set q.rules h.1,
        )
    rank_right set t shut q (ranks.OutOfLimits x) (inl own) = inl own.question
    rank_right set t shut q (ranks.OutOfLimits x) (inr first) = inr (first_limit_hit_of x set q.rules first.first)

  -- each answer to a rank question is right
  pub rankings_right : (set : List ℕ) (t : ℕ) (shut : List SymbolPlace) (r : Ranking) → IsQuestion p set t
      → (searches_of_program p pivots).Ranks set t shut r → IsRightRanking (searches_of_program p pivots) (setting_of p) set t shut r
  rankings_right set t shut r q (answers, are, (a, same, is)) =
      subst (λ (x : Ranking). IsRightRanking (searches_of_program p pivots) (setting_of p) set t shut x) same
      (rank_right answers are set t shut q a is)

-- each answer on emptiness for a valid program is right
pub emptiness_right : (p : Program) (pivots : ℕ) → IsValid p → (t : ℕ) (e : Emptiness) → IsRule p t
    → (searches_of_program p pivots).Empties t e → IsRightEmptiness (setting_of p) t e
emptiness_right p pivots valid t e rule h =
    empty_right empty_nodes-accepted nodes-rank nodes-accepted answers-exact p pivots valid t e rule h

-- each answer to a rank question for a valid program is right
pub ranking_right : (p : Program) (pivots : ℕ) → IsValid p → (set : List ℕ) (t : ℕ) (shut : List SymbolPlace) (r : Ranking)
    → IsQuestion p set t → (searches_of_program p pivots).Ranks set t shut r
    → IsRightRanking (searches_of_program p pivots) (setting_of p) set t shut r
ranking_right p pivots valid set t shut r q h =
    rankings_right empty_nodes-accepted nodes-rank nodes-accepted answers-exact p pivots valid set t shut r q h
