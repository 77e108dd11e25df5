-- Answers that are right, and others that aren't.
use Rattle.std.proofs.Common.{◌≡◌, ◌⊎◌, inl, inr, ℕ, suc, ◌≤◌, true, List, [], ◌∷◌, length, refl, sym, ap}
use Rattle.std.proofs.Common.{subst, arith}
use Rattle.std.specs.Prelude.{pos, ◌≤ℤ◌}
use Rattle.std.proofs.lemmas.Int.{ints}
use Rattle.std.proofs.lemmas.List.Elements.{All-nil}
use Rattle.rule_questions.specs.model.Entries.{is_in}
use Rattle.rule_questions.proofs.model.Membership.{is_in-cases}
use Rattle.rule_questions.specs.linear_forms.Forms.{at, form_value}
use Rattle.rule_questions.specs.cert_rules.Gaps.{SymbolPlace}
use Rattle.rule_questions.specs.cert_rules.Nodes.{ResultVariable}
use Rattle.rule_questions.specs.cert_rules.AcceptsPlain.{IsRule}
use Rattle.rule_questions.specs.cert_rules.WorkedSettings.{apart, counting}
use Rattle.rule_questions.specs.cert_rules.Worked.{alone_node}
use Rattle.rule_questions.specs.cert_types.declared.answer.LimitHit.{LimitHit}
use Rattle.rule_questions.specs.cert_types.declared.answer.Question.{Question}
use Rattle.rule_questions.specs.cert_types.declared.answer.Question.TheVariants as asked
use Rattle.rule_questions.proofs.cert_rules.WorkedAccepted.{alone_accepted}
use Rattle.bound_fixpoint.specs.Keys.{Bounds}
use Rattle.bound_fixpoint.specs.Searches.{searches_of, Emptiness, NoPoint, HasPoint, EmptyHitLimit, Ranking, RankHitLimit}
use Rattle.bound_fixpoint.specs.Searches.{SizeOutcome}
use Rattle.bound_fixpoint.specs.Components.{AreComponentsOf}
use Rattle.bound_fixpoint.specs.Right.{ReadsNoShut, EmptyHitsLimit, IsFirstLimitHit}
use Rattle.bound_fixpoint.specs.Right.{AreRight, IsRightEmptiness, IsRightRanking, IsRightSizing, IsQuestion}
use Rattle.bound_fixpoint.specs.WorkedFirst.{no_answers, RightRankingsAreWorkedOut}
use Rattle.bound_fixpoint.specs.WorkedFirst.{limit_hit, hits_limit_as, all_hits_limit, cut_off, RightAnswersAreWorkedOut}
use Rattle.bound_fixpoint.proofs.Cases.{false_true}
use Rattle.bound_fixpoint.proofs.Keys.{has_key-first}
use Rattle.bound_fixpoint.proofs.WorkedComponents as counted
use Rattle.bound_fixpoint.proofs.WorkedFirst.{components}
use Rattle.bound_fixpoint.proofs.WorkedUnreached.{rule_1}

-- each rule has a point, and a limit hit is reported for the rule itself
right : AreRight (searches_of all_hits_limit) apart
right = record { empty = empty; rank = rank; components = parts; sizes = sizes }
  where
    empty : (t : ℕ) (e : Emptiness) → IsRule apart.program t → all_hits_limit.empty t ≡ e → IsRightEmptiness apart t e
    empty t e rule same =
        subst (λ (x : Emptiness). IsRightEmptiness apart t x) same
        (record {
          denominator = omega (arith, ints);
          meets = record { each = All-nil (λ r. pos 0 ≤ℤ form_value r (at []) (pos 1)) };
        })

    rank : (set : List ℕ) (t : ℕ) (shut : List SymbolPlace) (r : Ranking) → IsQuestion apart.program set t
        → all_hits_limit.rank set t shut ≡ r → IsRightRanking (searches_of all_hits_limit) apart set t shut r
    rank set t shut r question same =
        subst (λ (x : Ranking). IsRightRanking (searches_of all_hits_limit) apart set t shut x) same (inl refl)

    parts : (cs : List (List ResultVariable)) → all_hits_limit.components ≡ cs
        → AreComponentsOf (searches_of all_hits_limit) apart.program cs
    parts cs same =
        subst (λ (ds : List (List ResultVariable)). AreComponentsOf (searches_of all_hits_limit) apart.program ds) same
        (components (λ t. t))

    sizes : (b : Bounds) (keys : List ResultVariable) (answer : SizeOutcome) → 1 ≤ length keys → all_hits_limit.size b keys ≡ answer
        → IsRightSizing apart b keys answer
    sizes b [] answer some same = absurd (omega (arith, some))
    sizes b (m ∷ keys) answer some same =
        subst (λ (x : SizeOutcome). IsRightSizing apart b (m ∷ keys) x) same (m, has_key-first m keys, inl refl)

-- a limit hit that is reported for another rule isn't right
not_another : AreRight (searches_of (hits_limit_as suc)) apart → ⊥
not_another h =
    by (h.rank (1 ∷ []) 1 [] (RankHitLimit (limit_hit (asked.Rank 2)))
    (record { ascending = tt; rules = rules; inside = refl }) refl)
  where
    rules : (u : ℕ) → is_in u (1 ∷ []) ≡ true → IsRule apart.program u
    rules u m = go (is_in-cases u 1 [] m)
      where
        go : (u ≡ 1) ⊎ (is_in u [] ≡ true) → IsRule apart.program u
        go (inl e) = subst (λ (n : ℕ). IsRule apart.program n) (sym e) rule_1
        go (inr x) = absurd (false_true x)

    not_own : ◌≡◌ {A = Question} (asked.Rank 2) (asked.Rank 1) → ⊥
    not_own e = let numbers : ◌≡◌ {A = ℕ} 2 1 = cc in omega (arith, numbers)

    not_hit_limit : (x : LimitHit) → HasPoint (record { parts = []; den = 1 }) ≡ EmptyHitLimit x → ⊥
    not_hit_limit x e = cc

    by : IsRightRanking (searches_of (hits_limit_as suc)) apart (1 ∷ []) 1 [] (RankHitLimit (limit_hit (asked.Rank 2))) → ⊥
    by (inl e) = not_own e
    by (inr (inl e)) = not_hit_limit (limit_hit (asked.Rank 2)) e
    by (inr (inr x)) = x.1

-- rule 1 of the program that counts down has no rows, which no multipliers show to be empty
not_empty : AreRight (searches_of cut_off) counting → ⊥
not_empty h =
    let shown = h.empty 1 (NoPoint []) counted.rule_1 refl in
    let sum = shown.empty.constant in omega (arith, ints, sum)

pub right_worked : RightAnswersAreWorkedOut
right_worked = record { right = right; not_another = not_another; not_empty = not_empty }

-- the function that ranks rule 2 over itself alone reads the place of l
reads_place : ReadsNoShut alone_node (record { symbol = 1; place = 1 } ∷ []) → ⊥
reads_place h = let e : pos 1 ≡ pos 0 = h 1 0 refl in omega (arith, ints, e)

limit_hit_of_none : (t : ℕ) → EmptyHitsLimit (searches_of all_hits_limit) t → ⊥
limit_hit_of_none t h = none h.1
  where
    none : {x : LimitHit} → HasPoint (record { parts = []; den = 1 }) ≡ EmptyHitLimit x → ⊥
    none e = cc

hits_limit_one : (x y : LimitHit) → EmptyHitLimit x ≡ EmptyHitLimit y → x ≡ y
hits_limit_one x y e = cc

second_limit_hit : IsFirstLimitHit (searches_of no_answers) (1 ∷ 2 ∷ []) (limit_hit (asked.Empty 2)) → ⊥
second_limit_hit (inl e) = other e
  where
    other : EmptyHitLimit (limit_hit (asked.Empty 1)) ≡ EmptyHitLimit (limit_hit (asked.Empty 2)) → ⊥
    other same =
        let questions : ◌≡◌ {A = Question} (asked.Empty 1) (asked.Empty 2) =
        ap (λ (x : LimitHit). x.question) (hits_limit_one (limit_hit (asked.Empty 1)) (limit_hit (asked.Empty 2)) same) in
        let numbers : ◌≡◌ {A = ℕ} 1 2 = cc in omega (arith, numbers)
second_limit_hit (inr h) = h.0 (limit_hit (asked.Empty 1), refl)

pub rankings_worked : RightRankingsAreWorkedOut
rankings_worked = record {
  ranks = record {
    rule = refl;
    same_set = refl;
    shape = alone_accepted.1.shape;
    moves = alone_accepted.1.moves;
    floor = alone_accepted.1.floor;
    reads = λ a j m. absurd (false_true m);
  };
  not_other_set = λ h. let n : ◌≡◌ {A = ℕ} 1 2 = ap length h.same_set in omega (arith, n);
  not_other_rule = λ h. let n : ◌≡◌ {A = ℕ} 2 1 = h.rule in omega (arith, n);
  not_shut = λ h. reads_place h.reads;
  first_limit_hit = inl refl;
  not_second_limit_hit = second_limit_hit;
  none_hits_limit = λ u m. limit_hit_of_none u;
  some_limit_hit = λ h. h 1 refl (limit_hit (asked.Empty 1), refl);
}
