-- Of several rules the first whose linear program for a point exceeds a limit of pivots.
use Rattle.std.proofs.Common.{◌≡◌, inl, inr, ℕ, List, [], ◌∷◌, refl, subst}
use Rattle.std.specs.Prelude.{pos}
use Rattle.model.proofs.Cases.{none_some}
use Rattle.its_model.specs.linear_forms.Causes.{budget, cause_of}
use Rattle.its_model.specs.linear_forms.Questions.{program_of_question}
use Rattle.guard_prep.specs.Prepared.{prepared}
use Rattle.guard_prep.specs.Tightening.{divisor_of}
use Rattle.simplex_core.specs.Tableau.{first_tableau, equation, cost, pivot}
use Rattle.simplex_core.specs.HitsLimit.{IsScaledDual, HitsLimit}
use Rattle.cert_types.specs.declared.answer.Question.TheVariants as asked
use Rattle.cert_types.specs.declared.answer.LimitHit.{LimitHit}
use Rattle.cert_types.specs.cert_rules.Gaps.{SymbolPlace}
use Rattle.cert_types.specs.cert_rules.WorkedSettings.{enter, stay, stuck}
use Rattle.rank_search.specs.RankAnswers.{rank_program}
use Rattle.rank_search.specs.rule_questions.EmptyAnswers.{empty_program}
use Rattle.rank_search.specs.rule_questions.ProgramQuestions.{ranked_set}
use Rattle.rank_search.specs.rule_questions.Programs.{NothingHitsLimit}
use Rattle.bound_fixpoint.specs.Sets.{AreShutOf}
use Rattle.bound_fixpoint.proofs.Cases.{either}
use Rattle.bound_fixpoint.proofs.OneOrder.{sets_one, shut_one}
use Rattle.time_bounds.specs.TimeWhys.{FirstHitsLimitSo, RankHitsLimitSo}
use Rattle.time_bounds.specs.ProgramRules.{EmptyHitsLimitSo}
use Rattle.time_bounds.proofs.FreeValue.{of_rule}
use Rattle.worked_reasons.specs.FirstHitsLimit.{FirstHitsLimitAreWorkedOut}
use Rattle.worked_reasons.specs.Programs.{limit_hit_at, squares}
use Rattle.worked_reasons.specs.Squares.{squares_said}
use Rattle.worked_reasons.proofs.Runs.{budget_run}
use Rattle.worked_reasons.proofs.SquareTimes.{first_sought, first_hits_limit}
use Rattle.worked_reasons.proofs.HitsLimit.{squaring_hits_limit}
use Rattle.worked_reasons.proofs.WholeEnds.{dual_run, dual_hits_no_limit}

-- the first of both rules is reported
not_second : FirstHitsLimitSo squares 0 (1 ∷ 2 ∷ []) (limit_hit_at 0 (asked.Empty 2)) → ⊥
not_second (inl h) = let e = h.hits_limit.0 in (let none : ⊥ = cc in none)
not_second (inr h) = h.0 (limit_hit_at 0 (asked.Empty 1)) (squaring_hits_limit 1 0 refl)

-- a rule without rows has a point, within no pivots
no_rows : IsScaledDual (empty_program (prepared enter)) 0 (pos 1 ∷ pos 1 ∷ []) 1
unfolding program_of_question first_tableau equation cost pivot
no_rows = dual_run (empty_program (prepared enter)) 0 0 (pos 1 ∷ pos 1 ∷ []) refl

enter_passes_none : (x : LimitHit) → EmptyHitsLimitSo stuck.program 0 1 x → ⊥
enter_passes_none x h =
    dual_hits_no_limit (empty_program (prepared enter)) 0 (pos 1 ∷ pos 1 ∷ []) 1 no_rows (cause_of x.cause)
    (of_rule (λ r. HitsLimit (empty_program (prepared r)) 0 (cause_of x.cause)) enter h.rule h.numbered h.hits_limit.1)

-- the linear program for a point where A >= 1 and A <= 0 needs a pivot
stay_hits_limit : HitsLimit (empty_program (prepared stay)) 0 (budget 0)
unfolding program_of_question first_tableau equation cost pivot divisor_of
stay_hits_limit = budget_run (empty_program (prepared stay)) 0 refl refl

behind_point : FirstHitsLimitSo stuck.program 0 (1 ∷ 2 ∷ []) (limit_hit_at 0 (asked.Empty 2))
behind_point = inr (enter_passes_none, inl (record { rule = stay; numbered = refl; hits_limit = (refl, stay_hits_limit) }))

-- the question of a function that ranks the rule comes before those of points
own_first : RankHitsLimitSo squares 0 squares_said 1 (limit_hit_at 0 (asked.Empty 1)) → ⊥
own_first h =
    either h.hits_limit (λ own. let e = own.question in (let none : ⊥ = cc in none))
    (λ points. hits_limit_itself h.set h.shut set shut points.hits_no_limit)
  where
    set : h.set ≡ 1 ∷ []
    set = sets_one squares squares_said 1 h.set (1 ∷ []) h.sought.is_set first_sought.is_set

    shut : h.shut ≡ []
    shut = shut_one squares squares_said (1 ∷ []) h.shut []
        (subst (λ (s : List ℕ). AreShutOf squares squares_said s h.shut) set h.sought.are_shut) first_sought.are_shut

    hits_limit_itself : (xs : List ℕ) (ys : List SymbolPlace) → xs ≡ 1 ∷ [] → ys ≡ []
        → NothingHitsLimit (rank_program (ranked_set squares xs 1 ys)) 0 → ⊥
    hits_limit_itself xs ys e f none =
        (subst (λ (zs : List SymbolPlace). NothingHitsLimit (rank_program (ranked_set squares (1 ∷ []) 1 zs)) 0) f
        (subst (λ (zs : List ℕ). NothingHitsLimit (rank_program (ranked_set squares zs 1 ys)) 0) e none)).each (budget 0)
        first_hits_limit

pub first_hits_limit_worked : FirstHitsLimitAreWorkedOut
first_hits_limit_worked = record {
  first = inl (squaring_hits_limit 1 0 refl);
  not_second = not_second;
  behind_none = inr ((λ x h. none_some h.rule h.numbered), inl (squaring_hits_limit 2 1 refl));
  behind_point = behind_point;
  own_first = own_first;
}
