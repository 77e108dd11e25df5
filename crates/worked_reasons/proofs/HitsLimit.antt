-- Which linear programs of small programs exceed a limit of pivots.
use Rattle.std.proofs.Common.{◌≡◌, inl, inr, ℕ, true, false, List, [], ◌∷◌, Some, refl, subst, arith}
use Rattle.model.proofs.Membership.{no_is_not_yes}
use Rattle.model.specs.Programs.{rule_at}
use Rattle.its_model.specs.linear_forms.Causes.{budget}
use Rattle.its_model.specs.linear_forms.Forms.{Form}
use Rattle.its_model.specs.linear_forms.RuleQuestions.{RuleForms}
use Rattle.its_model.specs.linear_forms.Questions.{program_of_question}
use Rattle.guard_prep.specs.Prepared.{prepared}
use Rattle.guard_prep.specs.Tightening.{divisor_of}
use Rattle.simplex_core.specs.Bland.{tableau_at}
use Rattle.simplex_core.specs.Tableau.{first_tableau, equation, cost, pivot}
use Rattle.simplex_core.specs.HitsLimit.{HitsLimit}
use Rattle.cert_types.specs.declared.answer.Question.TheVariants as asked
use Rattle.cert_types.specs.cert_rules.AcceptsSizes.{Up, Low}
use Rattle.cert_types.specs.cert_rules.Gaps.{SymbolPlace}
use Rattle.cert_types.specs.cert_program.WorkedGaps.{looping_rule, looping}
use Rattle.cert_types.specs.rule_forms.Kinds.{Kind, Number}
use Rattle.rank_search.specs.RankAnswers.{IsOwnLimitHit, rank_program}
use Rattle.rank_search.specs.rule_questions.EmptyAnswers.{empty_program}
use Rattle.rank_search.specs.rule_questions.ProgramQuestions.{ranked_set}
use Rattle.local_size.specs.Places.{local_forms, value_on, is_polynomial_at, kinds_of}
use Rattle.local_size.specs.Sides.{kind_program, LimitPassed, SearchHasResult}
use Rattle.bound_fixpoint.specs.Keys.{Bounds}
use Rattle.bound_fixpoint.proofs.Cases.{either}
use Rattle.bound_fixpoint.proofs.OneOrder.{sets_one, shut_one}
use Rattle.bound_fixpoint.specs.Sets.{AreShutOf}
use Rattle.time_bounds.specs.SizeWhys.{PlaceHitsLimitSo}
use Rattle.time_bounds.specs.TimeWhys.{FirstHitsLimitSo, RankHitsLimitSo}
use Rattle.time_bounds.specs.ProgramRules.{EmptyHitsLimitSo}
use Rattle.time_bounds.specs.WorkedReports.{staying_said}
use Rattle.time_bounds.proofs.FreeValue.{of_rule}
use Rattle.time_bounds.proofs.StayingRule.{staying_so}
use Rattle.worked_reasons.specs.Programs.{limit_hit_at, squaring_to, squares}
use Rattle.worked_reasons.specs.HitsLimit.{HitsLimitAreWorkedOut}
use Rattle.worked_reasons.proofs.Runs.{is_there, budget_run, no_budget}

-- the linear program for a function that ranks k(A) -> k(A) exceeds the limit
rank_hits_limit : HitsLimit (rank_program (ranked_set looping (1 ∷ []) 1 [])) 0 (budget 0)
unfolding program_of_question first_tableau equation cost pivot
rank_hits_limit = budget_run (rank_program (ranked_set looping (1 ∷ []) 1 [])) 0 refl refl

-- within 10 pivots its sequence ends
rank_ends : is_there (tableau_at (rank_program (ranked_set looping (1 ∷ []) 1 [])) 11) ≡ false
unfolding program_of_question first_tableau equation cost pivot
rank_ends = refl

-- the linear program for a number that bounds the new value exceeds the limit
number_hits_limit :
    HitsLimit (kind_program (local_forms (prepared looping_rule)) (value_on Up (prepared looping_rule) 1) Number) 0 (budget 0)
unfolding program_of_question first_tableau equation cost pivot
number_hits_limit =
    budget_run (kind_program (local_forms (prepared looping_rule)) (value_on Up (prepared looping_rule) 1) Number) 0 refl
    refl

-- the linear program for a point where A <= 0 exceeds the limit
pub point_hits_limit : (target : ℕ) → HitsLimit (empty_program (prepared (squaring_to target))) 0 (budget 0)
unfolding program_of_question first_tableau equation cost pivot divisor_of
point_hits_limit target = budget_run (empty_program (prepared (squaring_to target))) 0 refl refl

pub squaring_hits_limit : (t target : ℕ) → rule_at squares t ≡ Some (squaring_to target)
    → EmptyHitsLimitSo squares 0 t (limit_hit_at 0 (asked.Empty t))
squaring_hits_limit t target e = record { rule = squaring_to target; numbered = e; hits_limit = (refl, point_hits_limit target) }

-- the linear program for a point without rows doesn't
no_rows_end : ¬ (HitsLimit (empty_program (prepared looping_rule)) 0 (budget 0))
unfolding program_of_question first_tableau equation cost pivot
no_rows_end = no_budget (empty_program (prepared looping_rule)) 0 0 refl

-- the limit hit of a rank question isn't one of a rule's feasibility question
never_first : (pivots limit r : ℕ) (ts : List ℕ) → FirstHitsLimitSo looping pivots ts (limit_hit_at limit (asked.Rank r)) → ⊥
never_first pivots limit r [] h = h
never_first pivots limit r (t ∷ ts) (inl h) = let e = h.hits_limit.0 in (let none : ⊥ = cc in none)
never_first pivots limit r (t ∷ ts) (inr h) = never_first pivots limit r ts h.1

-- the question of a function that ranks rule 2 isn't that of rule 1
other_rank : RankHitsLimitSo looping 0 staying_said 1 (limit_hit_at 0 (asked.Rank 2)) → ⊥
other_rank h =
    either h.hits_limit (λ own. let e = own.question in (let none : ⊥ = cc in none))
    (λ points. never_first 0 0 2 h.set points.first)

-- the question of another rule or place isn't that of this place
other_rule : PlaceHitsLimitSo looping 0 1 1 (limit_hit_at 0 (asked.Local 2 1)) → ⊥
other_rule h =
    either h.hits_limit (λ own. let e = own.question in (let none : ⊥ = cc in none))
    (λ point. let e = point.hits_limit.hits_limit.0 in (let none : ⊥ = cc in none))

other_place : PlaceHitsLimitSo looping 0 1 1 (limit_hit_at 0 (asked.Local 1 2)) → ⊥
other_place h =
    either h.hits_limit (λ own. let e = own.question in (let none : ⊥ = cc in none))
    (λ point. let e = point.hits_limit.hits_limit.0 in (let none : ⊥ = cc in none))

-- a limit of pivots that the questions of a side exceed is the one that they are given
limit_is : (r : RuleForms) (w : Form) (pivots n : ℕ) (kinds : List Kind)
    → SearchHasResult r w pivots kinds (LimitPassed (budget n)) → n ≡ pivots
limit_is r w pivots n [] h = absurd h
limit_is r w pivots n (kind ∷ []) h = h.1
limit_is r w pivots n (kind ∷ next ∷ kinds) (inl h) = h.1.1
limit_is r w pivots n (kind ∷ next ∷ kinds) (inr h) = limit_is r w pivots n (next ∷ kinds) h.1

one_is_not_none : ◌≡◌ {A = ℕ} 1 0 → ⊥
one_is_not_none e = omega (arith, e)

other_size_limit : PlaceHitsLimitSo looping 0 1 1 (limit_hit_at 1 (asked.Local 1 1)) → ⊥
other_size_limit h =
    either h.hits_limit
    (λ own. one_is_not_none
    (either own.first
    (λ up. limit_is (local_forms (prepared h.rule)) (value_on Up (prepared h.rule) 1) 0 1 (kinds_of (prepared h.rule) 1) up)
    (λ low.
    limit_is (local_forms (prepared h.rule)) (value_on Low (prepared h.rule) 1) 0 1 (kinds_of (prepared h.rule) 1) low.1)))
    (λ point. let e = point.hits_limit.hits_limit.0 in (let none : ⊥ = cc in none))

-- the limit is 0, and not 1
other_limit : RankHitsLimitSo looping 0 staying_said 1 (limit_hit_at 1 (asked.Rank 1)) → ⊥
other_limit h =
    either h.hits_limit (λ own. let e : ◌≡◌ {A = ℕ} 1 0 = own.hits_limit.1 in omega (arith, e))
    (λ points. never_first 0 1 1 h.set points.first)

-- 10 pivots suffice
ends_before : RankHitsLimitSo looping 10 staying_said 1 (limit_hit_at 10 (asked.Rank 1)) → ⊥
ends_before h = either h.hits_limit (own h.set h.shut set shut) (λ points. never_first 10 10 1 h.set points.first)
  where
    set : h.set ≡ 1 ∷ []
    set = sets_one looping staying_said 1 h.set (1 ∷ []) h.sought.is_set staying_so.sought.is_set

    shut : h.shut ≡ []
    shut = shut_one looping staying_said (1 ∷ []) h.shut []
        (subst (λ (s : List ℕ). AreShutOf looping staying_said s h.shut) set h.sought.are_shut) staying_so.sought.are_shut

    own : (xs : List ℕ) (ys : List SymbolPlace) → xs ≡ 1 ∷ [] → ys ≡ []
        → IsOwnLimitHit (ranked_set looping xs 1 ys) 10 (limit_hit_at 10 (asked.Rank 1)) → ⊥
    own xs ys e f limit_hit =
        no_budget (rank_program (ranked_set looping (1 ∷ []) 1 [])) 10 10 rank_ends
        (subst (λ (zs : List SymbolPlace). IsOwnLimitHit (ranked_set looping (1 ∷ []) 1 zs) 10 (limit_hit_at 10 (asked.Rank 1))) f
        (subst (λ (zs : List ℕ). IsOwnLimitHit (ranked_set looping zs 1 ys) 10 (limit_hit_at 10 (asked.Rank 1))) e limit_hit)).hits_limit

-- if the update is a polynomial, no linear program is needed
nothing_asked : (b : Bounds) → PlaceHitsLimitSo squares 0 1 1 (limit_hit_at 0 (asked.Local 1 1)) → ⊥
nothing_asked b h =
    no_is_not_yes true
    (of_rule (λ r. is_polynomial_at (prepared r) 1 ≡ false) (squaring_to 0) h.rule h.numbered
    (either h.hits_limit (λ own. own.asked) (λ point. point.lacks.not_polynomial))) refl

pub hits_limit_worked : HitsLimitAreWorkedOut
hits_limit_worked = record {
  time = record {
    set = 1 ∷ [];
    shut = [];
    sought = staying_so.sought;
    hits_limit = inl (record { question = refl; hits_limit = rank_hits_limit });
  };
  other_limit = other_limit;
  other_rank = other_rank;
  enough = ends_before;
  size = λ b. record {
    rule = looping_rule;
    numbered = refl;
    hits_limit = inl (record { asked = refl; question = refl; first = inl (inl (tt, number_hits_limit)) });
  };
  other_rule = λ b h. other_rule h;
  other_place = λ b h. other_place h;
  other_size_limit = λ b h. other_size_limit h;
  nothing_asked = nothing_asked;
  empty = squaring_hits_limit 1 0 refl;
  other_empty = λ h. let e = h.hits_limit.0 in (let none : ⊥ = cc in none);
  other_empty_limit = λ h. one_is_not_none h.hits_limit.1.1;
  second_empty = squaring_hits_limit 2 1 refl;
  at_its_end = λ h. no_rows_end
      (of_rule (λ r. HitsLimit (empty_program (prepared r)) 0 (budget 0)) looping_rule h.rule h.numbered h.hits_limit.1);
}
