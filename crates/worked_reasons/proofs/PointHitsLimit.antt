-- Limits that the linear program for a point exceeds, if no function and no form is found.
use Rattle.std.proofs.Common.{◌≡◌, inl, inr, ℕ, zero, suc, ◌≤◌, true, false, List, [], ◌∷◌, None, refl, sym, subst, arith}
use Rattle.std.specs.Prelude.{ℤ, pos, negsuc}
use Rattle.model.specs.Bounds.{Input}
use Rattle.model.specs.Entries.{is_in}
use Rattle.model.specs.Paths.{IsInSet, LeadsBackTo, Here}
use Rattle.model.specs.Programs.{arity_of}
use Rattle.model.proofs.Cases.{none_some, some_none, some_same}
use Rattle.model.proofs.Membership.{no_is_not_yes}
use Rattle.its_model.specs.linear_forms.Causes.{budget}
use Rattle.its_model.specs.linear_forms.Forms.{at}
use Rattle.its_model.specs.linear_forms.Questions.{listed, program_of_question}
use Rattle.its_model.specs.linear_forms.RuleQuestions.{RankedSet}
use Rattle.guard_prep.specs.Prepared.{prepared}
use Rattle.guard_prep.specs.Tightening.{divisor_of}
use Rattle.simplex_core.specs.Tableau.{first_tableau, equation, cost, pivot}
use Rattle.simplex_core.specs.Bland.{tableau_at}
use Rattle.simplex_core.specs.HitsLimit.{IsScaledDual, HitsLimit}
use Rattle.simplex_core.proofs.Certificates.{dual-excludes}
use Rattle.cert_types.specs.rule_forms.Kinds.{Kind, Number, Affine}
use Rattle.cert_types.specs.declared.answer.Question.TheVariants as asked
use Rattle.cert_types.specs.cert_rules.AcceptsSizes.{Side, Up, Low}
use Rattle.cert_types.specs.cert_rules.Gaps.{SymbolPlace}
use Rattle.cert_types.proofs.cert_rules.CheckLists.{of_one, of_two}
use Rattle.rank_search.specs.RankAnswers.{rank_program}
use Rattle.rank_search.specs.rule_questions.EmptyAnswers.{empty_program}
use Rattle.rank_search.specs.rule_questions.ProgramQuestions.{ranked_set}
use Rattle.local_size.specs.LocalAnswers.{SideHasResult}
use Rattle.local_size.specs.Places.{local_forms, value_on}
use Rattle.local_size.specs.Sides.{NoneFound, HasResult}
use Rattle.bound_fixpoint.specs.Keys.{IsPlace, is_untimed}
use Rattle.bound_fixpoint.specs.Sets.{IsSetOfRule, IsShut}
use Rattle.bound_fixpoint.proofs.Cases.{either}
use Rattle.bound_fixpoint.proofs.ListMembers.{contains-none}
use Rattle.bound_fixpoint.proofs.OneOrder.{sets_one}
use Rattle.time_bounds.specs.ProgramRules.{EmptyHitsLimitSo}
use Rattle.time_bounds.specs.SizeWhys.{PlaceHitsLimitSo}
use Rattle.time_bounds.specs.TimeWhys.{FirstHitsLimitSo, IsSought, RankHitsLimitSo}
use Rattle.time_bounds.proofs.FreeValue.{of_rule}
use Rattle.worked_reasons.specs.PointHitsLimit.{resetting_rule, resetting, resetting_said, choosing_rule, choosing}
use Rattle.worked_reasons.specs.PointHitsLimit.{PointHitsLimitAreWorkedOut}
use Rattle.worked_reasons.specs.Programs.{limit_hit_at}
use Rattle.worked_reasons.proofs.DoubleRuns.{asked_of}
use Rattle.worked_reasons.proofs.Runs.{budget_run, no_budget, is_there}
use Rattle.worked_reasons.proofs.WholeEnds.{dual_run, dual_hits_no_limit}

-- both rules stay at the start symbol, so the set of the second one is both
both_set : IsSetOfRule resetting resetting_said 2 (1 ∷ 2 ∷ [])
both_set = record { ascending = (omega arith, tt); members = λ e. (onward e, back e) }
  where
    first_leads : IsInSet resetting (is_untimed resetting_said) 2 1
    first_leads = inr (record { untimed = refl; from = 0; leads = refl; to = 0; leaves = refl; path = Here refl })

    onward : (e : ℕ) → is_in e (1 ∷ 2 ∷ []) ≡ true → IsInSet resetting (is_untimed resetting_said) 2 e
    onward e m = of_two (λ n. IsInSet resetting (is_untimed resetting_said) 2 n) 1 2 first_leads (inl refl) e m

    leading : (e : ℕ) → LeadsBackTo resetting (is_untimed resetting_said) 2 e → is_in e (1 ∷ 2 ∷ []) ≡ true
    leading zero h = absurd (no_is_not_yes false refl h.untimed)
    leading (suc zero) h = refl
    leading (suc (suc zero)) h = refl
    leading (suc (suc (suc k))) h = absurd (none_some h.from h.leads)

    back : (e : ℕ) → IsInSet resetting (is_untimed resetting_said) 2 e → is_in e (1 ∷ 2 ∷ []) ≡ true
    back e (inl same) = subst (λ (n : ℕ). is_in n (1 ∷ 2 ∷ []) ≡ true) (sym same) refl
    back e (inr h) = leading e h

-- the virtual entry, the only entry of the set, has a size at its only place
one_place : (i : ℕ) → IsPlace resetting 0 i → i ≡ 1
one_place i place =
    let last : i ≤ 1 = subst (λ (a : ℕ). i ≤ arity_of resetting a) (sym (some_same 0 place.symbol place.target)) place.last in
    omega (arith, place.least, last)

keeps_open : (i : ℕ) → IsPlace resetting 0 i → resetting_said 0 i ≡ None → ⊥
keeps_open i place missing =
    some_none (Input 0) (subst (λ (n : ℕ). resetting_said 0 n ≡ None) (one_place i place) missing)

none_shut : (s : SymbolPlace) → IsShut resetting resetting_said (1 ∷ 2 ∷ []) s → ⊥
none_shut s h =
    of_one (λ e. IsPlace resetting e s.place → resetting_said e s.place ≡ None → ⊥) 0 (keeps_open s.place) h.entry h.enters
    h.place h.missing

sought : IsSought resetting resetting_said 2 (1 ∷ 2 ∷ []) []
sought = record {
  is_set = both_set;
  are_shut = record {
    order = tt;
    places = λ s. ((λ m. absurd (contains-none s m)), λ h. absurd (none_shut s h));
  };
}

-- the rank question of the second rule over both
abbrev both : RankedSet
both = ranked_set resetting (1 ∷ 2 ∷ []) 2 []

abbrev numbers : List ℤ
numbers = negsuc 1 ∷ pos 1 ∷ pos 1 ∷ pos 1 ∷ pos 1 ∷ pos 0 ∷ []

no_function : IsScaledDual (rank_program both) 2 numbers 1
unfolding program_of_question first_tableau equation cost pivot divisor_of
no_function = dual_run (rank_program both) 2 2 numbers refl

-- the linear program for a point of the first rule exceeds the limit
point_hits_limit : HitsLimit (empty_program (prepared resetting_rule)) 2 (budget 2)
unfolding program_of_question first_tableau equation cost pivot divisor_of
point_hits_limit = budget_run (empty_program (prepared resetting_rule)) 2 refl refl

point_ends : is_there (tableau_at (empty_program (prepared resetting_rule)) 4) ≡ false
unfolding program_of_question first_tableau equation cost pivot divisor_of
point_ends = refl

first_hits_limit : EmptyHitsLimitSo resetting 2 1 (limit_hit_at 2 (asked.Empty 1))
first_hits_limit = record { rule = resetting_rule; numbered = refl; hits_limit = (refl, point_hits_limit) }

set_is : (set : List ℕ) (shut : List SymbolPlace) → IsSought resetting resetting_said 2 set shut → set ≡ 1 ∷ 2 ∷ []
set_is set shut h = sets_one resetting resetting_said 2 set (1 ∷ 2 ∷ []) h.is_set both_set

rank : RankHitsLimitSo resetting 2 resetting_said 2 (limit_hit_at 2 (asked.Empty 1))
rank = record {
  set = 1 ∷ 2 ∷ [];
  shut = [];
  sought = sought;
  hits_limit = inr record {
    hits_no_limit = record { each = dual_hits_no_limit (rank_program both) 2 numbers 1 no_function };
    unsolved = dual-excludes (rank_program both) (at numbers) no_function.certified;
    first = inl first_hits_limit;
  };
}

other_rule : RankHitsLimitSo resetting 2 resetting_said 2 (limit_hit_at 2 (asked.Empty 2)) → ⊥
other_rule h =
    either h.hits_limit (λ own. let e = own.question in (let none : ⊥ = cc in none))
    (λ points. not_second
    (subst (λ (ts : List ℕ). FirstHitsLimitSo resetting 2 ts (limit_hit_at 2 (asked.Empty 2))) (set_is h.set h.shut h.sought)
    points.first))
  where
    not_second : FirstHitsLimitSo resetting 2 (1 ∷ 2 ∷ []) (limit_hit_at 2 (asked.Empty 2)) → ⊥
    not_second (inl f) = let e = f.hits_limit.0 in (let none : ⊥ = cc in none)
    not_second (inr f) = f.0 (limit_hit_at 2 (asked.Empty 1)) first_hits_limit

enough : RankHitsLimitSo resetting 3 resetting_said 2 (limit_hit_at 3 (asked.Empty 1)) → ⊥
enough h =
    either h.hits_limit (λ own. let e = own.question in (let none : ⊥ = cc in none))
    (λ points. no_first
    (subst (λ (ts : List ℕ). FirstHitsLimitSo resetting 3 ts (limit_hit_at 3 (asked.Empty 1))) (set_is h.set h.shut h.sought)
    points.first))
  where
    no_first : FirstHitsLimitSo resetting 3 (1 ∷ 2 ∷ []) (limit_hit_at 3 (asked.Empty 1)) → ⊥
    no_first (inl f) =
        no_budget (empty_program (prepared resetting_rule)) 3 3 point_ends
        (of_rule (λ r. HitsLimit (empty_program (prepared r)) 3 (budget 3)) resetting_rule f.rule f.numbered f.hits_limit.1)
    no_first (inr (none, inl f)) = let e = f.hits_limit.0 in (let never : ⊥ = cc in never)
    no_first (inr (none, inr (last, f))) = f

-- no constant bounds the chosen value, nor its negation
up_ends : IsScaledDual (asked_of choosing_rule Up Number) 2 (pos 0 ∷ pos 1 ∷ pos 0 ∷ []) 1
unfolding program_of_question first_tableau equation cost pivot divisor_of
up_ends = dual_run (asked_of choosing_rule Up Number) 2 2 (pos 0 ∷ pos 1 ∷ pos 0 ∷ []) refl

any_up_ends : IsScaledDual (asked_of choosing_rule Up Affine) 2 (pos 0 ∷ pos 1 ∷ pos 0 ∷ []) 1
unfolding program_of_question first_tableau equation cost pivot divisor_of
any_up_ends = dual_run (asked_of choosing_rule Up Affine) 2 2 (pos 0 ∷ pos 1 ∷ pos 0 ∷ []) refl

low_ends : IsScaledDual (asked_of choosing_rule Low Number) 2 (pos 0 ∷ negsuc 0 ∷ pos 0 ∷ []) 1
unfolding program_of_question first_tableau equation cost pivot divisor_of
low_ends = dual_run (asked_of choosing_rule Low Number) 2 2 (pos 0 ∷ negsuc 0 ∷ pos 0 ∷ []) refl

any_low_ends : IsScaledDual (asked_of choosing_rule Low Affine) 2 (pos 0 ∷ negsuc 0 ∷ pos 0 ∷ []) 1
unfolding program_of_question first_tableau equation cost pivot divisor_of
any_low_ends = dual_run (asked_of choosing_rule Low Affine) 2 2 (pos 0 ∷ negsuc 0 ∷ pos 0 ∷ []) refl

none_by : (side : Side) (kind : Kind) (zs : List ℤ) → IsScaledDual (asked_of choosing_rule side kind) 2 zs 1
    → HasResult (local_forms (prepared choosing_rule)) (value_on side (prepared choosing_rule) 1) 2 kind
    (NoneFound (listed (local_forms (prepared choosing_rule)).unknowns (at zs)))
none_by side kind zs dual = (zs, (1, dual, refl))

abbrev ray_by : List ℤ → List ℤ
ray_by zs = listed (local_forms (prepared choosing_rule)).unknowns (at zs)

no_up : SideHasResult (prepared choosing_rule) 1 2 Up (NoneFound (ray_by (pos 0 ∷ pos 1 ∷ pos 0 ∷ [])))
no_up = inr (
  (ray_by (pos 0 ∷ pos 1 ∷ pos 0 ∷ []), none_by Up Number (pos 0 ∷ pos 1 ∷ pos 0 ∷ []) up_ends),
  none_by Up Affine (pos 0 ∷ pos 1 ∷ pos 0 ∷ []) any_up_ends,
)

no_low : SideHasResult (prepared choosing_rule) 1 2 Low (NoneFound (ray_by (pos 0 ∷ negsuc 0 ∷ pos 0 ∷ [])))
no_low = inr (
  (ray_by (pos 0 ∷ negsuc 0 ∷ pos 0 ∷ []), none_by Low Number (pos 0 ∷ negsuc 0 ∷ pos 0 ∷ []) low_ends),
  none_by Low Affine (pos 0 ∷ negsuc 0 ∷ pos 0 ∷ []) any_low_ends,
)

-- the linear program for a point of the rule that chooses exceeds the limit
choosing_hits_limit : HitsLimit (empty_program (prepared choosing_rule)) 2 (budget 2)
unfolding program_of_question first_tableau equation cost pivot divisor_of
choosing_hits_limit = budget_run (empty_program (prepared choosing_rule)) 2 refl refl

choosing_ends : is_there (tableau_at (empty_program (prepared choosing_rule)) 4) ≡ false
unfolding program_of_question first_tableau equation cost pivot divisor_of
choosing_ends = refl

size : PlaceHitsLimitSo choosing 2 1 1 (limit_hit_at 2 (asked.Empty 1))
size = record {
  rule = choosing_rule;
  numbered = refl;
  hits_limit = inr record {
    side = Up;
    ray = ray_by (pos 0 ∷ pos 1 ∷ pos 0 ∷ []);
    lacks = record { not_polynomial = refl; lacks = (no_up, inr (ray_by (pos 0 ∷ negsuc 0 ∷ pos 0 ∷ []), no_low)) };
    hits_limit = record { rule = choosing_rule; numbered = refl; hits_limit = (refl, choosing_hits_limit) };
  };
}

other_size_rule : PlaceHitsLimitSo choosing 2 1 1 (limit_hit_at 2 (asked.Empty 2)) → ⊥
other_size_rule h =
    either h.hits_limit (λ own. let e = own.question in (let none : ⊥ = cc in none))
    (λ point. let e = point.hits_limit.hits_limit.0 in (let none : ⊥ = cc in none))

enough_for_size : PlaceHitsLimitSo choosing 3 1 1 (limit_hit_at 3 (asked.Empty 1)) → ⊥
enough_for_size h =
    either h.hits_limit (λ own. let e = own.question in (let none : ⊥ = cc in none))
    (λ point. no_budget (empty_program (prepared choosing_rule)) 3 3 choosing_ends
    (of_rule (λ r. HitsLimit (empty_program (prepared r)) 3 (budget 3)) choosing_rule point.hits_limit.rule point.hits_limit.numbered
    point.hits_limit.hits_limit.1))

pub point_hits_limit_worked : PointHitsLimitAreWorkedOut
point_hits_limit_worked = record {
  rank = rank;
  other_rule = other_rule;
  enough = enough;
  size = λ b. size;
  other_size_rule = λ b h. other_size_rule h;
  enough_for_size = λ b h. enough_for_size h;
}
