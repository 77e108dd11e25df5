-- Why the rules that square have no time within no pivots.
use Rattle.std.proofs.Common.{◌≡◌, inl, inr, ℕ, zero, suc, ◌≤◌, true, false, List, [], ◌∷◌, Some, None, refl, sym, ◌∙◌}
use Rattle.std.proofs.Common.{subst, arith}
use Rattle.model.specs.Bounds.{Input}
use Rattle.model.specs.Entries.{is_in}
use Rattle.model.specs.Paths.{IsInSet, LeadsBackTo, HasPath, Here, Onward}
use Rattle.model.specs.Programs.{Rule, arity_of, rule_at}
use Rattle.model.proofs.Cases.{none_some, some_none, some_same}
use Rattle.model.proofs.Membership.{no_is_not_yes}
use Rattle.its_model.specs.linear_forms.Causes.{budget}
use Rattle.its_model.specs.linear_forms.Questions.{program_of_question}
use Rattle.guard_prep.specs.Tightening.{divisor_of}
use Rattle.simplex_core.specs.Tableau.{first_tableau, equation, cost, pivot}
use Rattle.simplex_core.specs.HitsLimit.{HitsLimit}
use Rattle.cert_types.specs.declared.answer.Question.TheVariants as asked
use Rattle.cert_types.specs.cert_rules.Gaps.{SymbolPlace}
use Rattle.cert_types.proofs.cert_rules.CheckLists.{of_one, of_two}
use Rattle.rank_search.specs.RankAnswers.{rank_program}
use Rattle.rank_search.specs.rule_questions.ProgramQuestions.{ranked_set}
use Rattle.bound_fixpoint.specs.Keys.{IsPlace, is_untimed}
use Rattle.bound_fixpoint.specs.Sets.{IsSetOfRule, IsShut, AreShutOf}
use Rattle.bound_fixpoint.proofs.ListMembers.{contains-none}
use Rattle.time_bounds.proofs.FreeValue.{of_rule}
use Rattle.time_bounds.specs.TimeWhys.{IsSought, RankHitsLimitSo}
use Rattle.worked_reasons.specs.Programs.{limit_hit_at, squaring_to, squares}
use Rattle.worked_reasons.specs.Squares.{squares_said}
use Rattle.worked_reasons.proofs.Runs.{budget_run}

-- both rules leave k
leaves_start : (t : ℕ) (r : Rule) → rule_at squares t ≡ Some r → r.source ≡ 0
leaves_start zero r e = absurd (none_some r e)
leaves_start (suc zero) r e = of_rule (λ q. q.source ≡ 0) r (squaring_to 0) (sym e) refl
leaves_start (suc (suc zero)) r e = of_rule (λ q. q.source ≡ 0) r (squaring_to 1) (sym e) refl
leaves_start (suc (suc (suc t))) r e = absurd (none_some r e)

-- no path leads on from l
stays_at_end : (a b : ℕ) → HasPath squares (is_untimed squares_said) a b → a ≡ 1 → b ≡ 1
stays_at_end a b (Here same) e = sym same ∙ e
stays_at_end a b (Onward {b = z} way edge) e =
    absurd (never (sym (leaves_start edge.number edge.rule edge.numbered) ∙ (edge.source ∙ stays_at_end a z way e)))
  where
    never : ◌≡◌ {A = ℕ} 0 1 → ⊥
    never h = omega (arith, h)

-- the second rule doesn't lead back to the first one
no_way_back : LeadsBackTo squares (is_untimed squares_said) 1 2 → ⊥
no_way_back h =
    let from : 1 ≡ h.from = some_same 1 h.from h.leads in
    let to : 0 ≡ h.to = some_same 0 h.to h.leaves in
    let end : h.to ≡ 1 = stays_at_end h.from h.to h.path (sym from) in
    let none : ◌≡◌ {A = ℕ} 0 1 = to ∙ end in
    omega (arith, none)

-- the set of the first rule is the first rule alone
first_set : IsSetOfRule squares squares_said 1 (1 ∷ [])
first_set = record { ascending = tt; members = λ e. (onward e, back e) }
  where
    onward : (e : ℕ) → is_in e (1 ∷ []) ≡ true → IsInSet squares (is_untimed squares_said) 1 e
    onward e m = of_one (λ n. IsInSet squares (is_untimed squares_said) 1 n) 1 (inl refl) e m

    leading : (e : ℕ) → LeadsBackTo squares (is_untimed squares_said) 1 e → is_in e (1 ∷ []) ≡ true
    leading zero h = absurd (no_is_not_yes false refl h.untimed)
    leading (suc zero) h = refl
    leading (suc (suc zero)) h = absurd (no_way_back h)
    leading (suc (suc (suc k))) h = absurd (none_some h.from h.leads)

    back : (e : ℕ) → IsInSet squares (is_untimed squares_said) 1 e → is_in e (1 ∷ []) ≡ true
    back e (inl same) = subst (λ (n : ℕ). is_in n (1 ∷ []) ≡ true) (sym same) refl
    back e (inr h) = leading e h

-- the set of the second rule is both rules
second_set : IsSetOfRule squares squares_said 2 (1 ∷ 2 ∷ [])
second_set = record { ascending = (omega arith, tt); members = λ e. (onward e, back e) }
  where
    first_leads : IsInSet squares (is_untimed squares_said) 2 1
    first_leads = inr (record { untimed = refl; from = 0; leads = refl; to = 0; leaves = refl; path = Here refl })

    onward : (e : ℕ) → is_in e (1 ∷ 2 ∷ []) ≡ true → IsInSet squares (is_untimed squares_said) 2 e
    onward e m = of_two (λ n. IsInSet squares (is_untimed squares_said) 2 n) 1 2 first_leads (inl refl) e m

    leading : (e : ℕ) → LeadsBackTo squares (is_untimed squares_said) 2 e → is_in e (1 ∷ 2 ∷ []) ≡ true
    leading zero h = absurd (no_is_not_yes false refl h.untimed)
    leading (suc zero) h = refl
    leading (suc (suc zero)) h = refl
    leading (suc (suc (suc k))) h = absurd (none_some h.from h.leads)

    back : (e : ℕ) → IsInSet squares (is_untimed squares_said) 2 e → is_in e (1 ∷ 2 ∷ []) ≡ true
    back e (inl same) = subst (λ (n : ℕ). is_in n (1 ∷ 2 ∷ []) ≡ true) (sym same) refl
    back e (inr h) = leading e h

-- the virtual entry, the only entry of both sets, has a size at its only place
one_place : (i : ℕ) → IsPlace squares 0 i → i ≡ 1
one_place i place =
    let last : i ≤ 1 = subst (λ (a : ℕ). i ≤ arity_of squares a) (sym (some_same 0 place.symbol place.target)) place.last in
    omega (arith, place.least, last)

keeps_open : (i : ℕ) → IsPlace squares 0 i → squares_said 0 i ≡ None → ⊥
keeps_open i place missing =
    some_none (Input 0) (subst (λ (n : ℕ). squares_said 0 n ≡ None) (one_place i place) missing)

first_open : (s : SymbolPlace) → IsShut squares squares_said (1 ∷ []) s → ⊥
first_open s h =
    of_one (λ e. IsPlace squares e s.place → squares_said e s.place ≡ None → ⊥) 0 (keeps_open s.place) h.entry h.enters
    h.place h.missing

second_open : (s : SymbolPlace) → IsShut squares squares_said (1 ∷ 2 ∷ []) s → ⊥
second_open s h =
    of_one (λ e. IsPlace squares e s.place → squares_said e s.place ≡ None → ⊥) 0 (keeps_open s.place) h.entry h.enters
    h.place h.missing

-- a set without shut places
none_shut : (set : List ℕ) → ((s : SymbolPlace) → IsShut squares squares_said set s → ⊥)
    → AreShutOf squares squares_said set []
none_shut set unshut = record {
  order = tt;
  places = λ s. ((λ m. absurd (contains-none s m)), λ h. absurd (unshut s h));
}

-- the linear programs of both rank questions need a pivot
pub first_hits_limit : HitsLimit (rank_program (ranked_set squares (1 ∷ []) 1 [])) 0 (budget 0)
unfolding program_of_question first_tableau equation cost pivot divisor_of
first_hits_limit = budget_run (rank_program (ranked_set squares (1 ∷ []) 1 [])) 0 refl refl

second_hits_limit : HitsLimit (rank_program (ranked_set squares (1 ∷ 2 ∷ []) 2 [])) 0 (budget 0)
unfolding program_of_question first_tableau equation cost pivot divisor_of
second_hits_limit = budget_run (rank_program (ranked_set squares (1 ∷ 2 ∷ []) 2 [])) 0 refl refl

pub first_sought : IsSought squares squares_said 1 (1 ∷ []) []
first_sought = record { is_set = first_set; are_shut = none_shut (1 ∷ []) first_open }

pub first_time : RankHitsLimitSo squares 0 squares_said 1 (limit_hit_at 0 (asked.Rank 1))
first_time = record {
  set = 1 ∷ [];
  shut = [];
  sought = first_sought;
  hits_limit = inl (record { question = refl; hits_limit = first_hits_limit });
}

pub second_time : RankHitsLimitSo squares 0 squares_said 2 (limit_hit_at 0 (asked.Rank 2))
second_time = record {
  set = 1 ∷ 2 ∷ [];
  shut = [];
  sought = record { is_set = second_set; are_shut = none_shut (1 ∷ 2 ∷ []) second_open };
  hits_limit = inl (record { question = refl; hits_limit = second_hits_limit });
}
