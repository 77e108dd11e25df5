-- With 0 pivots, the program that resets its argument keeps some facts and drops others.
use Rattle.std.proofs.Common.{◌≡◌, inl, inr, ℕ, zero, suc, ap, arith, refl, List, [], ◌∷◌, length, Some}
use Rattle.std.specs.Prelude.{pos, negsuc}
use Rattle.poly_terms.specs.linear_forms.Questions.{program_of_question}
use Rattle.poly_terms.specs.model.Programs.{Rule, rule_at}
use Rattle.poly_terms.proofs.model.Cases.{none_some}
use Rattle.lp_builder.proofs.simplex_core.Certificates.{dual-excludes}
use Rattle.poly_terms.specs.linear_forms.Forms.{at}
use Rattle.cert_types.specs.guard_prep.Tightening.{divisor_of}
use Rattle.rule_questions.specs.ProgramQuestions.{forms_at}
use Rattle.location_facts.specs.declared.fact.LocFact.{LocFact}
use Rattle.location_facts.specs.Candidates.{candidates}
use Rattle.location_facts.specs.Kept.{IsImplied, IsImpliedByAll, IsNext, AreKept, Stays, GoesOn}
use Rattle.location_facts.specs.Worked.{fact, natural}
use Rattle.location_facts.specs.WorkedKept.{resetting, zero_facts, SomeAreKept, KeptFactsAreWorkedOut}
use Rattle.location_facts.proofs.Next.{kept-one}
use Rattle.location_facts.proofs.WorkedKept.{kept-worked, following-worked, not-following-worked, empty-worked}
use Rattle.location_facts.proofs.WorkedPivots.{reset-pointed, zero-solved, minus-hit_limit, pivots-worked}

-- a fact that the only rule into l1 implies is implied by all rules into l1
by_the_rule : (kept : List LocFact) (f : LocFact) → IsImplied 0 (forms_at resetting 1) kept f
    → IsImpliedByAll resetting 0 kept f
by_the_rule kept f h = record { each = go }
  where
    go : (t : ℕ) (r : Rule) → rule_at resetting t ≡ Some r → r.target ≡ f.symbol
        → IsImplied 0 (forms_at resetting t) kept f
    go zero r e same = absurd (none_some r e)
    go (suc zero) r e same = h
    go (suc (suc n)) r e same = absurd (none_some r e)

-- a fact that this rule doesn't imply isn't implied by all
not_by_the_rule : (kept : List LocFact) (f : LocFact) → 1 ≡ f.symbol → (IsImplied 0 (forms_at resetting 1) kept f → ⊥)
    → IsImpliedByAll resetting 0 kept f → ⊥
not_by_the_rule kept f here never h = never (h.each 1 _ refl here)

-- facts with the least 0 are implied; those with a greater one aren't, nor, with 0 pivots, those with a lesser one
zero_implied : IsImplied 0 (forms_at resetting 1) [] natural
unfolding program_of_question divisor_of
zero_implied = inr zero-solved

less_not_implied : IsImplied 0 (forms_at resetting 1) [] (fact 1 1 0 (negsuc 0)) → ⊥
unfolding program_of_question divisor_of
less_not_implied (inl s) = dual-excludes _ (at (pos 0 ∷ pos 1 ∷ [])) reset-pointed s.solution
less_not_implied (inr s) = minus-hit_limit s

more_not_implied : IsImplied 0 (forms_at resetting 1) [] (fact 1 1 0 (pos 1)) → ⊥
unfolding program_of_question divisor_of
more_not_implied (inl s) = dual-excludes _ (at (pos 0 ∷ pos 1 ∷ [])) reset-pointed s.solution
more_not_implied (inr s) = dual-excludes _ (at (pos 0 ∷ pos 1 ∷ [])) reset-pointed s.solution

-- the list after the candidates is that of the facts with the least 0, and it is the last
first_next : IsNext resetting 0 (candidates resetting) zero_facts
unfolding program_of_question divisor_of
first_next =
    inr (
      not_by_the_rule (candidates resetting) (fact 1 0 1 (negsuc 0)) refl less_not_implied,
      inl (
        by_the_rule (candidates resetting) (fact 1 0 1 (pos 0)) zero_implied,
        (
          natural ∷ [],
          refl,
          inr (
            not_by_the_rule (candidates resetting) (fact 1 0 1 (pos 1)) refl more_not_implied,
            inr (
              not_by_the_rule (candidates resetting) (fact 1 1 0 (negsuc 0)) refl less_not_implied,
              inl (
                by_the_rule (candidates resetting) natural zero_implied,
                (
                  [],
                  refl,
                  inr (not_by_the_rule (candidates resetting) (fact 1 1 0 (pos 1)) refl more_not_implied, refl),
                ),
              ),
            ),
          ),
        ),
      ),
    )

then_stays : IsNext resetting 0 zero_facts zero_facts
unfolding program_of_question divisor_of
then_stays =
    inl (
      by_the_rule zero_facts (fact 1 0 1 (pos 0)) zero_implied,
      (
        natural ∷ [],
        refl,
        inl (by_the_rule zero_facts natural zero_implied, ([], refl, refl)),
      ),
    )

zero_kept : AreKept resetting 0 zero_facts
zero_kept = GoesOn first_next (Stays refl then_stays)

-- a list of another length isn't the one that is kept
other_length : (facts : List LocFact) → (length facts ≡ 2 → ⊥) → AreKept resetting 0 facts → ⊥
other_length facts ne h = ne (ap length (kept-one.kept resetting 0 facts zero_facts h zero_kept))

some-kept : SomeAreKept
some-kept = record {
  tried = refl;
  some = zero_kept;
  not_all = other_length (candidates resetting) (λ e. omega (arith, e));
  not_one = other_length (natural ∷ []) (λ e. omega (arith, e));
  not_none = other_length [] (λ e. omega (arith, e));
}

pub kept-facts-are-worked-out : KeptFactsAreWorkedOut
kept-facts-are-worked-out = record {
  kept = kept-worked;
  following = following-worked;
  not_following = not-following-worked;
  empty = empty-worked;
  pivots = pivots-worked;
  some = some-kept;
}
