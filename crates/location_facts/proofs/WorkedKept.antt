-- The worked values of which facts of small programs are kept hold.
use Rattle.std.proofs.Common.{◌≡◌, inl, inr, ℕ, zero, suc, ◌<◌, ap, arith, refl, ◌∙◌, List, [], ◌∷◌, Some}
use Rattle.std.specs.Prelude.{ℤ, pos, negsuc}
use Rattle.std.specs.List.{AllByRecursion}
use Rattle.std.proofs.lemmas.Int.{ints}
use Rattle.poly_terms.specs.linear_forms.Certificates.{minus_one}
use Rattle.poly_terms.specs.linear_forms.Forms.{at}
use Rattle.poly_terms.specs.linear_forms.LinearProgram.{LinearProgram, IsDual}
use Rattle.poly_terms.specs.linear_forms.Questions.{program_of_question}
use Rattle.poly_terms.specs.model.Programs.{Rule, rule_at}
use Rattle.poly_terms.proofs.model.Cases.{none_some, some_same}
use Rattle.lp_builder.proofs.simplex_core.Certificates.{dual-excludes}
use Rattle.cert_types.specs.guard_prep.Tightening.{divisor_of}
use Rattle.rule_questions.specs.ProgramQuestions.{forms_at}
use Rattle.location_facts.specs.declared.fact.LocFact.{LocFact}
use Rattle.location_facts.specs.Candidates.{candidates}
use Rattle.location_facts.specs.Kept.{goal_program, IsImplied, IsImpliedByAll, HasThose, IsNext}
use Rattle.location_facts.specs.Kept.{AreKept, Stays, GoesOn}
use Rattle.location_facts.specs.Rows.{row_after, combined}
use Rattle.location_facts.specs.Worked.{fact, positive}
use Rattle.location_facts.specs.WorkedKept.{handing, passing, staying, falling_forms, empty_program, fact_program}
use Rattle.location_facts.specs.WorkedKept.{KeptAreWorkedOut, FollowingIsWorkedOut, NotFollowingIsWorkedOut}
use Rattle.location_facts.specs.WorkedKept.{EmptyIsWorkedOut}

-- a property of 0 holds below 1; a property of 0 and 1 holds below 2; and so on
pub below-one : (P : ℕ → Type 0) → P 0 → (i : ℕ) → i < 1 → P i
below-one P a zero l = a
below-one P a (suc n) l = absurd (omega (arith, l))

pub below-two : (P : ℕ → Type 0) → P 0 → P 1 → (i : ℕ) → i < 2 → P i
below-two P a b zero l = a
below-two P a b (suc zero) l = b
below-two P a b (suc (suc n)) l = absurd (omega (arith, l))

pub below-three : (P : ℕ → Type 0) → P 0 → P 1 → P 2 → (i : ℕ) → i < 3 → P i
below-three P a b c zero l = a
below-three P a b c (suc zero) l = b
below-three P a b c (suc (suc zero)) l = c
below-three P a b c (suc (suc (suc n))) l = absurd (omega (arith, l))

-- facts that all satisfy a condition, and facts of which none does
those-all : (K : LocFact → Type 0) (facts : List LocFact) → AllByRecursion K facts → HasThose K facts facts
those-all K [] h = refl
those-all K (f ∷ facts) (k, h) = inl (k, (facts, refl, those-all K facts h))

those-none : (K : LocFact → Type 0) (facts : List LocFact) → AllByRecursion (λ f. K f → ⊥) facts
    → HasThose K facts []
those-none K [] h = refl
those-none K (f ∷ facts) (k, h) = inr (k, those-none K facts h)

-- the linear programs of the rule that passes on any value
abbrev passed_program : LocFact → LinearProgram
passed_program f =
    goal_program (forms_at passing 1).unknowns (combined (forms_at passing 1) (candidates passing))
    (row_after (forms_at passing 1).new_values f)

abbrev passed_empty : LinearProgram
passed_empty = goal_program (forms_at passing 1).unknowns (combined (forms_at passing 1) (candidates passing)) minus_one

-- the rule has a point, and a ray along which each fact decreases
passed-pointed : IsDual passed_empty (at (pos 0 ∷ pos 1 ∷ []))
unfolding program_of_question divisor_of
passed-pointed = record { columns = below-one _ (omega (arith, ints)); right = omega (arith, ints) }

passed-below : (k : ℤ) → IsDual (passed_program (fact 1 1 0 k)) (at (negsuc 0 ∷ pos 0 ∷ []))
unfolding program_of_question divisor_of
passed-below k = record { columns = below-one _ (omega (arith, ints)); right = omega (arith, ints) }

passed-above : (k : ℤ) → IsDual (passed_program (fact 1 0 1 k)) (at (pos 1 ∷ pos 0 ∷ []))
unfolding program_of_question divisor_of
passed-above k = record { columns = below-one _ (omega (arith, ints)); right = omega (arith, ints) }

-- the rule implies no fact
not-passed : (pivots : ℕ) (f : LocFact) (y : ℕ → ℤ) → 1 ≡ f.symbol → IsDual (passed_program f) y
    → IsImpliedByAll passing pivots (candidates passing) f → ⊥
not-passed pivots f y same dual h = go (h.each 1 (handing 1) refl same)
  where
    go : IsImplied pivots (forms_at passing 1) (candidates passing) f → ⊥
    go (inl s) = dual-excludes passed_empty (at (pos 0 ∷ pos 1 ∷ [])) passed-pointed s.solution
    go (inr s) = dual-excludes (passed_program f) y dual s.solution

not-below : (pivots : ℕ) (k : ℤ) → IsImpliedByAll passing pivots (candidates passing) (fact 1 1 0 k) → ⊥
not-below pivots k = not-passed pivots (fact 1 1 0 k) (at (negsuc 0 ∷ pos 0 ∷ [])) refl (passed-below k)

not-above : (pivots : ℕ) (k : ℤ) → IsImpliedByAll passing pivots (candidates passing) (fact 1 0 1 k) → ⊥
not-above pivots k = not-passed pivots (fact 1 0 1 k) (at (pos 1 ∷ pos 0 ∷ [])) refl (passed-above k)

none-kept : (pivots : ℕ) → AreKept passing pivots []
none-kept pivots = GoesOn next (Stays refl refl)
  where
    next : IsNext passing pivots (candidates passing) []
    next =
        those-none (IsImpliedByAll passing pivots (candidates passing)) (candidates passing) (
          not-above pivots (negsuc 0),
          (
            not-above pivots (pos 0),
            (
              not-above pivots (pos 1),
              (not-below pivots (negsuc 0), (not-below pivots (pos 0), (not-below pivots (pos 1), tt))),
            ),
          ),
        )

-- no rule leads to l1 in the program whose rule leads to l0
none-leads : (t : ℕ) (r : Rule) → rule_at staying t ≡ Some r → r.target ≡ 1 → ⊥
none-leads zero r e same = none_some r e
none-leads (suc zero) r e same =
    let there : 0 ≡ r.target = ap (λ (q : Rule). q.target) (some_same (handing 0) r e) in omega (arith, there, same)
none-leads (suc (suc n)) r e same = none_some r e

all-kept : (pivots : ℕ) → AreKept staying pivots (candidates staying)
all-kept pivots = Stays refl next
  where
    implied : (f : LocFact) → f.symbol ≡ 1 → IsImpliedByAll staying pivots (candidates staying) f
    implied f here = record { each = λ t r e same. absurd (none-leads t r e (same ∙ here)) }

    next : IsNext staying pivots (candidates staying) (candidates staying)
    next =
        those-all (IsImpliedByAll staying pivots (candidates staying)) (candidates staying) (
          implied (fact 1 0 1 (negsuc 0)) refl,
          (
            implied (fact 1 0 1 (pos 0)) refl,
            (
              implied (fact 1 0 1 (pos 1)) refl,
              (
                implied (fact 1 1 0 (negsuc 0)) refl,
                (
                  implied (fact 1 1 0 (pos 0)) refl,
                  (
                    implied (fact 1 1 0 (pos 1)) refl,
                    tt,
                  ),
                ),
              ),
            ),
          ),
        )

pub kept-worked : KeptAreWorkedOut
kept-worked = record { none = none-kept; all = all-kept }

pub following-worked : FollowingIsWorkedOut
unfolding program_of_question divisor_of
following-worked = record {
  equations_are = refl;
  columns = refl;
  solved = record {
    denominator = omega (arith, ints);
    equations = below-two _ refl refl;
    nonnegative = below-three _ (omega (arith, ints)) (omega (arith, ints)) (omega (arith, ints));
  };
  unsolved = λ s. let e = s.equations 1 (omega arith) in omega (arith, ints, e);
}

-- A = 1 refutes A >= 1 after the second rule, and that the rule has no point
positive-refuted : IsDual (fact_program (positive ∷ []) positive) (at (pos 1 ∷ pos 1 ∷ []))
unfolding program_of_question divisor_of
positive-refuted = record {
  columns = below-three _ (omega (arith, ints)) (omega (arith, ints)) (omega (arith, ints));
  right = omega (arith, ints);
}

positive-pointed : IsDual (empty_program (positive ∷ [])) (at (pos 1 ∷ pos 1 ∷ []))
unfolding program_of_question divisor_of
positive-pointed = record {
  columns = below-three _ (omega (arith, ints)) (omega (arith, ints)) (omega (arith, ints));
  right = omega (arith, ints);
}

positive-not : (pivots : ℕ) → IsImplied pivots falling_forms (positive ∷ []) positive → ⊥
positive-not pivots (inl s) =
    dual-excludes (empty_program (positive ∷ [])) (at (pos 1 ∷ pos 1 ∷ [])) positive-pointed s.solution
positive-not pivots (inr s) =
    dual-excludes (fact_program (positive ∷ []) positive) (at (pos 1 ∷ pos 1 ∷ [])) positive-refuted s.solution

pub not-following-worked : NotFollowingIsWorkedOut
unfolding program_of_question divisor_of
not-following-worked = record {
  equations_are = refl;
  refuted = positive-refuted;
  pointed = positive-pointed;
  not_implied = positive-not;
}

pub empty-worked : EmptyIsWorkedOut
unfolding program_of_question divisor_of
empty-worked = record {
  asked = λ r kept. refl;
  equations_are = refl;
  solved = record {
    denominator = omega (arith, ints);
    equations = below-two _ refl refl;
    nonnegative = below-three _ (omega (arith, ints)) (omega (arith, ints)) (omega (arith, ints));
  };
  refuted = record {
    columns = below-two _ (omega (arith, ints)) (omega (arith, ints));
    right = omega (arith, ints);
  };
}
