-- The worked values of questions hold.
use Rattle.std.proofs.Common.{ℕ, zero, suc, ◌<◌, arith, refl, List, [], ◌∷◌}
use Rattle.std.specs.Prelude.{ℤ, pos, ◌≤ℤ◌}
use Rattle.std.proofs.lemmas.Int.{ints}
use Rattle.linear_forms.specs.Forms.{at}
use Rattle.linear_forms.specs.Questions.{program_of_question}
use Rattle.linear_forms.specs.QuestionValues.{entering_rule, free_rule, falling_rule, impossible_rule, sliding_rule}
use Rattle.linear_forms.specs.QuestionValues.{falling_set, shut_set, sliding_set, ImpossibleIsEmpty, SlidingHasPoint}
use Rattle.linear_forms.specs.QuestionValues.{FallingIsRanked, ShutIsNotRanked, SlidingIsNotRanked, FallingStaysBelow}
use Rattle.linear_forms.specs.QuestionValues.{FallingStaysAbove, SlidingIsAffine, FreeIsUnbounded, QuestionValues}

-- what holds at 0 and at each number i + 1 up to n holds at each number below n + 1
below-suc : (P : ℕ → Type 0) (n : ℕ) → P 0 → ((i : ℕ) → i < n → P (suc i)) → (i : ℕ) → i < suc n → P i
below-suc P n a h zero l = a
below-suc P n a h (suc i) l = h i (omega arith)

-- a property holds of each number below 0, as there is none
below-zero : (P : ℕ → Type 0) → (i : ℕ) → i < 0 → P i
below-zero P i l = absurd (omega arith)

-- natural numbers as integers
abbrev naturals : List ℕ → List ℤ
naturals [] = []
naturals (x ∷ xs) = pos x ∷ naturals xs

-- a list of natural numbers has no negative entry
at-natural : (xs : List ℕ) (j : ℕ) → pos 0 ≤ℤ at (naturals xs) j
at-natural [] j = omega (arith, ints)
at-natural (x ∷ xs) zero = omega (arith, ints)
at-natural (x ∷ xs) (suc j) = at-natural xs j

-- the impossible rule has no point
impossible : ImpossibleIsEmpty
unfolding program_of_question impossible_rule
impossible = record {
  columns = refl;
  equations_are = refl;
  solved = record {
    denominator = omega (arith, ints);
    equations = below-suc _ _ refl (below-suc _ _ refl (below-zero _));
    nonnegative = λ j _. at-natural (1 ∷ 1 ∷ 0 ∷ []) j;
  };
  unsolved = λ s. let e = s.equations 0 (omega arith) in omega (arith, ints, e);
}

-- the sliding rule's rows have a point
has_point : SlidingHasPoint
unfolding program_of_question sliding_rule
has_point = record {
  columns = refl;
  equations_are = refl;
  refuted = record {
    columns = below-suc _ _ (omega (arith, ints)) (below-suc _ _ (omega (arith, ints)) (below-zero _));
    right = omega (arith, ints);
  };
  not_refuted = λ d. let e = d.columns 0 (omega arith) in omega (arith, ints, e);
}

-- the falling set is ranked
ranked : FallingIsRanked
unfolding program_of_question entering_rule falling_rule falling_set
ranked = record {
  columns = refl;
  entering_lines = refl;
  first = λ j. refl;
  second = λ j. refl;
  solved = record {
    denominator = omega (arith, ints);
    equations = below-suc _ _ refl (below-suc _ _ refl (below-suc _ _ refl (below-suc _ _ refl (below-suc _ _ refl (below-suc _ _ refl (below-zero _))))));
    nonnegative = λ j _. at-natural (1 ∷ 0 ∷ 0 ∷ 0 ∷ 1 ∷ 0 ∷ 0 ∷ 0 ∷ 0 ∷ 0 ∷ 0 ∷ 1 ∷ 0 ∷ []) j;
  };
  unsolved = λ s. let e = s.equations 4 (omega arith) in omega (arith, ints, e);
}

-- with its place shut, the falling rule is not ranked
shut : ShutIsNotRanked
unfolding program_of_question falling_rule shut_set
shut = record {
  columns = refl;
  equations_are = refl;
  refuted = record {
    columns = below-suc _ _ (omega (arith, ints)) (below-suc _ _ (omega (arith, ints)) (below-suc _ _ (omega (arith, ints)) (below-suc _ _ (omega (arith, ints)) (
        below-suc _ _ (omega (arith, ints)) (below-suc _ _ (omega (arith, ints)) (below-zero _))))));
    right = omega (arith, ints);
  };
  not_refuted = λ d. let e = d.columns 0 (omega arith) in omega (arith, ints, e);
}

-- the sliding rule is not ranked
not_ranked : SlidingIsNotRanked
unfolding program_of_question sliding_rule sliding_set
not_ranked = record {
  columns = refl;
  equations_are = refl;
  first = λ j. refl;
  second = λ j. refl;
  refuted = record {
    columns = below-suc _ _ (omega (arith, ints)) (below-suc _ _ (omega (arith, ints)) (below-suc _ _ (omega (arith, ints)) (below-suc _ _ (omega (arith, ints)) (
        below-suc _ _ (omega (arith, ints)) (below-suc _ _ (omega (arith, ints)) (below-suc _ _ (omega (arith, ints)) (below-suc _ _ (omega (arith, ints)) (
        below-suc _ _ (omega (arith, ints)) (below-suc _ _ (omega (arith, ints)) (below-zero _))))))))));
    right = omega (arith, ints);
  };
  not_refuted = λ d. let e = d.columns 1 (omega arith) in omega (arith, ints, e);
}

-- the falling rule's new value has side bounds on both sides
below : FallingStaysBelow
unfolding program_of_question falling_rule
below = record {
  equations_are = refl;
  solved = record {
    denominator = omega (arith, ints);
    equations = below-suc _ _ refl (below-suc _ _ refl (below-zero _));
    nonnegative = λ j _. at-natural (0 ∷ 1 ∷ []) j;
  };
  unsolved = λ s. let e = s.equations 1 (omega arith) in omega (arith, ints, e);
  opposite_equations_are = refl;
  refuted = record {
    columns = below-suc _ _ (omega (arith, ints)) (below-suc _ _ (omega (arith, ints)) (below-zero _));
    right = omega (arith, ints);
  };
}

above : FallingStaysAbove
unfolding program_of_question falling_rule
above = record {
  columns = refl;
  equations_are = refl;
  first = λ j. refl;
  second = λ j. refl;
  solved = record {
    denominator = omega (arith, ints);
    equations = below-suc _ _ refl (below-suc _ _ refl (below-zero _));
    nonnegative = λ j _. at-natural (0 ∷ 0 ∷ 1 ∷ 0 ∷ []) j;
  };
}

-- the sliding rule's new value has an affine bound
affine : SlidingIsAffine
unfolding program_of_question sliding_rule
affine = record {
  columns = refl;
  equations_are = refl;
  first = λ j. refl;
  second = λ j. refl;
  solved = record {
    denominator = omega (arith, ints);
    equations = below-suc _ _ refl (below-suc _ _ refl (below-suc _ _ refl (below-zero _)));
    nonnegative = λ j _. at-natural (1 ∷ 0 ∷ 1 ∷ 0 ∷ 0 ∷ 0 ∷ 0 ∷ 0 ∷ []) j;
  };
}

-- the free rule's new value has no bound
unbounded : FreeIsUnbounded
unfolding program_of_question free_rule
unbounded = record {
  equations_are = refl;
  refuted = record {
    columns = below-suc _ _ (omega (arith, ints)) (below-suc _ _ (omega (arith, ints)) (below-suc _ _ (omega (arith, ints)) (below-suc _ _ (omega (arith, ints)) (
        below-suc _ _ (omega (arith, ints)) (below-zero _)))));
    right = omega (arith, ints);
  };
  not_refuted = λ d. let e = d.columns 0 (omega arith) in omega (arith, ints, e);
}

-- all worked values of questions hold
pub question-values : QuestionValues
question-values = record {
  impossible = impossible;
  point = has_point;
  ranked = ranked;
  shut = shut;
  not_ranked = not_ranked;
  below = below;
  above = above;
  affine = affine;
  unbounded = unbounded;
}
