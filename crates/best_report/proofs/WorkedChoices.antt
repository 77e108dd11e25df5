-- The choices of small bounds are as they were worked out by hand.
use Rattle.std.proofs.Common.{◌≡◌, ◌∙◌, ◌<◌, ◌≤◌, ℕ, Bool, List, [], ◌∷◌, true, false, nat_le, inl, inr, refl, arith}
use Rattle.std.specs.Prelude.{ℤ, IsTrue}
use Rattle.std.proofs.lemmas.Bool.{leb-true, leb-false}
use Rattle.model.proofs.Cases.{none_some, some_same}
use Rattle.signed_bounds.specs.Bounds.{Signed, Constant}
use Rattle.signed_bounds.specs.Measure.{exceeds_limits}
use Rattle.signed_values.specs.Comparing.{IsAtMostAt}
use Rattle.best_report.specs.Choices.{least_of, IsOneOrMinimum, IsAtMostStatedOrOverLimit}
use Rattle.best_report.specs.Worked.{ChoicesAreWorkedOut, StatedBoundsAreUsed, StatementsAreFound}
use Rattle.best_report.specs.Worked.{starts, second_argument, first_argument, beyond}
use Rattle.best_report.proofs.Choices.{itself, least-below, least-below-stated}

-- comparisons of numbers that compute
pub le : (n m : ℕ) → nat_le n m ≡ true → n ≤ m
le n m e = leb-true n m e

pub not-le : (n m : ℕ) → nat_le n m ≡ false → n ≤ m → ⊥
not-le n m e h = let less : m < n = leb-false n m e in omega arith

-- what isn't one of 3 and 5, nor their minimum
no-choice : (b c : Signed) → b ≡ c → IsOneOrMinimum (Constant 3) (Constant 5) c → (b ≡ Constant 3 → ⊥) → (b ≡ Constant 5 → ⊥)
    → (b ≡ least_of (Constant 3) (Constant 5) → ⊥) → ⊥
no-choice b c e (inl f) not_3 not_5 not_least = not_3 (e ∙ f)
no-choice b c e (inr (inl f)) not_3 not_5 not_least = not_5 (e ∙ f)
no-choice b c e (inr (inr f)) not_3 not_5 not_least = not_least (e ∙ f)

pub choices_worked_out : ChoicesAreWorkedOut
choices_worked_out = record {
  found = (Constant 3, refl, inl refl);
  stated = (Constant 5, refl, inr (inl refl));
  least = (least_of (Constant 3) (Constant 5), refl, inr (inr refl));
  greatest = λ (c, e, is). no-choice _ c (some_same _ _ e) is (λ f. cc) (λ f. cc) (λ f. cc);
  lost = λ (c, e, is). none_some _ e;
  only_found = refl;
  only_stated = refl;
  neither = refl;
  equal = itself starts (Constant 3);
  worse = λ h. not-le _ _ refl h.0;
  alone = tt;
  missing = tt;
  at_negative = λ h. not-le _ _ refl h.1.1.1.0;
  minimum = least-below starts second_argument first_argument;
  signed = refl;
  better_line = (le _ _ refl, (le _ _ refl, (le _ _ refl, (le _ _ refl, (le _ _ refl, (le _ _ refl, tt))))));
  worse_line = λ h. not-le _ _ refl h.0;
  other_line = tt;
}

-- a number that is at most another one, as bounds at all lists
pub constants : (xs : List (List ℤ)) (n m : ℕ) → n ≤ m → IsAtMostAt xs (Constant n) (Constant m)
constants [] n m h = tt
constants (x ∷ xs) n m h = (h, constants xs n m h)

-- bounds within the limits, whose minimum is, too, and a third one that isn't at most the stated one
within : (found stated b : Signed) → exceeds_limits (least_of found stated) ≡ false → (IsAtMostAt starts b stated → ⊥)
    → IsAtMostStatedOrOverLimit starts found stated b → ⊥
within found stated b small greater (inl most) = greater most
within found stated b small greater (inr (over, one)) = go (exceeds_limits (least_of found stated)) small over
  where
    go : (v : Bool) → v ≡ false → IsTrue v → ⊥
    go true e h = cc
    go false e h = cc

-- a constant that is none of two bounds, and isn't at most the stated one
third : (n : ℕ) (found stated : Signed) → (Constant n ≡ found → ⊥) → (Constant n ≡ stated → ⊥)
    → (IsAtMostAt starts (Constant n) stated → ⊥) → IsAtMostStatedOrOverLimit starts found stated (Constant n) → ⊥
third n found stated not_found not_stated greater (inl most) = greater most
third n found stated not_found not_stated greater (inr (over, inl e)) = not_found e
third n found stated not_found not_stated greater (inr (over, inr e)) = not_stated e

pub stated_bounds_used : StatedBoundsAreUsed
stated_bounds_used = record {
  stated = inl (itself starts (Constant 3));
  lesser = inl (constants starts 2 3 (le 2 3 refl));
  lazy = within (Constant 5) (Constant 3) (Constant 5) refl (λ h. not-le _ _ refl h.0);
  lost = λ h. h;
  alone = itself starts (Constant 5);
  greater_alone = λ h. not-le _ _ refl h.0;
  lost_alone = λ h. h;
  not_stated = tt;
  minimum = inl (least-below-stated starts first_argument second_argument);
  first_alone = within first_argument second_argument first_argument refl (λ h. not-le _ _ refl h.1.1.0);
  beyond_limits = inr (refl, inl refl);
  third_beyond = third 21 beyond first_argument (λ e. cc) (λ e. cc) (λ h. not-le _ _ refl h.0);
  line = inl (itself starts (Constant 2));
  lazy_line = within (Constant 3) (Constant 2) (Constant 3) refl (λ h. not-le _ _ refl h.0);
  other_line = tt;
}

pub statements_found : StatementsAreFound
statements_found = record {
  first = refl;
  none = refl;
  cost = refl;
  no_cost = refl;
  total = refl;
  above = refl;
  other_place = refl;
  other_rule = refl;
  other_side = refl;
  below = refl;
  fact = refl;
}
