-- The sums of what the rules of small programs spend are as they were worked out by hand.
use Rattle.std.proofs.Common.{◌≡◌, ◌∙◌, ℕ, Option, Some, None, refl, sym, ap}
use Rattle.model.proofs.Cases.{none_some, some_same}
use Rattle.signed_bounds.specs.Bounds.{Signed, Constant}
use Rattle.best_report.specs.Statements.{first_of}
use Rattle.best_report.specs.Worked.{SumsAreWorkedOut, three_plus_five}

-- a bound behind one that is chosen is what that says, if there is one, or else the other
behind-none : (l b other : Option Signed) → l ≡ first_of b other → b ≡ None → l ≡ other
behind-none l b other e none = e ∙ ap (λ (o : Option Signed). first_of o other) none

behind-some : (l b other : Option Signed) (c : Signed) → l ≡ first_of b other → b ≡ Some c → l ≡ Some c
behind-some l b other c e some = e ∙ ap (λ (o : Option Signed). first_of o other) some

-- a sum is no constant
no-constant : (n : ℕ) → Constant n ≡ three_plus_five → ⊥
no-constant n e = cc

no-sum : (n : ℕ) → three_plus_five ≡ Constant n → ⊥
no-sum n e = cc

pub sums_worked_out : SumsAreWorkedOut
sums_worked_out = record {
  times = refl;
  value = refl;
  order = refl;
  no_time = refl;
  no_line = refl;
  costs = refl;
  no_cost = refl;
  one_cost = refl;
  beyond_limits = refl;
  completed = refl;
  has_total = refl;
  summed = (None, refl, refl);
  by_statement = (None, refl, refl);
  missing = λ (b, is, e). none_some three_plus_five (behind-none None b (Some three_plus_five) e is);
  first_alone = λ (b, is, e). no-constant 3
      (some_same (Constant 3) three_plus_five (behind-none (Some (Constant 3)) b (Some three_plus_five) e is));
  stated = (Some (Constant 7), refl, refl);
  not_stated = λ (b, is, e). no-sum 7
      (some_same three_plus_five (Constant 7)
      (behind-some (Some three_plus_five) b (Some three_plus_five) (Constant 7) e is));
  unsummed = (None, refl, refl);
  invented = λ (b, is, e). none_some (Constant 3) (sym (behind-none (Some (Constant 3)) b None e is));
  other_subject = λ (b, is, e). none_some three_plus_five (sym (behind-none (Some three_plus_five) b None e is));
}
