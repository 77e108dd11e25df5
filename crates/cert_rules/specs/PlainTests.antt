-- Tests of the nodes without an arithmetic certificate of their own.
use Rattle.std.specs.Prelude.{ℕ, suc, ◌&&◌, nat_lt, nat_le, Bool, true, false, List, [], ◌∷◌, length, is_some}
use Rattle.run_counting.specs.model.Programs.{Program, rule_at, arity_of}
use Rattle.run_counting.specs.model.Bounds.{Bound, Constant, Input, SumOf, ProductOf, MaximumOf, PowerOf, Parts}
use Rattle.run_counting.specs.model.Bounds.{NoParts, Part}
use Rattle.run_counting.specs.model.Facts.{Fact, Time, Size, Cost}
use Rattle.bound_expr.specs.Limits.{constant_limit}
use Rattle.rule_forms.specs.linear_forms.Certificates.{minus_one}
use Rattle.cert_rules.specs.Known.{is_zero_bound}
use Rattle.cert_rules.specs.Setting.{Setting}
use Rattle.cert_rules.specs.Reasons.{Shape, NotEmpty, Reached, NotZero, NotWeaker}
use Rattle.cert_rules.specs.Tests.{Test, test}
use Rattle.cert_rules.specs.NumberTests.{are_multipliers, implies}
use Rattle.cert_rules.specs.ReachTests.{is_unreached}

-- there is a rule with this number
abbrev pub is_rule : Program → ℕ → Bool
is_rule p t = is_some (rule_at p t)

-- the lemma is an earlier one; lemmas count from 1
abbrev pub is_earlier : List (List Fact) → ℕ → Bool
is_earlier past n = nat_le 1 n && nat_le n (length past)

-- the test of a citation: the lemma is an earlier one
abbrev pub cite_tests : List (List Fact) → ℕ → List Test
cite_tests past n = test Shape (is_earlier past n) ∷ []

-- the tests of an empty rule: there is a multiplier for each row, and the rows, each times its multiplier, add up to -1
abbrev pub empty_tests : Setting → ℕ → List ℕ → List Test
empty_tests s t multipliers =
    test Shape (is_rule s.program t && are_multipliers s t multipliers)
    ∷ test NotEmpty (implies (s.rows t) multipliers minus_one) ∷ []

-- the tests of an unreached rule: it is a rule, and its source isn't reached by the allowed rules
abbrev pub unreached_tests : Setting → (ℕ → Bool) → ℕ → List Test
unreached_tests s is_allowed t =
    test Shape (is_rule s.program t) ∷ test Reached (is_unreached s.program is_allowed t) ∷ []

-- there is exactly one fact, a time of a rule above 0
abbrev pub is_one_time : List Fact → Bool
is_one_time (Time (suc t) b ∷ []) = true
is_one_time facts = false

-- the first fact is a time that is 0
abbrev pub is_zero_time : List Fact → Bool
is_zero_time (Time t b ∷ facts) = is_zero_bound b
is_zero_time facts = false

-- the tests of a rule that never runs: it has a time, and this is 0
abbrev pub never_tests : List Fact → List Test
never_tests facts = test Shape (is_one_time facts) ∷ test NotZero (is_zero_time facts) ∷ []

-- each node of a bound passes a test, and each node of its parts does
abbrev mutual
  pub each_node : (Bound → Bool) → Bound → Bool
  each_node passes (Constant c) = passes (Constant c)
  each_node passes (Input i) = passes (Input i)
  each_node passes (SumOf bs) = passes (SumOf bs) && each_node_of_all passes bs
  each_node passes (ProductOf bs) = passes (ProductOf bs) && each_node_of_all passes bs
  each_node passes (MaximumOf bs) = passes (MaximumOf bs) && each_node_of_all passes bs
  each_node passes (PowerOf c e) = passes (PowerOf c e) && each_node passes e

  pub each_node_of_all : (Bound → Bool) → Parts → Bool
  each_node_of_all passes NoParts = true
  each_node_of_all passes (Part b bs) = each_node passes b && each_node_of_all passes bs

-- the bound, if it is an input, is one of the first n
abbrev pub is_input_below : ℕ → Bound → Bool
is_input_below n (Input i) = nat_lt i n
is_input_below n b = true

-- the bound is below 2^127 if it is a constant, and has a base of at least 2 if it is a power
abbrev pub is_tidy_number : Bound → Bool
is_tidy_number (Constant c) = nat_le c constant_limit
is_tidy_number (PowerOf c e) = nat_le 2 c
is_tidy_number b = true

-- a bound as it may be written: over the start arguments, with bases of at least 2 and constants below 2^127
abbrev pub has_weaken_shape : Program → Bound → Bool
has_weaken_shape p b = each_node (is_input_below (arity_of p p.start)) b && each_node is_tidy_number b

-- there is exactly one fact, and its bound is below the new one
abbrev pub is_weaker : Setting → List Fact → Bound → Bool
is_weaker s (Time t a ∷ []) b = s.below a b
is_weaker s (Size t i a ∷ []) b = s.below a b
is_weaker s (Cost t a ∷ []) b = s.below a b
is_weaker s facts b = false

-- the tests of a `weaken` node: its bound has the right shape, and is weaker
abbrev pub weaken_tests : Setting → List Fact → Bound → List Test
weaken_tests s facts b =
    test Shape (has_weaken_shape s.program b) ∷ test NotWeaker (is_weaker s facts b) ∷ []
