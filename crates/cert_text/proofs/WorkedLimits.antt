-- The worked proof files are within the limits, or not, as stated.
use Rattle.std.proofs.Common.{◌≡◌, ℕ, zero, suc, ◌+◌, ◌^◌, ◌-◌, ◌≤◌, List, [], ◌∷◌, Option, Some, None, refl, arith, All}
use Rattle.std.specs.Prelude.{ℤ, pos, negsuc, nat_abs}
use Rattle.std.proofs.lemmas.List.Elements.{All-nil, All-cons, All-head}
use Rattle.its_model.specs.model.Terms.{Literal, Variable, Subtraction}
use Rattle.its_model.specs.model.Programs.{AtLeast, Compare, Rule}
use Rattle.cert_types.specs.rule_forms.linear_forms.Limits.{certificate_limit, point_limit}
use Rattle.cert_types.specs.cert_rules.AcceptsPlain.{IsRule}
use Rattle.cert_types.specs.cert_rules.Limits.{IsInLimit, AreInLimit, IsFormInLimit}
use Rattle.cert_text.specs.Spelled.{level_limit, IsResultVariableOf, IsMemberWithin, IsSymbolFormWithin, IsProofWithin}
use Rattle.cert_text.specs.Spelled.{IsGapWithin}
use Rattle.cert_text.specs.Worked.{rule_from, counting, form, at_symbol, member, nested, rank_enter, rank_loop, size_enter}
use Rattle.cert_text.specs.Worked.{size_loop, LimitsAreWorkedOut}

-- rule 2, which counts down
abbrev counting_rule : Rule
counting_rule =
    rule_from 1 (Subtraction (Variable 0) (Literal (pos 1))) (Compare (Variable 0) AtLeast (Literal (pos 1)) ∷ [])

-- numbers 1 and 2 are those of rules
first_rule : IsRule counting 1
first_rule = record { rule = rule_from 0 (Variable 0) []; numbered = refl }

second_rule : IsRule counting 2
second_rule = record { rule = counting_rule; numbered = refl }

-- an absent rule is no rule
none_is_some : (r : Rule) → ¬ (◌≡◌ {A = Option Rule} None (Some r))
none_is_some r e = cc

no_rule_zero : ¬ (IsRule counting 0)
no_rule_zero h = none_is_some h.rule h.numbered

no_third_rule : ¬ (IsRule counting 3)
no_third_rule h = none_is_some h.rule h.numbered

-- lists of no multiplier and of one small multiplier are within the limit
no_multipliers : AreInLimit []
no_multipliers = All-nil IsInLimit

one_multiplier : (m : ℕ) → m ≤ certificate_limit → AreInLimit (m ∷ [])
one_multiplier m h = All-cons IsInLimit m [] h (All-nil IsInLimit)

-- a form with small numbers is within the limit
small_form : (coef constant : ℤ) → nat_abs coef ≤ certificate_limit → nat_abs constant ≤ certificate_limit
    → IsFormInLimit (form coef constant)
small_form coef constant h k = record {
  coefs = All-cons (λ (c : ℤ). IsInLimit (nat_abs c)) coef [] h (All-nil (λ (c : ℤ). IsInLimit (nat_abs c)));
  constant = k;
}

-- a ranking function of two small forms, at the two symbols, is within the limits
two_forms : (a b c d : ℤ) → IsFormInLimit (form a b) → IsFormInLimit (form c d)
    → All (IsSymbolFormWithin counting) (at_symbol 0 a b ∷ at_symbol 1 c d ∷ [])
two_forms a b c d h k =
    All-cons (IsSymbolFormWithin counting) (at_symbol 0 a b) (at_symbol 1 c d ∷ []) (record { symbol = omega arith; form = h })
    (All-cons (IsSymbolFormWithin counting) (at_symbol 1 c d) [] (record { symbol = omega arith; form = k })
    (All-nil (IsSymbolFormWithin counting)))

-- a member with small forms is within the limits
small_member : (rule : ℕ) → IsResultVariableOf counting (record { rule = rule; place = 1 })
    → (a b c d : ℤ) (above below : List ℕ) → IsFormInLimit (form a b) → AreInLimit above → IsFormInLimit (form c d)
    → AreInLimit below → IsMemberWithin counting (member rule (form a b) above (form c d) below)
small_member rule s a b c d above below f m g n = record {
  result_variable = s;
  local = record { up = (omega arith, f, m); low = (omega arith, g, n) };
}

-- each of the two rules has a place
first_result_variable : IsResultVariableOf counting (record { rule = 1; place = 1 })
first_result_variable = record {
  rule = rule_from 0 (Variable 0) [];
  numbered = refl;
  least = omega arith;
  most = omega arith;
}

second_result_variable : IsResultVariableOf counting (record { rule = 2; place = 1 })
second_result_variable = record { rule = counting_rule; numbered = refl; least = omega arith; most = omega arith }

-- each of the four lemmas on the loop is within the limits
enter_within : IsProofWithin counting 0 1 rank_enter
enter_within = (
  (
    omega arith,
    record {
      rule = first_rule;
      set = All-cons (IsRule counting) 1 [] first_rule (All-nil (IsRule counting));
      den = omega arith;
      some_form = omega arith;
      forms = two_forms (pos 0) (pos 1) (pos 0) (pos 0) (small_form (pos 0) (pos 1) (omega arith) (omega arith))
          (small_form (pos 0) (pos 0) (omega arith) (omega arith));
      some_move = omega arith;
      moves = All-cons AreInLimit [] [] no_multipliers (All-nil AreInLimit);
      floor = no_multipliers;
    },
  ),
  ((omega arith, tt), tt),
)

loop_within : IsProofWithin counting 1 1 rank_loop
loop_within = (
  (
    omega arith,
    record {
      rule = second_rule;
      set = All-cons (IsRule counting) 1 (2 ∷ []) first_rule
          (All-cons (IsRule counting) 2 [] second_rule (All-nil (IsRule counting)));
      den = omega arith;
      some_form = omega arith;
      forms = two_forms (pos 1) (pos 0) (pos 1) (pos 0) (small_form (pos 1) (pos 0) (omega arith) (omega arith))
          (small_form (pos 1) (pos 0) (omega arith) (omega arith));
      some_move = omega arith;
      moves = All-cons AreInLimit [] ((0 ∷ []) ∷ []) no_multipliers
          (All-cons AreInLimit (0 ∷ []) [] (one_multiplier 0 (omega arith)) (All-nil AreInLimit));
      floor = one_multiplier 1 (omega arith);
    },
  ),
  ((omega arith, tt), tt),
)

size_enter_within : IsProofWithin counting 2 1 size_enter
size_enter_within = (
  (
    omega arith,
    small_member 1 first_result_variable (pos 1) (pos 0) (negsuc 0) (pos 0) [] []
        (small_form (pos 1) (pos 0) (omega arith) (omega arith)) no_multipliers
        (small_form (negsuc 0) (pos 0) (omega arith) (omega arith)) no_multipliers,
  ),
  ((omega arith, tt), tt),
)

size_loop_within : IsProofWithin counting 3 1 size_loop
size_loop_within = (
  (
    omega arith,
    (
      omega arith,
      All-cons (IsMemberWithin counting)
          (member 2 (form (pos 1) (pos 0)) (0 ∷ []) (form (pos 0) (pos 0)) (1 ∷ [])) []
          (small_member 2 second_result_variable (pos 1) (pos 0) (pos 0) (pos 0) (0 ∷ []) (1 ∷ [])
          (small_form (pos 1) (pos 0) (omega arith) (omega arith)) (one_multiplier 0 (omega arith))
          (small_form (pos 0) (pos 0) (omega arith) (omega arith)) (one_multiplier 1 (omega arith)))
          (All-nil (IsMemberWithin counting)),
    ),
  ),
  ((omega arith, (omega arith, omega arith)), tt),
)

-- n nested nodes are within the limits up to level 64, and not beyond
nested_within : (n level : ℕ) → level + n ≤ level_limit → IsProofWithin counting 0 level (nested n)
nested_within zero level h = (omega (arith, h), tt)
nested_within (suc n) level h = ((omega (arith, h), tt), nested_within n (suc level) (omega (arith, h)))

nested_beyond : (n level : ℕ) → suc level_limit ≤ level + n → ¬ (IsProofWithin counting 0 level (nested n))
nested_beyond zero level h w = omega (arith, h, w.0)
nested_beyond (suc n) level h w = nested_beyond n (suc level) (omega (arith, h)) w.1

-- a number past a limit isn't within it
past : (n limit : ℕ) → limit + 1 ≤ n → ¬ (n ≤ limit)
past n limit h k = omega (arith, h, k)

-- the worked limits hold
pub limits_worked_out : LimitsAreWorkedOut
limits_worked_out = record {
  loop = record {
    lemmas = (enter_within, (loop_within, (size_enter_within, (size_loop_within, tt))));
    few_lemmas = omega arith;
    gaps = All-nil (IsGapWithin counting);
    few_gaps = omega arith;
  };
  earlier = (omega arith, (omega arith, omega arith));
  itself = λ h. past 1 0 (omega arith) h.1.1;
  lemma_zero = λ h. past 1 0 (omega arith) h.1.0;
  levels = nested_within 63 1 (omega arith);
  one_deeper = nested_beyond 64 1 (omega arith);
  lemmas = λ lemmas within few. record {
    lemmas = within;
    few_lemmas = few;
    gaps = All-nil (IsGapWithin counting);
    few_gaps = omega arith;
  };
  too_many_lemmas = λ lemmas many h. let few = h.few_lemmas in past 100001 100000 (omega arith) (omega (arith, many, few));
  gaps = λ gaps within few. record { lemmas = tt; few_lemmas = omega arith; gaps = within; few_gaps = few };
  too_many_gaps = λ gaps many h. let few = h.few_gaps in past 1001 1000 (omega arith) (omega (arith, many, few));
  rule_zero = λ h. no_rule_zero h.0.1;
  last_rule = ((omega arith, second_rule), tt);
  rule_behind = λ h. no_third_rule h.0.1;
  large = (omega arith, (first_rule, one_multiplier (2 ^ 56) (omega arith)));
  too_large = λ h. past (2 ^ 56 + 1) certificate_limit (omega arith) (All-head IsInLimit (2 ^ 56 + 1) [] h.1.1);
  negative = (omega arith, small_form (negsuc (2 ^ 56 - 1)) (pos 0) (omega arith) (omega arith), no_multipliers);
  too_negative = λ h. past (2 ^ 56 + 1) certificate_limit (omega arith)
      (All-head (λ (c : ℤ). IsInLimit (nat_abs c)) (negsuc (2 ^ 56)) [] h.1.coefs);
  large_point = record {
    parts = All-cons (λ (x : ℤ). nat_abs x ≤ point_limit) (pos (2 ^ 45)) [] (omega arith)
        (All-nil (λ (x : ℤ). nat_abs x ≤ point_limit));
    den = omega arith;
  };
  too_large_point = λ h. past (2 ^ 45 + 1) point_limit (omega arith)
      (All-head (λ (x : ℤ). nat_abs x ≤ point_limit) (pos (2 ^ 45 + 1)) [] h.parts);
  too_large_den = λ h. past (2 ^ 45 + 1) point_limit (omega arith) h.den;
  place = record { symbol = omega arith; least = omega arith; most = omega arith };
  place_zero = λ h. past 1 0 (omega arith) h.least;
  place_behind = λ h. past 2 1 (omega arith) h.most;
  no_symbol = λ h. past 3 2 (omega arith) h.symbol;
  no_member = λ h. past 1 0 (omega arith) h.0.1.0;
  bound = (
    (
      omega arith,
      record {
        tidy = (omega arith, tt);
        listed = (tt, omega arith);
        within = record { levels = omega arith; nodes = omega arith; bases = (omega arith, tt) };
      },
    ),
    (omega arith, tt),
  );
  small_base = λ h. past 2 1 (omega arith) h.0.1.tidy.0;
  too_many_nodes = λ b many h. let few = h.within.nodes in past 4097 4096 (omega arith) (omega (arith, many, few));
  too_many_levels = λ b many h. let few = h.within.levels in past 201 200 (omega arith) (omega (arith, many, few));
  no_input = λ h. past 2 1 (omega arith) h.0.1.listed;
}
