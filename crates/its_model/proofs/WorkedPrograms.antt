-- The worked values of valid programs.
use Rattle.std.proofs.Common.{ℕ, zero, suc, ◌+◌, ◌≤◌, List, [], ◌∷◌, length, replicate, refl, arith}
use Rattle.std.specs.Prelude.{pos}
use Rattle.std.specs.List.{AllByRecursion}
use Rattle.std.proofs.lemmas.List.{length-replicate}
use Rattle.poly_terms.specs.model.Terms.{Term, Literal, Variable, Subtraction, Exponentiation}
use Rattle.poly_terms.specs.model.Programs.{AtLeast, Atom, Always, Compare, Rule}
use Rattle.its_model.specs.Valid.{IsValidRule, IsValidAtom, IsValidTerm}
use Rattle.its_model.specs.WorkedPrograms.{rule_with, rule_costing, starting_at, ProgramsAreValid, PartsAgree}
use Rattle.its_model.specs.WorkedPrograms.{LimitsAreKept}
use Rattle.its_model.specs.WorkedPrograms.{DifferencesAreTaken, ProgramsAreWorkedOut}

-- The worked values of the validity of programs hold.
valid : ProgramsAreValid
valid = record {
  small = record {
    symbols = (record { name = (refl, refl); arity = omega arith }, (record { name = (refl, refl); arity = omega arith }, tt));
    distinct = (refl, (refl, tt));
    few_rules = omega arith;
    rules = (
      record {
        source = omega arith;
        target = omega arith;
        left = refl;
        places = refl;
        named = refl;
        names = ((refl, refl), ((refl, refl), tt));
        distinct = (refl, (refl, tt));
        few_variables = omega arith;
        few_atoms = omega arith;
        updates = (record { variables = (omega arith, omega arith); expands = refl }, tt);
        guard = (record { left = omega arith; right = omega arith; expands = refl }, tt);
        cost = tt;
      },
      tt,
    );
    start = omega arith;
    start_is_source = refl;
    start_places = refl;
    start_names = ((refl, refl), ((refl, refl), tt));
    start_distinct = (refl, (refl, tt));
  };
  third_variable = λ h. absurd (let l = h.rules.0.updates.0.variables in omega (arith, l));
  two_updates = λ h. absurd (let l = h.rules.0.places in omega (arith, l));
  no_update = λ h. absurd (let l = h.rules.0.places in omega (arith, l));
  ninth_power = λ h. let e = h.rules.0.updates.0.expands in cc;
  ninth_power_in_guard = λ h. let e = h.rules.0.guard.0.expands in cc;
  large_difference = λ h. let e = h.rules.0.guard.0.expands in cc;
  maximum_literal = record {
    symbols = (record { name = (refl, refl); arity = omega arith }, (record { name = (refl, refl); arity = omega arith }, tt));
    distinct = (refl, (refl, tt));
    few_rules = omega arith;
    rules = (
      record {
        source = omega arith;
        target = omega arith;
        left = refl;
        places = refl;
        named = refl;
        names = ((refl, refl), ((refl, refl), tt));
        distinct = (refl, (refl, tt));
        few_variables = omega arith;
        few_atoms = omega arith;
        updates = (record { variables = omega arith; expands = refl }, tt);
        guard = (record { left = omega arith; right = tt; expands = refl }, tt);
        cost = tt;
      },
      tt,
    );
    start = omega arith;
    start_is_source = refl;
    start_places = refl;
    start_names = ((refl, refl), ((refl, refl), tt));
    start_distinct = (refl, (refl, tt));
  };
  start_is_target = λ h. let e = h.start_is_source in cc;
  no_rule = λ h. let e = h.start_is_source in cc;
}

-- A property of an element holds of each of its copies.
copies : {X : Type 0} (P : X → Type 0) (n : ℕ) (x : X) → P x → AllByRecursion P (replicate n x)
copies P zero x h = tt
copies P (suc n) x h = (h, copies P n x h)

-- A rule of the program with l0 and l1, from l0(A, B) to l1(A), is valid.
plain_rule : (rules : List Rule) (guard : List Atom) → length guard + 0 ≤ 64 → AllByRecursion (IsValidAtom 2) guard → IsValidRule (starting_at 0 rules) (rule_with (Variable 0 ∷ []) guard)
plain_rule rules guard few each = record {
  source = omega arith;
  target = omega arith;
  left = refl;
  places = refl;
  named = refl;
  names = ((refl, refl), ((refl, refl), tt));
  distinct = (refl, (refl, tt));
  few_variables = omega arith;
  few_atoms = few;
  updates = (record { variables = omega arith; expands = refl }, tt);
  guard = each;
  cost = tt;
}

-- A rule of that program with a cost, from l0(A, B) to l1(A), is valid.
costing_rule : (c : Term) (guard : List Atom) → length guard + 1 ≤ 64 → AllByRecursion (IsValidAtom 2) guard → IsValidTerm 2 c → IsValidRule (starting_at 0 []) (rule_costing c guard)
costing_rule c guard few each valid = record {
  source = omega arith;
  target = omega arith;
  left = refl;
  places = refl;
  named = refl;
  names = ((refl, refl), ((refl, refl), tt));
  distinct = (refl, (refl, tt));
  few_variables = omega arith;
  few_atoms = few;
  updates = (record { variables = omega arith; expands = refl }, tt);
  guard = each;
  cost = valid;
}

-- The worked values of rules, symbols and starts hold.
parts : PartsAgree
parts = record {
  free_variable = record {
    source = omega arith;
    target = omega arith;
    left = refl;
    places = refl;
    named = refl;
    names = ((refl, refl), ((refl, refl), ((refl, refl), tt)));
    distinct = (refl, (refl, (refl, tt)));
    few_variables = omega arith;
    few_atoms = omega arith;
    updates = (record { variables = omega arith; expands = refl }, tt);
    guard = tt;
    cost = tt;
  };
  no_symbol = λ h. absurd (let l = h.source in omega (arith, l));
  one_left = λ h. absurd (let l = h.left in omega (arith, l));
  three_left = λ h. absurd (let l = h.left in omega (arith, l));
  to_start = record {
    source = omega arith;
    target = omega arith;
    left = refl;
    places = refl;
    named = refl;
    names = ((refl, refl), ((refl, refl), tt));
    distinct = (refl, (refl, tt));
    few_variables = omega arith;
    few_atoms = omega arith;
    updates = (record { variables = omega arith; expands = refl }, (record { variables = omega arith; expands = refl }, tt));
    guard = tt;
    cost = tt;
  };
  no_target = λ h. absurd (let l = h.target in omega (arith, l));
  second_in_guard = plain_rule [] (Compare (Variable 1) AtLeast (Variable 0) ∷ []) (omega arith)
      (record { left = omega arith; right = omega arith; expands = refl }, tt);
  third_in_guard = λ h. absurd (let l = h.guard.0.left in omega (arith, l));
  third_behind_sign = λ h. absurd (let l = h.guard.0.right in omega (arith, l));
  cost = costing_rule (Variable 1) [] (omega arith) tt (record { variables = omega arith; expands = refl });
  eighth_power = costing_rule (Subtraction (Exponentiation (Variable 0) 8) (Literal (pos 3))) [] (omega arith) tt
      (record { variables = (omega arith, tt); expands = refl });
  third_in_cost = λ h. absurd (let l = h.cost.variables in omega (arith, l));
  ninth_power_in_cost = λ h. let e = h.cost.expands in cc;
  same_names = λ h. let e = h.distinct.0 in cc;
  one_name = λ h. absurd (let l = h.named in omega (arith, l));
  empty_name = λ h. h.names.1.0;
  digit = λ h. let e = h.names.1.0.0 in cc;
  digit_symbol = λ h. let e = h.symbols.0.name.0 in cc;
  nameless_symbol = λ h. h.symbols.0.name;
  digit_start_name = λ h. let e = h.start_names.1.0.0 in cc;
  nameless_start = λ h. h.start_names.1.0;
  same_symbols = λ h. let e = h.distinct.0 in cc;
  one_start_name = λ h. absurd (let l = h.start_places in omega (arith, l));
  same_start_names = λ h. let e = h.start_distinct.0 in cc;
}

-- The worked values of the limits hold.
limits : LimitsAreKept
limits = record {
  places = record { name = (refl, refl); arity = omega arith };
  more_places = λ h. absurd (let l = h.arity in omega (arith, l));
  atoms = plain_rule [] (replicate 64 Always) (omega (arith, length-replicate 64 Always)) (copies (IsValidAtom 2) 64 Always tt);
  more_atoms = λ h. absurd (let l = h.few_atoms in omega (arith, l, length-replicate 65 Always));
  atoms_and_cost = costing_rule (Variable 1) (replicate 63 Always) (omega (arith, length-replicate 63 Always)) (copies (IsValidAtom 2) 63 Always tt)
      (record { variables = omega arith; expands = refl });
  more_and_cost = λ h. absurd (let l = h.few_atoms in omega (arith, l, length-replicate 64 Always));
  rules = record {
    symbols = (record { name = (refl, refl); arity = omega arith }, (record { name = (refl, refl); arity = omega arith }, tt));
    distinct = (refl, (refl, tt));
    few_rules = omega (arith, length-replicate 1000 (rule_with (Variable 0 ∷ []) []));
    rules = copies (IsValidRule (starting_at 0 (replicate 1000 (rule_with (Variable 0 ∷ []) [])))) 1000 (rule_with (Variable 0 ∷ []) [])
        (plain_rule (replicate 1000 (rule_with (Variable 0 ∷ []) [])) [] (omega arith) tt);
    start = omega arith;
    start_is_source = refl;
    start_places = refl;
    start_names = ((refl, refl), ((refl, refl), tt));
    start_distinct = (refl, (refl, tt));
  };
  more_rules = λ h. absurd (let l = h.few_rules in omega (arith, l, length-replicate 1001 (rule_with (Variable 0 ∷ []) [])));
  more_variables = λ names h. absurd (let l = h.few_variables in omega (arith, l));
}

-- The worked values of differences hold.
differences : DifferencesAreTaken
differences = record { at_least = refl; more_than = refl; at_most = refl; less_than = refl; equal_to = refl }

pub programs-are-worked-out : ProgramsAreWorkedOut
programs-are-worked-out = record { valid = valid; parts = parts; limits = limits; differences = differences }
