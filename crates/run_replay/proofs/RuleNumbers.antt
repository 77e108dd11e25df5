-- Rules by their numbers.
use Rattle.std.proofs.Common.{◌≡◌, ℕ, zero, suc, ◌^◌, ◌<◌, ◌≤◌, ◌-◌, List, [], ◌∷◌, length, false, refl, ap, sym, ◌∙◌}
use Rattle.std.proofs.Common.{subst, arith, Some}
use Rattle.std.specs.Prelude.{slice_get, slice_index_or}
use Rattle.std.specs.Option.{option_map}
use Rattle.std.proofs.lemmas.Bool.Decides.{nat_tests}
use Rattle.std.proofs.lemmas.Option.{slice_get-map, slice_get-get_or, slice_get_past, slice_get_within}
use Rattle.its_model.specs.declared.program.Rule as code
use Rattle.its_model.specs.declared.program.Program as code_program
use Rattle.its_model.specs.model.Programs.{Program, Rule, rule_at, arity_of}
use Rattle.its_model.specs.Views.{rule_of, program_of}
use Rattle.run_replay.specs.Texts.{free_or, is_no_rule, wanted}

-- the number of values of a line is that of the free variables of its rule
pub wanted_there : (p : code_program.Program) (n : ℕ) (r : code.Rule) → 0 < n → n - 1 < length p.rules.items
    → r ≡ slice_index_or p.rules.items (n - 1) r → r.free ≡ wanted (program_of p) n
wanted_there p zero r h l e = absurd (omega (arith, h))
wanted_there p (suc n) r h l e =
    let same : suc n - 1 ≡ n = omega arith in
    let found : slice_get p.rules.items n ≡ Some r =
    slice_get-get_or p.rules.items n r (omega (arith, l))
    ∙ ap (λ (q : code.Rule). Some q) (sym (subst (λ (i : ℕ). r ≡ slice_index_or p.rules.items i r) same e)) in
    sym (ap (free_or (arity_of (program_of p) (program_of p).start))
    (slice_get-map rule_of p.rules.items n ∙ ap (option_map rule_of) found))

-- if there is no rule with the number, the number of values is that of the start places
pub wanted_past : (p : code_program.Program) (n : ℕ) → length p.rules.items ≤ n - 1
    → arity_of (program_of p) (program_of p).start ≡ wanted (program_of p) n
wanted_past p zero l = refl
wanted_past p (suc n) l =
    sym (ap (free_or (arity_of (program_of p) (program_of p).start))
    (slice_get-map rule_of p.rules.items n ∙ ap (option_map rule_of) (slice_get_past p.rules.items n (omega (arith, l)))))

-- a number that isn't refused is that of a rule, as plain data, and conversely
pub rule_there : (p : Program) (n : ℕ) → is_no_rule p n ≡ false → (q : Rule) × (rule_at p n ≡ Some q)
rule_there p zero h = cc
rule_there p (suc n) h = go p.rules n (grind (arith, nat_tests))
  where
    go : (rules : List Rule) (n : ℕ) → suc n ≤ length rules → (q : Rule) × (slice_get rules n ≡ Some q)
    go [] n k = absurd (omega (arith, k))
    go (q ∷ rules) zero k = (q, refl)
    go (q ∷ rules) (suc n) k = go rules n (omega (arith, k))

pub rule_some : (p : Program) (n : ℕ) (q : Rule) → rule_at p n ≡ Some q → (1 ≤ n) × (n ≤ length p.rules)
rule_some p zero q e = cc
rule_some p (suc n) q e = let l = slice_get_within p.rules n q e in (omega arith, omega (arith, l))

-- a number that isn't refused is that of a rule, and conversely
pub rule_passed : (p : Program) (n : ℕ) → is_no_rule p n ≡ false → (1 ≤ n) × (n ≤ length p.rules) × (n < 2 ^ 32)
rule_passed p n h = (grind (arith, nat_tests), grind (arith, nat_tests), grind (arith, nat_tests))

pub rule_taken : (p : Program) (n : ℕ) → 1 ≤ n → n ≤ length p.rules → n < 2 ^ 32 → is_no_rule p n ≡ false
rule_taken p n l k h = grind (arith, nat_tests)
