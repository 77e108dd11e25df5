-- The rule with a number, among those of the code's program.
use Rattle.std.proofs.Common.{◌≡◌, ℕ, zero, suc, ◌-◌, ◌<◌, ◌≤◌, List, [], ◌∷◌, length, get_or, map, refl, sym, ◌∙◌}
use Rattle.std.proofs.Common.{subst, arith}
use Rattle.std.specs.Prelude.{Some, None, slice_get}
use Rattle.poly_terms.specs.model.Programs as plain
use Rattle.its_model.specs.declared.program.Rule.{Rule}
use Rattle.its_model.specs.declared.program.Program.{Program}
use Rattle.its_model.specs.Views.{rule_of, program_of}
use Rattle.its_model.proofs.ListLaws.{mapped-get, mapped-within}

-- There is no element past the end.
get-past : (rs : List Rule) (i : ℕ) → length rs ≤ i → slice_get (map rule_of rs) i ≡ None
get-past [] i l = refl
get-past (q ∷ rs) zero l = absurd (omega arith)
get-past (q ∷ rs) (suc i) l = get-past rs i (omega arith)

-- The rule with number n is at position n - 1.
pub rule-at : (p : Program) (n : ℕ) (r : Rule) → 0 < n → n - 1 < length p.rules.items → r ≡ get_or p.rules.items (n - 1) r → plain.rule_at (program_of p) n ≡ Some (rule_of r)
rule-at p zero r h l e = absurd (omega arith)
rule-at p (suc t) r h l e =
    mapped-get rule_of p.rules.items t r (omega arith) (subst (λ (i : ℕ). r ≡ get_or p.rules.items i r) (let g : suc t - 1 ≡ t = omega arith in g) e)

-- A number past the end has no rule.
pub rule-past : (p : Program) (n : ℕ) → 0 < n → length p.rules.items ≤ n - 1 → plain.rule_at (program_of p) n ≡ None
rule-past p zero h l = absurd (omega arith)
rule-past p (suc t) h l = get-past p.rules.items t (omega arith)

-- The number of a rule is above 0 and not past the end.
pub rule-within : (p : Program) (n : ℕ) (q : plain.Rule) → plain.rule_at (program_of p) n ≡ Some q → (0 < n) × (n - 1 < length p.rules.items)
rule-within p zero q e = cc
rule-within p (suc t) q e = let l = mapped-within rule_of p.rules.items t q e in (omega arith, omega (arith, l))

-- The rule found by a number is the one at the position before it.
pub rule-found : (p : Program) (n : ℕ) (q : plain.Rule) (r : Rule) → plain.rule_at (program_of p) n ≡ Some q → r ≡ get_or p.rules.items (n - 1) r → q ≡ rule_of r
rule-found p n q r e f =
    let within = rule-within p n q e in
    let g : Some q ≡ Some (rule_of r) = sym e ∙ rule-at p n r within.0 within.1 f in cc
