-- The rule that is found by its number.
use Rattle.std.proofs.Common.{◌≡◌, ℕ, zero, suc, ◌-◌, ◌<◌, ◌≤◌, List, [], ◌∷◌, length, get_or, map, Option, Some, None}
use Rattle.std.proofs.Common.{Bor, refl, sym, subst, arith}
use Rattle.std.specs.Prelude.{slice_get, option_map}
use Rattle.std.specs.Slice.{IsItemAt}
use Rattle.refinement.specs.model.Programs as plain
use Rattle.its_model.specs.declared.program.Rule.{Rule}
use Rattle.its_model.specs.declared.program.Program.{Program}
use Rattle.its_model.specs.Views.{rule_of, program_of}
use Rattle.its_model.proofs.ListLaws.{mapped-get}

-- past the end of a list there is no rule
get-past : (rs : List Rule) (i : ℕ) → length rs ≤ i → slice_get (map rule_of rs) i ≡ None
get-past [] i l = refl
get-past (q ∷ rs) zero l = absurd (omega (arith, l))
get-past (q ∷ rs) (suc i) l = get-past rs i (omega (arith, l))

-- the rule at the position one less than a number, from 1 on, is the rule with that number
pub rule-numbered : (p : Program) (n : ℕ) (o : Option (Bor Rule)) → 0 < n → IsItemAt p.rules.items (n - 1) o
    → option_map (λ r. rule_of r.now) o ≡ plain.rule_at (program_of p) n
rule-numbered p zero o low h = absurd (omega (arith, low))
rule-numbered p (suc t) None low h =
    let g : suc t - 1 ≡ t = omega arith in
    sym (get-past p.rules.items t (omega (arith, g, h.3)))
rule-numbered p (suc t) (Some r) low h =
    let g : suc t - 1 ≡ t = omega arith in
    sym (mapped-get rule_of p.rules.items t r.now (omega (arith, g, h.3.0))
    (subst (λ (i : ℕ). r.now ≡ get_or p.rules.items i r.now) g h.1))
