-- The rules, atoms and updates of the code's program are those of the program as plain data, at each index.
use Rattle.std.proofs.Common.{◌≡◌, if◌then◌else◌, Bool, true, false, ℕ, zero, suc, ◌+◌, ◌-◌, ◌<◌, ◌≤◌, List, [], ◌∷◌, ◌++◌}
use Rattle.std.proofs.Common.{length, map, get_or, drop, Option, Some, None, refl, sym, ◌∙◌, ap, subst, arith}
use Rattle.std.specs.Prelude.{slice_get, ℤ, pos}
use Rattle.std.proofs.lemmas.List.{get_or-map, get_or_append_left, get_or-append-add, get_or_past, length-map}
use Rattle.std.proofs.lemmas.List.{length-append, get_or_default}
use Rattle.its_model.specs.declared.program.Rule.{Rule}
use Rattle.its_model.specs.declared.program.Program.{Program}
use Rattle.its_model.specs.Views.{rule_of, program_of}
use Rattle.its_model.specs.model.Programs.{rule_at}
use Rattle.its_model.proofs.ListLaws.{mapped-get}
use Rattle.affine_turns.specs.declared.affine.Affine.{Affine}
use Rattle.affine_turns.specs.Affine.{constant, with_free}

-- no rule has the number 0, and none a number above the number of rules
none_past : (rs : List Rule) (i : ℕ) → length rs ≤ i → slice_get (map rule_of rs) i ≡ None
none_past [] i l = refl
none_past (r ∷ rs) zero l = absurd (omega (arith, l))
none_past (r ∷ rs) (suc i) l = none_past rs i (omega (arith, l))

pub no_rule_past : (p : Program) (n : ℕ) → length p.rules.items < n → rule_at (program_of p) n ≡ None
no_rule_past p zero l = refl
no_rule_past p (suc t) l = none_past p.rules.items t (omega (arith, l))

-- the rule with number n is the one at index n - 1
pub rule_numbered : (p : Program) (n i : ℕ) (r : Rule) → n ≡ i + 1 → i < length p.rules.items
    → r ≡ get_or p.rules.items i r → rule_at (program_of p) n ≡ Some (rule_of r)
rule_numbered p n i r e low there =
    ap (rule_at (program_of p)) (let same : n ≡ suc i = omega (arith, e) in same)
    ∙ mapped-get rule_of p.rules.items i r low there

-- a variable's affine value is that of its place, the constant of its free value, or the constant 0 beyond these
pub place_variable : (places : List Affine) (free : List ℤ) (i : ℕ) (a : Affine) → i < length places
    → a ≡ get_or places i a → a ≡ get_or (with_free places free) i (constant (pos 0))
place_variable places free i a low e =
    e ∙ (get_or_default places i a (constant (pos 0)) low
    ∙ sym (get_or_append_left places (map constant free) (constant (pos 0)) i low))

pub free_variable : (places : List Affine) (free : List ℤ) (i j : ℕ) (z : ℤ) → i ≡ length places + j → j < length free
    → z ≡ get_or free j z → constant z ≡ get_or (with_free places free) i (constant (pos 0))
free_variable places free i j z at low e =
    ap constant e
    ∙ (sym (get_or-map constant free j z (constant (pos 0)) low)
    ∙ (sym (get_or-append-add places (map constant free) j (constant (pos 0)))
    ∙ ap (λ (k : ℕ). get_or (with_free places free) k (constant (pos 0))) (sym at)))

pub no_variable : (places : List Affine) (free : List ℤ) (i : ℕ) → length places + length free ≤ i
    → constant (pos 0) ≡ get_or (with_free places free) i (constant (pos 0))
no_variable places free i l =
    sym (get_or_past (with_free places free) i (constant (pos 0))
    (omega (arith, l, length-append places (map constant free), length-map free constant)))
