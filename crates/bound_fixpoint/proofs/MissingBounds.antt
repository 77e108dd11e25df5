-- Bounds that are missing after derivations, and those still missing after more of them.
use Rattle.std.proofs.Common.{◌≡◌, ℕ, zero, suc, true, List, [], ◌∷◌, ◌++◌, None, refl, ◌∙◌, All}
use Rattle.std.proofs.lemmas.List.Elements.{All-nil, All-cons}
use Rattle.rule_questions.specs.model.Programs.{Program}
use Rattle.rule_questions.specs.cert_rules.Nodes.{ResultVariable}
use Rattle.rule_questions.specs.cert_rules.AcceptsPlain.{IsRule}
use Rattle.bound_fixpoint.specs.Keys.{key, has_key}
use Rattle.bound_fixpoint.specs.Derivations.{Derivation, bound_found, bounds_of}
use Rattle.bound_fixpoint.proofs.Cases.{none_some}
use Rattle.bound_fixpoint.proofs.Keys.{has_key-first, has_key-later}
use Rattle.bound_fixpoint.proofs.DerivationLists.{bounds_of-new, bounds_of-missing}

-- a property of each key found among these is one of all
pub all-has_key : (P : ResultVariable → Type 0) (keys : List ResultVariable) → ((t i : ℕ) → has_key keys t i ≡ true → P (key t i))
    → All P keys
all-has_key P [] each = All-nil P
all-has_key P (k ∷ keys) each =
    All-cons P k keys (each k.rule k.place (has_key-first k keys))
    (all-has_key P keys (λ t i m. each t i (has_key-later k keys t i m)))

-- a missing bound that isn't derived is still missing
pub missing_still : (p : Program) (fs gs : List Derivation) (t i : ℕ) → bounds_of p fs t i ≡ None → bound_found gs t i ≡ None
    → bounds_of p (fs ++ gs) t i ≡ None
missing_still p fs gs t i e f = bounds_of-new p fs gs t i e ∙ f

-- a bound missing after more derivations was missing before
pub missing_before : (p : Program) (fs gs : List Derivation) (t i : ℕ) → bounds_of p (fs ++ gs) t i ≡ None
    → bounds_of p fs t i ≡ None
missing_before p fs gs t i e = (bounds_of-missing p fs gs t i e).0

-- a rule's bounds are those that were found
pub rule_bounds : (p : Program) (fs : List Derivation) (t i : ℕ) → IsRule p t → bounds_of p fs t i ≡ bound_found fs t i
rule_bounds p fs zero i rule = absurd (none_some rule.rule rule.numbered)
rule_bounds p fs (suc t) i rule = refl
