-- Derivations whose keys are open one after the other.
use Rattle.std.proofs.Common.{◌≡◌, ℕ, zero, suc, ◌<◌, ◌≤◌, List, [], ◌∷◌, ◌++◌, length, map, take}
use Rattle.std.proofs.Common.{get_or, refl, sym, ◌∙◌, ap, subst, append_assoc, arith, All}
use Rattle.std.proofs.lemmas.List.{append-nil}
use Rattle.std.proofs.lemmas.List.Elements.{All-head, All-tail}
use Rattle.model.specs.Programs.{Program}
use Rattle.cert_types.specs.cert_rules.Setting.{Setting}
use Rattle.bound_fixpoint.specs.Derivations as plain
use Rattle.bound_fixpoint.specs.Justification.{AreJustifiedAfter}
use Rattle.bound_derivations.specs.declared.derivation.Derivation.{Derivation}
use Rattle.bound_derivations.specs.Books.{IsKey, AreOpen}
use Rattle.bound_derivations.specs.Views.{derivation_of, derivations_of}
use Rattle.time_bounds.specs.OpenDerivations.{AreOpenAfter}

-- mapping the identity leaves a list unchanged
pub map-same : {A : Type 0} (xs : List A) → map (λ x. x) xs ≡ xs
map-same [] = refl
map-same (x ∷ xs) = ap (λ (ys : List _). x ∷ ys) (map-same xs)

-- the derivation at a position is open after those before it
pub open_at : (p : Program) (earlier : List plain.Derivation) (xs : List Derivation) (i : ℕ) (d : Derivation) → AreOpenAfter p earlier (derivations_of xs)
    → i < length xs → AreOpen p (earlier ++ derivations_of (take i xs)) (derivation_of (get_or xs i d)).keys
open_at p earlier [] i d h l = absurd (omega (arith, l))
open_at p earlier (x ∷ xs) zero d h l =
    subst (λ (fs : List plain.Derivation). AreOpen p fs (derivation_of x).keys) (sym (append-nil earlier)) h.0
open_at p earlier (x ∷ xs) (suc i) d h l =
    subst (λ (fs : List plain.Derivation). AreOpen p fs (derivation_of (get_or xs i d)).keys)
    (append_assoc earlier (derivation_of x ∷ []) (derivations_of (take i xs)))
    (open_at p (earlier ++ derivation_of x ∷ []) xs i d h.1 (omega (arith, l)))

-- the same for a derivation that is read, after those that were taken
pub open_read : (p : Program) (earlier taken : List plain.Derivation) (xs yielded : List Derivation) (x : Derivation) → AreOpenAfter p earlier (derivations_of xs)
    → taken ≡ earlier ++ derivations_of yielded → yielded ≡ take (length yielded) xs → length yielded < length xs
    → x ≡ get_or xs (length yielded) x → AreOpen p taken (derivation_of x).keys
open_read p earlier taken xs yielded x h is so_far low e =
    subst (λ (fs : List plain.Derivation). AreOpen p fs (derivation_of x).keys)
    (sym (is ∙ ap (λ (ys : List Derivation). earlier ++ derivations_of ys) so_far))
    (subst (λ (y : Derivation). AreOpen p (earlier ++ derivations_of (take (length yielded) xs)) (derivation_of y).keys) (sym e)
    (open_at p earlier xs (length yielded) x h low))

-- the keys of each of these derivations are keys of rules, and there is at least one
pub record HasKeysOfRules (p : Program) (f : plain.Derivation) : Type 0 where
  pub some : 1 ≤ length f.keys
  pub each : All (λ k. IsKey p k.rule k.place) f.keys

-- derivations that are justified one after the other are open
pub open_still_true : (s : Setting) (earlier fs : List plain.Derivation) → All (HasKeysOfRules s.program) fs → AreJustifiedAfter s earlier fs
    → AreOpenAfter s.program earlier fs
open_still_true s earlier [] keys h = tt
open_still_true s earlier (f ∷ fs) keys h =
    let own = All-head (HasKeysOfRules s.program) f fs keys in (
      record { some = own.some; each = own.each; unknown = h.0.fresh },
      open_still_true s (earlier ++ f ∷ []) fs (All-tail (HasKeysOfRules s.program) f fs keys) h.1,
    )
