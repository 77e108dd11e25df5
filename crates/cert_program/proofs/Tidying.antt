-- The setting of a valid program makes bounds that can be printed, and so the facts of accepted lemmas can be.
use Rattle.std.proofs.Common.{◌≡◌, ℕ, zero, suc, ◌+◌, Bool, true, false, if◌then◌else◌, List, [], ◌∷◌, map}
use Rattle.std.proofs.Common.{option_map, Option, Some, None, refl, sym, subst, arith, All}
use Rattle.std.specs.List.{AllByRecursion}
use Rattle.guard_prep.specs.model.Limits.{coefficient_limit}
use Rattle.guard_prep.specs.model.Terms.{Term}
use Rattle.guard_prep.specs.model.Programs.{Program, Rule, rule_at}
use Rattle.guard_prep.specs.model.Costs.{cost_rule}
use Rattle.guard_prep.specs.model.Polynomials.{Polynomial}
use Rattle.guard_prep.specs.poly_terms.Expanding.{expanded}
use Rattle.guard_prep.specs.poly_terms.Ordered.{IsBounded}
use Rattle.guard_prep.proofs.poly_terms.AnswerLaws.{expanded-small}
use Rattle.guard_prep.specs.its_model.Valid.{IsValidTerm, IsValidCost, IsValid}
use Rattle.guard_prep.specs.Prepared.{is_nonlinear}
use Rattle.guard_prep.proofs.StepLaws.{valid-at}
use Rattle.bound_table.proofs.TableInForce.{rewritten-tidy, rewritten-reads}
use Rattle.cert_rules.specs.Acceptance.{facts_of_lemmas}
use Rattle.cert_rules.specs.Printable.{HasSmallCoefficients, HasTidyFactNumbers, IsPrintableFact}
use Rattle.cert_rules.proofs.PrintableFacts.{accepted-facts-printable}
use Rattle.cert_program.specs.Setting.{polys_in, nonlinear_at, cost_rule_in, setting_of}
use Rattle.cert_program.specs.Laws.{SettingsAreTidying, AcceptedFactsArePrintable}

-- coefficients of at most 2^63 - 1 are small
bounded-small : (q : Polynomial) → IsBounded coefficient_limit q → HasSmallCoefficients q
bounded-small [] h = tt
bounded-small (m ∷ q) h = (omega (arith, h.0), bounded-small q h.1)

-- no polynomial is given if there is none
no_nonlinear : (q : Polynomial) → None ≡ Some q → ⊥
no_nonlinear q e = cc

-- the polynomial of a nonlinear term among valid ones has small coefficients
nonlinear-small : (n : ℕ) (us : List Term) → AllByRecursion (IsValidTerm n) us → (i : ℕ) (q : Polynomial)
    → nonlinear_at (map expanded us) i ≡ Some q → HasSmallCoefficients q
nonlinear-small n [] h i q e = absurd (no_nonlinear q e)
nonlinear-small n (u ∷ us) h (suc i) q e = nonlinear-small n us h.1 i q e
nonlinear-small n (u ∷ us) h zero q e = go (is_nonlinear (expanded u)) e
  where
    go : (v : Bool) → (if v then Some (expanded u) else None) ≡ Some q → HasSmallCoefficients q
    go true k =
        let same : expanded u ≡ q = cc in
        subst HasSmallCoefficients same (bounded-small (expanded u) (expanded-small u h.0.expands).coefficients)
    go false k = absurd (no_nonlinear q k)

-- the polynomial of a nonlinear update of a valid program has small coefficients
updates-small : (p : Program) → IsValid p → (t i : ℕ) (q : Polynomial) → (setting_of p).poly t i ≡ Some q
    → HasSmallCoefficients q
updates-small p valid t i q e = go (rule_at p t) refl e
  where
    go : (o : Option Rule) → rule_at p t ≡ o → nonlinear_at (polys_in o) i ≡ Some q → HasSmallCoefficients q
    go None k h = absurd (no_nonlinear q h)
    go (Some r) k h = nonlinear-small (r.left + r.free) r.updates (valid-at p t r valid k).updates i q h

-- the polynomial of a nonlinear cost has small coefficients
cost-small : (r : Rule) (q : Polynomial) → IsValidCost (r.left + r.free) r.cost
    → nonlinear_at (polys_in (cost_rule_in (Some r))) 0 ≡ Some q → HasSmallCoefficients q
cost-small r q valid e = go r.cost valid e
  where
    go : (o : Option Term) → IsValidCost (r.left + r.free) o
        → nonlinear_at (polys_in (option_map (λ c. cost_rule r c) o)) 0 ≡ Some q → HasSmallCoefficients q
    go None v h = absurd (no_nonlinear q h)
    go (Some c) v h = nonlinear-small (r.left + r.free) (c ∷ []) (v, tt) 0 q h

costs-small : (p : Program) → IsValid p → (t : ℕ) (q : Polynomial) → (setting_of p).cost_poly t ≡ Some q
    → HasSmallCoefficients q
costs-small p valid t q e = go (rule_at p t) refl e
  where
    go : (o : Option Rule) → rule_at p t ≡ o → nonlinear_at (polys_in (cost_rule_in o)) 0 ≡ Some q → HasSmallCoefficients q
    go None k h = absurd (no_nonlinear q h)
    go (Some r) k h = cost-small r q (valid-at p t r valid k).cost h

-- a bound that the table in force rewrites becomes tidy, and reads no further inputs
pub settings-tidying : SettingsAreTidying
settings-tidying = record {
  each = λ p valid. record {
    updates = updates-small p valid;
    costs = costs-small p valid;
    tidy = λ b has. rewritten-tidy b has;
    reads = λ b n reads. (rewritten-reads b).each n reads;
  };
}

-- facts of lemmas that are accepted for a valid program can be printed
pub facts-printable : AcceptedFactsArePrintable
facts-printable = record {
  numbers = λ p valid proofs h.
      subst (λ (n : ℕ). All (All (HasTidyFactNumbers n)) (facts_of_lemmas (setting_of p) proofs)) (sym valid.start_places)
      (accepted-facts-printable.numbers (setting_of p) (settings-tidying.each p valid) proofs h);
  tidy = λ p valid proofs h w.
      subst (λ (n : ℕ). All (All (IsPrintableFact n)) (facts_of_lemmas (setting_of p) proofs)) (sym valid.start_places)
      (accepted-facts-printable.tidy (setting_of p) (settings-tidying.each p valid) proofs h w);
}
