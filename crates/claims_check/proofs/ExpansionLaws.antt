-- Costs and updates of valid programs can be expanded.
use Rattle.std.proofs.Common.{◌≡◌, ◌+◌, ◌<◌, ◌≤◌, ◌||◌, ◌∙◌, ℕ, Bool, false, length, map, get_or, Option, Some, None}
use Rattle.std.proofs.Common.{nat_lt, if◌then◌else◌, sym, ap, arith}
use Rattle.std.proofs.lemmas.Bool.Decides.{nat_tests}
use Rattle.std.specs.Prelude.{option_map, IfSome}
use Rattle.model.specs.Terms.{Term, Negation}
use Rattle.model.specs.Programs.{Program, Rule, rule_at}
use Rattle.model.specs.Polynomials.{Polynomial, degree_of}
use Rattle.model.specs.Limits.{monomial_limit, degree_limit}
use Rattle.poly_terms.specs.Expanding.{expanded, opposite}
use Rattle.poly_terms.specs.Faults.{Fault, LargeCoefficient, ManyTerms, HighDegree, has_large, fault_in, fault_of}
use Rattle.poly_terms.specs.Faults.{first_fault, or_else}
use Rattle.poly_terms.specs.Views.{term_of}
use Rattle.poly_terms.proofs.AnswerLaws.{expanded-small, opposite-small}
use Rattle.poly_terms.proofs.FaultLaws.{first-one}
use Rattle.poly_terms.proofs.FormLaws.{narrow-bounded}
use Rattle.its_model.specs.declared.program.Program as code_program
use Rattle.its_model.specs.declared.program.Rule as code_rule
use Rattle.its_model.specs.Valid.{IsValid, IsValidRule, IsValidCost, IsValidTerm}
use Rattle.its_model.specs.Views.{program_of, rule_of}
use Rattle.its_model.proofs.ListLaws.{mapped-all}
use Rattle.its_model.proofs.ValidLaws.{holds-at, rule-valid}
use Rattle.program_claims.specs.Copies.{update_at}
use Rattle.program_claims.proofs.ClaimLaws.{of-rule}

-- a polynomial within the limits has no fault
within-limits : (q : Polynomial) → has_large q ≡ false → length q ≤ monomial_limit → degree_of q ≤ degree_limit
    → fault_in q 1 ≡ None
within-limits q h l d =
    go (has_large q) (nat_lt monomial_limit (length q)) (nat_lt degree_limit (degree_of q)) h few low
  where
    few : nat_lt monomial_limit (length q) ≡ false
    few = grind (arith, nat_tests)

    low : nat_lt degree_limit (degree_of q) ≡ false
    low = grind (arith, nat_tests)

    go : (a b c : Bool) → a ≡ false → b ≡ false → c ≡ false
        → (if a then Some LargeCoefficient else (if b then Some ManyTerms else
        (if false || c then Some HighDegree else None)))
        ≡ None
    go a b c e f g =
        λ i. if e i then Some LargeCoefficient else (if f i then Some ManyTerms else
        (if false || g i then Some HighDegree else None))

-- the opposite of an expression without a fault has none
pub negation-expands : (u : Term) → first_fault u ≡ None → first_fault (Negation u) ≡ None
negation-expands u h =
    let small = opposite-small (expanded u) (expanded-small u h) in
    first-one u (Negation u)
    ∙ (ap (λ (f : Option Fault). or_else f (fault_of (Negation u))) h
    ∙ within-limits (map opposite (expanded u)) (narrow-bounded (map opposite (expanded u)) small.coefficients)
    small.terms small.degree)

-- nor has a valid cost
cost-expands : (n : ℕ) (o : Option Term) → IsValidCost n o → IfSome o (λ c. first_fault c ≡ None)
cost-expands n None h = tt
cost-expands n (Some c) h = h.expands

pub cost-expands_at : (p : code_program.Program) (i : ℕ) (r : code_rule.Rule) → IsValid (program_of p)
    → i < length p.rules.items → r ≡ get_or p.rules.items i r
    → IfSome (option_map term_of r.cost) (λ c. first_fault c ≡ None)
cost-expands_at p i r valid low e =
    cost-expands (r.left + r.free) (option_map term_of r.cost)
    (mapped-all (IsValidRule (program_of p)) rule_of p.rules.items i r valid.rules low e).cost

pub cost-expands_of : (p : Program) (n : ℕ) (r : Rule) → IsValid p → Some r ≡ rule_at p n
    → IfSome r.cost (λ c. first_fault c ≡ None)
cost-expands_of p n r valid e = cost-expands (r.left + r.free) r.cost (rule-valid p n r valid (sym e)).cost

-- nor an update
pub update-expands : (p : Program) (n place : ℕ) (u : Term) → IsValid p → Some u ≡ update_at (rule_at p n) place
    → first_fault u ≡ None
update-expands p n place u valid e =
    let found = of-rule p n place u (sym e) in
    (holds-at (IsValidTerm (found.0.left + found.0.free)) found.0.updates found.1 u
    (rule-valid p n found.0 valid found.2).updates found.4).expands
