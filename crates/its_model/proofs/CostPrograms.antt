-- The program of a cost of a valid program is valid.
use Rattle.std.proofs.Common.{◌≡◌, ℕ, zero, suc, ◌+◌, ◌&&◌, ◌||◌, List, [], ◌∷◌, take, Bool, true, false}
use Rattle.std.proofs.Common.{refl, ap, sym, ◌∙◌, subst, arith, nat_eq, if◌then◌else◌}
use Rattle.std.specs.Prelude.{Some, slice_get, pos}
use Rattle.std.specs.List.{AllByRecursion}
use Rattle.std.proofs.lemmas.List.{length-append, length-take-le}
use Rattle.poly_terms.specs.model.Terms.{Term, Literal}
use Rattle.poly_terms.specs.model.Programs.{Name, AtLeast, Compare, Symbol, Rule, Program, arity_in}
use Rattle.poly_terms.specs.model.Costs.{cost_rule}
use Rattle.text_core.specs.Names.{IsName, is_same, is_among, AreDistinct}
use Rattle.its_model.specs.Valid.{cost_atoms, IsValidCost, IsValidTerm, IsValidAtom, IsValidSymbol, IsValidRule}
use Rattle.its_model.specs.Valid.{IsValid}
use Rattle.its_model.specs.CostPrograms.{cost_name, cost_program, IsCostProgram, CostProgramsStateCosts}
use Rattle.its_model.proofs.ValidLaws.{holds-at, rule-valid}
use Rattle.its_model.proofs.CostTerms.{at-least-zero}
use Rattle.its_model.proofs.CostSteps.{joined-hold, steps-of, charged-of}

-- The name of the target symbol differs from that of the source.
other-name : (n : Name) → is_same n (cost_name n) ≡ false
other-name n = go (is_same n (36 ∷ [])) refl
  where
    and_false : (b : Bool) → (b && false) ≡ false
    and_false true = refl
    and_false false = refl

    longer : (n : Name) → is_same n (36 ∷ []) ≡ true → is_same n (36 ∷ 36 ∷ []) ≡ false
    longer [] h = refl
    longer (b ∷ []) h = and_false (nat_eq b 36)
    longer (b ∷ c ∷ n) h = absurd (no (nat_eq b 36) h)
      where
        no : (t : Bool) → (t && false) ≡ true → ⊥
        no true g = cc
        no false g = cc

    go : (t : Bool) → is_same n (36 ∷ []) ≡ t → is_same n (if t then 36 ∷ 36 ∷ [] else 36 ∷ []) ≡ false
    go true e = longer n e
    go false e = e

-- The name of the target of a cost's program is a name.
cost-name-is : (n : Name) → IsName (cost_name n)
cost-name-is n = go (is_same n (36 ∷ []))
  where
    go : (t : Bool) → IsName (if t then 36 ∷ 36 ∷ [] else 36 ∷ [])
    go true = (refl, refl)
    go false = (refl, refl)

-- A property of all elements holds of the first ones.
first-hold : {X : Type 0} (P : X → Type 0) (n : ℕ) (xs : List X) → AllByRecursion P xs → AllByRecursion P (take n xs)
first-hold P zero xs h = tt
first-hold P (suc n) [] h = tt
first-hold P (suc n) (x ∷ xs) h = (h.0, first-hold P n xs h.1)

-- The first ones of distinct names are distinct.
among-first : (name : Name) (n : ℕ) (names : List Name) → is_among name names ≡ false → is_among name (take n names) ≡ false
among-first name zero names h = refl
among-first name (suc n) [] h = refl
among-first name (suc n) (m ∷ names) h = go (is_same name m) h (among-first name n names)
  where
    go : (b : Bool) → (b || is_among name names) ≡ false → (is_among name names ≡ false → is_among name (take n names) ≡ false)
        → (b || is_among name (take n names)) ≡ false
    go true g ih = cc
    go false g ih = ih g

first-distinct : (n : ℕ) (names : List Name) → AreDistinct names → AreDistinct (take n names)
first-distinct zero names h = tt
first-distinct (suc n) [] h = tt
first-distinct (suc n) (m ∷ names) h = (among-first m n names h.0, first-distinct n names h.1)

-- The cost rule of a valid rule is valid.
rule-of-cost : (p : Program) (s : Symbol) (r : Rule) (k : Term) → IsValidRule p r → r.cost ≡ Some k → slice_get p.symbols r.source ≡ Some s
    → IsValidRule (cost_program s r k) (cost_rule r k)
rule-of-cost p s r k h e f =
    let valid : IsValidTerm (r.left + r.free) k = subst (IsValidCost (r.left + r.free)) e h.cost in record {
      source = omega arith;
      target = omega arith;
      left = h.left ∙ ap arity_in f;
      places = refl;
      named = h.named;
      names = h.names;
      distinct = h.distinct;
      few_variables = h.few_variables;
      few_atoms = omega (arith, h.few_atoms, ap cost_atoms e, length-append r.guard (Compare k AtLeast (Literal (pos 0)) ∷ []));
      updates = (valid, tt);
      guard = joined-hold (IsValidAtom (r.left + r.free)) r.guard (Compare k AtLeast (Literal (pos 0)) ∷ []) h.guard (at-least-zero (r.left + r.free) k valid, tt);
      cost = tt;
    }

-- The program of a cost is valid.
program-of-cost : (p : Program) (s : Symbol) (r : Rule) (k : Term) → IsValidSymbol s → IsValidRule p r → r.cost ≡ Some k → slice_get p.symbols r.source ≡ Some s
    → IsValid (cost_program s r k)
program-of-cost p s r k v h e f = record {
  symbols = (v, (record { name = cost-name-is s.name; arity = omega arith }, tt));
  distinct = (ap (λ (b : Bool). b || false) (other-name s.name), (refl, tt));
  few_rules = omega arith;
  rules = (rule-of-cost p s r k h e f, tt);
  start = omega arith;
  start_is_source = refl;
  start_places = length-take-le r.left r.names (omega (arith, h.named)) ∙ (h.left ∙ ap arity_in f);
  start_names = first-hold IsName r.left r.names h.names;
  start_distinct = first-distinct r.left r.names h.distinct;
}

valid-of : (p q : Program) (t : ℕ) → IsValid p → IsCostProgram p t q → IsValid q
valid-of p q t v k =
    let r = k.costs.rule in
    subst IsValid (sym k.program) (program-of-cost p k.symbol r k.costs.cost (holds-at IsValidSymbol p.symbols r.source k.symbol v.symbols k.source)
    (rule-valid p t r v k.costs.numbered) k.costs.written k.source)

-- The law of programs of costs.
pub cost-programs-tell-costs : CostProgramsStateCosts
cost-programs-tell-costs = record { valid = valid-of; steps = steps-of; charged = charged-of }
