-- The prepared rows of a program's rules are what is known of its steps.
use Rattle.std.proofs.Common.{◌≡◌, ℕ, zero, suc, ◌+◌, ◌-◌, ◌^◌, ◌<◌, ◌≤◌, length, get_or, min, arith, List, [], ◌∷◌, ◌++◌}
use Rattle.std.proofs.Common.{map, Option, Some, None, Bor, refl, sym, ap, ◌∙◌}
use Rattle.std.specs.Prelude.{option_map}
use Rattle.std.specs.Slice.{IsItemAt}
use Rattle.poly_terms.specs.Views.{term_of, form_of}
use Rattle.poly_terms.specs.model.Programs.{Program, Rule, rule_at}
use Rattle.poly_terms.specs.model.Terms.{Term}
use Rattle.poly_terms.specs.declared.poly.Row.{Row}
use Rattle.guard_prep.specs.Laws.{IsPreparable}
use Rattle.guard_prep.proofs.StepLaws.{preparable}
use Rattle.potential_nodes.specs.Lookup.{numbered}
use Rattle.std.proofs.lemmas.List.{length-map}
use Rattle.std.proofs.lemmas.Option.{slice_get_read, slice_get-map}
use Rattle.its_model.specs.Valid.{IsValid}
use Rattle.its_model.specs.Views.{program_of, rule_of}
use Rattle.its_model.specs.declared.program.Program as code_program
use Rattle.its_model.specs.declared.program.Rule as code_rule
use Rattle.its_model.proofs.ValidLaws.{rule-valid}
use Rattle.potential_ground.specs.RowTerms.{form_expression, row_terms, new_terms, variable_count}
use Rattle.check_potentials.specs.declared.ground.Ground.{Ground}
use Rattle.check_potentials.specs.declared.ground.PreparedRule.{PreparedRule}
use Rattle.check_potentials.specs.Grounds.{IsPrepared, row_term, row_terms_of, RulePrepared, rule_prepared}
use Rattle.check_potentials.specs.Grounds.{rule_prepared_of}
use Rattle.potential_types.proofs.LookupLaws.{get-map, item-numbered}

-- forms of rows as expressions
rows-mapped : (rows : List Row) → row_terms_of rows ≡ map form_expression (map form_of rows)
rows-mapped [] = refl
rows-mapped (r ∷ rows) = ap (λ (ts : List Term). row_term r ∷ ts) (rows-mapped rows)

-- what is prepared of the rule with a number
prepared-at : (p : Program) (t : ℕ) → numbered (map rule_prepared p.rules) t ≡ option_map rule_prepared (rule_at p t)
prepared-at p zero = refl
prepared-at p (suc t) = get-map rule_prepared p.rules t

found : (p : Program) (rules : List PreparedRule) (t : ℕ) (o : Option (Bor PreparedRule))
    → map rule_prepared_of rules ≡ map rule_prepared p.rules → 0 < t → IsItemAt rules (t - 1) o
    → option_map (λ r. rule_prepared_of r.now) o ≡ option_map rule_prepared (rule_at p t)
found p rules t o same low item =
    item-numbered rule_prepared_of rules t o low item
    ∙ ap (λ (ms : List RulePrepared). numbered ms t) same
    ∙ prepared-at p t

-- two that are there are equal, and nothing is nothing
some-equal : {A : Type 0} {a b : A} → Some a ≡ Some b → a ≡ b
some-equal e = cc

-- the rows of a rule that is found, and of one that isn't
pub rows-found : (p : Program) (rules : List PreparedRule) (t : ℕ) (m : Bor PreparedRule)
    → map rule_prepared_of rules ≡ map rule_prepared p.rules → 0 < t → IsItemAt rules (t - 1) (Some m)
    → row_terms_of m.now.rows.rows.items ++ map term_of m.now.squares.items ≡ row_terms (rule_at p t)
rows-found p rules t m same low item = go (rule_at p t) (found p rules t (Some m) same low item)
  where
    go : (o : Option Rule) → Some (rule_prepared_of m.now) ≡ option_map rule_prepared o
        → row_terms_of m.now.rows.rows.items ++ map term_of m.now.squares.items ≡ row_terms o
    go None e = absurd (apart e)
      where
        apart : Some (rule_prepared_of m.now) ≡ None → ⊥
        apart e = cc
    go (Some r) e =
        ap (λ (ts : List Term). ts ++ map term_of m.now.squares.items) (rows-mapped m.now.rows.rows.items)
        ∙ ap (λ (q : RulePrepared). map form_expression q.prepared.rows ++ q.squares) (some-equal e)

pub new-values-found : (p : Program) (rules : List PreparedRule) (t : ℕ) (m : Bor PreparedRule)
    → map rule_prepared_of rules ≡ map rule_prepared p.rules → 0 < t → IsItemAt rules (t - 1) (Some m)
    → row_terms_of m.now.rows.new_values.items ≡ new_terms (rule_at p t)
new-values-found p rules t m same low item = go (rule_at p t) (found p rules t (Some m) same low item)
  where
    go : (o : Option Rule) → Some (rule_prepared_of m.now) ≡ option_map rule_prepared o
        → row_terms_of m.now.rows.new_values.items ≡ new_terms o
    go None e = absurd (apart e)
      where
        apart : Some (rule_prepared_of m.now) ≡ None → ⊥
        apart e = cc
    go (Some r) e =
        rows-mapped m.now.rows.new_values.items
        ∙ ap (λ (q : RulePrepared). map form_expression q.prepared.new_values) (some-equal e)

pub none-found : (p : Program) (rules : List PreparedRule) (t : ℕ)
    → map rule_prepared_of rules ≡ map rule_prepared p.rules → 0 < t → IsItemAt rules (t - 1) None
    → ([] ≡ row_terms (rule_at p t)) × ([] ≡ new_terms (rule_at p t))
none-found p rules t same low item = go (rule_at p t) (found p rules t None same low item)
  where
    go : (o : Option Rule) → None ≡ option_map rule_prepared o → ([] ≡ row_terms o) × ([] ≡ new_terms o)
    go None e = (refl, refl)
    go (Some r) e = absurd (apart e)
      where
        apart : None ≡ Some (rule_prepared r) → ⊥
        apart e = cc

-- the rule with a number, by its number
pub rule-numbered : (p : Program) (t : ℕ) → numbered p.rules t ≡ rule_at p t
rule-numbered p zero = refl
rule-numbered p (suc t) = refl

-- the variables of a rule of a valid program are few
pub variables-few : (p : Program) (t : ℕ) (r : Rule) (sum : ℕ) → IsValid p → Some r ≡ rule_at p t
    → sum ≡ min (r.left + r.free) (2 ^ 32 - 1) → sum ≡ variable_count (rule_at p t)
variables-few p t r sum valid e is =
    (let few = (rule-valid p t r valid (sym e)).few_variables in
    let same : sum ≡ r.left + r.free = omega (arith, few) in same)
    ∙ ap variable_count e

-- a prepared program has few rules
pub rules_few : (g : Ground) → IsPrepared g → length g.program.now.rules.items ≤ 1000
rules_few g h = omega (arith, h.valid.few_rules, length-map g.program.now.rules.items rule_of)

-- a rule of a valid program can be prepared
pub rule-preparable : (p : code_program.Program) (i : ℕ) (r : code_rule.Rule) → IsValid (program_of p)
    → i < length p.rules.items → r ≡ get_or p.rules.items i r → IsPreparable (rule_of r)
rule-preparable p i r valid low e =
    preparable (program_of p) (suc i) (rule_of r) valid
    (slice_get-map rule_of p.rules.items i
    ∙ ap (λ (o : Option code_rule.Rule). option_map rule_of o)
    (slice_get_read p.rules.items (length p.rules.items) i r refl low e))
