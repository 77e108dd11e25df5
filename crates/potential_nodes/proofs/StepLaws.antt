-- The values of a table's polynomials at a step.
use Rattle.std.proofs.Common.{◌≡◌, ℕ, true, List, ◌++◌, Option, Some, None}
use Rattle.std.proofs.Common.{refl, sym, ◌∙◌, ap, subst}
use Rattle.std.specs.Prelude.{ℤ}
use Rattle.std.specs.List.{AllByRecursion}
use Rattle.potentials.specs.model.Terms.{value}
use Rattle.potentials.specs.model.Programs.{Program, rule_at}
use Rattle.potentials.specs.model.Polynomials.{Polynomial, polynomial_value}
use Rattle.potentials.specs.model.Paths.{source_in, target_in}
use Rattle.potentials.specs.model.Runs.{Config, Step, IsStep}
use Rattle.potential_nodes.specs.PolynomialTerms.{form_term, form_after, reads_below}
use Rattle.potential_nodes.specs.Ground.{Ground, IsGroundOf}
use Rattle.potential_nodes.specs.Tables.{SymbolFunction, Move, PotentialTable, symbol_of, rule_of, function_at, move_at, form_in}
use Rattle.potential_nodes.specs.Tables.{gain_in, form_at, source_form, behind}
use Rattle.potential_nodes.proofs.LookupLaws.{lookup-all}
use Rattle.potential_nodes.proofs.TermLaws.{form-value, after-value, reads-append, reads-append_twice}

-- a step leaves the source of its rule and leads to its target
pub source-is : (p : Program) (c : Config) (s : Step) (d : Config) → IsStep p c s d
    → source_in (rule_at p s.rule) ≡ Some c.at
source-is p c s d step = ap source_in step.numbered ∙ ap Some (sym step.leads.source)

pub target-is : (p : Program) (c : Config) (s : Step) (d : Config) → IsStep p c s d
    → target_in (rule_at p s.rule) ≡ Some d.at
target-is p c s d step = ap target_in step.numbered ∙ ap Some (sym step.leads.target)

-- the function of a symbol reads its places alone, and the gain of a rule its variables
pub function-reads : (places : ℕ → ℕ) (tab : PotentialTable)
    → AllByRecursion (λ f. reads_below (places f.symbol) f.form ≡ true) tab.functions
    → (s : ℕ) → reads_below (places s) (form_in (function_at tab s)) ≡ true
function-reads places tab all s = go (function_at tab s) refl
  where
    go : (o : Option SymbolFunction) → function_at tab s ≡ o → reads_below (places s) (form_in o) ≡ true
    go None e = refl
    go (Some f) e =
        let found = lookup-all symbol_of (λ f. reads_below (places f.symbol) f.form ≡ true) s tab.functions f e all in
        subst (λ (n : ℕ). reads_below (places n) f.form ≡ true) found.1 found.0

pub gain-reads : (variables : ℕ → ℕ) (tab : PotentialTable)
    → AllByRecursion (λ m. reads_below (variables m.rule) m.gain ≡ true) tab.moves
    → (t : ℕ) → reads_below (variables t) (gain_in (move_at tab t)) ≡ true
gain-reads variables tab all t = go (move_at tab t) refl
  where
    go : (o : Option Move) → move_at tab t ≡ o → reads_below (variables t) (gain_in o) ≡ true
    go None e = refl
    go (Some m) e =
        let found = lookup-all rule_of (λ m. reads_below (variables m.rule) m.gain ≡ true) t tab.moves m e all in
        subst (λ (n : ℕ). reads_below (variables n) m.gain ≡ true) found.1 found.0

module _ (g : Ground) (tab : PotentialTable) (c : Config) (s : Step) (d : Config) (step : IsStep g.program c s d)
    (ground : IsGroundOf g c s d) where
  -- the values of the unknowns at the step
  abbrev pub point : List ℤ
  point = (c.values ++ s.free) ++ ground.more

  -- a form of the rule's variables has the same value at the unknowns and at the variables
  pub variables-value : (q : Polynomial) → reads_below (g.variables s.rule) q ≡ true
      → value (form_term q) point ≡ polynomial_value q (c.values ++ s.free)
  variables-value q h =
      form-value q point
      ∙ reads-append (c.values ++ s.free) ground.more q
      (subst (λ (n : ℕ). reads_below n q ≡ true) (sym ground.variables) h)

  -- the function of the source has the value before the step
  pub source-value : AllByRecursion (λ f. reads_below (g.places f.symbol) f.form ≡ true) tab.functions
      → value (form_term (source_form g tab s.rule)) point ≡ polynomial_value (form_in (function_at tab c.at)) c.values
  source-value all =
      let reads = function-reads g.places tab all c.at in
      ap (λ (o : Option ℕ). value (form_term (form_at tab o)) point) (source-is g.program c s d step)
      ∙ (form-value (form_in (function_at tab c.at)) point
      ∙ reads-append_twice c.values s.free ground.more (form_in (function_at tab c.at))
      (subst (λ (n : ℕ). reads_below n (form_in (function_at tab c.at)) ≡ true) (sym ground.places) reads))

  -- the function of the target has the value after the step
  pub target-value : value (behind g tab s.rule) point ≡ polynomial_value (form_in (function_at tab d.at)) d.values
  target-value =
      ap (λ (o : Option ℕ). value (form_after (g.new_values s.rule) (form_at tab o)) point) (target-is g.program c s d step)
      ∙ (after-value (g.new_values s.rule) (form_in (function_at tab d.at)) point
      ∙ ap (λ (v : List ℤ). polynomial_value (form_in (function_at tab d.at)) v) ground.new_values)
