use Rattle.std.proofs.Common.{◌≡◌, ◌-◌, ◌<◌, ℕ, length, get_or, ap, sym, ◌∙◌, subst, arith}
use Rattle.std.specs.Prelude.{Some, None, Result, Ok, Err, IfOk, option_map}
use Rattle.std.proofs.lemmas.List.{length-map}
use Rattle.poly_terms.specs.model.Programs as plain
use Rattle.poly_terms.specs.model.Costs.{HasCost}
use Rattle.poly_terms.specs.Views.{term_of}
use Rattle.poly_terms.specs.declared.expr.Expr.{Expr}
use Rattle.its_model.specs.declared.program.Symbol.{Symbol}
use Rattle.its_model.specs.declared.program.Rule.{Rule}
use Rattle.its_model.specs.declared.program.Program.{Program}
use Rattle.its_model.specs.Valid.{IsValid}
use Rattle.its_model.specs.Views.{symbol_of, rule_of, program_of}
use Rattle.its_model.specs.CostPrograms.{cost_program, IsCostProgram}
use Rattle.its_model.proofs.ListLaws.{mapped-get}
use Rattle.its_model.proofs.ValidLaws.{rule-valid}
use Rattle.its_model.proofs.RuleLaws.{rule-found}
use Rattle.its_model.proofs.CostPrograms.{cost-programs-tell-costs}
use Rattle.its_model.proofs.costing.cost_program.Goals as goal

-- The rule at a number that has a cost is valid, and leaves a symbol of the program.
source-within : (p : Program) (n : ℕ) (r : Rule) → IsValid (program_of p) → HasCost (program_of p) n → r ≡ get_or p.rules.items (n - 1) r
    → r.source < length p.symbols.items
source-within p n r v k e =
    let valid = rule-valid (program_of p) n k.rule v k.numbered in
    let l = subst (λ (w : plain.Rule). w.source < length (program_of p).symbols) (rule-found p n k.rule r k.numbered e) valid.source in
    omega (arith, l, length-map p.symbols.items symbol_of)

-- The program built from the rule, its cost and its source is the program of the cost.
made : (p : Program) (n : ℕ) (r : Rule) (cost : Expr) (s : Symbol) (q : plain.Program) → IsValid (program_of p) → HasCost (program_of p) n
    → r ≡ get_or p.rules.items (n - 1) r → r.cost ≡ Some cost → s ≡ get_or p.symbols.items r.source s
    → q ≡ cost_program (symbol_of s) (rule_of r) (term_of cost) → IsCostProgram (program_of p) n q
made p n r cost s q v k e f g h = record {
  costs = record {
    rule = rule_of r;
    numbered = k.numbered ∙ ap Some (rule-found p n k.rule r k.numbered e);
    cost = term_of cost;
    written = ap (option_map term_of) f;
  };
  symbol = symbol_of s;
  source = mapped-get symbol_of p.symbols.items r.source s (source-within p n r v k e) g;
  program = h;
}

pub index-requires : goal.index-requires
index-requires c =
    omega (arith, source-within c.args.p.now c.args.rule c.index-costing.result.now c.requires.valid c.requires.costs c.index-costing.ensures, c.args.p.now.symbols.ok.0)

pub unreachable-requires : goal.unreachable-requires
unreachable-requires c =
    let k = c.requires.costs in
    let found = rule-found c.args.p.now c.args.rule k.rule c.index-costing.result.now k.numbered c.index-costing.ensures in
    none_some (sym (ap (option_map term_of) c.in-None.is) ∙ (sym (ap (λ (w : plain.Rule). w.cost) found) ∙ k.written))
  where
    none_some : {X : Type 0} {x : X} → None ≡ Some x → ⊥
    none_some e = cc

pub returns-clause-program : goal.returns-clause-program
returns-clause-program c = go c.program_from.result c.program_from.ensures
  where
    go : {E : Type 0} (x : Result Program E) → IfOk x (λ q. program_of q ≡ cost_program (symbol_of c.index.result.now) (rule_of c.index-costing.result.now) (term_of c.in-Some.cost))
        → IfOk x (λ q. IsCostProgram (program_of c.args.p.now) c.args.rule (program_of q))
    go (Ok q) h = made c.args.p.now c.args.rule c.index-costing.result.now c.in-Some.cost c.index.result.now (program_of q) c.requires.valid c.requires.costs c.index-costing.ensures c.in-Some.is c.index.ensures h
    go (Err e) h = tt

pub returns-clause-valid : goal.returns-clause-valid
returns-clause-valid c = go c.program_from.result (returns-clause-program c)
  where
    go : {E : Type 0} (x : Result Program E) → IfOk x (λ q. IsCostProgram (program_of c.args.p.now) c.args.rule (program_of q)) → IfOk x (λ q. IsValid (program_of q))
    go (Ok q) h = cost-programs-tell-costs.valid (program_of c.args.p.now) (program_of q) c.args.rule c.requires.valid h
    go (Err e) h = tt
