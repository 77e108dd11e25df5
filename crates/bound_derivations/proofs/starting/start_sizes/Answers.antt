use Rattle.std.proofs.Common.{◌≡◌, ℕ, ◌<◌, List, [], ◌∷◌, ◌++◌, length, map, replicate, take, get_or, Vec, Option, None}
use Rattle.std.proofs.Common.{sym, ◌∙◌, ap, subst, arith}
use Rattle.std.specs.declared.alloc.Global.{Global}
use Rattle.std.proofs.lemmas.List.{length-map, map-append, take_more}
use Rattle.model.specs.Programs as plain
use Rattle.its_model.specs.declared.program.Program.{Program}
use Rattle.its_model.specs.declared.program.Rule.{Rule}
use Rattle.its_model.specs.declared.program.Symbol.{Symbol}
use Rattle.its_model.specs.Valid.{IsValid, IsValidRule}
use Rattle.its_model.specs.Views.{rule_of, symbol_of, program_of}
use Rattle.its_model.proofs.ListLaws.{mapped-all, mapped-get}
use Rattle.outcome.specs.declared.entry.Stored.{Stored}
use Rattle.bound_derivations.specs.Starting.{AreFirstRows}
use Rattle.bound_derivations.proofs.StartIndex.{rows_more}
use Rattle.bound_derivations.proofs.starting.start_sizes.Goals as goal

-- the rules of a valid program lead to its symbols
target_read : (p : Program) → IsValid (program_of p) → (i : ℕ) (r : Rule) → i < length p.rules.items
    → r ≡ get_or p.rules.items i r → r.target < length p.symbols.items
target_read p valid i r low e =
    let target = (mapped-all (IsValidRule (program_of p)) rule_of p.rules.items i r valid.rules low e).target in
    let long = length-map p.symbols.items symbol_of in
    omega (arith, target, long)

-- the number of places of a symbol that is read
arity_read : (p : Program) (s : ℕ) (x : Symbol) → s < length p.symbols.items → x ≡ get_or p.symbols.items s x
    → plain.arity_of (program_of p) s ≡ x.arity
arity_read p s x low e = ap plain.arity_in (mapped-get symbol_of p.symbols.items s x low e)

pub index-requires-in-loop-rule : goal.index-requires-in-loop-rule
index-requires-in-loop-rule c =
    subst (λ (n : ℕ). c.rule-item.result.target < n) (sym c.args.p.now.symbols.ok.0)
    (target_read c.args.p.now c.requires.valid c.loop-rule.rule-index c.rule-item.result
    (subst (λ (rs : List Rule). c.loop-rule.rule-index < length rs) c.deref-rule-items.ensures.value
    c.loop-rule-test.true)
    (c.rule-item.is
    ∙ ap (λ (rs : List Rule). get_or rs c.loop-rule.rule-index c.rule-item.result) c.deref-rule-items.ensures.value))

pub loop-rule-preserved : goal.loop-rule-preserved
loop-rule-preserved c =
    let p = c.args.p.now in
    let i = c.loop-rule.rule-index in
    let r = c.rule-item.result in
    let low = subst (λ (rs : List Rule). i < length rs) c.deref-rule-items.ensures.value c.loop-rule-test.true in
    let read = c.rule-item.is ∙ ap (λ (rs : List Rule). get_or rs i r) c.deref-rule-items.ensures.value in
    let arity = arity_read p r.target c.index-in-loop-rule.result.now (target_read p c.requires.valid i r low read)
    c.index-in-loop-rule.ensures in
    subst (λ (rs : List plain.Rule). AreFirstRows (program_of p) rs
    (map (λ (row : Vec (Option Stored) Global). row.items) c.push-in-loop-rule.new.self.items))
    (sym (ap (map rule_of) (take_more p.rules.items i r low)
    ∙ (map-append rule_of (take i p.rules.items) (get_or p.rules.items i r ∷ [])
    ∙ ap (λ (x : Rule). map rule_of (take i p.rules.items) ++ rule_of x ∷ []) (sym read))))
    (rows_more (program_of p) (map rule_of (take i p.rules.items)) (rule_of r)
    (map (λ (row : Vec (Option Stored) Global). row.items) c.loop-rule.sizes.items)
    (map (λ (row : Vec (Option Stored) Global). row.items) c.push-in-loop-rule.new.self.items)
    c.in_ok-nothing.field-0.items c.loop-rule.invariant
    (ap (map (λ (row : Vec (Option Stored) Global). row.items)) c.in_ok-push-2.ensures.items
    ∙ map-append (λ (row : Vec (Option Stored) Global). row.items) c.loop-rule.sizes.items
    (c.in_ok-nothing.field-0 ∷ []))
    (c.in_ok-nothing.ensures ∙ ap (λ (n : ℕ). replicate n None) (sym arity)))
