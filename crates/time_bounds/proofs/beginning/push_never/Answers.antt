use Rattle.std.proofs.Common.{ℕ, ◌+◌, ◌<◌, sym, ◌∙◌, ap, subst, length, List, ◌++◌, map, drop, get_or, arith}
use Rattle.model.specs.Programs.{arity_of}
use Rattle.its_model.specs.declared.program.Rule.{Rule}
use Rattle.its_model.specs.Views.{rule_of, program_of}
use Rattle.bound_fixpoint.specs.Derivations.{Derivation}
use Rattle.bound_derivations.specs.Views.{derivations_of}
use Rattle.time_bounds.specs.declared.rule_statuses.RuleStatus.TheVariants.{Empty}
use Rattle.time_bounds.specs.Beginning.{never_here, never_derivations}
use Rattle.time_bounds.proofs.StartLists.{more, never-left}
use Rattle.time_bounds.proofs.RuleSymbols.{target_read, arity_read}
use Rattle.time_bounds.proofs.ShutByPlace.{arity_few}
use Rattle.time_bounds.proofs.beginning.push_never.Goals as goal

pub index-requires : goal.index-requires
index-requires c =
    let p = c.args.cx.now.program.now in
    subst (λ (n : ℕ). c.rule-item.result.target < n) (sym p.symbols.ok.0)
    (target_read p c.requires.ready.valid c.loop-position.position c.rule-item.result
    (subst (λ (rs : List Rule). c.loop-position.position < length rs) c.deref-rule-items.ensures.value c.loop-position-test.true)
    (c.rule-item.is ∙ ap (λ (rs : List Rule). get_or rs c.loop-position.position c.rule-item.result) c.deref-rule-items.ensures.value))

pub push_if_never-requires : goal.push_if_never-requires
push_if_never-requires c =
    let p = c.args.cx.now.program.now in
    let i = c.loop-position.position in
    let r = c.rule-item.result in
    let low = subst (λ (rs : List Rule). i < length rs) c.deref-rule-items.ensures.value c.loop-position-test.true in
    let read = c.rule-item.is ∙ ap (λ (rs : List Rule). get_or rs i r) c.deref-rule-items.ensures.value in
    omega (
      arith,
      arity_few p r.target c.index.result.now c.requires.ready.valid (target_read p c.requires.ready.valid i r low read)
          c.index.ensures,
    )

pub loop-position-preserved : goal.loop-position-preserved
loop-position-preserved c =
    let p = c.args.cx.now.program.now in
    let i = c.loop-position.position in
    let r = c.rule-item.result in
    let f = get_or c.args.rule_statuses.now i Empty in
    let low = subst (λ (rs : List Rule). i < length rs) c.deref-rule-items.ensures.value c.loop-position-test.true in
    let read = c.rule-item.is ∙ ap (λ (rs : List Rule). get_or rs i r) c.deref-rule-items.ensures.value in
    let arity = arity_read p r.target c.index.result.now (target_read p c.requires.ready.valid i r low read) c.index.ensures in
    let done = derivations_of c.loop-position.derivations.items in
    more done (derivations_of c.push_if_never.new.derivations.items) (never_here (i + 1) f (arity_of (program_of p) r.target))
    (never_derivations (program_of p) (i + 1 + 1) (drop (i + 1) c.args.rule_statuses.now) (map rule_of (drop (i + 1) p.rules.items)))
    (derivations_of c.args.derivations.now.items ++ never_derivations (program_of p) 1 c.args.rule_statuses.now (map rule_of p.rules.items))
    (c.in_ok-push_if_never.ensures ∙ ap (λ (n : ℕ). done ++ never_here (i + 1) f n) (sym arity))
    (ap (λ (xs : List Derivation). done ++ xs)
    (sym (never-left (program_of p) (i + 1) c.args.rule_statuses.now p.rules.items i Empty r c.requires.rule_statuses low read))
    ∙ c.loop-position.invariant)
