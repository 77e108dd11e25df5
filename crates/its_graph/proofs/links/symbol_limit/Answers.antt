use Rattle.std.proofs.Common.{ℕ, ◌<◌, ◌≤◌, All, arith, sym, subst, take, get_or}
use Rattle.std.proofs.lemmas.List.{take_all}
use Rattle.std.proofs.lemmas.List.Elements.{All-more, All-weaker, All-same, All-get_or}
use Rattle.its_model.specs.declared.program.Rule.{Rule}
use Rattle.its_graph.proofs.links.symbol_limit.Goals as goal

-- The symbols of one more rule are below the limit.
pub loop-rule-preserved : goal.loop-rule-preserved
loop-rule-preserved c =
    let limit : ℕ = c.max-limit.result in
    let Below = λ (r : Rule). (r.source < limit) × (r.target < limit) in
    let wider : All Below (take c.loop-rule.rule-index c.args.rules.now) = All-weaker (λ (r : Rule). (r.source < c.loop-rule.limit) × (r.target < c.loop-rule.limit)) Below (λ r h. (omega (arith, h.0, c.max.ensures, c.max-limit.ensures), omega (arith, h.1, c.max.ensures, c.max-limit.ensures))) (take c.loop-rule.rule-index c.args.rules.now) c.loop-rule.invariant.below in
    let here : Below c.rule-item.result = (omega (arith, c.max.ensures, c.max-limit.ensures), omega (arith, c.max.ensures, c.max-limit.ensures)) in
    record {
      below = All-more Below c.args.rules.now c.loop-rule.rule-index c.rule-item.result c.loop-rule-test.true wider (subst Below c.rule-item.is here);
      few = omega (arith, c.max.ensures, c.max-limit.ensures, c.loop-rule.invariant.few);
      least = λ n all. least n all (All-get_or (λ (r : Rule). (r.source < n) × (r.target < n)) c.args.rules.now c.loop-rule.rule-index c.rule-item.result c.loop-rule-test.true all);
    }
  where
    least : (n : ℕ) → All (λ (r : Rule). (r.source < n) × (r.target < n)) c.args.rules.now → (get_or c.args.rules.now c.loop-rule.rule-index c.rule-item.result).source < n × (get_or c.args.rules.now c.loop-rule.rule-index c.rule-item.result).target < n → c.max-limit.result ≤ n
    least n all low =
        let here : (c.rule-item.result.source < n) × (c.rule-item.result.target < n) = subst (λ (r : Rule). (r.source < n) × (r.target < n)) (sym c.rule-item.is) low in
        omega (arith, c.max.ensures, c.max-limit.ensures, c.loop-rule.invariant.least n all, here.0, here.1)

pub returns-clause-below : goal.returns-clause-below
returns-clause-below c = All-same (λ (r : Rule). (r.source < c.loop-rule.limit) × (r.target < c.loop-rule.limit)) c.args.rules.now (take c.loop-rule.rule-index c.args.rules.now) (sym (take_all c.loop-rule.rule-index c.args.rules.now (omega arith))) c.loop-rule.invariant.below
