use Rattle.std.proofs.Common.{◌<◌, ◌∷◌, ◌++◌, [], ◌∙◌, ap, subst, arith, ℕ, List, length, map, get_or, Vec}
use Rattle.std.specs.declared.alloc.Global.{Global}
use Rattle.std.proofs.lemmas.List.{length-map, map-append}
use Rattle.its_model.specs.declared.program.Rule.{Rule}
use Rattle.its_model.specs.Views.{rule_of, program_of}
use Rattle.run_replay.proofs.ReplayTallies.{rows_more, start_tally}
use Rattle.run_replay.proofs.tally.Tally.new.Goals as goal

pub loop-rule-preserved : goal.loop-rule-preserved
loop-rule-preserved c =
    let p = c.args.p.now in
    let i = c.loop-rule.rule-index in
    let r = c.rule-item.result in
    let low = subst (λ (rs : List Rule). i < length rs) c.deref-rule-items.ensures.value c.loop-rule-test.true in
    let read = c.rule-item.is ∙ ap (λ (rs : List Rule). get_or rs i r) c.deref-rule-items.ensures.value in
    let m = c.len.result in
    let items : Vec ℕ Global → List ℕ = λ row. row.items in
    ap (map items) c.in_ok-push.ensures.items
    ∙ (map-append items c.loop-rule.greatest.items (c.in_ok-row.row ∷ [])
    ∙ (ap (λ (row : List ℕ). map items c.loop-rule.greatest.items ++ row ∷ []) c.in_ok-row.ensures
    ∙ rows_more p i m r (map items c.loop-rule.greatest.items) low read
    (omega (arith, c.len.ensures, r.updates.ok.0)) c.loop-rule.invariant))

pub returns : goal.returns
returns c = λ start.
    let p = program_of c.args.p.now in
    let long = length-map c.args.p.now.rules.items rule_of in
    start_tally p start c.len-2.result c.len-3.result c.loop-rule.rule-index c.in_ok-counts.counts.items
    c.in_ok-costs.costs.items _
    (omega (arith, long, c.len-2.ensures, c.args.p.now.rules.ok.0)) c.in_ok-counts.ensures
    (omega (arith, long, c.len-3.ensures, c.args.p.now.rules.ok.0)) c.in_ok-costs.ensures
    (omega (arith, long, c.loop-rule.auto.rule-index-end, c.loop-rule-test.false, ap length c.deref-rule-items.ensures.value))
    c.loop-rule.invariant
