use Rattle.std.proofs.Common.{◌∙◌, ◌+◌, ◌-◌, ◌++◌, ◌∷◌, [], List, ℕ, Bool, suc, ap, length, arith}
use Rattle.std.specs.Prelude.{filter, if◌then◌else◌}
use Rattle.std.specs.List.{range_with_len}
use Rattle.std.proofs.lemmas.List.{length-map}
use Rattle.its_model.specs.Views.{rule_of}
use Rattle.potential_nodes.specs.potentials.model.Paths.{comes_before, pre}
use Rattle.check_potentials.specs.Grounds.{program}
use Rattle.check_potentials.proofs.SizeLaws.{range-passed, range-done}
use Rattle.check_potentials.proofs.sized.predecessors.Goals as goal

pub loop-before-preserved : goal.loop-before-preserved
loop-before-preserved c =
    let p = program c.args.ground in
    let i = c.loop-before.before in
    ap (λ (xs : List ℕ). xs ++ filter (λ e. comes_before p e c.args.rule)
    (range_with_len (i + 1) (suc (length p.rules) - (i + 1))))
    (c.in_ok-push_if.ensures
    ∙ ap (λ (v : Bool). c.loop-before.befores.items ++ (if v then i ∷ [] else [])) c.comes_before.ensures)
    ∙ range-passed (λ e. comes_before p e c.args.rule) c.loop-before.befores.items (pre p c.args.rule) i
    (suc (length p.rules)) (omega (arith, length-map c.args.ground.program.now.rules.items rule_of))
    c.loop-before.invariant

pub returns : goal.returns
returns c =
    let p = program c.args.ground in
    range-done (λ e. comes_before p e c.args.rule) c.loop-before.befores.items (pre p c.args.rule) c.loop-before.before
    (suc (length p.rules)) (omega (arith, length-map c.args.ground.program.now.rules.items rule_of))
    c.loop-before.invariant
