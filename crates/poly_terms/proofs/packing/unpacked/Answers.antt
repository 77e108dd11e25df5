use Rattle.std.proofs.Common.{ℕ, List, drop, ap, ◌∙◌, arith}
use Rattle.std.proofs.lemmas.List.{drop_all}
use Rattle.poly_terms.specs.declared.keyed.Key.{Key}
use Rattle.poly_terms.specs.Keys.{number_of, factors_at}
use Rattle.poly_terms.proofs.UnpackingLaws.{factors-none, nothing-left}
use Rattle.poly_terms.proofs.packing.unpacked.Goals.{else-loop-v-test, then-loop-v-test+then-is_same_key}
use Rattle.poly_terms.proofs.packing.unpacked.Goals as goal

pub returns : goal.returns
returns c =
    let table = c.args.table.now in
    let rest = number_of c.loop-v.rest in
    nothing-left c.loop-v.vars.items (factors_at (drop c.loop-v.v-index table) rest) (factors_at table (number_of c.args.key))
    (elim c.loop-v-test.branch [
      | else-loop-v-test w ↦ ap (λ (vs : List ℕ). factors_at vs rest) (drop_all c.loop-v.v-index table (omega (arith, w.loop-v-test.false)))
      | then-loop-v-test+then-is_same_key w ↦
          ap (λ (k : Key). factors_at (drop c.loop-v.v-index table) (number_of k)) (w.is_same_key.ensures w.if-is_same_key.true) ∙ factors-none (drop c.loop-v.v-index table)
    ]) c.loop-v.invariant
