use Rattle.std.proofs.Common.{◌≡◌, ◌+◌, ◌∙◌, ◌++◌, ◌∷◌, [], map, sym, ap, subst, to_z, of_z}
use Rattle.std.specs.Int.{w64}
use Rattle.std.proofs.lemmas.Int.{to_z-of_z}
use Rattle.std.proofs.lemmas.List.{map-append}
use Rattle.cert_types.specs.Views.{result_variable_of}
use Rattle.check_ranks.proofs.ReadPlaces.{read_among, read-pushed, read-passed}
use Rattle.check_ranks.proofs.reading.push_read.Goals as goal
use Rattle.check_ranks.proofs.reading.push_read.Goals.{then-coef-ne0+in_ok-push, else-coef-ne0}

pub loop-position-preserved : goal.loop-position-preserved
loop-position-preserved c =
    let coefs = c.args.coefs.now in
    let e = c.args.rule in
    let i = c.loop-position.position in
    let first = map result_variable_of c.args.result_variables.now.items in
    let old = map result_variable_of c.loop-position.result_variables.items in
    elim c.if-coef-ne0.branch [
      | then-coef-ne0+in_ok-push w ↦
          subst (λ v. map result_variable_of v.items ≡ first ++ read_among coefs e (i + 1)) (sym w.result_variables-is)
          (read-pushed coefs e i first old c.loop-position.invariant (map result_variable_of w.push.new.self.items)
          (result_variable_of w.result_variable_at.result)
          (ap (map result_variable_of) w.in_ok-push.ensures.items ∙ map-append result_variable_of c.loop-position.result_variables.items (w.result_variable_at.result ∷ []))
          w.result_variable_at.ensures (λ z. w.if-coef-ne0.true (ap (of_z w64) (c.coefficient-coef.ensures ∙ z))))
      | else-coef-ne0 w ↦
          subst (λ v. map result_variable_of v.items ≡ first ++ read_among coefs e (i + 1)) (sym w.result_variables-is)
          (read-passed coefs e i first old c.loop-position.invariant
          (sym c.coefficient-coef.ensures
          ∙ (sym (to_z-of_z w64 c.coefficient-coef.result (record { sfits = c.coefficient-coef.type_inv }))
          ∙ ap (to_z w64) w.if-coef-ne0.false)))
    ]
