use Rattle.std.proofs.Common.{◌≡◌, ◌+◌, ◌++◌, map, refl, sym, ◌∙◌, subst}
use Rattle.rank_search.specs.Coefficients.{coefficient_of}
use Rattle.rank_search.specs.ShutPlaces.{is_listed}
use Rattle.rank_search.proofs.OpenPlaces.{block_upto, place-pushed, place-passed}
use Rattle.rank_search.proofs.coefficients.push_symbol.Goals as goal
use Rattle.rank_search.proofs.coefficients.push_symbol.Goals.{then-not-is_shut+in_ok-push, else-not-is_shut}

pub loop-before-preserved : goal.loop-before-preserved
loop-before-preserved c =
    let shut = is_listed c.args.closed.now in
    let first = map coefficient_of c.args.found.now.items in
    elim c.if-not-is_shut.branch [
      | then-not-is_shut+in_ok-push w ↦
          subst (λ v. map coefficient_of v.items ≡ first ++ block_upto shut c.args.symbol (c.loop-before.before + 1))
          (sym w.found-is)
          (place-pushed shut c.args.symbol first c.loop-before.before c.loop-before.found.items w.push.new.self.items _
          c.loop-before.invariant w.in_ok-push.ensures.items refl refl
          (sym c.is_among-is_shut.ensures ∙ w.if-not-is_shut.true))
      | else-not-is_shut w ↦
          subst (λ v. map coefficient_of v.items ≡ first ++ block_upto shut c.args.symbol (c.loop-before.before + 1))
          (sym w.found-is)
          (place-passed shut c.args.symbol first c.loop-before.before c.loop-before.found.items
          c.loop-before.invariant (sym c.is_among-is_shut.ensures ∙ w.if-not-is_shut.false))
    ]
