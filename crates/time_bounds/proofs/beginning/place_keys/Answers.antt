use Rattle.std.proofs.Common.{◌≡◌, ℕ, suc, ◌+◌, List, [], ◌∷◌, ◌++◌, map, sym, ◌∙◌, ap, arith}
use Rattle.std.specs.List.{range_with_len}
use Rattle.std.proofs.lemmas.List.{map-append}
use Rattle.cert_types.specs.declared.side_bound.ResultVariable as code
use Rattle.cert_types.specs.cert_rules.Nodes.{ResultVariable}
use Rattle.cert_types.specs.Views.{result_variable_of}
use Rattle.bound_fixpoint.specs.Keys.{key}
use Rattle.time_bounds.proofs.RuleStatusLists.{range-more}
use Rattle.time_bounds.proofs.beginning.place_keys.Goals as goal

pub loop-position-preserved : goal.loop-position-preserved
loop-position-preserved c =
    let t = c.args.rule in
    let i = c.loop-position.position in
    let next : i + 1 ≡ suc i = omega arith in
    ap (λ (ss : List code.ResultVariable). map result_variable_of ss) c.in_ok-push.ensures.items
    ∙ (map-append result_variable_of c.loop-position.keys.items (record { rule = t; place = i + 1 } ∷ [])
    ∙ (ap (λ (ks : List ResultVariable). ks ++ key t (i + 1) ∷ []) c.loop-position.invariant
    ∙ (sym (map-append (λ j. key t j) (range_with_len 1 i) ((i + 1) ∷ []))
    ∙ (ap (map (λ j. key t j)) (sym (range-more i 1 (i + 1) (omega arith)))
    ∙ ap (λ (n : ℕ). map (λ j. key t j) (range_with_len 1 n)) (sym next)))))
