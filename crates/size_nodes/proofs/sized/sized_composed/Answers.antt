use Rattle.std.proofs.Common.{◌≡◌, ◌∙◌, ap, sym, [], ◌∷◌, map}
use Rattle.bound_expr.specs.Views.{bound_of}
use Rattle.bound_table.specs.RewriteResult.{Fits, answer_of, rewritten_within}
use Rattle.cert_types.specs.cert_rules.AcceptsSizes.{spread_size}
use Rattle.cert_types.specs.cert_rules.Checks.{needed_into}
use Rattle.cert_types.specs.cert_program.Setting.{setting_of}
use Rattle.cert_types.specs.Views.{result_variable_of, member_of}
use Rattle.cert_types.specs.Composing.{spread_over}
use Rattle.size_nodes.specs.Needs.{first_missing}
use Rattle.size_nodes.proofs.SpreadAnswers.{is-large, is-accepted}
use Rattle.size_nodes.proofs.sized.sized_composed.Goals as goal

pub returns-in-Rewritten : goal.returns-in-Rewritten
returns-in-Rewritten g c = λ p given.
    let m = member_of c.args.m.now in
    let tab = g.K.Known.table c.args.known.now in
    let premises : map result_variable_of c.args.needed.items ≡ needed_into (setting_of p) [] (m ∷ []) = c.requires.premises p given in
    let size : rewritten_within (spread_size (setting_of p) tab m) ≡ Fits (bound_of c.in-Rewritten.bound) =
    sym (ap answer_of (sym c.in-Rewritten.is) ∙ (c.in_ok-bound.ensures
    ∙ (λ i. rewritten_within (spread_over (c.poly_at-poly.ensures.seen p given.rows given.shape.at i) m.local tab.size (c.pre-before.ensures p given.graph i))))) in
    let ok = is-accepted p tab m given.shape given.up given.low (bound_of c.in-Rewritten.bound)
    (ap (first_missing tab) (sym premises) ∙ c.requires.all_known) size in
    (ok.0, premises, ok.1)

pub returns-in-Large : goal.returns-in-Large
returns-in-Large g c = λ p given.
    let m = member_of c.args.m.now in
    let tab = g.K.Known.table c.args.known.now in
    is-large p tab m given.shape given.up given.low c.in-Large.nodes
    (ap (first_missing tab) (sym (c.requires.premises p given)) ∙ c.requires.all_known)
    (sym (ap answer_of (sym c.in-Large.is) ∙ (c.in_ok-bound.ensures
    ∙ (λ i. rewritten_within (spread_over (c.poly_at-poly.ensures.seen p given.rows given.shape.at i) m.local tab.size (c.pre-before.ensures p given.graph i))))))
