use Rattle.std.proofs.Common.{◌≡◌, ◌++◌, List, subst}
use Rattle.std.specs.Prelude.{OnOk}
use Rattle.its_model.specs.model.Programs.{Name}
use Rattle.poly_terms.specs.Views.{term_of}
use Rattle.claims_text.specs.Terms.{term_text}
use Rattle.claims_text.proofs.statements.push_expression.Goals as goal

pub returns : goal.returns
returns c =
    subst
    (λ (names : List Name). OnOk c.push_term.result
    (c.push_term.new.text.items ≡ c.args.text.now.items ++ term_text names (term_of c.args.expression.now)))
    c.requires c.push_term.ensures
