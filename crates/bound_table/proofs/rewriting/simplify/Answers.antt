use Rattle.std.proofs.Common.{◌≡◌}
use Rattle.std.proofs.lemmas.Result.{IfOk-weaker}
use Rattle.bound_expr.specs.Tidy.{IsTidy}
use Rattle.bound_expr.specs.Views.{bound_of}
use Rattle.bound_table.specs.Rewriting.{simplified}
use Rattle.bound_table.specs.Laws.{HasValueOf, ReadsNoMore, KeepsNumbers}
use Rattle.bound_table.proofs.Values.{simplified-value}
use Rattle.bound_table.proofs.NumberFacts.{simplified-reads, simplified-numbers}
use Rattle.bound_table.proofs.TidyCases.{simplified-tidy}
use Rattle.bound_table.proofs.rewriting.simplify.Goals as goal

pub returns-clause-value : goal.returns-clause-value
returns-clause-value g c based =
    let cs = c.args.cases.now.list in
    let b = bound_of c.args.b.now in
    IfOk-weaker c.rewritten.result (λ r. bound_of r ≡ simplified cs b) (λ r. HasValueOf (bound_of r) b)
    (λ r is. simplified-value cs b (bound_of r) is based) c.rewritten.ensures

pub returns-clause-reads : goal.returns-clause-reads
returns-clause-reads g c =
    let cs = c.args.cases.now.list in
    let b = bound_of c.args.b.now in
    IfOk-weaker c.rewritten.result (λ r. bound_of r ≡ simplified cs b) (λ r. ReadsNoMore (bound_of r) b)
    (λ r is. simplified-reads cs b (bound_of r) is) c.rewritten.ensures

pub returns-clause-numbers : goal.returns-clause-numbers
returns-clause-numbers g c =
    let cs = c.args.cases.now.list in
    let b = bound_of c.args.b.now in
    IfOk-weaker c.rewritten.result (λ r. bound_of r ≡ simplified cs b) (λ r. KeepsNumbers (bound_of r) b)
    (λ r is. simplified-numbers cs b (bound_of r) is) c.rewritten.ensures

pub returns-clause-tidy : goal.returns-clause-tidy
returns-clause-tidy g c tidying has =
    let cs = c.args.cases.now.list in
    let b = bound_of c.args.b.now in
    IfOk-weaker c.rewritten.result (λ r. bound_of r ≡ simplified cs b) (λ r. IsTidy (bound_of r))
    (λ r is. simplified-tidy cs b (bound_of r) is tidying has) c.rewritten.ensures
