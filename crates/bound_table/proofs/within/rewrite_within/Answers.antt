use Rattle.std.proofs.Common.{◌≡◌, false}
use Rattle.std.proofs.lemmas.Result.{IfOk-weaker}
use Rattle.bound_expr.specs.model.Bounds.{Bound}
use Rattle.bound_expr.specs.Views.{bound_of}
use Rattle.bound_expr.specs.Measure.{is_large}
use Rattle.bound_expr.specs.Tidy.{IsTidy}
use Rattle.bound_table.specs.Laws.{HasValueOf, ReadsNoMore, KeepsNumbers}
use Rattle.bound_table.specs.RewriteResult.{answer_of, rewritten_within, WhereFits}
use Rattle.bound_table.proofs.TableInForce.{rewritten-value, rewritten-reads, rewritten-numbers, rewritten-tidy}
use Rattle.bound_table.proofs.WithinLimits.{answer-fits}
use Rattle.bound_table.proofs.within.rewrite_within.Goals as goal

pub returns-clause-small : goal.returns-clause-small
returns-clause-small c =
    let b = bound_of c.args.b.now in
    let P : Bound → Type 0 = λ r. is_large r ≡ false in
    IfOk-weaker c.measured_first.result (λ w. answer_of w ≡ rewritten_within b) (λ w. WhereFits (answer_of w) P)
    (λ w is. answer-fits P b (answer_of w) (λ small. small) is) c.measured_first.ensures

pub returns-clause-value : goal.returns-clause-value
returns-clause-value c based =
    let b = bound_of c.args.b.now in
    let P : Bound → Type 0 = λ r. HasValueOf r b in
    IfOk-weaker c.measured_first.result (λ w. answer_of w ≡ rewritten_within b) (λ w. WhereFits (answer_of w) P)
    (λ w is. answer-fits P b (answer_of w) (λ small. rewritten-value b based) is) c.measured_first.ensures

pub returns-clause-reads : goal.returns-clause-reads
returns-clause-reads c =
    let b = bound_of c.args.b.now in
    let P : Bound → Type 0 = λ r. ReadsNoMore r b in
    IfOk-weaker c.measured_first.result (λ w. answer_of w ≡ rewritten_within b) (λ w. WhereFits (answer_of w) P)
    (λ w is. answer-fits P b (answer_of w) (λ small. rewritten-reads b) is) c.measured_first.ensures

pub returns-clause-numbers : goal.returns-clause-numbers
returns-clause-numbers c =
    let b = bound_of c.args.b.now in
    let P : Bound → Type 0 = λ r. KeepsNumbers r b in
    IfOk-weaker c.measured_first.result (λ w. answer_of w ≡ rewritten_within b) (λ w. WhereFits (answer_of w) P)
    (λ w is. answer-fits P b (answer_of w) (λ small. rewritten-numbers b) is) c.measured_first.ensures

pub returns-clause-tidy : goal.returns-clause-tidy
returns-clause-tidy c has =
    let b = bound_of c.args.b.now in
    IfOk-weaker c.measured_first.result (λ w. answer_of w ≡ rewritten_within b) (λ w. WhereFits (answer_of w) IsTidy)
    (λ w is. answer-fits IsTidy b (answer_of w) (λ small. rewritten-tidy b has) is) c.measured_first.ensures
