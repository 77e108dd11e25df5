use Rattle.std.proofs.Common.{◌∙◌, refl, sym, subst, ap, arith, map, length, Option, option_map, Bor}
use Rattle.std.specs.Prelude.{IfSome}
use Rattle.its_model.specs.Views.{program_of}
use Rattle.outcome.specs.Views.{report_of}
use Rattle.signed_bounds.specs.Bounds.{Signed}
use Rattle.signed_bounds.specs.declared.signed.Signed as code
use Rattle.signed_bounds.specs.Views.{signed_of}
use Rattle.signed_values.specs.Starts.{comparison_starts, starts_of}
use Rattle.program_claims.specs.Claims.{HoldsOf}
use Rattle.claims_check.specs.Views.{stated_of}
use Rattle.best_report.specs.declared.line.Line as lines
use Rattle.best_report.specs.Subjects.{stated_by}
use Rattle.best_report.specs.Lines.{line_of, LineHolds}
use Rattle.best_report.specs.Reports.{KeepsBound, IsNoWorseLine, IsChosenOn, IsLineAtMostStated}
use Rattle.best_report.proofs.Choices.{line-holds, line-keeps, line-no_worse, line-chosen, line-at_most_stated}
use Rattle.best_report.proofs.LineLists.{each-more, subjects-more}
use Rattle.best_report.proofs.Statements.{first-holds}
use Rattle.best_report.proofs.lines.chosen_lines.Goals as goal

pub loop-i-preserved : goal.loop-i-preserved
loop-i-preserved c =
    let p = program_of c.args.p.now in
    let r = report_of c.args.outcome.now in
    let s = c.index-subject.result.now in
    let old = c.loop-i.lines.items in
    let new = c.push.new.self.items in
    let compared = comparison_starts (length p.start_names) in
    let line : lines.Line = record { subject = s; bound = c.in_ok-bound.bound } in
    let found = option_map signed_of c.in_ok-found.found in
    let known = option_map (λ (b : Bor code.Signed). signed_of b.now) c.bound_in-known.result in
    let bound = option_map signed_of c.in_ok-bound.bound in
    let all = map stated_of c.args.stated.now in
    let is_known = c.bound_in-known.ensures ∙ c.in_ok-table.ensures s in
    let stated = subst (λ (o : Option Signed). IfSome o (λ b. HoldsOf p (stated_by s b))) (sym is_known)
    (first-holds p s all c.requires.stated) in
    let holds = line-holds c.signed_bounds_keep_values.ensures p r s (line_of line) found known bound
    c.requires.analysed c.in_ok-found.ensures stated c.in_ok-bound.ensures.choice refl refl in
    let keeps = line-keeps r s (line_of line) found known bound
    c.in_ok-found.ensures c.in_ok-bound.ensures.choice refl refl in
    let are_compared = ap starts_of c.deref.ensures.value ∙ c.in_ok-starts.ensures in
    let no_worse = line-no_worse r s (line_of line) found bound (starts_of c.deref.result.now) compared
    c.in_ok-found.ensures are_compared c.in_ok-bound.ensures.no_worse refl refl in
    let chosen = line-chosen r all s (line_of line) found known bound c.in_ok-found.ensures is_known
    c.in_ok-bound.ensures.choice refl refl in
    let at_most_stated = line-at_most_stated r all s (line_of line) found known bound (starts_of c.deref.result.now) compared
    c.in_ok-found.ensures is_known are_compared c.in_ok-bound.ensures.at_most_stated refl refl in
    record {
      subjects = subjects-more old new line c.in_ok-wanted.wanted.items c.loop-i.i s
          c.in_ok-push.ensures.items refl (omega arith) c.index-subject.ensures c.loop-i.invariant.subjects;
      hold = each-more (λ l. LineHolds p l) line_of old new line c.in_ok-push.ensures.items
          c.loop-i.invariant.hold holds;
      complete = each-more (λ l. KeepsBound r l) line_of old new line
          c.in_ok-push.ensures.items c.loop-i.invariant.complete keeps;
      no_worse = each-more (λ l. IsNoWorseLine compared r l) line_of old new line
          c.in_ok-push.ensures.items c.loop-i.invariant.no_worse no_worse;
      chosen = each-more (λ l. IsChosenOn r all l.subject l.bound) line_of old new line c.in_ok-push.ensures.items
          c.loop-i.invariant.chosen chosen;
      at_most_stated = each-more (λ l. IsLineAtMostStated compared r all l) line_of old new line
          c.in_ok-push.ensures.items c.loop-i.invariant.at_most_stated at_most_stated;
    }
