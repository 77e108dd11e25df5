use Rattle.std.proofs.Common.{rules, inl, inr, refl, map}
use Rattle.outcome.specs.Views.{report_of}
use Rattle.best_report.specs.claims_check.Views.{stated_of}
use Rattle.best_report.specs.Lines.{line_of}
use Rattle.koat_cli.proofs.best.best.Goals as goal

-- the report with these facts and lines, in which no bound is missing
pub returns-then-is_bounded : goal.returns-then-is_bounded
returns-then-is_bounded c = inl (
  refl,
  record {
    facts = c.in_ok-found.found.kept.items;
    report = report_of c.in_ok-found.found.outcome;
    found = search rules;
    lines = map line_of c.in_ok-lines.lines.items;
    best = c.in_ok-lines.ensures.best;
    stated = map stated_of c.in_ok-stated.field-0.best.items;
    by_files = c.in_ok-stated.ensures.by_files;
    uses = search rules;
    bounded = search rules;
    result_is = search rules;
  },
)

-- the same where one is missing
pub returns : goal.returns
returns c = inr (inl (
  refl,
  record {
    facts = c.in_ok-found.found.kept.items;
    report = report_of c.in_ok-found.found.outcome;
    found = search rules;
    lines = map line_of c.in_ok-lines.lines.items;
    best = c.in_ok-lines.ensures.best;
    stated = map stated_of c.in_ok-stated.field-0.best.items;
    by_files = c.in_ok-stated.ensures.by_files;
    uses = search rules;
    bounded = search rules;
    result_is = search rules;
  },
))
