use Rattle.std.proofs.Common.{inl}
use Rattle.signed_bounds.specs.Views.{signed_of}
use Rattle.signed_values.specs.Starts.{starts_of}
use Rattle.best_report.proofs.Choices.{itself, ok-least-no_worse, ok-least-at_most_stated, ok-least-one, ok-stated-at_most_stated}
use Rattle.best_report.proofs.choosing.better_of_two.Goals as goal

pub returns-then-is_at_most-clause-at_most_stated : goal.returns-then-is_at_most-clause-at_most_stated
returns-then-is_at_most-clause-at_most_stated c =
    ok-stated-at_most_stated (starts_of c.args.starts.now) (signed_of c.args.found) (signed_of c.args.stated.now)
    c.copied_bound.result c.copied_bound.ensures

pub returns-then-is_at_most-2-clause-no_worse : goal.returns-then-is_at_most-2-clause-no_worse
returns-then-is_at_most-2-clause-no_worse c = itself (starts_of c.args.starts.now) (signed_of c.args.found)

pub returns-then-is_at_most-2-clause-at_most_stated : goal.returns-then-is_at_most-2-clause-at_most_stated
returns-then-is_at_most-2-clause-at_most_stated c = inl (c.is_at_most-2.ensures c.if-is_at_most-2.true)

pub returns-clause-choice : goal.returns-clause-choice
returns-clause-choice c =
    ok-least-one (starts_of c.args.starts.now) (signed_of c.args.found) (signed_of c.args.stated.now) c.minimum_or_first.result
    c.minimum_or_first.ensures

pub returns-clause-no_worse : goal.returns-clause-no_worse
returns-clause-no_worse c =
    ok-least-no_worse (starts_of c.args.starts.now) (signed_of c.args.found) (signed_of c.args.stated.now) c.minimum_or_first.result
    c.minimum_or_first.ensures

pub returns-clause-at_most_stated : goal.returns-clause-at_most_stated
returns-clause-at_most_stated c =
    ok-least-at_most_stated (starts_of c.args.starts.now) (signed_of c.args.found) (signed_of c.args.stated.now) c.minimum_or_first.result
    c.minimum_or_first.ensures
