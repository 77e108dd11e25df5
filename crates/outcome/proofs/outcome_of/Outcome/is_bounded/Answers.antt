use Rattle.std.proofs.Common.{◌∙◌, ap}
use Rattle.std.specs.List.{list_all}
use Rattle.outcome.specs.Entries.{is_known, is_known_cost}
use Rattle.outcome.proofs.KnownEntries.{bounded_where_timed, bounded_where_untimed}
use Rattle.outcome.proofs.outcome_of.Outcome.is_bounded.Goals as goal

pub returns-then-timed : goal.returns-then-timed
returns-then-timed c =
    bounded_where_timed c.args.self.now c.all_timed-timed.result c.all_costed-costed.result
    (c.all_timed-timed.ensures ∙ ap (list_all is_known) c.deref.ensures.value)
    (c.all_costed-costed.ensures ∙ ap (list_all is_known_cost) c.deref-2.ensures.value) c.if-timed.true

pub returns-else-timed : goal.returns-else-timed
returns-else-timed c =
    bounded_where_untimed c.args.self.now c.all_timed-timed.result
    (c.all_timed-timed.ensures ∙ ap (list_all is_known) c.deref.ensures.value) c.if-timed.false
