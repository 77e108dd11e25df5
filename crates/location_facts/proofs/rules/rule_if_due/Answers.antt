use Rattle.location_facts.proofs.rules.rule_if_due.Goals as goal

pub returns-in_ok-under-in-Facts-clause-verdict : goal.returns-in_ok-under-in-Facts-clause-verdict
returns-in_ok-under-in-Facts-clause-verdict c = (
  c.in_ok-under-in-Facts.ensures.rows,
  c.in_ok-under-in-Facts.ensures.writable,
  c.in_ok-under-in-Facts.ensures.empty
      c.args.pivots,
)
