-- The state after each piece represents the written state after it.
use Rattle.std.proofs.Common.{refl, sym, ◌∙◌}
use Rattle.expr_reader.proofs.GuardTaking.{takes_truth, takes_joint, takes_more}
use Rattle.expr_reader.proofs.GuardStops.{takes_relation, takes_none}
use Rattle.expr_reader.proofs.guard.GuardReader.take.Goals as goal

pub returns-then-reads_truth : goal.returns-then-reads_truth
returns-then-reads_truth c =
    takes_truth _ _ _ _ _ _ (sym c.reads_truth.ensures ∙ c.if-reads_truth.true) refl c.in_ok-take_truth.ensures.state c.in_ok-take_truth.ensures.atoms c.in_ok-take_truth.ensures.expression

pub returns-then-has_read : goal.returns-then-has_read
returns-then-has_read c = takes_joint _ _ _ _ _ _ _ (sym c.has_read.ensures ∙ c.if-has_read.true) refl c.take_joint.ensures.joins c.take_joint.ensures.taken c.take_joint.ensures.kept

pub returns-then-goes_on_with : goal.returns-then-goes_on_with
returns-then-goes_on_with c =
    takes_more _ _ _ _ _ _ (sym c.reads_truth.ensures ∙ c.if-reads_truth.false) c.in_ok-take_more.ensures.leads c.in_ok-take_more.ensures.state c.in_ok-take_more.ensures.atoms c.in_ok-take_more.ensures.related
    (sym c.has_read.ensures ∙ c.if-has_read.false) (sym c.goes_on_with.ensures ∙ c.if-goes_on_with.true)

pub returns-in_ok-taken-in-Some : goal.returns-in_ok-taken-in-Some
returns-in_ok-taken-in-Some c =
    takes_relation _ _ _ _ _ _ _ _ (sym c.has_read.ensures ∙ c.if-has_read.false) (sym c.goes_on_with.ensures ∙ c.if-goes_on_with.false) c.in-Some.ensures refl c.in_ok-taken-in-Some.ensures

pub returns-in-None : goal.returns-in-None
returns-in-None c = takes_none _ _ _ (sym c.has_read.ensures ∙ c.if-has_read.false) (sym c.goes_on_with.ensures ∙ c.if-goes_on_with.false) _ _ _ (sym c.in-None.ensures) refl refl
