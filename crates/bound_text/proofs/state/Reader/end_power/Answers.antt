use Rattle.std.proofs.Common.{refl, ap, ◌∙◌}
use Rattle.text_core.specs.model.Bounds as plain
use Rattle.text_core.specs.model.Bounds.{PowerOf}
use Rattle.bound_text.specs.Shapes.{with_part}
use Rattle.bound_text.specs.Views.{parts_in}
use Rattle.bound_expr.specs.declared.bound.Bound.{Bound}
use Rattle.bound_expr.specs.Views.{bound_of}
use Rattle.bound_expr.proofs.Views.{bound_of-Power}
use Rattle.bound_text.proofs.SteppingLaws.{settled_factor}
use Rattle.bound_text.proofs.state.Reader.end_power.Goals as goal

pub returns : goal.returns
returns c = settled_factor _ _ (parts_in c.args.self.now.factors) (parts_in c.push.new.self) (PowerOf c.args.base (bound_of c.args.exponent)) (
    c.in_ok-push.ensures ∙ ap (λ (b : plain.Bound). with_part (parts_in c.args.self.now.factors) b) (bound_of-Power _ _ ∙ ap (λ (e : Bound). PowerOf c.args.base (bound_of e)) c.in_ok-new.ensures.ok)) refl
