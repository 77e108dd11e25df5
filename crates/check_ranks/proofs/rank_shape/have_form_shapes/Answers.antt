use Rattle.std.proofs.Common.{map, refl, sym, subst, arith}
use Rattle.std.specs.List.{All}
use Rattle.std.proofs.lemmas.List.Elements.{All-push, recursion_from_All}
use Rattle.its_model.specs.Views.{program_of}
use Rattle.cert_types.specs.Views.{form_of}
use Rattle.cert_types.specs.cert_rules.AcceptsRank.{HasFormShape}
use Rattle.cert_context.proofs.Cuts.{done-more, done-all, each-at}
use Rattle.check_ranks.proofs.rank_shape.have_form_shapes.Goals as goal

pub returns-then-not-fits : goal.returns-then-not-fits
returns-then-not-fits c = (
  λ e. absurd (let no : ⊥ = cc in no),
  λ h. absurd (let f = c.has_form_shape-fits.ensures.1 (each-at form_of (HasFormShape (program_of c.args.p.now)) c.args.forms.now
      c.loop-form.form-index c.form-item.result c.loop-form-test.true c.form-item.is
      (recursion_from_All (HasFormShape (program_of c.args.p.now)) (map form_of c.args.forms.now) h)) in let no : ⊥ = cc in no),
)

pub loop-form-preserved : goal.loop-form-preserved
loop-form-preserved c =
    subst (All (HasFormShape (program_of c.args.p.now)))
    (sym (done-more form_of c.args.forms.now c.loop-form.form-index c.form-item.result c.loop-form-test.true c.form-item.is))
    (All-push (HasFormShape (program_of c.args.p.now)) _ (form_of c.form-item.result) c.loop-form.invariant
    (c.has_form_shape-fits.ensures.0 c.if-not-fits.false))

pub returns : goal.returns
returns c = (
  λ e. subst (All (HasFormShape (program_of c.args.p.now)))
      (done-all form_of c.args.forms.now c.loop-form.form-index (omega (arith, c.loop-form-test.false))) c.loop-form.invariant,
  λ h. refl,
)
