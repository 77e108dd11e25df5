use Rattle.std.proofs.Common.{◌<◌, ◌^◌, ◌∙◌, ◌++◌, List, length, map, get_or, ap, subst, sym, arith}
use Rattle.std.specs.Prelude.{ℤ}
use Rattle.std.proofs.lemmas.List.{take_all}
use Rattle.poly_terms.specs.linear_forms.Forms.{Form}
use Rattle.cert_types.specs.Views.{form_of as form_at_symbol, rank_of}
use Rattle.cert_types.specs.cert_rules.Checks.{needed_after_each}
use Rattle.cert_types.specs.cert_rules.Composed.{rank_form}
use Rattle.cert_types.specs.declared.rank.Form as code
use Rattle.cert_types.specs.cert_rules.Numbers.{IsAscending}
use Rattle.cert_context.specs.CheckContexts.{program, setting}
use Rattle.cert_types.specs.cert_rules.Checks.{read_after}
use Rattle.check_ranks.specs.RankShapes.{symbol_in}
use Rattle.check_ranks.proofs.OrderedForms.{shape-ascends}
use Rattle.check_ranks.proofs.LossRows.{found-short}
use Rattle.check_ranks.proofs.ReadPlaces.{needed-more}
use Rattle.check_ranks.proofs.reading.needed_result_variables.Goals as goal

pub form_at-form-requires : goal.form_at-form-requires
form_at-form-requires c =
    subst (λ (fs : List code.Form). IsAscending (map symbol_in fs)) (sym c.deref.ensures.value)
    (shape-ascends (setting c.args.context.now) c.args.node.now c.requires.shape)

pub push_read-requires : goal.push_read-requires
push_read-requires c =
    subst (λ (cs : List ℤ). length cs < 2 ^ 31) (sym c.coefs_of.ensures)
    (found-short (program c.args.context.now) c.args.node.now c.requires.shape c.requires.context.valid c.form_at-form.result
    c.target_of.result
    (c.form_at-form.ensures ∙ ap (λ fs. rank_form (map form_at_symbol fs) c.target_of.result) c.deref.ensures.value))

pub loop-entry-preserved : goal.loop-entry-preserved
loop-entry-preserved c =
    let s = setting c.args.context.now in
    let n = rank_of c.args.node.now in
    c.in_ok-push_read.ensures {u = tt}
    ∙ (λ i. c.loop-entry.invariant i ++ read_after ((c.coefs_of.ensures ∙ ap (λ (f : Form). f.coefs)
    (c.form_at-form.ensures ∙ (λ j. rank_form (map form_at_symbol (c.deref.ensures.value j)) (c.target_of.ensures j)))) i)
    (get_or c.args.entering.now c.loop-entry.entry-index 0))
    ∙ sym (needed-more s n c.args.entering.now c.loop-entry.entry-index c.loop-entry-test.true)

pub returns : goal.returns
returns c =
    c.loop-entry.invariant
    ∙ ap (needed_after_each (setting c.args.context.now) (rank_of c.args.node.now))
    (take_all c.loop-entry.entry-index c.args.entering.now (omega (arith, c.loop-entry-test.false)))
