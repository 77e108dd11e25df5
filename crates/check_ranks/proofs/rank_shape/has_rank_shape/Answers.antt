use Rattle.std.proofs.Common.{◌∙◌, List, map, sym, ap, subst}
use Rattle.std.specs.List.{All}
use Rattle.cert_types.specs.Views.{form_of}
use Rattle.cert_types.specs.declared.rank.Form.{Form}
use Rattle.cert_types.specs.cert_rules.AcceptsRank.{HasFormShape}
use Rattle.cert_types.specs.cert_rules.Graph.{symbols_of}
use Rattle.cert_context.specs.CheckContexts.{program, setting}
use Rattle.check_ranks.specs.RankShapes.{symbol_in}
use Rattle.check_ranks.proofs.RankShapes.{shape-set, shape-numbers, shape-symbols, shape-forms, shape-whole}
use Rattle.check_ranks.proofs.rank_shape.has_rank_shape.Goals as goal

pub returns-then-not-is_rank_set : goal.returns-then-not-is_rank_set
returns-then-not-is_rank_set c = (
  λ e. absurd (let no : ⊥ = cc in no),
  λ h. c.if-not-is_rank_set.ensures.1 (shape-set (setting c.args.context.now) c.args.node.now h),
)

pub returns-then-not-has_numbers : goal.returns-then-not-has_numbers
returns-then-not-has_numbers c = (
  λ e. absurd (let no : ⊥ = cc in no),
  λ h. c.if-not-has_numbers.ensures.1 (shape-numbers (setting c.args.context.now) c.args.node.now h),
)

pub returns-then-not-are_of : goal.returns-then-not-are_of
returns-then-not-are_of c = (
  λ e. absurd (let no : ⊥ = cc in no),
  λ h. c.if-not-are_of.ensures.1
      (ap (map symbol_in) c.deref-2.ensures.value
      ∙ (shape-symbols (setting c.args.context.now) c.args.node.now h
      ∙ (ap (symbols_of (program c.args.context.now)) (sym c.deref.ensures.value)
      ∙ (sym c.in_ok-symbols.ensures ∙ sym c.deref-3.ensures.value)))),
)

pub returns : goal.returns
returns c =
    let s = setting c.args.context.now in
    let n = c.args.node.now in (
      λ e. shape-whole s n (c.is_rank_set.ensures.0 c.if-not-is_rank_set.false) (c.has_numbers.ensures.0 c.if-not-has_numbers.false)
          (ap (map symbol_in) (sym c.deref-2.ensures.value)
          ∙ (c.are_of.ensures.0 c.if-not-are_of.false
          ∙ (c.deref-3.ensures.value ∙ (c.in_ok-symbols.ensures ∙ ap (symbols_of (program c.args.context.now)) c.deref.ensures.value))))
          (subst (λ (fs : List Form). All (HasFormShape s.program) (map form_of fs)) c.deref-4.ensures.value
          (c.have_form_shapes.ensures.0 e)),
      λ h. c.have_form_shapes.ensures.1
          (subst (λ (fs : List Form). All (HasFormShape s.program) (map form_of fs)) (sym c.deref-4.ensures.value)
          (shape-forms s n h)),
    )
