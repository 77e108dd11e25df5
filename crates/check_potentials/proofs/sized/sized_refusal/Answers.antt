use Rattle.std.proofs.Common.{◌++◌, ◌∙◌, ℕ, List, map, refl, sym, ap}
use Rattle.signed_bounds.specs.Views.{signed_of}
use Rattle.potential_nodes.specs.potentials.model.Paths.{pre}
use Rattle.potential_nodes.specs.potentials.model.Programs.{rule_at}
use Rattle.potential_nodes.specs.PolynomialTerms.{reads_below}
use Rattle.potential_nodes.specs.Checks.{check, BadShape, LowBound}
use Rattle.potential_nodes.specs.PlainPeaks.{left_in, size_shape, size_check}
use Rattle.potential_types.specs.Views.{fact_view, sized_of}
use Rattle.check_potentials.specs.Grounds.{plain_ground, program}
use Rattle.check_potentials.specs.Refusals.{all_hold}
use Rattle.check_potentials.specs.Stages.{size_bounded}
use Rattle.check_potentials.proofs.RefusalLaws.{passed_one, failed_one, refused_stops, refused_passes, hold_refused}
use Rattle.check_potentials.proofs.RefusalLaws.{alike_refused, have_map}
use Rattle.check_potentials.proofs.SizeLaws.{sizes-checked}
use Rattle.check_potentials.proofs.sized.sized_refusal.Goals as goal

pub returns-then-not-is_right : goal.returns-then-not-is_right
returns-then-not-is_right c =
    let g = plain_ground c.args.ground in
    let p = program c.args.ground in
    let facts = map fact_view c.args.facts.now in
    let n = sized_of c.args.node.now in
    let b = signed_of c.args.bound.now in
    let own = check BadShape (reads_below (left_in (rule_at p n.rule)) n.form) in
    let shapes = map (size_shape facts n) (pre p n.rule) in
    let bounds = map (size_check g facts n b) (pre p n.rule) in
    sym (failed_one own (shapes ++ bounds) (sym (c.reads_below-is_right.ensures ∙ ap (λ (k : ℕ). reads_below k n.form)
    c.left_of.ensures) ∙ c.if-not-is_right.true))

pub returns-then-not-are_sized : goal.returns-then-not-are_sized
returns-then-not-are_sized c =
    let g = plain_ground c.args.ground in
    let p = program c.args.ground in
    let facts = map fact_view c.args.facts.now in
    let n = sized_of c.args.node.now in
    let b = signed_of c.args.bound.now in
    let own = check BadShape (reads_below (left_in (rule_at p n.rule)) n.form) in
    let shapes = map (size_shape facts n) (pre p n.rule) in
    let bounds = map (size_check g facts n b) (pre p n.rule) in
    sym ((passed_one own (shapes ++ bounds) (sym (c.reads_below-is_right.ensures ∙ ap (λ (k : ℕ). reads_below k n.form)
    c.left_of.ensures) ∙ c.if-not-is_right.false))
    ∙ refused_stops shapes bounds BadShape (alike_refused BadShape shapes (have_map BadShape (size_shape facts n)
    (pre p n.rule) (λ e. refl)) (sym (ap (λ (es : List ℕ). all_hold (map (size_shape facts n) es))
    (c.deref.ensures.value ∙ c.in_ok-befores.ensures))
    ∙ (sym c.in_ok-are_sized.ensures ∙ c.if-not-are_sized.true))))

pub returns-then-not-are_high : goal.returns-then-not-are_high
returns-then-not-are_high c =
    let g = plain_ground c.args.ground in
    let p = program c.args.ground in
    let facts = map fact_view c.args.facts.now in
    let n = sized_of c.args.node.now in
    let b = signed_of c.args.bound.now in
    let own = check BadShape (reads_below (left_in (rule_at p n.rule)) n.form) in
    let shapes = map (size_shape facts n) (pre p n.rule) in
    let bounds = map (size_check g facts n b) (pre p n.rule) in
    sym ((passed_one own (shapes ++ bounds) (sym (c.reads_below-is_right.ensures ∙ ap (λ (k : ℕ). reads_below k n.form)
    c.left_of.ensures) ∙ c.if-not-is_right.false))
    ∙ (refused_passes shapes bounds (hold_refused shapes
    (sym (ap (λ (es : List ℕ). all_hold (map (size_shape facts n) es))
    (c.deref.ensures.value ∙ c.in_ok-befores.ensures))
    ∙ (sym c.in_ok-are_sized.ensures ∙ c.if-not-are_sized.false)))
    ∙ alike_refused LowBound bounds (have_map LowBound (size_check g facts n b) (pre p n.rule) (λ e. refl))
    (sizes-checked p facts n b (pre p n.rule) ∙ (sym
    (ap (λ (es : List ℕ). all_hold (map (size_bounded facts n b) es))
    (c.deref-2.ensures.value ∙ c.in_ok-befores.ensures))
    ∙ (sym c.in_ok-are_high.ensures ∙ c.if-not-are_high.true)))))

pub returns : goal.returns
returns c =
    let g = plain_ground c.args.ground in
    let p = program c.args.ground in
    let facts = map fact_view c.args.facts.now in
    let n = sized_of c.args.node.now in
    let b = signed_of c.args.bound.now in
    let own = check BadShape (reads_below (left_in (rule_at p n.rule)) n.form) in
    let shapes = map (size_shape facts n) (pre p n.rule) in
    let bounds = map (size_check g facts n b) (pre p n.rule) in
    sym ((passed_one own (shapes ++ bounds) (sym (c.reads_below-is_right.ensures ∙ ap (λ (k : ℕ). reads_below k n.form)
    c.left_of.ensures) ∙ c.if-not-is_right.false))
    ∙ (refused_passes shapes bounds (hold_refused shapes
    (sym (ap (λ (es : List ℕ). all_hold (map (size_shape facts n) es))
    (c.deref.ensures.value ∙ c.in_ok-befores.ensures))
    ∙ (sym c.in_ok-are_sized.ensures ∙ c.if-not-are_sized.false)))
    ∙ hold_refused bounds (sizes-checked p facts n b (pre p n.rule)
    ∙ (sym (ap (λ (es : List ℕ). all_hold (map (size_bounded facts n b) es))
    (c.deref-2.ensures.value ∙ c.in_ok-befores.ensures))
    ∙ (sym c.in_ok-are_high.ensures ∙ c.if-not-are_high.false)))))
