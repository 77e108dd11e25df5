use Rattle.std.proofs.Common.{◌≡◌, ℕ, ◌<◌, List, All, length, get_or, arith, sym, ◌∙◌, ap, subst}
use Rattle.its_graph.specs.Groups.{values_in}
use Rattle.its_graph.specs.Naming.{named}
use Rattle.its_graph.specs.Numbers.{AreApart}
use Rattle.its_graph.proofs.Filling.{values-at}
use Rattle.its_graph.proofs.Numbering.{number-more, values-past, component-within}
use Rattle.its_graph.proofs.cycle.number_all.Goals as goal

-- The nodes of a component are below the number of nodes.
pub name_all-requires : goal.name_all-requires
name_all-requires c =
    let i = c.loop-number.number in
    let lists = c.args.components.now in
    let items : values_in lists i ≡ c.deref.result.now = values-at lists i c.index-components-number.result c.loop-number-test.true c.index-components-number.is ∙ sym c.deref.ensures.value in
    subst (λ (xs : List ℕ). All (λ b. b < length c.loop-number.numbers) xs) items
    (subst (λ (n : ℕ). All (λ b. b < n) (values_in lists i)) (sym c.loop-number.auto.numbers) (component-within (length c.args.numbers.now) lists i c.requires.apart))

-- The nodes of one more component have its number.
pub loop-number-preserved : goal.loop-number-preserved
loop-number-preserved c =
    let i = c.loop-number.number in
    let lists = c.args.components.now in
    let items : values_in lists i ≡ c.deref.result.now = values-at lists i c.index-components-number.result c.loop-number-test.true c.index-components-number.is ∙ sym c.deref.ensures.value in
    let apart : AreApart (length c.loop-number.numbers) lists = subst (λ (n : ℕ). AreApart n lists) (sym c.loop-number.auto.numbers) c.requires.apart in
    let same : c.name_all.new.names ≡ named i (values_in lists i) c.loop-number.numbers = c.name_all.ensures ∙ ap (λ (xs : List ℕ). named i xs c.loop-number.numbers) (sym items) in
    λ k b low among. ap (λ (xs : List ℕ). get_or xs b 0) same ∙ number-more lists c.loop-number.numbers i apart c.loop-number.invariant k b low among

-- Past the end there is no component.
pub returns : goal.returns
returns c = λ k b among. c.loop-number.invariant k b (omega (arith, values-past c.args.components.now k b among)) among
