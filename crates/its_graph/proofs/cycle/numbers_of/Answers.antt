use Rattle.std.proofs.Common.{ℕ, List, length, ap, sym, ◌∙◌, subst}
use Rattle.std.proofs.lemmas.List.{with_items_is}
use Rattle.its_graph.specs.Numbers.{AreNumbers}
use Rattle.its_graph.proofs.cycle.numbers_of.Goals as goal

pub returns-clause-numbered : goal.returns-clause-numbered
returns-clause-numbered c =
    let same = with_items_is c.in_ok-numbers.numbers c.number_all.new.numbers (c.number_all.auto.numbers ∙ (ap length c.deref_mut.ensures.value ∙ sym c.in_ok-numbers.numbers.ok.0)) in
    subst (λ (xs : List ℕ). AreNumbers c.args.components.now xs) (sym same) c.number_all.ensures
