use Rattle.std.proofs.Common.{◌≡◌, ℕ, ◌<◌, List, Contains, length, ap, sym, ◌∙◌, subst}
use Rattle.std.proofs.lemmas.List.{with_items_is}
use Rattle.its_graph.specs.Groups.{Joins}
use Rattle.its_graph.specs.Classes.{AreClassNames}
use Rattle.its_graph.proofs.Naming.{names-are}
use Rattle.its_graph.proofs.classes.names_of.Goals as goal

-- All nodes are roots, so all components have a name.
pub returns : goal.returns
returns c =
    let n : ℕ = length c.args.next.now in
    let size : length c.take_roots.new.names ≡ n = c.take_roots.auto.names ∙ (ap length c.deref_mut-2.ensures.value ∙ (sym c.in_ok-names.names.ok.0 ∙ c.in_ok-names.ensures.len)) in
    let same = with_items_is c.in_ok-names.names c.take_roots.new.names (c.take_roots.auto.names ∙ (ap length c.deref_mut-2.ensures.value ∙ sym c.in_ok-names.names.ok.0)) in
    let all : (a : ℕ) → a < n → Contains c.deref.result.now a = λ a low. subst (λ (xs : List ℕ). Contains xs a) (sym c.deref.ensures.value) (c.in_ok-roots.ensures.all a low) in
    subst (λ (xs : List ℕ). AreClassNames (Joins c.args.next.now) n xs) (sym same)
    (names-are (Joins c.args.next.now) n c.take_roots.new.colors c.take_roots.new.names c.deref.result.now size all c.in_ok-take_roots.ensures)
