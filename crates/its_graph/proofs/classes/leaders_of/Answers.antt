use Rattle.std.proofs.Common.{ℕ, ◌<◌, List, All, Vec, length, sym, subst}
use Rattle.std.specs.declared.alloc.Global.{Global}
use Rattle.std.proofs.lemmas.Result.{IfOk-weaker}
use Rattle.its_graph.specs.Groups.{Joins}
use Rattle.its_graph.specs.Classes.{AreClassNames, AreFirst, AreLeaders}
use Rattle.its_graph.proofs.Filling.{joins-within}
use Rattle.its_graph.proofs.Naming.{names-within, leaders-are}
use Rattle.its_graph.proofs.classes.leaders_of.Goals as goal

-- A name is one of the nodes.
pub first_of_each_name-requires-clause-within : goal.first_of_each_name-requires-clause-within
first_of_each_name-requires-clause-within c =
    let next = c.args.next.now in
    subst (λ (xs : List ℕ). All (λ name. name < length xs) xs) (sym c.deref.ensures.value)
    (names-within (Joins next) (length next) c.in_ok-names.names.items (joins-within next (length next) c.requires.tables.next_within) c.in_ok-names.ensures)

-- The first node of each name is the least of the component.
pub returns : goal.returns
returns c =
    let next = c.args.next.now in
    let names : AreClassNames (Joins next) (length next) c.deref.result.now = subst (λ (xs : List ℕ). AreClassNames (Joins next) (length next) xs) (sym c.deref.ensures.value) c.in_ok-names.ensures in
    IfOk-weaker c.first_of_each_name.result (λ (leaders : Vec ℕ Global). AreFirst c.deref.result.now leaders.items) (λ (leaders : Vec ℕ Global). AreLeaders (Joins next) (length next) leaders.items)
    (λ leaders h. leaders-are (Joins next) (length next) c.deref.result.now leaders.items names h) c.first_of_each_name.ensures
