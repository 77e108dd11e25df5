use Rattle.std.proofs.Common.{ℕ, List, ◌++◌, ap, ◌∙◌, map, take}
use Rattle.its_model.specs.declared.guard.Atom.{Atom}
use Rattle.its_model.specs.Views.{atom_of, rule_of}
use Rattle.location_facts.specs.Rows.{facts_at}
use Rattle.location_facts.specs.Strengthening.{strongest_atoms, room_for}
use Rattle.location_facts.proofs.AtomLists.{joined-taken}
use Rattle.location_facts.proofs.strengthening.strengthened_guard.Goals as goal

pub returns : goal.returns
returns c =
    joined-taken atom_of c.in_ok-guard.guard.items c.in_ok-added.added.items c.append.new.self.items
    (room_for (rule_of c.args.rule.now)) (map atom_of c.args.rule.now.guard.items)
    (strongest_atoms (facts_at c.args.rule.now.source c.args.kept.now))
    (c.in_ok-guard.ensures ∙ ap (map atom_of) c.deref-2.ensures.value)
    (c.in_ok-added.ensures ∙ ap strongest_atoms (c.deref.ensures.value ∙ c.in_ok-facts.ensures))
    (c.in_ok-append.ensures.items
    ∙ ap (λ (xs : List Atom). c.in_ok-guard.guard.items ++ xs)
    (c.truncate.ensures.items ∙ ap (λ (k : ℕ). take k c.in_ok-added.added.items) c.room_for.ensures))
