use Rattle.std.proofs.Common.{sym, ap, ◌∙◌, length, ◌+◌}
use Rattle.std.specs.Prelude.{nat_le, option_map}
use Rattle.model.specs.Limits.{atom_limit}
use Rattle.poly_terms.specs.Views.{term_of}
use Rattle.its_model.specs.Valid.{cost_atoms}
use Rattle.its_reader.proofs.TailNotes.{one_beside, none_beside}
use Rattle.its_reader.proofs.draft.RuleDraft.has_atoms.Goals as goal

pub returns-in-Some : goal.returns-in-Some
returns-in-Some c =
    one_beside c.len-atoms.result
    ∙ (ap (λ n. nat_le atom_limit (n + 1)) (c.len-atoms.ensures ∙ c.args.self.now.guard.atoms.ok.0)
    ∙ ap (λ o. nat_le atom_limit (length c.args.self.now.guard.atoms.items + cost_atoms (option_map term_of o)))
    (sym c.in-Some.is))

pub returns-in-None : goal.returns-in-None
returns-in-None c =
    none_beside c.len-atoms.result
    ∙ (ap (λ n. nat_le atom_limit (n + 0)) (c.len-atoms.ensures ∙ c.args.self.now.guard.atoms.ok.0)
    ∙ ap (λ o. nat_le atom_limit (length c.args.self.now.guard.atoms.items + cost_atoms (option_map term_of o)))
    (sym c.in-None.is))
