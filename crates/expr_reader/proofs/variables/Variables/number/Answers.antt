-- A new key is appended to the set, and its position is returned.
use Rattle.std.proofs.Common.{refl, ◌∙◌}
use Rattle.text_core.specs.Names.{is_same}
use Rattle.text_core.proofs.KeyLaws.{key_position}
use Rattle.expr_reader.proofs.NameSets.{names_with}
use Rattle.expr_reader.proofs.variables.Variables.number.Goals as goal

pub returns-clause-number : goal.returns-clause-number
returns-clause-number c = c.in_ok-number.ensures.index ∙ key_position (λ k. k.now) c.args.name.now _ (λ k. refl) c.args.self.now.names.keys

pub returns-clause-names : goal.returns-clause-names
returns-clause-names c = names_with (λ k. k.now) (λ a b. is_same a.now b.now) c.args.self.now.names.keys _ c.args.name (λ k. refl) c.in_ok-number.ensures.keys
