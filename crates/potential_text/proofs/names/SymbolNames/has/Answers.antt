use Rattle.std.proofs.Common.{◌∙◌, refl}
use Rattle.text_core.proofs.KeyLaws.{key_among}
use Rattle.potential_text.proofs.names.SymbolNames.has.Goals as goal

pub returns : goal.returns
returns c = c.contains.ensures ∙ key_among (λ k. k.now) c.args.name.now _ (λ k. refl) c.args.self.now.names.keys
