use Rattle.std.proofs.Common.{refl}
use Rattle.text_grammar.specs.text_core.Names.{is_same}
use Rattle.section_text.proofs.NameSets.{with_key}
use Rattle.section_text.proofs.names.CopyNames.insert.Goals as goal

pub returns : goal.returns
returns c =
    with_key (λ k. k.now) (λ a b. is_same a.now b.now) c.args.self.now.names.keys c.insert.new.self.keys c.args.name
    (λ j. refl) c.in_ok-insert.ensures.keys
