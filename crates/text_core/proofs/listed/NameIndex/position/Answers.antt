use Rattle.std.proofs.Common.{refl}
use Rattle.text_core.proofs.KeyLaws.{found_at}
use Rattle.text_core.proofs.listed.NameIndex.position.Goals as goal

pub returns : goal.returns
returns c = found_at (λ k. k.now) c.args.name.now _ (λ k. refl) c.args.self.now.names.keys c.get_index_of.result c.get_index_of.ensures.index c.get_index_of.ensures.found
