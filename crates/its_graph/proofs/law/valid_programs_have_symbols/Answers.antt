use Rattle.its_graph.proofs.SymbolLaws.{valid_have_symbols}
use Rattle.its_graph.proofs.law.valid_programs_have_symbols.Goals as goal

pub returns : goal.returns
returns c = valid_have_symbols
