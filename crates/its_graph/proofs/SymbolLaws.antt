-- The symbols of valid programs.
use Rattle.std.proofs.Common.{◌<◌, length}
use Rattle.std.proofs.lemmas.List.Elements.{All-weaker}
use Rattle.model.specs.Programs.{Rule}
use Rattle.its_model.specs.Valid.{IsValidRule}
use Rattle.its_model.proofs.ListLaws.{all-to}
use Rattle.its_graph.specs.Graphs.{ValidHaveSymbols}

-- The start symbol and those of the rules are symbols of a valid program.
pub valid_have_symbols : ValidHaveSymbols
valid_have_symbols = λ p h. record {
  start = h.start;
  rules =
      All-weaker (IsValidRule p) (λ (r : Rule). (r.source < length p.symbols) × (r.target < length p.symbols))
      (λ r v. (v.source, v.target)) p.rules (all-to (IsValidRule p) p.rules h.rules);
}
