use Rattle.std.proofs.Common.{◌≡◌, ◌++◌, map, drop}
use Rattle.std.specs.List.{flat_map}
use Rattle.its_model.specs.Views.{name_of}
use Rattle.cert_types.specs.Views.{facts_of}
use Rattle.check_text.specs.Texts.{fact_line}
use Rattle.check_text.proofs.facts.push_facts.Given as goal

-- the written text and the remaining one are the whole
abbrev pub invariant-loop-fact : goal.invariant-loop-fact
invariant-loop-fact l =
    l.text.items ++ flat_map (fact_line (map name_of l.names)) (facts_of (drop l.fact-index l.facts))
    ≡ l.initial.text.items ++ flat_map (fact_line (map name_of l.names)) (facts_of l.facts)
