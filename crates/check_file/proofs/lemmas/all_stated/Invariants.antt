use Rattle.std.proofs.Common.{◌≡◌, map, take}
use Rattle.cert_types.specs.Views.{facts_of}
use Rattle.cert_context.specs.Statements.{all_facts}
use Rattle.cert_context.specs.Statements.{stated_at}
use Rattle.check_file.proofs.lemmas.all_stated.Given as goal

-- the facts are copies of those of the lemmas before this one
abbrev pub invariant-loop-position : goal.invariant-loop-position
invariant-loop-position l =
    facts_of l.all.items ≡ all_facts (map (stated_at l.kept) (take l.position-index l.kept.lemmas.items))
