use Rattle.std.proofs.Common.{◌≡◌, take, map}
use Rattle.its_model.specs.Views.{symbol_of, program_of}
use Rattle.refinement.specs.Sections.{symbol_by}
use Rattle.refined_programs.specs.Views.{copy_of}
use Rattle.refined_programs.proofs.spelling.symbols_of.Given as goal

-- the symbols are those of the copies passed
abbrev pub invariant-loop-copy : goal.invariant-loop-copy
invariant-loop-copy l =
    map symbol_of l.symbols.items ≡ map (symbol_by (program_of l.p)) (map copy_of (take l.copy-index l.copies))
