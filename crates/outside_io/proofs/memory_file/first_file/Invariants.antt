use Rattle.std.proofs.Common.{◌≡◌, drop}
use Rattle.std.specs.FinMap.{get}
use Rattle.outside_io.specs.MemoryFiles.{files_of}
use Rattle.outside_io.proofs.memory_file.first_file.Given as goal

-- no file before this one has the name
abbrev pub invariant-loop-file : goal.invariant-loop-file
invariant-loop-file l = get (files_of l.files) l.name ≡ get (files_of (drop l.file-index l.files)) l.name
