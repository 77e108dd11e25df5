-- The meaning of a shelf in memory.
use Rattle.std.specs.Prelude.{ℕ, Bool, List}
use Rattle.outside_io.specs.declared.memory_shelf.MemoryShelf.{MemoryShelf}
use Rattle.outside_io.specs.Counts.{names_call, next_count}
use Rattle.outside_io.specs.Files.{Files}
use Rattle.outside_io.specs.MemoryFiles.{files_of}

-- the files that it holds
abbrev pub held_files : MemoryShelf → Files
held_files shelf = files_of shelf.files.items

-- the numbers of the calls that fail
abbrev pub failing_calls : MemoryShelf → List ℕ
failing_calls shelf = shelf.failing.items

-- the number of fetches so far
abbrev pub fetch_count : MemoryShelf → ℕ
fetch_count shelf = shelf.calls

-- the number of fetches that failed because they were set to fail
abbrev pub fault_count : MemoryShelf → ℕ
fault_count shelf = shelf.faults

-- how many bytes the last fetch took
abbrev pub taken_count : MemoryShelf → ℕ
taken_count shelf = shelf.taken

-- whether the next fetch is one of the calls that fail
abbrev pub fails_next : MemoryShelf → Bool
fails_next shelf = names_call (failing_calls shelf) (next_count (fetch_count shelf))
