-- The meaning of a shelf without faults.
use Rattle.std.specs.Prelude.{ℕ}
use Rattle.outside_io.specs.declared.steady.SteadyShelf.{SteadyShelf}
use Rattle.outside_io.specs.Files.{Files}
use Rattle.outside_io.specs.MemoryFiles.{files_of}

-- the files that it holds
abbrev pub held_files : SteadyShelf → Files
held_files shelf = files_of shelf.files.items

-- how many bytes the last fetch took
abbrev pub taken_count : SteadyShelf → ℕ
taken_count shelf = shelf.taken

-- the number of fetches so far
abbrev pub fetch_count : SteadyShelf → ℕ
fetch_count shelf = shelf.calls
