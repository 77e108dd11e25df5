-- The meaning of the shelf of the system's files.
use Rattle.std.specs.Prelude.{ℕ}
use Rattle.outside_io.specs.declared.file_shelf.FileShelf.{FileShelf}

-- how many fetches failed
abbrev pub fault_count : {R : Type 0} → FileShelf R → ℕ
fault_count shelf = shelf.faults

-- how many bytes the last fetch took
abbrev pub taken_count : {R : Type 0} → FileShelf R → ℕ
taken_count shelf = shelf.taken

-- the number of fetches so far
abbrev pub fetch_count : {R : Type 0} → FileShelf R → ℕ
fetch_count shelf = shelf.calls
