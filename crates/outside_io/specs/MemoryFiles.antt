-- The files of a shelf in memory, as a finite map.
use Rattle.std.specs.Prelude.{◌≡◌, ◌≢◌, ℕ, List, [], ◌∷◌, None, Some, map, string_bytes}
use Rattle.std.specs.FinMap.{from_entries, get}
use Rattle.outside_io.specs.declared.memory_file.MemoryFile.{MemoryFile}
use Rattle.outside_io.specs.Files.{Files}

-- a file as the pair of its name's bytes and its bytes
abbrev pub entry_of : MemoryFile → List ℕ × List ℕ
entry_of file = (string_bytes file.name, file.bytes.items)

-- the files of a list; of several files of one name the first counts
abbrev pub files_of : List MemoryFile → Files
files_of files = from_entries (map entry_of files)

-- of several files of one name the first counts
pub record FirstCounts : Type 0 where
  -- under its own name the first file of a list is found
  pub at_its_name : (first : MemoryFile) (rest : List MemoryFile)
      → get (files_of (first ∷ rest)) (string_bytes first.name) ≡ Some first.bytes.items
  -- under any other name the look-up finds what the rest of the list has
  pub at_others : (first : MemoryFile) (rest : List MemoryFile) (name : List ℕ) → name ≢ string_bytes first.name
      → get (files_of (first ∷ rest)) name ≡ get (files_of rest) name
  -- among no files nothing is found
  pub in_none : (name : List ℕ) → get (files_of []) name ≡ None
