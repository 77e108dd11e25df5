-- What a call sees of the shelf, and what it does to the sink.
use Rattle.std.specs.Prelude.{ℕ, List, Option}
use Rattle.outside_io.specs.Files.{Files}
use Rattle.outside_io.specs.declared.shelf.Shelf as shelf
use Rattle.outside_io.specs.declared.sink.Sink as sink

-- what a call saw of the shelf: its contents, if disclosed, its count of faults before and after, its count of fetches
-- after, if disclosed, and how many bytes its last fetch read
pub record ShelfUse : Type 0 where
  pub files_if_disclosed : Option Files
  pub faults_before : ℕ
  pub faults_after : ℕ
  pub fetches_after : Option ℕ
  pub taken : ℕ

-- what was seen of a shelf that had this state before a call and that one after it, by the meanings of the shelf's type
abbrev pub shelf_use_of : {F : Type 0} → shelf.Ghosts F → F → F → ShelfUse
shelf_use_of means before after = record {
  files_if_disclosed = means.files_if_disclosed before;
  faults_before = means.faults before;
  faults_after = means.faults after;
  fetches_after = means.fetches after;
  taken = means.taken after;
}

-- the sink's count of faults, its count of puts, if disclosed, and the written bytes, if disclosed, before and after
pub record SinkUse : Type 0 where
  pub faults_before : ℕ
  pub faults_after : ℕ
  pub puts_before : Option ℕ
  pub puts_after : Option ℕ
  pub written_before : Option (List ℕ)
  pub written_after : Option (List ℕ)

-- what was put into a sink that had this state before a call and that one after it, by the meanings of the sink's type
abbrev pub sink_use_of : {S : Type 0} → sink.Ghosts S → S → S → SinkUse
sink_use_of means before after = record {
  faults_before = means.faults before;
  faults_after = means.faults after;
  puts_before = means.puts before;
  puts_after = means.puts after;
  written_before = means.written before;
  written_after = means.written after;
}
