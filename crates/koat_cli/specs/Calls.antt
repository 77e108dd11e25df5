-- The data of a call: what it was given and saw.
use Rattle.std.specs.Prelude.{ℕ, List, Option, map, string_bytes}
use Rattle.std.specs.declared.alloc.Global.{Global}
use Rattle.std.specs.declared.string.String.{String}
use Rattle.outside_io.specs.declared.shelf.Shelf as shelf
use Rattle.command_line.specs.Lines.{Words}
use Rattle.call_plans.specs.Calls.{ShelfUse, shelf_use_of}

-- the words of a call, the shelf's count of fetches before it, if disclosed, and what it saw of the shelf
pub record Call : Type 0 where
  pub words : Words
  pub fetches_before : Option ℕ
  pub shelf : ShelfUse

-- the call with these words that found the shelf in this state and left it in that one, by the meanings of the shelf's
-- type
abbrev pub call_of : {F : Type 0} → shelf.Ghosts F → List (String Global) → F → F → Call
call_of means words before after = record {
  words = map string_bytes words;
  fetches_before = means.fetches before;
  shelf = shelf_use_of means before after;
}
