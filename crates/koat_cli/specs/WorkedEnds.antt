-- Worked values of how much of a text is on the sink after its fault, for a call that gets the usage text.
use Rattle.std.specs.Prelude.{ℕ, List, [], ◌++◌, None, Some, codes}
use Rattle.call_plans.specs.Calls.{ShelfUse, SinkUse}
use Rattle.koat_cli.specs.Calls.{Call}
use Rattle.koat_cli.specs.Report.{usage_text}
use Rattle.koat_cli.specs.Ends.{WroteInPart}

-- a shelf that doesn't disclose its contents, from which nothing was fetched, and which had this many faults in a call
abbrev pub undisclosed : ℕ → ShelfUse
undisclosed faults = record {
  files_if_disclosed = None;
  faults_before = 0;
  faults_after = faults;
  fetches_after = Some 7;
  taken = 0;
}

-- a call without words, on a shelf that had no fault
abbrev pub without_words : Call
without_words = record { words = []; fetches_before = Some 7; shelf = undisclosed 0 }

-- a call without words, on a shelf that had a fault
abbrev pub after_shelf_fault : Call
after_shelf_fault = record { words = []; fetches_before = Some 7; shelf = undisclosed 1 }

-- a put before which the sink held `old `, and after which it holds these bytes and counts this many faults; before it
-- counted 3
abbrev pub sink_use_leaving : ℕ → List ℕ → SinkUse
sink_use_leaving faults bytes = record {
  faults_before = 3;
  faults_after = faults;
  puts_before = Some 5;
  puts_after = Some 6;
  written_before = Some (codes "old ");
  written_after = Some bytes;
}

-- after the call without words, in which the count rose from 3 to 4, the sink may hold these bytes
abbrev pub SinkMayHold : List ℕ → Type 0
SinkMayHold bytes = WroteInPart without_words (sink_use_leaving 4 bytes)

-- a prefix of the usage text, empty or whole or between, is appended to the earlier bytes; nothing else is, and nothing
-- replaces the earlier bytes. No call ends so without a rise of the sink's count, or with a fault of the shelf, since these
-- words request no file
pub record FaultsLeaveFirstBytes : Type 0 where
  pub none : SinkMayHold (codes "old ")
  pub some : SinkMayHold (codes "old usa")
  pub all : SinkMayHold (codes "old " ++ usage_text)
  pub other_text : ¬ (SinkMayHold (codes "old bou"))
  pub last_bytes : ¬ (SinkMayHold (codes "old sage"))
  pub earlier_bytes_replaced : ¬ (SinkMayHold (codes "usa"))
  pub more : ¬ (SinkMayHold (codes "old " ++ (usage_text ++ codes "u")))
  pub no_rise : (bytes : List ℕ) → ¬ (WroteInPart without_words (sink_use_leaving 3 bytes))
  pub no_end_after_shelf_fault : (bytes : List ℕ) → ¬ (WroteInPart after_shelf_fault (sink_use_leaving 4 bytes))
