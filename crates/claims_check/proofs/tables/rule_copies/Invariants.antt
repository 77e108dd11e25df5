use Rattle.std.proofs.Common.{◌≡◌, length, take}
use Rattle.claims_check.specs.Tables.{AreCopies}
use Rattle.claims_check.proofs.tables.rule_copies.Given as goal

-- each rule has a list, those of its copies among the rules so far
abbrev pub invariant-loop-i : goal.invariant-loop-i
invariant-loop-i l = record {
  counted : length l.copies.items ≡ l.count;
  copies : AreCopies (take l.i l.below) l.copies.items;
}
