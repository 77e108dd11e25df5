use Rattle.std.proofs.Common.{◌≡◌, ◌++◌, drop, map}
use Rattle.std.specs.List.{AllByRecursion}
use Rattle.text_core.specs.Names.{IsName, AreDistinct}
use Rattle.refinement_check.proofs.Naming.{names_of}
use Rattle.refinement_check.proofs.names.has_distinct_names.Given as goal

-- the names of the copies passed are names and differ, and with the names of those left they are all
abbrev pub invariant-loop-copy : goal.invariant-loop-copy
invariant-loop-copy l =
    record {
      all : map (λ k. k.now) l.seen.keys ++ names_of (drop l.copy-index l.section.copies.items)
          ≡ names_of l.section.copies.items;
      names : AllByRecursion IsName (map (λ k. k.now) l.seen.keys);
      distinct : AreDistinct (map (λ k. k.now) l.seen.keys);
    }
