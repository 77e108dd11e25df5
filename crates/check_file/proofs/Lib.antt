-- The nodes of a lemma and those of its premises.
mod ChildNodes
-- accepted lemmas, and their facts
mod AcceptedLemmas
-- the results on nodes
mod JudgedNodes
-- the stored facts of lemmas
mod KeptLemmas
-- gaps
mod OffGaps
-- the facts of premises
mod UsedFacts
-- rules whose time is 0
mod ZeroRules
-- stored facts that were looked at
mod SeenZeros
-- files
mod FileAnswers
-- plain nodes
mod PlainNodes
-- nodes that are checked by key
mod KeyedNodes
-- single facts, and weaker bounds
mod SingleFacts
-- bounds that may be written
mod WritableBounds
-- nodes that have premises
mod ProofViews
-- lemmas that are cited
mod CitedLemmas
-- counts of nodes
mod NodeCounts
-- small files
mod WorkedFiles
