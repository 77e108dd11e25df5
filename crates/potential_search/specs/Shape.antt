-- The shape of what a search finds: lemmas cite earlier ones alone, and what bounds something is the number of a lemma.
use Rattle.std.specs.Prelude.{◌≡◌, ◌≤◌, ℕ, suc, List, [], ◌∷◌, Option, length, IfSome}
use Rattle.std.specs.List.{AllByRecursion}
use Rattle.potential_types.specs.declared.tables.Move.{Move}
use Rattle.potential_types.specs.declared.nodes.Combination.{Combination}
use Rattle.potential_types.specs.declared.nodes.Combination.TheVariants.{Times, Least, Add, Among}
use Rattle.potential_types.specs.declared.nodes.SignedNode.{SignedNode}
use Rattle.potential_types.specs.declared.nodes.SignedNode.TheVariants as variants
use Rattle.potential_types.specs.declared.nodes.SignedLemma.{SignedLemma}
use Rattle.potential_search.specs.declared.findings.Findings.{Findings}

-- a number of one of the first lemmas, so many
abbrev pub IsNumber : ℕ → ℕ → Type 0
IsNumber count n = (1 ≤ n) × (n ≤ count)

-- a number of one of the first lemmas, if there is one
abbrev pub IsNumberIfThere : ℕ → Option ℕ → Type 0
IsNumberIfThere count o = IfSome o (λ n. IsNumber count n)

-- moves cite one of the first lemmas, if they cite any
abbrev pub MovesCite : ℕ → List Move → Type 0
MovesCite count moves = AllByRecursion (λ m. IsNumberIfThere count m.cited) moves

-- what is combined are some of the first lemmas
abbrev pub CombinesFirst : ℕ → Combination → Type 0
CombinesFirst count (Times rule form time peak) = IsNumber count time × IsNumber count peak
CombinesFirst count (Least a b) = IsNumber count a × IsNumber count b
CombinesFirst count (Add a b) = IsNumber count a × IsNumber count b
CombinesFirst count (Among goal a) = IsNumber count a

-- a node cites some of the first lemmas
abbrev pub CitesFirst : ℕ → SignedNode → Type 0
CitesFirst count (variants.Fall n) = MovesCite count n.potential.moves.items
CitesFirst count (variants.Peak n) = MovesCite count n.potential.moves.items
CitesFirst count (variants.Row n) = Unit
CitesFirst count (variants.Combined n) = CombinesFirst count n
CitesFirst count (variants.Sized n) = AllByRecursion (λ k. IsNumber count k) n.cited.items
CitesFirst count (variants.InPhases n) = Unit

-- each lemma cites lemmas before it, where so many are before the first one of the list
abbrev pub AreInOrder : ℕ → List SignedLemma → Type 0
AreInOrder before [] = Unit
AreInOrder before (l ∷ lemmas) = CitesFirst before l.node × AreInOrder (suc before) lemmas

-- what bounds something is the number of a lemma
abbrev pub AreNumbers : ℕ → List (Option ℕ) → Type 0
AreNumbers count numbers = AllByRecursion (λ o. IsNumberIfThere count o) numbers

-- what bounds times, costs, the total and values are numbers of lemmas
pub record HasNumbers (f : Findings) : Type 0 where
  pub times : AreNumbers (length f.lemmas.items) f.times.items
  pub costs : AreNumbers (length f.lemmas.items) f.costs.items
  pub total : IsNumberIfThere (length f.lemmas.items) f.total
  pub above : AllByRecursion (λ v. AreNumbers (length f.lemmas.items) v.items) f.above.items
  pub below : AllByRecursion (λ v. AreNumbers (length f.lemmas.items) v.items) f.below.items

-- there is an entry for each of so many rules
pub record HasEntries (rules : ℕ) (f : Findings) : Type 0 where
  pub all_times : length f.times.items ≡ rules
  pub all_costs : length f.costs.items ≡ rules
  pub all_above : length f.above.items ≡ rules
  pub all_below : length f.below.items ≡ rules

-- what a search finds of a program with so many rules: lemmas in order, and for each rule the numbers of lemmas
pub record HasShape (rules : ℕ) (f : Findings) : Type 0 where
  pub in_order : AreInOrder 0 f.lemmas.items
  pub numbers : HasNumbers f
  pub entries : HasEntries rules f
