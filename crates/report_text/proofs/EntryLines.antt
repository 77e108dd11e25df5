-- The lines of times, costs, sizes and the total determine the text after the colon.
use Rattle.std.proofs.Common.{◌≡◌, ℕ, ◌+◌, ◌^◌, ◌≤◌, Bool, true, false, cond, List, [], ◌∷◌, ◌++◌, length, get_or}
use Rattle.std.proofs.Common.{codes, decimal, refl, ap, Option, Some, None, is_some, IsSome, arith}
use Rattle.std.specs.Prelude.{⊤}
use Rattle.std.specs.List.{AllByRecursion}
use Rattle.model.specs.Programs.{Name, Program}
use Rattle.model.specs.Bounds.{Bound}
use Rattle.its_model.specs.text_core.Names.{AreNames}
use Rattle.outcome.specs.Reports.{Time, Timed, Untimed, RuleCost, Costed, Uncosted, Size, Sized, Unsized}
use Rattle.report_text.specs.Pieces.{place_text, numbered_lines}
use Rattle.report_text.specs.Reports.{time_end, time_line, cost_end, cost_line, total_end, total_line}
use Rattle.report_text.specs.Reports.{size_end, size_line, size_lines, bound_end, none_end}
use Rattle.report_text.specs.Printable.{IsPrintableTotal}
use Rattle.report_text.proofs.DistinguishedTexts.{after_word, after_three_words, same_after_word}
use Rattle.report_text.proofs.BoundLines.{IsLine, lines_same, bound_line, bound_same, none_line}
use Rattle.report_text.proofs.Numbered.{Pairs, pairs_any, numbered_determined}

-- the first line decides whether every rule has a time
pub headline_determined : (a b : Bool) (u v : List ℕ) → cond a (codes "bounded\n") (codes "unknown\n") ++ u ≡ cond b (codes "bounded\n") (codes "unknown\n") ++ v → (a ≡ b) × (u ≡ v)
headline_determined true true u v e = (refl, same_after_word (codes "bounded\n") u v e)
headline_determined true false u v e = absurd (let no : 98 ≡ 117 = ap (λ (x : List ℕ). get_or x 0 0) e in omega (arith, no))
headline_determined false true u v e = absurd (let no : 117 ≡ 98 = ap (λ (x : List ℕ). get_or x 0 0) e in omega (arith, no))
headline_determined false false u v e = (refl, same_after_word (codes "unknown\n") u v e)

-- the lines of two times have the same end
abbrev pub HaveSameTimeEnds : List Name → Time → Time → Type 0
HaveSameTimeEnds names t s = time_end names t ≡ time_end names s

-- the lines of two costs have the same end, or neither has a line
abbrev pub HaveSameCostEnds : List Name → Option RuleCost → Option RuleCost → Type 0
HaveSameCostEnds names None None = ⊤
HaveSameCostEnds names None (Some d) = ⊥
HaveSameCostEnds names (Some c) None = ⊥
HaveSameCostEnds names (Some c) (Some d) = cost_end names c ≡ cost_end names d

-- two rules both have a cost, or neither has one
abbrev pub BothHaveCost : Option RuleCost → Option RuleCost → Type 0
BothHaveCost c d = is_some c ≡ is_some d

-- the lines of two sizes have the same end
abbrev pub HaveSameSizeEnds : List Name → Size → Size → Type 0
HaveSameSizeEnds names t s = size_end names t ≡ size_end names s

-- all elements have the trivial property
all_fit : {X : Type 0} (xs : List X) → AllByRecursion (λ x. ⊤) xs
all_fit [] = tt
all_fit (x ∷ xs) = (tt, all_fit xs)

module _ (names : List Name) (are : AreNames names) where
  -- a time ends its line
  time_ends : (t : Time) → IsLine (time_end names t)
  time_ends (Timed b) = bound_line names are b
  time_ends (Untimed w) = none_line

  -- a cost ends its line
  cost_ends : (c : RuleCost) → IsLine (cost_end names c)
  cost_ends (Costed b) = bound_line names are b
  cost_ends (Uncosted w) = none_line

  -- the total ends its line
  total_ends : (a : Option Bound) → IsLine (total_end names a)
  total_ends (Some b) = bound_line names are b
  total_ends None = none_line

  -- a size ends its line
  size_ends : (s : Size) → IsLine (size_end names s)
  size_ends (Sized b) = bound_line names are b
  size_ends (Unsized w) = none_line

  -- the lines of rules determine their ends
  pub times_say : (ts ss : List Time) (u v : List ℕ) → length ts ≡ length ss → 1 + length ts ≤ 2 ^ 64 → numbered_lines (time_line names) 1 ts ++ u ≡ numbered_lines (time_line names) 1 ss ++ v
      → Pairs (HaveSameTimeEnds names) ts ss × (u ≡ v)
  times_say ts ss u v same few e =
      numbered_determined (λ t. ⊤) (λ t s. ⊤) (HaveSameTimeEnds names) (λ n w. ⊤) (time_line names)
      (λ n t s w z short p q like k l d.
      lines_same (time_end names t) (time_end names s) (time_ends t) (time_ends s) w z (after_three_words (codes "time ") (decimal n) (codes ": ") (time_end names t) (time_end names s) w z d))
      (λ n m t w over short h. tt) 1 ts ss u v few (omega (arith, few, same)) (all_fit ts) (all_fit ss) (pairs_any ts ss same) (λ m. tt) (λ m. tt) e

  -- the line of a rule's cost determines its end, if both rules have a cost or neither has
  cost_step : (n : ℕ) (c d : Option RuleCost) (u v : List ℕ) → BothHaveCost c d → cost_line names n c ++ u ≡ cost_line names n d ++ v
      → HaveSameCostEnds names c d × (u ≡ v)
  cost_step n None None u v both e = (tt, e)
  cost_step n None (Some d) u v both e = absurd (let no = both in cc)
  cost_step n (Some c) None u v both e = absurd (let no = both in cc)
  cost_step n (Some c) (Some d) u v both e =
      lines_same (cost_end names c) (cost_end names d) (cost_ends c) (cost_ends d) u v
      (after_three_words (codes "cost ") (decimal n) (codes ": ") (cost_end names c) (cost_end names d) u v e)

  -- the lines of all costs determine their ends
  pub costs_say : (cs ds : List (Option RuleCost)) (u v : List ℕ) → Pairs BothHaveCost cs ds → 1 + length cs ≤ 2 ^ 64 → 1 + length ds ≤ 2 ^ 64
      → numbered_lines (cost_line names) 1 cs ++ u ≡ numbered_lines (cost_line names) 1 ds ++ v → Pairs (HaveSameCostEnds names) cs ds × (u ≡ v)
  costs_say cs ds u v both few less e =
      numbered_determined (λ c. ⊤) BothHaveCost (HaveSameCostEnds names) (λ n w. ⊤) (cost_line names)
      (λ n c d w z short p q like k l h. cost_step n c d w z like h)
      (λ n m c w over short h. tt) 1 cs ds u v few less (all_fit cs) (all_fit ds) both (λ m. tt) (λ m. tt) e

  -- the line of the total determines its end
  pub total_says : (a b : Option Bound) (u v : List ℕ) → total_line names a ++ u ≡ total_line names b ++ v → (total_end names a ≡ total_end names b) × (u ≡ v)
  total_says a b u v e =
      lines_same (total_end names a) (total_end names b) (total_ends a) (total_ends b) u v (after_word (codes "total: ") (total_end names a) (total_end names b) u v e)

  -- the lines of places determine their ends
  pub places_say : (rule : ℕ) (ts ss : List Size) (u v : List ℕ) → length ts ≡ length ss → 1 + length ts ≤ 2 ^ 64 → size_lines names rule ts ++ u ≡ size_lines names rule ss ++ v
      → Pairs (HaveSameSizeEnds names) ts ss × (u ≡ v)
  places_say rule ts ss u v same few e =
      numbered_determined (λ t. ⊤) (λ t s. ⊤) (HaveSameSizeEnds names) (λ n w. ⊤) (size_line names rule)
      (λ n t s w z short p q like k l d.
      lines_same (size_end names t) (size_end names s) (size_ends t) (size_ends s) w z (after_three_words (codes "size ") (place_text rule n) (codes ": ") (size_end names t) (size_end names s) w z d))
      (λ n m t w over short h. tt) 1 ts ss u v few (omega (arith, few, same)) (all_fit ts) (all_fit ss) (pairs_any ts ss same) (λ m. tt) (λ m. tt) e

  -- the lines of the places of all rules determine their ends
  pub rows_say : (ts ss : List (List Size)) (u v : List ℕ) → Pairs (λ t s. length t ≡ length s) ts ss → AllByRecursion (λ t. 1 + length t ≤ 2 ^ 64) ts
      → AllByRecursion (λ t. 1 + length t ≤ 2 ^ 64) ss → 1 + length ts ≤ 2 ^ 64 → 1 + length ss ≤ 2 ^ 64
      → numbered_lines (size_lines names) 1 ts ++ u ≡ numbered_lines (size_lines names) 1 ss ++ v → Pairs (Pairs (HaveSameSizeEnds names)) ts ss × (u ≡ v)
  rows_say ts ss u v same small also few less e =
      numbered_determined (λ t. 1 + length t ≤ 2 ^ 64) (λ t s. length t ≡ length s) (Pairs (HaveSameSizeEnds names)) (λ n w. ⊤) (size_lines names)
      (λ n t s w z short p q like k l d. places_say n t s w z like p d)
      (λ n m t w over short h. tt) 1 ts ss u v few less small also same (λ m. tt) (λ m. tt) e

-- totals with equal ends of lines are equal, if both exist or neither does
pub total_determined : (p : Program) → AreNames p.start_names → (a b : Option Bound) → IsPrintableTotal p a → IsPrintableTotal p b → (IsSome a → IsSome b) → (IsSome b → IsSome a)
    → total_end p.start_names a ≡ total_end p.start_names b → a ≡ b
total_determined p are (Some a) (Some b) h k s t e = ap Some (bound_same p.start_names are a b h k e)
total_determined p are (Some a) None h k s t e = absurd (let no = s refl in cc)
total_determined p are None (Some b) h k s t e = absurd (let no = t refl in cc)
total_determined p are None None h k s t e = refl
