-- Facts that are looked up by key: for each key the position of the first fact that has it.
use Rattle.std.specs.Prelude.{◌≡◌, ℕ, suc, ◌==◌, ◌&&◌, Bool, false, cond, List, [], ◌∷◌, map, Option, Some, None}
use Rattle.std.specs.Prelude.{option_map, slice_get}
use Rattle.std.specs.BTreeMap.{BTreeMap, get}
use Rattle.std.specs.Ordering.{nat_cmp, ordering_then}
use Rattle.std.specs.declared.cmp.Ordering.{Ordering}
use denote.Ref.{Bor}
use Rattle.model.specs.Bounds as plain
use Rattle.model.specs.Facts as facts
use Rattle.model.specs.Facts.{Time, Size, Cost}
use Rattle.cert_types.specs.Views.{fact_of}
use Rattle.cert_types.specs.declared.fact.Fact.{Fact}
use Rattle.cert_types.specs.cert_rules.Laws.{bound_in}

-- pairs are ordered by the first number and then by the second
abbrev pub pair_cmp : ℕ × ℕ → ℕ × ℕ → Ordering
pair_cmp a b = ordering_then (nat_cmp a.0 b.0) (nat_cmp a.1 b.1)

-- the first value if there is one, or else the second
abbrev pub first_of : Option ℕ → Option ℕ → Option ℕ
first_of None o = o
first_of (Some n) o = Some n

-- the fact is a time of the rule
abbrev pub is_time_of : ℕ → facts.Fact → Bool
is_time_of t (Time u b) = u == t
is_time_of t (Size u i b) = false
is_time_of t (Cost u b) = false

-- the fact is a size of the place after the rule
abbrev pub is_size_of : ℕ → ℕ → facts.Fact → Bool
is_size_of t i (Time u b) = false
is_size_of t i (Size u j b) = (u == t) && (j == i)
is_size_of t i (Cost u b) = false

-- the position of the first element of a list that passes a test
abbrev pub first_position : {A : Type 0} → (A → Bool) → List A → Option ℕ
first_position test [] = None
first_position test (x ∷ xs) = cond (test x) (Some 0) (option_map suc (first_position test xs))

-- the facts that references refer to
abbrev pub facts_at : List (Bor Fact) → List facts.Fact
facts_at refs = map (λ r. fact_of r.now) refs

-- the bound of the fact at a position, where there is one
abbrev pub bound_at : List facts.Fact → Option ℕ → Option plain.Bound
bound_at fs None = None
bound_at fs (Some n) = option_map bound_in (slice_get fs n)

-- the position of a fact that is a time was entered unless its rule had one
pub record EntersTime (old : BTreeMap ℕ ℕ) (fact : facts.Fact) (position : ℕ) (new : BTreeMap ℕ ℕ) : Type 0 where
  pub each : (t : ℕ) → get nat_cmp new t ≡ first_of (get nat_cmp old t) (cond (is_time_of t fact) (Some position) None)

-- the position of a fact that is a size was entered unless its place had one
pub record EntersSize (old : BTreeMap (ℕ × ℕ) ℕ) (fact : facts.Fact) (position : ℕ) (new : BTreeMap (ℕ × ℕ) ℕ) : Type 0
  where
    pub each : (t i : ℕ) → get pair_cmp new (t, i)
        ≡ first_of (get pair_cmp old (t, i)) (cond (is_size_of t i fact) (Some position) None)

-- the map has, for each rule, the position of its first time among the facts
pub record HasTimes (fs : List facts.Fact) (times : BTreeMap ℕ ℕ) : Type 0 where
  pub each : (t : ℕ) → get nat_cmp times t ≡ first_position (is_time_of t) fs

-- the map has, for each place after a rule, the position of its first size among the facts
pub record HasSizes (fs : List facts.Fact) (sizes : BTreeMap (ℕ × ℕ) ℕ) : Type 0 where
  pub each : (t i : ℕ) → get pair_cmp sizes (t, i) ≡ first_position (is_size_of t i) fs
