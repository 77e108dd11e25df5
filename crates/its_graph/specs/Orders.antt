-- The order of components, by their leaders.
use Rattle.std.specs.Prelude.{◌≡◌, ◌≢◌, ◌⊎◌, ◌↔◌, ℕ, ◌<◌, ◌≤◌, List, [], ◌∷◌, ◌++◌, length, take, Bool, true, false}
use Rattle.std.specs.Prelude.{if◌then◌else◌, ◌==◌, Vec, slice_index, slice_index_or, slice_set, replicate}
use Rattle.std.specs.List.{Contains}
use Rattle.std.specs.declared.alloc.Global.{Global}
use Rattle.std.specs.BTreeSet.{BTreeSet}
use Rattle.its_graph.specs.declared.order.Sorting.{Sorting}
use Rattle.model.specs.Paths.{Path}
use Rattle.its_graph.specs.Groups.{values_in, Joins}

-- A node is a leader: it is the least node of its component.
abbrev pub IsLeader : List ℕ → ℕ → Type 0
IsLeader leaders c = (c < length leaders) × (slice_index leaders c ≡ c)

-- The need of an edge, if it leads from another component.
abbrev pub need_of : ℕ → ℕ → List (ℕ × ℕ)
need_of leader need = if need == leader then [] else (leader, need) ∷ []

-- The pairs of a leader and another one from whose component an edge leads to its own, in the order of the edges.
abbrev pub needs_among : List ℕ → List (ℕ × ℕ) → List (ℕ × ℕ)
needs_among leaders [] = []
needs_among leaders (e ∷ edges) = need_of (slice_index leaders e.1) (slice_index leaders e.0)
    ++ needs_among leaders edges

-- Leader c needs leader d: an edge leads from the component of d to that of c.
pub record Needs (Edge : ℕ → ℕ → Type 0) (leaders : List ℕ) (c d : ℕ) : Type 0 where
  pub from : ℕ
  pub to : ℕ
  pub edge : Edge from to
  pub from_within : from < length leaders
  pub to_within : to < length leaders
  pub need : slice_index leaders from ≡ d
  pub leader : slice_index leaders to ≡ c
  pub other : d ≢ c

-- The leader that comes next after others, where `Need c d` means that c needs d before it: the least one that isn't
-- among them and all of whose needs are.
pub record IsNextLeader (Need : ℕ → ℕ → Type 0) (leaders before : List ℕ) (c : ℕ) : Type 0 where
  pub leads : IsLeader leaders c
  pub unlisted : ¬ (Contains before c)
  pub needs : (d : ℕ) → Need c d → Contains before d
  pub least : (q : ℕ) → IsLeader leaders q → ¬ (Contains before q) → ((d : ℕ) → Need q d → Contains before d) → c ≤ q

-- Each leader of the list comes next after those before it.
abbrev pub EachIsNext : (ℕ → ℕ → Type 0) → List ℕ → List ℕ → Type 0
EachIsNext Need leaders order = (k : ℕ) → k < length order
    → IsNextLeader Need leaders (take k order) (slice_index order k)

-- Each leader of the list comes next after those before it, and all leaders are listed.
pub record AreLeadersInOrder (Need : ℕ → ℕ → Type 0) (leaders order : List ℕ) : Type 0 where
  pub each : EachIsNext Need leaders order
  pub all : (c : ℕ) → IsLeader leaders c → Contains order c

-- The table has the needs of each leader, and no leader needs itself, directly or not.
pub record AreOrderable (leaders : List ℕ) (needs : List (Vec ℕ Global)) : Type 0 where
  pub size : length needs ≡ length leaders
  pub leading : (c d : ℕ) → Joins needs c d → IsLeader leaders c × IsLeader leaders d
  pub acyclic : (c d : ℕ) → Joins needs c d → Path (Joins needs) d c → ⊥

-- A node is marked as listed.
abbrev pub IsMarked : List Bool → ℕ → Type 0
IsMarked is_listed c = slice_index_or is_listed c false ≡ true

-- A leader waits for a need that isn't listed.
pub record Waits (waiting : List (Vec ℕ Global)) (is_listed : List Bool) (c : ℕ) : Type 0 where
  pub need : ℕ
  pub among : Contains (values_in waiting need) c
  pub unlisted : ¬ (IsMarked is_listed need)

-- The state of sorting, in which the leaders of `unsettled` have still to settle.
pub record IsSorting (needs : List (Vec ℕ Global)) (leaders unsettled : List ℕ) (s : Sorting) : Type 0 where
  pub passed_size : length s.passed.items ≡ length leaders
  pub waiting_size : length s.waiting.items ≡ length leaders
  pub listed_size : length s.is_listed.items ≡ length leaders
  pub passed : (c k : ℕ) → k < slice_index s.passed.items c
      → IsMarked s.is_listed.items (slice_index (values_in needs c) k)
  pub ready : (c : ℕ) → Contains s.ready.keys c → IsLeader leaders c × (¬ (IsMarked s.is_listed.items c))
      × ((d : ℕ) → Joins needs c d → IsMarked s.is_listed.items d)
  pub waits : (d c : ℕ) → Contains (values_in s.waiting.items d) c → Joins needs c d
  pub placed : (c : ℕ) → IsLeader leaders c → ¬ (IsMarked s.is_listed.items c) → Contains s.ready.keys c
      ⊎ (Contains unsettled c ⊎ Waits s.waiting.items s.is_listed.items c)
  pub open_ones : (c : ℕ) → Contains unsettled c → IsLeader leaders c × (¬ (IsMarked s.is_listed.items c))
  pub marked : (c : ℕ) → IsMarked s.is_listed.items c ↔ Contains s.order.items c
  pub each : EachIsNext (Joins needs) leaders s.order.items

-- The least ready leader was taken.
pub record IsPopped (needs : List (Vec ℕ Global)) (leaders : List ℕ) (leader : ℕ) (s : Sorting) : Type 0 where
  pub before : BTreeSet ℕ
  pub sorting : IsSorting needs leaders [] (record s { ready = before })
  pub taken : before.keys ≡ leader ∷ s.ready.keys
  pub least : (q : ℕ) → Contains s.ready.keys q → leader < q

-- The tables have n entries.
pub record AreSizes (n : ℕ) (s : Sorting) : Type 0 where
  pub passed : length s.passed.items ≡ n
  pub waiting : length s.waiting.items ≡ n
  pub listed : length s.is_listed.items ≡ n

-- The first position, from `from` on, of a need that isn't listed, or the end.
pub record Skips (row : List ℕ) (is_listed : List Bool) (from position : ℕ) : Type 0 where
  pub onward : from ≤ position
  pub between : (k : ℕ) → from ≤ k → k < position → IsMarked is_listed (slice_index row k)
  pub stops : position < length row → ¬ (IsMarked is_listed (slice_index row position))

-- A leader waits for a need that isn't listed yet, or is ready if there is none.
abbrev pub WaitsOrReady : List ℕ → ℕ → ℕ → Sorting → Sorting → Type 0
WaitsOrReady row position leader s t =
    ((position < length row) × (t.ready.keys ≡ s.ready.keys)
    × ((a : ℕ) → values_in t.waiting.items a
    ≡ (if slice_index row position == a then values_in s.waiting.items a ++ leader ∷ []
    else values_in s.waiting.items a)))
    ⊎ ((length row ≤ position) × (t.waiting.items ≡ s.waiting.items)
    × ((q : ℕ) → Contains t.ready.keys q ↔ (Contains s.ready.keys q ⊎ (q ≡ leader))))

-- A leader has settled.
pub record Settles (needs : List (Vec ℕ Global)) (leader : ℕ) (s t : Sorting) : Type 0 where
  pub position : ℕ
  pub skips : Skips (values_in needs leader) s.is_listed.items (slice_index s.passed.items leader) position
  pub passed : t.passed.items ≡ slice_set s.passed.items leader position
  pub marks : t.is_listed.items ≡ s.is_listed.items
  pub order : t.order.items ≡ s.order.items
  pub waiting_size : length t.waiting.items ≡ length s.waiting.items
  pub placed : WaitsOrReady (values_in needs leader) position leader s t

-- The state in which nothing is known yet.
pub record IsFresh (n : ℕ) (s : Sorting) : Type 0 where
  pub passed : s.passed.items ≡ replicate n 0
  pub waiting_size : length s.waiting.items ≡ n
  pub waiting : (a : ℕ) → values_in s.waiting.items a ≡ []
  pub marks : s.is_listed.items ≡ replicate n false
  pub ready : s.ready.keys ≡ []
  pub order : s.order.items ≡ []
