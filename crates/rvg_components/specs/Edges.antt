-- The edges between places, by their numbers.
use Rattle.std.specs.Prelude.{ℕ, zero, suc, ◌+◌, Bool, false, cond, List, [], ◌∷◌, ◌++◌, map, slice_index_or}
use Rattle.model.specs.Programs.{Program}
use Rattle.model.specs.Paths.{pre}
use Rattle.guard_prep.specs.Prepared.{Prepared}
use Rattle.cert_types.specs.cert_program.Setting.{nonlinear_at}
use Rattle.local_size.specs.LocalAnswers.{local_answer_of}
use Rattle.local_size.specs.declared.answer.LocalAnswer.{LocalAnswer}
use Rattle.rvg_components.specs.Listing.{is_flagged}
use Rattle.rvg_components.specs.Reading.{answer_reads}

-- the edges into place `to` from place j, counted from 0, of each rule with one of these first places
abbrev pub edges_from : ℕ → ℕ → List ℕ → List (ℕ × ℕ)
edges_from j to before = map (λ first. (first + j, to)) before

-- the edges into a place from each of the places that its answer reads
abbrev pub edges_to : ℕ → List ℕ → List ℕ → List (ℕ × ℕ)
edges_to to before [] = []
edges_to to before (j ∷ js) = edges_from j to before ++ edges_to to before js

-- the edges into the places of a rule from the i-th on, given the number of its first place and the answers for its
-- places
abbrev pub edges_into : Prepared → List ℕ → ℕ → ℕ → List LocalAnswer → List (ℕ × ℕ)
edges_into m before first i [] = []
edges_into m before first i (a ∷ answers) =
    edges_to (first + i) before (answer_reads (nonlinear_at m.polys i) (local_answer_of a) m.left)
    ++ edges_into m before first (suc i) answers

-- the first place of a rule
abbrev pub first_of : List ℕ → ℕ → ℕ
first_of firsts zero = 0
first_of firsts (suc t) = slice_index_or firsts t 0

-- the first places of those of these rules that are live
abbrev pub firsts_of : List Bool → List ℕ → List ℕ → List ℕ
firsts_of live firsts [] = []
firsts_of live firsts (e ∷ es) = cond (is_flagged live e) (first_of firsts e ∷ []) [] ++ firsts_of live firsts es

-- the data of each rule: its rows, the answers for its places, whether it is live, and its first place
pub record FlowInputs : Type 0 where
  pub rows : List Prepared
  pub locals : List (List LocalAnswer)
  pub live : List Bool
  pub firsts : List ℕ

-- the rows of a rule that doesn't exist
abbrev pub no_rows : Prepared
no_rows = record { left = 0; unknowns = 0; rows = []; new_values = []; nonlinear = []; polys = [] }

-- the edges into the places of the rule at a position, counted from 0
abbrev pub edges_at : Program → FlowInputs → ℕ → List (ℕ × ℕ)
edges_at p known k =
    edges_into (slice_index_or known.rows k no_rows) (firsts_of known.live known.firsts (pre p (suc k)))
    (slice_index_or known.firsts k 0) 0 (slice_index_or known.locals k [])

-- the edges into the places of a live rule, and none for other rules
abbrev pub live_edges_at : Program → FlowInputs → ℕ → List (ℕ × ℕ)
live_edges_at p known k = cond (slice_index_or known.live k false) (edges_at p known k) []

-- the edges of the rules below a position
abbrev pub edges_below : Program → FlowInputs → ℕ → List (ℕ × ℕ)
edges_below p known zero = []
edges_below p known (suc k) = edges_below p known k ++ live_edges_at p known k
