-- The graph of the places of live rules: from which places values flow into which.
use Rattle.std.specs.Prelude.{ℕ, ◌-◌, ◌&&◌, ◌||◌, Bool, false, cond, List, [], ◌∷◌, ◌++◌, map, length}
use Rattle.std.specs.List.{list_any, range_with_len}
use Rattle.model.specs.Programs.{Program}
use Rattle.model.specs.Paths.{pre, target_of}
use Rattle.model.specs.Entries.{is_in}
use Rattle.cert_types.specs.cert_rules.Nodes.{ResultVariable}
use Rattle.cert_types.specs.cert_rules.AcceptsPlain.{places_at}
use Rattle.cert_types.specs.cert_rules.ComposedSizes.{reads, poly_at}
use Rattle.cert_types.specs.cert_rules.Setting.{Setting}
use Rattle.local_size.specs.LocalAnswers.{Local, HasBound, IsUnboundedOn, HasHitLimit}

-- the answer for each place of a rule
abbrev pub Locals : Type 0
Locals = ℕ → ℕ → Local

-- a side bound of the answer for a result variable reads a place, counted from 0; an answer without side bounds reads
-- none
abbrev pub local_reads : Setting → ResultVariable → Local → ℕ → Bool
local_reads s result_variable (HasBound l) j = reads (poly_at s result_variable) l.up j || reads (poly_at s result_variable) l.low j
local_reads s result_variable (IsUnboundedOn side ray kept) j = false
local_reads s result_variable (HasHitLimit t) j = false

-- a value flows from one result variable into another: the rule of the first can come just before that of the second,
-- and a side bound of the second reads the first; places count from 1
abbrev pub value_flows : Setting → Locals → ResultVariable → ResultVariable → Bool
value_flows s local m n =
    is_in m.rule (pre s.program n.rule) && local_reads s n (local n.rule n.place) (m.place - 1)

-- the places after a rule, in order
abbrev pub target_result_variables : Program → ℕ → List ResultVariable
target_result_variables p t = map (λ i. record { rule = t; place = i }) (places_at p (target_of p t))

-- the places of the live ones of these rules, in order
abbrev pub result_variables_of : Program → (ℕ → Bool) → List ℕ → List ResultVariable
result_variables_of p is_live [] = []
result_variables_of p is_live (t ∷ ts) = cond (is_live t) (target_result_variables p t) [] ++ result_variables_of p is_live ts

-- the places of all live rules, in the order of rules and then of places
abbrev pub live_result_variables : Program → (ℕ → Bool) → List ResultVariable
live_result_variables p is_live = result_variables_of p is_live (range_with_len 1 (length p.rules))

-- these places loop: a value flows from one of them into one of them
abbrev pub loops : Setting → Locals → List ResultVariable → Bool
loops s local result_variables = list_any (λ n. list_any (λ m. value_flows s local m n) result_variables) result_variables
