-- The data of each rule, as the code stores it.
use Rattle.std.specs.Prelude.{◌≡◌, ℕ, ◌+◌, ◌<◌, ◌^◌, Bool, true, false, [], List, Vec, map, length, All, slice_index_or}
use Rattle.std.specs.declared.alloc.Global.{Global}
use Rattle.guard_prep.specs.declared.rule_rows.RuleRows.{RuleRows}
use Rattle.guard_prep.specs.Views.{prepared_of}
use Rattle.local_size.specs.declared.answer.LocalAnswer.{LocalAnswer}
use Rattle.rvg_components.specs.Listing.{answer_lists}
use Rattle.rvg_components.specs.Edges.{FlowInputs}

-- the input of the code as plain data
abbrev pub flow_inputs_of : List RuleRows → List (Vec LocalAnswer Global) → List Bool → List ℕ → FlowInputs
flow_inputs_of prepared_rules locals live firsts = record {
  rows = map prepared_of prepared_rules;
  locals = answer_lists locals;
  live = live;
  firsts = firsts;
}

-- there is one item of each kind for each rule, and the numbers of left variables and of the places of live rules are
-- small
pub record IsFitting (known : FlowInputs) (rules : ℕ) : Type 0 where
  pub rows : length known.rows ≡ rules
  pub locals : length known.locals ≡ rules
  pub live : length known.live ≡ rules
  pub firsts : length known.firsts ≡ rules
  pub few_left : All (λ m. m.left < 2 ^ 31) known.rows
  pub few_before : All (λ first. first < 2 ^ 31) known.firsts
  pub few : (k : ℕ) → slice_index_or known.live k false ≡ true
      → slice_index_or known.firsts k 0 + length (slice_index_or known.locals k []) < 2 ^ 31
