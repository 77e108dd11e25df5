-- Laws of runs: n copies of one variable.
use Rattle.std.proofs.Common.{◌≡◌, ℕ, zero, suc, ◌+◌, ◌^◌, ◌<◌, ◌≤◌, min, max, nat_le, nat_lt, nat_eq, Bool, true}
use Rattle.std.proofs.Common.{false, not, cond, Option, refl, ap, sym, subst, ◌∙◌, inl, inr, arith}
use Rattle.std.specs.Prelude.{IsTrue, Result}
use Rattle.std.proofs.lemmas.Bool.{cases_lt}
use Rattle.std.proofs.lemmas.Bool.Decides.{nat_tests}
use Rattle.text_core.specs.model.Bounds.{Bound, Input, Parts, NoParts, Part}
use Rattle.bound_expr.specs.Measure.{node_count_of_all, maximum_depth}
use Rattle.bound_text.specs.Shapes.{with_part}
use Rattle.bound_text.specs.Pieces.{Piece, Number}
use Rattle.bound_text.specs.ParserStates.{Outer, ParserState, ItemRead, last, init, is_input, product_node, nodes_of, inner_levels}
use Rattle.bound_text.specs.Steps.{state_at_position, with_copies, end_run}
use Rattle.bound_text.specs.Kinds.{TooDeep, TooLarge}
use Rattle.bound_text.specs.Checks.{PieceResult, Refused, Reached, sized, fault_or_state, fault_of, takes_caret}
use Rattle.bound_text.specs.Views.{Obeys}
use Rattle.bound_text.specs.declared.state.Reader.{Reader}
use Rattle.bound_text.specs.declared.fault.Fault.{Fault}
use Rattle.bound_text.proofs.PartLaws.{last-with_part, init-with_part, node_count-with_part, depth-with_part}
use Rattle.bound_expr.specs.Limits.{depth_limit, node_limit}

-- a variable has the same number as itself
pub is_same_input : (i : ℕ) → nat_eq i i ≡ true
is_same_input i = grind (arith, nat_tests)

-- copies of a variable add one node each
pub node_count-with_copies : (n i : ℕ) (fs : Parts) → node_count_of_all (with_copies n i fs) ≡ node_count_of_all fs + n
node_count-with_copies zero i fs = omega arith
node_count-with_copies (suc n) i fs = omega (arith, node_count-with_part (with_copies n i fs) (Input i), node_count-with_copies n i fs)

-- one or more copies of a variable add a part of one level
pub depth-with_copies : (n i : ℕ) (fs : Parts) → maximum_depth (with_copies (suc n) i fs) ≡ max (maximum_depth fs) 1
depth-with_copies zero i fs = depth-with_part fs (Input i)
depth-with_copies (suc n) i fs = omega (arith, depth-with_part (with_copies (suc n) i fs) (Input i), depth-with_copies n i fs)

-- with two more factors the factors count as a product
pub product_two : (gs : Parts) (a b : Bound) → product_node (with_part (with_part gs a) b) ≡ 1
product_two NoParts a b = refl
product_two (Part c NoParts) a b = refl
product_two (Part c (Part d ds)) a b = refl

-- after a run no `^` can follow
pub run_settled : (n i : ℕ) (fs : Parts) → takes_caret (init (with_copies (suc (suc n)) i fs)) (last (with_copies (suc (suc n)) i fs)) ≡ false
run_settled n i fs =
    ap (λ (gs : Parts). takes_caret gs (last (with_copies (suc (suc n)) i fs))) (init-with_part (with_copies (suc n) i fs) (Input i))
    ∙ ap (takes_caret (with_copies (suc n) i fs)) (last-with_part (with_copies (suc n) i fs) (Input i))
    ∙ ap (λ (b : Option Bound). not (is_input i b)) (last-with_part (with_copies n i fs) (Input i))
    ∙ ap not (is_same_input i)

-- after a run of the copies that the code made, the same tests hold
pub copies_settled : (n i : ℕ) (fs behind : Parts) → 2 ≤ n → behind ≡ with_copies n i fs → IsTrue (not (takes_caret (init behind) (last behind)))
copies_settled zero i fs behind h e = absurd (omega arith)
copies_settled (suc zero) i fs behind h e = absurd (omega arith)
copies_settled (suc (suc n)) i fs behind h e = ap not (ap (λ (gs : Parts). takes_caret (init gs) (last gs)) e ∙ run_settled n i fs)

-- the number of levels is the same for two copies and for more
levels-copies : (outer : Outer) (ts fs : Parts) (n i : ℕ) → inner_levels (state_at_position outer ts (with_copies (suc (suc n)) i fs) ItemRead) ≡ inner_levels (state_at_position outer ts (with_copies 2 i fs) ItemRead)
levels-copies outer ts fs n i =
    omega (arith, depth-with_copies (suc n) i fs, depth-with_copies 1 i fs, product_two (with_copies n i fs) (Input i) (Input i), product_two fs (Input i) (Input i))

-- whatever the bound, a refusal by the limits is a refusal
refused_by : (a b : Bool) (f : ParserState) → b ≡ true → cond a (Refused TooDeep) (cond b (Refused TooLarge) (Reached f)) ≡ cond a (Refused TooDeep) (Refused TooLarge)
refused_by true b f e = refl
refused_by false b f e = ap (λ (v : Bool). cond v (Refused TooLarge) (Reached f)) e

-- a number over the limit passes the test
pub is_over : (m : ℕ) → node_limit < m → nat_lt node_limit m ≡ true
is_over m h = grind (arith, nat_tests)

-- for every number of copies over 4,095 the limits refuse the state
sized-many : (outer : Outer) (ts fs : Parts) (n i : ℕ) → 4095 ≤ n
    → sized (state_at_position outer ts (with_copies (suc (suc n)) i fs) ItemRead) ≡ cond (nat_lt depth_limit (inner_levels (state_at_position outer ts (with_copies 2 i fs) ItemRead))) (Refused TooDeep) (Refused TooLarge)
sized-many outer ts fs n i h =
    refused_by (nat_lt depth_limit (inner_levels f)) (nat_lt node_limit (nodes_of f)) f (is_over (nodes_of f) (omega (arith, node_count-with_copies (suc (suc n)) i fs)))
    ∙ ap (λ (l : ℕ). cond (nat_lt depth_limit l) (Refused TooDeep) (Refused TooLarge)) (levels-copies outer ts fs n i)
  where
    f : ParserState
    f = state_at_position outer ts (with_copies (suc (suc n)) i fs) ItemRead

-- for two numbers of copies over the limit the refusal is the same
sized_alike : (outer : Outer) (ts fs : Parts) (n m i : ℕ) → 4097 ≤ n → 4097 ≤ m
    → sized (state_at_position outer ts (with_copies n i fs) ItemRead) ≡ sized (state_at_position outer ts (with_copies m i fs) ItemRead)
sized_alike outer ts fs zero m i h k = absurd (omega arith)
sized_alike outer ts fs (suc zero) m i h k = absurd (omega arith)
sized_alike outer ts fs (suc (suc n)) zero i h k = absurd (omega arith)
sized_alike outer ts fs (suc (suc n)) (suc zero) i h k = absurd (omega arith)
sized_alike outer ts fs (suc (suc n)) (suc (suc m)) i h k = sized-many outer ts fs n i (omega arith) ∙ sym (sized-many outer ts fs m i (omega arith))

-- a run of more copies than the limit is refused like the run of the capped number
sized_capped : (outer : Outer) (ts fs : Parts) (n i : ℕ) → sized (state_at_position outer ts (with_copies n i fs) ItemRead) ≡ sized (state_at_position outer ts (with_copies (min n 4097) i fs) ItemRead)
sized_capped outer ts fs n i = elim (cases_lt n 4097) [
  | inl h ↦ ap (λ (k : ℕ). sized (state_at_position outer ts (with_copies k i fs) ItemRead)) (let e : n ≡ min n 4097 = omega arith in e)
  | inr h ↦ sized_alike outer ts fs n (min n 4097) i (omega arith) (omega arith)
]

-- the result of taking the number of a run is that of the limits on its copies
run_judged : (outer : Outer) (ts fs : Parts) (n i : ℕ) → 2 ≤ n → n < 2 ^ 127
    → fault_or_state (fault_of 0 false (Number n)) (end_run outer ts fs i (Number n)) ≡ sized (state_at_position outer ts (with_copies n i fs) ItemRead)
run_judged outer ts fs n i h k =
    let large : nat_le (2 ^ 127) n ≡ false = grind (arith, nat_tests) in
    let more : nat_lt 1 n ≡ true = grind (arith, nat_tests) in
    rw (large, more) refl

-- the code's result for a run is that of the copies that it made
pub run_obeys : (outer : Outer) (ts fs behind : Parts) (piece : Piece) (n made i : ℕ) (r : Reader) (result : Result (Unit {0}) Fault) → piece ≡ Number n → 2 ≤ n → n < 2 ^ 127 → made ≡ min n 4097
    → behind ≡ with_copies made i fs → Obeys (sized (state_at_position outer ts behind ItemRead)) r result → Obeys (fault_or_state (fault_of 0 false piece) (end_run outer ts fs i piece)) r result
run_obeys outer ts fs behind piece n made i r result p h k m e obeys =
    subst (λ (q : Piece). Obeys (fault_or_state (fault_of 0 false q) (end_run outer ts fs i q)) r result) (sym p) (subst (λ (c : PieceResult). Obeys c r result)
    (ap (λ (gs : Parts). sized (state_at_position outer ts gs ItemRead)) (e ∙ ap (λ (j : ℕ). with_copies j i fs) m) ∙ sym (sized_capped outer ts fs n i) ∙ sym (run_judged outer ts fs n i h k))
    obeys)
