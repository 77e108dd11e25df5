-- The listed edges are exactly the flows of values.
use Rattle.std.proofs.Common.{◌≡◌, ◌⊎◌, inl, inr, ℕ, suc, ◌+◌, ◌-◌, ◌<◌, ◌≤◌, ◌&&◌, Bool, true, false, cond, List, []}
use Rattle.std.proofs.Common.{length, get_or, map, Contains, Option, Some, None, Vec, refl, sym, ◌∙◌, ap, subst, arith}
use Rattle.std.specs.Prelude.{slice_get}
use Rattle.std.specs.declared.alloc.Global.{Global}
use Rattle.std.proofs.lemmas.Option.{slice_get_within, slice_get_cases}
use Rattle.std.proofs.lemmas.List.{get_or_default}
use Rattle.model.specs.Programs.{Program, Rule, rule_at, arity_of}
use Rattle.model.specs.Paths.{pre}
use Rattle.model.specs.Entries.{is_in}
use Rattle.model.specs.Polynomials.{Polynomial}
use Rattle.model.proofs.Membership.{contains-is_in, is_in-contained, no_is_not_yes}
use Rattle.guard_prep.proofs.its_model.ValidLaws.{rule-valid}
use Rattle.guard_prep.specs.declared.rule_rows.RuleRows.{RuleRows}
use Rattle.guard_prep.specs.Prepared.{Prepared}
use Rattle.guard_prep.specs.Views.{prepared_of}
use Rattle.its_graph.specs.declared.graph.Graph.{Graph}
use Rattle.its_graph.specs.Groups.{IsPair}
use Rattle.its_graph.proofs.PairLists.{Pair, same_pair}
use Rattle.cert_types.specs.cert_rules.Nodes.{ResultVariable}
use Rattle.cert_types.specs.cert_rules.ComposedSizes.{poly_at}
use Rattle.cert_types.specs.cert_program.Setting.{setting_of, polys_in, nonlinear_at}
use Rattle.local_size.specs.LocalAnswers.{Local, local_answer_of}
use Rattle.local_size.specs.declared.answer.LocalAnswer.{LocalAnswer}
use Rattle.rvg_components.specs.Flows.{Locals, value_flows, local_reads}
use Rattle.rvg_components.specs.Listing.{AreAnswersOfProgram, answer_lists, is_flagged, local_from, local_in, result_variable_at}
use Rattle.rvg_components.specs.Listing.{HasFlow}
use Rattle.rvg_components.specs.Numbering.{widths, firsts_from, result_variables_by_width}
use Rattle.rvg_components.specs.Reading.{answer_reads}
use Rattle.rvg_components.specs.Edges.{first_of, firsts_of, edges_at, edges_below, no_rows}
use Rattle.rvg_components.specs.Fitting.{flow_inputs_of}
use Rattle.rvg_components.specs.FlowGraphs.{IsFlowGraph}
use Rattle.rvg_components.proofs.Numbers.{result_variable_in, result_variables-length, widths-length, widths-at, width-live, IsAt}
use Rattle.rvg_components.proofs.Numbers.{at-position, PlaceAt, place-at}
use Rattle.rvg_components.proofs.EdgeLists.{EdgeTo, read_at, EdgeInto, into-sound, into-listed, FirstOf, firsts-sound}
use Rattle.rvg_components.proofs.EdgeLists.{firsts-listed, EdgeBelow, below-sound, below-listed}
use Rattle.rvg_components.proofs.ReadPlaces.{read-sound, read-listed}
use Rattle.rvg_components.proofs.ProgramAnswers.{flag-within, RuleBefore, lists-long, rule-here, rows-here}
use Rattle.rvg_components.proofs.ProgramAnswers.{answers-here, widths-few, live-result_variables, rule-before}
use Rattle.std.proofs.lemmas.Bool.{and_from as both}

-- if a conjunction is true, its first part is
first-holds : (a b : Bool) → (a && b) ≡ true → a ≡ true
first-holds true b h = refl
first-holds false b h = absurd (no_is_not_yes false refl h)

-- if a conjunction is true, its second part is
second-holds : (a b : Bool) → (a && b) ≡ true → b ≡ true
second-holds true b h = h
second-holds false b h = absurd (no_is_not_yes false refl h)

module _ (p : Program) (g : Graph) (prepared_rules : List RuleRows) (locals : List (Vec LocalAnswer Global)) (live : List Bool)
    (given : AreAnswersOfProgram p g prepared_rules (answer_lists locals) live) where
  -- how many places each rule has
  abbrev ws : List ℕ
  ws = widths (answer_lists locals) live

  -- the first place of each rule
  abbrev firsts : List ℕ
  firsts = firsts_from 0 (widths (answer_lists locals) live)

  -- the places by their numbers
  abbrev result_variables : List ResultVariable
  result_variables = result_variables_by_width 1 (widths (answer_lists locals) live)

  -- the answer for each place
  abbrev local : Locals
  local = local_from (answer_lists locals)

  -- the rows of the rule at a position
  abbrev rows_at : ℕ → Prepared
  rows_at k = get_or (map prepared_of prepared_rules) k no_rows

  -- the answers of the rule at a position
  abbrev answers_at : ℕ → List LocalAnswer
  answers_at k = get_or (answer_lists locals) k []

  -- a live rule has as many places as answers
  live-width : (k : ℕ) → get_or live k false ≡ true → get_or ws k 0 ≡ length (answers_at k)
  live-width k is = widths-at (answer_lists locals) live k (lists-long p g prepared_rules locals live given)
      ∙ ap (λ (v : Bool). cond v (length (answers_at k)) 0) is

  -- the result variable at the position of a place is that place
  stands : (k i a : ℕ) → IsAt 0 1 ws k i a → result_variable_at result_variables a ≡ result_variable_in (suc k) i
  stands k i a at = at.result_variable (record { rule = 0; place = 0 }) ∙ ap (λ (t : ℕ). result_variable_in t i) next
    where
      next : 1 + k ≡ suc k
      next = omega arith

  -- the node number of a place of a live rule
  record Node (k i a : ℕ) : Type 0 where
    within : a < length result_variables
    result_variable : result_variable_at result_variables a ≡ result_variable_in (suc k) i

  -- each place of a live rule has a node number
  node : (k i a : ℕ) → get_or live k false ≡ true → i < length (answers_at k) → a ≡ get_or firsts k 0 + i → Node k i a
  node k i a is low e = go (at-position 0 1 ws k i (omega (arith, flag-within live k is, widths-length (answer_lists locals) live (lists-long p g prepared_rules locals live given)))
      (omega (arith, low, live-width k is)))
    where
      go : (x : ℕ) × IsAt 0 1 ws k i x → Node k i a
      go (x, at) =
          let same : x ≡ a = omega (arith, at.number, e) in
          let moved : IsAt 0 1 ws k i a = subst (λ (y : ℕ). IsAt 0 1 ws k i y) same at in
          record { within = moved.within; result_variable = stands k i a moved }

  -- the polynomial of a place is in the rows of its rule
  poly-here : (k n : ℕ) (r : Rule) → rule_at p (suc k) ≡ Some r → nonlinear_at (rows_at k).polys n ≡ poly_at (setting_of p) (result_variable_in (suc k) n)
  poly-here k n r here = ap (λ (m : Prepared). nonlinear_at m.polys n) (rows-here p g prepared_rules locals live given k r here)
      ∙ sym (ap (λ (o : Option Rule). nonlinear_at (polys_in o) n) here)

  -- the number of left variables is the rule's
  left-here : (k : ℕ) (r : Rule) → rule_at p (suc k) ≡ Some r → (rows_at k).left ≡ r.left
  left-here k r here = ap (λ (m : Prepared). m.left) (rows-here p g prepared_rules locals live given k r here)

  -- the listed places are those that the answer reads
  reads-here : (k n : ℕ) (r : Rule) (answer : LocalAnswer) → rule_at p (suc k) ≡ Some r
      → read_at (rows_at k) n answer ≡ answer_reads (poly_at (setting_of p) (result_variable_in (suc k) n)) (local_answer_of answer) r.left
  reads-here k n r answer here = ap (λ (q : Option Polynomial). answer_reads q (local_answer_of answer) (rows_at k).left) (poly-here k n r here)
      ∙ ap (λ (left : ℕ). answer_reads (poly_at (setting_of p) (result_variable_in (suc k) n)) (local_answer_of answer) left) (left-here k r here)

  -- the answer for a place is the one in the list
  answer-here : (k n : ℕ) (answer : LocalAnswer) → slice_get (answers_at k) n ≡ Some answer → local (suc k) (suc n) ≡ local_answer_of answer
  answer-here k n answer there = ap local_in there

  -- a rule that comes before another has as many places as the other has left variables
  left-width : (k e : ℕ) (r : Rule) → rule_at p (suc k) ≡ Some r → Contains (pre p (suc k)) (suc e) → get_or live e false ≡ true → length (answers_at e) ≡ r.left
  left-width k e r here among is = go (rule-before p g prepared_rules locals live given k (suc e) r here among is)
    where
      go : RuleBefore p (suc e) r → length (answers_at e) ≡ r.left
      go q =
          let same : e ≡ q.position = omega (arith, q.number) in
          let numbered : rule_at p (suc e) ≡ Some q.rule = ap (λ (t : ℕ). rule_at p (suc t)) same ∙ q.numbered in
          answers-here p g prepared_rules locals live given e q.rule numbered is
          ∙ (ap (arity_of p) q.meets ∙ sym (rule-valid p (suc k) r given.valid here).left)

  -- a flow between places counted from 0, by its definition
  into-plain : (k n e j : ℕ) → value_flows (setting_of p) local (result_variable_in (suc e) j) (result_variable_in (suc k) n)
      ≡ (is_in (suc e) (pre p (suc k)) && local_reads (setting_of p) (result_variable_in (suc k) n) (local (suc k) (suc n)) j)
  into-plain k n e j = ap (λ (i : ℕ). is_in (suc e) (pre p (suc k)) && local_reads (setting_of p) (result_variable_in (suc k) n) (local (suc k) (suc n)) i) back
    where
      back : suc j - 1 ≡ j
      back = omega arith

  -- a value flows from a place that is read
  flow-from : (k n e j : ℕ) (answer : LocalAnswer) → slice_get (answers_at k) n ≡ Some answer → Contains (pre p (suc k)) (suc e)
      → local_reads (setting_of p) (result_variable_in (suc k) n) (local_answer_of answer) j ≡ true
      → value_flows (setting_of p) local (result_variable_in (suc e) j) (result_variable_in (suc k) n) ≡ true
  flow-from k n e j answer there among read =
      into-plain k n e j ∙ both (is_in (suc e) (pre p (suc k))) (local_reads (setting_of p) (result_variable_in (suc k) n) (local (suc k) (suc n)) j)
      (is_in-contained (pre p (suc k)) (suc e) among) (ap (λ (a : Local). local_reads (setting_of p) (result_variable_in (suc k) n) a j) (answer-here k n answer there) ∙ read)

  -- each listed edge is a flow
  edge-flows : (a b : ℕ) → IsPair (edges_below p (flow_inputs_of prepared_rules locals live firsts) (length live)) a b → HasFlow (setting_of p) local result_variables a b
  edge-flows a b h = below (below-sound p (flow_inputs_of prepared_rules locals live firsts) (length live) (a, b) h)
    where
      flow : (k n e j : ℕ) (answer : LocalAnswer) (r : Rule) → get_or live k false ≡ true → get_or live e false ≡ true → slice_get (answers_at k) n ≡ Some answer
          → rule_at p (suc k) ≡ Some r → Contains (pre p (suc k)) (suc e) → Contains (read_at (rows_at k) n answer) j
          → a ≡ get_or firsts e 0 + j → b ≡ get_or firsts k 0 + n → HasFlow (setting_of p) local result_variables a b
      flow k n e j answer r is before there here among read from into =
          let told = read-sound (setting_of p) (result_variable_in (suc k) n) (local_answer_of answer) r.left j (subst (λ (js : List ℕ). Contains js j) (reads-here k n r answer here) read) in
          let source : Node e j a = node e j a before (omega (arith, told.0, left-width k e r here among before)) from in
          let sink : Node k n b = node k n b is (slice_get_within (answers_at k) n answer there) into in
          record {
            from = source.within;
            to = sink.within;
            flow = ap (λ (m : ResultVariable). value_flows (setting_of p) local m (result_variable_at result_variables b)) source.result_variable
                ∙ (ap (λ (m : ResultVariable). value_flows (setting_of p) local (result_variable_in (suc e) j) m) sink.result_variable ∙ flow-from k n e j answer there among told.1);
          }

      before-rule : (k n : ℕ) (answer : LocalAnswer) (r : Rule) → get_or live k false ≡ true → slice_get (answers_at k) n ≡ Some answer → rule_at p (suc k) ≡ Some r
          → (t : EdgeTo (get_or firsts k 0 + n) (firsts_of live firsts (pre p (suc k))) (read_at (rows_at k) n answer) a b)
          → FirstOf live firsts (pre p (suc k)) t.first → HasFlow (setting_of p) local result_variables a b
      before-rule k n answer r is there here t f = go (rule-before p g prepared_rules locals live given k f.rule r here f.among f.flagged)
        where
          go : RuleBefore p f.rule r → HasFlow (setting_of p) local result_variables a b
          go q =
              let first : t.first ≡ get_or firsts q.position 0 = f.is ∙ ap (first_of firsts) q.number in
              flow k n q.position t.place answer r is (subst (λ (e : ℕ). is_flagged live e ≡ true) q.number f.flagged) there here
              (subst (λ (e : ℕ). Contains (pre p (suc k)) e) q.number f.among) t.read (omega (arith, t.from, first)) t.into

      into : (k : ℕ) → get_or live k false ≡ true → EdgeInto (rows_at k) (firsts_of live firsts (pre p (suc k))) (get_or firsts k 0) 0 (answers_at k) a b → HasFlow (setting_of p) local result_variables a b
      into k is i = go (rule-here p g prepared_rules locals live given k (flag-within live k is))
        where
          plain : 0 + i.position ≡ i.position
          plain = omega arith

          edge : EdgeTo (get_or firsts k 0 + i.position) (firsts_of live firsts (pre p (suc k))) (read_at (rows_at k) i.position i.answer) a b
          edge = subst (λ (n : ℕ). EdgeTo (get_or firsts k 0 + n) (firsts_of live firsts (pre p (suc k))) (read_at (rows_at k) n i.answer) a b) plain i.edge

          go : (r : Rule) × (rule_at p (suc k) ≡ Some r) → HasFlow (setting_of p) local result_variables a b
          go (r, here) = before-rule k i.position i.answer r is i.there here edge (firsts-sound live firsts (pre p (suc k)) edge.first edge.among)

      below : EdgeBelow p (flow_inputs_of prepared_rules locals live firsts) (length live) (a, b) → HasFlow (setting_of p) local result_variables a b
      below e = into e.position e.live (into-sound (rows_at e.position) (firsts_of live firsts (pre p (suc e.position))) (get_or firsts e.position 0) 0 (answers_at e.position) a b e.edge)

  -- each flow is a listed edge
  flow-edges : (a b : ℕ) → HasFlow (setting_of p) local result_variables a b → IsPair (edges_below p (flow_inputs_of prepared_rules locals live firsts) (length live)) a b
  flow-edges a b h = go (place-at 0 1 ws a h.from) (place-at 0 1 ws b h.to)
    where
      edge : (k n e j : ℕ) (answer : LocalAnswer) (r : Rule) → get_or live k false ≡ true → get_or live e false ≡ true → slice_get (answers_at k) n ≡ Some answer
          → rule_at p (suc k) ≡ Some r → Contains (pre p (suc k)) (suc e) → j < length (answers_at e)
          → local_reads (setting_of p) (result_variable_in (suc k) n) (local_answer_of answer) j ≡ true
          → get_or firsts e 0 + j ≡ a → get_or firsts k 0 + n ≡ b → IsPair (edges_below p (flow_inputs_of prepared_rules locals live firsts) (length live)) a b
      edge k n e j answer r is before there here among low read from into =
          let plain : get_or firsts k 0 + (0 + n) ≡ b = omega (arith, into) in
          let listed : Contains (read_at (rows_at k) n answer) j = subst (λ (js : List ℕ). Contains js j) (sym (reads-here k n r answer here))
          (read-listed (setting_of p) (result_variable_in (suc k) n) (local_answer_of answer) r.left j (omega (arith, low, left-width k e r here among before)) read) in
          let none : n ≡ 0 + n = omega arith in
          let there_edge : Contains (edges_at p (flow_inputs_of prepared_rules locals live firsts) k) (get_or firsts e 0 + j, get_or firsts k 0 + (0 + n)) =
          into-listed (rows_at k) (firsts_of live firsts (pre p (suc k))) (get_or firsts k 0) 0 (answers_at k) n answer (get_or firsts e 0) j there
          (firsts-listed live firsts (pre p (suc k)) (suc e) among before) (subst (λ (i : ℕ). Contains (read_at (rows_at k) i answer) j) none listed) in
          below-listed p (flow_inputs_of prepared_rules locals live firsts) (length live) k (a, b) (flag-within live k is) is
          (subst (λ (x : Pair). Contains (edges_at p (flow_inputs_of prepared_rules locals live firsts) k) x) (same_pair (get_or firsts e 0 + j, get_or firsts k 0 + (0 + n)) a b from plain) there_edge)

      by : (q : PlaceAt 0 1 ws a) (s : PlaceAt 0 1 ws b) → (get_or live q.rule false ≡ true) × (q.place < length (answers_at q.rule))
          → (get_or live s.rule false ≡ true) × (s.place < length (answers_at s.rule)) → (r : Rule) × (rule_at p (suc s.rule) ≡ Some r)
          → ((x : LocalAnswer) × (s.place < length (answers_at s.rule)) × (slice_get (answers_at s.rule) s.place ≡ Some x) × (get_or (answers_at s.rule) s.place x ≡ x))
          ⊎ ((length (answers_at s.rule) ≤ s.place) × (slice_get (answers_at s.rule) s.place ≡ None))
          → IsPair (edges_below p (flow_inputs_of prepared_rules locals live firsts) (length live)) a b
      by q s (before, low) (is, inside) rule (inr (past, none)) = absurd (omega (arith, inside, past))
      by q s (before, low) (is, inside) (r, here) (inl (answer, within, there, same)) =
          let flows : (is_in (suc q.rule) (pre p (suc s.rule)) && local_reads (setting_of p) (result_variable_in (suc s.rule) s.place) (local (suc s.rule) (suc s.place)) q.place) ≡ true =
          sym (into-plain s.rule s.place q.rule q.place) ∙ (sym (ap (λ (m : ResultVariable). value_flows (setting_of p) local m (result_variable_at result_variables b)) (stands q.rule q.place a q.at)
          ∙ ap (λ (m : ResultVariable). value_flows (setting_of p) local (result_variable_in (suc q.rule) q.place) m) (stands s.rule s.place b s.at)) ∙ h.flow) in
          let among : Contains (pre p (suc s.rule)) (suc q.rule) = contains-is_in (pre p (suc s.rule)) (suc q.rule)
          (first-holds (is_in (suc q.rule) (pre p (suc s.rule))) (local_reads (setting_of p) (result_variable_in (suc s.rule) s.place) (local (suc s.rule) (suc s.place)) q.place) flows) in
          let read : local_reads (setting_of p) (result_variable_in (suc s.rule) s.place) (local_answer_of answer) q.place ≡ true =
          sym (ap (λ (x : Local). local_reads (setting_of p) (result_variable_in (suc s.rule) s.place) x q.place) (answer-here s.rule s.place answer there))
          ∙ second-holds (is_in (suc q.rule) (pre p (suc s.rule))) (local_reads (setting_of p) (result_variable_in (suc s.rule) s.place) (local (suc s.rule) (suc s.place)) q.place) flows in
          let from : get_or firsts q.rule 0 + q.place ≡ a = omega (arith, q.at.number) in
          let into : get_or firsts s.rule 0 + s.place ≡ b = omega (arith, s.at.number) in
          edge s.rule s.place q.rule q.place answer r is before there here among low read from into

      live-at : (x : ℕ) → (q : PlaceAt 0 1 ws x) → (get_or live q.rule false ≡ true) × (q.place < length (answers_at q.rule))
      live-at x q = width-live (get_or live q.rule false) (length (answers_at q.rule)) q.place
          (omega (arith, q.place_within, widths-at (answer_lists locals) live q.rule (lists-long p g prepared_rules locals live given)))

      go : PlaceAt 0 1 ws a → PlaceAt 0 1 ws b → IsPair (edges_below p (flow_inputs_of prepared_rules locals live firsts) (length live)) a b
      go q s = by q s (live-at a q) (live-at b s) (rule-here p g prepared_rules locals live given s.rule (flag-within live s.rule (live-at b s).0))
          (slice_get_cases (answers_at s.rule) s.place).1

  -- the listed places and edges are the graph of places
  pub flow-graph : (found : List ResultVariable) (edges : List Pair) → found ≡ result_variables → edges ≡ edges_below p (flow_inputs_of prepared_rules locals live firsts) (length live)
      → IsFlowGraph (setting_of p) (is_flagged live) local found edges
  flow-graph found edges places made = record {
    places = places ∙ sym (live-result_variables p g prepared_rules locals live given);
    few = omega (arith, ap length places, result_variables-length 1 ws, widths-few p g prepared_rules locals live given);
    within = λ k d low. within (get_or edges k d) (k, low, get_or_default edges k (get_or edges k d) d low);
    flowing = λ a b. (λ h. onward a b h, λ h. back a b h);
  }
    where
      onward : (a b : ℕ) → IsPair edges a b → HasFlow (setting_of p) local found a b
      onward a b h =
          subst (λ (xs : List ResultVariable). HasFlow (setting_of p) local xs a b) (sym places) (edge-flows a b (subst (λ (es : List Pair). Contains es (a, b)) made h))

      back : (a b : ℕ) → HasFlow (setting_of p) local found a b → IsPair edges a b
      back a b h = subst (λ (es : List Pair). Contains es (a, b)) (sym made) (flow-edges a b (subst (λ (xs : List ResultVariable). HasFlow (setting_of p) local xs a b) places h))

      within : (e : Pair) → Contains edges e → (e.0 < length found) × (e.1 < length found)
      within e h = let f = onward e.0 e.1 h in (f.from, f.to)
