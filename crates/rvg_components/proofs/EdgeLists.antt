-- The members of the lists of edges.
use Rattle.std.proofs.Common.{◌≡◌, ◌⊎◌, inl, inr, ℕ, zero, suc, ◌+◌, ◌<◌, ◌≤◌, Bool, true, false, cond, List, [], ◌∷◌}
use Rattle.std.proofs.Common.{get_or, Contains, Some, refl, sym, ◌∙◌, ap, subst, arith}
use Rattle.std.specs.Prelude.{slice_get}
use Rattle.std.proofs.lemmas.List.Elements.{Contains-append_left, Contains-append_right, Contains-append_cases}
use Rattle.std.proofs.lemmas.Bool.{cases_lt}
use Rattle.std.proofs.lemmas.Option.{none-some, same_Some}
use Rattle.model.specs.Programs.{Program}
use Rattle.guard_prep.specs.Prepared.{Prepared}
use Rattle.cert_types.specs.cert_program.Setting.{nonlinear_at}
use Rattle.its_graph.proofs.Elements.{Contains-cons_cases, Contains-first, Contains-later, none_in_empty, only_element}
use Rattle.its_graph.proofs.PairLists.{Pair, same_pair, pair-cases, pair-later}
use Rattle.local_size.specs.LocalAnswers.{local_answer_of}
use Rattle.local_size.specs.declared.answer.LocalAnswer.{LocalAnswer}
use Rattle.rvg_components.specs.Listing.{is_flagged}
use Rattle.rvg_components.specs.Reading.{answer_reads}
use Rattle.rvg_components.specs.Edges.{edges_from, edges_to, edges_into, first_of, firsts_of, FlowInputs, edges_at}
use Rattle.rvg_components.specs.Edges.{live_edges_at, edges_below}

-- an edge into place `to` from one of these places of a rule with one of these first places
pub record EdgeTo (to : ℕ) (before places : List ℕ) (a b : ℕ) : Type 0 where
  pub place : ℕ
  pub read : Contains places place
  pub first : ℕ
  pub among : Contains before first
  pub from : a ≡ first + place
  pub into : b ≡ to

-- each listed edge from one place is such an edge
from-sound : (j to : ℕ) (before : List ℕ) (a b : ℕ) → Contains (edges_from j to before) (a, b) → EdgeTo to before (j ∷ []) a b
from-sound j to [] a b h = absurd (none_in_empty (a, b) h)
from-sound j to (x ∷ before) a b h = go (pair-cases (x + j, to) (edges_from j to before) (a, b) h) (λ l. from-sound j to before a b l)
  where
    later : EdgeTo to before (j ∷ []) a b → EdgeTo to (x ∷ before) (j ∷ []) a b
    later e = record { place = e.place; read = e.read; first = e.first; among = Contains-later x before e.first e.among; from = e.from; into = e.into }

    go : ◌≡◌ {A = Pair} (x + j, to) (a, b) ⊎ Contains (edges_from j to before) (a, b) → (Contains (edges_from j to before) (a, b) → EdgeTo to before (j ∷ []) a b)
        → EdgeTo to (x ∷ before) (j ∷ []) a b
    go (inl e) ih = record {
      place = j;
      read = Contains-first j [];
      first = x;
      among = Contains-first x before;
      from = ap (λ (q : Pair). q.0) (sym e);
      into = ap (λ (q : Pair). q.1) (sym e);
    }
    go (inr l) ih = later (ih l)

-- the edge from a read place is listed
from-listed : (j to : ℕ) (before : List ℕ) (x : ℕ) → Contains before x → Contains (edges_from j to before) (x + j, to)
from-listed j to [] x h = absurd (none_in_empty x h)
from-listed j to (y ∷ before) x h = go (Contains-cons_cases y before x h) (λ l. from-listed j to before x l)
  where
    go : (x ≡ y) ⊎ Contains before x → (Contains before x → Contains (edges_from j to before) (x + j, to)) → Contains (edges_from j to (y ∷ before)) (x + j, to)
    go (inl e) ih = (zero, omega arith, same_pair (y + j, to) (x + j) to (ap (λ (n : ℕ). n + j) (sym e)) refl)
    go (inr l) ih = pair-later (y + j, to) (edges_from j to before) (x + j, to) (ih l)

-- each listed edge from the places that are read is such an edge
pub to-sound : (to : ℕ) (before places : List ℕ) (a b : ℕ) → Contains (edges_to to before places) (a, b) → EdgeTo to before places a b
to-sound to before [] a b h = absurd (none_in_empty (a, b) h)
to-sound to before (j ∷ places) a b h = go (Contains-append_cases (edges_from j to before) (edges_to to before places) (a, b) h) (λ l. to-sound to before places a b l)
  where
    first : EdgeTo to before (j ∷ []) a b → EdgeTo to before (j ∷ places) a b
    first e = record {
      place = e.place;
      read = subst (λ (n : ℕ). Contains (j ∷ places) n) (sym (only_element j e.place e.read)) (Contains-first j places);
      first = e.first;
      among = e.among;
      from = e.from;
      into = e.into;
    }

    later : EdgeTo to before places a b → EdgeTo to before (j ∷ places) a b
    later e = record { place = e.place; read = Contains-later j places e.place e.read; first = e.first; among = e.among; from = e.from; into = e.into }

    go : Contains (edges_from j to before) (a, b) ⊎ Contains (edges_to to before places) (a, b)
        → (Contains (edges_to to before places) (a, b) → EdgeTo to before places a b) → EdgeTo to before (j ∷ places) a b
    go (inl l) ih = first (from-sound j to before a b l)
    go (inr l) ih = later (ih l)

-- each edge from a place that is read is listed
pub to-listed : (to : ℕ) (before places : List ℕ) (x j : ℕ) → Contains before x → Contains places j → Contains (edges_to to before places) (x + j, to)
to-listed to before [] x j h r = absurd (none_in_empty j r)
to-listed to before (i ∷ places) x j h r = go (Contains-cons_cases i places j r) (λ l. to-listed to before places x j h l)
  where
    go : (j ≡ i) ⊎ Contains places j → (Contains places j → Contains (edges_to to before places) (x + j, to)) → Contains (edges_to to before (i ∷ places)) (x + j, to)
    go (inl e) ih = Contains-append_left (edges_from i to before) (edges_to to before places) (x + j, to)
        (subst (λ (n : ℕ). Contains (edges_from n to before) (x + j, to)) e (from-listed j to before x h))
    go (inr l) ih = Contains-append_right (edges_from i to before) (edges_to to before places) (x + j, to) (ih l)

-- the places that the answer at a place reads
abbrev pub read_at : Prepared → ℕ → LocalAnswer → List ℕ
read_at m i answer = answer_reads (nonlinear_at m.polys i) (local_answer_of answer) m.left

-- an edge into a place of a rule with these answers, the first of which is that of place i
pub record EdgeInto (m : Prepared) (before : List ℕ) (first i : ℕ) (answers : List LocalAnswer) (a b : ℕ) : Type 0 where
  pub position : ℕ
  pub answer : LocalAnswer
  pub there : slice_get answers position ≡ Some answer
  pub edge : EdgeTo (first + (i + position)) before (read_at m (i + position) answer) a b

-- each listed edge into the places of a rule is such an edge
pub into-sound : (m : Prepared) (before : List ℕ) (first i : ℕ) (answers : List LocalAnswer) (a b : ℕ) → Contains (edges_into m before first i answers) (a, b)
    → EdgeInto m before first i answers a b
into-sound m before first i [] a b h = absurd (none_in_empty (a, b) h)
into-sound m before first i (x ∷ answers) a b h =
    go (Contains-append_cases (edges_to (first + i) before (read_at m i x)) (edges_into m before first (suc i) answers) (a, b) h)
    (λ l. into-sound m before first (suc i) answers a b l)
  where
    plain : i ≡ i + 0
    plain = omega arith

    moved : (i n : ℕ) → suc i + n ≡ i + suc n
    moved i n = omega arith

    later : EdgeInto m before first (suc i) answers a b → EdgeInto m before first i (x ∷ answers) a b
    later e = record {
      position = suc e.position;
      answer = e.answer;
      there = e.there;
      edge = subst (λ (n : ℕ). EdgeTo (first + n) before (read_at m n e.answer) a b) (moved i e.position) e.edge;
    }

    go : Contains (edges_to (first + i) before (read_at m i x)) (a, b) ⊎ Contains (edges_into m before first (suc i) answers) (a, b)
        → (Contains (edges_into m before first (suc i) answers) (a, b) → EdgeInto m before first (suc i) answers a b) → EdgeInto m before first i (x ∷ answers) a b
    go (inl l) ih = record {
      position = 0;
      answer = x;
      there = refl;
      edge = subst (λ (n : ℕ). EdgeTo (first + n) before (read_at m n x) a b) plain (to-sound (first + i) before (read_at m i x) a b l);
    }
    go (inr l) ih = later (ih l)

-- each edge into a place of the rule is listed
pub into-listed : (m : Prepared) (before : List ℕ) (first i : ℕ) (answers : List LocalAnswer) (n : ℕ) (answer : LocalAnswer) (x j : ℕ) → slice_get answers n ≡ Some answer
    → Contains before x → Contains (read_at m (i + n) answer) j → Contains (edges_into m before first i answers) (x + j, first + (i + n))
into-listed m before first i [] n answer x j e h r = absurd (none-some answer e)
into-listed m before first i (y ∷ answers) zero answer x j e h r =
    subst (λ (n : ℕ). Contains (edges_into m before first i (y ∷ answers)) (x + j, first + n)) (sym plain)
    (Contains-append_left (edges_to (first + i) before (read_at m i y)) (edges_into m before first (suc i) answers) (x + j, first + i)
    (to-listed (first + i) before (read_at m i y) x j h
    (subst (λ (c : LocalAnswer). Contains (read_at m i c) j) (sym (same_Some y answer e)) (subst (λ (n : ℕ). Contains (read_at m n answer) j) plain r))))
  where
    plain : i + 0 ≡ i
    plain = omega arith
into-listed m before first i (y ∷ answers) (suc n) answer x j e h r =
    Contains-append_right (edges_to (first + i) before (read_at m i y)) (edges_into m before first (suc i) answers) (x + j, first + (i + suc n))
    (subst (λ (k : ℕ). Contains (edges_into m before first (suc i) answers) (x + j, first + k)) (moved i n)
    (into-listed m before first (suc i) answers n answer x j e h (subst (λ (k : ℕ). Contains (read_at m k answer) j) (sym (moved i n)) r)))
  where
    moved : (i n : ℕ) → suc i + n ≡ i + suc n
    moved i n = omega arith

-- a number is the first place of a live one of these rules
pub record FirstOf (live : List Bool) (firsts es : List ℕ) (x : ℕ) : Type 0 where
  pub rule : ℕ
  pub among : Contains es rule
  pub flagged : is_flagged live rule ≡ true
  pub is : x ≡ first_of firsts rule

-- each listed number is such a first place
pub firsts-sound : (live : List Bool) (firsts es : List ℕ) (x : ℕ) → Contains (firsts_of live firsts es) x → FirstOf live firsts es x
firsts-sound live firsts [] x h = absurd (none_in_empty x h)
firsts-sound live firsts (e ∷ es) x h =
    go (Contains-append_cases (cond (is_flagged live e) (first_of firsts e ∷ []) []) (firsts_of live firsts es) x h) (λ l. firsts-sound live firsts es x l)
  where
    here : (v : Bool) → is_flagged live e ≡ v → Contains (cond v (first_of firsts e ∷ []) []) x → FirstOf live firsts (e ∷ es) x
    here true is l = record { rule = e; among = Contains-first e es; flagged = is; is = only_element (first_of firsts e) x l }
    here false is l = absurd (none_in_empty x l)

    later : FirstOf live firsts es x → FirstOf live firsts (e ∷ es) x
    later f = record { rule = f.rule; among = Contains-later e es f.rule f.among; flagged = f.flagged; is = f.is }

    go : Contains (cond (is_flagged live e) (first_of firsts e ∷ []) []) x ⊎ Contains (firsts_of live firsts es) x
        → (Contains (firsts_of live firsts es) x → FirstOf live firsts es x) → FirstOf live firsts (e ∷ es) x
    go (inl l) ih = here (is_flagged live e) refl l
    go (inr l) ih = later (ih l)

-- the first place of each live rule is listed
pub firsts-listed : (live : List Bool) (firsts es : List ℕ) (e : ℕ) → Contains es e → is_flagged live e ≡ true → Contains (firsts_of live firsts es) (first_of firsts e)
firsts-listed live firsts [] e h f = absurd (none_in_empty e h)
firsts-listed live firsts (d ∷ es) e h f = go (Contains-cons_cases d es e h) (λ l. firsts-listed live firsts es e l f)
  where
    go : (e ≡ d) ⊎ Contains es e → (Contains es e → Contains (firsts_of live firsts es) (first_of firsts e)) → Contains (firsts_of live firsts (d ∷ es)) (first_of firsts e)
    go (inl same) ih =
        Contains-append_left (cond (is_flagged live d) (first_of firsts d ∷ []) []) (firsts_of live firsts es) (first_of firsts e)
        (subst (λ (v : Bool). Contains (cond v (first_of firsts d ∷ []) []) (first_of firsts e)) (sym (ap (is_flagged live) (sym same) ∙ f))
        (zero, omega arith, ap (first_of firsts) (sym same)))
    go (inr l) ih = Contains-append_right (cond (is_flagged live d) (first_of firsts d ∷ []) []) (firsts_of live firsts es) (first_of firsts e) (ih l)

-- an edge into a place of a live rule below a position
pub record EdgeBelow (p : Program) (known : FlowInputs) (n : ℕ) (e : Pair) : Type 0 where
  pub position : ℕ
  pub below : position < n
  pub live : get_or known.live position false ≡ true
  pub edge : Contains (edges_at p known position) e

-- each listed edge below a position is such an edge
pub below-sound : (p : Program) (known : FlowInputs) (n : ℕ) (e : Pair) → Contains (edges_below p known n) e → EdgeBelow p known n e
below-sound p known zero e h = absurd (none_in_empty e h)
below-sound p known (suc k) e h = go (Contains-append_cases (edges_below p known k) (live_edges_at p known k) e h) (λ l. below-sound p known k e l)
  where
    here : (v : Bool) → get_or known.live k false ≡ v → Contains (cond v (edges_at p known k) []) e → EdgeBelow p known (suc k) e
    here true is l = record { position = k; below = omega arith; live = is; edge = l }
    here false is l = absurd (none_in_empty e l)

    later : EdgeBelow p known k e → EdgeBelow p known (suc k) e
    later f = record { position = f.position; below = omega (arith, f.below); live = f.live; edge = f.edge }

    go : Contains (edges_below p known k) e ⊎ Contains (live_edges_at p known k) e → (Contains (edges_below p known k) e → EdgeBelow p known k e) → EdgeBelow p known (suc k) e
    go (inl l) ih = later (ih l)
    go (inr l) ih = here (get_or known.live k false) refl l

-- the edges of each live rule below a position are listed
pub below-listed : (p : Program) (known : FlowInputs) (n k : ℕ) (e : Pair) → k < n → get_or known.live k false ≡ true → Contains (edges_at p known k) e → Contains (edges_below p known n) e
below-listed p known zero k e low is h = absurd (omega (arith, low))
below-listed p known (suc n) k e low is h = go (cases_lt k n) (λ l. below-listed p known n k e l is h)
  where
    go : (k < n) ⊎ (n ≤ k) → (k < n → Contains (edges_below p known n) e) → Contains (edges_below p known (suc n)) e
    go (inl l) ih = Contains-append_left (edges_below p known n) (live_edges_at p known n) e (ih l)
    go (inr past) ih =
        let same : k ≡ n = omega (arith, low, past) in
        Contains-append_right (edges_below p known n) (live_edges_at p known n) e
        (subst (λ (i : ℕ). Contains (live_edges_at p known i) e) same (subst (λ (v : Bool). Contains (cond v (edges_at p known k) []) e) (sym is) h))
