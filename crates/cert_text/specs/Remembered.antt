-- The state of reading a proof file, and the effects of actions on it.
use Rattle.std.specs.Prelude.{ℕ, ◌+◌, ◌-◌, ◌^◌, min, nat_abs, Bool, true, false, if◌then◌else◌, ℤ, pos, neg_ℤ}
use Rattle.std.specs.Prelude.{List, [], ◌∷◌, ◌++◌, Option, Some, None, slice_get}
use Rattle.its_model.specs.model.Bounds.{Bound, Constant}
use Rattle.cert_types.specs.Views.{uses_of}
use Rattle.cert_types.specs.rule_forms.linear_forms.Forms.{Form}
use Rattle.cert_types.specs.cert_rules.Nodes.{ResultVariable, SideBound, Linear, Poly, Member, SymbolForm, RankNode}
use Rattle.cert_types.specs.cert_rules.Nodes.{CostBy, EmptyCost, NeverCost, SideBoundCost}
use Rattle.cert_types.specs.cert_rules.Nodes.{Proof, Cite, Start, Empty, Unreached, Never, Rank, Spread, Cycle}
use Rattle.cert_types.specs.cert_rules.Nodes.{Weaken, CostBound}
use Rattle.cert_types.specs.cert_rules.Gaps.{ScaledPoint, SymbolPlace, Gap}
use Rattle.cert_lexer.specs.declared.inner.Inner.{Inner}
use Rattle.cert_text.specs.declared.phase.Next.{Next}
use Rattle.cert_text.specs.declared.phase.Next.TheVariants as next
use Rattle.cert_text.specs.declared.action.Action.{Action}
use Rattle.cert_text.specs.declared.action.Action.TheVariants as action
use Rattle.cert_text.specs.declared.action.TheConstants.{ACTIONS}

-- the parts of the node or the gap that began last, as far as they were read: its rule and its set, its denominator,
-- the last lists of numbers, with signs and without, the forms and the multipliers of a ranking function, a side bound
-- and its form, the upper side bound, a place, the places with their local bounds, how a cost is shown, the premises,
-- the shut places, and scaled points: the last ones, the moves and the floor
pub record Draft : Type 0 where
  pub rule : ℕ
  pub set : List ℕ
  pub den : ℕ
  pub numbers : List ℕ
  pub integers : List ℤ
  pub forms : List SymbolForm
  pub moves : List (List ℕ)
  pub form : Form
  pub side_bound : SideBound
  pub up : SideBound
  pub result_variable : ResultVariable
  pub members : List Member
  pub by : CostBy
  pub uses : List Proof
  pub shut : List SymbolPlace
  pub points : List ScaledPoint
  pub gap_moves : List ScaledPoint
  pub floor : ScaledPoint

-- the nodes around the innermost one whose premises are being read: each with its parts and the premises that were read
-- before the current one, the innermost first
pub data Outer : Type 0 where
  Whole : Outer
  Inside : Draft → List Proof → Outer → Outer

-- the state of reading: the meaning of the next piece; whether the version in the first line is 2, and whether a node
-- on costs was read; whether a gap is open; lemmas and gaps in order; the number of open nodes; the node that was read
-- last, the premises read so far and the nodes around them, and the parts of the last node or gap; the last number, its
-- sign and the last symbol; and the pieces of an open bound, and the last bound
pub record State : Type 0 where
  pub coming : Next
  pub priced : Bool
  pub paid : Bool
  pub in_gap : Bool
  pub lemmas : List Proof
  pub gaps : List Gap
  pub levels : ℕ
  pub node : Proof
  pub used : List Proof
  pub outer : Outer
  pub draft : Draft
  pub number : ℕ
  pub negative : Bool
  pub symbol : ℕ
  pub pieces : List Inner
  pub bound : Bound

-- the values of parts that weren't read: no form, no place and so on
abbrev pub no_form : Form
no_form = record { coefs = []; constant = pos 0 }

abbrev pub no_point : ScaledPoint
no_point = record { parts = []; den = 0 }

abbrev pub no_result_variable : ResultVariable
no_result_variable = record { rule = 0; place = 0 }

abbrev pub no_member : Member
no_member = record { result_variable = no_result_variable; local = record { up = Poly; low = Poly } }

-- the parts of a node or a gap of which nothing was read
abbrev pub no_draft : Draft
no_draft = record {
  rule = 0;
  set = [];
  den = 0;
  numbers = [];
  integers = [];
  forms = [];
  moves = [];
  form = no_form;
  side_bound = Poly;
  up = Poly;
  result_variable = no_result_variable;
  members = [];
  by = NeverCost;
  uses = [];
  shut = [];
  points = [];
  gap_moves = [];
  floor = no_point;
}

-- the state in which nothing was read
abbrev pub begun : State
begun = record {
  coming = next.Nothing;
  priced = false;
  paid = false;
  in_gap = false;
  lemmas = [];
  gaps = [];
  levels = 0;
  node = Start;
  used = [];
  outer = Whole;
  draft = no_draft;
  number = 0;
  negative = false;
  symbol = 0;
  pieces = [];
  bound = Constant 0;
}

-- numbers as their types hold them, capped; the numbers that are read are far below
abbrev pub in_32 : ℕ → ℕ
in_32 n = min n (2 ^ 32 - 1)

abbrev pub in_64 : ℕ → ℕ
in_64 n = min n (2 ^ 64 - 1)

-- a number with its sign
abbrev pub signed : Bool → ℕ → ℤ
signed negative n = if negative then neg_ℤ (pos (min n (2 ^ 63 - 1))) else pos (min n (2 ^ 63 - 1))

-- the last of some numbers, or 0, and those before it
abbrev pub last_of : List ℤ → ℤ
last_of [] = pos 0
last_of (x ∷ []) = x
last_of (x ∷ y ∷ xs) = last_of (y ∷ xs)

abbrev pub before_last : List ℤ → List ℤ
before_last [] = []
before_last (x ∷ []) = []
before_last (x ∷ y ∷ xs) = x ∷ before_last (y ∷ xs)

-- numbers as a form, its constant last; and as a scaled point, its denominator last
abbrev pub form_in : List ℤ → Form
form_in xs = record { coefs = before_last xs; constant = last_of xs }

abbrev pub point_in : List ℤ → ScaledPoint
point_in xs = record { parts = before_last xs; den = nat_abs (last_of xs) }

-- the first of a list, or another element if it is empty
abbrev pub first_or : {X : Type 0} → X → List X → X
first_or d [] = d
first_or d (x ∷ xs) = x

-- a place with its local bound, of which the lower side bound was read last
abbrev pub member_in : Draft → Member
member_in d = record { result_variable = d.result_variable; local = record { up = d.up; low = d.side_bound } }

-- the parts after an action on the numbers of a node or a gap, given the last number, its sign and the last symbol;
-- numbers that are used are removed
abbrev pub numbered : ℕ → Bool → ℕ → Action → Draft → Draft
numbered n negative symbol action.RuleRead d = record d { rule = in_32 n }
numbered n negative symbol action.RuleListed d = record d { set = d.set ++ in_32 n ∷ [] }
numbered n negative symbol action.NumberRead d = record d { den = in_64 n }
numbered n negative symbol action.ListBegins d = record d { numbers = []; integers = [] }
numbered n negative symbol action.Listed d = record d { numbers = d.numbers ++ in_64 n ∷ [] }
numbered n negative symbol action.IntegerRead d = record d { integers = d.integers ++ signed negative n ∷ [] }
numbered n negative symbol action.FormRead d =
    record d { forms = d.forms ++ record { symbol = symbol; form = form_in d.integers } ∷ []; integers = [] }
numbered n negative symbol action.MoveRead d = record d { moves = d.moves ++ d.numbers ∷ []; numbers = [] }
numbered n negative symbol action.ResultVariableRead d = record d { result_variable = record { rule = d.rule; place = in_32 n } }
numbered n negative symbol a d = d

-- the parts after an action on side bounds, on how a cost is shown or on scaled points
abbrev pub shaped : Action → Draft → Draft
shaped action.UpRead d = record d { up = d.side_bound; side_bound = Poly }
shaped action.LowRead d = record d { members = d.members ++ member_in d ∷ []; up = Poly; side_bound = Poly }
shaped action.PolyRead d = record d { side_bound = Poly }
shaped action.SideBoundFormRead d = record d { form = form_in d.integers; integers = [] }
shaped action.SideBoundRead d = record d { side_bound = Linear d.den d.form d.numbers; form = no_form; numbers = [] }
shaped action.ByEmptyRead d = record d { by = EmptyCost d.numbers; numbers = [] }
shaped action.ByNeverRead d = record d { by = NeverCost }
shaped action.BySideBoundRead d = record d { by = SideBoundCost d.side_bound; side_bound = Poly }
shaped action.PointRead d = record d { points = d.points ++ point_in d.integers ∷ []; integers = [] }
shaped action.GapMovesRead d = record d { gap_moves = d.points; points = [] }
shaped action.GapFloorRead d = record d { floor = first_or no_point d.points; points = [] }
shaped a d = d

-- the parts of a node or a gap after an action
abbrev pub drafted : ℕ → Bool → ℕ → Action → Draft → Draft
drafted n negative symbol a d = shaped a (numbered n negative symbol a d)

-- whether a node was read with this action
abbrev pub ends_node : Action → Bool
ends_node action.CiteRead = true
ends_node action.StartRead = true
ends_node action.EmptyRead = true
ends_node action.UnreachedRead = true
ends_node action.NeverRead = true
ends_node action.RankRead = true
ends_node action.SpreadRead = true
ends_node action.CycleRead = true
ends_node action.WeakenRead = true
ends_node action.CostRead = true
ends_node a = false

-- the ranking node of these parts
abbrev pub rank_in : Draft → RankNode
rank_in d = record {
  rule = d.rule;
  set = d.set;
  den = d.den;
  forms = d.forms;
  moves = d.moves;
  floor = d.numbers;
}

-- the node that was read, from its parts, and the node and the bound inside it that were read last
abbrev pub node_in : Action → ℕ → Draft → Proof → Bound → Proof
node_in action.CiteRead n d child b = Cite (in_32 n)
node_in action.EmptyRead n d child b = Empty d.rule d.numbers
node_in action.UnreachedRead n d child b = Unreached d.rule (uses_of d.uses)
node_in action.NeverRead n d child b = Never child
node_in action.RankRead n d child b = Rank (rank_in d) (uses_of d.uses)
node_in action.SpreadRead n d child b = Spread (first_or no_member d.members) (uses_of d.uses)
node_in action.CycleRead n d child b = Cycle d.members (uses_of d.uses)
node_in action.WeakenRead n d child b = Weaken child b
node_in action.CostRead n d child b = CostBound (record { rule = d.rule; by = d.by }) (uses_of d.uses)
node_in a n d child b = Start

-- the gap of these parts
abbrev pub gap_read : Draft → Gap
gap_read d = record {
  rule = d.rule;
  set = d.set;
  shut = d.shut;
  moves = d.gap_moves;
  floor = d.floor;
  kept = d.points;
}

-- the state after an action in which the parts of a node were taken, if the action ends one
abbrev pub node_ended : Action → State → State
node_ended a s =
    if ends_node a then record s {
      node = node_in a s.number s.draft s.node s.bound;
      levels = s.levels - 1;
      draft = no_draft;
      bound = Constant 0;
    }
    else s

-- the state after the end of premises: they are those of the node around them
abbrev pub uses_read : Outer → State → State
uses_read Whole s = s
uses_read (Inside d before outer) s =
    record s { draft = record d { uses = s.used }; used = before; outer = outer }

-- the meaning of the next piece after an action
abbrev pub announced : Action → Next → Next
announced action.NodeBegins coming = next.Node
announced action.LemmaComes coming = next.Lemma
announced action.RuleComes coming = next.Rule
announced action.PlaceComes coming = next.Place
announced action.NumberComes coming = next.Number
announced action.IntegerComes coming = next.Number
announced action.NameComes coming = next.Symbol
announced a coming = coming

-- the state after an action on lines, levels and premises; those that are used are removed
abbrev pub arranged : Action → State → State
arranged action.SecondVersion s = record s { priced = true }
arranged action.LemmaRead s = record s { lemmas = s.lemmas ++ s.node ∷ []; node = Start }
arranged action.GapRead s = record s { gaps = s.gaps ++ gap_read s.draft ∷ []; in_gap = false; draft = no_draft }
arranged action.NodeBegins s = record s { levels = in_64 (s.levels + 1); draft = no_draft }
arranged action.CostRead s = record s { paid = true }
arranged action.UsesBegin s = record s { outer = Inside s.draft s.used s.outer; used = []; draft = no_draft }
arranged action.UsedRead s = record s { used = s.used ++ s.node ∷ []; node = Start }
arranged action.UsesRead s = uses_read s.outer s
arranged action.IntegerComes s = record s { negative = false }
arranged action.GapBegins s = record s { in_gap = true; draft = no_draft }
arranged a s = s

-- the state after an action: a node that was read takes its parts; lines, levels and premises change, then the parts,
-- and then the meaning of the next piece
abbrev pub acted : Action → State → State
acted a s =
    let t = arranged a (node_ended a s) in
    record t { draft = drafted s.number s.negative s.symbol a t.draft; coming = announced a s.coming }

-- the state after the action of a mark, if it has one
abbrev pub done_by : Option Action → State → State
done_by None s = s
done_by (Some a) s = acted a s

abbrev pub done : ℕ → State → State
done m s = done_by (slice_get ACTIONS m) s
