-- What a lemma or a claim consists of, as far as it was read.
use Rattle.std.specs.Prelude.{ℕ, Bool, false, if◌then◌else◌, List, [], ◌∷◌, ◌++◌, Option, Some, None}
use Rattle.poly_terms.specs.model.Polynomials.{Polynomial}
use Rattle.signed_bounds.specs.Bounds.{Signed}
use Rattle.potential_types.specs.potential_nodes.Certificates.{Summand}
use Rattle.potential_types.specs.potential_nodes.Tables.{SymbolFunction, Move, PotentialTable}
use Rattle.potential_types.specs.potential_nodes.potentials.Sums.{Charge}
use Rattle.potential_types.specs.potential_nodes.Falls.{Payment}
use Rattle.potential_types.specs.potential_nodes.PhaseNodes.{PhaseMove, CountedRule}
use Rattle.potential_types.specs.potential_nodes.Combinations as combinations
use Rattle.potential_types.specs.potential_nodes.SignedNodes.{SignedNode, Fall, Peak, Row, Combined, Sized, InPhases}
use Rattle.claim_types.specs.program_claims.Claims.{Claim, Support, ByOne, ByEach, OnTime, OnCost, OnTotal, OnAbove, OnBelow}
use Rattle.potential_text.specs.declared.action.LemmaKind.{LemmaKind}
use Rattle.potential_text.specs.declared.action.LemmaKind.TheVariants as lemmas
use Rattle.potential_text.specs.declared.action.ClaimKind.{ClaimKind}
use Rattle.potential_text.specs.declared.action.ClaimKind.TheVariants as claims
use Rattle.potential_text.specs.declared.numbers.Numbers.{Numbers}

-- the functions that were read last, and those before them; of the move or the payment that is being read whether it
-- keeps the function, its gain or its amount, and the fact that it cites; the moves, payments, charges, moves of two
-- phases and counted rules that were read; the polynomial and the certificate of the lemma; a list of facts, and whether
-- a claim cites one for each charge
pub record Items : Type 0 where
  pub functions : List SymbolFunction
  pub firsts : List SymbolFunction
  pub keeps : Bool
  pub gain : Polynomial
  pub cited : Option ℕ
  pub moves : List Move
  pub payments : List Payment
  pub charges : List Charge
  pub phase_moves : List PhaseMove
  pub counted : List CountedRule
  pub form : Polynomial
  pub floor : List Summand
  pub facts : List ℕ
  pub by_each : Bool

abbrev pub no_items : Items
no_items = record {
  functions = [];
  firsts = [];
  keeps = false;
  gain = [];
  cited = None;
  moves = [];
  payments = [];
  charges = [];
  phase_moves = [];
  counted = [];
  form = [];
  floor = [];
  facts = [];
  by_each = false;
}

-- a fact of a list, and the function of a symbol was read
abbrev pub with_fact : ℕ → Items → Items
with_fact n i = record i { facts = i.facts ++ n ∷ [] }

abbrev pub with_function : ℕ → Polynomial → Items → Items
with_function symbol form i =
    record i { functions = i.functions ++ record { symbol = symbol; form = form } ∷ [] }

-- the first functions of two phases were read
abbrev pub functions_ended : Items → Items
functions_ended i = record i { functions = []; firsts = i.functions }

-- of a move whether it keeps the function, its gain, and the fact that it cites
abbrev pub with_keeps : Bool → Items → Items
with_keeps keeps i = record i { keeps = keeps }

abbrev pub with_gain : Polynomial → Items → Items
with_gain gain i = record i { gain = gain }

abbrev pub with_cited : Option ℕ → Items → Items
with_cited cited i = record i { cited = cited }

-- the polynomial and the certificate of the lemma, and whether a claim cites one fact for each charge
abbrev pub with_form : Polynomial → Items → Items
with_form form i = record i { form = form }

abbrev pub with_floor : List Summand → Items → Items
with_floor floor i = record i { floor = floor }

abbrev pub with_by_each : Bool → Items → Items
with_by_each by_each i = record i { by_each = by_each }

-- a move of a rule ends, with its certificate
abbrev pub with_move : ℕ → List Summand → Items → Items
with_move rule certificate i = record i {
  gain = [];
  cited = None;
  moves = i.moves ++ record {
    rule = rule;
    keeps = i.keeps;
    gain = i.gain;
    cited = i.cited;
    certificate = certificate;
  } ∷ [];
}

-- a payment of a rule ends, with the certificates that it is borne and that it isn't negative
abbrev pub with_payment : ℕ → List Summand → List Summand → Items → Items
with_payment rule floor positive i = record i {
  gain = [];
  payments = i.payments ++ record { rule = rule; amount = i.gain; floor = floor; positive = positive } ∷ [];
}

-- a charge, a move of two phases, and a counted rule was read
abbrev pub with_charge : ℕ → Polynomial → Items → Items
with_charge rule form i = record i { charges = i.charges ++ record { rule = rule; form = form } ∷ [] }

abbrev pub with_phase_move : ℕ → List Summand → List Summand → Items → Items
with_phase_move rule first second i =
    record i { phase_moves = i.phase_moves ++ record { rule = rule; first = first; second = second } ∷ [] }

abbrev pub with_counted : ℕ → List Summand → Items → Items
with_counted rule floor i = record i { counted = i.counted ++ record { rule = rule; floor = floor } ∷ [] }

-- the potential that was read
abbrev pub made_table : Numbers → Items → PotentialTable
made_table s i = record { functions = i.functions; den = s.den; moves = i.moves }

-- the node of a lemma of a kind, of what was read
abbrev pub made_node : LemmaKind → Numbers → Items → SignedNode
made_node lemmas.Fall s i = Fall (record { potential = made_table s i; payments = i.payments })
made_node lemmas.Peak s i =
    Peak (record { potential = made_table s i; rule = s.rule; form = i.form; floor = i.floor })
made_node lemmas.Row s i =
    Row (record { rule = s.rule; form = i.form; number = s.amount; certificate = i.floor })
made_node lemmas.Times s i = Combined (combinations.Times s.rule i.form s.first s.second)
made_node lemmas.Least s i = Combined (combinations.Least s.first s.second)
made_node lemmas.Add s i = Combined (combinations.Add s.first s.second)
made_node lemmas.Among s i = Combined (combinations.Among i.charges s.first)
made_node lemmas.Sized s i = Sized (record { rule = s.rule; form = i.form; cited = i.facts })
made_node lemmas.Phases s i = InPhases (record {
  firsts = i.firsts;
  seconds = i.functions;
  den = s.den;
  moves = i.phase_moves;
  counted = i.counted;
})

-- what a claim on a sum cites: one fact, or one for each charge and a bound
abbrev pub made_support : Bool → ℕ → List ℕ → Signed → Support
made_support by_each fact facts bound = if by_each then ByEach facts bound else ByOne fact

abbrev pub cited_by : Numbers → Items → Signed → Support
cited_by s i bound = made_support i.by_each s.first i.facts bound

-- the claim of a kind, of what was read
abbrev pub made_claim : ClaimKind → Numbers → Items → Signed → Claim
made_claim claims.Time s i bound = OnTime s.rule (cited_by s i bound)
made_claim claims.Cost s i bound = OnCost s.rule (cited_by s i bound)
made_claim claims.Total s i bound = OnTotal (cited_by s i bound)
made_claim claims.Above s i bound = OnAbove s.rule s.place i.facts bound
made_claim claims.Below s i bound = OnBelow s.rule s.place i.facts bound
