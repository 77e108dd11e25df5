-- Parts of the worked lemmas: programs, moves, payments, lemmas of each kind, and the results of checking a list.
use Rattle.std.specs.Prelude.{ℕ, zero, suc, Bool, true, false, List, [], ◌∷◌, ℤ, Option, Some, None}
use Rattle.guard_prep.specs.model.Terms.{Term}
use Rattle.guard_prep.specs.model.Programs.{Name, Symbol, Atom, Rule, Program}
use Rattle.potential_nodes.specs.model.Polynomials.{Monomial, Polynomial}
use Rattle.potential_nodes.specs.signed_bounds.Bounds.{Signed}
use Rattle.potential_nodes.specs.signed_bounds.Safe.{expands_to_squares}
use Rattle.potential_nodes.specs.Certificates.{Summand}
use Rattle.potential_nodes.specs.Facts.{SignedFact, one_form}
use Rattle.potential_nodes.specs.Checks.{Reason}
use Rattle.potential_nodes.specs.Tables.{SymbolFunction, Move}
use Rattle.potential_nodes.specs.Falls.{Payment}
use Rattle.potential_nodes.specs.Combinations.{Combination}
use Rattle.potential_nodes.specs.SignedNodes.{SignedLemma, Fall, Peak, Combined}
use Rattle.potential_nodes.specs.Acceptance.{Refusal, facts_after, first_refusal}
use Rattle.potential_ground.specs.RowTerms.{ground_of}

-- a number times the product of two variables
abbrev pub product : ℤ → ℕ → ℕ → Monomial
product z i j = record { coef = z; vars = i ∷ j ∷ [] }

-- the first n of the names A, B and C
abbrev pub names_of : ℕ → List Name
names_of (suc (suc zero)) = (65 ∷ []) ∷ (66 ∷ []) ∷ []
names_of n = (65 ∷ []) ∷ (66 ∷ []) ∷ (67 ∷ []) ∷ []

-- a rule over n places without free variables, from one symbol to another
abbrev pub rule : ℕ → ℕ → ℕ → List Term → List Atom → Rule
rule places source target updates guard = record {
  source = source;
  target = target;
  left = places;
  free = 0;
  names = names_of places;
  updates = updates;
  guard = guard;
  cost = None;
}

-- a symbol l0, l1, .. with n places
abbrev pub symbol : ℕ → ℕ → Symbol
symbol places digit = record { name = 108 ∷ digit ∷ []; arity = places }

-- a program over two symbols, and one over three, which starts at the first
abbrev pub over_two_symbols : ℕ → List Rule → Program
over_two_symbols places rules = record {
  symbols = symbol places 48 ∷ symbol places 49 ∷ [];
  start = 0;
  start_names = names_of places;
  rules = rules;
}

abbrev pub over_three_symbols : ℕ → List Rule → Program
over_three_symbols places rules = record {
  symbols = symbol places 48 ∷ symbol places 49 ∷ symbol places 50 ∷ [];
  start = 0;
  start_names = names_of places;
  rules = rules;
}

-- a symbol's function
abbrev pub function : ℕ → Polynomial → SymbolFunction
function s q = record { symbol = s; form = q }

-- moves: one that keeps the function without a gain, one with a certificate, one with a gain that a lemma bounds, one
-- that resets the function with a gain that a lemma bounds, and one that resets it without
abbrev pub keeps : ℕ → Move
keeps t = record { rule = t; keeps = true; gain = []; cited = None; certificate = [] }

abbrev pub keeps_by : ℕ → List Summand → Move
keeps_by t shown = record { rule = t; keeps = true; gain = []; cited = None; certificate = shown }

abbrev pub gains : ℕ → Polynomial → Option ℕ → Move
gains t gain cited = record { rule = t; keeps = true; gain = gain; cited = cited; certificate = [] }

abbrev pub resets : ℕ → Polynomial → ℕ → Move
resets t gain cited = record { rule = t; keeps = false; gain = gain; cited = Some cited; certificate = [] }

abbrev pub resets_by : ℕ → Polynomial → List Summand → Move
resets_by t gain shown = record { rule = t; keeps = false; gain = gain; cited = None; certificate = shown }

-- payments of 1, and of an amount
abbrev pub pays : ℕ → List Summand → Payment
pays t floor = record { rule = t; amount = one_form; floor = floor; positive = [] }

abbrev pub pays_amount : ℕ → Polynomial → List Summand → List Summand → Payment
pays_amount t amount floor positive = record { rule = t; amount = amount; floor = floor; positive = positive }

-- lemmas: a potential that pays, one that covers a form of a rule, and composed facts
abbrev pub falls : List SymbolFunction → ℕ → List Move → List Payment → Signed → SignedLemma
falls functions den moves payments b = record {
  node = Fall (record {
    potential = record { functions = functions; den = den; moves = moves };
    payments = payments;
  });
  bound = b;
}

abbrev pub peaks : List SymbolFunction → List Move → ℕ → Polynomial → Signed → SignedLemma
peaks functions moves rule form b = record {
  node = Peak (record {
    potential = record { functions = functions; den = 1; moves = moves };
    rule = rule;
    form = form;
    floor = [];
  });
  bound = b;
}

abbrev pub composes : Combination → Signed → SignedLemma
composes n b = record { node = Combined n; bound = b }

-- the first lemma of a list that is refused over the rows of a program; and the facts of all lemmas
abbrev pub refused_first : Program → List SignedLemma → Option Refusal
refused_first p lemmas = first_refusal (ground_of p expands_to_squares) [] 1 lemmas

abbrev pub stated : List SignedLemma → List SignedFact
stated lemmas = facts_after [] lemmas

-- a refusal at a lemma, for a reason
abbrev pub refused_at : ℕ → Reason → Option Refusal
refused_at n reason = Some (record { number = n; reason = reason })
