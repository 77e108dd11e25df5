-- Facts and their lines, worked out by hand.
use Rattle.std.specs.Prelude.{◌≡◌, ℕ, [], ◌∷◌, ℤ, pos, negsuc, Some, None, codes}
use Rattle.model.specs.Programs.{Program}
use Rattle.model.specs.Bounds.{Constant}
use Rattle.outcome.specs.Reports.{Timed, Costed}
use Rattle.location_facts.specs.declared.fact.LocFact.{LocFact}
use Rattle.facts_report.specs.FactTexts.{difference_text, location_line, location_lines, text_with_facts}

-- a fact
abbrev pub fact : ℕ → ℕ → ℕ → ℤ → LocFact
fact symbol plus minus least = record { symbol = symbol; plus = plus; minus = minus; least = least }

-- a program with the symbols l0, l1 and l2
abbrev pub three_symbols : Program
three_symbols = record {
  symbols = record { name = codes "l0"; arity = 2 } ∷ record { name = codes "l1"; arity = 2 }
      ∷ record { name = codes "l2"; arity = 1 } ∷ [];
  start = 0;
  start_names = codes "A" ∷ codes "B" ∷ [];
  rules = [];
}

-- a place alone and the opposite of one are printed as such, and a difference has both places; the sign of a number is
-- printed
pub record DifferencesAreWorkedOut : Type 0 where
  pub place : difference_text 2 0 ≡ codes "x2"
  pub opposite : difference_text 0 2 ≡ codes "-x2"
  pub difference : difference_text 1 2 ≡ codes "x1 - x2"
  pub reversed : difference_text 2 1 ≡ codes "x2 - x1"
  pub line : location_line (codes "l1") 1 2 (pos 0) ≡ codes "fact l1: x1 - x2 >= 0\n"
  pub negative : location_line (codes "l1") 0 2 (negsuc 0) ≡ codes "fact l1: -x2 >= -1\n"

-- of the facts that a value is at least -1, 0 and 1 only the last one is printed, even if it comes first; lines go by
-- symbol, by plus and then by minus, whatever the order of the facts; and the report follows them
pub record FactLinesAreWorkedOut : Type 0 where
  pub none : location_lines three_symbols [] ≡ []
  pub greatest : location_lines three_symbols (fact 1 2 0 (negsuc 0) ∷ fact 1 2 0 (pos 0) ∷ fact 1 2 0 (pos 1) ∷ [])
      ≡ codes "fact l1: x2 >= 1\n"
  pub greatest_first : location_lines three_symbols (fact 1 2 0 (pos 1) ∷ fact 1 2 0 (pos 0) ∷ [])
      ≡ codes "fact l1: x2 >= 1\n"
  pub ordered : location_lines three_symbols
      (fact 2 1 0 (pos 0) ∷ fact 1 2 0 (pos 1) ∷ fact 1 0 2 (negsuc 0) ∷ fact 1 1 2 (pos 0) ∷ fact 1 1 0 (pos 1) ∷ [])
      ≡ codes "fact l1: -x2 >= -1\nfact l1: x1 >= 1\nfact l1: x1 - x2 >= 0\nfact l1: x2 >= 1\nfact l2: x1 >= 0\n"
  pub whole : text_with_facts three_symbols (fact 1 2 0 (pos 1) ∷ [])
      (record { times = Timed (Constant 1) ∷ []; costs = None ∷ []; total = Some (Constant 1); sizes = [] ∷ [] })
      ≡ codes "fact l1: x2 >= 1\nbounded\ntime 1: 1\ntotal: 1\n"
  pub with_cost : text_with_facts three_symbols (fact 1 2 0 (pos 1) ∷ [])
      (record {
        times = Timed (Constant 1) ∷ [];
        costs = Some (Costed (Constant 5)) ∷ [];
        total = Some (Constant 5);
        sizes = [] ∷ [];
      })
      ≡ codes "fact l1: x2 >= 1\nbounded\ntime 1: 1\ncost 1: 5\ntotal: 5\n"

-- all worked values of facts and their lines
pub record FactTextsAreWorkedOut : Type 0 where
  pub differences : DifferencesAreWorkedOut
  pub lines : FactLinesAreWorkedOut
