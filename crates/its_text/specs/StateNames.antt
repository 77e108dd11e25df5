-- The symbols and rules so far in a parser state, and the variables of the rule that is being read.
use Rattle.std.specs.Prelude.{List}
use Rattle.expr_text.specs.model.Programs.{Name, Symbol}
use Rattle.expr_text.specs.Trees.{Sum}
use Rattle.its_text.specs.Written.{LeftTerm}
use Rattle.its_text.specs.Numbering.{symbols_of, with_left, term_in, arrow_names, with_sums}
use Rattle.its_text.specs.GrammarStates.{Ruling, ArrowRead, Headed}

-- The symbols known after a left term, and so before a right one.
abbrev pub symbols_of_arrow : Ruling → LeftTerm → List Symbol
symbols_of_arrow r t = with_left (symbols_of r.rules) t

abbrev pub symbols_behind : ArrowRead → List Symbol
symbols_behind l = symbols_of_arrow l.ruling l.left

-- The variables after a left term, its arrow and arguments.
abbrev pub names_with : ArrowRead → List Sum → List Name
names_with l arguments = with_sums (arrow_names l.left l.cost) arguments

-- The variables after a target.
abbrev pub headed_names : Headed → List Name
headed_names h = names_with h.led (term_in h.target).arguments
