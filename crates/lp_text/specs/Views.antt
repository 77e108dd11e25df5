-- The types of the code as plain data, and which results are right.
use Rattle.std.specs.Prelude.{◌≡◌, ℕ, List, map, Result, MatchResult, Option, Some, None, IfSome}
use Rattle.text_grammar.specs.text_core.Readers.{Fault}
use Rattle.text_grammar.specs.Results.{IsRight, Yields}
use Rattle.lp_builder.specs.simplex_core.declared.problem.Problem.{Problem}
use Rattle.lp_text.specs.declared.written.WrittenLp.{WrittenLp}
use Rattle.lp_text.specs.declared.written.WrittenRow.{WrittenRow}
use Rattle.lp_text.specs.declared.text.State as code
use Rattle.lp_text.specs.declared.kind.LpKind.{LpKind}
use Rattle.lp_text.specs.declared.kind.LpKind.TheVariants as kind
use Rattle.lp_text.specs.declared.error.LpTextError.{LpTextError}
use Rattle.lp_text.specs.declared.error.LpTextError.TheVariants.{Syntax, NumberTooLarge, Limit, Memory}
use Rattle.lp_text.specs.Lps.{Row, Lp}
use Rattle.lp_text.specs.Texts.{State, lps}
use Rattle.lp_text.specs.Spelled.{IsTextWithin}
use Rattle.lp_text.specs.Decided.{IsFirstFault}
use Rattle.lp_text.specs.Problems.{IsProblemOf}

-- a row as plain data
abbrev pub row_of : WrittenRow → Row
row_of r = record { numbers = r.numbers.items; right = r.right }

-- a linear program as plain data
abbrev pub lp_of : WrittenLp → Lp
lp_of p = record {
  columns = p.columns;
  first = p.first.items;
  second = p.second.items;
  rows = map row_of p.rows.items;
}

-- The parser state as plain data.
abbrev pub own_of : code.State → State
own_of s = record { lp = lp_of s.lp; section = s.section; numbers = s.numbers.items }

-- the refusal that an error reports; running out of memory is none
abbrev pub refusal_in : LpTextError → Option (Fault LpKind)
refusal_in (Syntax at) = Some (record { kind = kind.Syntax; at = at })
refusal_in (NumberTooLarge at) = Some (record { kind = kind.NumberTooLarge; at = at })
refusal_in (Limit at) = Some (record { kind = kind.Limit; at = at })
refusal_in Memory = None

-- a result is right: the linear program within the limits whose text the bytes are, or exactly their first fault, or
-- memory ran out
abbrev pub AnswersWritten : List ℕ → Result WrittenLp LpTextError → Type 0
AnswersWritten bytes result = IsRight lp_of refusal_in lps (IsTextWithin bytes) bytes result

-- the result is this linear program, unless memory ran out
abbrev pub GivesBack : Lp → Result WrittenLp LpTextError → Type 0
GivesBack p result = Yields lp_of refusal_in p result

-- the error is the first fault of the bytes, or memory ran out
abbrev pub IsRefusedAs : List ℕ → LpTextError → Type 0
IsRefusedAs bytes e = IfSome (refusal_in e) (IsFirstFault bytes)

-- a result is the problem of the linear program within the limits whose text the bytes are, or exactly their first
-- fault, or memory ran out
abbrev pub Answers : List ℕ → Result Problem LpTextError → Type 0
Answers bytes result =
    MatchResult result (λ q. (p : Lp) × IsTextWithin bytes p × IsProblemOf p q) (IsRefusedAs bytes)

-- the result is the problem of this linear program, unless memory ran out
abbrev pub GivesProblem : Lp → Result Problem LpTextError → Type 0
GivesProblem p result = MatchResult result (IsProblemOf p) (λ e. refusal_in e ≡ None)
