-- In a valid program no exponent is over 8, so limiting exponents doesn't change it.
use Rattle.std.specs.Prelude.{◌≡◌, ℕ, ◌+◌, pos, List, [], ◌∷◌, map, Option, Some, None, option_map, Result, Ok, Err}
use Rattle.std.specs.Prelude.{IfOk, refl}
use Rattle.std.specs.List.{AllByRecursion}
use Rattle.std.proofs.Common.{sym, ap, subst}
use Rattle.model.specs.Programs as plain
use Rattle.model.specs.Programs.{Program, Relation, AtLeast, MoreThan, AtMost, LessThan, EqualTo}
use Rattle.model.specs.Terms.{Term, Literal, Subtraction}
use Rattle.text_core.specs.Reading.{Answer, Parsed, Refused}
use Rattle.poly_terms.specs.Faults.{first_fault}
use Rattle.its_model.specs.Valid.{IsValid, IsValidRule, IsValidTerm, IsValidAtom, IsValidCost, difference_of}
use Rattle.its_text.specs.expr_text.TermGrammarStates.{limited}
use Rattle.expr_reader.specs.GuardRepresentation.{limited_atom}
use Rattle.expr_reader.proofs.LimitedFaults.{limited_same}
use Rattle.its_model.specs.declared.program.Program as code
use Rattle.its_model.specs.Views.{program_of}
use Rattle.its_text.specs.Answers.{verdict}
use Rattle.its_text.specs.Kinds.{Kind}
use Rattle.its_text.proofs.ValidPrograms.{spelled_valid}
use Rattle.its_text.proofs.SpelledVerdicts.{verdict_spells}
use Rattle.its_reader.specs.Faults.{Says}
use Rattle.its_reader.specs.declared.error.ReadError.{ReadError}
use Rattle.its_reader.specs.Standing.{limited_rule}
use Rattle.its_reader.specs.Finishing.{limited_program}

-- the two terms of a difference
abbrev minuend : Term → Term
minuend (Subtraction d e) = d
minuend t = t

abbrev subtrahend : Term → Term
subtrahend (Subtraction d e) = e
subtrahend t = t

atom_same : (d e : Term) (r : Relation) → first_fault (difference_of d r e) ≡ None
    → plain.Compare (limited d) r (limited e) ≡ plain.Compare d r e
atom_same d e AtLeast h = let s = limited_same (Subtraction d e) h in
    λ i. plain.Compare (ap minuend s i) AtLeast (ap subtrahend s i)
atom_same d e MoreThan h = let s = ap minuend (limited_same (Subtraction (Subtraction d e) (Literal (pos 1))) h) in
    λ i. plain.Compare (ap minuend s i) MoreThan (ap subtrahend s i)
atom_same d e AtMost h = let s = limited_same (Subtraction e d) h in
    λ i. plain.Compare (ap subtrahend s i) AtMost (ap minuend s i)
atom_same d e LessThan h = let s = ap minuend (limited_same (Subtraction (Subtraction e d) (Literal (pos 1))) h) in
    λ i. plain.Compare (ap subtrahend s i) LessThan (ap minuend s i)
atom_same d e EqualTo h = let s = limited_same (Subtraction d e) h in
    λ i. plain.Compare (ap minuend s i) EqualTo (ap subtrahend s i)

updates_same : (n : ℕ) (ts : List Term) → AllByRecursion (IsValidTerm n) ts → map limited ts ≡ ts
updates_same n [] h = refl
updates_same n (t ∷ ts) h = λ i. limited_same t h.0.expands i ∷ updates_same n ts h.1 i

guard_same : (n : ℕ) (atoms : List plain.Atom) → AllByRecursion (IsValidAtom n) atoms → map limited_atom atoms ≡ atoms
guard_same n [] h = refl
guard_same n (plain.Always ∷ atoms) h = ap (λ more. plain.Always ∷ more) (guard_same n atoms h.1)
guard_same n (plain.Compare d r e ∷ atoms) h = λ i. atom_same d e r h.0.expands i ∷ guard_same n atoms h.1 i

cost_same : (n : ℕ) (cost : Option Term) → IsValidCost n cost → option_map limited cost ≡ cost
cost_same n None h = refl
cost_same n (Some c) h = ap Some (limited_same c h.expands)

rule_same : (p : Program) (r : plain.Rule) → IsValidRule p r → limited_rule r ≡ r
rule_same p r h = λ i. record r {
  updates = updates_same (r.left + r.free) r.updates h.updates i;
  guard = guard_same (r.left + r.free) r.guard h.guard i;
  cost = cost_same (r.left + r.free) r.cost h.cost i;
}

rules_same : (p : Program) (rs : List plain.Rule) → AllByRecursion (IsValidRule p) rs → map limited_rule rs ≡ rs
rules_same p [] h = refl
rules_same p (r ∷ rs) h = λ i. rule_same p r h.0 i ∷ rules_same p rs h.1 i

-- limiting the exponents of a valid program doesn't change it
pub valid_limited : (p : Program) → IsValid p → limited_program (Some p) ≡ Some p
valid_limited p v = λ i. Some (record p { rules = rules_same p p.rules v.rules i })

-- a program that a text denotes is valid
pub stands_valid : (bytes : List ℕ) (p : Program) → verdict bytes ≡ Parsed p → IsValid p
stands_valid bytes p h = spelled_valid bytes p (verdict_spells bytes p h)

-- limiting the exponents of a program that a text denotes doesn't change it
pub program_limited : (bytes : List ℕ) (p : Program) → verdict bytes ≡ Parsed p → limited_program (Some p) ≡ Some p
program_limited bytes p h = valid_limited p (stands_valid bytes p h)

-- a program that the code returns is valid
pub said_valid : (bytes : List ℕ) (result : Result code.Program ReadError) → Says (verdict bytes) result
    → IfOk result (λ p. IsValid (program_of p))
said_valid bytes (Ok q) h = go (verdict bytes) refl h
  where
    go : (a : Answer Program Kind) → verdict bytes ≡ a → Says a (Ok q) → IsValid (program_of q)
    go (Parsed p) e h = subst IsValid (sym h) (stands_valid bytes p e)
    go (Refused x) e h = absurd h
said_valid bytes (Err e) h = tt
