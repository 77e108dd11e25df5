-- The texts of a program's proof files are lawful.
use Rattle.std.proofs.Common.{◌≡◌, ℕ, ◌≤◌, Bool, true, false, cond, ◌||◌, Option, None, refl, arith}
use Rattle.std.specs.Prelude.{is_some}
use Rattle.its_model.specs.model.Programs.{Program}
use Rattle.text_grammar.specs.text_core.Faults.{Among}
use Rattle.text_grammar.specs.text_core.Readers.{Fault}
use Rattle.text_grammar.specs.Folds.{refusals, state}
use Rattle.text_grammar.specs.Texts.{IsLawful}
use Rattle.text_grammar.proofs.WorkedGrammars.{texts_read}
use Rattle.cert_lexer.specs.declared.kind.ProofKind.{ProofKind}
use Rattle.cert_lexer.specs.declared.kind.ProofKind.TheVariants.{Syntax, NumberTooLarge, TooDeep, BadReference, Limit}
use Rattle.cert_lexer.specs.Bounds.{number_of}
use Rattle.cert_text.specs.NumberFaults.{fault_of_piece, position_of}
use Rattle.cert_text.specs.Reading.{proof_fold, proofs_of}
use Rattle.cert_text.specs.WorkedFaults.{ProofTextsAreRead}
use Rattle.cert_lexer.proofs.ReadableGrammar.{readable}
use Rattle.cert_text.proofs.WorkedBreaks.{classed}

-- kinds with the same number are the same
differ : (a b : ProofKind) → number_of a ≡ number_of b → a ≡ b
differ Syntax Syntax h = refl
differ NumberTooLarge NumberTooLarge h = refl
differ TooDeep TooDeep h = refl
differ BadReference BadReference h = refl
differ Limit Limit h = refl
differ a b h = absurd (omega (arith, h))

-- the floor, whether there was a fault or not, is no further than the next token
floor_near : (v : Bool) (at : ℕ) → cond v at 0 ≤ at
floor_near true at = omega arith
floor_near false at = omega arith

-- after a refusal no fault is shown, and else none before the first byte
shown_behind : (v : Bool) (o : Option ProofKind) (at place : ℕ) (y : Fault ProofKind)
    → Among y (refusals (cond v None o) place) → cond v at 0 ≤ y.at
shown_behind true o at place y a = absurd a
shown_behind false o at place y a = omega arith

-- the floor is unchanged by a piece without a fault
floor_stays : (v : Bool) (at : ℕ) → cond v at 0 ≤ cond v at 0
floor_stays v at = omega arith

-- the floor rises to a fault's position
floor_rises : (v w : Bool) (at behind : ℕ) → at ≤ behind → cond v at 0 ≤ cond (v || w) behind 0
floor_rises true w at behind h = h
floor_rises false w at behind h = omega arith

-- the texts are lawful
pub lawful : (p : Program) → IsLawful (proofs_of p)
lawful p = record {
  readable = readable;
  classed = classed;
  differ = differ;
  floor_next = λ es at. floor_near (state (proof_fold p) es).broken at;
  floor_shown = λ es t y a. shown_behind (state (proof_fold p) es).broken
      (fault_of_piece p (state (proof_fold p) es).kept t.piece) t.at (position_of p (state (proof_fold p) es).kept t.piece t.at) y a;
  floor_did = λ es m at. floor_stays (state (proof_fold p) es).broken at;
  floor_read = λ es t at some behind. floor_rises (state (proof_fold p) es).broken
      (is_some (fault_of_piece p (state (proof_fold p) es).kept t.piece)) t.at at (omega (arith, some, behind));
}

-- the reader of proof files satisfies the laws of readers
pub proofs_read : ProofTextsAreRead
proofs_read = record { each = λ p. texts_read (proofs_of p) (lawful p) }
