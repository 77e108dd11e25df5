-- The outcomes of small files.
use Rattle.std.proofs.Common.{◌≡◌, ℕ, List, [], ◌∷◌, None, refl, subst, inl, inr, lit<}
use Rattle.std.specs.Prelude.{codes}
use Rattle.text_grammar.specs.text_core.Reading.{Answer, Parsed, Refused, Answers, answer}
use Rattle.text_grammar.specs.text_core.Readers.{Fault}
use Rattle.text_grammar.specs.Texts.{reader, IsLawful}
use Rattle.text_grammar.proofs.text_core.FirstFaults.{answer_is}
use Rattle.text_grammar.proofs.ReaderLaws.{reader_laws}
use Rattle.section_checks.specs.Faults.{WrongStart}
use Rattle.refinement_check.proofs.section_decide.Deciding.{faults_are_computed}
use Rattle.cert_text.specs.cert_lexer.declared.kind.ProofKind.TheVariants.{Syntax, BadReference}
use Rattle.cert_text.proofs.Lawful as plain_laws
use Rattle.cert_text.specs.Worked.{counting}
use Rattle.section_text.specs.declared.kind.SectionKind.TheVariants as section_kinds
use Rattle.section_text.proofs.Lawful as section_laws
use Rattle.potential_text.specs.declared.kind.LineKind.TheVariants as line_kinds
use Rattle.potential_text.specs.declared.kind.Part.TheVariants.{Lemmas, Claims}
use Rattle.potential_text.specs.Reading.{lemmas_in, claims_in}
use Rattle.potential_text.specs.SymbolNames.{symbol_names}
use Rattle.potential_text.proofs.LawfulLines as line_laws
use Rattle.proof_parts.specs.Parts.{Parts}
use Rattle.refined_text.specs.Outcomes.{FirstFault, AtSection, Gives, Refuses, PartText, TextReads, text_refusal}
use Rattle.refined_text.specs.Parts.{section_text, plain_text, lemma_text, claim_text}
use Rattle.refined_text.specs.Files.{FileReads}
use Rattle.refined_text.specs.Worked.{OutcomesAreWorkedOut, nothing, other_start, refused}

-- what a text is answered with is what reading gives
given : {P T K : Type 0} (part : PartText P T K) → IsLawful part.grammar → (t : T)
    → answer (reader part.grammar) part.size part.tokens ≡ Parsed t → TextReads part (Gives t)
given {P} {T} {K} part lawful t e =
    subst (λ (a : Answer T K). Answers (reader part.grammar) part.size part.tokens a) e
    (answer_is (reader part.grammar) (reader_laws part.grammar lawful) part.size part.tokens)

-- and why it is refused is why the file is
refused_for : {P T K : Type 0} (part : PartText P T K) → IsLawful part.grammar → (x : Fault K)
    → answer (reader part.grammar) part.size part.tokens ≡ Refused x
    → TextReads part (Refuses (text_refusal part.kind_of part.begins x))
refused_for {P} {T} {K} part lawful x e =
    let first = subst (λ (a : Answer T K). Answers (reader part.grammar) part.size part.tokens a) e
    (answer_is (reader part.grammar) (reader_laws part.grammar lawful) part.size part.tokens) in
    (x, first, refl)

-- parts without a section and without lemmas, of a plain part and claims
abbrev parts_with : List ℕ → List ℕ → Parts
parts_with plain claims = record { section = []; plain = plain; signed = []; claims = claims }

-- parts of a section, and a plain part that is none
abbrev parts_behind : List ℕ → Parts
parts_behind section = record { section = section; plain = codes "lemma\n"; signed = []; claims = [] }

-- an empty plain part
abbrev empty_plain : List ℕ
empty_plain = codes "koat-proof 1\nend\n"

plain_given : (claims : List ℕ) → TextReads (plain_text counting (parts_with empty_plain claims))
    (Gives (nothing.plain))
plain_given claims = given (plain_text counting (parts_with empty_plain claims)) (plain_laws.lawful counting)
    nothing.plain refl

lemmas_given : (plain claims : List ℕ) → TextReads (lemma_text counting (parts_with plain claims)) (Gives [])
lemmas_given plain claims =
    given (lemma_text counting (parts_with plain claims))
    (line_laws.lawful lemmas_in Lemmas (symbol_names counting) []) [] refl

empty : FileReads counting (codes "koat-proof 3\nkoat-proof 1\nend\n") (Gives nothing)
empty = (
  parts_with empty_plain [],
  record { behind = empty_plain; begins = refl; parts_are = refl },
  (
    None,
    refl,
    (
      nothing.plain,
      plain_given [],
      (
        [],
        lemmas_given empty_plain [],
        (
          [],
          given (claim_text (parts_with empty_plain [])) (line_laws.lawful claims_in Claims [] []) [] refl,
          refl,
        ),
      ),
    ),
  ),
)

no_plain : FileReads counting (codes "koat-proof 3\n") (refused Syntax 13)
no_plain =
    inr (
      parts_with [] [],
      record { behind = []; begins = refl; parts_are = refl },
      inr (
        None,
        refl,
        inl
            (refused_for (plain_text counting (parts_with [] [])) (plain_laws.lawful counting)
            (record { kind = Syntax; at = 0 }) refl),
      ),
    )

no_lemma : FileReads counting (codes "koat-proof 3\nkoat-proof 1\nlemma cite 1\nend\n") (refused BadReference 37)
no_lemma =
    let plain = codes "koat-proof 1\nlemma cite 1\nend\n" in
    inr (
      parts_with plain [],
      record { behind = plain; begins = refl; parts_are = refl },
      inr (
        None,
        refl,
        inl
            (refused_for (plain_text counting (parts_with plain [])) (plain_laws.lawful counting)
            (record { kind = BadReference; at = 24 }) refl),
      ),
    )

no_claim : FileReads counting (codes "koat-proof 3\nkoat-proof 1\nend\nclaim x") (refused Syntax 36)
no_claim =
    let claims = codes "claim x" in
    inr (
      parts_with empty_plain claims,
      record { behind = codes "koat-proof 1\nend\nclaim x"; begins = refl; parts_are = refl },
      inr (
        None,
        refl,
        inr (
          nothing.plain,
          plain_given claims,
          inr (
            [],
            lemmas_given empty_plain claims,
            inl
                (refused_for (claim_text (parts_with empty_plain claims)) (line_laws.lawful claims_in Claims [] claims)
                (record { kind = line_kinds.Syntax; at = 6 }) refl),
          ),
        ),
      ),
    )

no_symbol : FileReads counting (codes "koat-proof 3\ncopy x of y facts []\nlemma\n") (refused BadReference 23)
no_symbol =
    let section = codes "copy x of y facts []\n" in
    inr (
      parts_behind section,
      record { behind = codes "copy x of y facts []\nlemma\n"; begins = refl; parts_are = refl },
      inl
          (inl
          (refused_for (section_text counting section) (section_laws.lawful counting section)
          (record { kind = section_kinds.BadReference; at = 10 }) refl)),
    )

no_start : FileReads counting (codes "koat-proof 3\ncopy x of l1 facts []\nlemma\n")
    (Refuses (AtSection other_start (FirstFault WrongStart)))
no_start =
    let section = codes "copy x of l1 facts []\n" in
    inr (
      parts_behind section,
      record { behind = codes "copy x of l1 facts []\nlemma\n"; begins = refl; parts_are = refl },
      inl
          (inr (
            other_start,
            given (section_text counting section) (section_laws.lawful counting section) other_start refl,
            (
              refl,
              (
                record { names = ((refl, refl), tt); distinct = (refl, tt) },
                (faults_are_computed.some counting other_start WrongStart).0 refl,
              ),
            ),
          )),
    )

pub worked : OutcomesAreWorkedOut
worked = record {
  blank = λ p. inl (lit< tt, refl);
  short = λ p. inl (lit< tt, refl);
  empty = empty;
  no_plain = no_plain;
  no_lemma = no_lemma;
  no_claim = no_claim;
  no_symbol = no_symbol;
  no_start = no_start;
  behind = refl;
  first = refl;
  greatest = refl;
}
