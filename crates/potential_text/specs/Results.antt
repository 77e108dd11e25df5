-- What the results of reading lines say.
use Rattle.std.specs.Prelude.{ℕ, List, length, map, Result, Ok, Err, IfSome}
use Rattle.std.specs.Global.{Vec}
use Rattle.its_model.specs.model.Programs.{Name}
use Rattle.text_grammar.specs.text_core.Faults.{IsFirst}
use Rattle.text_grammar.specs.text_core.Reading.{IsTree}
use Rattle.text_grammar.specs.Texts.{reader}
use Rattle.potential_types.specs.declared.nodes.SignedLemma.{SignedLemma}
use Rattle.potential_types.specs.Views.{lemma_of}
use Rattle.claim_types.specs.declared.claim.Claim.{Claim}
use Rattle.claim_types.specs.Views.{claims_of}
use Rattle.potential_text.specs.declared.error.PotentialTextError.{PotentialTextError}
use Rattle.potential_text.specs.Lexing.{tokens}
use Rattle.potential_text.specs.Reading.{lemma_texts, claim_texts}
use Rattle.potential_text.specs.Refusals.{refusal_in}

-- the lemmas, where the text is written so, has no fault and is that of no other lemmas; or else exactly its first
-- fault, unless memory ran out
abbrev pub LemmaAnswers : List Name → List ℕ → Result (Vec SignedLemma) PotentialTextError → Type 0
LemmaAnswers names bytes (Ok lemmas) =
    IsTree (reader (lemma_texts names bytes)) (length bytes) (tokens bytes) (map lemma_of lemmas.items)
LemmaAnswers names bytes (Err error) =
    IfSome (refusal_in error) (IsFirst (reader (lemma_texts names bytes)) (length bytes) (tokens bytes))

-- the claims, likewise
abbrev pub ClaimAnswers : List ℕ → Result (Vec Claim) PotentialTextError → Type 0
ClaimAnswers bytes (Ok claims) =
    IsTree (reader (claim_texts bytes)) (length bytes) (tokens bytes) (claims_of claims.items)
ClaimAnswers bytes (Err error) =
    IfSome (refusal_in error) (IsFirst (reader (claim_texts bytes)) (length bytes) (tokens bytes))
