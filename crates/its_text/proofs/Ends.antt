-- If a text can end, its tokens are those of the sections that have been read.
use Rattle.std.specs.Prelude.{◌≡◌, List, [], ◌∷◌, Option, Some, None, ⊤, refl}
use Rattle.std.proofs.Common.{◌∙◌, ap, subst}
use Rattle.expr_text.specs.text_core.Readers.{onto, next, reached}
use Rattle.its_text.specs.Pieces.{Piece}
use Rattle.its_text.specs.Written.{Section}
use Rattle.its_text.specs.GrammarStates.{GrammarState, pieces_read}
use Rattle.its_text.specs.Steps.{step, finish}
use Rattle.its_text.specs.Grammar.{Writes, programs}
use Rattle.its_text.proofs.EveryStep.{ended}
use Rattle.its_text.proofs.StepLaws.{Leads, step_leads}
use Rattle.its_text.proofs.Shapes.{HasRightForm, Keeps, step_keeps}

-- A state that tokens lead to is written as these tokens, and its targets have the right form.
abbrev pub Known : List Piece → Option GrammarState → Type 0
Known done None = ⊤
Known done (Some f) = (pieces_read f ≡ done) × HasRightForm f

step_known : (done : List Piece) (f : GrammarState) (p : Piece) (o : Option GrammarState) → pieces_read f ≡ done → Leads (pieces_read f) p o → Keeps o → Known (p ∷ done) o
step_known done f p None e l k = tt
step_known done f p (Some g) e l k = (l ∙ ap (λ before. p ∷ before) e, k)

next_known : (done : List Piece) (p : Piece) (o : Option GrammarState) → Known done o → Known (p ∷ done) (next step o p)
next_known done p None h = tt
next_known done p (Some f) h = step_known done f p (step f p) h.0 (step_leads f p) (step_keeps f p h.1)

reached_known : (done : List Piece) → Known done (reached programs done)
reached_known [] = (refl, tt)
reached_known (p ∷ done) = next_known done p (reached programs done) (reached_known done)

-- a state that pieces lead to is written as they are
pub state_known : (done : List Piece) (f : GrammarState) → reached programs done ≡ Some f → (pieces_read f ≡ done) × HasRightForm f
state_known done f at = subst (λ o. Known done o) at (reached_known done)

-- the pieces of a text that can end are those of its sections
pub ends : (done : List Piece) (f : GrammarState) (ss : List Section) → reached programs done ≡ Some f → finish f ≡ Some ss → Writes ss (onto done [])
ends done f ss at same = record {
  are = subst HasRightForm (ended f ss same) (state_known done f at).1;
  pieces = ap (λ behind. onto behind []) (subst (λ g. pieces_read g ≡ done) (ended f ss same) (state_known done f at).0);
}
