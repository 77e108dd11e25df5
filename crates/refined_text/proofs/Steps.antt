-- What results of reading one part, and then the next, say.
use Rattle.std.proofs.Common.{◌≡◌, ◌≢◌, ℕ, List, [], ◌∷◌, Option, Some, None, refl, sym, subst, inl, inr}
use Rattle.std.specs.Prelude.{Result, Ok, Err, IfSome, option_map}
use Rattle.text_grammar.specs.text_core.Faults.{IsFirst}
use Rattle.text_grammar.specs.text_core.Readers.{Fault}
use Rattle.text_grammar.specs.Texts.{reader}
use Rattle.its_model.specs.model.Programs.{Program}
use Rattle.refined_programs.specs.Annotated.{Section}
use Rattle.refined_text.specs.declared.error.RefinedTextError.{RefinedTextError}
use Rattle.refined_text.specs.Outcomes.{Refusal, Outcome, Gives, Refuses, Then, PartText, text_refusal, TextReads}
use Rattle.refined_text.specs.Parts.{section_text, Accepts, SectionReads}
use Rattle.refined_text.specs.Results.{Says, refusal_in}

-- the refusal of a text, with its position in the file, is the outcome of reading
pub refused-says : {P T K : Type 0} (part : PartText P T K) (found : Option (Fault K)) (refusal : Option Refusal)
    → refusal ≡ option_map (text_refusal part.kind_of part.begins) found
    → IfSome found (IsFirst (reader part.grammar) part.size part.tokens)
    → IfSome refusal (λ r. TextReads part (Refuses r))
refused-says part None refusal e h = subst (λ (o : Option Refusal). IfSome o (λ r. TextReads part (Refuses r))) (sym e)
    tt
refused-says part (Some x) refusal e h =
    subst (λ (o : Option Refusal). IfSome o (λ r. TextReads part (Refuses r))) (sym e) (x, h, refl)

-- a refusal of what is read first is that of the whole
pub stops-says : {A B : Type 0} (First : Outcome A → Type 0) (Next : A → Outcome B → Type 0) (o : Option Refusal)
    → IfSome o (λ r. First (Refuses r)) → IfSome o (λ r. Then First Next (Refuses r))
stops-says First Next None h = tt
stops-says First Next (Some r) h = inl h

-- a refusal of what comes next is that of the whole, and so is what is read
pub next-refused : {A B : Type 0} (First : Outcome A → Type 0) (Next : A → Outcome B → Type 0) (a : A)
    (o : Option Refusal)
    → First (Gives a) → IfSome o (λ r. Next a (Refuses r)) → IfSome o (λ r. Then First Next (Refuses r))
next-refused First Next a None f h = tt
next-refused First Next a (Some r) f h = inr (a, f, h)

pub next-says : {A B Made : Type 0} (view : Made → B) (First : Outcome A → Type 0) (Next : A → Outcome B → Type 0)
    (a : A)
    (result : Result Made RefinedTextError) → First (Gives a) → Says view (Next a) result
    → Says view (Then First Next) result
next-says view First Next a (Ok made) f h = (a, f, h)
next-says view First Next a (Err error) f h = next-refused First Next a (refusal_in error) f h

-- where there are bytes the section is what they spell, if it is accepted
pub section-says : {Made : Type 0} (view : Made → Option Section) (p : Program) (bytes : List ℕ)
    (result : Result Made RefinedTextError) → bytes ≢ []
    → Says view (Then (TextReads (section_text p bytes)) (Accepts p)) result → Says view (SectionReads p bytes) result
section-says view p [] result some h = absurd (some refl)
section-says view p (b ∷ bytes) result some h = h
