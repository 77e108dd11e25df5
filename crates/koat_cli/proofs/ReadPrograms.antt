-- The result of reading the text of a program, and how it is refused.
use Rattle.std.proofs.Common.{◌≡◌, ℕ, List, Option, Some, None, Ok, Err, IfSome, refl, sym, ◌∙◌, ap, subst}
use Rattle.model.specs.Programs.{Program}
use Rattle.its_model.specs.declared.program.Program as code
use Rattle.its_model.specs.text_core.Readers.{Fault}
use Rattle.its_model.specs.text_core.Reading.{Answer, Parsed, Refused}
use Rattle.its_model.specs.Views.{program_of}
use Rattle.its_reader.specs.Faults as reader
use Rattle.its_reader.specs.declared.error.ReadError.{ReadError}
use Rattle.its_reader.specs.declared.error.ReadError.TheVariants as errors
use Rattle.its_reader.specs.its_text.Kinds.{Kind}
use Rattle.its_reader.specs.its_text.Answers.{verdict}
use Rattle.its_reader.specs.its_text.Verdicts.{IsVerdict}
use Rattle.its_reader.proofs.its_text.VerdictLaws.{verdicts_are_right}
use Rattle.koat_cli.specs.ProgramTexts.{IsProgramRefusedAs}
use Rattle.koat_cli.specs.Report.{refusal_text}

-- the fault of a text, if there is one, is unique
some_same : (x y : Fault Kind) → ◌≡◌ {A = Option (Fault Kind)} (Some x) (Some y) → x ≡ y
some_same x y e = cc

-- something isn't nothing
some_not_none : {G : Type 0} (x : Fault Kind) → ◌≡◌ {A = Option (Fault Kind)} None (Some x) → G
some_not_none x e = absurd (apart e)
  where
    apart : ◌≡◌ {A = Option (Fault Kind)} None (Some x) → ⊥
    apart h = cc

-- a text that is read as a program has it as its verdict
pub read_program_parsed : (a : Answer Program Kind) (q : code.Program) → reader.Says a (Ok q) → a ≡ Parsed (program_of q)
read_program_parsed (Parsed p) q h = ap (λ (r : Program). Parsed r) (sym h)
read_program_parsed (Refused x) q h = absurd h

-- a text that is refused has this fault as its verdict
pub read_refused : (a : Answer Program Kind) (e : ReadError) (x : Fault Kind) → reader.fault_in e ≡ Some x
    → reader.Says a (Err e) → a ≡ Refused x
read_refused (Parsed p) e x f h = some_not_none x (sym h ∙ f)
read_refused (Refused y) errors.Memory x f h = some_not_none x f
read_refused (Refused y) (errors.NotAscii at) x f h = ap (λ (z : Fault Kind). Refused z) (some_same y x (sym h ∙ f))
read_refused (Refused y) (errors.Syntax at) x f h = ap (λ (z : Fault Kind). Refused z) (some_same y x (sym h ∙ f))
read_refused (Refused y) (errors.MissingSection at) x f h = ap (λ (z : Fault Kind). Refused z) (some_same y x (sym h ∙ f))
read_refused (Refused y) (errors.RepeatedSection at) x f h = ap (λ (z : Fault Kind). Refused z) (some_same y x (sym h ∙ f))
read_refused (Refused y) (errors.ManyTargets at) x f h = ap (λ (z : Fault Kind). Refused z) (some_same y x (sym h ∙ f))
read_refused (Refused y) (errors.LeftNotVariable at) x f h = ap (λ (z : Fault Kind). Refused z) (some_same y x (sym h ∙ f))
read_refused (Refused y) (errors.LeftRepeated at) x f h = ap (λ (z : Fault Kind). Refused z) (some_same y x (sym h ∙ f))
read_refused (Refused y) (errors.ArityDiffers at) x f h = ap (λ (z : Fault Kind). Refused z) (some_same y x (sym h ∙ f))
read_refused (Refused y) (errors.NumberTooLarge at) x f h = ap (λ (z : Fault Kind). Refused z) (some_same y x (sym h ∙ f))
read_refused (Refused y) (errors.Limit kind at) x f h = ap (λ (z : Fault Kind). Refused z) (some_same y x (sym h ∙ f))
read_refused (Refused y) (errors.StartUnknown at) x f h = ap (λ (z : Fault Kind). Refused z) (some_same y x (sym h ∙ f))
read_refused (Refused y) (errors.Disjunction at) x f h = ap (λ (z : Fault Kind). Refused z) (some_same y x (sym h ∙ f))

-- a text that is refused has a fault or memory ran out
pub has_fault : (o : Option (Fault Kind)) → (o ≡ None → ⊥) → (x : Fault Kind) × (o ≡ Some x)
has_fault None h = absurd (h refl)
has_fault (Some x) h = (x, refl)

-- bytes with a fault are refused for the first one
pub refused_first : (bytes : List ℕ) (e : ReadError) (text : List ℕ) → reader.Says (verdict bytes) (Err e)
    → IfSome (reader.fault_in e) (λ x. text ≡ refusal_text x) → (reader.fault_in e ≡ None → ⊥)
    → IsProgramRefusedAs bytes text
refused_first bytes e text says result_is given =
    let fault = has_fault (reader.fault_in e) given in
    let text_is : text ≡ refusal_text fault.0 = subst (λ (o : Option (Fault Kind)). IfSome o (λ x. text ≡ refusal_text x)) fault.1 result_is in
    let refused : verdict bytes ≡ Refused fault.0 = read_refused (verdict bytes) e fault.0 fault.1 says in
    record {
      fault = fault.0;
      refused = refused;
      first = subst (λ (a : Answer Program Kind). IsVerdict bytes a) refused (verdicts_are_right.each bytes);
      result_is = text_is;
    }
