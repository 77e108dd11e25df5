-- What results of reading say.
use Rattle.std.specs.Prelude.{Result, Ok, Err, Option, Some, None, IfSome}
use Rattle.refinement_check.specs.declared.fault.AcceptError.{AcceptError}
use Rattle.refinement_check.specs.declared.fault.AcceptError.TheVariants as accepting
use Rattle.refinement_check.specs.Views.{fault_of}
use Rattle.refined_programs.specs.Annotated as annotated
use Rattle.refined_programs.specs.Views.{annotated_of}
use Rattle.refined_text.specs.declared.error.SectionRefusal as code
use Rattle.refined_text.specs.declared.error.SectionRefusal.TheVariants as refusals
use Rattle.refined_text.specs.declared.error.RefinedTextError.{RefinedTextError}
use Rattle.refined_text.specs.declared.error.RefinedTextError.TheVariants.{Refused, Section, Memory}
use Rattle.refined_text.specs.Outcomes.{SectionRefusal, BadNames, FirstFault, Refusal, AtText, AtSection, Outcome}
use Rattle.refined_text.specs.Outcomes.{Gives}
use Rattle.refined_text.specs.Outcomes.{Refuses}

-- why a section isn't accepted, as plain data
abbrev pub section_refusal : code.SectionRefusal → SectionRefusal
section_refusal refusals.Names = BadNames
section_refusal (refusals.Wrong fault) = FirstFault (fault_of fault)

-- the refusal that an error reports; running out of memory reports none
abbrev pub refusal_in : RefinedTextError → Option Refusal
refusal_in (Refused kind at) = Some (AtText (record { kind = kind; at = at }))
refusal_in (Section section refusal) = Some (AtSection (annotated_of section) (section_refusal refusal))
refusal_in Memory = None

-- the refusal for a section that isn't accepted
abbrev pub acceptance_refusal : annotated.Section → AcceptError → Option Refusal
acceptance_refusal s (accepting.Wrong fault) = Some (AtSection s (FirstFault (fault_of fault)))
acceptance_refusal s accepting.Memory = None

-- a result is an outcome with this property, or memory ran out
abbrev pub Says : {T Made : Type 0} → (Made → T) → (Outcome T → Type 0) → Result Made RefinedTextError → Type 0
Says view Reads (Ok made) = Reads (Gives (view made))
Says view Reads (Err error) = IfSome (refusal_in error) (λ refusal. Reads (Refuses refusal))
