-- The combined rows of all rules as lists of the code, and intermediate answers about facts and their proofs.
use Rattle.std.specs.Prelude.{◌≡◌, ℕ, ◌≤◌, ◌^◌, List, map, length, nat_abs, Vec, Option, Some, None}
use Rattle.std.specs.declared.alloc.Global.{Global}
use Rattle.std.specs.List.{All}
use Rattle.poly_terms.specs.linear_forms.Forms.{Form}
use Rattle.poly_terms.specs.model.Programs.{Program}
use Rattle.poly_terms.specs.declared.poly.Row.{Row}
use Rattle.poly_terms.specs.Views.{form_of}
use Rattle.rule_questions.specs.ProgramQuestions.{forms_in}
use Rattle.location_facts.specs.declared.fact.LocFact.{LocFact}
use Rattle.location_facts.specs.declared.fact.FactProof.{FactProof}
use Rattle.location_facts.specs.declared.fact.FactFault.{FactFault}
use Rattle.location_facts.specs.Faults.{AreRight, AreShown, IsProofFor, ShowsFact, ProofsShow, IsFirstWrong}
use Rattle.location_facts.specs.Faults.{IsFirstUnshown}
use Rattle.location_facts.specs.Rows.{combined}

-- lists of rows as forms
abbrev pub forms_of_rows : Vec Row Global → List Form
forms_of_rows rows = map form_of rows.items

-- for each rule of a program, in order, its combined rows under a list of facts
abbrev pub AreCombined : Program → List LocFact → List (Vec Row Global) → Type 0
AreCombined p kept rows = map forms_of_rows rows ≡ map (λ r. combined (forms_in (Some r)) kept) p.rules

-- the numbers of a form are at most 2^65 in absolute value
pub record IsGoalSmall (f : Form) : Type 0 where
  pub coefs : All (λ a. nat_abs a ≤ 2 ^ 65) f.coefs
  pub constant : nat_abs f.constant ≤ 2 ^ 65

-- all facts are right and so is the shape of their proofs, or this one is the first that isn't
abbrev pub FindsWrong : Program → List LocFact → List (List FactProof) → Option ℕ → Type 0
FindsWrong p kept proofs None = AreRight p kept proofs (length kept)
FindsWrong p kept proofs (Some n) = IsFirstWrong p kept proofs (record { fact = n; rule = 0 })

-- of the proofs of a fact, that of this rule is the first that doesn't show it
pub record IsUnshownBy (p : Program) (kept : List LocFact) (f : LocFact) (ps : List FactProof) (t : ℕ) : Type 0 where
  pub position : ℕ
  pub proof : FactProof
  pub refutes_for : IsProofFor p f ps position t proof
  pub earlier : ProofsShow p kept f ps position
  pub shows_not : ¬ (ShowsFact p kept f t proof)

-- all proofs of a fact show it, or this rule's is the first that doesn't
abbrev pub FindsUnshown : Program → List LocFact → LocFact → List FactProof → Option ℕ → Type 0
FindsUnshown p kept f ps None = ProofsShow p kept f ps (length ps)
FindsUnshown p kept f ps (Some t) = IsUnshownBy p kept f ps t

-- all proofs of all facts show them, or this one is the first that doesn't
abbrev pub FindsFactFault : Program → List LocFact → List (List FactProof) → Option FactFault → Type 0
FindsFactFault p kept proofs None = AreShown p kept proofs (length kept)
FindsFactFault p kept proofs (Some x) = IsFirstUnshown p kept proofs x
