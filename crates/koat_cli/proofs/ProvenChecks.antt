-- The text that `prove` or `certify` wrote for a program is that of a proof file, which is accepted; so `check` accepts
-- it.
use Rattle.std.proofs.Common.{◌≡◌, ◌⊎◌, ℕ, ◌≤◌, List, length, Option, Some, None, IsSome, refl, sym}
use Rattle.std.proofs.Common.{◌∙◌, ap, subst, inl, inr, true, false}
use Rattle.std.proofs.lemmas.List.{append_cancel_left}
use Rattle.std.specs.Prelude.{⊤}
use Rattle.std.specs.FinMap.{get}
use Rattle.std.specs.Io.KnownBytes.{Appends}
use Rattle.command_line.specs.Requests.{OfProgram, OfPair}
use Rattle.command_line.specs.declared.task.ProgramTask.{ProgramTask}
use Rattle.command_line.specs.declared.task.ProgramTask.TheVariants.{Prove, Certify}
use Rattle.command_line.specs.declared.task.PairTask.TheVariants.{Check}
use Rattle.its_reader.specs.its_text.Spelling.{SpellsWithin}
use Rattle.model.specs.Programs.{Program}
use Rattle.call_plans.specs.declared.status.Status.{Status}
use Rattle.call_plans.specs.declared.status.Status.TheVariants.{Done, Unknown}
use Rattle.call_plans.specs.Sorts.{Answer, sort_of}
use Rattle.call_plans.specs.Calls.{SinkUse}
use Rattle.call_plans.specs.Gives.{Gives}
use Rattle.call_plans.specs.Meanings.{Appended, Wrote}
use Rattle.call_plans.specs.Plans.{HasRow}
use Rattle.call_plans.specs.Endings.{Represented, EndsOn}
use Rattle.call_plans.proofs.GivenFiles.{given}
use Rattle.koat_cli.specs.Calls.{Call}
use Rattle.koat_cli.specs.ProgramTexts.{program_limit, programs}
use Rattle.koat_cli.specs.ProofTexts.{proof_limit}
use Rattle.koat_cli.specs.Commands.Certify.{StatesCertificate, certify_answers}
use Rattle.koat_cli.specs.RequestPlans.{program_answers, plan_of}
use Rattle.koat_cli.specs.ProvenChecks.{WroteProofText, RequestsCheck, WhatIsProvedIsAccepted}
use Rattle.koat_cli.proofs.CallsAnswered.{calls_answered}
use Rattle.koat_cli.proofs.Certified.{proved_certifies}
use Rattle.koat_cli.proofs.Determined.{Determined}
use Rattle.koat_cli.proofs.EndsMean.{ends_mean}

-- the text that was appended to disclosed bytes is unique
one_appended : (before after : Option (List ℕ)) (x y : List ℕ) → IsSome before → Appends before after x → Appends before after y
    → x ≡ y
one_appended None after x y result_is a b = absurd (different result_is)
  where
    different : false ≡ true → ⊥
    different e = cc
one_appended (Some old) None x y result_is a b = absurd a
one_appended (Some old) (Some new) x y result_is a b = append_cancel_left old x y (sym a ∙ b)

-- the contents of a file are unique
there_one : (there : Option (List ℕ)) (a b : List ℕ) → there ≡ Some a → there ≡ Some b → a ≡ b
there_one there a b left right = let e : Some a ≡ Some b = sym left ∙ right in cc

-- the status with which a proof file was written is that of an answer
proved_answer : (s : Status) → (s ≡ Done) ⊎ (s ≡ Unknown) → sort_of s ≡ Answer
proved_answer s (inl e) = ap sort_of e
proved_answer s (inr e) = ap sort_of e

-- what `certify` writes
certified : (p : Program) (s : Status) (x : List ℕ) → HasRow (certify_answers p) s x → StatesCertificate p x
certified p s x (inl told) = told.1
certified p s x (inr never) = absurd never

-- what `prove` or `certify` writes for a program is the text of a proof file that is accepted
stated_by : (task : ProgramTask) (pivots : ℕ) (p : Program) (s : Status) (x : List ℕ)
    → (task ≡ Prove) ⊎ (task ≡ Certify) → HasRow (program_answers task pivots p) s x → StatesCertificate p x
stated_by task pivots p s x (inl e) row =
    proved_certifies p pivots s x (subst (λ (t : ProgramTask). HasRow (program_answers t pivots p) s x) e row)
stated_by task pivots p s x (inr e) row =
    certified p s x (subst (λ (t : ProgramTask). HasRow (program_answers t pivots p) s x) e row)

-- the bytes spell a program, and the text is that of a proof file that is accepted for it
record Accepted (bytes text : List ℕ) : Type 0 where
  pub within : length bytes ≤ program_limit
  pub program : Program
  pub spelled : SpellsWithin bytes program
  pub certificate : StatesCertificate program text

module _ (bytes text : List ℕ) (w : WroteProofText bytes text) where
  -- the text is that of an accepted file for the program that a file gives
  by_stated : (p : Program) (gives : Gives programs w.call.shelf w.file ⊤ p) (x : List ℕ) → StatesCertificate p x
      → Appended w.put x → Accepted bytes text
  by_stated p gives x stated appended =
      let same : gives.bytes ≡ bytes =
      there_one (get w.files w.file) gives.bytes bytes
      (given w.call.shelf.files_if_disclosed w.files w.file gives.bytes w.steady.held gives.held) w.held in
      let is : x ≡ text = one_appended w.put.written_before w.put.written_after x text w.is_disclosed appended w.appended in
      record {
        within = subst (λ (b : List ℕ). length b ≤ program_limit) same gives.within;
        program = p;
        spelled = subst (λ (b : List ℕ). SpellsWithin b p) same gives.stands;
        certificate = subst (λ (t : List ℕ). StatesCertificate p t) is stated;
      }

  by_wrote : Wrote w.call.shelf w.put (plan_of (OfProgram w.task w.pivots w.file)) w.status → Accepted bytes text
  by_wrote (p, (gives, (x, (row, appended)))) =
      by_stated p gives x (stated_by w.task w.pivots p w.status x w.writes row) appended

  accepted : Accepted bytes text
  accepted =
      by_wrote ((ends_mean w.status w.call w.put w.ends).answered (OfProgram w.task w.pivots w.file) w.asked
      (proved_answer w.status w.proved))

  -- a check of a proof file that was written ends with `Done`
  ends_done : length text ≤ proof_limit → (call : Call) (put : SinkUse) (h : RequestsCheck call put bytes text) → EndsOn h.files (plan_of (OfPair Check h.file h.second)) Done
  ends_done short call put h =
      let a : Accepted bytes text = accepted in
      Represented bytes h.held a.within a.program a.spelled
      (Represented text h.second_held short a.certificate.proof a.certificate.stands
      (inl (refl, a.certificate.accepted)))

-- proof files that `prove` or `certify` wrote are accepted by `check`
pub proved_accepted : Determined → WhatIsProvedIsAccepted
proved_accepted laws = record {
  each = λ bytes text w short call put s h ends memory.
      ((calls_answered laws).on_shelf call put h.files (OfPair Check h.file h.second) s Done h.asked tt
      (record { held = h.steady.held; no_read_fault = λ e. h.steady.no_read_fault })
      (record { no_write_fault = λ e. h.steady.no_write_fault (ends.write_fault e).fault; ends = ends; memory = memory })).1
      (ends_done bytes text w short call put h);
}
