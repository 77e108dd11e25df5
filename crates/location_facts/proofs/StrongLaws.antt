-- What strengthening by facts that hold changes, and what it doesn't change.
use Rattle.std.proofs.Common.{Result, Ok, Err}
use Rattle.std.specs.Prelude.{IfOk}
use Rattle.cert_types.proofs.guard_prep.its_model.ValidLaws.{arities_agree}
use Rattle.location_facts.specs.Laws.{StrengtheningChangesNoRun}
use Rattle.location_facts.proofs.Strengthened.{run-on, run-back, bound-carries, total-carries, length-carries}
use Rattle.location_facts.proofs.StrongValid.{strong-valid}

pub strengthening-changes-no-run : StrengtheningChangesNoRun
strengthening-changes-no-run = record {
  valid = λ p kept valid candidates. strong-valid p kept candidates valid;
  runs = λ p kept valid held start steps c.
      (run-on p (arities_agree p valid) kept held start steps c, run-back kept p start steps c);
  bounds = λ p kept valid held fact h. bound-carries p (arities_agree p valid) kept held fact h;
  totals = λ p kept valid held bound h. total-carries p (arities_agree p valid) kept held bound h;
  lengths = λ p kept valid held bound h. length-carries p (arities_agree p valid) kept held bound h;
}

-- a consequence of a value is a consequence of the result that has it
pub ok-then : {A E : Type 0} (r : Result A E) (P Q : A → Type 0) → ((x : A) → P x → Q x) → IfOk r P → IfOk r Q
ok-then (Ok x) P Q f h = f x h
ok-then (Err e) P Q f h = tt
