-- When the parts of run files have no fault, the states to which they lead, and so which runs are answers.
use Rattle.std.proofs.Common.{◌≡◌, ℕ, ◌+◌, ◌-◌, ◌^◌, ◌<◌, ◌≤◌, min, Bool, false, cond, List, [], ◌∷◌, ◌++◌}
use Rattle.std.proofs.Common.{length, refl, ap, sym, subst, ◌∙◌, arith, append_assoc, append-nil, length-append}
use Rattle.std.specs.Prelude.{not, nat_le, ◌==◌, codes}
use Rattle.std.proofs.lemmas.Bool.Decides.{nat_tests}
use Rattle.its_model.specs.model.Programs.{Program, arity_of}
use Rattle.its_model.specs.model.Runs.{Step}
use Rattle.text_grammar.specs.text_core.Reading.{Parsed, answer}
use Rattle.text_grammar.specs.Texts.{reader}
use Rattle.text_grammar.specs.Parts.{Part, Puts, come, Stand}
use Rattle.text_grammar.specs.declared.numeral.NumberContext.TheVariants.{Words}
use Rattle.text_grammar.specs.ByteTexts.{Spelling, Numbered, Line, fresh, fold_of, numbers_of, tokens}
use Rattle.text_grammar.proofs.Numerals.{none_when, when_none, not_differs, differs_not, room, has_room, bytes_have_no_fault}
use Rattle.text_grammar.proofs.ByteDerivations.{word_parsed, word_has_no_fault, answered, taken}
use Rattle.run_replay.specs.declared.kind.RunKind.TheVariants.{BadReference, ArityDiffers, Limit}
use Rattle.run_replay.specs.Runs.{Run, step_limit}
use Rattle.run_replay.specs.Texts.{State, is_no_rule, free_or, wanted, with_line, run_bytes, runs_of}
use Rattle.run_replay.specs.Spelled.{text_of, AreStepsOf, IsWithin, IsTextWithin}
use Rattle.run_replay.proofs.RuleNumbers.{rule_there, rule_some, rule_passed, rule_taken}
use Rattle.run_replay.proofs.RunParts.{RunValue, steps_parts, run_parts, bounded, readable, numbers, runs_lawful}
use Rattle.run_replay.proofs.RunParts.{runs_made, run_derived, run_spells}

-- a run with one more step
abbrev with_step : Run → Step → Run
with_step r s = record { start = r.start; steps = r.steps ++ s ∷ [] }

-- a line after the number of a rule adds a step
stepped : (r : Run) (s : Step) → 1 ≤ s.rule → s.rule < 2 ^ 32
    → with_line s.free (record { run = r; rule = s.rule }) ≡ record { run = with_step r s; rule = s.rule }
stepped r s l k =
    let other : (s.rule == 0) ≡ false = grind (arith, nat_tests) in
    let same : min s.rule (2 ^ 32 - 1) ≡ s.rule = omega (arith, k) in
    ap (λ (v : Bool). cond v (record { run = record { start = s.free; steps = r.steps }; rule = s.rule })
    (record { run = with_step r (record { rule = min s.rule (2 ^ 32 - 1); free = s.free }); rule = s.rule })) other
    ∙ ap (λ (n : ℕ). record { run = with_step r (record { rule = n; free = s.free }); rule = s.rule }) same

module _ (p : Program) where
  -- the state between lines, after that of a rule
  abbrev at : State → Spelling State
  at s = record { own = s; numeral = fresh; within = Words; values = [] }

  abbrev from : Run → ℕ → Spelling State
  from r rule = at (record { run = r; rule = rule })

  -- the parts have no fault from this state; and the state to which they lead
  abbrev HaveNoFaultFrom : Spelling State → List (Part ℕ Numbered) → Type 0
  HaveNoFaultFrom s xs = Stand (fold_of (run_bytes p)) (numbers_of (run_bytes p)) s xs

  abbrev comes : Spelling State → List (Part ℕ Numbered) → Spelling State
  comes s xs = come (fold_of (run_bytes p)) (numbers_of (run_bytes p)) s xs

  -- steps of the program have no fault if there is room for them
  steps_stand : (ss : List Step) (r : Run) (rule : ℕ) → AreStepsOf p ss → length r.steps + length ss ≤ step_limit
      → HaveNoFaultFrom (from r rule) (steps_parts ss)
  steps_stand [] r rule h few = (refl, (refl, (refl, (refl, tt))))
  steps_stand (s ∷ ss) r rule h few =
      let named = rule_some p s.rule h.0.rule h.0.numbered in
      let count = length-append r.steps (s ∷ []) in
      let free = h.0.free ∙ sym (ap (free_or (arity_of p p.start)) h.0.numbered) in
      let first = when_none (nat_le step_limit (length r.steps)) Limit
      (has_room step_limit (length r.steps) (omega (arith, few))) in
      let number = when_none (is_no_rule p s.rule) BadReference
      (rule_taken p s.rule named.0 named.1 h.0.held) in
      let line = when_none (not (length s.free == wanted p s.rule)) ArityDiffers
      (differs_not (wanted p s.rule) (length s.free) free) in
      let others = subst (λ (t : State). HaveNoFaultFrom (at t) (steps_parts ss)) (sym (stepped r s named.0 h.0.held))
      (steps_stand ss (with_step r s) s.rule h.1 (omega (arith, count, few))) in
      (first, (refl, (refl, (refl, (refl, (number, ((h.0.small, bytes_have_no_fault (run_bytes p) (record { run = r; rule = s.rule }) s.free refl refl, line), others)))))))

  stand_steps : (ss : List Step) (r : Run) (rule : ℕ) → HaveNoFaultFrom (from r rule) (steps_parts ss)
      → AreStepsOf p ss × (length r.steps ≤ step_limit → length r.steps + length ss ≤ step_limit)
  stand_steps [] r rule h = (tt, λ l. omega (arith, l))
  stand_steps (s ∷ ss) r rule h =
      let no = none_when (is_no_rule p s.rule) BadReference h.1.1.1.1.1.0 in
      let named = rule_passed p s.rule no in
      let q = rule_there p s.rule no in
      let line = h.1.1.1.1.1.1 in
      let free =
      not_differs (wanted p s.rule) (length s.free)
      (none_when (not (length s.free == wanted p s.rule)) ArityDiffers line.0.2) in
      let w =
      stand_steps ss (with_step r s) s.rule
      (subst (λ (t : State). HaveNoFaultFrom (at t) (steps_parts ss)) (stepped r s named.0 named.2) line.1) in
      let one = room step_limit (length r.steps) (none_when (nat_le step_limit (length r.steps)) Limit h.0) in
      let count = length-append r.steps (s ∷ []) in (
        (
          record {
            rule = q.0;
            numbered = q.1;
            held = named.2;
            free = free ∙ ap (free_or (arity_of p p.start)) q.1;
            small = line.0.0;
          },
          w.0,
        ),
        λ l. (let m = w.1 (omega (arith, count, one)) in omega (arith, count, m)),
      )

  -- after these steps, the run has the earlier steps and these
  steps_come : (ss : List Step) (r : Run) (rule : ℕ) → AreStepsOf p ss
      → (comes (from r rule) (steps_parts ss)).own.run ≡ record { start = r.start; steps = r.steps ++ ss }
  steps_come [] r rule h = ap (λ (ss : List Step). record { start = r.start; steps = ss }) (sym (append-nil r.steps))
  steps_come (s ∷ ss) r rule h =
      let named = rule_some p s.rule h.0.rule h.0.numbered in
      ap (λ (t : State). (comes (at t) (steps_parts ss)).own.run) (stepped r s named.0 h.0.held)
      ∙ steps_come ss (with_step r s) s.rule h.1
      ∙ ap (λ (ts : List Step). record { start = r.start; steps = ts }) (append_assoc r.steps (s ∷ []) ss)

  -- the parts of a run after its first line and the word `start`
  abbrev behind_start : Run → List (Part ℕ Numbered)
  behind_start r = Puts (Line r.start) ∷ steps_parts r.steps

  -- a run has no fault exactly if it is within the limits
  run_stands : (r : Run) → IsWithin p r → HaveNoFaultFrom (from (record { start = []; steps = [] }) 0) (run_parts 0 r)
  run_stands r h =
      word_parsed (run_bytes p) (from (record { start = []; steps = [] }) 0) (codes "koat-run 1\nstart")
      (behind_start r) refl (
        (
          h.values,
          bytes_have_no_fault (run_bytes p) (record { run = record { start = []; steps = [] }; rule = 0 }) r.start refl refl,
          when_none (not (length r.start == wanted p 0)) ArityDiffers
              (differs_not (wanted p 0) (length r.start) h.start),
        ),
        steps_stand r.steps (record { start = r.start; steps = [] }) 0 h.steps
            (let l = h.count in omega (arith, l)),
      )

  stand_run : (r : Run) → HaveNoFaultFrom (from (record { start = []; steps = [] }) 0) (run_parts 0 r) → IsWithin p r
  stand_run r h =
      let line =
      word_has_no_fault (run_bytes p) (from (record { start = []; steps = [] }) 0) (codes "koat-run 1\nstart")
      (behind_start r) h in
      let w = stand_steps r.steps (record { start = r.start; steps = [] }) 0 line.1 in
      record {
        start =
            not_differs (wanted p 0) (length r.start)
            (none_when (not (length r.start == wanted p 0)) ArityDiffers line.0.2);
        values = line.0.0;
        steps = w.0;
        count = (let l = w.1 (omega arith) in omega (arith, l));
      }

  -- the parts of a run within the limits lead to this run
  run_comes : (r : Run) → IsWithin p r
      → (comes (from (record { start = []; steps = [] }) 0) (run_parts 0 r)).own.run ≡ r
  run_comes r h = steps_come r.steps (record { start = r.start; steps = [] }) 0 h.steps

-- if a run is the answer for bytes, they are its text, and it is within the limits
pub parsed_written : (p : Program) (bytes : List ℕ) (r : Run)
    → answer (reader (runs_of p)) (length bytes) (tokens bytes) ≡ Parsed r → IsTextWithin p bytes r
parsed_written p bytes r e =
    let w = answered (run_bytes p) (bounded p) (numbers p) (readable p) RunValue run_parts (runs_made p) (runs_lawful p)
    bytes r e in
    let h = stand_run p w.0 w.2 in
    let same : w.0 ≡ r = sym (run_comes p w.0 h) ∙ w.3 in
    record { text = ap text_of (sym same) ∙ sym (run_spells p w.0) ∙ w.1; within = subst (IsWithin p) same h }

-- if bytes are the text of a run within the limits, it is their answer
pub written_parsed : (p : Program) (bytes : List ℕ) (r : Run) → IsTextWithin p bytes r
    → answer (reader (runs_of p)) (length bytes) (tokens bytes) ≡ Parsed r
written_parsed p bytes r h =
    taken (run_bytes p) (bounded p) (numbers p) (readable p) RunValue run_parts (runs_lawful p) r
    (run_derived p r h.within) (run_stands p r h.within) bytes (run_spells p r ∙ h.text)
    ∙ ap (λ (q : Run). Parsed q) (run_comes p r h.within)
