-- A text is that of at most one run.
use Rattle.std.proofs.Common.{◌≡◌, ℕ, List, [], ◌∷◌, ◌++◌, refl, ap, sym, ◌∙◌, arith}
use Rattle.std.specs.Prelude.{ℤ}
use Rattle.std.specs.Fmt.{decimal}
use Rattle.its_model.specs.model.Programs.{Program}
use Rattle.its_model.specs.model.Runs.{Step}
use Rattle.text_grammar.specs.ByteTexts.{line_text, AreSmall, AreShort}
use Rattle.text_grammar.proofs.Apart.{decimal_apart, line_apart, line_ends}
use Rattle.run_replay.specs.Runs.{Run}
use Rattle.run_replay.specs.Spelled.{steps_text, text_of, AreStepsOf, IsWithin, AreShortSteps, IsShort, OneRun}

-- lines of steps are those of only one list of steps
pub steps_apart : (ss ts : List Step) → AreShortSteps ss → AreShortSteps ts → steps_text ss ≡ steps_text ts → ss ≡ ts
steps_apart [] [] h k e = refl
steps_apart [] (t ∷ ts) h k e = let same : ◌≡◌ {A = ℕ} 101 115 = cc in absurd (omega (arith, same))
steps_apart (s ∷ ss) [] h k e = let same : ◌≡◌ {A = ℕ} 115 101 = cc in absurd (omega (arith, same))
steps_apart (s ∷ ss) (t ∷ ts) h k e =
    let rest : decimal s.rule ++ (line_text s.free ++ steps_text ss)
    ≡ decimal t.rule ++ (line_text t.free ++ steps_text ts) = cc in
    let rule =
    decimal_apart s.rule t.rule (line_text s.free ++ steps_text ss) (line_text t.free ++ steps_text ts) h.0 k.0
    (line_ends s.free (steps_text ss)) (line_ends t.free (steps_text ts)) rest in
    let free = line_apart s.free t.free (steps_text ss) (steps_text ts) h.1 k.1 rule.1 in
    ap (λ (n : ℕ). record { rule = n; free = s.free } ∷ ss) rule.0
    ∙ ap (λ (vs : List ℤ). record { rule = t.rule; free = vs } ∷ ss) free.0
    ∙ ap (λ (us : List Step). t ∷ us) (steps_apart ss ts h.2 k.2 free.1)

-- small values have at most 64 digits, and so have all numbers of a run within the limits
pub small_short : (vs : List ℤ) → AreSmall vs → AreShort vs
small_short [] h = tt
small_short (v ∷ vs) h = ((let l = h.0 in omega (arith, l)), small_short vs h.1)

pub steps_short : (p : Program) (ss : List Step) → AreStepsOf p ss → AreShortSteps ss
steps_short p [] h = tt
steps_short p (s ∷ ss) h =
    ((let l = h.0.held in omega (arith, l)), small_short s.free h.0.small, steps_short p ss h.1)

within_short : (p : Program) (r : Run) → IsWithin p r → IsShort r
within_short p r h = record { start = small_short r.start h.values; steps = steps_short p r.steps h.steps }

-- a text is that of at most one run
pub one_run : OneRun
one_run = record {
  each = go;
  within = λ p bytes a b h k. go a b (within_short p a h.within) (within_short p b k.within) (h.text ∙ sym k.text);
}
  where
    go : (a b : Run) → IsShort a → IsShort b → text_of a ≡ text_of b → a ≡ b
    go a b h k e =
        let rest : line_text a.start ++ steps_text a.steps ≡ line_text b.start ++ steps_text b.steps = cc in
        let start = line_apart a.start b.start (steps_text a.steps) (steps_text b.steps) h.start k.start rest in
        ap (λ (vs : List ℤ). record { start = vs; steps = a.steps }) start.0
        ∙ ap (λ (ss : List Step). record { start = b.start; steps = ss }) (steps_apart a.steps b.steps h.steps k.steps start.1)
