-- A text is the text of at most one lasso.
use Rattle.std.proofs.Common.{◌≡◌, ℕ, List, [], ◌∷◌, ◌++◌, refl, ap, sym, ◌∙◌, arith}
use Rattle.std.specs.Prelude.{ℤ}
use Rattle.std.specs.Fmt.{decimal}
use Rattle.its_model.specs.model.Programs.{Program}
use Rattle.its_model.specs.model.Runs.{Step}
use Rattle.text_grammar.specs.ByteTexts.{line_text}
use Rattle.text_grammar.proofs.Apart.{decimal_apart, line_apart, line_ends}
use Rattle.run_replay.specs.Spelled.{steps_text, AreStepsOf, AreShortSteps}
use Rattle.run_replay.proofs.RunsApart.{steps_apart, small_short, steps_short}
use Rattle.lasso_check.specs.Lassos.{Lasso}
use Rattle.lasso_check.specs.Spelled.{stem_text, text_of, IsWithin, IsShort, OneLasso}

-- the lines of the stem and of the turn determine both
parts_apart : (ss ts us vs : List Step) → AreShortSteps ss → AreShortSteps ts → AreShortSteps us → AreShortSteps vs
    → stem_text ss us ≡ stem_text ts vs → (ss ≡ ts) × (us ≡ vs)
parts_apart [] [] us vs h k m n e =
    let rest : steps_text us ≡ steps_text vs = cc in (refl, steps_apart us vs m n rest)
parts_apart [] (t ∷ ts) us vs h k m n e = let same : ◌≡◌ {A = ℕ} 108 115 = cc in absurd (omega (arith, same))
parts_apart (s ∷ ss) [] us vs h k m n e = let same : ◌≡◌ {A = ℕ} 115 108 = cc in absurd (omega (arith, same))
parts_apart (s ∷ ss) (t ∷ ts) us vs h k m n e =
    let rest : decimal s.rule ++ (line_text s.free ++ stem_text ss us)
    ≡ decimal t.rule ++ (line_text t.free ++ stem_text ts vs) = cc in
    let rule =
    decimal_apart s.rule t.rule (line_text s.free ++ stem_text ss us) (line_text t.free ++ stem_text ts vs) h.0 k.0
    (line_ends s.free (stem_text ss us)) (line_ends t.free (stem_text ts vs)) rest in
    let free = line_apart s.free t.free (stem_text ss us) (stem_text ts vs) h.1 k.1 rule.1 in
    let behind = parts_apart ss ts us vs h.2 k.2 m n free.1 in (
      ap (λ (n : ℕ). record { rule = n; free = s.free } ∷ ss) rule.0
          ∙ ap (λ (vs : List ℤ). record { rule = t.rule; free = vs } ∷ ss) free.0
          ∙ ap (λ (us : List Step). t ∷ us) behind.0,
      behind.1,
    )

-- numbers of a lasso within the limits have at most 64 digits
within_short : (p : Program) (l : Lasso) → IsWithin p l → IsShort l
within_short p l h = record {
  start = small_short l.start h.values;
  stem = steps_short p l.stem h.stem;
  turn = steps_short p l.turn h.turn;
}

-- a text is the text of at most one lasso
pub one_lasso : OneLasso
one_lasso = record {
  each = go;
  within = λ p bytes a b h k. go a b (within_short p a h.within) (within_short p b k.within) (h.text ∙ sym k.text);
}
  where
    go : (a b : Lasso) → IsShort a → IsShort b → text_of a ≡ text_of b → a ≡ b
    go a b h k e =
        let rest : line_text a.start ++ stem_text a.stem a.turn ≡ line_text b.start ++ stem_text b.stem b.turn = cc in
        let start =
        line_apart a.start b.start (stem_text a.stem a.turn) (stem_text b.stem b.turn) h.start k.start rest in
        let parts = parts_apart a.stem b.stem a.turn b.turn h.stem k.stem h.turn k.turn start.1 in
        ap (λ (vs : List ℤ). record { start = vs; stem = a.stem; turn = a.turn }) start.0
        ∙ (ap (λ (ss : List Step). record { start = b.start; stem = ss; turn = a.turn }) parts.0
        ∙ ap (λ (ss : List Step). record { start = b.start; stem = b.stem; turn = ss }) parts.1)
