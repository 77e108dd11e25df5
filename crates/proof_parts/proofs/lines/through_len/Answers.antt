use Rattle.std.proofs.Common.{◌≡◌, ◌∙◌, ◌++◌, ◌+◌, List, ℕ, true, false, ap, sym, take, drop, length, arith}
use Rattle.std.proofs.lemmas.List.{append_assoc, append-nil}
use Rattle.std.specs.List.{concat}
use Rattle.proof_parts.specs.Lines.{lines_of}
use Rattle.proof_parts.specs.Kinds.{is_line_of}
use Rattle.proof_parts.specs.Parts.{through, past}
use Rattle.proof_parts.proofs.LineLaws.{found-step, found-past, passed-step, passed-past, take-more, drop-more}
use Rattle.proof_parts.proofs.LineLaws.{some-behind}
use Rattle.proof_parts.proofs.lines.through_len.Goals as goal

pub returns-then-is_line_of-clause-front : goal.returns-then-is_line_of-clause-front
returns-then-is_line_of-clause-front c =
    let at = c.loop-at.at in
    let bytes = c.args.bytes.now in
    let k = length c.line_at-line.result.now in
    let test = is_line_of c.args.kind in
    let passes : test (take k (drop at bytes)) ≡ true = ap test (sym c.line_at-line.ensures.line)
    ∙ (sym c.is_line_of.ensures ∙ c.if-is_line_of.true) in
    sym (take-more at k bytes)
    ∙ (ap (λ (ys : List ℕ). take at bytes ++ ys) (sym (append-nil (take k (drop at bytes))))
    ∙ (ap (λ (ys : List ℕ). take at bytes ++ ys)
    (sym (found-step test (drop at bytes) k (some-behind at bytes c.loop-at-test.true) c.line_at-line.ensures.whole
    passes))
    ∙ c.loop-at.invariant.front))

pub returns-then-is_line_of-clause-back : goal.returns-then-is_line_of-clause-back
returns-then-is_line_of-clause-back c =
    let at = c.loop-at.at in
    let bytes = c.args.bytes.now in
    let k = length c.line_at-line.result.now in
    let test = is_line_of c.args.kind in
    let passes : test (take k (drop at bytes)) ≡ true = ap test (sym c.line_at-line.ensures.line)
    ∙ (sym c.is_line_of.ensures ∙ c.if-is_line_of.true) in
    ap lines_of (sym (drop-more at k bytes))
    ∙ (sym (found-past test (drop at bytes) k (some-behind at bytes c.loop-at-test.true) c.line_at-line.ensures.whole
    passes)
    ∙ c.loop-at.invariant.back)

pub loop-at-preserved : goal.loop-at-preserved
loop-at-preserved c =
    let at = c.loop-at.at in
    let bytes = c.args.bytes.now in
    let k = length c.line_at-line.result.now in
    let test = is_line_of c.args.kind in
    let some = some-behind at bytes c.loop-at-test.true in
    let fails : test (take k (drop at bytes)) ≡ false = ap test (sym c.line_at-line.ensures.line)
    ∙ (sym c.is_line_of.ensures ∙ c.if-is_line_of.false) in
    let behind = drop-more at k bytes in
    record {
      within = omega (arith, c.line_at-line.ensures.within, c.loop-at.invariant.within, c.loop-at-test.true);
      front = ap (λ (ys : List ℕ). take (at + k) bytes ++ concat (through test (lines_of ys))) (sym behind)
          ∙ (ap (λ (ys : List ℕ). ys ++ concat (through test (lines_of (drop k (drop at bytes))))) (sym (take-more at
          k bytes))
          ∙ (append_assoc (take at bytes) (take k (drop at bytes)) (concat (through test (lines_of (drop k (drop at
          bytes)))))
          ∙ (ap (λ (ys : List ℕ). take at bytes ++ ys) (sym (passed-step test (drop at bytes) k some
          c.line_at-line.ensures.whole fails))
          ∙ c.loop-at.invariant.front)));
      back = ap (λ (ys : List ℕ). past test (lines_of ys)) (sym behind)
          ∙ (sym (passed-past test (drop at bytes) k some c.line_at-line.ensures.whole fails)
          ∙ c.loop-at.invariant.back);
    }
