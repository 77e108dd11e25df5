use Rattle.std.proofs.Common.{ℕ, Bool, Some, None, cond, length, ap, sym, ◌∙◌, ◌≡◌, arith}
use Rattle.bound_text.specs.Inside.{marks_of_state}
use Rattle.cert_lexer.specs.Levels.{shallow}
use Rattle.cert_lexer.proofs.DeepLaws.{first_deep}
use Rattle.cert_lexer.proofs.follower.Follower.deep_part.Goals as goal

pub returns-then-self : goal.returns-then-self
returns-then-self c = λ f s.
    let len = c.len.ensures in
    let ok = c.args.self.now.levels.marked.levels.ok.0 in
    let kept = ap length s.levels.held.kept in
    let at : c.len.result ≡ length (shallow (marks_of_state f)) = omega (arith, len, ok, kept) in
    ap (λ (n : ℕ). Some n) at
    ∙ ap (λ (v : Bool). cond v (Some (length (shallow (marks_of_state f)))) None) (sym c.if-self.true ∙ s.levels.held.deep)
    ∙ sym (first_deep (marks_of_state f))

pub returns-else-self : goal.returns-else-self
returns-else-self c = λ f s.
    ap (λ (v : Bool). cond v (Some (length (shallow (marks_of_state f)))) None) (sym c.if-self.false ∙ s.levels.held.deep)
    ∙ sym (first_deep (marks_of_state f))
