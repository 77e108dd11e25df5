use Rattle.std.proofs.Common.{◌≡◌, ◌∙◌, ℕ, ◌∷◌, ◌++◌, [], length, ap, sym, arith}
use Rattle.std.proofs.lemmas.List.{length-append}
use Rattle.cert_context.specs.Statements.{facts_from, facts_by}
use Rattle.check_file.proofs.KeptLemmas.{kept-before, kept-last}
use Rattle.check_file.proofs.lemmas.keep.Goals as goal

pub returns-in_ok-push-in-Own-2 : goal.returns-in_ok-push-in-Own-2
returns-in_ok-push-in-Own-2 c =
    let old = c.args.kept.now.stated.items in
    let new = c.in_ok-push-in-Own-2.ensures.items in
    let same : c.len-position.result ≡ length old = omega (arith, c.len-position.ensures) in
    record {
      stated = λ n l. ap (λ xs. facts_from xs n) new ∙ kept-before old (c.in-Own.facts ∷ []) n l;
      position = length old;
      lemmas = c.in_ok-push-in-Own.ensures.items ∙ ap (λ (n : ℕ). c.args.kept.now.lemmas.items ++ n ∷ []) same;
      within = omega (arith, ap length new, length-append old (c.in-Own.facts ∷ []));
      facts = ap (λ xs. facts_from xs (length old)) new ∙ kept-last old c.in-Own.facts ∙ sym (ap (facts_by c.args.kept.now) c.in-Own.is);
      grows = omega (arith, ap length new, length-append old (c.in-Own.facts ∷ []));
      few = omega (arith, ap length new, length-append old (c.in-Own.facts ∷ []));
    }
