use Rattle.std.proofs.Common.{◌∷◌, ◌++◌, [], ap, sym, subst, ◌∙◌}
use Rattle.std.specs.Option.{option_map}
use Rattle.std.specs.Prelude.{suc}
use Rattle.bound_text.specs.Inside.{Marks}
use Rattle.cert_lexer.specs.Representation.{Holds}
use Rattle.cert_lexer.proofs.ShallowLaws.{capped_deeper, one_deeper, one_less}
use Rattle.cert_lexer.proofs.levels.PartLevels.push_deeper.Goals as goal

pub loop-mark-preserved : goal.loop-mark-preserved
loop-mark-preserved c = λ before h.
    let i = c.loop-mark.invariant before h in
    let mark = c.in-Some.mark.now in (
      i.0 ++ mark ∷ [],
      one_less i.0 c.in-Some.rest.now mark ∙ ap (λ (ms : Marks). i.0 ++ ms) (sym c.in-Some.ensures.cases.0) ∙ i.1,
      subst (λ (ms : Marks). Holds c.push.new.self ms) (sym (one_deeper before i.0 mark))
          (c.in_ok-push.ensures _ (option_map suc mark) (c.deeper.ensures ∙ capped_deeper mark) i.2),
    )
