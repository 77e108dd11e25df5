use Rattle.std.proofs.Common.{◌≡◌, suc, Option, Some, None, ap, sym, ◌∙◌, arith}
use Rattle.std.specs.Prelude.{slice_get}
use Rattle.std.proofs.lemmas.Bool.{leb-true, leb-false}
use Rattle.std.proofs.lemmas.Option.{slice_get-get_or, slice_get_past}
use Rattle.std.proofs.lemmas.Result.{IfOk-equal}
use Rattle.potential_text.specs.declared.action.Action.{Action}
use Rattle.potential_text.specs.declared.action.TheConstants.{ACTIONS}
use Rattle.potential_text.specs.Drafts.{acted, acted_if, done}
use Rattle.potential_text.specs.Views.{draft_of}
use Rattle.potential_text.proofs.draft.Draft.done.Goals as goal

pub returns-in-Some : goal.returns-in-Some
returns-in-Some c =
    let low = leb-true (suc c.args.mark) 64 (sym c.in-Some.ensures.lookup.0) in
    let found : slice_get ACTIONS c.args.mark ≡ Some c.in-Some.action.now =
    slice_get-get_or ACTIONS c.args.mark c.in-Some.action.now (omega (arith, low))
    ∙ ap (λ (a : Action). Some a) (sym c.in-Some.ensures.lookup.1) in
    IfOk-equal c.act.result (draft_of c.act.new.self) (acted c.in-Some.action.now (draft_of c.args.self.now))
    (done c.args.mark (draft_of c.args.self.now)) c.act.ensures
    (ap (λ (o : Option Action). acted_if o (draft_of c.args.self.now)) (sym found))

pub returns-in-None : goal.returns-in-None
returns-in-None c =
    let high = leb-false (suc c.args.mark) 64 (sym c.in-None.ensures.lookup.0) in
    let none : slice_get ACTIONS c.args.mark ≡ None = slice_get_past ACTIONS c.args.mark (omega (arith, high)) in
    ap (λ (o : Option Action). acted_if o (draft_of c.args.self.now)) (sym none)
