use Rattle.std.proofs.lemmas.Grind.{common_steps}
use Rattle.std.proofs.Common.{arith, ◌≡◌, List, [], ◌∷◌, ◌++◌, ap, sym, ◌∙◌, subst}
use Rattle.std.specs.Vec.Iter.{into_iter_items}
use Rattle.std.proofs.lemmas.List.{map-append}
use Rattle.bound_expr.specs.declared.bound.Bound.{Bound}
use Rattle.bound_expr.specs.Views.{bound_of, bounds_of}
use Rattle.bound_table.specs.Runs.{last_belongs}
use Rattle.bound_table.specs.Joining.{belong_together, run_joined}
use Rattle.bound_table.proofs.Runs.{Stands, Stands-more, Stands-ended, Stands-last}
use Rattle.bound_table.proofs.joining.runs_joined.Goals as goal
use Rattle.bound_table.proofs.joining.runs_joined.Goals.{then-not-goes_on+in_ok-push_joined, else-not-goes_on}

pub loop-part-preserved : goal.loop-part-preserved
loop-part-preserved c =
    let j = c.args.joining in
    let part = c.in-Some.part in
    let rest = bounds_of (into_iter_items c.next.new.self) in
    let all = bounds_of c.args.parts.items in
    let run = bounds_of c.loop-part.run.items in
    let done = bounds_of c.loop-part.done.items in
    let stands : Stands j done run (bound_of part ∷ rest) all =
    subst (λ (ps : List Bound). Stands j done run (bounds_of ps) all) c.in-Some.ensures.steps.0 c.loop-part.invariant in
    let answer : c.goes_on.result ≡ last_belongs (belong_together j) run (bound_of part) =
    c.goes_on.ensures ∙ ap (λ (ps : List Bound). last_belongs (belong_together j) (bounds_of ps) (bound_of part)) c.deref.ensures.value in
    let pushed : bounds_of c.push.new.self.items ≡ bounds_of c.if-not-goes_on.run.items ++ bound_of part ∷ [] =
    ap bounds_of c.in_ok-push.ensures.items ∙ map-append bound_of c.if-not-goes_on.run.items (part ∷ []) in
    elim c.if-not-goes_on.branch [
      | then-not-goes_on+in_ok-push_joined w ↦
          Stands-ended j done run (bound_of part) rest all (bounds_of c.push.new.self.items)
          (bounds_of c.if-not-goes_on.done.items) stands
          (sym answer ∙ w.if-not-goes_on.true)
          (ap (λ v. bounds_of v.items) w.done-is ∙ w.in_ok-push_joined.ensures
          ∙ ap (λ v. done ++ run_joined j (bounds_of v.items)) w.replace-ended.ensures.value)
          (pushed ∙ ap (λ v. bounds_of v.items ++ bound_of part ∷ []) (w.run-is ∙ w.replace-ended.ensures.after) ∙ ap (λ (ps : List Bound). bounds_of ps ++ bound_of part ∷ []) w.new.ensures.items)
      | else-not-goes_on w ↦
          subst (λ v. Stands j (bounds_of v.items) (bounds_of c.push.new.self.items) rest all) (sym w.done-is)
          (Stands-more j done run (bound_of part) rest all (bounds_of c.push.new.self.items) stands
          (sym answer ∙ w.if-not-goes_on.false)
          (pushed ∙ ap (λ v. bounds_of v.items ++ bound_of part ∷ []) w.run-is))
    ]

pub returns : goal.returns
returns c =
    let j = c.args.joining in
    let run = bounds_of c.loop-part.run.items in
    let done = bounds_of c.loop-part.done.items in
    let all = bounds_of c.args.parts.items in
    let none : into_iter_items c.loop-part.part-iterator ≡ [] = grind (arith, common_steps) in
    let stands : Stands j done run [] all =
    subst (λ (ps : List Bound). Stands j done run (bounds_of ps) all) none c.loop-part.invariant in
    Stands-last j done run all (bounds_of c.push_joined-2.new.done.items) stands c.in_ok-push_joined-2.ensures
