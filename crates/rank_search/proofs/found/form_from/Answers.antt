use Rattle.std.proofs.Common.{◌≡◌, ℕ, ◌+◌, ◌-◌, ◌<◌, ◌++◌, ◌∙◌, ap, sym, subst, refl, arith, true, false}
use Rattle.std.proofs.lemmas.Int.{ints}
use Rattle.simplex_core.specs.linear_forms.Forms.{at}
use Rattle.simplex_core.specs.linear_forms.QuestionLaws.{parameters_of}
use Rattle.poly_terms.specs.model.Programs.{arity_of}
use Rattle.its_model.specs.Views.{program_of}
use Rattle.rank_search.specs.ShutPlaces.{is_listed}
use Rattle.rank_search.specs.Reading.{open_count, read_coefs}
use Rattle.rank_search.proofs.Counts.{open-few}
use Rattle.rank_search.proofs.FunctionReading.{place-read, place-left, count-read, count-left}
use Rattle.rank_search.proofs.found.form_from.Goals as goal
use Rattle.rank_search.proofs.found.form_from.Goals.{then-is_shut+in_ok-push, else-is_shut+in_ok-push-2}

pub overflow_add-parameter : goal.overflow_add-parameter
overflow_add-parameter c =
    let k = c.loop-before.invariant.count in
    let l = open-few (is_listed c.args.closed.now c.args.symbol) 1
    (arity_of (program_of c.args.p.now) c.args.symbol) in
    let m = c.requires.few_places in
    let n = c.requires.few in omega (arith, k, l, m, n)

pub overflow_add-next : goal.overflow_add-next
overflow_add-next c =
    let k = c.loop-before.invariant.count in
    let l = open-few (is_listed c.args.closed.now c.args.symbol) 1
    (arity_of (program_of c.args.p.now) c.args.symbol) in
    let m = c.requires.few_places in
    let n = c.requires.few in omega (arith, k, l, m, n)

pub loop-before-preserved : goal.loop-before-preserved
loop-before-preserved c =
    let shut = is_listed c.args.closed.now c.args.symbol in
    let v = parameters_of (at c.args.numbers.now) in
    let n = arity_of (program_of c.args.p.now) c.args.symbol in
    let i = c.loop-before.before in
    let k = c.loop-before.parameter in
    let l : i < n = let a = c.loop-before-test.true in let e = c.arity_at-before-end.ensures in omega (arith, a, e) in
    elim c.if-is_shut.branch [
      | then-is_shut+in_ok-push w ↦
          let closed : shut (i + 1) ≡ true = sym c.is_among-is_shut.ensures ∙ w.if-is_shut.true in
          record {
            kept = subst (λ (m : ℕ). c.if-is_shut.coefs.items ++ read_coefs shut v m (i + 1 + 1) (n - (i + 1))
                ≡ read_coefs shut v c.args.next.now 1 n) (sym w.parameter-is)
                (place-left shut v k i n c.loop-before.coefs.items c.if-is_shut.coefs.items _ _ l
                c.loop-before.invariant.kept
                (ap (λ v. v.items) w.coefs-is ∙ w.in_ok-push.ensures.items) closed refl);
            count = subst (λ (m : ℕ). m + open_count shut (i + 1 + 1) (n - (i + 1))
                ≡ c.args.next.now + open_count shut 1 n) (sym w.parameter-is)
                (count-left shut v k i n _ l c.loop-before.invariant.count closed);
          }
      | else-is_shut+in_ok-push-2 w ↦
          let opened : shut (i + 1) ≡ false = sym c.is_among-is_shut.ensures ∙ w.if-is_shut.false in
          record {
            kept = subst (λ (m : ℕ). c.if-is_shut.coefs.items ++ read_coefs shut v m (i + 1 + 1) (n - (i + 1))
                ≡ read_coefs shut v c.args.next.now 1 n) (sym w.parameter-is)
                (place-read shut v k i n c.loop-before.coefs.items c.if-is_shut.coefs.items _ _ l
                c.loop-before.invariant.kept
                (ap (λ v. v.items) w.coefs-is ∙ w.in_ok-push-2.ensures.items) opened
                (let e = w.parameter_at.ensures in let t = w.parameter_at.type_inv in omega (arith, ints, e, t)));
            count = subst (λ (m : ℕ). m + open_count shut (i + 1 + 1) (n - (i + 1))
                ≡ c.args.next.now + open_count shut 1 n) (sym w.parameter-is)
                (count-read shut v k i n _ l c.loop-before.invariant.count opened);
          }
    ]
