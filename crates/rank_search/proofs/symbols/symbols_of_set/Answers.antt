use Rattle.std.proofs.Common.{◌≡◌, ◌||◌, ◌+◌, ◌∙◌, ℕ, Bool, List, Vec, Option, Some, length, filter, take, get_or, ap}
use Rattle.std.proofs.Common.{subst, sym}
use Rattle.std.specs.declared.alloc.Global.{Global}
use Rattle.std.specs.List.{range_with_len}
use Rattle.std.proofs.lemmas.List.{take_all}
use Rattle.std.proofs.lemmas.Result.{IfOk-weaker}
use Rattle.its_model.specs.Views.{program_of}
use Rattle.poly_terms.specs.model.Paths.{same_symbol, target_of}
use Rattle.cert_types.specs.cert_rules.Graph.{symbols_of, touches}
use Rattle.rank_search.specs.Marks.{AreMarks}
use Rattle.rank_search.proofs.Marking.{marks-of-equal-tests, touches-more, symbols-complete}
use Rattle.rank_search.proofs.symbols.symbols_of_set.Goals as goal

pub loop-rule-preserved : goal.loop-rule-preserved
loop-rule-preserved c =
    let p = program_of c.args.p.now in
    let set = c.args.set.now in
    let i = c.loop-rule.rule-index in
    let left : ℕ → Bool = λ n. touches p (take i set) n || same_symbol (Some n) c.source_of.result in
    record {
      one_each = c.mark_symbol-in-loop-rule.ensures.one_each
          ∙ (c.mark_symbol.ensures.one_each ∙ c.loop-rule.invariant.one_each);
      marks = marks-of-equal-tests (λ n. left n || same_symbol (Some n) c.target_of.result)
          (touches p (take (i + 1) set))
          c.mark_symbol-in-loop-rule.new.marks.items
          (λ n. ap (λ (o : Option ℕ). left n || same_symbol (Some n) o) c.target_of.ensures
          ∙ (ap (λ (o : Option ℕ). (touches p (take i set) n || same_symbol (Some n) o)
          || same_symbol (Some n) (target_of p (get_or set i 0)))
          c.source_of.ensures ∙ touches-more p set i c.loop-rule-test.true n))
          (c.mark_symbol-in-loop-rule.ensures.marks left
          (c.mark_symbol.ensures.marks (touches p (take i set)) c.loop-rule.invariant.marks));
    }

pub returns : goal.returns
returns c =
    let p = program_of c.args.p.now in
    let set = c.args.set.now in
    let marks : AreMarks (touches p set) c.deref.result.now =
    subst (AreMarks (touches p set)) (sym c.deref.ensures.value)
    (subst (λ (xs : List ℕ). AreMarks (touches p xs) c.loop-rule.marks.items)
    (take_all c.loop-rule.rule-index set c.loop-rule-test.false) c.loop-rule.invariant.marks) in
    let size : length c.deref.result.now ≡ length c.args.p.now.symbols.items =
    ap length c.deref.ensures.value ∙ c.loop-rule.invariant.one_each in
    IfOk-weaker c.marked.result
    (λ (found : Vec ℕ Global). (test : ℕ → Bool) → AreMarks test c.deref.result.now
    → found.items ≡ filter test (range_with_len 0 (length c.deref.result.now)))
    (λ (found : Vec ℕ Global). found.items ≡ symbols_of p set)
    (λ found h. symbols-complete c.args.p.now set found.items (length c.deref.result.now) size
    (h (touches p set) marks))
    c.marked.ensures
