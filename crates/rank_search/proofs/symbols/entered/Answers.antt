use Rattle.std.proofs.Common.{◌≡◌, ◌||◌, ◌∙◌, ℕ, Bool, List, Vec, Option, Some, length, map, take, ap, subst, sym}
use Rattle.std.specs.declared.alloc.Global.{Global}
use Rattle.std.specs.List.{list_any, range_with_len}
use Rattle.std.proofs.lemmas.List.{take_all}
use Rattle.std.proofs.lemmas.List.Folds.{list_any_more}
use Rattle.std.proofs.lemmas.Result.{IfOk-weaker}
use Rattle.its_model.specs.Views.{program_of}
use Rattle.poly_terms.specs.model.Paths.{same_symbol, target_of}
use Rattle.poly_terms.specs.model.Entries.{entries}
use Rattle.rank_search.specs.Marks.{AreMarks}
use Rattle.rule_questions.specs.ProgramQuestions.{is_entered}
use Rattle.rank_search.proofs.Marking.{marks-of-equal-tests}
use Rattle.rank_search.proofs.symbols.entered.Goals as goal

pub loop-entry-preserved : goal.loop-entry-preserved
loop-entry-preserved c =
    let p = program_of c.args.p.now in
    let es = c.deref-entry-items.result.now in
    let i = c.loop-entry.entry-index in
    let led : List ℕ → ℕ → Bool = λ xs a. list_any (λ e. same_symbol (Some a) (target_of p e)) xs in
    record {
      one_each = c.mark_symbol.ensures.one_each ∙ c.loop-entry.invariant.one_each;
      marks = marks-of-equal-tests (λ n. led (take i es) n || same_symbol (Some n) c.target_of.result) _
          c.mark_symbol.new.marks.items
          (λ n. ap (λ (o : Option ℕ). led (take i es) n || same_symbol (Some n) o) c.target_of.ensures
          ∙ sym (list_any_more (λ e. same_symbol (Some n) (target_of p e)) es i 0 c.loop-entry-test.true))
          (c.mark_symbol.ensures.marks (led (take i es)) c.loop-entry.invariant.marks);
    }

pub returns : goal.returns
returns c =
    let p = program_of c.args.p.now in
    let set = c.args.set.now in
    let es = c.deref-entry-items.result.now in
    let all : take c.loop-entry.entry-index es ≡ entries p set =
    take_all c.loop-entry.entry-index es c.loop-entry-test.false
    ∙ (c.deref-entry-items.ensures.value ∙ c.in_ok-entering.ensures) in
    let marks : AreMarks (is_entered p set) c.deref.result.now =
    subst (AreMarks (is_entered p set)) (sym c.deref.ensures.value)
    (subst (λ (xs : List ℕ). AreMarks (λ a. list_any (λ e. same_symbol (Some a) (target_of p e)) xs)
    c.loop-entry.marks.items) all
    c.loop-entry.invariant.marks) in
    let size : length c.deref.result.now ≡ length c.args.p.now.symbols.items =
    ap length c.deref.ensures.value ∙ c.loop-entry.invariant.one_each in
    IfOk-weaker c.are_marked.result
    (λ (flags : Vec Bool Global). (test : ℕ → Bool) → AreMarks test c.deref.result.now
    → flags.items ≡ map test (range_with_len 0 (length c.deref.result.now)))
    (λ (flags : Vec Bool Global). flags.items ≡ map (is_entered p set)
    (range_with_len 0 (length c.args.p.now.symbols.items)))
    (λ flags h. h (is_entered p set) marks ∙ ap (λ (n : ℕ). map (is_entered p set) (range_with_len 0 n)) size)
    c.are_marked.ensures
