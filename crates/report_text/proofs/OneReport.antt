-- A text states at most one report: it is read line by line.
use Rattle.std.proofs.Common.{◌≡◌, ℕ, zero, suc, ◌+◌, ◌^◌, ◌≤◌, List, [], ◌∷◌, ◌++◌, length, map, get_or, drop}
use Rattle.std.proofs.Common.{Bool, Option, is_some, slice_get, refl, sym, ◌∙◌, ap, append_assoc, arith}
use Rattle.std.specs.List.{AllByRecursion, list_all}
use Rattle.std.proofs.lemmas.List.{length-map}
use Rattle.model.specs.Programs.{Symbol, Rule, Program, arity_in, arity_of}
use Rattle.its_model.specs.text_core.Names.{AreNames}
use Rattle.its_model.specs.Valid.{IsValid, IsValidSymbol}
use Rattle.outcome.specs.Reports.{RuleCost, Size, Report, is_bounded, spendings}
use Rattle.report_text.specs.Pieces.{numbered_lines}
use Rattle.report_text.specs.Reports.{headline, time_line, cost_line, total_line, size_lines}
use Rattle.report_text.specs.Reports.{why_time, why_cost, why_sizes, text_of_report}
use Rattle.report_text.specs.States.{States}
use Rattle.report_text.specs.Printable.{IsPrintableSize, IsPrintableReport}
use Rattle.report_text.specs.OneReport.{TextsStateOneReport}
use Rattle.report_text.proofs.SymbolNames.{names_of, are_names, valid_names}
use Rattle.report_text.proofs.EntryLines.{BothHaveCost, HaveSameSizeEnds, headline_determined, times_say, costs_say, total_says}
use Rattle.report_text.proofs.EntryLines.{rows_say, total_determined}
use Rattle.report_text.proofs.WhyLines.{FitsRow, sizes_no_cost, others_no_time, why_times_determined, why_costs_determined}
use Rattle.report_text.proofs.WhyLines.{why_sizes_determined}
use Rattle.report_text.proofs.Numbered.{Pairs}

-- symbols have few places
arity_small : (symbols : List Symbol) (s : ℕ) → AllByRecursion IsValidSymbol symbols → 1 + arity_in (slice_get symbols s) ≤ 2 ^ 64
arity_small [] s are = omega arith
arity_small (x ∷ symbols) zero are = let few = are.0.arity in omega (arith, few)
arity_small (x ∷ symbols) (suc s) are = arity_small symbols s are.1

-- the rows of sizes have an entry for each place of a target
abbrev HasPlaces : Program → List (List Size) → List Rule → Type 0
HasPlaces p rows rules = map length rows ≡ map (λ rule. arity_of p rule.target) rules

-- the rows of sizes of a report are short
rows_short : (p : Program) → IsValid p → (rows : List (List Size)) (rules : List Rule) → HasPlaces p rows rules → AllByRecursion (λ row. 1 + length row ≤ 2 ^ 64) rows
rows_short p valid [] rules e = tt
rows_short p valid (row ∷ rows) [] e = absurd cc
rows_short p valid (row ∷ rows) (rule ∷ rules) e =
    let few = arity_small p.symbols rule.target valid.symbols in
    let same : length row ≡ arity_of p rule.target = ap (λ (xs : List ℕ). get_or xs 0 0) e in
    (omega (arith, few, same), rows_short p valid rows rules (ap (drop 1) e))

-- the rows of sizes of two reports on one program are paired
rows_paired : (p : Program) (rs ss : List (List Size)) (rules : List Rule) → HasPlaces p rs rules → HasPlaces p ss rules → Pairs (λ r s. length r ≡ length s) rs ss
rows_paired p [] [] rules a b = tt
rows_paired p [] (s ∷ ss) [] a b = absurd cc
rows_paired p [] (s ∷ ss) (rule ∷ rules) a b = absurd cc
rows_paired p (r ∷ rs) [] [] a b = absurd cc
rows_paired p (r ∷ rs) [] (rule ∷ rules) a b = absurd cc
rows_paired p (r ∷ rs) (s ∷ ss) [] a b = absurd cc
rows_paired p (r ∷ rs) (s ∷ ss) (rule ∷ rules) a b =
    (ap (λ (xs : List ℕ). get_or xs 0 0) (a ∙ sym b), rows_paired p rs ss rules (ap (drop 1) a) (ap (drop 1) b))

-- there are as many rows as rules
rows_many : (p : Program) (rows : List (List Size)) (rules : List Rule) → HasPlaces p rows rules → length rows ≡ length rules
rows_many p [] [] e = refl
rows_many p [] (rule ∷ rules) e = absurd cc
rows_many p (row ∷ rows) [] e = absurd cc
rows_many p (row ∷ rows) (rule ∷ rules) e = ap suc (rows_many p rows rules (ap (drop 1) e))

-- rows of entries that fit, if they are short, fit
rows_fit : (p : Program) (rows : List (List Size)) → AllByRecursion (AllByRecursion (IsPrintableSize p)) rows → AllByRecursion (λ row. 1 + length row ≤ 2 ^ 64) rows → AllByRecursion (FitsRow p) rows
rows_fit p [] f g = tt
rows_fit p (row ∷ rows) f g = ((f.0, g.0), rows_fit p rows f.1 g.1)

-- costs of two reports on one program are paired: both are there, or neither is
costs_paired : (cs ds : List (Option RuleCost)) → map is_some cs ≡ map is_some ds → Pairs BothHaveCost cs ds
costs_paired [] [] e = tt
costs_paired [] (d ∷ ds) e = absurd cc
costs_paired (c ∷ cs) [] e = absurd cc
costs_paired (c ∷ cs) (d ∷ ds) e = (ap (λ (bs : List Bool). get_or bs 0 (is_some c)) e, costs_paired cs ds (ap (drop 1) e))

-- there are as many entries for costs as rules
costs_many : (cs : List (Option RuleCost)) (rules : List Rule) → map is_some cs ≡ map (λ rule. is_some rule.cost) rules → length cs ≡ length rules
costs_many cs rules e = sym (length-map cs is_some) ∙ (ap length e ∙ length-map rules (λ rule. is_some rule.cost))

-- the lines of a text, one part after the other
parts_in_order : (a b c d e w x s : List ℕ) → (a ++ (b ++ (c ++ (d ++ e)))) ++ (w ++ (x ++ s)) ≡ a ++ (b ++ (c ++ (d ++ (e ++ (w ++ (x ++ s))))))
parts_in_order a b c d e w x s =
    let more = w ++ (x ++ s) in
    append_assoc a (b ++ (c ++ (d ++ e))) more
    ∙ ap (λ (t : List ℕ). a ++ t) (append_assoc b (c ++ (d ++ e)) more
    ∙ ap (λ (t : List ℕ). b ++ t) (append_assoc c (d ++ e) more ∙ ap (λ (t : List ℕ). c ++ t) (append_assoc d e more)))

-- the parts of a report's text
parts_of : (p : Program) (r : Report) → text_of_report p r
    ≡ headline r ++ (numbered_lines (time_line p.start_names) 1 r.times ++ (numbered_lines (cost_line p.start_names) 1 r.costs
    ++ (total_line p.start_names r.total ++ (numbered_lines (size_lines p.start_names) 1 r.sizes
    ++ (numbered_lines (why_time p.symbols) 1 r.times ++ (numbered_lines why_cost 1 r.costs ++ numbered_lines why_sizes 1 r.sizes))))))
unfolding text_of_report
parts_of p r =
    parts_in_order (headline r) (numbered_lines (time_line p.start_names) 1 r.times) (numbered_lines (cost_line p.start_names) 1 r.costs)
    (total_line p.start_names r.total) (numbered_lines (size_lines p.start_names) 1 r.sizes)
    (numbered_lines (why_time p.symbols) 1 r.times) (numbered_lines why_cost 1 r.costs) (numbered_lines why_sizes 1 r.sizes)

-- the lines of sizes determine them: the two entries of each pair are the same, they are printable, and the rest of the
-- text is the same
record SizesAreDetermined (p : Program) (rs ss : List (List Size)) (u v : List ℕ) : Type 0 where
  pub say : Pairs (Pairs (HaveSameSizeEnds p.start_names)) rs ss
  pub left : AllByRecursion (FitsRow p) rs
  pub right : AllByRecursion (FitsRow p) ss
  pub few : 1 + length rs ≤ 2 ^ 64
  pub less : 1 + length ss ≤ 2 ^ 64
  pub rest : u ≡ v

module _ (p : Program) (valid : IsValid p) where
  -- the names of the start arguments differ
  starts : AreNames p.start_names
  starts = are_names p.start_names valid.start_names valid.start_distinct

  -- the names of the symbols differ
  named : AreNames (names_of p.symbols)
  named = are_names (names_of p.symbols) (valid_names p.symbols valid.symbols) valid.distinct

  -- the lines of a report's reasons
  abbrev reasons : Report → List ℕ
  reasons r = numbered_lines (why_time p.symbols) 1 r.times ++ (numbered_lines why_cost 1 r.costs ++ numbered_lines why_sizes 1 r.sizes)

  -- the lines of rules are few
  few_lines : (n : ℕ) → n ≡ length p.rules → 1 + n ≤ 2 ^ 64
  few_lines n e = let few = valid.few_rules in omega (arith, few, e)

  -- the sizes of two reports with one text are the same
  size_rows_determined : (r q : Report) → IsPrintableReport p r → IsPrintableReport p q → HasPlaces p r.sizes p.rules → HasPlaces p q.sizes p.rules
      → numbered_lines (size_lines p.start_names) 1 r.sizes ++ reasons r ≡ numbered_lines (size_lines p.start_names) 1 q.sizes ++ reasons q
      → SizesAreDetermined p r.sizes q.sizes (reasons r) (reasons q)
  size_rows_determined r q f g a b e =
      let left = rows_short p valid r.sizes p.rules a in
      let right = rows_short p valid q.sizes p.rules b in
      let few = few_lines (length r.sizes) (rows_many p r.sizes p.rules a) in
      let less = few_lines (length q.sizes) (rows_many p q.sizes p.rules b) in
      let said = rows_say p.start_names starts r.sizes q.sizes (reasons r) (reasons q) (rows_paired p r.sizes q.sizes p.rules a b) left right few less e in
      record { say = said.0; left = rows_fit p r.sizes f.sizes left; right = rows_fit p q.sizes g.sizes right; few = few; less = less; rest = said.1 }

  -- two reports with one text are equal
  same_report : (text : List ℕ) (r q : Report) → IsPrintableReport p r → IsPrintableReport p q → States p text r → States p text q → r ≡ q
  same_report text r q f g s t =
      let names = p.start_names in
      let sizes = λ (o : Report). numbered_lines (size_lines names) 1 o.sizes ++ reasons o in
      let total = λ (o : Report). total_line names o.total ++ sizes o in
      let costs = λ (o : Report). numbered_lines (cost_line names) 1 o.costs ++ total o in
      let times = λ (o : Report). numbered_lines (time_line names) 1 o.times ++ costs o in
      let head = headline_determined (is_bounded r) (is_bounded q) (times r) (times q) (sym (parts_of p r) ∙ (sym s.text_of ∙ (t.text_of ∙ parts_of p q))) in
      let few = few_lines (length r.times) s.report.times in
      let less = few_lines (length q.times) t.report.times in
      let said = times_say names starts r.times q.times (costs r) (costs q) (s.report.times ∙ sym t.report.times) few head.1 in
      let few_costs = few_lines (length r.costs) (costs_many r.costs p.rules s.report.costs) in
      let less_costs = few_lines (length q.costs) (costs_many q.costs p.rules t.report.costs) in
      let paid = costs_say names starts r.costs q.costs (total r) (total q) (costs_paired r.costs q.costs (s.report.costs ∙ sym t.report.costs)) few_costs less_costs said.1 in
      let summed = total_says names starts r.total q.total (sizes r) (sizes q) paid.1 in
      let rows = size_rows_determined r q f g s.report.sizes t.report.sizes summed.1 in
      let why = why_times_determined p starts named r.times q.times (numbered_lines why_cost 1 r.costs ++ numbered_lines why_sizes 1 r.sizes)
      (numbered_lines why_cost 1 q.costs ++ numbered_lines why_sizes 1 q.sizes) few less f.times g.times said.0
      (λ n. others_no_time n r.costs r.sizes) (λ n. others_no_time n q.costs q.sizes) rows.rest in
      let why_costs = why_costs_determined p starts named r.costs q.costs (numbered_lines why_sizes 1 r.sizes) (numbered_lines why_sizes 1 q.sizes) few_costs less_costs f.costs g.costs paid.0
      (λ n. sizes_no_cost n 1 r.sizes) (λ n. sizes_no_cost n 1 q.sizes) why.1 in
      let places = why_sizes_determined p starts named r.sizes q.sizes rows.few rows.less rows.left rows.right rows.say why_costs.1 in
      let known : list_all is_some (spendings r.times r.costs) ≡ list_all is_some (spendings q.times q.costs) =
      λ i. list_all is_some (spendings (why.0 i) (why_costs.0 i)) in
      let whole = total_determined p starts r.total q.total f.total g.total
      (λ there. t.report.total.0 (sym known ∙ s.report.total.1 there)) (λ there. s.report.total.0 (known ∙ t.report.total.1 there)) summed.0 in
      λ i. record { times = why.0 i; costs = why_costs.0 i; total = whole i; sizes = places i }

-- a text states at most one report
pub one_report : TextsStateOneReport
one_report = record { each = λ p text r q valid f g s t. same_report p valid text r q f g s t }
