-- The worked lines give reasons or don't, and the worked reports may have been written or not.
use Rattle.std.proofs.Common.{◌≡◌, ℕ, zero, suc, Bool, true, false, cond, inl, inr, List, [], ◌∷◌, ◌++◌, length, get_or}
use Rattle.std.proofs.Common.{◌⊎◌, Some, None, refl, sym, ◌∙◌, ap, subst, codes, decimal, arith}
use Rattle.std.specs.List.{AllByRecursion}
use Rattle.std.specs.Fmt.{digits}
use Rattle.std.proofs.lemmas.List.{append_cancel_left}
use Rattle.model.specs.Bounds.{Bound, Constant, Input}
use Rattle.model.specs.Facts.{HoldsTime, HoldsSize, HoldsCost, HoldsTotal}
use Rattle.model.specs.WorkedRuns.{countdown}
use Rattle.model.proofs.WorkedFacts.{times_hold, sizes_hold}
use Rattle.model.proofs.WorkedTotals.{totals_hold}
use Rattle.its_writer.specs.Spellable.{IsSpellable}
use Rattle.outcome.specs.Reports.{Time, Timed, Costed, Sized, Report, is_bounded}
use Rattle.outcome.specs.Holding.{ReportHolds, numbered_entry, place_entry}
use Rattle.report_text.specs.Pieces.{numbered_lines}
use Rattle.report_text.specs.Reports.{time_end, time_line, cost_line, total_line, size_lines, bounds_text}
use Rattle.call_plans.specs.Calls.{SinkUse}
use Rattle.headline.specs.Reasons.{text_of_lines, BeginsWith, IsReasonLine, GivesReasons}
use Rattle.headline.specs.Written.{WroteBounds}
use Rattle.headline.specs.Worked.{LinesAreWorkedOut, sink_use_appending, countdown_report, countdown_report_without_time, CountdownIsReported}

-- the first byte of a line that gives a reason is `w` or a blank
reason_first : (line : List ℕ) → IsReasonLine line → ¬ (get_or line 0 0 ≡ 119) → ¬ (get_or line 0 0 ≡ 32) → ⊥
reason_first line is no_why no_blank = go is.begins
  where
    go : BeginsWith (codes "why ") line ⊎ BeginsWith (codes "  ") line → ⊥
    go (inl (rest, e)) = no_why (ap (λ (w : List ℕ). get_or w 0 0) e)
    go (inr (rest, e)) = no_blank (ap (λ (w : List ℕ). get_or w 0 0) e)

-- a text with reasons has no byte, or its first byte is `w` or a blank
text_first : (text : List ℕ) → GivesReasons text → ¬ (text ≡ []) → ¬ (get_or text 0 0 ≡ 119)
    → ¬ (get_or text 0 0 ≡ 32) → ⊥
text_first text is some no_why no_blank = go is.lines is.is_text is.each
  where
    go : (lines : List (List ℕ)) → text ≡ text_of_lines lines → AllByRecursion IsReasonLine lines → ⊥
    go [] e each = some e
    go (line ∷ lines) e each = by each.0.begins
      where
        by : BeginsWith (codes "why ") line ⊎ BeginsWith (codes "  ") line → ⊥
        by (inl (rest, f)) =
            no_why (ap (λ (w : List ℕ). get_or w 0 0) e
            ∙ ap (λ (w : List ℕ). get_or (w ++ (codes "\n" ++ text_of_lines lines)) 0 0) f)
        by (inr (rest, f)) =
            no_blank (ap (λ (w : List ℕ). get_or w 0 0) e
            ∙ ap (λ (w : List ℕ). get_or (w ++ (codes "\n" ++ text_of_lines lines)) 0 0) f)

-- the last byte of a text with reasons is a line feed: so `why` gives none
three_bytes : GivesReasons (codes "why") → ⊥
three_bytes is = go is.lines is.is_text is.each
  where
    go : (lines : List (List ℕ)) → codes "why" ≡ text_of_lines lines → AllByRecursion IsReasonLine lines → ⊥
    go [] e each = let none : 119 ≡ 0 = ap (λ (w : List ℕ). get_or w 0 0) e in omega (arith, none)
    go (line ∷ lines) e each = by each.0.begins
      where
        by : BeginsWith (codes "why ") line ⊎ BeginsWith (codes "  ") line → ⊥
        by (inl (rest, f)) =
            let blank : 0 ≡ 32 =
            ap (λ (w : List ℕ). get_or w 3 0) e
            ∙ ap (λ (w : List ℕ). get_or (w ++ (codes "\n" ++ text_of_lines lines)) 3 0) f in
            omega (arith, blank)
        by (inr (rest, f)) =
            let letter : 119 ≡ 32 =
            ap (λ (w : List ℕ). get_or w 0 0) e
            ∙ ap (λ (w : List ℕ). get_or (w ++ (codes "\n" ++ text_of_lines lines)) 0 0) f in
            omega (arith, letter)

-- lines of reasons
why_size : IsReasonLine (codes "why size 2.1: loose up")
why_size = record { begins = inl (codes "size 2.1: loose up", refl); one_line = refl }

ray : IsReasonLine (codes "  ray: (1)")
ray = record { begins = inr (codes "ray: (1)", refl); one_line = refl }

kept : IsReasonLine (codes "  kept: (0) / 1")
kept = record { begins = inr (codes "kept: (0) / 1", refl); one_line = refl }

why_time : IsReasonLine (codes "why time 2: large 9 nodes")
why_time = record { begins = inl (codes "time 2: large 9 nodes", refl); one_line = refl }

pub lines_worked : LinesAreWorkedOut
lines_worked = record {
  first = why_time;
  further = record { begins = inr (codes "kept 2: (1, -1) / 1", refl); one_line = refl };
  of_bound = λ h. reason_first (codes "time 2: 9") h (λ e. let e : 116 ≡ 119 = e in omega (arith, e)) (λ e. let e : 116 ≡ 32 = e in omega (arith, e));
  empty = λ h. reason_first [] h (λ e. let e : 0 ≡ 119 = e in omega (arith, e)) (λ e. let e : 0 ≡ 32 = e in omega (arith, e));
  two_lines = λ h. let one : false ≡ true = h.one_line in cc;
  nothing = record { lines = []; is_text = refl; each = tt };
  lines = record {
    lines = codes "why size 2.1: loose up" ∷ codes "  ray: (1)" ∷ codes "  kept: (0) / 1" ∷ [];
    is_text = refl;
    each = (why_size, (ray, (kept, tt)));
  };
  bound = λ h.
      text_first (codes "time 2: 9\n") h (λ e. let some : 116 ≡ 0 = ap (λ (w : List ℕ). get_or w 0 0) e in omega (arith, some))
      (λ e. let e : 116 ≡ 119 = e in omega (arith, e)) (λ e. let e : 116 ≡ 32 = e in omega (arith, e));
  no_end = three_bytes;
}

-- the program can be spelled
spellable : IsSpellable countdown
spellable = record {
  names = ((refl, refl), ((refl, refl), tt));
  distinct = (refl, (refl, tt));
  order = (omega arith, omega arith, (omega arith, omega arith, tt));
  known = refl;
  rules = (
    record {
      names = ((refl, refl), ((refl, refl), tt));
      distinct = (refl, (refl, tt));
      named = refl;
      source_arity = refl;
      target_arity = refl;
      target = refl;
      terms = (omega arith, (omega arith, tt));
      known = refl;
    },
    (
      record {
        names = ((refl, refl), ((refl, refl), tt));
        distinct = (refl, (refl, tt));
        named = refl;
        source_arity = refl;
        target_arity = refl;
        target = refl;
        terms = ((omega arith, tt), (omega arith, (omega arith, (tt, (omega arith, (tt, tt))))));
        known = refl;
      },
      tt,
    ),
  );
  start = omega arith;
  start_names = refl;
}

-- nothing isn't something
none_some : {A : Type 0} {x : A} → None ≡ Some x → ⊥
none_some e = cc

-- the bounds of the report hold on all runs
first_time : (b : Bound) → Some (Timed (Constant 1)) ≡ Some (Timed b) → HoldsTime countdown 1 b
first_time b e = let same : Constant 1 ≡ b = cc in subst (HoldsTime countdown 1) same times_hold.first

times_all : (t : ℕ) (b : Bound) → numbered_entry countdown_report.times t ≡ Some (Timed b) → HoldsTime countdown t b
times_all zero b e = absurd (none_some e)
times_all (suc zero) b e = first_time b e
times_all (suc (suc zero)) b e = let same : Constant 9 ≡ b = cc in subst (HoldsTime countdown 2) same times_hold.loop
times_all (suc (suc (suc t))) b e = absurd (none_some e)

times_some : (t : ℕ) (b : Bound) → numbered_entry countdown_report_without_time.times t ≡ Some (Timed b) → HoldsTime countdown t b
times_some zero b e = absurd (none_some e)
times_some (suc zero) b e = first_time b e
times_some (suc (suc zero)) b e = absurd (let never : ⊥ = cc in never)
times_some (suc (suc (suc t))) b e = absurd (none_some e)

costs_none : (t : ℕ) (b : Bound) → numbered_entry countdown_report.costs t ≡ Some (Some (Costed b)) → HoldsCost countdown t b
costs_none zero b e = absurd (none_some e)
costs_none (suc zero) b e = absurd (let never : ⊥ = cc in never)
costs_none (suc (suc zero)) b e = absurd (let never : ⊥ = cc in never)
costs_none (suc (suc (suc t))) b e = absurd (none_some e)

sizes_all : (t i : ℕ) (b : Bound) → place_entry (numbered_entry countdown_report.sizes t) i ≡ Some (Sized b) → HoldsSize countdown t i b
sizes_all zero i b e = absurd (none_some e)
sizes_all (suc zero) zero b e = absurd (none_some e)
sizes_all (suc zero) (suc zero) b e = let same : Input 0 ≡ b = cc in subst (HoldsSize countdown 1 1) same sizes_hold.first_first
sizes_all (suc zero) (suc (suc zero)) b e = let same : Input 1 ≡ b = cc in subst (HoldsSize countdown 1 2) same sizes_hold.first_second
sizes_all (suc zero) (suc (suc (suc i))) b e = absurd (none_some e)
sizes_all (suc (suc zero)) zero b e = absurd (none_some e)
sizes_all (suc (suc zero)) (suc zero) b e = let same : Constant 8 ≡ b = cc in subst (HoldsSize countdown 2 1) same sizes_hold.loop_first
sizes_all (suc (suc zero)) (suc (suc zero)) b e = let same : Constant 9 ≡ b = cc in subst (HoldsSize countdown 2 2) same sizes_hold.loop_second
sizes_all (suc (suc zero)) (suc (suc (suc i))) b e = absurd (none_some e)
sizes_all (suc (suc (suc t))) i b e = absurd (none_some e)

all_hold : ReportHolds countdown countdown_report
all_hold = record {
  times = times_all;
  costs = costs_none;
  total = λ b e. let same : Constant 10 ≡ b = cc in subst (HoldsTotal countdown) same totals_hold.plain;
  sizes = sizes_all;
}

some_hold : ReportHolds countdown countdown_report_without_time
some_hold = record { times = times_some; costs = costs_none; total = λ b e. absurd (none_some e); sizes = sizes_all }

-- no report was written in which a bound is too small, or which lacks a time
module _ (put : SinkUse) (r : Report) where
  no_time_less : numbered_entry r.times 2 ≡ Some (Timed (Constant 8)) → ¬ (WroteBounds countdown put r)
  no_time_less e wrote = times_hold.loop_less (wrote.true_on_all_runs.times 2 (Constant 8) e)

  no_size_less : place_entry (numbered_entry r.sizes 2) 1 ≡ Some (Sized (Constant 7)) → ¬ (WroteBounds countdown put r)
  no_size_less e wrote = sizes_hold.loop_first_less (wrote.true_on_all_runs.sizes 2 1 (Constant 7) e)

  no_total_less : r.total ≡ Some (Constant 9) → ¬ (WroteBounds countdown put r)
  no_total_less e wrote = totals_hold.plain_less (wrote.true_on_all_runs.total (Constant 9) e)

  no_time_lacking : length r.times ≡ 1 → ¬ (WroteBounds countdown put r)
  no_time_lacking e wrote = let two : 1 ≡ 2 = sym e ∙ wrote.on_program.times in omega (arith, two)

-- what was appended is the text
appended_text : (bytes text : List ℕ) → codes "old " ++ bytes ≡ codes "old " ++ text → bytes ≡ text
appended_text bytes text e = append_cancel_left (codes "old ") bytes text e

unwritten : (r : Report) → ¬ (WroteBounds countdown (sink_use_appending []) r)
unwritten r wrote = go (is_bounded r) _ text
  where
    text : [] ≡ bounds_text countdown.start_names r ++ wrote.reasons
    text = appended_text [] (bounds_text countdown.start_names r ++ wrote.reasons) wrote.appended

    go : (b : Bool) (lines : List ℕ) → [] ≡ (cond b (codes "bounded\n") (codes "unknown\n") ++ lines) ++ wrote.reasons → ⊥
    go true lines e = let none : 0 ≡ 98 = ap (λ (w : List ℕ). get_or w 0 0) e in omega (arith, none)
    go false lines e = let none : 0 ≡ 117 = ap (λ (w : List ℕ). get_or w 0 0) e in omega (arith, none)

-- the lines after a headline have some byte where there is a time
headline_alone : (r : Report) → ¬ (WroteBounds countdown (sink_use_appending (codes "bounded\n")) r)
headline_alone r wrote = go r.times wrote.on_program.times text
  where
    text : codes "bounded\n" ≡ bounds_text countdown.start_names r ++ wrote.reasons
    text = appended_text (codes "bounded\n") (bounds_text countdown.start_names r ++ wrote.reasons) wrote.appended

    by : (b : Bool) (more behind others : List ℕ)
        → codes "bounded\n" ≡ (cond b (codes "bounded\n") (codes "unknown\n") ++ (((codes "time " ++ more) ++ behind) ++ others)) ++ wrote.reasons
        → ⊥
    by true more behind others e = let none : 0 ≡ 116 = ap (λ (w : List ℕ). get_or w 8 0) e in omega (arith, none)
    by false more behind others e = let other : 98 ≡ 117 = ap (λ (w : List ℕ). get_or w 0 0) e in omega (arith, other)

    go : (times : List Time) → length times ≡ 2
        → codes "bounded\n" ≡ bounds_text countdown.start_names (record r { times = times }) ++ wrote.reasons → ⊥
    go [] few e = omega (arith, few)
    go (t ∷ times) few e =
        let names = countdown.start_names in
        by (is_bounded (record r { times = t ∷ times })) (decimal 1 ++ (codes ": " ++ time_end names t))
        (numbered_lines (time_line names) 2 times)
        (numbered_lines (cost_line names) 1 r.costs ++ (total_line names r.total ++ numbered_lines (size_lines names) 1 r.sizes))
        e

pub countdown_reported : CountdownIsReported
unfolding digits
countdown_reported = record {
  text = refl;
  spellable = spellable;
  all = record {
    on_program = record { times = refl; costs = refl; total = (λ h. refl, λ h. refl); sizes = refl };
    reasons = [];
    are_reasons = record { lines = []; is_text = refl; each = tt };
    appended = refl;
    true_on_all_runs = all_hold;
  };
  all_bounded = refl;
  some = record {
    on_program = record { times = refl; costs = refl; total = (λ h. h, λ h. h); sizes = refl };
    reasons = codes "why time 2: large 9 nodes\n";
    are_reasons = record { lines = codes "why time 2: large 9 nodes" ∷ []; is_text = refl; each = (why_time, tt) };
    appended = refl;
    true_on_all_runs = some_hold;
  };
  some_bounded = refl;
  time_less = no_time_less;
  size_less = no_size_less;
  total_less = no_total_less;
  time_lacking = no_time_lacking;
  unwritten = unwritten;
  headline_alone = headline_alone;
}
