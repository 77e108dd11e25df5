-- The lines that say why times, bounds on costs and sizes are missing determine which these are, and why.
use Rattle.std.proofs.Common.{◌≡◌, ℕ, suc, ◌+◌, ◌^◌, ◌<◌, ◌≤◌, List, [], ◌∷◌, ◌++◌, length, get_or, codes, decimal}
use Rattle.std.proofs.Common.{◌≢◌, Option, Some, None, refl, sym, ◌∙◌, ap, append_assoc, append-nil, arith}
use Rattle.std.specs.List.{AllByRecursion}
use Rattle.model.specs.Programs.{Program}
use Rattle.model.specs.Bounds.{Bound}
use Rattle.its_model.specs.text_core.Names.{AreNames}
use Rattle.its_model.proofs.text_core.PrefixLaws.{Stops}
use Rattle.outcome.specs.Reports.{Time, Timed, Untimed, NoSize, RuleCost, Costed, Uncosted, Size, Sized, Unsized}
use Rattle.report_text.specs.Pieces.{place_text, numbered_lines}
use Rattle.report_text.specs.Reasons.{no_time_text, no_size_text}
use Rattle.report_text.specs.Reports.{why_time, why_cost, why_size, why_sizes}
use Rattle.report_text.specs.Printable.{IsShort, IsPrintableTime, IsPrintableCost, IsPrintableSize}
use Rattle.report_text.proofs.DistinguishedTexts.{Determines, Any, determined_before, same_after_word, after_word, after_three_words}
use Rattle.report_text.proofs.Digits.{is_number_byte, number_determined}
use Rattle.report_text.proofs.Points.{pair_determined}
use Rattle.report_text.proofs.SymbolNames.{names_of}
use Rattle.report_text.proofs.GapLines.{AreReasonsOrNothing}
use Rattle.report_text.proofs.ReasonLines.{no_time_determined, no_size_determined}
use Rattle.report_text.proofs.BoundLines.{bound_same}
use Rattle.report_text.proofs.EntryLines.{HaveSameTimeEnds, HaveSameCostEnds, HaveSameSizeEnds}
use Rattle.report_text.proofs.Numbered.{Pairs, pairs_same, numbered_determined}

-- nothing follows, or a reason that doesn't begin with this text
pub record BeginsOtherwise (lead u : List ℕ) : Type 0 where
  pub whys : AreReasonsOrNothing u
  pub no : (w : List ℕ) → u ≡ lead ++ w → ⊥

-- the beginning of the reason of a rule
abbrev pub time_lead : ℕ → List ℕ
time_lead n = codes "why time " ++ (decimal n ++ codes ": ")

-- the beginning of the reason of a rule's cost
abbrev pub cost_lead : ℕ → List ℕ
cost_lead n = codes "why cost " ++ (decimal n ++ codes ": ")

-- the beginning of the reason of a place
abbrev pub place_lead : ℕ → ℕ → List ℕ
place_lead rule n = codes "why size " ++ (place_text rule n ++ codes ": ")

-- the beginning of the reason of any place of a rule
abbrev pub row_lead : ℕ → List ℕ
row_lead n = codes "why size " ++ (decimal n ++ codes ".")

-- a text begins with its first three parts
begins : (a b c x u : List ℕ) → (a ++ (b ++ (c ++ x))) ++ u ≡ (a ++ (b ++ c)) ++ (x ++ u)
begins a b c x u =
    append_assoc a (b ++ (c ++ x)) u
    ∙ (ap (λ (w : List ℕ). a ++ w) (append_assoc b (c ++ x) u ∙ (ap (λ (w : List ℕ). b ++ w) (append_assoc c x u) ∙ sym (append_assoc b c (x ++ u))))
    ∙ sym (append_assoc a (b ++ c) (x ++ u)))

-- two reasons that begin alike are of the same rule, or of the same place
lead_key : {K : Type 0} {Fits : K → Type 0} {key : K → List ℕ} (determined : Determines Fits key (Stops is_number_byte)) (a : List ℕ) (k l : K) → Fits k → Fits l → (x y : List ℕ)
    → (a ++ (key k ++ codes ": ")) ++ x ≡ (a ++ (key l ++ codes ": ")) ++ y → k ≡ l
lead_key {K} {Fits} {key} determined a k l p q x y e =
    ((determined_before determined (codes ": ") Any (λ u s. refl)).each k l x y p q tt tt (after_word a (key k ++ codes ": ") (key l ++ codes ": ") x y e)).0

module _ (p : Program) (are : AreNames p.start_names) (named : AreNames (names_of p.symbols)) where
  -- the reasons why the times of two rules are missing, if they are, are the same
  time_step : (n : ℕ) (t s : Time) (u v : List ℕ) → n < 2 ^ 64 → IsPrintableTime p t → IsPrintableTime p s → HaveSameTimeEnds p.start_names t s
      → BeginsOtherwise (time_lead n) u → BeginsOtherwise (time_lead n) v → why_time p.symbols n t ++ u ≡ why_time p.symbols n s ++ v → (t ≡ s) × (u ≡ v)
  time_step n (Timed a) (Timed b) u v short f g like k l e = (ap Timed (bound_same p.start_names are a b f g like), e)
  time_step n (Timed a) (Untimed w) u v short f g like k l e = absurd (k.no _ (e ∙ begins (codes "why time ") (decimal n) (codes ": ") (no_time_text p.symbols w) v))
  time_step n (Untimed w) (Timed b) u v short f g like k l e = absurd (l.no _ (sym e ∙ begins (codes "why time ") (decimal n) (codes ": ") (no_time_text p.symbols w) u))
  time_step n (Untimed w) (Untimed z) u v short f g like k l e =
      let r = (no_time_determined p.symbols named).each w z u v f g k.whys l.whys
      (after_three_words (codes "why time ") (decimal n) (codes ": ") (no_time_text p.symbols w) (no_time_text p.symbols z) u v e) in
      (ap Untimed r.0, r.1)

  -- the reason of a later rule is later
  time_later : (n m : ℕ) (t : Time) (u : List ℕ) → n < m → m < 2 ^ 64 → BeginsOtherwise (time_lead n) u → BeginsOtherwise (time_lead n) (why_time p.symbols m t ++ u)
  time_later n m (Timed b) u over short h = h
  time_later n m (Untimed w) u over short h = record {
    whys = refl;
    no = λ x e.
        let same = lead_key number_determined (codes "why time ") m n short (omega (arith, over, short)) (no_time_text p.symbols w ++ u) x
        (sym (begins (codes "why time ") (decimal m) (codes ": ") (no_time_text p.symbols w) u) ∙ e) in
        omega (arith, over, same);
  }

  -- the reasons of all missing times are determined
  pub why_times_determined : (ts ss : List Time) (u v : List ℕ) → 1 + length ts ≤ 2 ^ 64 → 1 + length ss ≤ 2 ^ 64 → AllByRecursion (IsPrintableTime p) ts → AllByRecursion (IsPrintableTime p) ss
      → Pairs (HaveSameTimeEnds p.start_names) ts ss → ((n : ℕ) → BeginsOtherwise (time_lead n) u) → ((n : ℕ) → BeginsOtherwise (time_lead n) v)
      → numbered_lines (why_time p.symbols) 1 ts ++ u ≡ numbered_lines (why_time p.symbols) 1 ss ++ v → (ts ≡ ss) × (u ≡ v)
  why_times_determined ts ss u v few less f g like k l e =
      let r = numbered_determined (IsPrintableTime p) (HaveSameTimeEnds p.start_names) (λ t s. t ≡ s) (λ n w. BeginsOtherwise (time_lead n) w) (why_time p.symbols) time_step time_later 1 ts ss u v few less f g like k l e in
      (pairs_same ts ss r.0, r.1)

  -- the reasons why the bounds on two rules' costs are missing, if they are, are the same
  cost_step : (n : ℕ) (c d : Option RuleCost) (u v : List ℕ) → n < 2 ^ 64 → IsPrintableCost p c → IsPrintableCost p d → HaveSameCostEnds p.start_names c d
      → BeginsOtherwise (cost_lead n) u → BeginsOtherwise (cost_lead n) v → why_cost n c ++ u ≡ why_cost n d ++ v → (c ≡ d) × (u ≡ v)
  cost_step n None None u v short f g like k l e = (refl, e)
  cost_step n None (Some d) u v short f g like k l e = absurd like
  cost_step n (Some c) None u v short f g like k l e = absurd like
  cost_step n (Some (Costed a)) (Some (Costed b)) u v short f g like k l e = (ap (λ (b : Bound). Some (Costed b)) (bound_same p.start_names are a b f g like), e)
  cost_step n (Some (Costed a)) (Some (Uncosted w)) u v short f g like k l e = absurd (k.no _ (e ∙ begins (codes "why cost ") (decimal n) (codes ": ") (no_size_text w) v))
  cost_step n (Some (Uncosted w)) (Some (Costed b)) u v short f g like k l e = absurd (l.no _ (sym e ∙ begins (codes "why cost ") (decimal n) (codes ": ") (no_size_text w) u))
  cost_step n (Some (Uncosted w)) (Some (Uncosted z)) u v short f g like k l e =
      let r = no_size_determined.each w z u v f g tt tt (after_three_words (codes "why cost ") (decimal n) (codes ": ") (no_size_text w) (no_size_text z) u v e) in
      (ap (λ (w : NoSize). Some (Uncosted w)) r.0, r.1)

  -- the reason of a later rule's cost is later
  cost_later : (n m : ℕ) (c : Option RuleCost) (u : List ℕ) → n < m → m < 2 ^ 64 → BeginsOtherwise (cost_lead n) u → BeginsOtherwise (cost_lead n) (why_cost m c ++ u)
  cost_later n m None u over short h = h
  cost_later n m (Some (Costed b)) u over short h = h
  cost_later n m (Some (Uncosted w)) u over short h = record {
    whys = refl;
    no = λ x e.
        let same = lead_key number_determined (codes "why cost ") m n short (omega (arith, over, short)) (no_size_text w ++ u) x
        (sym (begins (codes "why cost ") (decimal m) (codes ": ") (no_size_text w) u) ∙ e) in
        omega (arith, over, same);
  }

  -- the reasons of all missing bounds on costs are determined
  pub why_costs_determined : (cs ds : List (Option RuleCost)) (u v : List ℕ) → 1 + length cs ≤ 2 ^ 64 → 1 + length ds ≤ 2 ^ 64 → AllByRecursion (IsPrintableCost p) cs → AllByRecursion (IsPrintableCost p) ds
      → Pairs (HaveSameCostEnds p.start_names) cs ds → ((n : ℕ) → BeginsOtherwise (cost_lead n) u) → ((n : ℕ) → BeginsOtherwise (cost_lead n) v)
      → numbered_lines why_cost 1 cs ++ u ≡ numbered_lines why_cost 1 ds ++ v → (cs ≡ ds) × (u ≡ v)
  why_costs_determined cs ds u v few less f g like k l e =
      let r = numbered_determined (IsPrintableCost p) (HaveSameCostEnds p.start_names) (λ c d. c ≡ d) (λ n w. BeginsOtherwise (cost_lead n) w) why_cost cost_step cost_later 1 cs ds u v few less f g like k l e in
      (pairs_same cs ds r.0, r.1)

  -- the reasons why the sizes of two places are missing, if they are, are the same
  size_step : (rule n : ℕ) (t s : Size) (u v : List ℕ) → n < 2 ^ 64 → IsPrintableSize p t → IsPrintableSize p s → HaveSameSizeEnds p.start_names t s
      → BeginsOtherwise (place_lead rule n) u → BeginsOtherwise (place_lead rule n) v → why_size rule n t ++ u ≡ why_size rule n s ++ v → (t ≡ s) × (u ≡ v)
  size_step rule n (Sized a) (Sized b) u v short f g like k l e = (ap Sized (bound_same p.start_names are a b f g like), e)
  size_step rule n (Sized a) (Unsized w) u v short f g like k l e = absurd (k.no _ (e ∙ begins (codes "why size ") (place_text rule n) (codes ": ") (no_size_text w) v))
  size_step rule n (Unsized w) (Sized b) u v short f g like k l e = absurd (l.no _ (sym e ∙ begins (codes "why size ") (place_text rule n) (codes ": ") (no_size_text w) u))
  size_step rule n (Unsized w) (Unsized z) u v short f g like k l e =
      let r = no_size_determined.each w z u v f g tt tt (after_three_words (codes "why size ") (place_text rule n) (codes ": ") (no_size_text w) (no_size_text z) u v e) in
      (ap Unsized r.0, r.1)

-- the reason of a later place is later
size_later : (rule : ℕ) → IsShort rule → (n m : ℕ) (t : Size) (u : List ℕ) → n < m → m < 2 ^ 64 → BeginsOtherwise (place_lead rule n) u → BeginsOtherwise (place_lead rule n) (why_size rule m t ++ u)
size_later rule fits n m (Sized b) u over short h = h
size_later rule fits n m (Unsized w) u over short h = record {
  whys = refl;
  no = λ x e.
      let same = lead_key pair_determined (codes "why size ") (rule, m) (rule, n) (fits, short) (fits, (let less : n < 2 ^ 64 = omega (arith, over, short) in less)) (no_size_text w ++ u) x
      (sym (begins (codes "why size ") (place_text rule m) (codes ": ") (no_size_text w) u) ∙ e) in
      let e : m ≡ n = ap (λ (z : ℕ × ℕ). z.1) same in
      omega (arith, over, e);
}

-- a reason that is later than those of a rule's places is later than each of them
place_from_row : (rule n : ℕ) (u : List ℕ) → BeginsOtherwise (row_lead rule) u → BeginsOtherwise (place_lead rule n) u
place_from_row rule n u h = record {
  whys = h.whys;
  no = λ w e.
      h.no (decimal n ++ (codes ": " ++ w))
      (e ∙ ap (λ (x : List ℕ). codes "why size " ++ x)
      (append_assoc (decimal rule ++ (codes "." ++ decimal n)) (codes ": ") w
      ∙ (append_assoc (decimal rule) (codes "." ++ decimal n) (codes ": " ++ w)
      ∙ sym (append_assoc (decimal rule) (codes ".") (decimal n ++ (codes ": " ++ w))))));
}

-- the reasons of the places of a later rule are later
row_later : (n m k : ℕ) (row : List Size) (u : List ℕ) → n < m → m < 2 ^ 64 → BeginsOtherwise (row_lead n) u → BeginsOtherwise (row_lead n) (numbered_lines (why_size m) k row ++ u)
row_later n m k [] u over short h = h
row_later n m k (Sized b ∷ row) u over short h = row_later n m (suc k) row u over short h
row_later n m k (Unsized w ∷ row) u over short h = record {
  whys = refl;
  no = λ x e.
      let more = numbered_lines (why_size m) (suc k) row in
      let result_variable = decimal m ++ (codes "." ++ decimal k) in
      let words = codes ": " ++ no_size_text w in
      let behind : ((result_variable ++ words) ++ more) ++ u ≡ (decimal n ++ codes ".") ++ x = same_after_word (codes "why size ") (((result_variable ++ words) ++ more) ++ u) ((decimal n ++ codes ".") ++ x) e in
      let shape : ((result_variable ++ words) ++ more) ++ u ≡ decimal m ++ ((codes "." ++ decimal k) ++ (words ++ (more ++ u))) =
      append_assoc (result_variable ++ words) more u ∙ (append_assoc result_variable words (more ++ u) ∙ append_assoc (decimal m) (codes "." ++ decimal k) (words ++ (more ++ u))) in
      let same = (number_determined.each m n ((codes "." ++ decimal k) ++ (words ++ (more ++ u))) (codes "." ++ x) short (omega (arith, over, short)) refl refl
      (sym shape ∙ (behind ∙ append_assoc (decimal n) (codes ".") x))).0 in
      omega (arith, over, same);
}

-- the fifth byte of every text with this beginning is this one, which isn't the fifth byte of a reason of a place
record IsOtherLead (lead : List ℕ) : Type 0 where
  pub fifth : ℕ
  pub has : (w : List ℕ) → get_or (lead ++ w) 4 0 ≡ fifth
  pub some : fifth ≢ 0
  pub other : fifth ≢ 115

-- the reasons of places don't begin like those of times and of costs
row_other : (lead : List ℕ) → IsOtherLead lead → (rule k : ℕ) (row : List Size) (u : List ℕ) → BeginsOtherwise lead u → BeginsOtherwise lead (numbered_lines (why_size rule) k row ++ u)
row_other lead is rule k [] u h = h
row_other lead is rule k (Sized b ∷ row) u h = row_other lead is rule (suc k) row u h
row_other lead is rule k (Unsized w ∷ row) u h = record {
  whys = refl;
  no = λ x e.
      let here : 115 ≡ get_or (lead ++ x) 4 0 = ap (λ (y : List ℕ). get_or y 4 0) e in
      is.other (sym (here ∙ is.has x));
}

-- the reasons of all places of all rules don't begin like those of times and of costs
sizes_other : (lead : List ℕ) → IsOtherLead lead → (k : ℕ) (rows : List (List Size)) → BeginsOtherwise lead (numbered_lines why_sizes k rows)
sizes_other lead is k [] = record {
  whys = tt;
  no = λ x e.
      let here : 0 ≡ get_or (lead ++ x) 4 0 = ap (λ (y : List ℕ). get_or y 4 0) e in
      is.some (sym (here ∙ is.has x));
}
sizes_other lead is k (row ∷ rows) = row_other lead is k 1 row (numbered_lines why_sizes (suc k) rows) (sizes_other lead is (suc k) rows)

-- the reasons of places come after those of costs
pub sizes_no_cost : (n k : ℕ) (rows : List (List Size)) → BeginsOtherwise (cost_lead n) (numbered_lines why_sizes k rows)
sizes_no_cost n k rows =
    sizes_other (cost_lead n) (record { fifth = 99; has = λ w. refl; some = λ e. omega (arith, e); other = λ e. omega (arith, e) }) k rows

-- the reasons of costs, and those of places after them, are later than those of times
costs_no_time : (n k : ℕ) (cs : List (Option RuleCost)) (u : List ℕ) → BeginsOtherwise (time_lead n) u → BeginsOtherwise (time_lead n) (numbered_lines why_cost k cs ++ u)
costs_no_time n k [] u h = h
costs_no_time n k (None ∷ cs) u h = costs_no_time n (suc k) cs u h
costs_no_time n k (Some (Costed b) ∷ cs) u h = costs_no_time n (suc k) cs u h
costs_no_time n k (Some (Uncosted w) ∷ cs) u h = record { whys = refl; no = λ x e. let no : 99 ≡ 116 = ap (λ (y : List ℕ). get_or y 4 0) e in omega (arith, no) }

pub others_no_time : (n : ℕ) (cs : List (Option RuleCost)) (rows : List (List Size)) → BeginsOtherwise (time_lead n) (numbered_lines why_cost 1 cs ++ numbered_lines why_sizes 1 rows)
others_no_time n cs rows =
    costs_no_time n 1 cs (numbered_lines why_sizes 1 rows)
    (sizes_other (time_lead n) (record { fifth = 116; has = λ w. refl; some = λ e. omega (arith, e); other = λ e. omega (arith, e) }) 1 rows)

-- the sizes of a rule's places fit
abbrev pub FitsRow : Program → List Size → Type 0
FitsRow p row = AllByRecursion (IsPrintableSize p) row × (1 + length row ≤ 2 ^ 64)

module _ (p : Program) (are : AreNames p.start_names) (named : AreNames (names_of p.symbols)) where
  -- the reasons why the sizes of two rules' places are missing are the same
  row_step : (n : ℕ) (r s : List Size) (u v : List ℕ) → n < 2 ^ 64 → FitsRow p r → FitsRow p s → Pairs (HaveSameSizeEnds p.start_names) r s
      → BeginsOtherwise (row_lead n) u → BeginsOtherwise (row_lead n) v → why_sizes n r ++ u ≡ why_sizes n s ++ v → (r ≡ s) × (u ≡ v)
  row_step n r s u v short f g like k l e =
      let w = numbered_determined (IsPrintableSize p) (HaveSameSizeEnds p.start_names) (λ t s. t ≡ s) (λ m w. BeginsOtherwise (place_lead n m) w) (why_size n) (size_step p are named n) (size_later n short)
      1 r s u v f.1 g.1 f.0 g.0 like (λ m. place_from_row n m u k) (λ m. place_from_row n m v l) e in
      (pairs_same r s w.0, w.1)

  -- the reasons of all missing sizes are determined
  pub why_sizes_determined : (rs ss : List (List Size)) → 1 + length rs ≤ 2 ^ 64 → 1 + length ss ≤ 2 ^ 64 → AllByRecursion (FitsRow p) rs → AllByRecursion (FitsRow p) ss
      → Pairs (Pairs (HaveSameSizeEnds p.start_names)) rs ss → numbered_lines why_sizes 1 rs ≡ numbered_lines why_sizes 1 ss → rs ≡ ss
  why_sizes_determined rs ss few less f g like e =
      pairs_same rs ss
      (numbered_determined (FitsRow p) (Pairs (HaveSameSizeEnds p.start_names)) (λ r s. r ≡ s) (λ n w. BeginsOtherwise (row_lead n) w) why_sizes row_step (λ n m row u over short h. row_later n m 1 row u over short h)
      1 rs ss [] [] few less f g like (λ m. record { whys = tt; no = λ w e. cc }) (λ m. record { whys = tt; no = λ w e. cc })
      (append-nil (numbered_lines why_sizes 1 rs) ∙ (e ∙ sym (append-nil (numbered_lines why_sizes 1 ss))))).0
