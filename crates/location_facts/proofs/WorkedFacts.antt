-- The worked values of facts of a small program hold.
use Rattle.std.proofs.Common.{◌≡◌, inl, inr, ℕ, zero, suc, ◌<◌, ◌≤◌, ap, arith, refl, sym, subst, List, [], ◌∷◌, ◌++◌}
use Rattle.std.proofs.Common.{length, Some}
use Rattle.std.specs.Prelude.{ℤ, pos, negsuc, ◌+ℤ◌, ◌-ℤ◌, ◌*ℤ◌, ◌≤ℤ◌, slice_index_or, Vec}
use Rattle.std.specs.declared.alloc.Global.{Global}
use Rattle.std.proofs.lemmas.Int.{ints}
use Rattle.std.proofs.lemmas.List.Elements.{All-nil, All-cons, All-head}
use Rattle.poly_terms.specs.linear_forms.Forms.{Form, at, form_value}
use Rattle.poly_terms.specs.linear_forms.Combinations.{form_times}
use Rattle.poly_terms.specs.linear_forms.Certificates.{Implies, combined_coef, minus_one}
use Rattle.poly_terms.specs.linear_forms.Limits.{certificate_limit}
use Rattle.poly_terms.specs.linear_forms.Points.{Meets}
use Rattle.poly_terms.proofs.linear_forms.CertificateLaws.{implied, no_point}
use Rattle.poly_terms.specs.model.Programs.{Program, Rule, Compare, AtLeast, AtomHolds, GuardHolds, rule_at}
use Rattle.poly_terms.specs.model.Runs.{Config, Step, Leads, IsStep, IsRun, place_value}
use Rattle.poly_terms.specs.model.Terms.{Variable, Literal}
use Rattle.poly_terms.proofs.model.Cases.{none_some, some_same}
use Rattle.farkas_cert.specs.Sizes.{AreWithinLimit}
use Rattle.cert_types.specs.guard_prep.Tightening.{divisor_of}
use Rattle.location_facts.specs.declared.fact.LocFact.{LocFact}
use Rattle.location_facts.specs.declared.fact.FactProof.{FactProof}
use Rattle.location_facts.specs.declared.fact.FactProof.TheVariants.{Empty, Implied}
use Rattle.location_facts.specs.Candidates.{IsCandidate, last_place}
use Rattle.location_facts.specs.Certificates.{IsWithinLimit, Shows, IsShownBy}
use Rattle.location_facts.specs.Facts.{IsMetAt}
use Rattle.location_facts.specs.Kept.{HasThose}
use Rattle.location_facts.specs.Worked.{natural, positive, line, fact, counting, wide, entering, falling, two_rows}
use Rattle.location_facts.specs.Worked.{CandidatesAreWorkedOut, FactsAreMet, RowsAreWorked, CertificatesAreWorked}
use Rattle.location_facts.specs.Worked.{StrengtheningIsWorkedOut, ThoseAreWorkedOut, FactsAreWorkedOut}

-- a fact with these parts is a candidate
tried : (p : Program) (s i j : ℕ) (k : ℤ) → s < length p.symbols → (s ≡ p.start → ⊥) → i ≤ last_place p s
    → j ≤ last_place p s → (i ≡ j → ⊥) → negsuc 0 ≤ℤ k → k ≤ℤ pos 1 → IsCandidate p (fact s i j k)
tried p s i j k here other l m differ low high = record {
  symbol = here;
  not_start = other;
  plus = l;
  minus = m;
  different = differ;
  low = low;
  high = high;
}

-- the facts of l1 about its first place are candidates
pub tried-one : (k : ℤ) → negsuc 0 ≤ℤ k → k ≤ℤ pos 1 → IsCandidate counting (fact 1 1 0 k)
tried-one k low high =
    tried counting 1 1 0 k (omega arith) (λ e. omega (arith, e)) (omega arith) (omega arith) (λ e. omega (arith, e)) low
    high

candidates-worked : CandidatesAreWorkedOut
candidates-worked = record {
  all = refl;
  first_number = refl;
  last_number = refl;
  tried = tried-one (pos 0) (omega (arith, ints)) (omega (arith, ints));
  tried_low = tried-one (negsuc 0) (omega (arith, ints)) (omega (arith, ints));
  tried_high = tried-one (pos 1) (omega (arith, ints)) (omega (arith, ints));
  start = λ h. h.not_start refl;
  no_symbol = λ h. omega (arith, h.symbol);
  second_place = λ h. omega (arith, h.plus);
  second_minus = λ h. omega (arith, h.minus);
  same_place = λ h. h.different refl;
  high = λ h. omega (arith, ints, h.high);
  low = λ h. omega (arith, ints, h.low);
  two_symbols = refl;
  eighth_plus = tried wide 1 8 0 (pos 0) (omega arith) (λ e. omega (arith, e)) (omega arith) (omega arith)
      (λ e. omega (arith, e)) (omega (arith, ints)) (omega (arith, ints));
  eighth_minus = tried wide 1 7 8 (pos 0) (omega arith) (λ e. omega (arith, e)) (omega arith) (omega arith)
      (λ e. omega (arith, e)) (omega (arith, ints)) (omega (arith, ints));
  ninth_plus = λ h. omega (arith, h.plus);
  ninth_minus = λ h. omega (arith, h.minus);
  many = refl;
  least_first = refl;
  least_second = refl;
}

-- a value of at least 1, or one less than such a value, is at least 0
after-entering : (x y : ℤ) → x ≡ y → pos 1 ≤ℤ y → pos 0 ≤ℤ (x -ℤ pos 0)
after-entering x y e l = omega (arith, ints, e, l)

after-falling : (x y : ℤ) → x ≡ y -ℤ pos 1 → pos 1 ≤ℤ y → pos 0 ≤ℤ (x -ℤ pos 0)
after-falling x y e l = omega (arith, ints, e, l)

-- the first value of a list
abbrev first_value : List ℤ → ℤ
first_value xs = slice_index_or xs 0 (pos 0)

-- both rules lead to a value of at least 0
entering-natural : (b c : Config) (free : List ℤ) → Leads entering b free c
    → pos 0 ≤ℤ (place_value c 1 -ℤ place_value c 0)
entering-natural b c free h =
    after-entering (first_value c.values) (first_value (b.values ++ free)) (ap first_value h.values)
    (All-head (AtomHolds (b.values ++ free)) (Compare (Variable 0) AtLeast (Literal (pos 1))) [] h.guard)

falling-natural : (b c : Config) (free : List ℤ) → Leads falling b free c
    → pos 0 ≤ℤ (place_value c 1 -ℤ place_value c 0)
falling-natural b c free h =
    after-falling (first_value c.values) (first_value (b.values ++ free)) (ap first_value h.values)
    (All-head (AtomHolds (b.values ++ free)) (Compare (Variable 0) AtLeast (Literal (pos 1))) [] h.guard)

-- after a step by a rule of the program, by its number, the first value is at least 0
step-natural : (t : ℕ) (r : Rule) (b c : Config) (free : List ℤ) → rule_at counting t ≡ Some r → Leads r b free c
    → pos 0 ≤ℤ (place_value c 1 -ℤ place_value c 0)
step-natural zero r b c free e h = absurd (none_some r e)
step-natural (suc zero) r b c free e h =
    entering-natural b c free (subst (λ (q : Rule). Leads q b free c) (sym (some_same entering r e)) h)
step-natural (suc (suc zero)) r b c free e h =
    falling-natural b c free (subst (λ (q : Rule). Leads q b free c) (sym (some_same falling r e)) h)
step-natural (suc (suc (suc n))) r b c free e h = absurd (none_some r e)

-- on every run A >= 0 holds at l1
natural-met : (start : List ℤ) (steps : List Step) (c : Config) → IsRun counting start steps c → IsMetAt natural c
natural-met start [] c run e = absurd (let at : c.at ≡ 0 = run.at in omega (arith, e, at))
natural-met start (s ∷ earlier) c (b, run, step) e = step-natural s.rule step.rule b c s.free step.numbered step.leads

-- a run leads from l0(1) through l1(1) to l1(0)
facts-met : FactsAreMet
facts-met = record {
  natural_met = λ e. omega (arith, ints);
  at_most_one_met = λ e. omega (arith, ints);
  positive_fails = λ h. let l = h refl in omega (arith, ints, l);
  at_most_one_fails = λ h. let l = h refl in omega (arith, ints, l);
  elsewhere = λ e. absurd (omega (arith, e));
  natural_holds = record { each = natural-met };
  positive_fails_on_a_run = λ h.
      let l = h.each (pos 1 ∷ []) (record { rule = 2; free = [] } ∷ record { rule = 1; free = [] } ∷ [])
      (record { at = 1; values = pos 0 ∷ [] }) to-zero refl in
      omega (arith, ints, l);
}
  where
    guard : AtomHolds (pos 1 ∷ []) (Compare (Variable 0) AtLeast (Literal (pos 1)))
    guard = omega (arith, ints)

    guards : GuardHolds (pos 1 ∷ []) (Compare (Variable 0) AtLeast (Literal (pos 1)) ∷ [])
    guards = All-cons (AtomHolds (pos 1 ∷ [])) (Compare (Variable 0) AtLeast (Literal (pos 1))) [] guard
        (All-nil (AtomHolds (pos 1 ∷ [])))

    first-step : IsStep counting (record { at = 0; values = pos 1 ∷ [] }) (record { rule = 1; free = [] })
        (record { at = 1; values = pos 1 ∷ [] })
    first-step = record {
      rule = entering;
      numbered = refl;
      leads = record { source = refl; left = refl; free_ones = refl; guard = guards; target = refl; values = refl };
    }

    second-step : IsStep counting (record { at = 1; values = pos 1 ∷ [] }) (record { rule = 2; free = [] })
        (record { at = 1; values = pos 0 ∷ [] })
    second-step = record {
      rule = falling;
      numbered = refl;
      leads = record { source = refl; left = refl; free_ones = refl; guard = guards; target = refl; values = refl };
    }

    to-zero : IsRun counting (pos 1 ∷ []) (record { rule = 2; free = [] } ∷ record { rule = 1; free = [] } ∷ [])
        (record { at = 1; values = pos 0 ∷ [] })
    to-zero = (
      record { at = 1; values = pos 1 ∷ [] },
      (
        record { at = 0; values = pos 1 ∷ [] },
        record { places = refl; at = refl; values = refl },
        first-step,
      ),
      second-step,
    )

rows-worked : RowsAreWorked
unfolding divisor_of
rows-worked = record {
  before = refl;
  after = refl;
  before_minus = refl;
  after_minus = refl;
  difference = refl;
  second = refl;
  first = refl;
  into = refl;
  into_start = refl;
}

-- a row is at least 0 at A = 1
abbrev P : Form → Type 0
P r = pos 0 ≤ℤ form_value r (λ u. pos 1) (pos 1)

-- A = 1 is a point of the rows A - 1 of the second rule and of its source
abbrev one_rows : List Form
one_rows = line (pos 1) (negsuc 0) ∷ line (pos 1) (negsuc 0) ∷ []

one-meets : Meets one_rows (λ u. pos 1) (pos 1)
one-meets = record {
  each = All-cons P (line (pos 1) (negsuc 0)) (line (pos 1) (negsuc 0) ∷ []) (omega (arith, ints))
      (All-cons P (line (pos 1) (negsuc 0)) [] (omega (arith, ints)) (All-nil P));
}

-- no multiple of the goal A - 2 is at least 0 at A = 1
below-zero : (n : ℕ) → 1 ≤ n
    → pos 0 ≤ℤ ((pos n *ℤ pos 1) *ℤ pos 1 +ℤ pos 0 +ℤ (pos n *ℤ negsuc 1) *ℤ pos 1) → ⊥
below-zero n l h = omega (arith, ints, l, h)

-- no proof shows this goal
none-shows : (proof : FactProof) → IsWithinLimit proof → Shows one_rows (line (pos 1) (negsuc 1)) proof → ⊥
none-shows (Empty multipliers) within h =
    no_point one_rows multipliers.items h (λ u. pos 1) (pos 1)
    (record { denominator = omega (arith, ints); meets = one-meets })
none-shows (Implied multipliers den) within h =
    below-zero den within.1
    (implied one_rows multipliers.items (form_times (pos den) (line (pos 1) (negsuc 1))) h (λ u. pos 1) (pos 1)
    one-meets (omega (arith, ints)))

none-shown : IsShownBy counting 2 (positive ∷ []) positive → ⊥
unfolding divisor_of
none-shown h = none-shows h.proof h.within h.shows

-- a form over one unknown, and two forms over two, follow if their numbers are right
pub one-follows : Implies (line (pos 1) (negsuc 0) ∷ []) (1 ∷ []) (line (pos 1) (pos 0))
one-follows = record { long = refl; coefs = same; constant = omega (arith, ints) }
  where
    same : (u : ℕ) → at (pos 1 ∷ []) u ≡ pos 1 *ℤ at (pos 1 ∷ []) u +ℤ pos 0
    same zero = refl
    same (suc u) = refl

pub second-follows : Implies (line (pos 1) (negsuc 0) ∷ line (pos 1) (pos 0) ∷ []) (1 ∷ 0 ∷ [])
    (line (pos 1) (negsuc 0))
second-follows = record { long = refl; coefs = same; constant = omega (arith, ints) }
  where
    same : (u : ℕ) → at (pos 1 ∷ []) u ≡ pos 1 *ℤ at (pos 1 ∷ []) u +ℤ (pos 0 *ℤ at (pos 1 ∷ []) u +ℤ pos 0)
    same zero = refl
    same (suc u) = refl

twice-follows : Implies two_rows (1 ∷ 1 ∷ []) (form_times (pos 2) (line (pos 1) (pos 0)))
twice-follows = record { long = refl; coefs = same; constant = omega (arith, ints) }
  where
    same : (u : ℕ) → at (form_times (pos 2) (line (pos 1) (pos 0))).coefs u ≡ combined_coef (1 ∷ 1 ∷ []) two_rows u
    same zero = refl
    same (suc zero) = refl
    same (suc (suc u)) = refl

-- the row A - 1 of the second rule and -A
abbrev shut_rows : List Form
shut_rows = line (pos 1) (negsuc 0) ∷ line (negsuc 0) (pos 0) ∷ []

shut-empty : Implies shut_rows (1 ∷ 1 ∷ []) minus_one
shut-empty = record { long = refl; coefs = same; constant = omega (arith, ints) }
  where
    same : (u : ℕ) → at minus_one.coefs u ≡ combined_coef (1 ∷ 1 ∷ []) shut_rows u
    same zero = refl
    same (suc u) = refl

-- 1 and 2 are different numbers
one-two : pos 1 ≡ pos 2 → ⊥
one-two e = omega (arith, ints, e)

zero-one : pos 0 ≡ pos 1 → ⊥
zero-one e = omega (arith, ints, e)

zero-minus : pos 0 ≡ negsuc 0 → ⊥
zero-minus e = omega (arith, ints, e)

-- multipliers of the code, as a list
abbrev As : List Form → Form → List ℕ → Type 0
As rows goal ms = Implies rows ms goal

-- by 1 and 0 the second rule shows A >= 0
natural-shown : (first : Vec ℕ Global) → first.items ≡ 1 ∷ 0 ∷ [] → IsShownBy counting 2 (natural ∷ []) natural
unfolding divisor_of
natural-shown first e = record {
  proof = Implied first 1;
  within = (subst AreWithinLimit (sym e) few, omega arith, omega arith);
  shows = subst (As (line (pos 1) (negsuc 0) ∷ line (pos 1) (pos 0) ∷ []) (line (pos 1) (negsuc 0))) (sym e)
      second-follows;
}
  where
    few : AreWithinLimit (1 ∷ 0 ∷ [])
    few =
        All-cons (λ (m : ℕ). m ≤ certificate_limit) 1 (0 ∷ []) (omega arith)
        (All-cons (λ (m : ℕ). m ≤ certificate_limit) 0 [] (omega arith) (All-nil (λ (m : ℕ). m ≤ certificate_limit)))

certificates-worked : CertificatesAreWorked
unfolding divisor_of
certificates-worked = record {
  by_first = one-follows;
  by_second = second-follows;
  shown = natural-shown;
  not_positive = none-shown;
  twice = λ ones e.
      subst (As two_rows (form_times (pos 2) (line (pos 1) (pos 0)))) (sym e) twice-follows;
  not_once = λ ones e h. one-two
      ((subst (As two_rows (form_times (pos 1) (line (pos 1) (pos 0)))) e h).coefs 0);
  not_by_first = λ first e h. zero-minus
      ((subst (As two_rows (form_times (pos 2) (line (pos 1) (pos 0)))) e h).coefs 1);
  empty = λ ones e. subst (As shut_rows minus_one) (sym e) shut-empty;
  not_empty = λ first e h. zero-one ((subst (As shut_rows minus_one) e h).coefs 0);
  limit = λ most e. (
    subst AreWithinLimit (sym e)
        (All-cons (λ (m : ℕ). m ≤ certificate_limit) 72057594037927936 [] (omega arith)
        (All-nil (λ (m : ℕ). m ≤ certificate_limit))),
    omega arith,
    omega arith,
  );
  over = λ more e h. too-large (subst AreWithinLimit e h.0);
  over_empty = λ more e h. too-large (subst AreWithinLimit e h);
  over_den = λ one e h. let l = h.2 in omega (arith, l);
}
  where
    too-large : AreWithinLimit (72057594037927937 ∷ []) → ⊥
    too-large h =
        let l : 72057594037927937 ≤ certificate_limit =
        All-head (λ (m : ℕ). m ≤ certificate_limit) 72057594037927937 [] h in
        omega (arith, l)

strengthening-worked : StrengtheningIsWorkedOut
strengthening-worked = record {
  greatest = refl;
  ordered = refl;
  last_places = refl;
  own_first = refl;
  other_source = refl;
  room = refl;
  filled = refl;
  full = refl;
  cost_counts = refl;
  cost_leaves_one = refl;
  whole = refl;
}

-- the condition that the least is 0
abbrev Zero : LocFact → Type 0
Zero f = f.least ≡ pos 0

one-zero : pos 1 ≡ pos 0 → ⊥
one-zero e = omega (arith, ints, e)

none-cons : (f : LocFact) (facts : List LocFact) → ◌≡◌ {A = List LocFact} [] (f ∷ facts) → ⊥
none-cons f facts e = cc

less-fails : HasThose Zero (natural ∷ positive ∷ []) [] → ⊥
less-fails (inl (nil, (rest, e, h))) = none-cons natural rest e
less-fails (inr (not, h)) = not refl

more-fails : HasThose Zero (natural ∷ positive ∷ []) (natural ∷ positive ∷ []) → ⊥
more-fails (inr (not, h)) = not refl
more-fails (inl (nil, (rest, e, inl (one, h)))) = one-zero one
more-fails (inl (nil, (rest, e, inr (not, h)))) = behind rest e h
  where
    behind : (rest : List LocFact) → ◌≡◌ {A = List LocFact} (natural ∷ positive ∷ []) (natural ∷ rest) → rest ≡ [] → ⊥
    behind rest e h = cc

-- the plus of the first fact
abbrev head_plus : List LocFact → ℕ
head_plus [] = 0
head_plus (f ∷ facts) = f.plus

turned-fails : HasThose Zero (natural ∷ positive ∷ fact 1 0 1 (pos 0) ∷ []) (fact 1 0 1 (pos 0) ∷ natural ∷ []) → ⊥
turned-fails (inr (not, h)) = not refl
turned-fails (inl (nil, (rest, e, h))) = first rest e
  where
    first : (rest : List LocFact)
        → ◌≡◌ {A = List LocFact} (fact 1 0 1 (pos 0) ∷ natural ∷ []) (natural ∷ rest) → ⊥
    first rest e = let same : 0 ≡ 1 = ap (λ (xs : List LocFact). head_plus xs) e in omega (arith, same)

those-worked : ThoseAreWorkedOut
those-worked = record {
  those = inl (refl, (fact 1 0 1 (pos 0) ∷ [], refl, inr (one-zero, inl (refl, ([], refl, refl)))));
  turned = turned-fails;
  less = less-fails;
  more = more-fails;
}

pub facts-are-worked-out : FactsAreWorkedOut
facts-are-worked-out = record {
  candidates_are = candidates-worked;
  met = facts-met;
  rows = rows-worked;
  certificates = certificates-worked;
  strengthening = strengthening-worked;
  those = those-worked;
}
