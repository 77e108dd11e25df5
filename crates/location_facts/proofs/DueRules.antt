-- Rules under a list of facts, if they are due, which means that they have to be queried again; at the source of the
-- others no fact was dropped. And each rule's answer about a fact.
use Rattle.std.proofs.Common.{◌≡◌, ◌≢◌, ◌⊎◌, inl, inr, ℕ, zero, suc, ◌+◌, ◌-◌, ◌<◌, ◌≤◌, ap, arith, refl, sym, ◌∙◌}
use Rattle.std.proofs.Common.{subst}
use Rattle.std.proofs.Common.{List, [], ◌∷◌, ◌++◌, length, length-append, map, get_or, Option, Some, None, Bool, true}
use Rattle.std.proofs.Common.{false, replicate}
use Rattle.std.proofs.Common.{if◌then◌else◌}
use Rattle.std.proofs.Common.{option_map}
use Rattle.std.specs.Prelude.{slice_get, nat_eq, Vec}
use Rattle.std.specs.declared.alloc.Global.{Global}
use Rattle.std.proofs.lemmas.Bool.{cases_lt}
use Rattle.std.proofs.lemmas.List.Elements.{All-get_or}
use Rattle.std.proofs.lemmas.Option.{slice_get_within, slice_get-map, get_or_from_slice_get}
use Rattle.poly_terms.specs.linear_forms.Forms.{Form}
use Rattle.poly_terms.specs.linear_forms.RuleQuestions.{RuleForms}
use Rattle.poly_terms.specs.model.Programs as plain
use Rattle.poly_terms.specs.Views.{form_of}
use Rattle.poly_terms.proofs.model.Cases.{some_same, slice_get-there}
use Rattle.cert_types.specs.Composing.{AreRowsOf}
use Rattle.cert_types.specs.guard_prep.declared.rule_rows.RuleRows.{RuleRows}
use Rattle.cert_types.specs.guard_prep.Prepared.{prepared}
use Rattle.cert_types.specs.guard_prep.Views.{prepared_of}
use Rattle.rule_questions.specs.ProgramQuestions.{forms_in, forms_at}
use Rattle.location_facts.specs.declared.fact.LocFact.{LocFact}
use Rattle.location_facts.specs.declared.fact.FactProof.{FactProof}
use Rattle.location_facts.specs.declared.implied.Answered.{Answered}
use Rattle.location_facts.specs.declared.implied.RuleUnderFacts.{RuleUnderFacts}
use Rattle.location_facts.specs.Certificates.{IsWithinLimit}
use Rattle.location_facts.specs.Faults.{rules_into}
use Rattle.location_facts.specs.Implied.{DecidesEmpty, DecidesGoal, HasProofs, AreProofsUnder, proof_in}
use Rattle.location_facts.specs.Kept.{HasThose, IsNext, IsImpliedByAll}
use Rattle.location_facts.specs.declared.rules.Wanted.{Wanted}
use Rattle.location_facts.specs.declared.rules.Wanted.TheVariants.{Nothing, Facts, Everything}
use Rattle.location_facts.specs.Due.{AreDue, IsWanted, HasKnownPoint, StatesRule, IsUnderIfDue, AreUnder}
use Rattle.location_facts.specs.Due.{HasRows, ShowsEarlier, AnswersAgain, IsShownEarlier, AreShownEarlier, lists_of}
use Rattle.location_facts.specs.Due.{listed_at, listed_in}
use Rattle.location_facts.specs.Pointed.{HasPoint}
use Rattle.location_facts.specs.Rows.{row_before, row_after, facts_at, combined}
use Rattle.location_facts.proofs.KeptLists.{those-all, those-keep}
use Rattle.location_facts.proofs.RoundSteps.{slice-last, slice-before, implied-at}
use Rattle.location_facts.proofs.ShownRules.{read, into-rule}
use Rattle.location_facts.proofs.UnderRules.{is-under, forms-read}

module _ (Keeps : LocFact → Type 0) (s : ℕ) where
  -- the facts of a symbol among those that satisfy a condition are those of the symbol's facts that satisfy it
  pub those-at : (facts those : List LocFact) → HasThose Keeps facts those
      → HasThose Keeps (facts_at s facts) (facts_at s those)
  those-at [] those h = ap (facts_at s) h
  those-at (g ∷ facts) those (inl (keeps, (rest, e, h))) =
      subst (λ (fs : List LocFact). HasThose Keeps (facts_at s (g ∷ facts)) (facts_at s fs)) (sym e)
      (go (nat_eq g.symbol s) (those-at facts rest h))
    where
      go : (v : Bool) → HasThose Keeps (facts_at s facts) (facts_at s rest)
          → HasThose Keeps (if v then g ∷ facts_at s facts else facts_at s facts)
          (if v then g ∷ facts_at s rest else facts_at s rest)
      go true k = inl (keeps, (facts_at s rest, refl, k))
      go false k = k
  those-at (g ∷ facts) those (inr (drops, h)) = go (nat_eq g.symbol s) (those-at facts those h)
    where
      go : (v : Bool) → HasThose Keeps (facts_at s facts) (facts_at s those)
          → HasThose Keeps (if v then g ∷ facts_at s facts else facts_at s facts) (facts_at s those)
      go true k = inr (drops, k)
      go false k = k

  -- if these are as many as all facts of the symbol, they are the same
  pub nothing-went : (facts those : List LocFact) → HasThose Keeps facts those
      → length (facts_at s facts) ≡ length (facts_at s those) → facts_at s those ≡ facts_at s facts
  nothing-went facts those h e = those-all Keeps (facts_at s facts) (facts_at s those) (those-at facts those h) (sym e)

module _ (pivots n : ℕ) (rows : List Form) (goal : Form) where
  -- for a rule that isn't due, the earlier proof is the answer
  pub none-sound : (o : Option RuleUnderFacts) (earlier x : Option FactProof) → o ≡ None → x ≡ earlier
      → AnswersAgain pivots n rows goal o earlier → DecidesGoal pivots n rows goal x
  none-sound o earlier x e same verdict =
      subst (DecidesGoal pivots n rows goal) (sym same)
      (go earlier (subst (λ (w : Option RuleUnderFacts). AnswersAgain pivots n rows goal w earlier) e verdict))
    where
      go : (y : Option FactProof) → ShowsEarlier pivots n rows goal y → DecidesGoal pivots n rows goal y
      go None h = absurd h
      go (Some proof) h = h

  -- an answer over the rows of the rule's state is the answer over these rows
  pub again-sound : (u : RuleUnderFacts) (earlier o : Option FactProof)
      → AnswersAgain pivots n rows goal (Some u) earlier
      → (DecidesEmpty pivots n (map form_of u.rows.items) u.empty
      → DecidesGoal pivots n (map form_of u.rows.items) goal o)
      → DecidesGoal pivots n rows goal o
  again-sound u earlier o (same, empty) verdict = subst (λ (fs : List Form). DecidesGoal pivots n fs goal o) same
      (verdict empty)

-- a rule's answer is right
pub if-due : (pivots : ℕ) (kept : List LocFact) (m : RuleRows) (r : plain.Rule) (due points : List Bool) (i : ℕ)
    (asked : Wanted) (o : Option RuleUnderFacts) → prepared_of m ≡ prepared r
    → length (map form_of m.rows.items ++ map row_before (facts_at r.source kept)) ≤ 371 → IsWanted due points i asked
    → StatesRule pivots m.unknowns (map form_of m.rows.items ++ map row_before (facts_at r.source kept)) asked o
    → IsUnderIfDue pivots (forms_in (Some r)) (slice_get due i) kept o
if-due pivots kept m r due points i Nothing None same few wanted verdict = wanted
if-due pivots kept m r due points i Facts None same few wanted verdict = absurd verdict
if-due pivots kept m r due points i Everything None same few wanted verdict = absurd verdict
if-due pivots kept m r due points i asked (Some u) same few wanted (rows, writable, empty) =
    is-under pivots kept m r u same rows writable few empty

-- if only facts are asked of a marked rule, its rows have a point
pub known-point : (due points : List Bool) (i : ℕ) (asked : Wanted) (rows : List Form)
    → (slice_get points i ≡ Some true → HasPoint rows) → IsWanted due points i asked → HasKnownPoint asked rows
known-point due points i Nothing rows has wanted = tt
known-point due points i Facts rows has wanted = has wanted
known-point due points i Everything rows has wanted = tt

-- the rules so far are under the list, or aren't due
abbrev pub EachUnder : plain.Program → ℕ → List Bool → List LocFact → List (Option RuleUnderFacts) → Type 0
EachUnder p pivots due kept us =
    (k : ℕ) (o : Option RuleUnderFacts) (r : plain.Rule) → slice_get us k ≡ Some o → slice_get p.rules k ≡ Some r
    → IsUnderIfDue pivots (forms_in (Some r)) (slice_get due k) kept o

-- after one more rule
pub under-pushed : (p : plain.Program) (pivots : ℕ) (due : List Bool) (kept : List LocFact)
    (us new : List (Option RuleUnderFacts)) (i : ℕ)
    (o : Option RuleUnderFacts) (r : plain.Rule) → length us ≡ i → EachUnder p pivots due kept us
    → slice_get p.rules i ≡ Some r
    → IsUnderIfDue pivots (forms_in (Some r)) (slice_get due i) kept o → new ≡ us ++ o ∷ []
    → EachUnder p pivots due kept new
under-pushed p pivots due kept us new i o r many each there is made k v q e f = go (cases_lt k (length us))
  where
    e-there : slice_get (us ++ o ∷ []) k ≡ Some v
    e-there = subst (λ (ws : List (Option RuleUnderFacts)). slice_get ws k ≡ Some v) made e

    within : k < length (us ++ o ∷ [])
    within = slice_get_within (us ++ o ∷ []) k v e-there

    here : k ≡ length us → IsUnderIfDue pivots (forms_in (Some q)) (slice_get due k) kept v
    here same =
        subst (λ (w : Option RuleUnderFacts). IsUnderIfDue pivots (forms_in (Some q)) (slice_get due k) kept w)
        (some_same o v (sym (slice-last us o) ∙ (ap (slice_get (us ++ o ∷ [])) (sym same) ∙ e-there)))
        (subst (λ (w : plain.Rule). IsUnderIfDue pivots (forms_in (Some w)) (slice_get due k) kept o)
        (some_same r q (sym there ∙ (ap (slice_get p.rules) (sym (same ∙ many)) ∙ f)))
        (subst (λ (n : ℕ). IsUnderIfDue pivots (forms_in (Some r)) (slice_get due n) kept o) (sym (same ∙ many)) is))

    go : (k < length us) ⊎ (length us ≤ k) → IsUnderIfDue pivots (forms_in (Some q)) (slice_get due k) kept v
    go (inl l) = each k v q (sym (slice-before us (o ∷ []) k l) ∙ e-there) f
    go (inr l) = here (let a = length-append us (o ∷ []) in omega (arith, a, within, l))

pub under-more : (us new : List (Option RuleUnderFacts)) (i : ℕ) (o : Option RuleUnderFacts) → length us ≡ i
    → new ≡ us ++ o ∷ []
    → length new ≡ i + 1
under-more us new i o many made =
    let a = ap (λ (ws : List (Option RuleUnderFacts)). length ws) made in let b = length-append us (o ∷ []) in
    omega (arith, many, a, b)

-- a rule that is read is under the list, or isn't due
pub under-read : (p : plain.Program) (pivots : ℕ) (due : List Bool) (kept : List LocFact)
    (us : List (Option RuleUnderFacts)) (t : ℕ)
    (o : Option RuleUnderFacts) → (1 ≤ t) × (t ≤ length p.rules) → AreUnder p pivots due kept us
    → o ≡ get_or us (t - 1) o
    → IsUnderIfDue pivots (forms_at p t) (slice_get due (t - 1)) kept o
under-read p pivots due kept us zero o (l, h) are e = absurd (omega (arith, l))
under-read p pivots due kept us (suc i) o (l, h) are e =
    let (r, there) = slice_get-there p.rules i (omega (arith, h)) in
    let less : suc i - 1 ≡ i = omega arith in
    let at-o : slice_get us i ≡ Some o =
    read us i o (let n = are.many in omega (arith, h, n)) (e ∙ ap (λ (k : ℕ). get_or us k o) less) in
    subst (λ (q : Option plain.Rule). IsUnderIfDue pivots (forms_in q) (slice_get due (suc i - 1)) kept o) (sym there)
    (subst (λ (k : ℕ). IsUnderIfDue pivots (forms_in (Some r)) (slice_get due k) kept o) (sym less)
    (are.each i o r at-o there))

-- the rows of a rule under the list are few and can be written
pub few-rows : (pivots : ℕ) (r : RuleForms) (due : Option Bool) (kept : List LocFact) (o : Option RuleUnderFacts)
    → IsUnderIfDue pivots r due kept o → HasRows r.unknowns o
few-rows pivots r due kept None h = tt
few-rows pivots r due kept (Some u) h = (h.few, h.writable)

-- the answer about a fact, by an earlier proof or over the rows of the code, is right for the rule
pub later-sound : (p : plain.Program) (prepared_rules : List RuleRows) (pivots : ℕ) (due : Option Bool)
    (kept : List LocFact)
    (t : ℕ) (m : RuleRows) (o : Option RuleUnderFacts) (f : LocFact) (earlier x : Option FactProof)
    → AreRowsOf prepared_rules p
    → (1 ≤ t) × (t ≤ length p.rules) → m ≡ get_or prepared_rules (t - 1) m
    → IsUnderIfDue pivots (forms_at p t) due kept o
    → (due ≡ Some false
    → ShowsEarlier pivots (forms_at p t).unknowns (combined (forms_at p t) kept) (row_after (forms_at p t).new_values f)
    earlier)
    → ((rows : List Form) → AnswersAgain pivots m.unknowns rows (row_after (map form_of m.new_values.items) f) o earlier
    → DecidesGoal pivots m.unknowns rows (row_after (map form_of m.new_values.items) f) x)
    → DecidesGoal pivots (forms_at p t).unknowns (combined (forms_at p t) kept) (row_after (forms_at p t).new_values f)
    x
later-sound p prepared_rules pivots due kept t m o f earlier x are within at-m is stands verdict =
    subst (λ (n : ℕ). DecidesGoal pivots n (combined (forms_at p t) kept) (row_after (forms_at p t).new_values f) x)
    same.0
    (subst (λ (fs : List Form). DecidesGoal pivots m.unknowns (combined (forms_at p t) kept) (row_after fs f) x) same.1
    (verdict (combined (forms_at p t) kept)
    (subst (λ (fs : List Form). AnswersAgain pivots m.unknowns (combined (forms_at p t) kept) (row_after fs f) o
    earlier) (sym same.1)
    (subst (λ (n : ℕ). AnswersAgain pivots n (combined (forms_at p t) kept) (row_after (forms_at p t).new_values f) o
    earlier) (sym same.0)
    (again o is)))))
  where
    same : (m.unknowns ≡ (forms_at p t).unknowns) × (map form_of m.new_values.items ≡ (forms_at p t).new_values)
    same = forms-read p prepared_rules t m are within at-m

    again : (w : Option RuleUnderFacts) → IsUnderIfDue pivots (forms_at p t) due kept w
        → AnswersAgain pivots (forms_at p t).unknowns (combined (forms_at p t) kept)
        (row_after (forms_at p t).new_values f) w earlier
    again None e = stands e
    again (Some u) h = (
      h.rows,
      subst (λ (fs : List Form). DecidesEmpty pivots (forms_at p t).unknowns fs u.empty) (sym h.rows)
          h.empty,
    )

-- the rows of the code are few and can be written
pub rows-read : (p : plain.Program) (prepared_rules : List RuleRows) (pivots : ℕ) (due : Option Bool)
    (kept : List LocFact) (t : ℕ)
    (m : RuleRows) (o : Option RuleUnderFacts) → AreRowsOf prepared_rules p → (1 ≤ t) × (t ≤ length p.rules)
    → m ≡ get_or prepared_rules (t - 1) m
    → IsUnderIfDue pivots (forms_at p t) due kept o → HasRows m.unknowns o
rows-read p prepared_rules pivots due kept t m o are within at-m is =
    subst (λ (n : ℕ). HasRows n o) (sym (forms-read p prepared_rules t m are within at-m).0)
    (few-rows pivots (forms_at p t) due kept o is)

-- the answer about a fact for the rule at position k of those into its symbol is right
pub answer-sound : (p : plain.Program) (prepared_rules : List RuleRows) (pivots : ℕ) (due : List Bool)
    (kept : List LocFact)
    (f : LocFact) (ps : List FactProof) (into : List ℕ) (k t : ℕ) (m : RuleRows) (o : Option RuleUnderFacts)
    (a b : Answered) → a ≡ b → AreRowsOf prepared_rules p → into ≡ rules_into p f.symbol → k < length into
    → t ≡ get_or into k t
    → (1 ≤ t) × (t ≤ length p.rules) → m ≡ get_or prepared_rules (t - 1) m
    → IsUnderIfDue pivots (forms_at p t) (slice_get due (t - 1)) kept o → IsShownEarlier p pivots due kept f ps
    → (earlier : Option FactProof) → earlier ≡ slice_get ps k
    → ((rows : List Form) → AnswersAgain pivots m.unknowns rows (row_after (map form_of m.new_values.items) f) o earlier
    → DecidesGoal pivots m.unknowns rows (row_after (map form_of m.new_values.items) f) (proof_in a))
    → DecidesGoal pivots (forms_at p t).unknowns (combined (forms_at p t) kept) (row_after (forms_at p t).new_values f)
    (proof_in b)
answer-sound p prepared_rules pivots due kept f ps into k t m o a b same are e l g within at-m is stand earlier taken
    verdict =
    subst (λ (y : Answered). DecidesGoal pivots (forms_at p t).unknowns (combined (forms_at p t) kept)
    (row_after (forms_at p t).new_values f) (proof_in y)) same
    (later-sound p prepared_rules pivots (slice_get due (t - 1)) kept t m o f earlier (proof_in a) are within at-m is
    (λ not. subst (λ (x : Option FactProof). ShowsEarlier pivots (forms_at p t).unknowns (combined (forms_at p t) kept)
    (row_after (forms_at p t).new_values f) x) (sym taken)
    (stand.each k t (read (rules_into p f.symbol) k t (subst (λ (ts : List ℕ). k < length ts) e l)
    (subst (λ (ts : List ℕ). t ≡ get_or ts k t) e g)) not)) verdict)

-- without an earlier list each rule is due, so no earlier answer is needed
pub all-due : (p : plain.Program) (pivots n : ℕ) (due : List Bool) (kept : List LocFact)
    (proofs : List (List FactProof))
    → due ≡ replicate n true → AreShownEarlier p pivots due kept proofs
all-due p pivots n due kept proofs e = record {
  each = λ i f there. record {
    each = λ k t at not. absurd (none n (t - 1) (ap (λ (ds : List Bool). slice_get ds (t - 1)) (sym e) ∙ not));
  };
}
  where
    none : (n i : ℕ) → slice_get (replicate n true) i ≡ Some false → ⊥
    none zero i e = cc
    none (suc n) zero e = cc
    none (suc n) (suc i) e = none n i e

-- if a list follows one under which its facts have proofs, these remain valid for each rule that isn't due
module _ (p : plain.Program) (pivots : ℕ) (old new : List LocFact) (proofs : List (List FactProof)) (due : List Bool)
    (next : IsNext p pivots old new) (are : AreProofsUnder p old new proofs) (is : AreDue p old new due) where
  same-rows : (t : ℕ) → (1 ≤ t) × (t ≤ length p.rules) → slice_get due (t - 1) ≡ Some false
      → combined (forms_at p t) old ≡ combined (forms_at p t) new
  same-rows zero (l, h) not = absurd (omega (arith, l))
  same-rows (suc i) (l, h) not =
      let (r, there) = slice_get-there p.rules i (omega (arith, h)) in
      let less : suc i - 1 ≡ i = omega arith in
      let not-here : slice_get due i ≡ Some false = ap (slice_get due) (sym less) ∙ not in
      subst (λ (q : Option plain.Rule). combined (forms_in q) old ≡ combined (forms_in q) new) (sym there)
      (ap (λ (fs : List LocFact). (forms_in (Some r)).rows ++ map row_before fs)
      (sym (nothing-went (IsImpliedByAll p pivots old) r.source old new next (is.each i r not-here there))))

  stands-on : (f : LocFact) (ps : List FactProof) → IsImpliedByAll p pivots old f → HasProofs p old f ps → (k t : ℕ)
      → slice_get (rules_into p f.symbol) k ≡ Some t → slice_get due (t - 1) ≡ Some false
      → ShowsEarlier pivots (forms_at p t).unknowns (combined (forms_at p t) new)
      (row_after (forms_at p t).new_values f)
      (slice_get ps k)
  stands-on f ps all has k t at not =
      let low : k < length (rules_into p f.symbol) = slice_get_within (rules_into p f.symbol) k t at in
      let read-t : t ≡ get_or (rules_into p f.symbol) k t =
      sym (get_or_from_slice_get (rules_into p f.symbol) k t t at) in
      let few : k < length ps = subst (λ (n : ℕ). k < n) (sym has.one_each) low in
      let (proof, there) = slice_get-there ps k few in
      let within = into-rule p f.symbol k t (rules_into p f.symbol) refl low read-t in
      let limit : IsWithinLimit proof = subst IsWithinLimit (get_or_from_slice_get ps k proof proof there)
      (All-get_or IsWithinLimit ps k proof few has.numbers) in
      subst (λ (o : Option FactProof). ShowsEarlier pivots (forms_at p t).unknowns (combined (forms_at p t) new)
      (row_after (forms_at p t).new_values f) o) (sym there)
      (subst (λ (fs : List Form). DecidesGoal pivots (forms_at p t).unknowns fs (row_after (forms_at p t).new_values f)
      (Some proof))
      (same-rows t within not) (
        implied-at p pivots old f k t low read-t all,
        limit,
        has.shown k t proof few (record { rule = at; listed = there }),
      ))

  pub shown-next : AreShownEarlier p pivots due new proofs
  shown-next = record {
    each = λ i f there. record {
      each =
          let l : i < length proofs = subst (λ (n : ℕ). i < n) (sym are.one_each) (slice_get_within new i f there) in
          let (ps, listed) = slice_get-there proofs i l in
          subst (λ (o : Option (List FactProof)). (k t : ℕ) → slice_get (rules_into p f.symbol) k ≡ Some t
          → slice_get due (t - 1) ≡ Some false → ShowsEarlier pivots (forms_at p t).unknowns
          (combined (forms_at p t) new) (row_after (forms_at p t).new_values f) (slice_get (listed_in o) k))
          (sym listed)
          (stands-on f ps (those-keep (IsImpliedByAll p pivots old) old new next i f there)
          (are.each i f ps (record { fact = there; listed = listed })));
    };
  }

-- before any rule, nothing is claimed about rules that aren't due
pub due-none : (p : plain.Program) (old new : List LocFact) → AreDue p old new []
due-none p old new = record { each = λ i r not there. cc }

-- after one more rule
pub due-pushed : (p : plain.Program) (old new : List LocFact) (due more : List Bool) (i : ℕ) (r : plain.Rule) (b : Bool)
    → length due ≡ i → AreDue p old new due → slice_get p.rules i ≡ Some r
    → (b ≡ false → length (facts_at r.source old) ≡ length (facts_at r.source new)) → more ≡ due ++ b ∷ []
    → AreDue p old new more
due-pushed p old new due more i r b many are there same made = record {
  each = λ k q e f. go k q (ap (λ (bs : List Bool). slice_get bs k) (sym made) ∙ e) f (cases_lt k (length due));
}
  where
    go : (k : ℕ) (q : plain.Rule) → slice_get (due ++ b ∷ []) k ≡ Some false → slice_get p.rules k ≡ Some q
        → (k < length due) ⊎ (length due ≤ k) → length (facts_at q.source old) ≡ length (facts_at q.source new)
    go k q e f (inl l) = are.each k q (sym (slice-before due (b ∷ []) k l) ∙ e) f
    go k q e f (inr l) =
        let within : k < length (due ++ b ∷ []) = slice_get_within (due ++ b ∷ []) k false e in
        let here : k ≡ length due = let a = length-append due (b ∷ []) in omega (arith, a, within, l) in
        let rule : r ≡ q = some_same r q (sym there ∙ (ap (slice_get p.rules) (sym (here ∙ many)) ∙ f)) in
        let not : b ≡ false = some_same b false
        (sym (slice-last due b) ∙ (ap (slice_get (due ++ b ∷ [])) (sym here) ∙ e)) in
        subst (λ (x : plain.Rule). length (facts_at x.source old) ≡ length (facts_at x.source new)) rule (same not)

-- the proofs listed at a position; none past the end
pub listed_there : (lists : List (Vec FactProof Global)) (i : ℕ) (v : Vec FactProof Global)
    → slice_get lists i ≡ Some v → v.items ≡ listed_at (lists_of lists) i
listed_there lists i v e =
    sym (ap (λ (o : Option (List FactProof)). listed_in o)
    (slice_get-map (λ (w : Vec FactProof Global). w.items) lists i
    ∙ ap (λ (o : Option (Vec FactProof Global)). option_map (λ (w : Vec FactProof Global). w.items) o) e))

pub listed_missing : (lists : List (Vec FactProof Global)) (i : ℕ) → slice_get lists i ≡ None
    → [] ≡ listed_at (lists_of lists) i
listed_missing lists i e =
    sym (ap (λ (o : Option (List FactProof)). listed_in o)
    (slice_get-map (λ (w : Vec FactProof Global). w.items) lists i
    ∙ ap (λ (o : Option (Vec FactProof Global)). option_map (λ (w : Vec FactProof Global). w.items) o) e))

-- two lists that agree at a position have the same proofs there
pub listed-same : (lists others : List (Vec FactProof Global)) (i : ℕ) → slice_get lists i ≡ slice_get others i
    → listed_at (lists_of lists) i ≡ listed_at (lists_of others) i
listed-same lists others i e =
    ap (λ (o : Option (List FactProof)). listed_in o) (slice_get-map (λ (w : Vec FactProof Global). w.items) lists i
    ∙ (ap (λ (o : Option (Vec FactProof Global)). option_map (λ (w : Vec FactProof Global). w.items) o) e
    ∙ sym (slice_get-map (λ (w : Vec FactProof Global). w.items) others i)))

-- taking one element doesn't change those after it
pub rest-same : {X : Type 0} (old new first : List X) (i : ℕ) → ((j : ℕ) → i ≤ j → slice_get old j ≡ slice_get first j)
    → ((j : ℕ) → j ≢ i → slice_get new j ≡ slice_get old j) → (j : ℕ) → i + 1 ≤ j → slice_get new j ≡ slice_get first j
rest-same old new first i same others j l =
    others j (λ e. absurd (let no : ⊥ = omega (arith, l, e) in no)) ∙ same j (omega (arith, l))
