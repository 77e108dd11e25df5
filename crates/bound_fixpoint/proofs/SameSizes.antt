-- Tables with the same bounds wherever a size node reads: over them the node composes the same size and is accepted
-- alike.
use Rattle.std.proofs.Common.{◌≡◌, ◌≢◌, ℕ, suc, ◌==◌, ◌||◌, Bool, true, false, cond, List, [], ◌∷◌, ◌++◌}
use Rattle.std.proofs.Common.{Option, Some, None, refl, sym, ◌∙◌, ap, subst}
use Rattle.std.specs.Prelude.{pos, nat_abs}
use Rattle.std.specs.List.{AllByRecursion, list_any}
use Rattle.std.proofs.lemmas.Bool.{or_left, or_right}
use Rattle.std.proofs.lemmas.List.Elements.{All-from_recursion, recursion_from_All}
use Rattle.rule_questions.specs.model.Bounds.{Bound, Constant, SumOf, ProductOf, MaximumOf, PowerOf, Parts, Part}
use Rattle.rule_questions.specs.model.Entries.{is_in}
use Rattle.rule_questions.specs.model.Paths.{pre}
use Rattle.rule_questions.specs.model.Polynomials.{Polynomial}
use Rattle.rule_questions.proofs.model.Membership.{same_number, is_in-filter}
use Rattle.rule_questions.specs.linear_forms.Forms.{Form, at}
use Rattle.rule_questions.specs.rule_forms.Bounds.{height}
use Rattle.rule_questions.specs.cert_rules.Nodes.{ResultVariable, SideBound, Linear, Poly, Member}
use Rattle.rule_questions.specs.cert_rules.Numbers.{rounded_up}
use Rattle.rule_questions.specs.cert_rules.Known.{Table, IsKnown, known}
use Rattle.rule_questions.specs.cert_rules.Setting.{Setting}
use Rattle.rule_questions.specs.cert_rules.Limits.{IsSmallComposed}
use Rattle.rule_questions.specs.cert_rules.Composed.{both_parts, no_place, rest_bound, sizes_after}
use Rattle.rule_questions.specs.cert_rules.ComposedSizes.{monomial_bound, monomial_parts, polynomial_bound, composed_side_bound}
use Rattle.rule_questions.specs.cert_rules.ComposedSizes.{has_variable}
use Rattle.rule_questions.specs.cert_rules.ComposedSizes.{reads, poly_at, spread_part, is_member, slope_of, offset_of}
use Rattle.rule_questions.specs.cert_rules.ComposedSizes.{Flow, flow}
use Rattle.rule_questions.specs.cert_rules.ComposedSizes.{flows_from, flows_into, flows, multiplies, adds, rules_of}
use Rattle.rule_questions.specs.cert_rules.ComposedSizes.{addition_of}
use Rattle.rule_questions.specs.cert_rules.ComposedSizes.{factor_of, base_of, growth_parts, addition_parts, loop_bound}
use Rattle.rule_questions.specs.cert_rules.Checks.{needed_into, needed_times}
use Rattle.rule_questions.specs.cert_rules.AcceptsSizes.{HasMemberShape, AcceptsUp, AcceptsLow, HasSizesBefore}
use Rattle.rule_questions.specs.cert_rules.AcceptsSizes.{AcceptsSpread}
use Rattle.rule_questions.specs.cert_rules.AcceptsSizes.{IsStraightSideBound, IsStraight, AcceptsCycle, spread_size}
use Rattle.rule_questions.specs.cert_rules.AcceptsSizes.{cycle_size}
use Rattle.rule_questions.proofs.cert_rules.FirstReasons.{HasSize}
use Rattle.rule_questions.proofs.cert_rules.SizeReasons.{members-known, known-members}
use Rattle.bound_fixpoint.specs.Keys.{has_key}
use Rattle.bound_fixpoint.proofs.Cases.{by_cases}
use Rattle.bound_fixpoint.proofs.Keys.{has_key-first, has_key-later}
use Rattle.bound_fixpoint.proofs.SameTimes.{place_parts-same, parts_for-same}
use Rattle.rule_questions.proofs.int_laws.ZeroLaws.{not_zero-complete as not_zero_decided}

-- a polynomial has the same bound over sizes that agree on its variables
monomials-same : (q : Polynomial) (f g : ℕ → Bound) → ((j : ℕ) → has_variable (Some q) j ≡ true → f j ≡ g j)
    → monomial_parts q f ≡ monomial_parts q g
monomials-same [] f g h = refl
monomials-same (m ∷ ms) f g h =
    ap (λ (bs : Parts). Part (ProductOf (Part (Constant (nat_abs m.coef)) bs)) (monomial_parts ms f))
    (parts_for-same m.vars f g (λ j k. h j (or_left (is_in j m.vars) (list_any (λ n. is_in j n.vars) ms) k)))
    ∙ ap (λ (bs : Parts). Part (monomial_bound g m) bs)
    (monomials-same ms f g (λ j k. h j (or_right (is_in j m.vars) (list_any (λ n. is_in j n.vars) ms) k)))

-- polynomials have the same bound over sizes that agree on their variables, also where there is no polynomial
polynomial-same : (o : Option Polynomial) (f g : ℕ → Bound) → ((j : ℕ) → has_variable o j ≡ true → f j ≡ g j)
    → polynomial_bound o f ≡ polynomial_bound o g
polynomial-same None f g h = refl
polynomial-same (Some q) f g h = ap (λ (bs : Parts). SumOf bs) (monomials-same q f g h)

-- a form has the same bound over sizes that agree where its coefficients aren't 0
rest-same : (form : Form) (den : ℕ) (left_out : ℕ → Bool) (f g : ℕ → Bound)
    → ((j : ℕ) → at form.coefs j ≢ pos 0 → left_out j ≡ false → f j ≡ g j)
    → rest_bound form den left_out f ≡ rest_bound form den left_out g
rest-same form den left_out f g h =
    ap (λ (bs : Parts). SumOf (Part (Constant (rounded_up (height form.constant) den)) bs))
    (place_parts-same form.coefs den left_out f g h)

-- a side bound has the same bound over sizes that agree where it reads
pub side_bound-same : (o : Option Polynomial) (side_bound : SideBound) (f g : ℕ → Bound) → ((j : ℕ) → reads o side_bound j ≡ true → f j ≡ g j)
    → composed_side_bound o side_bound f ≡ composed_side_bound o side_bound g
side_bound-same o (Linear den form ms) f g h =
    rest-same form den no_place f g (λ j n out. h j (not_zero_decided (at form.coefs j) n))
side_bound-same o Poly f g h = polynomial-same o f g h

-- the table that has the sizes of these result variables alone
abbrev listed_table : List ResultVariable → Table
listed_table result_variables = record { time = λ t. None; size = λ t i. cond (has_key result_variables t i) (Some (Constant 0)) None }

-- the table has the size of each of these result variables
listed_known : (result_variables : List ResultVariable) (t i : ℕ) → has_key result_variables t i ≡ true → IsKnown ((listed_table result_variables).size t i)
listed_known result_variables t i m = (Constant 0, rw m refl)

-- the table of these result variables has no other size
known_listed : (result_variables : List ResultVariable) (t i : ℕ) → IsKnown ((listed_table result_variables).size t i) → has_key result_variables t i ≡ true
known_listed result_variables t i h = by_cases (has_key result_variables t i) (λ e. e) (λ e. absurd (nothing h.0 (rw e at h.1)))
  where
    nothing : (b : Bound) → None ≡ Some b → ⊥
    nothing b e = cc

-- the table has the sizes of result variables that are all among its own
each_listed : (all xs : List ResultVariable) → ((t i : ℕ) → has_key xs t i ≡ true → has_key all t i ≡ true)
    → AllByRecursion (HasSize (listed_table all)) xs
each_listed all [] h = tt
each_listed all (x ∷ xs) h = (
  listed_known all x.rule x.place (h x.rule x.place (has_key-first x xs)),
  each_listed all xs (λ t i m. h t i (has_key-later x xs t i m)),
)

-- sizes that are known in one table are known in a table with the same ones
pub still_known : (a b : Table) (xs : List ResultVariable) → AllByRecursion (HasSize a) xs
    → ((t i : ℕ) → has_key xs t i ≡ true → b.size t i ≡ a.size t i) → AllByRecursion (HasSize b) xs
still_known a b [] h k = tt
still_known a b (x ∷ xs) h k = (
  (h.0.0, k x.rule x.place (has_key-first x xs) ∙ h.0.1),
  still_known a b xs h.1 (λ t i m. k t i (has_key-later x xs t i m)),
)

module _ (s : Setting) (members : List Member) (a b : ℕ → ℕ → Option Bound) where
  -- two tables agree on the sizes that a side bound of a member reads outside after rule e; and on those that both
  -- side bounds read after each rule that can come before
  abbrev pub AgreeOn : Member → SideBound → ℕ → Type 0
  AgreeOn m side_bound e = (j : ℕ) → reads (poly_at s m.result_variable) side_bound j ≡ true → is_member members e j ≡ false → a e (suc j)
      ≡ b e (suc j)

  abbrev pub AgreeBefore : Member → Type 0
  AgreeBefore m = (e : ℕ) → is_in e (pre s.program m.result_variable.rule) ≡ true
      → AgreeOn m m.local.up e × AgreeOn m m.local.low e

  -- the premises of these members are all sizes that their side bounds read
  agree_each : (all : List ResultVariable) → ((t i : ℕ) → has_key all t i ≡ true → a t i ≡ b t i) → (ms : List Member)
      → AllByRecursion (HasSizesBefore s (listed_table all) members) ms → AllByRecursion AgreeBefore ms
  agree_each all k [] h = tt
  agree_each all k (m ∷ ms) h = (
    λ e i. (
      λ j r n. k e (suc j) (known_listed all e (suc j) ((h.0 e i).up j r n)),
      λ j r n. k e (suc j) (known_listed all e (suc j) ((h.0 e i).low j r n)),
    ),
    agree_each all k ms h.1,
  )

  -- tables that agree on all sizes that are premises of members agree where the members' side bounds read
  pub agree_all : (ms : List Member) → AllByRecursion (HasMemberShape s) ms → AllByRecursion (AcceptsUp s) ms
      → AllByRecursion (AcceptsLow s) ms
      → ((t i : ℕ) → has_key (needed_into s members ms) t i ≡ true → a t i ≡ b t i)
      → AllByRecursion AgreeBefore ms
  agree_all ms shape up low k =
      agree_each (needed_into s members ms) k ms
      (members-known s (listed_table (needed_into s members ms)) members ms shape up low
      (each_listed (needed_into s members ms) (needed_into s members ms) (λ t i m. m)))

  -- the offsets of the flows agree
  offset-same : (m : Member) (side_bound : SideBound) (e : ℕ) → AgreeOn m side_bound e → IsStraightSideBound s members m e side_bound
      → offset_of (poly_at s m.result_variable) side_bound (is_member members e) (sizes_after a e)
      ≡ offset_of (poly_at s m.result_variable) side_bound (is_member members e) (sizes_after b e)
  offset-same m (Linear den form ms) e h straight =
      rest-same form den (is_member members e) (sizes_after a e) (sizes_after b e)
      (λ j n out. ap known (h j (not_zero_decided (at form.coefs j) n) out))
  offset-same m Poly e h straight =
      polynomial-same (poly_at s m.result_variable) (sizes_after a e) (sizes_after b e)
      (λ j r. ap known (h j r (straight j r)))

  -- the flow into a member with an offset
  abbrev flow_with : Member → SideBound → ℕ → Bound → Flow
  flow_with m side_bound e o = record { rule = m.result_variable.rule; slope = slope_of side_bound (is_member members e); offset = o }

  -- the flow by one side bound from one rule agrees
  flow-same : (m : Member) (side_bound : SideBound) (e : ℕ) → AgreeOn m side_bound e → IsStraightSideBound s members m e side_bound
      → flow s members a m side_bound e ≡ flow s members b m side_bound e
  flow-same m side_bound e h straight = ap (flow_with m side_bound e) (offset-same m side_bound e h straight)

  -- the flows from these rules by both side bounds agree
  flows_from-same : (m : Member) (es : List ℕ)
      → ((e : ℕ) → is_in e es ≡ true → AgreeOn m m.local.up e × AgreeOn m m.local.low e)
      → ((e : ℕ) → is_in e es ≡ true → IsStraightSideBound s members m e m.local.up)
      → ((e : ℕ) → is_in e es ≡ true → IsStraightSideBound s members m e m.local.low)
      → flows_from s members a m es ≡ flows_from s members b m es
  flows_from-same m [] h up low = refl
  flows_from-same m (e ∷ es) h up low =
      let first : is_in e (e ∷ es) ≡ true = or_left (e == e) (is_in e es) (same_number e) in
      let agree = h e first in
      ap (λ (x : Flow). x ∷ flow s members a m m.local.low e ∷ flows_from s members a m es)
      (flow-same m m.local.up e agree.0 (up e first))
      ∙ (ap (λ (x : Flow). flow s members b m m.local.up e ∷ x ∷ flows_from s members a m es)
      (flow-same m m.local.low e agree.1 (low e first))
      ∙ ap (λ (fs : List Flow). flow s members b m m.local.up e ∷ flow s members b m m.local.low e ∷ fs)
      (flows_from-same m es (λ x k. h x (or_right (x == e) (is_in x es) k))
      (λ x k. up x (or_right (x == e) (is_in x es) k)) (λ x k. low x (or_right (x == e) (is_in x es) k))))

  -- tables that agree where the side bounds read outside have the same flows into members
  pub flows_into-same : (ms : List Member) → AllByRecursion AgreeBefore ms
      → AllByRecursion (IsStraight s members) ms → flows_into s members a ms ≡ flows_into s members b ms
  flows_into-same [] h straight = refl
  flows_into-same (m ∷ ms) h straight =
      ap (λ (fs : List Flow). fs ++ flows_into s members a ms)
      (flows_from-same m (pre s.program m.result_variable.rule) h.0 straight.0.up straight.0.low)
      ∙ ap (λ (fs : List Flow). flows_from s members b m (pre s.program m.result_variable.rule) ++ fs)
      (flows_into-same ms h.1 straight.1)

-- times that agree on the rules that multiply or add give the same factors and summands
growth-same : (fs : List Flow) (f g : ℕ → Option Bound) (ts : List ℕ) (last : Bound)
    → ((t : ℕ) → is_in t ts ≡ true → multiplies fs t ≡ true → f t ≡ g t)
    → growth_parts fs f ts last ≡ growth_parts fs g ts last
growth-same fs f g [] last h = refl
growth-same fs f g (t ∷ ts) last h =
    go (multiplies fs t) refl (growth-same fs f g ts last (λ u m. h u (or_right (u == t) (is_in u ts) m)))
  where
    first : is_in t (t ∷ ts) ≡ true
    first = or_left (t == t) (is_in t ts) (same_number t)

    go : (v : Bool) → multiplies fs t ≡ v → growth_parts fs f ts last ≡ growth_parts fs g ts last
        → growth_parts fs f (t ∷ ts) last ≡ growth_parts fs g (t ∷ ts) last
    go true e rest =
        rw e (ap (λ (o : Option Bound). Part (PowerOf (factor_of fs t) (known o)) (growth_parts fs f ts last))
        (h t first e)
        ∙ ap (λ (bs : Parts). Part (PowerOf (factor_of fs t) (known (g t))) bs) rest)
    go false e rest = rw e rest

-- the parts of the additions agree
addition-same : (s : Setting) (fs : List Flow) (f g : ℕ → Option Bound) (ts : List ℕ)
    → ((t : ℕ) → is_in t ts ≡ true → adds s fs t ≡ true → f t ≡ g t)
    → addition_parts s fs f ts ≡ addition_parts s fs g ts
addition-same s fs f g [] h = refl
addition-same s fs f g (t ∷ ts) h =
    go (adds s fs t) refl (addition-same s fs f g ts (λ u m. h u (or_right (u == t) (is_in u ts) m)))
  where
    first : is_in t (t ∷ ts) ≡ true
    first = or_left (t == t) (is_in t ts) (same_number t)

    go : (v : Bool) → adds s fs t ≡ v → addition_parts s fs f ts ≡ addition_parts s fs g ts
        → addition_parts s fs f (t ∷ ts) ≡ addition_parts s fs g (t ∷ ts)
    go true e rest =
        rw e (ap (λ (o : Option Bound). Part (ProductOf (both_parts (known o) (addition_of fs t)))
        (addition_parts s fs f ts)) (h t first e)
        ∙ ap (λ (bs : Parts). Part (ProductOf (both_parts (known (g t)) (addition_of fs t))) bs) rest)
    go false e rest = rw e rest

-- whether a rule multiplies or adds
abbrev pub needs_time : Setting → List Flow → ℕ → Bool
needs_time s fs t = multiplies fs t || adds s fs t

-- the size of a loop agrees
loop-same : (s : Setting) (fs : List Flow) (f g : ℕ → Option Bound) (ts : List ℕ)
    → ((t : ℕ) → is_in t ts ≡ true → needs_time s fs t ≡ true → f t ≡ g t)
    → loop_bound s fs f ts ≡ loop_bound s fs g ts
loop-same s fs f g ts h =
    ap (λ (bs : Parts). ProductOf bs)
    (growth-same fs f g ts (SumOf (Part (base_of fs) (addition_parts s fs f ts)))
    (λ t i m. h t i (or_left (multiplies fs t) (adds s fs t) m))
    ∙ ap (λ (bs : Parts). growth_parts fs g ts (SumOf (Part (base_of fs) bs)))
    (addition-same s fs f g ts (λ t i m. h t i (or_right (multiplies fs t) (adds s fs t) m))))

-- a size node over two tables with the same bounds at all its premises: it composes the same size, and is accepted over
-- the second if it is over the first
module _ (s : Setting) (a b : Table) (m : Member) (ok : AcceptsSpread s a m)
    (sizes : (t i : ℕ) → has_key (needed_into s [] (m ∷ [])) t i ≡ true → b.size t i ≡ a.size t i) where
  -- a spread composes the same size over a table that agrees on the sizes that it needs
  pub spread_size-same : spread_size s b m ≡ spread_size s a m
  spread_size-same =
      ap (λ (bs : Parts). MaximumOf bs)
      (parts_for-same (pre s.program m.result_variable.rule) (spread_part s m b.size) (spread_part s m a.size) each)
    where
      agree : AgreeBefore s [] b.size a.size m
      agree = (agree_all s [] b.size a.size (m ∷ []) (ok.shape, tt) (ok.up, tt) (ok.low, tt) sizes).0

      each : (e : ℕ) → is_in e (pre s.program m.result_variable.rule) ≡ true → spread_part s m b.size e ≡ spread_part s m a.size e
      each e i =
          let both = agree e i in
          ap (λ (x : Bound). MaximumOf (both_parts x (composed_side_bound (poly_at s m.result_variable) m.local.low (sizes_after b.size e))))
          (side_bound-same (poly_at s m.result_variable) m.local.up (sizes_after b.size e) (sizes_after a.size e)
          (λ j r. ap known (both.0 j r refl)))
          ∙ ap (λ (x : Bound). MaximumOf (both_parts
          (composed_side_bound (poly_at s m.result_variable) m.local.up (sizes_after a.size e)) x))
          (side_bound-same (poly_at s m.result_variable) m.local.low (sizes_after b.size e) (sizes_after a.size e)
          (λ j r. ap known (both.1 j r refl)))

  -- a spread node that is accepted over a table is accepted over one that agrees on its premises
  pub spread_accepted : AcceptsSpread s b m
  spread_accepted = record {
    shape = ok.shape;
    up = ok.up;
    low = ok.low;
    sizes = (members-known s b [] (m ∷ []) (ok.shape, tt) (ok.up, tt) (ok.low, tt)
        (still_known a b (needed_into s [] (m ∷ [])) (known-members s a [] (m ∷ []) (ok.sizes, tt)) sizes)).0;
    small = subst (λ (x : Bound). IsSmallComposed s.rewrite x) (sym spread_size-same) ok.small;
  }

module _ (s : Setting) (a b : Table) (members : List Member) (ok : AcceptsCycle s a members)
    (sizes : (t i : ℕ) → has_key (needed_into s members members) t i ≡ true → b.size t i ≡ a.size t i)
    (times : (t : ℕ) → is_in t (needed_times s a members) ≡ true → b.time t ≡ a.time t) where
  -- the members have the right shape
  shapes : AllByRecursion (HasMemberShape s) members
  shapes = recursion_from_All (HasMemberShape s) members ok.shape.each

  ups : AllByRecursion (AcceptsUp s) members
  ups = recursion_from_All (AcceptsUp s) members ok.up

  lows : AllByRecursion (AcceptsLow s) members
  lows = recursion_from_All (AcceptsLow s) members ok.low

  -- all flows of a loop are the same over a table that agrees on its premises
  pub flows-same : flows s members b.size ≡ flows s members a.size
  flows-same =
      flows_into-same s members b.size a.size members (agree_all s members b.size a.size members shapes ups lows sizes)
      (recursion_from_All (IsStraight s members) members ok.straight)

  -- the times of the rules that multiply or add are the same
  time-same : (t : ℕ) → is_in t (rules_of s members) ≡ true → needs_time s (flows s members a.size) t ≡ true → b.time t
      ≡ a.time t
  time-same t i n = times t (is_in-filter (needs_time s (flows s members a.size)) (rules_of s members) t i n)

  -- a loop composes the same size over a table that agrees on the sizes and times that it needs
  pub cycle_size-same : cycle_size s b members ≡ cycle_size s a members
  cycle_size-same =
      ap (λ (fs : List Flow). loop_bound s fs b.time (rules_of s members)) flows-same
      ∙ loop-same s (flows s members a.size) b.time a.time (rules_of s members) time-same

  -- a loop node that is accepted over a table is accepted over one that agrees on its premises
  pub cycle_accepted : AcceptsCycle s b members
  cycle_accepted = record {
    shape = ok.shape;
    up = ok.up;
    low = ok.low;
    sizes = All-from_recursion (HasSizesBefore s b members) members
        (members-known s b members members shapes ups lows
        (still_known a b (needed_into s members members)
        (known-members s a members members (recursion_from_All (HasSizesBefore s a members) members ok.sizes)) sizes));
    straight = ok.straight;
    times = λ t i n. timed t i (subst (λ (fs : List Flow). needs_time s fs t ≡ true) flows-same n);
    small = subst (λ (x : Bound). IsSmallComposed s.rewrite x) (sym cycle_size-same) ok.small;
  }
    where
      timed : (t : ℕ) → is_in t (rules_of s members) ≡ true → needs_time s (flows s members a.size) t ≡ true
          → IsKnown (b.time t)
      timed t i n = let k = ok.times t i n in (k.0, time-same t i n ∙ k.1)
