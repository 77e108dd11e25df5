-- What the first check that fails says of the members of a component.
use Rattle.std.proofs.Common.{◌≡◌, ℕ, ◌||◌, Bool, true, false, List, [], ◌∷◌, map, None, refl}
use Rattle.std.proofs.Common.{sym, ap, subst}
use Rattle.std.specs.List.{AllByRecursion, Contains}
use Rattle.std.proofs.lemmas.List.Elements.{All-contains_itself, recursion_from_All}
use Rattle.model.specs.Entries.{is_in}
use Rattle.model.specs.Paths.{pre}
use Rattle.model.specs.Programs.{Program}
use Rattle.model.proofs.Membership.{filter-in}
use Rattle.outcome.specs.Reports.{NoSize, SizeUnbounded, SizeHitLimit, SizeMissing, SizeNonlinear, SizeUntimed, SizeLarge}
use Rattle.cert_types.specs.cert_rules.AcceptsSizes.{IsStraight, spread_size, cycle_size}
use Rattle.cert_types.specs.cert_rules.Checks.{large_nodes, needed_into, needed_times, spread_checks, cycle_checks}
use Rattle.cert_types.specs.cert_rules.ComposedSizes.{rules_of, flows, multiplies, adds}
use Rattle.cert_types.specs.cert_rules.Known.{IsKnown}
use Rattle.cert_types.specs.cert_rules.Limits.{IsSmallComposed}
use Rattle.cert_types.specs.cert_rules.Nodes.{ResultVariable, Member}
use Rattle.cert_types.specs.cert_rules.Reasons as reasons
use Rattle.cert_types.specs.cert_rules.Reasons.{Reason}
use Rattle.cert_types.specs.cert_rules.Setting.{Setting}
use Rattle.cert_types.specs.cert_program.Setting.{setting_of}
use Rattle.cert_types.proofs.cert_rules.CheckLists.{in-each}
use Rattle.bound_fixpoint.specs.Keys.{Bounds, has_key, over}
use Rattle.bound_fixpoint.specs.Loops.{do_loop}
use Rattle.bound_fixpoint.specs.Right.{IsReasonFor}
use Rattle.bound_fixpoint.specs.Searches.{Unsized}
use Rattle.bound_fixpoint.proofs.Cases.{either}
use Rattle.bound_fixpoint.proofs.ListMembers.{contains-cases, contains-none}
use Rattle.time_bounds.specs.ProgramSizes.{AnswersMembers}
use Rattle.time_bounds.specs.SizeWhys.{IsComponentOf, LacksFirst, RestsOnSize}
use Rattle.time_bounds.specs.SizeWhys.{TakesFrom, MultipliesAt, GrowsUntimed, composed_size, SizeIsLarge}
use Rattle.time_bounds.specs.SizeWhys.{HasNoSize}
use Rattle.time_bounds.proofs.FailingChecks.{of_all, NonlinearGives, spread_gives, cycle_gives}
use Rattle.time_bounds.proofs.NeededMembers.{IsNeeded, into_needed, outside_keys, outside_alone, size_missing, time_missing}

-- a property of each element of a list follows from two properties of it
pub from_both : {A : Type 0} (P Q R : A → Type 0) → ((x : A) → P x → Q x → R x) → (xs : List A) → AllByRecursion P xs → AllByRecursion Q xs
    → AllByRecursion R xs
from_both P Q R f [] h k = tt
from_both P Q R f (x ∷ xs) h k = (f x h.0 k.0, from_both P Q R f xs h.1 k.1)

-- if each element of a list gives the conclusion, knowing that it is in the list, the conclusion follows
each_member : {A : Type 0} (P Q : A → Type 0) (xs : List A) → ((x : A) → Contains xs x → P x → Q x) → AllByRecursion P xs → AllByRecursion Q xs
each_member P Q xs f h =
    from_both (Contains xs) P Q f xs (recursion_from_All (Contains xs) xs (All-contains_itself xs)) h

-- result variables with the same rule and place are equal
same_result_variable : (m n : ResultVariable) → m.rule ≡ n.rule → m.place ≡ n.place → m ≡ n
same_result_variable m n rule place = λ i. record { rule = rule i; place = place i }

module _ (p : Program) (pivots : ℕ) where
  abbrev s : Setting
  s = setting_of p

  module _ (b : Bounds) (t i : ℕ) where
    -- a size that is a premise and isn't known; no premise is a member
    module _ (m : ResultVariable) (members : List Member) (component : IsComponentOf p pivots t i members)
        (first : LacksFirst s b members (SizeMissing m)) (inside : List Member)
        (outer : (x : ResultVariable) → IsNeeded s inside members x → has_key (map (λ k. k.result_variable) members) x.rule x.place ≡ false) where
      rests : (x : ResultVariable) → IsNeeded s inside members x → (IsKnown ((over b).size x.rule x.place) → ⊥)
          → reasons.MissingSize x.rule x.place ≡ reasons.MissingSize m.rule m.place → RestsOnSize p pivots b t i m
      rests x needed fails e =
          let rule : x.rule ≡ m.rule = cc in
          let place : x.place ≡ m.place = cc in
          let there = subst (λ (k : ResultVariable). IsNeeded s inside members k) (same_result_variable x m rule place) needed in
          record {
            members = members;
            component = component;
            member = there.member;
            among = there.among;
            takes = there.takes;
            outside = outer m there;
            missing = subst (λ (k : ResultVariable). b k.rule k.place ≡ None) (same_result_variable x m rule place)
                (size_missing b x.rule x.place needed.takes.place fails);
            first = first;
          }

      all_rest : (result_variables : List ResultVariable) → AllByRecursion (IsNeeded s inside members) result_variables
          → AllByRecursion (λ x. (IsKnown ((over b).size x.rule x.place) → ⊥)
          → reasons.MissingSize x.rule x.place ≡ reasons.MissingSize m.rule m.place → RestsOnSize p pivots b t i m) result_variables
      all_rest [] h = tt
      all_rest (x ∷ result_variables) h = (rests x h.0, all_rest result_variables h.1)

    -- the reason if a size is the first premise that is missing
    size_so : (m : ResultVariable) (members : List Member) → IsComponentOf p pivots t i members → (v : Bool) → do_loop s members ≡ v
        → AnswersMembers v s (over b) members (Unsized (SizeMissing m)) → RestsOnSize p pivots b t i m
    size_so m [] component false e h = absurd h
    size_so m (n ∷ []) component false e (r, is, failed) =
        spread_gives (reasons.MissingSize m.rule m.place) (RestsOnSize p pivots b t i m) s (over b)
        (λ k. let none : ⊥ = cc in none) (λ a c k. let none : ⊥ = cc in none) (λ a c k. let none : ⊥ = cc in none) n
        (all_rest m (n ∷ []) component
        (subst (λ (w : Bool). AnswersMembers w s (over b) (n ∷ []) (Unsized (SizeMissing m))) (sym e) (r, is, failed)) []
        alone (needed_into s [] (n ∷ []))
        (into_needed s [] (n ∷ []) (n ∷ []) (recursion_from_All (Contains (n ∷ [])) (n ∷ []) (All-contains_itself (n ∷ [])))))
        (λ fails k. absurd (let none : ⊥ = cc in none))
        (subst (λ (q : Reason). reasons.IsFirstAmong (spread_checks s (over b) n) q) is failed)
      where
        alone : (x : ResultVariable) → IsNeeded s [] (n ∷ []) x → has_key (map (λ k. k.result_variable) (n ∷ [])) x.rule x.place ≡ false
        alone x needed =
            let only = either (contains-cases needed.member n [] needed.among) (λ f. sym f)
            (λ later. absurd (contains-none needed.member later)) in
            outside_alone s n x e (subst (λ (k : Member). TakesFrom s k x) only needed.takes)
    size_so m (n ∷ k ∷ members) component false e h = absurd h
    size_so m members component true e (r, is, failed) =
        cycle_gives (reasons.MissingSize m.rule m.place) (RestsOnSize p pivots b t i m) s (over b)
        (λ k. let none : ⊥ = cc in none) (λ a c k. let none : ⊥ = cc in none) (λ a c k. let none : ⊥ = cc in none) members
        (all_rest m members component
        (subst (λ (w : Bool). AnswersMembers w s (over b) members (Unsized (SizeMissing m))) (sym e) (r, is, failed)) members
        (λ x needed. outside_keys members x.rule x.place needed.takes.place needed.outside) (needed_into s members members)
        (into_needed s members members members
        (recursion_from_All (Contains members) members (All-contains_itself members))))
        (of_all _ (λ n. of_all _ (λ u. (
          (λ fails k. absurd (let none : ⊥ = cc in none)),
          λ fails k. absurd (let none : ⊥ = cc in none),
        )) (pre p n.result_variable.rule)) members)
        (of_all _ (λ u fails k. absurd (let none : ⊥ = cc in none)) (needed_times s (over b) members))
        (λ fails k. absurd (let none : ⊥ = cc in none))
        (subst (λ (q : Reason). reasons.IsFirstAmong (cycle_checks s (over b) members) q) is failed)

    -- the reason if a member is the first that is nonlinear
    nonlinear_so : (m : ResultVariable) (members : List Member) → IsComponentOf p pivots t i members → (v : Bool) → do_loop s members ≡ v
        → AnswersMembers v s (over b) members (Unsized (SizeNonlinear m)) → MultipliesAt p pivots b t i m
    nonlinear_so m [] component false e h = absurd h
    nonlinear_so m (n ∷ []) component false e (r, is, failed) =
        spread_gives (reasons.Nonlinear m.rule m.place) (MultipliesAt p pivots b t i m) s (over b)
        (λ k. let none : ⊥ = cc in none) (λ a c k. let none : ⊥ = cc in none) (λ a c k. let none : ⊥ = cc in none) n
        (of_all _ (λ x fails k. absurd (let none : ⊥ = cc in none)) (needed_into s [] (n ∷ [])))
        (λ fails k. absurd (let none : ⊥ = cc in none))
        (subst (λ (q : Reason). reasons.IsFirstAmong (spread_checks s (over b) n) q) is failed)
    nonlinear_so m (n ∷ k ∷ members) component false e h = absurd h
    nonlinear_so m members component true e (r, is, failed) =
        cycle_gives (reasons.Nonlinear m.rule m.place) (MultipliesAt p pivots b t i m) s (over b)
        (λ k. let none : ⊥ = cc in none) (λ a c k. let none : ⊥ = cc in none) (λ a c k. let none : ⊥ = cc in none) members
        (of_all _ (λ x fails k. absurd (let none : ⊥ = cc in none)) (needed_into s members members))
        (each_member (λ n. Unit {0}) (λ n. AllByRecursion (NonlinearGives (reasons.Nonlinear m.rule m.place) (MultipliesAt p pivots b t i m) s members n)
        (pre p n.result_variable.rule)) members (λ n among one. bends n among) (of_all (λ n. Unit {0}) (λ n. tt) members))
        (of_all _ (λ u fails k. absurd (let none : ⊥ = cc in none)) (needed_times s (over b) members))
        (λ fails k. absurd (let none : ⊥ = cc in none))
        (subst (λ (q : Reason). reasons.IsFirstAmong (cycle_checks s (over b) members) q) is failed)
      where
        multiplies_at : (n : Member) → Contains members n → (IsStraight s members n → ⊥)
            → reasons.Nonlinear n.result_variable.rule n.result_variable.place ≡ reasons.Nonlinear m.rule m.place → MultipliesAt p pivots b t i m
        multiplies_at n among fails k =
            let rule : n.result_variable.rule ≡ m.rule = cc in
            let place : n.result_variable.place ≡ m.place = cc in
            record {
              members = members;
              component = component;
              member = n;
              among = among;
              same = same_result_variable n.result_variable m rule place;
              loop = e;
              nonlinear = fails;
              first = subst (λ (w : Bool). AnswersMembers w s (over b) members (Unsized (SizeNonlinear m))) (sym e) (r, is, failed);
            }

        bends : (n : Member) → Contains members n
            → AllByRecursion (NonlinearGives (reasons.Nonlinear m.rule m.place) (MultipliesAt p pivots b t i m) s members n) (pre p n.result_variable.rule)
        bends n among =
            in-each (NonlinearGives (reasons.Nonlinear m.rule m.place) (MultipliesAt p pivots b t i m) s members n) (pre p n.result_variable.rule)
            (λ u k. (
              (λ fails same. multiplies_at n among (λ straight. fails (straight.up u k)) same),
              λ fails same. multiplies_at n among (λ straight. fails (straight.low u k)) same,
            ))

    -- the reason if a time is the first premise that is missing
    untimed_so : (u : ℕ) (members : List Member) → IsComponentOf p pivots t i members → (v : Bool) → do_loop s members ≡ v
        → AnswersMembers v s (over b) members (Unsized (SizeUntimed u)) → GrowsUntimed p pivots b t i u
    untimed_so u [] component false e h = absurd h
    untimed_so u (n ∷ []) component false e (r, is, failed) =
        spread_gives (reasons.MissingTime u) (GrowsUntimed p pivots b t i u) s (over b)
        (λ k. let none : ⊥ = cc in none) (λ a c k. let none : ⊥ = cc in none) (λ a c k. let none : ⊥ = cc in none) n
        (of_all _ (λ x fails k. absurd (let none : ⊥ = cc in none)) (needed_into s [] (n ∷ [])))
        (λ fails k. absurd (let none : ⊥ = cc in none))
        (subst (λ (q : Reason). reasons.IsFirstAmong (spread_checks s (over b) n) q) is failed)
    untimed_so u (n ∷ k ∷ members) component false e h = absurd h
    untimed_so u members component true e (r, is, failed) =
        cycle_gives (reasons.MissingTime u) (GrowsUntimed p pivots b t i u) s (over b)
        (λ k. let none : ⊥ = cc in none) (λ a c k. let none : ⊥ = cc in none) (λ a c k. let none : ⊥ = cc in none) members
        (of_all _ (λ x fails k. absurd (let none : ⊥ = cc in none)) (needed_into s members members))
        (of_all _ (λ n. of_all _ (λ w. (
          (λ fails k. absurd (let none : ⊥ = cc in none)),
          λ fails k. absurd (let none : ⊥ = cc in none),
        )) (pre p n.result_variable.rule)) members)
        (in-each (λ w. (IsKnown ((over b).time w) → ⊥) → reasons.MissingTime w ≡ reasons.MissingTime u → GrowsUntimed p pivots b t i u)
        (needed_times s (over b) members) grows)
        (λ fails k. absurd (let none : ⊥ = cc in none))
        (subst (λ (q : Reason). reasons.IsFirstAmong (cycle_checks s (over b) members) q) is failed)
      where
        grows : (w : ℕ) → is_in w (needed_times s (over b) members) ≡ true → (IsKnown ((over b).time w) → ⊥)
            → reasons.MissingTime w ≡ reasons.MissingTime u → GrowsUntimed p pivots b t i u
        grows w k fails same =
            let rule : w ≡ u = cc in
            let listed = filter-in (λ j. multiplies (flows s members (over b).size) j || adds s (flows s members (over b).size) j)
            (rules_of s members) u (subst (λ (j : ℕ). is_in j (needed_times s (over b) members) ≡ true) rule k) in
            record {
              members = members;
              component = component;
              loop = e;
              uses = listed.0;
              grows = listed.1;
              missing = subst (λ (j : ℕ). b j 0 ≡ None) rule (time_missing b w fails);
              first = subst (λ (x : Bool). AnswersMembers x s (over b) members (Unsized (SizeUntimed u))) (sym e) (r, is, failed);
            }

    -- the reason if the composed size is large
    large_so : (n : ℕ) (members : List Member) → IsComponentOf p pivots t i members → (v : Bool) → do_loop s members ≡ v
        → AnswersMembers v s (over b) members (Unsized (SizeLarge n)) → SizeIsLarge p pivots b t i n
    large_so n [] component false e h = absurd h
    large_so n (m ∷ []) component false e (r, is, failed) =
        spread_gives (reasons.Large n) (SizeIsLarge p pivots b t i n) s (over b)
        (λ k. let none : ⊥ = cc in none) (λ a c k. let none : ⊥ = cc in none) (λ a c k. let none : ⊥ = cc in none) m
        (of_all _ (λ x fails k. absurd (let none : ⊥ = cc in none)) (needed_into s [] (m ∷ []))) large
        (subst (λ (q : Reason). reasons.IsFirstAmong (spread_checks s (over b) m) q) is failed)
      where
        large : (IsSmallComposed s.rewrite (spread_size s (over b) m) → ⊥)
            → reasons.Large (large_nodes s.rewrite (spread_size s (over b) m)) ≡ reasons.Large n → SizeIsLarge p pivots b t i n
        large fails k =
            let nodes : large_nodes s.rewrite (spread_size s (over b) m) ≡ n = cc in
            record {
              members = m ∷ [];
              component = component;
              size = spread_size s (over b) m;
              composed = ap (λ (x : Bool). composed_size x s (over b) (m ∷ [])) (sym e);
              large = fails;
              nodes = sym nodes;
              first = subst (λ (x : Bool). AnswersMembers x s (over b) (m ∷ []) (Unsized (SizeLarge n))) (sym e) (r, is, failed);
            }
    large_so n (m ∷ k ∷ members) component false e h = absurd h
    large_so n members component true e (r, is, failed) =
        cycle_gives (reasons.Large n) (SizeIsLarge p pivots b t i n) s (over b)
        (λ k. let none : ⊥ = cc in none) (λ a c k. let none : ⊥ = cc in none) (λ a c k. let none : ⊥ = cc in none) members
        (of_all _ (λ x fails k. absurd (let none : ⊥ = cc in none)) (needed_into s members members))
        (of_all _ (λ m. of_all _ (λ w. (
          (λ fails k. absurd (let none : ⊥ = cc in none)),
          λ fails k. absurd (let none : ⊥ = cc in none),
        )) (pre p m.result_variable.rule)) members)
        (of_all _ (λ u fails k. absurd (let none : ⊥ = cc in none)) (needed_times s (over b) members)) large
        (subst (λ (q : Reason). reasons.IsFirstAmong (cycle_checks s (over b) members) q) is failed)
      where
        large : (IsSmallComposed s.rewrite (cycle_size s (over b) members) → ⊥)
            → reasons.Large (large_nodes s.rewrite (cycle_size s (over b) members)) ≡ reasons.Large n → SizeIsLarge p pivots b t i n
        large fails k =
            let nodes : large_nodes s.rewrite (cycle_size s (over b) members) ≡ n = cc in
            record {
              members = members;
              component = component;
              size = cycle_size s (over b) members;
              composed = ap (λ (x : Bool). composed_size x s (over b) members) (sym e);
              large = fails;
              nodes = sym nodes;
              first = subst (λ (x : Bool). AnswersMembers x s (over b) members (Unsized (SizeLarge n))) (sym e) (r, is, failed);
            }

    -- checks fail for no other reason
    never : (w : NoSize) → ((r : Reason) → IsReasonFor w r → ⊥) → (members : List Member) (v : Bool)
        → AnswersMembers v s (over b) members (Unsized w) → ⊥
    never w fails [] false h = h
    never w fails (n ∷ []) false (r, is, failed) = fails r is
    never w fails (n ∷ k ∷ members) false h = h
    never w fails members true (r, is, failed) = fails r is

    -- the reason that the answer for members with local bounds gives is true
    pub judged_so : (why : NoSize) (members : List Member) → IsComponentOf p pivots t i members
        → AnswersMembers (do_loop s members) s (over b) members (Unsized why) → HasNoSize p pivots b t i why
    judged_so (SizeUnbounded side ray kept) members component h =
        absurd (never (SizeUnbounded side ray kept) (λ r k. k) members (do_loop s members) h)
    judged_so (SizeHitLimit x) members component h =
        absurd (never (SizeHitLimit x) (λ r k. k) members (do_loop s members) h)
    judged_so (SizeMissing m) members component h = size_so m members component (do_loop s members) refl h
    judged_so (SizeNonlinear m) members component h = nonlinear_so m members component (do_loop s members) refl h
    judged_so (SizeUntimed u) members component h = untimed_so u members component (do_loop s members) refl h
    judged_so (SizeLarge n) members component h = large_so n members component (do_loop s members) refl h
