-- Runs of neighbours that belong together.
use Rattle.std.proofs.Common.{◌≡◌, ℕ, zero, suc, ◌+◌, Bool, true, false, cond, List, [], ◌∷◌, ◌++◌, length, get_or}
use Rattle.std.proofs.Common.{refl, ap, sym, ◌∙◌, append-nil, append_assoc, subst, arith}
use Rattle.bound_expr.specs.model.Bounds as plain
use Rattle.bound_expr.specs.declared.bound.Bound.{Bound}
use Rattle.bound_expr.specs.Views.{bound_of, bounds_of}
use Rattle.bound_table.specs.declared.kinds.Joining.{Joining}
use Rattle.bound_table.specs.declared.kinds.Joining.TheVariants.{AsLikes, AsPowers}
use Rattle.bound_table.specs.Runs.{Run, run_parts, with_part_before, runs_of, all_runs_joined, last_belongs}
use Rattle.bound_table.specs.Joining.{belong_together, run_joined}

-- joining an empty run gives no parts
run_joined-nothing : (j : Joining) → run_joined j [] ≡ []
run_joined-nothing AsLikes = refl
run_joined-nothing AsPowers = refl

-- laws for each of the two ways of joining neighbours
module _ (j : Joining) where
  -- two neighbours that belong together
  abbrev pub are_one : plain.Bound → plain.Bound → Bool
  are_one = belong_together j

  -- parts cut into runs
  abbrev pub cut : List plain.Bound → List Run
  cut = runs_of (belong_together j)

  -- a part before runs
  abbrev pub before_runs : plain.Bound → List Run → List Run
  before_runs = with_part_before (belong_together j)

  -- a part that continues a run
  abbrev pub goes_on : List plain.Bound → plain.Bound → Bool
  goes_on = last_belongs (belong_together j)

  -- parts joined run by run
  abbrev pub joined_by_runs : List plain.Bound → List plain.Bound
  joined_by_runs ps = all_runs_joined (run_joined j) (runs_of (belong_together j) ps)

  -- all neighbours belong together
  abbrev pub IsChain : List plain.Bound → Type 0
  IsChain [] = Unit {0}
  IsChain (p ∷ []) = Unit {0}
  IsChain (p ∷ q ∷ ps) = (are_one p q ≡ true) × IsChain (q ∷ ps)

  -- a chain with one more part that belongs together with its last one is a chain
  pub IsChain-more : (ps : List plain.Bound) (q : plain.Bound) → IsChain ps → goes_on ps q ≡ true
      → IsChain (ps ++ q ∷ [])
  IsChain-more [] q chain like = cc
  IsChain-more (p ∷ []) q chain like = (like, tt)
  IsChain-more (p ∷ r ∷ ps) q chain like = (chain.0, IsChain-more (r ∷ ps) q chain.1 like)

  -- if a part doesn't belong together with the next one, it is the first run, alone
  runs-first : (p q : plain.Bound) (qs : List plain.Bound) → are_one p q ≡ false
      → before_runs p (cut (q ∷ qs)) ≡ record { first = p; others = [] } ∷ cut (q ∷ qs)
  runs-first p q qs unlike = go (cut qs)
    where
      go : (rs : List Run)
          → before_runs p (before_runs q rs) ≡ record { first = p; others = [] } ∷ before_runs q rs
      go [] =
          ap
          (λ b. cond b (record { first = p; others = q ∷ [] } ∷ []) (record { first = p; others = [] } ∷ record { first = q; others = [] } ∷ []))
          unlike
      go (r ∷ rs) = by (are_one q r.first)
        where
          by : (b : Bool)
              → before_runs p (cond b (record { first = q; others = run_parts r } ∷ rs) (record { first = q; others = [] } ∷ r ∷ rs))
              ≡ record { first = p; others = [] } ∷ cond b (record { first = q; others = run_parts r } ∷ rs) (record { first = q; others = [] } ∷ r ∷ rs)
          by true =
              ap
              (λ b. cond b (record { first = p; others = q ∷ run_parts r } ∷ rs) (record { first = p; others = [] } ∷ record { first = q; others = run_parts r } ∷ rs))
              unlike
          by false =
              ap
              (λ b. cond b (record { first = p; others = q ∷ [] } ∷ r ∷ rs) (record { first = p; others = [] } ∷ record { first = q; others = [] } ∷ r ∷ rs))
              unlike

  -- a chain before a part that does not belong together with its last one is a run of its own
  runs-chain : (p : plain.Bound) (ps : List plain.Bound) (q : plain.Bound) (qs : List plain.Bound) → IsChain (p ∷ ps)
      → goes_on (p ∷ ps) q ≡ false
      → cut ((p ∷ ps) ++ q ∷ qs) ≡ record { first = p; others = ps } ∷ cut (q ∷ qs)
  runs-chain p [] q qs chain unlike = runs-first p q qs unlike
  runs-chain p (r ∷ ps) q qs chain unlike =
      ap (before_runs p) (runs-chain r ps q qs chain.1 unlike)
      ∙ ap
      (λ b. cond b (record { first = p; others = r ∷ ps } ∷ cut (q ∷ qs)) (record { first = p; others = [] } ∷ record { first = r; others = ps } ∷ cut (q ∷ qs)))
      chain.0

  -- a chain alone is one run
  runs-whole : (p : plain.Bound) (ps : List plain.Bound) → IsChain (p ∷ ps)
      → cut (p ∷ ps) ≡ record { first = p; others = ps } ∷ []
  runs-whole p [] chain = refl
  runs-whole p (r ∷ ps) chain =
      ap (before_runs p) (runs-whole r ps chain.1)
      ∙ ap
      (λ b. cond b (record { first = p; others = r ∷ ps } ∷ []) (record { first = p; others = [] } ∷ record { first = r; others = ps } ∷ []))
      chain.0

  -- parts joined run by run, where the first run has ended: that run joined, and the parts after it joined
  pub runs-ended : (run : List plain.Bound) (q : plain.Bound) (qs : List plain.Bound) → IsChain run
      → goes_on run q ≡ false
      → joined_by_runs (run ++ q ∷ qs) ≡ run_joined j run ++ joined_by_runs (q ∷ qs)
  runs-ended [] q qs chain unlike =
      sym (ap (λ (ps : List plain.Bound). ps ++ joined_by_runs (q ∷ qs)) (run_joined-nothing j))
  runs-ended (p ∷ ps) q qs chain unlike = ap (all_runs_joined (run_joined j)) (runs-chain p ps q qs chain unlike)

  -- parts joined run by run, where all are one run: that run joined
  pub runs-last : (run : List plain.Bound) → IsChain run → joined_by_runs (run ++ []) ≡ run_joined j run
  runs-last [] chain = sym (run_joined-nothing j)
  runs-last (p ∷ ps) chain =
      ap (λ (rs : List plain.Bound). joined_by_runs rs) (append-nil (p ∷ ps))
      ∙ ap (all_runs_joined (run_joined j)) (runs-whole p ps chain) ∙ append-nil (run_joined j (p ∷ ps))

  -- the part at the last position
  pub last_belongs-at : (xs : List Bound) (i : ℕ) (x : Bound) (q : plain.Bound) → i + 1 ≡ length xs → x ≡ get_or xs i x
      → goes_on (bounds_of xs) q ≡ are_one (bound_of x) q
  last_belongs-at [] i x q h e = absurd (omega arith)
  last_belongs-at (y ∷ []) zero x q h e = ap (λ (z : Bound). are_one (bound_of z) q) (sym e)
  last_belongs-at (y ∷ []) (suc i) x q h e = absurd (omega arith)
  last_belongs-at (y ∷ z ∷ xs) zero x q h e = absurd (omega arith)
  last_belongs-at (y ∷ z ∷ xs) (suc i) x q h e = last_belongs-at (z ∷ xs) i x q (omega arith) e

  -- the state of joining parts run by run: the parts that are done, the current run, and the parts that are left;
  -- together they give the parts joined run by run
  pub record Stands (done run left all : List plain.Bound) : Type 0 where
    pub joined : done ++ joined_by_runs (run ++ left) ≡ joined_by_runs all
    pub chain : IsChain run

  -- a part that continues the current run keeps the state
  pub Stands-more : (done run : List plain.Bound) (q : plain.Bound) (qs all now : List plain.Bound)
      → Stands done run (q ∷ qs) all → goes_on run q ≡ true
      → now ≡ run ++ q ∷ [] → Stands done now qs all
  Stands-more done run q qs all now stands like is =
      record {
        joined =
            ap (λ (ps : List plain.Bound). done ++ joined_by_runs ps)
            (ap (λ (ps : List plain.Bound). ps ++ qs) is ∙ append_assoc run (q ∷ []) qs)
            ∙ stands.joined;
        chain = subst IsChain (sym is) (IsChain-more run q stands.chain like);
      }

  -- a part that doesn't continue the run ends it and begins another
  pub Stands-ended : (done run : List plain.Bound) (q : plain.Bound) (qs all now more : List plain.Bound)
      → Stands done run (q ∷ qs) all → goes_on run q ≡ false
      → more ≡ done ++ run_joined j run → now ≡ q ∷ [] → Stands more now qs all
  Stands-ended done run q qs all now more stands unlike is_more is =
      record {
        joined =
            ap (λ (ps : List plain.Bound). ps ++ joined_by_runs (now ++ qs)) is_more
            ∙ append_assoc done (run_joined j run) (joined_by_runs (now ++ qs))
            ∙ ap (λ (ps : List plain.Bound). done ++ (run_joined j run ++ joined_by_runs (ps ++ qs))) is
            ∙ sym (ap (λ (ps : List plain.Bound). done ++ ps) (runs-ended run q qs stands.chain unlike))
            ∙ stands.joined;
        chain = subst IsChain (sym is) tt;
      }

  -- when no part is left, the finished parts and the last run joined are the result
  pub Stands-last : (done run all more : List plain.Bound) → Stands done run [] all → more ≡ done ++ run_joined j run
      → more ≡ joined_by_runs all
  Stands-last done run all more stands is =
      is ∙ sym (ap (λ (ps : List plain.Bound). done ++ ps) (runs-last run stands.chain)) ∙ stands.joined
