-- What the answers of linear programs show of goals.
use Rattle.std.proofs.Common.{◌≡◌, inl, inr, ℕ, ◌<◌, ◌≤◌, ◌^◌, arith, sym, subst, List}
use Rattle.std.specs.Prelude.{ℤ, pos, negsuc, ◌*ℤ◌, ◌≤ℤ◌, unsigned_abs, Vec, None, Some}
use Rattle.std.specs.declared.alloc.Global.{Global}
use Rattle.std.proofs.lemmas.Int.{ints}
use Rattle.std.proofs.lemmas.List.Elements.{All-nil}
use Rattle.poly_terms.specs.linear_forms.Certificates.{Implies, minus_one, combined_constant}
use Rattle.poly_terms.specs.linear_forms.Combinations.{form_times}
use Rattle.poly_terms.specs.linear_forms.Forms.{Form}
use Rattle.farkas_cert.specs.Sizes.{AreWithinLimit}
use Rattle.lp_builder.specs.Descriptions.{IsWritable}
use Rattle.location_facts.specs.declared.asking.Reply.TheVariants as replies
use Rattle.location_facts.specs.declared.fact.FactProof.TheVariants as proofs
use Rattle.location_facts.specs.Implied.{DecidesEmpty, DecidesGoal}
use Rattle.location_facts.specs.Kept.{goal_program, IsSolvedWithin}
use Rattle.location_facts.specs.Replies.{IsReply}

-- the form -1 can be written
pub minus-one-writable : (n : ℕ) (f : Form) → f ≡ minus_one → IsWritable n f
minus-one-writable n f e = subst (IsWritable n) (sym e) (record {
  fits = let l : 0 ≤ n = omega arith in l;
  coefs = All-nil (λ (a : ℤ). unsigned_abs a < 2 ^ 127);
  constant = let l : 1 < 2 ^ 127 = omega arith in l;
})

-- if a multiple of -1 follows, -1 follows
minus-one-follows : (rows : List Form) (ms : List ℕ) (times : ℕ) → 1 ≤ times
    → Implies rows ms (form_times (pos times) minus_one) → Implies rows ms minus_one
minus-one-follows rows ms times l h = record {
  long = h.long;
  coefs = h.coefs;
  constant = below (combined_constant ms rows) times l h.constant;
}
  where
    below : (a : ℤ) (n : ℕ) → 1 ≤ n → a ≤ℤ (pos n *ℤ negsuc 0) → a ≤ℤ negsuc 0
    below a n l h = omega (arith, ints, l, h)

module _ (pivots n : ℕ) (rows : List Form) (goal : Form) where
  -- if -1 follows, the rows have no point
  pub empty-worked : (v : Vec ℕ Global) (times : ℕ) → goal ≡ minus_one
      → IsReply pivots n rows goal (replies.Follows v times) → DecidesEmpty pivots n rows (Some v)
  empty-worked v times e (solved, follows) = (
    subst (λ (g : Form). IsSolvedWithin pivots (goal_program n rows g)) e solved,
    follows.within,
    minus-one-follows rows v.items times follows.least
        (subst (λ (g : Form). Implies rows v.items (form_times (pos times) g)) e follows.shows),
  )

  -- if the program of -1 isn't solved, there are no multipliers of -1
  pub nothing-sound : goal ≡ minus_one → ¬ IsSolvedWithin pivots (goal_program n rows goal)
      → DecidesEmpty pivots n rows None
  nothing-sound e h = subst (λ (g : Form). ¬ IsSolvedWithin pivots (goal_program n rows g)) e h

  -- a goal that follows is implied
  pub goal-sound : (v : Vec ℕ Global) (times : ℕ) → IsReply pivots n rows goal (replies.Follows v times)
      → DecidesGoal pivots n rows goal (Some (proofs.Implied v times))
  goal-sound v times (solved, follows) =
      (inr solved, (follows.within, follows.least, follows.most), follows.shows)

  -- a goal isn't implied if it doesn't follow and the rows aren't shown to have no point
  pub goal-missed : DecidesEmpty pivots n rows None → ¬ IsSolvedWithin pivots (goal_program n rows goal)
      → DecidesGoal pivots n rows goal None
  goal-missed a b (inl s) = a s
  goal-missed a b (inr s) = b s

  -- rows without a point imply every goal
  pub any-goal : (v w : Vec ℕ Global) → w.items ≡ v.items → DecidesEmpty pivots n rows (Some v)
      → DecidesGoal pivots n rows goal (Some (proofs.Empty w))
  any-goal v w e (solved, within, shows) = (
    inl solved,
    subst AreWithinLimit (sym e) within,
    subst (λ (ms : List ℕ). Implies rows ms minus_one) (sym e) shows,
  )
