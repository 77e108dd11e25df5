-- What holds of a grammar if its test is true.
use Rattle.std.proofs.Common.{◌≡◌, ℕ, suc, ◌<◌, ◌≤◌, true, ◌&&◌, List, [], refl, arith}
use Rattle.std.specs.Prelude.{◌==◌}
use Rattle.std.specs.List.{list_all}
use Rattle.std.proofs.lemmas.Bool.{eqb-true}
use Rattle.text_core.specs.Faults.{Among}
use Rattle.text_grammar.specs.declared.symbol.Symbol.{Symbol}
use Rattle.text_grammar.specs.Grammars.{Grammar, alternatives}
use Rattle.text_grammar.specs.Leads.{Stuck, entry, lead, row_of}
use Rattle.text_grammar.specs.Sounding.{each, each_below, is_entry, has_follows, is_flagged, follows, is_completed_lead}
use Rattle.text_grammar.specs.Sounding.{completed, agrees, is_readable}
use Rattle.text_grammar.proofs.Tests.{both, each_at, each_below_at, all_among, all_at}

module _ {P : Type 0} (g : Grammar P) where
  -- alternatives agree with the entries of a class and with the pieces that can follow
  pub record Agrees (c : ℕ) : Type 0 where
    pub entered : (n : ℕ) (body : List Symbol) → Among body (alternatives g.rules n) → is_entry (lead c (row_of g c) body) (entry (row_of g c) n) (is_flagged (follows g c) n) ≡ true
    pub followed : (n : ℕ) (body : List Symbol) → Among body (alternatives g.rules n) → has_follows c (row_of g c) (follows g c) (is_flagged (follows g c) n) body ≡ true
    pub completed_lead : (n : ℕ) → is_completed_lead g (entry (row_of g c) n) ≡ true

  -- the grammar can be read
  pub record Readable : Type 0 where
    pub agree : (c : ℕ) → c ≤ g.classes → Agrees c
    pub ends : is_flagged (follows g g.classes) 0 ≡ true
    pub completes : is_flagged (completed g) 0 ≡ true
    pub sampled : (c : ℕ) → c < g.classes → g.class_of (g.sample c) ≡ c

  -- if the test of a class is true, its alternatives agree
  agreed : (c : ℕ) → agrees g c ≡ true → Agrees c
  agreed c h =
      let b = both (each (λ n bodies. list_all (λ body. is_entry (lead c (row_of g c) body) (entry (row_of g c) n) (is_flagged (follows g c) n)
      && has_follows c (row_of g c) (follows g c) (is_flagged (follows g c) n) body) bodies) g.rules) _ h in
      let every = each_at (λ n bodies. list_all (λ body. is_entry (lead c (row_of g c) body) (entry (row_of g c) n) (is_flagged (follows g c) n)
      && has_follows c (row_of g c) (follows g c) (is_flagged (follows g c) n) body) bodies) g.rules [] b.0 (λ n. refl) in
      record {
        entered = λ n body a. (both (is_entry (lead c (row_of g c) body) (entry (row_of g c) n) (is_flagged (follows g c) n)) _ (all_among _ (alternatives g.rules n) body (every n) a)).0;
        followed = λ n body a. (both (is_entry (lead c (row_of g c) body) (entry (row_of g c) n) (is_flagged (follows g c) n)) _ (all_among _ (alternatives g.rules n) body (every n) a)).1;
        completed_lead = all_at (is_completed_lead g) (row_of g c) Stuck b.1 refl;
      }

  -- a grammar whose test is true can be parsed
  pub readable_if : is_readable g ≡ true → Readable
  readable_if h =
      let a = both ((each_below (suc g.classes) (agrees g) && is_flagged (follows g g.classes) 0) && is_flagged (completed g) 0) _ h in
      let b = both (each_below (suc g.classes) (agrees g) && is_flagged (follows g g.classes) 0) _ a.0 in
      let d = both (each_below (suc g.classes) (agrees g)) _ b.0 in
      record {
        agree = λ c l. agreed c (each_below_at (suc g.classes) (agrees g) d.0 c (omega (arith, l)));
        ends = d.1;
        completes = b.1;
        sampled = λ c l. eqb-true (g.class_of (g.sample c)) c (each_below_at g.classes (λ k. g.class_of (g.sample k) == k) a.1 c l);
      }
