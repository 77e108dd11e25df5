-- The sort of a token, and the token of programs' expressions that it is.
use Rattle.std.proofs.Common.{◌≡◌, ℕ, ◌≤◌, true, false, List, Some, refl, subst, arith}
use Rattle.std.specs.Prelude.{IsTrue, ⊤}
use Rattle.std.specs.List.{list_all}
use Rattle.std.specs.Char.{is_ascii_digit}
use Rattle.text_core.specs.Names.{is_among}
use Rattle.expr_text.specs.Pieces as programs
use Rattle.expr_text.specs.Pieces.{Word, Digits, Open, Close, Plus, Minus, Times, Caret}
use Rattle.expr_text.specs.Terms.{number_of}
use Rattle.expr_reader.specs.StateSteps.{with_piece}
use Rattle.expr_reader.specs.Standing.{IsModest}
use Rattle.while_text.specs.model.Limits.{coefficient_limit}
use Rattle.while_text.specs.model.Programs.{Name}
use Rattle.while_text.specs.declared.piece.Sort.{Sort}
use Rattle.while_text.specs.declared.piece.Sort.TheVariants as sorts
use Rattle.while_text.specs.Courses.{is_caret, is_relation, ends_operand, depth_after, opens_block}
use Rattle.while_text.specs.Faults.{is_in_sums}
use Rattle.while_laws.specs.Spelled.{spelled_by}
use Rattle.while_laws.specs.Values.{follower_by}
use Rattle.while_laws.proofs.StateFacts.{ends, is_power, follower_in, open_after}

-- The number of a token is the one that its digits write, up to the limit on coefficients.
abbrev pub IsWritten : Sort → List ℕ → Type 0
IsWritten (sorts.Number n) bytes =
    (n ≡ number_of bytes) × IsTrue (list_all is_ascii_digit bytes) × (n ≤ coefficient_limit)
IsWritten _ bytes = ⊤

-- A token that is a name is one of these names.
abbrev pub IsKnown : List Name → Sort → List ℕ → Type 0
IsKnown names sorts.Name bytes = is_among bytes names ≡ true
IsKnown names _ bytes = ⊤

-- `Some` is injective.
pub some_is : {X : Type 0} (x y : X) → Some x ≡ Some y → x ≡ y
some_is x y d = cc

-- A property of a sort and its token of programs' expressions, by the sort.
module _ (Holds : Sort → programs.Piece → Type 0) (bytes : List ℕ)
    (word : Holds sorts.Name (Word bytes)) (number : (n : ℕ) → Holds (sorts.Number n) (Digits bytes))
    (opens : Holds sorts.Open Open) (closes : Holds sorts.Close Close) (plus : Holds sorts.Plus Plus)
    (minus : Holds sorts.Minus Minus) (times : Holds sorts.Times Times) (caret : Holds sorts.Caret Caret) where
  pub by_sort : (sort : Sort) (q : programs.Piece) → spelled_by sort bytes ≡ Some q → Holds sort q
  by_sort sorts.Name q e = subst (Holds sorts.Name) (some_is (Word bytes) q e) word
  by_sort (sorts.Number n) q e = subst (Holds (sorts.Number n)) (some_is (Digits bytes) q e) (number n)
  by_sort sorts.Open q e = subst (Holds sorts.Open) (some_is Open q e) opens
  by_sort sorts.Close q e = subst (Holds sorts.Close) (some_is Close q e) closes
  by_sort sorts.Plus q e = subst (Holds sorts.Plus) (some_is Plus q e) plus
  by_sort sorts.Minus q e = subst (Holds sorts.Minus) (some_is Minus q e) minus
  by_sort sorts.Times q e = subst (Holds sorts.Times) (some_is Times q e) times
  by_sort sorts.Caret q e = subst (Holds sorts.Caret) (some_is Caret q e) caret
  by_sort sort q e = cc

-- The tests on a token give the same results as those on its token of programs' expressions.
pub record Agree (sort : Sort) (q : programs.Piece) : Type 0 where
  pub ends_is : ends_operand sort ≡ ends q
  pub caret_is : is_caret sort ≡ is_power q
  pub follower_is : follower_by sort ≡ follower_in q
  pub depth_is : (n : ℕ) → n ≤ 1024 → depth_after sort n ≡ open_after q n
  pub in_sums : is_in_sums sort ≡ true
  pub no_relation : is_relation sort ≡ false
  pub no_block : opens_block sort ≡ false

pub agrees : (sort : Sort) (bytes : List ℕ) (q : programs.Piece) → spelled_by sort bytes ≡ Some q → Agree sort q
agrees sort bytes q e =
    by_sort Agree bytes name number opens closes adds subtracts multiplies raises sort q e
  where
    number : (n : ℕ) → Agree (sorts.Number n) (Digits bytes)
    number n = record {
      ends_is = refl;
      caret_is = refl;
      follower_is = refl;
      depth_is = λ k h. refl;
      in_sums = refl;
      no_relation = refl;
      no_block = refl;
    }

    name : Agree sorts.Name (Word bytes)
    name = record {
      ends_is = refl;
      caret_is = refl;
      follower_is = refl;
      depth_is = λ n h. refl;
      in_sums = refl;
      no_relation = refl;
      no_block = refl;
    }

    opens : Agree sorts.Open Open
    opens = record {
      ends_is = refl;
      caret_is = refl;
      follower_is = refl;
      depth_is = λ n h. omega (arith, h);
      in_sums = refl;
      no_relation = refl;
      no_block = refl;
    }

    closes : Agree sorts.Close Close
    closes = record {
      ends_is = refl;
      caret_is = refl;
      follower_is = refl;
      depth_is = λ n h. refl;
      in_sums = refl;
      no_relation = refl;
      no_block = refl;
    }

    adds : Agree sorts.Plus Plus
    adds = record {
      ends_is = refl;
      caret_is = refl;
      follower_is = refl;
      depth_is = λ n h. refl;
      in_sums = refl;
      no_relation = refl;
      no_block = refl;
    }

    subtracts : Agree sorts.Minus Minus
    subtracts = record {
      ends_is = refl;
      caret_is = refl;
      follower_is = refl;
      depth_is = λ n h. refl;
      in_sums = refl;
      no_relation = refl;
      no_block = refl;
    }

    multiplies : Agree sorts.Times Times
    multiplies = record {
      ends_is = refl;
      caret_is = refl;
      follower_is = refl;
      depth_is = λ n h. refl;
      in_sums = refl;
      no_relation = refl;
      no_block = refl;
    }

    raises : Agree sorts.Caret Caret
    raises = record {
      ends_is = refl;
      caret_is = refl;
      follower_is = refl;
      depth_is = λ n h. refl;
      in_sums = refl;
      no_relation = refl;
      no_block = refl;
    }

-- The digits of a number are within the limit on coefficients.
pub modest : (sort : Sort) (bytes : List ℕ) (q : programs.Piece) → spelled_by sort bytes ≡ Some q
    → IsWritten sort bytes → IsModest q
modest sort bytes q e h =
    by_sort (λ s x. IsWritten s bytes → IsModest x) bytes (λ w. tt)
    (λ n w. (w.1, subst (λ k. k ≤ coefficient_limit) w.0 w.2)) (λ w. tt) (λ w. tt) (λ w. tt) (λ w. tt) (λ w. tt)
    (λ w. tt) sort q e h

-- A token that is a known name is known in programs' expressions.
pub known_piece : (names : List Name) (sort : Sort) (bytes : List ℕ) (q : programs.Piece)
    → spelled_by sort bytes ≡ Some q → IsKnown names sort bytes → names ≡ with_piece names q
known_piece names sort bytes q e h =
    by_sort (λ s x. IsKnown names s bytes → names ≡ with_piece names x) bytes (λ w. rw w refl) (λ n w. refl) (λ w. refl)
    (λ w. refl) (λ w. refl) (λ w. refl) (λ w. refl) (λ w. refl) sort q e h
