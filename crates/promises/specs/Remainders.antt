-- Document 02, slip 4: plans with the same empty blocks and equal remainders get the same girth, frames and text. It is said of every call that
-- is given a plan, over the definitions that its contract equates answer and lent memory with.
use Rattle.std.specs.Prelude.{Option, Result, ℕ, ◌*◌, ◌≡◌, ◌↔◌, List, ℤ, length, Bool}
use Rattle.refusal.specs.Answer.{ok_unless, outcome}
use Rattle.refusal.specs.declared.Refusal.{Refusal}
use Rattle.refusal.specs.Lowest.{lowest}
use Rattle.graph.specs.Girth.{IsGirth}
use Rattle.exponent.specs.Limits.{plan_rules}
use Rattle.exponent.specs.Tanner.{tanner}
use Rattle.exponent.specs.Remainders.{SameRemainders}
use Rattle.weights.specs.Weights.{Held, held}
use Rattle.weights.specs.Change.{Call, call, refusal_of, after}
use Rattle.girth.specs.declared.Cycle.{Cycle}
use Rattle.girth.specs.Test.{Answer}
use Rattle.treetest.specs.Answer as pairs
use Rattle.syndrome.specs.Check.{syndrome_of}
use Rattle.peeling.specs.Fill.{fill_answer, fill_word}
use Rattle.flipping.specs.Flip.{flip_answer, flip_word}
use Rattle.crt.specs.Join.{Sized, sized, join_refusal, after_join}
use Rattle.encoding.specs.Encode.{encode_refusal, after_encode}
use Rattle.alist.specs.Calls.{alist_text, write_rules, laid, compare_rules}

-- what one change does alike to two plans with their lists
pub record SameChange (lift : ℕ) (c : Call) (h g : Held) : Type 0 where
  pub answer : ok_unless (refusal_of c h) ≡ ok_unless (refusal_of c g)
  pub rows : (after c h).rows ≡ (after c g).rows
  pub cols : (after c h).cols ≡ (after c g).cols
  pub plan : SameRemainders lift (after c h).plan (after c g).plan

-- two joins of plans alike, into the same place
pub record SameJoin (a b c d : Sized) (place : List ℤ) : Type 0 where
  pub answer : outcome (join_refusal a b (length place)) (a.lift * b.lift) ≡ outcome (join_refusal c d (length place)) (c.lift * d.lift)
  pub joined : after_join a b place ≡ after_join c d place

-- what two plans of the same sizes have in common
pub record SameAnswers (p q : List ℤ) (rows cols lift : ℕ) : Type 0 where
  -- every edge is in the same place, and the plans are valid alike;
  pub graph : tanner p rows cols lift ≡ tanner q rows cols lift
  pub valid : ok_unless (lowest (plan_rules p rows cols lift)) ≡ ok_unless (lowest (plan_rules q rows cols lift))
  -- the girth, and every answer that the contracts of the girth test and of the one by sorted pairs (slip 8) allow;
  pub girth : (n : ℕ) → IsGirth (tanner p rows cols lift) n ↔ IsGirth (tanner q rows cols lift) n
  pub girth_test : (target : ℕ) (r : Result (Option Cycle) Refusal) → Answer p rows cols lift target r ↔ Answer q rows cols lift target r
  pub by_pairs : (target places : ℕ) (v : Result Bool Refusal) → pairs.Answer p rows cols lift target places v ↔ pairs.Answer q rows cols lift target places v
  -- of every word the syndrome, the two numbers of its filling, and so of its preview, or the refusal, and what the word then holds;
  pub syndrome : (word : List ℕ) → syndrome_of p rows cols lift word ≡ syndrome_of q rows cols lift word
  pub filling : (word : List ℕ) → fill_answer p rows cols lift word ≡ fill_answer q rows cols lift word
  pub filled_word : (word : List ℕ) → fill_word p rows cols lift word ≡ fill_word q rows cols lift word
  -- the text, the answer of writing it and what the place then holds, and the comparison with any text, whatever lists of weights are lent;
  pub text : alist_text p rows cols lift ≡ alist_text q rows cols lift
  pub writing : (byrow bycol place : List ℕ)
      → outcome (lowest (write_rules p rows cols lift byrow bycol place)) (length (alist_text p rows cols lift))
      ≡ outcome (lowest (write_rules q rows cols lift byrow bycol place)) (length (alist_text q rows cols lift))
  pub written_place : (byrow bycol place : List ℕ)
      → laid (lowest (write_rules p rows cols lift byrow bycol place)) (alist_text p rows cols lift) place
      ≡ laid (lowest (write_rules q rows cols lift byrow bycol place)) (alist_text q rows cols lift) place
  pub comparing : (byrow bycol text : List ℕ)
      → ok_unless (lowest (compare_rules p rows cols lift byrow bycol text)) ≡ ok_unless (lowest (compare_rules q rows cols lift byrow bycol text))
  -- the answer of a change (slip 7) and the lists of weights after it; and the plans after it have the same remainders again;
  pub changing : (row col : ℕ) (entry : ℤ) (byrow bycol : List ℕ) → SameChange lift (call rows cols lift row col entry) (held p byrow bycol) (held q byrow bycol)
  -- the answer of joining them with another plan (slip 9), as the first or as the second, and the joined plan;
  pub joining_first : (b : Sized) (place : List ℤ) → SameJoin (sized p rows cols lift) b (sized q rows cols lift) b place
  pub joining_second : (a : Sized) (place : List ℤ) → SameJoin a (sized p rows cols lift) a (sized q rows cols lift) place
  -- of all data bits the answer of encoding them (slip 10), and what the lent word then holds;
  pub encoding_answer : (info word : List ℕ) → ok_unless (encode_refusal p rows cols lift info word) ≡ ok_unless (encode_refusal q rows cols lift info word)
  pub encoded_word : (info word : List ℕ) → after_encode p rows cols lift info word ≡ after_encode q rows cols lift info word
  -- of every word the answer of a round of turning bits (slip 12), and what the word then holds
  pub flipping : (word : List ℕ) → flip_answer p rows cols lift word ≡ flip_answer q rows cols lift word
  pub flipped_word : (word : List ℕ) → flip_word p rows cols lift word ≡ flip_word q rows cols lift word
