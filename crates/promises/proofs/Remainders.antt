-- Slip 4: plans with the same empty blocks and equal remainders get the same answers. Every answer is told by refusals 1 to 6, the Tanner
-- graph and the weights, and these are the same. Assumes nothing.
use Rattle.std.specs.Prelude.{Result, Option, None, Some, Bool}
use Rattle.refusal.specs.Answer.{ok_unless}
use Prim.Native.Nat.{ℕ, zero, suc, ◌+◌, ◌*◌}
use mathlib.Core.Path.{◌≡◌, refl, sym, ap, subst₂, ◌∙◌}
use mathlib.Core.Bool.{true, false, not}
use mathlib.Core.List.{List, [], ◌∷◌}
use lib.Dec.{eqb}
use lib.IntN.{ℤ, pos, negsuc}
use lib.ListN.{set}
use Rattle.refusal.specs.declared.Refusal.{Refusal}
use Rattle.graph.specs.Erasure.{any}
use Rattle.graph.proofs.Decide.{both_ways}
use Rattle.exponent.specs.declared.Shape.{Shape}
use Rattle.exponent.specs.Plan.{invalid_entry}
use Rattle.exponent.specs.Limits.{plan_rules}
use Rattle.exponent.specs.Tanner.{tanner}
use Rattle.exponent.specs.Remainders.{SameRemainders, none, empty, filled}
use Rattle.exponent.proofs.Remainders.{same_rules, same_block, same_graph, same_weights, same_length, same_length_then, same_first_then}
use Rattle.weights.specs.declared.Side.{Side}
use Rattle.weights.specs.declared.Side.TheVariants.{Bits, Checks}
use Rattle.weights.specs.Weights.{shape_of, weights_of, Held, held, right}
use Rattle.weights.specs.Change.{change_rules, stored, Call, call, refusal_of, after}
use Rattle.weights.proofs.Weights.{length_weights, weights_at, weights_by}
use Rattle.weights.proofs.Changes.{taken, stays, was_accepted}
use Rattle.girth.specs.declared.Cycle.{Cycle}
use Rattle.girth.specs.Test.{Answer, refused, passed, failed, test_rules}
use Rattle.walks.specs.Steps.{blocks_of}
use Rattle.treetest.specs.Answer as pairs
use Rattle.treetest.specs.Answer.{pair_rules}
use Rattle.syndrome.specs.Word.{word_rules}
use Rattle.syndrome.specs.Check.{check_rules, syndrome_of}
use Rattle.peeling.specs.Fill.{fill_rules, fill_answer, fill_word}
use Rattle.flipping.specs.Flip.{other_weight, flip_rules, flip_answer, flip_word}
use Rattle.alist.specs.Calls.{write_rules, compare_rules}
use Rattle.promises.specs.Remainders.{SameChange, SameAnswers}
use Rattle.promises.proofs.SameJoins.{first_alike, second_alike}
use Rattle.promises.proofs.SameEncodes.{same_encoding, same_encoded}

-- an answer of the girth test that one plan allows, the other does
module _ (p q : List ℤ) (rows cols lift : ℕ) (rules : plan_rules p rows cols lift ≡ plan_rules q rows cols lift) (graph : tanner p rows cols lift ≡ tanner q rows cols lift) where
  allowed : (target : ℕ) (r : Result (Option Cycle) Refusal) → Answer p rows cols lift target r → Answer q rows cols lift target r
  unfolding test_rules
  allowed target r (refused x h) = refused x (rw rules at h)
  allowed target r (passed h w) = passed (rw rules at h) (rw graph at w)
  allowed target r (failed s h w) = failed s (rw rules at h) (rw graph at w)

  -- and one of the test by sorted pairs
  module _ (blocks : blocks_of p (shape_of rows cols lift) ≡ blocks_of q (shape_of rows cols lift)) where
    same_pair_rules : (target places : ℕ) → pair_rules p rows cols lift target places ≡ pair_rules q rows cols lift target places
    unfolding pair_rules test_rules
    same_pair_rules target places = rw (rules, blocks)

    judged : (target places : ℕ) (v : Result Bool Refusal) → pairs.Answer p rows cols lift target places v → pairs.Answer q rows cols lift target places v
    judged target places v (pairs.refused x h) = pairs.refused x (rw (same_pair_rules target places) at h)
    judged target places v (pairs.passed h w) = pairs.passed (rw (same_pair_rules target places) at h) (rw graph at w)
    judged target places v (pairs.not_passed h w) = pairs.not_passed (rw (same_pair_rules target places) at h) (rw graph at w)

-- the same weights, so the same lists are right
module _ (lift : ℕ) {p q : List ℤ} (same : SameRemainders lift p q) (rows cols : ℕ) where
  abbrev s : Shape
  s = shape_of rows cols lift

  same_lists : (side : Side) → weights_of p (shape_of rows cols lift) side ≡ weights_of q (shape_of rows cols lift) side
  same_lists Bits = weights_by q s Bits _ (length_weights p s Bits) (λ i h. weights_at p s Bits i h ∙ (same_weights lift same rows cols).0 i)
  same_lists Checks = weights_by q s Checks _ (length_weights p s Checks) (λ i h. weights_at p s Checks i h ∙ (same_weights lift same rows cols).1 i)

  same_right : (byrow bycol : List ℕ) → right p (shape_of rows cols lift) byrow bycol ≡ right q (shape_of rows cols lift) byrow bycol
  unfolding right
  same_right byrow bycol = rw (same_lists Checks, same_lists Bits)

  same_columns : other_weight p rows cols lift ≡ other_weight q rows cols lift
  unfolding other_weight
  same_columns = λ k. any cols (λ j. not (eqb ((same_weights lift same rows cols).0 j k) 3))

-- ONE CHANGE: the same answer, and plans with the same remainders again
module _ (lift : ℕ) where
  stored_same : (entry : ℤ) → invalid_entry lift entry ≡ false → {p q : List ℤ} → SameRemainders lift p q → (k : ℕ) → SameRemainders lift (set p k entry) (set q k entry)
  stored_same entry v none k = none
  stored_same (pos n) v (empty t) zero = filled n n refl t
  stored_same (negsuc zero) v (empty t) zero = empty t
  stored_same (negsuc (suc n)) v (empty t) zero = both_ways {t = true} refl v
  stored_same (pos n) v (filled e f h t) zero = filled n n refl t
  stored_same (negsuc zero) v (filled e f h t) zero = empty t
  stored_same (negsuc (suc n)) v (filled e f h t) zero = both_ways {t = true} refl v
  stored_same entry v (empty t) (suc k) = empty (stored_same entry v t k)
  stored_same entry v (filled e f h t) (suc k) = filled e f h (stored_same entry v t k)

  module _ {p q : List ℤ} (same : SameRemainders lift p q) (rows cols row col : ℕ) (entry : ℤ) (byrow bycol : List ℕ) where
    abbrev c : Call
    c = call rows cols lift row col entry

    abbrev H : List ℤ → Held
    H plan = held plan byrow bycol

    same_refusal : refusal_of (call rows cols lift row col entry) (held p byrow bycol) ≡ refusal_of (call rows cols lift row col entry) (held q byrow bycol)
    unfolding refusal_of change_rules
    same_refusal = rw (same_length lift same, same_first_then lift same lift (entry ∷ []), same_length_then lift same (entry ∷ []), same_right lift same rows cols byrow bycol)

    changed_alike : SameChange lift (call rows cols lift row col entry) (held p byrow bycol) (held q byrow bycol)
    unfolding stored
    changed_alike = by (refusal_of c (H q)) refl
      where
        alike : (h g : Held) → after c (H p) ≡ h → after c (H q) ≡ g → h.rows ≡ g.rows → h.cols ≡ g.cols → SameRemainders lift h.plan g.plan → SameChange lift c (H p) (H q)
        alike h g a b m n t =
            record {
              answer = ap ok_unless same_refusal;
              rows = ap (λ (x : Held). x.rows) a ∙ m ∙ sym (ap (λ (x : Held). x.rows) b);
              cols = ap (λ (x : Held). x.cols) a ∙ n ∙ sym (ap (λ (x : Held). x.cols) b);
              plan = subst₂ (SameRemainders lift) (sym (ap (λ (x : Held). x.plan) a)) (sym (ap (λ (x : Held). x.plan) b)) t;
            }

        by : (o : Option Refusal) → refusal_of c (H q) ≡ o → SameChange lift c (H p) (H q)
        by (Some r) e = alike (H p) (H q) (stays c (H p) r (same_refusal ∙ e)) (stays c (H q) r e) refl refl same
        by None e =
            let t = stored_same entry (was_accepted c (H q) e).valid same (row * cols + col) in
            alike _ _ (taken c (H p) (same_refusal ∙ e)) (taken c (H q) e) (same_lists lift t rows cols Checks) (same_lists lift t rows cols Bits) t

pub same_remainders : (p q : List ℤ) (rows cols lift : ℕ) → SameRemainders lift p q → SameAnswers p q rows cols lift
unfolding check_rules word_rules syndrome_of fill_rules fill_answer fill_word flip_rules flip_answer flip_word write_rules compare_rules
same_remainders p q rows cols lift same =
    let rules = same_rules lift same rows cols in
    let graph = same_graph lift same rows cols in
    let blocks : blocks_of p (shape_of rows cols lift) ≡ blocks_of q (shape_of rows cols lift) = λ k. record { rows = rows; cols = cols; lift = lift; block = λ i j. same_block lift same rows cols i j k } in
    record {
      graph = graph;
      valid = rw rules;
      girth = λ n. (λ g. rw graph at g, λ g. rw (sym graph) at g);
      girth_test = λ target r. (allowed p q rows cols lift rules graph target r, allowed q p rows cols lift (sym rules) (sym graph) target r);
      by_pairs = λ target places v. (judged p q rows cols lift rules graph blocks target places v, judged q p rows cols lift (sym rules) (sym graph) (sym blocks) target places v);
      syndrome = λ word. rw (rules, graph);
      filling = λ word. rw (rules, graph);
      filled_word = λ word. rw (rules, graph);
      text = rw graph;
      writing = λ byrow bycol place. rw (rules, graph, same_right lift same rows cols byrow bycol);
      written_place = λ byrow bycol place. rw (rules, graph, same_right lift same rows cols byrow bycol);
      comparing = λ byrow bycol text. rw (rules, graph, same_right lift same rows cols byrow bycol);
      changing = changed_alike lift same rows cols;
      joining_first = λ b place. first_alike lift same rows cols b place;
      joining_second = λ a place. second_alike lift same rows cols a place;
      encoding_answer = same_encoding lift same rows cols;
      encoded_word = same_encoded lift same rows cols;
      flipping = λ word. rw (rules, graph, same_columns lift same rows cols);
      flipped_word = λ word. rw (rules, graph, same_columns lift same rows cols);
    }
