-- The model of the search meets the girth test's declaration, and the cycle that it shows is a shortest one. Assumes nothing.
use Rattle.std.specs.Prelude.{Option}
use Prim.Native.Nat.{ℕ, zero, suc, ◌+◌, ◌-◌, ◌*◌, ◌/◌, ◌≤◌, ◌<◌}
use mathlib.Core.Path.{◌≡◌, refl, sym, ap, subst₂, ◌∙◌}
use mathlib.Core.Logic.{inl, inr}
use mathlib.Core.List.{List, [], ◌∷◌, ◌++◌}
use mathlib.Core.Bool.{true}
use Rattle.std.specs.Prelude.{Option, None, Some, Ok}
use native.Mathlib.Omega.{arith}
use lib.IntN.{ℤ}
use lib.ListN.{length, take, get_or, replicate, length-map}
use lib.Seq.{take_at}
use borrow.Author.Tests.{not-false}
use Rattle.refusal.specs.Lowest.{lowest}
use Rattle.refusal.proofs.Lowest.{none_holds}
use Rattle.graph.specs.Count.{Mem}
use Rattle.graph.specs.Graph.{Bipartite}
use Rattle.graph.specs.Girth.{SimpleCycle, Passes}
use Rattle.graph.proofs.Count.{member_mem}
use Rattle.exponent.specs.declared.Shape.{Shape}
use Rattle.exponent.specs.Limits.{plan_rules}
use Rattle.exponent.specs.Tanner.{graph_of}
use Rattle.exponent.proofs.Rules.{inside}
use Rattle.walks.specs.Steps.{blocks_of}
use Rattle.walks.specs.Ways.{Joint, Way}
use Rattle.walks.specs.Meeting.{short_cycle}
use Rattle.walks.specs.Trail.{places, lay, trail}
use Rattle.walks.proofs.Nodes.{checks_in, bits_in}
use Rattle.walks.proofs.Found.{found_cycle}
use Rattle.walks.proofs.Missed.{passes_on}
use Rattle.girth.specs.declared.Cycle.{Cycle}
use Rattle.girth.specs.Test.{targets, allowed, test_rules, Answer, passed, failed}
use Rattle.girth.specs.Model.{witness, unless_found, shortest}

-- what the search says of a graph, in rounds of fewer than t checks
pub data Verdict (G : Bipartite) (t : ℕ) : Option Cycle → Type 0 where
  passes : Passes G (2 * t) → Verdict G t None
  shows : (n : ℕ) (w : Way) → n < t → length w.joints ≡ n → SimpleCycle G n (checks_in w.joints) (bits_in w.joints) → Passes G (2 * n) → Verdict G t (Some (witness n (trail w)))

-- a simple cycle has two checks at least
pub passes_first : (G : Bipartite) → Passes G (2 * 2)
unfolding Passes
passes_first G n cs bs y = omega (arith, y.least)

module _ (plan : List ℤ) (s : Shape) (some_lift : 0 < s.lift) where
  rounds : (k n t : ℕ) → 2 ≤ n → n + k ≡ t → Passes (graph_of plan s) (2 * n) → Verdict (graph_of plan s) t (shortest (blocks_of plan s) k n)
  unfolding shortest
  rounds zero n t two e p = let h : n ≡ t = omega arith in passes (rw h at p)
  rounds (suc k) n t two e p = step (short_cycle (blocks_of plan s) n) refl (rounds k (suc n) t (omega arith) (omega arith))
    where
      step : (r : Option Way) → short_cycle (blocks_of plan s) n ≡ r
          → (Passes (graph_of plan s) (2 * suc n) → Verdict (graph_of plan s) t (shortest (blocks_of plan s) k (suc n)))
          → Verdict (graph_of plan s) t (unless_found n r (shortest (blocks_of plan s) k (suc n)))
      step None h more = more (passes_on plan s some_lift n two h p)
      step (Some w) h more = let (size, y) = found_cycle plan s some_lift n w two p h in shows n w (omega arith) size y p

-- an answer in its places, with zeros behind it

zeros : (m k : ℕ) → ◌≡◌ {A = ℕ} (get_or (replicate m 0) k 0) 0
zeros zero k = refl
zeros (suc m) zero = refl
zeros (suc m) (suc k) = zeros m k

past_end : (xs : List ℕ) (m k : ℕ) → length xs ≤ k → get_or (xs ++ replicate m 0) k 0 ≡ 0
past_end [] m k h = zeros m k
past_end (x ∷ xs) m zero h = absurd (omega arith)
past_end (x ∷ xs) m (suc k) h = past_end xs m k (omega arith)

in_places : (n m : ℕ) (xs ys : List ℕ) → length xs ≡ n → ys ≡ xs ++ replicate m 0 → (take n ys ≡ xs) × ((k : ℕ) → n ≤ k → get_or ys k 0 ≡ 0)
in_places n m xs ys e h = (ap (take n) h ∙ take_at xs (replicate m 0) n e, λ k q. ap (λ (l : List ℕ). get_or l k 0) h ∙ past_end xs m k (omega arith))

laid_out : (n z : ℕ) (l : List Joint) → length l ≤ places
    → ((witness n (lay z l)).checks ≡ checks_in l ++ replicate (places - length l) 0) × ((witness n (lay z l)).bits ≡ bits_in l ++ replicate (places - length l) 0)
unfolding lay
laid_out n z [] h = (refl, refl)
laid_out n z (x0 ∷ []) h = (refl, refl)
laid_out n z (x0 ∷ x1 ∷ []) h = (refl, refl)
laid_out n z (x0 ∷ x1 ∷ x2 ∷ []) h = (refl, refl)
laid_out n z (x0 ∷ x1 ∷ x2 ∷ x3 ∷ []) h = (refl, refl)
laid_out n z (x0 ∷ x1 ∷ x2 ∷ x3 ∷ x4 ∷ []) h = (refl, refl)
laid_out n z (x0 ∷ x1 ∷ x2 ∷ x3 ∷ x4 ∷ x5 ∷ []) h = (refl, refl)
laid_out n z (x0 ∷ x1 ∷ x2 ∷ x3 ∷ x4 ∷ x5 ∷ x6 ∷ []) h = (refl, refl)
laid_out n z (x0 ∷ x1 ∷ x2 ∷ x3 ∷ x4 ∷ x5 ∷ x6 ∷ x7 ∷ []) h = (refl, refl)
laid_out n z (x0 ∷ x1 ∷ x2 ∷ x3 ∷ x4 ∷ x5 ∷ x6 ∷ x7 ∷ x8 ∷ l) h = absurd (let q : ⊥ = omega arith in q)

-- what an allowed target is to the search: it is even, and its rounds fit in the places
pub record Rounds (target : ℕ) : Type 0 where
  pub whole : 2 + (target / 2 - 2) ≡ target / 2
  pub fits : target / 2 ≤ suc places
  pub even : 2 * (target / 2) ≡ target

rounds_of : (target : ℕ) → Mem target targets → Rounds target
rounds_of t (inl e) = omega arith
rounds_of t (inr (inl e)) = omega arith
rounds_of t (inr (inr (inl e))) = omega arith
rounds_of t (inr (inr (inr (inl e)))) = omega arith
rounds_of t (inr (inr (inr (inr (inl e))))) = omega arith
rounds_of t (inr (inr (inr (inr (inr (inl e)))))) = omega arith
rounds_of t (inr (inr (inr (inr (inr (inr (inl e))))))) = omega arith
rounds_of t (inr (inr (inr (inr (inr (inr (inr m))))))) = absurd m

pub allowed_rounds : (target : ℕ) → allowed target ≡ true → Rounds target
unfolding allowed
allowed_rounds target e = rounds_of target (member_mem target targets e)

module _ (plan : List ℤ) (s : Shape) (target : ℕ) (accepted : lowest (test_rules plan s.rows s.cols s.lift target) ≡ None) where
  -- a plan that is not refused has a lift, and its target is allowed
  pub asked : (0 < s.lift) × Rounds target
  unfolding test_rules plan_rules
  asked =
      let (_, (_, (l, (_, (_, (_, (t, _))))))) = (none_holds (test_rules plan s.rows s.cols s.lift target)).0 accepted in
      (((inside 1 4096 s.lift).0 l).0, allowed_rounds target (not-false (allowed target) t))

  pub model_verdict : Verdict (graph_of plan s) (target / 2) (shortest (blocks_of plan s) (target / 2 - 2) 2)
  model_verdict = rounds plan s asked.0 (target / 2 - 2) 2 (target / 2) (omega arith) asked.1.whole (passes_first (graph_of plan s))

  -- THE LAW: the model's answer is the test's
  pub model_answers : Answer plan s.rows s.cols s.lift target (Ok (shortest (blocks_of plan s) (target / 2 - 2) 2))
  model_answers = go model_verdict
    where
      go : {r : Option Cycle} → Verdict (graph_of plan s) (target / 2) r → Answer plan s.rows s.cols s.lift target (Ok r)
      go (passes p) = passed accepted (rw asked.1.even at p)
      go (shows n w h size y p) =
          let l = w.joints in
          let (cs, bs) = laid_out n w.end l (omega (arith, asked.1.fits)) in
          let (f, u) = in_places n (places - length l) (checks_in l) (witness n (trail w)).checks (length-map l (λ e. e.check) ∙ size) cs in
          let (g, v) = in_places n (places - length l) (bits_in l) (witness n (trail w)).bits (length-map l (λ e. e.bit) ∙ size) bs in
          failed (witness n (trail w)) accepted
          (record {
            short = omega (arith, asked.1.even);
            cycle = subst₂ (SimpleCycle (graph_of plan s) n) (sym f) (sym g) y;
            none_shorter = p;
            unused = λ k q. (u k q, v k q);
          })
