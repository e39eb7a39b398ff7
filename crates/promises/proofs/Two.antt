-- Promise 2 holds: each sentence from the laws of its crate. Assumes nothing.
use Rattle.std.specs.Prelude.{Result, Ok}
use Rattle.refusal.specs.Answer.{outcome}
use Rattle.exponent.specs.declared.Shape.{Shape}
use Rattle.peeling.specs.declared.Filling.{Filling}
use Prim.Native.Nat.{ℕ, ◌*◌}
use mathlib.Core.Path.{◌≡◌, refl, sym, ap, subst, ◌∙◌}
use mathlib.Core.Bool.{false}
use mathlib.Core.List.{List}
use Rattle.std.specs.Prelude.{Option, None, Some}
use native.Mathlib.Omega.{arith}
use lib.IntN.{ℤ}
use lib.ListN.{take, get_or}
use Rattle.refusal.specs.declared.Refusal.{Refusal}
use Rattle.refusal.specs.Lowest.{lowest}
use Rattle.graph.specs.Count.{member}
use Rattle.graph.specs.Graph.{Bipartite}
use Rattle.graph.specs.Girth.{Passes, IsGirth}
use Rattle.graph.specs.Erasure.{Solution}
use Rattle.graph.specs.Filling.{filled_word, clash, filled_count, left_count}
use Rattle.graph.proofs.Decide.{by_bool}
use Rattle.graph.proofs.Peeling.{union_stopping, largest_stopping, largest_contains, filled_and_left}
use Rattle.graph.proofs.Filling.{filled_word_solves, unique, recovers}
use Rattle.exponent.specs.Limits.{plan_rules}
use Rattle.exponent.specs.Tanner.{tanner}
use Rattle.girth.specs.declared.Cycle.{Cycle}
use Rattle.girth.specs.Test.{allowed, Witness, Answer, refused, passed, failed}
use Rattle.girth.specs.Model.{model}
use Rattle.girth.proofs.Model.{model_answer}
use Rattle.girth.proofs.Rules.{not_refused as test_accepted}
use Rattle.syndrome.specs.Word.{word_rules}
use Rattle.peeling.specs.Fill.{fill_answer, fill_word}
use Rattle.peeling.proofs.Rules.{word_refused, clash_refused, not_refused}
use Rattle.square.specs.Mask.{weight}
use Rattle.grid.specs.Plan.{plan_rows, plan_cols}
use Rattle.refusal.specs.Lent.{lent}
use Rattle.weights.specs.declared.Room.{Room}
use Rattle.weights.specs.Weights.{with_weights, room_of}
use Rattle.table.specs.Build.{build_rules, build_refusal, built_plan, built_shape}
use Rattle.table.proofs.Plans.{built_is_good}
use Rattle.table.proofs.From004.{built_from_004, built_shape_004}
use Rattle.promises.specs.Two.{ShortCycle, Verdict, Verdicts, Passing, BuiltPlan, BuiltPlans, Recovers, Promise2}

-- THE GIRTH TEST

short_cycle : (G : Bipartite) (target : ℕ) (r : Cycle) → Witness G target r → ShortCycle G target
short_cycle G target r w = record { n = r.n; checks = take r.n r.checks; bits = take r.n r.bits; cycle = w.cycle; short = w.short }

-- a witness shows the girth
shown_girth : (G : Bipartite) (target : ℕ) (r : Cycle) → Witness G target r → IsGirth G (2 * r.n)
shown_girth G target r w =
    record { n = r.n; checks = take r.n r.checks; bits = take r.n r.bits; cycle = w.cycle; edges = refl; none_shorter = w.none_shorter }

apart : (G : Bipartite) (target : ℕ) → Passes G target → ShortCycle G target → ⊥
unfolding Passes
apart G target p s = omega (arith, p s.n s.checks s.bits s.cycle, s.short)

module _ (plan : List ℤ) (rows cols lift target : ℕ) where
  pub verdict : {r : Result (Option Cycle) Refusal} → Answer plan rows cols lift target r → Verdict plan rows cols lift target r
  verdict (refused x e) =
      record {
        passed = (λ q. absurd (let z : ◌≡◌ {A = ℕ} 0 1 = cc in omega arith), λ h. absurd (let n = h.0 in let z : ◌≡◌ {A = ℕ} 0 1 = cc in omega arith));
        failed = (λ (k, q). absurd (let z : ◌≡◌ {A = ℕ} 0 1 = cc in omega arith), λ h. absurd (let n = h.0 in let z : ◌≡◌ {A = ℕ} 0 1 = cc in omega arith));
        shown = λ n q. absurd (let z : ◌≡◌ {A = ℕ} 0 1 = cc in omega arith);
        girth = λ k q. absurd (let z : ◌≡◌ {A = ℕ} 0 1 = cc in omega arith);
      }
  verdict (passed e p) =
      record {
        passed = (λ q. (e, p), λ h. refl);
        failed = (λ (k, q). absurd (let z : ◌≡◌ {A = ℕ} 0 1 = cc in omega arith), λ h. absurd (apart _ target p h.1));
        shown = λ n q. absurd (q refl);
        girth = λ k q. absurd (let z : ◌≡◌ {A = ℕ} 0 1 = cc in omega arith);
      }
  verdict (failed r e w) =
      record {
        passed = (λ q. absurd (let z : ◌≡◌ {A = ℕ} 0 1 = cc in omega arith), λ h. absurd (apart _ target h.1 (short_cycle _ target r w)));
        failed = (λ q. (e, short_cycle _ target r w), λ h. (r, refl));
        shown = λ n q. (r, refl, w);
        girth = λ k q. let same : r ≡ k = cc in subst (λ (k : Cycle). IsGirth (tanner plan rows cols lift) (2 * k.n)) same (shown_girth _ target r w);
      }

pub verdicts : Verdicts
verdicts plan rows cols lift target = ((model plan rows cols lift target, model_answer plan rows cols lift target), λ r a. verdict plan rows cols lift target a)

-- a plan that 1 to 6 do not turn away passes at 12 where its graph does
pub passing_12 : (plan : List ℤ) (rows cols lift : ℕ) → lowest (plan_rules plan rows cols lift) ≡ None → Passes (tanner plan rows cols lift) 12 → Passing plan rows cols lift 12
unfolding allowed member
passing_12 plan rows cols lift e p r a = (verdict plan rows cols lift 12 a).passed.1 (test_accepted plan rows cols lift 12 e refl, p)

-- TABLE PLANS

built_plan_law : (order lift : ℕ) (table : List ℤ) (mask : List ℕ) (room : Room) → lowest (build_rules order lift table mask room) ≡ None
    → BuiltPlan order lift table mask (built_plan order lift table mask) (plan_rows order (weight order mask)) (plan_cols order (weight order mask))
built_plan_law order lift table mask room e =
    let good = built_is_good order lift table mask room e in
    let shape = built_shape_004 order lift table mask room e in
    record {
      from_004 = sym (built_from_004 order lift table mask room e);
      rows_004 = sym shape.0;
      cols_004 = sym shape.1;
      passes = good.passes;
      passing = passing_12 _ _ _ lift good.accepted_by_1_to_6 good.passes;
    }

pub built_plans : BuiltPlans
built_plans order lift table mask h s = go (build_refusal order lift table mask h) refl
  where
    go : (o : Option Refusal) → build_refusal order lift table mask h ≡ o → outcome o (built_shape order lift mask) ≡ Ok s
        → BuiltPlan order lift table mask (lent o (with_weights (built_plan order lift table mask) (built_shape order lift mask)) h).plan s.rows s.cols
    go None q e =
        let same : built_shape order lift mask ≡ s = cc in
        subst (λ (s : Shape). BuiltPlan order lift table mask (built_plan order lift table mask) s.rows s.cols) same (built_plan_law order lift table mask (room_of h) q)
    go (Some x) q e = absurd (let z : ◌≡◌ {A = ℕ} 0 1 = cc in omega arith)

-- THE FILLER

module _ (plan : List ℤ) (rows cols lift : ℕ) (word : List ℕ) (filled left : ℕ) (e : fill_answer plan rows cols lift word ≡ Ok (record { filled = filled; left = left })) where
  abbrev G : Bipartite
  G = tanner plan rows cols lift

  filled_word_law : lowest (word_rules plan rows cols lift word) ≡ None → clash G (filled_word G word) ≡ false → Recovers G word (fill_word plan rows cols lift word) filled left
  unfolding filled_count left_count
  filled_word_law valid ok =
      let (answer, after) = not_refused plan rows cols lift word valid ok in
      let fits = subst (Solution G word) (sym after) (filled_word_solves G word ok) in
      let same : ◌≡◌ {A = Filling} (record { filled = filled; left = left }) (record { filled = filled_count G word; left = left_count G word }) = cc in
      let f : filled ≡ filled_count G word = ap (λ (k : Filling). k.filled) same in
      let l : left ≡ left_count G word = ap (λ (k : Filling). k.left) same in
      record {
        u_largest = record { stopping = largest_stopping G word; contains = largest_contains G word };
        outside = fits.filled;
        fits = fits;
        only_fit = λ v s. unique G word v (fill_word plan rows cols lift word) s fits;
        recovered = λ v d b s. ap (λ (l : List ℕ). get_or l b 0) after ∙ (recovers G v word d).1 b s;
        inside = fits.left;
        known = fits.known;
        filled_outside = f;
        left_inside = l;
        every_one = omega (arith, f, l, filled_and_left G word);
      }

  recovery : Recovers G word (fill_word plan rows cols lift word) filled left
  recovery = go (lowest (word_rules plan rows cols lift word)) refl
    where
      go : (o : Option Refusal) → lowest (word_rules plan rows cols lift word) ≡ o → Recovers G word (fill_word plan rows cols lift word) filled left
      go (Some x) q = absurd (let a = (word_refused plan rows cols lift word x q).0 in let z : ◌≡◌ {A = ℕ} 0 1 = cc in omega arith)
      go None q =
          by_bool (clash G (filled_word G word))
          (λ c. absurd (let a = (clash_refused plan rows cols lift word q c).0 in let z : ◌≡◌ {A = ℕ} 0 1 = cc in omega arith))
          (filled_word_law q)

pub promise_2 : Promise2
promise_2 = record { girth_test = verdicts; table_plans = built_plans; stuck_sets = union_stopping; filler = recovery }
