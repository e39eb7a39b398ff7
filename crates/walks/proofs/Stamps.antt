-- The stamps: a list of stamps says which bits were seen, so that a run over the ways finds the first repeat; and two ways as the
-- code holds them are joined as the model joins them. Assumes nothing.
use Rattle.std.specs.Prelude.{Option}
use Prim.Native.Nat.{ℕ, zero, suc, ◌-◌, ◌≤◌, ◌<◌}
use mathlib.Core.Path.{◌≡◌, refl, sym, ap, ap₂, subst, ◌∙◌}
use mathlib.Core.Logic.{inl, inr}
use mathlib.Core.Bool.{Bool, true, false, cond, ◌||◌}
use mathlib.Core.List.{List, [], ◌∷◌}
use Rattle.std.specs.Prelude.{Some}
use native.Mathlib.Omega.{arith}
use borrow.Author.Tests.{eq-eqb, ne_eqb}
use lib.Dec.{eqb}
use lib.ListN.{length, get_or, set, replicate, length-set, length-replicate}
use lib.Seq.{get_or-set_same, get_or-set_other}
use Rattle.graph.specs.Count.{Mem, member}
use Rattle.graph.proofs.Decide.{by_eq, by_le, both_ways}
use Rattle.walks.specs.declared.trail.Trail.{Trail}
use Rattle.walks.proofs.Roots.{Sized}
use Rattle.walks.specs.Ways.{Joint, Way}
use Rattle.walks.specs.Meeting.{repeat, back_along, join_by}
use Rattle.walks.specs.Trail.{places, pop, push, lay, back_trail, join_trail}
use Rattle.walks.specs.Stamps.{Run, scan, Below}

-- the places that bear the stamp are the bits of S
abbrev pub Marks : ℕ → List ℕ → List ℕ → Type 0
Marks stamp seen S = (b : ℕ) → b < length seen → eqb (get_or seen b 0) stamp ≡ member b S

get_or_past : (l : List ℕ) (k : ℕ) → length l ≤ k → get_or l k 0 ≡ 0
get_or_past [] k h = refl
get_or_past (x ∷ l) zero h = absurd (omega arith)
get_or_past (x ∷ l) (suc k) h = get_or_past l k (omega arith)

marks_more : (stamp : ℕ) (seen S : List ℕ) (e : ℕ) → e < length seen → Marks stamp seen S → Marks stamp (set seen e stamp) (e ∷ S)
unfolding member
marks_more stamp seen S e low h b k =
    by_eq b e
    (λ q. eq-eqb (get_or (set seen e stamp) b 0) stamp (ap (λ (x : ℕ). get_or (set seen e stamp) x 0) q ∙ get_or-set_same seen e stamp 0 low) ∙ sym (ap (λ (t : Bool). t || member b S) (eq-eqb b e q)))
    (λ q. ap (λ (x : ℕ). eqb x stamp) (get_or-set_other seen e b stamp 0 q) ∙ h b (omega (arith, k, length-set seen e stamp)) ∙ sym (ap (λ (t : Bool). t || member b S) (ne_eqb b e q)))

pub scan_repeat : (stamp : ℕ) (W : List Way) (seen S : List ℕ) → ((w : Way) → Mem w W → w.end < length seen) → Marks stamp seen S → (scan stamp W seen).hit ≡ repeat S W
unfolding scan repeat
scan_repeat stamp [] seen S low h = refl
scan_repeat stamp (w ∷ W) seen S low h =
    go (eqb (get_or seen w.end 0) stamp) (member w.end S) (scan stamp W (set seen w.end stamp)) (repeat (w.end ∷ S) W) (h w.end (low w (inl refl)))
    (scan_repeat stamp W (set seen w.end stamp) (w.end ∷ S) (λ v m. rw length-set (low v (inr m))) (marks_more stamp seen S w.end (low w (inl refl)) h))
  where
    go : (t u : Bool) (x : Run) (y : Option Way) → t ≡ u → x.hit ≡ y → (cond t (record { hit = Some w; seen = seen }) x).hit ≡ cond u (Some w) y
    go true true x y e q = refl
    go true false x y e q = both_ways {t = true} refl e
    go false true x y e q = both_ways {t = true} refl (sym e)
    go false false x y e q = q

-- a list whose stamps are all below: nothing is seen; and after one store, one bit is

pub marks_none : (stamp : ℕ) (seen : List ℕ) → Below seen stamp → Marks stamp seen []
unfolding member
marks_none stamp seen h b k = ne_eqb (get_or seen b 0) stamp (λ e. omega (arith, h.below b))

pub marks_one : (stamp : ℕ) (seen : List ℕ) (e : ℕ) → e < length seen → Below seen stamp → Marks stamp (set seen e stamp) (e ∷ [])
marks_one stamp seen e low h = marks_more stamp seen [] e low (marks_none stamp seen h)

pub below_set : (seen : List ℕ) (e stamp m : ℕ) → stamp < m → Below seen m → Below (set seen e stamp) m
below_set seen e stamp m k h = record { below = low }
  where
    low : (b : ℕ) → get_or (set seen e stamp) b 0 < m
    low b =
        by_eq b e
        (λ q. by_le (length seen) e
        (λ l. let past : get_or (set seen e stamp) b 0 ≡ 0 = get_or_past (set seen e stamp) b (omega (arith, length-set seen e stamp)) in omega arith)
        (λ l. let same : get_or (set seen e stamp) b 0 ≡ stamp = ap (λ (x : ℕ). get_or (set seen e stamp) x 0) q ∙ get_or-set_same seen e stamp 0 l in omega arith))
        (λ q. omega (arith, get_or-set_other seen e b stamp 0 q, h.below b))

pub scan_below : (stamp : ℕ) (W : List Way) (seen : List ℕ) (m : ℕ) → stamp < m → Below seen m → Below (scan stamp W seen).seen m
unfolding scan
scan_below stamp [] seen m k h = h
scan_below stamp (w ∷ W) seen m k h = go (eqb (get_or seen w.end 0) stamp) (scan stamp W (set seen w.end stamp)) (scan_below stamp W (set seen w.end stamp) m k (below_set seen w.end stamp m k h))
  where
    go : (t : Bool) (r : Run) → Below r.seen m → Below (cond t (record { hit = Some w; seen = seen }) r).seen m
    go true r q = h
    go false r q = q

pub below_more : {seen : List ℕ} {m k : ℕ} → m ≤ k → Below seen m → Below seen k
below_more e h = record { below = λ b. omega (arith, h.below b) }

-- stamps as they are made: 65,536 zeros, by laws, since counting them would take long
zeros : (n b : ℕ) → ◌≡◌ {A = ℕ} (get_or (replicate n 0) b 0) 0
zeros zero b = refl
zeros (suc n) zero = refl
zeros (suc n) (suc b) = zeros n b

pub stamps_made : ◌≡◌ {A = ℕ} 65536 (length (replicate {A = ℕ} 65536 0))
stamps_made = sym (length-replicate {A = ℕ} 65536 0)

pub stamps_fresh : Below (replicate {A = ℕ} 65536 0) 1
stamps_fresh = record { below = λ b. omega (arith, zeros 65536 b) }

pub stamps_room : {m : ℕ} → m ≤ 65536 → m ≤ length (replicate {A = ℕ} 65536 0)
stamps_room {m} h = subst (λ (n : ℕ). m ≤ n) stamps_made h

-- the loop that goes back

pub back_step : (k z : ℕ) (w on : Trail) → 0 < k → back_trail k z w on ≡ back_trail (k - 1) (get_or w.bits 0 0) (pop w) (push (get_or w.checks 0 0) z on)
unfolding back_trail
back_step zero z w on h = absurd (omega arith)
back_step (suc k) z w on h = let e : k ≡ suc k - 1 = omega arith in ap (λ (x : ℕ). back_trail x (get_or w.bits 0 0) (pop w) (push (get_or w.checks 0 0) z on)) e

pub back_end : (k z : ℕ) (w on : Trail) → k ≤ 0 → on ≡ back_trail k z w on
unfolding back_trail
back_end zero z w on h = refl
back_end (suc k) z w on h = absurd (omega arith)

-- it does what the model does, where the ways fit in the places

pop_lay : (b : ℕ) (j : Joint) (l : List Joint) → length l < places → pop (lay b (j ∷ l)) ≡ lay b l
unfolding lay
pop_lay b j [] h = refl
pop_lay b j (x0 ∷ []) h = refl
pop_lay b j (x0 ∷ x1 ∷ []) h = refl
pop_lay b j (x0 ∷ x1 ∷ x2 ∷ []) h = refl
pop_lay b j (x0 ∷ x1 ∷ x2 ∷ x3 ∷ []) h = refl
pop_lay b j (x0 ∷ x1 ∷ x2 ∷ x3 ∷ x4 ∷ []) h = refl
pop_lay b j (x0 ∷ x1 ∷ x2 ∷ x3 ∷ x4 ∷ x5 ∷ []) h = refl
pop_lay b j (x0 ∷ x1 ∷ x2 ∷ x3 ∷ x4 ∷ x5 ∷ x6 ∷ []) h = refl
pop_lay b j (x0 ∷ x1 ∷ x2 ∷ x3 ∷ x4 ∷ x5 ∷ x6 ∷ x7 ∷ l) h = absurd (let q : ⊥ = omega arith in q)

back_lay : (z b e : ℕ) (l on : List Joint) → length l ≤ places → back_trail (length l) z (lay b l) (lay e on) ≡ lay e (back_along z l on)
unfolding back_trail back_along lay
back_lay z b e [] on h = refl
back_lay z b e (j ∷ l) on h =
    ap (λ (t : Trail). back_trail (length l) j.bit t (push j.check z (lay e on))) (pop_lay b j l (omega arith))
    ∙ back_lay j.bit b e l (record { check = j.check; bit = z } ∷ on) (omega arith)

pub join_lay : (t : Bool) (d z b e : ℕ) (l on : List Joint) → Sized t d (length l) → d < places → join_trail t d z (lay b l) (lay e on) ≡ lay e (join_by t z l on)
unfolding lay
join_lay true d z b e [] on h k = absurd (let q : ⊥ = omega arith in q)
join_lay true d z b e (j ∷ l) on h k =
    let size : d ≡ length l = omega arith in
    ap₂ (λ (x : ℕ) (t : Trail). back_trail x j.bit t (lay e on)) size (pop_lay b j l (omega arith)) ∙ back_lay j.bit b e l on (omega arith)
join_lay false d z b e l on h k = ap (λ (x : ℕ). back_trail x z (lay b l) (lay e on)) (sym h) ∙ back_lay z b e l on (omega arith)
