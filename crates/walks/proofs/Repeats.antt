-- Where two ways of a list end at the same bit: the first that ends where an earlier one did, and that one. And no way stands
-- twice among those of the search. Assumes nothing.
use Rattle.std.specs.Prelude.{Option}
use Prim.Native.Nat.{ℕ, zero, suc, ◌+◌, ◌-◌, ◌*◌, ◌/◌, ◌%◌, ◌<◌}
use mathlib.Core.Path.{◌≡◌, refl, sym, ap, subst, ◌∙◌}
use mathlib.Core.Logic.{◌⊎◌, ◌≢◌, inl, inr}
use mathlib.Core.Bool.{Bool, true, false, cond, ◌||◌}
use mathlib.Core.List.{List, [], ◌∷◌, map}
use Rattle.std.specs.Prelude.{None, Some}
use Rattle.std.proofs.lemmas.Option.{none-some}
use native.Mathlib.Nat.{mod-lt}
use lib.Dec.{eqb}
use lib.IntN.{ℤ}
use Rattle.graph.specs.Count.{Mem, member, Nodup}
use Rattle.graph.proofs.Count.{member_mem, mem_member}
use Rattle.graph.proofs.Decide.{both_ways}
use Rattle.graph.proofs.Lists.{each_image, nodup_image}
use Rattle.exponent.specs.declared.position.Position.{Position}
use Rattle.exponent.specs.declared.Shape.{Shape}
use Rattle.exponent.specs.Plan.{block_at}
use Rattle.exponent.specs.Position.{forward, back}
use Rattle.exponent.proofs.Numbers.{block_of_law}
use Rattle.walks.specs.declared.Corner.{Corner}
use Rattle.walks.specs.Steps.{Blocks, blocks_of, to_column, to_row}
use Rattle.walks.specs.Ways.{Joint, Way, more, and_then, joint, from_check, from_bit}
use Rattle.walks.specs.Meeting.{repeat}
use Rattle.walks.proofs.Steps.{lands}
use Rattle.walks.proofs.Each.{mem_each, nodup_each, nodup_then}

-- THE FIRST REPEAT

turn_none : (t : Bool) (w : Way) (r : Option Way) → cond t (Some w) r ≡ None → (t ≡ false) × (r ≡ None)
turn_none true w r e = absurd (none-some w (sym e))
turn_none false w r e = (refl, e)

turn_some : (t : Bool) (w : Way) (r : Option Way) (v : Way) → cond t (Some w) r ≡ Some v → ((t ≡ true) × (w ≡ v)) ⊎ ((t ≡ false) × (r ≡ Some v))
turn_some true w r v e = inl (refl, (cc))
turn_some false w r v e = inr (refl, e)

-- where there is none, no way ends at a bit seen before
pub none_seen : (seen : List ℕ) (W : List Way) → repeat seen W ≡ None → (w : Way) → Mem w W → Mem w.end seen → ⊥
unfolding repeat
none_seen seen [] e w m h = m
none_seen seen (x ∷ W) e w (inl q) h =
    both_ways (mem_member x.end seen (subst (λ (y : Way). Mem y.end seen) q h)) (turn_none (member x.end seen) x (repeat (x.end ∷ seen) W) e).0
none_seen seen (x ∷ W) e w (inr k) h = none_seen (x.end ∷ seen) W (turn_none (member x.end seen) x (repeat (x.end ∷ seen) W) e).1 w k (inr h)

-- and no two end at the same bit
pub none_twice : (seen : List ℕ) (W : List Way) → repeat seen W ≡ None → (w v : Way) → Mem w W → Mem v W → w.end ≡ v.end → w ≡ v
unfolding repeat
none_twice seen [] e w v m k h = absurd m
none_twice seen (x ∷ W) e w v (inl p) (inl q) h = p ∙ sym q
none_twice seen (x ∷ W) e w v (inl p) (inr q) h =
    absurd (none_seen (x.end ∷ seen) W (turn_none (member x.end seen) x (repeat (x.end ∷ seen) W) e).1 v q (inl (sym h ∙ ap (λ (y : Way). y.end) p)))
none_twice seen (x ∷ W) e w v (inr p) (inl q) h =
    absurd (none_seen (x.end ∷ seen) W (turn_none (member x.end seen) x (repeat (x.end ∷ seen) W) e).1 w p (inl (h ∙ ap (λ (y : Way). y.end) q)))
none_twice seen (x ∷ W) e w v (inr p) (inr q) h = none_twice (x.end ∷ seen) W (turn_none (member x.end seen) x (repeat (x.end ∷ seen) W) e).1 w v p q h

pub some_mem : (seen : List ℕ) (W : List Way) (w : Way) → repeat seen W ≡ Some w → Mem w W
unfolding repeat
some_mem seen [] w e = none-some w e
some_mem seen (x ∷ W) w e =
    elim (turn_some (member x.end seen) x (repeat (x.end ∷ seen) W) w e) [
      | inl h ↦ inl (sym h.1)
      | inr h ↦ inr (some_mem (x.end ∷ seen) W w h.1)
    ]

-- only what is seen matters, and not its order
same_seen : (S T : List ℕ) (W : List Way) → ((b : ℕ) → member b S ≡ member b T) → repeat S W ≡ repeat T W
unfolding repeat member
same_seen S T [] h = refl
same_seen S T (x ∷ W) h =
    ap (λ (t : Bool). cond t (Some x) (repeat (x.end ∷ S) W)) (h x.end)
    ∙ ap (λ (r : Option Way). cond (member x.end T) (Some x) r) (same_seen (x.end ∷ S) (x.end ∷ T) W (λ b. ap (λ (t : Bool). eqb b x.end || t) (h b)))

swap : (a b : Bool) (c : Bool) → (a || (b || c)) ≡ (b || (a || c))
swap true true c = refl
swap true false c = refl
swap false b c = refl

-- THE SECOND RUN: with the bit of the first repeat seen beforehand, another way to it is found
pub other_way : (S : List ℕ) (W : List Way) (w v : Way) → Nodup W → (Mem w.end S → ⊥) → repeat S W ≡ Some w → repeat (w.end ∷ S) W ≡ Some v
    → (v ≢ w) × (v.end ≡ w.end)
unfolding repeat member
other_way S [] w v d n p q = absurd (none-some w p)
other_way S (x ∷ W) w v d n p q =
    one (turn_some (member x.end S) x (repeat (x.end ∷ S) W) w p) (turn_some (member x.end (w.end ∷ S)) x (repeat (x.end ∷ w.end ∷ S) W) v q)
    (λ a b c. other_way (x.end ∷ S) W w v d.1 a b c)
  where
    swapped : repeat (w.end ∷ x.end ∷ S) W ≡ repeat (x.end ∷ w.end ∷ S) W
    swapped = same_seen (w.end ∷ x.end ∷ S) (x.end ∷ w.end ∷ S) W (λ b. swap (eqb b w.end) (eqb b x.end) (member b S))

    here : Mem x.end (w.end ∷ S) → member x.end S ≡ false → x.end ≡ w.end
    here (inl e) t = e
    here (inr m) t = both_ways (mem_member x.end S m) t

    fresh : member x.end (w.end ∷ S) ≡ false → Mem w.end (x.end ∷ S) → ⊥
    fresh t (inl e) = both_ways (mem_member x.end (w.end ∷ S) (inl (sym e))) t
    fresh t (inr m) = n m

    one : ((member x.end S ≡ true) × (x ≡ w)) ⊎ ((member x.end S ≡ false) × (repeat (x.end ∷ S) W ≡ Some w))
        → ((member x.end (w.end ∷ S) ≡ true) × (x ≡ v)) ⊎ ((member x.end (w.end ∷ S) ≡ false) × (repeat (x.end ∷ w.end ∷ S) W ≡ Some v))
        → ((Mem w.end (x.end ∷ S) → ⊥) → repeat (x.end ∷ S) W ≡ Some w → repeat (w.end ∷ x.end ∷ S) W ≡ Some v → (v ≢ w) × (v.end ≡ w.end))
        → (v ≢ w) × (v.end ≡ w.end)
    one (inl a) b rec = absurd (n (subst (λ (y : Way). Mem y.end S) a.1 (member_mem x.end S a.0)))
    one (inr a) (inl b) rec = (
      λ e. d.0 (subst (λ (y : Way). Mem y W) (sym (b.1 ∙ e)) (some_mem (x.end ∷ S) W w a.1)),
      ap (λ (y : Way). y.end) (sym b.1) ∙ here (member_mem x.end (w.end ∷ S) b.0) a.0,
    )
    one (inr a) (inr b) rec = rec (fresh b.0) a.1 (swapped ∙ b.1)

-- NO WAY TWICE: ways that part at some vertex differ there

abbrev first_check : ℕ → List Joint → ℕ
first_check lift [] = 0
first_check lift (e ∷ l) = e.check / lift

abbrev first_bit : ℕ → List Joint → ℕ
first_bit lift [] = 0
first_bit lift (e ∷ l) = e.bit / lift

same_more : (e : Joint) (w v : Way) → more e w ≡ more e v → w ≡ v
same_more e w v h =
    let k : e ∷ w.joints ≡ e ∷ v.joints = ap (λ (y : Way). y.joints) h in
    let j : w.joints ≡ v.joints = cc in
    let b : w.end ≡ v.end = ap (λ (y : Way). y.end) h in λ i. record { joints = j i; end = b i }

nodup_more : (e : Joint) (l : List Way) → Nodup l → Nodup (map (more e) l)
nodup_more e l d = nodup_image (more e) l d (λ w v i j h differ. differ (same_more e w v h))

module _ (plan : List ℤ) (s : Shape) (some_lift : 0 < s.lift) (κ : Corner) where
  abbrev B : Blocks
  B = blocks_of plan s

  column_key : (next : Position → List Way) (p : Position) (j : ℕ) (w : Way) → Mem w (and_then (to_column B p j) (λ q. map (more (joint B p q)) (next q))) → first_bit s.lift w.joints ≡ j
  column_key next p j w m = go (to_column B p j) refl m
    where
      go : (t : Option Position) → to_column B p j ≡ t → Mem w (and_then t (λ q. map (more (joint B p q)) (next q))) → first_bit s.lift w.joints ≡ j
      go None e m = absurd m
      go (Some q) e m =
          each_image (more (joint B p q)) (λ x. first_bit s.lift x.joints ≡ j) (next q)
          (λ v h. lands (λ q. (q.col * s.lift + q.voltage) / s.lift ≡ j) (eqb j p.col) (block_at plan s.cols s.lift p.row j) (forward s.lift p j)
          (λ x. block_of_law s.lift some_lift j ((p.voltage + x) % s.lift) (mod-lt (p.voltage + x) some_lift)) e) w m

  row_key : (d : ℕ) (p : Position) (i : ℕ) (w : Way) → Mem w (and_then (to_row B p i) (from_check B κ (from_bit B κ d))) → first_check s.lift w.joints ≡ i
  row_key d p i w m = go (to_row B p i) refl m
    where
      go : (t : Option Position) → to_row B p i ≡ t → Mem w (and_then t (from_check B κ (from_bit B κ d))) → first_check s.lift w.joints ≡ i
      go None e m = absurd m
      go (Some q) e m =
          let (j, a, b, k) = mem_each (λ j. and_then (to_column B q j) (λ x. map (more (joint B q x)) (from_bit B κ d x))) (s.cols - κ.col) κ.col w m in
          let row : (q.row * s.lift + q.voltage) / s.lift ≡ i =
          lands (λ q. (q.row * s.lift + q.voltage) / s.lift ≡ i) (eqb i p.row) (block_at plan s.cols s.lift i p.col) (back s.lift p i)
          (λ x. block_of_law s.lift some_lift i ((p.voltage + (s.lift - x)) % s.lift) (mod-lt (p.voltage + (s.lift - x)) some_lift)) e in
          within q row (to_column B q j) k
        where
          within : (q : Position) → (q.row * s.lift + q.voltage) / s.lift ≡ i → (t : Option Position) → Mem w (and_then t (λ x. map (more (joint B q x)) (from_bit B κ d x)))
              → first_check s.lift w.joints ≡ i
          within q h None m = absurd m
          within q h (Some x) m = each_image (more (joint B q x)) (λ y. first_check s.lift y.joints ≡ i) (from_bit B κ d x) (λ v k. h) w m

  distinct_check : (d : ℕ) → ((p : Position) → Nodup (from_bit B κ d p)) → (p : Position) → Nodup (from_check B κ (from_bit B κ d) p)
  distinct_check d h p =
      nodup_each (λ j. and_then (to_column B p j) (λ q. map (more (joint B p q)) (from_bit B κ d q))) (λ w. first_bit s.lift w.joints)
      (λ j. nodup_then (to_column B p j) (λ q. map (more (joint B p q)) (from_bit B κ d q)) (λ q e. nodup_more (joint B p q) (from_bit B κ d q) (h q)))
      (column_key (from_bit B κ d) p) (s.cols - κ.col) κ.col

  pub distinct_bits : (d : ℕ) (p : Position) → Nodup (from_bit (blocks_of plan s) κ d p)
  unfolding from_bit
  distinct_bits zero p = (λ m. m, tt)
  distinct_bits (suc d) p =
      nodup_each (λ i. and_then (to_row B p i) (from_check B κ (from_bit B κ d))) (λ w. first_check s.lift w.joints)
      (λ i. nodup_then (to_row B p i) (from_check B κ (from_bit B κ d)) (λ q e. distinct_check d (distinct_bits d) q)) (row_key d p) (s.rows - κ.row) κ.row

  pub distinct_checks : (d : ℕ) (p : Position) → Nodup (from_check (blocks_of plan s) κ (from_bit (blocks_of plan s) κ d) p)
  distinct_checks d = distinct_check d (distinct_bits d)
