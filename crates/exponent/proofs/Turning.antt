-- Turning: moving every check and bit by k places within its block keeps the edges, and so every simple cycle. Assumes nothing.
use Prim.Native.Nat.{ℕ, ◌+◌, ◌-◌, ◌*◌, ◌/◌, ◌%◌, ◌<◌}
use mathlib.Core.Path.{◌≡◌, refl, sym, ap, ap₂, ◌∙◌}
use mathlib.Core.List.{List, map}
use native.Mathlib.Omega.{arith}
use native.Mathlib.Nat.{mod-lt, div-add-mod', mod_self}
use borrow.Author.Tests.{eqb-true, eq-eqb}
use lib.Dec.{eqb}
use lib.IntN.{ℤ}
use Rattle.graph.specs.Graph.{Joined}
use Rattle.graph.specs.Girth.{SimpleCycle}
use Rattle.graph.proofs.Decide.{same_bool}
use Rattle.graph.proofs.Images.{map_cycle}
use Rattle.exponent.specs.declared.block.Block.{Block}
use Rattle.exponent.specs.declared.block.Block.TheVariants.{Zero, Shift, Invalid}
use Rattle.exponent.specs.Plan.{block_at}
use Rattle.exponent.specs.Tanner.{edge, tanner, turn}
use Rattle.exponent.proofs.Numbers.{block_of_law, place_of, number_low, block_low, cancel, swap}

module _ (lift : ℕ) (some : 0 < lift) (k : ℕ) where
  pub turn_block : (x : ℕ) → turn lift k x / lift ≡ x / lift
  unfolding turn
  turn_block x = block_of_law lift some (x / lift) ((x % lift + k) % lift) (mod-lt (x % lift + k) some)

  pub turn_place : (x : ℕ) → turn lift k x % lift ≡ (x % lift + k) % lift
  unfolding turn
  turn_place x = place_of lift some (x / lift) ((x % lift + k) % lift) (mod-lt (x % lift + k) some)

  pub turn_low : (n x : ℕ) → x < n * lift → turn lift k x < n * lift
  unfolding turn
  turn_low n x h = number_low (x / lift) ((x % lift + k) % lift) n lift (block_low lift some x n h) (mod-lt (x % lift + k) some)

  -- different numbers stay different
  pub turn_same : (a b : ℕ) → turn lift k a ≡ turn lift k b → a ≡ b
  turn_same a b e =
      let blocks : a / lift ≡ b / lift = sym (turn_block a) ∙ ap (λ (x : ℕ). x / lift) e ∙ turn_block b in
      let places : a % lift ≡ b % lift =
      cancel lift some (a % lift) (b % lift) k (mod-lt a some) (mod-lt b some) (sym (turn_place a) ∙ ap (λ (x : ℕ). x % lift) e ∙ turn_place b) in
      sym (div-add-mod' a lift) ∙ ap₂ (λ (x y : ℕ). x * lift + y) blocks places ∙ div-add-mod' b lift

  turn_edge : (b : Block) (y z : ℕ) → z < lift → edge b lift ((y + k) % lift) ((z + k) % lift) ≡ edge b lift y z
  turn_edge Zero y z h = refl
  turn_edge (Shift e) y z h =
      same_bool (eqb (((y + k) % lift + e) % lift) ((z + k) % lift)) (eqb ((y + e) % lift) z)
      (λ q. eq-eqb ((y + e) % lift) z (cancel lift some ((y + e) % lift) z k (mod-lt (y + e) some) h
      (sym (swap lift some y e k) ∙ eqb-true (((y + k) % lift + e) % lift) ((z + k) % lift) q)))
      (λ q. eq-eqb (((y + k) % lift + e) % lift) ((z + k) % lift)
      (swap lift some y e k ∙ ap (λ (x : ℕ). (x + k) % lift) (eqb-true ((y + e) % lift) z q)))
  turn_edge Invalid y z h = refl

  module _ (plan : List ℤ) (rows cols : ℕ) where
    pub turn_joins : (c b : ℕ) → (tanner plan rows cols lift).joins (turn lift k c) (turn lift k b) ≡ (tanner plan rows cols lift).joins c b
    unfolding tanner
    turn_joins c b =
        rw (turn_block c, turn_block b, turn_place c, turn_place b)
        (turn_edge (block_at plan cols lift (c / lift) (b / lift)) (c % lift) (b % lift) (mod-lt b some))

    pub turn_joined : (c b : ℕ) → Joined (tanner plan rows cols lift) c b → Joined (tanner plan rows cols lift) (turn lift k c) (turn lift k b)
    unfolding tanner
    turn_joined c b j = record { check_in = turn_low rows c j.check_in; bit_in = turn_low cols b j.bit_in; edge = turn_joins c b ∙ j.edge }

    -- a simple cycle, turned
    pub turn_cycle : (n : ℕ) (cs bs : List ℕ) → SimpleCycle (tanner plan rows cols lift) n cs bs
        → SimpleCycle (tanner plan rows cols lift) n (map (turn lift k) cs) (map (turn lift k) bs)
    turn_cycle = map_cycle (tanner plan rows cols lift) (tanner plan rows cols lift) (turn lift k) (turn lift k) turn_joined turn_same turn_same

-- some turn brings a bit to voltage 0
pub turn_home : (lift : ℕ) → 0 < lift → (b : ℕ) → turn lift (lift - b % lift) b ≡ b / lift * lift
unfolding turn
turn_home lift some b =
    let low = mod-lt b some in
    ap (λ (x : ℕ). b / lift * lift + x % lift) (let r : b % lift + (lift - b % lift) ≡ lift = omega arith in r)
    ∙ omega (arith, mod_self lift)
