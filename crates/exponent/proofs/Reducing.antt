-- A plan whose shifts leave those of another plan as remainders by a divisor of the lift: its graph passes where the other's does.
-- Assumes nothing.
use Prim.Native.Nat.{ℕ, ◌+◌, ◌*◌, ◌/◌, ◌%◌, ◌<◌, ◌∣◌}
use mathlib.Core.Path.{◌≡◌, refl, sym, ap, ◌∙◌}
use mathlib.Core.Bool.{true, false}
use mathlib.Core.List.{List}
use native.Mathlib.Nat.{mod-lt, mod-add-mod, add-mod-mod, mod-mod_of_dvd}
use borrow.Author.Tests.{eqb-true, eq-eqb}
use lib.IntN.{ℤ}
use Rattle.graph.specs.Graph.{Bipartite, Joined}
use Rattle.graph.specs.Girth.{Passes}
use Rattle.graph.proofs.Decide.{both_ways}
use Rattle.graph.proofs.Covers.{cover_passes}
use Rattle.exponent.specs.declared.block.Block.{Block}
use Rattle.exponent.specs.declared.block.Block.TheVariants.{Zero, Shift, Invalid}
use Rattle.exponent.specs.Plan.{block_at}
use Rattle.exponent.specs.Tanner.{edge, tanner}
use Rattle.exponent.proofs.Numbers.{block_of_law, place_of, number_low, block_low, cancel, same_number}

-- the numbers of checks and bits at the smaller lift
unfoldable pub reduce : ℕ → ℕ → ℕ → ℕ
reduce L D n = n / L * D + n % L % D

module _ (L D : ℕ) (some-L : 0 < L) (some-D : 0 < D) where
  reduce_block : (n : ℕ) → reduce L D n / D ≡ n / L
  unfolding reduce
  reduce_block n = block_of_law D some-D (n / L) (n % L % D) (mod-lt (n % L) some-D)

  reduce_place : (n : ℕ) → reduce L D n % D ≡ n % L % D
  unfolding reduce
  reduce_place n = place_of D some-D (n / L) (n % L % D) (mod-lt (n % L) some-D)

  reduce_low : (m n : ℕ) → n < m * L → reduce L D n < m * D
  unfolding reduce
  reduce_low m n h = number_low (n / L) (n % L % D) m D (block_low L some-L n m h) (mod-lt (n % L) some-D)

  same_block : (a b : ℕ) → reduce L D a ≡ reduce L D b → a / L ≡ b / L
  same_block a b e = sym (reduce_block a) ∙ ap (λ (n : ℕ). n / D) e ∙ reduce_block b

-- an edge is one of a shift
shifted : (b : Block) (lift y z : ℕ) → edge b lift y z ≡ true → (e : ℕ) × (b ≡ Shift e) × ((y + e) % lift ≡ z)
shifted Zero lift y z h = both_ways {t = false} h refl
shifted (Shift e) lift y z h = (e, refl, eqb-true ((y + e) % lift) z h)
shifted Invalid lift y z h = both_ways {t = false} h refl

module _ (plan other : List ℤ) (rows cols L D : ℕ) (some-L : 0 < L) (some-D : 0 < D) (divides : D ∣ L)
    (blocks : (i j x : ℕ) → i < rows → j < cols → block_at plan cols L i j ≡ Shift x → block_at other cols D i j ≡ Shift (x % D)) where
  abbrev G : Bipartite
  G = tanner plan rows cols L

  -- an edge by its block
  at : (c b : ℕ) → Joined (tanner plan rows cols L) c b → (x : ℕ) × (block_at plan cols L (c / L) (b / L) ≡ Shift x) × ((c % L + x) % L ≡ b % L)
  unfolding tanner
  at c b j = shifted (block_at plan cols L (c / L) (b / L)) L (c % L) (b % L) j.edge

  keeps : (c b : ℕ) → Joined (tanner plan rows cols L) c b → Joined (tanner other rows cols D) (reduce L D c) (reduce L D b)
  unfolding tanner
  keeps c b j =
      let (x, is, e) = at c b j in
      let sum : (c % L % D + x % D) % D ≡ b % L % D =
      add-mod-mod (c % L % D) x D ∙ mod-add-mod (c % L) D x ∙ sym (mod-mod_of_dvd D (c % L + x) divides) ∙ ap (λ (n : ℕ). n % D) e in
      record {
        check_in = reduce_low L D some-L some-D rows c j.check_in;
        bit_in = reduce_low L D some-L some-D cols b j.bit_in;
        edge =
            rw (
              reduce_block L D some-L some-D c,
              reduce_block L D some-L some-D b,
              reduce_place L D some-L some-D c,
              reduce_place L D some-L some-D b,
              blocks (c / L) (b / L) x (block_low L some-L c rows j.check_in) (block_low L some-L b cols j.bit_in) is,
            )
            (eq-eqb ((c % L % D + x % D) % D) (b % L % D) sum);
      }

  same_shift : (x y : ℕ) → Shift x ≡ Shift y → x ≡ y
  same_shift x y e = cc

  checks_apart : (c d b : ℕ) → Joined (tanner plan rows cols L) c b → Joined (tanner plan rows cols L) d b → reduce L D c ≡ reduce L D d → c ≡ d
  checks_apart c d b j k e =
      let (x, is, p) = at c b j in
      let (y, is', q) = at d b k in
      let rows_same = same_block L D some-L some-D c d e in
      let same : x ≡ y = same_shift x y (sym is ∙ ap (λ (i : ℕ). block_at plan cols L i (b / L)) rows_same ∙ is') in
      same_number L c d rows_same (cancel L some-L (c % L) (d % L) x (mod-lt c some-L) (mod-lt d some-L) (p ∙ sym q ∙ ap (λ (n : ℕ). (d % L + n) % L) (sym same)))

  bits_apart : (a b c : ℕ) → Joined (tanner plan rows cols L) c a → Joined (tanner plan rows cols L) c b → reduce L D a ≡ reduce L D b → a ≡ b
  bits_apart a b c j k e =
      let (x, is, p) = at c a j in
      let (y, is', q) = at c b k in
      let cols-same = same_block L D some-L some-D a b e in
      let same : x ≡ y = same_shift x y (sym is ∙ ap (λ (i : ℕ). block_at plan cols L (c / L) i) cols-same ∙ is') in
      same_number L a b cols-same (sym p ∙ ap (λ (n : ℕ). (c % L + n) % L) same ∙ q)

  pub reduced_passes : (t : ℕ) → Passes (tanner other rows cols D) t → Passes (tanner plan rows cols L) t
  reduced_passes = cover_passes (tanner plan rows cols L) (tanner other rows cols D) (reduce L D) (reduce L D) keeps checks_apart bits_apart
