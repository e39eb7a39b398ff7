-- Runs of entries in a loop that calls a writer: room for a turn, and what it leaves. Assumes nothing.
use Prim.Native.Nat.{ℕ, ◌+◌, ◌<◌, ◌≤◌}
use mathlib.Core.Path.{◌≡◌, subst}
use mathlib.Core.List.{List}
use native.Mathlib.Numerals.{add-one}
use native.Mathlib.Omega.{arith}
use lib.ListN.{length}
use Rattle.writing.specs.Wrote.{Wrote}
use Rattle.writing.proofs.Wrote.{wrote_then, wrote_length}
use Rattle.square.specs.Each.{each}
use Rattle.square.proofs.Each.{each_mono}

module _ {A : Type 0} where
  -- a turn of the loop: there is room for it, and what it leaves
  module _ (f : ℕ → List A) {l l' : List A} {at at' i : ℕ} (w : Wrote l at (each i f) at' l') where
    pub room : (n : ℕ) → i < n → at + length (each n f) ≤ length l → at' + length (f i) ≤ length l'
    room n h g = omega (arith, w.place, wrote_length w, each_mono n i f h)

    pub done : (n : ℕ) → i ≤ n → n ≤ i → Wrote l at (each n f) at' l'
    done n h g = let e : i ≡ n = omega arith in subst (λ (k : ℕ). Wrote l at (each k f) at' l') e w

    pub turn : {l'' : List A} {at'' : ℕ} → Wrote l' at' (f i) at'' l'' → Wrote l at (each (i + 1) f) at'' l''
    turn v = rw add-one (wrote_then w v)
