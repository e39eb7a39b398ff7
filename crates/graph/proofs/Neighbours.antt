-- The bits of a check and the checks of a bit. Assumes nothing.
use Prim.Native.Nat.{ℕ, ◌<◌}
use native.Mathlib.Omega.{arith}
use Rattle.graph.specs.Count.{below, Mem, Nodup}
use Rattle.graph.specs.Graph.{Bipartite, Joined, bits_of, checks_of}
use Rattle.graph.proofs.Count.{mem_range, range_mem, nodup_range, mem_select, select_mem, nodup_select}

-- a number below n
pub mem_below : (x n : ℕ) → Mem x (below n) → x < n
mem_below x n m = let r = mem_range x 0 n m in omega arith

pub below_mem : (x n : ℕ) → x < n → Mem x (below n)
below_mem x n h = range_mem x 0 n (omega arith) (omega arith)

module _ (G : Bipartite) (c b : ℕ) where
  pub bit_joined : c < G.checks → Mem b (bits_of G c) → Joined G c b
  unfolding bits_of
  bit_joined h m = let r = mem_select (G.joins c) b (below G.bits) m in record { check_in = h; bit_in = mem_below b G.bits r.0; edge = r.1 }

  pub joined_bit : Joined G c b → Mem b (bits_of G c)
  unfolding bits_of
  joined_bit j = select_mem (G.joins c) b (below G.bits) (below_mem b G.bits j.bit_in) j.edge

  pub check_joined : b < G.bits → Mem c (checks_of G b) → Joined G c b
  unfolding checks_of
  check_joined h m = let r = mem_select (λ c. G.joins c b) c (below G.checks) m in record { check_in = mem_below c G.checks r.0; bit_in = h; edge = r.1 }

  pub joined_check : Joined G c b → Mem c (checks_of G b)
  unfolding checks_of
  joined_check j = select_mem (λ c. G.joins c b) c (below G.checks) (below_mem c G.checks j.check_in) j.edge

pub bits_nodup : (G : Bipartite) (c : ℕ) → Nodup (bits_of G c)
unfolding bits_of
bits_nodup G c = nodup_select (G.joins c) (below G.bits) (nodup_range 0 G.bits)

pub checks_nodup : (G : Bipartite) (b : ℕ) → Nodup (checks_of G b)
unfolding checks_of
checks_nodup G b = nodup_select (λ c. G.joins c b) (below G.checks) (nodup_range 0 G.checks)
