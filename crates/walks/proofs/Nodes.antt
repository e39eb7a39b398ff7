-- The vertices of a way, as a walk has them, and the checks and bits among them. Assumes nothing.
use Prim.Native.Nat.{ℕ, ◌*◌}
use mathlib.Core.Path.{◌≡◌, refl, sym, ap, ap₂, ◌∙◌}
use mathlib.Core.List.{List, [], ◌∷◌, map, reverse_aux}
use native.Mathlib.Omega.{arith}
use lib.ListN.{length}
use Rattle.graph.proofs.Lists.{last}
use Rattle.graph.specs.Walks.{Node, check, bit}
use Rattle.graph.proofs.Cycles.{numbers, checks_among, bits_of}
use Rattle.walks.specs.Ways.{Joint}
use Rattle.walks.specs.Meeting.{back_along, back_to_check}

-- the vertices of a way after its first, in order
unfoldable pub nodes : List Joint → List Node
nodes [] = []
nodes (e ∷ l) = check e.check ∷ bit e.bit ∷ nodes l

pub nodes_length : (l : List Joint) → length (nodes l) ≡ 2 * length l
unfolding nodes
nodes_length [] = refl
nodes_length (e ∷ l) = omega (arith, nodes_length l)

-- the checks and the bits that an answer shows
abbrev pub checks_in : List Joint → List ℕ
checks_in l = map (λ e. e.check) l

abbrev pub bits_in : List Joint → List ℕ
bits_in l = map (λ e. e.bit) l

pub nodes_checks : (l : List Joint) → checks_among (nodes l) ≡ checks_in l
unfolding nodes numbers
nodes_checks [] = refl
nodes_checks (e ∷ l) = ap (λ (m : List ℕ). e.check ∷ m) (nodes_checks l)

pub nodes_bits : (l : List Joint) → bits_of (nodes l) ≡ bits_in l
unfolding nodes numbers
nodes_bits [] = refl
nodes_bits (e ∷ l) = ap (λ (m : List ℕ). e.bit ∷ m) (nodes_bits l)

pub nodes_same : (l m : List Joint) → nodes l ≡ nodes m → l ≡ m
unfolding nodes
nodes_same [] [] e = refl
nodes_same [] (y ∷ m) e = absurd (let z = ap length e in omega arith)
nodes_same (x ∷ l) [] e = absurd (let z = ap length e in omega arith)
nodes_same (x ∷ l) (y ∷ m) e =
    let c : x.check ≡ y.check = cc in
    let b : x.bit ≡ y.bit = cc in
    let r : nodes l ≡ nodes m = cc in λ i. record { check = c i; bit = b i } ∷ nodes_same l m r i

-- BACK ALONG A WAY

pub back_nodes : (z : ℕ) (l on : List Joint) (e : ℕ) → last (bit z) (nodes l) ≡ bit e → reverse_aux (nodes l) (bit z ∷ nodes on) ≡ bit e ∷ nodes (back_along z l on)
unfolding nodes back_along
back_nodes z [] on e h = ap (λ (x : Node). x ∷ nodes on) h
back_nodes z (j ∷ l) on e h = back_nodes j.bit l (record { check = j.check; bit = z } ∷ on) e h

pub back_to_check_law : (c : ℕ) (l on : List Joint) (r t : List Node) (e : ℕ) → nodes l ≡ check c ∷ r → nodes on ≡ check c ∷ t → last (check c) r ≡ bit e
    → reverse_aux r (check c ∷ t) ≡ bit e ∷ nodes (back_to_check l on)
unfolding nodes
back_to_check_law c [] on r t e p q h = absurd (let z = ap length p in omega arith)
back_to_check_law c (j ∷ l) on r t e p q h =
    let k : r ≡ bit j.bit ∷ nodes l = cc in
    ap₂ (λ (x y : List Node). reverse_aux x y) k (sym q) ∙ back_nodes j.bit l on e (sym (ap (last (check c)) k) ∙ h)
