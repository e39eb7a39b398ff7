-- Laws of writing: one run of values after another, and a list on the way. Assumes nothing.
use Prim.Native.Nat.{ℕ, suc, ◌+◌, ◌≤◌, ◌<◌}
use mathlib.Core.Path.{◌≡◌, refl, sym, ap, ap₂, ◌∙◌}
use mathlib.Core.List.{List, [], ◌∷◌, ◌++◌, append_assoc, append-nil}
use native.Mathlib.Nat.{add-zero}
use native.Mathlib.Omega.{arith}
use lib.ListN.{length, set, take, drop, length-append}
use lib.Seq.{sets, set_out, length-sets, sets-eq, drop-length}
use Rattle.writing.specs.Wrote.{Wrote}

module _ {A : Type 0} where
  sets_append : (xs ys l : List A) (i : ℕ) → sets l i (xs ++ ys) ≡ sets (sets l i xs) (i + length xs) ys
  sets_append [] ys l i = ap (λ (k : ℕ). sets l k ys) (sym (add-zero i))
  sets_append (x ∷ xs) ys l i =
      let e : suc i + length xs ≡ i + suc (length xs) = omega arith in
      sets_append xs ys _ (suc i) ∙ ap (λ (k : ℕ). sets (sets l i (x ∷ xs)) k ys) e

  pub wrote_none : (l : List A) (at : ℕ) → Wrote l at [] at l
  wrote_none l at = record { place = sym (add-zero at); list = refl }

  pub wrote_one : (l : List A) (at : ℕ) (x y : A) → x ≡ y → Wrote l at (y ∷ []) (at + 1) (set l at x)
  wrote_one l at x y e = record { place = refl; list = ap (set l at) e }

  -- past the end nothing is stored
  pub wrote_past : (l : List A) (at : ℕ) (xs : List A) (next : ℕ) → length l ≤ at → next ≡ at + length xs → Wrote l at xs next l
  wrote_past l at xs next h e = record { place = e; list = sym (past at xs h) }
    where
      past : (i : ℕ) (xs : List A) → length l ≤ i → sets l i xs ≡ l
      past i [] h = refl
      past i (x ∷ xs) h = ap (λ (m : List A). sets m (suc i) xs) (set_out l i x h) ∙ past (suc i) xs (omega arith)

  -- one run of values after another
  pub wrote_then : {l m out xs ys : List A} {at p r : ℕ} → Wrote l at xs p m → Wrote m p ys r out → Wrote l at (xs ++ ys) r out
  wrote_then {l} {m} {out} {xs} {ys} {at} {p} {r} v w =
      record {
        place = omega (arith, v.place, w.place, length-append xs ys);
        list = w.list ∙ ap₂ (λ (t : List A) (k : ℕ). sets t k ys) v.list v.place ∙ sym (sets_append xs ys l at);
      }

  pub wrote_length : {l m xs : List A} {at p : ℕ} → Wrote l at xs p m → length m ≡ length l
  wrote_length {l} {m} {xs} {at} w = ap length w.list ∙ length-sets l at xs

  -- the whole list is written
  pub wrote_all : (l m xs : List A) (p : ℕ) → length l ≡ length xs → Wrote l 0 xs p m → m ≡ xs
  wrote_all l m xs p e w =
      let e' : 0 + length xs ≡ length l = omega arith in
      w.list ∙ sets-eq xs l 0 (omega arith) ∙ ap (λ (r : List A). take 0 l ++ xs ++ r) (ap (λ (k : ℕ). drop k l) e' ∙ drop-length l) ∙ append-nil xs

-- A list on the way: `rest` of the whole is still to be written, at `next`.

pub record Going {A : Type 0} (before : List A) (at : ℕ) (whole rest : List A) (next : ℕ) (after : List A) : Type 0 where
  pub done : List A
  pub wrote : Wrote before at done next after
  pub both : done ++ rest ≡ whole

module _ {A : Type 0} where
  pub going_start : (l : List A) (at : ℕ) (whole : List A) → Going l at whole whole at l
  going_start l at whole = record { done = []; wrote = wrote_none l at; both = refl }

  going_end : {l whole out : List A} {at r : ℕ} → Going l at whole [] r out → Wrote l at whole r out
  going_end {l} {whole} {out} {at} {r} g = let e : g.done ≡ whole = sym (append-nil g.done) ∙ g.both in rw e at g.wrote

  -- the next part xs of what is left: there is room for it, and it is written; and the last part
  module _ {l whole left m : List A} {at p : ℕ} (xs rest : List A) (e : left ≡ xs ++ rest) (g : Going l at whole left p m) where
    pub part_room : (n : ℕ) → at + length whole < n → p + length xs < n
    part_room n h = omega (arith, g.wrote.place, length-append g.done left, ap length g.both, ap length e, length-append xs rest)

    pub part_done : {out : List A} {r : ℕ} → Wrote m p xs r out → Going l at whole rest r out
    part_done w =
        record {
          done = g.done ++ xs;
          wrote = wrote_then g.wrote w;
          both = append_assoc g.done xs rest ∙ ap (λ (t : List A). g.done ++ t) (sym e) ∙ g.both;
        }

  pub last_done : {l whole left m out : List A} {at p r : ℕ} (xs : List A) → left ≡ xs → Going l at whole left p m → Wrote m p xs r out → Wrote l at whole r out
  last_done {l} {whole} {left} {m} {out} {at} {p} {r} xs e g w = going_end (part_done xs [] (e ∙ sym (append-nil xs)) g w)

  pub all_done : {l whole left out : List A} {at r : ℕ} → left ≡ [] → Going l at whole left r out → Wrote l at whole r out
  all_done {l} {whole} {left} {out} {at} {r} e g = going_end (rw e at g)
