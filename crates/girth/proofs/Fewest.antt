-- The rounds of the test, over 2, 3, … checks: what is left of them, where a round finds nothing or a cycle. Assumes nothing.
use Rattle.std.specs.Prelude.{Option}
use Rattle.walks.specs.Ways.{Way}
use Rattle.std.specs.Prelude.{Some, None}
use Prim.Native.Nat.{ℕ, ◌+◌, ◌-◌, ◌≤◌, ◌<◌}
use mathlib.Core.Path.{◌≡◌, sym, ap, ◌∙◌}
use native.Mathlib.Numerals.{add-one}
use Rattle.walks.specs.declared.trail.Trail.{Trail}
use Rattle.walks.specs.Steps.{Blocks}
use Rattle.walks.specs.Meeting.{short_cycle}
use Rattle.walks.specs.Trail.{found}
use Rattle.walks.proofs.Each.{one_less, none_left}
use Rattle.walks.proofs.Loops.{found_none, found_some}
use Rattle.girth.specs.Model.{witness, unless_found, shortest}

module _ (B : Blocks) (half : ℕ) where
  abbrev pub Fewest : ℕ → Type 0
  Fewest n = shortest B (half - 2) 2 ≡ shortest B (half - n) n

  more : (n : ℕ) → n < half → Fewest n → shortest B (half - 2) 2 ≡ unless_found n (short_cycle B n) (shortest B (half - (n + 1)) (n + 1))
  unfolding shortest
  more n h e =
      e ∙ ap (λ (k : ℕ). shortest B k n) (one_less half n h)
      ∙ ap (λ (k : ℕ). unless_found n (short_cycle B n) (shortest B (half - (n + 1)) k)) (sym (add-one n))

  pub fewest_miss : {n : ℕ} → n < half → None ≡ found (short_cycle B n) → Fewest n → Fewest (n + 1)
  fewest_miss {n} h m e = more n h e ∙ ap (λ (r : Option Way). unless_found n r (shortest B (half - (n + 1)) (n + 1))) (found_none (short_cycle B n) m)

  pub fewest_hit : {n : ℕ} {t : Trail} → n < half → Some t ≡ found (short_cycle B n) → Fewest n → Some (witness n t) ≡ shortest B (half - 2) 2
  fewest_hit {n} {t} h m e =
      let (w, q, i) = found_some (short_cycle B n) t m in
      ap (λ (x : Trail). Some (witness n x)) i ∙ sym (more n h e ∙ ap (λ (r : Option Way). unless_found n r (shortest B (half - (n + 1)) (n + 1))) q)

  pub fewest_end : {n : ℕ} → half ≤ n → Fewest n → None ≡ shortest B (half - 2) 2
  unfolding shortest
  fewest_end {n} h e = sym (e ∙ ap (λ (k : ℕ). shortest B k n) (none_left half n h))
