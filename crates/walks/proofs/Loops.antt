-- The laws of a search loop: what is left of its ways, where a turn stays, steps on or meets, and where it may skip.
-- Assumes nothing.
use Rattle.std.specs.Prelude.{Option}
use Prim.Native.Nat.{ℕ, ◌+◌, ◌-◌, ◌≤◌, ◌<◌}
use mathlib.Core.Path.{◌≡◌, refl, sym, ap, ◌∙◌}
use mathlib.Core.Bool.{Bool, true, false, cond}
use mathlib.Core.List.{List, [], ◌∷◌, ◌++◌, map}
use Rattle.std.specs.Prelude.{None, Some}
use Rattle.std.specs.Option.{is_some}
use Rattle.std.proofs.lemmas.Option.{none-some, same_Some}
use borrow.Author.Tests.{eq-eqb, ne_eqb}
use lib.Dec.{eqb}
use lib.ListN.{set, get_or}
use Rattle.exponent.specs.declared.position.Position.{Position}
use Rattle.index.specs.Index.{NextFrom}
use Rattle.walks.specs.declared.trail.Trail.{Trail}
use Rattle.walks.specs.Ways.{Joint, Way, more, and_then, each}
use Rattle.walks.specs.Trail.{lay, push, no_trail, trail, found}
use Rattle.walks.specs.Stamps.{Run, scan, Ran}
use Rattle.walks.proofs.Each.{each_turn, each_end, steps_skip}

-- What the code shows of a result.

pub found_none : (r : Option Way) → None ≡ found r → r ≡ None
found_none None e = refl
found_none (Some w) e = absurd (none-some (trail w) e)

pub found_some : (r : Option Way) (t : Trail) → Some t ≡ found r → (w : Way) × (r ≡ Some w) × (t ≡ trail w)
found_some None t e = absurd (none-some t (sym e))
found_some (Some w) t e = (w, refl, same_Some t (trail w) e)

pub ran_shown : {stamp : ℕ} {l : List Way} {before after : List ℕ} {r r' : (Option Trail)} → r ≡ r' → Ran stamp l before r after → Ran stamp l before r' after
ran_shown e h = record { shown = sym e ∙ h.shown; left = h.left }

pub ran_same : {stamp : ℕ} {l : List Way} {before after after' : List ℕ} {r r' : (Option Trail)} → r' ≡ r → after' ≡ after → Ran stamp l before r after → Ran stamp l before r' after'
ran_same p q h = record { shown = p ∙ h.shown; left = q ∙ h.left }

-- A run over more ways: what it met stays met, and else it goes on with the stamps that it has left.

abbrev go_on : Option Way → List ℕ → (List ℕ → Run) → Run
go_on None s f = f s
go_on (Some w) s f = record { hit = Some w; seen = s }

scan_append : (stamp : ℕ) (l m : List Way) (seen : List ℕ) → scan stamp (l ++ m) seen ≡ go_on (scan stamp l seen).hit (scan stamp l seen).seen (scan stamp m)
unfolding scan
scan_append stamp [] m seen = refl
scan_append stamp (w ∷ l) m seen =
    go (eqb (get_or seen w.end 0) stamp) (scan stamp (l ++ m) (set seen w.end stamp)) (scan stamp l (set seen w.end stamp)) (scan_append stamp l m (set seen w.end stamp))
  where
    go : (t : Bool) (a b : Run) → a ≡ go_on b.hit b.seen (scan stamp m)
        → cond t (record { hit = Some w; seen = seen }) a ≡ go_on (cond t (record { hit = Some w; seen = seen }) b).hit (cond t (record { hit = Some w; seen = seen }) b).seen (scan stamp m)
    go true a b e = refl
    go false a b e = e

-- the same with a check and a bit in front of each
abbrev pub after : Joint → Option Way → Option Way
after e None = None
after e (Some w) = Some (more e w)

scan_more : (stamp : ℕ) (e : Joint) (l : List Way) (seen : List ℕ)
    → scan stamp (map (more e) l) seen ≡ record { hit = after e (scan stamp l seen).hit; seen = (scan stamp l seen).seen }
unfolding scan
scan_more stamp e [] seen = refl
scan_more stamp e (w ∷ l) seen =
    go (eqb (get_or seen w.end 0) stamp) (scan stamp (map (more e) l) (set seen w.end stamp)) (scan stamp l (set seen w.end stamp)) (scan_more stamp e l (set seen w.end stamp))
  where
    go : (t : Bool) (a b : Run) → a ≡ record { hit = after e b.hit; seen = b.seen }
        → cond t (record { hit = Some (more e w); seen = seen }) a ≡ record { hit = after e (cond t (record { hit = Some w; seen = seen }) b).hit; seen = (cond t (record { hit = Some w; seen = seen }) b).seen }
    go true a b h = refl
    go false a b h = h

module _ {stamp : ℕ} {l : List Way} {seen seen' : List ℕ} (e : Joint) where
  pub more_nothing : Ran stamp l seen None seen' → Ran stamp (map (more e) l) seen None seen'
  more_nothing r =
      record {
        shown = sym (ap (λ (x : Run). found x.hit) (scan_more stamp e l seen) ∙ ap (λ (x : Option Way). found (after e x)) (found_none (scan stamp l seen).hit r.shown));
        left = r.left ∙ sym (ap (λ (x : Run). x.seen) (scan_more stamp e l seen));
      }

  pub more_met : {t : Trail} → Ran stamp l seen (Some t) seen' → Ran stamp (map (more e) l) seen (Some (push e.check e.bit t)) seen'
  unfolding lay
  more_met {t} r =
      let (w, h, k) = found_some (scan stamp l seen).hit t r.shown in
      record {
        shown = ap (λ (u : Trail). Some (push e.check e.bit u)) k ∙ sym (ap (λ (x : Run). found x.hit) (scan_more stamp e l seen) ∙ ap (λ (x : Option Way). found (after e x)) h);
        left = r.left ∙ sym (ap (λ (x : Run). x.seen) (scan_more stamp e l seen));
      }

-- At the end of a way: the bit bears the stamp, or it is stamped.
module _ (stamp b : ℕ) (seen : List ℕ) where
  pub arrive_met : get_or seen b 0 ≡ stamp → Ran stamp (record { joints = []; end = b } ∷ []) seen (Some (no_trail b)) seen
  unfolding scan lay
  arrive_met e = let t = eq-eqb (get_or seen b 0) stamp e in record { shown = rw t; left = rw t }

  pub arrive_new : (get_or seen b 0 ≡ stamp → ⊥) → Ran stamp (record { joints = []; end = b } ∷ []) seen None (set seen b stamp)
  unfolding scan
  arrive_new e = let t = ne_eqb (get_or seen b 0) stamp e in record { shown = rw t; left = rw t }

-- A search, `whole`, that takes the steps of a range and goes on from each: it is what is left of it from i on, with the stamps so far.

pub record Left (stamp : ℕ) (whole : List Way) (seen₀ : List ℕ) (step : ℕ → (Option Position)) (next : Position → List Way) (n i : ℕ) (seen : List ℕ) : Type 0 where
  pub same : scan stamp whole seen₀ ≡ scan stamp (each (λ k. and_then (step k) next) (n - i) i) seen

pub left_start : (stamp : ℕ) (step : ℕ → (Option Position)) (next : Position → List Way) (n i : ℕ) (seen : List ℕ) → Left stamp (each (λ k. and_then (step k) next) (n - i) i) seen step next n i seen
left_start stamp step next n i seen = record { same = refl }

module _ {stamp : ℕ} {whole : List Way} {seen₀ : List ℕ} {step : ℕ → (Option Position)} {next : Position → List Way} {n i : ℕ} {seen : List ℕ} (left : Left stamp whole seen₀ step next n i seen) where
  abbrev rest : List Way
  rest = each (λ k. and_then (step k) next) (n - (i + 1)) (i + 1)

  turn : i < n → scan stamp whole seen₀ ≡ scan stamp (and_then (step i) next ++ rest) seen
  turn h = left.same ∙ ap (λ (l : List Way). scan stamp l seen) (each_turn (λ k. and_then (step k) next) n i h)

  -- the step is not taken
  pub left_stay : i < n → step i ≡ None → Left stamp whole seen₀ step next n (i + 1) seen
  left_stay h e = record { same = turn h ∙ ap (λ (s : Option Position). scan stamp (and_then s next ++ rest) seen) e }

  went : {q : Position} → i < n → step i ≡ Some q → scan stamp whole seen₀ ≡ go_on (scan stamp (next q) seen).hit (scan stamp (next q) seen).seen (scan stamp rest)
  went {q} h e = turn h ∙ ap (λ (s : Option Position). scan stamp (and_then s next ++ rest) seen) e ∙ scan_append stamp (next q) rest seen

  -- it is taken in vain
  pub left_miss : {q : Position} {seen' : List ℕ} → i < n → step i ≡ Some q → Ran stamp (next q) seen None seen' → Left stamp whole seen₀ step next n (i + 1) seen'
  left_miss {q} h e r =
      record {
        same = went h e ∙ ap (λ (x : Option Way). go_on x (scan stamp (next q) seen).seen (scan stamp rest)) (found_none (scan stamp (next q) seen).hit r.shown) ∙ ap (scan stamp rest) (sym r.left);
      }

  -- it leads to a bit that bears the stamp
  pub left_hit : {q : Position} {t : Trail} {seen' : List ℕ} → i < n → step i ≡ Some q → Ran stamp (next q) seen (Some t) seen' → Ran stamp whole seen₀ (Some t) seen'
  left_hit {q} {t} h e r =
      let (w, k, m) = found_some (scan stamp (next q) seen).hit t r.shown in
      let same = went h e ∙ ap (λ (x : Option Way). go_on x (scan stamp (next q) seen).seen (scan stamp rest)) k in
      record {
        shown = ap Some m ∙ sym (ap (λ (x : Run). found x.hit) same);
        left = r.left ∙ sym (ap (λ (x : Run). x.seen) same);
      }

  -- the two by what the step found
  pub left_found : {q : Position} (r : Option Trail) {seen' : List ℕ} → i < n → step i ≡ Some q → Ran stamp (next q) seen r seen' → true ≡ is_some r → Ran stamp whole seen₀ r seen'
  left_found None h e ran t = absurd (let z : ⊥ = cc in z)
  left_found (Some t) h e ran _ = left_hit h e ran

  pub left_vain : {q : Position} (r : Option Trail) {seen' : List ℕ} → i < n → step i ≡ Some q → Ran stamp (next q) seen r seen' → false ≡ is_some r
      → Left stamp whole seen₀ step next n (i + 1) seen'
  left_vain None h e ran _ = left_miss h e ran
  left_vain (Some t) h e ran f = absurd (let z : ⊥ = cc in z)

  -- the range has an end
  pub left_end : n ≤ i → Ran stamp whole seen₀ None seen
  unfolding scan
  left_end h =
      let same = left.same ∙ ap (λ (l : List Way). scan stamp l seen) (each_end (λ k. and_then (step k) next) n i h) in
      record { shown = sym (ap (λ (x : Run). found x.hit) same); left = sym (ap (λ (x : Run). x.seen) same) }

  -- where an index skips, no step is taken
  pub left_skip : {test : ℕ → Bool} {m : ℕ} → NextFrom test i n m → ((k : ℕ) → test k ≡ false → step k ≡ None) → Left stamp whole seen₀ step next n m seen
  left_skip f stay = record { same = left.same ∙ ap (λ (l : List Way). scan stamp l seen) (steps_skip step next f stay) }
