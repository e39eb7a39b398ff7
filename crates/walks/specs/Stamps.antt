-- How the code finds a repeat: by a list of stamps, one place for each bit.
use Rattle.std.specs.Prelude.{Option}
use Rattle.walks.specs.declared.trail.Trail.{Trail}
use Rattle.std.specs.Prelude.{ℕ, ◌≤◌, ◌<◌, ◌≡◌, cond, List, [], ◌∷◌, eqb, length, get_or, set}
use Rattle.std.specs.Prelude.{None, Some}
use Rattle.exponent.specs.declared.plan.Plan.{Plan}
use Rattle.exponent.specs.Graphs.{bits_in}
use Rattle.walks.specs.Ways.{Way}
use Rattle.walks.specs.Trail.{found}

pub record Run : Type 0 where
  pub hit : Option Way
  pub seen : List ℕ

unfoldable pub scan : ℕ → List Way → List ℕ → Run
scan stamp [] seen = record { hit = None; seen = seen }
scan stamp (w ∷ l) seen =
    let later = scan stamp l (set seen w.end stamp) in cond (eqb (get_or seen w.end 0) stamp) (record { hit = Some w; seen = seen }) later

-- what a search over the ways l shows, and the stamps that it leaves
pub record Ran (stamp : ℕ) (l : List Way) (before : List ℕ) (r : Option Trail) (after : List ℕ) : Type 0 where
  pub shown : r ≡ found (scan stamp l before).hit
  pub left : after ≡ (scan stamp l before).seen

-- all stamps are below a number: no place bears it
pub record Below (seen : List ℕ) (stamp : ℕ) : Type 0 where
  pub below : (b : ℕ) → get_or seen b 0 < stamp

-- what a search with fresh stamps shows, and that the stamps it leaves are below a number
pub record Answered (answer : Option Way) (limit : ℕ) (r : Option Trail) (seen : List ℕ) : Type 0 where
  pub shown : r ≡ found answer
  pub fresh : Below seen limit

-- a stamp for each bit
abbrev pub Stamped : Plan → List ℕ → Type 0
Stamped p seen = bits_in p ≤ length seen
