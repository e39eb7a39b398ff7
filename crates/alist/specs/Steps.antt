-- What the writer does to a text: it puts a whole text into a place that is long enough.
use Rattle.std.specs.Prelude.{Result, ℕ, ◌+◌, ◌*◌, ◌≡◌, List, length}
use Rattle.refusal.specs.declared.Refusal.{Refusal}
use Rattle.refusal.specs.Lowest.{Rule, lowest}
use Rattle.weights.specs.declared.Side.TheVariants.{Bits, Checks}
use Rattle.lines.specs.declared.Layout.{Layout}
use Rattle.lines.specs.Sides.{node_count}
use Rattle.refusal.specs.Answer.{outcome}
use Rattle.alist.specs.Calls.{room_rules, laid}

-- a text put into a place, unless a rule applies: the answer, and what the place then holds
pub record PutBy (rules : List Rule) (text before : List ℕ) (r : Result ℕ Refusal) (after : List ℕ) : Type 0 where
  pub answer : r ≡ outcome (lowest rules) (length text)
  pub place : after ≡ laid (lowest rules) text before

-- unless that is too short
abbrev pub Put : List ℕ → List ℕ → Result ℕ Refusal → List ℕ → Type 0
Put text before r after = PutBy (room_rules text before) text before r after

-- no alist of the layout is longer: a line feed for each line, and for each number at most six digits and a space
abbrev pub most_bytes : Layout → ℕ
most_bytes l =
    let bits = node_count l.shape Bits in
    let checks = node_count l.shape Checks in
    8 * (4 + (bits + checks)) + 7 * (bits * l.bits + checks * l.checks)
