-- The peeling decoder (document 01, "Frames and filling"): what it answers, and the word that it leaves.
use Rattle.std.specs.Prelude.{Result, Ok, Err}
use Rattle.peeling.specs.declared.Filling.{Filling}
use Rattle.std.specs.Prelude.{ℕ, ◌≤◌, ◌≡◌, cond, List, [], ◌∷◌, ◌++◌, ℤ, get_or}
use Rattle.refusal.specs.declared.Refusal.{Refusal}
use Rattle.refusal.specs.declared.Refusal.TheVariants.{NoSolution}
use Rattle.refusal.specs.Answer.{outcome}
use Rattle.refusal.specs.Lent.{lent}
use Rattle.refusal.specs.Lowest.{Rule, refuse, lowest}
use Rattle.graph.specs.Graph.{Bipartite}
use Rattle.graph.specs.Filling.{filled_word, clash, filled_count, left_count}
use Rattle.exponent.specs.declared.plan.Plan.{Plan}
use Rattle.exponent.specs.Tanner.{tanner}
use Rattle.syndrome.specs.Scan.{IsWord}
use Rattle.syndrome.specs.Word.{word_rules}

-- a word for a plan: of its length, and no byte above 2
abbrev pub Fillable : Plan → List ℕ → Type 0
Fillable p word = IsWord p word × ((b : ℕ) → get_or word b 0 ≤ 2)

-- 20: no values fit, after 1 to 6, 16 and 18
unfoldable pub fill_rules : List ℤ → ℕ → ℕ → ℕ → List ℕ → List Rule
fill_rules plan rows cols lift word =
    let G = tanner plan rows cols lift in
    word_rules plan rows cols lift word ++ refuse NoSolution (clash G (filled_word G word)) ∷ []

-- the erasures outside U are filled, those in U are left
abbrev pub counts : Bipartite → List ℕ → Filling
counts G word = record { filled = filled_count G word; left = left_count G word }

-- what a word that is not refused for its bytes gets: the two counts, or 20
unfoldable pub filling : Bipartite → List ℕ → Result Filling Refusal
filling G word = cond (clash G (filled_word G word)) (Err NoSolution) (Ok (counts G word))

unfoldable pub filled_or : Bipartite → List ℕ → List ℕ
filled_or G word = cond (clash G (filled_word G word)) word (filled_word G word)

unfoldable pub fill_answer : List ℤ → ℕ → ℕ → ℕ → List ℕ → Result Filling Refusal
fill_answer plan rows cols lift word = outcome (lowest (fill_rules plan rows cols lift word)) (counts (tanner plan rows cols lift) word)

-- the word as lent on a refusal, else the filled word
unfoldable pub fill_word : List ℤ → ℕ → ℕ → ℕ → List ℕ → List ℕ
fill_word plan rows cols lift word = lent (lowest (fill_rules plan rows cols lift word)) (filled_word (tanner plan rows cols lift) word) word

-- THE TWO CONTRACTS: what `fill` answers for a word, and leaves in its place
abbrev pub Fills : List ℤ → ℕ → ℕ → ℕ → List ℕ → Result Filling Refusal → List ℕ → Type 0
Fills plan rows cols lift word r left = (r ≡ fill_answer plan rows cols lift word) × (left ≡ fill_word plan rows cols lift word)

-- what `preview` answers for a word (document 02, slip 5)
abbrev pub Previews : List ℤ → ℕ → ℕ → ℕ → List ℕ → Result Filling Refusal → Type 0
Previews plan rows cols lift word r = r ≡ fill_answer plan rows cols lift word
