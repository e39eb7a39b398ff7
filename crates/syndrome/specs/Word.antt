-- A word (document 01: frame) and refusals 16 and 18 of it.
use Rattle.std.specs.Prelude.{ℕ, ◌*◌, Bool, true, false, cond, not, List, [], ◌∷◌, ◌++◌, ltb, eqb, ℤ, length}
use Rattle.refusal.specs.declared.Refusal.TheVariants.{WordLength, Byte}
use Rattle.refusal.specs.Lowest.{Rule, refuse}
use Rattle.refusal.specs.Place.{first_place, somewhere}
use Rattle.exponent.specs.Limits.{plan_rules}
use Rattle.syndrome.specs.declared.byte.Symbol.{Symbol}
use Rattle.syndrome.specs.declared.byte.Symbol.TheVariants.{Known, Erased, Other}

-- 0 or 1 is a known bit, 2 an erasure (lost bit), 3 to 255 are turned away
abbrev pub symbol_of : ℕ → Symbol
symbol_of x = cond (ltb x 2) Known (cond (eqb x 2) Erased Other)

-- a byte of one kind is of another, or of the same
abbrev pub is_kind : Symbol → Symbol → Bool
is_kind Known Known = true
is_kind Erased Erased = true
is_kind Other Other = true
is_kind a b = false

abbrev pub is_erasure : ℕ → Bool
is_erasure x = is_kind Erased (symbol_of x)

abbrev pub is_other : ℕ → Bool
is_other x = is_kind Other (symbol_of x)

-- 16 where the word has not n bytes, 18 with the first place of a byte above 2
unfoldable pub byte_rules : ℕ → List ℕ → List Rule
byte_rules n word =
    refuse WordLength (not (eqb (length word) n))
    ∷ refuse (Byte (first_place is_other word)) (somewhere is_other word)
    ∷ []

-- those of the plan, 1 to 6, and those of a word of cols × lift bytes
unfoldable pub word_rules : List ℤ → ℕ → ℕ → ℕ → List ℕ → List Rule
word_rules plan rows cols lift word = plan_rules plan rows cols lift ++ byte_rules (cols * lift) word
