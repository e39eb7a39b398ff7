-- The rows of "Turned away" (document 01) and of document 02's slips, by who can cause them: when each number applies, and with which
-- values. Each row stands here once; the refusals of a call are its rows together (One.antt). Places count from 0.
use Rattle.std.specs.Prelude.{ℕ, suc, ◌+◌, ◌-◌, ◌*◌, ◌/◌, ◌%◌, ◌≤◌, ◌<◌, max, ◌≡◌, ◌↔◌, ◌⊎◌, ◌≢◌, List, [], ◌∷◌, ℤ, pos, negsuc, length, get_or, take, drop}
use Rattle.std.specs.Int.{◌∣◌}
use Rattle.std.specs.Prelude.{Option, None, Some}
use Rattle.refusal.specs.declared.Refusal.{Refusal}
use Rattle.refusal.specs.Number.{number, values}
use Rattle.refusal.specs.Place.{First}
use Rattle.graph.specs.Count.{Mem, Nodup}
use Rattle.graph.specs.Graph.{Bipartite}
use Rattle.graph.specs.Walks.{Node, bit, Walk}
use Rattle.graph.specs.Erasure.{Solution}
use Rattle.exponent.specs.Tanner.{row_weight, column_weight}
use Rattle.weights.specs.declared.Room.{Room}
use Rattle.square.specs.declared.search.Quad.{Quad}
use Rattle.square.specs.Table.{table_at, Repeat, Before}
use Rattle.square.specs.Mask.{Common}
use Rattle.crt.specs.Join.{Sized}
use Rattle.decimal.specs.Decimal.{decimal}
use Rattle.tokens.specs.declared.Form.{Form}
use Rattle.tokens.specs.declared.Form.TheVariants.{Padded, Unpadded}
use Rattle.tokens.specs.Tokens.{Item, numeral, line_end}
use Rattle.lines.specs.Alist.{lines_in}
use Rattle.lines.specs.Text.{items_of}

-- n is not from low to high
abbrev pub Outside : ℕ → ℕ → ℕ → Type 0
Outside low high n = (n < low) ⊎ (high < n)

-- PLAN DESIGNER. 3: the block size, for tables too
pub data LiftRow (lift : ℕ) : ℕ → List ℕ → Type 0 where
  row_3 : Outside 1 4096 lift → LiftRow lift 3 []

-- no block (document 02, slip 4): −1 is an empty one, and every number from 0 on a filled one
pub data BelowMinusOne : ℤ → Type 0 where
  is_below : (n : ℕ) → BelowMinusOne (negsuc (suc n))

-- 1 to 6: rows, columns, block size, bits, the list's length, the first entry below −1
pub data PlanRow (plan : List ℤ) (rows cols lift : ℕ) : ℕ → List ℕ → Type 0 where
  row_1 : Outside 1 192 rows → PlanRow plan rows cols lift 1 []
  row_2 : Outside 1 512 cols → PlanRow plan rows cols lift 2 []
  of_lift : (n : ℕ) (l : List ℕ) → LiftRow lift n l → PlanRow plan rows cols lift n l
  row_4 : 65536 < cols * lift → PlanRow plan rows cols lift 4 []
  row_5 : length plan ≢ rows * cols → PlanRow plan rows cols lift 5 []
  row_6 : (place : ℕ) → First (length plan) (λ p. BelowMinusOne (get_or plan p (pos 0))) place → PlanRow plan rows cols lift 6 (place ∷ [])

-- 14: the target (document 02, slip 6: to 18)
pub data TargetRow (target : ℕ) : ℕ → List ℕ → Type 0 where
  row_14 : target ≢ 6 → target ≢ 8 → target ≢ 10 → target ≢ 12 → target ≢ 14 → target ≢ 16 → target ≢ 18 → TargetRow target 14 []

-- TABLE MAKER. 7 and 8: the order J, and how many numbers the table's list has
pub data SquareRow (order numbers : ℕ) : ℕ → List ℕ → Type 0 where
  row_7 : Outside 4 7 order → SquareRow order numbers 7 []
  row_8 : numbers ≢ order * order → SquareRow order numbers 8 []

pub data IsNegative : ℤ → Type 0 where
  negative : (n : ℕ) → IsNegative (negsuc n)

-- 9, and 10: the four numbers repeat, and none before them do (a negative entry, which 9 turns away, is taken for 0)
pub data TableRow (order lift : ℕ) (table : List ℤ) : ℕ → List ℕ → Type 0 where
  row_9 : (place : ℕ) → First (length table) (λ p. IsNegative (get_or table p (pos 0))) place → TableRow order lift table 9 (place ∷ [])
  row_10 : (q : Quad) → Repeat order lift (table_at order table) q → ((v : Quad) → Repeat order lift (table_at order table) v → Before v q → ⊥)
      → TableRow order lift table 10 (q.i ∷ q.k ∷ q.r ∷ q.t ∷ [])

-- MASK MAKER. 11 to 13: the bytes, the common weight L, the bits of the plan
pub data MaskRow (order lift : ℕ) (mask : List ℕ) : ℕ → List ℕ → Type 0 where
  row_11 : (length mask ≢ order * order) ⊎ ((place : ℕ) × (1 < get_or mask place 0)) → MaskRow order lift mask 11 []
  row_12 : ((L : ℕ) → Common order mask L → ⊥) → MaskRow order lift mask 12 []
  row_13 : (L : ℕ) → Common order mask L → 65536 < order * (L * L) * lift → MaskRow order lift mask 13 []

-- CALLER LENDING MEMORY. 15: how many numbers the place for the plan has; 25 (document 02, slip 7): those for its weights
pub data PlaceRow (order : ℕ) (mask : List ℕ) (room : Room) : ℕ → List ℕ → Type 0 where
  row_15 : (L : ℕ) → Common order mask L → room.plan ≢ 3 * (L * order) * (order * (L * L)) → PlaceRow order mask room 15 []
  table_lists : (L : ℕ) → Common order mask L → (room.rows ≢ 3 * (L * order)) ⊎ (room.cols ≢ order * (L * L)) → PlaceRow order mask room 25 []

-- 16, and of the FILM READER 18: a byte above 2
pub data WordRow (bits : ℕ) (word : List ℕ) : ℕ → List ℕ → Type 0 where
  row_16 : length word ≢ bits → WordRow bits word 16 []
  row_18 : (place : ℕ) → First (length word) (λ p. 2 < get_or word p 0) place → WordRow bits word 18 (place ∷ [])

-- 17: the text is longer than the place, with its length
pub data RoomRow (text place : List ℕ) : ℕ → List ℕ → Type 0 where
  row_17 : length place < length text → RoomRow text place 17 (length text ∷ [])

-- 19: an erasure in a syndrome check
pub data ErasureRow (word : List ℕ) : ℕ → List ℕ → Type 0 where
  row_19 : (place : ℕ) → First (length word) (λ p. get_or word p 0 ≡ 2) place → ErasureRow word 19 (place ∷ [])

-- 20: no word fills the erasures outside U so that every check that touches no bit of U is even
pub data SolutionRow (G : Bipartite) (word : List ℕ) : ℕ → List ℕ → Type 0 where
  row_20 : ((v : List ℕ) → Solution G word v → ⊥) → SolutionRow G word 20 []

-- SENDER OF A TEXT. The bytes that no number holds
pub data IsBlank : ℕ → Type 0 where
  tab : IsBlank 9
  line_feed : IsBlank 10
  carriage_return : IsBlank 13
  space : IsBlank 32

-- what stands between tokens: these bytes, but in the unpadded form (document 02, slip 1) no line feed
abbrev pub Between : Form → ℕ → Type 0
Between Padded b = IsBlank b
Between Unpadded b = IsBlank b × (b ≢ 10)

-- the bytes from `first` to before `end` are a token: a whole run of other bytes; in the unpadded form a line feed is one, too
pub data IsToken (text : List ℕ) (first : ℕ) : Form → ℕ → Type 0 where
  run : (form : Form) (end : ℕ) → first < end → ((k : ℕ) → first ≤ k → k < end → IsBlank (get_or text k 0) → ⊥) → (end < length text → IsBlank (get_or text end 0))
      → IsToken text first form end
  feed : get_or text first 0 ≡ 10 → IsToken text first Unpadded (first + 1)

-- from the place `at` on, the next token has the bytes from `first` to before `end`
pub record NextToken (form : Form) (text : List ℕ) (at first end : ℕ) : Type 0 where
  pub onward : at ≤ first
  pub between : (k : ℕ) → at ≤ k → k < first → Between form (get_or text k 0)
  pub token : IsToken text first form end
  pub inside : end ≤ length text

-- no token comes any more
abbrev pub NoToken : Form → List ℕ → ℕ → Type 0
NoToken form text at = (k : ℕ) → at ≤ k → k < length text → Between form (get_or text k 0)

-- the token is what is expected: the number, in decimal without leading zeros, or a line feed
abbrev pub bytes_of : Item → List ℕ
bytes_of (numeral n) = decimal n
bytes_of line_end = 10 ∷ []

abbrev pub Says : List ℕ → ℕ → ℕ → Item → Type 0
Says text first end x = take (end - first) (drop first text) ≡ bytes_of x

-- from the place `at` on the items are expected: the first byte of the first wrong or extra token, or the text's length where it ends early
pub data FirstWrong (form : Form) (text : List ℕ) : ℕ → List Item → ℕ → Type 0 where
  wrong : (at first end : ℕ) (x : Item) (xs : List Item) → NextToken form text at first end → (Says text first end x → ⊥) → FirstWrong form text at (x ∷ xs) first
  extra : (at first end : ℕ) → NextToken form text at first end → FirstWrong form text at [] first
  early : (at : ℕ) (x : Item) (xs : List Item) → NoToken form text at → FirstWrong form text at (x ∷ xs) (length text)
  go_on : (at first end : ℕ) (x : Item) (xs : List Item) (place : ℕ) → NextToken form text at first end → Says text first end x → FirstWrong form text end xs place
      → FirstWrong form text at (x ∷ xs) place

-- the place at which a text first departs from a form of the alist
abbrev pub DepartsAt : Form → List ℕ → Bipartite → ℕ → Type 0
DepartsAt form text G place = FirstWrong form text 0 (items_of form (lines_in form G)) place

-- 21: the text departs from both forms, with the later of the two places
pub data TokenRow (text : List ℕ) (G : Bipartite) : ℕ → List ℕ → Type 0 where
  row_21 : (p q : ℕ) → DepartsAt Padded text G p → DepartsAt Unpadded text G q → TokenRow text G 21 (max p q ∷ [])

-- WHO ASKS FOR A STEINER TRIPLE PLAN (document 02, slip 6): the orders supplied; order v has v (v − 1) / 6 triples
pub data IsOrder : ℕ → Type 0 where
  seven : IsOrder 7
  nine : IsOrder 9
  thirteen : IsOrder 13
  fifteen : IsOrder 15
  nineteen : IsOrder 19

abbrev pub triples : ℕ → ℕ
triples order = order * (order - 1) / 6

-- 4, of the order's triples; 6, of the first negative voltage; 22: the order; 23: how many voltages, and numbers in the plan's place;
-- 25 (slip 7): how many in those for its weights
pub data SteinerRow (order lift : ℕ) (voltages : List ℤ) (room : Room) : ℕ → List ℕ → Type 0 where
  bits : IsOrder order → 65536 < triples order * lift → SteinerRow order lift voltages room 4 []
  voltage : (place : ℕ) → First (length voltages) (λ p. IsNegative (get_or voltages p (pos 0))) place → SteinerRow order lift voltages room 6 (place ∷ [])
  row_22 : (IsOrder order → ⊥) → SteinerRow order lift voltages room 22 []
  row_23 : IsOrder order → (length voltages ≢ 3 * triples order) ⊎ (room.plan ≢ order * triples order) → SteinerRow order lift voltages room 23 []
  steiner_lists : IsOrder order → (room.rows ≢ order) ⊎ (room.cols ≢ triples order) → SteinerRow order lift voltages room 25 []

-- WHO CHANGES A BLOCK (document 02, slip 7). 6, where no entry of the plan is below −1 but the new one is: its place is R × C
pub data NewEntryRow (plan : List ℤ) (rows cols : ℕ) (entry : ℤ) : ℕ → List ℕ → Type 0 where
  row_6_new : length plan ≡ rows * cols → ((p : ℕ) → p < length plan → BelowMinusOne (get_or plan p (pos 0)) → ⊥) → BelowMinusOne entry
      → NewEntryRow plan rows cols entry 6 (rows * cols ∷ [])

-- 24: the row or the column lies outside the plan
pub data BlockRow (rows cols row col : ℕ) : ℕ → List ℕ → Type 0 where
  row_24 : (rows ≤ row) ⊎ (cols ≤ col) → BlockRow rows cols row col 24 []

-- a list of weights has another length than n, or somewhere another number than the weight
pub data WrongList (list : List ℕ) (n : ℕ) (weight : ℕ → ℕ) : Type 0 where
  wrong_length : length list ≢ n → WrongList list n weight
  wrong_count : (i : ℕ) → i < n → get_or list i 0 ≢ weight i → WrongList list n weight

-- 25, of the calls that do not build the plan: its row weights or its column weights are wrong
pub data WeightRow (plan : List ℤ) (rows cols lift : ℕ) (byrow bycol : List ℕ) : ℕ → List ℕ → Type 0 where
  row_25 : WrongList byrow rows (row_weight plan cols lift) ⊎ WrongList bycol cols (column_weight plan rows cols lift) → WeightRow plan rows cols lift byrow bycol 25 []

-- WHO LENDS A WORK LIST (document 02, slip 8). A node of the tree from a bit: a walk of at most d edges that never steps back, by the
-- vertices after that bit; the root is the walk of none
pub record TreeNode (G : Bipartite) (root d : ℕ) (l : List Node) : Type 0 where
  pub walk : Walk G (bit root ∷ l)
  pub short : length l ≤ d

-- 26: the tree of some column j, from bit (j, 0) to half the length of the longest forbidden cycle, has more nodes than the list has places
pub data WorkRow (G : Bipartite) (cols lift target places : ℕ) : ℕ → List ℕ → Type 0 where
  row_26 : (j : ℕ) → j < cols → (nodes : List (List Node)) → Nodup nodes → ((l : List Node) → Mem l nodes → TreeNode G (j * lift) (target / 2 - 1) l) → places < length nodes
      → WorkRow G cols lift target places 26 []

-- WHO JOINS TWO PLANS (document 02, slip 9). 1 to 6, of a plan and its sizes
abbrev pub SizedRow : Sized → ℕ → List ℕ → Type 0
SizedRow a = PlanRow a.plan a.rows a.cols a.lift

-- 27: the sizes share a divisor above 1; 28: the plans differ in rows, in columns or in an empty block, −1; 29: the joined place is not
-- as long as each plan
pub data JoinRow (a b : Sized) (room : ℕ) : ℕ → List ℕ → Type 0 where
  row_27 : (d : ℕ) → 1 < d → d ∣ a.lift → d ∣ b.lift → JoinRow a b room 27 []
  other_rows : a.rows ≢ b.rows → JoinRow a b room 28 []
  other_cols : a.cols ≢ b.cols → JoinRow a b room 28 []
  other_block : (p : ℕ) → p < length a.plan → ((get_or a.plan p (pos 0) ≡ negsuc 0) ↔ (get_or b.plan p (pos 0) ≡ negsuc 0) → ⊥) → JoinRow a b room 28 []
  row_29 : (room ≢ length a.plan) ⊎ (room ≢ length b.plan) → JoinRow a b room 29 []

-- WHO HAS DATA ENCODED (document 02, slip 10). In row i and column j stands a voltage that leaves r by the lift
pub data Voltage (plan : List ℤ) (cols lift i j r : ℕ) : Type 0 where
  leaves : (e : ℕ) → get_or plan (i * cols + j) (pos 0) ≡ pos e → e % lift ≡ r → Voltage plan cols lift i j r

-- the shape of formula (5) in source 003, with m rows, m at least 3, and at least one column for data:
pub record Bidiagonal (plan : List ℤ) (rows cols lift : ℕ) : Type 0 where
  pub three_rows : 3 ≤ rows
  pub data_column : rows < cols
  -- column k, for k from 0 to m − 2, has remainder 0 in rows k and k + 1 and nothing else;
  pub upper : (k : ℕ) → k < rows - 1 → Voltage plan cols lift k k 0
  pub lower : (k : ℕ) → k < rows - 1 → Voltage plan cols lift (k + 1) k 0
  pub empty : (i k : ℕ) → i < rows → k < rows - 1 → i ≢ k → i ≢ k + 1 → get_or plan (i * cols + k) (pos 0) ≡ negsuc 0
  -- column m − 1 has exactly three filled blocks, of which at least two carry the same remainder
  pub three_filled : column_weight plan rows cols lift (rows - 1) ≡ 3
  pub two_equal : (i : ℕ) × (k : ℕ) × (r : ℕ) × (i < k) × (k < rows) × Voltage plan cols lift i (rows - 1) r × Voltage plan cols lift k (rows - 1) r

-- 16: the length of the lent word, of which nothing else is looked at; 30: the plan has not this shape; 31: the data are not (C − m) × P
-- bytes, or a byte is above 1
pub data EncodeRow (plan : List ℤ) (rows cols lift : ℕ) (info : List ℕ) (room : ℕ) : ℕ → List ℕ → Type 0 where
  lent_word : room ≢ cols * lift → EncodeRow plan rows cols lift info room 16 []
  row_30 : (Bidiagonal plan rows cols lift → ⊥) → EncodeRow plan rows cols lift info room 30 []
  row_31 : (length info ≢ (cols - rows) * lift) ⊎ ((place : ℕ) × (1 < get_or info place 0)) → EncodeRow plan rows cols lift info room 31 []

-- WHO HAS BITS TURNED (document 02, slip 12). 32: a column has not exactly three filled blocks
pub data ColumnRow (plan : List ℤ) (rows cols lift : ℕ) : ℕ → List ℕ → Type 0 where
  row_32 : (j : ℕ) → j < cols → column_weight plan rows cols lift j ≢ 3 → ColumnRow plan rows cols lift 32 []

-- ROWS TOGETHER, and the lowest number that applies.
infixl 1 ◌or◌
abbrev pub ◌or◌ : (ℕ → List ℕ → Type 0) → (ℕ → List ℕ → Type 0) → ℕ → List ℕ → Type 0
◌or◌ A B n l = A n l ⊎ B n l

-- the rows of A, and those of B with a number that no row of A has: where both have it, the values are those of A
infixl 1 ◌over◌
abbrev pub ◌over◌ : (ℕ → List ℕ → Type 0) → (ℕ → List ℕ → Type 0) → ℕ → List ℕ → Type 0
◌over◌ A B n l = A n l ⊎ (B n l × ((k : List ℕ) → A n k → ⊥))

-- n applies with the values l, no lower number applies, and n with no other values: they are settled
pub record Lowest (Applies : ℕ → List ℕ → Type 0) (n : ℕ) (l : List ℕ) : Type 0 where
  pub applies : Applies n l
  pub none_lower : (m : ℕ) (k : List ℕ) → Applies m k → n ≤ m
  pub no_other : (k : List ℕ) → Applies n k → k ≡ l

-- an answer is a refusal, with the document's number and values
abbrev pub RefusedWith : {A : Type 0} → ℕ → List ℕ → (Refusal → A) → A → Type 0
RefusedWith n l refused answer = (x : Refusal) × (answer ≡ refused x) × (number x ≡ n) × (values x ≡ l)

-- the number n with the values l is given exactly where it is the lowest that applies, and no refusal exactly where nothing applies
pub record LowestOf (Applies : ℕ → List ℕ → Type 0) (answer : Option Refusal) : Type 0 where
  pub given : (n : ℕ) (l : List ℕ) → RefusedWith n l Some answer ↔ Lowest Applies n l
  pub only_then : (answer ≡ None) ↔ ((n : ℕ) (l : List ℕ) → Applies n l → ⊥)
