-- Promise 1 (demand 1 of the requirement): whatever numbers and bytes are handed in, each call answers with a result, or with the lowest numbered refusal
-- that applies, and only then; and on a refusal nothing lent has changed.
use Rattle.std.specs.Prelude.{Result, ℕ, ◌*◌, ◌≡◌, List, ℤ, length, Option, Some, Bool}
use Rattle.std.specs.Result.{result_err}
use Rattle.refusal.specs.Answer.{ok_unless, outcome}
use Rattle.peeling.specs.declared.Filling.{Filling}
use Rattle.refusal.specs.declared.Refusal.{Refusal}
use Rattle.refusal.specs.Lowest.{lowest}
use Rattle.exponent.specs.Limits.{plan_rules}
use Rattle.exponent.specs.Tanner.{tanner}
use Rattle.girth.specs.declared.Cycle.{Cycle}
use Rattle.girth.specs.Test.{Answer}
use Rattle.treetest.specs.Answer as pairs
use Rattle.syndrome.specs.Check.{syndrome_of}
use Rattle.peeling.specs.Fill.{fill_answer, fill_word, Previews}
use Rattle.flipping.specs.Flip.{flip_answer, flip_word}
use Rattle.square.specs.declared.supply.Family.{Family}
use Rattle.square.specs.Table.{supplied_table}
use Rattle.refusal.specs.Lent.{lent}
use Rattle.weights.specs.Weights.{Held, room_of}
use Rattle.weights.specs.Change.{Call, refusal_of, after}
use Rattle.table.specs.Build.{supply_rules, build_refusal, after_build, built_shape}
use Rattle.steiner.specs.Build as steiner_build
use Rattle.crt.specs.Join.{Sized, at_product, join_refusal, after_join}
use Rattle.encoding.specs.Encode.{encode_refusal, after_encode}
use Rattle.alist.specs.Calls.{alist_text, write_rules, laid, compare_rules}
use Rattle.promises.specs.TurnedAway.{LiftRow, PlanRow, TargetRow, SquareRow, TableRow, MaskRow, PlaceRow, WordRow, RoomRow, ErasureRow, SolutionRow, TokenRow, SteinerRow, NewEntryRow, BlockRow, WeightRow, WorkRow, SizedRow, JoinRow, EncodeRow, ColumnRow, ◌or◌, ◌over◌, LowestOf}

-- lent memory, a list or several together, before the call and after it: on a refusal it is as it was
abbrev pub Unchanged : {A : Type 0} → Option Refusal → A → A → Type 0
Unchanged answer before after = (r : Refusal) → answer ≡ Some r → after ≡ before

-- for each call that can refuse (the count of erasures cannot), over the definitions that its contract equates answer and lent memory with
pub record Promise1 : Type 0 where
  -- 1 to 6
  pub validate : (plan : List ℤ) (rows cols lift : ℕ) → LowestOf (PlanRow plan rows cols lift) (result_err (ok_unless (lowest (plan_rules plan rows cols lift))))
  -- 1 to 6, 14; whichever witness is shown
  pub test : (plan : List ℤ) (rows cols lift target : ℕ) (answer : Result (Option Cycle) Refusal) → Answer plan rows cols lift target answer
      → LowestOf (PlanRow plan rows cols lift or TargetRow target) (result_err answer)
  -- 1 to 6, 14, 26 (document 02, slip 8); what the work list holds after a verdict is free
  pub pairs : (plan : List ℤ) (rows cols lift target : ℕ) (lent after : List ℕ) (answer : Result Bool Refusal) → pairs.Answer plan rows cols lift target (length lent) answer → pairs.Leaves lent after answer
      → LowestOf (PlanRow plan rows cols lift or TargetRow target or WorkRow (tanner plan rows cols lift) cols lift target (length lent)) (result_err answer)
      × Unchanged (result_err answer) lent after
  -- 1 to 6, 16, 18, 19
  pub check : (plan : List ℤ) (rows cols lift : ℕ) (word : List ℕ)
      → LowestOf (PlanRow plan rows cols lift or WordRow (cols * lift) word or ErasureRow word) (result_err (syndrome_of plan rows cols lift word))
  -- 1 to 6, 16, 18, 20
  pub fill : (plan : List ℤ) (rows cols lift : ℕ) (word : List ℕ)
      → let answer = result_err (fill_answer plan rows cols lift word) in
      LowestOf (PlanRow plan rows cols lift or WordRow (cols * lift) word or SolutionRow (tanner plan rows cols lift) word) answer
      × Unchanged answer word (fill_word plan rows cols lift word)
  -- 1 to 6, 16, 18, 20 (document 02, slip 5)
  pub preview : (plan : List ℤ) (rows cols lift : ℕ) (word : List ℕ) (answer : Result Filling Refusal) → Previews plan rows cols lift word answer
      → LowestOf (PlanRow plan rows cols lift or WordRow (cols * lift) word or SolutionRow (tanner plan rows cols lift) word) (result_err answer)
  -- 1 to 6, 16, 18, 19, 32 (document 02, slip 12)
  pub flip : (plan : List ℤ) (rows cols lift : ℕ) (word : List ℕ)
      → let answer = result_err (flip_answer plan rows cols lift word) in
      LowestOf (PlanRow plan rows cols lift or WordRow (cols * lift) word or ErasureRow word or ColumnRow plan rows cols lift) answer
      × Unchanged answer word (flip_word plan rows cols lift word)
  -- 7, 8; the calls `array` and `cyclic`
  pub supply : (family : Family) (order : ℕ) (table : List ℤ)
      → let refusal = lowest (supply_rules order (length table)) in
      let answer = result_err (ok_unless refusal) in
      LowestOf (SquareRow order (length table)) answer × Unchanged answer table (lent refusal (supplied_table family order) table)
  -- 3, 7 to 13, 15, and 25 (document 02, slip 7)
  pub build : (order lift : ℕ) (table : List ℤ) (mask : List ℕ) (h : Held)
      → let answer = result_err (outcome (build_refusal order lift table mask h) (built_shape order lift mask)) in
      LowestOf (LiftRow lift or SquareRow order (length table) or TableRow order lift table or (MaskRow order lift mask or PlaceRow order mask (room_of h))) answer
      × Unchanged answer h (after_build order lift table mask h)
  -- 3, 4, 6, 22, 23 (document 02, slip 6), 25
  pub steiner : (order lift : ℕ) (voltages : List ℤ) (h : Held)
      → let answer = result_err (outcome (steiner_build.build_refusal order lift voltages h) (steiner_build.built_shape order lift)) in
      LowestOf (LiftRow lift or SteinerRow order lift voltages (room_of h)) answer × Unchanged answer h (steiner_build.after_build order lift voltages h)
  -- 1 to 6, also of the new entry, 24, 25 (document 02, slip 7)
  pub change : (c : Call) (h : Held)
      → let s = c.shape in
      let at = c.at in
      let answer = result_err (ok_unless (refusal_of c h)) in
      LowestOf (PlanRow h.plan s.rows s.cols s.lift or NewEntryRow h.plan s.rows s.cols c.entry
      or (BlockRow s.rows s.cols at.row at.col or WeightRow h.plan s.rows s.cols s.lift h.rows h.cols)) answer
      × Unchanged answer h (after c h)
  -- 1 to 6 of the first plan, of the second, and of the first at the size P × Q; 27 to 29 (document 02, slip 9)
  pub join : (a b : Sized) (place : List ℤ)
      → let answer = result_err (outcome (join_refusal a b (length place)) (a.lift * b.lift)) in
      LowestOf (SizedRow a over SizedRow b over SizedRow (at_product a b) or JoinRow a b (length place)) answer × Unchanged answer place (after_join a b place)
  -- 1 to 6, 16, 30, 31 (document 02, slip 10)
  pub encode : (plan : List ℤ) (rows cols lift : ℕ) (info word : List ℕ)
      → let answer = result_err (ok_unless (encode_refusal plan rows cols lift info word)) in
      LowestOf (PlanRow plan rows cols lift or EncodeRow plan rows cols lift info (length word)) answer × Unchanged answer word (after_encode plan rows cols lift info word)
  -- 1 to 6, 17, 25
  pub write : (plan : List ℤ) (rows cols lift : ℕ) (byrow bycol place : List ℕ)
      → let refusal = lowest (write_rules plan rows cols lift byrow bycol place) in
      let text = alist_text plan rows cols lift in
      let answer = result_err (outcome refusal (length text)) in
      LowestOf (PlanRow plan rows cols lift or (RoomRow text place or WeightRow plan rows cols lift byrow bycol)) answer × Unchanged answer place (laid refusal text place)
  -- 1 to 6, 21, 25
  pub compare : (plan : List ℤ) (rows cols lift : ℕ) (byrow bycol text : List ℕ)
      → LowestOf (PlanRow plan rows cols lift or (TokenRow text (tanner plan rows cols lift) or WeightRow plan rows cols lift byrow bycol))
      (result_err (ok_unless (lowest (compare_rules plan rows cols lift byrow bycol text))))
