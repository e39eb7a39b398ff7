-- Promise 1 holds: each call's rules match its rows, their numbers rise, and its answer carries what `lowest` gives. Assumes nothing.
use Rattle.std.specs.Prelude.{Result, Ok, Err}
use Rattle.std.specs.Result.{result_err}
use Rattle.refusal.specs.Answer.{ok_unless}
use Rattle.refusal.proofs.Answer.{err_of}
use Rattle.girth.specs.declared.Cycle.{Cycle}
use Prim.Native.Nat.{ℕ, ◌*◌}
use mathlib.Core.Path.{◌≡◌, refl, sym, ap, subst, ◌∙◌}
use mathlib.Core.Bool.{Bool, true, false}
use mathlib.Core.List.{List}
use Rattle.std.specs.Prelude.{Option, Some}
use Rattle.std.proofs.lemmas.Option.{none-some}
use lib.IntN.{ℤ}
use lib.ListN.{length}
use Rattle.refusal.specs.declared.Refusal.{Refusal}
use Rattle.refusal.specs.Lowest.{Rule, lowest, rising}
use Rattle.graph.specs.Filling.{filled_word}
use Rattle.graph.specs.Flipping.{flipped_word}
use Rattle.exponent.specs.Tanner.{tanner}
use Rattle.exponent.proofs.Rules as plan_laws
use Rattle.girth.specs.declared.Cycle.{Cycle}
use Rattle.girth.specs.Test.{test_rules, Answer, refused, passed, failed}
use Rattle.girth.proofs.Rules as test_laws
use Rattle.treetest.specs.Answer as pairs
use Rattle.treetest.proofs.Answers as pair_laws
use Rattle.syndrome.specs.Check.{check_rules, syndrome_of}
use Rattle.syndrome.proofs.Rules as check_laws
use Rattle.peeling.specs.Fill.{fill_rules, fill_answer, fill_word}
use Rattle.peeling.proofs.Rules as fill_laws
use Rattle.flipping.specs.Flip.{flip_rules, flip_answer, flip_word}
use Rattle.flipping.proofs.Rules as flip_laws
use Rattle.square.specs.Table.{supplied_table}
use Rattle.refusal.specs.Lent.{lent}
use Rattle.weights.specs.Weights.{shape_of, Held, with_weights, room_of}
use Rattle.weights.specs.Change.{change_rules, Call, refusal_of}
use Rattle.weights.proofs.Rules.{change_rise}
use Rattle.weights.proofs.Changes.{stays}
use Rattle.table.specs.Build.{supply_rules, build_refusal, built_plan, built_shape}
use Rattle.table.proofs.Plans as table_laws
use Rattle.steiner.specs.System.{cols}
use Rattle.steiner.specs.Build as steiner_build
use Rattle.steiner.proofs.Plans as steiner_rules
use Rattle.crt.specs.Join.{joined_plan, join_refusal}
use Rattle.encoding.specs.Encode.{word_of, encode_refusal}
use Rattle.encoding.proofs.Rules.{encode_rise}
use Rattle.alist.specs.Calls.{alist_text, write_rules, laid}
use Rattle.alist.proofs.Answers as text_laws
use Rattle.promises.specs.TurnedAway.{LowestOf}
use Rattle.promises.specs.One.{Unchanged, Promise1}
use Rattle.promises.proofs.Matching.{Matches, lowest_of}
use Rattle.promises.proofs.PlanRows.{plan_matches, test_matches}
use Rattle.promises.proofs.PairRows.{pairs_matches}
use Rattle.promises.proofs.WordRows.{check_matches, fill_matches, flip_matches}
use Rattle.promises.proofs.TableRows.{supply_matches, build_matches}
use Rattle.promises.proofs.SteinerRows.{steiner_matches}
use Rattle.promises.proofs.ChangeRows.{change_matches}
use Rattle.promises.proofs.JoinRows.{join_lowest}
use Rattle.promises.proofs.EncodeRows.{encode_matches}
use Rattle.promises.proofs.TextRows.{write_matches, compare_matches}

-- a refusal leaves what was lent
kept : {A : Type 0} (leaves : Option Refusal → A) (before : A) → ((r : Refusal) → leaves (Some r) ≡ before)
    → (o answer : Option Refusal) → answer ≡ o → Unchanged answer before (leaves o)
kept leaves before same o answer e r q = ap leaves (sym e ∙ q) ∙ same r

-- the answer's refusal is the lowest of the rules, and so the lowest that applies
answered : (rules : List Rule) (Applies : ℕ → List ℕ → Type 0) (a : Option Refusal) → rising rules ≡ true → Matches rules Applies → a ≡ lowest rules → LowestOf Applies a
answered rules Applies a rise m e = subst (LowestOf Applies) (sym e) (lowest_of rules rise Applies m)

pub tested : (plan : List ℤ) (rows cols lift target : ℕ) (a : Result (Option Cycle) Refusal) → Answer plan rows cols lift target a → result_err a ≡ lowest (test_rules plan rows cols lift target)
tested plan rows cols lift target a (refused x e) = sym e
tested plan rows cols lift target a (passed e p) = sym e
tested plan rows cols lift target a (failed r e w) = sym e

paired : (plan : List ℤ) (rows cols lift target places : ℕ) (a : Result Bool Refusal) → pairs.Answer plan rows cols lift target places a → result_err a ≡ lowest (pairs.pair_rules plan rows cols lift target places)
paired plan rows cols lift target places a (pairs.refused x e) = sym e
paired plan rows cols lift target places a (pairs.passed e p) = sym e
paired plan rows cols lift target places a (pairs.not_passed e p) = sym e

work_kept : (lent after : List ℕ) (a : Result Bool Refusal) → pairs.Leaves lent after a → Unchanged (result_err a) lent after
work_kept lent after (Ok true) l r e = absurd (none-some r e)
work_kept lent after (Ok false) l r e = absurd (none-some r e)
work_kept lent after (Err x) l r e = l

checked : (plan : List ℤ) (rows cols lift : ℕ) (word : List ℕ) → result_err (syndrome_of plan rows cols lift word) ≡ lowest (check_rules plan rows cols lift word)
unfolding syndrome_of
checked plan rows cols lift word = err_of _ (lowest (check_rules plan rows cols lift word))

filled : (plan : List ℤ) (rows cols lift : ℕ) (word : List ℕ) → result_err (fill_answer plan rows cols lift word) ≡ lowest (fill_rules plan rows cols lift word)
unfolding fill_answer
filled plan rows cols lift word = err_of _ _

word_kept : (plan : List ℤ) (rows cols lift : ℕ) (word : List ℕ) → Unchanged (result_err (fill_answer plan rows cols lift word)) word (fill_word plan rows cols lift word)
unfolding fill_word
word_kept plan rows cols lift word = kept (λ o. lent o (filled_word (tanner plan rows cols lift) word) word) word (λ r. refl) _ _ (filled plan rows cols lift word)

flipped : (plan : List ℤ) (rows cols lift : ℕ) (word : List ℕ) → result_err (flip_answer plan rows cols lift word) ≡ lowest (flip_rules plan rows cols lift word)
unfolding flip_answer
flipped plan rows cols lift word = err_of _ _

flip_kept : (plan : List ℤ) (rows cols lift : ℕ) (word : List ℕ) → Unchanged (result_err (flip_answer plan rows cols lift word)) word (flip_word plan rows cols lift word)
unfolding flip_word
flip_kept plan rows cols lift word = kept (λ o. lent o (flipped_word (tanner plan rows cols lift) word) word) word (λ r. refl) _ _ (flipped plan rows cols lift word)

changing : (c : Call) (h : Held) → result_err (ok_unless (refusal_of c h)) ≡ lowest (change_rules h.plan c.shape c.at c.entry h.rows h.cols)
unfolding refusal_of
changing c h = err_of _ _

-- THE PROMISE
pub promise_1 : Promise1
promise_1 =
    record {
      validate = λ plan rows cols lift. answered _ _ _ (plan_laws.rules_rise plan rows cols lift) (plan_matches plan rows cols lift) (err_of _ _);
      test = λ plan rows cols lift target a h. answered _ _ _ (test_laws.rules_rise plan rows cols lift target) (test_matches plan rows cols lift target) (tested plan rows cols lift target a h);
      pairs = λ plan rows cols lift target lent after a h l. (
        answered _ _ _ (pair_laws.rules_rise plan rows cols lift target (length lent)) (pairs_matches plan rows cols lift target (length lent)) (paired plan rows cols lift target (length lent) a h),
        work_kept lent after a l,
      );
      check = λ plan rows cols lift word. answered _ _ _ (check_laws.rules_rise plan rows cols lift word) (check_matches plan rows cols lift word) (checked plan rows cols lift word);
      fill = λ plan rows cols lift word. (
        answered _ _ _ (fill_laws.rules_rise plan rows cols lift word) (fill_matches plan rows cols lift word) (filled plan rows cols lift word),
        word_kept plan rows cols lift word,
      );
      preview = λ plan rows cols lift word a e.
          answered _ _ _ (fill_laws.rules_rise plan rows cols lift word) (fill_matches plan rows cols lift word) (ap result_err e ∙ filled plan rows cols lift word);
      flip = λ plan rows cols lift word. (
        answered _ _ _ (flip_laws.rules_rise plan rows cols lift word) (flip_matches plan rows cols lift word) (flipped plan rows cols lift word),
        flip_kept plan rows cols lift word,
      );
      supply = λ family order table. (
        answered _ _ _ (table_laws.supply_rules_rise order (length table)) (supply_matches order (length table)) (err_of _ _),
        kept (λ o. lent o (supplied_table family order) table) table (λ r. refl) _ _ (err_of _ (lowest (supply_rules order (length table)))),
      );
      build = λ order lift table mask h.
          let e = err_of (built_shape order lift mask) (build_refusal order lift table mask h) in (
            answered _ _ _ (table_laws.rules_rise order lift table mask (room_of h)) (build_matches order lift table mask (room_of h)) e,
            kept (λ o. lent o (with_weights (built_plan order lift table mask) (built_shape order lift mask)) h) h (λ r. refl) _ _ e,
          );
      steiner = λ order lift voltages h.
          let e = err_of (steiner_build.built_shape order lift) (steiner_build.build_refusal order lift voltages h) in (
            answered _ _ _ (steiner_rules.rules_rise order lift voltages (room_of h)) (steiner_matches order lift voltages (room_of h)) e,
            kept (λ o. lent o (with_weights (steiner_build.steiner_plan order lift voltages) (shape_of order (cols order) lift)) h) h (λ r. refl) _ _ e,
          );
      change = λ c h. (
        answered _ _ _ (change_rise h.plan c.shape c.at c.entry h.rows h.cols) (change_matches h.plan c.shape c.at c.entry h.rows h.cols) (changing c h),
        λ r e. stays c h r (sym (err_of tt (refusal_of c h)) ∙ e),
      );
      join = λ a b place.
          let e = err_of (a.lift * b.lift) (join_refusal a b (length place)) in (
            subst (LowestOf _) (sym e) (join_lowest a b (length place)),
            kept (λ o. lent o (joined_plan a.plan a.lift b.plan b.lift) place) place (λ r. refl) _ _ e,
          );
      encode = λ plan rows cols lift info word.
          let e = err_of tt (encode_refusal plan rows cols lift info word) in (
            answered _ _ _ (encode_rise plan rows cols lift info (length word)) (encode_matches plan rows cols lift info (length word)) e,
            kept (λ o. lent o (word_of plan rows cols lift info) word) word (λ r. refl) _ _ e,
          );
      write = λ plan rows cols lift byrow bycol place. (
        answered _ _ _ (text_laws.write_rise plan rows cols lift byrow bycol place) (write_matches plan rows cols lift byrow bycol place) (err_of _ _),
        kept (λ o. laid o (alist_text plan rows cols lift) place) place (λ r. refl) _ _
            (err_of (length (alist_text plan rows cols lift)) (lowest (write_rules plan rows cols lift byrow bycol place))),
      );
      compare = λ plan rows cols lift byrow bycol text.
          answered _ _ _ (text_laws.compare_rise plan rows cols lift byrow bycol text) (compare_matches plan rows cols lift byrow bycol text) (err_of _ _);
    }
