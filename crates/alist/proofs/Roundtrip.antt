-- A written text compares as agreeing, and so does the text of the unpadded form; refusal 17 names the text's length. Assumes nothing.
use Rattle.std.specs.Prelude.{Ok, Option, None, Some}
use Rattle.refusal.specs.Answer.{outcome, ok_unless}
use Prim.Native.Nat.{ℕ, ◌≤◌, ◌<◌}
use mathlib.Core.Path.{◌≡◌, refl, sym, ap, ◌∙◌}
use mathlib.Core.List.{List}
use native.Mathlib.Omega.{arith}
use lib.Dec.{ltb}
use lib.IntN.{ℤ}
use lib.ListN.{length, take, drop}
use lib.Seq.{take-append_seam}
use borrow.Author.Tests.{lt-ltb, le-ltb, not-false}
use Rattle.refusal.specs.declared.Refusal.{Refusal}
use Rattle.refusal.specs.declared.Refusal.TheVariants.{TextPlace}
use Rattle.refusal.specs.Lowest.{lowest}
use Rattle.refusal.proofs.Lowest.{lowest_here, lowest_next, lowest_accepted, none_append, none_holds, none_after}
use Rattle.exponent.specs.Limits.{plan_rules, WellFormed}
use Rattle.exponent.specs.Tanner.{tanner}
use Rattle.exponent.proofs.Rules.{accepted}
use Rattle.tokens.specs.declared.Form.{Form}
use Rattle.tokens.specs.declared.Form.TheVariants.{Padded}
use Rattle.lines.specs.Alist.{lines_in}
use Rattle.lines.specs.Text.{text_of}
use Rattle.comparer.specs.Verdict.{departs_in, departs}
use Rattle.comparer.proofs.Forms.{agrees_exactly}
use Rattle.weights.specs.Weights.{shape_of, Weighed, weight_rules}
use Rattle.weights.proofs.Weights.{right_exactly, lists_right}
use Rattle.alist.specs.Calls.{alist_text, place_rules, write_rules, laid, token_rules, text_rules, compare_rules}
use Rattle.alist.proofs.ReadBack.{reads_back}

module _ (plan : List ℤ) (rows cols lift : ℕ) (byrow bycol : List ℕ) where
  -- with the plan's own lists 25 does not fall
  no_25 : Weighed plan (shape_of rows cols lift) byrow bycol → lowest (weight_rules plan (shape_of rows cols lift) byrow bycol) ≡ None
  no_25 v = lists_right plan (shape_of rows cols lift) byrow bycol ((right_exactly plan (shape_of rows cols lift) byrow bycol).1 v)

  -- a text that agrees with a form of a valid plan's alist is accepted
  pub agrees_accepted : WellFormed plan rows cols lift → Weighed plan (shape_of rows cols lift) byrow bycol → (form : Form) (text : List ℕ) → departs_in form text (tanner plan rows cols lift) ≡ None
      → lowest (compare_rules plan rows cols lift byrow bycol text) ≡ None
  unfolding compare_rules lowest
  agrees_accepted w v form text e =
      lowest_accepted (plan_rules plan rows cols lift) (text_rules plan (shape_of rows cols lift) byrow bycol text) ((accepted plan rows cols lift).1 w)
      ∙ none_after (token_rules (departs text (tanner plan rows cols lift))) (weight_rules plan (shape_of rows cols lift) byrow bycol) (no_25 v)
      ∙ ap (λ (o : Option ℕ). lowest (token_rules o)) ((agrees_exactly text (tanner plan rows cols lift)).1 (form, e))

  -- the text of either form does
  pub form_text_agrees : WellFormed plan rows cols lift → Weighed plan (shape_of rows cols lift) byrow bycol → (form : Form)
      → lowest (compare_rules plan rows cols lift byrow bycol (text_of (lines_in form (tanner plan rows cols lift)))) ≡ None
  unfolding departs_in
  form_text_agrees w v form = agrees_accepted w v form (text_of (lines_in form (tanner plan rows cols lift))) (reads_back form (lines_in form (tanner plan rows cols lift)))

  -- so does the text that is written
  pub text_agrees : WellFormed plan rows cols lift → Weighed plan (shape_of rows cols lift) byrow bycol → lowest (compare_rules plan rows cols lift byrow bycol (alist_text plan rows cols lift)) ≡ None
  text_agrees w v = form_text_agrees w v Padded

  -- 17 applies to a valid plan exactly where its text is longer than the place, and names the text's length
  pub room_short : WellFormed plan rows cols lift → (place : List ℕ) → length place < length (alist_text plan rows cols lift)
      → lowest (write_rules plan rows cols lift byrow bycol place) ≡ Some (TextPlace (length (alist_text plan rows cols lift)))
  unfolding write_rules
  room_short w place h =
      lowest_accepted (plan_rules plan rows cols lift) (place_rules plan (shape_of rows cols lift) byrow bycol place) ((accepted plan rows cols lift).1 w)
      ∙ lowest_here (ltb (length place) (length (alist_text plan rows cols lift))) (TextPlace (length (alist_text plan rows cols lift))) _
      (lt-ltb (length place) (length (alist_text plan rows cols lift)) h)

  pub room_enough : WellFormed plan rows cols lift → Weighed plan (shape_of rows cols lift) byrow bycol → (place : List ℕ) → length (alist_text plan rows cols lift) ≤ length place
      → lowest (write_rules plan rows cols lift byrow bycol place) ≡ None
  unfolding write_rules
  room_enough w v place h =
      lowest_accepted (plan_rules plan rows cols lift) (place_rules plan (shape_of rows cols lift) byrow bycol place) ((accepted plan rows cols lift).1 w)
      ∙ lowest_next (ltb (length place) (length (alist_text plan rows cols lift))) (TextPlace (length (alist_text plan rows cols lift))) _
      (le-ltb (length place) (length (alist_text plan rows cols lift)) h)
      ∙ no_25 v

  -- where `write` gives a length, nothing refused the plan or the lists, the length is the text's, and the place begins with the text
  module _ (place : List ℕ) where
    abbrev refusal : Option Refusal
    refusal = lowest (write_rules plan rows cols lift byrow bycol place)

    answer_none : (o : Option Refusal) (m n : ℕ) → outcome o m ≡ Ok n → (o ≡ None) × (m ≡ n)
    answer_none None m n e = (refl, cc)
    answer_none (Some r) m n e = absurd (let z : ◌≡◌ {A = ℕ} 0 1 = cc in omega arith)

    none_valid : lowest (write_rules plan rows cols lift byrow bycol place) ≡ None → WellFormed plan rows cols lift × Weighed plan (shape_of rows cols lift) byrow bycol
    unfolding write_rules
    none_valid e =
        let (own, more) = (none_append (plan_rules plan rows cols lift) (place_rules plan (shape_of rows cols lift) byrow bycol place)).0 e in
        let (room, (found, _)) = (none_holds (place_rules plan (shape_of rows cols lift) byrow bycol place)).0 more in
        ((accepted plan rows cols lift).0 own, (right_exactly plan (shape_of rows cols lift) byrow bycol).0 (not-false _ found))

    module _ (n : ℕ) (e : outcome (lowest (write_rules plan rows cols lift byrow bycol place)) (length (alist_text plan rows cols lift)) ≡ Ok n) where
      pub written_length : n ≡ length (alist_text plan rows cols lift)
      written_length = sym (answer_none refusal _ n e).1

      pub written_text : take n (laid (lowest (write_rules plan rows cols lift byrow bycol place)) (alist_text plan rows cols lift) place) ≡ alist_text plan rows cols lift
      written_text =
          rw ((answer_none refusal (length (alist_text plan rows cols lift)) n e).0, written_length)
          (take-append_seam (alist_text plan rows cols lift) (drop (length (alist_text plan rows cols lift)) place))

      -- the lists were the plan's
      pub written_lists : Weighed plan (shape_of rows cols lift) byrow bycol
      written_lists = (none_valid (answer_none refusal (length (alist_text plan rows cols lift)) n e).0).1

      -- A WRITTEN TEXT AGREES: what `write` put into the place, `compare` takes for the plan's alist
      pub written_agrees : ok_unless (lowest (compare_rules plan rows cols lift byrow bycol (take n (laid (lowest (write_rules plan rows cols lift byrow bycol place)) (alist_text plan rows cols lift) place)))) ≡ Ok tt
      written_agrees =
          let (w, v) = none_valid (answer_none refusal (length (alist_text plan rows cols lift)) n e).0 in
          ap ok_unless (ap (λ (t : List ℕ). lowest (compare_rules plan rows cols lift byrow bycol t)) written_text ∙ text_agrees w v)
