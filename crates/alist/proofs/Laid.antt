-- Laws of writing: the numbers of a line, the lines that are left, and the text in its place. Assumes nothing.
use Rattle.std.specs.Prelude.{Ok, None}
use Prim.Native.Nat.{ℕ, zero, suc, ◌+◌, ◌^◌, ◌<◌}
use mathlib.Core.Path.{◌≡◌, refl, ap, ◌∙◌}
use mathlib.Core.List.{List, [], ◌∷◌, ◌++◌}
use native.Mathlib.Omega.{arith}
use native.Mathlib.Numerals.{add-one}
use lib.Dec.{ltb}
use lib.ListN.{length, drop}
use lib.Seq.{sets-eq}
use borrow.Author.Tests.{lt-ltb, le-ltb}
use Rattle.refusal.specs.declared.Refusal.TheVariants.{TextPlace}
use Rattle.refusal.specs.Lowest.{lowest}
use Rattle.refusal.proofs.Lowest.{lowest_next}
use Rattle.writing.specs.Wrote.{Wrote}
use Rattle.graph.proofs.Decide.{by_le}
use Rattle.refusal.specs.Answer.{ok_unless}
use Rattle.writing.proofs.Wrote.{Going, part_room, part_done, last_done, all_done}
use Rattle.decimal.specs.Decimal.{decimal}
use Rattle.lines.specs.Text.{item, line_from, text_of}
use Rattle.alist.specs.Calls.{room_rules}
use Rattle.alist.specs.Steps.{Put}

-- Numbers of a line: a space before each but the first.

pub item_first : (k n : ℕ) → k ≡ 0 → item k n ≡ decimal n
unfolding item
item_first zero n e = refl
item_first (suc k) n e = absurd (omega arith)

pub item_more : (k n : ℕ) → (k ≡ 0 → ⊥) → item k n ≡ 32 ∷ decimal n
unfolding item
item_more zero n h = absurd (h refl)
item_more (suc k) n h = refl

line_from_next : (k : ℕ) (rest vs : List ℕ) (v : ℕ) → rest ≡ v ∷ vs → line_from k rest ≡ item k v ++ line_from (k + 1) vs
unfolding line_from
line_from_next k rest vs v e = rw (e, add-one k)

line_from_end : (k : ℕ) (rest : List ℕ) → rest ≡ [] → line_from k rest ≡ 10 ∷ []
unfolding line_from
line_from_end k rest e = rw e

-- a line on the way, whose numbers `rest` from the k-th on are still to be written: its next number, and the line feed at its end
module _ {before whole text : List ℕ} {at p : ℕ} (k : ℕ) (rest : List ℕ) (g : Going before at whole (line_from k rest) p text) where
  module _ (v : ℕ) (vs : List ℕ) (e : rest ≡ v ∷ vs) where
    pub number_room : at + length whole < 2 ^ 64 → p + length (item k v) < 2 ^ 64
    number_room h = part_room (item k v) (line_from (k + 1) vs) (line_from_next k rest vs v e) g (2 ^ 64) h

    pub number_done : {r : ℕ} {out : List ℕ} → Wrote text p (item k v) r out → Going before at whole (line_from (k + 1) vs) r out
    number_done w = part_done (item k v) (line_from (k + 1) vs) (line_from_next k rest vs v e) g w

  module _ (e : rest ≡ []) where
    pub feed_room : at + length whole < 2 ^ 64 → p + 1 < 2 ^ 64
    feed_room h = part_room (10 ∷ []) [] (line_from_end k rest e) g (2 ^ 64) h

    pub feed_done : {r : ℕ} {out : List ℕ} → Wrote text p (10 ∷ []) r out → Wrote before at whole r out
    feed_done w = last_done (10 ∷ []) (line_from_end k rest e) g w

-- The text of the lines that are left: its next line, and its end.

module _ {before whole text : List ℕ} {at p : ℕ} (left : List (List ℕ)) (g : Going before at whole (text_of left) p text) where
  module _ (line : List ℕ) (later : List (List ℕ)) (e : left ≡ line ∷ later) where
    text_next : text_of left ≡ line_from 0 line ++ text_of later
    unfolding text_of
    text_next = rw e

    pub line_room : at + length whole < 2 ^ 64 → p + length (line_from 0 line) < 2 ^ 64
    line_room h = part_room (line_from 0 line) (text_of later) text_next g (2 ^ 64) h

    pub line_done : {r : ℕ} {out : List ℕ} → Wrote text p (line_from 0 line) r out → Going before at whole (text_of later) r out
    line_done w = part_done (line_from 0 line) (text_of later) text_next g w

  pub lines_done : left ≡ [] → Wrote before at whole p text
  unfolding text_of
  lines_done e = all_done (rw e) g

-- The text in its place, where that was judged to have room.

pub put_roomed : (before t : List ℕ) → Ok tt ≡ ok_unless (lowest (room_rules t before)) → {r : ℕ} {out : List ℕ} → Wrote before 0 t r out → Put t before (Ok r) out
unfolding lowest
put_roomed before t h {r} {out} w =
    by_le (length t) (length before)
    (λ g.
    let e : lowest (room_rules t before) ≡ None = lowest_next (ltb (length before) (length t)) (TextPlace (length t)) [] (le-ltb (length before) (length t) g) in
    let z : 0 + length t ≡ length t = omega arith in
    record {
      answer = rw e (ap Ok (omega (arith, w.place)));
      place = rw e (w.list ∙ sets-eq t before 0 (omega arith) ∙ ap (λ (k : ℕ). t ++ drop k before) z);
    })
    (λ g. absurd (let q = rw (lt-ltb (length before) (length t) g) at h in let z : ◌≡◌ {A = ℕ} 0 1 = cc in omega arith))
