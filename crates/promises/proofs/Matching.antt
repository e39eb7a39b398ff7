-- From tests to words: where each rule of a list is true exactly when its row of "Turned away" applies, with the number and the values of
-- its refusal, the lowest of the list is the lowest that applies. A test may differ from its row where a row with a lower number applies.
-- Assumes nothing.
use Prim.Native.Nat.{ℕ, ◌≤◌, ◌<◌}
use mathlib.Core.Path.{◌≡◌, refl, sym, ap, ◌∙◌}
use mathlib.Core.Logic.{◌⊎◌, inl, inr}
use mathlib.Core.Bool.{Bool, true}
use mathlib.Core.List.{List, [], ◌∷◌, ◌++◌}
use Rattle.std.specs.Prelude.{Some}
use native.Mathlib.Omega.{arith}
use Rattle.refusal.specs.declared.Refusal.{Refusal}
use Rattle.refusal.specs.Number.{number, values}
use Rattle.refusal.specs.Lowest.{Rule, refuse, lowest, rising, In, here, later, LowestThat}
use Rattle.refusal.proofs.Lowest.{lowest_exactly, lowest_none, in_cons, in_first, in_second, in_either}
use Rattle.promises.specs.TurnedAway.{◌or◌, Lowest, RefusedWith, LowestOf}

-- something with a number below n applies
pub record Lower (Applies : ℕ → List ℕ → Type 0) (n : ℕ) : Type 0 where
  pub other : ℕ
  pub its_values : List ℕ
  pub applies : Applies other its_values
  pub lower : other < n

-- a refusal with the number n and the values l is listed, with its test true
pub record Listed (rules : List Rule) (n : ℕ) (l : List ℕ) : Type 0 where
  pub refusal : Refusal
  pub stands : In (refuse refusal true) rules
  pub number_is : number refusal ≡ n
  pub values_are : values refusal ≡ l

-- the row of s applies; or one with a lower number does
abbrev pub RowOf : (ℕ → List ℕ → Type 0) → Refusal → Type 0
RowOf Applies s = Applies (number s) (values s)

abbrev pub RowOrLower : (ℕ → List ℕ → Type 0) → Refusal → Type 0
RowOrLower Applies s = RowOf Applies s ⊎ Lower Applies (number s)

pub record Matches (rules : List Rule) (Applies : ℕ → List ℕ → Type 0) : Type 0 where
  pub listed : (s : Refusal) → In (refuse s true) rules → RowOrLower Applies s
  pub applies : (n : ℕ) (l : List ℕ) → Applies n l → Listed rules n l

-- THE LAW, used for every call
module _ (rules : List Rule) (rise : rising rules ≡ true) (Applies : ℕ → List ℕ → Type 0) (m : Matches rules Applies) where
  to_words : (r : Refusal) → lowest rules ≡ Some r → Lowest Applies (number r) (values r)
  to_words r e =
      let w = (lowest_exactly rules rise r).0 e in
      record {
        applies = found w (m.listed r w.applies);
        none_lower = λ n l a. least w n l (m.applies n l a);
        no_other = λ l a. same w l (m.applies (number r) l a);
      }
    where
      least : LowestThat rules r → (n : ℕ) (l : List ℕ) → Listed rules n l → number r ≤ n
      least w n l t = omega (arith, t.number_is, w.none_lower t.refusal t.stands)

      found : LowestThat rules r → RowOrLower Applies r → RowOf Applies r
      found w (inl a) = a
      found w (inr o) = absurd (omega (arith, o.lower, least w o.other o.its_values (m.applies o.other o.its_values o.applies)))

      same : LowestThat rules r → (l : List ℕ) → Listed rules (number r) l → l ≡ values r
      same w l t =
          let v : LowestThat rules t.refusal = record { applies = t.stands; none_lower = λ s i. omega (arith, t.number_is, w.none_lower s i) } in
          let f = sym ((lowest_exactly rules rise t.refusal).1 v) ∙ e in
          let q : t.refusal ≡ r = cc in
          sym t.values_are ∙ ap values q

  to_rules : (n : ℕ) (l : List ℕ) → Lowest Applies n l → RefusedWith n l Some (lowest rules)
  to_rules n l w =
      let t = m.applies n l w.applies in (
        t.refusal,
        (lowest_exactly rules rise t.refusal).1 (record { applies = t.stands; none_lower = λ s i. omega (arith, t.number_is, least s (m.listed s i)) }),
        t.number_is,
        t.values_are,
      )
    where
      least : (s : Refusal) → RowOrLower Applies s → n ≤ number s
      least s (inl a) = w.none_lower (number s) (values s) a
      least s (inr o) = omega (arith, o.lower, w.none_lower o.other o.its_values o.applies)

  pub lowest_of : LowestOf Applies (lowest rules)
  lowest_of =
      record {
        given = λ n l. (
          λ (r, e, p, q). rw (← p, ← q) (to_words r e),
          to_rules n l,
        );
        only_then = (
          λ e n l a. let t = m.applies n l a in (lowest_none rules).0 e t.refusal t.stands,
          λ none. (lowest_none rules).1 (λ r i. refute none r (m.listed r i)),
        );
      }
    where
      refute : ((n : ℕ) (l : List ℕ) → Applies n l → ⊥) → (r : Refusal) → RowOrLower Applies r → ⊥
      refute none r (inl a) = none (number r) (values r) a
      refute none r (inr o) = none o.other o.its_values o.applies

-- what some rules list, more rules list; what some rows say, more rows say
in_more_rules : (rules more : List Rule) → ((rule : Rule) → In rule rules → In rule more) → (n : ℕ) (l : List ℕ) → Listed rules n l → Listed more n l
in_more_rules rules more f n l t = record { refusal = t.refusal; stands = f (refuse t.refusal true) t.stands; number_is = t.number_is; values_are = t.values_are }

pub in_more_rows : (A B : ℕ → List ℕ → Type 0) → ((n : ℕ) (l : List ℕ) → A n l → B n l) → (s : Refusal) → RowOrLower A s → RowOrLower B s
in_more_rows A B f s (inl a) = inl (f (number s) (values s) a)
in_more_rows A B f s (inr o) = inr (record { other = o.other; its_values = o.its_values; applies = f o.other o.its_values o.applies; lower = o.lower })

-- two lists, and the rows of either; where a test of the second list differs from its row, a lower row of either applies
module _ (rules others : List Rule) (A B : ℕ → List ℕ → Type 0) where
  pub join_lower : Matches rules A → ((s : Refusal) → In (refuse s true) others → RowOrLower (A or B) s) → ((n : ℕ) (l : List ℕ) → B n l → Listed others n l)
      → Matches (rules ++ others) (A or B)
  join_lower m told row =
      record {
        listed = λ s i. by_list s (in_either rules others i);
        applies = by_row;
      }
    where
      by_list : (s : Refusal) → In (refuse s true) rules ⊎ In (refuse s true) others → RowOrLower (A or B) s
      by_list s (inl i) = in_more_rows A (A or B) (λ n l a. inl a) s (m.listed s i)
      by_list s (inr i) = told s i

      by_row : (k : ℕ) (l : List ℕ) → (A or B) k l → Listed (rules ++ others) k l
      by_row k l (inl a) = in_more_rules rules (rules ++ others) (λ rule i. in_first others i) k l (m.applies k l a)
      by_row k l (inr b) = in_more_rules others (rules ++ others) (λ rule i. in_second rules i) k l (row k l b)

  pub join : Matches rules A → Matches others B → Matches (rules ++ others) (A or B)
  join m n = join_lower m (λ s i. in_more_rows B (A or B) (λ n l b. inr b) s (n.listed s i)) n.applies

-- ONE RULE AT A TIME: what is listed is the first rule, with its test true, or stands further on
module _ (C : Refusal → Type 0) (r : Refusal) (test : Bool) (rules : List Rule) where
  pub by_rule : (s : Refusal) → In (refuse s true) (refuse r test ∷ rules) → (test ≡ true → C r) → (In (refuse s true) rules → C s) → C s
  by_rule s i f g = step (in_cons i)
    where
      step : (refuse s true ≡ refuse r test) ⊎ In (refuse s true) rules → C s
      step (inl e) =
          let q : s ≡ r = ap (λ (rule : Rule). rule.refusal) e in
          let t : true ≡ test = ap (λ (rule : Rule). rule.applies) e in
          rw q (f (sym t))
      step (inr i) = g i

pub no_rule : (C : Refusal → Type 0) (s : Refusal) → In (refuse s true) [] → C s
no_rule C s i = absurd (none_in refl i)
  where
    none_in : {rule : Rule} {l : List Rule} → l ≡ [] → In rule l → ⊥
    none_in e here = let z : ◌≡◌ {A = ℕ} 0 1 = cc in omega arith
    none_in e (later i) = let z : ◌≡◌ {A = ℕ} 0 1 = cc in omega arith

-- and a rule whose test is true is listed, with the number and the values of its refusal; so is one further on
pub at_rule : (r : Refusal) (test : Bool) {rules : List Rule} {n : ℕ} {l : List ℕ} → number r ≡ n → values r ≡ l → test ≡ true → Listed (refuse r test ∷ rules) n l
at_rule r test p q e = record { refusal = r; stands = rw e here; number_is = p; values_are = q }

pub further : {rule : Rule} {rules : List Rule} {n : ℕ} {l : List ℕ} → Listed rules n l → Listed (rule ∷ rules) n l
further {rule} {rules} {n} {l} t = in_more_rules rules (rule ∷ rules) (λ other i. later i) n l t

-- a list of one rule
pub one_rule : (r : Refusal) (test : Bool) (Row : ℕ → List ℕ → Type 0) → (test ≡ true → RowOf Row r)
    → ((n : ℕ) (l : List ℕ) → Row n l → Listed (refuse r test ∷ []) n l) → Matches (refuse r test ∷ []) Row
one_rule r test Row f g = record { listed = λ s i. inl (by_rule (RowOf Row) r test [] s i f (no_rule (RowOf Row) s)); applies = g }
