-- The four columns of a cycle of 8 edges that goes X Y X Y: its sum of voltages contradicts a sound table, in each choice of two parts.
-- Assumes nothing.
use mathlib.Core.Path.{◌≡◌, refl, sym, ◌∙◌, ap, ap₂}
use mathlib.Core.Logic.{◌≢◌}
use Prim.Native.Nat.{ℕ, ◌+◌, ◌%◌, ◌<◌}
use native.Mathlib.Nat.{mod-lt}
use native.Mathlib.Omega.{arith}
use Rattle.square.specs.Table.{Sound}
use Rattle.square.proofs.Congruent.{Congruent, of_mod, to_minus, close}
use Rattle.grid.specs.declared.Part.{Part}
use Rattle.grid.specs.declared.Column.{Column}
use Rattle.grid.specs.declared.Part.TheVariants.{AJ, AR, JR}
use Rattle.grid.specs.Plan.{shift_at}
use Rattle.grid.specs.Inner.{Within}
use Rattle.grid.proofs.Moves.{Move}
use Rattle.grid.proofs.Parts.{AJ≢AR, AJ≢JR, AR≢JR, free}

flip : {k l : Part} → k ≢ l → l ≢ k
flip h e = h (sym e)

module _ (J P : ℕ) (s : ℕ → ℕ → ℕ) (p : 0 < P) (sound : Sound J P s) where
  clash : (i k r t : ℕ) → i < J → k < J → r < J → t < J → i ≢ k → r ≢ t → Congruent P (s i r + s k t) (s i t + s k r) → ⊥
  unfolding Sound
  clash i k r t hi hk hr ht h g c = sound i k r t hi hk hr ht h g (to_minus P _ _ _ _ p c)

  -- the four places of a rectangle of the table
  rectangle : (i₀ i₁ i₂ i₃ r₀ r₁ r₂ r₃ : ℕ) → i₀ < J → i₁ < J → r₀ < J → r₂ < J → i₀ ≢ i₁ → r₀ ≢ r₂
      → i₃ ≡ i₀ → i₁ ≡ i₂ → r₀ ≡ r₁ → r₂ ≡ r₃ → Congruent P (s i₀ r₀ + s i₂ r₂) (s i₁ r₁ + s i₃ r₃) → ⊥
  rectangle i₀ i₁ i₂ i₃ r₀ r₁ r₂ r₃ a b c d h g e f k l w =
      clash i₀ i₁ r₀ r₂ a b c d h g
      (record { m = w.m; n = w.n; same = omega (arith, w.same, ap (λ i. s i r₂) f, ap₂ s e (sym l), ap (s i₁) k) })

  turn_in : (r j : ℕ) → r < J → (r + j) % J < J
  turn_in r j h = mod-lt (r + j) (omega arith)

  turn_apart : (u v : ℕ) → u ≢ v → u < v + J → v < u + J → u % J ≢ v % J
  turn_apart u v h a b e = h (close (of_mod J u v e) a b)

  abbrev turn : Column → ℕ
  turn q = (q.r + q.j) % J

  -- the voltage around q₀ q₁ q₂ q₃, with the rows of the part X between q₁ q₂ and q₃ q₀, those of Y between q₀ q₁ and q₂ q₃
  abbrev pub Closed : Part → Part → Column → Column → Column → Column → Type 0
  Closed X Y q₀ q₁ q₂ q₃ =
      let v = shift_at J s in
      Congruent P (v X q₀ + v Y q₁ + v X q₂ + v Y q₃) (v X q₃ + v Y q₀ + v X q₁ + v Y q₂)

  pub record Round (X Y : Part) (q₀ q₁ q₂ q₃ : Column) : Type 0 where
    pub in₀ : Within J q₀
    pub in₁ : Within J q₁
    pub in₂ : Within J q₂
    pub in₃ : Within J q₃
    pub m₀ : Move free Y q₀ q₁
    pub m₁ : Move free X q₁ q₂
    pub m₂ : Move free Y q₂ q₃
    pub m₃ : Move free X q₃ q₀
    pub closed : Closed X Y q₀ q₁ q₂ q₃

  rotate : {X Y : Part} {q₀ q₁ q₂ q₃ : Column} → Round X Y q₀ q₁ q₂ q₃ → Round Y X q₁ q₂ q₃ q₀
  rotate w = record {
    in₀ = w.in₁;
    in₁ = w.in₂;
    in₂ = w.in₃;
    in₃ = w.in₀;
    m₀ = w.m₁;
    m₁ = w.m₂;
    m₂ = w.m₃;
    m₃ = w.m₀;
    closed = record { m = w.closed.m; n = w.closed.n; same = omega (arith, w.closed.same) };
  }

  -- the rows of the parts AJ and AR: the table's rows j and columns r
  aj_ar : {q₀ q₁ q₂ q₃ : Column} → Round AJ AR q₀ q₁ q₂ q₃ → ⊥
  aj_ar {q₀} {q₁} {q₂} {q₃} w =
      let r₀₁ = w.m₀.keeps AJ AJ≢AR in
      let r₂₃ = w.m₂.keeps AJ AJ≢AR in
      rectangle q₀.j q₁.j q₂.j q₃.j q₀.r q₁.r q₂.r q₃.r w.in₀.j_in w.in₁.j_in w.in₀.r_in w.in₂.r_in
      w.m₀.turns (λ e. w.m₁.turns (sym r₀₁ ∙ e)) (w.m₃.keeps AR (flip AJ≢AR)) (w.m₁.keeps AR (flip AJ≢AR)) r₀₁ r₂₃
      (record { m = w.closed.m; n = w.closed.n; same = omega (arith, w.closed.same) })

  -- the rows of the parts AJ and JR: the table's rows a and columns r + j, with one j
  aj_jr : {q₀ q₁ q₂ q₃ : Column} → Round AJ JR q₀ q₁ q₂ q₃ → ⊥
  aj_jr {q₀} {q₁} {q₂} {q₃} w =
      let r₀₁ = w.m₀.keeps AJ AJ≢JR in
      let r₂₃ = w.m₂.keeps AJ AJ≢JR in
      let j₀₁ = w.m₀.keeps AR AR≢JR in
      let j₁₂ = w.m₁.keeps AR (flip AJ≢AR) in
      let away = w.m₁.turns in
      let j₂₃ = w.m₂.keeps AR AR≢JR in
      rectangle q₀.a q₁.a q₂.a q₃.a (turn q₀) (turn q₁) (turn q₂) (turn q₃)
      w.in₀.a_in w.in₁.a_in (turn_in _ _ w.in₀.r_in) (turn_in _ _ w.in₂.r_in)
      w.m₀.turns
      (turn_apart (q₀.r + q₀.j) (q₂.r + q₂.j) (omega arith) (omega (arith, w.in₀.r_in)) (omega (arith, w.in₂.r_in)))
      (w.m₃.keeps JR (flip AJ≢JR)) (w.m₁.keeps JR (flip AJ≢JR))
      (ap₂ (λ r j. (r + j) % J) r₀₁ j₀₁) (ap₂ (λ r j. (r + j) % J) r₂₃ j₂₃)
      (record { m = w.closed.n; n = w.closed.m; same = omega (arith, w.closed.same, ap₂ s j₀₁ r₀₁, ap₂ s j₂₃ r₂₃) })

  -- the rows of the parts AR and JR: the table's rows a and columns r + j, with one r
  ar_jr : {q₀ q₁ q₂ q₃ : Column} → Round AR JR q₀ q₁ q₂ q₃ → ⊥
  ar_jr {q₀} {q₁} {q₂} {q₃} w =
      let r₀₁ = w.m₀.keeps AJ AJ≢JR in
      let r₁₂ = w.m₁.keeps AJ AJ≢AR in
      let away = w.m₁.turns in
      let r₂₃ = w.m₂.keeps AJ AJ≢JR in
      let j₀₁ = w.m₀.keeps AR AR≢JR in
      let j₂₃ = w.m₂.keeps AR AR≢JR in
      rectangle q₀.a q₁.a q₂.a q₃.a (turn q₀) (turn q₁) (turn q₂) (turn q₃)
      w.in₀.a_in w.in₁.a_in (turn_in _ _ w.in₀.r_in) (turn_in _ _ w.in₂.r_in)
      w.m₀.turns
      (turn_apart (q₀.r + q₀.j) (q₂.r + q₂.j) (omega arith) (omega (arith, w.in₀.j_in)) (omega (arith, w.in₂.j_in)))
      (w.m₃.keeps JR (flip AR≢JR)) (w.m₁.keeps JR (flip AR≢JR))
      (ap₂ (λ r j. (r + j) % J) r₀₁ j₀₁) (ap₂ (λ r j. (r + j) % J) r₂₃ j₂₃)
      (record { m = w.closed.n; n = w.closed.m; same = omega (arith, w.closed.same) })

  pub no_round : (X Y : Part) → X ≢ Y → {q₀ q₁ q₂ q₃ : Column} → Round X Y q₀ q₁ q₂ q₃ → ⊥
  no_round AJ AJ h w = h refl
  no_round AJ AR h w = aj_ar w
  no_round AJ JR h w = aj_jr w
  no_round AR AJ h w = aj_ar (rotate w)
  no_round AR AR h w = h refl
  no_round AR JR h w = ar_jr w
  no_round JR AJ h w = aj_jr (rotate w)
  no_round JR AR h w = ar_jr (rotate w)
  no_round JR JR h w = h refl
