-- Laws of a schedule and of the sixteen words kept of it, once over the rule of the words and over the round. Assumes nothing.
use mathlib.Core.Path.{◌≡◌, refl, sym, ap, ◌∙◌}
use mathlib.Core.List.{List, [], ◌∷◌}
use mathlib.Core.Logic.{⊎_elim}
use Prim.Native.Nat.{ℕ, zero, suc, ◌+◌, ◌-◌, ◌%◌, ◌<◌, ◌≤◌}
use native.Mathlib.Nat.{add-zero, zero-add, add-suc, eq-or-lt_of_le, mod-eq_of_lt}
use native.Mathlib.Omega.{arith}
use lib.ListN.{length, get_or, length-append, length-set, get_or-append}
use lib.Seq.{get_or_at, get_or-set_same, get_or-set_other}
use Rattle.sha.specs.Schedule.{Rule, grown}
use Rattle.sha.specs.Window.{Last, Round, renewed, rolled, ran}

-- a rule that asks for the sixteen words before a word alone
abbrev pub Local : Rule → Type 0
Local f = (b c : ℕ → ℕ) → ((d : ℕ) → 0 < d → d ≤ 16 → b d ≡ c d) → f b ≡ f c

-- w holds the words of a schedule of n words from word t on, as far as there are sixteen, each at its place modulo 16
pub record Held (n : ℕ) (ws : List ℕ) (t : ℕ) (w : List ℕ) : Type 0 where
  pub wide : length w ≡ 16
  pub held : (j : ℕ) → t ≤ j → j < t + 16 → j < n → get_or w (j % 16) 0 ≡ get_or ws j 0

-- THE SCHEDULE

module _ (f : Rule) where
  length_grown : (n : ℕ) (ms : List ℕ) → length (grown f n ms) ≡ length ms + n
  unfolding grown
  length_grown zero ms = sym (add-zero (length ms))
  length_grown (suc n) ms =
      length-append (grown f n ms) (f (λ d. get_or (grown f n ms) (16 + n - d) 0) ∷ []) ∙ ap (λ (x : ℕ). x + 1) (length_grown n ms) ∙ omega arith

  -- a word stays as the schedule grows
  grown_keeps : (n k : ℕ) (ms : List ℕ) (j : ℕ) → j < length ms + n → get_or (grown f (n + k) ms) j 0 ≡ get_or (grown f n ms) j 0
  unfolding grown
  grown_keeps n zero ms j h = rw add-zero
  grown_keeps n (suc k) ms j h =
      ap (λ (x : ℕ). get_or (grown f x ms) j 0) (add-suc n k)
      ∙ get_or-append (grown f (n + k) ms) (f (λ d. get_or (grown f (n + k) ms) (16 + (n + k) - d) 0) ∷ []) 0 j (omega (arith, length_grown (n + k) ms))
      ∙ grown_keeps n k ms j h

module _ (f : Rule) (near : Local f) (n : ℕ) (ms : List ℕ) (sixteen : length ms ≡ 16) where
  abbrev ws : List ℕ
  ws = grown f n ms

  -- each word behind the first sixteen follows the rule
  grown_next : (j : ℕ) → j < n → get_or ws (16 + j) 0 ≡ f (λ d. get_or ws (16 + j - d) 0)
  unfolding grown
  grown_next j h =
      let k = n - suc j in
      let e : n ≡ suc j + k = omega arith in
      let r : n ≡ j + suc k = omega arith in
      let l : length (grown f j ms) ≡ 16 + j = omega (arith, length_grown f j ms) in
      ap (λ (x : ℕ). get_or (grown f x ms) (16 + j) 0) e
      ∙ grown_keeps f (suc j) k ms (16 + j) (omega arith)
      ∙ get_or_at (grown f j ms) (f (λ d. get_or (grown f j ms) (16 + j - d) 0)) [] 0 (16 + j) l
      ∙ near (λ d. get_or (grown f j ms) (16 + j - d) 0) (λ d. get_or ws (16 + j - d) 0)
      (λ d a b. sym (ap (λ (x : ℕ). get_or (grown f x ms) (16 + j - d) 0) r ∙ grown_keeps f j (suc k) ms (16 + j - d) (omega arith)))

  -- THE WORDS KEPT

  -- the block itself
  pub held_first : Held (16 + n) ws 0 ms
  unfolding grown
  held_first = record {
    wide = sixteen;
    held = λ j a b c. rw (mod-eq_of_lt {n = j} {m = 16} (omega arith)) (sym (rw zero-add at (grown_keeps f 0 n ms j (omega arith))));
  }

  -- a new word in the place of the one sixteen before it
  pub held_renewed : (t i : ℕ) (w : List ℕ) → t % 16 ≡ i % 16 → Held (16 + n) ws t w → Held (16 + n) ws (t + 1) (renewed f i w)
  unfolding renewed
  held_renewed t i w at o =
      let new : ℕ = f (λ d. get_or w ((i + 16 - d) % 16) 0) in
      let val : t < n → new ≡ get_or ws (16 + t) 0 =
      λ h. near (λ d. get_or w ((i + 16 - d) % 16) 0) (λ d. get_or ws (16 + t - d) 0)
      (λ d a b.
      let p : (16 + t - d) % 16 ≡ (i + 16 - d) % 16 = omega arith in
      rw p at (o.held (16 + t - d) (omega arith) (omega arith) (omega arith)))
      ∙ sym (grown_next t h) in
      record {
        wide = length-set w (i % 16) new ∙ o.wide;
        held = λ j a b c. ⊎_elim
            (λ (same : j ≡ t + 16).
            let m : j % 16 ≡ i % 16 = omega arith in
            let e : 16 + t ≡ j = omega arith in
            rw (m, get_or-set_same w (i % 16) new 0 (omega (arith, o.wide)), val (omega arith), e))
            (λ (less : j < t + 16). get_or-set_other w (i % 16) (j % 16) new 0 (λ p. omega arith) ∙ o.held j (omega arith) less c)
            (eq-or-lt_of_le {n = j} {m = t + 16} (omega arith));
      }

  -- k new words
  held_rolled : (t i k : ℕ) (w : List ℕ) → t % 16 ≡ i % 16 → Held (16 + n) ws t w → Held (16 + n) ws (t + k) (rolled f i k w)
  unfolding rolled
  held_rolled t i zero w at o = rw (add-zero t) o
  held_rolled t i (suc k) w at o =
      let e : t + suc k ≡ t + k + 1 = omega arith in
      rw e (held_renewed (t + k) (i + k) (rolled f i k w) (omega arith) (held_rolled t i k w at o))

-- the same of a schedule that has no more words than the sixteen reach
pub last_block : (f : Rule) → Local f → (ms : List ℕ) → length ms ≡ 16 → Last f ms 0 ms
last_block f near ms sixteen j a b = (held_first f near 0 ms sixteen).held j a b (omega arith)

pub last_renewed : (f : Rule) → Local f → (ms w : List ℕ) (t i : ℕ) → length ms ≡ 16 → length w ≡ 16 → t % 16 ≡ i % 16 → Last f ms t w
    → Last f ms (t + 1) (renewed f i w)
last_renewed f near ms w t i sixteen wide at last j a b =
    let o : Held (16 + (t + 1)) (grown f (t + 1) ms) t w =
    record { wide = wide; held = λ j c d e. last j c d ∙ sym (grown_keeps f t 1 ms j (omega arith)) } in
    (held_renewed f near (t + 1) ms sixteen t i w at o).held j a b (omega arith)

-- EIGHT STEPS from place i on: a round with the word at its place, and the new word there. `number` is the number of the round at a place.

-- a place that no new word took
rolled_keeps : (f : Rule) (i n : ℕ) (w : List ℕ) (j : ℕ) → i + n ≤ j → j < 16 → get_or (rolled f i n w) j 0 ≡ get_or w j 0
unfolding rolled renewed
rolled_keeps f i zero w j a b = refl
rolled_keeps f i (suc n) w j a b =
    get_or-set_other (rolled f i n w) ((i + n) % 16) j (f (λ d. get_or (rolled f i n w) ((i + n + 16 - d) % 16) 0)) 0 (λ p. omega arith)
    ∙ rolled_keeps f i n w j (omega arith) b

module _ (f : Rule) (g : Round) (t i : ℕ) (number : ℕ → ℕ) (same : (p : ℕ) → number p ≡ t + p) (le : i + 8 ≤ 16) (s w : List ℕ) where
  -- after n steps
  abbrev Stepped : ℕ → List ℕ → List ℕ → Type 0
  Stepped n s' w' = (s' ≡ ran g t i n s w) × (w' ≡ rolled f i n w)

  -- one step, at place p
  abbrev Step : ℕ → List ℕ → List ℕ → List ℕ → List ℕ → Type 0
  Step p s' w' s'' w'' = (s'' ≡ g (number p) s' (get_or w' p 0)) × (w'' ≡ renewed f p w')

  more : (n : ℕ) {s' w' s'' w'' : List ℕ} → n < 8 → Stepped n s' w' → Step (i + n) s' w' s'' w'' → Stepped (suc n) s'' w''
  unfolding ran rolled
  more n h e d =
      let p : (i + n) % 16 ≡ i + n = omega arith in
      (d.0 ∙ rw (same (i + n), e.0, e.1, p, rolled_keeps f i n w (i + n) (omega arith) (omega arith)), d.1 ∙ rw e.1)

  pub eight_steps : {s₁ s₂ s₃ s₄ s₅ s₆ s₇ s₈ w₁ w₂ w₃ w₄ w₅ w₆ w₇ w₈ : List ℕ}
      → Step i s w s₁ w₁ → Step (i + 1) s₁ w₁ s₂ w₂ → Step (i + 2) s₂ w₂ s₃ w₃ → Step (i + 3) s₃ w₃ s₄ w₄
      → Step (i + 4) s₄ w₄ s₅ w₅ → Step (i + 5) s₅ w₅ s₆ w₆ → Step (i + 6) s₆ w₆ s₇ w₇ → Step (i + 7) s₇ w₇ s₈ w₈ → Stepped 8 s₈ w₈
  unfolding ran rolled
  eight_steps d₁ d₂ d₃ d₄ d₅ d₆ d₇ d₈ =
      more 7 (omega arith) (more 6 (omega arith) (more 5 (omega arith) (more 4 (omega arith) (more 3 (omega arith) (more 2 (omega arith)
      (more 1 (omega arith) (more 0 (omega arith) (refl, refl) (rw (add-zero i) d₁)) d₂) d₃) d₄) d₅) d₆) d₇) d₈

-- SIXTEEN ROUNDS with the words as they stand

module _ (g : Round) (t : ℕ) (s w : List ℕ) where
  -- round t + n, with the word at place n
  abbrev Next : ℕ → List ℕ → List ℕ → Type 0
  Next n s' s'' = s'' ≡ g (t + n) s' (get_or w n 0)

  pub sixteen_rounds : {s₁ s₂ s₃ s₄ s₅ s₆ s₇ s₈ s₉ s₁₀ s₁₁ s₁₂ s₁₃ s₁₄ s₁₅ s₁₆ : List ℕ}
      → Next 0 s s₁ → Next 1 s₁ s₂ → Next 2 s₂ s₃ → Next 3 s₃ s₄
      → Next 4 s₄ s₅ → Next 5 s₅ s₆ → Next 6 s₆ s₇ → Next 7 s₇ s₈
      → Next 8 s₈ s₉ → Next 9 s₉ s₁₀ → Next 10 s₁₀ s₁₁ → Next 11 s₁₁ s₁₂
      → Next 12 s₁₂ s₁₃ → Next 13 s₁₃ s₁₄ → Next 14 s₁₄ s₁₅ → Next 15 s₁₅ s₁₆ → s₁₆ ≡ ran g t 0 16 s w
  unfolding ran
  sixteen_rounds e₁ e₂ e₃ e₄ e₅ e₆ e₇ e₈ e₉ e₁₀ e₁₁ e₁₂ e₁₃ e₁₄ e₁₅ e₁₆ =
      rw (e₁₆, e₁₅, e₁₄, e₁₃, e₁₂, e₁₁, e₁₀, e₉, e₈, e₇, e₆, e₅, e₄, e₃, e₂, e₁)

-- THE ROUNDS: those with the words kept are those with the schedule, whose working words after t rounds are `after t`
module _ (g : Round) (after : ℕ → List ℕ) (n : ℕ) (ws : List ℕ) (more : (t : ℕ) → after (suc t) ≡ g t (after t) (get_or ws t 0)) where
  pub ran_held : (t i a k : ℕ) (w : List ℕ) {s : List ℕ} → t % 16 ≡ 0 → a ≤ t + i → t + (i + k) ≤ a + 16 → t + (i + k) ≤ n → Held n ws a w
      → s ≡ after (t + i) → ran g t i k s w ≡ after (t + (i + k))
  unfolding ran
  ran_held t i a zero w at la lb h o es = rw (add-zero i, es)
  ran_held t i a (suc k) w at la lb h o es =
      let e : t + (i + suc k) ≡ suc (t + (i + k)) = omega arith in
      let p : (t + (i + k)) % 16 ≡ (i + k) % 16 = omega arith in
      rw (e, more (t + (i + k)), ran_held t i a k w at la (omega arith) (omega arith) o es, ← p, o.held (t + (i + k)) (omega arith) (omega arith) (omega arith))

-- a turn of sixteen rounds and sixteen new words, eight at a time
module _ (f : Rule) (near : Local f) (n : ℕ) (ms : List ℕ) (sixteen : length ms ≡ 16) (g : Round) (after : ℕ → List ℕ)
    (more : (t : ℕ) → after (suc t) ≡ g t (after t) (get_or (grown f n ms) t 0)) (t : ℕ) (at : t % 16 ≡ 0) (w : List ℕ) {s s₁ : List ℕ}
    (o : Held (16 + n) (grown f n ms) t w) (es : s ≡ after t) (e₁ : s₁ ≡ ran g t 0 8 s w) where
  first_half : t < n + 1 → s₁ ≡ after (t + 8)
  first_half h =
      e₁ ∙ ran_held g after (16 + n) (grown f n ms) more t 0 t 8 w at (omega arith) (omega arith) (omega arith) o (es ∙ ap after (sym (add-zero t)))

  pub turn_held : (w₁ w₂ : List ℕ) {s₂ : List ℕ} → t + 16 ≤ n → w₁ ≡ rolled f 0 8 w → s₂ ≡ ran g t 8 8 s₁ w₁ → w₂ ≡ rolled f 8 8 w₁
      → (s₂ ≡ after (t + 16)) × Held (16 + n) (grown f n ms) (t + 16) w₂
  turn_held w₁ w₂ h r₁ e₂ r₂ =
      let o₁ : Held (16 + n) (grown f n ms) (t + 8) w₁ = rw r₁ (held_rolled f near n ms sixteen t 0 8 w (omega arith) o) in
      let o₂ : Held (16 + n) (grown f n ms) (t + 8 + 8) w₂ = rw r₂ (held_rolled f near n ms sixteen (t + 8) 8 8 w₁ (omega arith) o₁) in
      let e : t + 8 + 8 ≡ t + 16 = omega arith in
      (e₂ ∙ ran_held g after (16 + n) (grown f n ms) more t 8 (t + 8) 8 w₁ at (omega arith) (omega arith) (omega arith) o₁ (first_half (omega arith)), rw e at o₂)
