-- Laws of SHA-2's round and schedule, over the functions of a word. Assumes nothing.
use mathlib.Core.Path.{◌≡◌, refl, ◌∙◌}
use mathlib.Core.List.{List, [], ◌∷◌}
use Prim.Native.Nat.{ℕ, zero, suc, ◌+◌, ◌-◌, ◌*◌, ◌%◌, ◌<◌, ◌≤◌}
use native.Mathlib.Nat.{add-zero}
use native.Mathlib.Omega.{arith}
use lib.ListN.{length, get_or, take, drop, set}
use lib.Seq.{get_or-take, get_or-drop}
use Rattle.sha.specs.Words.{plus}
use Rattle.sha.specs.Sha2.{Core, t1, t2, turned, round, rounds, mix, mixed, schedule}
use Rattle.sha.specs.Window.{renewed, rolled, ran, round_of_core}
use Rattle.sha.proofs.Windows.{Local, Held, held_first, ran_held, turn_held}

pub round_of : (q : Core) (s : List ℕ) (k w : ℕ) {x y a e : ℕ}
    → x ≡ t1 q (get_or s 4 0) (get_or s 5 0) (get_or s 6 0) (get_or s 7 0) k w → y ≡ t2 q (get_or s 0 0) (get_or s 1 0) (get_or s 2 0)
    → a ≡ plus q.bits x y → e ≡ plus q.bits (get_or s 3 0) x
    → a ∷ get_or s 0 0 ∷ get_or s 1 0 ∷ get_or s 2 0 ∷ e ∷ get_or s 4 0 ∷ get_or s 5 0 ∷ get_or s 6 0 ∷ [] ≡ round q s k w
unfolding turned round
round_of q s k w hx hy ha he = rw (ha, he, hx, hy)

-- THE RULE AND THE ROUND, as the laws of the words kept take them

pub local2 : (q : Core) → Local (mixed q)
local2 q b c h = rw (h 2 (omega arith) (omega arith), h 7 (omega arith) (omega arith), h 15 (omega arith) (omega arith), h 16 (omega arith) (omega arith))

pub renewed_of : (q : Core) (w : List ℕ) (i v : ℕ) → i < 16
    → v ≡ mix q (get_or w ((i + 14) % 16) 0) (get_or w ((i + 9) % 16) 0) (get_or w ((i + 1) % 16) 0) (get_or w i 0) → set w i v ≡ renewed (mixed q) i w
unfolding renewed
renewed_of q w i v h ev =
    let a : i + 16 - 2 ≡ i + 14 = omega arith in
    let b : i + 16 - 7 ≡ i + 9 = omega arith in
    let c : i + 16 - 15 ≡ i + 1 = omega arith in
    let d : i + 16 - 16 ≡ i = omega arith in
    let m : i % 16 ≡ i = omega arith in
    rw (a, b, c, d, m, ev)

rounds_follow : (q : Core) (h ws : List ℕ) (t : ℕ) → rounds q (suc t) h ws ≡ round_of_core q q.table t (rounds q t h ws) (get_or ws t 0)
unfolding rounds
rounds_follow q h ws t = refl

-- the constants of a turn are those of the table ks from its first round t on
pub turn_constants : (ks : List ℕ) (t turn : ℕ) {k r : List ℕ} → k ≡ ks → t ≡ 16 * turn → r ≡ take 16 (drop t k) → r ≡ take 16 (drop (16 * turn) ks)
turn_constants ks t turn ek et er = er ∙ rw (ek, et)

-- the rounds of a turn from t on, with the sixteen constants of the turn, are those with the table
ran_turn : (q : Core) (ks : List ℕ) (t i n : ℕ) (s w : List ℕ) {k : List ℕ} → k ≡ take 16 (drop t ks) → i + n ≤ 16
    → ran (round_of_core q k) 0 i n s w ≡ ran (round_of_core q ks) t i n s w
unfolding ran
ran_turn q ks t i zero s w ek h = refl
ran_turn q ks t i (suc n) s w {k} ek h =
    let z : 0 + (i + n) ≡ i + n = omega arith in
    rw (z, ran_turn q ks t i n s w ek (omega arith), ek, get_or-take 16 (drop t ks) (i + n) 0 (omega arith), get_or-drop t ks (i + n) 0)

-- BEFORE A TURN the working words are those after sixteen rounds for each turn done, and w holds the schedule's words from there on. The block
-- ms has sixteen words, and n follow them.
abbrev pub AtTurn : Core → ℕ → List ℕ → List ℕ → ℕ → List ℕ → List ℕ → Type 0
AtTurn q n h ms turn s w = (s ≡ rounds q (16 * turn) h (schedule q n ms)) × Held (16 + n) (schedule q n ms) (16 * turn) w

pub turn_first : (q : Core) (n : ℕ) (h ms : List ℕ) → length ms ≡ 16 → AtTurn q n h ms 0 h ms
unfolding rounds
turn_first q n h ms sixteen = (refl, held_first (mixed q) (local2 q) n ms sixteen)

module _ (q : Core) (n : ℕ) (h ms : List ℕ) (turn : ℕ) {s w k : List ℕ} (o : AtTurn q n h ms turn s w) (ek : k ≡ take 16 (drop (16 * turn) q.table)) where
  pub turn_more : (s₁ w₁ s₂ w₂ : List ℕ) → length ms ≡ 16 → 16 * turn + 16 ≤ n
      → (s₁ ≡ ran (round_of_core q k) 0 0 8 s w) × (w₁ ≡ rolled (mixed q) 0 8 w) → (s₂ ≡ ran (round_of_core q k) 0 8 8 s₁ w₁) × (w₂ ≡ rolled (mixed q) 8 8 w₁)
      → AtTurn q n h ms (turn + 1) s₂ w₂
  turn_more s₁ w₁ s₂ w₂ sixteen le low high =
      let e : 16 * turn + 16 ≡ 16 * (turn + 1) = omega arith in
      rw e
      at (turn_held (mixed q) (local2 q) n ms sixteen (round_of_core q q.table) (λ t. rounds q t h (schedule q n ms)) (rounds_follow q h (schedule q n ms))
      (16 * turn) (omega arith) w o.1 o.0 (low.0 ∙ ran_turn q q.table (16 * turn) 0 8 s w ek (omega arith)) w₁ w₂ le low.1
      (high.0 ∙ ran_turn q q.table (16 * turn) 8 8 s₁ w₁ ek (omega arith)) high.1)

  pub turn_last : {r : List ℕ} → 16 * turn ≡ n → r ≡ ran (round_of_core q k) 0 0 16 s w → r ≡ rounds q (16 + n) h (schedule q n ms)
  turn_last e er =
      let c : 16 * turn + (0 + 16) ≡ 16 + n = omega arith in
      er
      ∙ ran_turn q q.table (16 * turn) 0 16 s w ek (omega arith)
      ∙ rw c
      at (ran_held (round_of_core q q.table) (λ t. rounds q t h (schedule q n ms)) (16 + n) (schedule q n ms) (rounds_follow q h (schedule q n ms))
      (16 * turn) 0 (16 * turn) 16 w (omega arith) (omega arith) (omega arith) (omega arith) o.1 (o.0 ∙ rw (add-zero (16 * turn))))
