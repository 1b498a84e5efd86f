-- Laws of SHA-1's rounds and schedule. Assumes nothing.
use mathlib.Core.Path.{◌≡◌, refl}
use mathlib.Core.List.{List, [], ◌∷◌}
use Prim.Native.Nat.{ℕ, suc, ◌+◌, ◌-◌, ◌%◌, ◌<◌, ◌≤◌}
use native.Mathlib.Omega.{arith}
use lib.ListN.{get_or, set}
use borrow.Author.Tests.{lt-ltb, le-ltb}
use Rattle.sha.specs.Words.{rotl}
use Rattle.sha.specs.Sha1.{by_round, mix1, mixed1, temp, round1, rounds1}
use Rattle.sha.specs.Window.{renewed}
use Rattle.sha.proofs.Windows.{Local}

-- of four numbers the one for round t
module _ (t a b c d : ℕ) where
  pub by_round_1 : t < 20 → a ≡ by_round t a b c d
  unfolding by_round
  by_round_1 l = rw (lt-ltb t 20 l)

  pub by_round_2 : 20 ≤ t → t < 40 → b ≡ by_round t a b c d
  unfolding by_round
  by_round_2 l m = rw (le-ltb t 20 l, lt-ltb t 40 m)

  pub by_round_3 : 40 ≤ t → t < 60 → c ≡ by_round t a b c d
  unfolding by_round
  by_round_3 l m =
      let k : 20 ≤ t = omega arith in
      rw (le-ltb t 20 k, le-ltb t 40 l, lt-ltb t 60 m)

  pub by_round_4 : 60 ≤ t → d ≡ by_round t a b c d
  unfolding by_round
  by_round_4 l =
      let j : 20 ≤ t = omega arith in
      let k : 40 ≤ t = omega arith in
      rw (le-ltb t 20 j, le-ltb t 40 k, le-ltb t 60 l)

-- THE RULE AND THE ROUND, as the laws of the words kept take them

pub local1 : Local mixed1
local1 b c h = rw (h 3 (omega arith) (omega arith), h 8 (omega arith) (omega arith), h 14 (omega arith) (omega arith), h 16 (omega arith) (omega arith))

pub renewed1_of : (w : List ℕ) (i v : ℕ) → i < 16
    → v ≡ mix1 (get_or w ((i + 13) % 16) 0) (get_or w ((i + 8) % 16) 0) (get_or w ((i + 2) % 16) 0) (get_or w i 0) → set w i v ≡ renewed mixed1 i w
unfolding renewed
renewed1_of w i v h ev =
    let a : i + 16 - 3 ≡ i + 13 = omega arith in
    let b : i + 16 - 8 ≡ i + 8 = omega arith in
    let c : i + 16 - 14 ≡ i + 2 = omega arith in
    let d : i + 16 - 16 ≡ i = omega arith in
    let m : i % 16 ≡ i = omega arith in
    rw (a, b, c, d, m, ev)

pub rounds1_follow : (h ws : List ℕ) (t : ℕ) → rounds1 (suc t) h ws ≡ round1 t (rounds1 t h ws) (get_or ws t 0)
unfolding rounds1
rounds1_follow h ws t = refl

pub round1_of : (t : ℕ) (s : List ℕ) (w : ℕ) {x c : ℕ}
    → x ≡ temp t (get_or s 0 0) (get_or s 1 0) (get_or s 2 0) (get_or s 3 0) (get_or s 4 0) w → c ≡ rotl 32 30 (get_or s 1 0)
    → x ∷ get_or s 0 0 ∷ c ∷ get_or s 2 0 ∷ get_or s 3 0 ∷ [] ≡ round1 t s w
unfolding round1
round1_of t s w hx hc = rw (hx, hc)
