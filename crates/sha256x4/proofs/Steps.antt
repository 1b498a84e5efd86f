-- A round and a new word of one message, by the laws of `sha` for the sixteen words kept. Assumes nothing.
use Prim.Native.Nat.{ℕ, ◌+◌, ◌-◌, ◌*◌, ◌%◌, ◌<◌, ◌≤◌}
use mathlib.Core.Path.{◌≡◌, refl, sym, ap, subst, ◌∙◌}
use mathlib.Core.List.{List, [], ◌∷◌, ◌++◌}
use native.Mathlib.Numerals.{add-one}
use native.Mathlib.Omega.{arith}
use lib.ListN.{get_or, set}
use Rattle.sha.specs.Message.{words}
use Rattle.endian.specs.Numbers.{big}
use Rattle.sha.specs.Sha2.{round, rounds, mix, mixed, schedule, compress, core256, k256}
use Rattle.sha.specs.Words.{sums}
use Rattle.sha.specs.Window.{Last, renewed}
use Rattle.sha.proofs.Windows.{Held, held_first, held_renewed}
use Rattle.sha.proofs.Rounds.{local2}
use Rattle.sha256x4.specs.Lanes.{lane, Four}
use Rattle.sha256x4.proofs.Lanes.{length_lane, get_or_lane}

-- a new word at its place modulo 16
renewed_at : (w : List ℕ) (t v : ℕ)
    → v ≡ mix core256 (get_or w ((t + 14) % 16) 0) (get_or w ((t + 9) % 16) 0) (get_or w ((t + 1) % 16) 0) (get_or w (t % 16) 0)
    → set w (t % 16) v ≡ renewed (mixed core256) t w
unfolding renewed
renewed_at w t v e =
    let a : t + 16 - 2 ≡ t + 14 = omega arith in
    let b : t + 16 - 7 ≡ t + 9 = omega arith in
    let c : t + 16 - 15 ≡ t + 1 = omega arith in
    let d : t + 16 - 16 ≡ t = omega arith in
    rw (a, b, c, d, e)

rounds_next : (t : ℕ) (h ws : List ℕ) → rounds core256 (t + 1) h ws ≡ round core256 (rounds core256 t h ws) (get_or k256 t 0) (get_or ws t 0)
unfolding rounds
rounds_next t h ws = ap (λ (n : ℕ). rounds core256 n h ws) (add-one t)

-- the rounds of message j: h and m have its hash value and its block, and after t rounds s its working words
abbrev pub Done : List ℕ → List ℕ → List ℕ → ℕ → ℕ → Type 0
Done h m s t j = lane 8 j s ≡ rounds core256 t (lane 8 j h) (schedule core256 48 (lane 16 j m))

-- and w the words kept of its schedule
pub record Ran (h m s w : List ℕ) (t j : ℕ) : Type 0 where
  pub done : Done h m s t j
  pub held : Held 64 (schedule core256 48 (lane 16 j m)) t (lane 16 j w)

pub ran_none : (h m : List ℕ) (j : ℕ) → Ran h m h m 0 j
unfolding rounds
ran_none h m j = record { done = refl; held = held_first (mixed core256) (local2 core256) 48 (lane 16 j m) (length_lane 16 j m) }

module _ (h m s w s' : List ℕ) (t j k x : ℕ) (ek : k ≡ get_or k256 t 0) (es : lane 8 j s' ≡ round core256 (lane 8 j s) k x) where
  round_with : x ≡ get_or (schedule core256 48 (lane 16 j m)) t 0 → Done h m s t j → Done h m s' (t + 1) j
  round_with e d = es ∙ rw (ek, e, d) (sym (rounds_next t (lane 8 j h) (schedule core256 48 (lane 16 j m))))

  -- a round and a new word, v
  pub ran_more : (v : ℕ) (w' : List ℕ) → t < 48 → x ≡ get_or w (4 * (t % 16) + j) 0
      → v ≡ mix core256 (get_or w (4 * ((t + 14) % 16) + j) 0) (get_or w (4 * ((t + 9) % 16) + j) 0) (get_or w (4 * ((t + 1) % 16) + j) 0) (get_or w (4 * (t % 16) + j) 0)
      → lane 16 j w' ≡ set (lane 16 j w) (t % 16) v → Ran h m s w t j → Ran h m s' w' (t + 1) j
  ran_more v w' l ex ev ew r =
      let word : (i : ℕ) → i < 16 → get_or w (4 * i + j) 0 ≡ get_or (lane 16 j w) i 0 = λ i b. sym (get_or_lane 16 j w i b) in
      let e : v ≡ mix core256 (get_or (lane 16 j w) ((t + 14) % 16) 0) (get_or (lane 16 j w) ((t + 9) % 16) 0) (get_or (lane 16 j w) ((t + 1) % 16) 0) (get_or (lane 16 j w) (t % 16) 0) =
      ev ∙ rw (word ((t + 14) % 16) (omega arith), word ((t + 9) % 16) (omega arith), word ((t + 1) % 16) (omega arith), word (t % 16) (omega arith)) in
      record {
        done = round_with (ex ∙ word (t % 16) (omega arith) ∙ r.held.held t (omega arith) (omega arith) (omega arith)) r.done;
        held =
            subst (Held 64 (schedule core256 48 (lane 16 j m)) (t + 1)) (sym (ew ∙ renewed_at (lane 16 j w) t v e))
            (held_renewed (mixed core256) (local2 core256) 48 (lane 16 j m) (length_lane 16 j m) t t (lane 16 j w) refl r.held);
      }

  -- one of the last sixteen rounds
  pub done_more : 48 ≤ t → t < 64 → x ≡ get_or w (4 * (t - 48) + j) 0 → Last (mixed core256) (lane 16 j m) 48 (lane 16 j w) → Done h m s t j
      → Done h m s' (t + 1) j
  done_more a b ex l d =
      let p : t % 16 ≡ t - 48 = omega arith in
      round_with (ex ∙ sym (get_or_lane 16 j w (t - 48) (omega arith)) ∙ ap (λ (i : ℕ). get_or (lane 16 j w) i 0) (sym p) ∙ l t a (omega arith)) d

-- after the first 48 rounds
abbrev pub BeforeLast : List ℕ → List ℕ → List ℕ → List ℕ → ℕ → Type 0
BeforeLast h m s w j = Done h m s 48 j × Last (mixed core256) (lane 16 j m) 48 (lane 16 j w)

-- rounds from there to round t, whatever the hash values and blocks
abbrev pub Follow : List ℕ → List ℕ → List ℕ → ℕ → Type 0
Follow w s₀ s t = (h m : List ℕ) → Four (BeforeLast h m s₀ w) → Four (Done h m s t)

pub ran_last : (h m s w : List ℕ) (t j : ℕ) → t ≡ 48 → Ran h m s w t j → BeforeLast h m s w j
ran_last h m s w t j e r =
    (subst (λ (n : ℕ). Done h m s n j) e r.done, λ i a b. r.held.held i (omega arith) (omega arith) (omega arith))

-- the blocks' words, one more of each
pub words_more : (x : List ℕ) (at i v : ℕ) (l r : List ℕ) → v ≡ big 4 x (at + 4 * i) → r ≡ l ++ (v ∷ []) → l ≡ words 4 i x at → r ≡ words 4 (i + 1) x at
unfolding words
words_more x at i v l r ev er el = er ∙ rw (ev, el) (sym (ap (λ (n : ℕ). words 4 n x at) (add-one i)))

-- the closing sums behind the rounds of the block ms
pub compressed : (h s r m ms : List ℕ) (j : ℕ) → lane 16 j m ≡ ms → Done h m s 64 j → r ≡ sums 32 32 h s
    → lane 8 j (sums 32 32 h s) ≡ sums 32 8 (lane 8 j h) (lane 8 j s) → lane 8 j r ≡ compress core256 (lane 8 j h) ms
unfolding compress k256
compressed h s r m ms j em es er el = rw (er, el, es, em)
