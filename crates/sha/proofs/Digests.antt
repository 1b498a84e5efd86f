-- How many bytes a digest has, those of the words that it is made of, and a digest cut short, over the hash function. Assumes nothing.
use Prim.Native.Nat.{ℕ, zero, suc, ◌+◌, ◌*◌, ◌/◌, ◌≤◌}
use mathlib.Core.List.{List}
use mathlib.Core.Path.{◌≡◌, refl, sym, ap, ap₂, ◌∙◌}
use native.Mathlib.Nat.{add_comm}
use native.Mathlib.Omega.{arith}
use lib.ListN.{length, take}
use lib.Seq.{length-take-le, take-take, take_all}
use Rattle.sha.specs.Message.{words, padded, all_bytes}
use Rattle.sha.specs.Hash.{Hash, cut_to, chain, chained, digest}
use Rattle.sha.proofs.Blocks.{length_all_bytes, all_bytes_take, all_bytes_front}

module _ (f : Hash) (m : List ℕ) where
  -- the hash value of a message
  abbrev value : List ℕ
  value = chained f f.start (padded f.size m)

  pub digest_length : f.width ≤ f.size * f.count → length (digest f m) ≡ f.width
  unfolding digest
  digest_length h = length-take-le f.width (all_bytes f.size f.count value) (omega (arith, length_all_bytes f.size f.count value))

  -- the digest is at the start of the bytes of words whose first are the hash value
  pub digest_written : (n : ℕ) (v : List ℕ) → f.width ≤ f.size * n → f.width ≤ f.size * f.count → take f.count v ≡ value
      → take f.width (all_bytes f.size n v) ≡ digest f m
  unfolding digest
  digest_written n v hn hc e =
      sym (all_bytes_front f.size n f.count f.width v hn)
      ∙ ap (λ (k : ℕ). take f.width (all_bytes f.size k v)) (add_comm n f.count)
      ∙ all_bytes_front f.size f.count n f.width v hc
      ∙ ap (take f.width) (sym (all_bytes_take f.size f.count f.count v (omega arith)) ∙ ap (all_bytes f.size f.count) e)

-- a digest of all bytes of the first k words, of k + j
pub written : (z k j w : ℕ) (h u r : List ℕ) → u ≡ take k h → length u ≡ k → w ≡ z * k → r ≡ all_bytes z (length u) u → r ≡ take w (all_bytes z (k + j) h)
written z k j w h u r eu lu ew er =
    er
    ∙ ap₂ (all_bytes z) lu eu
    ∙ all_bytes_take z k k h (omega arith)
    ∙ sym (take_all w (all_bytes z k h) (omega (arith, ew, length_all_bytes z k h)))
    ∙ sym (all_bytes_front z k j w h (omega (arith, ew)))

chain_same : (f : Hash) (n : ℕ) (h m : List ℕ) (i : ℕ) → chain (cut_to n f) h m i ≡ chain f h m i
unfolding chain
chain_same f n h m zero = refl
chain_same f n h m (suc i) = ap (λ (x : List ℕ). f.block x (words f.size 16 m (16 * f.size * i))) (chain_same f n h m i)

pub digest_cut : (f : Hash) (n : ℕ) → n ≤ f.width → (m : List ℕ) → digest (cut_to n f) m ≡ take n (digest f m)
unfolding digest chained
digest_cut f n h m =
    let p : List ℕ = padded f.size m in
    let i : ℕ = length p / (16 * f.size) in
    ap (λ (v : List ℕ). take n (all_bytes f.size f.count v)) (chain_same f n f.start p i)
    ∙ sym (take-take n f.width (all_bytes f.size f.count (chain f f.start p i)) h)
