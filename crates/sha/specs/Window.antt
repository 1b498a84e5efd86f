-- Rounds over a schedule of which sixteen words are kept: each new word stands in the place of the word sixteen before it. No definition of a
-- hash function is made of these; they are what contracts of private functions inside the block steps say. `LastSixteen` ties the words kept
-- to the whole schedule.
use Rattle.std.specs.Prelude.{ℕ, zero, suc, ◌+◌, ◌-◌, ◌%◌, ◌<◌, ◌≤◌, List, ◌≡◌, length, get_or, set}
use Rattle.sha.specs.Schedule.{Rule, grown}
use Rattle.sha.specs.Sha2.{Core, round}

-- sixteen words whose word at place i, modulo 16, has given way to the one sixteen after it
unfoldable pub renewed : Rule → ℕ → List ℕ → List ℕ
renewed f i w = set w (i % 16) (f (λ d. get_or w ((i + 16 - d) % 16) 0))

-- the same for n places from place i on, one after the other
unfoldable pub rolled : Rule → ℕ → ℕ → List ℕ → List ℕ
rolled f i zero w = w
rolled f i (suc n) w = renewed f (i + n) (rolled f i n w)

-- w holds the last sixteen of the first 16 + t words of the schedule of the block ms, word j at place j modulo 16
abbrev pub Last : Rule → List ℕ → ℕ → List ℕ → Type 0
Last f ms t w = (j : ℕ) → t ≤ j → j < t + 16 → get_or w (j % 16) 0 ≡ get_or (grown f t ms) j 0

-- so do the words of the block itself, and each new word in its place keeps it so
pub record LastSixteen (f : Rule) : Type 0 where
  pub opened : (ms : List ℕ) → length ms ≡ 16 → Last f ms 0 ms
  pub kept : (ms w : List ℕ) (t i : ℕ) → length ms ≡ 16 → length w ≡ 16 → t % 16 ≡ i % 16 → Last f ms t w → Last f ms (t + 1) (renewed f i w)

-- a round, from its number, the working words and a word of the schedule
abbrev pub Round : Type 0
Round = ℕ → List ℕ → ℕ → List ℕ

-- the working words after the n rounds from t + i on, each with the word at its place
unfoldable pub ran : Round → ℕ → ℕ → ℕ → List ℕ → List ℕ → List ℕ
ran g t i zero s w = s
ran g t i (suc n) s w = g (t + (i + n)) (ran g t i n s w) (get_or w ((i + n) % 16) 0)

-- SHA-2's round, with the constant at place t of a list
abbrev pub round_of_core : Core → List ℕ → Round
round_of_core q ks t s x = round q s (get_or ks t 0) x
