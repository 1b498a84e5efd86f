-- The schedule of a block, FIPS 180-4, sections 6.1.2, 6.2.2 and 6.4.2, step 1, over the rule by which its words follow one another.
use Rattle.std.specs.Prelude.{ℕ, zero, suc, ◌+◌, ◌-◌, List, [], ◌∷◌, ◌++◌, get_or}

-- a rule gives a word from the words before it, and asks for the one d places before by d
abbrev pub Rule : Type 0
Rule = (ℕ → ℕ) → ℕ

-- a block's 16 words and the n that follow them
unfoldable pub grown : Rule → ℕ → List ℕ → List ℕ
grown f zero ms = ms
grown f (suc n) ms = grown f n ms ++ (f (λ d. get_or (grown f n ms) (16 + n - d) 0) ∷ [])
