-- The words of four messages side by side: word i of message j stands at place 4 * i + j. No definition of a hash function is made of these;
-- they are what contracts of private functions say.
use Rattle.std.specs.Prelude.{ℕ, zero, suc, ◌+◌, ◌*◌, List, [], ◌∷◌, ◌++◌, get_or}

-- the first n words of message j
unfoldable pub lane : ℕ → ℕ → List ℕ → List ℕ
lane zero j xs = []
lane (suc n) j xs = lane n j xs ++ (get_or xs (4 * n + j) 0 ∷ [])

-- what holds of each message
abbrev pub Four : (ℕ → Type 0) → Type 0
Four p = p 0 × p 1 × p 2 × p 3
