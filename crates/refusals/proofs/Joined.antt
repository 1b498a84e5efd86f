-- One table after another.
use mathlib.Core.List.{List, [], ◌∷◌, ◌++◌}
use mathlib.Core.Bool.{Bool, true, false, cond}
use mathlib.Core.Path.{◌≡◌, refl, sym, ap, ◌∙◌}
use Rattle.refusals.specs.declared.Answer.{Answer}
use Rattle.refusals.specs.Refusals.{holds, Row, row, refuse, accepted, first, Passes}
use Rattle.refusals.proofs.Exact.{Unused, passes, passed}

pub first_append : (rows more : List Row) (done : Answer) → first (rows ++ more) done ≡ first rows (first more done)
unfolding first
first_append [] more done = refl
first_append (row n c p ∷ rows) more done = ap (cond (holds c) (refuse n p)) (first_append rows more done)

-- a refusal of the first table stands, whatever answer of number 0 it gives where it passes
first_stops : (rows more : List Row) (d e : Answer) → d.number ≡ 0 → ((first rows d).number ≡ 0 → ⊥) → first rows d ≡ first (rows ++ more) e
unfolding first
first_stops [] more d e z ne = absurd (ne z)
first_stops (row m c q ∷ rows) more d e z ne = at_row (first_stops rows more d e z) (holds c) ne
  where
    at_row : (((first rows d).number ≡ 0 → ⊥) → first rows d ≡ first (rows ++ more) e) → (b : Bool)
        → ((cond b (refuse m q) (first rows d)).number ≡ 0 → ⊥)
        → cond b (refuse m q) (first rows d) ≡ cond b (refuse m q) (first (rows ++ more) e)
    at_row f true ne = refl
    at_row f false ne = f ne

pub stops_at : (rows more : List Row) (d e a : Answer) → d.number ≡ 0 → a ≡ first rows d → (a.number ≡ 0 → ⊥) → a ≡ first (rows ++ more) e
stops_at rows more d e a z f ne = f ∙ first_stops rows more d e z (rw (← f) ne)

-- .. also with no table behind it
pub stops_alone : (rows : List Row) (d e a : Answer) → d.number ≡ 0 → a ≡ first rows d → (a.number ≡ 0 → ⊥) → a ≡ first rows e
unfolding first
stops_alone rows d e a z f ne = stops_at rows [] d e a z f ne ∙ first_append rows [] e

-- the first table passes where its answer has number 0, and then the second decides
pub passed_at : (rows : List Row) (d a : Answer) → Unused rows 0 → a ≡ first rows d → a.number ≡ 0 → Passes rows
passed_at rows d a u f z = passed rows d 0 u (sym (ap (λ (x : Answer). x.number) f) ∙ z)

pub goes_on : (rows more : List Row) (e b : Answer) → Passes rows → b ≡ first more e → b ≡ first (rows ++ more) e
goes_on rows more e b h f = f ∙ passes rows (first more e) h ∙ sym (first_append rows more e)

-- the same where the first table's own answer is `accepted`
pub stops : (rows more : List Row) (done a : Answer) → a ≡ first rows accepted → (a.number ≡ 0 → ⊥) → a ≡ first (rows ++ more) done
stops rows more done a e ne = stops_at rows more accepted done a refl e ne

pub goes : (rows more : List Row) (done a b : Answer) → Unused rows 0 → a ≡ first rows accepted → a.number ≡ 0 → b ≡ first more done → b ≡ first (rows ++ more) done
goes rows more done a b u e z f = goes_on rows more done b (passed_at rows accepted a u e z) f

-- two tables that pass, one after the other
pub passes_append : (rows more : List Row) → Passes rows → Passes more → Passes (rows ++ more)
passes_append [] more h k = k
passes_append (row n c p ∷ rows) more h k = (h.0, passes_append rows more h.1 k)

-- and both pass where the whole does
pub append_passes : (rows more : List Row) → Passes (rows ++ more) → Passes rows × Passes more
append_passes [] more h = (tt, h)
append_passes (row n c p ∷ rows) more h = let w = append_passes rows more h.1 in ((h.0, w.0), w.1)
