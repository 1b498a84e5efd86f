-- Laws of a test over positions that gives several numbers: all its rows pass exactly when no position has a fault.
use Prim.Native.Nat.{ℕ, ◌<◌}
use mathlib.Core.List.{List, [], ◌∷◌}
use mathlib.Core.Bool.{Bool, true, false}
use mathlib.Core.Path.{◌≡◌, refl, sym, ap, ◌∙◌}
use mathlib.Core.Logic.{⊎_elim}
use lib.Dec.{ltb, eqb}
use borrow.Author.Tests.{ltb-true, ltb-false, eqb-true, eqb-false}
use native.Mathlib.Omega.{arith}
use Rattle.refusals.specs.Refusals.{lowest, faulty, among, Passes, Decides, either, refuse, first, OneOf}
use Rattle.refusals.specs.declared.Answer.{Answer}
use Rattle.refusals.proofs.Conditions.{said}
use Rattle.refusals.proofs.Exact.{decides}
use Rattle.refusals.proofs.Positions.{none_fails, lowest_below, lowest_fails}

pub clear_passes : (b : ℕ) (fault : ℕ → ℕ) (ns : List ℕ) → ((i : ℕ) → i < b → fault i ≡ 0) → Passes (among b fault ns)
clear_passes b fault [] h = tt
clear_passes b fault (n ∷ ns) h =
    let e = none_fails (faulty fault) b h in
    ((λ l. absurd (omega arith)), clear_passes b fault ns h)

module _ (b : ℕ) (fault : ℕ → ℕ) where
  abbrev q : ℕ
  q = lowest (faulty fault) b

  none : q < b → (ns : List ℕ) → OneOf ns (fault q) → Passes (among b fault ns) → fault q ≡ 0
  none m [] k p = k
  none m (n ∷ ns) k p = ⊎_elim (λ e. absurd (p.0 m e)) (λ k'. none m ns k' p.1) k

  pub passes_clear : (ns : List ℕ) → ((i : ℕ) → i < b → OneOf ns (fault i)) → Passes (among b fault ns) → (i : ℕ) → i < b → fault i ≡ 0
  passes_clear ns known h i l = by_test (ltb q b) refl
    where
      by_test : (t : Bool) → ltb q b ≡ t → fault i ≡ 0
      by_test true e =
          let m = ltb-true q b e in
          absurd (said true (faulty fault q) (lowest_fails (faulty fault) b m) (none m ns (known q m) h))
      by_test false e = said false (faulty fault i) (lowest_below (faulty fault) b (ltb-false q b e) i l)

  decides_at : (ns : List ℕ) → q < b → (n : ℕ) → n ≡ fault q → (n ≡ 0 → ⊥) → OneOf ns n → Decides (among b fault ns) n q
  decides_at [] l n e z k = absurd (z k)
  decides_at (m ∷ ns) l n e z k = by_test (eqb m n) refl (decides_at ns l n e z)
    where
      by_test : (t : Bool) → eqb m n ≡ t → (OneOf ns n → Decides (among b fault ns) n q)
          → either t (((q < b) × (fault q ≡ m)) × (q ≡ q)) ((q < b → fault q ≡ m → ⊥) × Decides (among b fault ns) n q)
      by_test true g f = ((l, sym e ∙ sym (eqb-true m n g)), refl)
      by_test false g f = (
        (λ l' h. eqb-false m n g (sym h ∙ sym e)),
        f (⊎_elim (λ p. absurd (eqb-false m n g (sym p))) (λ r. r) k),
      )

  -- the lowest position with a fault gives its number and its place
  pub fault_decides : (ns : List ℕ) (done : Answer) (n p : ℕ) → p ≡ q → p < b → n ≡ fault p → (n ≡ 0 → ⊥) → OneOf ns n
      → refuse n p ≡ first (among b fault ns) done
  fault_decides ns done n p e l f z k =
      rw e (decides (among b fault ns) done n q (decides_at ns (rw e at l) n (f ∙ ap fault e) z k))
