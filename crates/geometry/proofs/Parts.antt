-- Laws of `part` and `splice`.
use Prim.Native.Nat.{ℕ, zero, suc, ◌+◌, ◌-◌, ◌≤◌, ◌<◌}
use mathlib.Core.Path.{◌≡◌, sym, ap, subst, ◌∙◌}
use mathlib.Core.List.{List, [], ◌∷◌, ◌++◌, append-nil}
use native.Mathlib.Nat.{zero-sub, sub-zero, suc-sub-suc, add-zero, add-sub_of_le}
use native.Mathlib.Omega.{arith}
use lib.ListN.{length, get_or, take, drop, length-append, length-drop, take-append-drop}
use lib.Seq.{take_all, get_or-take, get_or-drop, take-take, take-nil, take-append-le, drop-append-add, drop-drop, length-take-le}
use Rattle.geometry.specs.Pages.{part, splice}

-- PARTS

-- the same, the end first
part_slice : (l : List ℕ) (a e : ℕ) → part l a e ≡ drop a (take e l)
part_slice l zero e = rw sub-zero
part_slice [] (suc a) zero = rw zero-sub
part_slice [] (suc a) (suc e) = rw take-nil
part_slice (x ∷ l) (suc a) zero = rw zero-sub
part_slice (x ∷ l) (suc a) (suc e) = rw suc-sub-suc (part_slice l a e)

-- a part before the end of the first of two lists
part_left : (x y : List ℕ) (a e : ℕ) → e ≤ length x → part (x ++ y) a e ≡ part x a e
part_left x y a e h = part_slice (x ++ y) a e ∙ ap (drop a) (take-append-le e x y h) ∙ sym (part_slice x a e)

-- a part of the second of two lists
part_right : (x y : List ℕ) (a e : ℕ) → length x ≤ a → part (x ++ y) a e ≡ part y (a - length x) (e - length x)
part_right x y a e h =
    let q : length x + (a - length x) ≡ a = add-sub_of_le h in
    let r : e - length x - (a - length x) ≡ e - a = omega arith in
    rw r
    (subst (λ (k : ℕ). take (e - a) (drop k (x ++ y)) ≡ take (e - a) (drop (a - length x) y)) q
    (ap (take (e - a)) (drop-append-add x y (a - length x))))

-- SPLICES

module _ (l : List ℕ) (at : ℕ) (b : List ℕ) (fits : at + length b ≤ length l) where
  front_length : length (take at l) ≡ at
  front_length = length-take-le at l (omega arith)

  both_length : length (take at l ++ b) ≡ at + length b
  both_length = length-append (take at l) b ∙ ap (λ (k : ℕ). k + length b) front_length

  pub splice_length : length (splice l at b) ≡ length l
  splice_length =
      length-append (take at l ++ b) (drop (at + length b) l)
      ∙ omega (arith, both_length, length-drop (at + length b) l)

  pub splice_before : (a e : ℕ) → e ≤ at → part (splice l at b) a e ≡ part l a e
  splice_before a e h =
      part_left (take at l ++ b) (drop (at + length b) l) a e (omega (arith, both_length))
      ∙ part_left (take at l) b a e (omega (arith, front_length))
      ∙ part_slice (take at l) a e
      ∙ ap (drop a) (take-take e at l h)
      ∙ sym (part_slice l a e)

  pub splice_inside : (a e : ℕ) → at ≤ a → e ≤ at + length b → part (splice l at b) a e ≡ part b (a - at) (e - at)
  splice_inside a e h k =
      part_left (take at l ++ b) (drop (at + length b) l) a e (omega (arith, both_length))
      ∙ part_right (take at l) b a e (omega (arith, front_length))
      ∙ ap (λ (n : ℕ). part b (a - n) (e - n)) front_length

  pub splice_after : (a e : ℕ) → at + length b ≤ a → part (splice l at b) a e ≡ part l a e
  splice_after a e h =
      let r : e - (at + length b) - (a - (at + length b)) ≡ e - a = omega arith in
      part_right (take at l ++ b) (drop (at + length b) l) a e (omega (arith, both_length))
      ∙ ap (λ (n : ℕ). part (drop (at + length b) l) (a - n) (e - n)) both_length
      ∙ ap (take (e - (at + length b) - (a - (at + length b)))) (drop-drop (a - (at + length b)) (at + length b) l ∙ ap (λ (n : ℕ). drop n l) (add-sub_of_le h))
      ∙ ap (λ (n : ℕ). take n (drop a l)) r

-- MORE OF PARTS AND SPLICES

pub part_at : (l : List ℕ) (a e j : ℕ) → j < e - a → get_or (part l a e) j 0 ≡ get_or l (a + j) 0
part_at l a e j h = rw (get_or-take, get_or-drop)

pub part_part : (l : List ℕ) (a e x y : ℕ) → a + y ≤ e → part (part l a e) x y ≡ part l (a + x) (a + y)
part_part l a e x y h =
    let q : a + y - (a + x) ≡ y - x = omega arith in
    part_slice (part l a e) x y
    ∙ ap (drop x) (take-take y (e - a) (drop a l) (omega arith))
    ∙ sym (part_slice (drop a l) x y)
    ∙ ap (take (y - x)) (drop-drop x a l)
    ∙ ap (λ (n : ℕ). take n (drop (a + x) l)) (sym q)

pub splice_none : (l : List ℕ) (at : ℕ) (b : List ℕ) → length b ≡ 0 → splice l at b ≡ l
splice_none l at [] h = rw (add-zero, append-nil) (take-append-drop at l)
splice_none l at (x ∷ b) h = absurd (omega arith)

-- a splice below the limit leaves what is past it
pub splice_past : (l : List ℕ) (at : ℕ) (b : List ℕ) (limit : ℕ) → at + length b ≤ limit → limit ≤ length l → drop limit (splice l at b) ≡ drop limit l
splice_past l at b limit h u =
    let n : length (splice l at b) ≡ length l = splice_length l at b (omega arith) in
    let x : drop limit (splice l at b) ≡ part (splice l at b) limit (length l) = sym (take_all (length l - limit) (drop limit (splice l at b)) (omega (arith, length-drop limit (splice l at b)))) in
    let y : part l limit (length l) ≡ drop limit l = take_all (length l - limit) (drop limit l) (omega (arith, length-drop limit l)) in
    x ∙ splice_after l at b (omega arith) limit (length l) h ∙ y

-- a part below the limit is a part of what is below it
pub part_below : (l : List ℕ) (limit a e : ℕ) → e ≤ limit → part l a e ≡ part (take limit l) a e
part_below l limit a e h = part_slice l a e ∙ ap (drop a) (sym (take-take e limit l h)) ∙ sym (part_slice (take limit l) a e)
