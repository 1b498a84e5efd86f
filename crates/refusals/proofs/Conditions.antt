-- What a condition says of numbers, and its test, both ways. Every law asks for orders and equations of numbers alone, so that one
-- `omega arith` answers it.
use Prim.Native.Nat.{ℕ, ◌<◌, ◌≤◌}
use mathlib.Core.Bool.{Bool, true, false, not, ◌&&◌, ◌||◌, true≢false, false≢true}
use mathlib.Core.Path.{◌≡◌, refl, sym, ◌∙◌}
use lib.Dec.{ltb, eqb}
use borrow.Author.Tests.{lt-ltb, le-ltb, ltb-true, ltb-false, le-leb, lt-leb, leb-true, leb-false, eqb-true, eqb-false, eq-eqb, ne_eqb}
use Rattle.refusals.specs.Refusals.{Cond, ◌<?◌, ◌≤?◌, ◌≡?◌, ◌≢?◌, ◌and◌, ◌or◌, holds, Says, pick}

not_not : (b : Bool) → not b ≡ false → b ≡ true
not_not true e = refl
not_not false e = sym e

not_true : (b : Bool) → not b ≡ true → b ≡ false
not_true true e = sym e
not_true false e = refl

and_left : (a b : Bool) → (a && b) ≡ true → a ≡ true
and_left true b e = refl
and_left false b e = e

and_right : (a b : Bool) → (a && b) ≡ true → b ≡ true
and_right true b e = e
and_right false b e = absurd (false≢true e)

and_rest : (a b : Bool) → a ≡ true → (a && b) ≡ false → b ≡ false
and_rest true b p e = e
and_rest false b p e = absurd (false≢true p)

or_left : (a b : Bool) → (a || b) ≡ false → a ≡ false
or_left true b e = e
or_left false b e = refl

or_right : (a b : Bool) → (a || b) ≡ false → b ≡ false
or_right true b e = absurd (true≢false e)
or_right false b e = e

or_rest : (a b : Bool) → a ≡ false → (a || b) ≡ true → b ≡ true
or_rest true b p e = absurd (true≢false p)
or_rest false b p e = e

and_false : {A B : Type 0} (x y : Bool) → (x ≡ true → A) → (B → y ≡ false) → (A → B) → (x && y) ≡ false
and_false true y f g h = g (h (f refl))
and_false false y f g h = refl

or_true : {A B : Type 0} (x y : Bool) → (x ≡ false → A) → (B → y ≡ true) → (A → B) → (x || y) ≡ true
or_true true y f g h = refl
or_true false y f g h = g (h (f refl))

-- what a condition says of numbers, and its test, both ways
record Tells (c : Cond) : Type 0 where
  yes : Says true c → holds c ≡ true
  no : Says false c → holds c ≡ false
  if_yes : holds c ≡ true → Says true c
  if_no : holds c ≡ false → Says false c

tells : (c : Cond) → Tells c
unfolding holds
tells (a <? b) = record { yes = lt-ltb a b; no = le-ltb a b; if_yes = ltb-true a b; if_no = ltb-false a b }
tells (a ≤? b) = record { yes = le-leb a b; no = lt-leb a b; if_yes = leb-true a b; if_no = leb-false a b }
tells (a ≡? b) = record { yes = eq-eqb a b; no = ne_eqb a b; if_yes = eqb-true a b; if_no = eqb-false a b }
tells (a ≢? b) =
    record {
      yes = λ h. rw (ne_eqb a b h);
      no = λ h. rw (eq-eqb a b h);
      if_yes = λ e. eqb-false a b (not_true (eqb a b) e);
      if_no = λ e. eqb-true a b (not_not (eqb a b) e);
    }
tells (c and d) =
    let x = tells c in
    let y = tells d in
    record {
      yes = λ h. rw (x.yes h.0, y.yes h.1);
      no = λ h. and_false (holds c) (holds d) x.if_yes y.no h;
      if_yes = λ e. (x.if_yes (and_left (holds c) (holds d) e), y.if_yes (and_right (holds c) (holds d) e));
      if_no = λ e h. y.if_no (and_rest (holds c) (holds d) (x.yes h) e);
    }
tells (c or d) =
    let x = tells c in
    let y = tells d in
    record {
      yes = λ h. or_true (holds c) (holds d) x.if_no y.yes h;
      no = λ h. rw (x.no h.0, y.no h.1);
      if_yes = λ e h. y.if_yes (or_rest (holds c) (holds d) (x.no h) e);
      if_no = λ e. (x.if_no (or_left (holds c) (holds d) e), y.if_no (or_right (holds c) (holds d) e));
    }

pub says : (b : Bool) (c : Cond) → Says b c → b ≡ holds c
says true c h = sym ((tells c).yes h)
says false c h = sym ((tells c).no h)

pub said : (b : Bool) (c : Cond) → b ≡ holds c → Says b c
said true c e = (tells c).if_yes (sym e)
said false c e = (tells c).if_no (sym e)

-- the condition that a test returned
pub held : (b : Bool) (c : Cond) → b ≡ holds c → b ≡ true → Says true c
held b c e t = said true c (sym t ∙ e)

pub fell : (b : Bool) (c : Cond) → b ≡ holds c → b ≡ false → Says false c
fell b c e t = said false c (sym t ∙ e)

pub pick_yes : (c : Cond) (x y v : ℕ) → Says true c → v ≡ x → v ≡ pick c x y
unfolding pick
pick_yes c x y v h e = rw (← says true c h) e

pub pick_no : (c : Cond) (x y v : ℕ) → Says false c → v ≡ y → v ≡ pick c x y
unfolding pick
pick_no c x y v h e = rw (← says false c h) e

-- a test of two numbers answers as a condition that says the same of them
pub lt_says : (a b : ℕ) (c : Cond) → (a < b → Says true c) → (b ≤ a → Says false c) → ltb a b ≡ holds c
lt_says a b c f g = by_test (ltb a b) refl
  where
    by_test : (t : Bool) → ltb a b ≡ t → t ≡ holds c
    by_test true e = says true c (f (ltb-true a b e))
    by_test false e = says false c (g (ltb-false a b e))

pub ne_says : (a b : ℕ) (c : Cond) → ((a ≡ b → ⊥) → Says true c) → (a ≡ b → Says false c) → not (eqb a b) ≡ holds c
ne_says a b c f g = by_test (eqb a b) refl
  where
    by_test : (t : Bool) → eqb a b ≡ t → not t ≡ holds c
    by_test true e = says false c (g (eqb-true a b e))
    by_test false e = says true c (f (eqb-false a b e))

pub eq_says : (a b : ℕ) (c : Cond) → (a ≡ b → Says true c) → ((a ≡ b → ⊥) → Says false c) → eqb a b ≡ holds c
eq_says a b c f g = by_test (eqb a b) refl
  where
    by_test : (t : Bool) → eqb a b ≡ t → t ≡ holds c
    by_test true e = says true c (f (eqb-true a b e))
    by_test false e = says false c (g (eqb-false a b e))
