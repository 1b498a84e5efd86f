-- What is wrong at a slot, by the thing that it covers. Assumes nothing.
use Prim.Native.Nat.{ℕ, ◌+◌, ◌<◌}
use mathlib.Core.Bool.{Bool, true, false, cond, false≢true}
use mathlib.Core.List.{List, [], ◌∷◌}
use mathlib.Core.Logic.{◌⊎◌, inl, inr}
use mathlib.Core.Path.{◌≡◌, refl, sym, ap, subst, ◌∙◌}
use native.Mathlib.Omega.{arith}
use lib.Dec.{eqb}
use borrow.Author.Tests.{eq-eqb, ne_eqb, eqb-true, eqb-false}
use Rattle.digest.specs.Kinds.{digest_of}
use Rattle.digest.specs.Same.{same}
use Rattle.refusals.specs.Refusals.{holds, lowest, faulty, refuse, accepted, first}
use Rattle.refusals.proofs.Conditions.{says}
use Rattle.refusals.proofs.Positions.{lowest_none, lowest_more, lowest_stop}
use Rattle.refusals.proofs.Several.{fault_decides}
use Rattle.refusals.proofs.Exact.{passes}
use Rattle.refusals.specs.declared.Answer.{Answer}
use Rattle.refusals.specs.declared.refusal.Refusal.{Refusal}
use Rattle.refusals.specs.Named.{answer_of}
use Rattle.refusals.proofs.Results.{refused}
use Rattle.layout.specs.CodeDirectory.{hash_type}
use Rattle.superblob.specs.Rows.{has, blob_of}
use Rattle.directory.specs.Rows.{special_slot}
use Rattle.slots.specs.Slots.{Sides, all_zero, is_empty, there, thing, fault_of, fault, special_rows}
use Rattle.slots.specs.Lent.{is_there, bytes_of, slot_answer}
use Rattle.std.specs.Bool.{then_some}
use denote.Ref.{Bor}
use Rattle.slots.proofs.Matches.{fault_known}

-- a thing that is there by a test
pub there_by : (t : Bool) (b : Bor (List ℕ)) → is_there (then_some t b) ≡ t
there_by true b = refl
there_by false b = refl

pub bytes_by : (t : Bool) (b : Bor (List ℕ)) → is_there (then_some t b) ≡ true → bytes_of (then_some t b) ≡ b.now
bytes_by true b e = refl
bytes_by false b e = absurd (false≢true e)

-- THE FAULT

-- by whether the slot's bytes are all zero, the thing is there, and the digests agree
pub fault_empty : (z t a : Bool) → z ≡ true → t ≡ true → 23 ≡ fault_of z t a
unfolding fault_of
fault_empty z t a p q = rw (p, q)

pub fault_none : (z t a : Bool) → z ≡ true → t ≡ false → 0 ≡ fault_of z t a
unfolding fault_of
fault_none z t a p q = rw (p, q)

pub fault_missing : (z t a : Bool) → z ≡ false → t ≡ false → 21 ≡ fault_of z t a
unfolding fault_of
fault_missing z t a p q = rw (p, q)

pub fault_agrees : (z t a : Bool) → z ≡ false → t ≡ true → a ≡ true → 0 ≡ fault_of z t a
unfolding fault_of
fault_agrees z t a p q r = rw (p, q, r)

pub fault_differs : (z t a : Bool) → z ≡ false → t ≡ true → a ≡ false → 22 ≡ fault_of z t a
unfolding fault_of
fault_differs z t a p q r = rw (p, q, r)

-- the digest by the kind that is given
pub by_kind : (kind given : ℕ) (b slot : List ℕ) (r : Bool) → given ≡ kind → r ≡ same (digest_of given b) slot → same (digest_of kind b) slot ≡ r
by_kind kind given b slot r e h = ap (λ (k : ℕ). same (digest_of k b) slot) (sym e) ∙ sym h

-- the fault of a thing that is not there goes by the slot alone
pub fault_same : (z t a b : Bool) → (t ≡ true → a ≡ b) → fault_of z t a ≡ fault_of z t b
unfolding fault_of
fault_same true true a b h = refl
fault_same true false a b h = refl
fault_same false true a b h = ap (fault_of false true) (h refl)
fault_same false false a b h = refl

module _ (s : List ℕ) (x : Sides) where
  -- THE THING, by what slot k covers

  pub there_info : (k : ℕ) → k ≡ 1 → x.info_there ≡ there s x k
  unfolding there
  there_info k e = rw (eq-eqb k 1 e)

  pub thing_info : (k : ℕ) → k ≡ 1 → x.info ≡ thing s x k
  unfolding thing
  thing_info k e = rw (eq-eqb k 1 e)

  pub there_resources : (k : ℕ) → k ≡ 3 → x.resources_there ≡ there s x k
  unfolding there
  there_resources k e = rw (ne_eqb k 1 (omega arith), eq-eqb k 3 e)

  pub thing_resources : (k : ℕ) → k ≡ 3 → x.resources ≡ thing s x k
  unfolding thing
  thing_resources k e = rw (ne_eqb k 1 (omega arith), eq-eqb k 3 e)

  pub nothing_there : (k : ℕ) → (k ≡ 4) ⊎ (k ≡ 6) → false ≡ there s x k
  unfolding there
  nothing_there k (inl e) = rw (ne_eqb k 1 (omega arith), ne_eqb k 3 (omega arith), eq-eqb k 4 e)
  nothing_there k (inr e) = rw (ne_eqb k 1 (omega arith), ne_eqb k 3 (omega arith), ne_eqb k 4 (omega arith), eq-eqb k 6 e)

  pub there_blob : (k : ℕ) → (k ≡ 1 → ⊥) → (k ≡ 3 → ⊥) → (k ≡ 4 → ⊥) → (k ≡ 6 → ⊥) → holds (has s k) ≡ there s x k
  unfolding there
  there_blob k h1 h3 h4 h6 = rw (ne_eqb k 1 h1, ne_eqb k 3 h3, ne_eqb k 4 h4, ne_eqb k 6 h6)

  pub thing_blob : (k : ℕ) → (k ≡ 1 → ⊥) → (k ≡ 3 → ⊥) → blob_of s k ≡ thing s x k
  unfolding thing
  thing_blob k h1 h3 = rw (ne_eqb k 1 h1, ne_eqb k 3 h3)

-- what the test of slot k answers, by its fault
pub slot_refuses : (n k : ℕ) (r : Refusal) → answer_of r ≡ slot_answer n k → (n ≡ 0 → ⊥) × (answer_of r ≡ refuse n k)
slot_refuses n k r e = by_test (eqb n 0) refl e
  where
    by_test : (t : Bool) → eqb n 0 ≡ t → answer_of r ≡ cond t accepted (refuse n k) → (n ≡ 0 → ⊥) × (answer_of r ≡ refuse n k)
    by_test true q h = absurd (refused r (ap (λ (a : Answer). a.number) h))
    by_test false q h = (eqb-false n 0 q, h)

pub slot_goes : (n k : ℕ) → accepted ≡ slot_answer n k → n ≡ 0
slot_goes n k e = by_test (eqb n 0) refl e
  where
    by_test : (t : Bool) → eqb n 0 ≡ t → accepted ≡ cond t accepted (refuse n k) → n ≡ 0
    by_test true q h = eqb-true n 0 q
    by_test false q h = sym (ap (λ (a : Answer). a.number) h)

module _ (s d : List ℕ) (x : Sides) where
  -- by the thing that slot k covers
  abbrev at : ℕ → Bool → List ℕ → ℕ
  at k t b = fault_of (all_zero (special_slot d k)) t (same (digest_of (hash_type d) b) (special_slot d k))

  pub fault_zero : (k : ℕ) → k ≡ 0 → 0 ≡ fault s d x k
  unfolding fault
  fault_zero k e = rw (eq-eqb k 0 e)

  pub fault_info : (k v : ℕ) → k ≡ 1 → v ≡ at k x.info_there x.info → v ≡ fault s d x k
  unfolding fault is_empty there thing
  fault_info k v e h = rw (ne_eqb k 0 (omega arith), eq-eqb k 1 e) h

  pub fault_resources : (k v : ℕ) → k ≡ 3 → v ≡ at k x.resources_there x.resources → v ≡ fault s d x k
  unfolding fault is_empty there thing
  fault_resources k v e h = rw (ne_eqb k 0 (omega arith), ne_eqb k 1 (omega arith), eq-eqb k 3 e) h

  pub fault_nothing : (k v : ℕ) → (k ≡ 4) ⊎ (k ≡ 6) → v ≡ at k false (blob_of s k) → v ≡ fault s d x k
  unfolding fault is_empty there thing
  fault_nothing k v (inl e) h = rw (ne_eqb k 0 (omega arith), ne_eqb k 1 (omega arith), ne_eqb k 3 (omega arith), eq-eqb k 4 e) h
  fault_nothing k v (inr e) h =
      rw (ne_eqb k 0 (omega arith), ne_eqb k 1 (omega arith), ne_eqb k 3 (omega arith), ne_eqb k 4 (omega arith), eq-eqb k 6 e) h

  pub fault_blob : (k v : ℕ) → (k ≡ 0 → ⊥) → (k ≡ 1 → ⊥) → (k ≡ 3 → ⊥) → (k ≡ 4 → ⊥) → (k ≡ 6 → ⊥)
      → v ≡ at k (holds (has s k)) (blob_of s k) → v ≡ fault s d x k
  unfolding fault is_empty there thing
  fault_blob k v h0 h1 h3 h4 h6 h = rw (ne_eqb k 0 h0, ne_eqb k 1 h1, ne_eqb k 3 h3, ne_eqb k 4 h4, ne_eqb k 6 h6) h

  -- slot k, from 1 on, by its thing where it is there
  pub fault_by : (k kind : ℕ) (slot : List ℕ) (t : Bool) (b : List ℕ) → 0 < k → kind ≡ hash_type d → slot ≡ special_slot d k
      → t ≡ there s x k → (t ≡ true → b ≡ thing s x k) → fault_of (all_zero slot) t (same (digest_of kind b) slot) ≡ fault s d x k
  unfolding fault is_empty
  fault_by k kind slot t b h p q e f =
      rw (p, q, ne_eqb k 0 (omega arith), ← e)
      (fault_same (all_zero (special_slot d k)) t _ _ (λ w. ap (λ (l : List ℕ). same (digest_of (hash_type d) l) (special_slot d k)) (f w)))

  -- slot by slot
  pub first_slot : lowest (faulty (fault s d x)) 1 ≡ 1
  first_slot = lowest_more (faulty (fault s d x)) 0 (lowest_none (faulty (fault s d x))) (says false (faulty (fault s d x) 0) (sym (fault_zero 0 refl)))

  pub slot_fails : (k v : ℕ) → v ≡ fault s d x k → (v ≡ 0 → ⊥) → true ≡ holds (faulty (fault s d x) k)
  slot_fails k v e h = says true (faulty (fault s d x) k) (λ z. h (e ∙ z))

  pub slot_passes : (k : ℕ) → lowest (faulty (fault s d x)) k ≡ k → accepted ≡ slot_answer (fault s d x k) k → lowest (faulty (fault s d x)) (k + 1) ≡ k + 1
  slot_passes k h e = lowest_more (faulty (fault s d x)) k h (says false (faulty (fault s d x) k) (slot_goes (fault s d x k) k e))

  -- THE TABLE

  pub slots_pass : (k : ℕ) → k ≡ 12 → lowest (faulty (fault s d x)) k ≡ k → accepted ≡ first (special_rows s d x) accepted
  unfolding special_rows
  slots_pass k h e =
      let f : lowest (faulty (fault s d x)) 12 ≡ 12 = subst (λ (n : ℕ). lowest (faulty (fault s d x)) n ≡ n) h e in
      passes _ accepted (omega arith)

  pub slots_refuse : (k : ℕ) (r : Refusal) → k < 12 → lowest (faulty (fault s d x)) k ≡ k → answer_of r ≡ slot_answer (fault s d x k) k
      → answer_of r ≡ first (special_rows s d x) accepted
  unfolding special_rows
  slots_refuse k r h e q =
      let w = slot_refuses (fault s d x k) k r q in
      let at = lowest_stop (faulty (fault s d x)) 12 k h e (slot_fails k (fault s d x k) refl w.0) in
      w.1 ∙ fault_decides 12 (fault s d x) (21 ∷ 22 ∷ 23 ∷ []) accepted (fault s d x k) k at h refl w.0 (fault_known s d x k)
