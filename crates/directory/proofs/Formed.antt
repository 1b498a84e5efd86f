-- Tests 10 to 18 and the directory that is well formed, test by test; and so tests 1 to 18 and the signature.
use Prim.Native.Nat.{ℕ, ◌+◌, ◌-◌, ◌<◌, ◌≤◌}
use mathlib.Core.Bool.{Bool, true, false}
use mathlib.Core.List.{List}
use mathlib.Core.Logic.{◌⊎◌, inl, inr}
use mathlib.Core.Path.{◌≡◌, refl, sym, subst}
use native.Mathlib.Omega.{arith}
use lib.Dec.{eqb}
use lib.ListN.{length, get_or}
use borrow.Author.Tests.{eqb-true, eqb-false}
use Rattle.refusals.specs.declared.Answer.{Answer}
use Rattle.refusals.specs.Refusals.{accepted, first, Passes}
use Rattle.refusals.proofs.Conditions.{said}
use Rattle.refusals.proofs.Positions.{lowest_before, lowest_fails, lowest_most, some_fails}
use Rattle.refusals.proofs.Joined.{passes_append, append_passes, passed_at}
use Rattle.layout.specs.CodeDirectory.{KnownKind, hash_type, ident_offset, page_size, scatter_offset, code_limit64}
use Rattle.superblob.specs.Rows.{rows}
use Rattle.superblob.proofs.Formed.{formed_exactly}
use Rattle.directory.specs.Head.{scatter_version, limit64_version}
use Rattle.directory.specs.Pages.{most_code_limit}
use Rattle.directory.specs.Rows.{directory, hash_outside, zero_at, ident_length, field_rows, slot_rows, blob_rows, directory_rows, signature_rows}
use Rattle.directory.specs.Formed.{DirectoryFormed, DirectoryExactly, SignatureExactly}
use Rattle.directory.proofs.Numbers.{signature_rows_unused}
use Rattle.directory.proofs.Hash.{known, known_passes}
use Rattle.directory.proofs.Flags.{flags_plainly}
use Rattle.directory.proofs.Since.{since_plainly}
use Rattle.directory.proofs.Slots.{slots_inside}

-- TEST 14

one_of : (x : ℕ) → ((x ≡ 0 → ⊥) → (x ≡ 12 → ⊥) → x ≡ 14) → (x ≡ 0) ⊎ ((x ≡ 12) ⊎ (x ≡ 14))
one_of x h = by_test (eqb x 0) refl (eqb x 12) refl
  where
    by_test : (a : Bool) → eqb x 0 ≡ a → (b : Bool) → eqb x 12 ≡ b → (x ≡ 0) ⊎ ((x ≡ 12) ⊎ (x ≡ 14))
    by_test true e b f = inl (eqb-true x 0 e)
    by_test false e true f = inr (inl (eqb-true x 12 f))
    by_test false e false f = inr (inr (h (eqb-false x 0 e) (eqb-false x 12 f)))

-- test 14 passes with the three page sizes
page_size_passes : (x : ℕ) → (x ≡ 0) ⊎ ((x ≡ 12) ⊎ (x ≡ 14)) → (x ≡ 0 → ⊥) → (x ≡ 12 → ⊥) → x ≡ 14
page_size_passes x (inl e) a b = absurd (a e)
page_size_passes x (inr (inl e)) a b = absurd (b e)
page_size_passes x (inr (inr e)) a b = e

-- TEST 18

-- a search that ends before the directory does ends at a zero byte
ends : (d : List ℕ) → ident_length d < length d - ident_offset d → get_or d (ident_offset d + ident_length d) 0 ≡ 0
unfolding ident_length zero_at
ends d h = said true (zero_at d (ident_length d)) (lowest_fails (zero_at d) (length d - ident_offset d) h)

ident_most : (d : List ℕ) → ident_length d ≤ length d - ident_offset d
unfolding ident_length
ident_most d = lowest_most (zero_at d) (length d - ident_offset d)

-- and where there is a zero byte it does
ident_passes : (d : List ℕ) (j : ℕ) → ident_offset d ≤ j → j < length d → get_or d j 0 ≡ 0 → ident_length d ≡ length d - ident_offset d → ⊥
unfolding ident_length zero_at
ident_passes d j l u z e =
    let q : ident_offset d + (j - ident_offset d) ≡ j = omega arith in
    omega (arith, some_fails (zero_at d) (length d - ident_offset d) (j - ident_offset d) (omega arith) (rw q z))

-- the identifier of a well-formed directory ends at its first zero byte, inside the directory
pub record Identifier (d : List ℕ) : Type 0 where
  pub inside : ident_offset d + ident_length d < length d
  pub ends : get_or d (ident_offset d + ident_length d) 0 ≡ 0
  pub not_before : (i : ℕ) → i < ident_length d → get_or d (ident_offset d + i) 0 ≡ 0 → ⊥

not_zero : (d : List ℕ) (i : ℕ) → i < ident_length d → get_or d (ident_offset d + i) 0 ≡ 0 → ⊥
unfolding ident_length zero_at
not_zero d i h = said false (zero_at d i) (lowest_before (zero_at d) (length d - ident_offset d) i h)

pub identifier : (d : List ℕ) → DirectoryFormed d → Identifier d
identifier d f =
    let w = f.ident_ends in
    let ne = ident_passes d w.0 w.1.0 w.1.1.0 w.1.1.1 in
    let l : ident_length d < length d - ident_offset d = omega (arith, ident_most d, ne) in
    record { inside = omega arith; ends = ends d l; not_before = not_zero d }

-- THE DIRECTORY

formed : (d : List ℕ) → Passes (blob_rows d) → DirectoryFormed d
unfolding blob_rows field_rows slot_rows hash_outside
formed d p =
    let q = p.1.1.1.1.1.1.1 in
    let l : ident_length d < length d - ident_offset d = omega (arith, ident_most d, q.1.1.0.1) in
    record {
      version_known = p.0 (omega arith);
      has_version = omega arith;
      has_head = omega arith;
      hash_kind = known (hash_type d) p.1.1.0.0;
      hash_size_known = p.1.1.0.1;
      page_size_known = one_of (page_size d) p.1.1.1.0;
      flags_allowed = (flags_plainly.passes d).0 p.1.1.1.1.0;
      limit64_small = (since_plainly.within limit64_version most_code_limit code_limit64 d).0 p.1.1.1.1.1.0;
      no_scatter = (since_plainly.passes scatter_version scatter_offset d).0 p.1.1.1.1.1.1.0;
      slot_a_page = omega arith;
      few_pages = omega arith;
      few_special_slots = omega arith;
      slots_inside = (slots_inside d).0 q.1.0;
      ident_after_head = omega arith;
      ident_ends = (ident_offset d + ident_length d, (omega arith, (omega arith, ends d l)));
    }

-- row by row: one passes, and then the rest
infixr 5 ◌then◌
◌then◌ : {A B : Type 0} → A → B → A × B
a then b = (a, b)

formed_passes : (d : List ℕ) → DirectoryFormed d → Passes (blob_rows d)
unfolding blob_rows field_rows slot_rows hash_outside
formed_passes d f =
    (λ l. f.version_known)
    then (f.has_version, f.has_head)
    then (known_passes (hash_type d) f.hash_kind, f.hash_size_known)
    then page_size_passes (page_size d) f.page_size_known
    then (flags_plainly.passes d).1 f.flags_allowed
    then (since_plainly.within limit64_version most_code_limit code_limit64 d).1 f.limit64_small
    then (since_plainly.passes scatter_version scatter_offset d).1 f.no_scatter
    then (f.slot_a_page, (f.few_pages, f.few_special_slots))
    then (slots_inside d).1 f.slots_inside
    then (f.ident_after_head, ident_passes d f.ident_ends.0 f.ident_ends.1.0 f.ident_ends.1.1.0 f.ident_ends.1.1.1)
    then tt

pub directory_exactly : DirectoryExactly
directory_exactly d = (formed d, formed_passes d)

-- THE SIGNATURE

pub signature_exactly : SignatureExactly
unfolding signature_rows directory_rows
signature_exactly side s = (
  (λ p.
      let q = append_passes (rows side s) (directory_rows s) p in
      let w = (formed_exactly side s).0 q.0 in
      record { superblob = w.0; short = w.1; has_directory = q.1.0; formed = (directory_exactly (directory s)).0 q.1.1 }),
  λ f.
      passes_append (rows side s) (directory_rows s) ((formed_exactly side s).1 (f.superblob, f.short))
      (f.has_directory, (directory_exactly (directory s)).1 f.formed),
)

-- where tests 1 to 18 answer 0, the kind of the directory that is found is known
pub kind_known : (side : ℕ) (s d : List ℕ) (a : Answer) → a ≡ first (signature_rows side s) accepted → a.number ≡ 0 → d ≡ directory s → KnownKind (hash_type d)
kind_known side s d a e z f =
    let w = (signature_exactly side s).0 (passed_at (signature_rows side s) accepted a (signature_rows_unused side s) e z) in
    subst (λ (b : List ℕ). KnownKind (hash_type b)) (sym f) w.formed.hash_kind
