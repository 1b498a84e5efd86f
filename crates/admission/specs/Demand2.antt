-- Demand 2: an image is accepted exactly when every rule holds, and each refusal is given exactly when its own condition is the first to
-- hold.
use Rattle.std.specs.Prelude.{ℕ, ◌+◌, ◌*◌, ◌<◌, ◌≤◌, true, false, cond, List, ◌++◌, ◌⊎◌, ◌↔◌, ◌≡◌, length, get_or}
use Rattle.refusals.specs.declared.Answer.{Answer}
use Rattle.refusals.specs.Refusals.{Says, Decides, Passes, refuse, OverPlainly, AmongPlainly}
use Rattle.digest.specs.Kinds.{KindsPlainly}
use Rattle.layout.specs.CodeDirectory.{KnownKind, hash_type, n_code_slots}
use Rattle.layout.specs.TrustCache.{cache_head, entry_size, entry_count, hash_at}
use Rattle.directory.specs.Rows.{code_slot}
use Rattle.cdhash.specs.Hash.{cdhash}
use Rattle.geometry.specs.Pages.{PagePower, page_count, page_of}
use Rattle.marks.specs.Marks.{slot_at, bad_rows, agrees, AgreesExactly}
use Rattle.trustcache.specs.Order.{OrderPlainly}
use Rattle.trustcache.specs.Rows.{has_hash}
use Rattle.trustcache.specs.Launch.{SelfPlainly, ParentPlainly}
use Rattle.admission.specs.declared.Verdict.{Verdict}
use Rattle.admission.specs.Input.{Lent, slots_by, page_bytes_of, limit_of, slots_of}
use Rattle.admission.specs.Check.{Checked, check_table, verdict_of}
use Rattle.admission.specs.Recheck.{Call, Rechecked, call_rows, remarked}
use Rattle.admission.specs.Meets.{met_by, lent_page}
use Rattle.admission.specs.Admissible.{Admissible}

-- a whole check
pub record Check2 (x : Lent) (marks : List ℕ) (v : Verdict) (after : List ℕ) : Type 0 where
  -- accepted exactly when the image may run
  pub accepts : (v.number ≡ 0) ↔ Admissible x (length marks)
  -- its place is then the entry that lists the directory's hash
  pub entry : (may : Admissible x (length marks)) → v.place ≡ may.entry
  -- refused with n at p exactly when row n of the table holds with place p and no row before it holds
  pub refuses : (n p : ℕ) → (n ≡ 0 → ⊥) → (v ≡ verdict_of (refuse n p)) ↔ Decides (check_table x (length marks)) n p
  -- where it answers 0 or 31 there is one mark a page, and every mark is written: 0 exactly when the page agrees with its slot, else 1
  pub marks_long : (v.number ≡ 0) ⊎ (v.number ≡ 31) → length after ≡ page_count (page_bytes_of x.signature) (limit_of x.signature)
  pub marks_written : (v.number ≡ 0) ⊎ (v.number ≡ 31) → (i : ℕ) → i < page_count (page_bytes_of x.signature) (limit_of x.signature)
      → get_or after i 0
      ≡ cond (agrees (slots_of x.signature) i (page_of (page_bytes_of x.signature) (limit_of x.signature) i x.image)) 0 1

-- a recheck
pub record Recheck2 (s : List ℕ) (c : Call) (marks : List ℕ) (a : Answer) (after : List ℕ) : Type 0 where
  pub accepts : (a.number ≡ 0) ↔ Passes (call_rows s c marks ++ bad_rows (remarked s c marks))
  pub place : a.number ≡ 0 → a.place ≡ 0
  pub refuses : (n p : ℕ) → (n ≡ 0 → ⊥) → (a ≡ refuse n p) ↔ Decides (call_rows s c marks ++ bad_rows (remarked s c marks)) n p
  -- where it answers 0 or 31 the marks of the pages met are written anew, and the others are as they were
  pub marks_written : (a.number ≡ 0) ⊎ (a.number ≡ 31) → after ≡ remarked s c marks
  -- whatever it answers, there are as many marks as before, and no mark of a page that its range does not meet is written
  pub marks_long : length after ≡ length marks
  pub unmet_stays : (i : ℕ) → met_by s c i ≡ false → get_or after i 0 ≡ get_or marks i 0
  -- where it answers 0 or 31, the mark of a page met is 0 exactly when that page's lent bytes agree with its slot, else 1
  pub met_written : (a.number ≡ 0) ⊎ (a.number ≡ 31) → (i : ℕ) → met_by s c i ≡ true
      → get_or after i 0 ≡ cond (agrees (slots_of s) i (lent_page s c i)) 0 1

-- the slot that the marks go by is the directory's
abbrev pub CodeSlotsAre : Type 0
CodeSlotsAre = (d : List ℕ) (i : ℕ) → i < n_code_slots d → code_slot d i ≡ slot_at (slots_by d) i

-- an entry of a cache that holds all its entries has the hash of a directory, by 26, exactly when it has its 20 bytes
abbrev pub EntryHash : Type 0
EntryHash = (c : List ℕ) (i : ℕ) (d : List ℕ) → cache_head + entry_size * entry_count c ≤ length c → i < entry_count c → KnownKind (hash_type d)
    → Says true (has_hash c (cdhash d) i) ↔ (hash_at c i ≡ cdhash d)

-- how the rows read in plain words
pub record Plainly : Type 0 where
  -- a test over positions holds with the lowest position at which its condition holds, and one with several numbers with the lowest fault
  pub over_positions : OverPlainly
  pub several_numbers : AmongPlainly
  -- P is 2 to the pageSize field
  pub page_size_known : PagePower
  -- a page agrees with its slot exactly when the slot holds its digest by the slots' kind, and what that is by each kind
  pub agrees_exactly : AgreesExactly
  pub hash_kinds : KindsPlainly
  pub code_slots_are : CodeSlotsAre
  -- hashes are ordered by their bytes, the first byte first, and an entry's is the directory's where the bytes are
  pub hash_order : OrderPlainly
  pub entry_hash : EntryHash
  -- the launch constraints
  pub self_constraint : SelfPlainly
  pub parent_constraint : ParentPlainly

pub record Demand2 : Type 0 where
  pub plainly : Plainly
  pub check : (x : Lent) (marks : List ℕ) (v : Verdict) (after : List ℕ) → Checked x marks v after → Check2 x marks v after
  pub recheck : (s : List ℕ) (c : Call) (marks : List ℕ) (a : Answer) (after : List ℕ) → Rechecked s c marks a after → Recheck2 s c marks a after
