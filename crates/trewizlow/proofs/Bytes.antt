-- The definitions of specs/Interface.antt are those of specs/Shown.antt. A field that is lost or read elsewhere breaks this file. Assumes nothing.
use Prim.Native.Nat.{ℕ, zero, suc, ◌+◌, ◌-◌, ◌^◌, ◌<◌, ◌≤◌}
use mathlib.Core.Bool.{Bool, true, false, cond}
use mathlib.Core.List.{List, [], ◌∷◌}
use mathlib.Core.Logic.{⊎_elim}
use mathlib.Core.Path.{◌≡◌, refl, sym, ap, ap₂, subst, ◌∙◌}
use native.Mathlib.Omega.{arith}
use lib.ListN.{length, take, drop}
use Rattle.endian.specs.Numbers.{big}
use Rattle.refusals.specs.Refusals.{◌≡?◌, holds, pick, accepted, first, Passes}
use Rattle.refusals.proofs.Conditions.{said, pick_yes, pick_no}
use Rattle.refusals.proofs.Positions.{none_fails}
use Rattle.refusals.proofs.Exact.{passes_zero}
use Rattle.refusals.proofs.Numbers.{answer_in}
use Rattle.layout.specs.SuperBlob.{count, type_at, offset_at, blob_length}
use Rattle.layout.specs.CodeDirectory.{directory_type, version, flags, hash_offset, ident_offset, n_special_slots, n_code_slots, code_limit32, hash_size, hash_type, platform, page_size, code_limit64}
use Rattle.geometry.specs.Pages.{page_bytes}
use Rattle.superblob.specs.Rows.{rows, of_type, position, has, present, start_of, blob_at, blob_of, blob_start, blob_end, blob}
use Rattle.superblob.proofs.Numbers.{rows_exact}
use Rattle.superblob.proofs.Formed.{formed, formed_exactly}
use Rattle.superblob.proofs.Lookup.{at_position, has_position, blob_found, lookups}
use Rattle.directory.specs.Pages.{code_limit, P}
use Rattle.directory.specs.Rows.{directory}
use Rattle.cdhash.specs.Hash.{cdhash}
use Rattle.directory.specs.Formed.{DirectoryFormed, SignatureFormed}
use Rattle.directory.proofs.Numbers.{signature_rows_exact}
use Rattle.directory.proofs.Pages.{limit_plainly}
use Rattle.directory.proofs.Formed.{identifier, signature_exactly}
use Rattle.macho.specs.Rows.{command_rows, span_rows, walk_rows}
use Rattle.macho.proofs.Table.{walk_rows_exact}
use Rattle.macho.proofs.Walked.{walks_exactly}
use Rattle.macho.proofs.Parts.{start_is, end_is, start_refused, end_refused}
use Rattle.trewizlow.specs.Interface.{file_signature, blob_part, read_answer, readable, fields_of, no_fields, directory_fields, directory_hash}
use Rattle.trewizlow.specs.Shown.{FileShown, Lies, BlobShown, FieldsShown, NoneShown, DirectoryShown, HashShown}
use Rattle.trewizlow.proofs.Laws.{when_read, when_refused}

-- A FILE

pub file_shown : (f : List ℕ) → FileShown f (file_signature f)
unfolding file_signature walk_rows command_rows span_rows
file_shown f =
    record {
      answer_is = refl;
      number_is = answer_in (36 ∷ 37 ∷ 38 ∷ 39 ∷ 40 ∷ []) (walk_rows f) accepted tt tt;
      accepts = walks_exactly f;
      refuses = (walk_rows_exact f).refuses;
      passed =
          λ w.
          let s = start_is f w in
          let e = end_is f w in
          (s, omega arith);
      refused = λ h. (sym (start_refused f h), ap₂ (λ (e a : ℕ). e - a) (sym (end_refused f h)) (sym (start_refused f h)));
    }

-- A BLOB

starts : (s : List ℕ) (t : ℕ) → Passes (rows 0 s) → position s t < count s → blob_start s t ≡ start_of s t
unfolding blob_start present has
starts s t p h = sym (pick_yes (present s t) (start_of s t) 0 (start_of s t) (passes_zero (rows 0 s) accepted refl p, h) refl)

starts_nowhere : (s : List ℕ) (t : ℕ) → ((first (rows 0 s) accepted).number ≡ 0 → count s ≤ position s t) → blob_start s t ≡ 0
unfolding blob_start present has
starts_nowhere s t h = sym (pick_no (present s t) (start_of s t) 0 0 h refl)

no_position : (s : List ℕ) (t : ℕ) → ((i : ℕ) → i < count s → type_at s i ≡ t → ⊥) → position s t ≡ count s
unfolding position of_type
no_position s t h = none_fails (of_type s t) (count s) h

take_part : (n : ℕ) (l : List ℕ) → take (length (take n l)) l ≡ take n l
take_part zero l = refl
take_part (suc n) [] = refl
take_part (suc n) (x ∷ l) = ap (λ (k : List ℕ). x ∷ k) (take_part n l)

is_part : (s : List ℕ) (t : ℕ) → take (length (blob s t)) (drop (blob_start s t) s) ≡ blob s t
unfolding blob
is_part s t = take_part (blob_end s t - blob_start s t) (drop (blob_start s t) s)

lies : (s : List ℕ) (t : ℕ) → Passes (rows 0 s) → Lies s t (blob_start s t) (length (blob s t))
unfolding count type_at offset_at blob_length
lies s t z =
    let l = lookups s t in
    let f = formed 0 s z in
    record {
      listed =
          λ i h e.
          let o : blob_start s t ≡ offset_at s i = starts s t z (has_position s f i t h e) ∙ ap (offset_at s) (at_position s f i t h e) in
          (o, l.long z i h e ∙ ap (λ (x : ℕ). big 4 s (x + 4)) (sym o));
      missing =
          λ h.
          (starts_nowhere s t (λ e. omega (arith, no_position s t h)), ap length (l.none h));
      is_blob = is_part s t;
    }

pub blob_shown : (s : List ℕ) (t : ℕ) → BlobShown s t (blob_part s t)
unfolding blob_part
blob_shown s t =
    record {
      answer_is = refl;
      passed = λ z. lies s t ((rows_exact 0 s).accepts.0 z);
      refused = λ h. (starts_nowhere s t (λ e. absurd (h e)), ap length ((lookups s t).refused (λ p. h ((rows_exact 0 s).accepts.1 p))));
    }

-- THE DIRECTORY

limit_page : (d : List ℕ) → page_size d ≡ 0 → P d ≡ code_limit d
unfolding P page_bytes pick holds
limit_page d e = rw e

power_page : (d : List ℕ) → DirectoryFormed d → (page_size d ≡ 0 → ⊥) → P d ≡ 2 ^ page_size d
unfolding P page_bytes pick holds
power_page d w n = ⊎_elim (λ e. absurd (n e)) (λ u. ⊎_elim (λ e. rw e) (λ e. rw e) u) w.page_size_known

-- the directory is the blob that the lookup finds, and a part of the signature
part_of : (s : List ℕ) → directory s ≡ take (length (directory s)) (drop (start_of s directory_type) s)
unfolding blob_of blob_at
part_of s = sym (take_part (blob_length s (position s directory_type)) (drop (start_of s directory_type) s))

shown_of : (s : List ℕ) → SignatureFormed 0 s → Passes (rows 0 s) → FieldsShown s (directory s) (fields_of (read_answer s) (start_of s directory_type) (directory s))
unfolding version flags hash_offset ident_offset n_special_slots n_code_slots code_limit32 hash_size hash_type platform page_size code_limit64
shown_of s f p =
    let w = f.formed in
    let i = identifier (directory s) w in
    record {
      lies_at = rw (← starts s directory_type p f.has_directory, ← blob_found s directory_type p f.has_directory) (lies s directory_type p);
      version_is = refl;
      flags_is = refl;
      hash_offset_is = refl;
      ident_offset_is = refl;
      n_special_slots_is = refl;
      n_code_slots_is = refl;
      limit_large = limit_plainly.large (directory s);
      limit_small = limit_plainly.small (directory s);
      hash_size_is = refl;
      hash_type_is = refl;
      platform_is = refl;
      page_size_is = refl;
      whole_limit = limit_page (directory s);
      power_of_two = power_page (directory s) w;
      ident_inside = i.inside;
      ident_ends = i.ends;
      ident_before = i.not_before;
    }

fields_shown : (s : List ℕ) → (read_answer s).number ≡ 0
    → FieldsShown s (take (length (directory s)) (drop (start_of s directory_type) s)) (fields_of (read_answer s) (start_of s directory_type) (directory s))
fields_shown s z =
    let f = (signature_exactly 0 s).0 ((signature_rows_exact 0 s).accepts.0 z) in
    subst (λ (d : List ℕ). FieldsShown s d (fields_of (read_answer s) (start_of s directory_type) (directory s))) (part_of s)
    (shown_of s f ((formed_exactly 0 s).1 (f.superblob, f.short)))

none_shown : (s : List ℕ) → NoneShown (no_fields (read_answer s))
none_shown s =
    record {
      start_is = refl;
      length_is = refl;
      version_is = refl;
      flags_is = refl;
      hash_offset_is = refl;
      ident_offset_is = refl;
      n_special_slots_is = refl;
      n_code_slots_is = refl;
      hash_size_is = refl;
      hash_type_is = refl;
      platform_is = refl;
      page_size_is = refl;
      code_limit_is = refl;
      P-is = refl;
      ident_length_is = refl;
    }

pub directory_shown : (s : List ℕ) → DirectoryShown s (directory_fields s)
unfolding directory_fields
directory_shown s = by_test (readable s) refl
  where
    by_test : (b : Bool) → b ≡ readable s → DirectoryShown s (cond b (fields_of (read_answer s) (start_of s directory_type) (directory s)) (no_fields (read_answer s)))
    by_test true e =
        record { answer_is = refl; passed = fields_shown s; refused = λ n. absurd (n (said true ((read_answer s).number ≡? 0) e)) }
    by_test false e =
        record { answer_is = refl; passed = λ z. absurd (said false ((read_answer s).number ≡? 0) e z); refused = λ n. none_shown s }

-- THE DIRECTORY'S HASH

pub hash_shown : (s : List ℕ) → HashShown s (directory_hash s)
unfolding directory_hash cdhash hash_type
hash_shown s = record { answer_is = refl; passed = λ z. sym (when_read s (read_answer s) refl _ _ z); refused = λ n. sym (when_refused s (read_answer s) refl _ _ n) }
