-- What the exported functions that read a file or a signature answer, each by its struct's fields, those of a signature in the order of
-- include/trewizlow.h. `f` is the lent file, `s` the lent signature.
use Rattle.std.specs.Prelude.{ℕ, ◌-◌, Bool, cond, List, length, replicate}
use Rattle.refusals.specs.declared.Answer.{Answer}
use Rattle.refusals.specs.Refusals.{◌≡?◌, holds, accepted, first}
use Rattle.layout.specs.CodeDirectory.{directory_type, version, flags, hash_offset, ident_offset, n_special_slots, n_code_slots, hash_size, hash_type, platform, page_size}
use Rattle.layout.specs.TrustCache.{cdhash_length}
use Rattle.superblob.specs.Rows.{rows, start_of, blob_start, blob}
use Rattle.directory.specs.Pages.{code_limit, P}
use Rattle.directory.specs.Rows.{directory, ident_length, signature_rows}
use Rattle.cdhash.specs.Hash.{cdhash}
use Rattle.macho.specs.Rows.{walk_rows, signature_start, signature_end}
use Rattle.trewizlow.specs.declared.FileSignature.{FileSignature}
use Rattle.trewizlow.specs.declared.BlobPart.{BlobPart}
use Rattle.trewizlow.specs.declared.DirectoryFields.{DirectoryFields}
use Rattle.trewizlow.specs.declared.DirectoryHash.{DirectoryHash}

-- A FILE: the answer of tests 36 to 40, and where its signature lies; 0 and 0 where one of them refuses

unfoldable pub file_signature : List ℕ → FileSignature
file_signature f =
    record {
      number = (first (walk_rows f) accepted).number;
      place = (first (walk_rows f) accepted).place;
      start = signature_start f;
      length = signature_end f - signature_start f;
    }

-- A LOOKUP: the answer of tests 1 to 9, and where the blob of type t lies; 0 and 0 where there is none

unfoldable pub blob_part : List ℕ → ℕ → BlobPart
blob_part s t =
    record {
      number = (first (rows 0 s) accepted).number;
      place = (first (rows 0 s) accepted).place;
      start = blob_start s t;
      length = length (blob s t);
    }

-- THE DIRECTORY

-- the answer of tests 1 to 18
abbrev pub read_answer : List ℕ → Answer
read_answer s = first (signature_rows 0 s) accepted

-- these pass
abbrev pub readable : List ℕ → Bool
readable s = holds ((read_answer s).number ≡? 0)

-- the fields of the directory whose blob is d and starts at `at`, with the answer a
abbrev pub fields_of : Answer → ℕ → List ℕ → DirectoryFields
fields_of a at d =
    record {
      number = a.number;
      place = a.place;
      start = at;
      length = length d;
      version = version d;
      flags = flags d;
      hash_offset = hash_offset d;
      ident_offset = ident_offset d;
      special_slots = n_special_slots d;
      code_slots = n_code_slots d;
      hash_size = hash_size d;
      hash_type = hash_type d;
      platform = platform d;
      page_shift = page_size d;
      code_limit = code_limit d;
      page_size = P d;
      ident_length = ident_length d;
    }

-- a refusal: every field is 0
abbrev pub no_fields : Answer → DirectoryFields
no_fields a =
    record {
      number = a.number;
      place = a.place;
      start = 0;
      length = 0;
      version = 0;
      flags = 0;
      hash_offset = 0;
      ident_offset = 0;
      special_slots = 0;
      code_slots = 0;
      hash_size = 0;
      hash_type = 0;
      platform = 0;
      page_shift = 0;
      code_limit = 0;
      page_size = 0;
      ident_length = 0;
    }

-- the fields of the signature's directory where tests 1 to 18 pass
unfoldable pub directory_fields : List ℕ → DirectoryFields
directory_fields s = cond (readable s) (fields_of (read_answer s) (start_of s directory_type) (directory s)) (no_fields (read_answer s))

-- THE DIRECTORY'S HASH

abbrev pub hash_with : Answer → List ℕ → DirectoryHash
hash_with a h = record { number = a.number; place = a.place; hash = h }

-- the digest cut to 20 bytes where tests 1 to 18 pass, else zeros
unfoldable pub directory_hash : List ℕ → DirectoryHash
directory_hash s = hash_with (read_answer s) (cond (readable s) (cdhash (directory s)) (replicate cdhash_length 0))
